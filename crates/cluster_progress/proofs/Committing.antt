-- A transaction that no node which takes part has forgotten can commit in a world with floors.
use Rattle.std.proofs.Common.{◌≡◌, ◌∙◌, ℕ, ◌<◌, Bool, true, List, refl, sym, ap, IsTrue}
use Rattle.std.specs.Prelude.{slice_get}
use Rattle.std.specs.Option.{option_and_then}
use Rattle.std.proofs.lemmas.Bool.{eq-eqb}
use Rattle.xid.specs.Transactions.{TxParts, is_participant}
use Rattle.ballot.specs.Majority.{is_majority}
use Rattle.protocol.specs.declared.requests.Request.TheVariants as requests
use Rattle.safety.specs.Vocabulary.{NodeId, L, R}
use Rattle.safety.specs.CommitSteps.{committed}
use Rattle.safety.specs.Standing.{facts_of}
use Rattle.protocol.specs.Effects.{Config, is_inside}
use Rattle.protocol.specs.Facts.{view}
use Rattle.protocol.specs.Nodes.{Asked, NodeState}
use Rattle.protocol.specs.Worlds.{World, place}
use Rattle.progress.specs.Runs.{leader_quorum_and_participants}
use Rattle.progress.specs.Outcomes.{HasBallots, HaveEnded}
use Rattle.commits.specs.Idle.{HasIdleBranch, IsUp, after_request}
use Rattle.commits.specs.Votes.{HaveVoted, IsAtFirst}
use Rattle.commits.proofs.Committing.{votes_committed}
use Rattle.commits.proofs.Requesting.{request_committed}
use Rattle.floors.specs.Worlds.{FlooredWorld}
use Rattle.floors.specs.Runs.{IsFlooredReachable, LeadsFloored}
use Rattle.floors.proofs.Following.{are_runs}
use Rattle.floors.proofs.Leading.{IsBeside, input_beside, leads_beside, leads_floored, narrowed, narrowed_backed, narrowed_beside}
use Rattle.cluster_progress.specs.Handing.{NoneForgets, after_asked}

module _ (config : Config) (tx : TxParts) (l : ℕ) (q : ℕ → Bool) (few : l < config.leaders) (inside : is_inside config tx ≡ true)
    (majority : is_majority config.acceptors q ≡ true) (world : FlooredWorld) (reach : IsFlooredReachable config world)
    (none : NoneForgets world (leader_quorum_and_participants l q tx) tx) (ballots : HasBallots config world.machine l q tx)
    (at_first : IsAtFirst config q tx world.machine) where
  abbrev part : NodeId → Bool
  part = leader_quorum_and_participants l q tx

  -- what of the world was sent on the transaction: it has the same nodes
  abbrev narrow : World
  narrow = narrowed config tx part world.machine

  ballots_there : HasBallots config narrow l q tx
  ballots_there = record { most = ballots.most; stored = ballots.stored; promised = ballots.promised; left = ballots.left }

  ended_after : (after : World) (floored : FlooredWorld) → after.nodes ≡ floored.machine.nodes → HaveEnded config tx committed after
      → HaveEnded config tx committed floored.machine
  ended_after after floored nodes ended r named =
      ap (λ (states : List NodeState). view (facts_of (option_and_then (λ at. slice_get states at) (place config (R r)))) tx) (sym nodes)
      ∙ ended r named

  pub voted_committed : HaveVoted config tx world.machine
      → LeadsFloored config part tx (λ after. HaveEnded config tx committed after.machine) world
  voted_committed voted =
      leads_floored config tx part (λ after. HaveEnded config tx committed after.machine) world (HaveEnded config tx committed)
      (λ after floored nodes floors. ended_after after floored nodes) none
      (votes_committed config tx l q few inside majority narrow (narrowed_backed config tx part world.machine (are_runs config world reach))
      ballots_there at_first voted)

  takes_leader : part (L l) ≡ true
  takes_leader = eq-eqb l l refl

  -- the request comes to the same beside it
  asked_beside : IsBeside config tx (after_request config narrow l tx) (after_asked config world l tx).machine
  asked_beside =
      input_beside config tx narrow world.machine (narrowed_beside config tx part world.machine) (world.floor (L l)) (L l)
      (Asked (requests.Commit tx)) (none (L l) takes_leader) (λ t on. sym on)

  pub asked_committed : ((r : ℕ) → IsTrue (is_participant tx r) → HasIdleBranch config world.machine tx r)
      → IsUp config world.machine (L l)
      → LeadsFloored config part tx (λ after. HaveEnded config tx committed after.machine) (after_asked config world l tx)
  asked_committed idle leader =
      leads_beside config tx part (λ after. HaveEnded config tx committed after.machine) (after_asked config world l tx)
      (HaveEnded config tx committed) (after_request config narrow l tx) asked_beside
      (λ after floored nodes floors. ended_after after floored nodes) none
      (request_committed config tx l q few inside majority narrow
      (narrowed_backed config tx part world.machine (are_runs config world reach)) ballots_there at_first
      (λ r named. let has = idle r named in record {
        facts = has.facts;
        memory = has.memory;
        up = has.up;
        name = has.name;
        named = has.named;
        keys = has.keys;
        idle = has.idle;
      }) (record { node = leader.node; is = leader.is; up = leader.up }))
