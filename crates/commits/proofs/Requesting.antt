-- A client's request has the leader ask for votes: idle branches are prepared, and the transaction can commit.
use Rattle.std.proofs.Common.{◌≡◌, ◌⊎◌, inl, inr, ◌∙◌, ℕ, ◌<◌, ◌≤◌, ◌*◌, Bool, true, false, IsTrue, not, if◌then◌else◌, List, [], ◌∷◌}
use Rattle.std.proofs.Common.{Option, Some, None, refl, sym, ap, subst, arith}
use Rattle.std.proofs.lemmas.Bool.{cond-true, ltb-true}
use Rattle.xid.specs.Transactions.{TxParts, participants, is_participant}
use Rattle.xid.specs.declared.refusals.Refusal.TheVariants.{BadTx}
use Rattle.xid.specs.declared.transaction.Vote.TheVariants as votes
use Rattle.xid.specs.declared.transaction.Vote.TheVariants.{Prepared}
use Rattle.wire.specs.declared.message.Kind.{Kind}
use Rattle.wire.specs.declared.message.Kind.TheVariants.{Prepare}
use Rattle.stable_record.specs.declared.fact.FactKind.TheVariants as stored
use Rattle.ballot.specs.Greatest.{IsIn}
use Rattle.ballot.specs.Majority.{is_majority, count}
use Rattle.ballot.proofs.Greatest.{at_most_greatest}
use Rattle.ballot.proofs.Majorities.{majorities_meet}
use Rattle.protocol.specs.Basics.{Fact}
use Rattle.safety.specs.Vocabulary.{NodeId, A, L, R, Outgoing, Ask, Managers, Refused, Status, Request, Stands as answers}
use Rattle.safety.specs.Items.{Item, Accepted, Voted, P2a, IsDecided}
use Rattle.safety.specs.Invariant.{Invariant}
use Rattle.safety.specs.Standing.{Stands, setting, facts_at, facts_of, sent_in}
use Rattle.safety.proofs.Facts.{participates}
use Rattle.safety.proofs.Argument.Agreement.{decided_was_proposed, prepared_was_voted}
use Rattle.safety.proofs.Argument.Preservation.{IsDecided-kept}
use Rattle.safety.proofs.Leader.Heard.{committed_is, aborted_is}
use Rattle.safety.proofs.World.Reachable.{invariant, leader_memory}
use Rattle.protocol.specs.declared.requests.Request.TheVariants as requests
use Rattle.protocol.specs.declared.states.Status.TheVariants as statuses
use Rattle.protocol.specs.Effects.{Config, Effect, is_inside, status_standing, answer_only, to}
use Rattle.protocol.specs.Facts.{slot, last_ballot, ballot_joined, HasVote}
use Rattle.protocol.specs.LeaderMemory.{LeaderMemory, with_met, status_of}
use Rattle.protocol.specs.Leaders.{is_final, outcome_messages, on_commit_call}
use Rattle.protocol.specs.Nodes.{NodeState, NoFault, Outcome, Asked, node_step, of_leader, down_answer, answer_outcome}
use Rattle.protocol.specs.Nodes.{effect_outcome, finished_append}
use Rattle.protocol.specs.Worlds.{World, node_at, world_step}
use Rattle.protocol.proofs.Lists.{IsIn-after, IsIn-map}
use Rattle.protocol.proofs.Same.{instance_eq-same}
use Rattle.progress.specs.Runs.{Leads}
use Rattle.progress.specs.Outcomes.{HasBallots}
use Rattle.progress.proofs.Mail.{Letter, mail, letters, letter_among}
use Rattle.progress.proofs.Backed.{IsBacked, backing_node, backing_facts}
use Rattle.progress.proofs.Lasting.{stands_if_sent}
use Rattle.progress.proofs.Steps.{IsMoved, handed, asked_there}
use Rattle.progress.proofs.Telling.{met_heard}
use Rattle.progress.proofs.Leading.{leads_on}
use Rattle.commits.specs.Idle.{IsUp, HasIdleBranch, after_request}
use Rattle.commits.specs.Votes.{IsAtFirst}
use Rattle.commits.proofs.Sending.{IsVoted}
use Rattle.commits.proofs.Committing.{all, Answers, Ended, answered_from, ended_from}
use Rattle.commits.proofs.Preparing.{AreAskedToPrepare, AllPrepared, prepare_all, no_fact, unspent_name}

-- ---- the request

module _ (config : Config) (world : World) (who : NodeId) (node : NodeState) (is : node_at config world who ≡ Some node)
    (request : Request) where
  abbrev pub outcome : Outcome
  outcome = node_step config who node (Asked request) NoFault

  abbrev pub after : World
  after = (world_step config world (Ask who request) NoFault).world

  -- a request at a node
  pub asked_moved : IsMoved config world after who outcome.node outcome.sends
  asked_moved = handed config world who node is world.net refl (Asked request) (asked_there config world who node is request) after refl

module _ (config : Config) (tx : TxParts) (l : ℕ) (q : ℕ → Bool) (few : l < config.leaders) (inside : is_inside config tx ≡ true)
    (majority : is_majority config.acceptors q ≡ true) (world : World) (reach : IsBacked config world)
    (ballots : HasBallots config world l q tx) (at_first : IsAtFirst config q tx world)
    (idle : (r : ℕ) → IsTrue (is_participant tx r) → HasIdleBranch config world tx r) (leader : IsUp config world (L l)) where
  abbrev node : NodeState
  node = leader.node

  abbrev known : LeaderMemory
  known = with_met tx node.memory.leader

  abbrev status : Status
  status = status_of config.acceptors (last_ballot node.facts) known tx

  abbrev told : List Outgoing
  told = if is_final status then outcome_messages status tx Managers else to Managers (Prepare tx) ∷ []

  abbrev effect : Effect LeaderMemory
  effect = record { answer = answers (status_standing status); fact = None; sends = told; memory = known }

  abbrev left : Outcome
  left = finished_append node (of_leader node.memory effect) node.facts

  abbrev asked : World
  asked = after_request config world l tx

  moved : IsMoved config world asked (L l) left.node left.sends
  moved =
      let e = on_commit_call config (last_ballot node.facts) node.memory.leader tx in
      let rule : e ≡ effect = cond-true (is_inside config tx) effect (answer_only node.memory.leader (Refused BadTx)) inside in
      subst (λ (o : Outcome). IsMoved config world asked (L l) o.node o.sends)
      (ap (λ (up : Bool). if not up then answer_outcome node (down_answer (Asked (requests.Commit tx)))
      else effect_outcome node (of_leader node.memory e) e.fact node.tear NoFault) leader.up
      ∙ ap (λ (x : Effect LeaderMemory). effect_outcome node (of_leader node.memory x) x.fact node.tear NoFault) rule)
      (asked_moved config world (L l) node leader.is (requests.Commit tx))

  asked_reach : IsBacked config asked
  asked_reach = moved.reach reach

  asked_acceptor : (a : ℕ) → node_at config asked (A a) ≡ node_at config world (A a)
  asked_acceptor a = moved.others (A a) (λ e. absurd (cc (e)))

  asked_manager : (r : ℕ) → node_at config asked (R r) ≡ node_at config world (R r)
  asked_manager r = moved.others (R r) (λ e. absurd (cc (e)))

  asked_leader : facts_at config asked (L l) ≡ facts_at config world (L l)
  asked_leader = ap facts_of moved.here ∙ sym (ap facts_of leader.is)

  asked_first : IsAtFirst config q tx asked
  asked_first a i is named =
      ap (λ (o : Option NodeState). (slot (facts_of o) tx i).mbal) (asked_acceptor a) ∙ at_first a i is named

  asked_ballots : HasBallots config asked l q tx
  asked_ballots = record {
    most = ballots.most;
    stored = subst (λ (fs : List _). last_ballot fs tx ≤ ballots.most) (sym asked_leader) ballots.stored;
    promised = λ a i is named. subst (λ (o : Option NodeState). (slot (facts_of o) tx i).mbal ≤ ballots.most) (sym (asked_acceptor a))
        (ballots.promised a i is named);
    left = ballots.left;
  }

  -- ---- the leader doesn't know an outcome

  abbrev machine : World
  machine = reach.machine

  abbrev Has : Item TxParts → Type 0
  Has = Stands config machine

  abbrev inv : Invariant (setting config) Has
  inv = invariant config machine reach.reach

  -- nothing aborted is decided
  no_abort : (r : ℕ) → IsTrue (is_participant tx r) → IsDecided config.acceptors Has tx r votes.Aborted → ⊥
  no_abort r named decided =
      let b = decided.0 in
      let m = majorities_meet config.acceptors decided.1.members q decided.1.majority
      (ltb-true config.acceptors (2 * count config.acceptors q) majority) in
      let accepted : Has (Accepted m.member tx r b votes.Aborted) =
      inv.told_accepted (decided.1.accepted m.member m.below m.of_first) in
      let facts = facts_at config machine (A m.member) in
      let low : b ≤ (slot facts tx r).mbal =
      at_most_greatest (ballot_joined tx r) facts (stored.Accept tx r b votes.Aborted) b accepted
      (ap (λ (t : Bool). if t then Some b else None) (instance_eq-same tx r)) in
      let zero_there : (slot facts tx r).mbal ≡ 0 =
      ap (λ (fs : List Fact). (slot fs tx r).mbal) (backing_facts config world reach (A m.member))
      ∙ at_first m.member r m.of_second named in
      let none : b ≡ 0 = omega (arith, low, zero_there) in
      let voted : Has (Voted r tx votes.Aborted) =
      inv.first_is_vote (subst (λ (c : ℕ). Has (P2a tx r c votes.Aborted)) none (inv.accept_sent accepted)) in
      let has = idle r named in
      no_fact tx r has.facts has.name has.named (unspent_name config world reach tx r has) (stored.VoteAborted tx)
      (subst (λ (o : Option NodeState). IsIn (facts_of o) (stored.VoteAborted tx)) (backing_node config world reach (R r) ∙ has.up) voted)
      refl

  was_sent : (m : Kind) → IsIn known.heard m → IsIn (sent_in machine) m
  was_sent m h = (leader_memory config machine reach.reach l node (backing_node config world reach (L l) ∙ leader.is)).heard m
      (subst (λ (ms : List Kind). IsIn ms m) (met_heard tx node.memory.leader) h)

  not_aborted : status ≡ statuses.Aborted → ⊥
  not_aborted e =
      let found = aborted_is config.acceptors (last_ballot node.facts) known tx (IsIn (sent_in machine)) was_sent e in
      no_abort found.0 found.1 (IsDecided-kept (stands_if_sent config machine) found.2)

  -- were it committed, each would have voted
  all_voted : status ≡ statuses.Committed → (r : ℕ) → IsTrue (is_participant tx r) → HasVote (facts_at config world (R r)) tx Prepared
  all_voted e r named =
      let decided = IsDecided-kept (stands_if_sent config machine)
      (committed_is config.acceptors (last_ballot node.facts) known tx (IsIn (sent_in machine)) was_sent e r named) in
      subst (λ (o : Option NodeState). HasVote (facts_of o) tx Prepared) (backing_node config world reach (R r))
      (prepared_was_voted (setting config) Has inv {tx = tx} {i = r} {b = decided.0}
      (decided_was_proposed (setting config) Has inv {tx = tx} {i = r} {b = decided.0} {v = Prepared} decided.1))

  -- ---- the votes

  abbrev part : NodeId → Bool
  part = all config tx l q few inside majority

  abbrev Answered : World → Type 0
  Answered = Answers config tx l q few inside majority

  answers_on : (later : World) → IsVoted config tx l asked later → Leads config part tx Answered later
  answers_on = answered_from config tx l q few inside majority asked asked_ballots asked_first

  by_votes : status ≡ statuses.Committed → Leads config part tx Answered asked
  by_votes e = answers_on asked (record {
    reach = asked_reach;
    voted = λ r named. subst (λ (o : Option NodeState). HasVote (facts_of o) tx Prepared) (sym (asked_manager r))
        (all_voted e r (participates tx r named));
    acceptors = λ a. refl;
    leader = refl;
  })

  prepare_posted : is_final status ≡ false → (r : ℕ) → IsIn (participants tx) r
      → IsIn (mail asked.net) (record { receiver = R r; message = Prepare tx })
  prepare_posted undecided r named =
      let sends : List Outgoing = to Managers (Prepare tx) ∷ [] in
      let same : told ≡ sends = ap (λ (t : Bool). if t then outcome_messages status tx Managers else sends) undecided in
      subst (λ (post : List Letter). IsIn post (record { receiver = R r; message = Prepare tx })) (sym moved.posted)
      (IsIn-after (mail world.net) (letters config told) (record { receiver = R r; message = Prepare tx })
      (subst (λ (out : List Outgoing). IsIn (letters config out) (record { receiver = R r; message = Prepare tx })) (sym same)
      (letter_among config sends (to Managers (Prepare tx)) (R r) (inl refl) (IsIn-map {Y = NodeId} R (participants tx) r named))))

  by_branches : is_final status ≡ false → Leads config part tx Answered asked
  by_branches undecided =
      let state : AreAskedToPrepare config tx l asked asked = record {
        reach = asked_reach;
        posted = prepare_posted undecided;
        each = λ r named. let has = idle r (participates tx r named) in inr (record {
          facts = has.facts;
          memory = has.memory;
          up = asked_manager r ∙ has.up;
          name = has.name;
          named = has.named;
          keys = has.keys;
          idle = has.idle;
        });
        acceptors = λ a. refl;
        leader = refl;
      } in
      let takes : (r : ℕ) → IsIn (participants tx) r → part (R r) ≡ true = λ r named. participates tx r named in
      let run = prepare_all config tx l inside part takes asked asked state in
      leads_on config part tx (λ later. ⊥ ⊎ AllPrepared config tx l inside part takes asked later) Answered
      (λ later h. elim h [
        | inl never ↦ absurd never
        | inr prepared ↦ answers_on later (record {
          reach = prepared.0.reach;
          voted = prepared.1;
          acceptors = prepared.0.acceptors;
          leader = prepared.0.leader;
        })
      ]) asked run.events run.at run.holds

  by_status : (s : Status) → status ≡ s → Leads config part tx Answered asked
  by_status statuses.Committed e = by_votes e
  by_status statuses.Aborted e = absurd (not_aborted e)
  by_status statuses.Undecided e = by_branches (ap is_final e)
  by_status statuses.Unknown e = by_branches (ap is_final e)

  pub request_answered : Leads config part tx Answered asked
  request_answered = by_status status refl

  pub request_committed : Leads config part tx (Ended config tx l q few inside majority) asked
  request_committed = ended_from config tx l q few inside majority asked asked_reach request_answered
