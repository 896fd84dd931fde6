-- What a leader answers where its status is asked for.
-- Needed by `heard_is_what_came`.
use Rattle.std.proofs.Common.{◌≡◌, ◌<◌, ◌∙◌, ℕ, true, not, if◌then◌else◌, List, Option, Some, None, refl, ap}
use Rattle.std.proofs.lemmas.Bool.{cond_both, both_ways, not-true}
use Rattle.xid.specs.Transactions.{TxParts}
use Rattle.xid.specs.declared.refusals.Refusal.TheVariants.{BadTx}
use Rattle.safety.specs.Vocabulary.{L, Ask, Request, Status, Stands, Refused, Step}
use Rattle.protocol.specs.Effects.{Config, Effect, is_inside, status_standing}
use Rattle.protocol.specs.Facts.{last_ballot}
use Rattle.protocol.specs.Nodes.{Memory, NodeState, Asked, Fault, NoFault, NoMemoryBefore, NoMemoryAt, RecordFails, effect_of}
use Rattle.protocol.specs.Nodes.{effect_outcome, Outcome, node_step}
use Rattle.protocol.specs.Worlds.{World, node_at, if_found, outcome_result, at_node, world_step}
use Rattle.history.specs.Answers.{IsAmple}
use Rattle.history.specs.LeaderBack.{status_answer}
use Rattle.history.proofs.Runs.{IsRun}
use Rattle.history.proofs.LeaderRuns.{leader_back, status_looked}

module _ (config : Config) (world : World) (before : List Step) (l : ℕ) (some : 0 < config.acceptors) (run : IsRun config world before)
    (node : NodeState) (stands : node_at config world (L l) ≡ Some node) (up : node.up ≡ true) (tx : TxParts) where
  abbrev asked : Effect Memory
  asked = effect_of config (L l) node.facts node.memory (Asked (Request.Status tx))

  settles : (fault : Fault) → IsAmple fault → (effect_outcome node asked None node.tear fault).answer ≡ asked.answer
  settles NoFault ample = refl
  settles (RecordFails whole) ample = refl
  settles NoMemoryBefore ample = absurd ample
  settles NoMemoryAt ample = absurd ample

  ruled : asked.answer ≡ status_answer config (last_ballot node.facts) l before tx
  ruled = ap (λ (status : Status). if is_inside config tx then Stands (status_standing status) else Refused BadTx)
      (status_looked config l node.memory.leader before (last_ballot node.facts) tx
      (leader_back config world before l some run node stands up))

  stepped : (fault : Fault) → IsAmple fault → (node_step config (L l) node (Asked (Request.Status tx)) fault).answer
      ≡ status_answer config (last_ballot node.facts) l before tx
  stepped fault ample = cond_both (not node.up) _ _
      (λ (left : Outcome). left.answer ≡ status_answer config (last_ballot node.facts) l before tx)
      (λ down. absurd (both_ways node.up (not-true node.up down) up)) (λ stays. settles fault ample ∙ ruled)

  found : (fault : Fault) → IsAmple fault → (at_node config world (L l) (Asked (Request.Status tx)) fault).answer
      ≡ status_answer config (last_ballot node.facts) l before tx
  found fault ample =
      ap (λ (o : Option NodeState). (if_found world
      (λ n. outcome_result config world (L l) n.facts (node_step config (L l) n (Asked (Request.Status tx)) fault)) o).answer) stands
      ∙ stepped fault ample

  pub status_answered : (fault : Fault) → IsAmple fault → (world_step config world (Ask (L l) (Request.Status tx)) fault).answer
      ≡ status_answer config (last_ballot node.facts) l before tx
  status_answered NoMemoryBefore ample = absurd ample
  status_answered NoMemoryAt ample = absurd ample
  status_answered NoFault ample = found NoFault ample
  status_answered (RecordFails whole) ample = found (RecordFails whole) ample
