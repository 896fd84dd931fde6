-- Every node of a cluster is there in every world that events come to, and in each that one of these backs.
use Rattle.std.proofs.Common.{◌≡◌, ◌∙◌, ℕ, zero, suc, ◌+◌, ◌<◌, if◌then◌else◌, List, [], ◌∷◌, Option, Some, None}
use Rattle.std.proofs.Common.{length, refl, sym, ap, arith, nat_lt}
use Rattle.std.specs.Prelude.{replicate, slice_get}
use Rattle.std.specs.List.{slice_set}
use Rattle.std.specs.Option.{option_and_then, option_map_or}
use Rattle.std.proofs.lemmas.Bool.{cond_both, cond-true, lt-ltb}
use Rattle.wire.specs.Decoding.{spells_message}
use Rattle.wire.specs.Grammar.{spelling}
use Rattle.xid.specs.declared.refusals.Refusal.TheVariants.{NoSuch, Forged, Down}
use Rattle.safety.specs.Vocabulary.{NodeId, A, L, R, Done, Refused, Event, Deliver, Lose, Cut, Noise, Tear, Restart, Compact, Ask}
use Rattle.safety.specs.Runs.{IsReachable, Opening, After}
use Rattle.protocol.specs.Effects.{Config}
use Rattle.protocol.specs.Nodes.{NodeState, new_node, Input, Asked, Received, ReceivedNoise, Fault}
use Rattle.protocol.specs.Nodes.{NoMemoryBefore, node_step, restart_outcome, compact_outcome}
use Rattle.protocol.specs.Worlds.{World, StepResult, place, node_at, set_node, answer_result, outcome_result, if_found, at_node}
use Rattle.protocol.specs.Worlds.{datagram_at, with_mark, dispatch, world_step}
use Rattle.progress.proofs.Backed.{IsBacked}

set_length : {X : Type 0} (xs : List X) (p : ℕ) (x : X) → length (slice_set xs p x) ≡ length xs
set_length [] p x = refl
set_length (y ∷ xs) zero x = refl
set_length (y ∷ xs) (suc p) x = ap suc (set_length xs p x)

put_length : (nodes : List NodeState) (node : NodeState) (o : Option ℕ)
    → length (option_map_or (λ at. slice_set nodes at node) o nodes) ≡ length nodes
put_length nodes node None = refl
put_length nodes node (Some p) = set_length nodes p node

module _ (config : Config) (world : World) where
  -- as many nodes as before
  abbrev IsSameCount : StepResult → Type 0
  IsSameCount result = length result.world.nodes ≡ length world.nodes

  found_count : {X : Type 0} (marked : World) (f : X → StepResult) (o : Option X) → length marked.nodes ≡ length world.nodes
      → ((x : X) → IsSameCount (f x)) → IsSameCount (if_found marked f o)
  found_count marked f None same each = same
  found_count marked f (Some x) same each = each x

  node_count : (marked : World) → length marked.nodes ≡ length world.nodes → (who : NodeId) (node : NodeState)
      → length (set_node config marked who node).nodes ≡ length world.nodes
  node_count marked same who node = put_length marked.nodes node (place config who) ∙ same

  handed_count : (marked : World) → length marked.nodes ≡ length world.nodes → (who : NodeId) (input : Input) (fault : Fault)
      → IsSameCount (at_node config marked who input fault)
  handed_count marked same who input fault =
      found_count marked (λ node. outcome_result config marked who node.facts (node_step config who node input fault))
      (node_at config marked who) same (λ node. node_count marked same who (node_step config who node input fault).node)

  dispatch_count : (event : Event) (fault : Fault) → IsSameCount (dispatch config world event fault)
  dispatch_count (Ask who request) fault = handed_count world refl who (Asked request) fault
  dispatch_count (Deliver n) fault =
      found_count world (λ d. at_node config (with_mark world n) d.receiver (Received d.message) fault) (datagram_at world.net n) refl
      (λ d. handed_count (with_mark world n) refl d.receiver (Received d.message) fault)
  dispatch_count (Lose n) fault =
      found_count world (λ d. answer_result (with_mark world n) Done) (datagram_at world.net n) refl (λ d. refl)
  dispatch_count (Cut n k) fault =
      found_count world (λ d. if nat_lt k (length (spelling d.message)) then at_node config world d.receiver ReceivedNoise fault
      else answer_result world (Refused NoSuch)) (datagram_at world.net n) refl
      (λ d. cond_both (nat_lt k (length (spelling d.message))) (at_node config world d.receiver ReceivedNoise fault)
      (answer_result world (Refused NoSuch)) IsSameCount (λ fewer. handed_count world refl d.receiver ReceivedNoise fault) (λ all. refl))
  dispatch_count (Noise who bytes) fault =
      cond_both (spells_message bytes) (if_found world (λ node. answer_result world (Refused Forged)) (node_at config world who))
      (at_node config world who ReceivedNoise fault) IsSameCount
      (λ spelled. found_count world (λ node. answer_result world (Refused Forged)) (node_at config world who) refl (λ node. refl))
      (λ garbled. handed_count world refl who ReceivedNoise fault)
  dispatch_count (Tear who n) fault =
      found_count world (λ node. answer_result (set_node config world who (record node { tear = Some n })) Done) (node_at config world who)
      refl (λ node. node_count world refl who (record node { tear = Some n }))
  dispatch_count (Restart who) fault =
      found_count world (λ node. outcome_result config world who node.facts (restart_outcome config who node fault))
      (node_at config world who) refl (λ node. node_count world refl who (restart_outcome config who node fault).node)
  dispatch_count (Compact who) fault =
      found_count world (λ node.
      if node.up then outcome_result config world who node.facts (compact_outcome node fault) else answer_result world (Refused Down))
      (node_at config world who) refl
      (λ node. cond_both node.up (outcome_result config world who node.facts (compact_outcome node fault))
      (answer_result world (Refused Down)) IsSameCount
      (λ up. node_count world refl who (compact_outcome node fault).node) (λ down. refl))
  dispatch_count event fault = refl

  step_count : (event : Event) (fault : Fault) → IsSameCount (world_step config world event fault)
  step_count event NoMemoryBefore = refl
  step_count event fault = dispatch_count event fault

replicate_length : {X : Type 0} (n : ℕ) (x : X) → length (replicate n x) ≡ n
replicate_length zero x = refl
replicate_length (suc n) x = ap suc (replicate_length n x)

count_ever : (config : Config) (world : World) → IsReachable config world
    → length world.nodes ≡ config.acceptors + config.leaders + config.managers
count_ever config world Opening = replicate_length (config.acceptors + config.leaders + config.managers) new_node
count_ever config world (After before event fault reach) = step_count config before event fault ∙ count_ever config before reach

got : {X : Type 0} (xs : List X) (p : ℕ) → p < length xs → (x : X) × (slice_get xs p ≡ Some x)
got [] p lt = absurd (omega arith)
got (x ∷ xs) zero lt = (x, refl)
got (x ∷ xs) (suc p) lt = got xs p (omega arith)

module _ (config : Config) (world : World) (b : IsBacked config world) where
  count : length world.nodes ≡ config.acceptors + config.leaders + config.managers
  count = sym (ap (λ (nodes : List NodeState). length nodes) b.nodes_are) ∙ count_ever config b.machine b.reach

  there : (who : NodeId) (p : ℕ) → place config who ≡ Some p → p < config.acceptors + config.leaders + config.managers
      → (node : NodeState) × (node_at config world who ≡ Some node)
  there who p at lt =
      let one = got world.nodes p (omega (arith, lt, count)) in
      (one.0, ap (λ (o : Option ℕ). option_and_then (λ at. slice_get world.nodes at) o) at ∙ one.1)

  -- an acceptor, a leader and a resource manager of the cluster
  pub acceptor_there : (a : ℕ) → a < config.acceptors → (node : NodeState) × (node_at config world (A a) ≡ Some node)
  acceptor_there a lt = there (A a) a (cond-true (nat_lt a config.acceptors) (Some a) None (lt-ltb a config.acceptors lt)) (omega arith)

  pub leader_there : (l : ℕ) → l < config.leaders → (node : NodeState) × (node_at config world (L l) ≡ Some node)
  leader_there l lt = there (L l) (config.acceptors + l)
      (cond-true (nat_lt l config.leaders) (Some (config.acceptors + l)) None (lt-ltb l config.leaders lt)) (omega arith)

  pub manager_there : (rm : ℕ) → rm < config.managers → (node : NodeState) × (node_at config world (R rm) ≡ Some node)
  manager_there rm lt = there (R rm) (config.acceptors + config.leaders + rm)
      (cond-true (nat_lt rm config.managers) (Some (config.acceptors + config.leaders + rm)) None (lt-ltb rm config.managers lt))
      (omega arith)
