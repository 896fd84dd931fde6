-- Events one after another are events of a world with floors one after another; and what befalls records that don't fail of themselves.
-- Needed by `firm_records_hold` and `runs_follow_the_machine`; crates cluster_progress, cluster_answers and cluster_run.
use Rattle.std.proofs.Common.{◌≡◌, ◌∙◌, ℕ, ◌<◌, Bool, true, false, List, [], ◌∷◌, length, get_or, Option, Some, None}
use Rattle.std.proofs.Common.{refl, sym, subst, arith}
use Rattle.std.specs.Prelude.{slice_get}
use Rattle.std.specs.List.{All, AllZip}
use Rattle.std.specs.Option.{option_and_then}
use Rattle.std.proofs.lemmas.List.Elements.{All-cons, All-head, All-tail, AllZip-get_or, length_all_zip}
use Rattle.stable_record.specs.declared.fact.FactKind.{FactKind as Fact}
use Rattle.stable_record.specs.Held.{Held, IsStoppedAt}
use Rattle.protocol.specs.declared.events.Event.{Event}
use Rattle.protocol.specs.declared.events.Event.TheVariants.{Tear, Restart, Compact, Raise, Hear, Replace}
use Rattle.protocol.specs.declared.events.Step.{Step}
use Rattle.protocol.specs.declared.nodes.NodeId.{NodeId}
use Rattle.protocol.specs.declared.nodes.NodeId.TheVariants.{R}
use Rattle.protocol.specs.Effects.{Config}
use Rattle.protocol.specs.Nodes.{NodeState, Input, RecordFails}
use Rattle.protocol.specs.Worlds.{place, node_at}
use Rattle.node_core.specs.Nodes.{Befalls}
use Rattle.node_core.specs.Storing.{fact_frame}
use Rattle.node_core.proofs.Placed.{place_within}
use Rattle.floors.specs.Worlds.{FlooredWorld, Notice, step_with_floors}
use Rattle.floored.specs.Nodes.{FlooredParts, floored_fact}
use Rattle.cluster.specs.Clusters.{ClusterParts, ClusterStands, IsSameCluster, IsSameFloored, OccursAs, BefallsAt, BefallsReached}
use Rattle.cluster.specs.Clusters.{BefallsRestarted, BefallsRaised, BefallsHeard, BefallsCompacted, BefallsIn, BefallsShorter, IsMetIf}
use Rattle.cluster.specs.Clusters.{handed, notice_at}
use Rattle.cluster.specs.Opening.{NoneFails, IsOver, IsMade}
use Rattle.cluster.specs.Runs.{HaveOccurred, FollowMachine, IsFirm}
use Rattle.cluster.proofs.Opened.{may_not}

-- ---- one event after another

-- what steps make of a cluster, the machine's events make of its world
pub follow : (config : Config) (world : FlooredWorld) (first last : ClusterParts) (steps : List Step) → HaveOccurred first steps last
    → ClusterStands config first world → FollowMachine config world steps last
follow config world first last [] same stands = record {
  occurrences = [];
  steps_are = refl;
  stands = subst (λ (c : ClusterParts). ClusterStands config c world) (sym same) stands;
}
follow config world first last (step ∷ steps) happened stands =
    let o : OccursAs config world step.event first happened.0 step = happened.1 config world stands in
    let result = step_with_floors config world step.event o.fault in
    let rest = follow config result.world happened.0 last steps happened.2 o.stands in
    record {
      occurrences = record { event = step.event; fault = o.fault } ∷ rest.occurrences;
      steps_are = λ i. o.step_is i ∷ rest.steps_are i;
      stands = rest.stands;
    }

-- ---- records that don't fail

over_firm : (records : List Held) (nodes : List FlooredParts) → AllZip IsOver records nodes → NoneFails records
    → All (λ floored. floored.node.held.nature.may_fail ≡ false) nodes
over_firm [] [] over none = λ k d lt. absurd (omega (arith, lt))
over_firm [] (floored ∷ nodes) over none = absurd over
over_firm (held ∷ records) [] over none = absurd over
over_firm (held ∷ records) (floored ∷ nodes) over none =
    All-cons (λ (f : FlooredParts). f.node.held.nature.may_fail ≡ false) floored nodes
    (over.0 ∙ All-head (λ (h : Held). h.nature.may_fail ≡ false) held records none)
    (over_firm records nodes over.1 (All-tail (λ (h : Held). h.nature.may_fail ≡ false) held records none))

-- a cluster over records that don't fail is firm
pub made_firm : (config : Config) (records : List Held) (cluster : ClusterParts) → IsMade config records cluster → NoneFails records
    → IsFirm cluster
made_firm config records cluster made none = over_firm records cluster.nodes made.over none

-- and stays so
pub still_firm : (old new : ClusterParts) → IsSameCluster old new → IsFirm old → IsFirm new
still_firm old new same firm = λ k d lt.
    let here : k < length old.nodes = omega (arith, lt, length_all_zip IsSameFloored old.nodes new.nodes same.nodes_are) in
    (AllZip-get_or IsSameFloored old.nodes new.nodes k d d same.nodes_are here).may_fail_is ∙ firm k d here

-- where a node is, it has a place
found_place : (nodes : List NodeState) (o : Option ℕ) (m : NodeState) → option_and_then (λ at. slice_get nodes at) o ≡ Some m
    → (at : ℕ) × (o ≡ Some at)
found_place nodes None m e = absurd (cc (e))
found_place nodes (Some at) m e = (at, refl)

firm_befalls : (fact : Option Fact) (old new : Held) (whole : Bool) → old.nature.may_fail ≡ false
    → Befalls fact old new (RecordFails whole) → ⊥
firm_befalls None old new whole firm b = b
firm_befalls (Some fact) old new whole firm b =
    let at = subst (λ (armed : Option ℕ). IsStoppedAt armed old.nature.may_fail (length (fact_frame fact)) new.kept) b.0 b.1.stopped.at in
    may_not old.nature.may_fail at.0 firm

module _ (config : Config) (world : FlooredWorld) (old new : ClusterParts) (stands : ClusterStands config old world) (firm : IsFirm old)
    (whole : Bool) where
  within : (who : NodeId) (at : ℕ) → place config who ≡ Some at → at < length old.nodes
  within who at is = omega (arith, place_within config who at is, stands.nodes_are.count)

  some_node : (at : ℕ) (nodes : List FlooredParts) → at < length nodes → FlooredParts
  some_node at [] lt = absurd (omega (arith, lt))
  some_node at (floored ∷ nodes) lt = floored

  reached_firm : (reached : NodeId × Input) (o : Option NodeState) → node_at config world.machine reached.0 ≡ o
      → BefallsAt config world old.nodes new.nodes reached o (RecordFails whole) → ⊥
  reached_firm reached None e b = absurd (cc (b))
  reached_firm reached (Some m) e b =
      let p = found_place world.machine.nodes (place config reached.0) m e in
      let lt : p.0 < length old.nodes = within reached.0 p.0 p.1 in
      let d : FlooredParts = some_node p.0 old.nodes lt in
      firm_befalls (floored_fact config reached.0 (world.floor reached.0) m reached.1) (get_or old.nodes p.0 d).node.held
      (get_or new.nodes p.0 d).node.held whole (firm p.0 d lt) (b p.0 d p.1)

  restarted_firm : (who : NodeId) (o : Option NodeState) → node_at config world.machine who ≡ o
      → BefallsRestarted config old.nodes new.nodes who o (RecordFails whole) → ⊥
  restarted_firm who None e b = absurd (cc (b))
  restarted_firm who (Some m) e b =
      let p = found_place world.machine.nodes (place config who) m e in
      let lt : p.0 < length old.nodes = within who p.0 p.1 in
      let d : FlooredParts = some_node p.0 old.nodes lt in
      may_not (get_or old.nodes p.0 d).node.held.nature.may_fail (b p.0 d p.1).may (firm p.0 d lt)

  raised_firm : (who : NodeId) (o : Option NodeState) → node_at config world.machine who ≡ o
      → BefallsRaised config old.nodes new.nodes who o (RecordFails whole) → ⊥
  raised_firm who None e b = absurd (cc (b))
  raised_firm who (Some m) e b =
      let p = found_place world.machine.nodes (place config who) m e in
      let lt : p.0 < length old.nodes = within who p.0 p.1 in
      let d : FlooredParts = some_node p.0 old.nodes lt in
      may_not (get_or old.nodes p.0 d).node.held.nature.may_fail (b p.0 d p.1).may (firm p.0 d lt)

  heard_firm : (o : Option Notice) → BefallsHeard config world old.nodes new.nodes o (RecordFails whole) → ⊥
  heard_firm None b = absurd (cc (b))
  heard_firm (Some notice) b = raised_firm notice.receiver (node_at config world.machine notice.receiver) refl b

  compacted_firm : (who : NodeId) (o : Option NodeState) → node_at config world.machine who ≡ o
      → BefallsCompacted config old.nodes new.nodes who o (RecordFails whole) → ⊥
  compacted_firm who None e b = absurd (cc (b))
  compacted_firm who (Some m) e b = if_up m.up b
    where
      if_up : (up : Bool)
          → IsMetIf up ((at : ℕ) (d : FlooredParts) → place config who ≡ Some at
          → BefallsShorter config who m (get_or old.nodes at d) (get_or new.nodes at d) (RecordFails whole))
          (RecordFails whole)
          → ⊥
      if_up false b = absurd (cc (b))
      if_up true b =
          let p = found_place world.machine.nodes (place config who) m e in
          let lt : p.0 < length old.nodes = within who p.0 p.1 in
          let d : FlooredParts = some_node p.0 old.nodes lt in
          may_not (get_or old.nodes p.0 d).node.held.nature.may_fail (b p.0 d p.1).0.may (firm p.0 d lt)

  handed_firm : (h : Option (NodeId × Input)) → BefallsReached config world old.nodes new.nodes h (RecordFails whole) → ⊥
  handed_firm None b = absurd (cc (b))
  handed_firm (Some reached) b = reached_firm reached (node_at config world.machine reached.0) refl b

  -- no event meets a failure of theirs
  pub no_failure : (event : Event) → BefallsIn config world event old.nodes new.nodes (RecordFails whole) → ⊥
  no_failure (Restart who) b = restarted_firm who (node_at config world.machine who) refl b
  no_failure (Compact who) b = compacted_firm who (node_at config world.machine who) refl b
  no_failure (Tear who n) b = absurd (cc (b.0))
  no_failure (Raise rm floor) b = raised_firm (R rm) (node_at config world.machine (R rm)) refl b
  no_failure (Hear n) b = heard_firm (notice_at world.notices n) b
  no_failure (Replace who floor) b = raised_firm who (node_at config world.machine who) refl b
  no_failure event b = handed_firm (handed world.machine event) b
