-- The cluster of a run at first, and its tables at the end.
use Rattle.std.proofs.Common.{◌≡◌, ◌∙◌, inl, inr, ℕ, zero, suc, ◌+◌, ◌<◌, Bool, false, if◌then◌else◌, List, [], ◌∷◌, length, get_or}
use Rattle.std.proofs.Common.{Option, Some, None, Result, Ok, Err, refl, sym, ap, subst, arith}
use Rattle.std.specs.Prelude.{replicate, slice_get}
use Rattle.std.specs.List.{All, AllZip}
use Rattle.std.specs.Option.{option_and_then, option_map_or}
use Rattle.std.proofs.lemmas.Bool.{both_ways, lt-ltb}
use Rattle.std.proofs.lemmas.List.{length-replicate}
use Rattle.std.proofs.lemmas.List.Elements.{All-replicate}
use Rattle.xid.specs.declared.refusals.Refusal.{Refusal}
use Rattle.stable_record.specs.Held.{Held}
use Rattle.stable_record.specs.Records.{fresh}
use Rattle.safety.specs.Vocabulary.{NodeId, R, Row}
use Rattle.node_core.proofs.Placed.{place_within}
use Rattle.cluster_run.specs.Running.{IsRunning}
use Rattle.protocol.specs.Effects.{Config}
use Rattle.protocol.specs.Nodes.{NodeState, first_rows}
use Rattle.protocol.specs.Tables.{table}
use Rattle.protocol.specs.Worlds.{node_at, place, table_at}
use Rattle.floors.specs.Worlds.{FlooredWorld}
use Rattle.floors.specs.Runs.{floored_opening}
use Rattle.floored.specs.Nodes.{FlooredParts, FlooredStands}
use Rattle.node_core.specs.Viewing.{SaysTable}
use Rattle.cluster.specs.Asking.{IsSaid, TablesIn}
use Rattle.cluster.specs.Clusters.{ClusterParts, ClusterStands}
use Rattle.cluster.specs.Opening.{AreNew, IsMade, IsUnmade}
use Rattle.cluster.proofs.Following.{made_firm, still_firm}

-- ---- at first

module _ (config : Config) (records : List Held) (count : ℕ) (are : records ≡ replicate count (fresh []))
    (all : count ≡ config.acceptors + config.leaders + config.managers) where
  each_fresh : (P : Held → Type 0) → P (fresh []) → All P records
  each_fresh P is = subst (All P) (sym are) (All-replicate P count (fresh []) is)

  are_new : AreNew config records
  are_new = record {
    count = ap length are ∙ length-replicate count (fresh []) ∙ all;
    empty = each_fresh (λ held. held.bytes ≡ []) refl;
  }

  -- a cluster over new records in memory stands for the opening world
  pub opened_over : (cluster : ClusterParts) → IsMade config records cluster → IsRunning config (floored_opening config) cluster
  opened_over cluster made = record {
    stands = made.unarmed (each_fresh (λ held. held.armed ≡ None) refl);
    firm = made_firm config records cluster made (each_fresh (λ held. held.nature.may_fail ≡ false) refl);
  }

  -- only memory keeps it from being made
  pub unopened_for : (e : Refusal) → IsUnmade config records e → e ≡ Refusal.NoMemory
  unopened_for Refusal.NoMemory unmade = refl
  unopened_for Refusal.BadConfig unmade = absurd (unmade are_new)
  unopened_for Refusal.RecordFault unmade =
      absurd (both_ways (get_or records unmade.at (fresh [])).nature.may_fail
      (each_fresh (λ held. held.nature.may_fail ≡ false) refl unmade.at (fresh []) unmade.within) (unmade.faulted (fresh [])).may)
  unopened_for e unmade = absurd unmade

-- ---- at the end

-- a node past the last one
no_node : FlooredParts
no_node = record {
  node = record {
    who = R 0;
    sizes = record { acceptors = 0; leaders = 0; managers = 0; bundled = false };
    rows = [];
    held = fresh [];
    role = None;
  };
  floor = None;
}

-- the place of a node that is there
placed : (config : Config) (world : FlooredWorld) (who : NodeId) (m : NodeState) → node_at config world.machine who ≡ Some m
    → (at : ℕ) × (place config who ≡ Some at)
placed config world who m is = by (place config who) refl
  where
    by : (o : Option ℕ) → place config who ≡ o → (at : ℕ) × (place config who ≡ Some at)
    by None none =
        let e : None ≡ Some m = sym (ap (option_and_then (λ (at : ℕ). slice_get world.machine.nodes at)) none) ∙ is in absurd (cc (e))
    by (Some at) found = (at, found)

-- there is a state for each node
zip_length : {X Y : Type 0} (P : X → Y → Type 0) (xs : List X) (ys : List Y) → AllZip P xs ys → length xs ≡ length ys
zip_length P [] [] zip = refl
zip_length P [] (y ∷ ys) zip = absurd zip
zip_length P (x ∷ xs) [] zip = absurd zip
zip_length P (x ∷ xs) (y ∷ ys) zip = ap suc (zip_length P xs ys zip.1)

some_at : {X : Type 0} (xs : List X) (at : ℕ) → at < length xs → slice_get xs at ≡ None → ⊥
some_at [] at lt none = omega (arith, lt)
some_at (x ∷ xs) zero lt none = absurd (cc (none))
some_at (x ∷ xs) (suc at) lt none = some_at xs at (omega (arith, lt)) none

manager_there : (config : Config) (world : FlooredWorld) (cluster : ClusterParts) (rm : ℕ) → ClusterStands config cluster world
    → rm < config.managers → node_at config world.machine (R rm) ≡ None → ⊥
manager_there config world cluster rm stands lt none =
    let at = config.acceptors + config.leaders + rm in
    let found : place config (R rm) ≡ Some at =
    ap (λ (b : Bool). if b then Some at else None) (lt-ltb rm config.managers lt) in
    let count = stands.nodes_are.count in
    let same = zip_length (FlooredStands config) cluster.nodes world.machine.nodes stands.nodes_are.stand in
    some_at world.machine.nodes at (omega (arith, count, same, lt))
    (sym (ap (option_and_then (λ (k : ℕ). slice_get world.machine.nodes k)) found) ∙ none)

module _ (config : Config) (world : FlooredWorld) (old new : ClusterParts) (rm : ℕ) (running : IsRunning config world old)
    (result : Result (List Row) Refusal) (is : TablesIn config world old new rm result) where
  pub still_running : IsRunning config world new
  still_running = record { stands = is.stands; firm = still_firm old new is.same running.firm }

  pub shown : (rows : List Row) → result ≡ Ok rows → rows ≡ table_at config world.machine rm
  shown rows ok = by (node_at config world.machine (R rm)) refl is.says
    where
      by : (o : Option NodeState) → node_at config world.machine (R rm) ≡ o
          → IsSaid config (R rm) old new (λ m. SaysTable config (R rm) m.facts result) o result → rows ≡ table_at config world.machine rm
      by None e said = let bad = sym ok ∙ said.1 in absurd (cc (bad))
      by (Some m) e (inl said) =
          subst (λ (r : Result (List Row) Refusal). SaysTable config (R rm) m.facts r) ok said.1
          ∙ sym (ap (λ (o : Option NodeState). option_map_or (λ node. table (first_rows config rm) node.facts) o []) e)
      by (Some m) e (inr unread) =
          let there = placed config world (R rm) m e in
          let none = (unread.unread there.0 no_node there.1).1 in
          elim none [
            | inl failed ↦ let bad = sym ok ∙ failed.0 in absurd (cc (bad))
            | inr wanted ↦ let bad = sym ok ∙ wanted.0 in absurd (cc (bad))
          ]

  pub unshown : rm < config.managers → (e : Refusal) → result ≡ Err e → e ≡ Refusal.NoMemory
  unshown lt refusal err = by (node_at config world.machine (R rm)) refl is.says
    where
      by : (o : Option NodeState) → node_at config world.machine (R rm) ≡ o
          → IsSaid config (R rm) old new (λ m. SaysTable config (R rm) m.facts result) o result → refusal ≡ Refusal.NoMemory
      by None e said = absurd (manager_there config world old rm running.stands lt e)
      by (Some m) e (inl said) = subst (λ (r : Result (List Row) Refusal). SaysTable config (R rm) m.facts r) err said.1
      by (Some m) e (inr unread) =
          let there = placed config world (R rm) m e in
          let none = (unread.unread there.0 no_node there.1).1 in
          elim none [
            | inl failed ↦
                let within : there.0 < length old.nodes =
                omega (arith, place_within config (R rm) there.0 there.1, running.stands.nodes_are.count) in
                absurd (both_ways (get_or old.nodes there.0 no_node).node.held.nature.may_fail (running.firm there.0 no_node within)
                failed.1.may)
            | inr wanted ↦ let same = sym err ∙ wanted.0 in cc (same)
          ]
