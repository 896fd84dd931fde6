-- The nodes of a cluster and those of its world with floors, place by place.
-- Needed by `unmade`; 8 files here.
use Rattle.std.proofs.Common.{◌≡◌, ◌∙◌, inl, inr, ℕ, zero, suc, ◌+◌, ◌<◌, List, [], ◌∷◌, length, get_or, set, Option, Some, None, refl, sym}
use Rattle.std.proofs.Common.{ap, subst, nat_lt, arith}
use Rattle.std.specs.Prelude.{slice_get, if◌then◌else◌}
use Rattle.std.specs.List.{AllZip, slice_set}
use Rattle.std.specs.Option.{option_and_then, option_map_or}
use Rattle.std.proofs.lemmas.Bool.{cases_eq}
use Rattle.std.proofs.lemmas.List.{get_or_default, get_or-set_same, get_or-set_other, length-set}
use Rattle.protocol.specs.declared.nodes.NodeId.{NodeId}
use Rattle.protocol.specs.declared.nodes.NodeId.TheVariants.{A, L, R}
use Rattle.protocol.specs.Effects.{Config}
use Rattle.protocol.specs.Nodes.{NodeState}
use Rattle.protocol.specs.Worlds.{Datagram, place, node_at, set_node}
use Rattle.stable_record.specs.Held.{Nature}
use Rattle.xid.specs.Places.{Place}
use Rattle.node_core.specs.declared.config.Sizes.{Sizes}
use Rattle.node_core.specs.Nodes.{AreSizes, IsSameNode}
use Rattle.floors.specs.Worlds.{FlooredWorld, with_entry}
use Rattle.floors.proofs.Rising.{entry_by, entry_own}
use Rattle.node_core.specs.Places.{node_count}
use Rattle.node_core.specs.Configs.{config_by}
use Rattle.node_core.proofs.Placed.{place_within}
use Rattle.floored.specs.Nodes.{FlooredParts, FlooredStands}
use Rattle.floored.specs.Told.{told_at}
use Rattle.network.specs.Networks.{NetworkParts, StandsFor}
use Rattle.cluster.specs.Clusters.{ClusterParts, NoticesParts, cluster_of, AreNodes, AreTold, ClusterStands}
use Rattle.cluster.specs.Clusters.{IsSameCluster, IsSameFloored, StayBut}

-- ---- lists, place by place

module _ {X Y : Type 0} (R : X → Y → Type 0) where
  pub zip_at : (xs : List X) (ys : List Y) (i : ℕ) (d : X) → AllZip R xs ys → i < length xs
      → (y : Y) × (slice_get ys i ≡ Some y) × R (get_or xs i d) y
  zip_at [] ys i d all lt = absurd (omega (arith, lt))
  zip_at (x ∷ xs) [] i d all lt = absurd all
  zip_at (x ∷ xs) (y ∷ ys) zero d all lt = (y, refl, all.0)
  zip_at (x ∷ xs) (y ∷ ys) (suc i) d all lt = zip_at xs ys i d all.1 (omega (arith, lt))

  pub zip_set : (xs : List X) (ys : List Y) (i : ℕ) (x : X) (y : Y) → AllZip R xs ys → R x y → AllZip R (set xs i x) (set ys i y)
  zip_set [] [] i x y all is = tt
  zip_set [] (b ∷ ys) i x y all is = absurd all
  zip_set (a ∷ xs) [] i x y all is = absurd all
  zip_set (a ∷ xs) (b ∷ ys) zero x y all is = (is, all.1)
  zip_set (a ∷ xs) (b ∷ ys) (suc i) x y all is = (all.0, zip_set xs ys i x y all.1 is)

-- what is found in a place, put there again
set_found : {X : Type 0} (xs : List X) (i : ℕ) (x : X) → slice_get xs i ≡ Some x → set xs i x ≡ xs
set_found [] i x e = refl
set_found (y ∷ xs) zero x e = let same : y ≡ x = cc (e) in ap (λ (z : _). z ∷ xs) (sym same)
set_found (y ∷ xs) (suc i) x e = ap (λ (ys : List _). y ∷ ys) (set_found xs i x e)

-- ---- what stays

-- a node that stays what it is does so with its floor
pub same_floored : (old new : FlooredParts) → IsSameNode old.node new.node → IsSameFloored old new
same_floored old new same = record {
  who_is = same.who_is;
  sizes_are = same.sizes_are;
  rows_are = same.rows_are;
  may_fail_is = ap (λ (n : Nature). n.may_fail) same.nature_is;
}

same_self : (floored : FlooredParts) → IsSameFloored floored floored
same_self floored = record { who_is = refl; sizes_are = refl; rows_are = refl; may_fail_is = refl }

same_all : (nodes : List FlooredParts) → AllZip IsSameFloored nodes nodes
same_all [] = tt
same_all (floored ∷ nodes) = (same_self floored, same_all nodes)

same_set : (nodes : List FlooredParts) (i : ℕ) (d new : FlooredParts) → IsSameFloored (get_or nodes i d) new
    → AllZip IsSameFloored nodes (set nodes i new)
same_set [] i d new same = tt
same_set (floored ∷ nodes) zero d new same = (same, same_all nodes)
same_set (floored ∷ nodes) (suc i) d new same = (same_self floored, same_set nodes i d new same)

-- nodes that are all as they were, and those with another in one place
pub all_stay : {X : Type 0} (at : Option ℕ) (old new : List X) → new ≡ old → StayBut at old new
all_stay None old new same = same
all_stay {X} (Some at) old new same = λ other d apart. ap (λ (nodes : List X). get_or nodes other d) same

-- a change at one place leaves the others
pub others_stay : {X : Type 0} (reached : Option ℕ) (at : ℕ) (nodes : List X) (new : X) → reached ≡ Some at
    → StayBut reached nodes (set nodes at new)
others_stay reached at nodes new is =
    subst (λ (o : Option ℕ). StayBut o nodes (set nodes at new)) (sym is)
    (λ other d apart. get_or-set_other nodes at other new d apart)

-- a cluster with a node that is still the one it was
pub same_but : (sizes : Sizes) (nodes : List FlooredParts) (before after : NetworkParts) (was now : NoticesParts) (i : ℕ)
    (d new : FlooredParts) → IsSameFloored (get_or nodes i d) new
    → IsSameCluster (cluster_of sizes nodes before was) (cluster_of sizes (set nodes i new) after now)
same_but sizes nodes before after was now i d new same = record { sizes_are = refl; nodes_are = same_set nodes i d new same }

-- a cluster with its nodes as they were
pub unchanged : (old new : ClusterParts) → new.sizes ≡ old.sizes → new.nodes ≡ old.nodes → IsSameCluster old new
unchanged old new sizes_are nodes_are = record {
  sizes_are = sizes_are;
  nodes_are = subst (λ (nodes : List FlooredParts). AllZip IsSameFloored old.nodes nodes) (sym nodes_are) (same_all old.nodes);
}

-- ---- sizes

-- the sizes of a cluster say where a node stands
pub place_as : (config : Config) (sizes : Sizes) → AreSizes config sizes → (who : NodeId)
    → place (config_by sizes []) who ≡ place config who
place_as config sizes are (A a) = ap (λ (n : ℕ). if nat_lt a n then Some a else None) are.acceptors_are
place_as config sizes are (L l) =
    ap (λ (n : ℕ). if nat_lt l n then Some (sizes.acceptors + l) else None) are.leaders_are
    ∙ ap (λ (m : ℕ). if nat_lt l config.leaders then Some (m + l) else None) are.acceptors_are
place_as config sizes are (R rm) =
    ap (λ (n : ℕ). if nat_lt rm n then Some (sizes.acceptors + sizes.leaders + rm) else None) are.managers_are
    ∙ ap (λ (m : ℕ). if nat_lt rm config.managers then Some (m + sizes.leaders + rm) else None) are.acceptors_are
    ∙ ap (λ (m : ℕ). if nat_lt rm config.managers then Some (config.acceptors + m + rm) else None) are.leaders_are

-- ---- places

-- a place that a cluster has is one of its nodes
pub index_fits : {X : Type 0} (sizes : Sizes) (nodes : List X) (who : NodeId) (at : ℕ) → length nodes ≡ node_count sizes
    → place (config_by sizes []) who ≡ Some at → at < length nodes
index_fits sizes nodes who at count is =
    let lt : at < node_count sizes = place_within (config_by sizes []) who at is in omega (arith, lt, count)

-- a floor or what was told, where one node has another entry
module _ {X : Type 0} (table : NodeId → X) (who : NodeId) (x : X) where
  -- the entry of a node
  pub entry_here : (n : NodeId) → n ≡ who → with_entry table who x n ≡ x
  entry_here n same = ap (with_entry table who x) same ∙ entry_own table who x

  -- and of another one
  pub entry_apart : (n : NodeId) → (n ≡ who → ⊥) → with_entry table who x n ≡ table n
  entry_apart n apart = entry_by table who x (λ (y : X). y ≡ table n) n (λ same. absurd (apart same)) (λ other. refl)

-- ---- the node of a place

module _ (config : Config) (world : FlooredWorld) (sizes : Sizes) (nodes : List FlooredParts) (network : NetworkParts)
    (notices : NoticesParts) (s : ClusterStands config (cluster_of sizes nodes network notices) world) where
  abbrev states : List NodeState
  states = world.machine.nodes

  pub count_is : length nodes ≡ node_count sizes
  count_is =
      omega (arith, s.nodes_are.count, s.sizes_are.acceptors_are, s.sizes_are.leaders_are, s.sizes_are.managers_are)

  pub told_count_is : length notices.told ≡ node_count sizes
  told_count_is =
      omega (arith, s.told_are.count, s.sizes_are.acceptors_are, s.sizes_are.leaders_are, s.sizes_are.managers_are)

  module _ (who : NodeId) (at : ℕ) (is : place (config_by sizes []) who ≡ Some at) where
    -- the node stands there
    pub placed : place config who ≡ Some at
    placed = sym (place_as config sizes s.sizes_are who) ∙ is

    -- its place is within the nodes
    pub within : at < length nodes
    within = index_fits sizes nodes who at count_is is

    -- and within what was told
    pub told_within : at < length notices.told
    told_within = index_fits sizes notices.told who at told_count_is is

    -- it stands for a node of the world
    pub there : (d : FlooredParts) → (m : NodeState) × (slice_get states at ≡ Some m) × FlooredStands config (get_or nodes at d) m
    there d = zip_at (FlooredStands config) nodes states at d s.nodes_are.stand within

    -- which is the one that is there
    pub found : (m : NodeState) → slice_get states at ≡ Some m → node_at config world.machine who ≡ Some m
    found m e = ap (λ (o : Option ℕ). option_and_then (λ (p : ℕ). slice_get states p) o) placed ∙ e

    -- it has its name
    pub named : (d : FlooredParts) → (get_or nodes at d).node.who ≡ who
    named d = s.nodes_are.named who at d placed

    -- and its floor
    pub floor_there : (d : FlooredParts) → (get_or nodes at d).floor ≡ world.floor who
    floor_there d = s.nodes_are.floors_are who at d placed

    -- another that stands there has that name
    named_here : (d : FlooredParts) (n : NodeId) → place config n ≡ Some at → n ≡ who
    named_here d n h = sym (s.nodes_are.named n at d h) ∙ named d

    -- one that stands elsewhere has another name
    named_apart : (n : NodeId) (p : ℕ) → (p ≡ at → ⊥) → place config n ≡ Some p → n ≡ who → ⊥
    named_apart n p apart h same =
        let both : Some p ≡ Some at = sym h ∙ ap (place config) same ∙ placed in
        let here : p ≡ at = cc (both) in
        apart here

    put_nodes : (d new : FlooredParts) (m : NodeState) (floor : NodeId → Option Place)
        → new.node.who ≡ (get_or nodes at d).node.who → FlooredStands config new m → floor who ≡ new.floor
        → ((n : NodeId) → (n ≡ who → ⊥) → floor n ≡ world.floor n) → AreNodes config (set nodes at new) floor (set states at m)
    put_nodes d new m floor who_is stands own others = record {
      count = length-set nodes at new ∙ s.nodes_are.count;
      named = λ n p e h. elim (cases_eq p at) [
        | inl same ↦
            let here : get_or (set nodes at new) p e ≡ new =
            ap (λ (q : ℕ). get_or (set nodes at new) q e) same ∙ get_or-set_same nodes at new e within in
            let at_it : place config n ≡ Some at = h ∙ ap (λ (q : ℕ). Some q) same in
            ap (λ (x : FlooredParts). x.node.who) here ∙ who_is ∙ s.nodes_are.named n at d at_it
        | inr apart ↦
            ap (λ (x : FlooredParts). x.node.who) (get_or-set_other nodes at p new e apart) ∙ s.nodes_are.named n p e h
      ];
      floors_are = λ n p e h. elim (cases_eq p at) [
        | inl same ↦
            let here : get_or (set nodes at new) p e ≡ new =
            ap (λ (q : ℕ). get_or (set nodes at new) q e) same ∙ get_or-set_same nodes at new e within in
            let own_name : n ≡ who = named_here d n (h ∙ ap (λ (q : ℕ). Some q) same) in
            ap (λ (x : FlooredParts). x.floor) here ∙ sym own ∙ sym (ap floor own_name)
        | inr apart ↦
            ap (λ (x : FlooredParts). x.floor) (get_or-set_other nodes at p new e apart) ∙ s.nodes_are.floors_are n p e h
            ∙ sym (others n (named_apart n p apart h))
      ];
      stand = zip_set (FlooredStands config) nodes states at new m s.nodes_are.stand stands;
    }

    -- another node in its place, which is still the one it was, and stands for another of the machine; its floor may be another too
    pub nodes_put : (d new : FlooredParts) (m : NodeState) (floor : NodeId → Option Place)
        → new.node.who ≡ (get_or nodes at d).node.who → FlooredStands config new m → floor who ≡ new.floor
        → ((n : NodeId) → (n ≡ who → ⊥) → floor n ≡ world.floor n)
        → AreNodes config (set nodes at new) floor (set_node config world.machine who m).nodes
    nodes_put d new m floor who_is stands own others =
        subst (λ (o : Option ℕ). AreNodes config (set nodes at new) floor (option_map_or (λ (p : ℕ). slice_set states p m) o states))
        (sym placed) (put_nodes d new m floor who_is stands own others)

    -- the floor that it has now, where it hasn't moved
    own_floor : (d new : FlooredParts) → new.floor ≡ (get_or nodes at d).floor → world.floor who ≡ new.floor
    own_floor d new same = sym (same ∙ floor_there d)

    -- it has the floor that it had, and so has each other
    pub node_put : (d new : FlooredParts) (m : NodeState) → IsSameNode (get_or nodes at d).node new.node
        → new.floor ≡ (get_or nodes at d).floor → FlooredStands config new m
        → (after : NetworkParts) (net : List Datagram) → StandsFor after net
        → ClusterStands config (cluster_of sizes (set nodes at new) after notices)
        (record world { machine = record (set_node config world.machine who m) { net = net } })
    node_put d new m same floor_is stands after net net_is = record {
      sizes_are = s.sizes_are;
      nodes_are = nodes_put d new m world.floor same.who_is stands (own_floor d new floor_is) (λ n apart. refl);
      net_is = net_is;
      told_are = s.told_are;
      notices_are = s.notices_are;
    }

    -- another in its place, which stands for the same
    pub node_kept : (d new : FlooredParts) (m : NodeState) → slice_get states at ≡ Some m
        → new.node.who ≡ (get_or nodes at d).node.who → new.floor ≡ (get_or nodes at d).floor → FlooredStands config new m
        → ClusterStands config (cluster_of sizes (set nodes at new) network notices) world
    node_kept d new m found_there who_is floor_is stands = record {
      sizes_are = s.sizes_are;
      nodes_are =
          subst (λ (now : List NodeState). AreNodes config (set nodes at new) world.floor now) (set_found states at m found_there)
          (put_nodes d new m world.floor who_is stands (own_floor d new floor_is) (λ n apart. refl));
      net_is = s.net_is;
      told_are = s.told_are;
      notices_are = s.notices_are;
    }

    -- what is told to the node is another list now, and so it is in the world
    pub told_put : (list : List (Option Place)) (told : ℕ → Option Place) → length list ≡ config.managers
        → ((rm : ℕ) → rm < config.managers → told_at list rm ≡ told rm)
        → AreTold config (set notices.told at list) (with_entry world.told who told)
    told_put list told count now = record {
      count = length-set notices.told at list ∙ s.told_are.count;
      each_count = λ p e lt. elim (cases_eq p at) [
        | inl same ↦
            ap length (ap (λ (q : ℕ). get_or (set notices.told at list) q e) same ∙ get_or-set_same notices.told at list e told_within)
            ∙ count
        | inr apart ↦
            let before : p < length notices.told = omega (arith, lt, length-set notices.told at list) in
            ap length (get_or-set_other notices.told at p list e apart) ∙ s.told_are.each_count p e before
      ];
      told_are = λ n p rm e h few. elim (cases_eq p at) [
        | inl same ↦
            let here : get_or (set notices.told at list) p e ≡ list =
            ap (λ (q : ℕ). get_or (set notices.told at list) q e) same ∙ get_or-set_same notices.told at list e told_within in
            let own_name : n ≡ who = named_as n (h ∙ ap (λ (q : ℕ). Some q) same) in
            ap (λ (l : List (Option Place)). told_at l rm) here ∙ now rm few
            ∙ sym (ap (λ (t : ℕ → Option Place). t rm) (entry_here world.told who told n own_name))
        | inr apart ↦
            ap (λ (l : List (Option Place)). told_at l rm) (get_or-set_other notices.told at p list e apart)
            ∙ s.told_are.told_are n p rm e h few
            ∙ sym (ap (λ (t : ℕ → Option Place). t rm) (entry_apart world.told who told n (named_apart n p apart h)))
      ];
    }
      where
        named_as : (n : NodeId) → place config n ≡ Some at → n ≡ who
        named_as n h = own nodes refl within
          where
            own : (ns : List FlooredParts) → ns ≡ nodes → at < length ns → n ≡ who
            own [] e lt = absurd (omega (arith, lt))
            own (d ∷ ns) e lt = named_here d n h

    -- what is said of its place in the lists before and after
    pub at_place : (P : FlooredParts → FlooredParts → Type 0) (d new : FlooredParts) → P (get_or nodes at d) new → (p : ℕ)
        (x : FlooredParts) → place config who ≡ Some p → P (get_or nodes p x) (get_or (set nodes at new) p x)
    at_place P d new holds p x h =
        let placed_at : Some at ≡ Some p = sym placed ∙ h in
        let p_is : p ≡ at = cc (placed_at) in
        let before : get_or nodes p x ≡ get_or nodes at d =
        ap (λ (q : ℕ). get_or nodes q x) p_is ∙ get_or_default nodes at x d within in
        let after : get_or (set nodes at new) p x ≡ new =
        ap (λ (q : ℕ). get_or (set nodes at new) q x) p_is ∙ get_or-set_same nodes at new x within in
        subst (λ (a : FlooredParts). P a (get_or (set nodes at new) p x)) (sym before)
        (subst (λ (a : FlooredParts). P (get_or nodes at d) a) (sym after) holds)

    -- the world has the node, too
    pub is_there : (m : NodeState) × (node_at config world.machine who ≡ Some m)
    is_there = own nodes refl within
      where
        own : (ns : List FlooredParts) → ns ≡ nodes → at < length ns → (m : NodeState) × (node_at config world.machine who ≡ Some m)
        own [] e lt = absurd (omega (arith, lt))
        own (n ∷ ns) e lt = let m = there n in (m.0, found m.0 m.1)

  -- where the cluster has no such node, the world has none
  pub none_there : (who : NodeId) → place (config_by sizes []) who ≡ None → node_at config world.machine who ≡ None
  none_there who is =
      ap (λ (o : Option ℕ). option_and_then (λ (p : ℕ). slice_get states p) o)
      (sym (place_as config sizes s.sizes_are who) ∙ is)

  -- a node that has a place is another than one that has none
  absent_apart : (who : NodeId) → place (config_by sizes []) who ≡ None → (n : NodeId) (p : ℕ) → place config n ≡ Some p → n ≡ who → ⊥
  absent_apart who is n p h same =
      let both : Some p ≡ None = sym h ∙ ap (place config) same ∙ sym (place_as config sizes s.sizes_are who) ∙ is in absurd (cc (both))

  -- no node there is told anything else where one that isn't there is
  pub told_elsewhere : (who : NodeId) → place (config_by sizes []) who ≡ None → (told : ℕ → Option Place)
      → AreTold config notices.told (with_entry world.told who told)
  told_elsewhere who is told = record {
    count = s.told_are.count;
    each_count = s.told_are.each_count;
    told_are = λ n p rm e h few.
        s.told_are.told_are n p rm e h few
        ∙ sym (ap (λ (t : ℕ → Option Place). t rm) (entry_apart world.told who told n (absent_apart who is n p h)));
  }
