-- A cluster is made: node after node, and for which world it stands then.
-- Needed by `Cluster::new`, `open_all` and `open_new`; Following.
use Rattle.std.proofs.Common.{◌≡◌, ◌⊎◌, ◌∙◌, inl, inr, ℕ, suc, ◌+◌, ◌<◌, Bool, true, false, List, [], ◌∷◌, ◌++◌, length, map, get_or}
use Rattle.std.proofs.Common.{Option, Some, None, refl, sym, ap, subst, append_assoc, length-append, arith}
use Rattle.std.specs.Prelude.{◌==◌, slice_get, replicate, IsTrue}
use Rattle.std.specs.List.{All, AllZip, slice_set}
use Rattle.std.specs.Option.{option_and_then, option_map_or}
use Rattle.std.proofs.lemmas.Bool.{eqb-true}
use Rattle.std.proofs.lemmas.List.{append-nil, map_push, length-map, get_or-map, get_or_append_left, get_or_default, length-replicate}
use Rattle.std.proofs.lemmas.List.{get_or-replicate}
use Rattle.std.proofs.Math.Seq.{get_or-append_seam}
use Rattle.std.proofs.lemmas.List.Elements.{All-push, All-head, All-tail}
use Rattle.std.proofs.lemmas.Simd.{splat_is_map}
use Rattle.xid.specs.declared.refusals.Refusal.{Refusal}
use Rattle.stable_record.specs.Grammar.{IsStored}
use Rattle.stable_record.specs.Behind.{behind}
use Rattle.stable_record.specs.Floors.{front_of}
use Rattle.stable_record.specs.Held.{Held, Nature}
use Rattle.stable_record.proofs.Floors.{empty_stored, no_floor}
use Rattle.xid.specs.Places.{Place}
use Rattle.protocol.specs.declared.events.Event.TheVariants.{Tear}
use Rattle.protocol.specs.declared.answers.Answer.TheVariants.{Done}
use Rattle.protocol.specs.declared.nodes.NodeId.{NodeId}
use Rattle.protocol.specs.declared.nodes.NodeId.TheVariants.{A, L, R}
use Rattle.protocol.specs.Effects.{Config}
use Rattle.protocol.specs.Nodes.{NodeState, NoFault, new_node}
use Rattle.protocol.specs.Worlds.{World, place, node_at, set_node, answer_result, if_found, world_step}
use Rattle.floors.specs.Worlds.{FlooredWorld, Machine, floored_step}
use Rattle.floors.specs.Runs.{IsFlooredReachable, Opening, After, floored_opening}
use Rattle.forgetting.specs.Above.{StandsAbove}
use Rattle.forgetting.proofs.Left.{stands_whole}
use Rattle.node_core.proofs.Placed.{count_of, name_as, name_placed, name_there, place_within}
use Rattle.node_core.specs.Places.{node_count, node_in}
use Rattle.floored.specs.Nodes.{FlooredParts, FlooredStands, IsFlooredOpened, IsFlooredUnopened}
use Rattle.floored.specs.Told.{told_at}
use Rattle.node_core.specs.declared.config.Sizes.{Sizes}
use Rattle.node_core.specs.Configs.{is_among, config_by}
use Rattle.node_core.specs.Nodes.{NodeStands, AreSizes, MeansFrom, Holds}
use Rattle.node_core.proofs.Restarting.{opened_empty}
use Rattle.node_core.specs.Opening.{HasFaulted, IsOpened, IsUnopened}
use Rattle.network.specs.Networks.{NetworkParts, StandsFor}
use Rattle.cluster.specs.Clusters.{NoticesParts, cluster_of, AreTold, ClusterStands, IsSound}
use Rattle.cluster.specs.Opening.{torn_node, opening_with, tears_of, NoneArmed, IsOver, IsMade, IsUnmade, IsBegun, IsUnbegun, AreBegun}

-- what may be isn't what may not
pub may_not : (may : Bool) → IsTrue may → may ≡ false → ⊥
may_not may allowed e = let both : true ≡ false = sym allowed ∙ e in absurd (cc (both))

-- ---- one node

-- an empty record keeps nothing
nothing_meant : (who : NodeId) → MeansFrom who [] None []
nothing_meant (A a) = refl
nothing_meant (L l) = refl
nothing_meant (R rm) = refl

nothing_held : (config : Config) (who : NodeId) (bytes : List ℕ) → bytes ≡ []
    → Holds config who bytes (record { rows = None; facts = [] }) []
nothing_held config who bytes empty = record {
  all = [];
  stored = subst (λ (b : List ℕ). IsStored b [] []) (sym empty) empty_stored;
  means = nothing_meant who;
  fits = refl;
}

none_equal : (n k : ℕ) → n ≡ suc k → (n == 0) ≡ true → ⊥
none_equal n k e t = let zero_is : n ≡ 0 = eqb-true n 0 t in omega (arith, e, zero_is)

-- bytes of which there are none
pub no_bytes : (bytes : List ℕ) (n : ℕ) → n ≡ length bytes → (n == 0) ≡ true → bytes ≡ []
no_bytes [] n e t = refl
no_bytes (x ∷ xs) n e t = absurd (none_equal n (length xs) e t)

-- a node that was opened over an empty record has begun
pub begun : (config : Config) (who : NodeId) (held now : Held) (floored : FlooredParts) → now ≡ held → held.bytes ≡ []
    → IsFlooredOpened config who now floored → IsBegun config who held floored
begun config who held now floored same empty opened =
    let o : IsFlooredOpened config who held floored = subst (λ (h : Held). IsFlooredOpened config who h floored) same opened in
    let none : floored.floor ≡ None = o.floor_is ∙ no_floor held.bytes empty in
    let is : IsOpened config who (behind [] held) floored.node =
    subst (λ (f : Option Place). IsOpened config who (behind (front_of f) held) floored.node) none o.opened in
    record {
      who_is = is.who_is;
      empty = empty;
      over = ap (λ (n : Nature). n.may_fail) is.nature;
      floor_is = none;
      stands = opened_empty config who (behind [] held) floored.node empty is;
    }

-- the fronts behind the first
abbrev later_fronts : List (List ℕ) → List (List ℕ)
later_fronts [] = []
later_fronts (front ∷ beneath) = beneath

-- what failed behind no floor did so
faulted_whole : (old new : Held) → HasFaulted (behind [] old) (behind [] new) → HasFaulted old new
faulted_whole old new failed = record {
  may = failed.may;
  counted = failed.counted;
  armed = failed.armed;
  nature = λ i. record { may_fail = (failed.nature i).may_fail; fronts = later_fronts (failed.nature i).fronts };
  holds = failed.holds;
}

unbegun_behind : (config : Config) (who : NodeId) (now after : Held) (refusal : Refusal) → now.bytes ≡ []
    → is_among config who ≡ true → IsUnopened config who (behind [] now) (behind [] after) refusal → IsUnbegun now refusal
unbegun_behind config who now after Refusal.NoSuch empty among un = absurd (cc (among, un.1))
unbegun_behind config who now after Refusal.Damaged empty among un =
    absurd (un.2 (record { rows = None; facts = [] }) [] (nothing_held config who now.bytes empty))
unbegun_behind config who now after Refusal.RecordFault empty among un = (after, faulted_whole now after un.1)
unbegun_behind config who now after Refusal.NoMemory empty among un = tt
unbegun_behind config who now after other empty among un = absurd un

-- why it isn't opened
pub unbegun : (config : Config) (who : NodeId) (held now after : Held) (refusal : Refusal) → now ≡ held → held.bytes ≡ []
    → is_among config who ≡ true → IsFlooredUnopened config who now after refusal → IsUnbegun held refusal
unbegun config who held now after refusal same empty among un =
    let none : now.bytes ≡ [] = ap (λ (h : Held). h.bytes) same ∙ empty in
    subst (λ (h : Held). IsUnbegun h refusal) same
    (unbegun_behind config who now after refusal none among
    (subst (λ (f : Option Place). IsUnopened config who (behind (front_of f) now) (behind (front_of f) after) refusal)
    (no_floor now.bytes none) un.unopened))

-- ---- one node after another

module _ {X Y : Type 0} (P : X → Y → Type 0) (x : X) (y : Y) (is : P x y) where
  zip_push : (xs : List X) (ys : List Y) → AllZip P xs ys → AllZip P (xs ++ x ∷ []) (ys ++ y ∷ [])
  zip_push [] [] all = (is, tt)
  zip_push [] (b ∷ ys) all = absurd all
  zip_push (a ∷ xs) [] all = absurd all
  zip_push (a ∷ xs) (b ∷ ys) all = (all.0, zip_push xs ys all.1)

zip_length : {X Y : Type 0} (P : X → Y → Type 0) (xs : List X) (ys : List Y) → AllZip P xs ys → length ys ≡ length xs
zip_length P [] [] all = refl
zip_length P [] (y ∷ ys) all = absurd all
zip_length P (x ∷ xs) [] all = absurd all
zip_length P (x ∷ xs) (y ∷ ys) all = ap suc (zip_length P xs ys all.1)

module _ (config : Config) (sizes : Sizes) (are : AreSizes config sizes) (records : List Held) (nodes : List FlooredParts) (held : Held)
    (floored : FlooredParts) (so : AreBegun config records nodes) (who : NodeId) (named : who ≡ node_in (config_by sizes []) (length nodes))
    (begun : IsBegun config who held floored) where
  name_is : floored.node.who ≡ node_in config (length nodes)
  name_is = begun.who_is ∙ named ∙ name_as config sizes are (length nodes)

  named_now : (at : ℕ) (d : FlooredParts) → at < length (nodes ++ floored ∷ []) → (at < length nodes) ⊎ (at ≡ length nodes)
      → (get_or (nodes ++ floored ∷ []) at d).node.who ≡ node_in config at
  named_now at d lt (inl before) =
      ap (λ (n : FlooredParts). n.node.who) (get_or_append_left nodes (floored ∷ []) d at before) ∙ so.named at d before
  named_now at d lt (inr last) =
      ap (λ (i : ℕ). (get_or (nodes ++ floored ∷ []) i d).node.who) last
      ∙ ap (λ (n : FlooredParts). n.node.who) (get_or-append_seam nodes floored [] d)
      ∙ name_is ∙ ap (node_in config) (sym last)

  tears_more : map torn_node (tears_of (records ++ held ∷ [])) ≡ map torn_node (tears_of records) ++ torn_node held.armed ∷ []
  tears_more =
      ap (map torn_node) (map_push (λ (h : Held). h.armed) records held) ∙ map_push torn_node (tears_of records) held.armed

  abbrev Stand : FlooredParts → NodeState → Type 0
  Stand f m = NodeStands config f.node m

  pub begun_more : AreBegun config (records ++ held ∷ []) (nodes ++ floored ∷ [])
  begun_more = record {
    empty = All-push (λ (h : Held). h.bytes ≡ []) records held so.empty begun.empty;
    over = zip_push IsOver held floored begun.over records nodes so.over;
    named = λ at d lt.
        let all : at < length nodes + 1 = omega (arith, lt, length-append nodes (floored ∷ [])) in
        named_now at d lt (below_or_last at (length nodes) all);
    without_floor = All-push (λ (f : FlooredParts). f.floor ≡ None) nodes floored so.without_floor begun.floor_is;
    stand =
        subst (λ (states : List NodeState). AllZip Stand (nodes ++ floored ∷ []) states) (sym tears_more)
        (zip_push Stand floored (torn_node held.armed) begun.stands nodes (map torn_node (tears_of records)) so.stand);
  }
    where
      below_or_last : (i n : ℕ) → i < n + 1 → (i < n) ⊎ (i ≡ n)
      below_or_last i n lt = grind (arith, lt)

-- a record that isn't taken shows why no cluster is made
pub unmade_at : (config : Config) (records : List Held) (k : ℕ) (held : Held) (refusal : Refusal) → k < length records
    → held ≡ get_or records k held → IsUnbegun held refusal → IsUnmade config records refusal
unmade_at config records k held Refusal.BadConfig lt read un = λ new.
    un (subst (λ (h : Held). h.bytes ≡ []) (sym read) (new.empty k held lt))
unmade_at config records k held Refusal.RecordFault lt read un = record {
  at = k;
  within = lt;
  left = un.0;
  faulted = λ d. subst (λ (h : Held). HasFaulted h un.0) (read ∙ get_or_default records k held d lt) un.1;
}
unmade_at config records k held Refusal.NoMemory lt read un = tt
unmade_at config records k held other lt read un = absurd un

-- over the first of some records
module _ {X : Type 0} (held : X → Held) (config : Config) (sizes : Sizes) (are : AreSizes config sizes) (all done : List X)
    (nodes : List FlooredParts) (so : AreBegun config (map held done) nodes) where
  -- there are as many nodes as records that were opened
  pub count_here : length nodes ≡ length done
  count_here = zip_length IsOver (map held done) nodes so.over ∙ length-map done held

  -- and one more
  module _ (x : X) (lt : length done < length all) (read : x ≡ get_or all (length done) x) where
    -- one node more has begun
    pub begun_next : (who : NodeId) → who ≡ node_in (config_by sizes []) (length nodes) → (node : FlooredParts)
        → IsBegun config who (held x) node → (new : List FlooredParts) → new ≡ nodes ++ node ∷ []
        → AreBegun config (map held (done ++ x ∷ [])) new
    begun_next who named node begun new new_is =
        subst (λ (ns : List FlooredParts). AreBegun config (map held (done ++ x ∷ [])) ns) (sym new_is)
        (subst (λ (records : List Held). AreBegun config records (nodes ++ node ∷ [])) (sym (map_push held done x))
        (begun_more config sizes are (map held done) nodes (held x) node so who named begun))

    -- where one doesn't, the cluster isn't made
    pub unmade_next : (refusal : Refusal) → IsUnbegun (held x) refusal → IsUnmade config (map held all) refusal
    unmade_next refusal un =
        let within : length done < length (map held all) = omega (arith, lt, length-map all held) in
        unmade_at config (map held all) (length done) (held x) refusal within
        (ap held read ∙ sym (get_or-map held all (length done) x (held x) lt)) un

-- ---- the world that it stands for

-- an item put in the place of one
set_at : {X : Type 0} (xs : List X) (x y : X) (ys : List X) → slice_set (xs ++ x ∷ ys) (length xs) y ≡ xs ++ y ∷ ys
set_at [] x y ys = refl
set_at (z ∷ xs) x y ys = ap (λ (zs : List _). z ∷ zs) (set_at xs x y ys)

get_at : {X : Type 0} (xs : List X) (x : X) (ys : List X) → slice_get (xs ++ x ∷ ys) (length xs) ≡ Some x
get_at [] x ys = refl
get_at (z ∷ xs) x ys = get_at xs x ys

module _ (config : Config) where
  abbrev machine_of : List NodeState → World
  machine_of nodes = record { nodes = nodes; net = [] }

  abbrev world_of : List NodeState → FlooredWorld
  world_of nodes = record (floored_opening config) { machine = machine_of nodes }

  abbrev fresh : List (Option ℕ) → List NodeState
  fresh tears = map (λ tear. new_node) tears

  -- a new node among others is torn
  module _ (done : List NodeState) (rest : List NodeState) (n : ℕ) (lt : length done < count_of config) where
    abbrev before : World
    before = machine_of (done ++ new_node ∷ rest)

    abbrev who : NodeId
    who = node_in config (length done)

    placed : place config who ≡ Some (length done)
    placed = name_placed config (length done) lt

    found : node_at config before who ≡ Some new_node
    found =
        ap (λ (o : Option ℕ). option_and_then (λ (at : ℕ). slice_get before.nodes at) o) placed ∙ get_at done new_node rest

    torn_there : (world_step config before (Tear who n) NoFault).world ≡ machine_of (done ++ torn_node (Some n) ∷ rest)
    torn_there =
        ap (λ (o : Option NodeState). (if_found before (λ (node : NodeState).
        answer_result (set_node config before who (record node { tear = Some n })) Done) o).world) found
        ∙ ap (λ (o : Option ℕ). machine_of (option_map_or (λ (at : ℕ). slice_set before.nodes at (torn_node (Some n))) o before.nodes))
        placed
        ∙ ap machine_of (set_at done new_node (torn_node (Some n)) rest)

    torn_then : (floored_step config (world_of (done ++ new_node ∷ rest)) (Machine (Tear who n)) NoFault).world
        ≡ world_of (done ++ torn_node (Some n) ∷ rest)
    torn_then = ap (λ (machine : World). record (floored_opening config) { machine = machine }) torn_there

    torn_reached : IsFlooredReachable config (world_of (done ++ new_node ∷ rest))
        → IsFlooredReachable config (world_of (done ++ torn_node (Some n) ∷ rest))
    torn_reached h =
        subst (IsFlooredReachable config) torn_then (After (world_of (done ++ new_node ∷ rest)) (Machine (Tear who n)) NoFault h)

  -- one node after another is torn, where it is to be
  torn_all : (done rest : List (Option ℕ)) → length done + length rest ≡ count_of config
      → IsFlooredReachable config (world_of (map torn_node done ++ fresh rest))
      → IsFlooredReachable config (world_of (map torn_node (done ++ rest)))
  torn_all done [] count h =
      subst (λ (nodes : List NodeState). IsFlooredReachable config (world_of nodes))
      (append-nil (map torn_node done) ∙ ap (map torn_node) (sym (append-nil done))) h
  torn_all done (None ∷ rest) count h =
      subst (λ (tears : List (Option ℕ)). IsFlooredReachable config (world_of (map torn_node tears))) (append_assoc done (None ∷ []) rest)
      (torn_all (done ++ None ∷ []) rest (count_more None)
      (subst (λ (nodes : List NodeState). IsFlooredReachable config (world_of nodes)) (moved None) h))
    where
      count_more : (tear : Option ℕ) → length (done ++ tear ∷ []) + length rest ≡ count_of config
      count_more tear = omega (arith, count, length-append done (tear ∷ []))

      moved : (tear : Option ℕ) → map torn_node done ++ torn_node tear ∷ fresh rest ≡ map torn_node (done ++ tear ∷ []) ++ fresh rest
      moved tear =
          sym (append_assoc (map torn_node done) (torn_node tear ∷ []) (fresh rest))
          ∙ ap (λ (nodes : List NodeState). nodes ++ fresh rest) (sym (map_push torn_node done tear))
  torn_all done (Some n ∷ rest) count h =
      subst (λ (tears : List (Option ℕ)). IsFlooredReachable config (world_of (map torn_node tears))) (append_assoc done (Some n ∷ []) rest)
      (torn_all (done ++ Some n ∷ []) rest (count_more (Some n))
      (subst (λ (nodes : List NodeState). IsFlooredReachable config (world_of nodes)) (moved (Some n))
      (torn_reached (map torn_node done) (fresh rest) n here h)))
    where
      count_more : (tear : Option ℕ) → length (done ++ tear ∷ []) + length rest ≡ count_of config
      count_more tear = omega (arith, count, length-append done (tear ∷ []))

      moved : (tear : Option ℕ) → map torn_node done ++ torn_node tear ∷ fresh rest ≡ map torn_node (done ++ tear ∷ []) ++ fresh rest
      moved tear =
          sym (append_assoc (map torn_node done) (torn_node tear ∷ []) (fresh rest))
          ∙ ap (λ (nodes : List NodeState). nodes ++ fresh rest) (sym (map_push torn_node done tear))

      here : length (map torn_node done) < count_of config
      here = omega (arith, count, length-map done torn_node)

  pub opening_reached : (tears : List (Option ℕ)) → length tears ≡ count_of config → IsFlooredReachable config (opening_with config tears)
  opening_reached tears count =
      torn_all [] tears (omega (arith, count))
      (subst (λ (nodes : List NodeState). IsFlooredReachable config (world_of nodes)) (splat_is_map tears (count_of config) new_node count)
      Opening)

  -- no tear is armed
  none_torn : (records : List Held) → NoneArmed records → map torn_node (tears_of records) ≡ replicate (length records) new_node
  none_torn [] none = refl
  none_torn (held ∷ records) none =
      ap (λ (tear : Option ℕ). torn_node tear ∷ map torn_node (tears_of records))
      (All-head (λ (h : Held). h.armed ≡ None) held records none)
      ∙ ap (λ (nodes : List NodeState). new_node ∷ nodes)
      (none_torn records (All-tail (λ (h : Held). h.armed ≡ None) held records none))

-- ---- the cluster

-- a node that has no floor has forgotten nothing
floored_one : (config : Config) (floored : FlooredParts) (m : NodeState) → floored.floor ≡ None → NodeStands config floored.node m
    → FlooredStands config floored m
floored_one config floored m none stands = record {
  from = config;
  few = m;
  is = stands;
  above =
      subst (λ (f : Option Place). StandsAbove config config floored.node.who f m m) (sym none)
      (stands_whole config floored.node.who m stands.stands.played);
}

floored_all : (config : Config) (nodes : List FlooredParts) (states : List NodeState)
    → AllZip (λ floored. NodeStands config floored.node) nodes states → All (λ floored. floored.floor ≡ None) nodes
    → AllZip (FlooredStands config) nodes states
floored_all config [] [] all none = tt
floored_all config [] (m ∷ states) all none = absurd all
floored_all config (floored ∷ nodes) [] all none = absurd all
floored_all config (floored ∷ nodes) (m ∷ states) all none = (
  floored_one config floored m (All-head (λ (f : FlooredParts). f.floor ≡ None) floored nodes none) all.0,
  floored_all config nodes states all.1 (All-tail (λ (f : FlooredParts). f.floor ≡ None) floored nodes none),
)

-- nothing was told to any of them
untold_all : (config : Config) (sizes : Sizes) → AreSizes config sizes → (told : List (List (Option Place)))
    → told ≡ replicate (node_count sizes) (replicate sizes.managers None) → AreTold config told (floored_opening config).told
untold_all config sizes are told told_is =
    subst (λ (t : List (List (Option Place))). AreTold config t (floored_opening config).told) (sym told_is) (record {
      count = whole;
      each_count = λ at d lt.
          ap length (get_or-replicate (node_count sizes) at none d (omega (arith, lt, length-replicate (node_count sizes) none)))
          ∙ length-replicate sizes.managers None ∙ are.managers_are;
      told_are = λ who at rm d h few.
          let inside : at < node_count sizes =
          omega (arith, place_within config who at h, are.acceptors_are, are.leaders_are, are.managers_are) in
          ap (λ (list : List (Option Place)). told_at list rm) (get_or-replicate (node_count sizes) at none d inside)
          ∙ get_or-replicate sizes.managers rm None None (omega (arith, few, are.managers_are));
    })
  where
    none : List (Option Place)
    none = replicate sizes.managers None

    whole : length (replicate (node_count sizes) none) ≡ config.acceptors + config.leaders + config.managers
    whole =
        omega (arith, length-replicate (node_count sizes) none, are.acceptors_are, are.leaders_are, are.managers_are)

module _ (config : Config) (sizes : Sizes) (are : AreSizes config sizes) (records : List Held) (nodes : List FlooredParts)
    (network : NetworkParts) (empty : StandsFor network []) (count : length records ≡ node_count sizes)
    (begun : AreBegun config records nodes) (notices : NoticesParts)
    (untold : notices.told ≡ replicate (node_count sizes) (replicate sizes.managers None)) (none : notices.all ≡ []) where
  all : length records ≡ count_of config
  all = omega (arith, count, are.acceptors_are, are.leaders_are, are.managers_are)

  tears_count : length (tears_of records) ≡ count_of config
  tears_count = length-map records (λ (h : Held). h.armed) ∙ all

  nodes_count : length nodes ≡ count_of config
  nodes_count = zip_length IsOver records nodes begun.over ∙ all

  within : (who : NodeId) (at : ℕ) → place config who ≡ Some at → at < length nodes
  within who at h = omega (arith, place_within config who at h, nodes_count)

  stands : ClusterStands config (cluster_of sizes nodes network notices) (opening_with config (tears_of records))
  stands = record {
    sizes_are = are;
    nodes_are = record {
      count = nodes_count;
      named = λ who at d h. begun.named at d (within who at h) ∙ name_there config who at h;
      floors_are = λ who at d h. begun.without_floor at d (within who at h);
      stand = floored_all config nodes (map torn_node (tears_of records)) begun.stand begun.without_floor;
    };
    net_is = empty;
    told_are = untold_all config sizes are notices.told untold;
    notices_are = none;
  }

  -- a cluster that was made is sound
  pub made_sound : IsSound (cluster_of sizes nodes network notices)
  made_sound = record {
    config = config;
    world = opening_with config (tears_of records);
    reached = opening_reached config (tears_of records) tears_count;
    is = stands;
  }

  -- it is made of its records
  pub made : IsMade config records (cluster_of sizes nodes network notices)
  made = record {
    new = record { count = all; empty = begun.empty };
    over = begun.over;
    reached = opening_reached config (tears_of records) tears_count;
    stands = stands;
    unarmed = λ torn.
        subst (λ (world : FlooredWorld). ClusterStands config (cluster_of sizes nodes network notices) world)
        (ap (λ (states : List NodeState). record (floored_opening config) { machine = record { nodes = states; net = [] } })
        (none_torn config records torn ∙ ap (λ (n : ℕ). replicate n new_node) all)) stands;
  }
