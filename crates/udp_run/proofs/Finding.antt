-- Where the ports of a cluster's nodes are found.
use Rattle.std.proofs.Common.{◌≡◌, ◌≢◌, ◌∙◌, inl, inr, ℕ, zero, suc, ◌+◌, ◌-◌, ◌<◌, ◌≤◌, Bool, true, false, List, [], ◌∷◌, ◌++◌, length}
use Rattle.std.proofs.Common.{get_or, set, take, drop, map, Option, Some, refl, sym, ap, subst, nat_lt, arith}
use Rattle.std.specs.Prelude.{◌==◌, ◌&&◌, ◌||◌, if◌then◌else◌, nat_le, slice_get}
use Rattle.std.specs.List.{list_all}
use Rattle.std.specs.Option.{option_and_then}
use Rattle.std.proofs.lemmas.Bool.{and_parts, cases_lt, lt-ltb, le-ltb, ltb-true}
use Rattle.std.proofs.lemmas.Bool.Decides.{nat_tests}
use Rattle.std.proofs.lemmas.List.{get_or_append_left, get_or_push, length_push, length-set, length-map, get_or-set_same}
use Rattle.std.proofs.lemmas.List.{get_or-map, get_or-drop, take_more_set, drop_more, drop-set-lt, map_more}
use Rattle.std.proofs.lemmas.Option.{slice_get-get_or}
use Rattle.xid.specs.Limits.{most_leaders, most_managers}
use Rattle.branch_table.specs.TableStates.{are_rows}
use Rattle.protocol.specs.declared.nodes.NodeId.{NodeId}
use Rattle.protocol.specs.declared.nodes.NodeId.TheVariants.{A, L, R}
use Rattle.protocol.specs.Effects.{Config}
use Rattle.node_core.specs.declared.config.Sizes.{Sizes}
use Rattle.node_core.specs.Configs.{are_sizes, is_config, config_by}
use Rattle.node_core.specs.Nodes.{AreSizes}
use Rattle.node_core.specs.Places.{node_count}
use Rattle.node_core.proofs.Placed.{place_within, placed_at}
use Rattle.node_core.proofs.Sizing.{odd_few}
use Rattle.port.specs.declared.addresses.Addresses.{Addresses}
use Rattle.port.specs.declared.udp.UdpPort.{UdpPort}
use Rattle.port.specs.Addresses.{address_of, with_address}
use Rattle.udp_run.specs.Sites.{place_in}
use Rattle.udp_run.specs.Runs.{AreStanding, ArePorts, FindsEach, finding}

-- ---- one node for each place

-- the node of a place
abbrev name_by : Bool → Bool → (at acceptors leaders : ℕ) → NodeId
name_by acceptor leader at acceptors leaders =
    if acceptor then A at
    else if leader then L (at - acceptors)
    else R (at - acceptors - leaders)

abbrev name_of : Sizes → ℕ → NodeId
name_of sizes at =
    name_by (nat_lt at sizes.acceptors) (nat_lt at (sizes.acceptors + sizes.leaders)) at sizes.acceptors sizes.leaders

name_there : (sizes : Sizes) (who : NodeId) (at : ℕ) → place_in sizes who ≡ Some at → name_of sizes at ≡ who
name_there sizes (A a) at e =
    let p = placed_at (nat_lt a sizes.acceptors) a at e in
    let lt : a < sizes.acceptors = ltb-true a sizes.acceptors p.0 in
    let here : a ≡ at = p.1 in
    let below : nat_lt at sizes.acceptors ≡ true = lt-ltb at sizes.acceptors (omega (arith, lt, here)) in
    ap (λ (t : Bool). name_by t (nat_lt at (sizes.acceptors + sizes.leaders)) at sizes.acceptors sizes.leaders) below ∙ ap A (sym here)
name_there sizes (L l) at e =
    let p = placed_at (nat_lt l sizes.leaders) (sizes.acceptors + l) at e in
    let lt : l < sizes.leaders = ltb-true l sizes.leaders p.0 in
    let here : sizes.acceptors + l ≡ at = p.1 in
    let own : at - sizes.acceptors ≡ l = omega (arith, here) in
    let past : nat_lt at sizes.acceptors ≡ false = le-ltb at sizes.acceptors (omega (arith, here)) in
    let below : nat_lt at (sizes.acceptors + sizes.leaders) ≡ true =
    lt-ltb at (sizes.acceptors + sizes.leaders) (omega (arith, lt, here)) in
    ap (λ (t : Bool). name_by t (nat_lt at (sizes.acceptors + sizes.leaders)) at sizes.acceptors sizes.leaders) past
    ∙ ap (λ (t : Bool). name_by false t at sizes.acceptors sizes.leaders) below ∙ ap L own
name_there sizes (R rm) at e =
    let p = placed_at (nat_lt rm sizes.managers) (sizes.acceptors + sizes.leaders + rm) at e in
    let here : sizes.acceptors + sizes.leaders + rm ≡ at = p.1 in
    let own : at - sizes.acceptors - sizes.leaders ≡ rm = omega (arith, here) in
    let past : nat_lt at sizes.acceptors ≡ false = le-ltb at sizes.acceptors (omega (arith, here)) in
    let far : nat_lt at (sizes.acceptors + sizes.leaders) ≡ false = le-ltb at (sizes.acceptors + sizes.leaders) (omega (arith, here)) in
    ap (λ (t : Bool). name_by t (nat_lt at (sizes.acceptors + sizes.leaders)) at sizes.acceptors sizes.leaders) past
    ∙ ap (λ (t : Bool). name_by false t at sizes.acceptors sizes.leaders) far ∙ ap R own

same_node : (sizes : Sizes) (one other : NodeId) (at : ℕ) → place_in sizes one ≡ Some at → place_in sizes other ≡ Some at → one ≡ other
same_node sizes one other at e f = sym (name_there sizes one at e) ∙ name_there sizes other at f

-- ---- within the limits

-- a cluster has no more nodes than addresses have room for
pub record AreFew (sizes : Sizes) : Type 0 where
  pub acceptors : sizes.acceptors ≤ 7
  pub leaders : sizes.leaders ≤ 4
  pub managers : sizes.managers ≤ 64

at_most : (m n : ℕ) → nat_le m n ≡ true → m ≤ n
at_most m n h = grind (arith, nat_tests)

-- sizes within the limits are few
pub few_of : (sizes : Sizes) → are_sizes sizes.acceptors sizes.leaders sizes.managers ≡ true → AreFew sizes
few_of sizes h =
    let odd = sizes.acceptors == 1 || sizes.acceptors == 3 || sizes.acceptors == 5 || sizes.acceptors == 7 in
    let few = nat_lt 0 sizes.leaders && nat_le sizes.leaders most_leaders in
    let named = nat_lt 0 sizes.managers && nat_le sizes.managers most_managers in
    let front = and_parts (odd && few) named h in
    let both = and_parts odd few front.0 in
    record {
      acceptors = odd_few sizes.acceptors both.0;
      leaders = at_most sizes.leaders 4 (and_parts (nat_lt 0 sizes.leaders) (nat_le sizes.leaders most_leaders) both.1).1;
      managers = at_most sizes.managers 64 (and_parts (nat_lt 0 sizes.managers) (nat_le sizes.managers most_managers) front.1).1;
    }

-- ---- addresses

module _ {X : Type 0} where
  got_same : (xs : List X) (i : ℕ) (x : X) → i < length xs → slice_get (set xs i x) i ≡ Some x
  got_same xs i x lt =
      slice_get-get_or (set xs i x) i x (subst (λ (n : ℕ). i < n) (sym (length-set xs i x)) lt) ∙ ap Some (get_or-set_same xs i x x lt)

  got_other : (xs : List X) (i j : ℕ) (x : X) → j ≢ i → slice_get (set xs i x) j ≡ slice_get xs j
  got_other [] i j x ne = refl
  got_other (y ∷ ys) zero zero x ne = absurd (ne refl)
  got_other (y ∷ ys) zero (suc j) x ne = refl
  got_other (y ∷ ys) (suc i) zero x ne = refl
  got_other (y ∷ ys) (suc i) (suc j) x ne = got_other ys i j x (λ e. ne (ap suc e))

-- there is room for each node that a cluster may have
pub record AreWide (addresses : Addresses) : Type 0 where
  pub acceptors : length addresses.acceptors ≡ 7
  pub leaders : length addresses.leaders ≡ 4
  pub managers : length addresses.managers ≡ 64

put_wide : (addresses : Addresses) (who : NodeId) (n : ℕ) → AreWide addresses → AreWide (with_address addresses who n)
put_wide addresses (A a) n wide =
    record { acceptors = length-set addresses.acceptors a (Some n) ∙ wide.acceptors; leaders = wide.leaders; managers = wide.managers }
put_wide addresses (L l) n wide =
    record { acceptors = wide.acceptors; leaders = length-set addresses.leaders l (Some n) ∙ wide.leaders; managers = wide.managers }
put_wide addresses (R rm) n wide =
    record { acceptors = wide.acceptors; leaders = wide.leaders; managers = length-set addresses.managers rm (Some n) ∙ wide.managers }

abbrev joined : Option (Option ℕ) → Option ℕ
joined found = option_and_then (λ (o : Option ℕ). o) found

-- the node that was put is found there
put_found : (sizes : Sizes) → AreFew sizes → (addresses : Addresses) → AreWide addresses → (who : NodeId) (at n : ℕ)
    → place_in sizes who ≡ Some at → address_of (with_address addresses who n) who ≡ Some n
put_found sizes few addresses wide (A a) at n e =
    let lt : a < sizes.acceptors = ltb-true a sizes.acceptors (placed_at (nat_lt a sizes.acceptors) a at e).0 in
    let most : sizes.acceptors ≤ 7 = few.acceptors in
    let long : length addresses.acceptors ≡ 7 = wide.acceptors in
    ap joined (got_same addresses.acceptors a (Some n) (omega (arith, lt, most, long)))
put_found sizes few addresses wide (L l) at n e =
    let lt : l < sizes.leaders = ltb-true l sizes.leaders (placed_at (nat_lt l sizes.leaders) (sizes.acceptors + l) at e).0 in
    let most : sizes.leaders ≤ 4 = few.leaders in
    let long : length addresses.leaders ≡ 4 = wide.leaders in
    ap joined (got_same addresses.leaders l (Some n) (omega (arith, lt, most, long)))
put_found sizes few addresses wide (R rm) at n e =
    let lt : rm < sizes.managers =
    ltb-true rm sizes.managers (placed_at (nat_lt rm sizes.managers) (sizes.acceptors + sizes.leaders + rm) at e).0 in
    let most : sizes.managers ≤ 64 = few.managers in
    let long : length addresses.managers ≡ 64 = wide.managers in
    ap joined (got_same addresses.managers rm (Some n) (omega (arith, lt, most, long)))

-- and all others where they were
put_left : (addresses : Addresses) (who other : NodeId) (n : ℕ) → other ≢ who
    → address_of (with_address addresses who n) other ≡ address_of addresses other
put_left addresses (A a) (A b) n ne = ap joined (got_other addresses.acceptors a b (Some n) (λ e. ne (ap A e)))
put_left addresses (L l) (L k) n ne = ap joined (got_other addresses.leaders l k (Some n) (λ e. ne (ap L e)))
put_left addresses (R r) (R s) n ne = ap joined (got_other addresses.managers r s (Some n) (λ e. ne (ap R e)))
put_left addresses (A a) (L k) n ne = refl
put_left addresses (A a) (R s) n ne = refl
put_left addresses (L l) (A b) n ne = refl
put_left addresses (L l) (R s) n ne = refl
put_left addresses (R r) (A b) n ne = refl
put_left addresses (R r) (L k) n ne = refl

-- ---- one port after another

-- the ports so far, and addresses with room for more
pub record AreBound (sizes : Sizes) (at : ℕ) (ports : List UdpPort) (addresses : Addresses) : Type 0 where
  pub wide : AreWide addresses
  pub standing : AreStanding sizes at ports addresses

module _ (sizes : Sizes) (few : AreFew sizes) (at : ℕ) (ports : List UdpPort) (addresses : Addresses) (port : UdpPort) (who : NodeId)
    (placed : place_in sizes who ≡ Some at) (so : AreBound sizes at ports addresses) where
  abbrev longer : List UdpPort
  longer = ports ++ port ∷ []

  abbrev more : Addresses
  more = with_address addresses who port.number

  found_before : (other : NodeId) (k : ℕ) (d : UdpPort) → k < at → place_in sizes other ≡ Some k
      → address_of more other ≡ Some (get_or longer k d).number
  found_before other k d less there =
      let apart : other ≢ who = λ e.
      (let same : Some k ≡ Some at = sym there ∙ (ap (place_in sizes) e ∙ placed) in
      let one : k ≡ at = cc (same) in
      absurd (omega (arith, less, one))) in
      let long : length ports ≡ at = so.standing.number in
      put_left addresses who other port.number apart ∙ so.standing.found other k d less there
      ∙ ap (λ (p : UdpPort). Some p.number) (sym (get_or_append_left ports (port ∷ []) d k (omega (arith, less, long))))

  found_last : (other : NodeId) (d : UdpPort) → place_in sizes other ≡ Some at → address_of more other ≡ Some (get_or longer at d).number
  found_last other d there =
      ap (address_of more) (same_node sizes other who at there placed) ∙ put_found sizes few addresses so.wide who at port.number placed
      ∙ ap (λ (p : UdpPort). Some p.number) (sym (get_or_push ports port d at so.standing.number))

  one_bound : AreBound sizes (at + 1) longer more
  one_bound = record {
    wide = put_wide addresses who port.number so.wide;
    standing = record {
      number = length_push ports port ∙ ap (λ (n : ℕ). n + 1) so.standing.number;
      found = λ other k d lt there. elim (cases_lt k at) [
        | inl less ↦ found_before other k d less there
        | inr past ↦
            let same : at ≡ k = omega (arith, past, lt) in
            subst (λ (n : ℕ). address_of more other ≡ Some (get_or longer n d).number) same
            (found_last other d (there ∙ ap Some (sym same)))
      ];
    };
  }

  -- one port more is bound
  pub bound_next : (new : List UdpPort) (known : Addresses) → new ≡ longer → known ≡ more → AreBound sizes (at + 1) new known
  bound_next new known pushed put =
      subst (λ (ps : List UdpPort). AreBound sizes (at + 1) ps known) (sym pushed)
      (subst (AreBound sizes (at + 1) longer) (sym put) one_bound)

-- ---- each is told

-- the ports so far were told, and those from there on are as they were
pub record KnowAddresses (addresses : Addresses) (at : ℕ) (start now : List UdpPort) : Type 0 where
  pub told : take at now ≡ map (finding addresses) (take at start)
  pub rest : drop at now ≡ drop at start
  pub long : length now ≡ length start

at_front : (n : ℕ) (xs : List UdpPort) (d : UdpPort) → get_or (drop n xs) 0 d ≡ get_or xs n d
at_front n xs d = let e : n + 0 ≡ n = omega arith in get_or-drop n xs 0 d ∙ ap (λ (k : ℕ). get_or xs k d) e

module _ (addresses : Addresses) (at : ℕ) (start now : List UdpPort) (was : UdpPort) (lt : at < length now)
    (read : was ≡ get_or now at was) (so : KnowAddresses addresses at start now) where
  within : at < length start
  within = let long : length now ≡ length start = so.long in omega (arith, lt, long)

  here : was ≡ get_or start at was
  here = read ∙ sym (at_front at now was) ∙ ap (λ (xs : List UdpPort). get_or xs 0 was) so.rest ∙ at_front at start was

  behind : drop (at + 1) now ≡ drop (at + 1) start
  behind = ap (drop 1) (sym (drop_more now at was lt) ∙ so.rest ∙ drop_more start at was within)

  -- one port more knows where the others are
  pub told_next : (new : UdpPort) → new ≡ finding addresses was → KnowAddresses addresses (at + 1) start (set now at new)
  told_next new is = record {
    told =
        take_more_set now at new lt ∙ ap (λ (ps : List UdpPort). ps ++ new ∷ []) so.told
        ∙ ap (λ (p : UdpPort). map (finding addresses) (take at start) ++ p ∷ []) (is ∙ ap (finding addresses) here)
        ∙ sym (map_more (finding addresses) start at was within);
    rest = drop-set-lt (at + 1) now at new (omega arith) ∙ behind;
    long = length-set now at new ∙ so.long;
  }

-- ---- all of them

module _ (sizes : Sizes) (addresses : Addresses) (bound ports : List UdpPort)
    (standing : AreStanding sizes (node_count sizes) bound addresses) (told : ports ≡ map (finding addresses) bound) where
  long : length ports ≡ node_count sizes
  long = ap length told ∙ length-map bound (finding addresses) ∙ standing.number

  read_at : (at : ℕ) (d : UdpPort) → at < node_count sizes → get_or ports at d ≡ finding addresses (get_or bound at d)
  read_at at d lt =
      let count : length bound ≡ node_count sizes = standing.number in
      ap (λ (ps : List UdpPort). get_or ps at d) told ∙ get_or-map (finding addresses) bound at d d (omega (arith, lt, count))

  finds_each : FindsEach sizes ports addresses
  finds_each who at d placed =
      let lt : at < node_count sizes = place_within (config_by sizes []) who at placed in
      standing.found who at d lt placed ∙ ap (λ (p : UdpPort). Some p.number) (sym (read_at at d lt))

  -- all ports know it
  pub all_find : (noise : UdpPort) → noise.addresses ≡ addresses → ArePorts sizes ports noise
  all_find noise is = record {
    number = long;
    each = λ at d lt.
        let below : at < node_count sizes = subst (λ (n : ℕ). at < n) long lt in
        subst (FindsEach sizes ports) (sym (ap (λ (p : UdpPort). p.addresses) (read_at at d below))) finds_each;
    noise_too = subst (FindsEach sizes ports) (sym is) finds_each;
  }

-- the sizes of a cluster are within the limits
pub are_sizes_of : (config : Config) (sizes : Sizes) → AreSizes config sizes → is_config config ≡ true
    → are_sizes sizes.acceptors sizes.leaders sizes.managers ≡ true
are_sizes_of config sizes are h =
    let most = (and_parts (are_sizes config.acceptors config.leaders config.managers && (length config.tables == config.managers))
    (list_all are_rows config.tables) h).0 in
    ap (λ (a : ℕ). are_sizes a sizes.leaders sizes.managers) are.acceptors_are
    ∙ ap (λ (l : ℕ). are_sizes config.acceptors l sizes.managers) are.leaders_are
    ∙ ap (λ (m : ℕ). are_sizes config.acceptors config.leaders m) are.managers_are
    ∙ (and_parts (are_sizes config.acceptors config.leaders config.managers) (length config.tables == config.managers) most).0
