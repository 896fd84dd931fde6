-- The nodes of a cluster, and the places where they stand. Clusters, ports of letters and runs over sockets need it.
use Rattle.std.proofs.Common.{◌≡◌, ◌∙◌, ℕ, ◌+◌, ◌-◌, ◌<◌, ◌≤◌, Bool, true, false, if◌then◌else◌, Some, None, refl, sym, ap, nat_lt, []}
use Rattle.std.proofs.Common.{arith}
use Rattle.std.proofs.lemmas.Bool.{lt-ltb, le-ltb, ltb-true, ltb-false}
use Rattle.protocol.specs.declared.nodes.NodeId.{NodeId}
use Rattle.protocol.specs.declared.nodes.NodeId.TheVariants.{A, L, R}
use Rattle.protocol.specs.Effects.{Config}
use Rattle.protocol.specs.Worlds.{place}
use Rattle.node_core.specs.declared.config.Sizes.{Sizes}
use Rattle.node_core.specs.Configs.{is_among, config_by}
use Rattle.node_core.specs.Nodes.{AreSizes}
use Rattle.node_core.specs.Places.{node_count, node_in}

-- how many nodes a cluster has
abbrev pub count_of : Config → ℕ
count_of config = config.acceptors + config.leaders + config.managers

-- the names of places
module _ (config : Config) (at : ℕ) where
  abbrev is_leader : Bool
  is_leader = nat_lt at (config.acceptors + config.leaders)

  abbrev name_by : Bool → Bool → NodeId
  name_by a l =
      if a then A at
      else if l then L (at - config.acceptors)
      else R (at - config.acceptors - config.leaders)

  -- the first places are those of acceptors
  pub acceptor_named : at < config.acceptors → node_in config at ≡ A at
  acceptor_named lt = ap (λ (a : Bool). name_by a is_leader) (lt-ltb at config.acceptors lt)

  -- those behind them are leaders'
  pub leader_named : config.acceptors ≤ at → at < config.acceptors + config.leaders → node_in config at ≡ L (at - config.acceptors)
  leader_named le lt =
      ap (λ (a : Bool). name_by a is_leader) (le-ltb at config.acceptors le)
      ∙ ap (λ (l : Bool). name_by false l) (lt-ltb at (config.acceptors + config.leaders) lt)

  pub manager_named : config.acceptors + config.leaders ≤ at → node_in config at ≡ R (at - config.acceptors - config.leaders)
  manager_named le =
      let past : config.acceptors ≤ at = omega (arith, le) in
      ap (λ (a : Bool). name_by a is_leader) (le-ltb at config.acceptors past)
      ∙ ap (λ (l : Bool). name_by false l) (le-ltb at (config.acceptors + config.leaders) le)

-- what a test of a place says
pub placed_at : (t : Bool) (x at : ℕ) → (if t then Some x else None) ≡ Some at → (t ≡ true) × (x ≡ at)
placed_at true x at e = (refl, cc (e))
placed_at false x at e = absurd (cc (e))

-- the name of a place is that of the node that stands there
pub name_there : (config : Config) (who : NodeId) (at : ℕ) → place config who ≡ Some at → node_in config at ≡ who
name_there config (A a) at e =
    let p = placed_at (nat_lt a config.acceptors) a at e in
    let lt : a < config.acceptors = ltb-true a config.acceptors p.0 in
    let here : a ≡ at = p.1 in
    acceptor_named config at (omega (arith, lt, here)) ∙ ap A (sym here)
name_there config (L l) at e =
    let p = placed_at (nat_lt l config.leaders) (config.acceptors + l) at e in
    let lt : l < config.leaders = ltb-true l config.leaders p.0 in
    let here : config.acceptors + l ≡ at = p.1 in
    let own : at - config.acceptors ≡ l = omega (arith, here) in
    leader_named config at (omega (arith, here)) (omega (arith, lt, here)) ∙ ap L own
name_there config (R rm) at e =
    let p = placed_at (nat_lt rm config.managers) (config.acceptors + config.leaders + rm) at e in
    let here : config.acceptors + config.leaders + rm ≡ at = p.1 in
    let own : at - config.acceptors - config.leaders ≡ rm = omega (arith, here) in
    manager_named config at (omega (arith, here)) ∙ ap R own

-- and stands there
module _ (config : Config) (at : ℕ) (lt : at < count_of config) where
  acceptor_placed : at < config.acceptors → place config (A at) ≡ Some at
  acceptor_placed below = ap (λ (t : Bool). if t then Some at else None) (lt-ltb at config.acceptors below)

  leader_placed : config.acceptors ≤ at → at < config.acceptors + config.leaders → place config (L (at - config.acceptors)) ≡ Some at
  leader_placed le below =
      let few : at - config.acceptors < config.leaders = omega (arith, le, below) in
      let here : config.acceptors + (at - config.acceptors) ≡ at = omega (arith, le) in
      ap (λ (t : Bool). if t then Some (config.acceptors + (at - config.acceptors)) else None)
      (lt-ltb (at - config.acceptors) config.leaders few)
      ∙ ap (λ (n : ℕ). Some n) here

  manager_placed : config.acceptors + config.leaders ≤ at → place config (R (at - config.acceptors - config.leaders)) ≡ Some at
  manager_placed le =
      let few : at - config.acceptors - config.leaders < config.managers = omega (arith, le, lt) in
      let here : config.acceptors + config.leaders + (at - config.acceptors - config.leaders) ≡ at = omega (arith, le) in
      ap (λ (t : Bool). if t then Some (config.acceptors + config.leaders + (at - config.acceptors - config.leaders)) else None)
      (lt-ltb (at - config.acceptors - config.leaders) config.managers few)
      ∙ ap (λ (n : ℕ). Some n) here

  placed_as : (who : NodeId) → node_in config at ≡ who → place config who ≡ Some at → place config (node_in config at) ≡ Some at
  placed_as who e h = ap (place config) e ∙ h

  placed_by : (a l : Bool) → nat_lt at config.acceptors ≡ a → nat_lt at (config.acceptors + config.leaders) ≡ l
      → place config (node_in config at) ≡ Some at
  placed_by true l e f =
      let below : at < config.acceptors = ltb-true at config.acceptors e in
      placed_as (A at) (acceptor_named config at below) (acceptor_placed below)
  placed_by false true e f =
      let le : config.acceptors ≤ at = ltb-false at config.acceptors e in
      let below : at < config.acceptors + config.leaders = ltb-true at (config.acceptors + config.leaders) f in
      placed_as (L (at - config.acceptors)) (leader_named config at le below) (leader_placed le below)
  placed_by false false e f =
      let le : config.acceptors + config.leaders ≤ at = ltb-false at (config.acceptors + config.leaders) f in
      placed_as (R (at - config.acceptors - config.leaders)) (manager_named config at le) (manager_placed le)

  -- the node at a place stands at that place
  pub name_placed : place config (node_in config at) ≡ Some at
  name_placed = placed_by (nat_lt at config.acceptors) (nat_lt at (config.acceptors + config.leaders)) refl refl

-- a node that stands in a place is one of the cluster
pub among_placed : (config : Config) (who : NodeId) (at : ℕ) → place config who ≡ Some at → is_among config who ≡ true
among_placed config (A a) at e = (placed_at (nat_lt a config.acceptors) a at e).0
among_placed config (L l) at e = (placed_at (nat_lt l config.leaders) (config.acceptors + l) at e).0
among_placed config (R rm) at e = (placed_at (nat_lt rm config.managers) (config.acceptors + config.leaders + rm) at e).0

-- the sizes of a cluster say which node stands where
pub name_as : (config : Config) (sizes : Sizes) → AreSizes config sizes → (at : ℕ) → node_in (config_by sizes []) at ≡ node_in config at
name_as config sizes are at =
    ap (λ (a : ℕ). if nat_lt at a then A at else if nat_lt at (a + sizes.leaders) then L (at - a) else R (at - a - sizes.leaders))
    are.acceptors_are
    ∙ ap (λ (l : ℕ). if nat_lt at config.acceptors then A at else if nat_lt at (config.acceptors + l) then L (at - config.acceptors)
    else R (at - config.acceptors - l)) are.leaders_are

-- the next node is one of the cluster
pub next_among : (config : Config) (sizes : Sizes) → AreSizes config sizes → (at : ℕ) (who : NodeId) → who ≡ node_in (config_by sizes []) at
    → at < node_count sizes → is_among config who ≡ true
next_among config sizes are at who named lt =
    let few : at < count_of config = omega (arith, lt, are.acceptors_are, are.leaders_are, are.managers_are) in
    ap (is_among config) (named ∙ name_as config sizes are at)
    ∙ among_placed config (node_in config at) at (name_placed config at few)

-- ---- a place is one of so many

below_by : (number bound before at : ℕ) (t : Bool) → nat_lt number bound ≡ t → (if t then Some (before + number) else None) ≡ Some at
    → at < before + bound
below_by number bound before at true e h =
    let lt : number < bound = ltb-true number bound e in
    let same : before + number ≡ at = cc (h) in
    omega (arith, lt, same)
below_by number bound before at false e h = absurd (cc (h))

first_below : (number bound at : ℕ) (t : Bool) → nat_lt number bound ≡ t → (if t then Some number else None) ≡ Some at → at < bound
first_below number bound at true e h =
    let lt : number < bound = ltb-true number bound e in
    let same : number ≡ at = cc (h) in
    omega (arith, lt, same)
first_below number bound at false e h = absurd (cc (h))

-- a node stands at a place below the count of nodes
pub place_within : (config : Config) (who : NodeId) (at : ℕ) → place config who ≡ Some at
    → at < config.acceptors + config.leaders + config.managers
place_within config (A a) at h =
    let lt : at < config.acceptors = first_below a config.acceptors at (nat_lt a config.acceptors) refl h in omega (arith, lt)
place_within config (L l) at h =
    let lt : at < config.acceptors + config.leaders =
    below_by l config.leaders config.acceptors at (nat_lt l config.leaders) refl h in
    omega (arith, lt)
place_within config (R rm) at h =
    below_by rm config.managers (config.acceptors + config.leaders) at (nat_lt rm config.managers) refl h
