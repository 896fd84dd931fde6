-- Nodes by their names: a node put in its place is there, and no other is changed; marks change no message.
-- Needed by WellFormed.Runs, World.Changes, World.Events and World.Outcomes; 9 crates above.
use Rattle.std.proofs.Common.{◌≡◌, ℕ, zero, suc, ◌+◌, ◌<◌, Bool, true, false, if◌then◌else◌, List, []}
use Rattle.std.proofs.Common.{◌∷◌, Option, Some, None, refl, ap, nat_lt, arith}
use Rattle.std.specs.Prelude.{◌++◌, replicate, slice_get}
use Rattle.std.specs.List.{slice_set, flat_map}
use Rattle.std.specs.Option.{option_and_then, option_map_or}
use Rattle.std.proofs.lemmas.Bool.{ltb-true}
use Rattle.wire.specs.declared.message.Kind.{Kind}
use Rattle.safety.specs.Vocabulary.{NodeId, A, L, R}
use Rattle.protocol.specs.Effects.{Config}
use Rattle.protocol.specs.Nodes.{NodeState, new_node}
use Rattle.protocol.specs.PaperItems.{unbundled}
use Rattle.protocol.specs.Worlds.{World, Datagram, place, node_at, set_node, mark_at, opening}

-- ---- lists

set_there : {X : Type 0} (xs : List X) (p : ℕ) (x y : X) → slice_get xs p ≡ Some y → slice_get (slice_set xs p x) p ≡ Some x
set_there [] p x y h = absurd (cc (h))
set_there (z ∷ xs) zero x y h = refl
set_there (z ∷ xs) (suc p) x y h = set_there xs p x y h

set_elsewhere : {X : Type 0} (xs : List X) (p q : ℕ) (x : X) → (q ≡ p → ⊥) → slice_get (slice_set xs p x) q ≡ slice_get xs q
set_elsewhere [] p q x h = refl
set_elsewhere (z ∷ xs) zero zero x h = absurd (h refl)
set_elsewhere (z ∷ xs) zero (suc q) x h = refl
set_elsewhere (z ∷ xs) (suc p) zero x h = refl
set_elsewhere (z ∷ xs) (suc p) (suc q) x h = set_elsewhere xs p q x (λ e. h (ap suc e))

all_replicated : {X : Type 0} (n p : ℕ) (x y : X) → slice_get (replicate n x) p ≡ Some y → x ≡ y
all_replicated zero p x y h = absurd (cc (h))
all_replicated (suc n) zero x y h = cc (h)
all_replicated (suc n) (suc p) x y h = all_replicated n p x y h

-- ---- places

-- a place of a kind of nodes: numbers below a bound, after those of the kinds before
record IsPlaced (n bound before p : ℕ) : Type 0 where
  below : n < bound
  is : p ≡ before + n

placed_by : (n bound before p : ℕ) (t : Bool) → nat_lt n bound ≡ t → (if t then Some (before + n) else None) ≡ Some p
    → IsPlaced n bound before p
placed_by n bound before p true e h = record { below = ltb-true n bound e; is = cc (h) }
placed_by n bound before p false e h = absurd (cc (h))

placed_acceptor : (config : Config) (a p : ℕ) → place config (A a) ≡ Some p → IsPlaced a config.acceptors 0 p
placed_acceptor config a p h = by_test (nat_lt a config.acceptors) refl h
  where
    by_test : (t : Bool) → nat_lt a config.acceptors ≡ t → (if t then Some a else None) ≡ Some p → IsPlaced a config.acceptors 0 p
    by_test true e k = record { below = ltb-true a config.acceptors e; is = let same : a ≡ p = cc (k) in omega (arith, same) }
    by_test false e k = absurd (cc (k))

placed_leader : (config : Config) (l p : ℕ) → place config (L l) ≡ Some p → IsPlaced l config.leaders config.acceptors p
placed_leader config l p h = placed_by l config.leaders config.acceptors p (nat_lt l config.leaders) refl h

placed_manager : (config : Config) (rm p : ℕ) → place config (R rm) ≡ Some p
    → IsPlaced rm config.managers (config.acceptors + config.leaders) p
placed_manager config rm p h = placed_by rm config.managers (config.acceptors + config.leaders) p (nat_lt rm config.managers) refl h

-- one place, one node
one_place : (config : Config) (n who : NodeId) (p : ℕ) → place config n ≡ Some p → place config who ≡ Some p → n ≡ who
one_place config (A a) (A b) p h k =
    let x = placed_acceptor config a p h in let y = placed_acceptor config b p k in
    let e : a ≡ b = omega (arith, x.is, y.is) in ap A e
one_place config (L a) (L b) p h k =
    let x = placed_leader config a p h in let y = placed_leader config b p k in
    let e : a ≡ b = omega (arith, x.is, y.is) in ap L e
one_place config (R a) (R b) p h k =
    let x = placed_manager config a p h in let y = placed_manager config b p k in
    let e : a ≡ b = omega (arith, x.is, y.is) in ap R e
one_place config (A a) (L b) p h k =
    let x = placed_acceptor config a p h in let y = placed_leader config b p k in absurd (omega (arith, x.is, y.is, x.below))
one_place config (A a) (R b) p h k =
    let x = placed_acceptor config a p h in let y = placed_manager config b p k in absurd (omega (arith, x.is, y.is, x.below))
one_place config (L a) (A b) p h k =
    let x = placed_leader config a p h in let y = placed_acceptor config b p k in absurd (omega (arith, x.is, y.is, y.below))
one_place config (L a) (R b) p h k =
    let x = placed_leader config a p h in let y = placed_manager config b p k in absurd (omega (arith, x.is, y.is, x.below))
one_place config (R a) (A b) p h k =
    let x = placed_manager config a p h in let y = placed_acceptor config b p k in absurd (omega (arith, x.is, y.is, y.below))
one_place config (R a) (L b) p h k =
    let x = placed_manager config a p h in let y = placed_leader config b p k in absurd (omega (arith, x.is, y.is, y.below))

-- ---- nodes

-- the node at a place, if it is one
abbrev at_place : List NodeState → Option ℕ → Option NodeState
at_place nodes place = option_and_then (λ p. slice_get nodes p) place

-- the nodes with one put at a place, if it is one
abbrev put_at : List NodeState → NodeState → Option ℕ → List NodeState
put_at nodes new place = option_map_or (λ p. slice_set nodes p new) place nodes

there_by : (nodes : List NodeState) (node new : NodeState) (o : Option ℕ) → at_place nodes o ≡ Some node
    → at_place (put_at nodes new o) o ≡ Some new
there_by nodes node new None h = absurd (cc (h))
there_by nodes node new (Some p) h = set_there nodes p new node h

-- a node put in its place is there
pub node_there : (config : Config) (world : World) (who : NodeId) (node new : NodeState) → node_at config world who ≡ Some node
    → node_at config (set_node config world who new) who ≡ Some new
node_there config world who node new h = there_by world.nodes node new (place config who) h

elsewhere_by : (nodes : List NodeState) (new : NodeState) (o q : Option ℕ) → ((p : ℕ) → o ≡ Some p → q ≡ Some p → ⊥)
    → at_place (put_at nodes new o) q ≡ at_place nodes q
elsewhere_by nodes new None q apart = refl
elsewhere_by nodes new (Some p) None apart = refl
elsewhere_by nodes new (Some p) (Some r) apart = set_elsewhere nodes p r new (λ e. apart p refl (ap Some e))

-- and no other node is changed
pub node_elsewhere : (config : Config) (world : World) (who n : NodeId) (new : NodeState) → (n ≡ who → ⊥)
    → node_at config (set_node config world who new) n ≡ node_at config world n
node_elsewhere config world who n new apart =
    elsewhere_by world.nodes new (place config who) (place config n) (λ p at also. apart (one_place config n who p also at))

-- at first every node is a new one
opened_by : (count : ℕ) (o : Option ℕ) (node : NodeState) → at_place (replicate count new_node) o ≡ Some node → new_node ≡ node
opened_by count None node h = absurd (cc (h))
opened_by count (Some p) node h = all_replicated count p new_node node h

pub opening_node : (config : Config) (who : NodeId) (node : NodeState) → node_at config (opening config) who ≡ Some node → new_node ≡ node
opening_node config who node h = opened_by (config.acceptors + config.leaders + config.managers) (place config who) node h

-- a leader that stands in a world is one of the cluster
leader_by : (config : Config) (world : World) (l : ℕ) (node : NodeState) (o : Option ℕ) → place config (L l) ≡ o
    → at_place world.nodes o ≡ Some node → l < config.leaders
leader_by config world l node None e h = absurd (cc (h))
leader_by config world l node (Some p) e h = (placed_leader config l p e).below

pub leader_inside : (config : Config) (world : World) (l : ℕ) (node : NodeState) → node_at config world (L l) ≡ Some node
    → l < config.leaders
leader_inside config world l node h = leader_by config world l node (place config (L l)) refl h

-- ---- marks

-- a mark changes no message
pub marked_messages : (net : List Datagram) (n : ℕ)
    → flat_map (λ datagram. unbundled datagram.message) (mark_at net n) ≡ flat_map (λ datagram. unbundled datagram.message) net
marked_messages [] n = refl
marked_messages (d ∷ net) zero = refl
marked_messages (d ∷ net) (suc zero) = refl
marked_messages (d ∷ net) (suc (suc n)) = ap (λ (rest : List Kind). unbundled d.message ++ rest) (marked_messages net (suc n))
