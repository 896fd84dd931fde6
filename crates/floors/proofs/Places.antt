-- Nodes in their places: one that is put back as it was changes nothing, and what holds of a node and of one put there holds after.
use Rattle.std.proofs.Common.{◌≡◌, ℕ, zero, suc, List, [], ◌∷◌, ◌++◌, Option, Some, None, true, refl, sym, ap, append-nil, arith}
use Rattle.std.specs.Prelude.{slice_get, length}
use Rattle.std.specs.List.{slice_set}
use Rattle.std.specs.Option.{option_and_then, option_map_or}
use Rattle.std.proofs.lemmas.Option.{slice_get_past}
use Rattle.std.proofs.lemmas.Bool.{eqb-true, eq-eqb}
use Rattle.protocol.specs.Basics.{Fact}
use Rattle.safety.specs.Vocabulary.{NodeId, A, L, R, Answer}
use Rattle.protocol.specs.Effects.{Config}
use Rattle.protocol.specs.Nodes.{NodeState, answer_outcome}
use Rattle.protocol.specs.Worlds.{World, place, node_at, set_node, change_of, outcome_result, answer_result}
use Rattle.safety.proofs.World.Changes.{change_by}
use Rattle.floors.specs.Worlds.{is_node}

-- ---- names of nodes

-- the test of nodes is equality
pub node_is : (n who : NodeId) → is_node n who ≡ true → n ≡ who
node_is (A a) (A b) e = ap A (eqb-true a b e)
node_is (L a) (L b) e = ap L (eqb-true a b e)
node_is (R a) (R b) e = ap R (eqb-true a b e)
node_is n who e = absurd (cc (e))

pub self_node : (who : NodeId) → is_node who who ≡ true
self_node (A a) = eq-eqb a a refl
self_node (L l) = eq-eqb l l refl
self_node (R rm) = eq-eqb rm rm refl

-- ---- a node that is as it was

set_same : {X : Type 0} (xs : List X) (p : ℕ) (x : X) → slice_get xs p ≡ Some x → slice_set xs p x ≡ xs
set_same [] p x h = refl
set_same (z ∷ xs) zero x h = let same : z ≡ x = cc (h) in ap (λ y. y ∷ xs) (sym same)
set_same (z ∷ xs) (suc p) x h = ap (λ rest. z ∷ rest) (set_same xs p x h)

same_by : (nodes : List NodeState) (x : NodeState) (o : Option ℕ) → option_and_then (λ at. slice_get nodes at) o ≡ Some x
    → option_map_or (λ at. slice_set nodes at x) o nodes ≡ nodes
same_by nodes x None h = refl
same_by nodes x (Some p) h = set_same nodes p x h

-- a world of the same nodes and datagrams
pub same_world : (a b : World) → a.nodes ≡ b.nodes → a.net ≡ b.net → a ≡ b
same_world a b nodes net = λ i. record { nodes = nodes i; net = net i }

-- where nothing is stored no view is changed
unsaid : (who : NodeId) (facts : List Fact) → change_of who facts facts ≡ None
unsaid (R rm) facts =
    ap (λ (o : Option Fact). option_and_then (change_by rm facts facts) o) (slice_get_past facts (length facts) (omega arith))
unsaid (A a) facts = refl
unsaid (L l) facts = refl

module _ (config : Config) (world : World) (who : NodeId) (node : NodeState) (is : node_at config world who ≡ Some node) where
  pub put_same : set_node config world who node ≡ world
  put_same = same_world (set_node config world who node) world (same_by world.nodes node (place config who) is) refl

  -- an answer alone
  pub still : (answer : Answer) → outcome_result config world who node.facts (answer_outcome node answer) ≡ answer_result world answer
  still answer = λ i. record {
    world = same_world (record (set_node config world who node) { net = world.net ++ [] }) world
        (same_by world.nodes node (place config who) is) (append-nil world.net) i;
    answer = answer;
    now = unsaid who node.facts i;
    sent = [];
  }
