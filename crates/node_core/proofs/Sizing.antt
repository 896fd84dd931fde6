-- The sizes of a cluster within the limits.
-- Needed by `Node::open`; crate udp_run.
use Rattle.std.proofs.Common.{◌≡◌, ℕ, ◌<◌, ◌≤◌, true, ◌&&◌, ◌||◌, ◌==◌, sym, subst, length, arith}
use Rattle.std.specs.Prelude.{nat_lt, nat_le}
use Rattle.std.specs.List.{list_all}
use Rattle.std.proofs.lemmas.Bool.{and_parts}
use Rattle.std.proofs.lemmas.Bool.Decides.{nat_tests}
use Rattle.xid.specs.Limits.{most_acceptors, most_leaders, most_managers}
use Rattle.protocol.specs.declared.nodes.NodeId.{NodeId}
use Rattle.protocol.specs.declared.nodes.NodeId.TheVariants.{A, L, R}
use Rattle.protocol.specs.Effects.{Config}
use Rattle.node_core.specs.declared.config.Sizes.{Sizes}
use Rattle.node_core.specs.Configs.{is_config, are_sizes, is_among}
use Rattle.branch_table.specs.TableStates.{are_rows}
use Rattle.node_core.specs.Nodes.{AreSizes, IsSized, IsAmong}

-- a cluster has at most seven acceptors
pub odd_few : (a : ℕ) → (a == 1 || a == 3 || a == 5 || a == 7) ≡ true → a ≤ 7
odd_few a h = grind (arith, nat_tests)

positive : (n : ℕ) → nat_lt 0 n ≡ true → 0 < n
positive n h = grind (arith, nat_tests)

less : (m n : ℕ) → nat_lt m n ≡ true → m < n
less m n h = grind (arith, nat_tests)

-- the sizes of a configuration are within the limits
pub sized_of : (config : Config) (sizes : Sizes) → AreSizes config sizes → is_config config ≡ true → IsSized sizes
sized_of config sizes are h =
    let most = (and_parts (are_sizes config.acceptors config.leaders config.managers && (length config.tables == config.managers))
    (list_all are_rows config.tables) h).0 in
    let all = (and_parts (are_sizes config.acceptors config.leaders config.managers) (length config.tables == config.managers) most).0 in
    let odd = config.acceptors == 1 || config.acceptors == 3 || config.acceptors == 5 || config.acceptors == 7 in
    let few = nat_lt 0 config.leaders && nat_le config.leaders most_leaders in
    let named = nat_lt 0 config.managers && nat_le config.managers most_managers in
    let front = (and_parts (odd && few) named all).0 in
    let both = and_parts odd few front in
    let some = (and_parts (nat_lt 0 config.leaders) (nat_le config.leaders most_leaders) both.1).0 in
    record {
      acceptors = subst (λ n. n ≤ most_acceptors) (sym are.acceptors_are) (odd_few config.acceptors both.0);
      leaders = subst (λ n. 0 < n) (sym are.leaders_are) (positive config.leaders some);
    }

-- a node of a configuration is one of its sizes
pub among_of : (config : Config) (sizes : Sizes) (who : NodeId) → AreSizes config sizes → is_among config who ≡ true → IsAmong sizes who
among_of config sizes (A a) are h = subst (λ n. a < n) (sym are.acceptors_are) (less a config.acceptors h)
among_of config sizes (L l) are h = subst (λ n. l < n) (sym are.leaders_are) (less l config.leaders h)
among_of config sizes (R rm) are h = subst (λ n. rm < n) (sym are.managers_are) (less rm config.managers h)
