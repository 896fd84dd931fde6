-- Keys and names of a resource manager's branches, whatever has happened.
-- Needed by `keys_held_once`; crates floors and cluster_run.
use Rattle.std.proofs.Common.{◌≡◌, ℕ, true, List, [], Some, ap, subst}
use Rattle.stable_record.specs.Facts.{AreAscending}
use Rattle.protocol.specs.Basics.{Fact}
use Rattle.safety.specs.Vocabulary.{R}
use Rattle.protocol.specs.Facts.{bound_branches}
use Rattle.protocol.specs.Effects.{Config}
use Rattle.protocol.specs.Managers.{Branch, all_branches}
use Rattle.protocol.specs.Nodes.{NodeState, all_play}
use Rattle.protocol.specs.Worlds.{World, node_at}
use Rattle.protocol.specs.Holds.{AreHeldOnce, AreNamedOnce, AreInOrder, AreApart}
use Rattle.safety.specs.Runs.{IsReachable}
use Rattle.safety.specs.Standing.{facts_of}
use Rattle.protocol.proofs.Lists.{IsIn-contains, all_each}
use Rattle.protocol.proofs.Manager.Prepared as holds
use Rattle.safety.proofs.World.Events.{safe_ever}

module _ (config : Config) (world : World) (reachable : IsReachable config world) (rm : ℕ) (node : NodeState)
    (is : node_at config world (R rm) ≡ Some node) where
  apart : AreApart rm node.facts node.memory.branches
  apart = (safe_ever config world reachable).apart rm node is

  plays : all_play config (R rm) [] node.facts ≡ true
  plays =
      subst (λ (facts : List Fact). all_play config (R rm) [] facts ≡ true) (ap facts_of is)
      ((safe_ever config world reachable).played (R rm))

  abbrev all : List Branch
  all = all_branches rm (bound_branches node.facts) node.memory.branches

  pub held_once : AreHeldOnce all
  held_once b c h k =
      holds.keys_held_once config rm node.facts node.memory.branches plays apart b c (IsIn-contains all b h) (IsIn-contains all c k)

  pub named_once : AreNamedOnce all
  named_once = holds.names_held_once config rm node.facts node.memory.branches plays apart

  pub in_order : AreInOrder node.memory.branches
  in_order = all_each (λ (b : Branch). AreAscending b.keys) node.memory.branches apart.ordered
