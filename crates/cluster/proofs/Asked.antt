-- A cluster is asked about a resource manager: it stays what it is.
-- Needed by `Cluster::table`, `Cluster::view`, `table` and `view`.
use Rattle.std.proofs.Common.{◌≡◌, ◌⊎◌, inl, inr, ◌∙◌, ℕ, List, get_or, set, [], Option, Some, None, refl, sym, ap, subst}
use Rattle.std.specs.Prelude.{slice_get, Result, Err}
use Rattle.std.proofs.lemmas.List.{set-get_or}
use Rattle.xid.specs.Transactions.{TxParts}
use Rattle.xid.specs.declared.refusals.Refusal.{Refusal}
use Rattle.protocol.specs.declared.nodes.NodeId.{NodeId}
use Rattle.protocol.specs.declared.nodes.NodeId.TheVariants.{R}
use Rattle.protocol.specs.declared.rows.Row.{Row}
use Rattle.protocol.specs.declared.states.View.{View}
use Rattle.protocol.specs.Effects.{Config}
use Rattle.protocol.specs.Nodes.{NodeState}
use Rattle.protocol.specs.Worlds.{place, node_at}
use Rattle.xid.specs.Places.{Place}
use Rattle.node_core.specs.declared.config.Sizes.{Sizes}
use Rattle.node_core.specs.Nodes.{IsSameNode}
use Rattle.node_core.specs.Viewing.{SaysTable, IsUnread}
use Rattle.floors.specs.Worlds.{FlooredWorld}
use Rattle.node_core.specs.Configs.{config_by}
use Rattle.floored.specs.Nodes.{FlooredParts, FlooredStands, FlooredTables, FlooredViews, SaysFlooredView}
use Rattle.network.specs.Networks.{NetworkParts}
use Rattle.cluster.specs.Clusters.{ClusterParts, NoticesParts, cluster_of, ClusterStands, IsSameFloored, IsSound}
use Rattle.cluster.specs.Asking.{IsSaid, ViewsIn, TablesIn}
use Rattle.cluster.proofs.Standing.{there, placed, found, named, floor_there, none_there, node_kept, at_place, same_but, same_floored}
use Rattle.cluster.proofs.Standing.{others_stay, unchanged}

-- a cluster that stays what it is stands for a world that can come to be
pub sound_still : (old new : ClusterParts) → IsSound old
    → ((config : Config) (world : FlooredWorld) → ClusterStands config old world → ClusterStands config new world) → IsSound new
sound_still old new sound still = record {
  config = sound.config;
  world = sound.world;
  reached = sound.reached;
  is = still sound.config sound.world sound.is;
}

-- the same of a cluster in other words
pub viewed_as : (old was new : ClusterParts) → old ≡ was → (rm : ℕ) (tx : TxParts) (result : Result View Refusal)
    → ((config : Config) (world : FlooredWorld) → ClusterStands config old world → ViewsIn config world old new rm tx result)
    → (config : Config) (world : FlooredWorld) → ClusterStands config was world → ViewsIn config world was new rm tx result
viewed_as old was new is rm tx result views =
    subst (λ (p : ClusterParts). (config : Config) (world : FlooredWorld) → ClusterStands config p world
    → ViewsIn config world p new rm tx result) is views

-- a table of a cluster is one of an equal cluster
pub tabled_as : (old was new : ClusterParts) → old ≡ was → (rm : ℕ) (result : Result (List Row) Refusal)
    → ((config : Config) (world : FlooredWorld) → ClusterStands config old world → TablesIn config world old new rm result)
    → (config : Config) (world : FlooredWorld) → ClusterStands config was world → TablesIn config world was new rm result
tabled_as old was new is rm result tables =
    subst (λ (p : ClusterParts). (config : Config) (world : FlooredWorld) → ClusterStands config p world
    → TablesIn config world p new rm result) is tables

-- ---- there is no such resource manager

module _ (config : Config) (world : FlooredWorld) (sizes : Sizes) (nodes : List FlooredParts) (network : NetworkParts)
    (notices : NoticesParts) (s : ClusterStands config (cluster_of sizes nodes network notices) world) (rm : ℕ)
    (nowhere : None ≡ place (config_by sizes []) (R rm)) where
  abbrev cluster : ClusterParts
  cluster = cluster_of sizes nodes network notices

  none : node_at config world.machine (R rm) ≡ None
  none = none_there config world sizes nodes network notices s (R rm) (sym nowhere)

  none_said : {X : Type 0} (Says : NodeState → Type 0) (result : Result X Refusal) → result ≡ Err Refusal.NoSuch
      → IsSaid config (R rm) cluster cluster Says (node_at config world.machine (R rm)) result
  none_said Says result e =
      subst (λ (o : Option NodeState). IsSaid config (R rm) cluster cluster Says o result) (sym none) (refl, e)

  -- a view of a node that isn't there
  pub no_view : (tx : TxParts) (result : Result View Refusal) → result ≡ Err Refusal.NoSuch
      → ViewsIn config world cluster cluster rm tx result
  no_view tx result e = record {
    same = unchanged cluster cluster refl refl;
    stands = s;
    says = none_said (λ m. SaysFlooredView config (R rm) (world.floor (R rm)) m.facts tx result) result e;
  }

  -- a table of one
  pub no_table : (result : Result (List Row) Refusal) → result ≡ Err Refusal.NoSuch → TablesIn config world cluster cluster rm result
  no_table result e = record {
    same = unchanged cluster cluster refl refl;
    stands = s;
    says = none_said (λ m. SaysTable config (R rm) m.facts result) result e;
  }

-- ---- its node is asked

module _ (config : Config) (world : FlooredWorld) (sizes : Sizes) (nodes : List FlooredParts) (network : NetworkParts)
    (notices : NoticesParts) (s : ClusterStands config (cluster_of sizes nodes network notices) world) (rm at : ℕ)
    (is : Some at ≡ place (config_by sizes []) (R rm)) (node new : FlooredParts) (read : node ≡ get_or nodes at node) where
  abbrev before : ClusterParts
  before = cluster_of sizes nodes network notices

  abbrev after : ClusterParts
  after = cluster_of sizes (set nodes at new) network notices

  own : (m : NodeState) × (slice_get world.machine.nodes at ≡ Some m) × FlooredStands config (get_or nodes at node) m
  own = there config world sizes nodes network notices s (R rm) at (sym is) node

  abbrev m : NodeState
  m = own.0

  was : FlooredStands config node m
  was = subst (λ (x : FlooredParts). FlooredStands config x m) (sym read) own.2

  node_is : node_at config world.machine (R rm) ≡ Some m
  node_is = found config world sizes nodes network notices s (R rm) at (sym is) m own.1

  who_is : node.node.who ≡ R rm
  who_is = ap (λ (x : FlooredParts). x.node.who) read ∙ named config world sizes nodes network notices s (R rm) at (sym is) node

  floor_was : node.floor ≡ world.floor (R rm)
  floor_was = ap (λ (x : FlooredParts). x.floor) read ∙ floor_there config world sizes nodes network notices s (R rm) at (sym is) node

  here : IsSameNode node.node new.node → IsSameNode (get_or nodes at node).node new.node
  here same = subst (λ (x : FlooredParts). IsSameNode x.node new.node) read same

  same_here : IsSameNode node.node new.node → IsSameFloored (get_or nodes at node) new
  same_here same = same_floored (get_or nodes at node) new (here same)

  world_still : IsSameNode node.node new.node → new.floor ≡ node.floor → FlooredStands config new m → ClusterStands config after world
  world_still same floor_is stands =
      node_kept config world sizes nodes network notices s (R rm) at (sym is) node new m own.1 (here same).who_is
      (floor_is ∙ ap (λ (x : FlooredParts). x.floor) read) stands

  -- what its node says
  said : {X : Type 0} (Says : NodeId → Option Place → NodeState → Type 0) (result : Result X Refusal) → new.floor ≡ node.floor
      → new.node.role ≡ node.node.role
      → ((new ≡ node) × Says node.node.who node.floor m) ⊎ IsUnread node.node.held new.node.held node.node.role result
      → (o : Option NodeState) → o ≡ Some m → IsSaid config (R rm) before after (Says (R rm) (world.floor (R rm))) o result
  said Says result floor_is role_is says None e = absurd (cc (e))
  said Says result floor_is role_is (inl kept) (Some x) e =
      let m_is : m ≡ x = cc (e) in
      let nodes_are : set nodes at new ≡ nodes =
      ap (λ (n : FlooredParts). set nodes at n) (kept.0 ∙ read) ∙ set-get_or nodes at node in
      inl (
        ap (λ (ns : List FlooredParts). cluster_of sizes ns network notices) nodes_are,
        subst (λ (x : NodeState). Says (R rm) (world.floor (R rm)) x) m_is
            (subst (λ (f : Option Place). Says (R rm) f m) floor_was (subst (λ (n : NodeId). Says n node.floor m) who_is kept.1)),
      )
  said Says result floor_is role_is (inr unread) (Some x) e =
      inr (record {
        others = others_stay (place config (R rm)) at nodes new (placed config world sizes nodes network notices s (R rm) at (sym is));
        network_is = refl;
        notices_are = refl;
        floor_is =
            at_place config world sizes nodes network notices s (R rm) at (sym is) (λ (old late : FlooredParts). late.floor ≡ old.floor)
            node new (floor_is ∙ ap (λ (x : FlooredParts). x.floor) read);
        role_is =
            at_place config world sizes nodes network notices s (R rm) at (sym is)
            (λ (old late : FlooredParts). late.node.role ≡ old.node.role) node new (role_is ∙ ap (λ (x : FlooredParts). x.node.role) read);
        unread =
            at_place config world sizes nodes network notices s (R rm) at (sym is)
            (λ (old late : FlooredParts). IsUnread old.node.held late.node.held old.node.role result) node new
            (subst (λ (x : FlooredParts). IsUnread x.node.held new.node.held x.node.role result) read unread);
      })

  -- a view of a node is the cluster's
  pub view_said : (tx : TxParts) (result : Result View Refusal)
      → ((config : Config) (m : NodeState) → FlooredStands config node m → FlooredViews config m node new tx result)
      → ViewsIn config world before after rm tx result
  view_said tx result views =
      let v = views config m was in record {
        same = same_but sizes nodes network network notices notices at node new (same_here v.same);
        stands = world_still v.same v.floor_is v.stands;
        says =
            said (λ who floor m. SaysFlooredView config who floor m.facts tx result) result v.floor_is v.role_is v.says
            (node_at config world.machine (R rm)) node_is;
      }

  -- so is a table
  pub table_said : (result : Result (List Row) Refusal)
      → ((config : Config) (m : NodeState) → FlooredStands config node m → FlooredTables config m node new result)
      → TablesIn config world before after rm result
  table_said result tables =
      let t = tables config m was in record {
        same = same_but sizes nodes network network notices notices at node new (same_here t.same);
        stands = world_still t.same t.floor_is t.stands;
        says =
            said (λ who floor m. SaysTable config who m.facts result) result t.floor_is t.role_is t.says
            (node_at config world.machine (R rm)) node_is;
      }
