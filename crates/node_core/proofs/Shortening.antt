-- A record that was made shorter says the same.
-- Needed by `Node::compact`, `compact` and `shorter`.
use Rattle.std.proofs.Common.{◌≡◌, ◌∙◌, ℕ, false, List, [], ◌++◌, Option, Some, None, refl, sym, ap, subst, inl, inr, Vec, Global}
use Rattle.std.specs.Prelude.{◌⊎◌, Result, Ok, Err, IfOk}
use Rattle.xid.specs.declared.refusals.Refusal.{Refusal}
use Rattle.stable_record.specs.declared.entry.EntryKind.{EntryKind as Entry}
use Rattle.stable_record.specs.declared.fact.FactKind.{FactKind as Fact}
use Rattle.stable_record.specs.Held.{Held, with_bytes}
use Rattle.stable_record.specs.Written.{AreWritten}
use Rattle.protocol.specs.declared.nodes.NodeId.{NodeId}
use Rattle.protocol.specs.declared.nodes.NodeId.TheVariants.{A, L, R}
use Rattle.protocol.specs.declared.rows.Row.{Row}
use Rattle.protocol.specs.Effects.{Config}
use Rattle.protocol.specs.Managers.{Branch}
use Rattle.protocol.specs.Nodes.{NodeState, Memory, Fault, NoFault, NoMemoryBefore, NoMemoryAt, RecordFails, compact_outcome, down_node}
use Rattle.acceptor.specs.Acceptors.{AcceptorParts}
use Rattle.acceptor.specs.Compaction as of_acceptor
use Rattle.leader.specs.Leaders.{LeaderParts}
use Rattle.leader.specs.Compaction as of_leader
use Rattle.resource_manager.specs.Managers as manager_specs
use Rattle.resource_manager.specs.Managers.{ManagerParts}
use Rattle.resource_manager.specs.Compacted.{AreShorterFrames, IsShortened}
use Rattle.node_core.specs.declared.role.Role.{Role}
use Rattle.node_core.specs.Roles.{RoleStands}
use Rattle.node_core.specs.Nodes.{begun, SameState, Keeps, Stands, NodeParts, NodeStands, IsSound}
use Rattle.node_core.specs.Compacting.{IsNoLonger, IsShorter, Shortens, IsRecompacted, Recompacts, BefallsCompact, IsCompactedUp, role_kept}
use Rattle.node_core.specs.Compacting.{Compacts, CompactsAs}
use Rattle.node_core.proofs.Lengths.{no_longer}
use Rattle.node_core.proofs.Starting.{of_facts}

-- ---- facts that a part gives

module _ (bytes : List ℕ) (kept : List Fact) (frames : AreWritten bytes (of_facts kept)) where
  acceptor_says : (config : Config) (a : ℕ) (facts : List Fact) → of_acceptor.SaysTheSame config a kept facts
      → SameState config config (A a) kept facts
  acceptor_says config a facts same =
      record { stands = stands; fits = same.fits; shorter = λ more play. ap of_facts (same.shorter more) }
    where
      stands : (more : List Fact) (role : Role) (memory : Memory) → RoleStands config (A a) role (kept ++ more) memory
          → RoleStands config (A a) role (facts ++ more) memory
      stands more (Role.Acceptor p) memory s = same.stands more p s
      stands more (Role.Leader p) memory s = absurd s
      stands more (Role.Manager p) memory s = absurd s

  pub acceptor_shortens : (p : AcceptorParts) → of_acceptor.Compacts p kept → Shortens (Role.Acceptor p) bytes
  acceptor_shortens p h config (A a) facts memory s played =
      let c = h config a facts s in
      record {
        all = of_facts kept;
        bytes_are = frames.bytes_are;
        stored = frames.stored;
        shortened = ap of_facts c.list;
        kept = record { rows = None; facts = kept };
        means = refl;
        fits = c.same.play;
        same = λ own. acceptor_says config a facts c.same;
      }
  acceptor_shortens p h config (L l) facts memory s played = absurd s
  acceptor_shortens p h config (R rm) facts memory s played = absurd s

  leader_says : (config : Config) (l : ℕ) (facts : List Fact) → of_leader.SaysTheSame config l kept facts
      → SameState config config (L l) kept facts
  leader_says config l facts same =
      record { stands = stands; fits = same.fits; shorter = λ more play. ap of_facts (same.shorter more) }
    where
      stands : (more : List Fact) (role : Role) (memory : Memory) → RoleStands config (L l) role (kept ++ more) memory
          → RoleStands config (L l) role (facts ++ more) memory
      stands more (Role.Leader p) memory s = same.stands more p memory.leader s
      stands more (Role.Acceptor p) memory s = absurd s
      stands more (Role.Manager p) memory s = absurd s

  pub leader_shortens : (p : LeaderParts) → of_leader.Compacts p kept → Shortens (Role.Leader p) bytes
  leader_shortens p h config (L l) facts memory s played =
      let c = h config l facts memory.leader s played in
      record {
        all = of_facts kept;
        bytes_are = frames.bytes_are;
        stored = frames.stored;
        shortened = ap of_facts c.list;
        kept = record { rows = None; facts = kept };
        means = refl;
        fits = c.same.play;
        same = λ own. leader_says config l facts c.same;
      }
  leader_shortens p h config (A a) facts memory s played = absurd s
  leader_shortens p h config (R rm) facts memory s played = absurd s

module _ (bytes : List ℕ) (all : List Entry) (frames : AreWritten bytes all) where
  manager_says : (config : Config) (rm : ℕ) (facts : List Fact) (own : List Row) (c : IsShortened config rm facts all)
      → SameState (begun config (R rm) own (Some c.rows)) config (R rm) c.kept facts
  manager_says config rm facts own c = record { stands = stands; fits = c.same.fits; shorter = c.same.shorter }
    where
      stands : (more : List Fact) (role : Role) (memory : Memory)
          → RoleStands (begun config (R rm) own (Some c.rows)) (R rm) role (c.kept ++ more) memory
          → RoleStands config (R rm) role (facts ++ more) memory
      stands more (Role.Manager p) memory s = c.same.stands more p memory.branches s
      stands more (Role.Acceptor p) memory s = absurd s
      stands more (Role.Leader p) memory s = absurd s

  pub manager_shortens : (p : ManagerParts)
      → ((config : Config) (number : ℕ) (facts : List Fact) (branches : List Branch)
      → manager_specs.StandsFor config number p facts branches
      → IsShortened config number facts all)
      → Shortens (Role.Manager p) bytes
  manager_shortens p h config (R rm) facts memory s played =
      let c = h config rm facts memory.branches s in
      record {
        all = all;
        bytes_are = frames.bytes_are;
        stored = frames.stored;
        shortened = c.all_is;
        kept = record { rows = Some c.rows; facts = c.kept };
        means = c.compacted;
        fits = c.fits;
        same = λ own. manager_says config rm facts own c;
      }
  manager_shortens p h config (A a) facts memory s played = absurd s
  manager_shortens p h config (L l) facts memory s played = absurd s

-- frames that a part gives
pub acceptor_framed : (p : AcceptorParts) (r : Result (Vec ℕ Global) Refusal)
    → IfOk r (λ frames. of_acceptor.AreShorterFrames p frames.items)
    → IfOk r (λ frames. Shortens (Role.Acceptor p) frames.items)
acceptor_framed p (Ok frames) is =
    acceptor_shortens frames.items is.kept is.written p is.compacts
acceptor_framed p (Err e) is = tt

-- the frames of a leader's shorter record make its node's record shorter
pub leader_framed : (p : LeaderParts) (r : Result (Vec ℕ Global) Refusal) → IfOk r (λ frames. of_leader.AreShorterFrames p frames.items)
    → IfOk r (λ frames. Shortens (Role.Leader p) frames.items)
leader_framed p (Ok frames) is =
    leader_shortens frames.items is.kept is.written p is.compacts
leader_framed p (Err e) is = tt

-- so do those of a resource manager's
pub manager_framed : (p : ManagerParts) (r : Result (Vec ℕ Global) Refusal) → IfOk r (λ frames. AreShorterFrames p frames.items)
    → IfOk r (λ frames. Shortens (Role.Manager p) frames.items)
manager_framed p (Ok frames) is = manager_shortens frames.items is.all is.written p is.shortened
manager_framed p (Err e) is = tt

-- the same of a role under another name
pub shortens_so : (role inner : Role) (r : Result (Vec ℕ Global) Refusal) → role ≡ inner → IfOk r (λ frames. Shortens inner frames.items)
    → IfOk r (λ frames. Shortens role frames.items)
shortens_so role inner r is h = subst (λ x. IfOk r (λ frames. Shortens x frames.items)) (sym is) h

-- ---- the record is replaced

module _ (config : Config) (who : NodeId) (own : List Row) (m : NodeState) (old new : Held) (up : Role)
    (s : Stands config who own old (Some up) m) where
  -- a record of these bytes keeps the facts
  shorter_keeps : (bytes : List ℕ) → IsShorter config who m.facts bytes → Keeps config who own bytes m.facts []
  shorter_keeps bytes h = record {
    kept = h.kept;
    holds = record { all = h.all; stored = h.stored; means = h.means; fits = h.fits };
    same = h.same own;
  }

  kept_before : Keeps config who own old.bytes m.facts []
  kept_before = subst (Keeps config who own old.bytes m.facts) s.role_is.1 s.keeps

  down_with : (next : List ℕ) → Keeps config who own next m.facts [] → new.bytes ≡ next → new.armed ≡ old.armed
      → Stands config who own new None (down_node m)
  down_with next keeps is armed = record {
    tail = [];
    keeps = subst (λ bytes. Keeps config who own bytes m.facts []) (sym is) keeps;
    played = s.played;
    role_is = refl;
    tear_is = s.tear_is ∙ sym armed;
  }

  down_either : (next : List ℕ) → IsShorter config who m.facts next → (new.bytes ≡ old.bytes) ⊎ (new.bytes ≡ next)
      → new.armed ≡ old.armed → Stands config who own new None (down_node m)
  down_either next h (inl is) armed = down_with old.bytes kept_before is armed
  down_either next h (inr is) armed = down_with next (shorter_keeps next h) is armed

  pub compacted : (next : List ℕ) → IsShorter config who m.facts next → new ≡ with_bytes next old
      → IsCompactedUp config who own m old new (Some up) (Ok tt)
  compacted next h is = record {
    up = s.role_is.0;
    fault = NoFault;
    befalls = record {
      armed = ap (λ (r : Held). r.armed) is;
      faults = ap (λ (r : Held). r.faults) is;
      nature = ap (λ (r : Held). r.nature) is;
    };
    answer_is = refl;
    content = (next, h, is);
    no_longer =
        subst (λ (r : Held). IsNoLonger old.bytes r.bytes) (sym is) (no_longer config who own old.bytes next m.facts s.tail s.keeps h);
    stands = record {
      tail = [];
      keeps = subst (λ (r : Held). Keeps config who own r.bytes m.facts []) (sym is) (shorter_keeps next h);
      played = s.played;
      role_is = (s.role_is.0, refl, s.role_is.2);
      tear_is = s.tear_is ∙ ap (λ (r : Held). r.armed) (sym is);
    };
  }

  pub uncompacted : (e : Refusal) → IsRecompacted config who m.facts old new (Err e) → IsCompactedUp config who own m old new None (Err e)
  uncompacted Refusal.RecordFault (next, h, put) = record {
    up = s.role_is.0;
    fault = RecordFails false;
    befalls = record { may = put.may; counted = put.counted; armed = put.armed; nature = put.nature };
    answer_is = refl;
    content = (next, h, put);
    no_longer = tt;
    stands = down_either next h put.bytes put.armed;
  }
  uncompacted Refusal.NoMemory is = record {
    up = s.role_is.0;
    fault = NoMemoryAt;
    befalls = is;
    answer_is = refl;
    content = is;
    no_longer = tt;
    stands = down_with old.bytes kept_before (ap (λ (r : Held). r.bytes) is) (ap (λ (r : Held). r.armed) is);
  }
  uncompacted other is = absurd is

  pub recompacted : (role : Option Role) (r : Result (Unit {0}) Refusal) → IsRecompacted config who m.facts old new r
      → role ≡ role_kept (Some up) r → Compacts config who own m old new role r
  recompacted role r h is = subst (λ x. Compacts config who own m old new x r) (sym is) (by r h)
    where
      by : (r : Result (Unit {0}) Refusal) → IsRecompacted config who m.facts old new r
          → Compacts config who own m old new (role_kept (Some up) r) r
      by (Ok tt) (next, shorter, put) = inl (compacted next shorter put)
      by (Err e) h = inl (uncompacted e h)

-- a node that is up
pub compacts_up : (config : Config) (who : NodeId) (own : List Row) (m : NodeState) (old new : Held) (was role : Option Role) (up : Role)
    (r given : Result (Unit {0}) Refusal) → was ≡ Some up → role ≡ role_kept (Some up) r → given ≡ r → Recompacts up old new r
    → Stands config who own old was m → Compacts config who own m old new role given
compacts_up config who own m old new was role up r given is role_is given_is h s =
    let t : Stands config who own old (Some up) m = subst (λ x. Stands config who own old x m) is s in
    subst (λ x. Compacts config who own m old new role x) (sym given_is)
    (recompacted config who own m old new up t role r (h config who m.facts m.memory t.role_is.2 t.played) role_is)

-- ---- the whole node

-- whether the record may fail of itself stays
compact_nature : (old new : Held) (fault : Fault) → BefallsCompact old new fault → new.nature ≡ old.nature
compact_nature old new NoFault b = b.nature
compact_nature old new NoMemoryBefore b = absurd b
compact_nature old new NoMemoryAt b = ap (λ (r : Held). r.nature) b
compact_nature old new (RecordFails whole) b = b.nature

module _ (node : NodeParts) (held : Held) (role : Option Role) where
  abbrev compacted_node : NodeParts
  compacted_node = record { who = node.who; sizes = node.sizes; rows = node.rows; held = held; role = role }

  -- a sound node is sound after a compaction
  pub sound_compact : (result : Result (Unit {0}) Refusal) → IsSound node
      → ((config : Config) (who : NodeId) (own : List Row) (m : NodeState) → Stands config who own node.held node.role m
      → Compacts config who own m node.held held role result) → IsSound compacted_node
  sound_compact result sound compacts = by (compacts sound.config node.who node.rows sound.state sound.is.stands)
    where
      with_stands : (m : NodeState) → Stands sound.config node.who node.rows held role m → IsSound compacted_node
      with_stands m s = record {
        sized = sound.sized;
        among = sound.among;
        short = sound.short;
        config = sound.config;
        state = m;
        is = record { sizes_are = sound.is.sizes_are; stands = s };
      }

      by : Compacts sound.config node.who node.rows sound.state node.held held role result → IsSound compacted_node
      by (inl is) = with_stands (compact_outcome sound.state is.fault).node is.stands
      by (inr is) = with_stands sound.state is.stands

  compacts_nature : (config : Config) (who : NodeId) (own : List Row) (m : NodeState) (result : Result (Unit {0}) Refusal)
      → Compacts config who own m node.held held role result → held.nature ≡ node.held.nature
  compacts_nature config who own m result (inl is) = compact_nature node.held held is.fault is.befalls
  compacts_nature config who own m result (inr is) = ap (λ (r : Held). r.nature) is.same

  -- what a compaction of the parts comes to is what it comes to at the node
  pub compacts_as : (config : Config) (m : NodeState) (result : Result (Unit {0}) Refusal)
      → Compacts config node.who node.rows m node.held held role result → CompactsAs config m node compacted_node result
  compacts_as config m result c = record {
    same = record {
      who_is = refl;
      sizes_are = refl;
      rows_are = refl;
      nature_is = compacts_nature config node.who node.rows m result c;
    };
    compacts = c;
  }

-- the same of the node as it is seen
pub compacts_from : (inside old new : NodeParts) (result : Result (Unit {0}) Refusal) → inside ≡ old
    → ((config : Config) (m : NodeState) → NodeStands config inside m → CompactsAs config m inside new result)
    → (config : Config) (m : NodeState) → NodeStands config old m → CompactsAs config m old new result
compacts_from inside old new result is h config m s =
    subst (λ o. CompactsAs config m o new result) is (h config m (subst (λ o. NodeStands config o m) (sym is) s))
