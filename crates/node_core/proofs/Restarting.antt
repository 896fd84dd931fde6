-- What a restart leaves, and an opening.
-- Needed by `Node::open`, `Node::restart` and `reload`; Looking; crates cluster, groups and floored_groups.
use Rattle.std.proofs.Common.{◌≡◌, ◌∙◌, ℕ, true, false, List, [], ◌∷◌, ◌++◌, Option, Some, None, refl, sym, ap, subst, append-nil}
use Rattle.std.specs.Prelude.{if◌then◌else◌, Result, Ok, Err}
use Rattle.xid.specs.declared.refusals.Refusal.{Refusal}
use Rattle.stable_record.specs.declared.entry.EntryKind.{EntryKind as Entry}
use Rattle.stable_record.specs.declared.fact.FactKind.{FactKind as Fact}
use Rattle.stable_record.specs.Grammar.{IsStored}
use Rattle.stable_record.specs.Held.{Held}
use Rattle.stable_record.proofs.Framed.{stored_same, empty_tail}
use Rattle.protocol.specs.declared.answers.Answer.TheVariants.{Refused, Done}
use Rattle.protocol.specs.declared.nodes.NodeId.{NodeId}
use Rattle.protocol.specs.declared.nodes.NodeId.TheVariants.{A, L, R}
use Rattle.protocol.specs.declared.rows.Row.{Row}
use Rattle.protocol.specs.Effects.{Config}
use Rattle.protocol.specs.Managers.{Branch}
use Rattle.protocol.specs.Nodes.{NodeState, Memory, Fault, NoFault, NoMemoryBefore, NoMemoryAt, RecordFails, empty_memory, restart_outcome}
use Rattle.protocol.specs.Nodes.{Outcome, answer_outcome, down_node, first_rows, all_play}
use Rattle.protocol.specs.Tables.{table}
use Rattle.resource_manager.specs.Compacted.{beginning_with, shorter_entries}
use Rattle.resource_manager.specs.Managers as manager_specs
use Rattle.resource_manager.specs.Managers.{ManagerParts}
use Rattle.resource_manager.proofs.Shortened.{plays_over}
use Rattle.node_core.specs.declared.config.Sizes.{Sizes}
use Rattle.node_core.specs.declared.role.Role.{Role}
use Rattle.branch_table.specs.TableStates.{are_rows}
use Rattle.node_core.specs.Roles.{RoleStands}
use Rattle.node_core.specs.Shorter.{shorter_record}
use Rattle.node_core.specs.Nodes.{Kept, MeansFrom, Holds, begun, AreSizes, HasRows, Keeps, SameState, Stands, NodeParts, NodeStands}
use Rattle.node_core.specs.Nodes.{IsSound, IsSized, IsAmong}
use Rattle.node_core.specs.Opening.{IsLoaded, Loads, cluster_of, IsOpened, IsUnopened, BefallsRestart, Restarts, RestartsAs, frames_of}
use Rattle.node_core.specs.Configs.{is_among}
use Rattle.node_core.proofs.Loading.{both_parts, same_holds, holds_again, frames_stored, stayed_whole}
use Rattle.node_core.proofs.Starting.{begun_rows}

module _ (config : Config) (who : NodeId) (own : List Row) (m : NodeState) (old : Held) (was : Option Role)
    (s : Stands config who own old was m) where
  pub keeps_as : (bytes tail : List ℕ) → Holds config who bytes s.keeps.kept tail → Keeps config who own bytes m.facts tail
  keeps_as bytes tail h = record { kept = s.keeps.kept; holds = h; same = s.keeps.same }

  -- a role that stands for what the record holds stands for the machine's facts
  pub same_role : (role : Role) (kept : Kept) (tail : List ℕ) → Holds config who old.bytes kept tail
      → RoleStands (begun config who own kept.rows) who role kept.facts empty_memory → RoleStands config who role m.facts empty_memory
  same_role role kept tail held stands =
      let k = s.keeps.kept in
      let same : kept ≡ k = same_holds config config who old.bytes kept k tail s.tail held s.keeps.holds in
      let h = subst (λ (x : Kept). RoleStands (begun config who own x.rows) who role x.facts empty_memory) same stands in
      subst (λ fs. RoleStands config who role fs empty_memory) (append-nil m.facts)
      (s.keeps.same.stands [] role empty_memory
      (subst (λ fs. RoleStands (begun config who own k.rows) who role fs empty_memory) (sym (append-nil k.facts)) h))

  -- a node that is down stands for what its record holds
  pub down_stands : (new : Held) (tail : List ℕ) → Holds config who new.bytes s.keeps.kept tail → new.armed ≡ old.armed
      → Stands config who own new None (down_node m)
  down_stands new tail h armed = record {
    tail = tail;
    keeps = keeps_as new.bytes tail h;
    played = s.played;
    role_is = refl;
    tear_is = s.tear_is ∙ sym armed;
  }

  -- a restart whose record was loaded
  pub restarted : (new : Held) (role : Role) → IsLoaded config who own old new role
      → Restarts config who own m old new (Some role) (Ok tt)
  restarted new role l =
      let up : Outcome =
      answer_outcome (record { facts = m.facts; up = true; tear = m.tear; memory = empty_memory }) Done in
      let is : up ≡ restart_outcome config who m NoFault = λ i.
      if sym s.played i then up else answer_outcome (down_node m) (Refused Refusal.Damaged) in
      let again = frames_stored l.held.all old.bytes l.tail l.held.stored in
      let now : IsStored new.bytes l.held.all [] = subst (λ bytes. IsStored bytes l.held.all []) (sym l.written) again in
      let all : s.keeps.holds.all ≡ l.held.all =
      (stored_same s.keeps.holds.all l.held.all old.bytes s.tail l.tail s.keeps.holds.stored l.held.stored).0 in
      let holds = holds_again config who old.bytes new.bytes s.keeps.kept s.tail [] s.keeps.holds
      (subst (λ es. IsStored new.bytes es []) (sym all) now) in
      let stands : Stands config who own new (Some role) up.node = record {
        tail = [];
        keeps = keeps_as new.bytes [] holds;
        played = s.played;
        role_is = (refl, refl, same_role role l.kept l.tail l.held l.stands);
        tear_is = s.tear_is ∙ sym l.stayed.armed;
      } in
      record {
        fault = NoFault;
        befalls = l.stayed;
        answer_is = ap (λ (o : Outcome). o.answer) is;
        holds = l.stayed.holds config who;
        written = λ kept tail held. l.written
            ∙ ap frames_of (stored_same l.held.all held.all old.bytes l.tail tail l.held.stored held.stored).0;
        stands = subst (λ (o : Outcome). Stands config who own new (Some role) o.node) is stands;
      }

  -- a restart whose record could not be loaded
  pub unrestarted : (new : Held) (e : Refusal) → Loads config who own old new (Err e) → Restarts config who own m old new None (Err e)
  unrestarted new Refusal.Damaged l = absurd (l.1 s.keeps.kept s.tail s.keeps.holds)
  unrestarted new Refusal.RecordFault (l, left) =
      let h = l.holds config who s.keeps.kept s.tail s.keeps.holds in
      record {
        fault = RecordFails false;
        befalls = l;
        answer_is = refl;
        holds = l.holds config who;
        written = left;
        stands = down_stands new h.0 h.1 l.armed;
      }
  unrestarted new Refusal.NoMemory (l, left) =
      let h = l.holds config who s.keeps.kept s.tail s.keeps.holds in
      record {
        fault = NoMemoryAt;
        befalls = l;
        answer_is = refl;
        holds = l.holds config who;
        written = left;
        stands = down_stands new h.0 h.1 l.armed;
      }
  unrestarted new other l = absurd l

-- whether the record may fail of itself stays
restart_nature : (old new : Held) (fault : Fault) → BefallsRestart old new fault → new.nature ≡ old.nature
restart_nature old new NoFault b = b.nature
restart_nature old new NoMemoryBefore b = absurd b
restart_nature old new NoMemoryAt b = b.nature
restart_nature old new (RecordFails whole) b = b.nature

-- a node that stood for a node of the machine does so after a restart
module _ (node : NodeParts) (held : Held) (role : Option Role) where
  abbrev restarted_node : NodeParts
  restarted_node = record { who = node.who; sizes = node.sizes; rows = node.rows; held = held; role = role }

  -- a sound node is sound after a restart
  pub sound_restart : (result : Result (Unit {0}) Refusal) → IsSound node
      → ((config : Config) (m : NodeState) → AreSizes config node.sizes → Stands config node.who node.rows node.held node.role m
      → Restarts config node.who node.rows m node.held held role result) → IsSound restarted_node
  sound_restart result sound restarts =
      let r = restarts sound.config sound.state sound.is.sizes_are sound.is.stands in
      record {
        sized = sound.sized;
        among = sound.among;
        short = sound.short;
        config = sound.config;
        state = (restart_outcome sound.config node.who sound.state r.fault).node;
        is = record { sizes_are = sound.is.sizes_are; stands = r.stands };
      }

  -- what a restart of the parts comes to is what it comes to at the node
  pub restarts_as : (config : Config) (m : NodeState) (result : Result (Unit {0}) Refusal)
      → Restarts config node.who node.rows m node.held held role result → RestartsAs config m node restarted_node result
  restarts_as config m result r = record {
    same = record {
      who_is = refl;
      sizes_are = refl;
      rows_are = refl;
      nature_is = restart_nature node.held held r.fault r.befalls;
    };
    restarts = r;
  }

-- the same of the node as it is seen
pub restarts_from : (inside old new : NodeParts) (result : Result (Unit {0}) Refusal) → inside ≡ old
    → ((config : Config) (m : NodeState) → NodeStands config inside m → RestartsAs config m inside new result)
    → (config : Config) (m : NodeState) → NodeStands config old m → RestartsAs config m old new result
restarts_from inside old new result is h config m s =
    subst (λ o. RestartsAs config m o new result) is (h config m (subst (λ o. NodeStands config o m) (sym is) s))

-- the same of rows under another name
pub restarts_over : (sizes : Sizes) (who : NodeId) (own rows : List Row) (old new : Held) (was role : Option Role)
    (result : Result (Unit {0}) Refusal) → own ≡ rows
    → ((config : Config) (m : NodeState) → AreSizes config sizes → Stands config who own old was m
    → Restarts config who own m old new role result)
    → (config : Config) (m : NodeState) → AreSizes config sizes → Stands config who rows old was m
    → Restarts config who rows m old new role result
restarts_over sizes who own rows old new was role result is h =
    subst (λ r. (config : Config) (m : NodeState) → AreSizes config sizes → Stands config who r old was m
    → Restarts config who r m old new role result) is h

-- what was loaded over some rows was over equal rows
pub loads_over : (config : Config) (who : NodeId) (own rows : List Row) (old new : Held) (result : Result Role Refusal) → own ≡ rows
    → Loads config who own old new result → Loads config who rows old new result
loads_over config who own rows old new result is h = subst (λ r. Loads config who r old new result) is h

-- ---- opened

-- contents that are the same are the same to a resource manager
pub same_contents : (config other : Config) (number : ℕ) (p : ManagerParts) (facts : List Fact) (branches : List Branch)
    → other.managers ≡ config.managers → first_rows config number ≡ first_rows other number
    → manager_specs.StandsFor config number p facts branches → manager_specs.StandsFor other number p facts branches
same_contents config other number p facts branches managers rows s = record {
  number_is = s.number_is;
  managers_are = s.managers_are ∙ sym managers;
  played = plays_over other config number [] facts ∙ s.played;
  apart = s.apart;
  unprepared = s.unprepared;
  stored_are = s.stored_are;
  begun_are = s.begun_are;
  spent_are = s.spent_are;
  rows_are = s.rows_are ∙ ap (λ first. table first facts) rows;
  branches_are = s.branches_are;
}

role_begun : (config : Config) (who : NodeId) (own : List Row) → HasRows config who own
    → (role : Role) (facts : List Fact) (memory : Memory)
    → RoleStands (begun config who own None) who role facts memory → RoleStands config who role facts memory
role_begun config (A a) own has role facts memory s = s
role_begun config (L l) own has role facts memory s = s
role_begun config (R rm) own has (Role.Manager p) facts memory s =
    same_contents (beginning_with config rm own) config rm p facts memory.branches refl (sym (begun_rows config (R rm) own None) ∙ has) s
role_begun config (R rm) own has (Role.Acceptor p) facts memory s = absurd s
role_begun config (R rm) own has (Role.Leader p) facts memory s = absurd s

-- the shorter record over a node's own first contents
pub shorter_begun : (config : Config) (who : NodeId) (own : List Row) → HasRows config who own → (facts : List Fact)
    → shorter_record (begun config who own None) who facts ≡ shorter_record config who facts
shorter_begun config (A a) own has facts = refl
shorter_begun config (L l) own has facts = refl
shorter_begun config (R rm) own has facts =
    ap (λ rows. shorter_entries (table rows facts) facts) (sym (begun_rows config (R rm) own None) ∙ has)

-- what a record holds says the same as itself, in the cluster that it is of
same_own : (config : Config) (who : NodeId) (own : List Row) (rows : Option (List Row)) (all : List Entry) (facts : List Fact)
    → MeansFrom who all rows facts → HasRows config who own
    → SameState (begun (cluster_of config who rows) who own rows) (cluster_of config who rows) who facts facts
same_own config who own None all facts means has = record {
  stands = λ more role memory s. role_begun config who own has role (facts ++ more) memory s;
  fits = λ more fact. refl;
  shorter = λ more play. shorter_begun config who own has (facts ++ more);
}
same_own config (R rm) own (Some rows) all facts means has =
    record { stands = λ more role memory s. s; fits = λ more fact. refl; shorter = λ more play. refl }
same_own config (A a) own (Some rows) all facts means has = absurd means
same_own config (L l) own (Some rows) all facts means has = absurd means

-- and so a role stands for it there
role_of : (config : Config) (who : NodeId) (own : List Row) (rows : Option (List Row)) (all : List Entry) (facts : List Fact) (role : Role)
    → MeansFrom who all rows facts → HasRows config who own → RoleStands (begun config who own rows) who role facts empty_memory
    → RoleStands (cluster_of config who rows) who role facts empty_memory
role_of config who own None all facts role means has s = role_begun config who own has role facts empty_memory s
role_of config (R rm) own (Some rows) all facts role means has s = s
role_of config (A a) own (Some rows) all facts role means has s = absurd means
role_of config (L l) own (Some rows) all facts role means has s = absurd means

cluster_sizes : (config : Config) (who : NodeId) (rows : Option (List Row)) (sizes : Sizes) → AreSizes config sizes
    → AreSizes (cluster_of config who rows) sizes
cluster_sizes config who None sizes are = are
cluster_sizes config (A a) (Some rows) sizes are = are
cluster_sizes config (L l) (Some rows) sizes are = are
cluster_sizes config (R rm) (Some rows) sizes are = record {
  acceptors_are = are.acceptors_are;
  leaders_are = are.leaders_are;
  managers_are = are.managers_are;
  bundled_is = are.bundled_is;
}

cluster_plays : (config : Config) (who : NodeId) (rows : Option (List Row)) (before facts : List Fact)
    → all_play (cluster_of config who rows) who before facts ≡ all_play config who before facts
cluster_plays config who None before facts = refl
cluster_plays config (A a) (Some rows) before facts = refl
cluster_plays config (L l) (Some rows) before facts = refl
cluster_plays config (R rm) (Some rows) before facts = plays_over (beginning_with config rm rows) config rm before facts

module _ (config : Config) (who : NodeId) (own : List Row) (old new : Held) (role : Role) (l : IsLoaded config who own old new role)
    (has : HasRows config who own) where
  abbrev opened_in : Config
  opened_in = cluster_of config who l.kept.rows

  abbrev opened_state : NodeState
  opened_state = record { facts = l.kept.facts; up = true; tear = old.armed; memory = empty_memory }

  opened_holds : Holds opened_in who new.bytes l.kept []
  opened_holds = record {
    all = l.held.all;
    stored = subst (λ bytes. IsStored bytes l.held.all []) (sym l.written) (frames_stored l.held.all old.bytes l.tail l.held.stored);
    means = l.held.means;
    fits = cluster_plays config who l.kept.rows [] l.kept.facts ∙ l.held.fits;
  }

  opened_stands : Stands opened_in who own new (Some role) opened_state
  opened_stands = record {
    tail = [];
    keeps = record {
      kept = l.kept;
      holds = opened_holds;
      same = same_own config who own l.kept.rows l.held.all l.kept.facts l.held.means has;
    };
    played = opened_holds.fits;
    role_is = (refl, refl, role_of config who own l.kept.rows l.held.all l.kept.facts role l.held.means has l.stands);
    tear_is = sym l.stayed.armed;
  }

  module _ (sizes : Sizes) (are : AreSizes config sizes) where
    abbrev opened_node : NodeParts
    opened_node = record { who = who; sizes = sizes; rows = own; held = new; role = Some role }

    node_stands : NodeStands opened_in opened_node opened_state
    node_stands = record { sizes_are = cluster_sizes config who l.kept.rows sizes are; stands = opened_stands }

    -- a node that was opened is sound
    pub sound_opened : IsSized sizes → IsAmong sizes who → are_rows own ≡ true → IsSound opened_node
    sound_opened sized among short =
        record { sized = sized; among = among; short = short; config = opened_in; state = opened_state; is = node_stands }

    -- it stands for what its record said
    pub is_opened : IsOpened config who old opened_node
    is_opened = record {
      kept = l.kept;
      tail = l.tail;
      held = l.held;
      written = l.written;
      who_is = refl;
      up = refl;
      nature = l.stayed.nature;
      stands = node_stands;
    }

-- over an empty record, with no facts
none_kept : (who : NodeId) (kept : Kept) → MeansFrom who [] kept.rows kept.facts → kept ≡ both_parts None []
none_kept who kept means = by who kept.rows kept.facts means
  where
    by : (w : NodeId) (rows : Option (List Row)) (facts : List Fact) → MeansFrom w [] rows facts
        → both_parts rows facts ≡ both_parts None []
    by w None [] means = refl
    by w None (fact ∷ facts) means = absurd (cc (means))
    by (R rm) (Some rows) facts means = let e = means.all_is in absurd (cc (e))
    by (A a) (Some rows) facts means = absurd means
    by (L l) (Some rows) facts means = absurd means

-- on an empty record it is the node of the machine that nothing happened to
pub opened_empty : (config : Config) (who : NodeId) (old : Held) (node : NodeParts) → old.bytes ≡ [] → IsOpened config who old node
    → NodeStands config node (record { facts = []; up = true; tear = old.armed; memory = empty_memory })
opened_empty config who old node empty is =
    let all : is.held.all ≡ [] =
    (stored_same is.held.all [] old.bytes is.tail [] is.held.stored (empty, empty_tail)).0 in
    let none = none_kept who is.kept (subst (λ es. MeansFrom who es is.kept.rows is.kept.facts) all is.held.means) in
    subst (λ (k : Kept). NodeStands (cluster_of config who k.rows) node
    (record { facts = k.facts; up = true; tear = old.armed; memory = empty_memory })) none is.stands

-- a record that could not be loaded opens no node
pub is_unopened : (config : Config) (who : NodeId) (own : List Row) (old new : Held) (e : Refusal) → is_among config who ≡ true
    → Loads config who own old new (Err e) → IsUnopened config who old new e
is_unopened config who own old new Refusal.Damaged among l = (among, l.0, l.1)
is_unopened config who own old new Refusal.RecordFault among l = (among, l.0, l.1)
is_unopened config who own old new Refusal.NoMemory among l = (among, l.0, l.1)
is_unopened config who own old new other among l = absurd l

-- where memory ran out before its record was read
pub unopened_early : (config : Config) (who : NodeId) (held : Held) (e : Refusal) → is_among config who ≡ true → e ≡ Refusal.NoMemory
    → IsUnopened config who held held e
unopened_early config who held e among is =
    let stayed = stayed_whole config who [] held held refl in
    subst (IsUnopened config who held held) (sym is) (among, stayed.0, stayed.1)
