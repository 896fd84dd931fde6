-- What is opened over a record goes on from the node of the machine that stood there before.
-- Needed by `processes_go_on`; crate floored_groups.
use Rattle.std.proofs.Common.{◌≡◌, ◌∙◌, ℕ, true, List, [], ◌++◌, Option, Some, None, refl, sym, ap, subst, append-nil}
use Rattle.std.specs.Prelude.{if◌then◌else◌, is_some}
use Rattle.xid.specs.declared.refusals.Refusal.{Refusal}
use Rattle.stable_record.specs.declared.entry.EntryKind.{EntryKind as Entry}
use Rattle.stable_record.specs.declared.fact.FactKind.{FactKind as Fact}
use Rattle.stable_record.specs.Grammar.{IsStored}
use Rattle.stable_record.specs.Held.{Held}
use Rattle.protocol.specs.declared.answers.Answer.TheVariants.{Done, Refused}
use Rattle.protocol.specs.declared.nodes.NodeId.{NodeId}
use Rattle.protocol.specs.declared.nodes.NodeId.TheVariants.{A, L, R}
use Rattle.protocol.specs.declared.rows.Row.{Row}
use Rattle.protocol.specs.Effects.{Config}
use Rattle.protocol.specs.Nodes.{NodeState, Memory, Outcome, all_play, answer_outcome, down_node, empty_memory}
use Rattle.node_core.specs.declared.config.Sizes.{Sizes}
use Rattle.node_core.specs.declared.role.Role.{Role}
use Rattle.node_core.specs.Roles.{RoleStands}
use Rattle.node_core.specs.Nodes.{AreSizes, HasRows, Holds, Keeps, Kept, MeansFrom, NodeParts, NodeStands, RoleIs, SameState, Stands, begun}
use Rattle.node_core.specs.Opening.{IsOpened, IsUnopened, cluster_of}
use Rattle.node_core.specs.Shorter.{shorter_record}
use Rattle.node_core.proofs.Loading.{frames_stored, holds_again, same_holds}
use Rattle.node_core.proofs.Restarting.{down_stands, same_contents, shorter_begun}
use Rattle.node_core.proofs.Starting.{begun_plays, begun_rows}
use Rattle.groups.specs.Processes.{GoesOn, StaysDown, StoodFor, down_over, restarted, torn_by}

-- ---- rows that are its own in the cluster

own_begun : (config : Config) (who : NodeId) (own : List Row) → HasRows config who own → (role : Role) (facts : List Fact) (memory : Memory)
    → RoleStands config who role facts memory → RoleStands (begun config who own None) who role facts memory
own_begun config (A a) own has role facts memory s = s
own_begun config (L l) own has role facts memory s = s
own_begun config (R rm) own has (Role.Manager p) facts memory s =
    same_contents config _ rm p facts memory.branches refl
    (sym has ∙ begun_rows config (R rm) own None) s
own_begun config (R rm) own has (Role.Acceptor p) facts memory s = absurd s
own_begun config (R rm) own has (Role.Leader p) facts memory s = absurd s

-- a role that stands in the cluster that a record is of stands where its table begins with its rows
stands_begun : (config : Config) (who : NodeId) (own : List Row) (rows : Option (List Row)) (all : List Entry) (facts : List Fact)
    → MeansFrom who all rows facts → HasRows config who own → (role : Role) (known : List Fact) (memory : Memory)
    → RoleStands (cluster_of config who rows) who role known memory → RoleStands (begun config who own rows) who role known memory
stands_begun config who own None all facts means has role known memory s = own_begun config who own has role known memory s
stands_begun config (R rm) own (Some rows) all facts means has role known memory s = s
stands_begun config (A a) own (Some rows) all facts means has role known memory s = absurd means
stands_begun config (L l) own (Some rows) all facts means has role known memory s = absurd means

-- so it does where another's rows were in the place of its own
begun_again : (config : Config) (who : NodeId) (own other : List Row) (rows : Option (List Row)) (all : List Entry) (facts : List Fact)
    → MeansFrom who all rows facts → HasRows config who own
    → SameState (begun (cluster_of config who rows) who other rows) (cluster_of config who rows) who facts facts
    → (role : Role) (more : List Fact) (memory : Memory) → RoleStands (begun config who other rows) who role (facts ++ more) memory
    → RoleStands (begun config who own rows) who role (facts ++ more) memory
begun_again config who own other None all facts means has same role more memory s =
    own_begun config who own has role (facts ++ more) memory (same.stands more role memory s)
begun_again config (R rm) own other (Some rows) all facts means has same role more memory s = s
begun_again config (A a) own other (Some rows) all facts means has same role more memory s = absurd means
begun_again config (L l) own other (Some rows) all facts means has same role more memory s = absurd means

-- the shorter record is the same
shorter_again : (config : Config) (who : NodeId) (own other : List Row) (rows : Option (List Row)) (all : List Entry) (facts : List Fact)
    → MeansFrom who all rows facts → HasRows config who own
    → SameState (begun (cluster_of config who rows) who other rows) (cluster_of config who rows) who facts facts
    → (more : List Fact) → all_play (begun config who other rows) who [] (facts ++ more) ≡ true
    → shorter_record (begun config who other rows) who (facts ++ more) ≡ shorter_record (begun config who own rows) who (facts ++ more)
shorter_again config who own other None all facts means has same more play =
    same.shorter more play ∙ sym (shorter_begun config who own has (facts ++ more))
shorter_again config (R rm) own other (Some rows) all facts means has same more play = refl
shorter_again config (A a) own other (Some rows) all facts means has same more play = absurd means
shorter_again config (L l) own other (Some rows) all facts means has same more play = absurd means

-- first rows of one manager leave the sizes of a cluster
pub sizes_of : (config : Config) (who : NodeId) (rows : Option (List Row)) (sizes : Sizes) → AreSizes (cluster_of config who rows) sizes
    → AreSizes config sizes
sizes_of config who None sizes are = are
sizes_of config (A a) (Some rows) sizes are = are
sizes_of config (L l) (Some rows) sizes are = are
sizes_of config (R rm) (Some rows) sizes are = record {
  acceptors_are = are.acceptors_are;
  leaders_are = are.leaders_are;
  managers_are = are.managers_are;
  bundled_is = are.bundled_is;
}

-- ---- the node before

module _ (config : Config) (who : NodeId) (before : NodeParts) (m : NodeState) (held : Held) (s : StoodFor config who held.bytes before m)
  where
    -- it is down, over the same bytes
    stood : Stands config who before.rows held None (down_node (torn_by held.armed m))
    stood =
        let there : Stands config who before.rows before.held before.role m =
        subst (λ w. Stands config w before.rows before.held before.role m) s.who_is s.stands.stands in
        record {
          tail = there.tail;
          keeps = subst (λ bytes. Keeps config who before.rows bytes m.facts there.tail) s.bytes_are there.keeps;
          played = there.played;
          role_is = refl;
          tear_is = refl;
        }

    over : (left : Held) → Stands config who before.rows left None (down_node (torn_by held.armed m))
        → NodeStands config (down_over left before) (down_node (torn_by held.armed m))
    over left stands = record {
      sizes_are = s.stands.sizes_are;
      stands = subst (λ w. Stands config w before.rows left None (down_node (torn_by held.armed m))) (sym s.who_is) stands;
    }

    -- ---- no node is opened

    left_so : (left : Held) → ((kept : Kept) (tail : List ℕ) → Holds config who held.bytes kept tail
        → (end : List ℕ) × Holds config who left.bytes kept end) → left.armed ≡ held.armed
        → NodeStands config (down_over left before) (down_node (torn_by held.armed m))
    left_so left holds armed =
        let h = holds stood.keeps.kept stood.tail stood.keeps.holds in
        over left (down_stands config who before.rows (down_node (torn_by held.armed m)) held None stood left h.0 h.1 armed)

    as_it_was : (left : Held) → left ≡ held → NodeStands config (down_over left before) (down_node (torn_by held.armed m))
    as_it_was left same =
        left_so left (λ kept tail h. (tail, subst (λ (r : Held). Holds config who r.bytes kept tail) (sym same) h))
        (ap (λ (r : Held). r.armed) same)

    unopened : (left : Held) (refusal : Refusal) → IsUnopened config who held left refusal → StaysDown config held left before m refusal
    unopened left Refusal.NoSuch is = record { undamaged = λ e. absurd (cc e); stands = as_it_was left is.0 }
    unopened left Refusal.Damaged is = absurd (is.2 stood.keeps.kept stood.tail stood.keeps.holds)
    unopened left Refusal.RecordFault is =
        record { undamaged = λ e. absurd (cc e); stands = left_so left (is.1.holds config who) is.1.armed }
    unopened left Refusal.NoMemory is =
        record { undamaged = λ e. absurd (cc e); stands = left_so left (is.1.holds config who) is.1.armed }
    unopened left other is = absurd is

    -- ---- a node is opened

    module _ (node : NodeParts) (o : IsOpened config who held node) where
      abbrev cluster : Config
      cluster = cluster_of config who o.kept.rows

      abbrev found : NodeState
      found = record { facts = o.kept.facts; up = true; tear = held.armed; memory = empty_memory }

      -- in the cluster that its record is of
      there : Stands cluster who node.rows node.held node.role found
      there = subst (λ w. Stands cluster w node.rows node.held node.role found) o.who_is o.stands.stands

      same_kept : stood.keeps.kept ≡ o.kept
      same_kept = same_holds config config who held.bytes stood.keeps.kept o.kept stood.tail o.tail stood.keeps.holds o.held

      written : IsStored node.held.bytes o.held.all []
      written = subst (λ bytes. IsStored bytes o.held.all []) (sym o.written) (frames_stored o.held.all held.bytes o.tail o.held.stored)

      now_holds : Holds config who node.held.bytes o.kept []
      now_holds = holds_again config who held.bytes node.held.bytes o.kept o.tail [] o.held written

      found_kept : there.keeps.kept ≡ o.kept
      found_kept = same_holds cluster config who node.held.bytes there.keeps.kept o.kept there.tail [] there.keeps.holds now_holds

      -- what it kept says the same as all facts
      says : SameState (begun config who before.rows o.kept.rows) config who o.kept.facts m.facts
      says = subst (λ (k : Kept). SameState (begun config who before.rows k.rows) config who k.facts m.facts) same_kept stood.keeps.same

      found_says : SameState (begun cluster who node.rows o.kept.rows) cluster who o.kept.facts o.kept.facts
      found_says =
          subst (λ (k : Kept). SameState (begun cluster who node.rows k.rows) cluster who k.facts o.kept.facts) found_kept there.keeps.same

      now_says : SameState (begun config who node.rows o.kept.rows) config who o.kept.facts m.facts
      now_says = record {
        stands = λ more role memory h. says.stands more role memory
            (begun_again config who before.rows node.rows o.kept.rows o.held.all o.kept.facts o.held.means s.rows_are found_says role more
            memory h);
        fits = says.fits;
        shorter = λ more play.
            shorter_again config who before.rows node.rows o.kept.rows o.held.all o.kept.facts o.held.means s.rows_are found_says more play
            ∙ says.shorter more
            (begun_plays config who before.rows o.kept.rows [] (o.kept.facts ++ more)
            ∙ sym (begun_plays config who node.rows o.kept.rows [] (o.kept.facts ++ more)) ∙ play);
      }

      role_says : (role : Role) → RoleStands cluster who role o.kept.facts empty_memory → RoleStands config who role m.facts empty_memory
      role_says role h =
          subst (λ facts. RoleStands config who role facts empty_memory) (append-nil m.facts)
          (says.stands [] role empty_memory
          (subst (λ facts. RoleStands (begun config who before.rows o.kept.rows) who role facts empty_memory)
          (sym (append-nil o.kept.facts))
          (stands_begun config who before.rows o.kept.rows o.held.all o.kept.facts o.held.means s.rows_are role o.kept.facts
          empty_memory h)))

      abbrev up : NodeState
      up = record { facts = m.facts; up = true; tear = held.armed; memory = empty_memory }

      role_is : (role : Option Role) → is_some role ≡ true → (tail : List ℕ) → RoleIs cluster who found tail role
          → RoleIs config who up [] role
      role_is None some tail is = absurd (cc some)
      role_is (Some role) some tail is = (refl, refl, role_says role is.2)

      opened_stands : NodeStands config node up
      opened_stands = record {
        sizes_are = sizes_of config who o.kept.rows node.sizes o.stands.sizes_are;
        stands = subst (λ w. Stands config w node.rows node.held node.role up) (sym o.who_is) (record {
          tail = [];
          keeps = record { kept = o.kept; holds = now_holds; same = now_says };
          played = stood.played;
          role_is = role_is node.role o.up there.tail there.role_is;
          tear_is = there.tear_is;
        });
      }

      -- as the machine restarts it
      outcome_is : answer_outcome up Done ≡ restarted config who held m
      outcome_is = λ i. if sym stood.played i then answer_outcome up Done else
          answer_outcome (down_node (torn_by held.armed m)) (Refused Refusal.Damaged)

      opened : GoesOn config who held m node
      opened = record {
        answer_is = sym (ap (λ (o : Outcome). o.answer) outcome_is);
        stands = subst (λ (o : Outcome). NodeStands config node o.node) outcome_is opened_stands;
      }

pub goes_on : (config : Config) (who : NodeId) (before : NodeParts) (m : NodeState) (held : Held) (node : NodeParts)
    → StoodFor config who held.bytes before m → IsOpened config who held node → GoesOn config who held m node
goes_on config who before m held node s o = opened config who before m held s node o

pub stays_down : (config : Config) (who : NodeId) (before : NodeParts) (m : NodeState) (held left : Held) (refusal : Refusal)
    → StoodFor config who held.bytes before m → IsUnopened config who held left refusal → StaysDown config held left before m refusal
stays_down config who before m held left refusal s is = unopened config who before m held s left refusal is
