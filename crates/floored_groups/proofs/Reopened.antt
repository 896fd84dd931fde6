-- A process that ended, at whatever moment, and was opened anew over its record goes on as its node does where it is restarted. Runs of all
-- processes need it.
use Rattle.std.proofs.Common.{◌≡◌, ◌∙◌, ℕ, true, List, [], ◌∷◌, ◌++◌, drop, length, Option, Some, None, refl, sym, ap, subst, append-nil}
use Rattle.std.specs.Prelude.{if◌then◌else◌, is_some}
use Rattle.std.proofs.Math.Seq.{drop-append_seam}
use Rattle.std.proofs.lemmas.List.{length-replicate}
use Rattle.xid.specs.Names.{IsBytes}
use Rattle.xid.specs.Places.{Place}
use Rattle.xid.specs.declared.refusals.Refusal.{Refusal}
use Rattle.stable_record.specs.declared.entry.EntryKind.{EntryKind as Entry}
use Rattle.stable_record.specs.declared.fact.FactKind.{FactKind as Fact}
use Rattle.stable_record.specs.Behind.{behind}
use Rattle.stable_record.specs.Floors.{floor_of, front_of}
use Rattle.stable_record.proofs.Floors.{floor_stays}
use Rattle.stable_record.specs.Grammar.{IsStored}
use Rattle.stable_record.specs.Held.{Held}
use Rattle.protocol.specs.declared.answers.Answer.{Answer}
use Rattle.protocol.specs.declared.answers.Answer.TheVariants.{Done, Refused}
use Rattle.protocol.specs.declared.events.Event.TheVariants.{Restart}
use Rattle.protocol.specs.declared.nodes.NodeId.{NodeId}
use Rattle.protocol.specs.declared.nodes.NodeId.TheVariants.{A, L, R}
use Rattle.protocol.specs.declared.rows.Row.{Row}
use Rattle.protocol.specs.Effects.{Config}
use Rattle.protocol.specs.Nodes.{NodeState, Memory, NoFault, Outcome, all_play, answer_outcome, down_node, empty_memory, first_rows}
use Rattle.protocol.specs.Nodes.{restart_outcome}
use Rattle.protocol.specs.Tables.{table}
use Rattle.resource_manager.specs.Compacted.{beginning_with, shorter_entries}
use Rattle.resource_manager.specs.Left.{AreAlike}
use Rattle.resource_manager.proofs.Shortened.{plays_over}
use Rattle.forgetting.specs.Above.{CameAlike, StandsAbove}
use Rattle.forgetting.proofs.Coming as coming
use Rattle.node_core.specs.declared.role.Role.{Role}
use Rattle.node_core.specs.Roles.{RoleStands}
use Rattle.node_core.specs.Nodes.{HasRows, Holds, Kept, MeansFrom, NodeParts, NodeStands, RoleIs, SameState, Stands, begun}
use Rattle.node_core.specs.Opening.{IsOpened, cluster_of}
use Rattle.node_core.specs.Shorter.{shorter_record}
use Rattle.node_core.proofs.Loading.{frames_stored, holds_again, same_holds}
use Rattle.node_core.proofs.Restarting.{same_contents}
use Rattle.node_core.proofs.Risen.{sized_alike}
use Rattle.node_core.proofs.Starting.{begun_plays, begun_rows}
use Rattle.floors.specs.Worlds.{FlooredWorld, Machine}
use Rattle.floored.specs.Nodes.{FlooredParts, FlooredStands}
use Rattle.floored.specs.Told.{told_at}
use Rattle.groups.proofs.Opened.{sizes_of}
use Rattle.port.specs.Members.{MemberParts}
use Rattle.floored_groups.specs.Runs.{IsFlooredReached, Underwent}
use Rattle.floored_groups.specs.Processes.{GoesOn, Reopens, StandsIn}
use Rattle.floored_groups.proofs.Going.{goes_as}
use Rattle.floored_groups.proofs.Upkept.{none_told, restart_on}

-- ---- clusters that are alike to a node

alike_begun : (from config : Config) (rm : ℕ) (rows : List Row) → AreAlike (R rm) from config
    → beginning_with from rm rows ≡ beginning_with config rm rows
alike_begun from config rm rows alike = ap (λ (c : Config). beginning_with c rm rows) alike

-- the rows that a table began with are its own in the cluster
own_rows : (from config : Config) (rm : ℕ) (own : List Row) → HasRows config (R rm) own
    → first_rows config rm ≡ first_rows (beginning_with from rm own) rm
own_rows from config rm own has = sym has ∙ begun_rows from (R rm) own None

module _ (from config : Config) where
  -- a role that stands in the cluster that a record is of stands where its table begins with its rows
  stands_begun : (who : NodeId) (own : List Row) (rows : Option (List Row)) (all : List Entry) (facts : List Fact)
      → AreAlike who from config → MeansFrom who all rows facts → HasRows config who own → (role : Role) (known : List Fact)
      (memory : Memory) → RoleStands (cluster_of config who rows) who role known memory
      → RoleStands (begun from who own rows) who role known memory
  stands_begun (A a) own None all facts alike means has role known memory s =
      subst (λ (c : Config). RoleStands c (A a) role known memory) (sym alike) s
  stands_begun (L l) own None all facts alike means has role known memory s =
      subst (λ (c : Config). RoleStands c (L l) role known memory) (sym alike) s
  stands_begun (R rm) own None all facts alike means has (Role.Manager p) known memory s =
      same_contents config (beginning_with from rm own) rm p known memory.branches (ap (λ (c : Config). c.managers) alike)
      (own_rows from config rm own has) s
  stands_begun (R rm) own None all facts alike means has (Role.Acceptor p) known memory s = absurd s
  stands_begun (R rm) own None all facts alike means has (Role.Leader p) known memory s = absurd s
  stands_begun (R rm) own (Some rows) all facts alike means has role known memory s =
      subst (λ (c : Config). RoleStands c (R rm) role known memory) (sym (alike_begun from config rm rows alike)) s
  stands_begun (A a) own (Some rows) all facts alike means has role known memory s = absurd means
  stands_begun (L l) own (Some rows) all facts alike means has role known memory s = absurd means

  -- so it does where another's rows were in the place of its own
  begun_again : (who : NodeId) (own other : List Row) (rows : Option (List Row)) (all : List Entry) (facts : List Fact)
      → AreAlike who from config → MeansFrom who all rows facts → HasRows config who own
      → SameState (begun (cluster_of config who rows) who other rows) (cluster_of config who rows) who facts facts
      → (role : Role) (more : List Fact) (memory : Memory) → RoleStands (begun from who other rows) who role (facts ++ more) memory
      → RoleStands (begun from who own rows) who role (facts ++ more) memory
  begun_again (A a) own other None all facts alike means has same role more memory s = s
  begun_again (L l) own other None all facts alike means has same role more memory s = s
  begun_again (R rm) own other None all facts alike means has same role more memory s =
      stands_begun (R rm) own None all facts alike means has role (facts ++ more) memory
      (same.stands more role memory
      (subst (λ (c : Config). RoleStands c (R rm) role (facts ++ more) memory) (alike_begun from config rm other alike) s))
  begun_again (R rm) own other (Some rows) all facts alike means has same role more memory s = s
  begun_again (A a) own other (Some rows) all facts alike means has same role more memory s = absurd means
  begun_again (L l) own other (Some rows) all facts alike means has same role more memory s = absurd means

  -- and the shorter record is the same
  shorter_again : (who : NodeId) (own other : List Row) (rows : Option (List Row)) (all : List Entry) (facts : List Fact)
      → AreAlike who from config → MeansFrom who all rows facts → HasRows config who own
      → SameState (begun (cluster_of config who rows) who other rows) (cluster_of config who rows) who facts facts
      → (more : List Fact) → all_play (begun from who other rows) who [] (facts ++ more) ≡ true
      → shorter_record (begun from who other rows) who (facts ++ more) ≡ shorter_record (begun from who own rows) who (facts ++ more)
  shorter_again (A a) own other None all facts alike means has same more play = refl
  shorter_again (L l) own other None all facts alike means has same more play = refl
  shorter_again (R rm) own other None all facts alike means has same more play =
      ap (λ (c : Config). shorter_record c (R rm) (facts ++ more)) (alike_begun from config rm other alike)
      ∙ same.shorter more (plays_over (beginning_with config rm other) (beginning_with from rm other) rm [] (facts ++ more) ∙ play)
      ∙ ap (λ (rows : List Row). shorter_entries (table rows (facts ++ more)) (facts ++ more)) (own_rows from config rm own has)
  shorter_again (R rm) own other (Some rows) all facts alike means has same more play = refl
  shorter_again (A a) own other (Some rows) all facts alike means has same more play = absurd means
  shorter_again (L l) own other (Some rows) all facts alike means has same more play = absurd means

-- ---- the node beneath

module _ (from config : Config) (who : NodeId) (before : NodeParts) (few : NodeState) (held : Held) (alike : AreAlike who from config)
    (own : HasRows config who before.rows) (who_is : before.who ≡ who) (bytes_are : before.held.bytes ≡ held.bytes)
    (armed_is : held.armed ≡ before.held.armed) (s : NodeStands from before few) (node : NodeParts) (o : IsOpened config who held node)
  where
    stood : Stands from who before.rows before.held before.role few
    stood = subst (λ (w : NodeId). Stands from w before.rows before.held before.role few) who_is s.stands

    kept_holds : Holds from who held.bytes stood.keeps.kept stood.tail
    kept_holds = subst (λ (bytes : List ℕ). Holds from who bytes stood.keeps.kept stood.tail) bytes_are stood.keeps.holds

    abbrev cluster : Config
    cluster = cluster_of config who o.kept.rows

    abbrev found : NodeState
    found = record { facts = o.kept.facts; up = true; tear = held.armed; memory = empty_memory }

    there : Stands cluster who node.rows node.held node.role found
    there = subst (λ (w : NodeId). Stands cluster w node.rows node.held node.role found) o.who_is o.stands.stands

    same_kept : stood.keeps.kept ≡ o.kept
    same_kept = same_holds from config who held.bytes stood.keeps.kept o.kept stood.tail o.tail kept_holds o.held

    written : IsStored node.held.bytes o.held.all []
    written =
        subst (λ (bytes : List ℕ). IsStored bytes o.held.all []) (sym o.written) (frames_stored o.held.all held.bytes o.tail o.held.stored)

    opened_holds : Holds config who node.held.bytes o.kept []
    opened_holds = holds_again config who held.bytes node.held.bytes o.kept o.tail [] o.held written

    now_holds : Holds from who node.held.bytes o.kept []
    now_holds = record {
      all = o.held.all;
      stored = written;
      means = o.held.means;
      fits = subst (λ (k : Kept). all_play from who [] k.facts ≡ true) same_kept kept_holds.fits;
    }

    found_kept : there.keeps.kept ≡ o.kept
    found_kept = same_holds cluster config who node.held.bytes there.keeps.kept o.kept there.tail [] there.keeps.holds opened_holds

    -- what it kept says the same as its facts
    says : SameState (begun from who before.rows o.kept.rows) from who o.kept.facts few.facts
    says = subst (λ (k : Kept). SameState (begun from who before.rows k.rows) from who k.facts few.facts) same_kept stood.keeps.same

    found_says : SameState (begun cluster who node.rows o.kept.rows) cluster who o.kept.facts o.kept.facts
    found_says =
        subst (λ (k : Kept). SameState (begun cluster who node.rows k.rows) cluster who k.facts o.kept.facts) found_kept there.keeps.same

    now_says : SameState (begun from who node.rows o.kept.rows) from who o.kept.facts few.facts
    now_says = record {
      stands = λ more role memory h.
          says.stands more role memory
          (begun_again from config who before.rows node.rows o.kept.rows o.held.all o.kept.facts alike o.held.means own found_says role more
          memory h);
      fits = says.fits;
      shorter = λ more play.
          shorter_again from config who before.rows node.rows o.kept.rows o.held.all o.kept.facts alike o.held.means own found_says more
          play
          ∙ says.shorter more
          (begun_plays from who before.rows o.kept.rows [] (o.kept.facts ++ more)
          ∙ sym (begun_plays from who node.rows o.kept.rows [] (o.kept.facts ++ more)) ∙ play);
    }

    role_says : (role : Role) → RoleStands cluster who role o.kept.facts empty_memory → RoleStands from who role few.facts empty_memory
    role_says role h =
        subst (λ (facts : List Fact). RoleStands from who role facts empty_memory) (append-nil few.facts)
        (says.stands [] role empty_memory
        (subst (λ (facts : List Fact). RoleStands (begun from who before.rows o.kept.rows) who role facts empty_memory)
        (sym (append-nil o.kept.facts))
        (stands_begun from config who before.rows o.kept.rows o.held.all o.kept.facts alike o.held.means own role o.kept.facts empty_memory
        h)))

    abbrev up : NodeState
    up = record { facts = few.facts; up = true; tear = few.tear; memory = empty_memory }

    role_is : (role : Option Role) → is_some role ≡ true → (tail : List ℕ) → RoleIs cluster who found tail role → RoleIs from who up [] role
    role_is None some tail is = absurd (cc (some))
    role_is (Some role) some tail is = (refl, refl, role_says role is.2)

    opened_stands : NodeStands from node up
    opened_stands = record {
      sizes_are = sized_alike who config from node.sizes alike (sizes_of config who o.kept.rows node.sizes o.stands.sizes_are);
      stands = subst (λ (w : NodeId). Stands from w node.rows node.held node.role up) (sym o.who_is) (record {
        tail = [];
        keeps = record { kept = o.kept; holds = now_holds; same = now_says };
        played = stood.played;
        role_is = role_is node.role o.up there.tail there.role_is;
        tear_is = stood.tear_is ∙ sym armed_is ∙ there.tear_is;
      });
    }

    -- as the machine restarts it
    outcome_is : answer_outcome up Done ≡ restart_outcome from who few NoFault
    outcome_is = λ i. if sym stood.played i then answer_outcome up Done else answer_outcome (down_node few) (Refused Refusal.Damaged)

    restarted_stands : NodeStands from node (restart_outcome from who few NoFault).node
    restarted_stands = subst (λ (out : Outcome). NodeStands from node out.node) outcome_is opened_stands

-- ---- the whole node

-- what came of it is what a restart comes to that no fault meets
record IsRestarted (config : Config) (who : NodeId) (m : NodeState) (new : FlooredParts) : Type 0 where
  pub answer_is : (restart_outcome config who m NoFault).answer ≡ Done
  pub stands : FlooredStands config new (restart_outcome config who m NoFault).node

module _ (config : Config) (who : NodeId) (m : NodeState) (old new : MemberParts) (s : FlooredStands config old.floored m)
    (who_is : old.floored.node.who ≡ who) (r : Reopens config who old new) where
  -- its record begins with its floor
  found_floor : floor_of r.held.bytes ≡ old.floored.floor
  found_floor =
      ap floor_of r.bytes_are
      ∙ floor_stays old.floored.floor old.floored.node.held.bytes s.is.stands.keeps.holds.all s.is.stands.tail r.valid
      (subst IsBytes r.bytes_are r.are_bytes) s.is.stands.keeps.holds.stored

  floor_is : new.floored.floor ≡ old.floored.floor
  floor_is = r.opened.floor_is ∙ found_floor

  abbrev within : Held
  within = behind (front_of new.floored.floor) r.held

  bytes_are : old.floored.node.held.bytes ≡ within.bytes
  bytes_are =
      sym (drop-append_seam (front_of old.floored.floor) old.floored.node.held.bytes)
      ∙ sym (ap (drop (length (front_of old.floored.floor))) r.bytes_are)
      ∙ sym (ap (λ (f : Option Place). (behind (front_of f) r.held).bytes) floor_is)

  above : StandsAbove s.from config who old.floored.floor s.few m
  above = subst (λ (w : NodeId). StandsAbove s.from config w old.floored.floor s.few m) who_is s.above

  little_is : answer_outcome (record { facts = s.few.facts; up = true; tear = s.few.tear; memory = empty_memory }) Done
      ≡ restart_outcome s.from who s.few NoFault
  little_is =
      outcome_is s.from config who old.floored.node s.few within above.alike r.rows_are who_is bytes_are r.armed_is s.is new.floored.node
      r.opened.opened

  came : CameAlike s.from config who old.floored.floor s.few m (restart_outcome s.from who s.few NoFault)
      (restart_outcome config who m NoFault)
  came =
      coming.came s.from config who old.floored.floor s.few m above (restart_outcome s.from who s.few NoFault)
      (restart_outcome config who m NoFault) (coming.restarted s.from config who old.floored.floor s.few m above NoFault)
      (subst (λ (out : Outcome). all_play s.from who [] out.node.facts ≡ true) little_is above.few_play)

  reopened : IsRestarted config who m new.floored
  reopened = record {
    answer_is = sym (ap (λ (out : Outcome). out.answer) little_is ∙ came.answer_is);
    stands = record {
      from = s.from;
      few = (restart_outcome s.from who s.few NoFault).node;
      is =
          restarted_stands s.from config who old.floored.node s.few within above.alike r.rows_are who_is bytes_are r.armed_is s.is
          new.floored.node r.opened.opened;
      above =
          subst (λ (w : NodeId). StandsAbove s.from config w new.floored.floor (restart_outcome s.from who s.few NoFault).node
          (restart_outcome config who m NoFault).node) (sym r.opened.opened.who_is)
          (subst (λ (f : Option Place). StandsAbove s.from config who f (restart_outcome s.from who s.few NoFault).node
          (restart_outcome config who m NoFault).node) (sym floor_is) came.stands);
    };
  }

-- a process that is opened anew goes on as its node does after a restart that no fault meets
pub reopened_on : (config : Config) (world : FlooredWorld) (reach : IsFlooredReached config world) (who : NodeId) (old new : MemberParts)
    → StandsIn config world who old → Reopens config who old new
    → GoesOn config world reach who new [] [] (Underwent (Machine (Restart who)) Done ∷ [])
reopened_on config world reach who old new s r =
    let i = reopened config who s.state old new s.is s.who_is r in
    goes_as config who world reach new [] [] [] []
    (Underwent (Machine (Restart who)) (restart_outcome config who s.state NoFault).answer ∷ [])
    (Underwent (Machine (Restart who)) Done ∷ []) refl refl (ap (λ (a : Answer). Underwent (Machine (Restart who)) a ∷ []) i.answer_is)
    (restart_on config world reach who old new s NoFault tt i.stands (r.opened.opened.who_is ∙ sym s.who_is)
    (floor_is config who s.state old new s.is s.who_is r) (ap length r.told_is ∙ length-replicate config.managers None)
    (λ rm. ap (λ (told : List (Option Place)). told_at told rm) r.told_is ∙ none_told config.managers rm))
