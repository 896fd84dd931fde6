-- What comes of a node whose floor was to rise.
-- Needed by `Node<Behind<R>>::raise`, `Node<Behind<R>>::stop`, `Role::above` and `raise`; crates floored and floored_groups.
use Rattle.std.proofs.Common.{◌≡◌, ◌∙◌, inl, inr, ℕ, true, List, [], Option, Some, None, refl, sym, ap, subst, drop}
use Rattle.std.specs.Prelude.{Result, Ok, Err}
use Rattle.xid.specs.Places.{Place, IsPlace}
use Rattle.xid.specs.declared.refusals.Refusal.{Refusal}
use Rattle.stable_record.specs.declared.fact.FactKind.{FactKind as Fact}
use Rattle.stable_record.specs.Held.{Held, Nature}
use Rattle.stable_record.specs.Behind.{BehindParts, HasFailedToRise, IsFronting, risen}
use Rattle.stable_record.proofs.Known.{IsEither, failed_either, failed_fronting}
use Rattle.protocol.specs.declared.nodes.NodeId.{NodeId}
use Rattle.protocol.specs.declared.nodes.NodeId.TheVariants.{A, L, R}
use Rattle.protocol.specs.declared.rows.Row.{Row}
use Rattle.protocol.specs.Effects.{Config}
use Rattle.protocol.specs.Kept.{are_free_below, kept_facts, kept_leader, kept_memory}
use Rattle.protocol.specs.LeaderMemory.{LeaderMemory}
use Rattle.protocol.specs.Managers.{Branch}
use Rattle.protocol.specs.Nodes.{NodeState, all_play, down_node, first_rows}
use Rattle.protocol.specs.Tables.{table}
use Rattle.protocol.proofs.Kept.Playing.{all_play_kept}
use Rattle.leader.specs.Leaders as of_leader
use Rattle.leader.specs.Leaders.{LeaderParts}
use Rattle.resource_manager.specs.Compacted.{beginning_with}
use Rattle.resource_manager.specs.Left.{AreAlike, left_facts, left_node, manager_left}
use Rattle.resource_manager.specs.Managers as of_manager
use Rattle.resource_manager.specs.Managers.{ManagerParts}
use Rattle.resource_manager.proofs.Leaving.{all_play_left}
use Rattle.resource_manager.proofs.Shortened.{begins_with}
use Rattle.node_core.specs.declared.role.Role.{Role}
use Rattle.node_core.specs.Compacting.{IsShorter, Shortens}
use Rattle.node_core.specs.declared.config.Sizes.{Sizes}
use Rattle.node_core.specs.Nodes.{AreSizes, IsSound, Keeps, NodeParts, Stands}
use Rattle.node_core.specs.Raising.{Forgets, GoesOnIn, IsRaised, IsRaisedOrNot, Leaves, Raises, TellsClear, is_clear_below}
use Rattle.node_core.specs.Roles.{RoleStands}

-- ---- one role

module _ (place : Place) where
  -- what a leader leaves below a place is what its role leaves there
  pub leader_leaves : (p left : LeaderParts)
      → ((config : Config) (number : ℕ) (facts : List Fact) (memory : LeaderMemory) → of_leader.StandsFor config number p facts memory
      → of_leader.StandsFor config number left (kept_facts (Some place) facts) (kept_leader (Some place) memory))
      → Leaves place (Role.Leader p) (Role.Leader left)
  leader_leaves p left h config next (A a) facts memory s clear goes = absurd s
  leader_leaves p left h config next (L l) facts memory s clear goes =
      subst (λ (c : Config). of_leader.StandsFor c l left (kept_facts (Some place) facts) (kept_leader (Some place) memory.leader))
      (sym goes.alike) (h config l facts memory.leader s)
  leader_leaves p left h config next (R rm) facts memory s clear goes = absurd s

  -- so it is for a resource manager
  pub manager_leaves : (p left : ManagerParts)
      → ((config next : Config) (number : ℕ) (facts : List Fact) (branches : List Branch)
      → of_manager.StandsFor config number p facts branches → are_free_below place facts branches ≡ true
      → next.managers ≡ config.managers → first_rows next number ≡ table (first_rows config number) facts
      → of_manager.StandsFor next number left (manager_left (Some place) facts) branches)
      → Leaves place (Role.Manager p) (Role.Manager left)
  manager_leaves p left h config next (A a) facts memory s clear goes = absurd s
  manager_leaves p left h config next (L l) facts memory s clear goes = absurd s
  manager_leaves p left h config next (R rm) facts memory s clear goes =
      h config next rm facts memory.branches s clear (ap (λ (c : Config). c.managers) goes.alike) goes.begins

-- ---- the cluster in which it goes on

abbrev next_of : Config → NodeId → List Fact → Config
next_of config (R rm) facts = beginning_with config rm (table (first_rows config rm) facts)
next_of config who facts = config

goes_on : (config : Config) (who : NodeId) (facts : List Fact) → GoesOnIn config who facts (next_of config who facts)
goes_on config (A a) facts = record { alike = refl; begins = tt }
goes_on config (L l) facts = record { alike = refl; begins = tt }
goes_on config (R rm) facts = record { alike = refl; begins = begins_with config rm (table (first_rows config rm) facts) }

left_plays : (place : Place) (config next : Config) (who : NodeId) (facts : List Fact) → AreAlike who next config
    → all_play config who [] facts ≡ true → all_play next who [] (left_facts who (Some place) facts) ≡ true
left_plays place config next (A a) facts alike play =
    subst (λ (c : Config). all_play c (A a) [] (kept_facts (Some place) facts) ≡ true) (sym alike)
    (all_play_kept (Some place) config (A a) [] facts play)
left_plays place config next (L l) facts alike play =
    subst (λ (c : Config). all_play c (L l) [] (kept_facts (Some place) facts) ≡ true) (sym alike)
    (all_play_kept (Some place) config (L l) [] facts play)
left_plays place config next (R rm) facts alike play =
    all_play_left facts rm config next [] (kept_facts (Some place) facts) (all_play_kept (Some place) config (R rm) [] facts play)

-- ---- a record and a role

module _ (config : Config) (who : NodeId) (own : List Row) (m : NodeState) (place : Place) (old new : BehindParts) (up : Role)
    (s : Stands config who own old.held (Some up) m) (clear : is_clear_below who place m.facts m.memory ≡ true) where
  abbrev next : Config
  next = next_of config who m.facts

  abbrev facts : List Fact
  facts = left_facts who (Some place) m.facts

  module _ (left : Role) (bytes : List ℕ) (leaves : Leaves place up left) (shortens : Shortens left bytes) where
    plays_now : all_play next who [] facts ≡ true
    plays_now = left_plays place config next who m.facts (goes_on config who m.facts).alike s.played

    role_now : RoleStands next who left facts (kept_memory (Some place) m.memory)
    role_now = leaves config next who m.facts m.memory s.role_is.2 clear (goes_on config who m.facts)

    keeps_now : new.held.bytes ≡ bytes → Keeps next who own new.held.bytes facts []
    keeps_now is =
        let shorter : IsShorter next who facts bytes = shortens next who facts (kept_memory (Some place) m.memory) role_now plays_now in
        subst (λ (bs : List ℕ). Keeps next who own bs facts []) (sym is) (record {
          kept = shorter.kept;
          holds = record { all = shorter.all; stored = shorter.stored; means = shorter.means; fits = shorter.fits };
          same = shorter.same own;
        })

    rises : IsPlace place → new ≡ record { floor = Some place; held = risen place bytes old.held; is_known = true }
        → IsRaised config who own m place new (Some left)
    rises valid is = record {
      floor_is = ap (λ (b : BehindParts). b.floor) is;
      fronting = subst (λ (b : BehindParts). IsFronting b.floor b.held) (sym is)
          (record { valid = valid; beneath = drop 1 old.held.nature.fronts; fronts_are = refl });
      next = next;
      goes_on = goes_on config who m.facts;
      stands = record {
        tail = [];
        keeps = keeps_now (ap (λ (b : BehindParts). b.held.bytes) is);
        played = plays_now;
        role_is = (s.role_is.0, refl, role_now);
        tear_is = s.tear_is ∙ ap (λ (b : BehindParts). b.held.armed) (sym is);
      };
    }

    rises_or_not : HasFailedToRise place bytes old new → IsRaisedOrNot config who own m place old new None
    rises_or_not h = by (failed_either place bytes old new h s.keeps.holds.all s.tail s.keeps.holds.stored)
      where
        by : IsEither place bytes old new → IsRaisedOrNot config who own m place old new None
        by (inl is) = inl (
          is.0,
          failed_fronting place bytes old new h (inl is),
          record {
            tail = s.tail;
            keeps = subst (λ (bs : List ℕ). Keeps config who own bs m.facts s.tail) (sym is.1) s.keeps;
            played = s.played;
            role_is = refl;
            tear_is = s.tear_is ∙ sym h.armed;
          },
        )
        by (inr is) = inr (record {
          floor_is = is.0;
          fronting = failed_fronting place bytes old new h (inr is);
          next = next;
          goes_on = goes_on config who m.facts;
          stands = record {
            tail = [];
            keeps = keeps_now is.1;
            played = plays_now;
            role_is = refl;
            tear_is = s.tear_is ∙ sym h.armed;
          };
        })

  up_raised : (left : Role) → Forgets place up old new (Ok left) → Raises config who own m place old new (Some up) (Some left) (Ok tt)
  up_raised left (leaves, bytes, shortens, valid, is) = (
    s.role_is.0,
    clear,
    ap (λ (b : BehindParts). b.held.faults) is,
    ap (λ (b : BehindParts). b.held.armed) is,
    rises left bytes leaves shortens valid is,
  )

  up_unraised : (e : Refusal) → Forgets place up old new (Err e) → Raises config who own m place old new (Some up) None (Err e)
  up_unraised Refusal.RecordFault (left, leaves, bytes, shortens, h) = (
    s.role_is.0,
    clear,
    refl,
    record { may = h.may; counted = h.counted; armed = h.armed },
    h.stood,
    rises_or_not left bytes leaves shortens h,
  )
  up_unraised Refusal.NoMemory is = (s.role_is.0, clear, is, refl)
  up_unraised other is = absurd is

-- whether a record may fail of itself stays, whatever comes of the rise
pub forgets_nature : (place : Place) (role : Role) (old new : BehindParts) (result : Result Role Refusal)
    → Forgets place role old new result → new.held.nature.may_fail ≡ old.held.nature.may_fail
forgets_nature place role old new (Ok left) (leaves, bytes, shortens, valid, is) = ap (λ (b : BehindParts). b.held.nature.may_fail) is
forgets_nature place role old new (Err Refusal.RecordFault) (left, leaves, bytes, shortens, h) =
    ap (λ (n : Nature). n.may_fail) h.nature
forgets_nature place role old new (Err Refusal.NoMemory) is = ap (λ (b : BehindParts). b.held.nature.may_fail) is
forgets_nature place role old new (Err other) h = absurd h

-- ---- by the role that there is

module _ (config : Config) (who : NodeId) (own : List Row) (m : NodeState) (place : Place) (old new : BehindParts) (was : Option Role)
    (s : Stands config who own old.held was m) where
  module _ (up : Role) (is : was ≡ Some up) where
    stands_up : Stands config who own old.held (Some up) m
    stands_up = subst (λ (r : Option Role). Stands config who own old.held r m) is s

    module _ (tells : TellsClear place up true) where
      clear_now : is_clear_below who place m.facts m.memory ≡ true
      clear_now = sym (tells config who m.facts m.memory stands_up.role_is.2)

      -- a floor that rose
      pub raised_done : (left : Role) → Forgets place up old new (Ok left) → Raises config who own m place old new was (Some left) (Ok tt)
      raised_done left h =
          subst (λ (r : Option Role). Raises config who own m place old new r (Some left) (Ok tt)) (sym is)
          (up_raised config who own m place old new up stands_up clear_now left h)

      -- a floor that did not: its node is down
      pub raised_refused : (e : Refusal) → Forgets place up old new (Err e) → Raises config who own m place old new was None (Err e)
      raised_refused e h =
          subst (λ (r : Option Role). Raises config who own m place old new r None (Err e)) (sym is)
          (up_unraised config who own m place old new up stands_up clear_now e h)

-- ---- the whole node

-- a cluster that is alike has the same sizes
pub sized_alike : (who : NodeId) (config next : Config) (sizes : Sizes) → AreAlike who next config → AreSizes config sizes
    → AreSizes next sizes
sized_alike (A a) config other sizes alike sized = subst (λ (c : Config). AreSizes c sizes) (sym alike) sized
sized_alike (L l) config other sizes alike sized = subst (λ (c : Config). AreSizes c sizes) (sym alike) sized
sized_alike (R rm) config other sizes alike sized = record {
  acceptors_are = sized.acceptors_are ∙ ap (λ (c : Config). c.acceptors) (sym alike);
  leaders_are = sized.leaders_are ∙ ap (λ (c : Config). c.leaders) (sym alike);
  managers_are = sized.managers_are ∙ ap (λ (c : Config). c.managers) (sym alike);
  bundled_is = sized.bundled_is ∙ ap (λ (c : Config). c.bundled) (sym alike);
}

-- a node that goes down
pub stopped_stands : (config : Config) (who : NodeId) (own : List Row) (held : Held) (role : Option Role) (m : NodeState)
    → Stands config who own held role m → Stands config who own held None (down_node m)
stopped_stands config who own held role m s =
    record { tail = s.tail; keeps = s.keeps; played = s.played; role_is = refl; tear_is = s.tear_is }

module _ (old : NodeParts) (sound : IsSound old) where
  sound_as : (held : Held) (role : Option Role) (config : Config) (m : NodeState) → AreSizes config old.sizes
      → Stands config old.who old.rows held role m → IsSound (record old { held = held; role = role })
  sound_as held role config m sized stands = record {
    sized = sound.sized;
    among = sound.among;
    short = sound.short;
    config = config;
    state = m;
    is = record { sizes_are = sized; stands = stands };
  }

  -- a sound node that is down is sound
  pub stopped_sound : IsSound (record old { role = None })
  stopped_sound =
      sound_as old.held None sound.config (down_node sound.state) sound.is.sizes_are
      (stopped_stands sound.config old.who old.rows old.held old.role sound.state sound.is.stands)

  module _ (place : Place) (before after : BehindParts) (held_is : before.held ≡ old.held) where
    abbrev raised : Option Role → NodeParts
    raised role = record old { held = after.held; role = role }

    risen_sound : (m : NodeState) (role : Option Role) → IsRaised sound.config old.who old.rows m place after role → IsSound (raised role)
    risen_sound m role is =
        sound_as after.held role is.next (left_node old.who (Some place) m)
        (sized_alike old.who sound.config is.next old.sizes is.goes_on.alike sound.is.sizes_are) is.stands

    unchanged_sound : (role : Option Role) → after ≡ before → role ≡ old.role → IsSound (raised role)
    unchanged_sound role same is =
        subst (λ (r : Option Role). IsSound (raised r)) (sym is)
        (subst (λ (held : Held). IsSound (record old { held = held })) (sym (ap (λ (b : BehindParts). b.held) same ∙ held_is)) sound)

    -- a node is sound after its floor was to rise
    pub raised_sound : (role : Option Role) (result : Result (Unit {0}) Refusal)
        → Raises sound.config old.who old.rows sound.state place before after old.role role result → IsSound (raised role)
    raised_sound role (Ok done) (up, clear, faults, armed, is) = risen_sound sound.state role is
    raised_sound role (Err Refusal.Down) (down, same, is) = unchanged_sound role same is
    raised_sound role (Err Refusal.Busy) (up, clear, same, is) = unchanged_sound role same is
    raised_sound role (Err Refusal.RecordFault) (up, clear, none, counted, stood, either) = by either
      where
        by : IsRaisedOrNot sound.config old.who old.rows sound.state place before after role → IsSound (raised role)
        by (inl (same, fronting, stands)) = sound_as after.held role sound.config (down_node sound.state) sound.is.sizes_are stands
        by (inr is) = risen_sound (down_node sound.state) role is
    raised_sound role (Err Refusal.NoMemory) (up, clear, same, none) =
        subst (λ (r : Option Role). IsSound (raised r)) (sym none)
        (subst (λ (held : Held). IsSound (record old { held = held; role = None }))
        (sym (ap (λ (b : BehindParts). b.held) same ∙ held_is)) stopped_sound)
    raised_sound role (Err other) is = absurd is
