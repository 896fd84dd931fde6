-- What an auditor keeps of floors after an event: for `Floors` and `ToldFloors`.
use Rattle.std.proofs.Common.{◌≡◌, ◌∙◌, ℕ, ◌+◌, Bool, true, false, ◌==◌, cond, List, Option, Some, None, ◌*◌, refl, sym, ap, subst, arith}
use Rattle.std.specs.Cmp.{unsigned_Decides}
use Rattle.std.specs.Option.{option_map_or}
use Rattle.xid.specs.Places.{Place}
use Rattle.protocol.specs.declared.events.Told.{Told}
use Rattle.protocol.specs.declared.nodes.NodeId.{NodeId}
use Rattle.protocol.specs.declared.nodes.NodeId.TheVariants.{A, L}
use Rattle.protocol.specs.declared.events.Event.TheVariants.{Restart, Raise, Hear, Replace}
use Rattle.safety.specs.Vocabulary.{Answer, Event, R}
use Rattle.audit.specs.Floors.{higher, FloorsTold, is_node, told_with, least_told, with_heard, with_raised, with_forgotten}
use Rattle.audit.specs.Floors.{with_replaced, is_done, is_no_such, floors_by}
use Rattle.audit.specs.FloorBooks.{entry_of, place_of, floor_at, told_in, told_at, notice_at, or_earlier, Keeps, HadBefore}
use Rattle.audit.specs.declared.floors.Earlier.{Earlier}
use Rattle.audit.specs.declared.floors.Floors.{Floors}

-- ---- tests of numbers

-- two tests that hold at once are the same
same_test : (a b c d : ℕ) → (a ≡ b → c ≡ d) → (c ≡ d → a ≡ b) → (a == b) ≡ (c == d)
same_test a b c d to from = by (a == b) refl (c == d) refl
  where
    by : (p : Bool) → (a == b) ≡ p → (q : Bool) → (c == d) ≡ q → p ≡ q
    by true e true f = refl
    by false e false f = refl
    by true e false f = absurd (cc (sym f ∙ (unsigned_Decides c d).1 (to ((unsigned_Decides a b).0 e))))
    by false e true f = absurd (cc (sym e ∙ (unsigned_Decides a b).1 (from ((unsigned_Decides c d).0 f))))

no_test : (a b : ℕ) → (a ≡ b → ⊥) → (a == b) ≡ false
no_test a b other = by (a == b) refl
  where
    by : (p : Bool) → (a == b) ≡ p → p ≡ false
    by true e = absurd (other ((unsigned_Decides a b).0 e))
    by false e = refl

-- what is so at a number is so at one that is the same
pub at_same : {Y : Type 0} (a b : ℕ) (f : ℕ → Y) (y : Y) → cond (a == b) (f a) y ≡ cond (a == b) (f b) y
at_same {Y = Y} a b f y = by (a == b) refl
  where
    by : (p : Bool) → (a == b) ≡ p → cond p (f a) y ≡ cond p (f b) y
    by true e = ap f ((unsigned_Decides a b).0 e)
    by false e = refl

-- nodes are the same where their places are
pub same_places : (a b : NodeId) → (place_of a == place_of b) ≡ is_node a b
same_places (A m) (A n) = same_test (3 * m) (3 * n) m n (λ e. omega (arith, e)) (λ e. omega (arith, e))
same_places (L m) (L n) = same_test (3 * m + 1) (3 * n + 1) m n (λ e. omega (arith, e)) (λ e. omega (arith, e))
same_places (R m) (R n) = same_test (3 * m + 2) (3 * n + 2) m n (λ e. omega (arith, e)) (λ e. omega (arith, e))
same_places (A m) (L n) = no_test (3 * m) (3 * n + 1) (λ e. omega (arith, e))
same_places (A m) (R n) = no_test (3 * m) (3 * n + 2) (λ e. omega (arith, e))
same_places (L m) (A n) = no_test (3 * m + 1) (3 * n) (λ e. omega (arith, e))
same_places (L m) (R n) = no_test (3 * m + 1) (3 * n + 2) (λ e. omega (arith, e))
same_places (R m) (A n) = no_test (3 * m + 2) (3 * n) (λ e. omega (arith, e))
same_places (R m) (L n) = no_test (3 * m + 2) (3 * n + 1) (λ e. omega (arith, e))

-- ---- the higher of two floors

-- none is higher than no floor
higher_none : (floor : Option Place) → floor ≡ higher floor None
higher_none None = refl
higher_none (Some place) = refl

-- ---- what an event makes of floors

twice : {X : Type 0} (t : Bool) (x y : X) → cond t x (cond t y x) ≡ x
twice true x y = refl
twice false x y = refl

-- a floor that isn't raised
pub unraised : (t : Bool) (floor : Option Place) → floor ≡ cond t (higher floor None) floor
unraised true floor = higher_none floor
unraised false floor = refl

told_cond : (t : Bool) (told other : Option (List (ℕ × Place))) (rm : ℕ)
    → told_in (cond t told other) rm ≡ cond t (told_in told rm) (told_in other rm)
told_cond true told other rm = refl
told_cond false told other rm = refl

-- where floors changed at one place, and are remembered
pub record IsRaised (old new : Floors) (node : NodeId) (place : Option Place) : Type 0 where
  pub floors : (p : ℕ) → entry_of new.floors.entries p
      ≡ cond (place_of node == p) (higher (entry_of old.floors.entries p) place) (entry_of old.floors.entries p)
  pub before : (p : ℕ) → or_earlier new.before p (entry_of new.floors.entries p) ≡ entry_of old.floors.entries p
  pub notices : new.notices ≡ old.notices

-- what was kept of one place is what was there
pub earlier_so : (old new : Floors) (node : NodeId) (place : Option Place)
    → ((p : ℕ) → entry_of new.floors.entries p
    ≡ cond (place_of node == p) (higher (entry_of old.floors.entries p) place) (entry_of old.floors.entries p))
    → new.before ≡ Some (record { place = place_of node; floor = entry_of old.floors.entries (place_of node) })
    → (p : ℕ) → or_earlier new.before p (entry_of new.floors.entries p) ≡ entry_of old.floors.entries p
earlier_so old new node place floors before p =
    ap (λ (b : Option Earlier). or_earlier b p (entry_of new.floors.entries p)) before
    ∙ at_same (place_of node) p (entry_of old.floors.entries) (entry_of new.floors.entries p)
    ∙ ap (λ floor. cond (place_of node == p) (entry_of old.floors.entries p) floor) (floors p)
    ∙ twice (place_of node == p) (entry_of old.floors.entries p) (higher (entry_of old.floors.entries p) place)

module _ (old new : Floors) (f : FloorsTold) (keeps : Keeps old f) where
  module _ (node : NodeId) (place : Option Place) (raised : IsRaised old new node place) where
    had : HadBefore new f.floor
    had who = raised.before (place_of who) ∙ keeps.floor who

    raised_floor : (who : NodeId) → floor_at new who ≡ cond (is_node node who) (higher (f.floor who) place) (f.floor who)
    raised_floor who =
        raised.floors (place_of who)
        ∙ (λ i. cond (same_places node who i) (higher (keeps.floor who i) place) (keeps.floor who i))

    same_notice : (number : ℕ) → notice_at new number ≡ f.notice number
    same_notice number = ap (λ ns. entry_of ns.entries number) raised.notices ∙ keeps.notice number

  -- a floor was raised
  pub raised_so : (rm : ℕ) (place : Place) → IsRaised old new (R rm) (Some place) → new.told ≡ old.told
      → Keeps new (with_raised f (R rm) place) × HadBefore new f.floor
  raised_so rm place raised told = (
    record {
      floor = raised_floor (R rm) (Some place) raised;
      told = λ who m. ap (λ ts. told_in (entry_of ts.entries (place_of who)) m) told ∙ keeps.told who m;
      notice = same_notice (R rm) (Some place) raised;
    },
    had (R rm) (Some place) raised,
  )

  told_forgotten : (node : NodeId)
      → ((p : ℕ) → entry_of new.told.entries p ≡ cond (place_of node == p) None (entry_of old.told.entries p)) → (who : NodeId) (rm : ℕ)
      → told_at new who rm ≡ cond (is_node node who) None (f.told who rm)
  told_forgotten node told who rm =
      ap (λ o. told_in o rm) (told (place_of who))
      ∙ told_cond (place_of node == place_of who) None (entry_of old.told.entries (place_of who)) rm
      ∙ (λ i. cond (same_places node who i) None (keeps.told who rm i))

  -- a blank node stands in for one: a floor was raised, and what was told is forgotten
  pub replaced_so : (node : NodeId) (place : Place) → IsRaised old new node (Some place)
      → ((p : ℕ) → entry_of new.told.entries p ≡ cond (place_of node == p) None (entry_of old.told.entries p))
      → Keeps new (with_replaced f node place) × HadBefore new f.floor
  replaced_so node place raised told = (
    record {
      floor = raised_floor node (Some place) raised;
      told = told_forgotten node told;
      notice = same_notice node (Some place) raised;
    },
    had node (Some place) raised,
  )

  -- a node forgot what it was told
  pub forgotten_so : (node : NodeId) → new.floors ≡ old.floors → new.notices ≡ old.notices → new.before ≡ None
      → ((p : ℕ) → entry_of new.told.entries p ≡ cond (place_of node == p) None (entry_of old.told.entries p))
      → Keeps new (with_forgotten f node) × HadBefore new f.floor
  forgotten_so node floors notices before told =
      let floor : (who : NodeId) → floor_at new who ≡ f.floor who =
      λ who. ap (λ fs. entry_of fs.entries (place_of who)) floors ∙ keeps.floor who in (
        record {
          floor = floor;
          told = told_forgotten node told;
          notice = λ number. ap (λ ns. entry_of ns.entries number) notices ∙ keeps.notice number;
        },
        λ who. ap (λ (b : Option Earlier). or_earlier b (place_of who) (floor_at new who)) before ∙ floor who,
      )

  -- nothing happened to floors
  pub unchanged_so : new.floors ≡ old.floors → new.told ≡ old.told → new.notices ≡ old.notices → new.before ≡ None
      → Keeps new f × HadBefore new f.floor
  unchanged_so floors told notices before =
      let floor : (who : NodeId) → floor_at new who ≡ f.floor who =
      λ who. ap (λ fs. entry_of fs.entries (place_of who)) floors ∙ keeps.floor who in (
        record {
          floor = floor;
          told = λ who rm. ap (λ ts. told_in (entry_of ts.entries (place_of who)) rm) told ∙ keeps.told who rm;
          notice = λ number. ap (λ ns. entry_of ns.entries number) notices ∙ keeps.notice number;
        },
        λ who. ap (λ (b : Option Earlier). or_earlier b (place_of who) (floor_at new who)) before ∙ floor who,
      )

  -- a notice was heard
  module _ (notice : Told) (managers : ℕ)
      (kept : (p rm : ℕ) → told_in (entry_of new.told.entries p) rm
      ≡ cond (place_of notice.receiver == p) (told_with (told_in (entry_of old.told.entries p)) notice rm)
      (told_in (entry_of old.told.entries p) rm)) where
    pub heard_so : (least : Option Place)
        → least ≡ least_told managers (told_with (told_in (entry_of old.told.entries (place_of notice.receiver))) notice)
        → IsRaised old new notice.receiver least
        → Keeps new (with_heard managers f notice) × HadBefore new f.floor
    heard_so least is raised =
        let p = place_of notice.receiver in (
          record {
            floor = λ who.
                raised.floors (place_of who)
                ∙ ap (λ floor. cond (p == place_of who) (higher (floor_at old who) floor) (floor_at old who)) is
                ∙ at_same p (place_of who)
                (λ k. higher (floor_at old who) (least_told managers (told_with (told_in (entry_of old.told.entries k)) notice)))
                (floor_at old who)
                ∙ (λ i. cond (same_places notice.receiver who i)
                (higher (keeps.floor who i) (least_told managers (told_with (λ rm. keeps.told who rm i) notice))) (keeps.floor who i));
            told = λ who rm.
                kept (place_of who) rm
                ∙ (λ i. cond (same_places notice.receiver who i) (told_with (λ m. keeps.told who m i) notice rm) (keeps.told who rm i));
            notice = same_notice notice.receiver least raised;
          },
          had notice.receiver least raised,
        )

-- ---- what a node is told

again : {X : Type 0} (t : Bool) (x y z : X) → cond t x (cond t y z) ≡ cond t x z
again true x y z = refl
again false x y z = refl

-- what was told at one place is taken out, and put back with a notice more
module _ (old : List (ℕ × List (ℕ × Place))) (place : ℕ) (before after : List (ℕ × Place)) (notice : Told)
    (was : (rm : ℕ) → entry_of before rm ≡ told_in (entry_of old place) rm)
    (then : (rm : ℕ) → entry_of after rm
    ≡ cond (notice.manager == rm) (higher (entry_of before rm) (Some notice.floor)) (entry_of before rm)) where
  pub told_after : (rm : ℕ) → entry_of after rm ≡ told_with (told_in (entry_of old place)) notice rm
  told_after rm = then rm ∙ (λ i. cond (notice.manager == rm) (higher (was rm i) (Some notice.floor)) (was rm i))

  pub told_kept : (mid new : List (ℕ × List (ℕ × Place))) → ((p : ℕ) → entry_of mid p ≡ cond (place == p) None (entry_of old p))
      → ((p : ℕ) → entry_of new p ≡ cond (place == p) (Some after) (entry_of mid p)) → (p rm : ℕ)
      → told_in (entry_of new p) rm
      ≡ cond (place == p) (told_with (told_in (entry_of old p)) notice rm) (told_in (entry_of old p) rm)
  told_kept mid new taken put p rm =
      ap (λ o. told_in o rm)
      (put p ∙ ap (cond (place == p) (Some after)) (taken p) ∙ again (place == p) (Some after) None (entry_of old p))
      ∙ told_cond (place == p) (Some after) (entry_of old p) rm
      ∙ ap (λ floor. cond (place == p) floor (told_in (entry_of old p) rm)) (told_after rm)
      ∙ at_same place p (λ k. told_with (told_in (entry_of old k)) notice rm) (told_in (entry_of old p) rm)

-- ---- the parts of what the code does

abbrev earlier_of : ℕ → Option Place → Earlier
earlier_of place floor = record { place = place; floor = floor }

-- what is kept is another tale of the same
so_by : (new : Floors) (f g h : FloorsTold) → g ≡ h → Keeps new g × HadBefore new f.floor → Keeps new h × HadBefore new f.floor
so_by new f g h same done = (subst (Keeps new) same done.0, done.1)

-- a floor was raised by an event
pub raised_event : (old new : Floors) (f : FloorsTold) (event : Event) (answer : Answer) (rm : ℕ) (place : Place) → Keeps old f
    → event ≡ Raise rm place → is_done answer ≡ true
    → ((p : ℕ) → entry_of new.floors.entries p
    ≡ cond (place_of (R rm) == p) (higher (entry_of old.floors.entries p) (Some place)) (entry_of old.floors.entries p))
    → new.before ≡ Some (earlier_of (place_of (R rm)) (entry_of old.floors.entries (place_of (R rm))))
    → (new.managers ≡ old.managers) × (new.told ≡ old.told) × (new.notices ≡ old.notices)
    → Keeps new (floors_by old.managers event answer f) × HadBefore new f.floor
raised_event old new f event answer rm place keeps is done floors before rest =
    so_by new f (with_raised f (R rm) place) (floors_by old.managers event answer f)
    (ap (λ b. cond b (with_raised f (R rm) place) f) (sym done) ∙ ap (λ e. floors_by old.managers e answer f) (sym is))
    (raised_so old new f keeps rm place
    (record { floors = floors; before = earlier_so old new (R rm) (Some place) floors before; notices = rest.2 }) rest.1)

-- a node was restarted by an event
pub forgotten_event : (old new : Floors) (f : FloorsTold) (event : Event) (answer : Answer) (node : NodeId) → Keeps old f
    → event ≡ Restart node → is_no_such answer ≡ false
    → ((p : ℕ) → entry_of new.told.entries p ≡ cond (place_of node == p) None (entry_of old.told.entries p))
    → (new.managers ≡ old.managers) × (new.floors ≡ old.floors) × (new.notices ≡ old.notices) × (new.before ≡ None)
    → Keeps new (floors_by old.managers event answer f) × HadBefore new f.floor
forgotten_event old new f event answer node keeps is there told rest =
    so_by new f (with_forgotten f node) (floors_by old.managers event answer f)
    (ap (λ b. cond b f (with_forgotten f node)) (sym there) ∙ ap (λ e. floors_by old.managers e answer f) (sym is))
    (forgotten_so old new f keeps node rest.1 rest.2 rest.3 told)

-- a node was replaced by an event: it forgot, and then its floor was raised
pub replaced_event : (old mid new : Floors) (f : FloorsTold) (event : Event) (answer : Answer) (node : NodeId) (place : Place)
    → Keeps old f → event ≡ Replace node place → is_done answer ≡ true
    → ((p : ℕ) → entry_of mid.told.entries p ≡ cond (place_of node == p) None (entry_of old.told.entries p))
    → mid.floors ≡ old.floors → mid.notices ≡ old.notices
    → ((p : ℕ) → entry_of new.floors.entries p
    ≡ cond (place_of node == p) (higher (entry_of mid.floors.entries p) (Some place)) (entry_of mid.floors.entries p))
    → new.before ≡ Some (earlier_of (place_of node) (entry_of mid.floors.entries (place_of node)))
    → (new.managers ≡ mid.managers) × (new.told ≡ mid.told) × (new.notices ≡ mid.notices)
    → Keeps new (floors_by old.managers event answer f) × HadBefore new f.floor
replaced_event old mid new f event answer node place keeps is done told same_floors same_notices floors before rest =
    let floors_so : (p : ℕ) → entry_of new.floors.entries p
    ≡ cond (place_of node == p) (higher (entry_of old.floors.entries p) (Some place)) (entry_of old.floors.entries p) =
    λ p.
    floors p
    ∙ ap (λ fs. cond (place_of node == p) (higher (entry_of fs.entries p) (Some place)) (entry_of fs.entries p)) same_floors in
    let before_so = before ∙ ap (λ fs. Some (earlier_of (place_of node) (entry_of fs.entries (place_of node)))) same_floors in
    so_by new f (with_replaced f node place) (floors_by old.managers event answer f)
    (ap (λ b. cond b (with_replaced f node place) f) (sym done) ∙ ap (λ e. floors_by old.managers e answer f) (sym is))
    (replaced_so old new f keeps node place
    (record {
      floors = floors_so;
      before = earlier_so old new node (Some place) floors_so before_so;
      notices = rest.2 ∙ same_notices;
    })
    (λ p. ap (λ ts. entry_of ts.entries p) rest.1 ∙ told p))

-- a notice was handed over by an event
pub heard_event : (old new : Floors) (f : FloorsTold) (event : Event) (answer : Answer) (number : ℕ)
    → event ≡ Hear number → is_done answer ≡ true
    → Keeps new (option_map_or (with_heard old.managers f) (f.notice number) f) × HadBefore new f.floor
    → Keeps new (floors_by old.managers event answer f) × HadBefore new f.floor
heard_event old new f event answer number is done heard =
    so_by new f (option_map_or (with_heard old.managers f) (f.notice number) f) (floors_by old.managers event answer f)
    (ap (λ b. cond b (option_map_or (with_heard old.managers f) (f.notice number) f) f) (sym done)
    ∙ ap (λ e. floors_by old.managers e answer f) (sym is)) heard

module _ (old : Floors) (f : FloorsTold) (keeps : Keeps old f) (number : ℕ) (notice : Told) (found : notice_at old number ≡ Some notice)
  where
    heard_found : (new : Floors) → Keeps new (with_heard old.managers f notice) × HadBefore new f.floor
        → Keeps new (option_map_or (with_heard old.managers f) (f.notice number) f) × HadBefore new f.floor
    heard_found new heard =
        so_by new f (with_heard old.managers f notice) (option_map_or (with_heard old.managers f) (f.notice number) f)
        (ap (λ o. option_map_or (with_heard old.managers f) o f) (sym (sym (keeps.notice number) ∙ found))) heard

    abbrev there : ℕ
    there = place_of notice.receiver

    -- a notice was heard, and the floor of its receiver was raised
    pub heard_raised : (mid new : Floors) (floor : Place)
        → Some floor ≡ least_told old.managers (told_with (told_in (entry_of old.told.entries there)) notice)
        → ((p rm : ℕ) → told_in (entry_of mid.told.entries p) rm
        ≡ cond (there == p) (told_with (told_in (entry_of old.told.entries p)) notice rm) (told_in (entry_of old.told.entries p) rm))
        → (mid.managers ≡ old.managers) × (mid.floors ≡ old.floors) × (mid.notices ≡ old.notices) × (mid.before ≡ old.before)
        → ((p : ℕ) → entry_of new.floors.entries p
        ≡ cond (there == p) (higher (entry_of mid.floors.entries p) (Some floor)) (entry_of mid.floors.entries p))
        → new.before ≡ Some (earlier_of there (entry_of mid.floors.entries there))
        → (new.managers ≡ mid.managers) × (new.told ≡ mid.told) × (new.notices ≡ mid.notices)
        → Keeps new (option_map_or (with_heard old.managers f) (f.notice number) f) × HadBefore new f.floor
    heard_raised mid new floor least kept rest floors before more =
        let floors_so : (p : ℕ) → entry_of new.floors.entries p
        ≡ cond (there == p) (higher (entry_of old.floors.entries p) (Some floor)) (entry_of old.floors.entries p) =
        λ p. floors p ∙ ap (λ fs. cond (there == p) (higher (entry_of fs.entries p) (Some floor)) (entry_of fs.entries p)) rest.1 in
        let before_so = before ∙ ap (λ fs. Some (earlier_of there (entry_of fs.entries there))) rest.1 in
        heard_found new
        (heard_so old new f keeps notice old.managers (λ p rm. ap (λ ts. told_in (entry_of ts.entries p) rm) more.1 ∙ kept p rm)
        (Some floor) least
        (record {
          floors = floors_so;
          before = earlier_so old new notice.receiver (Some floor) floors_so before_so;
          notices = more.2 ∙ rest.2;
        }))

    -- a notice was heard, and no floor was raised
    pub heard_unraised : (new : Floors)
        → None ≡ least_told old.managers (told_with (told_in (entry_of old.told.entries there)) notice)
        → ((p rm : ℕ) → told_in (entry_of new.told.entries p) rm
        ≡ cond (there == p) (told_with (told_in (entry_of old.told.entries p)) notice rm) (told_in (entry_of old.told.entries p) rm))
        → (new.managers ≡ old.managers) × (new.floors ≡ old.floors) × (new.notices ≡ old.notices) × (new.before ≡ old.before)
        → old.before ≡ None
        → Keeps new (option_map_or (with_heard old.managers f) (f.notice number) f) × HadBefore new f.floor
    heard_unraised new least kept rest none =
        heard_found new
        (heard_so old new f keeps notice old.managers kept None least
        (record {
          floors = λ p. ap (λ fs. entry_of fs.entries p) rest.1 ∙ unraised (there == p) (entry_of old.floors.entries p);
          before = λ p.
              ap (λ (b : Option Earlier). or_earlier b p (entry_of new.floors.entries p)) (rest.3 ∙ none)
              ∙ ap (λ fs. entry_of fs.entries p) rest.1;
          notices = rest.2;
        }))
