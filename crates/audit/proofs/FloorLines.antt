-- What an auditor keeps of floors after one line more, and after one entry more: for `Floors::take_line` and `Floors::take_entry`.
use Rattle.std.proofs.Common.{◌≡◌, ◌∙◌, ℕ, ◌+◌, ◌<◌, Bool, true, false, ◌&&◌, ◌==◌, cond, List, [], ◌∷◌, ◌++◌, length, get_or, take}
use Rattle.std.proofs.Common.{Option, Some, None, refl, sym, ap, subst}
use Rattle.std.specs.Prelude.{fold}
use Rattle.std.specs.List.{list_all}
use Rattle.std.specs.Option.{option_map_or}
use Rattle.std.proofs.lemmas.Bool.{and_parts}
use Rattle.std.proofs.lemmas.List.Sums.{fold_push}
use Rattle.safety.specs.Vocabulary.{Answer, Event, Change, Step}
use Rattle.net_script.specs.declared.trace_lines.TraceLine.TheVariants.{Changed, Datagram, Notice}
use Rattle.net_script.specs.TraceReaders.{told_by, takes_notice, is_alone, last_of, with_now, with_sent, with_notice, begun_with}
use Rattle.net_script.proofs.DraftLemmas.{serve_tells_none}
use Rattle.protocol.specs.declared.events.Sent.{Sent}
use Rattle.protocol.specs.declared.events.Told.{Told}
use Rattle.protocol.specs.declared.nodes.NodeId.{NodeId}
use Rattle.net_script.specs.declared.values.Entry.{Entry}
use Rattle.net_script.specs.declared.values.Trace.{Trace}
use Rattle.audit.specs.Told.{step_of, history_of, each_step}
use Rattle.audit.specs.Floors.{FloorsTold, floors_by, floors_back, or_newer, is_event_above, is_change_above, is_sent_above, stays_above}
use Rattle.audit.specs.FloorBooks.{entry_of, place_of, floor_at, told_in, notice_at, or_earlier, floor_before, Keeps, HadBefore}
use Rattle.audit.specs.FloorBooks.{FollowsFloors, HasHeardFloors, are_above}
use Rattle.audit.specs.declared.floors.Floors.{Floors}
use Rattle.audit.proofs.AuditLemmas.{and_true}
use Rattle.audit.proofs.LedgerLemmas.{history_push, history_more, fails_at}
use Rattle.audit.proofs.HearingLemmas.{after_is, change_made, sent_made, notice_made, step_sent, step_changed, bare_none}

-- ---- steps

-- a step that changed no view, sent nothing and told nothing
abbrev alone : Event → Answer → Step
alone event answer = record { event = event; answer = answer; now = None; sent = []; told = [] }

module _ (managers : ℕ) (before : List Step) where
  -- after an event
  pub followed_event : (old new : Floors) (event : Event) (answer : Answer) → FollowsFloors old managers before
      → new.managers ≡ old.managers
      → (Keeps old (floors_back managers before)
      → Keeps new (floors_by managers event answer (floors_back managers before)) × HadBefore new (floors_back managers before).floor)
      → FollowsFloors new managers (alone event answer ∷ before)
  followed_event old new event answer follows same does =
      let done = does follows.keeps in
      record {
        managers_are = same ∙ follows.managers_are;
        keeps = record { floor = done.0.floor; told = done.0.told; notice = done.0.notice };
        before = done.1;
      }

  -- what changed and what was sent makes nothing of floors
  pub followed_rest : (floors : Floors) (step : Step) (now : Option Change) (sent : List Sent)
      → FollowsFloors floors managers (step ∷ before) → FollowsFloors floors managers (record step { now = now; sent = sent } ∷ before)
  followed_rest floors step now sent follows = record {
    managers_are = follows.managers_are;
    keeps = record { floor = follows.keeps.floor; told = follows.keeps.told; notice = follows.keeps.notice };
    before = follows.before;
  }

  -- after notices
  pub followed_notices : (old new : Floors) (step : Step) (told : List Told) → FollowsFloors old managers (step ∷ before)
      → (new.managers ≡ old.managers) × (new.floors ≡ old.floors) × (new.told ≡ old.told) × (new.before ≡ old.before)
      → ((number : ℕ) → notice_at new number
      ≡ fold (or_newer number) ((floors_by managers step.event step.answer (floors_back managers before)).notice number) told)
      → FollowsFloors new managers (record step { told = told } ∷ before)
  followed_notices old new step told follows same notices =
      let floor : (who : NodeId) → floor_at new who ≡ floor_at old who = λ who. ap (λ fs. entry_of fs.entries (place_of who)) same.1 in
      record {
        managers_are = same.0 ∙ follows.managers_are;
        keeps = record {
          floor = λ who. floor who ∙ follows.keeps.floor who;
          told = λ who rm. ap (λ ts. told_in (entry_of ts.entries (place_of who)) rm) same.2 ∙ follows.keeps.told who rm;
          notice = notices;
        };
        before = λ who.
            (λ i. or_earlier (same.3 i) (place_of who) (floor who i)) ∙ follows.before who;
      }

  -- whether an event, a change or a datagram is above floors, by what is kept
  pub event_so : (floors : Floors) (event : Event) (answer : Answer) → FollowsFloors floors managers before
      → is_event_above (floor_at floors) event answer ≡ is_event_above (floors_back managers before).floor event answer
  event_so floors event answer follows = λ i. is_event_above (λ who. follows.keeps.floor who i) event answer

  pub change_so : (floors : Floors) (change : Change) → HadBefore floors (floors_back managers before).floor
      → is_change_above (floor_before floors) change ≡ is_change_above (floors_back managers before).floor change
  change_so floors change had = λ i. is_change_above (λ who. had who i) change

  pub sent_so : (floors : Floors) (sent : Sent) → HadBefore floors (floors_back managers before).floor
      → is_sent_above (floor_before floors) sent ≡ is_sent_above (floors_back managers before).floor sent
  sent_so floors sent had = λ i. is_sent_above (λ who. had who i) sent

-- ---- one line more of a trace

above_push : (managers : ℕ) (entries : List Entry) (a : Entry) → each_step (stays_above managers) (history_of (entries ++ a ∷ []))
    ≡ (each_step (stays_above managers) (history_of entries) && stays_above managers (history_of entries) (step_of a))
above_push managers entries a = ap (each_step (stays_above managers)) (history_push entries a)

-- what is kept where the last entry is made anew, and is above floors where it was and this is
made_above : (old new : Floors) (managers : ℕ) (entries others : List Entry) (a b : Entry) (before : List Entry) (above : Bool)
    → entries ≡ before ++ a ∷ [] → others ≡ before ++ b ∷ []
    → (FollowsFloors old managers (step_of a ∷ history_of before) → FollowsFloors new managers (step_of b ∷ history_of before))
    → (HadBefore old (floors_back managers (history_of before)).floor
    → stays_above managers (history_of before) (step_of b) ≡ (stays_above managers (history_of before) (step_of a) && above))
    → FollowsFloors old managers (history_of entries)
    → FollowsFloors new managers (history_of others)
    × (each_step (stays_above managers) (history_of others) ≡ (each_step (stays_above managers) (history_of entries) && above))
made_above old new managers entries others a b before above was is follows stays heard =
    let here = subst (FollowsFloors old managers) (ap history_of was ∙ history_push before a) heard in (
      subst (FollowsFloors new managers) (sym (ap history_of is ∙ history_push before b)) (follows here),
      ap (λ es. each_step (stays_above managers) (history_of es)) is ∙ above_push managers before b
          ∙ ap (λ t. each_step (stays_above managers) (history_of before) && t) (stays here.before)
          ∙ grouped (each_step (stays_above managers) (history_of before)) (stays_above managers (history_of before) (step_of a)) above
          ∙ ap (λ t. t && above) (sym (ap (λ es. each_step (stays_above managers) (history_of es)) was ∙ above_push managers before a)),
    )
  where
    grouped : (x y z : Bool) → (x && (y && z)) ≡ ((x && y) && z)
    grouped true y z = refl
    grouped false y z = refl

-- a change more of a step that changed no view
changed_more : (managers : ℕ) (before : List Step) (floors : Floors) (a : Entry) (change : Change) → (step_of a).now ≡ None
    → HadBefore floors (floors_back managers before).floor
    → stays_above managers before (step_of (with_now change a))
    ≡ (stays_above managers before (step_of a) && is_change_above (floor_before floors) change)
changed_more managers before floors a change none had =
    let floor = (floors_back managers before).floor in
    let step = step_of a in
    ap (stays_above managers before) (step_changed change a)
    ∙ shuffled (is_event_above floor step.event step.answer) (is_change_above floor change) (list_all (is_sent_above floor) step.sent)
    ∙ (λ i. (is_event_above floor step.event step.answer
    && (option_map_or (is_change_above floor) (sym none i) true && list_all (is_sent_above floor) step.sent))
    && sym (change_so managers before floors change had) i)
  where
    shuffled : (x y z : Bool) → (x && (y && z)) ≡ ((x && (true && z)) && y)
    shuffled false y z = refl
    shuffled true true true = refl
    shuffled true true false = refl
    shuffled true false true = refl
    shuffled true false false = refl

pub change_above : (floors : Floors) (change : Change) (above : Bool) → above ≡ is_change_above (floor_before floors) change
    → (before : Option Trace) (after : Trace) → HasHeardFloors floors before → Some after ≡ begun_with before (Changed change)
    → HasHeardFloors floors (Some after) × (are_above (Some after) ≡ (are_above before && above))
change_above floors change above is None after heard e = absurd (cc)
change_above floors change above is (Some t) after heard e =
    let got = after_is t after (Changed change) e in
    let made = change_made t change got.0 in
    let m = t.sizes.rms in
    let history = history_of made.before in
    let a = made.last in
    let none = bare_none a (ap is_alone (sym made.told) ∙ (and_parts _ (is_alone (last_of t.entries)) got.0).1) in
    let both =
    made_above floors floors m t.entries _ a (with_now change a) made.before above made.old_is made.new_is
    (λ follows. subst (λ s. FollowsFloors floors m (s ∷ history)) (sym (step_changed change a))
    (followed_rest m history floors (step_of a) (Some change) (step_of a).sent follows))
    (λ had. changed_more m history floors a change none had
    ∙ ap (λ b. stays_above m history (step_of a) && b) (sym is)) heard in (
      subst (λ u. HasHeardFloors floors (Some u)) got.1 both.0,
      ap (λ u. are_above (Some u)) (sym got.1) ∙ both.1,
    )

list_all_push : {X : Type 0} (test : X → Bool) (xs : List X) (x : X) → list_all test (xs ++ x ∷ []) ≡ (list_all test xs && test x)
list_all_push test [] x = sym (and_true (test x))
list_all_push test (y ∷ xs) x = ap (λ b. test y && b) (list_all_push test xs x) ∙ grouped (test y) (list_all test xs) (test x)
  where
    grouped : (p q r : Bool) → (p && (q && r)) ≡ ((p && q) && r)
    grouped true q r = refl
    grouped false q r = refl

-- a datagram more of a step
sent_more : (managers : ℕ) (before : List Step) (floors : Floors) (a : Entry) (sent : Sent)
    → HadBefore floors (floors_back managers before).floor
    → stays_above managers before (step_of (with_sent sent a))
    ≡ (stays_above managers before (step_of a) && is_sent_above (floor_before floors) sent)
sent_more managers before floors a sent had =
    let floor = (floors_back managers before).floor in
    let step = step_of a in
    let event = is_event_above floor step.event step.answer in
    let now = option_map_or (is_change_above floor) step.now true in
    ap (stays_above managers before) (step_sent sent a)
    ∙ ap (λ b. event && (now && b)) (list_all_push (is_sent_above floor) step.sent sent)
    ∙ shuffled event now (list_all (is_sent_above floor) step.sent) (is_sent_above floor sent)
    ∙ ap (λ b. (event && (now && list_all (is_sent_above floor) step.sent)) && b) (sym (sent_so managers before floors sent had))
  where
    shuffled : (x y z s : Bool) → (x && (y && (z && s))) ≡ ((x && (y && z)) && s)
    shuffled false y z s = refl
    shuffled true false z s = refl
    shuffled true true z s = refl

pub sent_above : (floors : Floors) (sent : Sent) (above : Bool) → above ≡ is_sent_above (floor_before floors) sent
    → (before : Option Trace) (after : Trace) → HasHeardFloors floors before → Some after ≡ begun_with before (Datagram sent)
    → HasHeardFloors floors (Some after) × (are_above (Some after) ≡ (are_above before && above))
sent_above floors sent above is None after heard e = absurd (cc)
sent_above floors sent above is (Some t) after heard e =
    let got = after_is t after (Datagram sent) e in
    let made = sent_made t sent got.0 in
    let m = t.sizes.rms in
    let history = history_of made.before in
    let a = made.last in
    let both =
    made_above floors floors m t.entries _ a (with_sent sent a) made.before above made.old_is made.new_is
    (λ follows. subst (λ s. FollowsFloors floors m (s ∷ history)) (sym (step_sent sent a))
    (followed_rest m history floors (step_of a) (step_of a).now ((step_of a).sent ++ sent ∷ []) follows))
    (λ had. sent_more m history floors a sent had ∙ ap (λ b. stays_above m history (step_of a) && b) (sym is)) heard in (
      subst (λ u. HasHeardFloors floors (Some u)) got.1 both.0,
      ap (λ u. are_above (Some u)) (sym got.1) ∙ both.1,
    )

-- a notice more of an event
noticed_more : (old new : Floors) (managers : ℕ) (before : List Step) (a : Entry) (told : Told)
    → takes_notice (told_by a) ≡ true → FollowsFloors old managers (step_of a ∷ before)
    → (new.managers ≡ old.managers) × (new.floors ≡ old.floors) × (new.told ≡ old.told) × (new.before ≡ old.before)
    → ((number : ℕ) → notice_at new number ≡ cond (told.number == number) (Some told) (notice_at old number))
    → FollowsFloors new managers (step_of (with_notice told a) ∷ before)
noticed_more old new managers before (Entry.Step step) told takes follows same notices =
    followed_notices managers before old new step (step.told ++ told ∷ []) follows same (λ number.
    notices number ∙ ap (λ o. or_newer number o told) (follows.keeps.notice number)
    ∙ sym (fold_push (or_newer number) _ step.told told))
noticed_more old new managers before (Entry.Serve node answer now sent) told takes follows same notices =
    absurd (serve_tells_none now sent takes)

told_more : (managers : ℕ) (before : List Step) (a : Entry) (told : Told)
    → stays_above managers before (step_of (with_notice told a)) ≡ (stays_above managers before (step_of a) && true)
told_more managers before (Entry.Step step) told = and_true (stays_above managers before step)
told_more managers before (Entry.Serve node answer now sent) told =
    and_true (stays_above managers before (step_of (Entry.Serve node answer now sent)))

pub notice_above : (old new : Floors) (told : Told)
    → (new.managers ≡ old.managers) × (new.floors ≡ old.floors) × (new.told ≡ old.told) × (new.before ≡ old.before)
    → ((number : ℕ) → notice_at new number ≡ cond (told.number == number) (Some told) (notice_at old number))
    → (before : Option Trace) (after : Trace) → HasHeardFloors old before → Some after ≡ begun_with before (Notice told)
    → HasHeardFloors new (Some after) × (are_above (Some after) ≡ (are_above before && true))
notice_above old new told same notices None after heard e = absurd (cc)
notice_above old new told same notices (Some t) after heard e =
    let got = after_is t after (Notice told) e in
    let made = notice_made t told got.0 in
    let m = t.sizes.rms in
    let history = history_of made.before in
    let a = made.last in
    let takes = ap takes_notice (sym made.told) ∙ (and_parts _ (takes_notice (last_of t.entries)) got.0).1 in
    let both =
    made_above old new m t.entries _ a (with_notice told a) made.before true made.old_is made.new_is
    (λ follows. noticed_more old new m history a told takes follows same notices) (λ had. told_more m history a told) heard in (
      subst (λ u. HasHeardFloors new (Some u)) got.1 both.0,
      ap (λ u. are_above (Some u)) (sym got.1) ∙ both.1,
    )

-- ---- one entry more of a trace

module _ (old mid : Floors) (managers : ℕ) (before : List Step) (follows : FollowsFloors old managers before) (step : Step)
    (same : mid.managers ≡ old.managers)
    (does : (f : FloorsTold) → Keeps old f
    → Keeps mid (floors_by old.managers step.event step.answer f) × HadBefore mid f.floor) where
  done : Keeps mid (floors_by managers step.event step.answer (floors_back managers before))
      × HadBefore mid (floors_back managers before).floor
  done =
      subst (λ k. Keeps mid (floors_by k step.event step.answer (floors_back managers before))
      × HadBefore mid (floors_back managers before).floor) follows.managers_are (does (floors_back managers before) follows.keeps)

  -- whether a step is above floors by what is kept
  pub step_above : (above changes sends : Bool) → above ≡ is_event_above (floor_at old) step.event step.answer
      → changes ≡ option_map_or (is_change_above (floor_before mid)) step.now true
      → sends ≡ list_all (is_sent_above (floor_before mid)) step.sent
      → ((above && changes) && sends) ≡ stays_above managers before step
  step_above above changes sends event now sent =
      grouped above changes sends
      ∙ (λ i. (event ∙ event_so managers before old step.event step.answer follows) i
      && ((now ∙ (λ j. option_map_or (is_change_above (λ who. done.1 who j)) step.now true)) i
      && (sent ∙ (λ j. list_all (is_sent_above (λ who. done.1 who j)) step.sent)) i))
    where
      grouped : (x y z : Bool) → ((x && y) && z) ≡ (x && (y && z))
      grouped true y z = refl
      grouped false y z = refl

  pub step_followed : (new : Floors)
      → (new.managers ≡ mid.managers) × (new.floors ≡ mid.floors) × (new.told ≡ mid.told) × (new.before ≡ mid.before)
      → ((number : ℕ) → notice_at new number ≡ fold (or_newer number) (notice_at mid number) step.told)
      → FollowsFloors new managers (step ∷ before)
  step_followed new rest notices =
      let event = followed_event managers before old mid step.event step.answer follows same (λ keeps. done) in
      let told = followed_rest managers before mid (alone step.event step.answer) step.now step.sent event in
      followed_notices managers before mid new (record (alone step.event step.answer) { now = step.now; sent = step.sent }) step.told told
      rest
      (λ number. notices number ∙ ap (λ o. fold (or_newer number) o step.told) (done.0.notice number))

module _ (t : Trace) (i : ℕ) (entry : Entry) (lt : i < length t.entries) (is : entry ≡ get_or t.entries i entry) where
  abbrev seen : List Step
  seen = history_of (take i t.entries)

  abbrev test : List Step → Step → Bool
  test = stays_above t.sizes.rms

  more : history_of (take (i + 1) t.entries) ≡ step_of entry ∷ seen
  more = history_more t.entries i entry lt ∙ ap (λ e. step_of e ∷ seen) (sym is)

  -- a trace isn't above floors where one of its steps isn't
  pub below_step : (ok : Bool) → ok ≡ test seen (step_of entry) → ok ≡ false → false ≡ each_step test (history_of t.entries)
  below_step ok takes wrong =
      sym (fails_at test t.entries i entry lt (ap (λ e. test seen (step_of e)) (sym is) ∙ sym takes ∙ wrong))

  pub next_floors : (new : Floors) → FollowsFloors new t.sizes.rms (step_of entry ∷ seen)
      → FollowsFloors new t.sizes.rms (history_of (take (i + 1) t.entries))
  next_floors new follows = subst (FollowsFloors new t.sizes.rms) (sym more) follows

  pub next_above : (ok : Bool) → ok ≡ test seen (step_of entry) → ok ≡ true → each_step test seen ≡ true
      → each_step test (history_of (take (i + 1) t.entries)) ≡ true
  next_above ok takes right above = ap (each_step test) more ∙ (λ j. above j && (sym takes ∙ right) j)
