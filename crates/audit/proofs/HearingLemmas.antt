-- What an auditor holds after each kind of line: for `Auditor::take` and its parts.
use Rattle.std.proofs.Common.{◌≡◌, ◌∙◌, ℕ, Bool, true, false, ◌&&◌, eqb, cond, List, [], ◌∷◌, ◌++◌, Option, Some, None, Result, Ok, Err}
use Rattle.std.proofs.Common.{refl, sym, ap, subst, length, inl, eqb-true}
use Rattle.std.specs.Prelude.{IfErr, OnOk}
use Rattle.std.specs.Option.{option_map_or}
use Rattle.std.proofs.lemmas.Bool.{and_parts}
use Rattle.std.proofs.lemmas.List.{nil_from_length}
use Rattle.std.proofs.lemmas.Option.{same_Some}
use Rattle.safety.specs.Vocabulary.{Answer, Event, Deliver, Change, Step, Row}
use Rattle.net_script.specs.declared.values.Sizes.{Sizes}
use Rattle.net_script.specs.declared.trace_lines.TraceLine.TheVariants.{Cluster, Contents, Happened, Served, Changed, Datagram}
use Rattle.net_script.specs.declared.trace_lines.TraceLine.TheVariants.{Notice, Final}
use Rattle.net_script.specs.TraceReading.{RefusesTrace}
use Rattle.net_script.specs.declared.so_far.LastEntry.{LastEntry}
use Rattle.net_script.specs.TraceReaders.{filled_by, noticed_by, told_by, last_of, so_far_of, is_missing, is_alone, takes_sent}
use Rattle.net_script.specs.TraceReaders.{takes_notice, may_follow, bare_step, with_now, with_sent, with_notice, at_last, grown, begun_with}
use Rattle.net_script.specs.declared.trace_lines.TraceLine.{TraceLine}
use Rattle.xid.specs.declared.refusals.Refusal.{Refusal}
use Rattle.xid.specs.declared.refusals.Refusal.TheVariants.{NoMemory}
use Rattle.protocol.specs.declared.events.Sent.{Sent}
use Rattle.protocol.specs.declared.events.Told.{Told}
use Rattle.protocol.specs.declared.nodes.NodeId.{NodeId}
use Rattle.net_script.specs.declared.values.Entry.{Entry}
use Rattle.net_script.specs.declared.values.Table.{Table}
use Rattle.net_script.specs.declared.values.Trace.{Trace}
use Rattle.audit.specs.Told.{step_of, history_of, each_step, is_move}
use Rattle.audit.specs.Stretches.{stretches_back}
use Rattle.audit.specs.ToldTables.{first_tables, table_told, shows_rightly, are_tables}
use Rattle.audit.specs.Floors.{stays_above}
use Rattle.audit.specs.Books.{is_move_from}
use Rattle.audit.specs.Consistent.{committed_back, is_order_kept, is_consistent}
use Rattle.history.specs.SerialOrder.{first_commits}
use Rattle.audit.specs.Following.{Follows, IsChanged}
use Rattle.audit.specs.Hearing.{are_right, Hears, HasHeard}
use Rattle.audit.specs.declared.ledger.Ledger.{Ledger}
use Rattle.audit.specs.declared.auditor.Auditor.{Auditor}
use Rattle.net_script.proofs.DraftLemmas.{no_entries, alone_some, sent_some, notice_some}
use Rattle.audit.proofs.AuditLemmas.{is_right, and_true}
use Rattle.audit.proofs.LedgerLemmas.{bare, follows_event, follows_change, moves_so, nothing_happened, history_push}

wrong_is : (b : Bool) → b ≡ false → b ≡ true → ⊥
wrong_is b wrong right = absurd (cc (sym wrong ∙ right))

-- where an entry before isn't right, all isn't, whatever is heard
unheard : (auditor : Auditor) (tables : List Table) (entries new : List Entry) (finals others : List (List Row)) → auditor.is_right ≡ false
    → are_right tables new ≡ false → Hears auditor tables entries finals → Hears auditor tables new others
unheard auditor tables entries new finals others wrong still heard = record {
  tables_are = heard.tables_are;
  right = wrong ∙ sym still;
  follows = λ right. absurd (wrong_is auditor.is_right wrong right);
  finals_are = λ right. absurd (wrong_is auditor.is_right wrong right);
}

-- ---- events

pub right_push : (tables : List Table) (entries : List Entry) (e : Entry)
    → are_right tables (entries ++ e ∷ []) ≡ (are_right tables entries && is_right (first_tables tables) (history_of entries) (step_of e))
right_push tables entries e = ap (each_step (is_right (first_tables tables))) (history_push entries e)

serve_heard : (auditor : Auditor) (node : NodeId) (answer : Answer) (tables : List Table) (entries : List Entry) (finals : List (List Row))
    → Hears auditor tables entries finals → Hears auditor tables (entries ++ Entry.Serve node answer None [] ∷ []) finals
serve_heard auditor node answer tables entries finals heard =
    let first = first_tables tables in
    let before = history_of entries in
    let entry : Entry = Entry.Serve node answer None [] in
    record {
      tables_are = heard.tables_are;
      right = heard.right ∙ and_true (are_right tables entries) ∙ sym (right_push tables entries entry);
      follows = λ e.
          subst (λ h. Follows first h auditor.ledger) (sym (history_push entries entry))
          (follows_event first before auditor.ledger auditor.ledger (heard.follows e) (Deliver 0) answer [] []
          (nothing_happened auditor.ledger answer));
      finals_are = heard.finals_are;
    }

-- ---- datagrams

pub step_sent : (sent : Sent) (a : Entry) → step_of (with_sent sent a) ≡ record (step_of a) { sent = (step_of a).sent ++ sent ∷ [] }
step_sent sent (Entry.Step step) = refl
step_sent sent (Entry.Serve node answer now others) = refl

-- what a step sent counts for nothing
follows_sent : (first : ℕ → List Row) (before : List Step) (step : Step) (sent : List Sent) (ledger : Ledger)
    → Follows first (step ∷ before) ledger → Follows first (record step { sent = sent } ∷ before) ledger
follows_sent first before step sent ledger at = record {
  tables = at.tables;
  branches = at.branches;
  views = at.views;
  firsts = at.firsts;
}

sent_heard : (sent : Sent) (auditor : Auditor) (tables : List Table) (entries : List Entry) (a : Entry) (finals : List (List Row))
    → Hears auditor tables (entries ++ a ∷ []) finals → Hears auditor tables (entries ++ with_sent sent a ∷ []) finals
sent_heard sent auditor tables entries a finals heard =
    let first = first_tables tables in
    let before = history_of entries in
    let more = (step_of a).sent ++ sent ∷ [] in
    record {
      tables_are = heard.tables_are;
      right =
          heard.right ∙ right_push tables entries a
          ∙ ap (λ s. each_step (is_right first) before && is_right first before s) (sym (step_sent sent a))
          ∙ sym (right_push tables entries (with_sent sent a));
      follows = λ e.
          subst (λ h. Follows first h auditor.ledger)
          (ap (λ s. s ∷ before) (sym (step_sent sent a)) ∙ sym (history_push entries (with_sent sent a)))
          (follows_sent first before (step_of a) more auditor.ledger
          (subst (λ h. Follows first h auditor.ledger) (history_push entries a) (heard.follows e)));
      finals_are = heard.finals_are;
    }

-- ---- notices

-- what a step told counts for nothing
follows_told : (first : ℕ → List Row) (before : List Step) (step : Step) (told : List Told) (ledger : Ledger)
    → Follows first (step ∷ before) ledger → Follows first (record step { told = told } ∷ before) ledger
follows_told first before step told ledger at = record {
  tables = at.tables;
  branches = at.branches;
  views = at.views;
  firsts = at.firsts;
}

notice_heard : (n : Told) (auditor : Auditor) (tables : List Table) (entries : List Entry) (a : Entry) (finals : List (List Row))
    → Hears auditor tables (entries ++ a ∷ []) finals → Hears auditor tables (entries ++ with_notice n a ∷ []) finals
notice_heard n auditor tables entries (Entry.Step step) finals heard =
    let first = first_tables tables in
    let before = history_of entries in
    let a = Entry.Step step in
    record {
      tables_are = heard.tables_are;
      right = heard.right ∙ right_push tables entries a ∙ sym (right_push tables entries (with_notice n a));
      follows = λ e.
          subst (λ h. Follows first h auditor.ledger) (sym (history_push entries (with_notice n a)))
          (follows_told first before step (step.told ++ n ∷ []) auditor.ledger
          (subst (λ h. Follows first h auditor.ledger) (history_push entries a) (heard.follows e)));
      finals_are = heard.finals_are;
    }
notice_heard n auditor tables entries (Entry.Serve node answer now sent) finals heard = heard

-- ---- changes of views

-- the step of an entry with a changed view
pub step_changed : (change : Change) (last : Entry) → step_of (with_now change last) ≡ record (step_of last) { now = Some change }
step_changed change (Entry.Step step) = refl
step_changed change (Entry.Serve node answer now sent) = refl

-- what was wrong without a change is wrong with it
still_wrong : (a b c : Bool) → (a && (b && true)) ≡ false → (a && (b && c)) ≡ false
still_wrong true true c e = absurd (cc (e))
still_wrong true false c e = refl
still_wrong false b c e = refl

module _ (change : Change) (tables : List Table) (entries : List Entry) (a : Entry) (none : (step_of a).now ≡ None) where
  abbrev b : Entry
  b = with_now change a

  abbrev first : ℕ → List Row
  first = first_tables tables

  abbrev before : List Step
  before = history_of entries

  abbrev step : Step
  step = step_of a

  abbrev after : Step
  after = record step { now = Some change }

  step_is : step ≡ bare step.event step.answer step.sent step.told
  step_is = ap (λ now. record step { now = now }) none

  -- by the entry without its change
  right_before : are_right tables (entries ++ a ∷ []) ≡ (each_step (is_right first) before && (shows_rightly first before step && true))
  right_before =
      right_push tables entries a
      ∙ ap (λ now. each_step (is_right first) before && (shows_rightly first before step && option_map_or (is_move before) now true))
      none

  right_after : are_right tables (entries ++ b ∷ [])
      ≡ (each_step (is_right first) before && (shows_rightly first before step && is_move before change))
  right_after =
      right_push tables entries b
      ∙ ap (λ s. each_step (is_right first) before && is_right first before s) (step_changed change a)

  pub change_unheard : (auditor : Auditor) (finals : List (List Row)) → auditor.is_right ≡ false
      → Hears auditor tables (entries ++ a ∷ []) finals → Hears auditor tables (entries ++ b ∷ []) finals
  change_unheard auditor finals wrong heard =
      unheard auditor tables (entries ++ a ∷ []) (entries ++ b ∷ []) finals finals wrong
      (right_after
      ∙ still_wrong (each_step (is_right first) before) (shows_rightly first before step) (is_move before change)
      (sym right_before ∙ sym heard.right ∙ wrong)) heard

  pub change_heard : (old new : Auditor) (ok : Bool) → old.is_right ≡ true
      → (ok ≡ is_move_from old.ledger.views change) × (ok ≡ true → IsChanged old.ledger new.ledger change)
      → new.is_right ≡ ok → new.tables ≡ old.tables → new.finals ≡ old.finals
      → (finals : List (List Row)) → Hears old tables (entries ++ a ∷ []) finals → Hears new tables (entries ++ b ∷ []) finals
  change_heard old new ok right change_is now same others finals heard =
      let at : Follows first (bare step.event step.answer step.sent step.told ∷ before) old.ledger =
      subst (λ h. Follows first h old.ledger) (history_push entries a ∙ ap (λ s. s ∷ before) step_is) (heard.follows right) in
      let parts = and_parts (each_step (is_right first) before) (shows_rightly first before step && true)
      (sym right_before ∙ sym heard.right ∙ right) in
      let shown = and_parts (shows_rightly first before step) true parts.1 in
      record {
        tables_are = ap (λ v. v.items) same ∙ heard.tables_are;
        right =
            now ∙ change_is.0 ∙ moves_so first before old.ledger step.event step.answer step.sent step.told at (Some change)
            ∙ (λ i. sym parts.0 i && (sym shown.0 i && is_move before change)) ∙ sym right_after;
        follows = λ e.
            subst (λ h. Follows first h new.ledger)
            (ap (λ s. s ∷ before) (sym (step_changed change a)) ∙ sym (history_push entries b))
            (follows_change first before old.ledger step.event step.answer step.sent step.told at new.ledger change
            (change_is.1 (sym now ∙ e)));
        finals_are = λ e. ap (λ v. v.items) others ∙ heard.finals_are right;
      }

-- ---- tables

pub table_heard : (old new : Auditor) (t : Table) (tables : List Table)
    → (Follows (first_tables tables) [] old.ledger → Follows (first_tables (tables ++ t ∷ [])) [] new.ledger)
    → new.tables.items ≡ old.tables.items ++ t ∷ [] → new.is_right ≡ old.is_right → new.finals ≡ old.finals
    → Hears old tables [] [] → Hears new (tables ++ t ∷ []) [] []
table_heard old new t tables follows more same others heard = record {
  tables_are = more ∙ ap (λ ts. ts ++ t ∷ []) heard.tables_are;
  right = same ∙ heard.right;
  follows = λ e. follows (heard.follows (sym same ∙ e));
  finals_are = λ e. ap (λ v. v.items) others ∙ heard.finals_are (sym same ∙ e);
}

-- ---- one line

pub on_ok : {X E A B : Type 0} (r : Result X E) → (A → B) → OnOk r A → OnOk r B
on_ok (Ok x) f a = f a
on_ok (Err e) f a = tt

-- what follows the lines so far, may follow them
pub after_is : (t after : Trace) (said : TraceLine) → Some after ≡ begun_with (Some t) said
    → (may_follow (so_far_of t) said ≡ true) × (grown t said ≡ after)
after_is t after said e = by (may_follow (so_far_of t) said) (sym e)
  where
    by : (may : Bool) → cond may (Some (grown t said)) None ≡ Some after → (may ≡ true) × (grown t said ≡ after)
    by true h = (refl, same_Some (grown t said) after h)
    by false h = absurd (cc (h))

pub none_left : {X : Type 0} (xs : List X) → eqb (length xs) 0 ≡ true → xs ≡ []
none_left xs h = nil_from_length xs (eqb-true (length xs) 0 h)

-- entries of which the last is made anew
pub record IsMade (make : Entry → Entry) (old : List Entry) : Type 0 where
  pub before : List Entry
  pub last : Entry
  pub told : last_of old ≡ told_by last
  pub old_is : old ≡ before ++ last ∷ []
  pub new_is : at_last make old ≡ before ++ make last ∷ []

is_made : (make : Entry → Entry) (old : List Entry) → is_missing (last_of old) ≡ false → IsMade make old
is_made make [] some = absurd (cc (some))
is_made make (e ∷ []) some = record { before = []; last = e; told = refl; old_is = refl; new_is = refl }
is_made make (e ∷ f ∷ rest) some =
    let made = is_made make (f ∷ rest) some in
    record {
      before = e ∷ made.before;
      last = made.last;
      told = made.told;
      old_is = ap (λ l. e ∷ l) made.old_is;
      new_is = ap (λ l. e ∷ l) made.new_is;
    }

-- what a change, a datagram and a notice do to the last entry, where they may follow
pub change_made : (t : Trace) (change : Change) → may_follow (so_far_of t) (Changed change) ≡ true → IsMade (with_now change) t.entries
change_made t change may =
    is_made (with_now change) t.entries
    (alone_some (last_of t.entries) (and_parts (eqb (length t.finals) 0) (is_alone (last_of t.entries)) may).1)

pub sent_made : (t : Trace) (sent : Sent) → may_follow (so_far_of t) (Datagram sent) ≡ true → IsMade (with_sent sent) t.entries
sent_made t sent may =
    is_made (with_sent sent) t.entries
    (sent_some (last_of t.entries) (and_parts (eqb (length t.finals) 0) (takes_sent (last_of t.entries)) may).1)

pub notice_made : (t : Trace) (n : Told) → may_follow (so_far_of t) (Notice n) ≡ true → IsMade (with_notice n) t.entries
notice_made t n may =
    is_made (with_notice n) t.entries
    (notice_some (last_of t.entries) (and_parts (eqb (length t.finals) 0) (takes_notice (last_of t.entries)) may).1)

-- an entry with its answer alone changed no view
pub bare_none : (last : Entry) → is_alone (told_by last) ≡ true → (step_of last).now ≡ None
bare_none (Entry.Step step) h = of step.now step.sent step.told h
  where
    of : (now : Option Change) (sent : List Sent) (told : List Told)
        → is_alone (noticed_by told (filled_by now sent LastEntry.Bare)) ≡ true → now ≡ None
    of None sent told h = refl
    of (Some c) sent [] h = absurd (cc (h))
    of (Some c) sent (n ∷ told) h = absurd (cc (h))
bare_none (Entry.Serve node answer now sent) h = of now sent h
  where
    of : (now : Option Change) (sent : List Sent) → is_alone (filled_by now sent LastEntry.BareServe) ≡ true → now ≡ None
    of None sent h = refl
    of (Some c) sent h = absurd (cc (h))

pub table_line : (old new : Auditor) (table : Table)
    → ((tables : List Table) → Hears old tables [] [] → Hears new (tables ++ table ∷ []) [] [])
    → (before : Option Trace) (after : Trace) → HasHeard old before → Some after ≡ begun_with before (Contents table)
    → HasHeard new (Some after)
table_line old new table step None after heard e = absurd (cc)
table_line old new table step (Some t) after heard e =
    let got = after_is t after (Contents table) e in
    let front = and_parts _ _ (and_parts _ _ got.0).0 in
    let bare = and_parts (is_missing (last_of t.entries)) (eqb (length t.finals) 0) front.0 in
    let entries = no_entries t.entries bare.0 in
    let finals = none_left t.finals bare.1 in
    let before : Hears old t.tables [] [] =
    subst (λ es. Hears old t.tables es []) entries (subst (λ fs. Hears old t.tables t.entries fs) finals heard) in
    let there : Hears new (t.tables ++ table ∷ []) t.entries t.finals =
    subst (λ es. Hears new (t.tables ++ table ∷ []) es t.finals) (sym entries)
    (subst (λ fs. Hears new (t.tables ++ table ∷ []) [] fs) (sym finals) (step t.tables before)) in
    subst (λ u. HasHeard new (Some u)) got.1 there

pub event_line : (old new : Auditor) (event : Event) (answer : Answer)
    → ((tables : List Table) (entries : List Entry) (finals : List (List Row)) → Hears old tables entries finals
    → Hears new tables (entries ++ bare_step event answer ∷ []) finals)
    → (before : Option Trace) (after : Trace) → HasHeard old before → Some after ≡ begun_with before (Happened event answer)
    → HasHeard new (Some after)
event_line old new event answer step None after heard e = absurd (cc)
event_line old new event answer step (Some t) after heard e =
    subst (λ u. HasHeard new (Some u)) (after_is t after (Happened event answer) e).1 (step t.tables t.entries t.finals heard)

pub serve_line : (auditor : Auditor) (node : NodeId) (answer : Answer) (before : Option Trace) (after : Trace) → HasHeard auditor before
    → Some after ≡ begun_with before (Served node answer) → HasHeard auditor (Some after)
serve_line auditor node answer None after heard e = absurd (cc)
serve_line auditor node answer (Some t) after heard e =
    subst (λ u. HasHeard auditor (Some u)) (after_is t after (Served node answer) e).1
    (serve_heard auditor node answer t.tables t.entries t.finals heard)

pub change_line : (old new : Auditor) (change : Change)
    → ((tables : List Table) (entries : List Entry) (finals : List (List Row)) (last : Entry) → (step_of last).now ≡ None
    → Hears old tables (entries ++ last ∷ []) finals → Hears new tables (entries ++ with_now change last ∷ []) finals)
    → (before : Option Trace) (after : Trace) → HasHeard old before → Some after ≡ begun_with before (Changed change)
    → HasHeard new (Some after)
change_line old new change step None after heard e = absurd (cc)
change_line old new change step (Some t) after heard e =
    let got = after_is t after (Changed change) e in
    let alone = (and_parts (eqb (length t.finals) 0) (is_alone (last_of t.entries)) got.0).1 in
    let made = change_made t change got.0 in
    subst (λ u. HasHeard new (Some u)) got.1
    (subst (λ es. Hears new t.tables es t.finals) (sym made.new_is)
    (step t.tables made.before t.finals made.last (bare_none made.last (ap is_alone (sym made.told) ∙ alone))
    (subst (λ es. Hears old t.tables es t.finals) made.old_is heard)))

pub sent_line : (auditor : Auditor) (sent : Sent) (before : Option Trace) (after : Trace) → HasHeard auditor before
    → Some after ≡ begun_with before (Datagram sent) → HasHeard auditor (Some after)
sent_line auditor sent None after heard e = absurd (cc)
sent_line auditor sent (Some t) after heard e =
    let got = after_is t after (Datagram sent) e in
    let made = sent_made t sent got.0 in
    subst (λ u. HasHeard auditor (Some u)) got.1
    (subst (λ es. Hears auditor t.tables es t.finals) (sym made.new_is)
    (sent_heard sent auditor t.tables made.before made.last t.finals
    (subst (λ es. Hears auditor t.tables es t.finals) made.old_is heard)))

pub notice_line : (auditor : Auditor) (n : Told) (before : Option Trace) (after : Trace) → HasHeard auditor before
    → Some after ≡ begun_with before (Notice n) → HasHeard auditor (Some after)
notice_line auditor n None after heard e = absurd (cc)
notice_line auditor n (Some t) after heard e =
    let got = after_is t after (Notice n) e in
    let made = notice_made t n got.0 in
    subst (λ u. HasHeard auditor (Some u)) got.1
    (subst (λ es. Hears auditor t.tables es t.finals) (sym made.new_is)
    (notice_heard n auditor t.tables made.before made.last t.finals
    (subst (λ es. Hears auditor t.tables es t.finals) made.old_is heard)))

pub rows_line : (old new : Auditor) (rm : ℕ) (rows : List Row)
    → ((tables : List Table) (entries : List Entry) (finals : List (List Row)) → Hears old tables entries finals
    → Hears new tables entries (finals ++ rows ∷ []))
    → (before : Option Trace) (after : Trace) → HasHeard old before → Some after ≡ begun_with before (Final rm rows)
    → HasHeard new (Some after)
rows_line old new rm rows step None after heard e = absurd (cc)
rows_line old new rm rows step (Some t) after heard e =
    subst (λ u. HasHeard new (Some u)) (after_is t after (Final rm rows) e).1 (step t.tables t.entries t.finals heard)

pub cluster_line : (auditor : Auditor) (sizes : Sizes) (before : Option Trace) (after : Trace) → HasHeard auditor before
    → Some after ≡ begun_with before (Cluster sizes) → HasHeard auditor (Some after)
cluster_line auditor sizes None after heard e =
    let same = same_Some _ _ e in
    subst (λ u. HasHeard auditor (Some u)) (sym same) heard
cluster_line auditor sizes (Some t) after heard e = absurd (cc)

-- ---- the verdict

-- a trace isn't consistent where an entry isn't right
pub wrong_trace : (t : Trace) → are_right t.tables t.entries ≡ false → false ≡ is_consistent t
wrong_trace t wrong = sym (ap (λ b. b && are_tables (λ rm. table_told (first_tables t.tables) rm (history_of t.entries)) 0 t.finals
    && is_order_kept (first_tables t.tables) (stretches_back (history_of t.entries)) (committed_back (history_of t.entries))
    (first_commits (history_of t.entries)) t.finals
    && each_step (stays_above t.sizes.rms) (history_of t.entries)) wrong)

pub wants_memory : {X : Type 0} (bytes : List ℕ) (r : Result X Refusal) → IfErr r (λ e. e ≡ NoMemory) → IfErr r (RefusesTrace bytes)
wants_memory bytes (Ok b) wants = tt
wants_memory bytes (Err e) wants = inl wants

-- what a reader refuses, its caller does
pub refused : {X : Type 0} (bytes all : List ℕ) (out : Result X Refusal) (e : Refusal) → out ≡ Err e → all ≡ bytes → RefusesTrace all e
    → IfErr out (RefusesTrace bytes)
refused bytes all (Ok y) e same these given = tt
refused bytes all (Err y) e same these given =
    let one : e ≡ y = cc in
    subst (λ (b : List ℕ). RefusesTrace b y) these (subst (RefusesTrace all) one given)
