-- Which question fails first with one line more.
use Rattle.std.proofs.Common.{◌≡◌, ◌∙◌, ◌⊎◌, inl, inr, ℕ, ◌+◌, Bool, true, false, not, ◌&&◌, ◌||◌, eqb, cond, List, [], ◌∷◌, ◌++◌, length}
use Rattle.std.proofs.Common.{Option, Some, None, refl, sym, ap, arith}
use Rattle.std.proofs.lemmas.Bool.{and_parts}
use Rattle.std.proofs.lemmas.List.{length_push}
use Rattle.safety.specs.Vocabulary.{Change, Step, Row}
use Rattle.net_script.specs.declared.trace_lines.TraceLine.{TraceLine}
use Rattle.net_script.specs.declared.trace_lines.TraceLine.TheVariants.{Cluster, Contents, Happened, Served, Changed, Datagram}
use Rattle.net_script.specs.declared.trace_lines.TraceLine.TheVariants.{Notice, Final}
use Rattle.net_script.specs.TraceReaders.{last_of, is_missing, is_alone, takes_sent, takes_notice, with_now, with_sent, with_notice}
use Rattle.net_script.specs.TraceReaders.{bare_step, opened, begun_with}
use Rattle.history.specs.SerialOrder.{first_commits}
use Rattle.protocol.specs.declared.events.Told.{Told}
use Rattle.net_script.specs.declared.values.Entry.{Entry}
use Rattle.net_script.specs.declared.values.Trace.{Trace}
use Rattle.audit.specs.Told.{step_of, history_of, each_step, moves_rightly}
use Rattle.audit.specs.Stretches.{stretches_back}
use Rattle.audit.specs.ToldTables.{first_tables, table_told, shows_rightly, are_tables}
use Rattle.audit.specs.Consistent.{committed_back, is_order_kept}
use Rattle.audit.specs.Hearing.{are_right}
use Rattle.audit.specs.FloorBooks.{are_above}
use Rattle.audit.specs.Faults.{keeps, first_failed, question_of}
use Rattle.audit.specs.Noting.{rows_so_far}
use Rattle.audit.specs.declared.faults.Question.{Question}
use Rattle.audit.proofs.AuditLemmas.{is_right}
use Rattle.audit.proofs.LedgerLemmas.{history_push}
use Rattle.std.proofs.lemmas.Option.{same_Some}
use Rattle.audit.proofs.HearingLemmas.{after_is, none_left, change_made, sent_made, notice_made, step_sent, step_changed}

-- ---- the first of five answers

-- the first question whose answer is no
abbrev pub asked : (changes gets tables order floors : Bool) → Option Question
asked changes gets tables order floors =
    cond (not changes) (Some Question.Changes)
    (cond (not gets) (Some Question.Gets)
    (cond (not tables) (Some Question.Tables)
    (cond (not order) (Some Question.Order) (cond (not floors) (Some Question.Floors) None))))

pub failed_by : (t : Trace) (changes gets tables order floors : Bool) → keeps Question.Changes t ≡ changes
    → keeps Question.Gets t ≡ gets → keeps Question.Tables t ≡ tables → keeps Question.Order t ≡ order → keeps Question.Floors t ≡ floors
    → first_failed t ≡ asked changes gets tables order floors
failed_by t changes gets tables order floors a b c d f = λ i. asked (a i) (b i) (c i) (d i) (f i)

pub fails_changes : (t : Trace) → keeps Question.Changes t ≡ false → first_failed t ≡ Some Question.Changes
fails_changes t a = λ i.
    asked (a i) (keeps Question.Gets t) (keeps Question.Tables t) (keeps Question.Order t) (keeps Question.Floors t)

pub fails_gets : (t : Trace) → keeps Question.Changes t ≡ true → keeps Question.Gets t ≡ false → first_failed t ≡ Some Question.Gets
fails_gets t a b = λ i. asked (a i) (b i) (keeps Question.Tables t) (keeps Question.Order t) (keeps Question.Floors t)

-- before the last rows three questions are asked
pub floors_fail : (t : Trace) (floors : Bool) → keeps Question.Changes t ≡ true → keeps Question.Gets t ≡ true
    → keeps Question.Floors t ≡ floors → t.finals ≡ [] → first_failed t ≡ asked true true true true floors
floors_fail t floors a b f none =
    let history = history_of t.entries in
    let first = first_tables t.tables in
    failed_by t true true true true floors a b (ap (are_tables (λ rm. table_told first rm history) 0) none)
    (ap (λ fs. eqb (length fs) 0 || is_order_kept first (stretches_back history) (committed_back history) (first_commits history) fs) none)
    f

pub none_fails : (t : Trace) → keeps Question.Changes t ≡ true → keeps Question.Gets t ≡ true → keeps Question.Floors t ≡ true
    → t.finals ≡ [] → first_failed t ≡ None
none_fails t a b f none = floors_fail t true a b f none

-- ---- entries

regrouped : (a b s m : Bool) → ((a && b) && (s && m)) ≡ ((a && m) && (b && s))
regrouped false b s m = refl
regrouped true false s true = refl
regrouped true false s false = refl
regrouped true true true true = refl
regrouped true true true false = refl
regrouped true true false true = refl
regrouped true true false false = refl

right_parts : (first : ℕ → List Row) (history : List Step)
    → each_step (is_right first) history ≡ (each_step moves_rightly history && each_step (shows_rightly first) history)
right_parts first [] = refl
right_parts first (step ∷ before) =
    ap (λ b. b && (shows_rightly first before step && moves_rightly before step)) (right_parts first before)
    ∙ regrouped (each_step moves_rightly before) (each_step (shows_rightly first) before) (shows_rightly first before step)
    (moves_rightly before step)

-- whether the entries of a trace are right
abbrev pub entries_right : Trace → Bool
entries_right t = are_right t.tables t.entries

pub right_of : (t : Trace) → entries_right t ≡ (keeps Question.Changes t && keeps Question.Gets t)
right_of t = right_parts (first_tables t.tables) (history_of t.entries)

pub both_kept : (t : Trace) → entries_right t ≡ true → (keeps Question.Changes t ≡ true) × (keeps Question.Gets t ≡ true)
both_kept t right = and_parts (keeps Question.Changes t) (keeps Question.Gets t) (sym (right_of t) ∙ right)

-- the same of a trace so far
abbrev pub right_so_far : Option Trace → Bool
right_so_far None = true
right_so_far (Some t) = entries_right t

moves_push : (entries : List Entry) (e : Entry)
    → each_step moves_rightly (history_of (entries ++ e ∷ []))
    ≡ (each_step moves_rightly (history_of entries) && moves_rightly (history_of entries) (step_of e))
moves_push entries e = ap (each_step moves_rightly) (history_push entries e)

shows_push : (first : ℕ → List Row) (entries : List Entry) (e : Entry)
    → each_step (shows_rightly first) (history_of (entries ++ e ∷ []))
    ≡ (each_step (shows_rightly first) (history_of entries) && shows_rightly first (history_of entries) (step_of e))
shows_push first entries e = ap (each_step (shows_rightly first)) (history_push entries e)

-- one entry more that changes no view
moves_bare : (t after : Trace) (e : Entry) → record t { entries = t.entries ++ e ∷ [] } ≡ after
    → ((before : List Step) → moves_rightly before (step_of e) ≡ true) → keeps Question.Changes t ≡ true
    → keeps Question.Changes after ≡ true
moves_bare t after e is bare kept =
    ap (keeps Question.Changes) (sym is) ∙ moves_push t.entries e ∙ (λ i. kept i && bare (history_of t.entries) i)

-- a notice changes no view
notice_moves : (n : Told) (before : List Step) (a : Entry)
    → moves_rightly before (step_of (with_notice n a)) ≡ moves_rightly before (step_of a)
notice_moves n before (Entry.Step step) = refl
notice_moves n before (Entry.Serve node answer now sent) = refl

-- whether a line tells of a change
abbrev pub is_change : TraceLine → Bool
is_change (Changed change) = true
is_change said = false

-- without one, changes stay steps of TCommit
pub moves_on : (o : Option Trace) (said : TraceLine) (after : Trace) → Some after ≡ begun_with o said → right_so_far o ≡ true
    → is_change said ≡ false → keeps Question.Changes after ≡ true
moves_on None (Cluster sizes) after e right other = ap (keeps Question.Changes) (same_Some after (opened sizes) e)
moves_on None said after e right other = absurd (cc)
moves_on (Some t) (Cluster sizes) after e right other = absurd (cc)
moves_on (Some t) (Contents x) after e right other =
    ap (keeps Question.Changes) (sym (after_is t after (Contents x) e).1) ∙ (both_kept t right).0
moves_on (Some t) (Happened event answer) after e right other =
    moves_bare t after (bare_step event answer) (after_is t after (Happened event answer) e).1 (λ before. refl) (both_kept t right).0
moves_on (Some t) (Served node answer) after e right other =
    moves_bare t after (Entry.Serve node answer None []) (after_is t after (Served node answer) e).1 (λ before. refl) (both_kept t right).0
moves_on (Some t) (Changed c) after e right other = absurd (cc (other))
moves_on (Some t) (Datagram d) after e right other =
    let got = after_is t after (Datagram d) e in
    let made = sent_made t d got.0 in
    let a = made.last in
    let before = history_of made.before in
    ap (keeps Question.Changes) (sym got.1)
    ∙ ap (λ es. each_step moves_rightly (history_of es)) made.new_is ∙ moves_push made.before (with_sent d a)
    ∙ ap (λ s. each_step moves_rightly before && moves_rightly before s) (step_sent d a)
    ∙ sym (moves_push made.before a) ∙ ap (λ es. each_step moves_rightly (history_of es)) (sym made.old_is)
    ∙ (both_kept t right).0
moves_on (Some t) (Notice n) after e right other =
    let got = after_is t after (Notice n) e in
    let made = notice_made t n got.0 in
    let a = made.last in
    let before = history_of made.before in
    ap (keeps Question.Changes) (sym got.1)
    ∙ ap (λ es. each_step moves_rightly (history_of es)) made.new_is ∙ moves_push made.before (with_notice n a)
    ∙ ap (λ b. each_step moves_rightly before && b) (notice_moves n before a)
    ∙ sym (moves_push made.before a) ∙ ap (λ es. each_step moves_rightly (history_of es)) (sym made.old_is)
    ∙ (both_kept t right).0
moves_on (Some t) (Final rm rows) after e right other =
    ap (keeps Question.Changes) (sym (after_is t after (Final rm rows) e).1) ∙ (both_kept t right).0

-- a change shows nothing
shows_on : (t after : Trace) (c : Change) → Some after ≡ begun_with (Some t) (Changed c) → entries_right t ≡ true
    → keeps Question.Gets after ≡ true
shows_on t after c e right =
    let got = after_is t after (Changed c) e in
    let made = change_made t c got.0 in
    let a = made.last in
    let first = first_tables t.tables in
    let before = history_of made.before in
    ap (keeps Question.Gets) (sym got.1)
    ∙ ap (λ es. each_step (shows_rightly first) (history_of es)) made.new_is ∙ shows_push first made.before (with_now c a)
    ∙ ap (λ s. each_step (shows_rightly first) before && shows_rightly first before s) (step_changed c a)
    ∙ sym (shows_push first made.before a) ∙ ap (λ es. each_step (shows_rightly first) (history_of es)) (sym made.old_is)
    ∙ (both_kept t right).1

first_false : (a b : Bool) → (a && b) ≡ false → b ≡ true → a ≡ false
first_false true b e kept = absurd (cc (sym e ∙ kept))
first_false false b e kept = refl

second_false : (a b : Bool) → (a && b) ≡ false → a ≡ true → b ≡ false
second_false true b e kept = e
second_false false b e kept = absurd (cc (kept))

gets_fail : (o : Option Trace) (said : TraceLine) (after : Trace) → Some after ≡ begun_with o said → right_so_far o ≡ true
    → entries_right after ≡ false → is_change said ≡ false → first_failed after ≡ Some Question.Gets
gets_fail o said after e right wrong other =
    let moves = moves_on o said after e right other in
    fails_gets after moves
    (second_false (keeps Question.Changes after) (keeps Question.Gets after) (sym (right_of after) ∙ wrong) moves)

-- the question that fails where the entries aren't right any more
pub fails_with : (o : Option Trace) (said : TraceLine) (after : Trace) → Some after ≡ begun_with o said → right_so_far o ≡ true
    → entries_right after ≡ false → first_failed after ≡ Some (question_of said)
fails_with None (Changed c) after e right wrong = absurd (cc)
fails_with (Some t) (Changed c) after e right wrong =
    fails_changes after
    (first_false (keeps Question.Changes after) (keeps Question.Gets after) (sym (right_of after) ∙ wrong) (shows_on t after c e right))
fails_with o (Cluster sizes) after e right wrong = gets_fail o (Cluster sizes) after e right wrong refl
fails_with o (Contents table) after e right wrong = gets_fail o (Contents table) after e right wrong refl
fails_with o (Happened event answer) after e right wrong = gets_fail o (Happened event answer) after e right wrong refl
fails_with o (Served node answer) after e right wrong = gets_fail o (Served node answer) after e right wrong refl
fails_with o (Datagram sent) after e right wrong = gets_fail o (Datagram sent) after e right wrong refl
fails_with o (Notice n) after e right wrong = gets_fail o (Notice n) after e right wrong refl
fails_with o (Final rm rows) after e right wrong = gets_fail o (Final rm rows) after e right wrong refl

-- ---- last rows

no_rows : (t after : Trace) → t.finals ≡ [] → after.finals ≡ t.finals
    → ((length t.finals ≡ 0) × (after.finals ≡ []))
    ⊎ ((length after.finals ≡ length t.finals + 1) × (entries_right after ≡ entries_right t)
    × (are_above (Some after) ≡ are_above (Some t)))
no_rows t after none same = inl (ap length none, same ∙ none)

-- one line more is one of the last rows, or there are none yet
pub rows_on : (o : Option Trace) (said : TraceLine) (after : Trace) → Some after ≡ begun_with o said
    → ((rows_so_far o ≡ 0) × (after.finals ≡ []))
    ⊎ ((length after.finals ≡ rows_so_far o + 1) × (entries_right after ≡ right_so_far o) × (are_above (Some after) ≡ are_above o))
rows_on None (Cluster sizes) after e = inl (refl, ap (λ (u : Trace). u.finals) (same_Some after (opened sizes) e))
rows_on None said after e = absurd (cc)
rows_on (Some t) (Cluster sizes) after e = absurd (cc)
rows_on (Some t) (Contents x) after e =
    let got = after_is t after (Contents x) e in
    let front = and_parts _ _ (and_parts _ _ got.0).0 in
    no_rows t after (none_left t.finals (and_parts (is_missing (last_of t.entries)) (eqb (length t.finals) 0) front.0).1)
    (ap (λ (u : Trace). u.finals) (sym got.1))
rows_on (Some t) (Happened event answer) after e =
    let got = after_is t after (Happened event answer) e in
    no_rows t after (none_left t.finals got.0) (ap (λ (u : Trace). u.finals) (sym got.1))
rows_on (Some t) (Served node answer) after e =
    let got = after_is t after (Served node answer) e in
    no_rows t after (none_left t.finals got.0) (ap (λ (u : Trace). u.finals) (sym got.1))
rows_on (Some t) (Changed c) after e =
    let got = after_is t after (Changed c) e in
    no_rows t after (none_left t.finals (and_parts (eqb (length t.finals) 0) (is_alone (last_of t.entries)) got.0).0)
    (ap (λ (u : Trace). u.finals) (sym got.1))
rows_on (Some t) (Datagram d) after e =
    let got = after_is t after (Datagram d) e in
    no_rows t after (none_left t.finals (and_parts (eqb (length t.finals) 0) (takes_sent (last_of t.entries)) got.0).0)
    (ap (λ (u : Trace). u.finals) (sym got.1))
rows_on (Some t) (Notice n) after e =
    let got = after_is t after (Notice n) e in
    no_rows t after (none_left t.finals (and_parts (eqb (length t.finals) 0) (takes_notice (last_of t.entries)) got.0).0)
    (ap (λ (u : Trace). u.finals) (sym got.1))
rows_on (Some t) (Final rm rows) after e =
    let got = after_is t after (Final rm rows) e in
    let more : length t.finals + 1 ≡ length (t.finals ++ rows ∷ []) = omega (arith, length_push t.finals rows) in
    inr (
      ap (λ (u : Trace). length u.finals) (sym got.1) ∙ sym more,
      ap entries_right (sym got.1),
      ap (λ (u : Trace). are_above (Some u)) (sym got.1),
    )
