-- A trace line by line: its lines give it back, and nothing else follows them. For `TraceReader`, for traces made of lines, and its
-- steps and tables for scripts too.
use Rattle.std.proofs.Common.{zero, suc, ◌≡◌, ℕ, ◌+◌, ◌-◌, ◌<◌, ◌≤◌, Bool, true, false, not, cond, eqb, ltb, List, [], ◌∷◌, ◌++◌, length}
use Rattle.std.proofs.Common.{get_or, set, drop, map, Option, None, Some, refl, sym, ap, subst, ◌∙◌, arith, eqb-true, eq-eqb}
use Rattle.std.specs.List.{All, AllPairs, list_all, flat_map}
use Rattle.std.specs.Option.{ForSome}
use Rattle.std.proofs.lemmas.Bool.{lt-ltb, and_parts}
use Rattle.std.proofs.lemmas.Option.{cond_some, none-some, same_Some}
use Rattle.std.proofs.lemmas.Bool.Decides.{nat_tests}
use Rattle.std.proofs.lemmas.List.{nil_from_length, append-nil, append_assoc, length-append, length_push, map_push, get_or_at}
use Rattle.std.proofs.lemmas.List.{get_or_append_left}
use Rattle.std.proofs.lemmas.List.Concat.{flat_map-append}
use Rattle.std.proofs.lemmas.List.Folds.{list_all-map}
use Rattle.std.proofs.lemmas.List.Sums.{AllPass-from_list_all, list_all-from_AllPass}
use Rattle.std.proofs.lemmas.List.Elements.{All-nil, All-cons, All-head, All-tail, All-push, All-append, All-map}
use Rattle.std.proofs.lemmas.List.Quantifiers.{all_pairs_push}
use Rattle.xid.proofs.Texts.{both_true}
use Rattle.net_script.specs.Basics.{Row, Event, Answer, Change, Sent, Told, Sizes, Table, Entry, Trace, LastEntry, TraceLine}
use Rattle.net_script.specs.declared.trace_lines.TraceLine.TheVariants.{Cluster, Contents, Happened, Served, Changed, Datagram}
use Rattle.net_script.specs.declared.trace_lines.TraceLine.TheVariants.{Notice, Final}
use Rattle.net_script.specs.Items.{IsSizes, IsContents}
use Rattle.net_script.specs.Answers.{IsAnswer}
use Rattle.net_script.specs.TraceLines.{IsChange, IsSent, IsNotice, AreFinalRows, IsTraceLine, changed_lines, entry_lines, rows_lines}
use Rattle.net_script.specs.TraceLines.{later_lines, lines_of}
use Rattle.net_script.specs.TraceReading.{IsResult, IsEntry, IsBegun}
use Rattle.net_script.specs.TraceReaders.{filled, noticed, filled_by, noticed_by, told_by, last_of, so_far_of, is_missing, is_alone}
use Rattle.net_script.specs.TraceReaders.{takes_sent, takes_notice, takes_table, may_follow, bare_step}
use Rattle.net_script.specs.TraceReaders.{with_now, with_sent, with_notice, at_last, grown, opened, begun_with, lines_so_far}

-- a trace of these parts
abbrev pub trace : Sizes → List Table → List Entry → List (List Row) → Trace
trace sizes tables entries finals = record { sizes = sizes; tables = tables; entries = entries; finals = finals }

-- ---- one line after another

-- steps one after another, until one can't be made
abbrev pub run : {S I : Type 0} → (S → I → Option S) → Option S → List I → Option S
run step None items = None
run step (Some s) [] = Some s
run step (Some s) (i ∷ rest) = run step (step s i) rest

-- those of two lists are made one list after the other
pub run_append : {S I : Type 0} (step : S → I → Option S) (o : Option S) (xs ys : List I)
    → run step o (xs ++ ys) ≡ run step (run step o xs) ys
run_append step None xs ys = refl
run_append step (Some s) [] ys = refl
run_append step (Some s) (x ∷ xs) ys = run_append step (step s x) xs ys

-- lines of a trace
abbrev on : Trace → TraceLine → Option Trace
on t said = begun_with (Some t) said

-- a line that may follow
run_more : (t u : Trace) (said : TraceLine) (rest : List TraceLine) → may_follow (so_far_of t) said ≡ true → grown t said ≡ u
    → run on (Some t) (said ∷ rest) ≡ run on (Some u) rest
run_more t u said rest may is =
    ap (λ (b : Bool). run on (cond b (Some (grown t said)) None) rest) may ∙ ap (λ (v : Trace). run on (Some v) rest) is

-- ---- tables

abbrev pub is_other : ℕ → Table → Bool
is_other n table = not (eqb table.rm n)

abbrev pub IsOther : ℕ → Table → Type 0
IsOther n table = table.rm ≡ n → ⊥

pub others_all : (n : ℕ) (tables : List Table) → All (IsOther n) tables → list_all (is_other n) tables ≡ true
others_all n tables all = list_all-from_AllPass (is_other n) tables (λ k d lt. let other = all k d lt in grind (arith, nat_tests))

pub all_others : (n : ℕ) (tables : List Table) → list_all (is_other n) tables ≡ true → All (IsOther n) tables
all_others n tables h k d lt same = let other = AllPass-from_list_all (is_other n) tables h k d lt in grind (arith, nat_tests)

-- the same of the numbers of their resource managers
managers_all : (n : ℕ) (tables : List Table)
    → list_all (λ m. not (eqb m n)) (map (λ (table : Table). table.rm) tables) ≡ list_all (is_other n) tables
managers_all n tables = list_all-map (λ m. not (eqb m n)) (λ (table : Table). table.rm) tables

abbrev pub Apart : Table → Table → Type 0
Apart a b = a.rm ≡ b.rm → ⊥

pub managers_before : (xs zs : List Table) (t : Table) → AllPairs Apart (xs ++ t ∷ zs) → All (IsOther t.rm) xs
managers_before xs zs t pairs k d lt e =
    let at : get_or (xs ++ t ∷ zs) k d ≡ get_or xs k d = get_or_append_left xs (t ∷ zs) d k lt in
    let here : get_or (xs ++ t ∷ zs) (length xs) d ≡ t = get_or_at xs t zs d (length xs) refl in
    pairs k (length xs) d lt (omega (arith, length-append xs (t ∷ zs))) (rw (at, here) e)

run_tables : (s : Sizes) (done ts : List Table) → All (λ table. table.rm < s.rms) ts → AllPairs Apart (done ++ ts)
    → run on (Some (trace s done [] [])) (map Contents ts) ≡ Some (trace s (done ++ ts) [] [])
run_tables s done [] below once = simp append-nil
run_tables s done (x ∷ ts) below once =
    let takes : takes_table (so_far_of (trace s done [] [])) x.rm ≡ true =
    both_true (ltb x.rm s.rms) (list_all (λ m. not (eqb m x.rm)) (map (λ (table : Table). table.rm) done))
    (lt-ltb x.rm s.rms (All-head (λ (table : Table). table.rm < s.rms) x ts below))
    (managers_all x.rm done ∙ others_all x.rm done (managers_before done ts x once)) in
    let rest = run_tables s (done ++ x ∷ []) ts (All-tail (λ (table : Table). table.rm < s.rms) x ts below) (rw append_assoc once) in
    run_more (trace s done [] []) (trace s (done ++ x ∷ []) [] []) (Contents x) (map Contents ts) takes refl ∙ simp (rest, append_assoc)

-- ---- entries

at_last_push : (make : Entry → Entry) (es : List Entry) (e : Entry) → at_last make (es ++ e ∷ []) ≡ es ++ make e ∷ []
at_last_push make [] e = refl
at_last_push make (x ∷ []) e = refl
at_last_push make (x ∷ y ∷ es) e = ap (λ (l : List Entry). x ∷ l) (at_last_push make (y ∷ es) e)

pub last_push : (es : List Entry) (e : Entry) → last_of (es ++ e ∷ []) ≡ told_by e
last_push [] e = refl
last_push (x ∷ []) e = refl
last_push (x ∷ y ∷ es) e = last_push (y ∷ es) e

filled_some : (last : LastEntry) → is_missing (filled last) ≡ is_missing last
filled_some LastEntry.Missing = refl
filled_some last = refl

filled_by_some : (now : Option Change) (sent : List Sent) (last : LastEntry) → is_missing (filled_by now sent last) ≡ is_missing last
filled_by_some None [] last = refl
filled_by_some None (d ∷ sent) last = filled_some last
filled_by_some (Some c) sent last = filled_some last

noticed_some : (last : LastEntry) → is_missing (noticed last) ≡ is_missing last
noticed_some LastEntry.Missing = refl
noticed_some last = refl

noticed_by_some : (told : List Told) (last : LastEntry) → is_missing (noticed_by told last) ≡ is_missing last
noticed_by_some [] last = refl
noticed_by_some (n ∷ told) last = noticed_some last

not_missing : (e : Entry) → is_missing (told_by e) ≡ false
not_missing (Entry.Step step) =
    noticed_by_some step.told (filled_by step.now step.sent LastEntry.Bare) ∙ filled_by_some step.now step.sent LastEntry.Bare
not_missing (Entry.Serve node answer now sent) = filled_by_some now sent LastEntry.BareServe

filled_takes : (last : LastEntry) → takes_sent (filled last) ≡ takes_sent last
filled_takes LastEntry.Missing = refl
filled_takes last = refl

-- a datagram may follow another, and a changed view
filled_by_takes : (now : Option Change) (sent : List Sent) (last : LastEntry) → takes_sent (filled_by now sent last) ≡ takes_sent last
filled_by_takes None [] last = refl
filled_by_takes None (d ∷ sent) last = filled_takes last
filled_by_takes (Some c) sent last = filled_takes last

-- and a notice may follow those of an event, and another
event_takes : (now : Option Change) (sent : List Sent) (told : List Told)
    → takes_notice (noticed_by told (filled_by now sent LastEntry.Bare)) ≡ true
event_takes None [] [] = refl
event_takes None [] (n ∷ told) = refl
event_takes None (d ∷ sent) [] = refl
event_takes None (d ∷ sent) (n ∷ told) = refl
event_takes (Some c) sent [] = refl
event_takes (Some c) sent (n ∷ told) = refl

-- entries that may differ in what came of them
record IsMaker (make : Option Change → List Sent → Entry) : Type 0 where
  bare : is_alone (told_by (make None [])) ≡ true
  takes : (now : Option Change) (sent : List Sent) → takes_sent (told_by (make now sent)) ≡ true
  changes : (c : Change) → with_now c (make None []) ≡ make (Some c) []
  sends : (now : Option Change) (sent : List Sent) (d : Sent) → with_sent d (make now sent) ≡ make now (sent ++ d ∷ [])

run_changed : (s : Sizes) (ts : List Table) (done : List Entry) (make : Option Change → List Sent → Entry) → IsMaker make
    → (now : Option Change)
    → run on (Some (trace s ts (done ++ make None [] ∷ []) [])) (changed_lines now) ≡ Some (trace s ts (done ++ make now [] ∷ []) [])
run_changed s ts done make is None = refl
run_changed s ts done make is (Some c) =
    run_more (trace s ts (done ++ make None [] ∷ []) []) (trace s ts (done ++ make (Some c) [] ∷ []) []) (Changed c) []
    (ap is_alone (last_push done (make None [])) ∙ is.bare) (simp (at_last_push, is.changes))

run_sent : (s : Sizes) (ts : List Table) (done : List Entry) (make : Option Change → List Sent → Entry) → IsMaker make
    → (now : Option Change) (told more : List Sent)
    → run on (Some (trace s ts (done ++ make now told ∷ []) [])) (map Datagram more)
    ≡ Some (trace s ts (done ++ make now (told ++ more) ∷ []) [])
run_sent s ts done make is now told [] = simp append-nil
run_sent s ts done make is now told (d ∷ more) =
    run_more (trace s ts (done ++ make now told ∷ []) []) (trace s ts (done ++ make now (told ++ d ∷ []) ∷ []) []) (Datagram d)
    (map Datagram more) (ap takes_sent (last_push done (make now told)) ∙ is.takes now told) (simp (at_last_push, is.sends))
    ∙ simp (run_sent s ts done make is now (told ++ d ∷ []) more, append_assoc)

run_outcome : (s : Sizes) (ts : List Table) (done : List Entry) (make : Option Change → List Sent → Entry) → IsMaker make
    → (now : Option Change) (sent : List Sent)
    → run on (Some (trace s ts (done ++ make None [] ∷ []) [])) (changed_lines now ++ map Datagram sent)
    ≡ Some (trace s ts (done ++ make now sent ∷ []) [])
run_outcome s ts done make is now sent = simp (run_append, run_changed s ts done make is now, run_sent s ts done make is now [] sent)

abbrev make_step : Event → Answer → List Told → Option Change → List Sent → Entry
make_step event answer told now sent = Entry.Step (record { event = event; answer = answer; now = now; sent = sent; told = told })

run_told : (s : Sizes) (ts : List Table) (done : List Entry) (event : Event) (answer : Answer) (now : Option Change) (sent : List Sent)
    (told more : List Told)
    → run on (Some (trace s ts (done ++ make_step event answer told now sent ∷ []) [])) (map Notice more)
    ≡ Some (trace s ts (done ++ make_step event answer (told ++ more) now sent ∷ []) [])
run_told s ts done event answer now sent told [] = simp append-nil
run_told s ts done event answer now sent told (n ∷ more) =
    run_more (trace s ts (done ++ make_step event answer told now sent ∷ []) [])
    (trace s ts (done ++ make_step event answer (told ++ n ∷ []) now sent ∷ []) []) (Notice n) (map Notice more)
    (ap takes_notice (last_push done (make_step event answer told now sent)) ∙ event_takes now sent told) (simp at_last_push)
    ∙ simp (run_told s ts done event answer now sent (told ++ n ∷ []) more, append_assoc)

run_entry : (s : Sizes) (ts : List Table) (done : List Entry) (e : Entry)
    → run on (Some (trace s ts done [])) (entry_lines e) ≡ Some (trace s ts (done ++ e ∷ []) [])
run_entry s ts done (Entry.Step step) =
    let make = make_step step.event step.answer [] in
    let takes = λ (now : Option Change) (sent : List Sent). filled_by_takes now sent LastEntry.Bare in
    let outcome = changed_lines step.now ++ map Datagram step.sent in
    run_append on (Some (trace s ts (done ++ make None [] ∷ []) [])) outcome (map Notice step.told)
    ∙ ap (λ (o : Option Trace). run on o (map Notice step.told))
    (run_outcome s ts done make (record { bare = refl; takes = takes; changes = λ c. refl; sends = λ now sent d. refl }) step.now step.sent)
    ∙ run_told s ts done step.event step.answer step.now step.sent [] step.told
run_entry s ts done (Entry.Serve node answer now sent) =
    let takes = λ (now' : Option Change) (sent' : List Sent). filled_by_takes now' sent' LastEntry.BareServe in
    run_outcome s ts done (Entry.Serve node answer)
    (record { bare = refl; takes = takes; changes = λ c. refl; sends = λ now' sent' d. refl }) now sent

run_entries : (s : Sizes) (ts : List Table) (done es : List Entry)
    → run on (Some (trace s ts done [])) (flat_map entry_lines es) ≡ Some (trace s ts (done ++ es) [])
run_entries s ts done [] = simp append-nil
run_entries s ts done (e ∷ es) = simp (run_append, run_entry s ts done e, run_entries s ts (done ++ e ∷ []) es, append_assoc)

-- ---- last rows

run_finals : (s : Sizes) (ts : List Table) (es : List Entry) (done fs : List (List Row)) → length done + length fs ≤ s.rms
    → run on (Some (trace s ts es done)) (rows_lines (length done) fs) ≡ Some (trace s ts es (done ++ fs))
run_finals s ts es done [] few = simp append-nil
run_finals s ts es done (f ∷ fs) few =
    let takes : may_follow (so_far_of (trace s ts es done)) (Final (length done) f) ≡ true =
    both_true (eqb (length done) (length done)) (ltb (length done) s.rms) (eq-eqb (length done) (length done) refl)
    (lt-ltb (length done) s.rms (omega arith)) in
    let longer : suc (length done) ≡ length (done ++ f ∷ []) = omega (arith, length_push done f) in
    let rest = run_finals s ts es (done ++ f ∷ []) fs (omega (arith, length_push done f)) in
    run_more (trace s ts es done) (trace s ts es (done ++ f ∷ [])) (Final (length done) f) (rows_lines (suc (length done)) fs) takes refl
    ∙ simp (longer, rest, append_assoc)

-- ---- whole traces

run_lines : (u : Trace) → IsBegun u → run on (Some (opened u.sizes)) (later_lines u) ≡ Some u
run_lines u is =
    let tables = run_tables u.sizes [] u.tables is.managers is.once in
    let finals = run_finals u.sizes u.tables u.entries [] u.finals (let few = is.few in omega arith) in
    simp (run_append, tables, run_entries u.sizes u.tables [] u.entries, finals)

pub lines_same : (t u : Trace) → IsBegun t → IsBegun u → lines_of t ≡ lines_of u → t ≡ u
lines_same t u p q e =
    let sizes : t.sizes ≡ u.sizes = cc in
    let later : later_lines t ≡ later_lines u = ap (drop 1) e in
    same_Some t u (sym (run_lines t p) ∙ rw (sizes, later) (run_lines u q))

nothing_follows : (t u : Trace) (said : TraceLine) (more : List TraceLine) → IsBegun t → IsBegun u → begun_with (Some t) said ≡ None
    → lines_of u ≡ lines_of t ++ said ∷ more → ⊥
nothing_follows t u said more p q none e =
    let sizes : u.sizes ≡ t.sizes = cc in
    let later : later_lines u ≡ later_lines t ++ said ∷ more = ap (drop 1) e in
    let front = run_append on (Some (opened t.sizes)) (later_lines t) (said ∷ more) in
    let gone : run on (Some (opened u.sizes)) (later_lines u) ≡ None =
    rw (sizes, later, front, run_lines t p) (ap (λ (o : Option Trace). run on o more) none) in
    none-some u (sym gone ∙ run_lines u q)

-- ---- one line more

pub no_entries : (es : List Entry) → is_missing (last_of es) ≡ true → es ≡ []
no_entries [] h = refl
no_entries (e ∷ []) h = absurd (cc (sym (not_missing e) ∙ h))
no_entries (e ∷ f ∷ es) h = absurd (cc (no_entries (f ∷ es) h))

-- the trace after a line is one, and its lines are those before and that one
record Grown (t : Trace) (said : TraceLine) (r : Trace) : Type 0 where
  valid : IsBegun r
  lines : lines_of r ≡ lines_of t ++ said ∷ []

no_rows : (t : Trace) → eqb (length t.finals) 0 ≡ true → t.finals ≡ []
no_rows t h = nil_from_length t.finals (eqb-true (length t.finals) 0 h)

grown_table : (t : Trace) (x : Table) → IsBegun t → IsContents x → takes_table (so_far_of t) x.rm ≡ true
    → Grown t (Contents x) (record t { tables = t.tables ++ x ∷ [] })
grown_table t x is range takes =
    let parts = and_parts _ _ takes in
    let front = and_parts _ _ parts.0 in
    let bare = and_parts (is_missing (last_of t.entries)) (eqb (length t.finals) 0) front.0 in
    let entries = no_entries t.entries bare.0 in
    let finals = no_rows t bare.1 in
    let less : x.rm < t.sizes.rms = let lt = front.1 in grind (arith, nat_tests) in
    let tables = All-push IsContents t.tables x is.tables range in
    let managers = All-push (λ (table : Table). table.rm < t.sizes.rms) t.tables x is.managers less in
    let once = all_pairs_push Apart t.tables x is.once (all_others x.rm t.tables (sym (managers_all x.rm t.tables) ∙ parts.1)) in
    record { valid = assumption; lines = simp (entries, finals, map_push, append-nil) }

grown_entries : (t : Trace) (said : TraceLine) (new : List Entry) → IsBegun t → t.finals ≡ [] → All IsEntry new
    → flat_map entry_lines new ≡ flat_map entry_lines t.entries ++ said ∷ []
    → Grown t said (record t { entries = new })
grown_entries t said new is none each e =
    record { valid = assumption; lines = simp (none, e, append-nil, append_assoc) }

-- ---- the last entry

-- what becomes of the last entry, where there is one
record IsMade (make : Entry → Entry) (said : TraceLine) (last : LastEntry) : Type 0 where
  lines : (e : Entry) → told_by e ≡ last → entry_lines (make e) ≡ entry_lines e ++ said ∷ []
  valid : (e : Entry) → IsEntry e → IsEntry (make e)

last_made : (make : Entry → Entry) (said : TraceLine) (es : List Entry) → is_missing (last_of es) ≡ false → IsMade make said (last_of es)
    → All IsEntry es
    → All IsEntry (at_last make es) × (flat_map entry_lines (at_last make es) ≡ flat_map entry_lines es ++ said ∷ [])
last_made make said [] some made all = absurd (cc (some))
last_made make said (e ∷ []) some made all =
    (All-cons IsEntry (make e) [] (made.valid e (All-head IsEntry e [] all)) (All-nil IsEntry), simp (append-nil, made.lines e refl))
last_made make said (e ∷ f ∷ es) some made all =
    let more = last_made make said (f ∷ es) some made (All-tail IsEntry e (f ∷ es) all) in
    (All-cons IsEntry e (at_last make (f ∷ es)) (All-head IsEntry e (f ∷ es) all) more.0, simp (more.1, append_assoc))

changed_step : (first : TraceLine) (c : Change) (now : Option Change) (sent : List Sent) (told : List Told)
    → is_alone (noticed_by told (filled_by now sent LastEntry.Bare)) ≡ true
    → first ∷ ((Changed c ∷ map Datagram sent) ++ map Notice told)
    ≡ (first ∷ ((changed_lines now ++ map Datagram sent) ++ map Notice told)) ++ Changed c ∷ []
changed_step first c None [] [] bare = refl
changed_step first c None [] (n ∷ told) bare = absurd (cc (bare))
changed_step first c None (d ∷ sent) [] bare = absurd (cc (bare))
changed_step first c None (d ∷ sent) (n ∷ told) bare = absurd (cc (bare))
changed_step first c (Some was) sent [] bare = absurd (cc (bare))
changed_step first c (Some was) sent (n ∷ told) bare = absurd (cc (bare))

changed_serve : (first : TraceLine) (c : Change) (now : Option Change) (sent : List Sent)
    → is_alone (filled_by now sent LastEntry.BareServe) ≡ true
    → first ∷ (Changed c ∷ map Datagram sent) ≡ (first ∷ (changed_lines now ++ map Datagram sent)) ++ Changed c ∷ []
changed_serve first c None [] bare = refl
changed_serve first c None (d ∷ sent) bare = absurd (cc (bare))
changed_serve first c (Some was) sent bare = absurd (cc (bare))

now_lines : (c : Change) (e : Entry) → is_alone (told_by e) ≡ true → entry_lines (with_now c e) ≡ entry_lines e ++ Changed c ∷ []
now_lines c (Entry.Step step) bare = changed_step (Happened step.event step.answer) c step.now step.sent step.told bare
now_lines c (Entry.Serve node answer now sent) bare = changed_serve (Served node answer) c now sent bare

now_result : (c : Change) {answer : Answer} {now : Option Change} {sent : List Sent} → IsChange c → IsResult answer now sent
    → IsResult answer (Some c) sent
now_result c range is =
    record { answer_is = is.answer_is; change = λ x e. subst IsChange (same_Some c x e) range; datagrams = is.datagrams }

now_valid : (c : Change) → IsChange c → (e : Entry) → IsEntry e → IsEntry (with_now c e)
now_valid c range (Entry.Step step) is = (is.0, now_result c range is.1, is.2)
now_valid c range (Entry.Serve node answer now sent) is = (is.0, now_result c range is.1)

none_told : (now : Option Change) (sent : List Sent) (told : List Told)
    → takes_sent (noticed_by told (filled_by now sent LastEntry.Bare)) ≡ true → told ≡ []
none_told now sent [] takes = refl
none_told None [] (n ∷ told) takes = absurd (cc (takes))
none_told None (d ∷ sent) (n ∷ told) takes = absurd (cc (takes))
none_told (Some c) sent (n ∷ told) takes = absurd (cc (takes))

sent_step : (first : TraceLine) (d : Sent) (changed : List TraceLine) (sent : List Sent) (told : List Told) → told ≡ []
    → first ∷ ((changed ++ map Datagram (sent ++ d ∷ [])) ++ map Notice told)
    ≡ (first ∷ ((changed ++ map Datagram sent) ++ map Notice told)) ++ Datagram d ∷ []
sent_step first d changed sent told none = simp (none, map_push, append-nil, append_assoc)

sent_lines : (d : Sent) (e : Entry) → takes_sent (told_by e) ≡ true → entry_lines (with_sent d e) ≡ entry_lines e ++ Datagram d ∷ []
sent_lines d (Entry.Step step) takes =
    sent_step (Happened step.event step.answer) d (changed_lines step.now) step.sent step.told
    (none_told step.now step.sent step.told takes)
sent_lines d (Entry.Serve node answer now sent) takes = simp (map_push, append_assoc)

sent_result : (d : Sent) {answer : Answer} {now : Option Change} {sent : List Sent} → IsSent d → IsResult answer now sent
    → IsResult answer now (sent ++ d ∷ [])
sent_result d {sent = sent} range is =
    record { answer_is = is.answer_is; change = is.change; datagrams = All-push IsSent sent d is.datagrams range }

sent_valid : (d : Sent) → IsSent d → (e : Entry) → IsEntry e → IsEntry (with_sent d e)
sent_valid d range (Entry.Step step) is = (is.0, sent_result d range is.1, is.2)
sent_valid d range (Entry.Serve node answer now sent) is = (is.0, sent_result d range is.1)

-- a serve tells no notice
pub serve_tells_none : (now : Option Change) (sent : List Sent) → takes_notice (filled_by now sent LastEntry.BareServe) ≡ true → ⊥
serve_tells_none None [] takes = absurd (cc (takes))
serve_tells_none None (d ∷ sent) takes = absurd (cc (takes))
serve_tells_none (Some c) sent takes = absurd (cc (takes))

notice_lines : (n : Told) (e : Entry) → takes_notice (told_by e) ≡ true → entry_lines (with_notice n e) ≡ entry_lines e ++ Notice n ∷ []
notice_lines n (Entry.Step step) takes = simp (map_push, append_assoc)
notice_lines n (Entry.Serve node answer now sent) takes = absurd (serve_tells_none now sent takes)

notice_valid : (n : Told) → IsNotice n → (e : Entry) → IsEntry e → IsEntry (with_notice n e)
notice_valid n range (Entry.Step step) is = (is.0, is.1, All-push IsNotice step.told n is.2 range)
notice_valid n range (Entry.Serve node answer now sent) is = is

bare_result : (answer : Answer) → IsAnswer answer → IsResult answer None []
bare_result answer is = record { answer_is = is; change = λ x e. absurd (cc); datagrams = All-nil IsSent }

-- one entry more, of which only the first line was read
pushed : (t : Trace) (said : TraceLine) (e : Entry) → IsBegun t → t.finals ≡ [] → IsEntry e → entry_lines e ≡ said ∷ []
    → Grown t said (record t { entries = t.entries ++ e ∷ [] })
pushed t said e is none range first =
    grown_entries t said (t.entries ++ e ∷ []) is none (All-push IsEntry t.entries e is.entries range)
    (simp (flat_map-append, append-nil, first))

-- ---- last rows

rows_push : (n : ℕ) (xs : List (List Row)) (y : List Row) → rows_lines n (xs ++ y ∷ []) ≡ rows_lines n xs ++ Final (n + length xs) y ∷ []
rows_push n [] y = let same : n + 0 ≡ n = omega arith in simp same
rows_push n (x ∷ xs) y = let same : n + suc (length xs) ≡ suc n + length xs = omega arith in simp (same, rows_push (suc n) xs y)

grown_rows : (t : Trace) (rm : ℕ) (rows : List Row) → IsBegun t → (rm < 256) × AreFinalRows rows
    → may_follow (so_far_of t) (Final rm rows) ≡ true
    → Grown t (Final rm rows) (record t { finals = t.finals ++ rows ∷ [] })
grown_rows t rm rows is range takes =
    let parts = and_parts (eqb rm (length t.finals)) (ltb (length t.finals) t.sizes.rms) takes in
    let same : rm ≡ length t.finals = eqb-true rm (length t.finals) parts.0 in
    let last : 0 + length t.finals ≡ rm = omega arith in
    let less : length t.finals < t.sizes.rms = let lt = parts.1 in grind (arith, nat_tests) in
    let finals = All-push AreFinalRows t.finals rows is.finals range.1 in
    let few : length (t.finals ++ rows ∷ []) ≤ t.sizes.rms = omega (arith, length_push t.finals rows) in
    let named : length (t.finals ++ rows ∷ []) ≤ 256 = omega (arith, length_push t.finals rows, same, range.0) in
    record { valid = assumption; lines = simp (rows_push, last, append_assoc) }

-- what may follow something that happened follows something
pub alone_some : (last : LastEntry) → is_alone last ≡ true → is_missing last ≡ false
alone_some LastEntry.Missing h = absurd (cc (h))
alone_some last h = refl

pub sent_some : (last : LastEntry) → takes_sent last ≡ true → is_missing last ≡ false
sent_some LastEntry.Missing h = absurd (cc (h))
sent_some last h = refl

pub notice_some : (last : LastEntry) → takes_notice last ≡ true → is_missing last ≡ false
notice_some LastEntry.Missing h = absurd (cc (h))
notice_some last h = refl

grows : (t : Trace) (said : TraceLine) → IsBegun t → IsTraceLine said → may_follow (so_far_of t) said ≡ true → Grown t said (grown t said)
grows t (Cluster s) is range may = absurd (cc (may))
grows t (Contents x) is range may = grown_table t x is range may
grows t (Happened event answer) is range may =
    pushed t (Happened event answer) (bare_step event answer) is (no_rows t may)
    (range.0, bare_result answer range.1, All-nil IsNotice) refl
grows t (Served node answer) is range may =
    pushed t (Served node answer) (Entry.Serve node answer None []) is (no_rows t may) (range.0, bare_result answer range.1) refl
grows t (Changed c) is range may =
    let parts = and_parts (eqb (length t.finals) 0) (is_alone (last_of t.entries)) may in
    let new =
    last_made (with_now c) (Changed c) t.entries (alone_some (last_of t.entries) parts.1)
    (record { lines = λ e last. now_lines c e (ap is_alone last ∙ parts.1); valid = now_valid c range }) is.entries in
    grown_entries t (Changed c) (at_last (with_now c) t.entries) is (no_rows t parts.0) new.0 new.1
grows t (Datagram d) is range may =
    let parts = and_parts (eqb (length t.finals) 0) (takes_sent (last_of t.entries)) may in
    let new =
    last_made (with_sent d) (Datagram d) t.entries (sent_some (last_of t.entries) parts.1)
    (record { lines = λ e last. sent_lines d e (ap takes_sent last ∙ parts.1); valid = sent_valid d range }) is.entries in
    grown_entries t (Datagram d) (at_last (with_sent d) t.entries) is (no_rows t parts.0) new.0 new.1
grows t (Notice n) is range may =
    let parts = and_parts (eqb (length t.finals) 0) (takes_notice (last_of t.entries)) may in
    let new =
    last_made (with_notice n) (Notice n) t.entries (notice_some (last_of t.entries) parts.1)
    (record { lines = λ e last. notice_lines n e (ap takes_notice last ∙ parts.1); valid = notice_valid n range }) is.entries in
    grown_entries t (Notice n) (at_last (with_notice n) t.entries) is (no_rows t parts.0) new.0 new.1
grows t (Final rm rows) is range may = grown_rows t rm rows is range may

-- ---- from the first line on

pub opened_valid : (s : Sizes) → IsSizes s → IsBegun (opened s)
opened_valid s is = record {
  sizes = is;
  tables = All-nil IsContents;
  managers = All-nil (λ (table : Table). table.rm < s.rms);
  once = λ i j d less within. absurd (omega arith);
  entries = All-nil IsEntry;
  finals = All-nil AreFinalRows;
  few = omega arith;
  named = omega arith;
}

pub begins : (o : Option Trace) (said : TraceLine) (r : Trace) → ForSome o IsBegun → IsTraceLine said → begun_with o said ≡ Some r
    → IsBegun r × (lines_of r ≡ lines_so_far o ++ said ∷ [])
begins None (Cluster s) r is range e = rw (← (same_Some (opened s) r e)) (opened_valid s range, refl)
begins None said r is range e = absurd (cc)
begins (Some t) said r is range e =
    let got = cond_some (may_follow (so_far_of t) said) (grown t said) r e in
    let more = grows t said (is t refl) range got.0 in rw (← got.1) (more.valid, more.lines)

pub none_begins : (o : Option Trace) (said : TraceLine) (u : Trace) (more : List TraceLine) → ForSome o IsBegun → IsBegun u
    → begun_with o said ≡ None → lines_of u ≡ lines_so_far o ++ said ∷ more → ⊥
none_begins None (Cluster s) u more is valid none e = absurd (cc)
none_begins None said u more is valid none e = absurd (cc)
none_begins (Some t) said u more is valid none e = nothing_follows t u said more (is t refl) valid none e

-- ---- lines in range

changed_valid : (now : Option Change) → ForSome now IsChange → All IsTraceLine (changed_lines now)
changed_valid None is = All-nil IsTraceLine
changed_valid (Some c) is = search (All-cons, All-nil, is c refl)

result_valid : (first : TraceLine) (answer : Answer) (now : Option Change) (sent : List Sent) → IsTraceLine first → IsResult answer now sent
    → All IsTraceLine (first ∷ (changed_lines now ++ map Datagram sent))
result_valid first answer now sent range is = search (All-cons, All-append, All-map, changed_valid)

entry_valid : (e : Entry) → IsEntry e → All IsTraceLine (entry_lines e)
entry_valid (Entry.Step step) is =
    let first = Happened step.event step.answer in
    let outcome = result_valid first step.answer step.now step.sent (is.0, is.1.answer_is) is.1 in
    All-append IsTraceLine (first ∷ (changed_lines step.now ++ map Datagram step.sent)) (map Notice step.told) outcome
    (All-map IsTraceLine Notice step.told is.2)
entry_valid (Entry.Serve node answer now sent) is = result_valid (Served node answer) answer now sent (is.0, is.1.answer_is) is.1

entries_valid : (es : List Entry) → All IsEntry es → All IsTraceLine (flat_map entry_lines es)
entries_valid [] all = All-nil IsTraceLine
entries_valid (e ∷ es) all =
    let first = entry_valid e (All-head IsEntry e es all) in
    let rest = entries_valid es (All-tail IsEntry e es all) in
    search All-append

rows_valid : (n : ℕ) (fs : List (List Row)) → n + length fs ≤ 256 → All AreFinalRows fs → All IsTraceLine (rows_lines n fs)
rows_valid n [] few all = All-nil IsTraceLine
rows_valid n (f ∷ fs) few all =
    let first : (n < 256) × AreFinalRows f = (omega arith, All-head AreFinalRows f fs all) in
    let rest = rows_valid (suc n) fs (omega arith) (All-tail AreFinalRows f fs all) in
    search All-cons

pub lines_valid : (t : Trace) → IsBegun t → All IsTraceLine (lines_of t)
lines_valid t is =
    let named = is.named in
    let rows = rows_valid 0 t.finals (omega arith) is.finals in
    search (All-cons, All-append, All-map, entries_valid)

pub so_far_valid : (o : Option Trace) → ForSome o IsBegun → All IsTraceLine (lines_so_far o)
so_far_valid None is = All-nil IsTraceLine
so_far_valid (Some t) is = lines_valid t (is t refl)

-- ---- for the code: the entry at the end of a vector, changed in place

-- its place
pub last_place : (n l : ℕ) → n ≡ l → 0 < n → suc (n - 1) ≡ l
last_place n l e some = omega arith

-- it is made anew
pub last_set : (make : Entry → Entry) (all : List Entry) (n : ℕ) (d x : Entry) → suc n ≡ length all → x ≡ get_or all n d
    → set all n (make x) ≡ at_last make all
last_set make (a ∷ []) zero d x len is = ap (λ (e : Entry). make e ∷ []) is
last_set make (a ∷ b ∷ rest) (suc n) d x len is =
    ap (λ (others : List Entry). a ∷ others) (last_set make (b ∷ rest) n d x (omega (arith, len)) is)
last_set make all n d x len is = absurd (omega (arith, len))

-- where there is none, nothing is
pub last_missing : (make : Entry → Entry) (all : List Entry) (n : ℕ) → n ≡ length all → (0 < n → false ≡ true) → all ≡ at_last make all
last_missing make [] n len none = refl
last_missing make (a ∷ all) n len none = absurd (cc (none (omega (arith, len))))
