-- What a reader of lines keeps says which line may follow as the trace so far does, and what it gives and refuses is right: for
-- `TraceReader`; and a text is that of one trace: for `one_trace`.
use Rattle.std.proofs.Common.{◌≡◌, ℕ, ◌+◌, ◌<◌, ◌≤◌, Bool, true, false, cond, eqb, ltb, List, [], ◌∷◌, ◌++◌, length, take, drop, map}
use Rattle.std.proofs.Common.{inl, inr, Option, None, Some, refl, sym, ap, subst, ◌∙◌, arith, eqb-true}
use Rattle.std.specs.Prelude.{Result, Ok, Err, IfErr}
use Rattle.std.specs.List.{flat_map}
use Rattle.std.specs.Option.{ForSome, option_map}
use Rattle.std.proofs.lemmas.Bool.{and_parts}
use Rattle.std.proofs.lemmas.Option.{same_Some}
use Rattle.std.proofs.lemmas.List.Concat.{flat_map-append}
use Rattle.std.proofs.lemmas.List.{append-nil, append_assoc, length-append, length-map, length_push, map_push, take_at, take-append-drop}
use Rattle.xid.specs.Text.{lacks}
use Rattle.net_script.specs.Basics.{Refusal, TxParts, Change, Sent, Told, BadScript, BadConfig, Sizes, Entry, Trace, LastEntry, SoFar}
use Rattle.net_script.specs.Basics.{TraceLine}
use Rattle.net_script.specs.declared.said.Heard.{Heard}
use Rattle.net_script.specs.declared.trace_lines.TraceLine.TheVariants.{Cluster, Contents, Happened, Served, Changed, Datagram}
use Rattle.net_script.specs.declared.trace_lines.TraceLine.TheVariants.{Notice, Final}
use Rattle.net_script.specs.Items.{IsSizes, is_in_limits}
use Rattle.net_script.specs.Traces.{trace_text}
use Rattle.net_script.specs.TraceLines.{IsTraceLine, trace_line_text, whole_line, lines_of}
use Rattle.net_script.specs.TraceReading.{IsBegun, IsTrace, ended_lines, CanBeginTrace, IsTraceFault, RefusesTrace}
use Rattle.net_script.specs.TraceReaders.{filled, noticed, filled_by, noticed_by, told_by, last_of, so_far_of, may_follow, after_line}
use Rattle.net_script.specs.TraceReaders.{follow, with_now, with_sent, with_notice, at_last, grown, opened, begun_with, lines_so_far}
use Rattle.net_script.specs.TraceReaders.{ReaderParts, HasRead, ReadsOn, IsRead, as_line, Follows, GivesHeard}
use Rattle.net_script.specs.Telling.{IsHeard}
use Rattle.net_script.proofs.Arms.{texts_injective, texts_go_on}
use Rattle.net_script.proofs.LawLemmas.{one_line}
use Rattle.net_script.proofs.TraceLineLemmas.{lines_have_one_text, same_front, line_text_words, line_injective}
use Rattle.net_script.proofs.DraftLemmas.{lines_same, begins, none_begins, opened_valid, lines_valid, so_far_valid, last_push}
use Rattle.net_script.proofs.EndedText.{ended_cut, ended_last, ended_more, ended_all, unended, text_is_lines}

-- ---- texts of traces

pub ended_text : (t : Trace) → IsBegun t → ended_lines (trace_text t) ≡ map whole_line (lines_of t)
ended_text t is = ap ended_lines (text_is_lines t) ∙ ended_all (lines_of t) (lines_valid t is)

pub one_text : (t u : Trace) → IsBegun t → IsBegun u → trace_text t ≡ trace_text u → t ≡ u
one_text t u p q e =
    lines_same t u p q
    (texts_injective lines_have_one_text (lines_of t) (lines_of u) (lines_valid t p) (lines_valid u q)
    (sym (ended_text t p) ∙ ap ended_lines e ∙ ended_text u q))

begins_take : (n : ℕ) (ls : List (List ℕ)) → CanBeginTrace ls → CanBeginTrace (take n ls)
begins_take n ls can = record {
  trace = can.trace;
  valid = can.valid;
  more = drop n ls ++ can.more;
  begins = can.begins ∙ simp (← append_assoc, take-append-drop);
}

own_begins : (t : Trace) → IsBegun t → CanBeginTrace (ended_lines (trace_text t))
own_begins t is = record { trace = t; valid = is; more = []; begins = sym (append-nil (ended_lines (trace_text t))) }

pub text_has_no_fault : (t : Trace) (n : ℕ) → IsTrace t → IsTraceFault (trace_text t) n → ⊥
text_has_no_fault t n is (inl fault) = fault.fails (begins_take n (ended_lines (trace_text t)) (own_begins t is.begun))
text_has_no_fault t n is (inr lacks) = lacks.0.short t is refl

pub one_trace_fault : (bytes : List ℕ) (m n : ℕ) → IsTraceFault bytes m → IsTraceFault bytes n → m ≡ n
one_trace_fault bytes m n (inl p) (inl q) = one_line begins_take (ended_lines bytes) m n p q
one_trace_fault bytes m n (inl p) (inr q) = absurd (p.fails (begins_take m (ended_lines bytes) q.0.can))
one_trace_fault bytes m n (inr p) (inl q) = absurd (q.fails (begins_take n (ended_lines bytes) p.0.can))
one_trace_fault bytes m n (inr p) (inr q) = p.1 ∙ sym q.1

-- ---- which lines may follow

-- the last of some entries, made anew so that it tells more
last_more : (make : Entry → Entry) (more : LastEntry → LastEntry) (es : List Entry) → more LastEntry.Missing ≡ LastEntry.Missing
    → ((e : Entry) → told_by (make e) ≡ more (told_by e)) → last_of (at_last make es) ≡ more (last_of es)
last_more make more [] none each = sym none
last_more make more (e ∷ []) none each = each e
last_more make more (e ∷ f ∷ []) none each = each f
last_more make more (e ∷ f ∷ g ∷ es) none each = last_more make more (f ∷ g ∷ es) none each

filled_again : (last : LastEntry) → filled last ≡ filled (filled last)
filled_again LastEntry.Missing = refl
filled_again last = refl

noticed_again : (last : LastEntry) → noticed last ≡ noticed (noticed last)
noticed_again LastEntry.Missing = refl
noticed_again last = refl

filled_noticed : (last : LastEntry) → noticed (filled last) ≡ filled (noticed last)
filled_noticed LastEntry.Missing = refl
filled_noticed last = refl

noticed_by_filled : (told : List Told) (last : LastEntry) → noticed_by told (filled last) ≡ filled (noticed_by told last)
noticed_by_filled [] last = refl
noticed_by_filled (n ∷ told) last = filled_noticed last

filled_by_again : (now : Option Change) (sent : List Sent) (last : LastEntry) → filled last ≡ filled (filled_by now sent last)
filled_by_again None [] last = refl
filled_by_again None (s ∷ sent) last = filled_again last
filled_by_again (Some c) sent last = filled_again last

now_more : (c : Change) (e : Entry) → told_by (with_now c e) ≡ filled (told_by e)
now_more c (Entry.Step step) =
    ap (noticed_by step.told) (filled_by_again step.now step.sent LastEntry.Bare)
    ∙ noticed_by_filled step.told (filled_by step.now step.sent LastEntry.Bare)
now_more c (Entry.Serve node answer now sent) = filled_by_again now sent LastEntry.BareServe

sent_filled : (now : Option Change) (sent : List Sent) (d : Sent) (last : LastEntry) → filled_by now (sent ++ d ∷ []) last ≡ filled last
sent_filled None [] d last = refl
sent_filled None (s ∷ sent) d last = refl
sent_filled (Some c) sent d last = refl

sent_more : (d : Sent) (e : Entry) → told_by (with_sent d e) ≡ filled (told_by e)
sent_more d (Entry.Step step) =
    ap (noticed_by step.told)
    (sent_filled step.now step.sent d LastEntry.Bare ∙ filled_by_again step.now step.sent LastEntry.Bare)
    ∙ noticed_by_filled step.told (filled_by step.now step.sent LastEntry.Bare)
sent_more d (Entry.Serve node answer now sent) =
    sent_filled now sent d LastEntry.BareServe ∙ filled_by_again now sent LastEntry.BareServe

notice_noticed : (told : List Told) (n : Told) (last : LastEntry) → noticed_by (told ++ n ∷ []) last ≡ noticed (noticed_by told last)
notice_noticed [] n last = refl
notice_noticed (t ∷ told) n last = noticed_again last

-- a serve tells no notice
serve_noticed : (now : Option Change) (sent : List Sent)
    → filled_by now sent LastEntry.BareServe ≡ noticed (filled_by now sent LastEntry.BareServe)
serve_noticed None [] = refl
serve_noticed None (s ∷ sent) = refl
serve_noticed (Some c) sent = refl

notice_more : (n : Told) (e : Entry) → told_by (with_notice n e) ≡ noticed (told_by e)
notice_more n (Entry.Step step) = notice_noticed step.told n (filled_by step.now step.sent LastEntry.Bare)
notice_more n (Entry.Serve node answer now sent) = serve_noticed now sent

-- a reader keeps of the trace after a line what it kept before, and of the line
kept_after : (t : Trace) (said : TraceLine) → may_follow (so_far_of t) said ≡ true
    → so_far_of (grown t said) ≡ after_line (so_far_of t) said
kept_after t (Cluster sizes) may = absurd (cc (may))
kept_after t (Contents table) may = simp map_push
kept_after t (Happened event answer) may = simp last_push
kept_after t (Served node answer) may = simp last_push
kept_after t (Changed change) may =
    ap (λ l. record (so_far_of t) { last = l }) (last_more (with_now change) filled t.entries refl (now_more change))
kept_after t (Datagram sent) may =
    ap (λ l. record (so_far_of t) { last = l }) (last_more (with_sent sent) filled t.entries refl (sent_more sent))
kept_after t (Notice told) may =
    ap (λ l. record (so_far_of t) { last = l }) (last_more (with_notice told) noticed t.entries refl (notice_more told))
kept_after t (Final rm rows) may =
    let parts = and_parts (eqb rm (length t.finals)) (ltb (length t.finals) t.sizes.rms) may in
    let same : rm ≡ length t.finals = eqb-true rm (length t.finals) parts.0 in
    let many : length (t.finals ++ rows ∷ []) ≡ rm + 1 = omega (arith, length_push t.finals rows, same) in
    ap (λ n. record (so_far_of t) { finals = n }) many

pub follows_so : (o : Option Trace) (said : TraceLine) → option_map so_far_of (begun_with o said) ≡ follow (option_map so_far_of o) said
follows_so None (Cluster sizes) = refl
follows_so None said = refl
follows_so (Some t) said = by (may_follow (so_far_of t) said) (kept_after t said)
  where
    by : (b : Bool) → (b ≡ true → so_far_of (grown t said) ≡ after_line (so_far_of t) said)
        → option_map so_far_of (cond b (Some (grown t said)) None) ≡ cond b (Some (after_line (so_far_of t) said)) None
    by true same = ap (λ (s : SoFar). Some s) (same refl)
    by false same = refl

-- ---- the next line

begins_so_far : (trace : Option Trace) → ForSome trace IsBegun → CanBeginTrace (map whole_line (lines_so_far trace))
begins_so_far None is =
    let sizes : Sizes = record { acceptors = 0; leaders = 0; rms = 0; bundled = false } in
    let small : IsSizes sizes = record { acceptors = omega arith; leaders = omega arith; rms = omega arith } in
    record { trace = opened sizes; valid = opened_valid sizes small; more = ended_lines (trace_text (opened sizes)); begins = refl }
begins_so_far (Some t) is = record {
  trace = t;
  valid = is t refl;
  more = [];
  begins = ended_text t (is t refl) ∙ sym (append-nil (map whole_line (lines_of t)));
}

-- no trace has these lines and then this one
no_line : (trace : Option Trace) (line : List ℕ) → ForSome trace IsBegun
    → ((said : TraceLine) → IsTraceLine said → line ≡ whole_line said → (u : Trace) → IsBegun u → (more : List TraceLine)
    → lines_of u ≡ lines_so_far trace ++ said ∷ more → ⊥)
    → CanBeginTrace (map whole_line (lines_so_far trace) ++ line ∷ [])
    → ⊥
no_line trace line valid none can =
    let seen : List TraceLine = lines_so_far trace in
    let says : map whole_line seen ++ line ∷ can.more ≡ map whole_line (lines_of can.trace) =
    sym (append_assoc (map whole_line seen) (line ∷ []) can.more) ∙ sym can.begins ∙ ended_text can.trace can.valid in
    let on = texts_go_on lines_have_one_text seen (lines_of can.trace) line can.more
    (so_far_valid trace valid, lines_valid can.trace can.valid) says in
    none on.next on.valid on.says can.trace can.valid on.later on.parts

-- a line that no trace has there
fails_at : {r : ReaderParts} {trace : Option Trace} (line : List ℕ) (later : List (List ℕ)) → HasRead r trace
    → ended_lines r.rest ≡ line ∷ later
    → ((said : TraceLine) → IsTraceLine said → line ≡ whole_line said → (u : Trace) → IsBegun u → (more : List TraceLine)
    → lines_of u ≡ lines_so_far trace ++ said ∷ more → ⊥)
    → RefusesTrace r.bytes (BadScript (r.number + 1))
fails_at {r = r} {trace = trace} line later so next none =
    let seen : List (List ℕ) = map whole_line (lines_so_far trace) in
    let left = ap ended_lines so.text ∙ ended_more (lines_so_far trace) r.rest (so_far_valid trace so.valid) in
    let all : ended_lines r.bytes ≡ seen ++ line ∷ later = left ∙ ap (λ (l : List (List ℕ)). seen ++ l) next in
    let len : length seen ≡ r.number = length-map (lines_so_far trace) whole_line ∙ so.counted in
    let longer : length (seen ++ line ∷ []) ≡ r.number + 1 = length_push seen line ∙ ap (λ (n : ℕ). n + 1) len in
    let front = ap (take r.number) all ∙ take_at seen (line ∷ later) r.number len in
    let more = take_at (seen ++ line ∷ []) later (r.number + 1) longer in
    let up_to = ap (take (r.number + 1)) all ∙ simp append_assoc at more in
    inr (inl (
      r.number + 1,
      refl,
      inl (record {
        before = r.number;
        counted = omega arith;
        within = omega (arith, ap length all, length-append seen (line ∷ later));
        can = subst CanBeginTrace (sym front) (begins_so_far trace so.valid);
        fails = λ can. no_line trace line so.valid none (subst CanBeginTrace up_to can);
      }),
    ))

-- the last line lacks its end
pub unended_line : {r : ReaderParts} {trace : Option Trace} → HasRead r trace → 0 < length r.rest → lacks 10 r.rest ≡ true
    → RefusesTrace r.bytes (BadScript (r.number + 1))
unended_line {r = r} so some none =
    fails_at r.rest [] so (ended_last r.rest some none) (λ said is e u valid more parts. unended said r.rest none e)

-- no trace goes on with what the line says
line_fault : {r : ReaderParts} {trace : Option Trace} (line after : List ℕ) → HasRead r trace
    → (r.rest ≡ line ++ 10 ∷ after) × (lacks 10 line ≡ true)
    → ((said : TraceLine) → IsTraceLine said → line ≡ trace_line_text said → begun_with trace said ≡ None)
    → RefusesTrace r.bytes (BadScript (r.number + 1))
line_fault {trace = trace} line after so cut none =
    fails_at (line ++ 10 ∷ []) (ended_lines after) so (ap ended_lines cut.0 ∙ ended_cut line after cut.1)
    (λ said is e u valid more parts.
    none_begins trace said u more so.valid valid (none said is (same_front line (trace_line_text said) (10 ∷ []) e)) parts)

-- a line that says nothing
pub unread_line : {r : ReaderParts} {trace : Option Trace} (line after : List ℕ) → HasRead r trace
    → (r.rest ≡ line ++ 10 ∷ after) × (lacks 10 line ≡ true)
    → ((said : TraceLine) → IsTraceLine said → line ≡ trace_line_text said → ⊥)
    → RefusesTrace r.bytes (BadScript (r.number + 1))
unread_line line after so cut none = line_fault line after so cut (λ said is e. absurd (none said is e))

none_kept : (o : Option Trace) → option_map so_far_of o ≡ None → o ≡ None
none_kept None e = refl
none_kept (Some t) e = absurd (cc)

-- a line that can't follow
pub unfit_line : {r : ReaderParts} {trace : Option Trace} (line after : List ℕ) (said : TraceLine) → HasRead r trace
    → (r.rest ≡ line ++ 10 ∷ after) × (lacks 10 line ≡ true)
    → IsTraceLine said → line ≡ trace_line_text said → follow r.so_far said ≡ None
    → RefusesTrace r.bytes (BadScript (r.number + 1))
unfit_line {r = r} {trace = trace} line after said so cut is says unfit =
    line_fault line after so cut (λ other range e.
    let same : said ≡ other =
    line_injective said other is range (sym (line_text_words said line is says) ∙ line_text_words other line range e) in
    none_kept (begun_with trace other)
    (follows_so trace other ∙ ap (λ s. follow s other) (sym so.kept) ∙ ap (follow r.so_far) (sym same) ∙ unfit))

some_kept : (o : Option Trace) (s : SoFar) → option_map so_far_of o ≡ Some s → (t : Trace) × (o ≡ Some t)
some_kept None s e = absurd (cc)
some_kept (Some t) s e = (t, refl)

one_more : (seen : List TraceLine) (said : TraceLine) (after : List ℕ)
    → flat_map whole_line seen ++ (trace_line_text said ++ 10 ∷ after) ≡ flat_map whole_line (seen ++ said ∷ []) ++ after
one_more seen said after = simp (flat_map-append, append_assoc)

-- a line that follows
pub fit_line : {r new : ReaderParts} {trace : Option Trace} (line : List ℕ) (said : TraceLine) → HasRead r trace
    → (r.rest ≡ line ++ 10 ∷ new.rest) × (lacks 10 line ≡ true)
    → IsTraceLine said → line ≡ trace_line_text said → Follows r.so_far new.so_far said (Ok tt) → new.bytes ≡ r.bytes
    → new.number ≡ r.number + 1
    → ReadsOn r new trace said
fit_line {r = r} {new = new} {trace = trace} line said so cut is says (s, now, fits) bytes number =
    let after = follows_so trace said ∙ ap (λ k. follow k said) (sym so.kept) ∙ fits in
    let (longer, grows) = some_kept (begun_with trace said) s after in
    let on = begins trace said longer so.valid is grows in
    record {
      bytes = bytes;
      shorter = omega (arith, ap length cut.0, length-append line (10 ∷ new.rest));
      longer = longer;
      grown = sym grows;
      read = record {
        text = bytes ∙ so.text ∙ (simp (cut.0, says)) ∙ one_more (lines_so_far trace) said new.rest
            ∙ ap (λ (ls : List TraceLine). flat_map whole_line ls ++ new.rest) (sym on.1);
        counted = let before = so.counted in omega (arith, ap length on.1, length_push (lines_so_far trace) said);
        valid = λ u e. subst IsBegun (let same : longer ≡ u = cc in same) on.0;
        kept = now ∙ sym after ∙ ap (option_map so_far_of) grows;
      };
    }

any_sent : (s : Option SoFar) (d e : Sent) → follow s (Datagram d) ≡ follow s (Datagram e)
any_sent None d e = refl
any_sent (Some s) d e = refl

-- what is heard of a line follows as the line does
pub heard_follows : (known : Option TxParts) (heard : Heard) (said : TraceLine) (s : Option SoFar) → IsHeard known heard said
    → follow s said ≡ follow s (as_line heard)
heard_follows known (Heard.Line line) said s h = ap (follow s) h
heard_follows None (Heard.Datagram told) said s h = absurd h
heard_follows (Some tx) (Heard.Datagram told) said s h = ap (follow s) h ∙ any_sent s _ _

-- ---- all bytes are read

whole_text : {r : ReaderParts} {trace : Option Trace} → HasRead r trace → r.rest ≡ []
    → r.bytes ≡ flat_map whole_line (lines_so_far trace)
whole_text so none = so.text ∙ (simp (none, append-nil))

missing : {r : ReaderParts} {trace : Option Trace} → HasRead r trace → r.rest ≡ []
    → ((u : Trace) → IsTrace u → lines_of u ≡ lines_so_far trace → ⊥)
    → RefusesTrace r.bytes (BadScript (r.number + 1))
missing {r = r} {trace = trace} so none short =
    let seen : List TraceLine = lines_so_far trace in
    let all : ended_lines r.bytes ≡ map whole_line seen =
    ap ended_lines (whole_text so none) ∙ ended_all seen (so_far_valid trace so.valid) in
    inr (inl (
      r.number + 1,
      refl,
      inr (
        record {
          can = subst CanBeginTrace (sym all) (begins_so_far trace so.valid);
          short =
              λ u valid e. short u valid
              (texts_injective lines_have_one_text (lines_of u) seen (lines_valid u valid.begun) (so_far_valid trace so.valid)
              (sym (ended_text u valid.begun) ∙ ap ended_lines (sym e) ∙ all));
        },
        let counted = so.counted in omega (arith, ap length all, length-map seen whole_line),
      ),
    ))

pub nothing_read : {r : ReaderParts} {trace : Option Trace} → HasRead r trace → r.rest ≡ [] → r.so_far ≡ None
    → RefusesTrace r.bytes (BadScript (r.number + 1))
nothing_read {trace = trace} so none unkept =
    let nothing = none_kept trace (sym so.kept ∙ unkept) in
    missing so none (λ u valid e. absurd (cc (e ∙ ap lines_so_far nothing)))

-- what a reader keeps of the trace so far
kept_of : {r : ReaderParts} {t : Trace} {s : SoFar} → HasRead r (Some t) → r.so_far ≡ Some s → so_far_of t ≡ s
kept_of {t = t} {s = s} so some = same_Some (so_far_of t) s (sym so.kept ∙ some)

pub rows_missing : {r : ReaderParts} {trace : Option Trace} (s : SoFar) → HasRead r trace → r.rest ≡ [] → r.so_far ≡ Some s
    → s.finals < s.sizes.rms
    → RefusesTrace r.bytes (BadScript (r.number + 1))
rows_missing {trace = None} s so none some few = absurd (cc (sym so.kept ∙ some))
rows_missing {trace = Some t} s so none some few =
    let fewer = subst (λ (k : SoFar). k.finals < k.sizes.rms) (sym (kept_of so some)) few in
    missing so none
    (λ u valid e.
    let same : u ≡ t = lines_same u t valid.begun (so.valid t refl) e in
    let whole = subst (λ (x : Trace). length x.finals ≡ x.sizes.rms) same valid.whole in
    omega arith)

all_told : {r : ReaderParts} {t : Trace} (s : SoFar) → HasRead r (Some t) → r.rest ≡ [] → r.so_far ≡ Some s → s.sizes.rms ≤ s.finals
    → IsTrace t × (r.bytes ≡ trace_text t)
all_told {t = t} s so none some enough =
    let more = subst (λ (k : SoFar). k.sizes.rms ≤ k.finals) (sym (kept_of so some)) enough in
    let begun = so.valid t refl in
    let few = begun.few in
    (record { begun = begun; whole = omega arith }, whole_text so none ∙ sym (text_is_lines t))

pub too_large : {r : ReaderParts} {trace : Option Trace} (s : SoFar) → HasRead r trace → r.rest ≡ [] → r.so_far ≡ Some s
    → s.sizes.rms ≤ s.finals → is_in_limits s.sizes ≡ false
    → RefusesTrace r.bytes BadConfig
too_large {trace = None} s so none some enough beyond = absurd (cc (sym so.kept ∙ some))
too_large {trace = Some t} s so none some enough beyond =
    let all = all_told s so none some enough in
    let limits = ap (λ (k : SoFar). is_in_limits k.sizes) (kept_of so some) ∙ beyond in
    inr (inr (refl, record { trace = t; valid = all.0; limits = limits; text = all.1 }))

pub all_read : {r : ReaderParts} {trace : Option Trace} (s : SoFar) → HasRead r trace → r.rest ≡ [] → r.so_far ≡ Some s
    → s.sizes.rms ≤ s.finals → is_in_limits s.sizes ≡ true
    → IsRead r.bytes trace
all_read {trace = None} s so none some enough within = absurd (cc (sym so.kept ∙ some))
all_read {trace = Some t} s so none some enough within =
    let all = all_told s so none some enough in
    let limits = ap (λ (k : SoFar). is_in_limits k.sizes) (kept_of so some) ∙ within in
    record { whole = t; is = refl; spelled = record { valid = all.0; limits = limits; text = all.1 } }

-- what a reader refuses, its caller does
pub refused_next : {X : Type 0} (bytes : List ℕ) (old new : ReaderParts) (trace : Option Trace) (r : Result (Option Heard) Refusal)
    (out : Result X Refusal) (e : Refusal)
    → r ≡ Err e → out ≡ Err e → old.bytes ≡ bytes → GivesHeard old new trace r
    → IfErr out (λ x. RefusesTrace bytes x)
refused_next bytes old new trace (Ok x) out e is same all given = absurd (cc)
refused_next bytes old new trace (Err x) (Ok y) e is same all given = tt
refused_next bytes old new trace (Err x) (Err y) e is same all given =
    let these : x ≡ y = cc in
    subst (λ (b : List ℕ). RefusesTrace b y) all (subst (λ (z : Refusal). RefusesTrace old.bytes z) these given)
