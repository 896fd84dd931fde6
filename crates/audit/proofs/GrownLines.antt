-- One line more of a trace: what it says is in range, so the trace's lines are those before and that one.
use Rattle.std.proofs.Common.{◌≡◌, ◌∙◌, ◌+◌, ◌≤◌, true, List, [], ◌∷◌, ◌++◌, length}
use Rattle.std.proofs.Common.{Option, Some, None, refl, sym, ap, subst, arith, eqb-true}
use Rattle.std.specs.List.{All, flat_map}
use Rattle.std.specs.Option.{ForSome}
use Rattle.std.proofs.lemmas.Bool.{and_parts}
use Rattle.std.proofs.lemmas.List.{length-append, length_push}
use Rattle.std.proofs.lemmas.List.Elements.{All-head, All-tail}
use Rattle.safety.specs.Vocabulary.{Change}
use Rattle.net_script.specs.declared.trace_lines.TraceLine.{TraceLine}
use Rattle.net_script.specs.declared.trace_lines.TraceLine.TheVariants.{Cluster, Contents, Happened, Served, Changed, Datagram}
use Rattle.net_script.specs.declared.trace_lines.TraceLine.TheVariants.{Notice, Final}
use Rattle.net_script.specs.Items.{IsSizes, IsContents}
use Rattle.net_script.specs.TraceLines.{IsChange, IsSent, IsNotice, AreFinalRows, IsTraceLine, lines_of, whole_line, trace_line_words}
use Rattle.net_script.specs.TraceReading.{IsEntry, IsBegun}
use Rattle.net_script.specs.TraceReaders.{last_of as how_much, told_by, takes_notice, so_far_of, may_follow, with_now, with_sent}
use Rattle.net_script.specs.TraceReaders.{with_notice, bare_step, grown, opened, begun_with, lines_so_far}
use Rattle.net_script.specs.Traces.{joined_words}
use Rattle.net_script.proofs.DraftLemmas.{begins, serve_tells_none}
use Rattle.protocol.specs.declared.events.Sent.{Sent}
use Rattle.protocol.specs.declared.events.Told.{Told}
use Rattle.std.proofs.lemmas.Option.{same_Some}
use Rattle.net_script.specs.declared.values.Entry.{Entry}
use Rattle.net_script.specs.declared.values.Trace.{Trace}
use Rattle.audit.proofs.HearingLemmas.{after_is, change_made, sent_made, notice_made}

last_of : {X : Type 0} (P : X → Type 0) (xs : List X) (x : X) → All P (xs ++ x ∷ []) → P x
last_of P [] x all = All-head P x [] all
last_of P (y ∷ ys) x all = last_of P ys x (All-tail P y (ys ++ x ∷ []) all)

change_in_range : (c : Change) (e : Entry) → IsEntry (with_now c e) → IsChange c
change_in_range c (Entry.Step step) is = is.1.change c refl
change_in_range c (Entry.Serve node answer now sent) is = is.1.change c refl

sent_in_range : (d : Sent) (e : Entry) → IsEntry (with_sent d e) → IsSent d
sent_in_range d (Entry.Step step) is = last_of IsSent step.sent d is.1.datagrams
sent_in_range d (Entry.Serve node answer now sent) is = last_of IsSent sent d is.1.datagrams

notice_in_range : (n : Told) (e : Entry) → takes_notice (told_by e) ≡ true → IsEntry (with_notice n e) → IsNotice n
notice_in_range n (Entry.Step step) takes is = last_of IsNotice step.told n is.2
notice_in_range n (Entry.Serve node answer now sent) takes is = absurd (serve_tells_none now sent takes)

in_range : (t : Trace) (said : TraceLine) → may_follow (so_far_of t) said ≡ true → IsBegun (grown t said) → IsTraceLine said
in_range t (Cluster sizes) may is = absurd (cc (may))
in_range t (Contents x) may is = last_of IsContents t.tables x is.tables
in_range t (Happened event answer) may is =
    let entry = last_of IsEntry t.entries (bare_step event answer) is.entries in (entry.0, entry.1.answer_is)
in_range t (Served node answer) may is =
    let entry = last_of IsEntry t.entries (Entry.Serve node answer None []) is.entries in (entry.0, entry.1.answer_is)
in_range t (Changed c) may is =
    let made = change_made t c may in
    change_in_range c made.last (last_of IsEntry made.before (with_now c made.last) (subst (All IsEntry) made.new_is is.entries))
in_range t (Datagram d) may is =
    let made = sent_made t d may in
    sent_in_range d made.last (last_of IsEntry made.before (with_sent d made.last) (subst (All IsEntry) made.new_is is.entries))
in_range t (Notice n) may is =
    let made = notice_made t n may in
    notice_in_range n made.last (ap takes_notice (sym made.told) ∙ (and_parts _ (takes_notice (how_much t.entries)) may).1)
    (last_of IsEntry made.before (with_notice n made.last) (subst (All IsEntry) made.new_is is.entries))
in_range t (Final rm rows) may is =
    let same : rm ≡ length t.finals = eqb-true rm (length t.finals) (and_parts _ _ may).0 in
    let named : length (t.finals ++ rows ∷ []) ≤ 256 = is.named in
    (omega (arith, same, named, length_push t.finals rows), last_of AreFinalRows t.finals rows is.finals)

line_in_range : (o : Option Trace) (said : TraceLine) (after : Trace) → Some after ≡ begun_with o said → IsBegun after → IsTraceLine said
line_in_range None (Cluster sizes) after e is = subst IsSizes (ap (λ (u : Trace). u.sizes) (same_Some after (opened sizes) e)) is.sizes
line_in_range None said after e is = absurd (cc)
line_in_range (Some t) said after e is =
    let got = after_is t after said e in in_range t said got.0 (subst IsBegun (sym got.1) is)

-- there is one line more
pub one_more : (o : Option Trace) (said : TraceLine) (after : Trace) → Some after ≡ begun_with o said → ForSome o IsBegun → IsBegun after
    → length (lines_of after) ≡ length (lines_so_far o) + 1
one_more o said after e valid is =
    ap length (begins o said after valid (line_in_range o said after e is) (sym e)).1 ∙ length_push (lines_so_far o) said

-- there are at most as many lines as bytes
pub lines_few : (lines : List TraceLine) → length lines ≤ length (flat_map whole_line lines)
lines_few [] = omega arith
lines_few (said ∷ rest) =
    let few = lines_few rest in
    let here = length_push (joined_words (trace_line_words said)) 10 in
    let all = length-append (whole_line said) (flat_map whole_line rest) in
    omega (arith, few, here, all)
