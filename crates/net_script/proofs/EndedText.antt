-- The text of a trace is that of its lines, one after another.
use Rattle.std.proofs.Common.{suc, ◌≡◌, ℕ, ◌<◌, true, false, not, eqb, List, [], ◌∷◌, ◌++◌, length, map, Option, None, Some, refl, sym, ap}
use Rattle.std.proofs.Common.{subst, ◌∙◌, arith}
use Rattle.std.specs.List.{All, flat_map}
use Rattle.std.proofs.lemmas.Bool.{not-true}
use Rattle.std.proofs.lemmas.List.{append-nil, append_assoc}
use Rattle.std.proofs.lemmas.List.Concat.{flat_map-append}
use Rattle.std.proofs.lemmas.List.Folds.{flat_map-map}
use Rattle.std.proofs.lemmas.List.Elements.{All-head, All-tail}
use Rattle.xid.specs.Text.{lacks}
use Rattle.xid.proofs.Texts.{first_true, second_true, lacks_not}
use Rattle.net_script.specs.Basics.{Change, Sent, Told, Row, Table, Entry, Trace, TraceLine}
use Rattle.net_script.specs.declared.trace_lines.TraceLine.TheVariants.{Cluster, Contents, Happened, Served, Changed, Datagram, Notice}
use Rattle.net_script.specs.Traces.{table_line, change_text, sent_line, notice_line, entry_text, final_lines, trace_text}
use Rattle.net_script.specs.TraceLines.{IsTraceLine, trace_line_words, trace_line_text, whole_line, changed_lines, entry_lines, rows_lines}
use Rattle.net_script.specs.TraceLines.{lines_of}
use Rattle.net_script.specs.TraceReading.{ended_lines}
use Rattle.net_script.proofs.TidyText.{lacks_end}
use Rattle.net_script.proofs.TraceLineLemmas.{line_clean, joined_lacks}

-- ---- lines of a text

pub ended_cut : (a b : List ℕ) → lacks 10 a ≡ true → ended_lines (a ++ 10 ∷ b) ≡ (a ++ 10 ∷ []) ∷ ended_lines b
ended_cut [] b h = refl
ended_cut (x ∷ a) b h =
    let other : eqb x 10 ≡ false = not-true (eqb x 10) (first_true (not (eqb x 10)) (lacks 10 a) h) in
    simp (other, ended_cut a b (second_true (not (eqb x 10)) (lacks 10 a) h))

ended_one : (x : ℕ) (a : List ℕ) → lacks 10 (x ∷ a) ≡ true → ended_lines (x ∷ a) ≡ (x ∷ a) ∷ []
ended_one x [] h =
    let other : eqb x 10 ≡ false = not-true (eqb x 10) (first_true (not (eqb x 10)) true h) in
    rw other refl
ended_one x (y ∷ a) h =
    let other : eqb x 10 ≡ false = not-true (eqb x 10) (first_true (not (eqb x 10)) (lacks 10 (y ∷ a)) h) in
    let rest : ended_lines (y ∷ a) ≡ (y ∷ a) ∷ [] = ended_one y a (second_true (not (eqb x 10)) (lacks 10 (y ∷ a)) h) in
    rw (other, rest) refl

-- the last line of a text, where it lacks its end
pub ended_last : (a : List ℕ) → 0 < length a → lacks 10 a ≡ true → ended_lines a ≡ a ∷ []
ended_last [] some h = absurd (omega arith)
ended_last (x ∷ a) some h = ended_one x a h

-- no line has an end within it
line_lacks : (said : TraceLine) → IsTraceLine said → lacks 10 (trace_line_text said) ≡ true
line_lacks said is = joined_lacks 10 refl (λ w is. lacks_end w is.bytes) (trace_line_words said) (line_clean said is)

-- a line that lacks its end is none of a trace
pub unended : (said : TraceLine) (line : List ℕ) → lacks 10 line ≡ true → line ≡ whole_line said → ⊥
unended said line h e = lacks_not 10 (trace_line_text said) [] (subst (λ (t : List ℕ). lacks 10 t ≡ true) e h)

-- lines that a trace has, and a rest
pub ended_more : (ls : List TraceLine) (rest : List ℕ) → All IsTraceLine ls
    → ended_lines (flat_map whole_line ls ++ rest) ≡ map whole_line ls ++ ended_lines rest
ended_more [] rest all = refl
ended_more (said ∷ ls) rest all =
    let cut = ended_cut (trace_line_text said) (flat_map whole_line ls ++ rest) (line_lacks said (All-head IsTraceLine said ls all)) in
    simp (append_assoc, cut, ended_more ls rest (All-tail IsTraceLine said ls all))

pub ended_all : (ls : List TraceLine) → All IsTraceLine ls → ended_lines (flat_map whole_line ls) ≡ map whole_line ls
ended_all ls all = simp append-nil at (ended_more ls [] all)

-- ---- the text of a trace

change_is : (now : Option Change) → change_text now ≡ flat_map whole_line (changed_lines now)
change_is None = refl
change_is (Some c) = sym (append-nil (whole_line (Changed c)))

sent_is : (sent : List Sent) → flat_map sent_line sent ≡ flat_map whole_line (map Datagram sent)
sent_is sent = sym (flat_map-map whole_line Datagram sent)

notices_are : (told : List Told) → flat_map notice_line told ≡ flat_map whole_line (map Notice told)
notices_are told = sym (flat_map-map whole_line Notice told)

tables_are : (ts : List Table) → flat_map table_line ts ≡ flat_map whole_line (map Contents ts)
tables_are ts = sym (flat_map-map whole_line Contents ts)

outcome_is : (first : TraceLine) (now : Option Change) (sent : List Sent)
    → whole_line first ++ change_text now ++ flat_map sent_line sent
    ≡ flat_map whole_line (first ∷ (changed_lines now ++ map Datagram sent))
outcome_is first now sent = simp (append_assoc, change_is, sent_is, flat_map-append)

entry_is : (e : Entry) → entry_text e ≡ flat_map whole_line (entry_lines e)
entry_is (Entry.Step step) =
    let first = Happened step.event step.answer in
    let outcome = first ∷ (changed_lines step.now ++ map Datagram step.sent) in
    ap (λ (l : List ℕ). l ++ flat_map notice_line step.told) (outcome_is first step.now step.sent)
    ∙ ap (λ (l : List ℕ). flat_map whole_line outcome ++ l) (notices_are step.told)
    ∙ sym (flat_map-append whole_line outcome (map Notice step.told))
entry_is (Entry.Serve node answer now sent) = outcome_is (Served node answer) now sent

entries_are : (es : List Entry) → flat_map entry_text es ≡ flat_map whole_line (flat_map entry_lines es)
entries_are [] = refl
entries_are (e ∷ es) = simp (entry_is, entries_are es, flat_map-append)

rows_are : (n : ℕ) (fs : List (List Row)) → final_lines n fs ≡ flat_map whole_line (rows_lines n fs)
rows_are n [] = refl
rows_are n (f ∷ fs) = simp (rows_are (suc n) fs)

regrouped : (a b c d : List ℕ) → a ++ b ++ c ++ d ≡ a ++ (b ++ (c ++ d))
regrouped a b c d = simp append_assoc

pub text_is_lines : (t : Trace) → trace_text t ≡ flat_map whole_line (lines_of t)
text_is_lines t =
    let first = whole_line (Cluster t.sizes) in
    regrouped first (flat_map table_line t.tables) (flat_map entry_text t.entries) (final_lines 0 t.finals)
    ∙ ap (λ (l : List ℕ). first ++ l) (simp (tables_are, entries_are, rows_are, flat_map-append))
