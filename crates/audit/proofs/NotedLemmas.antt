-- What a judge holds after one line more: for `Judge::take` and `Judge::hear`.
use Rattle.std.proofs.Common.{◌≡◌, ◌∙◌, ◌⊎◌, inl, inr, ℕ, ◌+◌, ◌<◌, ◌≤◌, Bool, true, false, not, ◌&&◌, ltb, List, [], Option, Some, None}
use Rattle.std.proofs.Common.{◌++◌, length, Result, Ok, Err, refl, sym, ap, subst, arith}
use Rattle.std.specs.Prelude.{IfOk}
use Rattle.std.specs.List.{flat_map}
use Rattle.std.proofs.lemmas.Bool.{and_parts, leb-true, ltb-true, ltb-false}
use Rattle.std.proofs.lemmas.List.{append-nil, length-append}
use Rattle.net_script.specs.declared.trace_lines.TraceLine.{TraceLine}
use Rattle.xid.specs.Transactions.{TxParts}
use Rattle.net_script.specs.declared.message_words.Said.{Said}
use Rattle.net_script.specs.Messages.{kind_of}
use Rattle.wire.specs.Messages.{message_tx}
use Rattle.xid.specs.Places.{is_below}
use Rattle.net_script.specs.declared.said.Heard.{Heard}
use Rattle.net_script.specs.declared.told.ToldSent.{ToldSent}
use Rattle.net_script.specs.declared.trace_lines.TraceLine.TheVariants.{Datagram}
use Rattle.net_script.specs.Telling.{sent_of, IsHeard}
use Rattle.net_script.specs.Traces.{trace_text}
use Rattle.net_script.specs.TraceLines.{whole_line, lines_of}
use Rattle.net_script.specs.TraceReaders.{begun_with, ReaderParts, HasRead, ReadsOn, IsRead}
use Rattle.net_script.proofs.EndedText.{text_is_lines}
use Rattle.xid.specs.declared.refusals.Refusal.{Refusal}
use Rattle.net_script.specs.declared.values.Trace.{Trace}
use Rattle.audit.specs.Hearing.{HasHeard}
use Rattle.audit.specs.Floors.{is_sent_above}
use Rattle.audit.specs.FloorBooks.{HasHeardFloors, are_above, floor_before}
use Rattle.audit.specs.Faults.{keeps, first_failed, Tells, HasNoFault, IsFirstFault, IsFound, IsJudged, question_of}
use Rattle.audit.specs.Noting.{rows_so_far, or_fault, HasNoted}
use Rattle.audit.specs.declared.faults.Question.{Question}
use Rattle.audit.specs.declared.floors.Floors.{Floors}
use Rattle.audit.specs.declared.faults.Fault.{Fault}
use Rattle.audit.specs.declared.auditor.Auditor.{Auditor}
use Rattle.audit.specs.declared.judge.Judge.{Judge}
use Rattle.std.proofs.lemmas.Option.{same_Some}
use Rattle.audit.proofs.GrownLines.{one_more, lines_few}
use Rattle.audit.proofs.FaultLemmas.{entries_right, right_so_far, both_kept, floors_fail, none_fails, fails_with, rows_on}

right_heard : (auditor : Auditor) (o : Option Trace) → HasHeard auditor o → auditor.is_right ≡ true → right_so_far o ≡ true
right_heard auditor None heard right = refl
right_heard auditor (Some t) heard right = sym heard.right ∙ right

module _ (bytes : List ℕ) (old : Judge) (count line : ℕ) (before : Option Trace) (said : TraceLine) (after : Trace)
    (noted : HasNoted bytes old count before) (e : Some after ≡ begun_with before said) (next : line ≡ count + 1)
    (told : Tells bytes line after) (auditor : Auditor) (heard : HasHeard auditor (Some after)) (floors : Floors)
    (hears : HasHeardFloors floors (Some after)) (above : Bool) (stays : are_above (Some after) ≡ (are_above before && above)) where
  abbrev fault_here : Fault
  fault_here = record { question = question_of said; line = line }

  abbrev floors_here : Fault
  floors_here = record { question = Question.Floors; line = line }

  abbrev judged : Option Fault → Judge
  judged fault = record { auditor = auditor; floors = floors; fault = fault }

  abbrev OneMore : Type 0
  OneMore =
      ((rows_so_far before ≡ 0) × (after.finals ≡ []))
      ⊎ ((length after.finals ≡ rows_so_far before + 1) × (entries_right after ≡ right_so_far before)
      × (are_above (Some after) ≡ are_above before))

  -- a first fault in this line
  new_noted : (fault : Fault) → IsFirstFault bytes fault → (auditor.is_right ≡ false) ⊎ (are_above (Some after) ≡ false)
      → HasNoted bytes (judged (Some fault)) line (Some after)
  new_noted fault here wrong = record {
    heard = heard;
    counted = told.counted;
    floors = hears;
    fault = λ other is. (subst (IsFirstFault bytes) (same_Some fault other is) here, wrong);
    right = λ no. absurd (cc (no));
    above = λ no. absurd (cc (no));
    none = λ no n pos within. absurd (cc (no));
  }

  module _ (none : old.fault ≡ None) where
    fresh : right_so_far before ≡ true
    fresh = right_heard old.auditor before noted.heard (noted.right none)

    -- as many steps are above their floors as were
    above_so : are_above (Some after) ≡ above
    above_so = stays ∙ ap (λ b. b && above) (noted.above none)

    earlier : ((entries_right after ≡ right_so_far before) × (are_above (Some after) ≡ are_above before) → ⊥) → OneMore
        → (n : ℕ) → 0 < n → n < line → HasNoFault bytes n
    earlier wrong (inl (zero, nil)) n pos less = noted.none none n pos (omega (arith, zero, next, less))
    earlier wrong (inr (more, same, kept)) n pos less = absurd (wrong (same, kept))

    module _ (wrong : auditor.is_right ≡ false) where
      pub fault_noted : HasNoted bytes (judged (Some fault_here)) line (Some after)
      fault_noted = new_noted fault_here (record {
        so_far = after;
        told = told;
        fails = fails_with before said after e fresh (sym heard.right ∙ wrong);
        before = earlier (λ kept. absurd (cc (sym wrong ∙ heard.right ∙ kept.0 ∙ fresh))) (rows_on before said after e);
      }) (inl wrong)

    module _ (right : auditor.is_right ≡ true) where
      kept : (keeps Question.Changes after ≡ true) × (keeps Question.Gets after ≡ true)
      kept = both_kept after (sym heard.right ∙ right)

      module _ (below : above ≡ false) where
        nothing_kept : (are_above (Some after) ≡ are_above before) → ⊥
        nothing_kept same = absurd (cc (sym (above_so ∙ below) ∙ same ∙ noted.above none))

        fails_here : OneMore → first_failed after ≡ Some Question.Floors
        fails_here (inl (zero, nil)) = floors_fail after false kept.0 kept.1 (above_so ∙ below) nil
        fails_here (inr (more, same, still)) = absurd (nothing_kept still)

        floors_noted : HasNoted bytes (judged (Some floors_here)) line (Some after)
        floors_noted = new_noted floors_here (record {
          so_far = after;
          told = told;
          fails = fails_here (rows_on before said after e);
          before = earlier (λ same. nothing_kept same.1) (rows_on before said after e);
        }) (inr (above_so ∙ below))

      module _ (stands : above ≡ true) where
        there : (n : ℕ) → 0 < n → n ≤ line → after.finals ≡ [] → rows_so_far before ≡ 0 → (b : Bool) → ltb n line ≡ b
            → HasNoFault bytes n
        there n pos le nil zero true q =
            let less = ltb-true n line q in
            noted.none none n pos (omega (arith, zero, next, less))
        there n pos le nil zero false q =
            let same : line ≡ n = omega (arith, le, ltb-false n line q) in
            record {
              so_far = after;
              told = subst (λ k. Tells bytes k after) same told;
              none = none_fails after kept.0 kept.1 (above_so ∙ stands) nil;
            }

        so_far : OneMore → (n : ℕ) → 0 < n → n + length after.finals ≤ line → HasNoFault bytes n
        so_far (inl (zero, nil)) n pos within = there n pos (omega (arith, within)) nil zero (ltb n line) refl
        so_far (inr (more, same, still)) n pos within = noted.none none n pos (omega (arith, within, more, next))

        none_noted : HasNoted bytes (judged None) line (Some after)
        none_noted = record {
          heard = heard;
          counted = told.counted;
          floors = hears;
          fault = λ fault is. absurd (cc (is));
          right = λ _. right;
          above = λ _. above_so ∙ stands;
          none = λ _. so_far (rows_on before said after e);
        }

  below_still : are_above before ≡ false → are_above (Some after) ≡ false
  below_still below = stays ∙ ap (λ b. b && above) below

  still_noted : (f : Fault) → old.fault ≡ Some f → (old.auditor.is_right ≡ false → auditor.is_right ≡ false)
      → HasNoted bytes (judged (Some f)) line (Some after)
  still_noted f some still =
      let was = noted.fault f some in
      new_noted f was.0 (by was.1)
    where
      by : (old.auditor.is_right ≡ false) ⊎ (are_above before ≡ false) → (auditor.is_right ≡ false) ⊎ (are_above (Some after) ≡ false)
      by (inl wrong) = inl (still wrong)
      by (inr below) = inr (below_still below)

  -- what a judge keeps where a line may be the first with which a question isn't kept
  pub noted_on : (f : Option Fault) → old.fault ≡ f → (old.auditor.is_right ≡ false → auditor.is_right ≡ false) → (right : Bool)
      → auditor.is_right ≡ right → (b : Bool) → above ≡ b
      → HasNoted bytes (judged (or_fault (or_fault f right fault_here) b floors_here)) line (Some after)
  noted_on (Some f) is still right r b a = still_noted f is still
  noted_on None is still false r b a = fault_noted is r
  noted_on None is still true r false a = floors_noted is r a
  noted_on None is still true r true a = none_noted is r a

  -- the same of a line that changes nothing for the auditor
  pub noted_above : old.auditor ≡ auditor → HasNoted bytes (judged (or_fault old.fault above floors_here)) line (Some after)
  noted_above same = by old.fault refl
    where
      by : (f : Option Fault) → old.fault ≡ f → HasNoted bytes (judged (or_fault f above floors_here)) line (Some after)
      by (Some f) is =
          noted_on (Some f) is (λ wrong. ap (λ (a : Auditor). a.is_right) (sym same) ∙ wrong) auditor.is_right refl above refl
      by None is =
          let right : auditor.is_right ≡ true = ap (λ (a : Auditor). a.is_right) (sym same) ∙ noted.right is in
          noted_on None is (λ wrong. ap (λ (a : Auditor). a.is_right) (sym same) ∙ wrong) true right above refl

-- ---- what a reader gives

-- with one line more, the lines so far tell the trace that they come to
pub told_next : (bytes : List ℕ) (old new : ReaderParts) (judge : Judge) (count : ℕ) (trace : Option Trace) (said : TraceLine)
    → old.bytes ≡ bytes → HasRead old trace → HasNoted bytes judge count trace → (on : ReadsOn old new trace said)
    → Tells bytes (count + 1) on.longer
told_next bytes old new judge count trace said same read noted on = record {
  valid = on.read.valid on.longer refl;
  counted = one_more trace said on.longer on.grown read.valid (on.read.valid on.longer refl) ∙ ap (λ n. n + 1) noted.counted;
  rest = new.rest;
  text = sym (on.bytes ∙ same) ∙ on.read.text ∙ ap (λ l. l ++ new.rest) (sym (text_is_lines on.longer));
}

-- a text has a line of each number that is counted
pub lines_fit : (bytes : List ℕ) (count : ℕ) (after : Trace) → Tells bytes count after → count ≤ length bytes
lines_fit bytes count after told =
    let text = ap length (told.text ∙ ap (λ l. l ++ told.rest) (text_is_lines after)) in
    let both = length-append (flat_map whole_line (lines_of after)) told.rest in
    let few = lines_few (lines_of after) in
    omega (arith, text, both, few, told.counted)

pub found_text : (bytes : List ℕ) (judge : Judge) (lines : ℕ) (trace : Option Trace) (r : Result (Option Fault) Refusal)
    → IsRead bytes trace → HasNoted bytes judge lines trace
    → IfOk r (λ found. (bytes : List ℕ) (t : Trace) → HasNoted bytes judge lines (Some t) → Tells bytes lines t
    → 0 < length t.finals → IsFound bytes t found)
    → IfOk r (IsJudged bytes)
found_text bytes judge lines trace (Err e) read noted says = tt
found_text bytes judge lines trace (Ok found) read noted says =
    let t = read.whole in
    let noted_so : HasNoted bytes judge lines (Some t) = subst (HasNoted bytes judge lines) read.is noted in
    let rows = read.spelled.valid.whole in
    let some : 0 < t.sizes.rms = leb-true 1 t.sizes.rms (and_parts _ _ (and_parts _ _ read.spelled.limits).1).0 in
    record {
      trace = t;
      spelled = read.spelled;
      verdict = says bytes t noted_so (record {
        valid = read.spelled.valid.begun;
        counted = noted_so.counted;
        rest = [];
        text = read.spelled.text ∙ sym (append-nil (trace_text t));
      }) (omega (arith, rows, some));
    }

-- a judge of the same parts
pub same_judge : (a b : Judge) → a.auditor ≡ b.auditor → a.floors ≡ b.floors → a.fault ≡ b.fault → a ≡ b
same_judge a b auditor floors fault = λ i. record { auditor = auditor i; floors = floors i; fault = fault i }

-- a datagram was heard: of the transaction that is known
pub heard_sent : (known : Option TxParts) (told : ToldSent) (said : TraceLine) (tx : TxParts) → known ≡ Some tx
    → IsHeard known (Heard.Datagram told) said → said ≡ Datagram (sent_of tx told)
heard_sent known told said tx some is = subst (λ (k : Option TxParts). IsHeard k (Heard.Datagram told) said) some is

pub heard_nothing : (known : Option TxParts) (told : ToldSent) (said : TraceLine) → known ≡ None → IsHeard known (Heard.Datagram told) said
    → ⊥
heard_nothing known told said none is = subst (λ (k : Option TxParts). IsHeard k (Heard.Datagram told) said) none is

tx_said : (tx : TxParts) (said : Said) → tx ≡ message_tx (kind_of tx said)
tx_said tx Said.Prepare = refl
tx_said tx said = refl

-- whether it may be sent
pub sent_by : (floors : Floors) (tx : TxParts) (told : ToldSent)
    → not (is_below (floor_before floors told.sender) tx) ≡ is_sent_above (floor_before floors) (sent_of tx told)
sent_by floors tx told = ap (λ (x : TxParts). not (is_below (floor_before floors told.sender) x)) (tx_said tx told.said)
