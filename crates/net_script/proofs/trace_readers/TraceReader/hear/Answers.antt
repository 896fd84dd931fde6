use Rattle.std.proofs.Common.{◌≡◌, ◌∙◌, ◌+◌, ◌<◌, ℕ, List, Result, length, refl, sym, subst, arith, rules, Option, Some, Ok, Err, inl}
use Rattle.std.proofs.lemmas.Bool.Decides.{nat_tests}
use Rattle.net_script.specs.Basics.{Stop, Refusal, TxParts, BadScript}
use Rattle.net_script.specs.Spelling.{at_line}
use Rattle.net_script.specs.declared.said.Heard.{Heard}
use Rattle.net_script.specs.TraceReading.{RefusesTrace}
use Rattle.net_script.specs.TraceReaders.{ReaderParts, HasRead, ReadsOn, Follows, as_line}
use Rattle.net_script.specs.Telling.{HearsText, IsWhole}
use Rattle.net_script.proofs.Arms.{at_line_ok, refused_at}
use Rattle.net_script.proofs.TraceLineLemmas.{heard_whole}
use Rattle.net_script.proofs.ReaderLemmas.{unended_line, unread_line, unfit_line, fit_line, heard_follows}
use Rattle.net_script.proofs.trace_readers.TraceReader.hear.Goals as goal

pub returns-in_default-clause-next : goal.returns-in_default-clause-next
returns-in_default-clause-next c = λ trace read.
    let some : 0 < length c.self.inside.rest.now = grind (arith, nat_tests) in
    subst (λ r. RefusesTrace r.bytes (BadScript (c.self.inside.number + 1))) c.self.view_is
    (unended_line (subst (λ r. HasRead r trace) (sym c.self.view_is) read) some c.in_default.ensures)

-- what was heard, where the line was not refused
heard_of : (line : ℕ) (known : Option TxParts) (text : List ℕ) (r : Result Heard Stop) (got : Result Heard Refusal) (heard : Heard)
    → got ≡ at_line line r → got ≡ Ok heard → HearsText known text r → HearsText known text (Ok heard)
heard_of line known text r got heard is ok says =
    subst (HearsText known text) (at_line_ok line r heard (sym is ∙ ok)) says

pub returns-in_err-heard-clause-next : goal.returns-in_err-heard-clause-next
returns-in_err-heard-clause-next c = λ trace read.
    let refused : c.from_residual-in_err-heard.result ≡ Err c.in_err-heard.field-0.0 = search rules in
    rw refused (subst (λ r. RefusesTrace r.bytes c.in_err-heard.field-0.0) c.self.view_is
    (refused_at (c.self.inside.number + 1) c.hear_line.result _ (RefusesTrace c.self.inside.bytes.now)
    (sym c.at_line.ensures ∙ c.in_err-heard.was) (inl refl)
    (λ wrong. unread_line c.in-Some.text.now c.in-Some.after.now (subst (λ r. HasRead r trace) (sym c.self.view_is) read) c.in-Some.ensures
    (subst (HearsText c.hear_line.new.known c.in-Some.text.now) wrong c.hear_line.ensures))))

pub returns-in_err-at_line-clause-next : goal.returns-in_err-at_line-clause-next
returns-in_err-at_line-clause-next c = λ trace read.
    let refused : c.from_residual-in_err-at_line.result ≡ Err c.in_err-at_line.field-0.0 = search rules in
    let got =
    heard_of _ c.hear_line.new.known c.in-Some.text.now c.hear_line.result c.at_line.result c.in_ok-heard.heard c.at_line.ensures
    c.in_ok-heard.was c.hear_line.ensures in
    rw refused (subst (λ r. RefusesTrace r.bytes c.in_err-at_line.field-0.0) c.self.view_is
    (refused_at (c.self.inside.number + 1) c.follow.result _ (RefusesTrace c.self.inside.bytes.now)
    (sym c.at_line-2.ensures ∙ c.in_err-at_line.was) (inl refl)
    (λ wrong. unfit_line c.in-Some.text.now c.in-Some.after.now got.0 (subst (λ r. HasRead r trace) (sym c.self.view_is) read)
    c.in-Some.ensures got.2 got.3
    (heard_follows c.hear_line.new.known c.in_ok-heard.heard got.0 c.self.inside.so_far got.1
    ∙ subst (Follows c.self.inside.so_far c.follow.new.so_far (as_line c.in_ok-heard.heard)) wrong c.follow.ensures))))

pub returns-clause-next : goal.returns-clause-next
returns-clause-next c = λ trace read.
    let got =
    heard_of _ c.hear_line.new.known c.in-Some.text.now c.hear_line.result c.at_line.result c.in_ok-heard.heard c.at_line.ensures
    c.in_ok-heard.was c.hear_line.ensures in
    let follows =
    subst (Follows c.self.inside.so_far c.follow.new.so_far (as_line c.in_ok-heard.heard))
    (at_line_ok _ _ _ (sym c.at_line-2.ensures ∙ c.in_ok-at_line.was)) c.follow.ensures in
    let new : ReaderParts = record {
      bytes = c.self.inside.bytes.now;
      rest = c.in-Some.after.now;
      number = c.self.inside.number + 1;
      known = c.hear_line.new.known;
      so_far = c.follow.new.so_far;
    } in
    let same = heard_follows c.hear_line.new.known c.in_ok-heard.heard got.0 c.self.inside.so_far got.1 in (
      got.0,
      got.1,
      subst (λ r. ReadsOn r new trace got.0) c.self.view_is
          (fit_line c.in-Some.text.now got.0 (subst (λ r. HasRead r trace) (sym c.self.view_is) read) c.in-Some.ensures got.2 got.3
          (follows.0, follows.1, same ∙ follows.2) refl refl),
    )

pub returns-clause-whole : goal.returns-clause-whole
returns-clause-whole c = λ heard e.
    let got =
    heard_of _ c.hear_line.new.known c.in-Some.text.now c.hear_line.result c.at_line.result c.in_ok-heard.heard c.at_line.ensures
    c.in_ok-heard.was c.hear_line.ensures in
    same c.hear_line.new.known c.in_ok-heard.heard heard e (heard_whole c.hear_line.new.known c.in-Some.text.now c.in_ok-heard.heard got)
  where
    same : (known : Option TxParts) (a b : Heard) → Some a ≡ Some b → IsWhole known a → IsWhole known b
    same known a b e is =
        let these : a ≡ b = cc in
        subst (IsWhole known) these is
