use Rattle.std.proofs.Common.{◌∙◌, Some, refl, sym, ap, subst}
use Rattle.audit.specs.Noting.{or_fault, HasNoted}
use Rattle.audit.specs.declared.faults.Question.{Question}
use Rattle.audit.specs.declared.judge.Judge.{Judge}
use Rattle.audit.proofs.NotedLemmas.{same_judge, noted_on}
use Rattle.audit.proofs.judge.Judge.take.Goals as goal

pub returns-clause-ok : goal.returns-clause-ok
returns-clause-ok c = λ bytes count before after noted e next told.
    let old = c.args.self.now in
    let line = c.args.line in
    let above = c.in_ok-above.above in
    let right = c.take.new.self.is_right in
    let both = c.in_ok-above.ensures.ok before after noted.floors e in
    let fault =
    c.note-2.ensures.fault
    ∙ ap (λ f. or_fault f above (record { question = Question.Floors; line = line }))
    (c.note.ensures.fault ∙ ap (λ q. or_fault old.fault right (record { question = q; line = line })) c.question_of-question.ensures) in
    subst (λ (j : Judge). HasNoted bytes j line (Some after))
    (same_judge _ c.note-2.new.self (sym (c.note-2.ensures.rest.0 ∙ c.note.ensures.rest.0))
    (sym (c.note-2.ensures.rest.1 ∙ c.note.ensures.rest.1)) (sym fault))
    (noted_on bytes old count line before c.args.said after noted e next told c.take.new.self
    (c.in_ok-take.ensures.ok before after noted.heard e) c.take_line.new.self both.0 above both.1 old.fault refl c.in_ok-take.ensures.wrong
    right refl above refl)
