use Rattle.std.proofs.Common.{◌∙◌, None, refl, sym}
use Rattle.audit.specs.declared.floors.Floors.{Floors}
use Rattle.audit.proofs.HearingLemmas.{on_ok}
use Rattle.audit.proofs.FloorLemmas.{raised_event, forgotten_event, replaced_event, heard_event, unchanged_so}
use Rattle.audit.proofs.floors.Floors.take_event.Goals as goal

pub returns-else-not-is_done-clause-ok : goal.returns-else-not-is_done-clause-ok
returns-else-not-is_done-clause-ok c =
    on_ok c.raise.result (λ floors told keeps.
    raised_event c.args.self.now c.raise.new.self told c.args.event.now c.args.answer.now c.in-Raise.rm c.in-Raise.floor keeps c.in-Raise.is
    (sym c.is_done.ensures ∙ c.if-not-is_done.false) floors c.raise.ensures.before c.raise.ensures.rest) c.raise.ensures.ok

pub returns-else-not-is_done-2-clause-ok : goal.returns-else-not-is_done-2-clause-ok
returns-else-not-is_done-2-clause-ok c =
    let old = c.args.self.now in
    let mid : Floors = record old { before = None } in
    on_ok c.hear.result (λ does told keeps.
    heard_event old c.hear.new.self told c.args.event.now c.args.answer.now c.in-Hear.number c.in-Hear.is
    (sym c.is_done-in-Hear.ensures ∙ c.if-not-is_done-2.false)
    (does told (unchanged_so old mid told keeps refl refl refl refl).0)) c.hear.ensures.ok

pub returns-else-is_no_such-clause-ok : goal.returns-else-is_no_such-clause-ok
returns-else-is_no_such-clause-ok c = λ told keeps.
    forgotten_event c.args.self.now c.forget.new.self told c.args.event.now c.args.answer.now c.in-Restart.node keeps c.in-Restart.is
    (sym c.is_no_such.ensures ∙ c.if-is_no_such.false) c.forget.ensures.taken c.forget.ensures.rest

pub returns-else-not-is_done-3-clause-ok : goal.returns-else-not-is_done-3-clause-ok
returns-else-not-is_done-3-clause-ok c =
    on_ok c.raise-in-Replace.result (λ floors told keeps.
    replaced_event c.args.self.now c.forget-in-Replace.new.self c.raise-in-Replace.new.self told c.args.event.now c.args.answer.now
    c.in-Replace.node c.in-Replace.floor keeps c.in-Replace.is (sym c.is_done-in-Replace.ensures ∙ c.if-not-is_done-3.false)
    c.forget-in-Replace.ensures.taken c.forget-in-Replace.ensures.rest.1 c.forget-in-Replace.ensures.rest.2 floors
    c.raise-in-Replace.ensures.before c.raise-in-Replace.ensures.rest) c.raise-in-Replace.ensures.ok
