use Rattle.std.proofs.Common.{◌≡◌, ◌∙◌, Some, sym}
use Rattle.audit.specs.FloorBooks.{notice_at}
use Rattle.audit.proofs.HearingLemmas.{on_ok}
use Rattle.audit.proofs.FloorLemmas.{heard_raised, heard_unraised}
use Rattle.audit.proofs.floors.Floors.hear.Goals as goal

pub returns-in-Some-2-clause-ok : goal.returns-in-Some-2-clause-ok
returns-in-Some-2-clause-ok c =
    let found : notice_at c.args.self.now c.args.number ≡ Some c.in-Some.notice =
    sym c.get.ensures.value ∙ sym c.copied.ensures ∙ c.in-Some.is in
    on_ok c.raise.result (λ floors told keeps.
    heard_raised c.args.self.now told keeps c.args.number c.in-Some.notice found c.tell.new.self c.raise.new.self c.in-Some-2.floor
    (sym c.in-Some-2.is ∙ c.in_ok-floor.ensures.least) c.in_ok-floor.ensures.kept c.in_ok-floor.ensures.rest floors c.raise.ensures.before
    c.raise.ensures.rest) c.raise.ensures.ok

pub returns-in-None-clause-ok : goal.returns-in-None-clause-ok
returns-in-None-clause-ok c = λ told keeps.
    let found : notice_at c.args.self.now c.args.number ≡ Some c.in-Some.notice =
    sym c.get.ensures.value ∙ sym c.copied.ensures ∙ c.in-Some.is in
    heard_unraised c.args.self.now told keeps c.args.number c.in-Some.notice found c.tell.new.self
    (sym c.in-None.is ∙ c.in_ok-floor.ensures.least) c.in_ok-floor.ensures.kept c.in_ok-floor.ensures.rest c.requires
