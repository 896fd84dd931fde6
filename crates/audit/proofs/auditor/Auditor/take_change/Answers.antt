use Rattle.std.proofs.Common.{refl}
use Rattle.audit.specs.declared.auditor.Auditor.{Auditor}
use Rattle.audit.proofs.HearingLemmas.{change_unheard, change_heard}
use Rattle.audit.proofs.auditor.Auditor.take_change.Goals as goal

pub returns-then-not-self-clause-ok : goal.returns-then-not-self-clause-ok
returns-then-not-self-clause-ok c = λ tables entries finals last none.
    change_unheard c.args.change.now tables entries last none c.args.self.now finals c.if-not-self.true

pub returns-clause-ok : goal.returns-clause-ok
returns-clause-ok c = λ tables entries finals last none.
    let new : Auditor = record {
      tables = c.args.self.now.tables;
      ledger = c.make_change.new.self;
      finals = c.args.self.now.finals;
      is_right = c.in_ok-self.field-0;
    } in
    change_heard c.args.change.now tables entries last none c.args.self.now new c.in_ok-self.field-0 c.if-not-self.false
    c.in_ok-self.ensures.ok refl refl refl finals
