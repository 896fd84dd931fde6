use Rattle.std.proofs.Common.{refl}
use Rattle.audit.specs.declared.auditor.Auditor.{Auditor}
use Rattle.audit.proofs.HearingLemmas.{table_heard}
use Rattle.audit.proofs.auditor.Auditor.take_table.Goals as goal

pub returns-clause-ok : goal.returns-clause-ok
returns-clause-ok c = λ tables.
    let new : Auditor = record {
      tables = c.push.new.self;
      ledger = c.take_table.new.self;
      finals = c.args.self.now.finals;
      is_right = c.args.self.now.is_right;
    } in
    table_heard c.args.self.now new c.args.table tables (c.in_ok-take_table.ensures.ok tables) c.in_ok-push.ensures.items refl refl
