use Rattle.std.proofs.Common.{ap, subst, sym}
use Rattle.std.specs.List.{IsDistinct}
use Rattle.stable_record.specs.Facts.{fact_tx}
use Rattle.xid.specs.Transactions.{tx_eq}
use Rattle.transactions.proofs.First.{first_once}
use Rattle.resource_manager.proofs.Above.{manager_stands}
use Rattle.resource_manager.proofs.manager.ResourceManager.above.Goals as goal

pub returns-clause-ok : goal.returns-clause-ok
returns-clause-ok c config next number facts branches stands free sizes begins =
    manager_stands c.args.floor.now config next number c.args.self _ facts branches stands free
    (c.in_ok-courses.ensures.ok (subst (IsDistinct tx_eq) (sym stands.begun_are) (first_once fact_tx facts))) begins
    (ap (λ m. m.number) c.self.view_is) (ap (λ m. m.managers) c.self.view_is) sizes (ap (λ m. m.table) c.self.view_is)
