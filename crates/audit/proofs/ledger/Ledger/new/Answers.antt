use Rattle.std.proofs.Common.{ap}
use Rattle.audit.specs.Books.{stretch_of}
use Rattle.audit.proofs.ledger.Ledger.new.Goals as goal

pub returns-clause-ok : goal.returns-clause-ok
returns-clause-ok c = record {
  tables = c.in_ok-tables.ensures.ok;
  branches = λ rm x. ap (λ bs. stretch_of bs rm x) c.new-branches.ensures;
  views = c.new-views.ensures;
  firsts = c.with_hash_key-firsts.ensures;
}
