use Rattle.std.proofs.Common.{◌∙◌, [], get_or, ap}
use Rattle.audit.proofs.ListLemmas.{none_among}
use Rattle.audit.proofs.tables.Tables.empty.Goals as goal

pub returns-clause-ok : goal.returns-clause-ok
returns-clause-ok c = λ rm. ap (λ tables. get_or tables rm []) c.loop-rm.invariant ∙ none_among c.loop-rm._rm rm
