use Rattle.std.proofs.Common.{subst}
use Rattle.std.specs.List.{All, IsDistinct}
use Rattle.xid.specs.Transactions.{IsTx, tx_eq}
use Rattle.transactions.specs.Found.{hint_of, other_of}
use Rattle.transactions.proofs.Index.{found_apart}
use Rattle.transactions.proofs.Keys.{all_valid, seen_distinct}
use Rattle.transactions.proofs.numbers.Transactions.len.Goals as goal

pub returns-clause-distinct : goal.returns-clause-distinct
returns-clause-distinct c =
    subst (IsDistinct tx_eq) c.self.view_is
    (seen_distinct (λ key. key) c.self.inside.spelled c.self.invariant.spelled
    (found_apart (λ key. key) c.self.inside.words c.self.inside.spelled (hint_of c.self.inside.places) (other_of c.self.inside.places)
    c.self.invariant.found))

pub returns-clause-valid : goal.returns-clause-valid
returns-clause-valid c = subst (All IsTx) c.self.view_is (all_valid (λ key. key) c.self.inside.spelled c.self.invariant.spelled)
