use Rattle.std.proofs.Common.{◌∙◌, ap, subst}
use Rattle.std.specs.List.{All}
use Rattle.std.specs.Prelude.{position}
use Rattle.std.specs.Str.{bytes_eq}
use Rattle.xid.specs.Transactions.{IsTx}
use Rattle.wire.specs.Grammar.{tx_spelling}
use Rattle.wire.specs.Versions.{version_2}
use Rattle.transactions.specs.Found.{hint_of, other_of}
use Rattle.transactions.proofs.Index.{found_first, settled}
use Rattle.transactions.proofs.Keys.{all_valid, place_by_bytes}
use Rattle.transactions.proofs.numbers.Transactions.number_of_spelled.Goals as goal

pub returns-clause-value : goal.returns-clause-value
returns-clause-value c =
    settled (λ key. key) c.self.inside.words c.self.inside.spelled (hint_of c.self.inside.places) (other_of c.self.inside.places)
    c.self.invariant.found c.args.spelled.now c.hash_of.result c.find.result c.hash_of.ensures c.find.ensures
    ∙ found_first (λ key. key) c.self.inside.words c.self.inside.spelled (hint_of c.self.inside.places) (other_of c.self.inside.places)
    c.self.invariant.found c.args.spelled.now
    ∙ place_by_bytes (λ key. key) c.args.spelled.now c.self.inside.spelled c.self.invariant.spelled
    ∙ ap (position (λ tx. bytes_eq c.args.spelled.now (tx_spelling version_2 tx))) c.self.view_is

pub returns-clause-valid : goal.returns-clause-valid
returns-clause-valid c = subst (All IsTx) c.self.view_is (all_valid (λ key. key) c.self.inside.spelled c.self.invariant.spelled)
