use Rattle.std.proofs.Common.{◌∙◌, ap, subst}
use Rattle.xid.specs.Transactions.{IsTx, tx_eq}
use Rattle.wire.specs.Grammar.{tx_spelling}
use Rattle.wire.specs.Versions.{version_2}
use Rattle.transactions.proofs.Keys.{position_by_tx, place_of_position}
use Rattle.transactions.proofs.numbers.Transactions.number_of.Goals as goal

pub returns-clause-value : goal.returns-clause-value
returns-clause-value c =
    c.number_of_spelled.ensures.value
    ∙ position_by_tx c.as_bytes.result.now c.args.tx.now c.args.self.now (subst IsTx c.of.ensures c.as_bytes.ensures.valid)
    (c.as_bytes.ensures.value ∙ ap (tx_spelling version_2) c.of.ensures) c.number_of_spelled.ensures.valid

pub returns-clause-place : goal.returns-clause-place
returns-clause-place c =
    place_of_position (tx_eq c.args.tx.now) c.args.self.now c.number_of_spelled.result
    (c.number_of_spelled.ensures.value
    ∙ position_by_tx c.as_bytes.result.now c.args.tx.now c.args.self.now (subst IsTx c.of.ensures c.as_bytes.ensures.valid)
    (c.as_bytes.ensures.value ∙ ap (tx_spelling version_2) c.of.ensures) c.number_of_spelled.ensures.valid)
