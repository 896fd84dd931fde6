use Rattle.std.proofs.Common.{◌∙◌, sym, ap, subst}
use Rattle.xid.specs.Transactions.{IsTx}
use Rattle.wire.specs.Grammar.{tx_spelling}
use Rattle.wire.specs.Versions.{version_2}
use Rattle.transactions.proofs.Keys.{position_by_tx, seen_before, not_seen, with_absent}
use Rattle.transactions.proofs.numbers.Transactions.add.Goals as goal

pub returns-in-Some-clause-ok : goal.returns-in-Some-clause-ok
returns-in-Some-clause-ok c =
    seen_before c.args.self.now c.args.tx.now c.in-Some.number
    (sym c.in-Some.is ∙ c.number_of_spelled.ensures.value
    ∙ position_by_tx c.as_bytes.result.now c.args.tx.now c.args.self.now (subst IsTx c.of-view.ensures c.as_bytes.ensures.valid)
    (c.as_bytes.ensures.value ∙ ap (tx_spelling version_2) c.of-view.ensures) c.number_of_spelled.ensures.valid)

pub returns-in-None-clause-err : goal.returns-in-None-clause-err
returns-in-None-clause-err c =
    with_absent c.args.self.now c.insert_view.new.self c.args.tx.now c.insert_view.result
    (not_seen c.args.self.now c.args.tx.now
    (sym c.in-None.is ∙ c.number_of_spelled.ensures.value
    ∙ position_by_tx c.as_bytes.result.now c.args.tx.now c.args.self.now (subst IsTx c.of-view.ensures c.as_bytes.ensures.valid)
    (c.as_bytes.ensures.value ∙ ap (tx_spelling version_2) c.of-view.ensures) c.number_of_spelled.ensures.valid))
    c.insert_view.ensures.err
