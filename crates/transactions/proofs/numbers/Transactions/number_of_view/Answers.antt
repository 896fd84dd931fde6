use Rattle.std.proofs.Common.{◌∙◌, refl}
use Rattle.xid.specs.Transactions.{tx_eq}
use Rattle.transactions.proofs.Keys.{position_by_tx, place_of_position, place_of_spelling}
use Rattle.transactions.proofs.numbers.Transactions.number_of_view.Goals as goal

pub returns-then-is_at : goal.returns-then-is_at
returns-then-is_at c =
    let told = c.if-is_at.ensures.place refl in
    let place = place_of_spelling c.as_bytes-spelled.result.now c.args.tx.now c.args.self.now c.as_bytes-spelled.ensures.valid
    c.as_bytes-spelled.ensures.value c.is_at.ensures.valid in
    (told.0 ∙ place, told.1)

pub returns-then-is_at-2 : goal.returns-then-is_at-2
returns-then-is_at-2 c =
    let told = c.if-is_at-2.ensures.place refl in
    let place = place_of_spelling c.as_bytes-spelled.result.now c.args.tx.now c.args.self.now c.as_bytes-spelled.ensures.valid
    c.as_bytes-spelled.ensures.value c.is_at-2.ensures.valid in
    (told.0 ∙ place, told.1)

pub returns : goal.returns
returns c =
    place_of_position (tx_eq c.args.tx.now) c.args.self.now c.number_of_spelled.result
    (c.number_of_spelled.ensures.value
    ∙ position_by_tx c.as_bytes-spelled.result.now c.args.tx.now c.args.self.now c.as_bytes-spelled.ensures.valid
    c.as_bytes-spelled.ensures.value
    c.number_of_spelled.ensures.valid)
