use Rattle.std.proofs.Common.{◌∙◌, sym}
use Rattle.floored.proofs.Passing.{above_name, below_name, cut_is_below}
use Rattle.floored.proofs.below.is_datagram_below.Goals as goal

pub returns-then-not-is_name_below : goal.returns-then-not-is_name_below
returns-then-not-is_name_below c =
    let place = c.args.floor.now in
    let bytes = c.args.bytes.now in
    sym (above_name place bytes (sym (cut_is_below place bytes) ∙ sym c.is_name_below.ensures ∙ c.if-not-is_name_below.true))

pub returns : goal.returns
returns c =
    let place = c.args.floor.now in
    let bytes = c.args.bytes.now in
    c.is_message.ensures
    ∙ sym (below_name place bytes (sym (cut_is_below place bytes) ∙ sym c.is_name_below.ensures ∙ c.if-not-is_name_below.false))
