use Rattle.std.proofs.Common.{◌∙◌, sym, arith}
use Rattle.std.proofs.lemmas.Fmt.{decimal_injective}
use Rattle.xid.proofs.TransactionTexts.{cut_tx, cut_gtrid, has_slash, hex_same}
use Rattle.xid.proofs.transaction_text.tx_of.Goals as goal

pub returns-in_default-split_once : goal.returns-in_default-split_once
returns-in_default-split_once c = λ tx is e.
    let cut = cut_tx tx c.args.text.now c.in-Some.format.now c.in-Some.rest.now is e c.in-Some.ensures in
    has_slash tx c.in-Some.rest.now cut.1 c.in_default-split_once.ensures

pub returns-in_default-number : goal.returns-in_default-number
returns-in_default-number c = λ tx is e.
    let cut = cut_tx tx c.args.text.now c.in-Some.format.now c.in-Some.rest.now is e c.in-Some.ensures in
    c.in_default-number.ensures tx.format (omega (arith, is.format)) cut.0

pub returns-in_default-component : goal.returns-in_default-component
returns-in_default-component c = λ tx is e.
    let cut = cut_tx tx c.args.text.now c.in-Some.format.now c.in-Some.rest.now is e c.in-Some.ensures in
    let names = cut_gtrid tx c.in-Some.rest.now c.in-Some-split_once.gtrid.now c.in-Some-split_once.branches.now is cut.1
    c.in-Some-split_once.ensures in
    c.in_default-component.ensures tx.gtrid is.gtrid names.0

pub returns-in_default-branches_of : goal.returns-in_default-branches_of
returns-in_default-branches_of c = λ tx is e.
    let cut = cut_tx tx c.args.text.now c.in-Some.format.now c.in-Some.rest.now is e c.in-Some.ensures in
    let names = cut_gtrid tx c.in-Some.rest.now c.in-Some-split_once.gtrid.now c.in-Some-split_once.branches.now is cut.1
    c.in-Some-split_once.ensures in
    c.in_default-branches_of.ensures.text tx.branches is.branches names.1

pub returns-in_default-from_branches : goal.returns-in_default-from_branches
returns-in_default-from_branches c = λ tx is e.
    let cut = cut_tx tx c.args.text.now c.in-Some.format.now c.in-Some.rest.now is e c.in-Some.ensures in
    let names = cut_gtrid tx c.in-Some.rest.now c.in-Some-split_once.gtrid.now c.in-Some-split_once.branches.now is cut.1
    c.in-Some-split_once.ensures in
    let format = decimal_injective c.in-Some-number.format tx.format (omega arith) (omega (arith, is.format))
    (sym c.in-Some-number.ensures ∙ cut.0) in
    let gtrid = hex_same c.in-Some-component.gtrid tx.gtrid c.in-Some-component.ensures.0.bytes is.gtrid.bytes
    (sym c.in-Some-component.ensures.1 ∙ names.0) in
    let branches = c.in-Some-branches_of.ensures.same tx.branches is.branches names.1 in
    c.in_default-from_branches.ensures.err.1 (rw (c.as_bytes.ensures.bytes, format, gtrid, branches) is)
