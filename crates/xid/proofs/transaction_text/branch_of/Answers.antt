use Rattle.std.proofs.Common.{◌∙◌, sym, arith}
use Rattle.std.proofs.lemmas.Fmt.{decimal_injective}
use Rattle.xid.proofs.TransactionTexts.{cut_branch, branch_same}
use Rattle.xid.proofs.transaction_text.branch_of.Goals as goal

pub returns-in_default-number-clause-text : goal.returns-in_default-number-clause-text
returns-in_default-number-clause-text c = λ b is e.
    let cut = cut_branch b c.args.text.now c.in-Some.rm.now c.in-Some.bqual.now is e c.in-Some.ensures in
    c.in_default-number.ensures b.rm (omega (arith, is.rm)) cut.0

pub returns-then-rm-from-clause-text : goal.returns-then-rm-from-clause-text
returns-then-rm-from-clause-text c = λ b is e.
    let cut = cut_branch b c.args.text.now c.in-Some.rm.now c.in-Some.bqual.now is e c.in-Some.ensures in
    let same = decimal_injective c.in-Some-number.rm b.rm (omega arith) (omega (arith, is.rm)) (sym c.in-Some-number.ensures ∙ cut.0) in
    omega (arith, is.rm)

pub returns-in_default-component-clause-text : goal.returns-in_default-component-clause-text
returns-in_default-component-clause-text c = λ b is e.
    let cut = cut_branch b c.args.text.now c.in-Some.rm.now c.in-Some.bqual.now is e c.in-Some.ensures in
    c.in_default-component.ensures b.bqual is.bqual cut.1

pub returns-clause-same : goal.returns-clause-same
returns-clause-same c = λ b is e.
    let cut = cut_branch b c.args.text.now c.in-Some.rm.now c.in-Some.bqual.now is e c.in-Some.ensures in
    branch_same c.in-Some-number.rm c.in-Some-component.bqual b c.in-Some.rm.now c.in-Some.bqual.now (omega arith)
    c.in-Some-component.ensures.0.bytes is cut c.in-Some-number.ensures c.in-Some-component.ensures.1
