use Rattle.std.proofs.Common.{◌≡◌, ◌∙◌, ◌++◌, ◌∷◌, sym, subst, arith, true, decimal}
use Rattle.std.proofs.lemmas.Fmt.{decimal_injective}
use Rattle.xid.specs.Text.{lacks, hex_text}
use Rattle.xid.proofs.Texts.{lacks_not, cut_format, cut_names}
use Rattle.xid.proofs.branch_id.parts_of.Goals as goal

pub returns-in_default : goal.returns-in_default
returns-in_default c = λ x is e. lacks_not 58 (decimal x.format) (hex_text x.gtrid ++ 58 ∷ hex_text x.bqual)
    (subst (λ t. lacks 58 t ≡ true) e c.in_default.ensures)

pub returns-in_default-split_once : goal.returns-in_default-split_once
returns-in_default-split_once c = λ x is e.
    let cut = cut_format x c.args.text.now c.in-Some.format.now c.in-Some.names.now is e c.in-Some.ensures in
    lacks_not 58 (hex_text x.gtrid) (hex_text x.bqual) (subst (λ t. lacks 58 t ≡ true) cut.1 (c.in_default-split_once.ensures))

pub returns-in_default-number : goal.returns-in_default-number
returns-in_default-number c = λ x is e.
    let cut = cut_format x c.args.text.now c.in-Some.format.now c.in-Some.names.now is e c.in-Some.ensures in
    c.in_default-number.ensures x.format (omega (arith, is.format)) cut.0

pub returns-then-format-ge-FORMATS : goal.returns-then-format-ge-FORMATS
returns-then-format-ge-FORMATS c = λ x is e.
    let cut = cut_format x c.args.text.now c.in-Some.format.now c.in-Some.names.now is e c.in-Some.ensures in
    let same = decimal_injective c.in-Some-number.format x.format (omega arith) (omega (arith, is.format))
    (sym c.in-Some-number.ensures ∙ cut.0) in
    omega (arith, is.format)

pub returns-in_default-component : goal.returns-in_default-component
returns-in_default-component c = λ x is e.
    let cut = cut_format x c.args.text.now c.in-Some.format.now c.in-Some.names.now is e c.in-Some.ensures in
    let names = cut_names x c.in-Some.names.now c.in-Some-split_once.gtrid.now c.in-Some-split_once.bqual.now is cut.1
    c.in-Some-split_once.ensures in
    c.in_default-component.ensures x.gtrid is.gtrid names.0

pub returns-in_default-component-2 : goal.returns-in_default-component-2
returns-in_default-component-2 c = λ x is e.
    let cut = cut_format x c.args.text.now c.in-Some.format.now c.in-Some.names.now is e c.in-Some.ensures in
    let names = cut_names x c.in-Some.names.now c.in-Some-split_once.gtrid.now c.in-Some-split_once.bqual.now is cut.1
    c.in-Some-split_once.ensures in
    c.in_default-component-2.ensures x.bqual is.bqual names.1
