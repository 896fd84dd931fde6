use Rattle.std.proofs.Common.{◌≡◌, sym, ◌∙◌, ap, subst, List, ℕ, Option}
use Rattle.net_script.specs.Writing.{TriesToAppend}
use Rattle.net_script.proofs.WritingLemmas.{tries_to_append}
use Rattle.udp_edge.specs.Printing.{rejection_line}
use Rattle.udp_edge.proofs.printing.reject.Goals as goal

pub returns-in-Usage-clause-line : goal.returns-in-Usage-clause-line
returns-in-Usage-clause-line g c =
    let line_is : c.as_bytes.result.now ≡ rejection_line c.args.rejected =
    c.as_bytes.ensures.value ∙ sym (ap rejection_line c.in-Usage.is) in
    let old : Option (List ℕ) = g.E.Write.contents c.args.err.now in
    let new : Option (List ℕ) = g.E.Write.contents c.write_text.new.out in
    subst (λ (line : List ℕ). TriesToAppend old new line) line_is
    (tries_to_append old new c.write_text.result c.as_bytes.result.now c.write_text.ensures)
