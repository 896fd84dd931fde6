use Rattle.std.proofs.Common.{List, ◌∙◌, sym, map}
use Rattle.std.proofs.KnownBytes.{Keeps-refl}
use Rattle.clap.specs.Words.{Text}
use Rattle.udp_edge.proofs.PrintingLemmas.{is_misuse, wants_memory}
use Rattle.udp_edge.proofs.printing.program.Goals as goal

pub returns-in-Err-clause-misused : goal.returns-in-Err-clause-misused
returns-in-Err-clause-misused g c = λ two.
    let words : List Text = map g.S.AsStr.text c.args.words.now in
    let status_is = sym c.reject.ensures.status ∙ two in
    let (misuse, line) = is_misuse words c.in-Err.rejected _ _ status_is c.in-Err.ensures.err c.reject.ensures.line in
    (misuse, Keeps-refl (g.W.Write.contents c.args.out.now), line)

pub returns-in-Err-clause-refused : goal.returns-in-Err-clause-refused
returns-in-Err-clause-refused g c = λ three.
    wants_memory _ c.in-Err.rejected _ _ _ (sym c.reject.ensures.status ∙ three) c.reject.ensures.line
