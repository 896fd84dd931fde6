use Rattle.std.proofs.Common.{◌∙◌, sym}
use Rattle.net_script.specs.Scripts.{items_so_far, ReadsLine}
use Rattle.net_script.proofs.Arms.{passes_on}
use Rattle.net_script.proofs.ScriptLemmas.{reads_item}
use Rattle.net_script.proofs.scripts.read_line.Goals as goal

pub returns-in_err-item : goal.returns-in_err-item
returns-in_err-item c =
    passes_on (ReadsLine (items_so_far c.args.script) c.args.line.now) (λ e. tt)
    (λ none item is says later s valid e. none item is (sym c.in-Some.ensures.cut ∙ says.1)) _ _ c.from_residual.ensures.1
    c.in_err-item.ensures

pub returns : goal.returns
returns c =
    let item = c.in_ok-item.ensures in
    reads_item c.args.script c.args.line.now c.in_ok-item.item c.requires.valid item.0
    (sym c.has_plain_bytes.ensures ∙ c.if-not-has_plain_bytes.false, c.in-Some.ensures.cut ∙ item.1) _ c.with_item.ensures
