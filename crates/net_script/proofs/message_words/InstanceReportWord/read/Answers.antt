use Rattle.net_script.specs.Messages.{report_text}
use Rattle.net_script.specs.Laws.{same_item}
use Rattle.net_script.proofs.Arms.{passes}
use Rattle.net_script.proofs.message_words.InstanceReportWord.read.Goals as goal

pub returns-in_err-report : goal.returns-in_err-report
returns-in_err-report c =
    passes (λ e. e)
    (λ none i fits e.
    none i.report fits.report (same_item i.instance _ (report_text i.report) _ _ fits.instance c.in-Some.ensures.0 e c.in-Some.ensures.1))
    _ _ c.from_residual.ensures.1 c.in_err-report.ensures
