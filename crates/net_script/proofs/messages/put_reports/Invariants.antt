use Rattle.std.proofs.Common.{◌≡◌, ◌++◌, take, map}
use Rattle.net_script.specs.Messages.{report_item_text}
use Rattle.net_script.specs.Traces.{spaced_words}
use Rattle.net_script.proofs.messages.put_reports.Given as goal

abbrev pub invariant-loop-item : goal.invariant-loop-item
invariant-loop-item l = l.out.items ≡ l.fn.out.items ++ spaced_words (map report_item_text (take l.item-index l.reports))
