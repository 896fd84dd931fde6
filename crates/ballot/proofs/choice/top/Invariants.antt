use Rattle.std.proofs.Common.{◌≡◌, max, drop}
use Rattle.ballot.specs.Choice.{top_of}
use Rattle.ballot.proofs.choice.top.Given as goal

abbrev pub invariant-loop-report : goal.invariant-loop-report
invariant-loop-report l = max l.top (top_of (drop l.report-index l.reports)) ≡ top_of l.reports
