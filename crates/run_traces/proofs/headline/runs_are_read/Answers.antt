use Rattle.run_traces.proofs.Reading.{never_refused, one_spelled, reads}
use Rattle.run_traces.proofs.headline.runs_are_read.Goals as goal

pub returns-clause-reads : goal.returns-clause-reads
returns-clause-reads c bytes output run numbers = reads bytes output run numbers

pub returns-clause-only : goal.returns-clause-only
returns-clause-only c bytes output run numbers trace spelled =
    one_spelled output trace run.is.trace spelled (reads bytes output run numbers)

pub returns-clause-refuses : goal.returns-clause-refuses
returns-clause-refuses c bytes output run numbers e refused =
    never_refused output run.is.trace (reads bytes output run numbers) e refused
