use Rattle.run_traces.proofs.Audits.{judged, judged_only}
use Rattle.run_traces.proofs.headline.runs_are_consistent.Goals as goal

pub returns-clause-consistent : goal.returns-clause-consistent
returns-clause-consistent c bytes output run numbers =
    judged c.machine_traces_are_consistent.ensures bytes output run numbers

pub returns-clause-only : goal.returns-clause-only
returns-clause-only c bytes output run numbers found is =
    judged_only c.machine_traces_are_consistent.ensures bytes output run numbers found is
