use Rattle.protocol.specs.Worlds.{opening, world_after}
use Rattle.history.specs.Lines.{history}
use Rattle.history.proofs.Runs.{run_is, facts_are_lines}
use Rattle.history.proofs.Laws as laws
use Rattle.history.proofs.lines.facts_are_now_lines.Goals as goal

pub returns-clause-lines : goal.returns-clause-lines
returns-clause-lines c = facts_are_lines

pub returns-clause-views : goal.returns-clause-views
returns-clause-views c config events rm =
    laws.views_back config (world_after config (opening config) events) (history config events) rm (run_is config events)

pub returns-clause-spent : goal.returns-clause-spent
returns-clause-spent c config events rm =
    laws.spent_back config (world_after config (opening config) events) (history config events) rm (run_is config events)
