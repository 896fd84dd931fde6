use Rattle.std.proofs.Common.{◌∙◌, ap}
use Rattle.safety.specs.Vocabulary.{R, Ask}
use Rattle.protocol.specs.Worlds.{StepResult}
use Rattle.history.proofs.Answering.{answered_ever}
use Rattle.history.proofs.Laws as laws
use Rattle.floors.proofs.Steps.{same_event}
use Rattle.floored_history.specs.Histories.{floored_history}
use Rattle.floored_history.proofs.Steps.{floored_run}
use Rattle.floored_history.proofs.headline.answers_look_back.Goals as goal

pub returns-clause-up : goal.returns-clause-up
returns-clause-up c config world reach rm node stands up request fault ample alone =
    ap (λ (result : StepResult). result.answer) (same_event config world (Ask (R rm) request) fault alone)
    ∙ laws.answers_back config world.machine (floored_history config world reach) rm (floored_run config world reach) node stands up request
    fault ample

pub returns-clause-each : goal.returns-clause-each
returns-clause-each c config world reach =
    answered_ever config world.machine (floored_history config world reach) (floored_run config world reach)
