use Rattle.floors.proofs.Refusing.{start_refused, call_refused, request_refused, below_silent}
use Rattle.floors.proofs.headline.below_is_refused.Goals as goal

pub returns-clause-start : goal.returns-clause-start
returns-clause-start c = start_refused

pub returns-clause-call : goal.returns-clause-call
returns-clause-call c = call_refused

pub returns-clause-request : goal.returns-clause-request
returns-clause-request c = request_refused

pub returns-clause-silent : goal.returns-clause-silent
returns-clause-silent c = below_silent
