use Rattle.cluster_run.proofs.Safe.{safe_ever}
use Rattle.cluster_run.proofs.Traces.{looks_back, is_serial}
use Rattle.cluster_run.proofs.laws.traces_look_back.Goals as goal

pub returns-clause-back : goal.returns-clause-back
returns-clause-back c script happened trace is = looks_back script happened trace is

pub returns-clause-safe : goal.returns-clause-safe
returns-clause-safe c config happened = safe_ever config happened

pub returns-clause-serial : goal.returns-clause-serial
returns-clause-serial c script happened trace is = is_serial script happened trace is
