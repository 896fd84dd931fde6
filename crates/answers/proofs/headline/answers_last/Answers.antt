use Rattle.answers.proofs.Decided.{committed_ready, committed_voted, never_aborted, never_committed}
use Rattle.answers.proofs.headline.answers_last.Goals as goal

pub returns-clause-committed : goal.returns-clause-committed
returns-clause-committed c config world reach l tx answered events q named =
    never_aborted config world reach l tx events answered q named

pub returns-clause-ready : goal.returns-clause-ready
returns-clause-ready c config world reach l tx answered events q named =
    committed_ready config world reach l tx events answered q named

pub returns-clause-voted : goal.returns-clause-voted
returns-clause-voted c config world reach l tx answered events q named =
    committed_voted config world reach l tx events answered q named

pub returns-clause-aborted : goal.returns-clause-aborted
returns-clause-aborted c config world reach l tx answered events q named =
    never_committed config world reach l tx events answered q named
