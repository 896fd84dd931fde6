use Rattle.floored_groups.proofs.Upkept.{armed_on, asked_on}
use Rattle.floored_groups.proofs.Views.{table_is, view_is}
use Rattle.floored_groups.proofs.members.processes_are_asked.Goals as goal

pub returns-clause-viewed : goal.returns-clause-viewed
returns-clause-viewed c config world reach who tx old new result s answers =
    asked_on config world reach who old new s _ result (answers.machine config s.state s.is) answers.told_is

pub returns-clause-tabled : goal.returns-clause-tabled
returns-clause-tabled c config world reach who old new result s answers =
    asked_on config world reach who old new s _ result (answers.machine config s.state s.is) answers.told_is

pub returns-clause-armed : goal.returns-clause-armed
returns-clause-armed c config world reach who n old new s arms = armed_on config world reach who old new s n arms

pub returns-clause-view_is : goal.returns-clause-view_is
returns-clause-view_is c config world rm tx old new view s answers = view_is config world rm old new s tx view answers

pub returns-clause-table_is : goal.returns-clause-table_is
returns-clause-table_is c config world rm old new rows s answers = table_is config world rm old new s rows answers
