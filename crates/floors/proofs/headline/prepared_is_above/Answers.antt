use Rattle.floors.proofs.Above.{others_are_below, above_ever}
use Rattle.floors.proofs.headline.prepared_is_above.Goals as goal

pub returns-clause-others : goal.returns-clause-others
returns-clause-others c = others_are_below

pub returns-clause-least : goal.returns-clause-least
returns-clause-least c config world reach = (above_ever config world reach).least

pub returns-clause-noticed : goal.returns-clause-noticed
returns-clause-noticed c config world reach = (above_ever config world reach).noticed

pub returns-clause-told : goal.returns-clause-told
returns-clause-told c config world reach = (above_ever config world reach).told
