use Rattle.wire.proofs.OneSpelling.{begins_none}
use Rattle.safety.proofs.WellFormed.Runs.{well_ever, cut_spells_none}
use Rattle.safety.proofs.forms.datagrams_are_messages.Goals as goal

pub returns-clause-messages : goal.returns-clause-messages
returns-clause-messages c config sized world reached = (well_ever config sized world reached).sent

pub returns-clause-apart : goal.returns-clause-apart
returns-clause-apart c config sized world reached d e h k rest begins =
    let sent = (well_ever config sized world reached).sent in begins_none d.message e.message rest (sent d h) (sent e k) begins

pub returns-clause-cut : goal.returns-clause-cut
returns-clause-cut c config sized world reached d h k fewer =
    cut_spells_none d.message k ((well_ever config sized world reached).sent d h) fewer
