use Rattle.picture.proofs.Plain.{harmless, referring}
use Rattle.picture.proofs.writing.no_markup.Goals as goal

pub returns-clause-harmless : goal.returns-clause-harmless
returns-clause-harmless c = harmless

pub returns-clause-references : goal.returns-clause-references
returns-clause-references c = referring
