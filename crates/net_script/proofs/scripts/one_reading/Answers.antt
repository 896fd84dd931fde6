use Rattle.net_script.specs.Lines.{lines}
use Rattle.net_script.proofs.LawLemmas.{one_script, spelled_has_no_fault, one_fault}
use Rattle.net_script.proofs.scripts.one_reading.Goals as goal

pub returns-clause-one : goal.returns-clause-one
returns-clause-one c = λ bytes s t p q. one_script (lines bytes) s t p q

pub returns-clause-apart : goal.returns-clause-apart
returns-clause-apart c = λ bytes s line p q. spelled_has_no_fault (lines bytes) s line p q

pub returns-clause-first : goal.returns-clause-first
returns-clause-first c = λ bytes line other p q. one_fault (lines bytes) line other p q
