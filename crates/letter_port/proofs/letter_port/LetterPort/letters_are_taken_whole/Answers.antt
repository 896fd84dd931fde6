use Rattle.letter_port.proofs.Runs.{takes_whole}
use Rattle.letter_port.proofs.letter_port.LetterPort.letters_are_taken_whole.Goals as goal

pub returns : goal.returns
returns g c = takes_whole g.P.Port.received
