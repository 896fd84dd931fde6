use Rattle.stable_record.proofs.Framed.{tail_stored, nothing_stored, came_on}
use Rattle.stable_record.proofs.laws.entries_are_read_in_turn.Goals as goal

pub returns-clause-first : goal.returns-clause-first
returns-clause-first c = λ bytes rest tail entry entries framed stored. (rest, framed, stored)

pub returns-clause-tail : goal.returns-clause-tail
returns-clause-tail c = λ bytes tail. tail_stored bytes tail

pub returns-clause-none : goal.returns-clause-none
returns-clause-none c = λ bytes none. nothing_stored bytes none

pub returns-clause-later : goal.returns-clause-later
returns-clause-later c = λ bytes rest entry framed damaged all tail stored.
    let more = came_on bytes rest entry framed all tail stored in
    damaged more.0 tail more.1
