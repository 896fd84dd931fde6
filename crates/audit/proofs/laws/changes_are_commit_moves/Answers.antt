use Rattle.audit.proofs.CommitLemmas.{a_move_is_named, a_move_is_one, one_is_a_move}
use Rattle.audit.proofs.laws.changes_are_commit_moves.Goals as goal

pub returns-clause-named : goal.returns-clause-named
returns-clause-named c = a_move_is_named

pub returns-clause-moves : goal.returns-clause-moves
returns-clause-moves c = a_move_is_one

pub returns-clause-taken : goal.returns-clause-taken
returns-clause-taken c = one_is_a_move
