use Rattle.std.proofs.Common.{arith}
use Rattle.std.proofs.lemmas.Bool.Decides.{nat_tests}
use Rattle.net_script.proofs.WordLemmas.{last_piece, marked_piece}
use Rattle.net_script.proofs.words.next_piece.Goals as goal

pub returns-in_default : goal.returns-in_default
returns-in_default c = last_piece c.args.mark c.args.text.now (grind (arith, nat_tests)) c.in_default.ensures

pub returns : goal.returns
returns c = marked_piece c.args.mark c.args.text.now c.in-Some.piece.now c.in-Some.rest.now c.in-Some.ensures
