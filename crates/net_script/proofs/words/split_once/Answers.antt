use Rattle.std.proofs.Common.{subst}
use Rattle.memchr.specs.Find.{IsFirstByte, is_byte}
use Rattle.net_script.proofs.WordLemmas.{marked_at, unmarked}
use Rattle.net_script.proofs.words.split_once.Goals as goal

pub returns-in_default : goal.returns-in_default
returns-in_default c =
    unmarked c.args.mark c.args.text.now
    (subst (λ r. IsFirstByte (is_byte c.args.mark) c.args.text.now r) c.in_default.is c.memchr.ensures)

pub returns : goal.returns
returns c =
    marked_at c.args.mark c.args.text.now c.in-Some.at
    (subst (λ r. IsFirstByte (is_byte c.args.mark) c.args.text.now r) c.in-Some.is c.memchr.ensures)
