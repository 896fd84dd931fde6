use Rattle.std.proofs.Common.{sym, subst}
use Rattle.ballot.proofs.Next.{IsNext, IsLast, next_answers, last_answers}
use Rattle.ballot.proofs.ballots.next_owned.Goals as goal

pub returns-clause-ok : goal.returns-clause-ok
returns-clause-ok c = subst (IsNext c.args.leaders c.args.leader c.args.last) (sym c.ok_or.ensures.value)
    (next_answers c.args.leaders c.args.leader c.args.last c.checked_add.result c.requires c.checked_add.ensures)

pub returns-clause-err : goal.returns-clause-err
returns-clause-err c = subst (IsLast c.args.leaders c.args.leader c.args.last) (sym c.ok_or.ensures.value)
    (last_answers c.args.leaders c.args.leader c.args.last c.checked_add.result c.requires c.checked_add.ensures)
