use Rattle.std.proofs.Common.{◌∙◌, refl, sym, arith}
use Rattle.leader.specs.contracts.leader.Leader.{the_view}
use Rattle.leader.proofs.Storing.{played, too_low}
use Rattle.leader.proofs.leader.Leader.play_ballot.Goals as goal

pub returns : goal.returns
returns c = λ config number memory.
    played config number memory (the_view c.self.inside) c.args.self.now c.store.new.self c.args.tx.now c.args.ballot
    _ c.store.result c.self.view_is refl
    (omega (arith, c.if-ballot-greatest_at.false, c.greatest_at.ensures))
    (sym c.owner.ensures.value ∙ c.if-owner-self.false) c.store.ensures.now
    c.store.ensures.err c.store.ensures.kept c.store.ensures.absent

pub returns-then-ballot-greatest_at : goal.returns-then-ballot-greatest_at
returns-then-ballot-greatest_at c = λ config number memory.
    too_low config number memory (the_view c.self.inside) c.args.self.now c.args.tx.now c.args.ballot _
    c.self.view_is refl
    (omega (arith, c.if-ballot-greatest_at.true, c.greatest_at.ensures))
