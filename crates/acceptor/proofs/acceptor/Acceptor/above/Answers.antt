use Rattle.std.proofs.Common.{refl, subst, sym}
use Rattle.acceptor.specs.Acceptors.{AcceptorParts, StandsFor}
use Rattle.acceptor.specs.contracts.acceptor.Acceptor.{the_view}
use Rattle.acceptor.proofs.Above.{stands_above}
use Rattle.acceptor.proofs.acceptor.Acceptor.above.Goals as goal

pub returns-clause-ok : goal.returns-clause-ok
returns-clause-ok c = λ config number facts stands.
    stands_above c.args.floor.now (the_view c.self.inside) _ config number facts
    (subst (λ (a : AcceptorParts). StandsFor config number a facts) (sym c.self.view_is) stands) refl refl refl
    c.in_ok-table.ensures.ok.slots_are c.in_ok-table.ensures.ok.begun_are
