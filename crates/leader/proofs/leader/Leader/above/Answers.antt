use Rattle.std.proofs.Common.{refl, subst, sym}
use Rattle.leader.specs.Leaders.{LeaderParts, StandsFor}
use Rattle.leader.specs.contracts.leader.Leader.{the_view}
use Rattle.leader.proofs.Above.{leader_left}
use Rattle.leader.proofs.leader.Leader.above.Goals as goal

pub returns-clause-ok : goal.returns-clause-ok
returns-clause-ok c = λ config number stored memory stands.
    leader_left c.args.floor.now (the_view c.self.inside) _ c.in_ok-courses.ensures.ok config number stored memory
    (subst (λ (l : LeaderParts). StandsFor config number l stored memory) (sym c.self.view_is) stands) refl refl refl refl refl
