use Rattle.std.proofs.Common.{refl, sym, ap, subst, [], arith}
use Rattle.protocol.specs.Facts.{last_ballot}
use Rattle.protocol.specs.LeaderMemory.{nothing_heard}
use Rattle.leader.specs.Courses.{CourseStands}
use Rattle.leader.specs.Places.{CoursesParts, course_in}
use Rattle.leader.proofs.Leading.{fresh_stands}
use Rattle.leader.proofs.leader.Leader.with_hash_key.Goals as goal

pub returns : goal.returns
returns c = λ config acceptors leaders managers bundled. record {
  ballots = record {
    number_is = refl;
    acceptors_are = acceptors;
    leaders_are = leaders;
    managers_are = managers;
    bundled_is = bundled;
    courses_are = λ tx.
        let P : CoursesParts → Type 0 = λ k. CourseStands config.acceptors (last_ballot []) nothing_heard tx (course_in k tx) in
        subst P (sym c.new.ensures) (fresh_stands config.acceptors tx);
    begun_are = λ tx some. absurd (omega (arith, some));
  };
  begun_are = ap (λ k. k.begun) c.new.ensures;
}
