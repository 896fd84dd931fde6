use Rattle.std.specs.declared.time.Instant.{Instant}
use Rattle.serving.specs.Watching.{turn_end}
use Rattle.serving.proofs.NameLemmas.{named_next, seen_next}
use Rattle.serving.proofs.watches.Watches.next_due.Goals as goal

pub invariant_of-self : goal.invariant_of-self
invariant_of-self c =
    let old = c.args.self.now in
    record {
      turns = c.take_first.ensures.turns;
      kept = c.take_first.ensures.kept;
      spelled = c.take_first.ensures.spelled;
      named = named_next old.watched c.take_first.new.watched old.keys.entries c.args.now c.take_first.result old.named
          c.take_first.ensures.none c.take_first.ensures.some;
    }

pub returns-clause-some : goal.returns-clause-some
returns-clause-some c =
    let old = c.args.self.now in
    seen_next old.watched c.take_first.new.watched old.keys.entries c.args.now c.take_first.result old.named old.spelled
    c.take_first.ensures.some

pub returns-clause-on_time : goal.returns-clause-on_time
returns-clause-on_time c = λ (time : Instant) on. c.take_first.ensures.within (turn_end c.args.self.now.schedule time) on
