use Rattle.std.proofs.Common.{◌∙◌, ◌≤◌, ℕ, [], get_or, sym, ap, subst}
use Rattle.std.specs.Time.{instant_nanos}
use Rattle.serving.specs.Watching.{turn_end}
use Rattle.serving.proofs.NameLemmas.{end_capped, named_put_off, seen_put_off_if}
use Rattle.serving.proofs.watches.Watches.wait_for.Goals as goal

pub invariant_of-self : goal.invariant_of-self
invariant_of-self c =
    let old = c.args.self.now in
    record {
      turns = c.put_off.ensures.many ∙ old.turns;
      kept = c.put_off.ensures.kept;
      spelled = c.put_off.ensures.spelled;
      named = named_put_off old.watched c.put_off.new.watched old.keys.entries c.args.key c.args.turn c.due_at-due.result
          (get_or old.queues.items c.min-at.result []) c.put_off.result old.named c.requires c.put_off.ensures.ok c.put_off.ensures.err;
    }

pub returns-clause-ok : goal.returns-clause-ok
returns-clause-ok c =
    let old = c.args.self.now in
    seen_put_off_if old.watched c.put_off.new.watched old.keys.entries c.args.key c.args.turn c.min-at.result c.due_at-due.result c.args.now
    old.schedule old.queues.items c.put_off.result old.named c.requires c.min-at.ensures c.due_at-due.ensures.exact c.put_off.ensures.ok

pub returns-clause-on_time : goal.returns-clause-on_time
returns-clause-on_time c = λ on.
    let schedule = c.args.self.now.schedule in
    let same = ap (turn_end schedule c.args.now) c.min-at.ensures ∙ end_capped schedule c.args.now c.args.turn in
    c.put_off.ensures.within (turn_end schedule c.args.now)
    (subst (λ (n : ℕ). instant_nanos c.due_at-due.result ≤ n) (sym same) c.due_at-due.ensures.most) on
