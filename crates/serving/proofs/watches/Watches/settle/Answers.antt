use Rattle.std.proofs.Common.{None, refl, sym}
use Rattle.wire.specs.Grammar.{tx_spelling}
use Rattle.wire.specs.Versions.{version_2}
use Rattle.serving.specs.declared.watched.Watch.{Watch}
use Rattle.serving.proofs.NameLemmas.{keys_after, named_gone, seen_gone}
use Rattle.serving.proofs.WatchLemmas.{kept_at, spelled_at}
use Rattle.serving.proofs.watches.Watches.settle.Goals as goal

pub invariant_of-self : goal.invariant_of-self
invariant_of-self c =
    let old = c.args.self.now in
    let spelled = c.spell-spelled.result.now in
    let key = c.in-Some.key in
    let fewer = c.swap_remove.new.self.entries in
    let updates = c.try_remove.ensures.updates in
    let gone = c.swap_remove.ensures.updates in
    record {
      turns = old.turns;
      kept = kept_at old.watched c.try_remove.new.self old.queues.items key None updates refl old.kept;
      spelled = spelled_at old.watched c.try_remove.new.self key None updates (λ (watch : Watch) e. absurd (cc (e))) old.spelled;
      named = named_gone old.watched c.try_remove.new.self old.keys.entries fewer spelled key old.named (sym c.in-Some.ensures.value)
          updates gone.1 (keys_after old.keys.entries fewer spelled None gone.3);
    }

pub returns-in-Some-clause-only : goal.returns-in-Some-clause-only
returns-in-Some-clause-only c =
    let old = c.args.self.now in
    let spelled = c.spell-spelled.result.now in
    let fewer = c.swap_remove.new.self.entries in
    let gone = c.swap_remove.ensures.updates in
    seen_gone old.watched c.try_remove.new.self old.keys.entries fewer spelled (tx_spelling version_2 c.args.tx.now) c.in-Some.key
    c.spell-spelled.ensures.spelled old.named (sym c.in-Some.ensures.value) c.try_remove.ensures.updates gone.1
    (keys_after old.keys.entries fewer spelled None gone.3)
