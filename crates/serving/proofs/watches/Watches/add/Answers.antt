use Rattle.std.proofs.Common.{◌∙◌, List, ℕ, refl, sym, ap}
use Rattle.wire.specs.Grammar.{tx_spelling}
use Rattle.wire.specs.Versions.{version_2}
use Rattle.slab.specs.Slab.{get}
use Rattle.serving.specs.declared.watched.Watch.{Watch}
use Rattle.serving.specs.Watching.{at_key, key_of}
use Rattle.serving.specs.Named.{seen}
use Rattle.serving.proofs.NameLemmas.{added_if, key_none, seen_some}
use Rattle.serving.proofs.watches.Watches.add.Goals as goal

pub returns-then-contains_key-clause-ok : goal.returns-then-contains_key-clause-ok
returns-then-contains_key-clause-ok c =
    let old = c.args.self.now in
    let is = sym c.contains_key.ensures ∙ c.if-contains_key.true in
    seen_some old.watched old.keys.entries c.spell-spelled.result.now _ _ _ c.spell-spelled.ensures.spelled old.named is
    (λ (watch : Watch) (spelled : List ℕ). refl)

pub returns-clause-ok : goal.returns-clause-ok
returns-clause-ok c =
    let old = c.args.self.now in
    let mid = c.begin.new.self in
    let spelled = c.spell-spelled.result.now in
    let none = key_none (key_of old.keys.entries spelled) (sym c.contains_key.ensures ∙ c.if-contains_key.false) in
    let begun = c.in_ok-key.ensures in
    added_if (get mid.watched c.in_ok-key.key) (seen old) (seen mid) (seen c.wait_for.new.self) spelled
    (tx_spelling version_2 c.args.tx.now) mid.schedule old.schedule mid.queues.items old.queues.items c.args.turn c.args.now
    c.wait_for.result c.spell-spelled.ensures.spelled
    (ap (at_key old.watched) none) begun.watch begun.others begun.schedule
    (λ i. (begun.queues i).items) c.wait_for.ensures.ok
