use Rattle.std.proofs.Common.{sym}
use Rattle.wire.specs.Grammar.{tx_spelling}
use Rattle.wire.specs.Versions.{version_2}
use Rattle.serving.specs.Named.{seen}
use Rattle.serving.proofs.NameLemmas.{again_if, keyed_watch}
use Rattle.serving.proofs.watches.Watches.again.Goals as goal

pub wait_for-requires : goal.wait_for-requires
wait_for-requires c =
    let old = c.args.self.now in
    keyed_watch old.watched old.keys.entries c.spell-spelled.result.now c.in-Some.key.now old.named (sym c.in-Some.ensures.value)

pub returns-clause-ok : goal.returns-clause-ok
returns-clause-ok c =
    let old = c.args.self.now in
    again_if old.watched old.keys.entries (seen c.wait_for.new.self) c.spell-spelled.result.now (tx_spelling version_2 c.args.due.now.tx)
    c.in-Some.key.now old.schedule old.queues.items c.saturating_add.result _ c.args.now c.wait_for.result c.spell-spelled.ensures.spelled
    c.saturating_add.ensures old.named (sym c.in-Some.ensures.value) c.wait_for.ensures.ok
