use Rattle.std.proofs.Common.{◌∙◌, ap}
use Rattle.stable_record.specs.declared.fact.FactKind.TheVariants as facts
use Rattle.acceptor.proofs.Frames.{common_written}
use Rattle.acceptor.proofs.shorter.write_common.Goals as goal

pub returns-then-common-gt0-clause-ok : goal.returns-then-common-gt0-clause-ok
returns-then-common-gt0-clause-ok c =
    common_written c.write-then-common-gt0.result c.args.frames.now.items c.write-then-common-gt0.new.out.items c.args.tx.now
    c.args.common _ c.if-common-gt0.true
    (c.new.ensures ∙ ap (λ tx. facts.PromiseAll tx c.args.common) c.again.ensures)
    c.write-then-common-gt0.ensures.valid c.write-then-common-gt0.ensures.ok
