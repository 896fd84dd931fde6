use Rattle.std.proofs.Common.{◌∙◌, max, ap}
use Rattle.stable_record.specs.declared.fact.FactKind.TheVariants as facts
use Rattle.acceptor.proofs.Frames.{promise_written}
use Rattle.acceptor.proofs.shorter.write_promise.Goals as goal

pub returns-then-below-slot-clause-ok : goal.returns-then-below-slot-clause-ok
returns-then-below-slot-clause-ok c =
    promise_written c.write-then-below-slot.result c.args.frames.now.items c.write-then-below-slot.new.out.items c.args.tx.now c.args.common
    c.args.instance
    c.max-below.result c.args.slot _ (c.max-below.ensures ∙ ap (λ n. max n c.args.common) c.accepted_ballot.ensures)
    c.if-below-slot.true
    (c.new.ensures ∙ ap (λ tx. facts.Promise tx c.args.instance c.args.slot.mbal) c.again.ensures)
    c.write-then-below-slot.ensures.valid
    c.write-then-below-slot.ensures.ok
