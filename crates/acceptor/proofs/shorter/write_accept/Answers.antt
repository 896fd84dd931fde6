use Rattle.std.proofs.Common.{◌∙◌, ap}
use Rattle.stable_record.specs.declared.fact.FactKind.TheVariants as facts
use Rattle.acceptor.proofs.Frames.{accept_written}
use Rattle.acceptor.proofs.shorter.write_accept.Goals as goal

pub returns-clause-ok : goal.returns-clause-ok
returns-clause-ok c =
    accept_written c.write-2.result c.args.frames.now.items c.write-2.new.out.items c.args.tx.now c.args.instance c.args.report
    c.in-Some.ballot c.in-Some.vote _ c.in-Some.is
    (c.new.ensures ∙ ap (λ tx. facts.Accept tx c.args.instance c.in-Some.ballot c.in-Some.vote) c.again.ensures) c.write-2.ensures.valid
    c.write-2.ensures.ok
