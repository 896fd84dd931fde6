use Rattle.std.proofs.Common.{◌≡◌, ◌∙◌, ap, subst}
use Rattle.wire.specs.declared.message.Kind.TheVariants.{P1a, P2a}
use Rattle.protocol.specs.Acceptors.{on_acceptor_message}
use Rattle.acceptor.specs.Acceptors.{Decides}
use Rattle.protocol.specs.Decisions.{shown}
use Rattle.acceptor.proofs.acceptor.Acceptor.on_message.Goals as goal

pub returns-in-P1a : goal.returns-in-P1a
returns-in-P1a c =
    let whole : P1a c.tx.result.now c.in-P1a.instance c.in-P1a.ballot ≡ c.args.message.now =
    ap (λ tx. P1a tx c.in-P1a.instance c.in-P1a.ballot) c.tx.ensures.value ∙ c.in-P1a.ensures.value in
    subst (λ k. Decides c.args.self.now (shown c.on_1a.result) (λ config a slots. on_acceptor_message config a slots k)) whole
    c.on_1a.ensures

pub returns-in-P2a : goal.returns-in-P2a
returns-in-P2a c =
    let whole : P2a c.tx-in-P2a.result.now c.in-P2a.instance c.in-P2a.ballot c.in-P2a.vote ≡ c.args.message.now =
    ap (λ tx. P2a tx c.in-P2a.instance c.in-P2a.ballot c.in-P2a.vote) c.tx-in-P2a.ensures.value ∙ c.in-P2a.ensures.value in
    subst (λ k. Decides c.args.self.now (shown c.on_2a.result) (λ config a slots. on_acceptor_message config a slots k)) whole
    c.on_2a.ensures
