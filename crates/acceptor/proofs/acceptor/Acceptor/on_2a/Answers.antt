use Rattle.std.proofs.Common.{◌∙◌, ap, subst}
use Rattle.protocol.specs.Acceptors.{on_2a}
use Rattle.protocol.specs.Effects.{decision_of}
use Rattle.acceptor.specs.Slots.{slots_of}
use Rattle.acceptor.specs.Acceptors.{Decides}
use Rattle.protocol.specs.Decisions.{shown}
use Rattle.acceptor.proofs.Standing.{decides, plays_2a}
use Rattle.acceptor.proofs.acceptor.Acceptor.on_2a.Goals as goal

pub returns : goal.returns
returns c =
    subst (λ a. Decides a (shown c.on_2a.result)
    (λ config number slots. on_2a config number slots c.args.tx.now c.args.instance c.args.ballot
    c.args.vote)) c.self.view_is
    (decides _ (shown c.on_2a.result)
    (λ config number slots. on_2a config number slots c.args.tx.now c.args.instance c.args.ballot c.args.vote)
    (λ config leads bundled. c.on_2a.ensures config bundled
    ∙ ap (λ slots. decision_of (on_2a config c.self.inside.seat.number
    (slots_of c.args.tx.now slots) c.args.tx.now c.args.instance c.args.ballot c.args.vote)) c.slots_of.ensures)
    (plays_2a c.args.tx.now c.args.instance c.args.ballot c.args.vote c.requires))
