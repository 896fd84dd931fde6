use Rattle.std.proofs.Common.{◌∙◌, ap, subst}
use Rattle.protocol.specs.Acceptors.{on_b1a}
use Rattle.protocol.specs.Effects.{decision_of}
use Rattle.acceptor.specs.Slots.{slots_of}
use Rattle.acceptor.specs.Acceptors.{Decides}
use Rattle.protocol.specs.Decisions.{shown}
use Rattle.acceptor.proofs.Standing.{decides, plays_b1a}
use Rattle.acceptor.proofs.acceptor.Acceptor.on_b1a.Goals as goal

pub returns : goal.returns
returns c =
    subst (λ a. Decides a (shown c.on_b1a.result) (λ config number slots. on_b1a config number slots c.args.tx.now c.args.ballot))
    c.self.view_is
    (decides _ (shown c.on_b1a.result) (λ config number slots. on_b1a config number slots c.args.tx.now c.args.ballot)
    (λ config leads bundled. c.on_b1a.ensures config leads
    ∙ ap (λ slots. decision_of (on_b1a config c.self.inside.seat.number
    (slots_of c.args.tx.now slots) c.args.tx.now c.args.ballot)) c.slots_of.ensures)
    (plays_b1a c.args.tx.now c.args.ballot))
