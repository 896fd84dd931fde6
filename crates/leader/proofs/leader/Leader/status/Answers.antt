use Rattle.std.proofs.Common.{◌∙◌, sym, ap}
use Rattle.std.specs.Prelude.{None, []}
use Rattle.leader.specs.contracts.leader.Leader.{the_view}
use Rattle.protocol.specs.declared.answers.Answer.TheVariants.{Stands}
use Rattle.protocol.specs.Effects.{status_standing}
use Rattle.leader.proofs.Leading.{status_follows}
use Rattle.leader.proofs.leader.Leader.status.Goals as goal

pub returns : goal.returns
returns c = λ config number.
    status_follows config number (the_view c.self.inside) c.args.self.now c.args.tx.now c.stand.new.self c.self.view_is
    (sym c.is_inside.ensures ∙ c.if-not-is_inside.false)
    (c.stand.ensures ∙ ap (λ s. record { answer = Stands (status_standing s); fact = None; sends = [] }) c.status_at-status.ensures)
