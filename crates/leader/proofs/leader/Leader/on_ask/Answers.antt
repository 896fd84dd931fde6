use Rattle.std.proofs.Common.{◌∙◌, ap, refl}
use Rattle.std.specs.Prelude.{Err}
use Rattle.protocol.specs.declared.decisions.Address.TheVariants.{Node}
use Rattle.protocol.specs.declared.nodes.NodeId.TheVariants.{R}
use Rattle.protocol.specs.Leaders as rules
use Rattle.protocol.specs.Leaders.{outcome_messages}
use Rattle.leader.specs.contracts.leader.Leader.{the_view}
use Rattle.leader.specs.Courses.{after_meeting, status_in}
use Rattle.leader.specs.Leaders.{course_of}
use Rattle.leader.proofs.Leading.{sending, follows, kept_same, err_same, ask_agrees, with_courses}
use Rattle.leader.proofs.leader.Leader.on_ask.Goals as goal

pub returns : goal.returns
returns c = λ config number.
    follows config number (the_view c.self.inside) c.args.self.now c.meet.new.self c.args.tx.now
    (after_meeting (course_of (the_view c.self.inside) c.args.tx.now))
    (sending (outcome_messages (status_in (after_meeting (course_of (the_view c.self.inside) c.args.tx.now))) c.args.tx.now (Node
    (R c.args.rm))))
    c.tell.new.self (λ stored memory. rules.on_ask config stored memory c.args.tx.now c.args.rm) c.self.view_is
    (c.tell.ensures ∙ ap (λ s. sending (outcome_messages s c.args.tx.now (Node (R c.args.rm)))) c.in-Ok.ensures.status)
    c.in-Ok.ensures.now (ask_agrees config number (the_view c.self.inside) c.args.tx.now c.args.rm)

pub returns-in-Err : goal.returns-in-Err
returns-in-Err c = λ config number.
    err_same config number c.args.self.now (with_courses (the_view c.self.inside) c.meet.new.self) (Err c.in-Err.refusal)
    c.in-Err.refusal (λ stored memory. rules.on_ask config stored memory c.args.tx.now c.args.rm) refl c.in-Err.ensures.err
    (kept_same config number (the_view c.self.inside) c.args.self.now c.meet.new.self c.self.view_is c.in-Err.ensures.kept)
