use Rattle.std.proofs.Common.{◌∙◌, None, ap, inl, refl}
use Rattle.protocol.specs.declared.answers.Answer.TheVariants.{Refused}
use Rattle.protocol.specs.Leaders.{on_leader_message}
use Rattle.protocol.specs.Nodes.{on_message}
use Rattle.node_core.specs.Storing.{output_of}
use Rattle.node_core.specs.declared.role.Role.TheVariants as roles
use Rattle.node_core.proofs.Deciding.{leader_decides, leader_stores_nothing, no_config, refused_memory}
use Rattle.node_core.proofs.Hearing.{nothing_stored}
use Rattle.node_core.proofs.acting.lead.Goals as goal

pub returns-in-Ok : goal.returns-in-Ok
returns-in-Ok c = λ config who facts memory held s.
    nothing_stored config who facts memory held (roles.Leader c.lead.new.leader)
    (on_message config who facts memory c.args.message.now) c.in-Ok.ensures.0
    (record c.args.out.now { reply = c.lead.new.reply; sends = c.lead.new.self }) c.keep_view.new.self
    (leader_stores_nothing config who facts memory c.args.leader.now c.args.message.now s)
    (leader_decides c.args.leader.now c.lead.new.leader
    (record { answer = c.lead.new.reply; fact = c.in-Ok.ensures.0; sends = c.lead.new.self }) c.args.message.now
    (λ config number. c.in-Ok.ensures.1 config number) config who facts memory s)
    c.keep_view.ensures

pub returns-in-Err : goal.returns-in-Err
returns-in-Err c = λ config who facts memory held s. inl (record {
  same = refl;
  out_is = c.refuse.ensures
      ∙ ap (λ e. output_of (Refused e) None)
      (refused_memory no_config 0 c.args.leader.now c.lead.new.leader
      (λ stored memory. on_leader_message no_config stored memory c.args.message.now) c.in-Err.refusal (c.in-Err.ensures.1 no_config 0));
})
