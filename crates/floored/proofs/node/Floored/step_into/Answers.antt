use Rattle.std.proofs.Common.{◌∙◌, None, false, sym, ap}
use Rattle.protocol.specs.declared.answers.Answer.{Answer}
use Rattle.node_core.specs.Nodes.{input_of}
use Rattle.node_core.specs.Storing.{output_of}
use Rattle.floored.proofs.Handling.{sound_step}
use Rattle.floored.proofs.Seen.{over_inside, passed_seen, stepped_seen}
use Rattle.floored.proofs.node.Floored.step_into.Goals as goal

pub returns-then-passes_over : goal.returns-then-passes_over
returns-then-passes_over g c =
    passed_seen c.self.inside.node c.args.self.now c.self.view_is (input_of c.args.input) c.answer.new.self
    (sym c.passes_over.ensures ∙ c.if-passes_over.true)
    (c.answer.ensures ∙ ap (λ (a : Answer). output_of a None) c.forgotten_answer.ensures)

pub invariant_of-self : goal.invariant_of-self
invariant_of-self g c =
    let input = input_of c.args.input in
    sound_step c.self.inside.floor c.self.inside.node c.step_into.new.self input c.step_into.new.out c.self.invariant
    (over_inside c.self.inside.node c.args.self.now c.self.view_is input false (sym c.passes_over.ensures ∙ c.if-passes_over.false))
    c.step_into.ensures

pub returns : goal.returns
returns g c =
    stepped_seen c.self.inside.node c.args.self.now c.self.view_is c.step_into.new.self (input_of c.args.input) c.step_into.new.out
    (sym c.passes_over.ensures ∙ c.if-passes_over.false) c.step_into.ensures
