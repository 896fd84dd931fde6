use Rattle.std.proofs.Common.{◌∙◌, ap, sym}
use Rattle.std.specs.Prelude.{is_some}
use Rattle.floors.specs.Nodes.{is_input_below}
use Rattle.node_core.specs.Nodes.{input_of}
use Rattle.port.specs.Members.{MemberParts, notice_in}
use Rattle.port.proofs.Taking.{aside_input, aside_notice}
use Rattle.port.proofs.member.Member.is_aside.Goals as goal

pub returns-in-Some : goal.returns-in-Some
returns-in-Some g c =
    let now = c.args.self.now in
    sym (aside_notice now.floored.floor now.floored.node.who c.args.input.now c.in-Some.field-0
    (c.in-Some.ensures ∙ ap (λ who. notice_in who c.args.input.now)
    (c.id.ensures ∙ ap (λ (x : MemberParts). x.floored.node.who) c.self.view_is)))

pub returns-in-None : goal.returns-in-None
returns-in-None g c =
    let now = c.args.self.now in
    c.is_below.ensures (ap (λ (x : MemberParts). is_some x.floored.node.role) c.self.view_is ∙ c.requires)
    ∙ ap (λ (x : MemberParts). is_input_below x.floored.floor (input_of c.args.input.now)) c.self.view_is
    ∙ sym (aside_input now.floored.floor now.floored.node.who c.args.input.now
    (c.in-None.ensures ∙ ap (λ who. notice_in who c.args.input.now)
    (c.id.ensures ∙ ap (λ (x : MemberParts). x.floored.node.who) c.self.view_is)))
