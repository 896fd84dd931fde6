use Rattle.std.proofs.Common.{◌∙◌, sym}
use Rattle.port.specs.Members.{item_of}
use Rattle.port.proofs.Taking.{aside_grouped, kept_grouped}
use Rattle.port.proofs.member.Member.in_group.Goals as goal

pub returns-then-is_aside-clause-input : goal.returns-then-is_aside-clause-input
returns-then-is_aside-clause-input g c =
    let now = c.args.self.now in
    sym (aside_grouped now.floored.floor (item_of now.floored.node.who c.args.input.now) (sym c.is_aside.ensures ∙ c.if-is_aside.true))

pub returns-clause-input : goal.returns-clause-input
returns-clause-input g c =
    let now = c.args.self.now in
    sym (kept_grouped now.floored.floor now.floored.node.who c.args.input.now (sym c.is_aside.ensures ∙ c.if-is_aside.false))
