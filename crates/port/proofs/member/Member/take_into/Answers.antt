use Rattle.std.proofs.Common.{◌∙◌, refl, ap}
use Rattle.port.specs.Members.{MemberParts, notice_in}
use Rattle.port.proofs.Members.{acted_seen, heard_item, member_still}
use Rattle.port.proofs.member.Member.take_into.Goals as goal

pub returns-in-Some-clause-takes : goal.returns-in-Some-clause-takes
returns-in-Some-clause-takes g c =
    heard_item c.args.self.now.floored.node.who c.args.input c.in-Some.notice c.hear-answer.result c.args.self.now c.hear-answer.new.self
    c.answer.new.self (c.in-Some.ensures ∙ ap (λ who. notice_in who c.args.input)
    (c.id.ensures ∙ ap (λ (x : MemberParts). x.floored.node.who) c.self.view_is)) c.answer.ensures c.hear-answer.ensures.hears

pub invariant_of-self : goal.invariant_of-self
invariant_of-self g c =
    let inside = c.self.inside in
    let is = c.self.invariant in
    let r = c.step_into.ensures is.config is.state is.is in
    member_still inside.sizes inside.node c.step_into.new.self inside.told inside.told is r.same.sizes_are refl is.config _ r.stands

pub returns-in-None-clause-takes : goal.returns-in-None-clause-takes
returns-in-None-clause-takes g c =
    acted_seen c.self.inside.node c.self.inside.told c.args.self.now c.self.view_is c.args.input c.step_into.new.self c.step_into.new.out
    (c.in-None.ensures ∙ ap (λ who. notice_in who c.args.input)
    (c.id.ensures ∙ ap (λ (x : MemberParts). x.floored.node.who) c.self.view_is)) c.step_into.ensures

pub returns-in-None-clause-who : goal.returns-in-None-clause-who
returns-in-None-clause-who g c =
    let is = c.self.invariant in
    let r = c.step_into.ensures is.config is.state is.is in
    r.same.who_is ∙ ap (λ (x : MemberParts). x.floored.node.who) c.self.view_is
