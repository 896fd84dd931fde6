use Rattle.std.proofs.Common.{◌∙◌, ap, sym}
use Rattle.std.specs.Prelude.{is_none}
use Rattle.port.specs.Members.{MemberParts}
use Rattle.port.proofs.Members.{heard_seen, least_stands, member_still, unheard}
use Rattle.port.proofs.member.Member.hear.Goals as goal

pub returns-then-is_down-clause-hears : goal.returns-then-is_down-clause-hears
returns-then-is_down-clause-hears g c = λ config m s.
    unheard c.args.self.now c.args.notice.now
    (ap (λ (x : MemberParts). is_none x.floored.node.role) (sym c.self.view_is) ∙ sym c.is_down.ensures ∙ c.if-is_down.true) config m

pub invariant_of-self : goal.invariant_of-self
invariant_of-self g c =
    let inside = c.self.inside in
    let is = c.self.invariant in
    let r = least_stands is.config is.state c.least-least.result inside.node c.raise_least.new.node c.raise_least.result is.is
    (c.raise_least.ensures is.config is.state is.is) in
    member_still inside.sizes inside.node c.raise_least.new.node inside.told c.hear.new.self is r.sizes_are c.hear.ensures.len is.config
    r.now r.stands

pub returns-clause-hears : goal.returns-clause-hears
returns-clause-hears g c =
    let inside = c.self.inside in
    heard_seen inside.node inside.told c.args.self.now c.self.view_is inside.sizes c.self.invariant c.args.notice.now c.hear.new.self
    c.raise_least.new.node c.least-least.result c.raise_least.result c.answer_of.result
    (ap (λ (x : MemberParts). is_none x.floored.node.role) (sym c.self.view_is) ∙ sym c.is_down.ensures ∙ c.if-is_down.false)
    c.hear.ensures c.least-least.ensures.told c.raise_least.ensures c.answer_of.ensures

pub returns-clause-who : goal.returns-clause-who
returns-clause-who g c =
    let inside = c.self.inside in
    let is = c.self.invariant in
    let r = least_stands is.config is.state c.least-least.result inside.node c.raise_least.new.node c.raise_least.result is.is
    (c.raise_least.ensures is.config is.state is.is) in
    r.who_is ∙ ap (λ (x : MemberParts). x.floored.node.who) c.self.view_is
