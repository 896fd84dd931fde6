use Rattle.std.proofs.Common.{refl, ap}
use Rattle.port.specs.Members.{MemberParts}
use Rattle.port.proofs.Members.{member_still, viewed_seen}
use Rattle.port.proofs.member.Member.view.Goals as goal

pub invariant_of-self : goal.invariant_of-self
invariant_of-self g c =
    let inside = c.self.inside in
    let is = c.self.invariant in
    let r = c.view.ensures is.config is.state is.is in
    member_still inside.sizes inside.node c.view.new.self inside.told inside.told is r.same.sizes_are refl is.config is.state r.stands

pub returns-clause-views : goal.returns-clause-views
returns-clause-views g c =
    viewed_seen c.self.inside.node c.self.inside.told c.args.self.now c.self.view_is c.args.tx.now c.view.new.self c.view.result
    c.view.ensures

pub returns-clause-told : goal.returns-clause-told
returns-clause-told g c = ap (λ (x : MemberParts). x.told) c.self.view_is
