use Rattle.std.proofs.Common.{refl, ap}
use Rattle.port.specs.Members.{MemberParts}
use Rattle.port.proofs.Members.{member_still, tabled_seen}
use Rattle.port.proofs.member.Member.table.Goals as goal

pub invariant_of-self : goal.invariant_of-self
invariant_of-self g c =
    let inside = c.self.inside in
    let is = c.self.invariant in
    let r = c.table.ensures is.config is.state is.is in
    member_still inside.sizes inside.node c.table.new.self inside.told inside.told is r.same.sizes_are refl is.config is.state r.stands

pub returns-clause-tables : goal.returns-clause-tables
returns-clause-tables g c =
    tabled_seen c.self.inside.node c.self.inside.told c.args.self.now c.self.view_is c.table.new.self c.table.result c.table.ensures

pub returns-clause-told : goal.returns-clause-told
returns-clause-told g c = ap (λ (x : MemberParts). x.told) c.self.view_is
