use Rattle.std.proofs.Common.{refl}
use Rattle.port.proofs.Members.{compacted_seen, compacted_stands, member_still}
use Rattle.port.proofs.member.Member.compact.Goals as goal

pub invariant_of-self : goal.invariant_of-self
invariant_of-self g c =
    let inside = c.self.inside in
    let is = c.self.invariant in
    let r = c.compact.ensures.machine is.config is.state is.is in
    let now = compacted_stands is.config is.state inside.node c.compact.new.self c.compact.result r in
    member_still inside.sizes inside.node c.compact.new.self inside.told inside.told is r.same.sizes_are refl is.config now.0 now.1

pub returns : goal.returns
returns g c =
    compacted_seen c.self.inside.node c.self.inside.told c.args.self.now c.self.view_is c.compact.new.self c.compact.result
    c.compact.ensures.machine c.compact.ensures.node
