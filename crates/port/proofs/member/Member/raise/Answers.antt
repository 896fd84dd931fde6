use Rattle.std.proofs.Common.{refl}
use Rattle.port.proofs.Members.{member_still, raised_seen}
use Rattle.port.proofs.member.Member.raise.Goals as goal

pub invariant_of-self : goal.invariant_of-self
invariant_of-self g c =
    let inside = c.self.inside in
    let is = c.self.invariant in
    let r = c.raise.ensures.machine is.config is.state is.is in
    member_still inside.sizes inside.node c.raise.new.self inside.told inside.told is r.sizes_are refl is.config _ r.stands

pub returns : goal.returns
returns g c =
    raised_seen c.self.inside.node c.self.inside.told c.args.self.now c.self.view_is c.args.floor.now c.raise.new.self c.raise.result
    c.raise.ensures.machine
