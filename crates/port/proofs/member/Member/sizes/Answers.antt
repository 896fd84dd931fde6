use Rattle.std.proofs.Common.{subst}
use Rattle.port.specs.Members.{IsMember, MemberParts}
use Rattle.port.proofs.member.Member.sizes.Goals as goal

pub returns : goal.returns
returns g c = subst (λ (x : MemberParts). IsMember c.self.inside.sizes x.floored x.told) c.self.view_is c.self.invariant
