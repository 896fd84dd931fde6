use Rattle.std.proofs.Common.{◌∙◌, length, ap, None}
use Rattle.std.proofs.lemmas.List.{length-replicate}
use Rattle.port.proofs.Members.{member_still, restarted_seen}
use Rattle.port.proofs.member.Member.restart.Goals as goal

pub invariant_of-self : goal.invariant_of-self
invariant_of-self g c =
    let inside = c.self.inside in
    let is = c.self.invariant in
    let r = c.restart.ensures.machine is.config is.state is.is in
    member_still inside.sizes inside.node c.restart.new.self inside.told c.forget.new.self is r.same.sizes_are
    (ap length c.forget.ensures ∙ length-replicate (length inside.told) None) is.config _ r.stands

pub returns : goal.returns
returns g c =
    restarted_seen c.self.inside.node c.self.inside.told c.args.self.now c.self.view_is c.restart.new.self c.forget.new.self
    c.restart.result c.restart.ensures.machine c.restart.ensures.node c.forget.ensures
