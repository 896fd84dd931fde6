use Rattle.std.proofs.Common.{◌≡◌, ◌<◌, ap, arith, length, take}
use Rattle.xid.specs.Limits.{most_branches}
use Rattle.wire.specs.ItemArray.{item-count-shown}
use Rattle.wire.proofs.PushedItems.{pushed}
use Rattle.wire.proofs.items.Items.push.Goals as goal

pub invariant_of-self : goal.invariant_of-self
invariant_of-self g c =
    let old = c.self.inside in
    let seen : length (take old.count old.array) ≡ length c.args.self.now = ap length c.self.view_is in
    let room : old.count < most_branches = omega (arith, c.requires, seen, item-count-shown old.count old.array c.self.invariant) in
    pushed old.count old.array _ c.self.invariant room
