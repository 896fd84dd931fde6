use Rattle.std.proofs.Common.{◌≡◌, ◌<◌, ap, arith, length, take}
use Rattle.xid.specs.Limits.{most_branches}
use Rattle.xid.specs.BranchArray.{count-shown}
use Rattle.xid.proofs.PushedBranches.{pushed}
use Rattle.xid.proofs.branches.Branches.push.Goals as goal

pub invariant_of-self : goal.invariant_of-self
invariant_of-self c =
    let old = c.self.inside in
    let seen : length (take old.count old.array) ≡ length c.args.self.now = ap length c.self.view_is in
    let room : old.count < most_branches = omega (arith, c.requires.room, seen, count-shown old.count old.array c.self.invariant) in
    pushed old.count old.array _ c.self.invariant room
