use Rattle.std.proofs.Common.{◌≡◌, ℕ, true, subst}
use Rattle.xid.specs.Names.{XidParts}
use Rattle.serving.specs.ByNumber.{has, second_of}
use Rattle.serving.specs.declared.branches.Branch.{Branch}
use Rattle.serving.proofs.BranchLemmas.{apart_all, apart_left, apart_then, left_there, under_one}
use Rattle.serving.proofs.branches.Branches.begin.Goals as goal

pub invariant_of-self-in-Some : goal.invariant_of-self-in-Some
invariant_of-self-in-Some c =
    let old = c.args.self.now in
    let x : XidParts = c.args.xid.now in
    let now : Branch = record { client = c.args.client; is_active = true; touched = c.args.now } in
    record {
      found = under_one (λ (b : Branch). b.is_active) (λ (b : Branch). b.client) old.named c.insert.new.self old.started c.leave.new.self
          x now old.found
          (apart_then old.started c.add.new.self c.leave.new.self x (apart_all old.started c.add.new.self x c.add.ensures.kept)
          (apart_left c.add.new.self c.leave.new.self c.args.client x c.leave.ensures))
          (c.in_ok-old.ensures.updates).0
          (λ active. left_there c.add.new.self c.leave.new.self c.args.client x c.leave.ensures c.in_ok-add.ensures.added);
      timed = under_one (λ (b : Branch). true) (λ (b : Branch). second_of old.began b.touched) old.named c.insert.new.self old.touched
          c.leave-in-Some.new.self x now old.timed
          (apart_then old.touched c.add-2.new.self c.leave-in-Some.new.self x
          (apart_all old.touched c.add-2.new.self x c.add-2.ensures.kept)
          (apart_left c.add-2.new.self c.leave-in-Some.new.self c.second_of-second.result x c.leave-in-Some.ensures))
          (c.in_ok-old.ensures.updates).0
          (λ any. subst (λ (n : ℕ). has c.leave-in-Some.new.self n x ≡ true) c.second_of-second.ensures
          (left_there c.add-2.new.self c.leave-in-Some.new.self c.second_of-second.result x c.leave-in-Some.ensures
          c.in_ok-add-2.ensures.added));
    }

pub invariant_of-self-in_default : goal.invariant_of-self-in_default
invariant_of-self-in_default c =
    let old = c.args.self.now in
    let x : XidParts = c.args.xid.now in
    let now : Branch = record { client = c.args.client; is_active = true; touched = c.args.now } in
    record {
      found = under_one (λ (b : Branch). b.is_active) (λ (b : Branch). b.client) old.named c.insert.new.self old.started c.add.new.self
          x now old.found (apart_all old.started c.add.new.self x c.add.ensures.kept) (c.in_ok-old.ensures.updates).0
          (λ active. c.in_ok-add.ensures.added);
      timed = under_one (λ (b : Branch). true) (λ (b : Branch). second_of old.began b.touched) old.named c.insert.new.self old.touched
          c.add-2.new.self x now old.timed (apart_all old.touched c.add-2.new.self x c.add-2.ensures.kept)
          (c.in_ok-old.ensures.updates).0
          (λ any. subst (λ (n : ℕ). has c.add-2.new.self n x ≡ true) c.second_of-second.ensures c.in_ok-add-2.ensures.added);
    }
