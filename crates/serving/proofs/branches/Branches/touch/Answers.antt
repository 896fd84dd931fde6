use Rattle.std.proofs.Common.{◌≡◌, ◌∙◌, Some, None, true, sym, ap, is_some}
use Rattle.std.specs.Option.{option_map}
use Rattle.indexmap.specs.IndexMap.{get}
use Rattle.xid.specs.Names.{XidParts, xid_eq}
use Rattle.serving.specs.declared.branches.Branch.{Branch}
use Rattle.serving.specs.ByNumber.{second_of}
use Rattle.serving.specs.Noted.{after_touch, known}
use Rattle.serving.proofs.BranchLemmas.{apart_removed, ended, found_touched, timed_touched, under_one}
use Rattle.serving.proofs.branches.Branches.touch.Goals as goal

pub returns-in_default : goal.returns-in_default
returns-in_default c =
    let x : XidParts = c.args.xid.now in
    let same = c.get_mut.follows.holds-at-none in
    let none : known c.args.self.now x ≡ None = cc (c.in_default.ensures.value) in (
      ap (λ m. get xid_eq m x) same ∙ (none ∙ ap (option_map (after_touch c.args.has_ended c.args.now)) (sym none)),
      λ (y : XidParts) apart. ap (λ m. get xid_eq m y) same,
    )

pub invariant_of-self-in-Break-1 : goal.invariant_of-self-in-Break-1
invariant_of-self-in-Break-1 c =
    let old = c.args.self.now in
    let x : XidParts = c.args.xid.now in
    let was = c.in-Some.branch.now in
    let there : known old x ≡ Some was = sym c.in-Some.ensures.value in
    let changes = ((c.get_mut.follows.holds was).3 (ap is_some there)).0 in
    record {
      found = under_one (λ (b : Branch). b.is_active) (λ (b : Branch). b.client) old.named (c.get_mut.follows.lender was) old.started
          old.started x was old.found (λ number y other has. has) changes (old.found x was there);
      timed = under_one (λ (b : Branch). true) (λ (b : Branch). second_of old.began b.touched) old.named (c.get_mut.follows.lender was)
          old.touched c.shift.new.self x was old.timed c.shift.ensures.kept changes
          (λ any. c.in_err-shift.ensures.err (second_of old.began was.touched) x (old.timed x was there any));
    }

pub invariant_of-self-else-has_ended : goal.invariant_of-self-else-has_ended
invariant_of-self-else-has_ended c =
    let old = c.args.self.now in
    let x : XidParts = c.args.xid.now in
    let was = c.in-Some.branch.now in
    let now = c.touch.new.self in
    let there : known old x ≡ Some was = sym c.in-Some.ensures.value in
    let changes = ((c.get_mut.follows.holds now).3 (ap is_some there)).0 in
    record {
      found = under_one (λ (b : Branch). b.is_active) (λ (b : Branch). b.client) old.named (c.get_mut.follows.lender now) old.started
          old.started x now old.found (λ number y other has. has) changes
          (found_touched old.named old.started x was now c.args.has_ended c.args.now old.found there c.touch.ensures);
      timed = under_one (λ (b : Branch). true) (λ (b : Branch). second_of old.began b.touched) old.named (c.get_mut.follows.lender now)
          old.touched c.shift.new.self x now old.timed c.shift.ensures.kept changes
          (λ any. timed_touched old.began old.named old.touched c.shift.new.self x was now c.args.has_ended c.args.now
          c.second_of-before.result c.second_of-second.result old.timed there c.touch.ensures c.second_of-before.ensures
          c.second_of-second.ensures c.in_ok-shift.ensures.shifted);
    }

pub invariant_of-self-then-has_ended : goal.invariant_of-self-then-has_ended
invariant_of-self-then-has_ended c =
    let old = c.args.self.now in
    let x : XidParts = c.args.xid.now in
    let was = c.in-Some.branch.now in
    let now = c.touch.new.self in
    let there : known old x ≡ Some was = sym c.in-Some.ensures.value in
    let changes = ((c.get_mut.follows.holds now).3 (ap is_some there)).0 in
    record {
      found = under_one (λ (b : Branch). b.is_active) (λ (b : Branch). b.client) old.named (c.get_mut.follows.lender now) old.started
          c.remove.new.self x now old.found (apart_removed old.started c.remove.new.self now.client x c.remove.ensures) changes
          (λ active. absurd (ended was now c.args.has_ended c.args.now c.touch.ensures c.if-has_ended.true active));
      timed = under_one (λ (b : Branch). true) (λ (b : Branch). second_of old.began b.touched) old.named (c.get_mut.follows.lender now)
          old.touched c.shift.new.self x now old.timed c.shift.ensures.kept changes
          (λ any. timed_touched old.began old.named old.touched c.shift.new.self x was now c.args.has_ended c.args.now
          c.second_of-before.result c.second_of-second.result old.timed there c.touch.ensures c.second_of-before.ensures
          c.second_of-second.ensures c.in_ok-shift.ensures.shifted);
    }
