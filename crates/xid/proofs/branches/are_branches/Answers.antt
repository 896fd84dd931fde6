use Rattle.std.proofs.Common.{◌≡◌, ◌≤◌, ◌==◌, ◌∙◌, refl, sym, ap, false, IsTrue, length, arith}
use Rattle.std.proofs.lemmas.Bool.Decides.{nat_tests}
use Rattle.xid.specs.Transactions.{BranchParts}
use Rattle.xid.proofs.GivenBranches.{ascend, ascends_at}
use Rattle.xid.proofs.branches.are_branches.Goals as goal

pub returns-then-rm : goal.returns-then-rm
returns-then-rm c = (
  λ (t : IsTrue false). absurd (cc (t)),
  λ is.
      let up = ascends_at c.args.branches.now c.loop-i.i c.index-branches-i-then-i-gt0.result c.index-branches-i.result is c.if-i-gt0.true
      c.loop-i-test.true in
      let before = ap (λ (b : BranchParts). b.rm) c.index-branches-i-then-i-gt0.is in
      let here = ap (λ (b : BranchParts). b.rm) c.index-branches-i.is in
      absurd (omega (arith, c.rm.ensures, c.rm-then-i-gt0.ensures)),
)

pub returns : goal.returns
returns c =
    let some : (length c.args.branches.now == 0) ≡ false = sym c.is_empty.ensures ∙ c.if-is_empty.false in
    let all : length c.args.branches.now ≤ c.loop-i.i = c.loop-i-test.false in (
      λ _. record {
        some = grind (arith, nat_tests);
        few = c.requires;
        each = λ k d lt. c.loop-i.invariant.each k d (omega arith);
        ascending = ascend c.args.branches.now (λ k d lt. c.loop-i.invariant.ascending k d (omega arith));
      },
      λ _. refl,
    )
