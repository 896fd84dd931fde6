use Rattle.std.proofs.Common.{◌≡◌, ◌∙◌, ◌+◌, ◌++◌, ◌∷◌, [], List, ℕ, length, get_or, sym, ap, subst, arith}
use Rattle.std.proofs.lemmas.List.{length-append}
use Rattle.xid.specs.Transactions.{BranchParts}
use Rattle.xid.specs.BranchArray.{blank}
use Rattle.xid.proofs.TransactionTexts.{Continues, at_comma, at_end, last_joined, with_commas-push}
use Rattle.xid.proofs.transaction_text.branches_of.Goals as goal

pub returns-in_default-branch_of : goal.returns-in_default-branch_of
returns-in_default-branch_of c = record {
  text = λ bs are e.
      let on = c.loop.invariant.complete bs are e in
      let last = at_end bs c.loop.counter c.loop.all c.loop.rest.now on c.in_default.ensures in
      c.in_default-branch_of.ensures.text (get_or bs c.loop.counter blank) (are.each c.loop.counter blank on.more) last.0;
  same = tt;
}

pub returns-in_default : goal.returns-in_default
returns-in_default c =
    let b : BranchParts = record { rm = c.in-Some-branch_of.last.0; bqual = c.in-Some-branch_of.last.1 } in
    let pushed : c.push.new.self ≡ c.loop.all ++ b ∷ [] = c.push.ensures
    ∙ ap (λ (q : List ℕ). c.loop.all ++ record { rm = c.in-Some-branch_of.last.0; bqual = q } ∷ []) c.as_bytes.ensures.bytes in
    record {
      text = rw pushed (last_joined c.loop.all b c.args.text.now c.loop.rest.now c.loop.invariant.sound c.in-Some-branch_of.ensures.text.0);
      same = λ bs are e.
          let on = c.loop.invariant.complete bs are e in
          let last = at_end bs c.loop.counter c.loop.all c.loop.rest.now on c.in_default.ensures in
          let one : b ≡ get_or bs c.loop.counter blank = c.in-Some-branch_of.ensures.same (get_or bs c.loop.counter blank)
          (are.each c.loop.counter blank on.more) last.0 in
          pushed ∙ ap (λ (x : BranchParts). c.loop.all ++ x ∷ []) one ∙ last.1;
    }

pub returns-in_default-branch_of-2 : goal.returns-in_default-branch_of-2
returns-in_default-branch_of-2 c = record {
  text = λ bs are e.
      let on = c.loop.invariant.complete bs are e in
      let next = at_comma bs c.loop.counter c.loop.all c.loop.rest.now c.in-Some.first.now c.in-Some.after.now are on c.in-Some.ensures in
      c.in_default-branch_of-2.ensures.text (get_or bs c.loop.counter blank) (are.each c.loop.counter blank on.more) next.0;
  same = tt;
}

pub loop-preserved : goal.loop-preserved
loop-preserved c =
    let b : BranchParts = record { rm = c.in-Some-branch_of-2.branch.0; bqual = c.in-Some-branch_of-2.branch.1 } in
    let pushed : c.push-in-loop.new.self ≡ c.loop.all ++ b ∷ [] = c.push-in-loop.ensures
    ∙ ap (λ (q : List ℕ). c.loop.all ++ record { rm = c.in-Some-branch_of-2.branch.0; bqual = q } ∷ [])
    c.as_bytes-in-loop.ensures.bytes in
    record {
      count = omega (arith, ap length pushed, length-append c.loop.all (b ∷ []), c.loop.invariant.count);
      sound = rw pushed (with_commas-push c.loop.all b c.args.text.now c.loop.rest.now c.in-Some.first.now c.in-Some.after.now
          c.loop.invariant.sound c.in-Some.ensures.0 c.in-Some-branch_of-2.ensures.text.0);
      complete = λ bs are e.
          let on = c.loop.invariant.complete bs are e in
          let next = at_comma bs c.loop.counter c.loop.all c.loop.rest.now c.in-Some.first.now c.in-Some.after.now are on
          c.in-Some.ensures in
          let one : b ≡ get_or bs c.loop.counter blank = c.in-Some-branch_of-2.ensures.same (get_or bs c.loop.counter blank)
          (are.each c.loop.counter blank on.more) next.0 in
          let front : c.push-in-loop.new.self ≡ c.loop.all ++ get_or bs c.loop.counter blank ∷ [] = pushed
          ∙ ap (λ (x : BranchParts). c.loop.all ++ x ∷ []) one in
          subst (λ (f : List BranchParts). Continues bs (c.loop.counter + 1) f c.in-Some.after.now) (sym front) next.1;
    }
