use Rattle.std.proofs.Common.{◌≡◌, ◌∙◌, ◌<◌, false, List, length, refl, sym, ap, subst, arith, inl, inr, get_or}
use Rattle.std.proofs.lemmas.Bool.{both_ways, cases_lt}
use Rattle.std.proofs.lemmas.List.{get_or_default, same_lists}
use Rattle.stable_record.specs.declared.fact.Touched.{Touched}
use Rattle.branch_table.proofs.keys.are_same.Goals as goal

pub returns-then-keys-others : goal.returns-then-keys-others
returns-then-keys-others c = (λ e. absurd (both_ways false refl e), λ e. absurd (c.if-keys-others.true (ap length e)))

pub returns-then-not-is_same : goal.returns-then-not-is_same
returns-then-not-is_same c =
    let at = c.loop-at.at in
    let t = c.index-keys-at.result in
    let u = c.index-others-at.result in (
      λ e. absurd (both_ways false refl e),
      λ e.
          let lt = subst (λ (keys : List Touched). at < length keys) e c.loop-at-test.true in
          let same = c.index-keys-at.is ∙ ap (λ (keys : List Touched). get_or keys at t) e
          ∙ get_or_default c.args.others.now at t u lt ∙ sym c.index-others-at.is in
          absurd (both_ways c.is_same.result c.if-not-is_same.true (c.is_same.ensures.1 same)),
    )

pub loop-at-preserved : goal.loop-at-preserved
loop-at-preserved c = λ k d lt. elim (cases_lt k c.loop-at.at) [
  | inl before ↦ c.loop-at.invariant k d before
  | inr past ↦
      let at = c.loop-at.at in
      let t = c.index-keys-at.result in
      let u = c.index-others-at.result in
      let here : k ≡ at = omega (arith, lt, past) in
      let inside : at < length c.args.others.now = subst (λ n. at < n) c.if-keys-others.false c.loop-at-test.true in
      let same : get_or c.args.keys.now at d ≡ get_or c.args.others.now at d =
      get_or_default c.args.keys.now at d t c.loop-at-test.true ∙ sym c.index-keys-at.is ∙ c.is_same.ensures.0 c.if-not-is_same.false
      ∙ c.index-others-at.is ∙ get_or_default c.args.others.now at u d inside in
      subst (λ n. get_or c.args.keys.now n d ≡ get_or c.args.others.now n d) (sym here) same
]

pub returns : goal.returns
returns c = (
  λ e. same_lists c.args.keys.now c.args.others.now c.if-keys-others.false
      (λ k d lt. c.loop-at.invariant k d (omega (arith, lt, c.loop-at-test.false))),
  λ e. refl,
)
