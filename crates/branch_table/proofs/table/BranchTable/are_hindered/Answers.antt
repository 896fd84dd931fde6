use Rattle.std.proofs.Common.{◌≡◌, ◌∙◌, ◌<◌, false, refl, sym, ap, subst, arith, inl, inr, get_or}
use Rattle.std.proofs.lemmas.Bool.{both_ways, cases_lt}
use Rattle.std.proofs.lemmas.List.{get_or_default}
use Rattle.stable_record.specs.declared.fact.Touched.{Touched}
use Rattle.protocol.specs.Branches.{hinders_use, is_write}
use Rattle.protocol.specs.Managers.{view_named}
use Rattle.branch_table.specs.OneCall.{IsHindered}
use Rattle.branch_table.proofs.table.BranchTable.are_hindered.Goals as goal

pub returns-then-is_use_hindered : goal.returns-then-is_use_hindered
returns-then-is_use_hindered c = λ x none. (
  λ e. (
    c.touched-item.result,
    (c.loop-touched.touched-index, c.loop-touched-test.true, sym c.touched-item.is),
    (c.is_use_hindered.ensures x none).0 c.if-is_use_hindered.true,
  ),
  λ e. refl,
)

pub loop-touched-preserved : goal.loop-touched-preserved
loop-touched-preserved c = λ x none k d lt is. elim (cases_lt k c.loop-touched.touched-index) [
  | inl before ↦ c.loop-touched.invariant x none k d before is
  | inr past ↦
      let i = c.loop-touched.touched-index in
      let t = c.touched-item.result in
      let here : k ≡ i = omega (arith, lt, past) in
      let same : get_or c.args.keys.now k d ≡ t =
      ap (λ n. get_or c.args.keys.now n d) here ∙ get_or_default c.args.keys.now i d t c.loop-touched-test.true ∙ sym c.touched-item.is in
      let hindered = subst
      (λ (u : Touched). IsHindered (hinders_use (is_write u.act) u.key) (view_named c.args.self.now.branches) x) same is in
      both_ways c.is_use_hindered.result c.if-is_use_hindered.false ((c.is_use_hindered.ensures x none).1 hindered)
]

pub returns : goal.returns
returns c = λ x none. (
  λ e. absurd (both_ways false refl e),
  λ is.
      let there = is.1 in
      let within : there.0 < c.loop-touched.touched-index = omega (arith, there.1, c.loop-touched-test.false) in
      let hindered = subst
      (λ (u : Touched). IsHindered (hinders_use (is_write u.act) u.key) (view_named c.args.self.now.branches) x) (sym there.2) is.2 in
      absurd (c.loop-touched.invariant x none there.0 is.0 within hindered),
)
