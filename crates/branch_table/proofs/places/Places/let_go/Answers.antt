use Rattle.std.proofs.Common.{◌≡◌, ◌∙◌, ◌+◌, ◌*◌, ◌<◌, ◌^◌, cond, refl, ap, subst, arith, drop, ◌-◌}
use Rattle.std.specs.Str.{bytes_eq}
use Rattle.branch_table.specs.Outcomes.{looks_after}
use Rattle.branch_table.specs.Parts.{hold_at, hold_by, uses_by, uses_held}
use Rattle.branch_table.proofs.Uses.{let_step, looks_more, looks_none, uses_step}
use Rattle.branch_table.proofs.places.Places.let_go.Goals as goal

pub loop-touched-init : goal.loop-touched-init
loop-touched-init c = record {
  looks = looks_none c.args.looks.now (subst (λ n. n < 2 ^ 64) c.count.ensures c.count.type_inv);
  rows = refl;
  holds = λ writes key. refl;
}

pub loop-touched-preserved : goal.loop-touched-preserved
loop-touched-preserved c =
    let i = c.loop-touched.touched-index in
    let keys = c.args.keys.now in
    let t = c.touched-item.result in
    let twice : 2 * i + 2 ≡ 2 * (i + 1) = omega arith in
    record {
      looks =
          c.add.ensures ∙ ap (λ n. looks_after n 2) c.loop-touched.invariant.looks ∙ looks_more c.args.looks.now (2 * i) 2
          ∙ ap (looks_after c.args.looks.now) twice;
      rows = c.leave.ensures.rows ∙ c.loop-touched.invariant.rows;
      holds = λ writes key.
          let taken = c.leave.ensures.holds writes key
          ∙ (λ j. cond (bytes_eq (c.as_slice.ensures j) key)
          (uses_held writes (hold_at c.loop-touched.self key) - uses_held writes (c.by.ensures j))
          (uses_held writes (hold_at c.loop-touched.self key))) in
          let_step _ (uses_held writes (hold_at c.loop-touched.self key)) (uses_by writes key (drop i keys))
          (uses_by writes key (drop (i + 1) keys))
          (uses_held writes (hold_by t.act)) _ (bytes_eq t.key key) taken
          (uses_step writes key keys i t c.loop-touched-test.true c.touched-item.is c.requires) (c.loop-touched.invariant.holds writes key);
    }
