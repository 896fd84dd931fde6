use Rattle.std.proofs.Common.{◌≡◌, ◌∙◌, ◌+◌, ◌*◌, ◌-◌, ◌<◌, ℕ, true, List, ◌∷◌, ◌++◌, [], length, length-append, cond, sym, ap, subst}
use Rattle.std.proofs.Common.{arith}
use Rattle.std.specs.List.{AllByRecursion}
use Rattle.std.specs.Str.{bytes_eq}
use Rattle.stable_record.specs.Facts.{AreAscending, IsTouched}
use Rattle.stable_record.specs.declared.fact.Touched.{Touched}
use Rattle.protocol.specs.Managers.{has_key}
use Rattle.protocol.specs.Tables.{rows_after, with_writes}
use Rattle.protocol.proofs.TouchedKeys.{tail_ascends}
use Rattle.protocol.proofs.Manager.Keys.{first_once}
use Rattle.branch_table.specs.Outcomes.{looks_after}
use Rattle.branch_table.specs.Parts.{CanLeave, TakesHolders, hold_at, hold_by, table_of, uses_by, uses_held}
use Rattle.branch_table.proofs.PlaceTable.{can_leave, held_after, own_key}
use Rattle.branch_table.proofs.Uses.{first_uses, let_step, looks_more}
use Rattle.branch_table.proofs.places.Places.settle.Goals as goal

pub leave-requires : goal.leave-requires
leave-requires c =
    let t = c.in-Some.touched in
    let rest = c.next.new.self.rest.items in
    let each = subst (AllByRecursion IsTouched) c.in-Some.ensures.steps.0 c.loop-touched.invariant.each in
    let there = ap (has_key t.key) c.in-Some.ensures.steps.0 ∙ own_key t rest in
    let held = c.loop-touched.invariant.held t.key there in
    subst (λ (key : List ℕ). CanLeave c.loop-touched.self key t.act) (sym c.as_slice.ensures)
    (can_leave c.loop-touched.self t.key t.act each.0.key each.0.act held)

pub loop-touched-preserved : goal.loop-touched-preserved
loop-touched-preserved c =
    let t = c.in-Some.touched in
    let rest = c.next.new.self.rest.items in
    let whole = c.in-Some.ensures.steps.0 in
    let before = c.loop-touched.self in
    let up = subst AreAscending whole c.loop-touched.invariant.ascending in
    let each = subst (AllByRecursion IsTouched) whole c.loop-touched.invariant.each in
    let taken : TakesHolders before c.leave.new.self t.key (hold_by t.act) = λ writes key. c.leave.ensures.holds writes key
    ∙ (λ j. cond (bytes_eq (c.as_slice.ensures j) key)
    (uses_held writes (hold_at before key) - uses_held writes (c.by-fewer.ensures j)) (uses_held writes (hold_at before key))) in
    let yielded = length-append c.loop-touched.yielded (t ∷ []) in
    let counted = c.loop-touched.invariant.count in
    let left = ap length whole in
    let twice : 2 * length c.loop-touched.yielded + 2 ≡ 2 * length (c.loop-touched.yielded ++ t ∷ []) = omega (arith, yielded) in
    record {
      looks =
          c.add.ensures ∙ ap (λ n. looks_after n 2) c.loop-touched.invariant.looks
          ∙ looks_more c.args.looks.now (2 * length c.loop-touched.yielded) 2 ∙ ap (looks_after c.args.looks.now) twice;
      count = omega (arith, yielded, counted, left);
      rows =
          ap (λ rows. with_writes rows rest) (c.leave.ensures.rows ∙ (λ j. rows_after (table_of before) (c.as_slice.ensures j) t.act))
          ∙ sym (ap (with_writes (table_of before)) whole) ∙ c.loop-touched.invariant.rows;
      holds = λ writes key.
          let_step _ (uses_held writes (hold_at before key)) (uses_by writes key (t ∷ rest)) (uses_by writes key rest)
          (uses_held writes (hold_by t.act)) _ (bytes_eq t.key key) (taken writes key) (first_uses writes key t rest up)
          (ap (λ (keys : List Touched). uses_held writes (hold_at before key) - uses_by writes key keys) (sym whole)
          ∙ c.loop-touched.invariant.holds writes key);
      held = held_after before c.leave.new.self t rest (hold_by t.act) (first_once t rest up) taken
          (subst (λ (keys : List Touched). (key : List ℕ) → has_key key keys ≡ true → 0 < (hold_at before key).touched_by) whole
          c.loop-touched.invariant.held);
      ascending = tail_ascends t rest up;
      each = each.1;
    }
