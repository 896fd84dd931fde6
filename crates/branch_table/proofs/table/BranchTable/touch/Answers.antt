use Rattle.std.proofs.Common.{◌≡◌, ◌∙◌, ◌<◌, ◌≤◌, ◌^◌, ◌||◌, true, refl, sym, ap, subst, arith}
use Rattle.std.specs.Prelude.{IfSome, is_some, length, nat_lt}
use Rattle.std.specs.Option.{option_map}
use Rattle.xid.specs.Limits.{most_touched}
use Rattle.protocol.specs.Branches.{is_write}
use Rattle.protocol.specs.Managers.{has_key}
use Rattle.branch_table.specs.Admission.{IsAdmitted}
use Rattle.branch_table.specs.Parts.{AddsHolders, Replaces, hold_more, more_by, uses_held}
use Rattle.branch_table.specs.TableStates.{branch_named, with_act}
use Rattle.branch_table.proofs.PlaceTable.{given_on_ok, kept_on_err}
use Rattle.branch_table.proofs.TableKept.{IsKept, held_small, kept_back, kept_touched, keys_same}
use Rattle.branch_table.proofs.Uses.{more_is, more_small}
use Rattle.branch_table.proofs.table.BranchTable.touch.Goals as goal

pub touch-requires-clause-found : goal.touch-requires-clause-found
touch-requires-clause-found c =
    ap is_some (ap (λ t. branch_named t.branches c.args.xid.now) c.self.view_is ∙ c.requires.admitted.0.found)

pub touch-requires-clause-room : goal.touch-requires-clause-room
touch-requires-clause-room c =
    let x = c.args.xid.now in
    let found = ap (λ t. branch_named t.branches x) c.self.view_is ∙ c.requires.admitted.0.found in
    subst (λ o. IfSome o (λ branch. (has_key c.args.key.now branch.keys || nat_lt (length branch.keys) most_touched) ≡ true)) (sym found)
    c.requires.admitted.0.room

pub add-requires : goal.add-requires
add-requires c = record {
  fits = λ writes.
      let few = subst (λ n. n < 2 ^ 63) c.len.ensures.value c.len.ensures.few in
      let held = held_small c.self.inside.places c.self.inside.branches c.self.invariant.1 few writes c.args.key.now in
      let keys = c.requires.admitted.0.branch.keys in
      let is = c.more-more.ensures ∙ ap (λ own. more_by own c.args.act) c.requires.admitted.1 ∙ more_is keys c.args.key.now c.args.act in
      let more = subst (λ h. uses_held writes h ≤ 1) (sym is) (more_small writes keys c.args.key.now c.args.act) in
      omega (arith, held, more);
}

pub invariant_of-self-then-is_err : goal.invariant_of-self-then-is_err
invariant_of-self-then-is_err c =
    let same = kept_on_err c.touch.result c.touch.new.self c.self.inside.branches (sym c.is_err.ensures.value ∙ c.if-is_err.true)
    c.touch.ensures.err in
    subst (IsKept c.leave.new.self) (sym same)
    (kept_back c.self.inside.places c.add.new.self c.leave.new.self c.self.inside.branches c.args.key.now c.more-more.result
    c.self.invariant c.in_ok-add.ensures.holds c.leave.ensures.holds)

pub returns-then-is_err-clause-err : goal.returns-then-is_err-clause-err
returns-then-is_err-clause-err c =
    let same = kept_on_err c.touch.result c.touch.new.self c.self.inside.branches (sym c.is_err.ensures.value ∙ c.if-is_err.true)
    c.touch.ensures.err in
    let rows = c.leave.ensures.rows ∙ c.in_ok-add.ensures.rows in
    (refl, (λ i. record { rows = rows i; branches = same i; looks = c.self.inside.looks }) ∙ c.self.view_is)

pub invariant_of-self-else-is_err : goal.invariant_of-self-else-is_err
invariant_of-self-else-is_err c =
    let x = c.args.xid.now in
    let key = c.args.key.now in
    let act = c.args.act in
    let old = c.self.inside.branches in
    let is = subst (λ t. IsAdmitted t.branches x (is_write act) key) (sym c.self.view_is) c.requires.admitted.0 in
    let replaced = given_on_ok c.touch.result
    (Replaces old c.touch.new.self x (branch_named old x) (option_map (with_act key act) (branch_named old x)))
    (sym c.is_err.ensures.value ∙ c.if-is_err.false) c.touch.ensures.ok in
    let b = c.requires.admitted.0.branch in
    let found = ap (λ t. branch_named t.branches x) c.self.view_is ∙ c.requires.admitted.0.found in
    let more = c.more-more.ensures ∙ ap (λ own. more_by own act) c.requires.admitted.1 ∙ more_is b.keys key act
    ∙ ap (λ keys. hold_more keys key act) (keys_same old x b is.branch found is.found) in
    kept_touched c.self.inside.places c.add.new.self old c.touch.new.self x key act c.self.invariant is
    (subst (AddsHolders c.self.inside.places c.add.new.self key) more c.in_ok-add.ensures.holds) replaced

pub returns-clause-ok : goal.returns-clause-ok
returns-clause-ok c =
    let x = c.args.xid.now in
    let old = c.self.inside.branches in
    let replaced = given_on_ok c.touch.result
    (Replaces old c.touch.new.self x (branch_named old x) (option_map (with_act c.args.key.now c.args.act) (branch_named old x)))
    (sym c.is_err.ensures.value ∙ c.if-is_err.false) c.touch.ensures.ok in
    rw (← c.self.view_is) (record { branches = replaced.only; rows = c.in_ok-add.ensures.rows; looks = refl })
