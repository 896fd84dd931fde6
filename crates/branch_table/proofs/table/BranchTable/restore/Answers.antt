use Rattle.std.proofs.Common.{◌≡◌, ◌∙◌, ◌+◌, ◌<◌, Some, None, Bool, List, ℕ, refl, sym, ap, subst, arith, inl, inr, ◌^◌}
use Rattle.std.specs.Prelude.{is_some}
use Rattle.stable_record.specs.declared.fact.Touched.{Touched}
use Rattle.protocol.specs.declared.rows.Row.{Row}
use Rattle.protocol.specs.declared.states.BranchState.{BranchState}
use Rattle.branch_table.specs.Outcomes.{AreHindered, prepared_branch}
use Rattle.branch_table.specs.Parts.{Replaces, branch_of, hold_at, uses_by, uses_held}
use Rattle.branch_table.specs.TableStates.{ChangesOnly, TableState, branch_named, in_state}
use Rattle.branch_table.proofs.PlaceTable.{given_on_err, given_on_ok, kept_on_err}
use Rattle.branch_table.proofs.TableKept.{could_idle, held_small, kept_prepared, kept_state, refused_hindered, refused_keys, refused_state}
use Rattle.branch_table.proofs.TableKept.{same_kept, was_found}
use Rattle.std.proofs.lemmas.Bool.{both_ways}
use Rattle.branch_table.proofs.table.BranchTable.restore.Goals as goal

pub returns-then-not-is_idle-clause-err : goal.returns-then-not-is_idle-clause-err
returns-then-not-is_idle-clause-err c =
    let x = c.args.xid.now in
    let found = ap (λ t. branch_named t.branches x) (sym c.self.view_is) ∙ sym c.in-Some.ensures in (
      inl (
        refl,
        refused_state c.args.self.now.branches x (branch_of x c.in-Some.branch.now) c.args.keys.now found
            (sym c.if-not-is_idle.ensures),
      ),
      refl,
    )

pub returns-then-not-has_just-clause-err : goal.returns-then-not-has_just-clause-err
returns-then-not-has_just-clause-err c =
    let x = c.args.xid.now in
    let found = ap (λ t. branch_named t.branches x) (sym c.self.view_is) ∙ sym c.in-Some.ensures in (
      inl (
        refl,
        refused_keys c.args.self.now.branches x (branch_of x c.in-Some.branch.now) c.args.keys.now found
            (λ same. both_ways c.has_just.result c.if-not-has_just.true (c.has_just.ensures.1 same)),
      ),
      refl,
    )

pub set_state-requires : goal.set_state-requires
set_state-requires c = ap is_some (sym c.in-Some.ensures)

pub invariant_of-self : goal.invariant_of-self
invariant_of-self c =
    let x = c.args.xid.now in
    kept_state c.self.inside.places c.self.inside.branches c.set_state.new.self x (branch_of x c.in-Some.branch.now) BranchState.Prepared
    c.self.invariant (sym c.in-Some.ensures) c.set_state.ensures

pub returns-in-Some-clause-ok : goal.returns-in-Some-clause-ok
returns-in-Some-clause-ok c =
    let x = c.args.xid.now in
    let b = c.in-Some.branch.now in
    let old = c.self.inside.branches in
    let same = c.has_just.ensures.0 c.if-not-has_just.false in
    let is =
    was_found old c.set_state.new.self x (branch_of x b) (in_state BranchState.Prepared) (sym c.in-Some.ensures) c.set_state.ensures in
    rw (← c.self.view_is)
    (record {
      could = could_idle old x b.state b.keys c.args.keys.now (sym c.in-Some.ensures) (sym c.if-not-is_idle.ensures) same;
      left = record {
        branches = subst (λ (keys : List Touched). ChangesOnly old c.set_state.new.self x (Some (prepared_branch x keys))) same is.only;
        rows = refl;
      };
      looks = refl;
    })

pub returns-then-are_hindered-clause-err : goal.returns-then-are_hindered-clause-err
returns-then-are_hindered-clause-err c =
    let x = c.args.xid.now in
    let none = ap (λ t. branch_named t.branches x) (sym c.self.view_is) ∙ sym c.in_default.ensures in (
      inl (
        refl,
        refused_hindered c.args.self.now.branches x c.args.keys.now none
            ((c.are_hindered.ensures x none).0 c.if-are_hindered.true),
      ),
      refl,
    )

pub returns-in_default-prepared-clause-err : goal.returns-in_default-prepared-clause-err
returns-in_default-prepared-clause-err c =
    let x = c.args.xid.now in
    let none = ap (λ t. branch_named t.branches x) (sym c.self.view_is) ∙ sym c.in_default.ensures in
    let free : AreHindered c.args.self.now.branches x c.args.keys.now → ⊥ =
    λ is. both_ways c.are_hindered.result c.if-are_hindered.false ((c.are_hindered.ensures x none).1 is) in
    (inr (refl, inr (none, free), none), refl)

pub hold-requires-clause-fits : goal.hold-requires-clause-fits
hold-requires-clause-fits c =
    held_small c.self.inside.places c.self.inside.branches c.self.invariant.1
    (subst (λ n. n < 2 ^ 63) c.len.ensures.value c.len.ensures.few)

pub invariant_of-self-then-is_err : goal.invariant_of-self-then-is_err
invariant_of-self-then-is_err c =
    let same = given_on_err c.hold.result
    ((writes : Bool) (key : List ℕ) → uses_held writes (hold_at c.hold.new.self key) ≡ uses_held writes (hold_at c.self.inside.places key))
    (sym c.is_err.ensures.value ∙ c.if-is_err.true) c.hold.ensures.err in
    same_kept c.self.inside.places c.hold.new.self c.self.inside.branches c.self.inside.branches c.self.invariant refl same

pub returns-then-is_err-clause-err : goal.returns-then-is_err-clause-err
returns-then-is_err-clause-err c =
    let x = c.args.xid.now in
    let none = ap (λ t. branch_named t.branches x) (sym c.self.view_is) ∙ sym c.in_default.ensures in
    let free : AreHindered c.args.self.now.branches x c.args.keys.now → ⊥ =
    λ is. both_ways c.are_hindered.result c.if-are_hindered.false ((c.are_hindered.ensures x none).1 is) in
    let view : List Row → TableState = λ rows. record { rows = rows; branches = c.self.inside.branches; looks = c.self.inside.looks } in
    (inr (refl, inr (none, free), none), ap view c.hold.ensures.rows ∙ c.self.view_is)

pub invariant_of-self-then-is_err-2 : goal.invariant_of-self-then-is_err-2
invariant_of-self-then-is_err-2 c =
    let same = kept_on_err c.add.result c.add.new.self c.self.inside.branches (sym c.is_err-2.ensures.value ∙ c.if-is_err-2.true)
    c.add.ensures.err in
    let held = given_on_ok c.hold.result
    ((writes : Bool) (key : List ℕ) → uses_held writes (hold_at c.hold.new.self key)
    ≡ uses_held writes (hold_at c.self.inside.places key) + uses_by writes key c.args.keys.now)
    (sym c.is_err.ensures.value ∙ c.if-is_err.false) c.hold.ensures.ok in
    same_kept c.self.inside.places c.let_go.new.self c.self.inside.branches c.add.new.self c.self.invariant same
    (λ writes key.
    let more = held writes key in
    let less = c.let_go.ensures.holds writes key in
    omega (arith, more, less))

pub returns-then-is_err-2-clause-err : goal.returns-then-is_err-2-clause-err
returns-then-is_err-2-clause-err c =
    let x = c.args.xid.now in
    let same = kept_on_err c.add.result c.add.new.self c.self.inside.branches (sym c.is_err-2.ensures.value ∙ c.if-is_err-2.true)
    c.add.ensures.err in
    let none = ap (λ t. branch_named t.branches x) (sym c.self.view_is) ∙ sym c.in_default.ensures in
    let free : AreHindered c.args.self.now.branches x c.args.keys.now → ⊥ =
    λ is. both_ways c.are_hindered.result c.if-are_hindered.false ((c.are_hindered.ensures x none).1 is) in
    let rows = c.let_go.ensures.rows ∙ c.hold.ensures.rows in (
      inr (refl, inr (none, free), none),
      (λ i. record { rows = rows i; branches = same i; looks = c.self.inside.looks }) ∙ c.self.view_is,
    )

pub invariant_of-self-else-is_err-2 : goal.invariant_of-self-else-is_err-2
invariant_of-self-else-is_err-2 c =
    let x = c.args.xid.now in
    let keys = c.args.keys.now in
    let old = c.self.inside.branches in
    let none = ap (λ t. branch_named t.branches x) (sym c.self.view_is) ∙ sym c.in_default.ensures in
    let free : AreHindered c.args.self.now.branches x keys → ⊥ =
    λ is. both_ways c.are_hindered.result c.if-are_hindered.false ((c.are_hindered.ensures x none).1 is) in
    let replaced = given_on_ok c.add.result (Replaces old c.add.new.self x None (Some (branch_of x c.in-Ok.branch)))
    (sym c.is_err-2.ensures.value ∙ c.if-is_err-2.false) c.add.ensures.ok in
    let held = given_on_ok c.hold.result
    ((writes : Bool) (key : List ℕ) → uses_held writes (hold_at c.hold.new.self key)
    ≡ uses_held writes (hold_at c.self.inside.places key) + uses_by writes key keys)
    (sym c.is_err.ensures.value ∙ c.if-is_err.false) c.hold.ensures.ok in
    kept_prepared c.self.inside.places c.hold.new.self old c.add.new.self x keys c.self.invariant
    (subst (λ (t : TableState). AreHindered t.branches x keys → ⊥) (sym c.self.view_is) free)
    (subst (λ b. Replaces old c.add.new.self x None (Some (branch_of x b))) c.in-Ok.ensures.ok replaced) held

pub returns-clause-ok : goal.returns-clause-ok
returns-clause-ok c =
    let x = c.args.xid.now in
    let keys = c.args.keys.now in
    let old = c.self.inside.branches in
    let none = ap (λ t. branch_named t.branches x) (sym c.self.view_is) ∙ sym c.in_default.ensures in
    let free : AreHindered c.args.self.now.branches x keys → ⊥ =
    λ is. both_ways c.are_hindered.result c.if-are_hindered.false ((c.are_hindered.ensures x none).1 is) in
    let replaced = given_on_ok c.add.result (Replaces old c.add.new.self x None (Some (branch_of x c.in-Ok.branch)))
    (sym c.is_err-2.ensures.value ∙ c.if-is_err-2.false) c.add.ensures.ok in
    let made = subst (λ b. Replaces old c.add.new.self x None (Some (branch_of x b))) c.in-Ok.ensures.ok replaced in
    let apart = subst (λ (t : TableState). AreHindered t.branches x keys → ⊥) (sym c.self.view_is) free in
    rw (← c.self.view_is)
    (record {
      could = inr (sym c.in_default.ensures, apart);
      left = record { branches = made.only; rows = c.hold.ensures.rows };
      looks = refl;
    })
