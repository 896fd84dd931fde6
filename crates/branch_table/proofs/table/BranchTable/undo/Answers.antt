use Rattle.std.proofs.Common.{◌∙◌, ◌-◌, List, length, refl, sym, ap, subst}
use Rattle.branch_table.specs.Outcomes.{HasLooked, keys_named}
use Rattle.branch_table.specs.Parts.{branch_of, hold_at, uses_by, uses_held}
use Rattle.branch_table.proofs.OutcomeSteps.{keys_found, keys_none, looks_absent, looks_ended}
use Rattle.branch_table.proofs.TableKept.{kept_absent, kept_ended}
use Rattle.stable_record.specs.declared.fact.Touched.{Touched}
use Rattle.branch_table.proofs.table.BranchTable.undo.Goals as goal

pub invariant_of-self : goal.invariant_of-self
invariant_of-self c =
    kept_absent c.self.inside.places c.self.inside.branches c.remove.new.self c.args.xid.now c.self.invariant
    (sym c.in_default.ensures.value)
    c.remove.ensures.left

pub returns-in_default : goal.returns-in_default
returns-in_default c =
    let x = c.args.xid.now in
    let none = keys_none c.self.inside.branches x (sym c.in_default.ensures.value) in
    rw (← c.self.view_is)
    (record {
      left = record { branches = c.remove.ensures.left.only; rows = refl };
      looks = looks_absent c.self.inside.looks c.add.new.self (keys_named c.self.inside.branches x) c.add.ensures none;
    })

pub invariant_of-self-2 : goal.invariant_of-self-2
invariant_of-self-2 c =
    let x = c.args.xid.now in
    let b = branch_of x c.in-Some.branch in
    kept_ended c.self.inside.places c.let_go.new.self c.self.inside.branches c.remove.new.self x b c.self.invariant
    (sym c.in-Some.ensures.value) c.remove.ensures.left
    (λ writes key. c.let_go.ensures.holds writes key
    ∙ ap (λ keys. uses_held writes (hold_at c.self.inside.places key) - uses_by writes key keys) c.keys.ensures.value)

pub returns : goal.returns
returns c =
    let x = c.args.xid.now in
    let keys = keys_found c.self.inside.branches x (branch_of x c.in-Some.branch) (sym c.in-Some.ensures.value) in
    let looks = subst (λ (touched : List Touched). HasLooked c.self.inside.looks c.let_go.new.looks (length touched))
    (c.keys.ensures.value ∙ sym keys)
    (looks_ended c.self.inside.looks c.add.new.self c.add-2.new.self c.let_go.new.looks (length c.keys.result.now) c.add.ensures
    c.add-2.ensures
    c.let_go.ensures.looks) in
    rw (← c.self.view_is)
    (record { left = record { branches = c.remove.ensures.left.only; rows = c.let_go.ensures.rows }; looks = looks })
