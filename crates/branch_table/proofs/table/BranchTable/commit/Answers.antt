use Rattle.std.proofs.Common.{◌∙◌, ◌-◌, length, List, sym, ap, subst}
use Rattle.stable_record.specs.declared.fact.Touched.{Touched}
use Rattle.protocol.specs.Managers.{has_key}
use Rattle.protocol.specs.Tables.{with_writes}
use Rattle.branch_table.specs.Outcomes.{HasLooked, keys_named}
use Rattle.branch_table.specs.Parts.{branch_of, hold_at, table_of, uses_by, uses_held}
use Rattle.branch_table.proofs.OutcomeSteps.{keys_found, keys_none, looks_absent, looks_ended}
use Rattle.branch_table.proofs.TableKept.{held_there, kept_absent, kept_ended}
use Rattle.branch_table.proofs.table.BranchTable.commit.Goals as goal

pub invariant_of-self : goal.invariant_of-self
invariant_of-self c =
    kept_absent c.self.inside.places c.self.inside.branches c.remove.new.self c.args.xid.now c.self.invariant
    (sym c.in_default.ensures.value)
    c.remove.ensures.left

pub returns-in_default : goal.returns-in_default
returns-in_default c =
    let x = c.args.xid.now in
    let none = keys_none c.self.inside.branches x (sym c.in_default.ensures.value) in
    rw (← c.self.view_is)
    (record {
      branches = c.remove.ensures.left.only;
      rows = sym (ap (with_writes (table_of c.self.inside.places)) none);
      looks = looks_absent c.self.inside.looks c.add.new.self (keys_named c.self.inside.branches x) c.add.ensures none;
    })

pub settle-requires-clause-held : goal.settle-requires-clause-held
settle-requires-clause-held c =
    let b = branch_of c.args.xid.now c.in-Some.branch in
    λ key there. held_there c.self.inside.places c.self.inside.branches c.args.xid.now b c.self.invariant.1 (sym c.in-Some.ensures.value)
    key
    (ap (has_key key) (sym c.into_keys.ensures.value) ∙ there)

pub invariant_of-self-2 : goal.invariant_of-self-2
invariant_of-self-2 c =
    let x = c.args.xid.now in
    let b = branch_of x c.in-Some.branch in
    kept_ended c.self.inside.places c.settle.new.self c.self.inside.branches c.remove.new.self x b c.self.invariant
    (sym c.in-Some.ensures.value) c.remove.ensures.left
    (λ writes key. c.settle.ensures.holds writes key
    ∙ ap (λ keys. uses_held writes (hold_at c.self.inside.places key) - uses_by writes key keys) c.into_keys.ensures.value)

pub returns : goal.returns
returns c =
    let x = c.args.xid.now in
    let keys = c.into_keys.ensures.value
    ∙ sym (keys_found c.self.inside.branches x (branch_of x c.in-Some.branch) (sym c.in-Some.ensures.value)) in
    let looks = subst (λ (touched : List Touched). HasLooked c.self.inside.looks c.settle.new.looks (length touched)) keys
    (looks_ended c.self.inside.looks c.add.new.self c.add-2.new.self c.settle.new.looks (length c.into_keys.result.items) c.add.ensures
    c.add-2.ensures c.settle.ensures.looks) in
    rw (← c.self.view_is)
    (record {
      branches = c.remove.ensures.left.only;
      rows = c.settle.ensures.rows ∙ ap (with_writes (table_of c.self.inside.places)) keys;
      looks = looks;
    })
