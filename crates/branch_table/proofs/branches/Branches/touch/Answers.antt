use Rattle.std.proofs.Common.{◌≡◌, ◌∙◌, true, sym, ap, subst, ◌||◌, rules, length}
use Rattle.std.specs.List.{IsDistinct}
use Rattle.std.specs.Option.{option_map}
use Rattle.std.specs.Prelude.{IfSome, nat_lt}
use Rattle.std.proofs.lemmas.Map.Steps.{set_value_same}
use Rattle.xid.specs.Limits.{most_touched}
use Rattle.xid.specs.Names.{xid_eq}
use Rattle.protocol.specs.Managers.{has_key, with_touched}
use Rattle.branch_table.specs.Parts.{branch_of, Replaces}
use Rattle.branch_table.specs.TableStates.{branch_named, with_act}
use Rattle.branch_table.proofs.Found.{branches_of, named_from, not_absent, set_to}
use Rattle.branch_table.proofs.PlaceTable.{on_err, on_ok}
use Rattle.std.specs.Map.{set_value}
use Rattle.branch_table.proofs.branches.Branches.touch.Goals as goal

pub touch-requires-clause-room : goal.touch-requires-clause-room
touch-requires-clause-room c =
    let x = c.args.xid.now in
    let found = ap (λ bs. branch_named bs x) (sym c.self.view_is) ∙ named_from c.self.inside.named.entries x
    ∙ ap (option_map (branch_of x)) (sym c.in-Some.ensures.value) in
    subst (λ o. IfSome o (λ branch. (has_key c.args.key.now branch.keys || nat_lt (length branch.keys) most_touched) ≡ true)) found
    c.requires.room

pub returns-in_default-clause-ok : goal.returns-in_default-clause-ok
returns-in_default-clause-ok c =
    absurd (not_absent c.self.inside.named.entries c.args.xid.now c.args.self.now c.self.view_is c.requires.found
    c.in_default.ensures.value)

pub returns-clause-ok : goal.returns-clause-ok
returns-clause-ok c =
    let x = c.args.xid.now in
    let v = c.in-Some.branch.now in
    let w = c.touch.new.self in
    let new = (c.get_mut.follows.lender w).entries in
    let holds = c.get_mut.follows.holds w in
    let updates = holds.3 (search rules) in
    let act = with_act c.args.key.now c.args.act in
    on_ok c.touch.result (w ≡ record v { keys = with_touched v.keys c.args.key.now c.args.act })
    (Replaces c.args.self.now (branches_of new) x (branch_named c.args.self.now x) (option_map act (branch_named c.args.self.now x)))
    (λ is. subst (λ bs. Replaces bs (branches_of new) x (branch_named bs x) (option_map act (branch_named bs x))) c.self.view_is
    (set_to c.self.inside.named.entries new x v w act (sym c.in-Some.ensures.value) (sym (ap (branch_of x) is)) holds.0
    (updates.1, updates.2)
    (subst (IsDistinct xid_eq) (sym holds.1) c.get_mut.ensures.unique)))
    c.touch.ensures.ok

pub returns-clause-err : goal.returns-clause-err
returns-clause-err c =
    let x = c.args.xid.now in
    let v = c.in-Some.branch.now in
    let w = c.touch.new.self in
    let new = (c.get_mut.follows.lender w).entries in
    let old = c.self.inside.named.entries in
    on_err c.touch.result (w ≡ v) (branches_of new ≡ c.args.self.now)
    (λ is. ap branches_of ((c.get_mut.follows.holds w).0 ∙ ap (set_value (xid_eq x) old) is
    ∙ set_value_same (xid_eq x) old v (sym c.in-Some.ensures.value)) ∙ c.self.view_is)
    c.touch.ensures.err
