use Rattle.std.proofs.Common.{sym, ap, subst, rules}
use Rattle.std.specs.List.{IsDistinct}
use Rattle.xid.specs.Names.{xid_eq}
use Rattle.branch_table.specs.Parts.{branch_of, Replaces}
use Rattle.branch_table.specs.TableStates.{branch_named, in_state}
use Rattle.std.specs.Option.{option_map}
use Rattle.branch_table.proofs.Found.{branches_of, not_absent, set_to}
use Rattle.branch_table.proofs.branches.Branches.set_state.Goals as goal

pub returns-in_default : goal.returns-in_default
returns-in_default c =
    absurd (not_absent c.self.inside.named.entries c.args.xid.now c.args.self.now c.self.view_is c.requires c.in_default.ensures.value)

pub returns : goal.returns
returns c =
    let x = c.args.xid.now in
    let v = c.in-Some.branch.now in
    let w = c.set_state.new.self in
    let new = (c.get_mut.follows.lender w).entries in
    let holds = c.get_mut.follows.holds w in
    let updates = holds.3 (search rules) in
    subst (λ bs. Replaces bs (branches_of new) x (branch_named bs x) (option_map (in_state c.args.state) (branch_named bs x)))
    c.self.view_is
    (set_to c.self.inside.named.entries new x v w (in_state c.args.state) (sym c.in-Some.ensures.value)
    (sym (ap (branch_of x) c.set_state.ensures)) holds.0 (updates.1, updates.2)
    (subst (IsDistinct xid_eq) (sym holds.1) c.get_mut.ensures.unique))
