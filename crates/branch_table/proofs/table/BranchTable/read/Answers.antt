use Rattle.std.proofs.Common.{◌≡◌, ◌∙◌, Some, None, sym, ap, subst}
use Rattle.std.specs.Prelude.{IfOk}
use Rattle.protocol.specs.declared.answers.Answer.TheVariants.{Value}
use Rattle.protocol.specs.Branches.{get_answer, read_of, row_at, value_after}
use Rattle.branch_table.specs.Parts.{branch_of}
use Rattle.branch_table.specs.TableStates.{branch_named}
use Rattle.branch_table.proofs.CallSteps.{shown}
use Rattle.branch_table.proofs.table.BranchTable.read.Goals as goal

pub returns-in_default-clause-ok : goal.returns-in_default-clause-ok
returns-in_default-clause-ok c =
    let x = c.args.xid.now in
    let t = c.args.self.now in
    let found = ap (λ u. branch_named u.branches x) (sym c.self.view_is) ∙ sym c.in_default.ensures in
    let is = ap (λ v. read_of t.rows v c.args.key.now) (shown t.branches x None found) in
    subst (λ value. IfOk c.read_row.result (λ answer. answer ≡ get_answer value)) (sym is) c.read_row.ensures.ok

pub returns-in_default-act_on-clause-ok : goal.returns-in_default-act_on-clause-ok
returns-in_default-act_on-clause-ok c =
    let x = c.args.xid.now in
    let t = c.args.self.now in
    let key = c.args.key.now in
    let found = ap (λ u. branch_named u.branches x) (sym c.self.view_is) ∙ sym c.in-Some.ensures in
    let is = ap (λ v. read_of t.rows v key) (shown t.branches x (Some (branch_of x c.in-Some.branch.now)) found)
    ∙ ap (λ act. value_after act (row_at t.rows key)) c.in_default-act_on.ensures.none in
    subst (λ value. IfOk c.read_row-in_default-act_on.result (λ answer. answer ≡ get_answer value)) (sym is)
    c.read_row-in_default-act_on.ensures.ok

pub returns-in_ok-copy_of-in-Put-clause-ok : goal.returns-in_ok-copy_of-in-Put-clause-ok
returns-in_ok-copy_of-in-Put-clause-ok c =
    let x = c.args.xid.now in
    let t = c.args.self.now in
    let key = c.args.key.now in
    let found = ap (λ u. branch_named u.branches x) (sym c.self.view_is) ∙ sym c.in-Some.ensures in
    let act = sym c.in-Some-act_on.ensures.some ∙ c.in-Put.is in
    let is = ap (λ v. read_of t.rows v key) (shown t.branches x (Some (branch_of x c.in-Some.branch.now)) found)
    ∙ ap (λ a. value_after a (row_at t.rows key)) act in
    ap Value (c.in_ok-copy_of-in-Put.ensures.ok ∙ c.as_slice.ensures) ∙ sym (ap get_answer is)

pub returns-in-Del-clause-ok : goal.returns-in-Del-clause-ok
returns-in-Del-clause-ok c =
    let x = c.args.xid.now in
    let t = c.args.self.now in
    let key = c.args.key.now in
    let found = ap (λ u. branch_named u.branches x) (sym c.self.view_is) ∙ sym c.in-Some.ensures in
    let act = sym c.in-Some-act_on.ensures.some ∙ c.in-Del.is in
    let is = ap (λ v. read_of t.rows v key) (shown t.branches x (Some (branch_of x c.in-Some.branch.now)) found)
    ∙ ap (λ a. value_after a (row_at t.rows key)) act in
    sym (ap get_answer is)

pub returns-in-Read-clause-ok : goal.returns-in-Read-clause-ok
returns-in-Read-clause-ok c =
    let x = c.args.xid.now in
    let t = c.args.self.now in
    let key = c.args.key.now in
    let found = ap (λ u. branch_named u.branches x) (sym c.self.view_is) ∙ sym c.in-Some.ensures in
    let act = sym c.in-Some-act_on.ensures.some ∙ c.in-Read.is in
    let is = ap (λ v. read_of t.rows v key) (shown t.branches x (Some (branch_of x c.in-Some.branch.now)) found)
    ∙ ap (λ a. value_after a (row_at t.rows key)) act in
    subst (λ value. IfOk c.read_row-in-Read.result (λ answer. answer ≡ get_answer value)) (sym is) c.read_row-in-Read.ensures.ok
