use Rattle.std.proofs.Common.{◌∙◌, sym}
use Rattle.branch_table.proofs.Uses.{hold_by_act, hold_of_none}
use Rattle.branch_table.proofs.branch.Branch.hold_on.Goals as goal

pub returns-in-Some : goal.returns-in-Some
returns-in-Some c =
    c.by.ensures ∙ hold_by_act c.args.self.now.keys c.args.key.now c.in-Some.act.now c.in-Some.ensures.some (sym c.in-Some.ensures.touched)

pub returns-in-None : goal.returns-in-None
returns-in-None c =
    c.free.ensures ∙ hold_of_none c.args.self.now.keys c.args.key.now c.in-None.ensures.none (sym c.in-None.ensures.touched)
