use Rattle.std.proofs.Common.{◌≡◌, ◌<◌, ℕ, None, get_or}
use Rattle.xid.specs.Names.{XidParts}
use Rattle.stable_record.specs.declared.fact.Touched.{Touched}
use Rattle.protocol.specs.Branches.{hinders_use, is_write}
use Rattle.protocol.specs.Managers.{view_named}
use Rattle.branch_table.specs.OneCall.{IsHindered}
use Rattle.branch_table.specs.TableStates.{branch_named}
use Rattle.branch_table.proofs.table.BranchTable.are_hindered.Given as goal

abbrev pub invariant-loop-touched : goal.invariant-loop-touched
invariant-loop-touched l = (x : XidParts) → branch_named l.self.branches x ≡ None → (k : ℕ) (d : Touched) → k < l.touched-index
    → IsHindered (hinders_use (is_write (get_or l.keys k d).act) (get_or l.keys k d).key) (view_named l.self.branches) x → ⊥
