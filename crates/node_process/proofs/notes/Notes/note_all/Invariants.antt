use Rattle.std.proofs.Common.{drop}
use Rattle.serving.specs.declared.branches.Branches.{Branches}
use Rattle.node_process.specs.Noting.{NotesAll}
use Rattle.node_process.proofs.notes.Notes.note_all.Given as goal

-- where what is left becomes known too, all does
abbrev pub invariant-loop-item : goal.invariant-loop-item
invariant-loop-item l =
    (last : Branches) → NotesAll l.now (drop l.item-index l.items) l.left l.self.branches last
    → NotesAll l.now l.items l.outs l.fn.self.branches last
