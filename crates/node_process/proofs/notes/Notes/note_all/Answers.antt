use Rattle.std.proofs.Common.{◌+◌, Option, drop, slice_get, subst, arith}
use Rattle.node_core.specs.declared.output.Output.{Output}
use Rattle.serving.specs.Groups.{after_one, is_handed}
use Rattle.node_process.specs.Noting.{NotesAll, NotesOne}
use Rattle.node_process.proofs.NoteLemmas.{notes_all, notes_next}
use Rattle.node_process.proofs.notes.Notes.note_all.Goals as goal

pub returns : goal.returns
returns c =
    c.loop-item.invariant c.loop-item.self.branches
    (notes_all c.args.now c.args.items.now c.loop-item.item-index c.loop-item.left.now c.loop-item.self.branches (omega arith))

pub loop-item-preserved : goal.loop-item-preserved
loop-item-preserved c last more =
    let item = c.item-item.result in
    let left = c.loop-item.left.now in
    let one : NotesOne (is_handed item.work) c.args.now item (slice_get left 0) c.loop-item.self.branches c.note_one.new.self.branches =
    subst (λ (out : Option Output). NotesOne (is_handed item.work) c.args.now item out c.loop-item.self.branches
    c.note_one.new.self.branches) c.first.ensures.value c.in_ok-note_one.ensures in
    let rest : NotesAll c.args.now (drop (c.loop-item.item-index + 1) c.args.items.now) (after_one (is_handed item.work) left)
    c.note_one.new.self.branches last = rw (← c.is_handed.ensures, ← c.after_one-left.ensures) more in
    c.loop-item.invariant last
    (notes_next c.args.now c.args.items.now c.loop-item.item-index item left c.loop-item.self.branches c.note_one.new.self.branches last
    (omega arith) c.item-item.is one rest)
