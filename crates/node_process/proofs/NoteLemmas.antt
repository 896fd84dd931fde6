-- What becomes known of branches by the items of a group, one after another.
use Rattle.std.proofs.Common.{◌≡◌, ◌<◌, ◌≤◌, ◌+◌, ◌∷◌, List, ℕ, length, drop, get_or, slice_get, refl, sym, ap, ◌∙◌, subst}
use Rattle.std.proofs.Math.ListN.{drop_of_length-le}
use Rattle.std.proofs.lemmas.List.{drop_more}
use Rattle.std.specs.declared.time.Instant.{Instant}
use Rattle.node_core.specs.declared.output.Output.{Output}
use Rattle.serving.specs.declared.branches.Branches.{Branches}
use Rattle.serving.specs.declared.group.Item.{Item}
use Rattle.serving.specs.Groups.{after_one, is_handed}
use Rattle.node_process.specs.Noting.{NotesAll, NotesOne}

-- no item is left
pub notes_all : (now : Instant) (items : List Item) (i : ℕ) (outs : List Output) (branches : Branches) → length items ≤ i
    → NotesAll now (drop i items) outs branches branches
notes_all now items i outs branches done =
    subst (λ (left : List Item). NotesAll now left outs branches branches) (sym (drop_of_length-le items done)) refl

-- the next item, and then those that are left
pub notes_next : (now : Instant) (items : List Item) (i : ℕ) (item : Item) (outs : List Output) (old mid new : Branches)
    → i < length items → item ≡ get_or items i item → NotesOne (is_handed item.work) now item (slice_get outs 0) old mid
    → NotesAll now (drop (i + 1) items) (after_one (is_handed item.work) outs) mid new → NotesAll now (drop i items) outs old new
notes_next now items i item outs old mid new below is first more =
    let here : item ∷ drop (i + 1) items ≡ drop i items = ap (λ (x : Item). x ∷ drop (i + 1) items) is
    ∙ sym (drop_more items i item below) in
    subst (λ (left : List Item). NotesAll now left outs old new) here (mid, first, more)
