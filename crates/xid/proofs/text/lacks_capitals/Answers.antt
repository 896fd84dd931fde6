use Rattle.std.proofs.Common.{◌≡◌, ◌∙◌, ◌&&◌, List, ℕ, take, drop, sym, ap}
use Rattle.std.specs.List.{list_all}
use Rattle.std.proofs.lemmas.List.{take-append-drop}
use Rattle.std.proofs.lemmas.List.Folds.{list_all-append}
use Rattle.xid.specs.Text.{is_no_capital}
use Rattle.xid.proofs.text.lacks_capitals.Goals as goal

-- what a piece and the text behind it have none of, the whole has none of
by_parts : (rest piece after : List ℕ) → piece ≡ take 64 rest → after ≡ drop 64 rest
    → list_all is_no_capital rest ≡ (list_all is_no_capital piece && list_all is_no_capital after)
by_parts rest piece after front back =
    rw front (rw back (ap (list_all is_no_capital) (sym (take-append-drop 64 rest))
    ∙ list_all-append is_no_capital (take 64 rest) (drop 64 rest)))

pub returns-then-not-piece_lacks_capitals : goal.returns-then-not-piece_lacks_capitals
returns-then-not-piece_lacks_capitals c =
    let after = c.split_at.result.1.now in
    sym (c.loop-rest.invariant
    ∙ by_parts c.loop-rest.rest.now c.split_at.result.0.now after c.split_at.ensures.front c.split_at.ensures.back
    ∙ ap (λ b. b && list_all is_no_capital after) (sym c.piece_lacks_capitals.ensures ∙ c.if-not-piece_lacks_capitals.true))

pub loop-rest-preserved : goal.loop-rest-preserved
loop-rest-preserved c =
    let after = c.split_at.result.1.now in
    c.loop-rest.invariant
    ∙ by_parts c.loop-rest.rest.now c.split_at.result.0.now after c.split_at.ensures.front c.split_at.ensures.back
    ∙ ap (λ b. b && list_all is_no_capital after) (sym c.piece_lacks_capitals.ensures ∙ c.if-not-piece_lacks_capitals.false)
