-- The lines that are left of a text: the step and the end of the loop that draws them.
use Rattle.std.proofs.Common.{◌≡◌, ℕ, ◌<◌, List, [], ◌∷◌, ◌++◌, true, refl, sym, ap, ◌∙◌, append_assoc, length}
use Rattle.xid.specs.Text.{lacks}
use Rattle.net_script.specs.Lines.{lines}
use Rattle.net_script.proofs.WordLemmas.{last_piece, marked_piece}
use Rattle.picture.specs.declared.elements.Element.{Element}
use Rattle.picture.specs.Drawing.{line_elements, lines_elements, next_line}

append_none : (xs : List Element) → xs ++ [] ≡ xs
append_none [] = refl
append_none (x ∷ xs) = ap (λ (ys : List Element). x ∷ ys) (append_none xs)

-- a line that has its end is drawn
pub line_step : (number next : ℕ) (text line rest : List ℕ) (all out drawn : List Element)
    → (text ≡ line ++ 10 ∷ rest) × (lacks 10 line ≡ true) → all ≡ out ++ lines_elements number (lines text)
    → drawn ≡ out ++ line_elements number line → next ≡ next_line number → all ≡ drawn ++ lines_elements next (lines rest)
line_step number next text line rest all out drawn cut before now next_is =
    let first : lines text ≡ line ∷ lines rest = (marked_piece 10 text line rest cut).cut in
    before ∙ ap (λ (ls : List (List ℕ)). out ++ lines_elements number ls) first
    ∙ sym (append_assoc out (line_elements number line) (lines_elements (next_line number) (lines rest)))
    ∙ ap (λ (es : List Element). es ++ lines_elements (next_line number) (lines rest)) (sym now)
    ∙ ap (λ (n : ℕ). drawn ++ lines_elements n (lines rest)) (sym next_is)

-- the last line, which lacks its end, is drawn
pub last_step : (number : ℕ) (text : List ℕ) (all out drawn : List Element) → 0 < length text → lacks 10 text ≡ true
    → all ≡ out ++ lines_elements number (lines text) → drawn ≡ out ++ line_elements number text → drawn ≡ all
last_step number text all out drawn some whole before now =
    let first : lines text ≡ text ∷ lines [] = (last_piece 10 text some whole).cut in
    now ∙ ap (λ (es : List Element). out ++ es) (sym (append_none (line_elements number text)))
    ∙ ap (λ (ls : List (List ℕ)). out ++ lines_elements number ls) (sym first) ∙ sym before
