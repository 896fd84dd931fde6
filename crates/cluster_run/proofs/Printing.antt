-- What is printed of a text, piece by piece: for the events of a run and for its end.
use Rattle.std.proofs.Common.{◌≡◌, ◌∙◌, ℕ, ◌<◌, List, [], ◌++◌, length, length-append, Option, Result, Ok, Err, refl, sym, ap}
use Rattle.std.proofs.Common.{subst, append_assoc, arith}
use Rattle.std.specs.Prelude.{IfErr}
use Rattle.std.proofs.lemmas.List.{append-nil}
use Rattle.std.proofs.KnownBytes.{Appends-nil, Appends-trans}
use Rattle.xid.specs.declared.refusals.Refusal.{Refusal}
use Rattle.net_script.specs.Writing.{BreaksOff}
use Rattle.cluster_run.specs.Running.{Printed, Prints, PrintsShort, so_far}

-- nothing is printed of no text
pub prints_none : (at : Printed) → Prints at at []
prints_none at = ([], append-nil at.piece, Appends-nil at.out)

-- one text after another
pub prints_more : (a b c : Printed) (text more : List ℕ) → Prints a b text → Prints b c more → Prints a c (text ++ more)
prints_more a b c text more (first, split, p) (then, split_then, q) = (
  first ++ then,
  sym (append_assoc a.piece text more) ∙ ap (λ (t : List ℕ). t ++ more) split ∙ append_assoc first b.piece more
      ∙ ap (λ (t : List ℕ). first ++ t) split_then ∙ sym (append_assoc first then c.piece),
  Appends-trans a.out b.out c.out first then p q,
)

-- a text joins the piece
pub prints_later : (before after text : List ℕ) (out : Option (List ℕ)) → after ≡ before ++ text
    → Prints (so_far before out) (so_far after out) text
prints_later before after text out is = ([], sym is, Appends-nil out)

-- nothing more is printed
pub prints_no_more : (at : Printed) (text : List ℕ) → PrintsShort at at.out text
prints_no_more at text = (at.piece ++ text, ([], refl, Appends-nil at.out))

-- a text that falls short after another
pub short_after : (a b : Printed) (out : Option (List ℕ)) (text more : List ℕ) → Prints a b text → PrintsShort b out more
    → PrintsShort a out (text ++ more)
short_after a b out text more p (rest, q) = (rest, prints_more a b (so_far rest out) text more p q)

-- a text that falls short, and more
pub short_before : (a : Printed) (out : Option (List ℕ)) (text more : List ℕ) → PrintsShort a out text → PrintsShort a out (text ++ more)
short_before a out text more (rest, p) =
    (rest ++ more, prints_more a (so_far rest out) (so_far (rest ++ more) out) text more p (prints_later rest (rest ++ more) more out refl))

-- a text that falls short breaks off where more follows it
pub breaks_off : (old new : Option (List ℕ)) (text more : List ℕ) → PrintsShort (so_far [] old) new text → 0 < length more
    → BreaksOff old new (text ++ more)
breaks_off old new text more (rest, (written, split, p)) some = (
  written,
  rest ++ more,
  ap (λ (t : List ℕ). t ++ more) split ∙ append_assoc written rest more,
  subst (λ (n : ℕ). 0 < n) (sym (length-append rest more)) (omega (arith, some)),
  p,
)

-- what follows of an error
pub if_err_more : {X : Type 0} (P Q : Refusal → Type 0) (result : Result X Refusal) → ((e : Refusal) → P e → Q e) → IfErr result P
    → IfErr result Q
if_err_more P Q (Ok x) more p = tt
if_err_more P Q (Err e) more p = more e p
