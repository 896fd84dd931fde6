-- Words of which a part stands as it is: for what writes them piece by piece.
use Rattle.std.proofs.Common.{◌≡◌, ◌∙◌, ℕ, List, [], ◌∷◌, ◌++◌, Bool, true, false, cond, eqb, leb, ◌&&◌, length, refl, sym, ap, arith}
use Rattle.std.proofs.Common.{append_assoc}
use Rattle.std.specs.Prelude.{not}
use Rattle.std.specs.List.{list_all}
use Rattle.std.proofs.lemmas.List.Concat.{flat_map-append}
use Rattle.picture.specs.Elements.{escaped, escaped_byte, is_plain}

-- what a plain byte isn't, and that it is printed
plain_tests : (above below lt gt quote amp : Bool) → (above && below && not lt && not gt && not quote && not amp) ≡ true
    → (amp ≡ false) × (lt ≡ false) × (gt ≡ false) × (quote ≡ false) × ((above && below) ≡ true)
plain_tests false below lt gt quote amp e = absurd (cc (e))
plain_tests true false lt gt quote amp e = absurd (cc (e))
plain_tests true true true gt quote amp e = absurd (cc (e))
plain_tests true true false true quote amp e = absurd (cc (e))
plain_tests true true false false true amp e = absurd (cc (e))
plain_tests true true false false false true e = absurd (cc (e))
plain_tests true true false false false false e = (refl, refl, refl, refl, refl)

-- the fifth of six texts, by five tests
fifth : (amp lt gt quote printed : Bool) → amp ≡ false → lt ≡ false → gt ≡ false → quote ≡ false → printed ≡ true
    → (us bs cs ds es fs : List ℕ) → cond amp us (cond lt bs (cond gt cs (cond quote ds (cond printed es fs)))) ≡ es
fifth amp lt gt quote printed a l g q p us bs cs ds es fs =
    λ i. cond (a i) us (cond (l i) bs (cond (g i) cs (cond (q i) ds (cond (p i) es fs))))

plain_byte : (byte : ℕ) → is_plain byte ≡ true → escaped_byte byte ≡ byte ∷ []
plain_byte byte is =
    let tests = plain_tests (leb 32 byte) (leb byte 126) (eqb byte 60) (eqb byte 62) (eqb byte 39) (eqb byte 38) is in
    fifth (eqb byte 38) (eqb byte 60) (eqb byte 62) (eqb byte 39) (leb 32 byte && leb byte 126) tests.0 tests.1 tests.2 tests.3 tests.4
    _ _ _ _ _ _

plain_as_is : (words : List ℕ) → list_all is_plain words ≡ true → escaped words ≡ words
plain_as_is [] all = refl
plain_as_is (byte ∷ words) all = by (is_plain byte) refl all (plain_as_is words)
  where
    by : (b : Bool) → is_plain byte ≡ b → (b && list_all is_plain words) ≡ true → (list_all is_plain words ≡ true → escaped words ≡ words)
        → escaped_byte byte ++ escaped words ≡ byte ∷ words
    by true is rest then = (λ i. plain_byte byte is i ++ then rest i)
    by false is rest then = absurd (cc (rest))

-- what stands, and a part that stands as it is
plain_first : (out plain rest : List ℕ) → list_all is_plain plain ≡ true → (out ++ plain) ++ escaped rest ≡ out ++ escaped (plain ++ rest)
plain_first out plain rest all =
    append_assoc out plain (escaped rest)
    ∙ ap (λ xs. out ++ xs) (ap (λ xs. xs ++ escaped rest) (sym (plain_as_is plain all)) ∙ sym (flat_map-append escaped_byte plain rest))

append_none : (xs : List ℕ) → xs ++ [] ≡ xs
append_none [] = refl
append_none (x ∷ xs) = ap (λ ys. x ∷ ys) (append_none xs)

nothing : (xs : List ℕ) → length xs ≡ 0 → xs ≡ []
nothing [] e = refl
nothing (x ∷ xs) e = absurd (omega (arith, e))

module _ (base words out rest plain behind : List ℕ) (all : list_all is_plain plain ≡ true) (is : rest ≡ plain ++ behind)
    (so_far : out ++ escaped rest ≡ base ++ escaped words) where
  -- all words are written where the last part of them stands as it is
  pub plain_last : (new : List ℕ) → length behind ≡ 0 → new ≡ out ++ plain → new ≡ base ++ escaped words
  plain_last new none written =
      let whole : rest ≡ plain = is ∙ ap (λ xs. plain ++ xs) (nothing behind none) ∙ append_none plain in
      written ∙ ap (λ xs. out ++ xs) (sym (plain_as_is plain all) ∙ ap escaped (sym whole)) ∙ so_far

  -- one part more is written, and the byte behind it
  pub plain_more : (middle new : List ℕ) (byte : ℕ) (after : List ℕ) → behind ≡ byte ∷ after → middle ≡ out ++ plain
      → new ≡ middle ++ escaped_byte byte → new ++ escaped after ≡ base ++ escaped words
  plain_more middle new byte after next written escapes =
      ap (λ xs. xs ++ escaped after) escapes ∙ append_assoc middle (escaped_byte byte) (escaped after)
      ∙ (λ i. written i ++ escaped (sym next i)) ∙ plain_first out plain behind all ∙ ap (λ xs. out ++ escaped xs) (sym is) ∙ so_far
