-- Words whose bytes are tested, lines of words with one space between them, and texts of such lines: for readers of lines.
use Rattle.std.proofs.Common.{◌≡◌, ℕ, Bool, true, not, eqb, List, [], ◌∷◌, refl, false, ◌&&◌, cond, ◌⊎◌, inl, inr, ◌++◌, drop, sym, ap, ◌∙◌}
use Rattle.std.proofs.Common.{codes, eqb-true}
use Rattle.std.specs.List.{AllByRecursion, list_all, filter, onto_first}
use Rattle.xid.specs.Text.{lacks}
use Rattle.xid.proofs.Texts.{first_true, second_true, both_true}
use Rattle.net_script.specs.Spelling.{is_clean, is_common, IsClean, IsCommon}
use Rattle.std.proofs.lemmas.Bool.{not-true}
use Rattle.std.proofs.lemmas.List.{append-nil, append_assoc}
use Rattle.std.proofs.lemmas.List.Concat.{flat_map-append}
use Rattle.net_script.specs.Lines.{pieces, words, is_word}
use Rattle.net_script.specs.Traces.{spaced_words, joined_words}
use Rattle.net_script.specs.TraceLines.{is_tidy_after, is_tidy}
use Rattle.net_script.proofs.WordLemmas.{pieces-cut, pieces-whole}

pub list_all_weaker : {X : Type 0} (p q : X → Bool) → ((x : X) → p x ≡ true → q x ≡ true) → (xs : List X) → list_all p xs ≡ true
    → list_all q xs ≡ true
list_all_weaker p q weaker [] h = refl
list_all_weaker p q weaker (x ∷ xs) h =
    both_true (q x) (list_all q xs) (weaker x (first_true (p x) (list_all p xs) h))
    (list_all_weaker p q weaker xs (second_true (p x) (list_all p xs) h))

common_is_clean : (b : ℕ) → is_common b ≡ true → is_clean b ≡ true
common_is_clean b h = second_true (not (eqb b 62)) (is_clean b) h

pub clean : (w : List ℕ) → IsCommon w → IsClean w
clean w is = record { some = is.some; bytes = list_all_weaker is_common is_clean common_is_clean w is.bytes }

pub all_clean : (ws : List (List ℕ)) → AllByRecursion IsCommon ws → AllByRecursion IsClean ws
all_clean [] are = tt
all_clean (w ∷ ws) are = (clean w are.0, all_clean ws are.1)

pub lacks_space : (w : List ℕ) → list_all is_clean w ≡ true → lacks 32 w ≡ true
lacks_space w h =
    list_all_weaker is_clean (λ b. not (eqb b 32)) (λ b is. second_true (not (eqb b 10)) (not (eqb b 32)) is) w h

pub lacks_end : (w : List ℕ) → list_all is_clean w ≡ true → lacks 10 w ≡ true
lacks_end w h =
    list_all_weaker is_clean (λ b. not (eqb b 10)) (λ b is. first_true (not (eqb b 10)) (not (eqb b 32)) is) w h

pub lacks_head : (w : List ℕ) → list_all is_common w ≡ true → lacks 62 w ≡ true
lacks_head w h = list_all_weaker is_common (λ b. not (eqb b 62)) (λ b is. first_true (not (eqb b 62)) (is_clean b) is) w h

pub either : (b : Bool) → (b ≡ true) ⊎ (b ≡ false)
either true = inl refl
either false = inr refl

-- ---- from words to a line, and back

words_one : (w : List ℕ) → IsClean w → words w ≡ w ∷ []
words_one [] is = absurd (cc (is.some))
words_one (x ∷ w) is = ap (filter is_word) (pieces-whole 32 x w (lacks_space (x ∷ w) is.bytes))

words_cut : (w rest : List ℕ) → IsClean w → words (w ++ 32 ∷ rest) ≡ w ∷ words rest
words_cut [] rest is = absurd (cc (is.some))
words_cut (x ∷ w) rest is = ap (filter is_word) (pieces-cut 32 (x ∷ w) rest (lacks_space (x ∷ w) is.bytes))

pub words_joined : (w : List ℕ) (ws : List (List ℕ)) → IsClean w → AllByRecursion IsClean ws → words (joined_words (w ∷ ws)) ≡ w ∷ ws
words_joined w [] is are = ap words (append-nil w) ∙ words_one w is
words_joined w (v ∷ ws) is are =
    words_cut w (joined_words (v ∷ ws)) is ∙ ap (λ (l : List (List ℕ)). w ∷ l) (words_joined v ws are.0 are.1)

-- bytes that are no spaces
tidy_bytes : (w rest : List ℕ) → list_all is_clean w ≡ true → is_tidy_after false (w ++ rest) ≡ is_tidy_after false rest
tidy_bytes [] rest h = refl
tidy_bytes (x ∷ w) rest h =
    let this = first_true (is_clean x) (list_all is_clean w) h in
    let other : eqb x 32 ≡ false = not-true (eqb x 32) (second_true (not (eqb x 10)) (not (eqb x 32)) this) in
    ap (λ (b : Bool). cond b (not false && is_tidy_after true (w ++ rest)) (is_tidy_after false (w ++ rest))) other
    ∙ tidy_bytes w rest (second_true (is_clean x) (list_all is_clean w) h)

tidy_word : (spaced : Bool) (w rest : List ℕ) → IsClean w → is_tidy_after spaced (w ++ rest) ≡ is_tidy_after false rest
tidy_word spaced [] rest is = absurd (cc (is.some))
tidy_word spaced (x ∷ w) rest is =
    let this = first_true (is_clean x) (list_all is_clean w) is.bytes in
    let other : eqb x 32 ≡ false = not-true (eqb x 32) (second_true (not (eqb x 10)) (not (eqb x 32)) this) in
    ap (λ (b : Bool). cond b (not spaced && is_tidy_after true (w ++ rest)) (is_tidy_after false (w ++ rest))) other
    ∙ tidy_bytes w rest (second_true (is_clean x) (list_all is_clean w) is.bytes)

pub tidy_joined : (spaced : Bool) (w : List ℕ) (ws : List (List ℕ)) → IsClean w → AllByRecursion IsClean ws
    → is_tidy_after spaced (joined_words (w ∷ ws)) ≡ true
tidy_joined spaced w [] is are = tidy_word spaced w [] is
tidy_joined spaced w (v ∷ ws) is are = tidy_word spaced w (32 ∷ joined_words (v ∷ ws)) is ∙ tidy_joined true v ws are.0 are.1

-- ---- a tidy line is its words with spaces between

onto_words : (x y : ℕ) (ps : List (List ℕ))
    → filter is_word (onto_first x (onto_first y ps)) ≡ onto_first x (filter is_word (onto_first y ps))
onto_words x y [] = refl
onto_words x y (p ∷ ps) = refl

spaced_onto : (x : ℕ) (ws : List (List ℕ)) (l : List ℕ) → spaced_words ws ≡ 32 ∷ l → spaced_words (onto_first x ws) ≡ 32 ∷ x ∷ l
spaced_onto x [] l e = absurd (cc)
spaced_onto x (w ∷ ws) l e =
    let rest : w ++ spaced_words ws ≡ l = ap (drop 1) e in
    ap (λ (t : List ℕ). 32 ∷ x ∷ t) rest

-- as after a space, and as within a word
record SpacedOut (line : List ℕ) : Type 0 where
  after_space : is_tidy_after true line ≡ true → spaced_words (words line) ≡ 32 ∷ line
  within : (x : ℕ) → eqb x 32 ≡ false → is_tidy_after false line ≡ true → spaced_words (words (x ∷ line)) ≡ 32 ∷ x ∷ line

space_within : (x y : ℕ) (rest : List ℕ) → eqb x 32 ≡ false → eqb y 32 ≡ true
    → spaced_words (words rest) ≡ 32 ∷ rest
    → spaced_words (words (x ∷ y ∷ rest)) ≡ 32 ∷ x ∷ y ∷ rest
space_within x y rest other here e =
    simp (other, here, e) (ap (λ (n : ℕ). 32 ∷ x ∷ n ∷ rest) (sym (eqb-true y 32 here)))

byte_within : (x y : ℕ) (rest : List ℕ) → eqb x 32 ≡ false → eqb y 32 ≡ false
    → spaced_words (words (y ∷ rest)) ≡ 32 ∷ y ∷ rest
    → spaced_words (words (x ∷ y ∷ rest)) ≡ 32 ∷ x ∷ y ∷ rest
byte_within x y rest other there e =
    simp (other, there, onto_words) (spaced_onto x (filter is_word (onto_first y (pieces 32 rest))) (y ∷ rest) (simp there at e))

spaced_out : (line : List ℕ) → SpacedOut line
spaced_out [] = record { after_space = λ h. absurd (cc); within = λ x other h. rw other refl }
spaced_out (y ∷ rest) =
    let tail = spaced_out rest in
    elim (either (eqb y 32)) [
      | inl here ↦ record {
        after_space = λ h. absurd (cc (simp here at h));
        within = λ x other h. space_within x y rest other here (tail.after_space (simp here at h));
      }
      | inr there ↦ record {
        after_space = λ h. tail.within y there (simp there at h);
        within = λ x other h. byte_within x y rest other there (tail.within y there (simp there at h));
      }
    ]

joined_from : (ws : List (List ℕ)) (line : List ℕ) → spaced_words ws ≡ 32 ∷ line → joined_words ws ≡ line
joined_from [] line e = absurd (cc)
joined_from (w ∷ ws) line e = ap (drop 1) e

pub tidy_is_joined : (line : List ℕ) → is_tidy line ≡ true → joined_words (words line) ≡ line
tidy_is_joined line tidy =
    let out = spaced_out line in
    joined_from (words line) line (out.after_space tidy)

-- ---- both sides of a space

tidy_sides : (spaced : Bool) (front back : List ℕ)
    → is_tidy_after spaced (front ++ 32 ∷ back) ≡ (is_tidy_after spaced front && is_tidy_after true back)
tidy_sides spaced [] back = refl
tidy_sides true (x ∷ front) back =
    elim (either (eqb x 32)) [ inl here ↦ simp here | inr there ↦ simp (there, tidy_sides false front back) ]
tidy_sides false (x ∷ front) back =
    elim (either (eqb x 32)) [
      | inl here ↦ simp (here, tidy_sides true front back)
      | inr there ↦ simp (there, tidy_sides false front back)
    ]

-- what stands before an arrow, and what stands behind it
pub tidy_parts : (line front back : List ℕ) → is_tidy line ≡ true → line ≡ front ++ (32 ∷ 45 ∷ 62 ∷ 32 ∷ back)
    → (joined_words (words front) ≡ front) × (joined_words (words back) ≡ back)
tidy_parts line front back tidy e =
    let both : (is_tidy_after true front && is_tidy_after true (45 ∷ 62 ∷ 32 ∷ back)) ≡ true =
    sym (tidy_sides true front (45 ∷ 62 ∷ 32 ∷ back)) ∙ (ap is_tidy (sym e) ∙ tidy) in (
      tidy_is_joined front (first_true (is_tidy front) (is_tidy_after true (45 ∷ 62 ∷ 32 ∷ back)) both),
      tidy_is_joined back (second_true (is_tidy front) (is_tidy back) both),
    )

-- words, an arrow and words again
pub joined_arrow : (w v : List ℕ) (ws vs : List (List ℕ))
    → joined_words ((w ∷ ws) ++ codes "->" ∷ v ∷ vs) ≡ joined_words (w ∷ ws) ++ (32 ∷ 45 ∷ 62 ∷ 32 ∷ joined_words (v ∷ vs))
joined_arrow w v ws vs =
    ap (λ (t : List ℕ). w ++ t) (flat_map-append (λ word. 32 ∷ word) ws (codes "->" ∷ v ∷ vs))
    ∙ sym (append_assoc w (spaced_words ws) (spaced_words (codes "->" ∷ v ∷ vs)))
