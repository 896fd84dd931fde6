-- Words of eight bytes, taken one after another.
use Rattle.std.proofs.Common.{◌≡◌, ◌∙◌, ℕ, ◌<◌, ◌≤◌, List, [], ◌∷◌, length, take, drop, refl, arith}
use Rattle.hashing.specs.Hashing.{mixed, word_of, words_taken}

eight_taken : (multiplier state : ℕ) (bytes : List ℕ) → 8 ≤ length bytes
    → words_taken multiplier (mixed multiplier state (word_of (take 8 bytes))) (drop 8 bytes) ≡ words_taken multiplier state bytes
unfolding words_taken
eight_taken multiplier state (a ∷ b ∷ c ∷ d ∷ e ∷ f ∷ g ∷ h ∷ rest) long = refl
eight_taken multiplier state [] long = absurd (omega arith)
eight_taken multiplier state (a ∷ []) long = absurd (omega arith)
eight_taken multiplier state (a ∷ b ∷ []) long = absurd (omega arith)
eight_taken multiplier state (a ∷ b ∷ c ∷ []) long = absurd (omega arith)
eight_taken multiplier state (a ∷ b ∷ c ∷ d ∷ []) long = absurd (omega arith)
eight_taken multiplier state (a ∷ b ∷ c ∷ d ∷ e ∷ []) long = absurd (omega arith)
eight_taken multiplier state (a ∷ b ∷ c ∷ d ∷ e ∷ f ∷ []) long = absurd (omega arith)
eight_taken multiplier state (a ∷ b ∷ c ∷ d ∷ e ∷ f ∷ g ∷ []) long = absurd (omega arith)

-- one word more
pub word_taken : (multiplier state : ℕ) (bytes word after : List ℕ) → 8 ≤ length bytes → word ≡ take 8 bytes → after ≡ drop 8 bytes
    → words_taken multiplier (mixed multiplier state (word_of word)) after ≡ words_taken multiplier state bytes
word_taken multiplier state bytes word after long front rest =
    (λ k. words_taken multiplier (mixed multiplier state (word_of (front k))) (rest k)) ∙ eight_taken multiplier state bytes long

-- and none where fewer bytes are left
pub words_ended : (multiplier state : ℕ) (bytes : List ℕ) → length bytes < 8 → words_taken multiplier state bytes ≡ state
unfolding words_taken
words_ended multiplier state (a ∷ b ∷ c ∷ d ∷ e ∷ f ∷ g ∷ h ∷ rest) short = absurd (omega arith)
words_ended multiplier state [] short = refl
words_ended multiplier state (a ∷ []) short = refl
words_ended multiplier state (a ∷ b ∷ []) short = refl
words_ended multiplier state (a ∷ b ∷ c ∷ []) short = refl
words_ended multiplier state (a ∷ b ∷ c ∷ d ∷ []) short = refl
words_ended multiplier state (a ∷ b ∷ c ∷ d ∷ e ∷ []) short = refl
words_ended multiplier state (a ∷ b ∷ c ∷ d ∷ e ∷ f ∷ []) short = refl
words_ended multiplier state (a ∷ b ∷ c ∷ d ∷ e ∷ f ∷ g ∷ []) short = refl
