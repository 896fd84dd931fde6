-- Clients that are told nothing while their lines are looked at. What `Clients::take_lines` says needs it, refused or not.
use Rattle.std.proofs.Common.{◌≡◌, ◌≢◌, ℕ, Some, refl, sym, ap, ◌∙◌, inl, inr}
use Rattle.std.proofs.lemmas.Bool.{cases_eq}
use Rattle.std.specs.Option.{option_map}
use Rattle.slab.specs.Slab.{Slab, get}
use Rattle.serving.specs.Clients.{ClientParts, told_so_far, AreUntold}

-- nothing happened
pub untold_none : (old : Slab ClientParts) → AreUntold old old
untold_none old key = refl

-- one thing happened, and then another
pub untold_both : (old mid new : Slab ClientParts) → AreUntold old mid → AreUntold mid new → AreUntold old new
untold_both old mid new first second key = second key ∙ first key

-- something happened at one key
pub untold_one : (key : ℕ) (old new : Slab ClientParts) (was now : ClientParts) → get old key ≡ Some was → get new key ≡ Some now
    → ((other : ℕ) → other ≢ key → get new other ≡ get old other) → told_so_far now ≡ told_so_far was → AreUntold old new
untold_one key old new was now is_was is_now others same k = elim (cases_eq k key) [
  | inl here ↦
      let at_new : get new k ≡ Some now = ap (get new) here ∙ is_now in
      let at_old : get old k ≡ Some was = ap (get old) here ∙ is_was in
      ap (option_map told_so_far) at_new ∙ ap Some same ∙ sym (ap (option_map told_so_far) at_old)
  | inr apart ↦ ap (option_map told_so_far) (others k apart)
]
