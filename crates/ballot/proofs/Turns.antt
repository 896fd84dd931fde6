-- Leaders take turns: the next ballot of one is where `next_of` says.
use Rattle.std.proofs.Common.{◌≡◌, ◌⊎◌, inl, inr, ⊎_elim, ℕ, ◌+◌, ◌-◌, ◌*◌, ◌/◌, ◌%◌, ◌<◌, ◌≤◌, ap, ◌∙◌, arith, div-add-mod'}
use Rattle.std.proofs.Common.{mod-eq_of_lt, mul-le-mul_right}
use Rattle.std.proofs.lemmas.Bool.{cases_order}
use Rattle.std.proofs.lemmas.Nat.{mod-mul-add, mod_below}
use Rattle.ballot.specs.Ballots.{IsNextOwned, next_of}

order : (a b : ℕ) → (a < b) ⊎ (b ≤ a)
order a b =
    ⊎_elim (λ (e : a ≡ b). inr (omega (arith, e))) (λ f. ⊎_elim (λ (g : a < b). inl g) (λ (g : b < a). inr (omega (arith, g))) f)
    (cases_order a b)

-- l in the turn in which r stands, or in the next one
pub record IsGap (n l r gap : ℕ) : Type 0 where
  pub turns : ℕ
  pub lands : r + gap ≡ turns * n + l
  pub first : turns ≤ 1
  pub later : 1 ≤ turns → l < r

gap_made : (n l r : ℕ) → l < n → r < n → IsGap n l r ((l + n - r) % n)
gap_made n l r few low = ⊎_elim
    (λ (less : l < r).
    let same : (l + n - r) % n ≡ l + n - r = mod-eq_of_lt (omega (arith, less, low)) in
    record { turns = 1; lands = omega (arith, same, less, low); first = omega arith; later = λ _. less })
    (λ (more : r ≤ l).
    let same : (l + n - r) % n ≡ l - r = ap (λ (x : ℕ). x % n) (omega (arith, more, few)) ∙ mod-mul-add 1 n (l - r) (omega (arith, few)) in
    record { turns = 0; lands = omega (arith, same, more); first = omega arith; later = λ h. absurd (omega (arith, h)) })
    (order l r)

-- a ballot of l past q turns and r comes no sooner than the next turn of l
next_turn : (n l q r t k : ℕ) → l < n → r < n → t ≤ 1 → (1 ≤ t → l < r) → q * n + r ≤ k * n + l → q + t ≤ k
next_turn n l q r t k few low small later past = ⊎_elim
    (λ (less : k < q + t). ⊎_elim
    (λ (before : k < q). absurd (omega (arith, mul-le-mul_right n before, past, few)))
    (λ (at : q ≤ k).
    let same : k ≡ q = omega (arith, less, at, small) in
    absurd (omega (arith, later (omega (arith, less, at)), past, ap (λ (x : ℕ). x * n) same)))
    (order k q))
    (λ (more : q + t ≤ k). more)
    (order k (q + t))

pub next_is : (n l last : ℕ) → l < n → IsNextOwned n l last (next_of n l last)
next_is n l last few =
    let q : ℕ = last / n in
    let r : ℕ = last % n in
    let whole : q * n + r ≡ last = div-add-mod' last n in
    let low : r < n = mod_below last n (omega (arith, few)) in
    let gap : IsGap n l r ((l + n - r) % n) = gap_made n l r few low in
    record {
      owned = (
        omega arith,
        ap (λ (x : ℕ). x % n) (let e : next_of n l last - 1 ≡ (q + gap.turns) * n + l = omega (arith, whole, gap.lands) in e)
            ∙ mod-mul-add (q + gap.turns) n l few,
      );
      greater = omega arith;
      least = λ b own above.
          let k : ℕ = (b - 1) / n in
          let is : k * n + (b - 1) % n ≡ b - 1 = div-add-mod' (b - 1) n in
          let turn : q + gap.turns ≤ k =
          next_turn n l q r gap.turns k few low gap.first gap.later (omega (arith, is, own.1, whole, above)) in
          omega (arith, mul-le-mul_right n turn, is, own.1, whole, gap.lands, own.0);
    }
