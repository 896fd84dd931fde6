-- Of transactions no two of which are the same, none stands among those before it.
-- Needed by crates acceptor, leader and audit.
use Rattle.std.proofs.Common.{◌≡◌, ◌∙◌, ℕ, zero, suc, ◌<◌, Bool, true, false, not, ◌||◌, List, [], ◌∷◌, length, get_or, take}
use Rattle.std.proofs.Common.{sym, refl, subst, arith}
use Rattle.std.specs.Prelude.{filter}
use Rattle.std.specs.List.{AllByRecursion, IsDistinct, list_any, position_or_len}
use Rattle.std.proofs.lemmas.Bool.{true≢false, false_from_ne_true}
use Rattle.std.proofs.lemmas.List.Sums.{prefix_len-le-length}
use Rattle.xid.specs.Transactions.{TxParts, tx_eq}
use Rattle.xid.proofs.Deciding.{tx_decides}
use Rattle.transactions.specs.Seen.{no_transaction}
use Rattle.transactions.proofs.Above.{any_passing}
use Rattle.transactions.proofs.Keys.{present_from_place}

-- where none passes the place is the length
pub absent_place : {X : Type 0} (p : X → Bool) (xs : List X) → list_any p xs ≡ false → position_or_len p xs ≡ length xs
absent_place p xs none =
    let past : ¬ (position_or_len p xs < length xs) = λ lt. true≢false (sym (present_from_place p xs lt) ∙ none) in
    omega (arith, past, prefix_len-le-length (λ x. not (p x)) xs)

-- two transactions differ in either order
pub turned : (x y : TxParts) → tx_eq x y ≡ false → tx_eq y x ≡ false
turned x y e =
    false_from_ne_true (tx_eq y x) (λ same. true≢false (sym ((tx_decides x y).1 (sym ((tx_decides y x).0 same))) ∙ e))

apart_at : (x : TxParts) (xs : List TxParts) (n : ℕ) → AllByRecursion (λ y. tx_eq x y ≡ false) xs → n < length xs
    → tx_eq x (get_or xs n no_transaction) ≡ false
apart_at x [] n each less = absurd (omega (arith, less))
apart_at x (y ∷ ys) zero each less = each.0
apart_at x (y ∷ ys) (suc n) each less = apart_at x ys n each.1 (omega (arith, less))

not_before : (ts : List TxParts) (n : ℕ) → IsDistinct tx_eq ts → n < length ts
    → list_any (tx_eq (get_or ts n no_transaction)) (take n ts) ≡ false
unfolding IsDistinct
not_before [] n once less = absurd (omega (arith, less))
not_before (t ∷ ts) zero once less = refl
not_before (t ∷ ts) (suc n) once less = λ k.
    turned t (get_or ts n no_transaction) (apart_at t ts n once.0 (omega (arith, less))) k
    || not_before ts n once.1 (omega (arith, less)) k

-- nor, where it passes a test, among those of them that pass
pub new_passing : (p : TxParts → Bool) (ts : List TxParts) (n : ℕ) (tx : TxParts) → IsDistinct tx_eq ts → n < length ts
    → get_or ts n no_transaction ≡ tx → p tx ≡ true → list_any (tx_eq tx) (filter p (take n ts)) ≡ false
new_passing p ts n tx once within here passes =
    any_passing p tx passes (take n ts)
    ∙ subst (λ (t : TxParts). list_any (tx_eq t) (take n ts) ≡ false) here (not_before ts n once within)
