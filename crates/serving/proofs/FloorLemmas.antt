-- The lowest of a floor and the places of names.
use Rattle.std.proofs.Common.{◌≡◌, ◌∙◌, ◌⊎◌, inl, inr, ℕ, zero, suc, ◌<◌, Bool, true, false, cond, List, [], ◌∷◌}
use Rattle.std.proofs.Common.{length, get_or, Option, Some, refl, sym, ap, subst, arith}
use Rattle.std.specs.Prelude.{is_some}
use Rattle.std.specs.List.{All, Any}
use Rattle.std.specs.Map.{lookup}
use Rattle.std.proofs.lemmas.Bool.{both_ways, cond_both}
use Rattle.xid.specs.Names.{XidParts, xid_eq}
use Rattle.xid.specs.Places.{Place, is_lower, is_xid_below, tx_place, xid_place}
use Rattle.xid.specs.Transactions.{TxParts}
use Rattle.xid.proofs.Deciding.{xid_decides, xid_self}
use Rattle.xid.proofs.Places.{not_back, not_lower, not_lower_self}
use Rattle.serving.specs.declared.branches.Branches.{Branches}
use Rattle.serving.specs.Times.{lower, IsOfBranch, IsOfTx}

-- ---- the lower of two places

lower_first : (one other : Place) → is_lower (Some one) (Some (lower one other)) ≡ false
lower_first one other =
    cond_both (is_lower (Some other) (Some one)) other one (λ (low : Place). is_lower (Some one) (Some low) ≡ false)
    (λ below. not_back (Some other) (Some one) below) (λ above. not_lower_self (Some one))

lower_second : (one other : Place) → is_lower (Some other) (Some (lower one other)) ≡ false
lower_second one other =
    cond_both (is_lower (Some other) (Some one)) other one (λ (low : Place). is_lower (Some other) (Some low) ≡ false)
    (λ below. not_lower_self (Some other)) (λ above. above)

lower_either : (one other : Place) → (lower one other ≡ one) ⊎ (lower one other ≡ other)
lower_either one other =
    cond_both (is_lower (Some other) (Some one)) other one (λ (low : Place). (low ≡ one) ⊎ (low ≡ other)) (λ below. inr refl)
    (λ above. inl refl)

-- ---- the lowest of a floor and the places of these

module _ {X : Type 0} (at : X → Place) where
  abbrev pub lowest_of : Place → List X → Place
  lowest_of floor [] = floor
  lowest_of floor (x ∷ xs) = lowest_of (lower floor (at x)) xs

  -- isn't above the floor
  pub lowest_floor : (floor : Place) (xs : List X) → is_lower (Some floor) (Some (lowest_of floor xs)) ≡ false
  lowest_floor floor [] = not_lower_self (Some floor)
  lowest_floor floor (x ∷ xs) =
      not_lower (Some (lowest_of (lower floor (at x)) xs)) (Some (lower floor (at x))) (Some floor)
      (lowest_floor (lower floor (at x)) xs) (lower_first floor (at x))

  -- nor above the place of the first, or of any
  lowest_head : (floor : Place) (x : X) (xs : List X) → is_lower (Some (at x)) (Some (lowest_of floor (x ∷ xs))) ≡ false
  lowest_head floor x xs =
      not_lower (Some (lowest_of (lower floor (at x)) xs)) (Some (lower floor (at x))) (Some (at x))
      (lowest_floor (lower floor (at x)) xs) (lower_second floor (at x))

  pub lowest_each : (floor : Place) (xs : List X) → All (λ x. is_lower (Some (at x)) (Some (lowest_of floor xs)) ≡ false) xs
  lowest_each floor [] k d inside = absurd (omega (arith, inside))
  lowest_each floor (x ∷ xs) zero d inside = lowest_head floor x xs
  lowest_each floor (x ∷ xs) (suc k) d inside = lowest_each (lower floor (at x)) xs k d (omega (arith, inside))

  -- and it is one of them
  pub lowest_is_one : (floor : Place) (xs : List X) → (lowest_of floor xs ≡ floor) ⊎ Any (λ x. lowest_of floor xs ≡ at x) xs
  lowest_is_one floor [] = inl refl
  lowest_is_one floor (x ∷ xs) = by (lowest_is_one (lower floor (at x)) xs) (lower_either floor (at x))
    where
      low : Place
      low = lowest_of (lower floor (at x)) xs

      by : (low ≡ lower floor (at x)) ⊎ Any (λ y. low ≡ at y) xs → (lower floor (at x) ≡ floor) ⊎ (lower floor (at x) ≡ at x)
          → (low ≡ floor) ⊎ Any (λ y. low ≡ at y) (x ∷ xs)
      by (inl same) (inl old) = inl (same ∙ old)
      by (inl same) (inr new) = inr (zero, x, omega arith, refl, same ∙ new)
      by (inr (k, y, inside, there, is)) either = inr (suc k, y, omega (arith, inside), there, is)

-- ---- names under which something is known

module _ {V : Type 0} where
  abbrev pub entry_place : XidParts × V → Place
  entry_place entry = xid_place entry.0

  -- the lowest isn't above a name that is known
  pub lowest_known : (floor : Place) (entries : List (XidParts × V)) (x : XidParts) → is_some (lookup (xid_eq x) entries) ≡ true
      → is_xid_below (Some (lowest_of entry_place floor entries)) x ≡ false
  lowest_known floor [] x is = absurd (cc (is))
  lowest_known floor (entry ∷ entries) x is =
      by (xid_eq x entry.0) refl (lowest_known (lower floor (entry_place entry)) entries x)
    where
      low : Place
      low = lowest_of entry_place (lower floor (entry_place entry)) entries

      by : (same : Bool) → xid_eq x entry.0 ≡ same
          → (is_some (lookup (xid_eq x) entries) ≡ true → is_lower (Some (xid_place x)) (Some low) ≡ false)
          → is_lower (Some (xid_place x)) (Some low) ≡ false
      by true e rest =
          subst (λ (y : XidParts). is_lower (Some (xid_place y)) (Some low) ≡ false) (sym ((xid_decides x entry.0).0 e))
          (lowest_head entry_place floor entry entries)
      by false e rest = rest (sym (ap (λ (b : Bool). is_some (cond b (Some entry.1) (lookup (xid_eq x) entries))) e) ∙ is)

  -- the name of an entry is known
  known_entry : (entries : List (XidParts × V)) (k : ℕ) (entry : XidParts × V) → k < length entries → get_or entries k entry ≡ entry
      → is_some (lookup (xid_eq entry.0) entries) ≡ true
  known_entry [] k entry inside there = absurd (omega (arith, inside))
  known_entry (first ∷ rest) zero entry inside there =
      cond_both (xid_eq entry.0 first.0) (Some first.1) (lookup (xid_eq entry.0) rest) (λ (o : Option V). is_some o ≡ true) (λ same. refl)
      (λ other. absurd (both_ways (xid_eq entry.0 first.0) other
      (subst (λ (e : XidParts × V). xid_eq entry.0 e.0 ≡ true) (sym there) (xid_self entry.0))))
  known_entry (first ∷ rest) (suc k) entry inside there =
      cond_both (xid_eq entry.0 first.0) (Some first.1) (lookup (xid_eq entry.0) rest) (λ (o : Option V). is_some o ≡ true) (λ same. refl)
      (λ other. known_entry rest k entry (omega (arith, inside)) there)

-- ---- which floor holds another back

-- the lowest of a floor and the branches that are known is that floor, or the place of one of these
pub lowest_branch : (branches : Branches) (floor low : Place) → low ≡ lowest_of entry_place floor branches.named.entries
    → (low ≡ floor) ⊎ IsOfBranch branches low
lowest_branch branches floor low is = by (lowest_is_one entry_place floor branches.named.entries)
  where
    by : (lowest_of entry_place floor branches.named.entries ≡ floor)
        ⊎ Any (λ entry. lowest_of entry_place floor branches.named.entries ≡ entry_place entry) branches.named.entries
        → (low ≡ floor) ⊎ IsOfBranch branches low
    by (inl same) = inl (is ∙ same)
    by (inr (k, entry, inside, there, stands)) = inr (record {
      name = entry.0;
      begun = known_entry branches.named.entries k entry inside there;
      stands = is ∙ stands;
    })

-- the same where transactions are looked at after the branches
pub lowest_name : (branches : Branches) (txs : List TxParts) (floor start low : Place) → low ≡ lowest_of tx_place start txs
    → (start ≡ floor) ⊎ IsOfBranch branches start → (low ≡ floor) ⊎ IsOfBranch branches low ⊎ IsOfTx txs low
lowest_name branches txs floor start low is one = by (lowest_is_one tx_place start txs) one
  where
    by : (lowest_of tx_place start txs ≡ start) ⊎ Any (λ tx. lowest_of tx_place start txs ≡ tx_place tx) txs
        → (start ≡ floor) ⊎ IsOfBranch branches start → (low ≡ floor) ⊎ IsOfBranch branches low ⊎ IsOfTx txs low
    by (inl same) (inl wanted) = inl (is ∙ same ∙ wanted)
    by (inl same) (inr branch) = inr (inl (subst (IsOfBranch branches) (sym (is ∙ same)) branch))
    by (inr (k, tx, inside, there, stands)) one = inr (inr (k, tx, inside, there, is ∙ stands))
