-- Floors that are at most others: a floor that is read off the lines of a run, and one that a node has.
use Rattle.std.proofs.Common.{◌≡◌, ℕ, Bool, true, false, ◌==◌, if◌then◌else◌, List, [], ◌∷◌, map, Option, Some, None, refl, sym, ap, subst}
use Rattle.std.proofs.lemmas.Bool.{cond_both, eq-eqb, eqb-true}
use Rattle.xid.specs.Places.{Place, is_lower}
use Rattle.xid.proofs.Places.{not_back, not_lower, not_lower_self}
use Rattle.protocol.specs.declared.events.Told.{Told}
use Rattle.safety.specs.Vocabulary.{A, L, NodeId, R}
use Rattle.floors.specs.Worlds.{Notice, higher, least_of, lower, told_with}
use Rattle.floors.proofs.Order.{higher_bound, lower_first, lower_second}
use Rattle.audit.specs.Floors as audit

abbrev pub IsAtMost : (low high : Option Place) → Type 0
IsAtMost low high = is_lower high low ≡ false

pub higher_first : (a b : Option Place) → IsAtMost a (higher a b)
higher_first a b = cond_both (is_lower a b) b a (IsAtMost a) (λ less. not_back a b less) (λ more. not_lower_self a)

pub higher_second : (a b : Option Place) → IsAtMost b (higher a b)
higher_second a b = cond_both (is_lower a b) b a (IsAtMost b) (λ less. not_lower_self b) (λ more. more)

lower_most : (a b low_a low_b : Option Place) → IsAtMost low_a a → IsAtMost low_b b → IsAtMost (lower low_a low_b) (lower a b)
lower_most a b low_a low_b first second =
    cond_both (is_lower b a) b a (IsAtMost (lower low_a low_b))
    (λ less. not_lower (lower low_a low_b) low_b b (lower_second low_a low_b) second)
    (λ more. not_lower (lower low_a low_b) low_a a (lower_first low_a low_b) first)

-- what was told, and what was told at most
module _ (low high : ℕ → Option Place) (most : (rm : ℕ) → IsAtMost (low rm) (high rm)) where
  pub least_most : (rms : List ℕ) → IsAtMost (audit.least_of (map low rms)) (least_of (map high rms))
  least_most [] = not_lower_self None
  least_most (rm ∷ []) = most rm
  least_most (rm ∷ next ∷ rest) =
      lower_most (high rm) (least_of (map high (next ∷ rest))) (low rm) (audit.least_of (map low (next ∷ rest))) (most rm)
      (least_most (next ∷ rest))

pub told_rises : (said : ℕ → Option Place) (notice : Notice) (rm : ℕ) (low : Option Place) → IsAtMost low (said rm)
    → IsAtMost low (told_with said notice rm)
told_rises said notice rm low most =
    cond_both (rm == notice.manager) (higher (said rm) (Some notice.place)) (said rm) (IsAtMost low)
    (λ own. not_lower low (said rm) (higher (said rm) (Some notice.place)) most (higher_first (said rm) (Some notice.place)))
    (λ other. most)

-- a notice as a line tells it
abbrev pub as_told : ℕ → Notice → Told
as_told number notice = record { number = number; manager = notice.manager; receiver = notice.receiver; floor = notice.place }

pub told_most : (low high : ℕ → Option Place) → ((rm : ℕ) → IsAtMost (low rm) (high rm)) → (number : ℕ) (notice : Notice) (rm : ℕ)
    → IsAtMost (audit.told_with low (as_told number notice) rm) (told_with high notice rm)
told_most low high most number notice rm =
    cond_both (notice.manager == rm) (audit.higher (low rm) (Some notice.place)) (low rm)
    (λ (f : Option Place). IsAtMost f (told_with high notice rm)) own (λ other. told_rises high notice rm (low rm) (most rm))
  where
    own : (notice.manager == rm) ≡ true → IsAtMost (audit.higher (low rm) (Some notice.place)) (told_with high notice rm)
    own e =
        subst (λ (b : Bool). IsAtMost (audit.higher (low rm) (Some notice.place)) (if b then higher (high rm) (Some notice.place)
        else high rm)) (sym (eq-eqb rm notice.manager (sym (eqb-true notice.manager rm e))))
        (higher_bound (low rm) (Some notice.place) (higher (high rm) (Some notice.place))
        (not_lower (low rm) (high rm) (higher (high rm) (Some notice.place)) (most rm) (higher_first (high rm) (Some notice.place)))
        (higher_second (high rm) (Some notice.place)))

-- ---- names of nodes, as an auditor compares them

pub node_is : (m n : NodeId) → audit.is_node m n ≡ true → m ≡ n
node_is (A a) (A b) e = ap A (eqb-true a b e)
node_is (L a) (L b) e = ap L (eqb-true a b e)
node_is (R a) (R b) e = ap R (eqb-true a b e)
node_is m n e = absurd (cc (e))

pub self_node : (who : NodeId) → audit.is_node who who ≡ true
self_node (A a) = eq-eqb a a refl
self_node (L l) = eq-eqb l l refl
self_node (R rm) = eq-eqb rm rm refl
