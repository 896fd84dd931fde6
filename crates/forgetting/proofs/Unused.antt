-- Whether nothing is stored about a name at or above a place, an acceptor or a leader knows by what it has: of each transaction at or above
-- its floor it has a fact where there is one.
use Rattle.std.proofs.Common.{◌≡◌, ◌∙◌, ℕ, ◌<◌, Bool, true, false, ◌&&◌, ◌||◌, List, [], ◌∷◌, Option, Some, refl, sym, subst, arith}
use Rattle.std.specs.List.{list_all, list_any}
use Rattle.std.proofs.lemmas.Bool.{both_ways, or_left, or_right, true≢false}
use Rattle.xid.specs.Places.{Place, tx_place, is_below, is_lower}
use Rattle.xid.specs.Transactions.{TxParts, participants, tx_eq}
use Rattle.xid.proofs.Deciding.{tx_decides, tx_self}
use Rattle.xid.proofs.Places.{not_lower}
use Rattle.ballot.specs.declared.slot.Slot.{Slot}
use Rattle.ballot.specs.Slots.{empty_slot}
use Rattle.stable_record.specs.Facts.{fact_tx}
use Rattle.transactions.proofs.First.{first_any}
use Rattle.protocol.specs.Basics.{Fact}
use Rattle.safety.specs.Vocabulary.{NodeId, A, L, R}
use Rattle.protocol.specs.Effects.{Config}
use Rattle.protocol.specs.Facts.{slot, last_ballot}
use Rattle.protocol.specs.Nodes.{NodeState, all_play}
use Rattle.protocol.proofs.Lists.{all_found, any_found}
use Rattle.acceptor.proofs.Begun.{begun_taken, taken, unbegun_empty}
use Rattle.leader.proofs.Compacting.{no_ballot, some_ballot}
use Rattle.floors.specs.Nodes.{is_unused_above}
use Rattle.floors.specs.Worlds.{is_manager}
use Rattle.resource_manager.proofs.Floors.{same_test}
use Rattle.forgetting.specs.Above.{StandsAbove}

-- ---- a fact about a transaction

abbrev is_used : List Fact → TxParts → Bool
is_used facts tx = list_any (λ fact. tx_eq tx (fact_tx fact)) facts

module _ (place : Place) where
  abbrev is_low : Fact → Bool
  is_low fact = is_below (Some place) (fact_tx fact)

  -- a transaction at or above the place that has one
  record IsUsedAbove (facts : List Fact) : Type 0 where
    pub tx : TxParts
    pub above : is_below (Some place) tx ≡ false
    pub used : is_used facts tx ≡ true

  found_above : (facts : List Fact) → list_all is_low facts ≡ false → IsUsedAbove facts
  found_above [] e = absurd (cc (e))
  found_above (f ∷ fs) e = by (is_low f) refl e (found_above fs)
    where
      by : (t : Bool) → is_low f ≡ t → (t && list_all is_low fs) ≡ false → (list_all is_low fs ≡ false → IsUsedAbove fs)
          → IsUsedAbove (f ∷ fs)
      by true low e later =
          let rest = later e in
          record { tx = rest.tx; above = rest.above; used = or_right (tx_eq rest.tx (fact_tx f)) (is_used fs rest.tx) rest.used }
      by false high e later =
          let here = or_left (tx_eq (fact_tx f) (fact_tx f)) (is_used fs (fact_tx f)) (tx_self (fact_tx f)) in
          record { tx = fact_tx f; above = high; used = here }

  none_above : (facts : List Fact) → list_all is_low facts ≡ true → (tx : TxParts) → is_below (Some place) tx ≡ false
      → is_used facts tx ≡ false
  none_above facts each tx above = by (is_used facts tx) refl
    where
      by : (t : Bool) → is_used facts tx ≡ t → t ≡ false
      by false e = refl
      by true e =
          let found = any_found (λ fact. tx_eq tx (fact_tx fact)) facts e in
          let same : fact_tx found.element ≡ tx = sym ((tx_decides tx (fact_tx found.element)).0 found.passes) in
          let low : is_below (Some place) tx ≡ true =
          subst (λ (t : TxParts). is_below (Some place) t ≡ true) same (all_found is_low facts each found.element found.among) in
          absurd (cc (low, above))

  -- where each of those transactions that is used by the one is by the other
  no_more : (xs ys : List Fact) → ((tx : TxParts) → is_below (Some place) tx ≡ false → is_used ys tx ≡ true → is_used xs tx ≡ false → ⊥)
      → list_all is_low xs ≡ true → list_all is_low ys ≡ true
  no_more xs ys apart each = by (list_all is_low ys) refl
    where
      by : (t : Bool) → list_all is_low ys ≡ t → t ≡ true
      by true e = refl
      by false e =
          let found = found_above ys e in
          absurd (apart found.tx found.above found.used (none_above xs each found.tx found.above))

-- ---- an acceptor's slots, a leader's ballots

none_taken : (slots : ℕ → Slot) → ((i : ℕ) → slots i ≡ empty_slot) → (is : List ℕ) → list_any (λ i. taken (slots i)) is ≡ false
none_taken slots each [] = refl
none_taken slots each (i ∷ is) = λ k. taken (each i k) || none_taken slots each is k

slots_tell : (config : Config) (a : ℕ) (xs ys : List Fact) → all_play config (A a) [] ys ≡ true → (tx : TxParts)
    → slot xs tx ≡ slot ys tx → is_used ys tx ≡ true → is_used xs tx ≡ false → ⊥
slots_tell config a xs ys play tx same there none =
    let some : list_any (λ i. taken (slot ys tx i)) (participants tx) ≡ true =
    begun_taken config a ys play tx (first_any fact_tx tx ys ∙ there) in
    both_ways (list_any (λ i. taken (slot xs tx i)) (participants tx))
    (none_taken (slot xs tx) (λ i. unbegun_empty xs tx i (first_any fact_tx tx xs ∙ none)) (participants tx))
    (subst (λ (slots : ℕ → Slot). list_any (λ i. taken (slots i)) (participants tx) ≡ true) (sym same) some)

ballots_tell : (config : Config) (l : ℕ) (xs ys : List Fact) → all_play config (L l) [] ys ≡ true → (tx : TxParts)
    → last_ballot xs tx ≡ last_ballot ys tx → is_used ys tx ≡ true → is_used xs tx ≡ false → ⊥
ballots_tell config l xs ys play tx same there none =
    let some : 0 < last_ballot ys tx = some_ballot config l [] ys tx play there in
    let no : last_ballot xs tx ≡ 0 = no_ballot [] xs tx none in
    omega (arith, some, no, same)

-- ---- what it has, and all

module _ (from config : Config) (floor : Option Place) (place : Place) (few all : NodeState)
    (high : is_lower (Some place) floor ≡ false) where
  still_above : (tx : TxParts) → is_below (Some place) tx ≡ false → is_below floor tx ≡ false
  still_above tx above = not_lower floor (Some place) (Some (tx_place tx)) high above

  pub use_known : (who : NodeId) → StandsAbove from config who floor few all → is_manager who ≡ false
      → is_unused_above place few ≡ is_unused_above place all
  use_known (A a) stands other =
      same_test (is_unused_above place few) (is_unused_above place all)
      (no_more place few.facts all.facts (λ tx above. slots_tell config a few.facts all.facts stands.all_play_too tx
      (stands.says tx (still_above tx above))))
      (no_more place all.facts few.facts (λ tx above. slots_tell from a all.facts few.facts stands.few_play tx
      (sym (stands.says tx (still_above tx above)))))
  use_known (L l) stands other =
      same_test (is_unused_above place few) (is_unused_above place all)
      (no_more place few.facts all.facts (λ tx above. ballots_tell config l few.facts all.facts stands.all_play_too tx
      (stands.says tx (still_above tx above))))
      (no_more place all.facts few.facts (λ tx above. ballots_tell from l all.facts few.facts stands.few_play tx
      (sym (stands.says tx (still_above tx above)))))
  use_known (R rm) stands other = absurd (true≢false other)
