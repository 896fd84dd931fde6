-- The transactions that begin, by their places.
-- Needed by `Courses::list` and `Courses::reserve`.
use Rattle.std.proofs.Common.{◌≡◌, ◌∙◌, ℕ, List, length, sym, ap, subst}
use Rattle.std.specs.Prelude.{Some, Result, Ok, Err, OnOk, OnErr}
use Rattle.std.specs.List.{IsDistinct}
use Rattle.xid.specs.Transactions.{TxParts, tx_eq}
use Rattle.xid.specs.declared.refusals.Refusal.{Refusal}
use Rattle.transactions.specs.Seen.{numbered_with, OrderParts, at_places, AreInside}
use Rattle.transactions.proofs.Places.{listed, inside_with}
use Rattle.leader.specs.Courses.{CourseParts}
use Rattle.leader.specs.Places.{CoursesParts, with_beginning, with_room, IsPlaceOf}
use Rattle.leader.proofs.PlaceSteps.{courses_at}

-- some courses, by their fields
module _ (ts : List TxParts) (rows : List CourseParts) (places new : OrderParts) (courses : CoursesParts)
    (view_is : courses_at ts rows places ≡ courses) (tx : TxParts) (place : ℕ) (found : IsPlaceOf courses tx (Some place)) where
  found_here : IsPlaceOf (courses_at ts rows places) tx (Some place)
  found_here = subst (λ (k : CoursesParts). IsPlaceOf k tx (Some place)) (sym view_is) found

  -- places stay those of courses with one more
  pub still_courses : (r : Result (Unit {0}) Refusal) → AreInside (length ts) places.numbers
      → OnOk r (new.numbers ≡ numbered_with places.numbers place) → OnErr r (new.numbers ≡ places.numbers)
      → AreInside (length ts) new.numbers
  still_courses (Ok done) each is same =
      subst (AreInside (length ts)) (sym is) (inside_with (length ts) place places.numbers each found_here.1)
  still_courses (Err e) each is same = subst (AreInside (length ts)) (sym same) each

  -- the courses with one more that begins
  pub listed_now : (r : Result (Unit {0}) Refusal) → IsDistinct tx_eq ts → AreInside (length ts) places.numbers
      → OnOk r (new.numbers ≡ numbered_with places.numbers place)
      → OnOk r (courses_at ts rows new ≡ with_room (with_beginning courses tx) new.room)
  listed_now (Ok done) once each is =
      ap (λ (txs : List TxParts). record (courses_at ts rows new) { begun = txs })
      (ap (at_places ts) is ∙ listed ts once tx place found_here.0 found_here.1 places.numbers each)
      ∙ ap (λ (k : CoursesParts). with_room (with_beginning k tx) new.room) view_is
  listed_now (Err e) once each is = tt

  -- or as they were, where it was refused
  pub as_before : (r : Result (Unit {0}) Refusal) → OnErr r (new.numbers ≡ places.numbers)
      → OnErr r (courses_at ts rows new ≡ with_room courses new.room)
  as_before (Ok done) same = tt
  as_before (Err e) same =
      ap (λ (txs : List TxParts). record (courses_at ts rows new) { begun = txs }) (ap (at_places ts) same)
      ∙ ap (λ (k : CoursesParts). with_room k new.room) view_is

-- room more
pub roomier : (ts : List TxParts) (rows : List CourseParts) (places new : OrderParts) (courses : CoursesParts)
    → courses_at ts rows places ≡ courses → new.numbers ≡ places.numbers → courses_at ts rows new ≡ with_room courses new.room
roomier ts rows places new courses view_is same =
    ap (λ (txs : List TxParts). record (courses_at ts rows new) { begun = txs }) (ap (at_places ts) same)
    ∙ ap (λ (k : CoursesParts). with_room k new.room) view_is
