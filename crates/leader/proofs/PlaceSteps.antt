-- The course of a transaction is found again.
-- Needed by 8 functions of this crate; Left, Listing and Storing.
use Rattle.std.proofs.Common.{◌≡◌, ◌∙◌, ℕ, ◌+◌, ◌<◌, true, false, List, [], ◌∷◌, ◌++◌, length, get_or, set, Some, None}
use Rattle.std.proofs.Common.{sym, ap, refl, subst, arith}
use Rattle.std.specs.Prelude.{if◌then◌else◌, map}
use Rattle.std.specs.List.{list_any}
use Rattle.std.proofs.lemmas.Bool.{lt-ltb}
use Rattle.std.proofs.lemmas.List.{get_or_default, get_or_past, length-append}
use Rattle.xid.specs.Transactions.{TxParts, BranchParts, tx_eq}
use Rattle.transactions.specs.Seen.{place_in, seen_with, OrderParts, at_places, AreInside}
use Rattle.transactions.proofs.Places.{still_inside, at_places_grown}
use Rattle.transactions.proofs.Keys.{absent_from_place}
use Rattle.transactions.proofs.Rows.{row_added, row_changed, number_same, is_seen}
use Rattle.protocol.specs.declared.states.Status.{Status}
use Rattle.leader.specs.Courses.{CourseParts, fresh, fresh_instance, status_by}
use Rattle.leader.specs.Places.{CoursesParts, course_in, is_placed_in, IsPlaceOf, IsChanged, IsKept}
use Rattle.leader.proofs.Basics.{same_tx}

-- each transaction has a row, and each of those that begin a place
abbrev pub IsCourses : List TxParts → List CourseParts → OrderParts → Type 0
IsCourses ts rows order = (length rows ≡ length ts) × AreInside (length ts) order.numbers

-- ---- a look-up, by the fields that some courses are kept in

-- the courses of transactions, and the places of those that begin
abbrev pub courses_at : List TxParts → List CourseParts → OrderParts → CoursesParts
courses_at ts rows order = record { transactions = ts; rows = rows; begun = at_places ts order.numbers; room = order.room }

module _ (ts : List TxParts) (rows : List CourseParts) (places : OrderParts) (inside : IsCourses ts rows places) (tx : TxParts) where
  each : length rows ≡ length ts
  each = inside.0

  abbrev here : CoursesParts
  here = courses_at ts rows places

  read_here : (i : ℕ) (old : CourseParts) → IsPlaceOf here tx (Some i) → old ≡ get_or rows i old → old ≡ course_in here tx
  read_here i old found read =
      read ∙ get_or_default rows i old (fresh tx) (omega (arith, found.1, each)) ∙ ap (λ k. get_or rows k (fresh tx)) found.0

  changed_here : (f : CourseParts → CourseParts) (i : ℕ) (old new : CourseParts) → IsPlaceOf here tx (Some i)
      → old ≡ get_or rows i old → new ≡ f old
      → IsChanged here (courses_at ts (set rows i new) places) tx (f (course_in here tx))
  changed_here f i old new found read is = record {
    begun_is = refl;
    courses_are = λ other.
        ap (λ k. get_or (set rows k new) (place_in ts other) (fresh other)) found.0
        ∙ row_changed fresh ts rows each tx new (omega (arith, found)) other
        ∙ ap (λ c. if tx_eq other tx then c else course_in here other) (is ∙ ap f (read_here i old found read));
  }

  module _ (courses : CoursesParts) (is : here ≡ courses) where
    -- no place: the course of one unknown
    pub unknown_at : IsPlaceOf courses tx None → course_in courses tx ≡ fresh tx
    unknown_at none =
        let none_here : IsPlaceOf here tx None = subst (λ k. IsPlaceOf k tx None) (sym is) none in
        ap (λ k. course_in k tx) (sym is) ∙ get_or_past rows (place_in ts tx) (fresh tx) (omega (arith, none_here, each))

    -- what stands at the place
    pub read_at : (i : ℕ) (old : CourseParts) → IsPlaceOf courses tx (Some i) → old ≡ get_or rows i old → old ≡ course_in courses tx
    read_at i old found read =
        read_here i old (subst (λ k. IsPlaceOf k tx (Some i)) (sym is) found) read ∙ ap (λ k. course_in k tx) is

    -- another course in the place
    pub changed_at : (f : CourseParts → CourseParts) (i : ℕ) (old new : CourseParts) → IsPlaceOf courses tx (Some i)
        → old ≡ get_or rows i old → new ≡ f old
        → IsChanged courses (courses_at ts (set rows i new) places) tx (f (course_in courses tx))
    changed_at f i old new found read changes =
        subst (λ k. IsPlaceOf k tx (Some i) → IsChanged k (courses_at ts (set rows i new) places) tx (f (course_in k tx))) is
        (λ there. changed_here f i old new there read changes) found

    -- ---- a place more

    module _ (none : place_in courses.transactions tx ≡ length courses.transactions) (us : List TxParts) (more : List CourseParts)
        (added : us ≡ seen_with ts tx) (pushed : more ≡ rows ++ fresh tx ∷ []) where
      none_here : place_in ts tx ≡ length ts
      none_here = subst (λ k. IsPlaceOf k tx None) (sym is) none

      last : us ≡ ts ++ tx ∷ []
      last = added ∙ ap (λ t. if t then ts else ts ++ tx ∷ []) (absent_from_place (tx_eq tx) ts none_here)

      abbrev there : CoursesParts
      there = courses_at us more places

      -- one course more at the end is in place
      pub added_inside : IsCourses us more places
      added_inside = (
        ap length pushed ∙ length-append rows (fresh tx ∷ []) ∙ ap (λ n. n + 1) each ∙ sym (length-append ts (tx ∷ []))
            ∙ ap length (sym last),
        still_inside places.numbers (length ts) (length us) (omega (arith, ap length last, length-append ts (tx ∷ []))) inside.1,
      )

      -- all others are kept
      pub added_kept : IsKept courses there
      added_kept = record {
        begun_is = (λ k. at_places (last k) places.numbers) ∙ at_places_grown ts tx places.numbers inside.1 ∙ ap (λ k. k.begun) is;
        courses_are = λ other.
            (λ k. get_or (pushed k) (place_in (last k) other) (fresh other)) ∙ row_added fresh ts rows each tx none_here other
            ∙ ap (λ k. course_in k other) is;
      }

      -- and it is found where it was put
      pub added_there : (i : ℕ) → i ≡ place_in ts tx → IsPlaceOf there tx (Some i)
      added_there i at =
          let P : List TxParts → Type 0 = λ xs. (i ≡ place_in xs tx) × (i < length xs) in
          let same : i ≡ place_in (ts ++ tx ∷ []) tx = at ∙ number_same ts tx none_here in
          subst P (sym last) (same, omega (arith, same, is_seen ts tx none_here))

-- a place
pub is_placed_at : (courses : CoursesParts) (tx : TxParts) (i : ℕ) → IsPlaceOf courses tx (Some i) → is_placed_in courses tx ≡ true
is_placed_at courses tx i found =
    lt-ltb (place_in courses.transactions tx) (length courses.transactions) (omega (arith, found))

-- a course that stays
pub not_changed : (courses : CoursesParts) (tx : TxParts) (c : CourseParts) → c ≡ course_in courses tx → IsChanged courses courses tx c
not_changed courses tx c is = record {
  begun_is = refl;
  courses_are = λ other.
      elim (tx_eq other tx) as (λ t. tx_eq other tx ≡ t → course_in courses other ≡ (if t then c else course_in courses other)) [
        | true ↦ λ e. ap (course_in courses) (same_tx other tx e) ∙ sym is
        | false ↦ λ e. refl
      ] refl;
}

-- a course changed after a place was made
pub after_made : (old made new : CoursesParts) (tx : TxParts) (f : CourseParts → CourseParts) → IsKept old made
    → IsChanged made new tx (f (course_in made tx)) → IsChanged old new tx (f (course_in old tx))
after_made old made new tx f kept changed = record {
  begun_is = changed.begun_is ∙ kept.begun_is;
  courses_are = λ other. changed.courses_are other ∙ (λ k. if tx_eq other tx then f (kept.courses_are tx k) else kept.courses_are other k);
}

-- ---- the status of one unknown

none_aborted : (branches : List BranchParts) → list_any (λ row. row.aborted) (map fresh_instance (map (λ b. b.rm) branches)) ≡ false
none_aborted [] = refl
none_aborted (b ∷ branches) = none_aborted branches

-- a new course is unknown
pub fresh_status : (branches : List BranchParts) → 0 < length branches
    → status_by false (map fresh_instance (map (λ b. b.rm) branches)) ≡ Status.Unknown
fresh_status [] some = absurd (omega arith)
fresh_status (b ∷ branches) some =
    ap (λ t. if t then Status.Aborted else Status.Unknown) (none_aborted branches)
