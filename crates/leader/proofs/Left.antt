-- The courses that are left where those of some transactions are put one after another among none.
-- Needed by `Courses::begin_above`, `Courses::put` and `Courses::put_above`.
use Rattle.std.proofs.Common.{◌≡◌, ◌∙◌, ℕ, suc, ◌+◌, ◌<◌, ◌≤◌, Bool, true, false, not, ◌||◌, cond, List, [], ◌∷◌, ◌++◌, length, get_or}
use Rattle.std.proofs.Common.{Some, map, take, refl, sym, ap, subst, arith}
use Rattle.std.specs.Prelude.{filter, if◌then◌else◌}
use Rattle.std.specs.List.{IsDistinct, list_any}
use Rattle.std.proofs.lemmas.Bool.{false_from_ne_true, not-true}
use Rattle.std.proofs.lemmas.List.{append-nil, get_or_default, get_or_past, length_push, map-append, take_all}
use Rattle.std.proofs.lemmas.List.Elements.{filter_more}
use Rattle.xid.specs.Places.{Place, is_below}
use Rattle.xid.specs.Transactions.{TxParts, tx_eq}
use Rattle.xid.proofs.Deciding.{tx_decides}
use Rattle.transactions.specs.Seen.{OrderParts, at_places, no_transaction, place_in, seen_with}
use Rattle.transactions.proofs.Above.{any_passing}
use Rattle.transactions.proofs.Before.{absent_place, new_passing}
use Rattle.transactions.proofs.Keys.{absent_from_place}
use Rattle.transactions.proofs.Places.{at_places_grown, still_inside}
use Rattle.transactions.proofs.Rows.{number_at}
use Rattle.protocol.proofs.Lists.{any_found, filter_kept}
use Rattle.leader.specs.Courses.{CourseParts, fresh}
use Rattle.leader.specs.Places.{CoursesParts, IsKept, course_in, with_beginning, with_room}
use Rattle.leader.proofs.PlaceSteps.{IsCourses, courses_at}

-- the course of a transaction, by those in a row
abbrev pub row_in : List TxParts → List CourseParts → TxParts → CourseParts
row_in ts rows tx = get_or rows (place_in ts tx) (fresh tx)

-- the courses of some transactions, in their order, beside those that begin
pub record HasCoursesOf (course : TxParts → CourseParts) (txs begun : List TxParts) (left : CoursesParts) : Type 0 where
  pub transactions_are : left.transactions ≡ txs
  pub rows_are : left.rows ≡ map course txs
  pub begun_are : left.begun ≡ begun

-- courses that stay, and these transactions that begin
pub record HasBegun (start : CoursesParts) (txs : List TxParts) (left : CoursesParts) : Type 0 where
  pub courses_are : (tx : TxParts) → course_in left tx ≡ course_in start tx
  pub begun_are : left.begun ≡ txs

-- the course of a transaction, that of one unknown where it isn't there
course_there : (course : TxParts → CourseParts) (tx : TxParts) (ts : List TxParts)
    → get_or (map course ts) (place_in ts tx) (fresh tx) ≡ (if list_any (tx_eq tx) ts then course tx else fresh tx)
course_there course tx [] = refl
course_there course tx (t ∷ ts) = by (tx_eq tx t) refl (course_there course tx ts)
  where
    by : (b : Bool) → tx_eq tx t ≡ b
        → get_or (map course ts) (place_in ts tx) (fresh tx) ≡ (if list_any (tx_eq tx) ts then course tx else fresh tx)
        → get_or (course t ∷ map course ts) (cond (not b) (1 + place_in ts tx) 0) (fresh tx)
        ≡ (if b || list_any (tx_eq tx) ts then course tx else fresh tx)
    by true e rest = ap course (sym ((tx_decides tx t).0 e))
    by false e rest =
        let next : 1 + place_in ts tx ≡ suc (place_in ts tx) = omega arith in
        ap (λ (n : ℕ). get_or (course t ∷ map course ts) n (fresh tx)) next ∙ rest

-- ---- one transaction more that has no place, by the fields that some courses are kept in

module _ (ts : List TxParts) (rows : List CourseParts) (places : OrderParts) (inside : IsCourses ts rows places) (tx : TxParts)
    (course : CourseParts) (courses : CoursesParts) (is : courses_at ts rows places ≡ courses)
    (none : place_in courses.transactions tx ≡ length courses.transactions) (us : List TxParts) (more : List CourseParts)
    (added : us ≡ seen_with ts tx) (pushed : more ≡ rows ++ course ∷ []) where
  none_here : place_in ts tx ≡ length ts
  none_here = subst (λ (k : CoursesParts). place_in k.transactions tx ≡ length k.transactions) (sym is) none

  last : us ≡ ts ++ tx ∷ []
  last = added ∙ ap (λ (t : Bool). if t then ts else ts ++ tx ∷ []) (absent_from_place (tx_eq tx) ts none_here)

  -- one course more at the end is still in place
  pub put_inside : IsCourses us more places
  put_inside = (
    ap length pushed ∙ length_push rows course ∙ ap (λ (n : ℕ). n + 1) inside.0 ∙ sym (length_push ts tx) ∙ ap length (sym last),
    still_inside places.numbers (length ts) (length us) (omega (arith, ap length last, length_push ts tx)) inside.1,
  )

  -- the parts with it
  pub put_parts : courses_at us more places ≡ record courses {
    transactions = courses.transactions ++ tx ∷ [];
    rows = courses.rows ++ course ∷ [];
  }
  put_parts =
      (λ k. record {
        transactions = last k;
        rows = pushed k;
        begun = (ap (λ (txs : List TxParts). at_places txs places.numbers) last ∙ at_places_grown ts tx places.numbers inside.1) k;
        room = places.room;
      })
      ∙ ap (λ (k : CoursesParts). record k { transactions = k.transactions ++ tx ∷ []; rows = k.rows ++ course ∷ [] }) is

module _ (place : Place) where
  abbrev p : TxParts → Bool
  p tx = not (is_below (Some place) tx)

  -- one that is below isn't among those that aren't
  none_below : (tx : TxParts) (txs : List TxParts) → is_below (Some place) tx ≡ true → list_any (tx_eq tx) (filter p txs) ≡ false
  none_below tx txs below = false_from_ne_true (list_any (tx_eq tx) (filter p txs)) (λ there.
      let found = any_found (tx_eq tx) (filter p txs) there in
      let high = not-true (is_below (Some place) found.element) (filter_kept p txs found.element found.among).1 in
      let low : is_below (Some place) found.element ≡ true =
      subst (λ (t : TxParts). is_below (Some place) t ≡ true) ((tx_decides tx found.element).0 found.passes) below in
      absurd (cc (high, low)))

  -- ---- one transaction more, of some no two of which are the same

  module _ (ts : List TxParts) (n : ℕ) (tx : TxParts) (within : n < length ts) (here : get_or ts n no_transaction ≡ tx) where
    one_more : filter p (take (n + 1) ts) ≡ filter p (take n ts) ++ cond (p tx) (tx ∷ []) []
    one_more =
        filter_more p ts n no_transaction within ∙ ap (λ (t : TxParts). filter p (take n ts) ++ cond (p t) (t ∷ []) []) here

    pub none_more : is_below (Some place) tx ≡ true → filter p (take (n + 1) ts) ≡ filter p (take n ts)
    none_more below =
        one_more ∙ ap (λ (b : Bool). filter p (take n ts) ++ cond (not b) (tx ∷ []) []) below ∙ append-nil (filter p (take n ts))

    pub last_more : is_below (Some place) tx ≡ false → filter p (take (n + 1) ts) ≡ filter p (take n ts) ++ tx ∷ []
    last_more above = one_more ∙ ap (λ (b : Bool). filter p (take n ts) ++ cond (not b) (tx ∷ []) []) above

    -- ---- it begins after the others

    begins_last : IsDistinct tx_eq ts → is_below (Some place) tx ≡ false
        → seen_with (filter p (take n ts)) tx ≡ filter p (take (n + 1) ts)
    begins_last once above =
        ap (λ (b : Bool). cond b (filter p (take n ts)) (filter p (take n ts) ++ tx ∷ []))
        (new_passing p ts n tx once within here (ap not above))
        ∙ sym (last_more above)

    -- a transaction below the floor doesn't begin again
    pub begins_not : (start left : CoursesParts) → is_below (Some place) tx ≡ true → HasBegun start (filter p (take n ts)) left
        → HasBegun start (filter p (take (n + 1) ts)) left
    begins_not start left below has =
        record { courses_are = has.courses_are; begun_are = has.begun_are ∙ sym (none_more below) }

    -- one that isn't does
    pub begins_there : (start left made next : CoursesParts) (room : ℕ) → IsDistinct tx_eq ts → is_below (Some place) tx ≡ false
        → IsKept left made → next ≡ with_room (with_beginning made tx) room → HasBegun start (filter p (take n ts)) left
        → HasBegun start (filter p (take (n + 1) ts)) next
    begins_there start left made next room once above kept listed has = record {
      courses_are = λ other. ap (λ (k : CoursesParts). course_in k other) listed ∙ kept.courses_are other ∙ has.courses_are other;
      begun_are =
          ap (λ (k : CoursesParts). k.begun) listed
          ∙ ap (λ (txs : List TxParts). seen_with txs tx) (kept.begun_is ∙ has.begun_are)
          ∙ begins_last once above;
    }

  -- ---- the courses

  module _ (ts : List TxParts) (rows : List CourseParts) (begun : List TxParts) (n : ℕ) (tx : TxParts) (once : IsDistinct tx_eq ts)
      (within : n < length ts) (here : get_or ts n no_transaction ≡ tx) where
    -- the course of one below the floor isn't put
    pub left_out : (left : CoursesParts) → is_below (Some place) tx ≡ true
        → HasCoursesOf (row_in ts rows) (filter p (take n ts)) begun left
        → HasCoursesOf (row_in ts rows) (filter p (take (n + 1) ts)) begun left
    left_out left below has =
        subst (λ (txs : List TxParts). HasCoursesOf (row_in ts rows) txs begun left) (sym (none_more ts n tx within here below)) has

    module _ (above : is_below (Some place) tx ≡ false) (left : CoursesParts)
        (has : HasCoursesOf (row_in ts rows) (filter p (take n ts)) begun left) where
      -- one that is to be put has no place yet
      pub has_no_place : place_in left.transactions tx ≡ length left.transactions
      has_no_place =
          absent_place (tx_eq tx) left.transactions
          (ap (list_any (tx_eq tx)) has.transactions_are ∙ new_passing p ts n tx once within here (ap not above))

      course_is : (course : CourseParts) → n < length rows → course ≡ get_or rows n course → course ≡ row_in ts rows tx
      course_is course less read =
          read ∙ get_or_default rows n course (fresh tx) less
          ∙ ap (λ (k : ℕ). get_or rows k (fresh tx))
          (sym (number_at ts n no_transaction once within) ∙ ap (place_in ts) here)

      -- and its course is put at the end
      pub put_there : (course : CourseParts) → n < length rows → course ≡ get_or rows n course → (next : CoursesParts)
          → next ≡ record left { transactions = left.transactions ++ tx ∷ []; rows = left.rows ++ course ∷ [] }
          → HasCoursesOf (row_in ts rows) (filter p (take (n + 1) ts)) begun next
      put_there course less read next put = record {
        transactions_are =
            ap (λ (k : CoursesParts). k.transactions) put ∙ ap (λ (txs : List TxParts). txs ++ tx ∷ []) has.transactions_are
            ∙ sym (last_more ts n tx within here above);
        rows_are =
            ap (λ (k : CoursesParts). k.rows) put
            ∙ (λ k. has.rows_are k ++ course_is course less read k ∷ [])
            ∙ sym (map-append (row_in ts rows) (filter p (take n ts)) (tx ∷ []))
            ∙ ap (map (row_in ts rows)) (sym (last_more ts n tx within here above));
        begun_are = ap (λ (k : CoursesParts). k.begun) put ∙ has.begun_are;
      }

  -- in the end each transaction that isn't below has its course
  pub courses_left : (ts : List TxParts) (rows : List CourseParts) (begun : List TxParts) (n : ℕ) (left : CoursesParts)
      → length rows ≡ length ts → length ts ≤ n → HasCoursesOf (row_in ts rows) (filter p (take n ts)) begun left → (tx : TxParts)
      → course_in left tx ≡ (if is_below (Some place) tx then fresh tx else row_in ts rows tx)
  courses_left ts rows begun n left each all has tx =
      (λ k. get_or (has.rows_are k) (place_in (has.transactions_are k) tx) (fresh tx))
      ∙ course_there (row_in ts rows) tx (filter p (take n ts))
      ∙ ap (λ (txs : List TxParts). if list_any (tx_eq tx) (filter p txs) then row_in ts rows tx else fresh tx) (take_all n ts all)
      ∙ by_floor (is_below (Some place) tx) refl
    where
      by_place : (b : Bool) → list_any (tx_eq tx) ts ≡ b → (if b then row_in ts rows tx else fresh tx) ≡ row_in ts rows tx
      by_place true there = refl
      by_place false absent =
          let full = absent_place (tx_eq tx) ts absent in
          sym (get_or_past rows (place_in ts tx) (fresh tx) (omega (arith, full, each)))

      by_floor : (b : Bool) → is_below (Some place) tx ≡ b
          → (if list_any (tx_eq tx) (filter p ts) then row_in ts rows tx else fresh tx)
          ≡ (if b then fresh tx else row_in ts rows tx)
      by_floor true below = ap (λ (b : Bool). if b then row_in ts rows tx else fresh tx) (none_below tx ts below)
      by_floor false above =
          ap (λ (b : Bool). if b then row_in ts rows tx else fresh tx) (any_passing p tx (ap not above) ts)
          ∙ by_place (list_any (tx_eq tx) ts) refl
