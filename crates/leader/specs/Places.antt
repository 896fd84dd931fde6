-- The courses of several transactions, each at the number of its transaction.
use Rattle.std.specs.Prelude.{◌≡◌, ℕ, ◌<◌, ◌&&◌, Bool, not, nat_lt, if◌then◌else◌, List, filter, length, Option, Some, None}
use Rattle.std.specs.List.{slice_index_or}
use Rattle.xid.specs.Places.{Place, is_below}
use Rattle.xid.specs.Transactions.{TxParts, tx_eq}
use Rattle.transactions.specs.Seen.{place_in, seen_with}
use Rattle.leader.specs.Courses.{CourseParts, fresh}

-- the transactions that have a place, in the order of first sight, the course of each, and those of which a ballot is stored, in the
-- order of the first; and for how many more of these there is room without memory
pub record CoursesParts : Type 0 where
  pub transactions : List TxParts
  pub rows : List CourseParts
  pub begun : List TxParts
  pub room : ℕ

-- the course of a transaction among some; that of one unknown where there is none
abbrev pub course_in : CoursesParts → TxParts → CourseParts
course_in courses tx = slice_index_or courses.rows (place_in courses.transactions tx) (fresh tx)

-- whether a transaction has a place
abbrev pub is_placed_in : CoursesParts → TxParts → Bool
is_placed_in courses tx = nat_lt (place_in courses.transactions tx) (length courses.transactions)

-- whether a ballot of a transaction can be stored with no memory more: it has a place, and there is room for one more that begins
abbrev pub is_ready_in : CoursesParts → TxParts → Bool
is_ready_in courses tx = is_placed_in courses tx && nat_lt 0 courses.room

-- courses with a transaction more among those that begin
abbrev pub with_beginning : CoursesParts → TxParts → CoursesParts
with_beginning courses tx = record courses { begun = seen_with courses.begun tx }

-- courses with room for so many that begin
abbrev pub with_room : CoursesParts → ℕ → CoursesParts
with_room courses room = record courses { room = room }

-- what is found of a transaction: its place, or that it has none
abbrev pub IsPlaceOf : CoursesParts → TxParts → Option ℕ → Type 0
IsPlaceOf courses tx None = place_in courses.transactions tx ≡ length courses.transactions
IsPlaceOf courses tx (Some place) = (place ≡ place_in courses.transactions tx) × (place < length courses.transactions)

-- the course of a transaction is another, and all else stays
pub record IsChanged (old new : CoursesParts) (tx : TxParts) (c : CourseParts) : Type 0 where
  pub begun_is : new.begun ≡ old.begun
  pub courses_are : (other : TxParts) → course_in new other ≡ (if tx_eq other tx then c else course_in old other)

-- the course of each transaction stays, and those that begin
pub record IsKept (old new : CoursesParts) : Type 0 where
  pub begun_is : new.begun ≡ old.begun
  pub courses_are : (other : TxParts) → course_in new other ≡ course_in old other

-- the courses that are left are those of transactions that aren't below a floor, and those that begin keep their order
pub record IsLeft (place : Place) (old left : CoursesParts) : Type 0 where
  pub courses_are : (tx : TxParts) → course_in left tx ≡ (if is_below (Some place) tx then fresh tx else course_in old tx)
  pub begun_are : left.begun ≡ filter (λ tx. not (is_below (Some place) tx)) old.begun
