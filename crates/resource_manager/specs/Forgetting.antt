-- What a resource manager keeps of the courses and of the spent names where it forgets what is below a floor.
use Rattle.std.specs.Prelude.{◌≡◌, ℕ, false, not, ◌||◌, if◌then◌else◌, List, filter, Some}
use Rattle.std.specs.List.{list_any}
use Rattle.std.specs.Option.{option_map_or}
use Rattle.xid.specs.Names.{XidParts, xid_eq}
use Rattle.xid.specs.Places.{Place, is_below}
use Rattle.xid.specs.Transactions.{TxParts, xid_at, tx_eq}
use Rattle.resource_manager.specs.declared.course.Course.{Course}
use Rattle.resource_manager.specs.Courses.{CoursesParts, Sets, begun_with, course_in}
use Rattle.resource_manager.specs.Managers.{ManagerParts}
use Rattle.resource_manager.specs.SpentNames.{SpentParts, is_spent_in}

-- one transaction more has a course, and its name at manager number rm is spent
pub record IsKept (rm : ℕ) (tx : TxParts) (course : Course) (old new : CoursesParts) (old_spent new_spent : SpentParts) : Type 0 where
  pub courses_are : Sets old new tx course
  pub begun_are : new.begun ≡ begun_with old tx
  pub spent_are : (x : XidParts) → is_spent_in new_spent x ≡ (option_map_or (xid_eq x) (xid_at tx rm) false || is_spent_in old_spent x)

-- of the transactions of which a fact is stored those that aren't below a place
abbrev pub begun_above : Place → ManagerParts → List TxParts
begun_above place m = filter (λ tx. not (is_below (Some place) tx)) m.courses.begun

-- these courses are those that a resource manager has of these transactions, in their order; and the names that these have here are spent
pub record AreCoursesOf (txs : List TxParts) (m : ManagerParts) (courses : CoursesParts) (spent : SpentParts) : Type 0 where
  pub courses_are : (tx : TxParts) → course_in courses tx ≡ (if list_any (tx_eq tx) txs then course_in m.courses tx else Course.Working)
  pub begun_are : courses.begun ≡ txs
  pub spent_are : (x : XidParts) → is_spent_in spent x ≡ list_any (λ tx. option_map_or (xid_eq x) (xid_at tx m.number) false) txs
