-- How far each transaction has come at a resource manager: which of its facts are stored.
use Rattle.std.specs.Prelude.{◌≡◌, ℕ, ◌<◌, Bool, true, false, not, ◌&&◌, ◌||◌, if◌then◌else◌, List, [], ◌∷◌, ◌++◌, length, fold}
use Rattle.std.specs.Prelude.{Option, Some, None, is_none}
use Rattle.std.specs.List.{list_any, slice_index_or}
use Rattle.xid.specs.Transactions.{TxParts, tx_eq}
use Rattle.xid.specs.declared.transaction.Vote.{Vote}
use Rattle.stable_record.specs.declared.fact.FactKind.{FactKind as Fact}
use Rattle.stable_record.specs.Facts.{fact_tx}
use Rattle.protocol.specs.declared.states.View.{View}
use Rattle.protocol.specs.Facts.{is_vote_of, is_commit_of, is_abort_of}
use Rattle.transactions.specs.Seen.{place_in, seen_with}
use Rattle.resource_manager.specs.declared.course.Course.{Course}

-- which of the facts of a transaction are stored
pub record Stored : Type 0 where
  pub voted_prepared : Bool
  pub voted_aborted : Bool
  pub committed : Bool
  pub aborted : Bool

-- as the facts say
abbrev pub stored_in : List Fact → TxParts → Stored
stored_in facts tx = record {
  voted_prepared = list_any (is_vote_of tx Vote.Prepared) facts;
  voted_aborted = list_any (is_vote_of tx Vote.Aborted) facts;
  committed = list_any (is_commit_of tx) facts;
  aborted = list_any (is_abort_of tx) facts;
}

-- the transactions of facts, in the order of their first facts
abbrev pub begun_in : List Fact → List TxParts
begun_in facts = fold (λ seen fact. seen_with seen (fact_tx fact)) [] facts

-- those of a course
abbrev pub stored_by : Course → Stored
stored_by Course.Working = record { voted_prepared = false; voted_aborted = false; committed = false; aborted = false }
stored_by Course.Prepared = record { voted_prepared = true; voted_aborted = false; committed = false; aborted = false }
stored_by Course.VotedAborted = record { voted_prepared = false; voted_aborted = true; committed = false; aborted = false }
stored_by Course.Committed = record { voted_prepared = true; voted_aborted = false; committed = true; aborted = false }
stored_by Course.RolledBack = record { voted_prepared = true; voted_aborted = false; committed = false; aborted = true }
stored_by Course.AbortedUnvoted = record { voted_prepared = false; voted_aborted = false; committed = false; aborted = true }

-- the vote among these
abbrev pub vote_among : Stored → Option Vote
vote_among stored = if stored.voted_prepared then Some Vote.Prepared else if stored.voted_aborted then Some Vote.Aborted else None

-- whether an outcome is among these
abbrev pub is_ended_among : Stored → Bool
is_ended_among stored = stored.committed || stored.aborted

-- where a resource manager stands that has stored these
abbrev pub view_among : Stored → View
view_among stored =
    if stored.voted_aborted || stored.aborted then View.Aborted
    else if stored.committed then View.Committed
    else if stored.voted_prepared then View.Prepared
    else View.Working

-- the vote of a course
abbrev pub vote_of : Course → Option Vote
vote_of course = vote_among (stored_by course)

-- whether neither a vote nor an outcome is stored in a course
abbrev pub is_new_course : Course → Bool
is_new_course course = is_none (vote_of course) && not (is_ended_among (stored_by course))

-- where a resource manager stands in a course
abbrev pub view_of : Course → View
view_of course = view_among (stored_by course)

-- the transactions seen, and how far each has come; those of which a fact is stored, in the order of their first facts; and for how many
-- more of these there is room without memory
pub record CoursesParts : Type 0 where
  pub transactions : List TxParts
  pub courses : List Course
  pub begun : List TxParts
  pub room : ℕ

-- a transaction was seen
abbrev pub IsSeen : CoursesParts → TxParts → Type 0
IsSeen parts tx = place_in parts.transactions tx < length parts.transactions

-- the course of a transaction: working where it wasn't seen
abbrev pub course_in : CoursesParts → TxParts → Course
course_in parts tx = slice_index_or parts.courses (place_in parts.transactions tx) Course.Working

-- one transaction has this course now, and each other the one that it had
abbrev pub Sets : (old new : CoursesParts) → TxParts → Course → Type 0
Sets old new tx course = (other : TxParts) → course_in new other ≡ (if tx_eq other tx then course else course_in old other)

-- the transactions of which a fact is stored, once one has another course: one that was working comes last
abbrev pub begun_with : CoursesParts → TxParts → List TxParts
begun_with parts tx = if is_new_course (course_in parts tx) then parts.begun ++ tx ∷ [] else parts.begun
