-- What contracts see of a leader, and which state of the machine it stands for.
use Rattle.std.specs.Prelude.{◌≡◌, ℕ, ◌<◌, ◌^◌, Some, None, Bool, true, IsTrue, List, [], if◌then◌else◌, nat_lt, Result, Ok, Err}
use Rattle.std.specs.List.{list_all, list_any}
use Rattle.xid.specs.Transactions.{TxParts, tx_eq}
use Rattle.xid.specs.declared.refusals.Refusal.{Refusal}
use Rattle.stable_record.specs.declared.fact.FactKind.{FactKind as Fact}
use Rattle.stable_record.specs.Facts.{fact_tx}
use Rattle.ballot.specs.Ballots.{next_of}
use Rattle.transactions.specs.Seen.{first_seen}
use Rattle.protocol.specs.declared.answers.Answer.TheVariants.{Done, Refused}
use Rattle.protocol.specs.declared.decisions.Decision.{Decision}
use Rattle.protocol.specs.declared.states.Status.{Status}
use Rattle.protocol.specs.declared.decisions.Outgoing.{Outgoing}
use Rattle.protocol.specs.declared.decisions.Address.TheVariants.{Managers}
use Rattle.protocol.specs.Effects.{Config, Effect, decision_of}
use Rattle.protocol.specs.Facts.{last_ballot}
use Rattle.protocol.specs.LeaderMemory.{LeaderMemory, StoredBallots}
use Rattle.protocol.specs.Leaders.{plays_at_leader, is_final, outcome_messages}
use Rattle.stable_record.specs.Parts.{Part}
use Rattle.leader.specs.declared.decision.LeaderDecision.{LeaderDecision}
use Rattle.leader.specs.Courses.{CourseParts, CourseStands}
use Rattle.leader.specs.Places.{CoursesParts, course_in, is_ready_in}
use Rattle.leader.specs.Decisions.{shown}
use Rattle.leader.specs.Orders.{prepare_messages, phase_1a_by}

-- which leader it is, of which cluster, and the transactions that it has a course of
pub record LeaderParts : Type 0 where
  pub number : ℕ
  pub acceptors : ℕ
  pub leaders : ℕ
  pub managers : ℕ
  pub bundled : Bool
  pub courses : CoursesParts

-- the course of a transaction
abbrev pub course_of : LeaderParts → TxParts → CourseParts
course_of leader tx = course_in leader.courses tx

-- a leader is this one of a cluster, and answers each question as its stored ballots and memory do; each transaction of a stored ballot
-- is among those that begin
pub record StandsForBallots (config : Config) (number : ℕ) (leader : LeaderParts) (stored : StoredBallots)
    (memory : LeaderMemory) : Type 0 where
  pub number_is : leader.number ≡ number
  pub acceptors_are : leader.acceptors ≡ config.acceptors
  pub leaders_are : leader.leaders ≡ config.leaders
  pub managers_are : leader.managers ≡ config.managers
  pub bundled_is : leader.bundled ≡ config.bundled
  pub courses_are : (tx : TxParts) → CourseStands config.acceptors stored memory tx (course_of leader tx)
  pub begun_are : (tx : TxParts) → 0 < stored tx → list_any (tx_eq tx) leader.courses.begun ≡ true

-- the transactions of facts, in the order of their first facts
abbrev pub begun_in : List Fact → List TxParts
begun_in facts = first_seen fact_tx facts

-- the same by the facts of its record: those that begin are their transactions, in the order of their first facts
pub record StandsFor (config : Config) (number : ℕ) (leader : LeaderParts) (facts : List Fact) (memory : LeaderMemory) : Type 0 where
  pub ballots : StandsForBallots config number leader (last_ballot facts) memory
  pub begun_are : leader.courses.begun ≡ begun_in facts

-- a rule of leaders, at some input
abbrev pub Rule : Type 0
Rule = StoredBallots → LeaderMemory → Effect LeaderMemory

-- a decision is the rule's, and afterwards the leader stands for what the rule leaves in memory; those that begin stay
pub record Follows (config : Config) (number : ℕ) (old new : LeaderParts) (decision : LeaderDecision) (rule : Rule) : Type 0 where
  pub decides : (stored : StoredBallots) (memory : LeaderMemory) → StandsForBallots config number old stored memory
      → shown decision ≡ decision_of (rule stored memory)
  pub stands : (stored : StoredBallots) (memory : LeaderMemory) → StandsForBallots config number old stored memory
      → StandsForBallots config number new stored (rule stored memory).memory
  pub begun_is : new.courses.begun ≡ old.courses.begun

-- it stands for whatever it stood for
pub record IsSame (config : Config) (number : ℕ) (old new : LeaderParts) : Type 0 where
  pub stands : (stored : StoredBallots) (memory : LeaderMemory) → StandsForBallots config number old stored memory
      → StandsForBallots config number new stored memory
  pub begun_is : new.courses.begun ≡ old.courses.begun

-- a call that gives no fact: it follows the rule, or memory is refused and nothing changes
abbrev pub FollowsOrRefuses : Config → ℕ → (old new : LeaderParts) → Result LeaderDecision Refusal → Rule → Type 0
FollowsOrRefuses config number old new (Ok decision) rule = Follows config number old new decision rule
FollowsOrRefuses config number old new (Err Refusal.NoMemory) rule = IsSame config number old new
FollowsOrRefuses config number old new (Err other) rule = ⊥

-- what a call gives that leaves its decision in a place, or refuses
abbrev pub decided : LeaderDecision → Result (Unit {0}) Refusal → Result LeaderDecision Refusal
decided decision (Ok done) = Ok decision
decided decision (Err refusal) = Err refusal

-- leader `number` of a cluster as a part of a node, with what it has in memory
abbrev pub leader_part : (config : Config) (number : ℕ) (memory : LeaderMemory) → Part LeaderParts
leader_part config number memory = record {
  StandsFor = λ leader facts. StandsFor config number leader facts memory;
  plays = λ facts fact. plays_at_leader config.leaders number (last_ballot facts) fact;
  IsReadyFor = IsReady;
}
  where
    IsReady : LeaderParts → Fact → Type 0
    IsReady leader (Fact.Ballot tx b) = IsTrue (is_ready_in leader.courses tx)
    IsReady leader fact = Unit {0}

-- what a commit call sends, by the status
abbrev pub commit_messages : Status → TxParts → List Outgoing
commit_messages status tx = if is_final status then outcome_messages status tx Managers else prepare_messages tx

-- whether numbers are below one
abbrev pub are_below : ℕ → List ℕ → Bool
are_below n numbers = list_all (λ rm. nat_lt rm n) numbers

-- a ballot to be stored, with its phase 1a, if it fits
abbrev pub taken_over_if : (bundled : Bool) → TxParts → ℕ → (fits : Bool) → Decision
taken_over_if bundled tx b fits =
    if fits then record { answer = Done; fact = Some (Fact.Ballot tx b); sends = phase_1a_by bundled tx b }
    else record { answer = Refused Refusal.NoBallot; fact = None; sends = [] }

-- the leader's next ballot after the last, or that there is none
abbrev pub taken_over : (number leaders : ℕ) (bundled : Bool) → TxParts → (last : ℕ) → Decision
taken_over number leaders bundled tx last =
    taken_over_if bundled tx (next_of leaders number last) (nat_lt (next_of leaders number last) (2 ^ 32))
