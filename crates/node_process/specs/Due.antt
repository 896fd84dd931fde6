-- Transactions that are due: each is handed out, and asked after where it is open at the node.
use Rattle.std.specs.Prelude.{◌≡◌, ℕ, ◌+◌, ◌-◌, ◌^◌, min, nat_lt, Bool, true, false, if◌then◌else◌, MatchBool}
use Rattle.std.specs.Prelude.{List, [], ◌∷◌, None, is_some}
use Rattle.std.specs.List.{AllByRecursion}
use Rattle.std.specs.declared.time.Instant.{Instant}
use Rattle.xid.specs.Transactions.{TxParts}
use Rattle.wire.specs.Grammar.{tx_spelling}
use Rattle.wire.specs.Versions.{version_2}
use Rattle.protocol.specs.Effects.{Config}
use Rattle.protocol.specs.Nodes.{Asked, NodeState}
use Rattle.protocol.specs.declared.answers.Answer.{Answer}
use Rattle.protocol.specs.declared.answers.Answer.TheVariants.{Stands}
use Rattle.protocol.specs.declared.nodes.NodeId.{NodeId}
use Rattle.protocol.specs.declared.nodes.NodeId.TheVariants.{L}
use Rattle.protocol.specs.declared.requests.Request.{Request}
use Rattle.protocol.specs.declared.requests.Request.TheVariants.{Commit, Timeout}
use Rattle.protocol.specs.declared.states.Standing.TheVariants.{Undecided, Prepared}
use Rattle.resource_manager.specs.Open.{open_in}
use Rattle.node_core.specs.Nodes.{NodeParts, NodeStands}
use Rattle.node_core.specs.declared.output.Output.{Output}
use Rattle.port.specs.Members.{Acts, MemberParts, Takes}
use Rattle.serving.specs.declared.watches.Watches.{Watches}
use Rattle.serving.specs.Happenings.{question}
use Rattle.serving.specs.Named.{seen, AreAsBefore, IsHandedOut, IsNothingDue, IsPutOff, SetsOnly}
use Rattle.serving.specs.Watching.{AreOnTime}

-- ---- what is asked

-- whether an answer says that a transaction is open: how it ends isn't known
abbrev pub says_open : Answer → Bool
says_open (Stands Undecided) = true
says_open (Stands Prepared) = true
says_open answer = false

-- a node was asked where a transaction stands, and said by its answer whether it is open
pub record IsOpenAt (who : NodeId) (tx : TxParts) (was is : MemberParts) (is_open : Bool) : Type 0 where
  pub out : Output
  pub takes : Takes (Acts (Asked (question who tx))) was is out
  pub open_is : is_open ≡ says_open out.reply

-- what is asked after a transaction that is due at a turn: a leader asks to prepare once more at the first two, and else nothing was heard
-- of it for too long
abbrev pub question_due : NodeId → (turn : ℕ) → TxParts → Request
question_due (L number) turn tx = if nat_lt turn 2 then Commit tx else Timeout tx
question_due who turn tx = Timeout tx

-- a transaction that was due, at which turn, and what came of the question to the node where it stands
pub record DueTx : Type 0 where
  pub tx : TxParts
  pub turn : ℕ
  pub out : Output

-- what is asked after it: nothing where it isn't open
abbrev pub asked_after : NodeId → DueTx → List Request
asked_after who one = if says_open one.out.reply then question_due who one.turn one.tx ∷ [] else []

-- ---- what is watched

-- a transaction is watched
abbrev pub IsWatched : Watches → TxParts → Type 0
IsWatched watches tx = is_some (seen watches (tx_spelling version_2 tx)) ≡ true

-- all that a resource manager's record has prepared and not ended is watched
abbrev pub AsksAfterOpen : NodeParts → Watches → Type 0
AsksAfterOpen node watches =
    (config : Config) (m : NodeState) → NodeStands config node m → AllByRecursion (IsWatched watches) (open_in m.facts)

-- what is watched keeps its schedule, and stays on time where it was
pub record KeepsTime (now : Instant) (old new : Watches) : Type 0 where
  pub schedule : new.schedule ≡ old.schedule
  pub on_time : AreOnTime old.schedule old.queues.items now → AreOnTime new.schedule new.queues.items now

-- a transaction that was due was handed out, and the node was asked where it stands: where it is open there it waits from now on for its
-- next turn, and else it is watched no longer
pub record TakesUp (who : NodeId) (now : Instant) (one : DueTx) (was is : MemberParts) (old new : Watches) : Type 0 where
  pub handed : Watches
  pub hands : IsHandedOut (seen old) (seen handed) now (tx_spelling version_2 one.tx) one.turn
  pub hands_in_time : KeepsTime now old handed
  pub takes : Takes (Acts (Asked (question who one.tx))) was is one.out
  pub goes_on : MatchBool (says_open one.out.reply)
      (IsPutOff (seen handed) (seen new) (tx_spelling version_2 one.tx) hands.watch handed.schedule handed.queues.items
      (min (one.turn + 1) (2 ^ 64 - 1)) now)
      (SetsOnly (seen handed) (seen new) (tx_spelling version_2 one.tx) None)
  pub goes_in_time : KeepsTime now handed new

-- these were, one after another
abbrev pub TakesUpEach : NodeId → Instant → List DueTx → (was is : MemberParts) → (old new : Watches) → Type 0
TakesUpEach who now [] was is old new = (is ≡ was) × (new ≡ old)
TakesUpEach who now (one ∷ more) was is old new =
    (next : MemberParts) × (mid : Watches) × TakesUp who now one was next old mid × TakesUpEach who now more next is mid new

-- nothing is due, and all that is watched is as it was
pub record IsNoneDue (now : Instant) (old new : Watches) : Type 0 where
  pub none : IsNothingDue (seen old) now
  pub same : AreAsBefore (seen old) (seen new)
  pub in_time : KeepsTime now old new
