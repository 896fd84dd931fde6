-- What a rule decides: an answer, at most one fact to store, messages to send, and what it leaves in memory.
use Rattle.std.specs.Prelude.{ℕ, Bool, nat_lt, List, [], ◌∷◌, map, Option, Some, None}
use Rattle.protocol.specs.Basics.{list_all, range_with_len, TxParts, participants, Kind, Fact}
use Rattle.protocol.specs.Vocabulary.{Answer, Done, Row, NodeId, A, L, R, Address, Node, Acceptors, Leaders, Managers, Outgoing, Decision}
use Rattle.protocol.specs.Vocabulary.{Standing, Status, View}

-- the sizes of a cluster, whether phases 1a, 1b and 2b go in bundles, and the first contents of its tables
pub record Config : Type 0 where
  pub acceptors : ℕ
  pub leaders : ℕ
  pub managers : ℕ
  pub bundled : Bool
  pub tables : List (List Row)

-- what a role makes of an input: its answer, at most one fact to store, what to send once that is stored, and what it then keeps
-- in memory, which is of the type M
pub record Effect (M : Type 0) : Type 0 where
  pub answer : Answer
  pub fact : Option Fact
  pub sends : List Outgoing
  pub memory : M

-- what of an effect doesn't stay in memory
abbrev pub decision_of : {M : Type 0} → Effect M → Decision
decision_of e = record { answer = e.answer; fact = e.fact; sends = e.sends }

-- an answer, and nothing else
abbrev pub answer_only : {M : Type 0} → M → Answer → Effect M
answer_only memory answer = record { answer = answer; fact = None; sends = []; memory = memory }

-- ok, and nothing else: also where a message is one that no rule takes
abbrev pub no_effect : {M : Type 0} → M → Effect M
no_effect memory = answer_only memory Done

-- messages alone
abbrev pub sends_only : {M : Type 0} → M → List Outgoing → Effect M
sends_only memory sends = record { answer = Done; fact = None; sends = sends; memory = memory }

-- a fact, and messages after it
abbrev pub stores : {M : Type 0} → M → Fact → List Outgoing → Effect M
stores memory fact sends = record { answer = Done; fact = Some fact; sends = sends; memory = memory }

-- a message to send
abbrev pub to : Address → Kind → Outgoing
to address message = record { to = address; message = message }

-- the nodes that an address means, in ascending order
abbrev pub receivers : Config → Address → TxParts → List NodeId
receivers config (Node node) tx = node ∷ []
receivers config Acceptors tx = map A (range_with_len 0 config.acceptors)
receivers config Leaders tx = map L (range_with_len 0 config.leaders)
receivers config Managers tx = map R (participants tx)

-- whether a transaction names only resource managers of the cluster
abbrev pub is_inside : Config → TxParts → Bool
is_inside config tx = list_all (λ rm. nat_lt rm config.managers) (participants tx)

-- how a status of a leader is answered
abbrev pub status_standing : Status → Standing
status_standing Status.Unknown = Standing.Unknown
status_standing Status.Undecided = Standing.Undecided
status_standing Status.Committed = Standing.Committed
status_standing Status.Aborted = Standing.Aborted

-- how a view of a resource manager is answered
abbrev pub view_standing : View → Standing
view_standing View.Working = Standing.Working
view_standing View.Prepared = Standing.Prepared
view_standing View.Committed = Standing.Committed
view_standing View.Aborted = Standing.Aborted
