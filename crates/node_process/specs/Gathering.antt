-- What waits comes into a group.
use Rattle.std.specs.Prelude.{◌≡◌, ◌⊎◌, ℕ, ◌+◌, ◌≤◌, ◌++◌, Bool, false, List, [], ◌∷◌, length, map, None, Ok}
use Rattle.std.specs.List.{flat_map}
use Rattle.std.specs.declared.time.Instant.{Instant}
use Rattle.protocol.specs.declared.nodes.NodeId.{NodeId}
use Rattle.protocol.specs.declared.requests.Request.{Request}
use Rattle.port.specs.Calls.{Receiving}
use Rattle.port.specs.Members.{MemberParts}
use Rattle.letter_port.specs.LetterPorts.{LetterParts}
use Rattle.letter_port.specs.Runs.{Given, ReceivesAll, messages_of}
use Rattle.serving.specs.declared.group.Item.{Item}
use Rattle.serving.specs.declared.group.Origin.TheVariants.{Node}
use Rattle.serving.specs.declared.group.Work.TheVariants.{Take, Ask}
use Rattle.serving.specs.declared.taking.TheConstants.{MOST_ITEMS}
use Rattle.serving.specs.declared.watches.Watches.{Watches}
use Rattle.serving.specs.Taking.{HearsAll}
use Rattle.node_process.specs.declared.desk.Desk.{Desk}
use Rattle.node_process.specs.Due.{asked_after, DueTx, IsNoneDue, TakesUp, TakesUpEach}

-- ---- requests that nobody is answered for

-- a request for which nobody is answered, as an item of a group
abbrev pub asked_item : Request → Item
asked_item request = record { origin = Node; work = Ask request }

-- the first requests that were pending came into a group, in their order, and the others are pending still
pub record TakesPending (pending left : List Request) (old new : List Item) : Type 0 where
  pub taken : List Request
  pub whole : pending ≡ taken ++ left
  pub came : new ≡ old ++ map asked_item taken

-- no request is pending any more, or a group has room for no more
abbrev pub AreAllTaken : (left : List Request) → (items : List Item) → Type 0
AreAllTaken left items = (left ≡ []) ⊎ (MOST_ITEMS ≤ length items)

-- ---- what is due

-- the next transaction that is due was taken up, and what is asked after it came into a group
pub record TakesNext (who : NodeId) (now : Instant) (was is : MemberParts) (before after : Watches) (old new : List Item) : Type 0 where
  pub one : DueTx
  pub takes : TakesUp who now one was is before after
  pub came : new ≡ old ++ map asked_item (asked_after who one)

-- none is due, and nothing came into a group
pub record TakesNone (now : Instant) (was is : MemberParts) (before after : Watches) (old new : List Item) : Type 0 where
  pub none : IsNoneDue now before after
  pub node : is ≡ was
  pub items : new ≡ old

-- these transactions that were due were taken up, one after another, and what is asked after them came into a group
pub record TakesThese (taken : List DueTx) (who : NodeId) (now : Instant) (was is : MemberParts) (before after : Watches)
    (old new : List Item) : Type 0 where
  pub each : TakesUpEach who now taken was is before after
  pub came : new ≡ old ++ map asked_item (flat_map (asked_after who) taken)

-- no more was taken up: as many were as there was room for, or nothing more is due
abbrev pub IsEnough : (many : ℕ) → (now : Instant) → (before after : Watches) → Type 0
IsEnough many now before after = ((MOST_ITEMS ≤ many) × (after ≡ before)) ⊎ IsNoneDue now before after

-- what is due was taken up, as much as there was room for, and what is asked after it came into a group
pub record TakesDue (who : NodeId) (now : Instant) (was is : MemberParts) (before after : Watches) (old new : List Item) : Type 0 where
  pub taken : List DueTx
  pub last : Watches
  pub these : TakesThese taken who now was is before last old new
  pub enough : IsEnough (length old + length taken) now last after

-- ---- messages

-- a message as an item of a group
abbrev pub taken_item : List ℕ → Item
taken_item bytes = record { origin = Node; work = Take bytes }

-- a port was asked for what waits, any number of times, and nothing else
pub record Receives {P : Type 0} (Received : Receiving P) (before after : LetterParts P) : Type 0 where
  pub given : List Given
  pub each : ReceivesAll Received before after given

-- the messages that a port gave came into a group, in their order
pub record TakesMessages {P : Type 0} (Received : Receiving P) (before after : LetterParts P) (old new : List Item) : Type 0 where
  pub given : List Given
  pub receives : ReceivesAll Received before after given
  pub taken : new ≡ old ++ map taken_item (messages_of given)

-- the last that a port was asked, it had nothing to give
abbrev pub GaveNothing : List Given → Type 0
GaveNothing given = (first : List Given) × (given ≡ first ++ Ok None ∷ [])

-- where no datagram may be there any more: none might before, or the last that the port was asked, it had nothing to give
abbrev pub IsEmptied : (might may : Bool) → List Given → Type 0
IsEmptied might may given = may ≡ false → (might ≡ false) ⊎ GaveNothing given

-- ---- a group

-- what came into a group of what is nobody's: requests that were pending, what is asked after transactions that are due and open at the
-- node, and the messages that the port gave
pub record GathersAhead {P : Type 0} (Received : Receiving P) (now : Instant) (old new : Desk) (was is : MemberParts)
    (before after : LetterParts P) (ahead : List Item) : Type 0 where
  pub pending : List Item
  pub takes : TakesPending old.pending.items new.pending.items [] pending
  pub all : AreAllTaken new.pending.items pending
  pub asked : List Item
  pub due : TakesDue old.terms.who now was is old.notes.watches new.notes.watches pending asked
  pub messages : TakesMessages Received before after asked ahead
  pub emptied : IsEmptied old.has_datagrams new.has_datagrams messages.given

-- what came into a group: what is nobody's, and behind it the lines of clients
pub record AreGathered {P : Type 0} (Received : Receiving P) (now : Instant) (old new : Desk) (was is : MemberParts)
    (before after : LetterParts P) (items : List Item) : Type 0 where
  pub ahead : List Item
  pub gathered : GathersAhead Received now old new was is before after ahead
  pub hears : HearsAll old.terms old.clients.seats new.clients.seats ahead items
