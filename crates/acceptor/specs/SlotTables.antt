-- The slots of all transactions that an acceptor has seen.
use Rattle.std.specs.Prelude.{◌≡◌, ℕ, ◌<◌, not, if◌then◌else◌, List, [], filter, length, Some}
use Rattle.std.specs.List.{list_any, slice_index_or}
use Rattle.xid.specs.Places.{Place, is_below}
use Rattle.xid.specs.Transactions.{TxParts, tx_eq}
use Rattle.ballot.specs.Slots.{empty_slot}
use Rattle.ballot.specs.declared.slot.Slot.{Slot}
use Rattle.transactions.specs.Seen.{AreInside, at_places, place_in}
use Rattle.protocol.specs.Acceptors.{Slots}
use Rattle.acceptor.specs.Slots.{slot_of}

-- the transactions seen, and the slots of each
pub record TableParts : Type 0 where
  pub transactions : List TxParts
  pub slots : List (List Slot)

-- a transaction was seen
abbrev pub IsSeen : TableParts → TxParts → Type 0
IsSeen table tx = place_in table.transactions tx < length table.transactions

-- the slots of a transaction, none where it wasn't seen
abbrev pub slots_in : TableParts → TxParts → List Slot
slots_in table tx = slice_index_or table.slots (place_in table.transactions tx) []

-- all slots
abbrev pub slot_in : TableParts → Slots
slot_in table tx i = slot_of tx (slots_in table tx) i

-- each transaction has its slots, one for each branch
pub record IsTable (table : TableParts) : Type 0 where
  pub rows : length table.slots ≡ length table.transactions
  pub branches : (tx : TxParts) → IsSeen table tx → length (slots_in table tx) ≡ length tx.branches

-- of some transactions those that aren't below a place
abbrev pub txs_above : Place → List TxParts → List TxParts
txs_above place txs = filter (λ tx. not (is_below (Some place) tx)) txs

-- the slots that are left are those of the transactions that have begun and aren't below a place, and these are in their order
pub record IsLeft (place : Place) (table : TableParts) (begun : List TxParts) (left : TableParts) (numbers : List ℕ) : Type 0 where
  pub inside : AreInside (length left.transactions) numbers
  pub begun_are : at_places left.transactions numbers ≡ txs_above place begun
  pub slots_are : (tx : TxParts) (i : ℕ) → slot_in left tx i
      ≡ (if list_any (tx_eq tx) (txs_above place begun) then slot_in table tx i else empty_slot)
