-- The grammar of messages: the one spelling of each, field by field, in a version. Numbers are big endian.
use Rattle.std.specs.Prelude.{◌≡◌, ℕ, List, [], ◌∷◌, ◌++◌, length, Option, Some, None}
use Rattle.std.specs.List.{flat_map}
use Rattle.byteorder.specs.Endian.{big_bytes}
use Rattle.xid.specs.Transactions.{TxParts, BranchParts}
use Rattle.xid.specs.declared.transaction.Vote.{Vote}
use Rattle.xid.specs.declared.transaction.Vote.TheVariants.{Prepared, Aborted}
use Rattle.wire.specs.declared.items.InstanceReport.{InstanceReport}
use Rattle.wire.specs.declared.items.InstanceAccept.{InstanceAccept}
use Rattle.wire.specs.declared.message.Kind.{Kind}
use Rattle.wire.specs.declared.message.Kind.TheVariants.{Prepare, P1a, P1b, P2a, P2b, Commit, Abort, Ask, B1a, B1b, B2b}
use Rattle.wire.specs.Messages.{IsMessage, message_tx}
use Rattle.wire.specs.Versions.{Version, version_2}

-- a resource manager's number, and so an instance: as many bytes as the version says
abbrev pub rm_spelling : Version → ℕ → List ℕ
rm_spelling v rm = big_bytes v.rm_width rm

-- a number of 32 bits: four bytes
abbrev pub number_spelling : ℕ → List ℕ
number_spelling n = big_bytes 4 n

-- a gtrid or a bqual: its length, its bytes
abbrev pub component_spelling : List ℕ → List ℕ
component_spelling xs = length xs ∷ xs

-- a branch: its resource manager, its bqual
abbrev pub branch_spelling : Version → BranchParts → List ℕ
branch_spelling v b = rm_spelling v b.rm ++ component_spelling b.bqual

-- branches: how many, and each
abbrev pub branches_spelling : Version → List BranchParts → List ℕ
branches_spelling v bs = length bs ∷ flat_map (branch_spelling v) bs

-- a transaction: its format, its gtrid, its branches
abbrev pub tx_spelling : Version → TxParts → List ℕ
tx_spelling v tx = number_spelling tx.format ++ (component_spelling tx.gtrid ++ branches_spelling v tx.branches)

-- a vote: one byte
abbrev pub vote_byte : Vote → ℕ
vote_byte Prepared = 1
vote_byte Aborted = 2

-- a report of phase 1b: the ballot accepted last and its vote, or five zeros
abbrev pub report_spelling : Option (ℕ × Vote) → List ℕ
report_spelling None = number_spelling 0 ++ 0 ∷ []
report_spelling (Some accepted) = number_spelling accepted.0 ++ vote_byte accepted.1 ∷ []

-- the number of a kind
abbrev pub kind_byte : Kind → ℕ
kind_byte (Prepare tx) = 1
kind_byte (P1a tx rm ballot) = 2
kind_byte (P1b tx rm ballot report acceptor) = 3
kind_byte (P2a tx rm ballot vote) = 4
kind_byte (P2b tx rm ballot vote acceptor) = 5
kind_byte (Commit tx) = 6
kind_byte (Abort tx) = 7
kind_byte (Ask tx rm) = 8
kind_byte (B1a tx ballot) = 10
kind_byte (B1b tx ballot acceptor reports) = 11
kind_byte (B2b tx acceptor accepts) = 12

-- an item of phase 1b: its instance, its report
abbrev pub report_item_spelling : Version → InstanceReport → List ℕ
report_item_spelling v item = rm_spelling v item.instance ++ report_spelling item.report

-- an item of phase 2b: its instance, its ballot, its vote
abbrev pub accept_item_spelling : Version → InstanceAccept → List ℕ
accept_item_spelling v item = rm_spelling v item.instance ++ (number_spelling item.ballot ++ vote_byte item.vote ∷ [])

-- what follows the transaction in each kind
abbrev pub rest_spelling : Version → Kind → List ℕ
rest_spelling v (Prepare tx) = []
rest_spelling v (P1a tx rm ballot) = rm_spelling v rm ++ number_spelling ballot
rest_spelling v (P1b tx rm ballot report acceptor) = rm_spelling v rm
    ++ (number_spelling ballot ++ (report_spelling report ++ acceptor ∷ []))
rest_spelling v (P2a tx rm ballot vote) = rm_spelling v rm ++ (number_spelling ballot ++ vote_byte vote ∷ [])
rest_spelling v (P2b tx rm ballot vote acceptor) = rm_spelling v rm ++ (number_spelling ballot ++ vote_byte vote ∷ acceptor ∷ [])
rest_spelling v (Commit tx) = []
rest_spelling v (Abort tx) = []
rest_spelling v (Ask tx rm) = rm_spelling v rm
rest_spelling v (B1a tx ballot) = number_spelling ballot
rest_spelling v (B1b tx ballot acceptor reports) =
    number_spelling ballot ++ acceptor ∷ length reports ∷ flat_map (report_item_spelling v) reports
rest_spelling v (B2b tx acceptor accepts) = acceptor ∷ length accepts ∷ flat_map (accept_item_spelling v) accepts

-- a message, in version 2: version, kind, transaction, rest
abbrev pub spelling : Kind → List ℕ
spelling k = version_2.byte ∷ kind_byte k ∷ (tx_spelling version_2 (message_tx k) ++ rest_spelling version_2 k)

-- bytes spell a message
pub record Spells (k : Kind) (bytes : List ℕ) : Type 0 where
  pub message : IsMessage k
  pub spelled : bytes ≡ spelling k
