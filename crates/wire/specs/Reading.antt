-- How fields are taken from the front of bytes, in a version.
use Rattle.std.specs.Prelude.{ℕ, zero, suc, ◌==◌, cond, nat_lt, List, [], ◌∷◌, length, take, drop, Option, Some, None}
use Rattle.std.specs.Borrow.{Bor}
use Rattle.byteorder.specs.Endian.{big_number}
use Rattle.xid.specs.Limits.{most_component, most_branches}
use Rattle.xid.specs.Transactions.{TxParts, BranchParts}
use Rattle.xid.specs.declared.transaction.Vote.{Vote}
use Rattle.xid.specs.declared.transaction.Vote.TheVariants.{Prepared, Aborted}
use Rattle.wire.specs.Versions.{Version, version_2}
use Rattle.wire.specs.declared.items.InstanceReport.{InstanceReport}
use Rattle.wire.specs.declared.items.InstanceAccept.{InstanceAccept}
use Rattle.wire.specs.declared.message.Kind.{Kind}
use Rattle.wire.specs.declared.message.Kind.TheVariants.{Prepare, P1a, P1b, P2a, P2b, Commit, Abort, Ask, B1a, B1b, B2b}

infixl 10 ◌>>=◌
-- one step after another: none where a step gives none
abbrev pub ◌>>=◌ : {A B : Type 0} → Option A → (A → Option B) → Option B
None >>= f = None
(Some x) >>= f = f x

-- a field that was taken, and the bytes after it
abbrev pub taken : {X : Type 0} → Option (X × Bor (List ℕ)) → Option (X × List ℕ)
taken None = None
taken (Some x) = Some (x.0, x.1.now)

-- bytes that were taken, and the bytes after them
abbrev pub taken_bytes : Option (Bor (List ℕ) × Bor (List ℕ)) → Option (List ℕ × List ℕ)
taken_bytes None = None
taken_bytes (Some x) = Some (x.0.now, x.1.now)

-- a branch that was taken by its parts, and the bytes after it
abbrev pub taken_branch : Option (ℕ × Bor (List ℕ) × Bor (List ℕ)) → Option (BranchParts × List ℕ)
taken_branch None = None
taken_branch (Some x) = Some (record { rm = x.0; bqual = x.1.now }, x.2.now)

-- branches that were put in place, and the bytes after them
abbrev pub taken_branches : List BranchParts → Option (Bor (List ℕ)) → Option (List BranchParts × List ℕ)
taken_branches branches None = None
taken_branches branches (Some rest) = Some (branches, rest.now)

-- a transaction that was taken by its format, its gtrid and branches that were put in place, and the bytes after it
abbrev pub taken_tx : List BranchParts → Option (ℕ × Bor (List ℕ) × Bor (List ℕ)) → Option (TxParts × List ℕ)
taken_tx branches None = None
taken_tx branches (Some x) = Some (record { format = x.0; gtrid = x.1.now; branches = branches }, x.2.now)

-- a byte at the front, and the bytes after it
abbrev pub byte_at : List ℕ → Option (ℕ × List ℕ)
byte_at [] = None
byte_at (x ∷ xs) = Some (x, xs)

-- a number of so many bytes at the front, and the bytes after it
abbrev pub big_at : ℕ → List ℕ → Option (ℕ × List ℕ)
big_at width bytes = cond (nat_lt (length bytes) width) None (Some (big_number width bytes, drop width bytes))

-- a number of 32 bits at the front, and the bytes after it
abbrev pub number_at : List ℕ → Option (ℕ × List ℕ)
number_at bytes = big_at 4 bytes

-- a resource manager's number at the front, and the bytes after it
abbrev pub rm_at : Version → List ℕ → Option (ℕ × List ℕ)
rm_at v bytes = big_at v.rm_width bytes

-- bytes behind their length at the front, as a gtrid or a bqual stands, and the bytes after them
unfoldable pub component_at : List ℕ → Option (List ℕ × List ℕ)
component_at bytes = do
  n ← byte_at bytes
  cond (nat_lt most_component n.0) None (cond (nat_lt (length n.1) n.0) None (Some (take n.0 n.1, drop n.0 n.1)))

-- a branch at the front, and the bytes after it
unfoldable pub branch_at : Version → List ℕ → Option (BranchParts × List ℕ)
branch_at v bytes = do
  rm ← rm_at v bytes
  bqual ← component_at rm.1
  Some (record { rm = rm.0; bqual = bqual.0 }, bqual.1)

-- so many values at the front, each taken in one way, and the bytes after them
unfoldable pub list_at : {X : Type 0} → (List ℕ → Option (X × List ℕ)) → ℕ → List ℕ → Option (List X × List ℕ)
list_at one zero bytes = Some ([], bytes)
list_at one (suc n) bytes = do
  first ← one bytes
  others ← list_at one n first.1
  Some (first.0 ∷ others.0, others.1)

-- a value, and those that were taken after it
abbrev pub with_first : {X : Type 0} → X → Option (List X × List ℕ) → Option (List X × List ℕ)
with_first first others = others >>= λ x. Some (first ∷ x.0, x.1)

-- so many branches at the front, and the bytes after them
abbrev pub branches_at : Version → ℕ → List ℕ → Option (List BranchParts × List ℕ)
branches_at v count bytes = list_at (branch_at v) count bytes

-- a transaction at the front, and the bytes after it
unfoldable pub tx_at : Version → List ℕ → Option (TxParts × List ℕ)
tx_at v bytes = do
  format ← number_at bytes
  gtrid ← component_at format.1
  count ← byte_at gtrid.1
  cond (nat_lt v.most_branches count.0) None (do
    branches ← branches_at v count.0 count.1
    Some (record { format = format.0; gtrid = gtrid.0; branches = branches.0 }, branches.1))

-- a vote at the front, and the bytes after it
unfoldable pub vote_at : List ℕ → Option (Vote × List ℕ)
vote_at bytes = do
  v ← byte_at bytes
  cond (v.0 == 1) (Some (Prepared, v.1)) (cond (v.0 == 2) (Some (Aborted, v.1)) None)

-- a report at the front, which is a ballot and its vote or none, and the bytes after it
unfoldable pub report_at : List ℕ → Option (Option (ℕ × Vote) × List ℕ)
report_at bytes = do
  ballot ← number_at bytes
  v ← byte_at ballot.1
  cond (v.0 == 0) (cond (ballot.0 == 0) (Some (None, v.1)) None) (do
    vote ← vote_at ballot.1
    Some (Some (ballot.0, vote.0), vote.1))

-- an instance and a ballot at the front, and the bytes after them
unfoldable pub instance_at : Version → List ℕ → Option (ℕ × ℕ × List ℕ)
instance_at v bytes = do
  rm ← rm_at v bytes
  ballot ← number_at rm.1
  Some (rm.0, ballot.0, ballot.1)

-- an item of phase 1b at the front, and the bytes after it
unfoldable pub report_item_at : List ℕ → Option (InstanceReport × List ℕ)
report_item_at bytes = do
  rm ← rm_at version_2 bytes
  report ← report_at rm.1
  Some (record { instance = rm.0; report = report.0 }, report.1)

-- an item of phase 2b at the front, and the bytes after it
unfoldable pub accept_item_at : List ℕ → Option (InstanceAccept × List ℕ)
accept_item_at bytes = do
  i ← instance_at version_2 bytes
  vote ← vote_at i.2
  Some (record { instance = i.0; ballot = i.1; vote = vote.0 }, vote.1)

-- the items of a bundle behind their count, each taken in one way, and the bytes after them
unfoldable pub items_at : {X : Type 0} → (List ℕ → Option (X × List ℕ)) → List ℕ → Option (List X × List ℕ)
items_at item bytes = do
  count ← byte_at bytes
  cond (count.0 == 0) None (cond (nat_lt most_branches count.0) None (list_at item count.0 count.1))

-- the message of phase 1a whose fields follow the transaction, and the bytes after it
unfoldable pub p1a_at : TxParts → List ℕ → Option (Kind × List ℕ)
p1a_at tx bytes = do
  i ← instance_at version_2 bytes
  Some (P1a tx i.0 i.1, i.2)

-- the message of phase 1b whose fields follow the transaction, and the bytes after it
unfoldable pub p1b_at : TxParts → List ℕ → Option (Kind × List ℕ)
p1b_at tx bytes = do
  i ← instance_at version_2 bytes
  report ← report_at i.2
  acceptor ← byte_at report.1
  Some (P1b tx i.0 i.1 report.0 acceptor.0, acceptor.1)

-- the message of phase 2a whose fields follow the transaction, and the bytes after it
unfoldable pub p2a_at : TxParts → List ℕ → Option (Kind × List ℕ)
p2a_at tx bytes = do
  i ← instance_at version_2 bytes
  vote ← vote_at i.2
  Some (P2a tx i.0 i.1 vote.0, vote.1)

-- the message of phase 2b whose fields follow the transaction, and the bytes after it
unfoldable pub p2b_at : TxParts → List ℕ → Option (Kind × List ℕ)
p2b_at tx bytes = do
  i ← instance_at version_2 bytes
  vote ← vote_at i.2
  acceptor ← byte_at vote.1
  Some (P2b tx i.0 i.1 vote.0 acceptor.0, acceptor.1)

-- the ask whose field follows the transaction, and the bytes after it
unfoldable pub ask_at : TxParts → List ℕ → Option (Kind × List ℕ)
ask_at tx bytes = do
  rm ← rm_at version_2 bytes
  Some (Ask tx rm.0, rm.1)

-- the bundle of phase 1a whose field follows the transaction, and the bytes after it
unfoldable pub b1a_at : TxParts → List ℕ → Option (Kind × List ℕ)
b1a_at tx bytes = do
  ballot ← number_at bytes
  Some (B1a tx ballot.0, ballot.1)

-- the bundle of phase 1b whose fields follow the transaction, and the bytes after it
unfoldable pub b1b_at : TxParts → List ℕ → Option (Kind × List ℕ)
b1b_at tx bytes = do
  ballot ← number_at bytes
  acceptor ← byte_at ballot.1
  reports ← items_at report_item_at acceptor.1
  Some (B1b tx ballot.0 acceptor.0 reports.0, reports.1)

-- the bundle of phase 2b whose fields follow the transaction, and the bytes after it
unfoldable pub b2b_at : TxParts → List ℕ → Option (Kind × List ℕ)
b2b_at tx bytes = do
  acceptor ← byte_at bytes
  accepts ← items_at accept_item_at acceptor.1
  Some (B2b tx acceptor.0 accepts.0, accepts.1)

-- the message of a kind, by the kind's number, whose fields follow the transaction, and the bytes after it
unfoldable pub kind_at : ℕ → TxParts → List ℕ → Option (Kind × List ℕ)
kind_at code tx bytes =
    cond (code == 1) (Some (Prepare tx, bytes)) (cond (code == 2) (p1a_at tx bytes) (cond (code == 3) (p1b_at tx bytes)
    (cond (code == 4) (p2a_at tx bytes) (cond (code == 5) (p2b_at tx bytes) (cond (code == 6) (Some (Commit tx, bytes))
    (cond (code == 7) (Some (Abort tx, bytes)) (cond (code == 8) (ask_at tx bytes) (cond (code == 10) (b1a_at tx bytes)
    (cond (code == 11) (b1b_at tx bytes) (cond (code == 12) (b2b_at tx bytes) None))))))))))

-- nothing is left
abbrev pub end_at : List ℕ → Option (Unit {0})
end_at [] = Some tt
end_at (x ∷ xs) = None

-- the message that was taken, where nothing follows it
abbrev pub whole : Option (Kind × List ℕ) → Option Kind
whole read = do
  x ← read
  end ← end_at x.1
  Some x.0
