-- The message that bytes spell, as a computation: what the grammar says, in a form that the machine can ask.
use Rattle.std.specs.Prelude.{ℕ, ◌^◌, Bool, true, ◌&&◌, cond, nat_lt, nat_le, List, [], ◌∷◌, length, Option, Some, None, is_some}
use Rattle.std.specs.Prelude.{Result, Ok, Err}
use Rattle.std.specs.List.{list_all}
use Rattle.std.specs.Str.{bytes_eq}
use Rattle.xid.specs.Limits.{most_acceptors, most_managers, most_branches, most_component, formats}
use Rattle.xid.specs.Transactions.{TxParts, BranchParts, rm_numbers, is_participant}
use Rattle.xid.specs.declared.refusals.Refusal.{Refusal}
use Rattle.xid.specs.declared.refusals.Refusal.TheVariants.{BadMessage}
use Rattle.xid.specs.declared.transaction.Vote.{Vote}
use Rattle.wire.specs.declared.message.Kind.{Kind}
use Rattle.wire.specs.declared.message.Kind.TheVariants.{Prepare, P1a, P1b, P2a, P2b, Commit, Abort, Ask, B1a, B1b, B2b}
use Rattle.wire.specs.Versions.{Version, version_2}
use Rattle.wire.specs.Messages.{reported_instances, accepted_instances}
use Rattle.wire.specs.Grammar.{spelling}
use Rattle.wire.specs.Reading.{◌>>=◌, byte_at, tx_at, kind_at, whole}

-- whether bytes are a component: 1 to 64 of them
abbrev pub is_component : List ℕ → Bool
is_component bytes = nat_lt 0 (length bytes) && nat_le (length bytes) most_component && list_all (λ byte. nat_lt byte 256) bytes

-- whether a branch is one that a transaction may have
abbrev pub is_branch : BranchParts → Bool
is_branch branch = nat_lt branch.rm most_managers && is_component branch.bqual

-- whether numbers ascend strictly
abbrev pub is_ascending : List ℕ → Bool
is_ascending [] = true
is_ascending (n ∷ []) = true
is_ascending (n ∷ m ∷ rest) = nat_lt n m && is_ascending (m ∷ rest)

-- whether these are the parts of a transaction
abbrev pub is_tx : TxParts → Bool
is_tx tx =
    nat_lt tx.format formats && is_component tx.gtrid && nat_lt 0 (length tx.branches) && nat_le (length tx.branches) most_branches
    && list_all is_branch tx.branches && is_ascending (rm_numbers tx.branches)

-- whether a version can name the resource managers of branches
abbrev pub are_managers : Version → List BranchParts → Bool
are_managers v branches = list_all (λ b. nat_lt b.rm v.most_managers) branches

-- the transaction of a version whose spelling is at the front, and the bytes after it
unfoldable pub tx_in : Version → List ℕ → Option (TxParts × List ℕ)
tx_in v bytes = do
  tx ← tx_at v bytes
  cond (is_tx tx.0) (cond (are_managers v tx.0.branches) (Some tx) None) None

-- whether an instance is one of the transaction's
abbrev pub is_instance : TxParts → ℕ → Bool
is_instance tx instance = is_tx tx && is_participant tx instance

-- whether these are the instances of a bundle's items
abbrev pub are_instances : TxParts → List ℕ → Bool
are_instances tx instances =
    is_tx tx && nat_le 1 (length instances) && list_all (λ rm. is_participant tx rm) instances && is_ascending instances

-- whether a number is a ballot
abbrev pub is_ballot : ℕ → Bool
is_ballot ballot = nat_lt ballot (2 ^ 32)

-- whether a number is a leader's ballot
abbrev pub is_leader_ballot : ℕ → Bool
is_leader_ballot ballot = nat_le 1 ballot && is_ballot ballot

-- whether a report is of a ballot below the one promised
abbrev pub is_report : ℕ → Option (ℕ × Vote) → Bool
is_report ballot None = true
is_report ballot (Some accepted) = nat_lt accepted.0 ballot

-- whether a number is an acceptor's
abbrev pub is_acceptor : ℕ → Bool
is_acceptor acceptor = nat_lt acceptor most_acceptors

-- whether a kind is a message
abbrev pub is_message : Kind → Bool
is_message (Prepare tx) = is_tx tx
is_message (P1a tx instance ballot) = is_instance tx instance && is_leader_ballot ballot
is_message (P1b tx instance ballot report acceptor) =
    is_instance tx instance && is_leader_ballot ballot && is_report ballot report && is_acceptor acceptor
is_message (P2a tx instance ballot vote) = is_instance tx instance && is_ballot ballot
is_message (P2b tx instance ballot vote acceptor) = is_instance tx instance && is_ballot ballot && is_acceptor acceptor
is_message (Commit tx) = is_tx tx
is_message (Abort tx) = is_tx tx
is_message (Ask tx rm) = is_instance tx rm
is_message (B1a tx ballot) = is_tx tx && is_leader_ballot ballot
is_message (B1b tx ballot acceptor reports) =
    are_instances tx (reported_instances reports) && is_leader_ballot ballot && is_acceptor acceptor
    && list_all (λ item. is_report ballot item.report) reports
is_message (B2b tx acceptor accepts) =
    are_instances tx (accepted_instances accepts) && is_acceptor acceptor && list_all (λ item. is_ballot item.ballot) accepts

-- what is answered of a kind that was taken: it, where it is a message
abbrev pub answered : Option Kind → Result Kind Refusal
answered None = Err BadMessage
answered (Some kind) = cond (is_message kind) (Ok kind) (Err BadMessage)

-- what is answered of a kind and the bytes after it: it, where nothing follows it and it is a message
abbrev pub decoded : Option (Kind × List ℕ) → Result Kind Refusal
decoded read = answered (whole read)

-- the message that bytes spell, if they spell one: its fields are taken from the front, and its one spelling is compared
abbrev pub message_at : List ℕ → Option Kind
message_at bytes = do
  version ← byte_at bytes
  code ← byte_at version.1
  tx ← tx_at version_2 code.1
  kind ← kind_at code.0 tx.0 tx.1
  cond (is_message kind.0 && bytes_eq (spelling kind.0) bytes) (Some kind.0) None

-- whether bytes spell a message
abbrev pub spells_message : List ℕ → Bool
spells_message bytes = is_some (message_at bytes)
