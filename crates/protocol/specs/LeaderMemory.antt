-- What a leader has since its last restart, and what follows from it.
-- Gray and Lamport, "Consensus on Transaction Commit", ACM TODS 31(1), 2006, section 4.
use Rattle.std.specs.Prelude.{ℕ, Bool, true, false, not, ◌&&◌, ◌||◌, ◌==◌, nat_lt, if◌then◌else◌, List, [], ◌∷◌, ◌++◌, filter, filter_map}
use Rattle.std.specs.Prelude.{find, Option, Some, None}
use Rattle.protocol.specs.Basics.{list_any, list_all, option_map, tx_eq, TxParts, participants, Vote, message_tx, Kind, P1b, P2a, P2b}
use Rattle.protocol.specs.Basics.{Report, pick, is_majority}
use Rattle.protocol.specs.Vocabulary.{Status}
use Rattle.protocol.specs.Facts.{instance_eq, vote_eq}

-- a ballot begun for a transaction
pub record Begun : Type 0 where
  pub tx : TxParts
  pub ballot : ℕ

-- the phase 1b and 2b messages that count, the ballots that it began (newest first), the phase 2a messages that it sent in
-- its current ballots, and the transactions that it met
pub record LeaderMemory : Type 0 where
  pub heard : List Kind
  pub begun : List Begun
  pub proposed : List Kind
  pub met : List TxParts

-- right after a restart
abbrev pub nothing_heard : LeaderMemory
nothing_heard = record { heard = []; begun = []; proposed = []; met = [] }

-- the current ballot of a transaction: the last that was begun
abbrev pub current : LeaderMemory → TxParts → Option ℕ
current memory tx = option_map (λ begun. begun.ballot) (find (λ begun. tx_eq tx begun.tx) memory.begun)

-- what a message reports in phase 1b of an instance and ballot
abbrev pub message_report : TxParts → ℕ → ℕ → Kind → Option Report
message_report tx i b (P1b other j c report a) = if (b == c) && instance_eq tx i other j then Some report else None
message_report tx i b message = None

-- whether a message is acceptor a's in phase 1b of an instance and ballot
abbrev pub is_report_of : TxParts → ℕ → ℕ → ℕ → Kind → Bool
is_report_of tx i b a (P1b other j c report from) = (a == from) && (b == c) && instance_eq tx i other j
is_report_of tx i b a message = false

-- whether acceptor a has reported
abbrev pub has_reported : List Kind → TxParts → ℕ → ℕ → ℕ → Bool
has_reported heard tx i b a = list_any (is_report_of tx i b a) heard

-- whether a majority of n acceptors has reported
abbrev pub is_reported : ℕ → List Kind → TxParts → ℕ → ℕ → Bool
is_reported n heard tx i b = is_majority n (has_reported heard tx i b)

-- the value to propose after the reports heard
abbrev pub value_to_propose : List Kind → TxParts → ℕ → ℕ → Vote
value_to_propose heard tx i b = pick (filter_map (message_report tx i b) heard)

-- whether a value was proposed for an instance in a ballot, among the proposals that are kept
abbrev pub is_proposed : List Kind → TxParts → ℕ → ℕ → Bool
is_proposed proposed tx i b = list_any is_proposal proposed
  where
    is_proposal : Kind → Bool
    is_proposal (P2a other j c v) = (b == c) && instance_eq tx i other j
    is_proposal message = false

-- whether a message is acceptor a's in phase 2b of an instance, with a ballot and a value
abbrev pub is_accept_of : TxParts → ℕ → ℕ → Vote → ℕ → Kind → Bool
is_accept_of tx i b v a (P2b other j c w from) = (a == from) && (b == c) && vote_eq v w && instance_eq tx i other j
is_accept_of tx i b v a message = false

-- the ballot of a phase 2b message of an instance and a value
abbrev pub ballot_told : TxParts → ℕ → Vote → Kind → Option ℕ
ballot_told tx i v (P2b other j b w from) = if vote_eq v w && instance_eq tx i other j then Some b else None
ballot_told tx i v message = None

-- an instance has decided a value: a majority of n acceptors told of it in one ballot
abbrev pub is_decided : ℕ → List Kind → TxParts → ℕ → Vote → Bool
is_decided n heard tx i v =
    list_any (λ b. is_majority n (λ a. list_any (is_accept_of tx i b v a) heard)) (filter_map (ballot_told tx i v) heard)

-- a leader's greatest stored ballot of each transaction, 0 where there is none
abbrev pub StoredBallots : Type 0
StoredBallots = TxParts → ℕ

-- a leader knows the transactions that it met, and those of its stored ballots
abbrev pub is_known : StoredBallots → LeaderMemory → TxParts → Bool
is_known stored memory tx = list_any (tx_eq tx) memory.met || nat_lt 0 (stored tx)

-- aborted where some instance has decided aborted, committed where every instance has decided prepared; else undecided where the
-- leader knows the transaction, and unknown where it doesn't
abbrev pub status_of : ℕ → StoredBallots → LeaderMemory → TxParts → Status
status_of n stored memory tx =
    if list_any (λ i. is_decided n memory.heard tx i Vote.Aborted) (participants tx) then Status.Aborted
    else if list_all (λ i. is_decided n memory.heard tx i Vote.Prepared) (participants tx) then Status.Committed
    else if is_known stored memory tx then Status.Undecided
    else Status.Unknown

-- a transaction met
abbrev pub with_met : TxParts → LeaderMemory → LeaderMemory
with_met tx memory = if list_any (tx_eq tx) memory.met then memory else record memory { met = tx ∷ memory.met }

-- a message heard
abbrev pub with_heard : Kind → LeaderMemory → LeaderMemory
with_heard message memory = record memory { heard = message ∷ memory.heard }

-- whether a message counts already: phase 1b once for an acceptor, instance and ballot, phase 2b once for these and the value
abbrev pub is_counted : List Kind → Kind → Bool
is_counted heard (P1b tx i b report a) = has_reported heard tx i b a
is_counted heard (P2b tx i b v a) = list_any (is_accept_of tx i b v a) heard
is_counted heard message = true

-- messages heard, each that doesn't count already
abbrev pub with_all_heard : List Kind → LeaderMemory → LeaderMemory
with_all_heard [] memory = memory
with_all_heard (message ∷ rest) memory =
    with_all_heard rest (if is_counted memory.heard message then memory else with_heard message memory)

-- whether a message is of phase 1b
abbrev pub is_phase_1b : Kind → Bool
is_phase_1b (P1b tx i b report a) = true
is_phase_1b message = false

-- a ballot begun: it is current, and what came before in phase 1b and was proposed doesn't count any more
abbrev pub with_begun : TxParts → ℕ → LeaderMemory → LeaderMemory
with_begun tx b memory = record memory {
  heard = filter (λ message. not (is_phase_1b message && tx_eq tx (message_tx message))) memory.heard;
  begun = record { tx = tx; ballot = b } ∷ memory.begun;
  proposed = filter (λ message. not (tx_eq tx (message_tx message))) memory.proposed;
}

-- values proposed
abbrev pub with_proposed : List Kind → LeaderMemory → LeaderMemory
with_proposed proposals memory = record memory { proposed = proposals ++ memory.proposed }
