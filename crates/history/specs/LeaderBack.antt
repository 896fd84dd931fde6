-- What a leader has since its last restart, by looking back over a history, which has the newest first: the transactions that it met, its
-- current ballots, what it has heard and what it has proposed.
use Rattle.std.specs.Prelude.{ℕ, Bool, false, not, ◌&&◌, ◌||◌, ◌==◌, nat_lt, if◌then◌else◌, List, [], ◌∷◌, ◌++◌, filter, filter_map}
use Rattle.std.specs.Prelude.{find, Option, Some, None}
use Rattle.std.specs.List.{list_any, list_all}
use Rattle.std.specs.Option.{option_map_or, option_and_then}
use Rattle.xid.specs.Transactions.{TxParts, tx_eq, participants}
use Rattle.xid.specs.declared.refusals.Refusal.TheVariants.{BadTx}
use Rattle.xid.specs.declared.transaction.Vote.{Vote}
use Rattle.xid.specs.declared.transaction.Vote.TheVariants.{Prepared, Aborted}
use Rattle.wire.specs.Messages.{message_tx}
use Rattle.wire.specs.declared.message.Kind.{Kind}
use Rattle.wire.specs.declared.message.Kind.TheVariants.{P1a, P1b, P2a, P2b, B1a, B1b, B2b}
use Rattle.safety.specs.Vocabulary.{L, Status, Request, Timeout, Event, Ask, Deliver, Answer, Done, Stands, Refused, Sent, Step}
use Rattle.protocol.specs.Effects.{Config, is_inside, status_standing}
use Rattle.protocol.specs.LeaderMemory.{Begun, StoredBallots, is_counted, is_decided, is_phase_1b}
use Rattle.protocol.specs.Nodes.{is_message_inside}
use Rattle.protocol.specs.PaperItems.{unbundled}
use Rattle.history.specs.Heard.{is_leader, is_leader_restart}
use Rattle.history.specs.Outages.{sent_back}

-- ---- what a step says of a leader

-- the messages that it says leader l sent, once for each receiver
abbrev pub sent_by : ℕ → List Sent → List Kind
sent_by l sent = filter_map (λ line. if is_leader l line.sender then Some line.message else None) sent

-- the ballot that a message of phase 1a begins
abbrev pub ballot_begun_by : Kind → Option Begun
ballot_begun_by (P1a tx i b) = Some (record { tx = tx; ballot = b })
ballot_begun_by (B1a tx b) = Some (record { tx = tx; ballot = b })
ballot_begun_by message = None

-- a message of phase 2a
abbrev pub proposal_in : Kind → Option Kind
proposal_in (P2a tx i b v) = Some (P2a tx i b v)
proposal_in message = None

-- the ballot of a transaction that l began, if it began one
abbrev pub began_at : ℕ → Step → TxParts → Option Begun
began_at l step tx = find (λ begun. tx_eq tx begun.tx) (filter_map ballot_begun_by (sent_by l step.sent))

-- whether it began one
abbrev pub begins_at : ℕ → Step → TxParts → Bool
begins_at l step tx = list_any (λ begun. tx_eq begun.tx tx) (filter_map ballot_begun_by (sent_by l step.sent))

-- the message that a delivery handed to it, where that is one of the cluster and the leader was up
abbrev pub taken_at : Config → ℕ → List Step → Event → Answer → Option Kind
taken_at config l before (Deliver n) Done =
    option_and_then (λ line. if is_leader l line.receiver && is_message_inside config line.message then Some line.message else None)
    (sent_back before n)
taken_at config l before event answer = None

-- the transaction of a request that it carried out
abbrev pub asked_at : ℕ → Event → Answer → Option TxParts
asked_at l (Ask (L other) (Request.Commit tx)) (Stands standing) = if other == l then Some tx else None
asked_at l (Ask (L other) (Timeout tx)) Done = if other == l then Some tx else None
asked_at l event answer = None

-- the transaction that a message of phase 2b tells of, or that a resource manager asks about
abbrev pub told_of : Kind → Option TxParts
told_of (P2b tx i b v a) = Some tx
told_of (B2b tx a accepts) = Some tx
told_of (Kind.Ask tx rm) = Some tx
told_of message = None

-- the transaction that an event has it meet: of such a request, or of such a message that it took
abbrev pub met_at : Config → ℕ → List Step → Event → Answer → Option TxParts
met_at config l before (Deliver n) answer = option_and_then told_of (taken_at config l before (Deliver n) answer)
met_at config l before event answer = asked_at l event answer

-- ---- since the last restart

-- whether l has met a transaction: it was asked to commit it, timed out over it, was told of it in phase 2b, or asked about it
abbrev pub is_met_back : Config → ℕ → List Step → TxParts → Bool
is_met_back config l [] tx = false
is_met_back config l (step ∷ before) tx =
    if is_leader_restart l step.event step.answer then false
    else option_map_or (tx_eq tx) (met_at config l before step.event step.answer) false || is_met_back config l before tx

-- its current ballot of a transaction: the last that it began
abbrev pub current_back : ℕ → List Step → TxParts → Option ℕ
current_back l [] tx = None
current_back l (step ∷ before) tx =
    if is_leader_restart l step.event step.answer then None
    else option_map_or (λ begun. Some begun.ballot) (began_at l step tx) (current_back l before tx)

-- what it has proposed in its current ballots: what it sent in phase 2a since it began them
abbrev pub proposed_back : ℕ → List Step → List Kind
proposed_back l [] = []
proposed_back l (step ∷ before) =
    if is_leader_restart l step.event step.answer then []
    else filter_map proposal_in (sent_by l step.sent)
    ++ filter (λ message. not (begins_at l step (message_tx message))) (proposed_back l before)

-- whether these decide a transaction: some instance aborted, or each prepared
abbrev pub is_settled : ℕ → List Kind → TxParts → Bool
is_settled n heard tx =
    list_any (λ i. is_decided n heard tx i Aborted) (participants tx) || list_all (λ i. is_decided n heard tx i Prepared) (participants tx)

-- whether a ballot is the current one
abbrev pub is_ballot : Option ℕ → ℕ → Bool
is_ballot current b = option_map_or (λ last. last == b) current false

-- whether a message counts, by what was heard before and the ballots that are current: phase 1b of the current ballot, and phase 2b,
-- while the transaction isn't decided
abbrev pub counts : ℕ → List Kind → (current : TxParts → Option ℕ) → Kind → Bool
counts n heard current (P1b tx i b report a) = not (is_settled n heard tx) && is_ballot (current tx) b
counts n heard current (B1b tx b a reports) = not (is_settled n heard tx) && is_ballot (current tx) b
counts n heard current (P2b tx i b v a) = not (is_settled n heard tx)
counts n heard current (B2b tx a accepts) = not (is_settled n heard tx)
counts n heard current message = false

-- the paper's messages that count of one that was taken
abbrev pub counted_of : ℕ → List Kind → (current : TxParts → Option ℕ) → Kind → List Kind
counted_of n heard current message = if counts n heard current message then unbundled message else []

-- messages heard, one after the other: phase 1b once for an acceptor, instance and ballot, phase 2b once for these and the value
abbrev pub joined_to : (heard came : List Kind) → List Kind
joined_to heard [] = heard
joined_to heard (message ∷ came) = joined_to (if is_counted heard message then heard else message ∷ heard) came

-- what still counts of what was heard: phase 1b no longer, where the step begins another ballot of its transaction
abbrev pub still_heard : ℕ → Step → List Kind → List Kind
still_heard l step heard = filter (λ message. not (is_phase_1b message && begins_at l step (message_tx message))) heard

-- what l has heard: the messages that came to it and count, the last first
abbrev pub heard_back : Config → ℕ → List Step → List Kind
heard_back config l [] = []
heard_back config l (step ∷ before) =
    let heard = heard_back config l before in
    let came = option_map_or (counted_of config.acceptors heard (current_back l before))
    (taken_at config l before step.event step.answer) [] in
    if is_leader_restart l step.event step.answer then [] else joined_to (still_heard l step heard) came

-- its status of a transaction, where these are the greatest ballots that it has stored
abbrev pub status_back : Config → StoredBallots → ℕ → List Step → TxParts → Status
status_back config stored l history tx =
    let decides = λ (v : Vote) (i : ℕ). is_decided config.acceptors (heard_back config l history) tx i v in
    if list_any (decides Aborted) (participants tx) then Status.Aborted
    else if list_all (decides Prepared) (participants tx) then Status.Committed
    else if is_met_back config l history tx || nat_lt 0 (stored tx) then Status.Undecided
    else Status.Unknown

-- what it answers where its status of a transaction is asked for
abbrev pub status_answer : Config → StoredBallots → ℕ → List Step → TxParts → Answer
status_answer config stored l history tx =
    if is_inside config tx then Stands (status_standing (status_back config stored l history tx)) else Refused BadTx
