-- The rules of a leader, each of the ballots that it stored and what it has in memory. Gray and Lamport, "Consensus on Transaction
-- Commit", ACM TODS 31(1), 2006, sections 4.1 and 4.2.
use Rattle.std.specs.Prelude.{ℕ, ◌^◌, Bool, true, false, not, ◌&&◌, ◌||◌, ◌==◌, nat_lt, if◌then◌else◌, List, [], ◌∷◌, map, filter_map}
use Rattle.std.specs.Prelude.{Option, Some, None}
use Rattle.protocol.specs.Basics.{option_map_or, TxParts, participants, Refusal, Kind, Prepare, P1a, P1b, P2a, P2b, Commit, Abort, B1a, B1b}
use Rattle.protocol.specs.Basics.{B2b, InstanceReport, InstanceAccept, Fact, owner_of, next_of}
use Rattle.protocol.specs.Vocabulary.{R, Status, Stands, Refused, Address, Node, Acceptors, Managers, Outgoing}
use Rattle.protocol.specs.LeaderMemory.{LeaderMemory, StoredBallots, current, is_reported, value_to_propose, is_proposed, status_of}
use Rattle.protocol.specs.LeaderMemory.{with_met, with_all_heard, with_begun, with_proposed}
use Rattle.protocol.specs.PaperItems.{report_messages, accept_messages_of}
use Rattle.protocol.specs.Effects.{Config, Effect, answer_only, no_effect, sends_only, stores, to, is_inside, status_standing}

-- the message of a decision
abbrev pub outcome_messages : Status → TxParts → Address → List Outgoing
outcome_messages Status.Committed tx address = to address (Commit tx) ∷ []
outcome_messages Status.Aborted tx address = to address (Abort tx) ∷ []
outcome_messages other tx address = []

-- whether a decision is known
abbrev pub is_final : Status → Bool
is_final Status.Committed = true
is_final Status.Aborted = true
is_final other = false

-- a client asks for a commit: undecided, each resource manager is asked to prepare; decided, it is told the outcome again
abbrev pub on_commit_call : Config → StoredBallots → LeaderMemory → TxParts → Effect LeaderMemory
on_commit_call config stored memory tx =
    let known = with_met tx memory in
    let status = status_of config.acceptors stored known tx in
    let sends = if is_final status then outcome_messages status tx Managers else to Managers (Prepare tx) ∷ [] in
    if is_inside config tx
    then record { answer = Stands (status_standing status); fact = None; sends = sends; memory = known }
    else answer_only memory (Refused Refusal.BadTx)

-- phase 1a to all acceptors: for each instance, or in a bundled cluster once for all
abbrev pub phase_1a : Config → TxParts → ℕ → List Outgoing
phase_1a config tx b =
    if config.bundled then to Acceptors (B1a tx b) ∷ [] else map (λ i. to Acceptors (P1a tx i b)) (participants tx)

-- a timeout: undecided, the leader takes over in its next ballot, which is stored, and phase 1a goes out; decided, each resource
-- manager is told the outcome again
abbrev pub on_leader_timeout : Config → (leader : ℕ) → StoredBallots → LeaderMemory → TxParts → Effect LeaderMemory
on_leader_timeout config l stored memory tx =
    let status = status_of config.acceptors stored memory tx in
    let b = next_of config.leaders l (stored tx) in
    if not (is_inside config tx) then answer_only memory (Refused Refusal.BadTx)
    else if is_final status then sends_only (with_met tx memory) (outcome_messages status tx Managers)
    else if nat_lt b (2 ^ 32) then stores (with_begun tx b (with_met tx memory)) (Fact.Ballot tx b) (phase_1a config tx b)
    else answer_only memory (Refused Refusal.NoBallot)

-- what a client asks a leader about a transaction
abbrev pub on_status_call : Config → StoredBallots → LeaderMemory → TxParts → Effect LeaderMemory
on_status_call config stored memory tx =
    let standing = status_standing (status_of config.acceptors stored memory tx) in
    answer_only memory (if is_inside config tx then Stands standing else Refused Refusal.BadTx)

-- whether a ballot is the current one of a transaction
abbrev pub is_current : LeaderMemory → TxParts → ℕ → Bool
is_current memory tx b = option_map_or (λ last. last == b) (current memory tx) false

-- phase 2a of an instance, once a majority has reported and while no value was proposed
abbrev pub proposal_of : Config → LeaderMemory → TxParts → (b i : ℕ) → Option Kind
proposal_of config memory tx b i =
    if is_reported config.acceptors memory.heard tx i b && not (is_proposed memory.proposed tx i b)
    then Some (P2a tx i b (value_to_propose memory.heard tx i b))
    else None

-- the proposals of instances, in their order, to all acceptors
abbrev pub after_reports : Config → LeaderMemory → TxParts → ℕ → List ℕ → Effect LeaderMemory
after_reports config memory tx b instances =
    let proposals = filter_map (proposal_of config memory tx b) instances in
    sends_only (with_proposed proposals memory) (map (to Acceptors) proposals)

-- phase 1b of some instances: it counts in the current ballot while undecided, once for an acceptor and instance; then each of them
-- may be proposed
abbrev pub on_1b : Config → StoredBallots → LeaderMemory → (tx : TxParts) (b a : ℕ) → List InstanceReport → Effect LeaderMemory
on_1b config stored memory tx b a reports =
    if is_final (status_of config.acceptors stored memory tx) || not (is_current memory tx b)
    then no_effect memory
    else after_reports config (with_all_heard (report_messages tx b a reports) memory) tx b (map (λ item. item.instance) reports)

-- phase 2b of some instances: it counts while undecided, once for an acceptor, instance, ballot and value; where there is an outcome
-- now, it is told to each resource manager
abbrev pub on_2b : Config → StoredBallots → LeaderMemory → (tx : TxParts) (a : ℕ) → List InstanceAccept → Effect LeaderMemory
on_2b config stored memory tx a accepts =
    let now = with_all_heard (accept_messages_of tx a accepts) (with_met tx memory) in
    if is_final (status_of config.acceptors stored memory tx)
    then no_effect (with_met tx memory)
    else sends_only now (outcome_messages (status_of config.acceptors stored now tx) tx Managers)

-- a resource manager asks: it is told the outcome, where there is one
abbrev pub on_ask : Config → StoredBallots → LeaderMemory → TxParts → (rm : ℕ) → Effect LeaderMemory
on_ask config stored memory tx rm =
    sends_only (with_met tx memory) (outcome_messages (status_of config.acceptors stored memory tx) tx (Node (R rm)))

-- what a leader does on a message; one of a single instance is a bundle of one
abbrev pub on_leader_message : Config → StoredBallots → LeaderMemory → Kind → Effect LeaderMemory
on_leader_message config stored memory (P1b tx i b report a) =
    on_1b config stored memory tx b a (record { instance = i; report = report } ∷ [])
on_leader_message config stored memory (B1b tx b a reports) = on_1b config stored memory tx b a reports
on_leader_message config stored memory (P2b tx i b v a) =
    on_2b config stored memory tx a (record { instance = i; ballot = b; vote = v } ∷ [])
on_leader_message config stored memory (B2b tx a accepts) = on_2b config stored memory tx a accepts
on_leader_message config stored memory (Kind.Ask tx rm) = on_ask config stored memory tx rm
on_leader_message config stored memory message = no_effect memory

-- what its record may hold, by the ballots stored before: a ballot of its own, greater than every one before
abbrev pub plays_at_leader : (leaders leader : ℕ) → StoredBallots → Fact → Bool
plays_at_leader leaders l stored (Fact.Ballot tx b) = nat_lt (stored tx) b && (owner_of leaders b == l)
plays_at_leader leaders l stored fact = false
