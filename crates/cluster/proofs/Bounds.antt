-- How many datagrams a node sends at most.
-- Needed by `most_asked` and `most_heard`; Handed and Reaching.
use Rattle.std.proofs.Common.{◌≡◌, ◌∙◌, ℕ, zero, suc, ◌+◌, ◌*◌, ◌<◌, ◌≤◌, Bool, true, false, if◌then◌else◌, not, List, [], ◌∷◌, ◌++◌}
use Rattle.std.proofs.Common.{length, map, Option, Some, None, refl, sym, ap, subst, length-append, arith}
use Rattle.std.specs.Prelude.{filter_map, ◌||◌, ◌^◌, nat_lt, nat_le, is_some}
use Rattle.std.specs.List.{list_all, flat_map, cons_option}
use Rattle.std.proofs.Math.Nat.{mul-le-mul_left, mul-le-mul_right, suc-mul, zero-mul}
use Rattle.std.proofs.lemmas.Grind.{flat_map-append}
use Rattle.std.proofs.lemmas.List.{length-map}
use Rattle.std.proofs.lemmas.List.FromFn.{length-map-range_with_len}
use Rattle.std.specs.Option.{option_map_or}
use Rattle.xid.specs.Limits.{most_branches}
use Rattle.xid.specs.Names.{XidParts}
use Rattle.xid.specs.Transactions.{TxParts, BranchParts, IsTx, participants, xid_at}
use Rattle.xid.specs.declared.refusals.Refusal.TheVariants as refusals
use Rattle.xid.specs.declared.transaction.Vote.{Vote}
use Rattle.xid.specs.declared.transaction.Vote.TheVariants as votes
use Rattle.wire.specs.Messages.{IsMessage, message_tx}
use Rattle.wire.specs.Decoding.{message_at}
use Rattle.wire.specs.declared.message.Kind.{Kind}
use Rattle.wire.specs.declared.message.Kind.TheVariants as kinds
use Rattle.wire.specs.declared.items.InstanceReport.{InstanceReport}
use Rattle.wire.specs.declared.items.InstanceAccept.{InstanceAccept}
use Rattle.wire.proofs.DecodingLemmas.{spelled}
use Rattle.wire.proofs.Instances.{few_instances}
use Rattle.stable_record.specs.declared.fact.FactKind.{FactKind as Fact}
use Rattle.stable_record.specs.declared.fact.FactKind.TheVariants as facts
use Rattle.stable_record.specs.declared.fact.Touched.{Touched}
use Rattle.protocol.specs.declared.decisions.Address.{Address}
use Rattle.protocol.specs.declared.decisions.Address.TheVariants as addresses
use Rattle.protocol.specs.declared.decisions.Outgoing.{Outgoing}
use Rattle.protocol.specs.declared.nodes.NodeId.{NodeId}
use Rattle.protocol.specs.declared.nodes.NodeId.TheVariants.{A, L, R}
use Rattle.protocol.specs.declared.requests.Request.{Request}
use Rattle.protocol.specs.declared.requests.Request.TheVariants.{Timeout}
use Rattle.protocol.specs.declared.states.Status.{Status}
use Rattle.protocol.specs.declared.states.Status.TheVariants as statuses
use Rattle.ballot.specs.Ballots.{next_of, owner_of}
use Rattle.ballot.specs.Choice.{Report, is_prepared}
use Rattle.protocol.specs.declared.answers.Answer.TheVariants.{Refused}
use Rattle.protocol.specs.Effects.{Config, Effect, receivers, to, is_inside, answer_only, no_effect, sends_only, stores}
use Rattle.protocol.specs.Facts.{slot, last_ballot, is_prepared_view, is_open_view}
use Rattle.protocol.specs.LeaderMemory.{LeaderMemory, StoredBallots, status_of, with_met, with_begun, with_all_heard}
use Rattle.protocol.specs.PaperItems.{report_messages, accept_messages_of}
use Rattle.protocol.specs.Leaders.{outcome_messages, is_final, is_current, phase_1a, on_leader_timeout, on_1b, on_2b, on_ask}
use Rattle.protocol.specs.Leaders.{on_leader_message, after_reports, proposal_of}
use Rattle.protocol.specs.Acceptors.{Slots, on_1a, on_b1a, on_2a, accept_item, report_after, accept_messages, reports_below}
use Rattle.protocol.specs.Acceptors.{is_some_below, is_accepted, on_acceptor_message}
use Rattle.protocol.specs.Managers.{StoredVotes, Branch, vote_sent, first_vote, on_prepare, on_manager_message}
use Rattle.protocol.specs.Managers.{on_manager_timeout, stored_votes, idle_keys, branches_without}
use Rattle.protocol.specs.Nodes.{Memory, effect_of, on_message, on_request, is_message_inside, Received, ReceivedNoise}
use Rattle.node_core.specs.declared.config.Sizes.{Sizes}
use Rattle.node_core.specs.Nodes.{AreSizes, datagram_input}
use Rattle.protocol.specs.Worlds.{datagrams_of}

one_given : {Y : Type 0} (o : Option Y) (ys : List Y) (n : ℕ) → length ys ≤ n → length (cons_option o ys) ≤ suc n
one_given None ys n le = omega (arith, le)
one_given (Some y) ys n le = omega (arith, le)

given_few : {X Y : Type 0} (f : X → Option Y) (xs : List X) → length (filter_map f xs) ≤ length xs
given_few f [] = omega arith
given_few f (x ∷ xs) = one_given (f x) (filter_map f xs) (length xs) (given_few f xs)

participants_count : (tx : TxParts) → length (participants tx) ≡ length tx.branches
participants_count tx = length-map tx.branches (λ (b : BranchParts). b.rm)

self : (n : ℕ) → n ≤ n
self n = omega arith

le_by : (n m k : ℕ) → n ≡ m → m ≤ k → n ≤ k
le_by n m k e le = omega (arith, e, le)

chain : (a b c : ℕ) → a ≤ b → b ≤ c → a ≤ c
chain a b c p q = omega (arith, p, q)

-- ---- messages

-- how many datagrams messages make
abbrev pub count : Config → NodeId → List Outgoing → ℕ
count config who sends = length (flat_map (datagrams_of config who) sends)

-- messages, or an effect, make at most so many
pub record Few (config : Config) (who : NodeId) (n : ℕ) (sends : List Outgoing) : Type 0 where
  pub few : count config who sends ≤ n

pub record FewOf {M : Type 0} (config : Config) (who : NodeId) (n : ℕ) (e : Effect M) : Type 0 where
  pub few : count config who e.sends ≤ n

module _ (config : Config) (who : NodeId) where
  abbrev receivers_of : Address → TxParts → ℕ
  receivers_of address tx = length (receivers config address tx)

  add_none : (n : ℕ) → n + 0 ≡ n
  add_none n = omega arith

  one : (address : Address) (message : Kind) → count config who (to address message ∷ []) ≡ receivers_of address (message_tx message)
  one address message =
      length-append (datagrams_of config who (to address message)) []
      ∙ add_none (length (datagrams_of config who (to address message)))
      ∙ length-map (receivers config address (message_tx message))
      (λ (receiver : NodeId). record { sender = who; receiver = receiver; message = message; marked = false })

  to_acceptors : (message : Kind) → count config who (to addresses.Acceptors message ∷ []) ≡ config.acceptors
  to_acceptors message = one addresses.Acceptors message ∙ length-map-range_with_len A 0 config.acceptors

  to_leaders : (message : Kind) → count config who (to addresses.Leaders message ∷ []) ≡ config.leaders
  to_leaders message = one addresses.Leaders message ∙ length-map-range_with_len L 0 config.leaders

  sums : (a b m n : ℕ) → a ≡ m → b ≡ n → a + b ≡ n + m
  sums a b m n e g = omega (arith, e, g)

  -- each of several goes to all acceptors
  each_to_acceptors : {X : Type 0} (f : X → Kind) (xs : List X)
      → count config who (map (λ x. to addresses.Acceptors (f x)) xs) ≡ length xs * config.acceptors
  each_to_acceptors f [] = sym (zero-mul config.acceptors)
  each_to_acceptors f (x ∷ xs) =
      length-append (datagrams_of config who (to addresses.Acceptors (f x)))
      (flat_map (datagrams_of config who) (map (λ y. to addresses.Acceptors (f y)) xs))
      ∙ sums (length (datagrams_of config who (to addresses.Acceptors (f x))))
      (length (flat_map (datagrams_of config who) (map (λ y. to addresses.Acceptors (f y)) xs))) config.acceptors
      (length xs * config.acceptors)
      (length-map (receivers config addresses.Acceptors (message_tx (f x)))
      (λ (receiver : NodeId). record { sender = who; receiver = receiver; message = f x; marked = false })
      ∙ length-map-range_with_len A 0 config.acceptors) (each_to_acceptors f xs)
      ∙ sym (suc-mul (length xs) config.acceptors)

  -- ---- by cases

  by_bool : {M : Type 0} (n : ℕ) (b : Bool) (e f : Effect M) → FewOf config who n e → FewOf config who n f
      → FewOf config who n (if b then e else f)
  by_bool n true e f p q = p
  by_bool n false e f p q = q

  sends_bool : (n : ℕ) (b : Bool) (xs ys : List Outgoing) → Few config who n xs → Few config who n ys
      → Few config who n (if b then xs else ys)
  sends_bool n true xs ys p q = p
  sends_bool n false xs ys p q = q

  none : (n : ℕ) → Few config who n []
  none n = record { few = omega arith }

  -- an effect by its messages
  by_sends : {M : Type 0} {n : ℕ} {e : Effect M} → Few config who n e.sends → FewOf config who n e
  by_sends p = record { few = p.few }

  equal : {n : ℕ} {sends : List Outgoing} (m : ℕ) → count config who sends ≡ m → m ≤ n → Few config who n sends
  equal {n} {sends} m e le = record { few = le_by (count config who sends) m n e le }

  -- the outcome, if there is one
  outcome_few : (n : ℕ) (status : Status) (tx : TxParts) (address : Address) → receivers_of address tx ≤ n
      → Few config who n (outcome_messages status tx address)
  outcome_few n statuses.Committed tx address few = equal (receivers_of address tx) (one address (kinds.Commit tx)) few
  outcome_few n statuses.Aborted tx address few = equal (receivers_of address tx) (one address (kinds.Abort tx)) few
  outcome_few n statuses.Unknown tx address few = none n
  outcome_few n statuses.Undecided tx address few = none n

  managers_few : (n : ℕ) (tx : TxParts) → length tx.branches ≤ n → receivers_of addresses.Managers tx ≤ n
  managers_few n tx few =
      le_by (receivers_of addresses.Managers tx) (length tx.branches) n (length-map (participants tx) R ∙ participants_count tx) few

  -- ---- leaders

  -- what so many instances may need
  abbrev leader_most : ℕ → ℕ
  leader_most branches = branches * (config.acceptors + 1)

  branches_next : (n m k s : ℕ) → n ≤ m → s ≡ m + (k + 1) → suc n ≤ s
  branches_next n m k s le e = omega (arith, le, e)

  branches_fit : (n : ℕ) → n ≤ n * (config.acceptors + 1)
  branches_fit zero = omega arith
  branches_fit (suc n) =
      branches_next n (n * (config.acceptors + 1)) config.acceptors (suc n * (config.acceptors + 1)) (branches_fit n)
      (suc-mul n (config.acceptors + 1))

  instances_fit : (n : ℕ) → n * config.acceptors ≤ n * (config.acceptors + 1)
  instances_fit n = mul-le-mul_left n (one_fits config.acceptors)
    where
      one_fits : (k : ℕ) → k ≤ k + 1
      one_fits k = omega arith

  acceptors_next : (b k t : ℕ) → t ≡ b + (k + 1) → k ≤ t
  acceptors_next b k t e = omega (arith, e)

  acceptors_fit : (n : ℕ) → 0 < n → config.acceptors ≤ n * (config.acceptors + 1)
  acceptors_fit zero some = absurd (omega (arith, some))
  acceptors_fit (suc n) some =
      acceptors_next (n * (config.acceptors + 1)) config.acceptors (suc n * (config.acceptors + 1)) (suc-mul n (config.acceptors + 1))

  phase_1a_few : (tx : TxParts) (b : ℕ) → IsTx tx → Few config who (leader_most (length tx.branches)) (phase_1a config tx b)
  phase_1a_few tx b valid =
      sends_bool (leader_most (length tx.branches)) config.bundled (to addresses.Acceptors (kinds.B1a tx b) ∷ [])
      (map (λ (i : ℕ). to addresses.Acceptors (kinds.P1a tx i b)) (participants tx))
      (equal config.acceptors (to_acceptors (kinds.B1a tx b)) (acceptors_fit (length tx.branches) valid.branches.some))
      (equal (length (participants tx) * config.acceptors) (each_to_acceptors (λ (i : ℕ). kinds.P1a tx i b) (participants tx))
      (subst (λ (k : ℕ). k * config.acceptors ≤ leader_most (length tx.branches)) (sym (participants_count tx))
      (instances_fit (length tx.branches))))

  pub timeout_few : (l : ℕ) (stored : StoredBallots) (memory : LeaderMemory) (tx : TxParts) → IsTx tx
      → FewOf config who (leader_most (length tx.branches)) (on_leader_timeout config l stored memory tx)
  timeout_few l stored memory tx valid =
      let n : ℕ = leader_most (length tx.branches) in
      let status : Status = status_of config.acceptors stored memory tx in
      let b : ℕ = next_of config.leaders l (stored tx) in
      let told : Effect LeaderMemory = sends_only (with_met tx memory) (outcome_messages status tx addresses.Managers) in
      let begun : Effect LeaderMemory =
      stores (with_begun tx b (with_met tx memory)) (facts.Ballot tx b) (phase_1a config tx b) in
      let last : Effect LeaderMemory = if nat_lt b (2 ^ 32) then begun else answer_only memory (Refused refusals.NoBallot) in
      by_bool n (not (is_inside config tx)) (answer_only memory (Refused refusals.BadTx)) (if is_final status then told else last)
      (by_sends (none n))
      (by_bool n (is_final status) told last
      (by_sends (outcome_few n status tx addresses.Managers (managers_few n tx (branches_fit (length tx.branches)))))
      (by_bool n (nat_lt b (2 ^ 32)) begun (answer_only memory (Refused refusals.NoBallot)) (by_sends (phase_1a_few tx b valid))
      (by_sends (none n))))

  proposals_few : (n : ℕ) (memory : LeaderMemory) (tx : TxParts) (b : ℕ) (instances : List ℕ) → length instances ≤ n
      → FewOf config who (leader_most n) (after_reports config memory tx b instances)
  proposals_few n memory tx b instances few =
      let proposals : List Kind = filter_map (proposal_of config memory tx b) instances in
      let fewer : length proposals ≤ n =
      chain (length proposals) (length instances) n (given_few (proposal_of config memory tx b) instances) few in
      by_sends (equal (length proposals * config.acceptors) (each_to_acceptors (λ (message : Kind). message) proposals)
      (chain (length proposals * config.acceptors) (n * config.acceptors) (leader_most n) (mul-le-mul_right config.acceptors fewer)
      (instances_fit n)))

  abbrev instances_of : List InstanceReport → List ℕ
  instances_of reports = map (λ (item : InstanceReport). item.instance) reports

  reports_few : (n : ℕ) (stored : StoredBallots) (memory : LeaderMemory) (tx : TxParts) (b a : ℕ) (reports : List InstanceReport)
      → length reports ≤ n → FewOf config who (leader_most n) (on_1b config stored memory tx b a reports)
  reports_few n stored memory tx b a reports few =
      by_bool (leader_most n) (is_final (status_of config.acceptors stored memory tx) || not (is_current memory tx b)) (no_effect memory)
      (after_reports config (with_all_heard (report_messages tx b a reports) memory) tx b (instances_of reports))
      (by_sends (none (leader_most n)))
      (proposals_few n (with_all_heard (report_messages tx b a reports) memory) tx b (instances_of reports)
      (le_by (length (instances_of reports)) (length reports) n (length-map reports (λ (item : InstanceReport). item.instance)) few))

  told_few : (n : ℕ) (stored : StoredBallots) (memory : LeaderMemory) (tx : TxParts) (a : ℕ) (accepts : List InstanceAccept)
      → length tx.branches ≤ n → FewOf config who (leader_most n) (on_2b config stored memory tx a accepts)
  told_few n stored memory tx a accepts few =
      let now : LeaderMemory = with_all_heard (accept_messages_of tx a accepts) (with_met tx memory) in
      by_bool (leader_most n) (is_final (status_of config.acceptors stored memory tx)) (no_effect (with_met tx memory))
      (sends_only now (outcome_messages (status_of config.acceptors stored now tx) tx addresses.Managers))
      (by_sends (none (leader_most n)))
      (by_sends (outcome_few (leader_most n) (status_of config.acceptors stored now tx) tx addresses.Managers
      (managers_few (leader_most n) tx (chain (length tx.branches) n (leader_most n) few (branches_fit n)))))

  asked_few : (n : ℕ) (stored : StoredBallots) (memory : LeaderMemory) (tx : TxParts) (rm : ℕ) → 1 ≤ n
      → FewOf config who n (on_ask config stored memory tx rm)
  asked_few n stored memory tx rm some =
      by_sends (outcome_few n (status_of config.acceptors stored memory tx) tx (addresses.Node (R rm)) some)

  some_branches : (m : ℕ) → most_branches ≡ m → 1 ≤ m
  some_branches m e = omega (arith, e)

  pub leader_few : (n : ℕ) (stored : StoredBallots) (memory : LeaderMemory) (message : Kind) → IsMessage message → most_branches ≡ n
      → FewOf config who (leader_most n) (on_leader_message config stored memory message)
  leader_few n stored memory (kinds.P1b tx i b report d) valid e =
      reports_few n stored memory tx b d (record { instance = i; report = report } ∷ []) (some_branches n e)
  leader_few n stored memory (kinds.B1b tx b d reports) valid e =
      reports_few n stored memory tx b d reports
      (le_by (length reports) (length (instances_of reports)) n (sym (length-map reports (λ (item : InstanceReport). item.instance)))
      (subst (λ (m : ℕ). length (instances_of reports) ≤ m) e (few_instances valid.0)))
  leader_few n stored memory (kinds.P2b tx i b v d) valid e =
      told_few n stored memory tx d (record { instance = i; ballot = b; vote = v } ∷ [])
      (subst (λ (m : ℕ). length tx.branches ≤ m) e valid.0.valid.branches.few)
  leader_few n stored memory (kinds.B2b tx d accepts) valid e =
      told_few n stored memory tx d accepts (subst (λ (m : ℕ). length tx.branches ≤ m) e valid.0.valid.branches.few)
  leader_few n stored memory (kinds.Ask tx rm) valid e =
      asked_few (leader_most n) stored memory tx rm (chain 1 n (leader_most n) (some_branches n e) (branches_fit n))
  leader_few n stored memory (kinds.Prepare tx) valid e = by_sends (none (leader_most n))
  leader_few n stored memory (kinds.P1a tx i b) valid e = by_sends (none (leader_most n))
  leader_few n stored memory (kinds.P2a tx i b v) valid e = by_sends (none (leader_most n))
  leader_few n stored memory (kinds.Commit tx) valid e = by_sends (none (leader_most n))
  leader_few n stored memory (kinds.Abort tx) valid e = by_sends (none (leader_most n))
  leader_few n stored memory (kinds.B1a tx b) valid e = by_sends (none (leader_most n))

  -- ---- acceptors

  abbrev acceptor_most : ℕ
  acceptor_most = config.leaders + 1

  one_fits : 1 ≤ acceptor_most
  one_fits = omega arith

  leaders_fit : config.leaders ≤ acceptor_most
  leaders_fit = omega arith

  owner_few : (l : NodeId) (message : Kind) → Few config who acceptor_most (to (addresses.Node l) message ∷ [])
  owner_few l message = equal 1 (one (addresses.Node l) message) one_fits

  accepts_few : (a : ℕ) (slots : Slots) (tx : TxParts) (i b : ℕ) (v : Vote)
      → Few config who acceptor_most (accept_messages config a slots tx i b v)
  accepts_few a slots tx i b v =
      let last : ℕ → Report = report_after slots tx i b v in
      let each : List Outgoing = to addresses.Leaders (kinds.P2b tx i b v a) ∷ [] in
      let all : List Outgoing =
      to addresses.Leaders (kinds.B2b tx a (filter_map (λ (j : ℕ). accept_item j (last j)) (participants tx))) ∷ [] in
      let told : Bool = list_all (λ (j : ℕ). is_some (last j)) (participants tx) || not (is_prepared v) in
      sends_bool acceptor_most (not config.bundled) each (if told then all else [])
      (equal config.leaders (to_leaders (kinds.P2b tx i b v a)) leaders_fit)
      (sends_bool acceptor_most told all []
      (equal config.leaders (to_leaders (kinds.B2b tx a (filter_map (λ (j : ℕ). accept_item j (last j)) (participants tx)))) leaders_fit)
      (none acceptor_most))

  promise_few : (a : ℕ) (slots : Slots) (tx : TxParts) (i b : ℕ) → FewOf config who acceptor_most (on_1a config a slots tx i b)
  promise_few a slots tx i b =
      let message : Kind = kinds.P1b tx i b (slots tx i).report a in
      let owner : NodeId = L (owner_of config.leaders b) in
      by_bool acceptor_most (nat_lt (slots tx i).mbal b) (stores tt (facts.Promise tx i b) (to (addresses.Node owner) message ∷ []))
      (no_effect tt) (by_sends (owner_few owner message)) (by_sends (none acceptor_most))

  promises_few : (a : ℕ) (slots : Slots) (tx : TxParts) (b : ℕ) → FewOf config who acceptor_most (on_b1a config a slots tx b)
  promises_few a slots tx b =
      let message : Kind = kinds.B1b tx b a (reports_below slots tx b) in
      let owner : NodeId = L (owner_of config.leaders b) in
      by_bool acceptor_most (is_some_below slots tx b) (stores tt (facts.PromiseAll tx b) (to (addresses.Node owner) message ∷ []))
      (no_effect tt) (by_sends (owner_few owner message)) (by_sends (none acceptor_most))

  accept_few : (a : ℕ) (slots : Slots) (tx : TxParts) (i b : ℕ) (v : Vote) → FewOf config who acceptor_most (on_2a config a slots tx i b v)
  accept_few a slots tx i b v =
      let told : List Outgoing = accept_messages config a slots tx i b v in
      let again : Effect (Unit {0}) = sends_only tt told in
      let new : Effect (Unit {0}) = stores tt (facts.Accept tx i b v) told in
      by_bool acceptor_most (nat_le (slots tx i).mbal b) (if is_accepted (slots tx i) b v then again else new) (no_effect tt)
      (by_bool acceptor_most (is_accepted (slots tx i) b v) again new (by_sends (accepts_few a slots tx i b v))
      (by_sends (accepts_few a slots tx i b v)))
      (by_sends (none acceptor_most))

  pub acceptor_few : (a : ℕ) (slots : Slots) (message : Kind) → FewOf config who acceptor_most (on_acceptor_message config a slots message)
  acceptor_few a slots (kinds.P1a tx i b) = promise_few a slots tx i b
  acceptor_few a slots (kinds.B1a tx b) = promises_few a slots tx b
  acceptor_few a slots (kinds.P2a tx i b v) = accept_few a slots tx i b v
  acceptor_few a slots (kinds.Prepare tx) = by_sends (none acceptor_most)
  acceptor_few a slots (kinds.P1b tx i b report d) = by_sends (none acceptor_most)
  acceptor_few a slots (kinds.P2b tx i b v d) = by_sends (none acceptor_most)
  acceptor_few a slots (kinds.Commit tx) = by_sends (none acceptor_most)
  acceptor_few a slots (kinds.Abort tx) = by_sends (none acceptor_most)
  acceptor_few a slots (kinds.Ask tx rm) = by_sends (none acceptor_most)
  acceptor_few a slots (kinds.B1b tx b d reports) = by_sends (none acceptor_most)
  acceptor_few a slots (kinds.B2b tx d accepts) = by_sends (none acceptor_most)

  -- ---- resource managers

  vote_few : (rm : ℕ) (tx : TxParts) (vote : Option Vote) → Few config who config.acceptors (vote_sent rm tx vote)
  vote_few rm tx None = none config.acceptors
  vote_few rm tx (Some v) = equal config.acceptors (to_acceptors (kinds.P2a tx rm 0 v)) (self config.acceptors)

  first_few : (rm : ℕ) (branches : List Branch) (tx : TxParts) (x : XidParts) (spent : Bool) (idle : Option (List Touched))
      → FewOf config who config.acceptors (first_vote rm branches tx x spent idle)
  first_few rm branches tx x false (Some keys) = by_sends (vote_few rm tx (Some votes.Prepared))
  first_few rm branches tx x false None = by_sends (vote_few rm tx (Some votes.Aborted))
  first_few rm branches tx x true (Some keys) = by_sends (vote_few rm tx (Some votes.Aborted))
  first_few rm branches tx x true None = by_sends (vote_few rm tx (Some votes.Aborted))

  prepare_few : (rm : ℕ) (stored : StoredVotes) (branches : List Branch) (tx : TxParts) (x : XidParts)
      → FewOf config who config.acceptors (on_prepare rm stored branches tx x)
  prepare_few rm stored branches tx x =
      let first : Effect (List Branch) = first_vote rm branches tx x (stored.is_spent x) (idle_keys branches x) in
      by_bool config.acceptors (is_some (stored.vote tx)) (sends_only branches (vote_sent rm tx (stored.vote tx)))
      (if stored.is_ended tx then no_effect branches else first) (by_sends (vote_few rm tx (stored.vote tx)))
      (by_bool config.acceptors (stored.is_ended tx) (no_effect branches) first (by_sends (none config.acceptors))
      (first_few rm branches tx x (stored.is_spent x) (idle_keys branches x)))

  named_few : (rm : ℕ) (stored : StoredVotes) (branches : List Branch) (x : XidParts) (message : Kind)
      → FewOf config who config.acceptors (on_manager_message rm stored branches (Some x) message)
  named_few rm stored branches x (kinds.Prepare tx) = prepare_few rm stored branches tx x
  named_few rm stored branches x (kinds.Commit tx) =
      by_bool config.acceptors (is_prepared_view (stored.view tx)) (stores branches (facts.Committed tx) []) (no_effect branches)
      (by_sends (none config.acceptors)) (by_sends (none config.acceptors))
  named_few rm stored branches x (kinds.Abort tx) =
      by_bool config.acceptors (is_open_view (stored.view tx)) (stores (branches_without branches x) (facts.Aborted tx) [])
      (no_effect branches)
      (by_sends (none config.acceptors)) (by_sends (none config.acceptors))
  named_few rm stored branches x (kinds.P1a tx i b) = by_sends (none config.acceptors)
  named_few rm stored branches x (kinds.P1b tx i b report d) = by_sends (none config.acceptors)
  named_few rm stored branches x (kinds.P2a tx i b v) = by_sends (none config.acceptors)
  named_few rm stored branches x (kinds.P2b tx i b v d) = by_sends (none config.acceptors)
  named_few rm stored branches x (kinds.Ask tx q) = by_sends (none config.acceptors)
  named_few rm stored branches x (kinds.B1a tx b) = by_sends (none config.acceptors)
  named_few rm stored branches x (kinds.B1b tx b d reports) = by_sends (none config.acceptors)
  named_few rm stored branches x (kinds.B2b tx d accepts) = by_sends (none config.acceptors)

  pub manager_few : (rm : ℕ) (stored : StoredVotes) (branches : List Branch) (name : Option XidParts) (message : Kind)
      → FewOf config who config.acceptors (on_manager_message rm stored branches name message)
  manager_few rm stored branches (Some x) message = named_few rm stored branches x message
  manager_few rm stored branches None message = by_sends (none config.acceptors)

  both_few : (a b x m n : ℕ) → x ≡ a + b → a ≤ m → b ≤ n → x ≤ m + n
  both_few a b x m n e p q = omega (arith, e, p, q)

  both_count : (xs ys : List Outgoing) → count config who (xs ++ ys) ≡ count config who xs + count config who ys
  both_count xs ys =
      ap length (flat_map-append (datagrams_of config who) xs ys)
      ∙ length-append (flat_map (datagrams_of config who) xs) (flat_map (datagrams_of config who) ys)

  both : (xs ys : List Outgoing) (m n : ℕ) → Few config who m xs → Few config who n ys → Few config who (m + n) (xs ++ ys)
  both xs ys m n p q =
      record { few = both_few (count config who xs) (count config who ys) (count config who (xs ++ ys)) m n (both_count xs ys) p.few q.few }

  ask_few : (rm : ℕ) (tx : TxParts) (t : Bool) → Few config who config.leaders (if t then to addresses.Leaders
      (kinds.Ask tx rm) ∷ [] else [])
  ask_few rm tx t =
      sends_bool config.leaders t (to addresses.Leaders (kinds.Ask tx rm) ∷ []) []
      (equal config.leaders (to_leaders (kinds.Ask tx rm)) (self config.leaders)) (none config.leaders)

  pub reminder_few : (rm : ℕ) (stored : StoredVotes) (branches : List Branch) (tx : TxParts)
      → FewOf config who (config.acceptors + config.leaders) (on_manager_timeout config rm stored branches tx)
  reminder_few rm stored branches tx =
      let asked : List Outgoing = if is_prepared_view (stored.view tx) then to addresses.Leaders (kinds.Ask tx rm) ∷ [] else [] in
      by_bool (config.acceptors + config.leaders) (is_inside config tx) (sends_only branches (vote_sent rm tx (stored.vote tx) ++ asked))
      (answer_only branches (Refused refusals.BadTx))
      (by_sends (both (vote_sent rm tx (stored.vote tx)) asked config.acceptors config.leaders (vote_few rm tx (stored.vote tx))
      (ask_few rm tx (is_prepared_view (stored.view tx)))))
      (by_sends (none (config.acceptors + config.leaders)))

  -- on the bytes of a datagram
  pub heard_few : (facts : List Fact) (memory : Memory) (n : ℕ)
      → ((m : Kind) → IsMessage m → FewOf config who n (on_message config who facts memory m))
      → (bytes : List ℕ) → FewOf config who n (effect_of config who facts memory (datagram_input bytes))
  heard_few facts memory n each bytes = by_read (message_at bytes) refl
    where
      by_read : (read : Option Kind) → message_at bytes ≡ read
          → FewOf config who n (effect_of config who facts memory (option_map_or Received read ReceivedNoise))
      by_read None e = by_sends (none n)
      by_read (Some m) e =
          by_bool n (is_message_inside config m) (on_message config who facts memory m) (no_effect memory)
          (each m (spelled m bytes e).message) (by_sends (none n))

-- ---- by the sizes of the code

module _ (config : Config) (sizes : Sizes) (are : AreSizes config sizes) (facts : List Fact) (memory : Memory) (bytes : List ℕ) where
  abbrev heard_by : NodeId → ℕ
  heard_by who = count config who (effect_of config who facts memory (datagram_input bytes)).sends

  -- on a message an acceptor sends at most so many
  pub heard_acceptor : (who : NodeId) (a : ℕ) → who ≡ A a → (n : ℕ) → n ≡ sizes.leaders → heard_by who ≤ n + 1
  heard_acceptor who a is n e =
      let few : heard_by (A a) ≤ config.leaders + 1 =
      (heard_few config (A a) facts memory (config.leaders + 1) (λ m valid. record {
        few = (acceptor_few config (A a) a
            (slot facts) m).few;
      }) bytes).few in
      let same : config.leaders ≡ n = sym (e ∙ are.leaders_are) in
      subst (λ (w : NodeId). heard_by w ≤ n + 1) (sym is) (subst (λ (k : ℕ). heard_by (A a) ≤ k + 1) same few)

  -- a leader
  pub heard_leader : (who : NodeId) (l : ℕ) → who ≡ L l → (n : ℕ) → n ≡ sizes.acceptors → heard_by who ≤ 16 * (n + 1)
  heard_leader who l is n e =
      let few : heard_by (L l) ≤ 16 * (config.acceptors + 1) =
      (heard_few config (L l) facts memory (16 * (config.acceptors + 1))
      (λ m valid. record { few = (leader_few config (L l) 16 (last_ballot facts) memory.leader m valid refl).few }) bytes).few in
      let same : config.acceptors ≡ n = sym (e ∙ are.acceptors_are) in
      subst (λ (w : NodeId). heard_by w ≤ 16 * (n + 1)) (sym is) (subst (λ (k : ℕ). heard_by (L l) ≤ 16 * (k + 1)) same few)

  -- and a resource manager
  pub heard_manager : (who : NodeId) (rm : ℕ) → who ≡ R rm → (n : ℕ) → n ≡ sizes.acceptors → heard_by who ≤ n
  heard_manager who rm is n e =
      let few : heard_by (R rm) ≤ config.acceptors =
      (heard_few config (R rm) facts memory config.acceptors
      (λ m valid. record {
        few = (manager_few config (R rm) rm (stored_votes rm facts) memory.branches (xid_at (message_tx m) rm) m).few;
      }) bytes).few in
      let same : config.acceptors ≡ n = sym (e ∙ are.acceptors_are) in
      subst (λ (w : NodeId). heard_by w ≤ n) (sym is) (subst (λ (k : ℕ). heard_by (R rm) ≤ k) same few)

module _ (config : Config) (sizes : Sizes) (are : AreSizes config sizes) (facts : List Fact) (memory : Memory) (tx : TxParts) where
  abbrev asked_by : NodeId → Request → ℕ
  asked_by who request = count config who (on_request config who facts memory request).sends

  -- on a timeout a leader sends at most so many
  pub asked_leader : (who : NodeId) (l : ℕ) → who ≡ L l → (request : Request) → request ≡ Timeout tx → IsTx tx
      → (branches n : ℕ) → branches ≡ length tx.branches → n ≡ sizes.acceptors → asked_by who request ≤ branches * (n + 1)
  asked_leader who l is request what valid branches n b e =
      let few : asked_by (L l) (Timeout tx) ≤ length tx.branches * (config.acceptors + 1) =
      (timeout_few config (L l) l (last_ballot facts) memory.leader tx valid).few in
      let same : config.acceptors ≡ n = sym (e ∙ are.acceptors_are) in
      subst (λ (w : NodeId). asked_by w request ≤ branches * (n + 1)) (sym is)
      (subst (λ (r : Request). asked_by (L l) r ≤ branches * (n + 1)) (sym what)
      (subst (λ (k : ℕ). asked_by (L l) (Timeout tx) ≤ k * (n + 1)) (sym b)
      (subst (λ (k : ℕ). asked_by (L l) (Timeout tx) ≤ length tx.branches * (k + 1)) same few)))

  -- and a resource manager
  pub asked_manager : (who : NodeId) (rm : ℕ) → who ≡ R rm → (request : Request) → request ≡ Timeout tx
      → (m n : ℕ) → m ≡ sizes.acceptors → n ≡ sizes.leaders → asked_by who request ≤ m + n
  asked_manager who rm is request what m n a l =
      let few : asked_by (R rm) (Timeout tx) ≤ config.acceptors + config.leaders =
      (reminder_few config (R rm) rm (stored_votes rm facts) memory.branches tx).few in
      let first : config.acceptors ≡ m = sym (a ∙ are.acceptors_are) in
      let second : config.leaders ≡ n = sym (l ∙ are.leaders_are) in
      subst (λ (w : NodeId). asked_by w request ≤ m + n) (sym is)
      (subst (λ (r : Request). asked_by (R rm) r ≤ m + n) (sym what)
      (subst (λ (k : ℕ). asked_by (R rm) (Timeout tx) ≤ m + k) second
      (subst (λ (k : ℕ). asked_by (R rm) (Timeout tx) ≤ k + config.leaders) first few)))
