-- A leader's timeout while it is undecided: the next ballot is stored and current, and phase 1a goes out.
use Rattle.std.proofs.Common.{◌≡◌, inl, ◌∙◌, ℕ, ◌+◌, ◌^◌, ◌<◌, ◌≤◌, Bool, true, false, not, ◌==◌, ◌&&◌, if◌then◌else◌}
use Rattle.std.proofs.Common.{List, [], ◌∷◌, Option, map, filter, refl, ap, arith, nat_lt}
use Rattle.std.specs.List.{range_with_len}
use Rattle.std.specs.Option.{option_map_or}
use Rattle.std.proofs.lemmas.Bool.{cond_both, cond-true, cond-false, and_right, or_from, eq-eqb, lt-ltb, not_from_true}
use Rattle.std.proofs.lemmas.Bool.{not-true as not_true}
use Rattle.xid.specs.Transactions.{TxParts, participants, tx_eq}
use Rattle.xid.specs.declared.refusals.Refusal.TheVariants.{BadTx, NoBallot}
use Rattle.wire.specs.declared.message.Kind.{Kind}
use Rattle.wire.specs.declared.message.Kind.TheVariants as kinds
use Rattle.wire.specs.Messages.{message_tx}
use Rattle.ballot.specs.Ballots.{owner_of, next_of}
use Rattle.ballot.specs.Greatest.{IsIn}
use Rattle.ballot.proofs.Turns.{next_is}
use Rattle.stable_record.specs.declared.fact.FactKind.TheVariants as stored
use Rattle.safety.specs.Vocabulary.{A, NodeId, Outgoing, Acceptors, Managers, Refused}
use Rattle.protocol.specs.Effects.{Config, Effect, answer_only, sends_only, stores, to, is_inside}
use Rattle.protocol.specs.Facts.{instance_eq}
use Rattle.protocol.specs.LeaderMemory.{LeaderMemory, StoredBallots, is_proposed, with_begun, with_met, status_of}
use Rattle.protocol.specs.Leaders.{is_final, is_current, outcome_messages, phase_1a, on_leader_timeout}
use Rattle.protocol.proofs.Lists.{IsIn-map}
use Rattle.safety.proofs.Leader.Memory.{current_begun}
use Rattle.progress.proofs.Mail.{letters, letter_among}
use Rattle.progress.proofs.Promising.{ask_of}
use Rattle.progress.proofs.Accepting.{number_among}

-- ---- ballots

-- the next ballot is the leader's own, above the last, and no further than all leaders' turns
pub record IsNextTurn (leaders l last : ℕ) : Type 0 where
  pub owned : owner_of leaders (next_of leaders l last) ≡ l
  pub above : last < next_of leaders l last
  pub near : next_of leaders l last ≤ last + leaders

pub next_turn : (leaders l last : ℕ) → l < leaders → IsNextTurn leaders l last
next_turn leaders l last few =
    let is = next_is leaders l last few in
    record { owned = is.owned.1; above = is.greater; near = omega arith }

-- ---- the memory

pub begun_current : (tx : TxParts) (b : ℕ) (memory : LeaderMemory) → is_current (with_begun tx b memory) tx b ≡ true
begun_current tx b memory =
    ap (λ (o : Option ℕ). option_map_or (λ last. last == b) o false) (current_begun tx b memory) ∙ eq-eqb b b refl

-- proposals of other transactions alone are kept
none_kept : (tx : TxParts) (i b : ℕ) (proposed : List Kind)
    → is_proposed (filter (λ message. not (tx_eq tx (message_tx message))) proposed) tx i b ≡ false
none_kept tx i b [] = refl
none_kept tx i b (kinds.P2a other j c v ∷ rest) =
    cond_both (not (tx_eq tx other)) (kinds.P2a other j c v ∷ filter (λ message. not (tx_eq tx (message_tx message))) rest)
    (filter (λ message. not (tx_eq tx (message_tx message))) rest) (λ (ms : List Kind). is_proposed ms tx i b ≡ false)
    (λ e. or_from ((b == c) && instance_eq tx i other j)
    (is_proposed (filter (λ message. not (tx_eq tx (message_tx message))) rest) tx i b)
    (and_right (b == c) (instance_eq tx i other j) (and_right (i == j) (tx_eq tx other) (not_true (tx_eq tx other) e)))
    (none_kept tx i b rest))
    (λ e. none_kept tx i b rest)
none_kept tx i b (m ∷ rest) =
    cond_both (not (tx_eq tx (message_tx m))) (m ∷ filter (λ message. not (tx_eq tx (message_tx message))) rest)
    (filter (λ message. not (tx_eq tx (message_tx message))) rest) (λ (ms : List Kind). is_proposed ms tx i b ≡ false)
    (λ e. none_kept tx i b rest)
    (λ e. none_kept tx i b rest)

pub begun_unproposed : (tx : TxParts) (b : ℕ) (memory : LeaderMemory) (i : ℕ) → is_proposed (with_begun tx b memory).proposed tx i b ≡ false
begun_unproposed tx b memory i = none_kept tx i b memory.proposed

-- ---- what goes out

module _ (config : Config) (tx : TxParts) (b : ℕ) where
  to_each : (sends : List Outgoing) (message : Kind) → IsIn sends (to Acceptors message) → (a : ℕ) → a < config.acceptors
      → IsIn (letters config sends) (record { receiver = A a; message = message })
  to_each sends message h a lt = letter_among config sends (to Acceptors message) (A a) h
      (IsIn-map {Y = NodeId} A (range_with_len 0 config.acceptors) a (number_among 0 config.acceptors a (omega arith) (omega arith)))

  asked_by : (bundled : Bool) (a i : ℕ) → a < config.acceptors → IsIn (participants tx) i
      → IsIn (letters config (if bundled then to Acceptors (kinds.B1a tx b) ∷ []
      else map (λ i. to Acceptors (kinds.P1a tx i b)) (participants tx)))
      (record { receiver = A a; message = if bundled then kinds.B1a tx b else kinds.P1a tx i b })
  asked_by true a i lt named = to_each (to Acceptors (kinds.B1a tx b) ∷ []) (kinds.B1a tx b) (inl refl) a lt
  asked_by false a i lt named =
      to_each (map (λ i. to Acceptors (kinds.P1a tx i b)) (participants tx)) (kinds.P1a tx i b)
      (IsIn-map {Y = Outgoing} (λ (i : ℕ). to Acceptors (kinds.P1a tx i b)) (participants tx) i named) a lt

  -- phase 1a is in the mail to each acceptor
  pub asked_each : (a i : ℕ) → a < config.acceptors → IsIn (participants tx) i
      → IsIn (letters config (phase_1a config tx b)) (record { receiver = A a; message = ask_of config tx b i })
  asked_each = asked_by config.bundled

-- ---- the timeout

-- an undecided leader that has a ballot left begins it
pub begins : (config : Config) (l : ℕ) (ballots : StoredBallots) (memory : LeaderMemory) (tx : TxParts) → is_inside config tx ≡ true
    → is_final (status_of config.acceptors ballots memory tx) ≡ false → next_of config.leaders l (ballots tx) < 2 ^ 32
    → on_leader_timeout config l ballots memory tx
    ≡ stores (with_begun tx (next_of config.leaders l (ballots tx)) (with_met tx memory))
    (stored.Ballot tx (next_of config.leaders l (ballots tx))) (phase_1a config tx (next_of config.leaders l (ballots tx)))
begins config l ballots memory tx inside undecided left =
    let status = status_of config.acceptors ballots memory tx in
    let b = next_of config.leaders l (ballots tx) in
    let begun : Effect LeaderMemory = stores (with_begun tx b (with_met tx memory)) (stored.Ballot tx b) (phase_1a config tx b) in
    let none : Effect LeaderMemory = answer_only memory (Refused NoBallot) in
    let told : Effect LeaderMemory = sends_only (with_met tx memory) (outcome_messages status tx Managers) in
    cond-false (not (is_inside config tx)) (answer_only memory (Refused BadTx))
    (if is_final status then told else if nat_lt b (2 ^ 32) then begun else none) (not_from_true (is_inside config tx) inside)
    ∙ cond-false (is_final status) told (if nat_lt b (2 ^ 32) then begun else none) undecided
    ∙ cond-true (nat_lt b (2 ^ 32)) begun none (lt-ltb b (2 ^ 32) left)
