-- From a leader's outcome to each participant's, and from every world to there.
use Rattle.std.proofs.Common.{◌≡◌, ◌⊎◌, inl, inr, ◌∙◌, ℕ, ◌^◌, ◌<◌, Bool, true, not, ◌&&◌, if◌then◌else◌, List, [], ◌∷◌}
use Rattle.std.proofs.Common.{refl, sym, ap, subst, nat_lt}
use Rattle.std.proofs.lemmas.Bool.{and_from, cond-true, cond-false, not_from_true, eq-eqb}
use Rattle.xid.specs.Transactions.{TxParts, participants}
use Rattle.xid.specs.declared.refusals.Refusal.TheVariants.{BadTx, NoBallot}
use Rattle.wire.specs.declared.message.Kind.{Kind}
use Rattle.wire.specs.declared.message.Kind.TheVariants as kinds
use Rattle.wire.specs.Messages.{message_tx}
use Rattle.stable_record.specs.declared.fact.FactKind.TheVariants as stored
use Rattle.ballot.specs.Ballots.{next_of}
use Rattle.ballot.specs.Greatest.{IsIn}
use Rattle.ballot.specs.Majority.{is_majority}
use Rattle.safety.specs.Vocabulary.{NodeId, A, L, R, View, Outgoing, Managers, Refused, Stands as answers, Status, Timeout}
use Rattle.safety.specs.CommitSteps.{committed, aborted}
use Rattle.progress.proofs.Backed.{IsBacked}
use Rattle.safety.proofs.Facts.{participates}
use Rattle.protocol.specs.declared.states.Standing.TheVariants as standings
use Rattle.protocol.specs.declared.states.Status.TheVariants as statuses
use Rattle.protocol.specs.Effects.{Config, Effect, is_inside, answer_only, sends_only, stores, to}
use Rattle.protocol.specs.Facts.{last_ballot}
use Rattle.protocol.specs.LeaderMemory.{LeaderMemory, with_begun, with_met, status_of}
use Rattle.protocol.specs.Leaders.{is_final, outcome_messages, phase_1a, on_leader_timeout}
use Rattle.protocol.specs.Nodes.{Asked, NoFault, Outcome, of_leader, down_answer, answer_outcome, effect_outcome, finished_append}
use Rattle.protocol.specs.Worlds.{World}
use Rattle.protocol.proofs.Lists.{IsIn-after, IsIn-map}
use Rattle.progress.specs.Runs.{leader_and_quorum, leader_and_participants, leader_quorum_and_participants, Leads}
use Rattle.progress.specs.Outcomes.{HasBallots, HasOutcome, HaveEnded, status_answer}
use Rattle.progress.proofs.Mail.{Letter, mail, letters, letter_among}
use Rattle.progress.proofs.Steps.{IsMoved, HasStep, timed_out}
use Rattle.progress.proofs.Leading.{Comes, comes_step, leads_now, leads_on, leads_wider, leads_backed}
use Rattle.progress.proofs.Ending.{IsAnnounced, end_all}
use Rattle.progress.proofs.Announcing.{HasStatus, has_committed, has_aborted, commit_stores, commit_ends, abort_stores, abort_ends}
use Rattle.progress.proofs.Deciding.{decides}

module _ (config : Config) (l : ℕ) (tx : TxParts) (inside : is_inside config tx ≡ true) (status : Status) (final : is_final status ≡ true)
    (message : Kind) (tells : outcome_messages status tx Managers ≡ to Managers message ∷ []) (about : message_tx message ≡ tx) where
  abbrev part : NodeId → Bool
  part = leader_and_participants l tx

  module _ (world : World) (has : HasStatus config l tx status world) where
    abbrev met : LeaderMemory
    met = with_met tx has.node.memory.leader

    abbrev left : Outcome
    left = finished_append has.node (of_leader has.node.memory (sends_only met (to Managers message ∷ []))) has.node.facts

    -- the rule of a timeout
    rule : on_leader_timeout config l (last_ballot has.node.facts) has.node.memory.leader tx ≡ sends_only met (to Managers message ∷ [])
    rule =
        let memory = has.node.memory.leader in
        let now = status_of config.acceptors (last_ballot has.node.facts) memory tx in
        let b = next_of config.leaders l (last_ballot has.node.facts tx) in
        let other : Effect LeaderMemory =
        if nat_lt b (2 ^ 32) then stores (with_begun tx b met) (stored.Ballot tx b) (phase_1a config tx b)
        else answer_only memory (Refused NoBallot) in
        let told : Effect LeaderMemory = sends_only met (outcome_messages now tx Managers) in
        cond-false (not (is_inside config tx)) (answer_only memory (Refused BadTx)) (if is_final now then told else other)
        (not_from_true (is_inside config tx) inside)
        ∙ cond-true (is_final now) told other (ap is_final has.status_is ∙ final)
        ∙ ap (λ (sends : List Outgoing). sends_only met sends)
        (ap (λ (s : Status). outcome_messages s tx Managers) has.status_is ∙ tells)

    step : HasStep config world tx (L l) left.node left.sends
    step =
        let node = has.node in
        let e = on_leader_timeout config l (last_ballot node.facts) node.memory.leader tx in
        subst (λ (o : Outcome). HasStep config world tx (L l) o.node o.sends)
        (ap (λ (up : Bool). if not up then answer_outcome node (down_answer (Asked (Timeout tx)))
        else effect_outcome node (of_leader node.memory e) e.fact node.tear NoFault) has.up
        ∙ ap (λ (x : Effect LeaderMemory). effect_outcome node (of_leader node.memory x) x.fact node.tear NoFault) rule)
        (timed_out config world (L l) node has.is tx)

    announced : IsBacked config world → (after : World) → IsMoved config world after (L l) left.node left.sends
        → IsAnnounced config tx message after
    announced reach after moved = record {
      reach = moved.reach reach;
      posted = λ r named. subst (λ (post : List Letter). IsIn post (record { receiver = R r; message = message })) (sym moved.posted)
          (IsIn-after (mail world.net) (letters config (to Managers message ∷ [])) (record { receiver = R r; message = message })
          (letter_among config (to Managers message ∷ []) (to Managers message) (R r) (inl refl)
          (IsIn-map {Y = NodeId} R (participants (message_tx message)) r
          (subst (λ (t : TxParts). IsIn (participants t) r) (sym about) named))));
    }

  abbrev Never : World → Type 0
  Never world = ⊥

  -- each participant ends in it
  ends_in : (world : World) → HasStatus config l tx status world → IsBacked config world → (end : View)
      → ((after : World) → IsAnnounced config tx message after → Comes config part tx Never (HaveEnded config tx end) after)
      → Leads config part tx (HaveEnded config tx end) world
  ends_in world has reach end next =
      let run = comes_step config part tx Never (HaveEnded config tx end) world (L l) (left world has).node (left world has).sends
      (eq-eqb l l refl) (step world has) (λ after moved. next after (announced world has reach after moved)) in
      leads_on config part tx (λ after. Never after ⊎ HaveEnded config tx end after) (HaveEnded config tx end) there world run.events
      run.at run.holds
    where
      there : (after : World) → Never after ⊎ HaveEnded config tx end after → Leads config part tx (HaveEnded config tx end) after
      there after (inl never) = absurd never
      there after (inr ended) = leads_now config part tx (HaveEnded config tx end) after ended

module _ (config : Config) (l : ℕ) (tx : TxParts) (inside : is_inside config tx ≡ true) (world : World)
    (reach : IsBacked config world) where
  abbrev told_one : NodeId → Bool
  told_one = leader_and_participants l tx

  message_inside : is_inside config tx && true && true ≡ true
  message_inside = and_from (is_inside config tx && true) true (and_from (is_inside config tx) true inside refl) refl

  pub ends_committed : status_answer config world l tx ≡ answers standings.Committed
      → Leads config told_one tx (HaveEnded config tx committed) world
  ends_committed h =
      ends_in config l tx inside statuses.Committed refl (kinds.Commit tx) refl refl world (has_committed config l tx inside world h) reach
      committed (end_all config tx told_one (kinds.Commit tx) (stored.Committed tx) committed inside message_inside
      (λ r named. participates tx r named) (commit_stores config tx) (commit_ends config tx))

  pub ends_aborted : status_answer config world l tx ≡ answers standings.Aborted
      → Leads config told_one tx (HaveEnded config tx aborted) world
  ends_aborted h =
      ends_in config l tx inside statuses.Aborted refl (kinds.Abort tx) refl refl world (has_aborted config l tx inside world h) reach
      aborted (end_all config tx told_one (kinds.Abort tx) (stored.Aborted tx) aborted inside message_inside
      (λ r named. participates tx r named) (abort_stores config tx) (abort_ends config tx))

-- ---- from every world

-- who takes part beside others does
module _ (l : ℕ) (q : ℕ → Bool) (tx : TxParts) where
  pub quorum_too : (who : NodeId) → leader_and_quorum l q who ≡ true → leader_quorum_and_participants l q tx who ≡ true
  quorum_too (A a) h = h
  quorum_too (L other) h = h
  quorum_too (R rm) h = absurd (cc (h))

  pub participants_too : (who : NodeId) → leader_and_participants l tx who ≡ true → leader_quorum_and_participants l q tx who ≡ true
  participants_too (A a) h = absurd (cc (h))
  participants_too (L other) h = h
  participants_too (R rm) h = h

module _ (config : Config) (tx : TxParts) (l : ℕ) (q : ℕ → Bool) (few : l < config.leaders) (inside : is_inside config tx ≡ true)
    (majority : is_majority config.acceptors q ≡ true) where
  abbrev all : NodeId → Bool
  all = leader_quorum_and_participants l q tx

  abbrev Ended : World → Type 0
  Ended world = HaveEnded config tx committed world ⊎ HaveEnded config tx aborted world

  either : (P : World → Type 0) → ((world : World) → P world → Ended world) → (world : World)
      → Leads config (leader_and_participants l tx) tx P world → Leads config all tx Ended world
  either P says world run =
      let wide = leads_wider config (leader_and_participants l tx) all tx (participants_too l q tx) P world run in
      record { events = wide.events; at = wide.at; holds = says _ wide.holds }

  ended_from : (world : World) → IsBacked config world × HasOutcome config l tx world → Leads config all tx Ended world
  ended_from world (reach, inl h) = either (HaveEnded config tx committed) (λ after ended. inl ended) world
      (ends_committed config l tx inside world reach h)
  ended_from world (reach, inr h) = either (HaveEnded config tx aborted) (λ after ended. inr ended) world
      (ends_aborted config l tx inside world reach h)

  pub ends : (world : World) → IsBacked config world → HasBallots config world l q tx → Leads config all tx Ended world
  ends world reach ballots =
      let run = leads_backed config all tx (HasOutcome config l tx) world reach
      (leads_wider config (leader_and_quorum l q) all tx (quorum_too l q tx) (HasOutcome config l tx) world
      (decides config tx l q few inside majority world reach ballots)) in
      leads_on config all tx (λ after. IsBacked config after × HasOutcome config l tx after) Ended ended_from world run.events run.at
      run.holds
