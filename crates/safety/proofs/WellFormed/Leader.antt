-- What a leader stores and sends is well-formed: all of it is of the transaction, the ballot and the instances of its input.
-- Needed by WellFormed.Nodes.
use Rattle.std.proofs.Common.{◌≡◌, ℕ, ◌^◌, not, ◌&&◌, ◌||◌, List, [], ◌∷◌, Option, Some, None, unwrap_or, ap, subst, arith, nat_lt}
use Rattle.std.specs.Prelude.{filter_map, map}
use Rattle.std.proofs.lemmas.Bool.{cond_both, ltb-true}
use Rattle.xid.specs.Transactions.{TxParts, IsTx, participants}
use Rattle.wire.specs.declared.message.Kind.{Kind}
use Rattle.wire.specs.declared.message.Kind.TheVariants.{P1a, P1b, P2b, P2a, B1b, B2b, Ask}
use Rattle.wire.specs.declared.items.InstanceReport.{InstanceReport}
use Rattle.wire.specs.declared.items.InstanceAccept.{InstanceAccept}
use Rattle.wire.specs.Messages.{IsMessage, IsInstance, IsBallot, IsLeaderBallot}
use Rattle.ballot.specs.Ballots.{next_of}
use Rattle.ballot.specs.Greatest.{IsIn}
use Rattle.protocol.specs.declared.states.Status.TheVariants as statuses
use Rattle.safety.specs.Vocabulary.{Answer, Outgoing, Address, Acceptors, Managers, Status}
use Rattle.protocol.specs.Effects.{Config, Effect, answer_only, sends_only, to, is_inside}
use Rattle.protocol.specs.LeaderMemory.{LeaderMemory, StoredBallots, status_of, with_met, with_all_heard, is_reported, is_proposed}
use Rattle.protocol.specs.LeaderMemory.{value_to_propose}
use Rattle.protocol.specs.PaperItems.{report_messages}
use Rattle.protocol.specs.Leaders.{outcome_messages, is_final, on_commit_call, phase_1a, on_leader_timeout, on_status_call}
use Rattle.protocol.specs.Leaders.{is_current, proposal_of, on_1b, on_2b, on_leader_message}
use Rattle.protocol.proofs.Lists.{filter_map_given, only_one, all_mapped}
use Rattle.safety.proofs.WellFormed.Effects.{AreSends, IsSend, IsWellFormed, well_answered, well_sent, instance_of, instance_among}

-- an outcome is a message of its transaction
outcomes_are : (status : Status) (tx : TxParts) (address : Address) → IsTx tx → AreSends (outcome_messages status tx address)
outcomes_are statuses.Committed tx address is = (is, tt)
outcomes_are statuses.Aborted tx address is = (is, tt)
outcomes_are statuses.Unknown tx address is = tt
outcomes_are statuses.Undecided tx address is = tt

module _ (config : Config) (stored : StoredBallots) (memory : LeaderMemory) where
  abbrev IsFormed : Effect LeaderMemory → Type 0
  IsFormed = IsWellFormed (λ kept. Unit {0})

  answered : (kept : LeaderMemory) (reply : Answer) → IsFormed (answer_only kept reply)
  answered kept reply = well_answered (λ kept. Unit {0}) kept tt reply

  sent : (kept : LeaderMemory) (sends : List Outgoing) → AreSends sends → IsFormed (sends_only kept sends)
  sent kept sends are = well_sent (λ kept. Unit {0}) kept tt sends are

  -- ---- requests

  module _ (tx : TxParts) (is : IsTx tx) where
    pub commit_called : IsFormed (on_commit_call config stored memory tx)
    commit_called = cond_both (is_inside config tx) _ _ IsFormed
        (λ inside. record {
          fact = tt;
          sends = cond_both (is_final (status_of config.acceptors stored (with_met tx memory) tx)) _ _ AreSends
              (λ final. outcomes_are _ tx _ is) (λ undecided. (is, tt));
          memory = tt;
        })
        (λ outside. answered memory _)

    pub status_called : IsFormed (on_status_call config stored memory tx)
    status_called = answered memory _

    starts : (b : ℕ) → IsLeaderBallot b → AreSends (phase_1a config tx b)
    starts b leads = cond_both config.bundled _ _ AreSends (λ bundled. ((is, leads), tt))
        (λ single. all_mapped IsSend (λ i. to Acceptors (P1a tx i b)) (participants tx) (λ i h. (instance_of tx i is h, leads)))

    pub timed_out : (l : ℕ) → IsFormed (on_leader_timeout config l stored memory tx)
    timed_out l =
        let b = next_of config.leaders l (stored tx) in
        cond_both (not (is_inside config tx)) _ _ IsFormed
        (λ outside. answered memory _)
        (λ inside. cond_both (is_final (status_of config.acceptors stored memory tx)) _ _ IsFormed
        (λ final. sent _ _ (outcomes_are _ tx _ is))
        (λ undecided. cond_both (nat_lt b (2 ^ 32)) _ _ IsFormed
        (λ fits.
        let leads : IsLeaderBallot b = record { some = omega arith; fits = ltb-true b (2 ^ 32) fits } in
        record { fact = (is, leads); sends = starts b leads; memory = tt })
        (λ over. answered memory _)))

  -- ---- messages

  module _ (tx : TxParts) (is : IsTx tx) where
    -- proposals are of the instances and of the ballot of the reports
    proposed : (kept : LeaderMemory) (b i : ℕ) (m : Kind) → IsInstance tx i → IsBallot b → proposal_of config kept tx b i ≡ Some m
        → IsMessage m
    proposed kept b i m of ballot = cond_both (is_reported config.acceptors kept.heard tx i b && not (is_proposed kept.proposed tx i b))
        (Some (P2a tx i b (value_to_propose kept.heard tx i b))) None (λ (o : Option Kind). o ≡ Some m → IsMessage m)
        (λ may e. subst (λ (k : Kind). IsMessage k) (ap (λ (o : Option Kind). unwrap_or o m) e) (of, ballot))
        (λ not_yet e. absurd (cc (e)))

    reported : (b a : ℕ) (reports : List InstanceReport) → IsBallot b
        → ((i : ℕ) → IsIn (map (λ (item : InstanceReport). item.instance) reports) i → IsInstance tx i)
        → IsFormed (on_1b config stored memory tx b a reports)
    reported b a reports ballot each =
        let kept = with_all_heard (report_messages tx b a reports) memory in
        let instances = map (λ (item : InstanceReport). item.instance) reports in
        cond_both (is_final (status_of config.acceptors stored memory tx) || not (is_current memory tx b)) _ _ IsFormed
        (λ late. answered memory _)
        (λ counts. sent _ _
        (all_mapped IsSend (to Acceptors) (filter_map (proposal_of config kept tx b) instances)
        (λ m h.
        let from = filter_map_given (proposal_of config kept tx b) instances m h in
        proposed kept b from.source m (each from.source from.among) ballot from.gives)))

    accepted : (a : ℕ) (accepts : List InstanceAccept) → IsFormed (on_2b config stored memory tx a accepts)
    accepted a accepts = cond_both (is_final (status_of config.acceptors stored memory tx)) _ _ IsFormed
        (λ final. answered _ _) (λ undecided. sent _ _ (outcomes_are _ tx Managers is))

  pub leader_takes : (message : Kind) → IsMessage message → IsFormed (on_leader_message config stored memory message)
  leader_takes (P1b tx i b report a) is =
      reported tx is.0.valid b a (record { instance = i; report = report } ∷ []) is.1.fits (only_one (IsInstance tx) i is.0)
  leader_takes (B1b tx b a reports) is =
      reported tx is.0.valid b a reports is.1.fits (λ i h. instance_among is.0 i h)
  leader_takes (P2b tx i b v a) is =
      accepted tx is.0.valid a (record { instance = i; ballot = b; vote = v } ∷ [])
  leader_takes (B2b tx a accepts) is = accepted tx is.0.valid a accepts
  leader_takes (Ask tx rm) is = sent _ _ (outcomes_are _ tx _ is.valid)
  leader_takes message is = answered memory _
