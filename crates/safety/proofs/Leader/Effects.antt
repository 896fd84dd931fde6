-- Each rule of a leader keeps its memory in order, and stores and sends only what it may.
-- Needed by Leader.Allowed, World.Events, World.NodeRules, World.Outcomes and World.SafeSteps.
use Rattle.std.proofs.Common.{◌≡◌, inl, inr, ℕ, ◌^◌, ◌<◌, true, false, not, ◌||◌, ◌&&◌, ◌==◌, nat_lt, IsTrue, if◌then◌else◌, List, []}
use Rattle.std.proofs.Common.{◌∷◌, ◌++◌, map, filter_map, find, option_map, unwrap_or, Option, Some, None, refl, sym, ap, ◌∙◌, subst}
use Rattle.std.specs.Option.{option_map_or}
use Rattle.std.proofs.lemmas.Bool.{both_ways, and_from, and_parts, or_parts, lt-ltb, ltb-true, eqb-true, eq-eqb, cond_both, not-false}
use Rattle.xid.specs.Transactions.{TxParts, tx_eq, participants, is_participant}
use Rattle.xid.specs.declared.transaction.Vote.{Vote}
use Rattle.xid.specs.declared.refusals.Refusal.TheVariants.{BadTx, NoBallot}
use Rattle.wire.specs.declared.items.InstanceReport.{InstanceReport}
use Rattle.wire.specs.declared.items.InstanceAccept.{InstanceAccept}
use Rattle.wire.specs.declared.message.Kind.{Kind}
use Rattle.wire.specs.declared.message.Kind.TheVariants.{Prepare, P1a, P1b, P2a, P2b, Commit, Abort, Ask, B1a, B1b, B2b}
use Rattle.wire.specs.Messages.{message_tx}
use Rattle.ballot.specs.Ballots.{IsOwned, owner_of, next_of}
use Rattle.ballot.proofs.Turns.{next_is}
use Rattle.stable_record.specs.declared.fact.FactKind.TheVariants as stored
use Rattle.protocol.specs.Basics.{Fact}
use Rattle.protocol.specs.declared.states.Status.TheVariants as statuses
use Rattle.safety.specs.Vocabulary.{L, R, Status, Stands, Refused, Outgoing, Address, Node, Acceptors, Managers, Request, Timeout, Ask}
use Rattle.protocol.specs.Facts.{last_ballot}
use Rattle.protocol.specs.Effects.{status_standing, Config, Effect, to, is_inside, answer_only, no_effect, sends_only, stores}
use Rattle.protocol.specs.LeaderMemory.{LeaderMemory, current, is_reported, value_to_propose, is_proposed, status_of}
use Rattle.protocol.specs.LeaderMemory.{Begun, with_met, with_all_heard, with_begun}
use Rattle.protocol.specs.Leaders.{outcome_messages, is_final, on_commit_call, on_leader_timeout, on_status_call, is_current, phase_1a}
use Rattle.protocol.specs.Leaders.{proposal_of, after_reports, on_1b, on_2b, on_ask, on_leader_message}
use Rattle.protocol.specs.PaperItems.{report_messages, accept_messages_of, unbundled}
use Rattle.protocol.specs.Nodes.{Memory, Input, Asked, Received, of_leader, effect_of, is_acceptor_inside, is_form_of, is_message_inside}
use Rattle.ballot.specs.Greatest.{IsIn}
use Rattle.safety.proofs.Facts.{participates}
use Rattle.protocol.proofs.Lists.{IsIn-mapped, filter_map_given, only_one}
use Rattle.safety.proofs.Leader.Invariant.{LeaderInvariant, AreProposalsBacked, IsSentBy, IsSentExtension, IsNewBallot, MaySend}
use Rattle.safety.proofs.Leader.Invariant.{IsLeaderStep}
use Rattle.safety.proofs.Leader.Heard.{picked_is, committed_is, aborted_is}
pub use Rattle.safety.proofs.Leader.Memory.{kept_at_start, kept_while}
use Rattle.safety.proofs.Leader.Memory.{kept_meets, kept_hears_all, hears_no_ballot, kept_proposes, kept_begins, current_begun}

-- a take-over in a ballot
abbrev takes_over : Config → LeaderMemory → TxParts → ℕ → Effect LeaderMemory
takes_over config memory tx b =
    if nat_lt b (2 ^ 32)
    then stores (with_begun tx b (with_met tx memory)) (stored.Ballot tx b) (phase_1a config tx b)
    else answer_only memory (Refused NoBallot)

-- no proposal
abbrev IsNoProposal : Kind → Type 0
IsNoProposal (P2a tx i b v) = ⊥
IsNoProposal message = Unit {0}

-- what is sent alone
sent_alone : (address : Address) (x m : Kind) → IsSentBy (to address x ∷ []) m → IsIn (unbundled x) m
sent_alone address x m (s, inl e, f) = subst (λ (y : Outgoing). IsIn (unbundled y.message) m) (sym e) f
sent_alone address x m (s, inr none, f) = absurd none

one_sent : (address : Address) (x m : Kind) → unbundled x ≡ x ∷ [] → IsSentBy (to address x ∷ []) m → x ≡ m
one_sent address x m plain h =
    only_one (λ (y : Kind). x ≡ y) x refl m (subst (λ (ys : List Kind). IsIn ys m) plain (sent_alone address x m h))

module _ (config : Config) (l : ℕ) (facts : List Fact) (Sent Now : Kind → Type 0) where
  -- an effect on what the leader has is a step of it
  abbrev IsStepEffect : Effect LeaderMemory → Type 0
  IsStepEffect e = IsSentExtension Sent e.sends Now → IsLeaderStep config l facts Sent e.fact e.sends e.memory Now

  -- what may be sent beside proposals
  abbrev AreSendsBesideProposals : List Outgoing → Type 0
  AreSendsBesideProposals sends = (m : Kind) → IsSentBy sends m → MaySend config l facts Sent m × IsNoProposal m

  told : (after : LeaderMemory) (sends : List Outgoing) → AreSendsBesideProposals sends → LeaderInvariant config l facts after Sent
      → IsSentExtension Sent sends Now → IsLeaderStep config l facts Sent None sends after Now
  told after sends may kept grown = record {
    begins = λ x e. absurd (cc (e));
    may_send = λ m h. (may m h).0;
    agree = λ tx i b v w h k. absurd (may (P2a tx i b v) h).1;
    kept = kept_while config l facts after Sent Now grown.kept
        (λ tx i b v h owned. elim (grown.only (P2a tx i b v) h) [ inl old ↦ old | inr new ↦ absurd (may (P2a tx i b v) new).1 ])
        kept;
  }

  quiet : (after : LeaderMemory) → LeaderInvariant config l facts after Sent → IsSentExtension Sent [] Now
      → IsLeaderStep config l facts Sent None [] after Now
  quiet after kept grown = told after [] (λ m h. absurd h.1) kept grown

  -- ---- outcomes

  outcome_told : (tx : TxParts) (memory : LeaderMemory) (address : Address) (status : Status)
      → status ≡ status_of config.acceptors (last_ballot facts) memory tx
      → LeaderInvariant config l facts memory Sent → AreSendsBesideProposals (outcome_messages status tx address)
  outcome_told tx memory address statuses.Committed e kept m h =
      let is = one_sent address (Commit tx) m refl h in
      subst (λ (x : Kind). MaySend config l facts Sent x × IsNoProposal x) is
      (committed_is config.acceptors (last_ballot facts) memory tx Sent kept.heard (sym e), tt)
  outcome_told tx memory address statuses.Aborted e kept m h =
      let is = one_sent address (Abort tx) m refl h in
      subst (λ (x : Kind). MaySend config l facts Sent x × IsNoProposal x) is
      (aborted_is config.acceptors (last_ballot facts) memory tx Sent kept.heard (sym e), tt)
  outcome_told tx memory address _ e kept m h = absurd h.1

  commit_call_step : (memory : LeaderMemory) (tx : TxParts) → LeaderInvariant config l facts memory Sent
      → IsStepEffect (on_commit_call config (last_ballot facts) memory tx)
  commit_call_step memory tx kept =
      let known = kept_meets config l facts Sent tx memory kept in
      let status = status_of config.acceptors (last_ballot facts) (with_met tx memory) tx in
      cond_both (is_inside config tx)
      (record {
        answer = Stands (status_standing status);
        fact = None;
        sends = if is_final status then outcome_messages status tx Managers else to Managers (Prepare tx) ∷ [];
        memory = with_met tx memory;
      })
      (answer_only memory (Refused BadTx)) IsStepEffect
      (λ e grown. told (with_met tx memory) (if is_final status then outcome_messages status tx Managers else to Managers (Prepare tx) ∷ [])
      (cond_both (is_final status) (outcome_messages status tx Managers) (to Managers (Prepare tx) ∷ []) AreSendsBesideProposals
      (λ f. outcome_told tx (with_met tx memory) Managers status refl known)
      (λ f m h. subst (λ (x : Kind). MaySend config l facts Sent x × IsNoProposal x) (one_sent Managers (Prepare tx) m refl h) (tt, tt)))
      known grown)
      (λ e grown. quiet memory kept grown)

  status_call_step : (memory : LeaderMemory) (tx : TxParts) → LeaderInvariant config l facts memory Sent
      → IsStepEffect (on_status_call config (last_ballot facts) memory tx)
  status_call_step memory tx kept grown = quiet memory kept grown

  ask_step : (memory : LeaderMemory) (tx : TxParts) (rm : ℕ) → LeaderInvariant config l facts memory Sent
      → IsStepEffect (on_ask config (last_ballot facts) memory tx rm)
  ask_step memory tx rm kept grown =
      told (with_met tx memory) (outcome_messages (status_of config.acceptors (last_ballot facts) memory tx) tx (Node (R rm)))
      (outcome_told tx memory (Node (R rm)) (status_of config.acceptors (last_ballot facts) memory tx) refl kept)
      (kept_meets config l facts Sent tx memory kept) grown

  -- ---- a take-over

  asked_in : (tx : TxParts) (b : ℕ) (m : Kind) → IsIn (map (λ (i : ℕ). P1a tx i b) (participants tx)) m
      → (i : ℕ) × IsTrue (is_participant tx i) × (P1a tx i b ≡ m)
  asked_in tx b m h =
      let at = IsIn-mapped (λ (i : ℕ). P1a tx i b) (participants tx) m h in (at.source, participates tx at.source at.among, at.maps)

  asked_alone : (tx : TxParts) (b : ℕ) (m : Kind) → IsSentBy (map (λ (i : ℕ). to Acceptors (P1a tx i b)) (participants tx)) m
      → (i : ℕ) × IsTrue (is_participant tx i) × (P1a tx i b ≡ m)
  asked_alone tx b m h =
      let at = IsIn-mapped (λ (i : ℕ). to Acceptors (P1a tx i b)) (participants tx) h.0 h.1 in
      let is = subst (λ (y : Outgoing). IsIn (unbundled y.message) m) (sym at.maps) h.2 in
      (at.source, participates tx at.source at.among, only_one (λ (y : Kind). P1a tx at.source b ≡ y) (P1a tx at.source b) refl m is)

  asked : (tx : TxParts) (b : ℕ) (m : Kind) → IsSentBy (phase_1a config tx b) m → (i : ℕ) × IsTrue (is_participant tx i) × (P1a tx i b ≡ m)
  asked tx b m =
      cond_both config.bundled (to Acceptors (B1a tx b) ∷ []) (map (λ (i : ℕ). to Acceptors (P1a tx i b)) (participants tx))
      (λ (sends : List Outgoing). IsSentBy sends m → (i : ℕ) × IsTrue (is_participant tx i) × (P1a tx i b ≡ m))
      (λ e h. asked_in tx b m (sent_alone Acceptors (B1a tx b) m h))
      (λ e h. asked_alone tx b m h)

  module _ (memory : LeaderMemory) (tx : TxParts) (b : ℕ) where
    -- its own ballot, greater than every one before
    begins_step : LeaderInvariant config l facts memory Sent → AreProposalsBacked config.leaders l facts Sent
        → IsOwned config.leaders l b → last_ballot facts tx < b → b < 2 ^ 32
        → IsSentExtension Sent (phase_1a config tx b) Now
        → IsLeaderStep config l facts Sent (Some (stored.Ballot tx b)) (phase_1a config tx b)
        (with_begun tx b memory) Now
    begins_step kept backed owned up fits grown =
        let after = kept_begins config l facts Sent tx b memory kept owned up backed in
        let none : (ux : TxParts) (i c : ℕ) (v : Vote) → IsSentBy (phase_1a config tx b) (P2a ux i c v)
        → ⊥
        = λ ux i c v h. let at = asked tx b (P2a ux i c v) h in absurd (cc (at.2)) in
        record {
          begins = λ x e.
              let is : stored.Ballot tx b ≡ x = cc (e) in
              subst (IsNewBallot config.leaders l facts) is (record {
                tx = tx;
                ballot = b;
                is = refl;
                owned = owned;
                greater = up;
                fits = fits;
                plays = and_from (nat_lt (last_ballot facts tx) b) (owner_of config.leaders b == l) (lt-ltb (last_ballot facts tx) b up)
                    (eq-eqb (owner_of config.leaders b) l owned.1);
              });
          may_send = λ m h.
              let at = asked tx b m h in
              subst (MaySend config l (facts ++ stored.Ballot tx b ∷ []) Sent) at.2 (at.1, after.begun tx b (current_begun tx b memory));
          agree = λ ux i c v w h k. absurd (none ux i c v h);
          kept = kept_while config l (facts ++ stored.Ballot tx b ∷ []) (with_begun tx b memory) Sent Now grown.kept
              (λ ux i c v h own. elim (grown.only (P2a ux i c v) h) [ inl old ↦ old | inr new ↦ absurd (none ux i c v new) ])
              after;
        }

  takes_over_step : (memory : LeaderMemory) (tx : TxParts) → l < config.leaders → LeaderInvariant config l facts memory Sent
      → AreProposalsBacked config.leaders l facts Sent
      → IsStepEffect (takes_over config memory tx (next_of config.leaders l (last_ballot facts tx)))
  takes_over_step memory tx few kept backed =
      let b = next_of config.leaders l (last_ballot facts tx) in
      let next = next_is config.leaders l (last_ballot facts tx) few in
      cond_both (nat_lt b (2 ^ 32))
      (stores (with_begun tx b (with_met tx memory)) (stored.Ballot tx b) (phase_1a config tx b))
      (answer_only memory (Refused NoBallot)) IsStepEffect
      (λ e grown. begins_step (with_met tx memory) tx b (kept_meets config l facts Sent tx memory kept) backed next.owned next.greater
      (ltb-true b (2 ^ 32) e) grown)
      (λ e grown. quiet memory kept grown)

  timeout_step : (memory : LeaderMemory) (tx : TxParts) → l < config.leaders → LeaderInvariant config l facts memory Sent
      → AreProposalsBacked config.leaders l facts Sent
      → IsStepEffect (on_leader_timeout config l (last_ballot facts) memory tx)
  timeout_step memory tx few kept backed =
      let status = status_of config.acceptors (last_ballot facts) memory tx in
      let told_again = sends_only (with_met tx memory) (outcome_messages status tx Managers) in
      let over = takes_over config memory tx (next_of config.leaders l (last_ballot facts tx)) in
      cond_both (not (is_inside config tx)) (answer_only memory (Refused BadTx)) (if is_final status then told_again else over) IsStepEffect
      (λ e grown. quiet memory kept grown)
      (λ e. cond_both (is_final status) told_again over IsStepEffect
      (λ f grown. told (with_met tx memory) (outcome_messages status tx Managers) (outcome_told tx memory Managers status refl kept)
      (kept_meets config l facts Sent tx memory kept) grown)
      (λ f. takes_over_step memory tx few kept backed))

  -- ---- phases 1b and 2b

  current_by : (o : Option ℕ) (b : ℕ) → option_map_or (λ last. last == b) o false ≡ true → o ≡ Some b
  current_by None b h = absurd (cc (h))
  current_by (Some c) b h = ap Some (eqb-true c b h)

  -- a proposal in a current ballot
  record IsOwnProposal (memory : LeaderMemory) (tx : TxParts) (b : ℕ) (m : Kind) : Type 0 where
    instance : ℕ
    is : P2a tx instance b (value_to_propose memory.heard tx instance b) ≡ m
    reported : is_reported config.acceptors memory.heard tx instance b ≡ true
    new : not (is_proposed memory.proposed tx instance b) ≡ true

  proposal_is : (memory : LeaderMemory) (tx : TxParts) (b i : ℕ) (m : Kind) → proposal_of config memory tx b i ≡ Some m
      → IsOwnProposal memory tx b m
  proposal_is memory tx b i m =
      cond_both (is_reported config.acceptors memory.heard tx i b && not (is_proposed memory.proposed tx i b))
      (Some (P2a tx i b (value_to_propose memory.heard tx i b))) None (λ (o : Option Kind). o ≡ Some m → IsOwnProposal memory tx b m)
      (λ e f.
      let parts = and_parts (is_reported config.acceptors memory.heard tx i b) (not (is_proposed memory.proposed tx i b)) e in
      record { instance = i; is = ap (λ (o : Option Kind). unwrap_or o m) f; reported = parts.0; new = parts.1 })
      (λ e f. absurd (cc (f)))

  proposal_among : (memory : LeaderMemory) (tx : TxParts) (b : ℕ) (instances : List ℕ) (m : Kind)
      → IsIn (filter_map (proposal_of config memory tx b) instances) m → IsOwnProposal memory tx b m
  proposal_among memory tx b instances m h =
      let at = filter_map_given (proposal_of config memory tx b) instances m h in proposal_is memory tx b at.source m at.gives

  -- what is sent are the proposals
  proposal_sent : (memory : LeaderMemory) (tx : TxParts) (b : ℕ) (instances : List ℕ) (m : Kind)
      → IsSentBy (map (to Acceptors) (filter_map (proposal_of config memory tx b) instances)) m
      → IsIn (filter_map (proposal_of config memory tx b) instances) m
  proposal_sent memory tx b instances m h =
      let proposals = filter_map (proposal_of config memory tx b) instances in
      let at = IsIn-mapped (to Acceptors) proposals h.0 h.1 in
      let own = proposal_among memory tx b instances at.source at.among in
      let v = value_to_propose memory.heard tx own.instance b in
      let inside = subst (λ (y : Outgoing). IsIn (unbundled y.message) m) (sym at.maps) h.2 in
      let same : P2a tx own.instance b v ≡ m =
      only_one (λ (y : Kind). P2a tx own.instance b v ≡ y) (P2a tx own.instance b v) refl m
      (subst (λ (y : Kind). IsIn (unbundled y) m) (sym own.is) inside) in
      subst (IsIn proposals) (sym own.is ∙ same) at.among

  reports_step : (memory : LeaderMemory) (tx : TxParts) (b : ℕ) (instances : List ℕ) → current memory tx ≡ Some b
      → LeaderInvariant config l facts memory Sent
      → IsStepEffect (after_reports config memory tx b instances)
  reports_step memory tx b instances now kept grown =
      let proposals = filter_map (proposal_of config memory tx b) instances in
      let own = λ (m : Kind) (h : IsSentBy (map (to Acceptors) proposals) m).
      proposal_among memory tx b instances m (proposal_sent memory tx b instances m h) in
      record {
        begins = λ x f. absurd (cc (f));
        may_send = λ m h. let at = own m h in subst (MaySend config l facts Sent) at.is (record {
          owned = (kept.begun tx b now).owned;
          begun = (kept.begun tx b now).begun;
          picked = picked_is config.acceptors memory.heard tx at.instance b Sent kept.heard
              (λ report a. kept.inside tx at.instance b report a) (λ x y a. kept.once tx at.instance b x y a) at.reported;
          first = λ w k. absurd (both_ways (not (is_proposed memory.proposed tx at.instance b)) (ap not
              (kept.noted tx at.instance b w now k)) at.new);
        });
        agree = λ ux j c x y h k. same_value memory tx b ux j c x y (own (P2a ux j c x) h) (own (P2a ux j c y) k);
        kept = kept_proposes config l facts Sent proposals memory Now grown.kept
            (λ m h. elim (grown.only m h) [ inl old ↦ inl old | inr new ↦ inr (proposal_sent memory tx b instances m new) ]) kept;
      }
    where
      same_value : (memory : LeaderMemory) (tx : TxParts) (b : ℕ) (ux : TxParts) (j c : ℕ) (x y : Vote)
          → IsOwnProposal memory tx b (P2a ux j c x) → IsOwnProposal memory tx b (P2a ux j c y) → x ≡ y
      same_value memory tx b ux j c x y first second =
          let value = λ (i : ℕ). value_to_propose memory.heard tx i b in
          let at_first : first.instance ≡ j = cc (first.is) in
          let at_second : second.instance ≡ j = cc (second.is) in
          let is_first : value first.instance ≡ x = cc (first.is) in
          let is_second : value second.instance ≡ y = cc (second.is) in
          sym is_first ∙ ap value (at_first ∙ sym at_second) ∙ is_second

  on_1b_step : (memory : LeaderMemory) (tx : TxParts) (b a : ℕ) (reports : List InstanceReport)
      → ((m : Kind) → IsIn (report_messages tx b a reports) m → Sent m) → a < config.acceptors
      → LeaderInvariant config l facts memory Sent → IsStepEffect (on_1b config (last_ballot facts) memory tx b a reports)
  on_1b_step memory tx b a reports sent few kept =
      let final = is_final (status_of config.acceptors (last_ballot facts) memory tx) in
      let other = not (is_current memory tx b) in
      let messages = report_messages tx b a reports in
      cond_both (final || other) (no_effect memory)
      (after_reports config (with_all_heard messages memory) tx b (map (λ (item : InstanceReport). item.instance) reports)) IsStepEffect
      (λ e grown. quiet memory kept grown)
      (λ e.
      let parts = or_parts final other e in
      let same : current (with_all_heard messages memory) tx ≡ current memory tx =
      ap (λ (begun : List Begun). option_map (λ (one : Begun). one.ballot) (find (λ (one : Begun). tx_eq tx one.tx) begun))
      (hears_no_ballot messages memory) in
      reports_step (with_all_heard messages memory) tx b (map (λ (item : InstanceReport). item.instance) reports)
      (same ∙ current_by (current memory tx) b (not-false (is_current memory tx b) parts.1))
      (kept_hears_all config l facts Sent messages memory sent
      (λ ux j c x d h.
      let at = IsIn-mapped (λ (item : InstanceReport). P1b tx item.instance b item.report a) reports (P1b ux j c x d) h in
      let ea : a ≡ d = cc (at.maps) in subst (λ (k : ℕ). k < config.acceptors) ea few)
      kept))

  on_2b_step : (memory : LeaderMemory) (tx : TxParts) (a : ℕ) (accepts : List InstanceAccept)
      → ((m : Kind) → IsIn (accept_messages_of tx a accepts) m → Sent m)
      → LeaderInvariant config l facts memory Sent → IsStepEffect (on_2b config (last_ballot facts) memory tx a accepts)
  on_2b_step memory tx a accepts sent kept =
      let known = kept_meets config l facts Sent tx memory kept in
      let messages = accept_messages_of tx a accepts in
      let now = with_all_heard messages (with_met tx memory) in
      let heard = kept_hears_all config l facts Sent messages (with_met tx memory) sent
      (λ ux j c x d h.
      let at = IsIn-mapped (λ (item : InstanceAccept). P2b tx item.instance item.ballot item.vote a) accepts (P1b ux j c x d) h in
      absurd (cc (at.maps)))
      known in
      let status = status_of config.acceptors (last_ballot facts) now tx in
      cond_both (is_final (status_of config.acceptors (last_ballot facts) memory tx))
      (no_effect (with_met tx memory)) (sends_only now (outcome_messages status tx Managers)) IsStepEffect
      (λ e grown. quiet (with_met tx memory) known grown)
      (λ e grown. told now (outcome_messages status tx Managers) (outcome_told tx now Managers status refl heard) heard grown)

  -- a message of which all was sent, bundled or not, the acceptor that it names being one of the cluster
  takes_step : (memory : LeaderMemory) (message : Kind) → ((m : Kind) → IsIn (unbundled message) m → Sent m)
      → is_acceptor_inside config message ≡ true
      → LeaderInvariant config l facts memory Sent → IsStepEffect (on_leader_message config (last_ballot facts) memory message)
  takes_step memory (P1b tx i b report a) sent inside kept grown =
      on_1b_step memory tx b a (record { instance = i; report = report } ∷ []) sent (ltb-true a config.acceptors inside) kept grown
  takes_step memory (B1b tx b a reports) sent inside kept grown =
      on_1b_step memory tx b a reports sent (ltb-true a config.acceptors inside) kept grown
  takes_step memory (P2b tx i b v a) sent inside kept grown =
      on_2b_step memory tx a (record { instance = i; ballot = b; vote = v } ∷ []) sent kept grown
  takes_step memory (B2b tx a accepts) sent inside kept grown = on_2b_step memory tx a accepts sent kept grown
  takes_step memory (Ask tx rm) sent inside kept grown = ask_step memory tx rm kept grown
  takes_step memory _ sent inside kept grown = quiet memory kept grown

-- ---- all inputs

-- the effect of an input on a leader is a step of it
abbrev pub IsLeaderEffect : Config → (l : ℕ) → List Fact → (Sent : Kind → Type 0) → Effect Memory → (Now : Kind → Type 0) → Type 0
IsLeaderEffect config l facts Sent e Now = IsLeaderStep config l facts Sent e.fact e.sends e.memory.leader Now

-- all messages of a datagram were sent, where one comes
abbrev pub IsTakenSent : (Sent : Kind → Type 0) → Input → Type 0
IsTakenSent Sent (Received message) = (m : Kind) → IsIn (unbundled message) m → Sent m
IsTakenSent Sent input = Unit {0}

module _ (config : Config) (l : ℕ) (facts : List Fact) (Sent Now : Kind → Type 0) (few : l < config.leaders)
    (backed : AreProposalsBacked config.leaders l facts Sent) where
  -- an effect is a step, whatever is sent then
  abbrev IsStepOfInput : Effect Memory → Type 0
  IsStepOfInput e = IsSentExtension Sent e.sends Now → IsLeaderEffect config l facts Sent e Now

  -- each input that a leader meets while it is up
  pub leader_effect : (memory : Memory) (input : Input) → IsTakenSent Sent input → LeaderInvariant config l facts memory.leader Sent
      → IsStepOfInput (effect_of config (L l) facts memory input)
  leader_effect memory (Received message) sent kept =
      cond_both (is_message_inside config message) (of_leader memory (on_leader_message config (last_ballot facts) memory.leader message))
      (no_effect memory) IsStepOfInput
      (λ e. takes_step config l facts Sent Now memory.leader message sent
      (and_parts (is_inside config (message_tx message)) (is_acceptor_inside config message)
      (and_parts (is_inside config (message_tx message) && is_acceptor_inside config message) (is_form_of config.bundled message) e).0).1
      kept)
      (λ e. quiet config l facts Sent Now memory.leader kept)
  leader_effect memory (Asked (Request.Commit tx)) sent kept = commit_call_step config l facts Sent Now memory.leader tx kept
  leader_effect memory (Asked (Request.Status tx)) sent kept = status_call_step config l facts Sent Now memory.leader tx kept
  leader_effect memory (Asked (Timeout tx)) sent kept = timeout_step config l facts Sent Now memory.leader tx few kept backed
  leader_effect memory other sent kept = quiet config l facts Sent Now memory.leader kept
