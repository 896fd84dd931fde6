-- What a node stores and sends on an input is about the transaction of the input.
use Rattle.std.proofs.Common.{◌≡◌, inl, inr, ℕ, Bool, true, false, not, ◌&&◌, ◌||◌, if◌then◌else◌, List, [], ◌∷◌, Option, Some, None}
use Rattle.std.proofs.Common.{refl, sym, ap, subst, nat_lt, nat_le, is_some, ◌^◌}
use Rattle.std.specs.Prelude.{IfSome, map, filter_map, unwrap_or}
use Rattle.std.specs.List.{list_all}
use Rattle.std.proofs.lemmas.Bool.{cond_both}
use Rattle.xid.specs.Names.{XidParts}
use Rattle.xid.specs.Transactions.{TxParts, participants, xid_at}
use Rattle.xid.specs.declared.transaction.Vote.{Vote}
use Rattle.wire.specs.Messages.{message_tx}
use Rattle.wire.specs.declared.message.Kind.{Kind}
use Rattle.wire.specs.declared.message.Kind.TheVariants as kinds
use Rattle.wire.specs.declared.items.InstanceReport.{InstanceReport}
use Rattle.wire.specs.declared.items.InstanceAccept.{InstanceAccept}
use Rattle.stable_record.specs.Facts.{fact_tx}
use Rattle.stable_record.specs.declared.fact.Touched.{Touched}
use Rattle.ballot.specs.Ballots.{next_of}
use Rattle.ballot.specs.Choice.{is_prepared}
use Rattle.ballot.specs.Greatest.{IsIn}
use Rattle.protocol.specs.Basics.{Fact}
use Rattle.protocol.specs.declared.requests.Request.TheVariants as requests
use Rattle.protocol.specs.declared.decisions.Address.{Address}
use Rattle.protocol.specs.declared.decisions.Address.TheVariants.{Acceptors, Leaders, Managers}
use Rattle.protocol.specs.declared.states.Status.{Status}
use Rattle.protocol.specs.declared.states.Status.TheVariants as statuses
use Rattle.safety.specs.Vocabulary.{NodeId, A, L, R, Outgoing}
use Rattle.protocol.specs.Acceptors.{Slots, is_some_below, is_accepted, report_after, accept_messages, on_1a, on_b1a, on_2a}
use Rattle.protocol.specs.Acceptors.{on_acceptor_message}
use Rattle.protocol.specs.Effects.{Config, Effect, is_inside, to}
use Rattle.protocol.specs.Facts.{slot, last_ballot, is_prepared_view, is_open_view}
use Rattle.protocol.specs.LeaderMemory.{LeaderMemory, StoredBallots, status_of, with_met, with_all_heard, is_reported, is_proposed}
use Rattle.protocol.specs.LeaderMemory.{value_to_propose}
use Rattle.protocol.specs.Leaders.{outcome_messages, is_final, on_commit_call, phase_1a, on_leader_timeout, is_current}
use Rattle.protocol.specs.Leaders.{proposal_of, after_reports, on_1b, on_2b, on_leader_message}
use Rattle.protocol.specs.PaperItems.{report_messages}
use Rattle.protocol.specs.Managers.{Branch, StoredVotes, stored_votes, idle_keys, vote_sent, first_vote, on_prepare, on_commit, on_abort}
use Rattle.protocol.specs.Managers.{on_manager_message, on_manager_timeout}
use Rattle.protocol.specs.Nodes.{Memory, Input, Asked, Received, ReceivedNoise, effect_of, is_message_inside, on_message}
use Rattle.protocol.proofs.Lists.{IsIn-mapped, IsIn-append, filter_map_given, only_one}
use Rattle.xid.specs.Places.{Place, is_below}
use Rattle.floors.specs.Nodes.{is_input_below}

-- an input has its node store and send about a transaction
abbrev pub IsOn : Input → TxParts → Type 0
IsOn (Asked (requests.Timeout other)) tx = other ≡ tx
IsOn (Asked (requests.Commit other)) tx = other ≡ tx
IsOn (Received message) tx = message_tx message ≡ tx
IsOn input tx = ⊥

-- what is stored and sent is about transactions that pass
pub record AreAbout (P : TxParts → Type 0) (fact : Option Fact) (sends : List Outgoing) : Type 0 where
  pub stored : IfSome fact (λ f. P (fact_tx f))
  pub sent : (send : Outgoing) → IsIn sends send → P (message_tx send.message)

abbrev pub IsAbout : {M : Type 0} → (TxParts → Type 0) → Effect M → Type 0
IsAbout P e = AreAbout P e.fact e.sends

module _ (P : TxParts → Type 0) where
  nothing : AreAbout P None []
  nothing = record { stored = tt; sent = λ send h. absurd h }

  one_sent : (send : Outgoing) → P (message_tx send.message) → (s : Outgoing) → IsIn (send ∷ []) s → P (message_tx s.message)
  one_sent send h = only_one (λ (s : Outgoing). P (message_tx s.message)) send h

  module _ (tx : TxParts) (p : P tx) where
    -- one message of each of a list
    each_sent : {X : Type 0} (address : Address) (f : X → Kind) → ((x : X) → message_tx (f x) ≡ tx) → (xs : List X)
        → (send : Outgoing) → IsIn (map (λ x. to address (f x)) xs) send → P (message_tx send.message)
    each_sent {X} address f about xs send h =
        let from = IsIn-mapped (λ (x : X). to address (f x)) xs send h in
        subst (λ (s : Outgoing). P (message_tx s.message)) from.maps (subst P (sym (about from.source)) p)

    -- ---- acceptors

    module _ (config : Config) (a : ℕ) (slots : Slots) where
      about_1a : (i b : ℕ) → IsAbout P (on_1a config a slots tx i b)
      about_1a i b =
          cond_both (nat_lt (slots tx i).mbal b) _ _ (λ (e : Effect (Unit {0})). IsAbout P e)
          (λ higher. record { stored = p; sent = one_sent _ p }) (λ lower. nothing)

      about_b1a : (b : ℕ) → IsAbout P (on_b1a config a slots tx b)
      about_b1a b =
          cond_both (is_some_below slots tx b) _ _ (λ (e : Effect (Unit {0})). IsAbout P e)
          (λ some. record { stored = p; sent = one_sent _ p }) (λ none. nothing)

      told_about : (i b : ℕ) (v : Vote) (send : Outgoing) → IsIn (accept_messages config a slots tx i b v) send
          → P (message_tx send.message)
      told_about i b v =
          cond_both (not config.bundled) _ _ (λ (sends : List Outgoing). (send : Outgoing) → IsIn sends send → P (message_tx send.message))
          (λ plain. one_sent _ p)
          (λ bundled. cond_both (list_all (λ j. is_some (report_after slots tx i b v j)) (participants tx) || not (is_prepared v)) _ _
          (λ (sends : List Outgoing). (send : Outgoing) → IsIn sends send → P (message_tx send.message))
          (λ all. one_sent _ p) (λ few send h. absurd h))

      about_2a : (i b : ℕ) (v : Vote) → IsAbout P (on_2a config a slots tx i b v)
      about_2a i b v =
          cond_both (nat_le (slots tx i).mbal b) _ _ (λ (e : Effect (Unit {0})). IsAbout P e)
          (λ up. cond_both (is_accepted (slots tx i) b v) _ _ (λ (e : Effect (Unit {0})). IsAbout P e)
          (λ again. record { stored = tt; sent = told_about i b v }) (λ new. record { stored = p; sent = told_about i b v }))
          (λ low. nothing)

    -- ---- leaders

    outcome_about : (status : Status) (address : Address) (send : Outgoing) → IsIn (outcome_messages status tx address) send
        → P (message_tx send.message)
    outcome_about statuses.Committed address send h = one_sent (to address (kinds.Commit tx)) p send h
    outcome_about statuses.Aborted address send h = one_sent (to address (kinds.Abort tx)) p send h
    outcome_about statuses.Unknown address send h = absurd h
    outcome_about statuses.Undecided address send h = absurd h

    module _ (config : Config) (stored : StoredBallots) (memory : LeaderMemory) where
      about_commit : IsAbout P (on_commit_call config stored memory tx)
      about_commit =
          let status = status_of config.acceptors stored (with_met tx memory) tx in
          cond_both (is_inside config tx) _ _ (λ (e : Effect LeaderMemory). IsAbout P e)
          (λ inside. record {
            stored = tt;
            sent = cond_both (is_final status) (outcome_messages status tx Managers) (to Managers (kinds.Prepare tx) ∷ [])
                (λ (sends : List Outgoing). (send : Outgoing) → IsIn sends send → P (message_tx send.message))
                (λ final. outcome_about status Managers) (λ undecided. one_sent _ p);
          })
          (λ outside. nothing)

      phase_about : (b : ℕ) (send : Outgoing) → IsIn (phase_1a config tx b) send → P (message_tx send.message)
      phase_about b =
          cond_both config.bundled (to Acceptors (kinds.B1a tx b) ∷ []) (map (λ i. to Acceptors (kinds.P1a tx i b)) (participants tx))
          (λ (sends : List Outgoing). (send : Outgoing) → IsIn sends send → P (message_tx send.message))
          (λ bundled. one_sent _ p)
          (λ plain. each_sent Acceptors (λ (i : ℕ). kinds.P1a tx i b) (λ i. refl) (participants tx))

      about_timeout : (l : ℕ) → IsAbout P (on_leader_timeout config l stored memory tx)
      about_timeout l =
          let status = status_of config.acceptors stored memory tx in
          cond_both (not (is_inside config tx)) _ _ (λ (e : Effect LeaderMemory). IsAbout P e) (λ outside. nothing)
          (λ inside. cond_both (is_final status) _ _ (λ (e : Effect LeaderMemory). IsAbout P e)
          (λ final. record { stored = tt; sent = outcome_about status Managers })
          (λ undecided. cond_both (nat_lt (next_of config.leaders l (stored tx)) (2 ^ 32)) _ _ (λ (e : Effect LeaderMemory). IsAbout P e)
          (λ left. record { stored = p; sent = phase_about (next_of config.leaders l (stored tx)) }) (λ none. nothing)))

      about_proposals : (now : LeaderMemory) (b : ℕ) (instances : List ℕ) → IsAbout P (after_reports config now tx b instances)
      about_proposals now b instances = record {
        stored = tt;
        sent = λ send h.
            let from = IsIn-mapped (to Acceptors) (filter_map (proposal_of config now tx b) instances) send h in
            let given = filter_map_given (proposal_of config now tx b) instances from.source from.among in
            subst (λ (s : Outgoing). P (message_tx s.message)) from.maps (proposed given.source from.source given.gives);
      }
        where
          proposed : (i : ℕ) (m : Kind) → proposal_of config now tx b i ≡ Some m → P (message_tx m)
          proposed i m =
              cond_both (is_reported config.acceptors now.heard tx i b && not (is_proposed now.proposed tx i b))
              (Some (kinds.P2a tx i b (value_to_propose now.heard tx i b))) None (λ (o : Option Kind). o ≡ Some m → P (message_tx m))
              (λ may e. subst (λ (k : Kind). P (message_tx k)) (ap (λ (o : Option Kind). unwrap_or o m) e) p)
              (λ may_not e. absurd (cc (e)))

      about_1b : (b a : ℕ) (reports : List InstanceReport) → IsAbout P (on_1b config stored memory tx b a reports)
      about_1b b a reports =
          cond_both (is_final (status_of config.acceptors stored memory tx) || not (is_current memory tx b)) _ _
          (λ (e : Effect LeaderMemory). IsAbout P e) (λ late. nothing)
          (λ counts. about_proposals (with_all_heard (report_messages tx b a reports) memory) b (map (λ item. item.instance) reports))

      about_2b : (a : ℕ) (accepts : List InstanceAccept) → IsAbout P (on_2b config stored memory tx a accepts)
      about_2b a accepts =
          cond_both (is_final (status_of config.acceptors stored memory tx)) _ _ (λ (e : Effect LeaderMemory). IsAbout P e)
          (λ late. nothing) (λ counts. record { stored = tt; sent = outcome_about _ Managers })

    -- ---- resource managers

    module _ (rm : ℕ) (stored : StoredVotes) (branches : List Branch) where
      vote_about : (o : Option Vote) (send : Outgoing) → IsIn (vote_sent rm tx o) send → P (message_tx send.message)
      vote_about None send h = absurd h
      vote_about (Some v) send h = one_sent (to Acceptors (kinds.P2a tx rm 0 v)) p send h

      about_first : (x : XidParts) (spent : Bool) (idle : Option (List Touched)) → IsAbout P (first_vote rm branches tx x spent idle)
      about_first x false (Some keys) = record { stored = p; sent = one_sent _ p }
      about_first x spent idle = record { stored = p; sent = one_sent _ p }

      about_prepare : (x : XidParts) → IsAbout P (on_prepare rm stored branches tx x)
      about_prepare x =
          cond_both (is_some (stored.vote tx)) _ _ (λ (e : Effect (List Branch)). IsAbout P e)
          (λ some. record { stored = tt; sent = vote_about (stored.vote tx) })
          (λ new. cond_both (stored.is_ended tx) _ _ (λ (e : Effect (List Branch)). IsAbout P e) (λ ended. nothing)
          (λ unended. about_first x (stored.is_spent x) (idle_keys branches x)))

      about_commits : IsAbout P (on_commit stored branches tx)
      about_commits =
          cond_both (is_prepared_view (stored.view tx)) _ _ (λ (e : Effect (List Branch)). IsAbout P e)
          (λ is. record { stored = p; sent = λ send h. absurd h }) (λ other. nothing)

      about_aborts : (x : XidParts) → IsAbout P (on_abort stored branches tx x)
      about_aborts x =
          cond_both (is_open_view (stored.view tx)) _ _ (λ (e : Effect (List Branch)). IsAbout P e)
          (λ is. record { stored = p; sent = λ send h. absurd h }) (λ other. nothing)

      asked_about : (t : Bool) (send : Outgoing) → IsIn (if t then to Leaders (kinds.Ask tx rm) ∷ [] else []) send
          → P (message_tx send.message)
      asked_about true send h = one_sent (to Leaders (kinds.Ask tx rm)) p send h
      asked_about false send h = absurd h

      about_manager_timeout : (config : Config) → IsAbout P (on_manager_timeout config rm stored branches tx)
      about_manager_timeout config =
          cond_both (is_inside config tx) _ _ (λ (e : Effect (List Branch)). IsAbout P e)
          (λ inside. record {
            stored = tt;
            sent = λ send h. elim
                (IsIn-append (vote_sent rm tx (stored.vote tx))
                (if is_prepared_view (stored.view tx) then to Leaders (kinds.Ask tx rm) ∷ [] else []) send h) [
                  | inl vote ↦ vote_about (stored.vote tx) send vote
                  | inr ask ↦ asked_about (is_prepared_view (stored.view tx)) send ask
                ];
          })
          (λ outside. nothing)

  -- ---- messages

  acceptor_about : (config : Config) (a : ℕ) (slots : Slots) (m : Kind) → P (message_tx m)
      → IsAbout P (on_acceptor_message config a slots m)
  acceptor_about config a slots (kinds.P1a tx i b) p = about_1a tx p config a slots i b
  acceptor_about config a slots (kinds.B1a tx b) p = about_b1a tx p config a slots b
  acceptor_about config a slots (kinds.P2a tx i b v) p = about_2a tx p config a slots i b v
  acceptor_about config a slots m p = nothing

  leader_about : (config : Config) (stored : StoredBallots) (memory : LeaderMemory) (m : Kind) → P (message_tx m)
      → IsAbout P (on_leader_message config stored memory m)
  leader_about config stored memory (kinds.P1b tx i b report a) p =
      about_1b tx p config stored memory b a (record { instance = i; report = report } ∷ [])
  leader_about config stored memory (kinds.B1b tx b a reports) p = about_1b tx p config stored memory b a reports
  leader_about config stored memory (kinds.P2b tx i b v a) p =
      about_2b tx p config stored memory a (record { instance = i; ballot = b; vote = v } ∷ [])
  leader_about config stored memory (kinds.B2b tx a accepts) p = about_2b tx p config stored memory a accepts
  leader_about config stored memory (kinds.Ask tx rm) p = record { stored = tt; sent = outcome_about tx p _ _ }
  leader_about config stored memory m p = nothing

  manager_about : (rm : ℕ) (stored : StoredVotes) (branches : List Branch) (o : Option XidParts) (m : Kind) → P (message_tx m)
      → IsAbout P (on_manager_message rm stored branches o m)
  manager_about rm stored branches (Some x) (kinds.Prepare tx) p = about_prepare tx p rm stored branches x
  manager_about rm stored branches (Some x) (kinds.Commit tx) p = about_commits tx p rm stored branches
  manager_about rm stored branches (Some x) (kinds.Abort tx) p = about_aborts tx p rm stored branches x
  manager_about rm stored branches (Some x) m p = nothing
  manager_about rm stored branches None m p = nothing

  message_about : (config : Config) (who : NodeId) (facts : List Fact) (memory : Memory) (m : Kind) → P (message_tx m)
      → IsAbout P (on_message config who facts memory m)
  message_about config (A a) facts memory m p = acceptor_about config a (slot facts) m p
  message_about config (L l) facts memory m p = leader_about config (last_ballot facts) memory.leader m p
  message_about config (R rm) facts memory m p =
      manager_about rm (stored_votes rm facts) memory.branches (xid_at (message_tx m) rm) m p

-- whatever a node is handed
pub effect_about : (config : Config) (who : NodeId) (facts : List Fact) (memory : Memory) (input : Input)
    → IsAbout (IsOn input) (effect_of config who facts memory input)
effect_about config who facts memory (Received m) =
    cond_both (is_message_inside config m) _ _ (λ (e : Effect Memory). IsAbout (IsOn (Received m)) e)
    (λ inside. message_about (IsOn (Received m)) config who facts memory m refl) (λ outside. nothing (IsOn (Received m)))
effect_about config who facts memory ReceivedNoise = nothing (IsOn ReceivedNoise)
effect_about config (L l) facts memory (Asked (requests.Commit tx)) =
    about_commit (IsOn (Asked (requests.Commit tx))) tx refl config (last_ballot facts) memory.leader
effect_about config (L l) facts memory (Asked (requests.Timeout tx)) =
    about_timeout (IsOn (Asked (requests.Timeout tx))) tx refl config (last_ballot facts) memory.leader l
effect_about config (R rm) facts memory (Asked (requests.Timeout tx)) =
    about_manager_timeout (IsOn (Asked (requests.Timeout tx))) tx refl rm (stored_votes rm facts) memory.branches config
effect_about config (A a) facts memory (Asked request) = nothing (IsOn (Asked request))
effect_about config (L l) facts memory (Asked request) = nothing (IsOn (Asked request))
effect_about config (R rm) facts memory (Asked request) = nothing (IsOn (Asked request))

-- what an input that isn't below a floor is on isn't either
pub on_above : (floor : Option Place) (input : Input) (tx : TxParts) → IsOn input tx → is_input_below floor input ≡ false
    → is_below floor tx ≡ false
on_above floor (Asked (requests.Timeout other)) tx on e = subst (λ (t : TxParts). is_below floor t ≡ false) on e
on_above floor (Asked (requests.Commit other)) tx on e = subst (λ (t : TxParts). is_below floor t ≡ false) on e
on_above floor (Received m) tx on e = subst (λ (t : TxParts). is_below floor t ≡ false) on e
on_above floor input tx on e = absurd on
