-- What one event leaves of a leader's memory, by the lines of its step.
-- Needed by LeaderRuns.
use Rattle.std.proofs.Common.{◌≡◌, ◌≢◌, inl, inr, ◌∙◌, ℕ, Bool, true, false, not, ◌&&◌, ◌||◌, if◌then◌else◌, eq-eqb, List, []}
use Rattle.std.proofs.Common.{◌∷◌, ◌++◌, map, Option, Some, None, unwrap_or, refl, sym, ap, subst, nat_lt}
use Rattle.std.specs.Prelude.{◌<◌, ◌^◌, ◌==◌, filter, filter_map, find}
use Rattle.std.specs.List.{flat_map, list_any, list_all}
use Rattle.std.specs.Option.{option_map, option_map_or, option_and_then}
use Rattle.std.proofs.lemmas.Bool.{cond_both, and_right, or_parts}
use Rattle.xid.specs.Transactions.{TxParts, tx_eq, participants}
use Rattle.xid.specs.declared.refusals.Refusal.TheVariants.{BadTx, NoBallot}
use Rattle.stable_record.specs.declared.fact.FactKind.TheVariants as stored_facts
use Rattle.xid.proofs.Deciding.{tx_decides}
use Rattle.xid.specs.declared.transaction.Vote.TheVariants as votes
use Rattle.wire.specs.Messages.{message_tx}
use Rattle.wire.specs.declared.items.InstanceReport.{InstanceReport}
use Rattle.wire.specs.declared.items.InstanceAccept.{InstanceAccept}
use Rattle.wire.specs.declared.message.Kind.{Kind}
use Rattle.wire.specs.declared.message.Kind.TheVariants as kinds
use Rattle.ballot.specs.Ballots.{next_of}
use Rattle.ballot.specs.Greatest.{IsIn}
use Rattle.protocol.specs.Basics.{Fact}
use Rattle.safety.specs.Vocabulary.{L, R, Status, Request, Timeout, Event, Ask, Deliver, Done, Stands, Refused, Change, Step}
use Rattle.protocol.specs.Effects.{Config, Effect, is_inside, to, answer_only, no_effect, sends_only, stores, status_standing}
use Rattle.protocol.specs.LeaderMemory.{Begun, LeaderMemory, StoredBallots, current, is_decided, is_known, status_of, with_met, with_heard}
use Rattle.protocol.specs.LeaderMemory.{with_all_heard, is_counted, with_begun, is_phase_1b, is_reported, is_proposed, value_to_propose}
use Rattle.protocol.specs.Leaders.{is_final, is_current, outcome_messages, on_commit_call, on_leader_timeout, phase_1a, proposal_of, on_1b}
use Rattle.protocol.specs.Leaders.{on_2b, on_leader_message}
use Rattle.protocol.specs.PaperItems.{report_messages, accept_messages_of, unbundled}
use Rattle.protocol.specs.Worlds.{datagrams_of, numbered}
use Rattle.protocol.specs.declared.decisions.Address.{Address}
use Rattle.protocol.specs.declared.decisions.Address.TheVariants.{Node, Acceptors, Managers}
use Rattle.protocol.specs.declared.decisions.Outgoing.{Outgoing}
use Rattle.protocol.proofs.Lists.{IsIn-after, IsIn-before, IsIn-append, IsIn-mapped, filter_map_given, only_one}
use Rattle.history.specs.LeaderBack.{sent_by, ballot_begun_by, proposal_in, began_at, begins_at, taken_at, told_of, met_at, is_settled}
use Rattle.history.specs.LeaderBack.{counts, counted_of, joined_to, still_heard}
use Rattle.history.proofs.LeaderSends.{own_sent, copies, unread, proposals_said, only_any, only_find, ballot_said, none_proposed}

-- ---- lists

filter_true : {X : Type 0} (xs : List X) → filter (λ x. true) xs ≡ xs
filter_true [] = refl
filter_true (x ∷ xs) = ap (λ ys. x ∷ ys) (filter_true xs)

-- ---- what is heard

heard_all : (messages : List Kind) (memory : LeaderMemory)
    → with_all_heard messages memory ≡ record memory { heard = joined_to memory.heard messages }
heard_all [] memory = refl
heard_all (message ∷ rest) memory = by_test (is_counted memory.heard message) (heard_all rest memory)
    (heard_all rest (with_heard message memory))
  where
    by_test : (b : Bool) → with_all_heard rest memory ≡ record memory { heard = joined_to memory.heard rest }
        → with_all_heard rest (with_heard message memory) ≡ record memory { heard = joined_to (message ∷ memory.heard) rest }
        → with_all_heard rest (if b then memory else with_heard message memory)
        ≡ record memory { heard = joined_to (if b then memory.heard else message ∷ memory.heard) rest }
    by_test true counted new = counted
    by_test false counted new = new

final_is : (a b k : Bool)
    → is_final (if a then Status.Aborted else if b then Status.Committed else if k then Status.Undecided else Status.Unknown) ≡ (a || b)
final_is true b k = refl
final_is false true k = refl
final_is false false true = refl
final_is false false false = refl

-- a transaction is decided where what was heard decides it
settled_is : (n : ℕ) (stored : StoredBallots) (memory : LeaderMemory) (tx : TxParts)
    → is_final (status_of n stored memory tx) ≡ is_settled n memory.heard tx
settled_is n stored memory tx = final_is (list_any (λ i. is_decided n memory.heard tx i votes.Aborted) (participants tx))
    (list_all (λ i. is_decided n memory.heard tx i votes.Prepared) (participants tx)) (is_known stored memory tx)

late_or_not : (final settled own : Bool) → final ≡ settled → (b : Bool) → (final || not own) ≡ b → (not settled && own) ≡ not b
late_or_not final true own e true h = refl
late_or_not final true own e false h = absurd (cc (e, (or_parts final (not own) h).0))
late_or_not final false true e true h = absurd (cc (ap (λ (f : Bool). f || false) e, h))
late_or_not final false true e false h = refl
late_or_not final false false e true h = refl
late_or_not final false false e false h = absurd (cc (ap (λ (f : Bool). f || true) e, h))

-- ---- a step

-- a transaction met
met_is : (tx t : TxParts) (memory : LeaderMemory) → list_any (tx_eq t) (with_met tx memory).met
    ≡ (tx_eq t tx || list_any (tx_eq t) memory.met)
met_is tx t memory = by_test (list_any (tx_eq tx) memory.met) refl
  where
    known : (b : Bool) → tx_eq t tx ≡ b → list_any (tx_eq tx) memory.met ≡ true
        → list_any (tx_eq t) memory.met ≡ (b || list_any (tx_eq t) memory.met)
    known true e some =
        subst (λ (u : TxParts). list_any (tx_eq u) memory.met ≡ true) (sym ((tx_decides t tx).0 e)) some
    known false e some = refl

    by_test : (b : Bool) → list_any (tx_eq tx) memory.met ≡ b
        → list_any (tx_eq t) (if b then memory else record memory { met = tx ∷ memory.met }).met
        ≡ (tx_eq t tx || list_any (tx_eq t) memory.met)
    by_test true e = known (tx_eq t tx) refl e
    by_test false e = refl

module _ (config : Config) (l : ℕ) (before : List Step) where
  -- what was said to be met
  abbrev pub met_said : Step → TxParts → Bool → Bool
  met_said step tx was = option_map_or (tx_eq tx) (met_at config l before step.event step.answer) false || was

  -- what was said to be proposed
  abbrev pub proposed_said : Step → List Kind → List Kind
  proposed_said step was = filter_map proposal_in (sent_by l step.sent)
      ++ filter (λ message. not (begins_at l step (message_tx message))) was

  -- the messages that came and count
  abbrev pub came_said : Step → LeaderMemory → List Kind
  came_said step old =
      option_map_or (counted_of config.acceptors old.heard (current old)) (taken_at config l before step.event step.answer) []

  -- what a step leaves of a leader's memory is what its lines say
  pub record IsLine (old new : LeaderMemory) (step : Step) : Type 0 where
    pub met : (tx : TxParts) → list_any (tx_eq tx) new.met ≡ met_said step tx (list_any (tx_eq tx) old.met)
    pub current_is : (tx : TxParts)
        → current new tx ≡ option_map_or (λ begun. Some begun.ballot) (began_at l step tx) (current old tx)
    pub proposed : (m : Kind) → (IsIn new.proposed m → IsIn (proposed_said step old.proposed) m)
        × (IsIn (proposed_said step old.proposed) m → IsIn new.proposed m)
    pub heard : new.heard ≡ joined_to (still_heard l step old.heard) (came_said step old)

  module _ (old new : LeaderMemory) (step : Step) where
    -- a step that begins no ballot
    pub record IsUnbegun : Type 0 where
      pub ballots : filter_map ballot_begun_by (sent_by l step.sent) ≡ []
      pub met : (tx : TxParts) → list_any (tx_eq tx) new.met ≡ met_said step tx (list_any (tx_eq tx) old.met)
      pub begun : new.begun ≡ old.begun
      pub proposed : (m : Kind) → (IsIn new.proposed m → IsIn (filter_map proposal_in (sent_by l step.sent) ++ old.proposed) m)
          × (IsIn (filter_map proposal_in (sent_by l step.sent) ++ old.proposed) m → IsIn new.proposed m)
      pub heard : new.heard ≡ joined_to old.heard (came_said step old)

    still_all : filter_map ballot_begun_by (sent_by l step.sent) ≡ [] → still_heard l step old.heard ≡ old.heard
    still_all none =
        (λ i. filter (λ (message : Kind). not (and_right (is_phase_1b message) (begins_at l step (message_tx message))
        (ap (list_any (λ (begun : Begun). tx_eq begun.tx (message_tx message))) none) i)) old.heard)
        ∙ filter_true old.heard

    proposed_all : filter_map ballot_begun_by (sent_by l step.sent) ≡ [] → proposed_said step old.proposed
        ≡ filter_map proposal_in (sent_by l step.sent) ++ old.proposed
    proposed_all none = ap (λ (ps : List Kind). filter_map proposal_in (sent_by l step.sent) ++ ps)
        ((λ i. filter (λ (message : Kind). not (list_any (λ (begun : Begun). tx_eq begun.tx (message_tx message)) (none i))) old.proposed)
        ∙ filter_true old.proposed)

    pub unbegun_line : IsUnbegun → IsLine old new step
    unbegun_line is = record {
      met = is.met;
      current_is = λ tx.
          ap (λ (bs : List Begun). option_map (λ begun. begun.ballot) (find (λ begun. tx_eq tx begun.tx) bs)) is.begun
          ∙ sym (ap (λ (bs : List Begun). option_map_or (λ begun. Some begun.ballot) (find (λ begun. tx_eq tx begun.tx) bs)
          (current old tx)) is.ballots);
      proposed = λ m. (
        λ h. subst (λ (ps : List Kind). IsIn ps m) (sym (proposed_all is.ballots)) ((is.proposed m).0 h),
        λ h. (is.proposed m).1 (subst (λ (ps : List Kind). IsIn ps m) (proposed_all is.ballots) h),
      );
      heard = is.heard ∙ ap (λ (ms : List Kind). joined_to ms (came_said step old)) (sym (still_all is.ballots));
    }

  -- a step that says nothing of the leader
  pub record IsUnsaid (step : Step) : Type 0 where
    pub sent : sent_by l step.sent ≡ []
    pub met : met_at config l before step.event step.answer ≡ None
    pub taken : taken_at config l before step.event step.answer ≡ None

  pub unsaid_line : (old new : LeaderMemory) (step : Step) → IsUnsaid step → new ≡ old → IsLine old new step
  unsaid_line old new step is same = subst (λ (m : LeaderMemory). IsLine old m step) (sym same)
      (unbegun_line old old step (record {
        ballots = ap (filter_map ballot_begun_by) is.sent;
        met = λ tx. sym (ap (λ (o : Option TxParts). option_map_or (tx_eq tx) o false || list_any (tx_eq tx) old.met) is.met);
        begun = refl;
        proposed = λ m. (
          λ h. subst (λ (ps : List Kind). IsIn (ps ++ old.proposed) m) (sym (ap (filter_map proposal_in) is.sent)) h,
          λ h. subst (λ (ps : List Kind). IsIn (ps ++ old.proposed) m) (ap (filter_map proposal_in) is.sent) h,
        );
        heard = sym (ap (λ (o : Option Kind). joined_to old.heard
            (option_map_or (counted_of config.acceptors old.heard (current old)) o []))
            is.taken);
      }))

-- ---- the rules

-- messages that are of no phase 1a or 2a
record ArePlain (sends : List Outgoing) : Type 0 where
  unbegun : (send : Outgoing) → IsIn sends send → ballot_begun_by send.message ≡ None
  unproposed : (send : Outgoing) → IsIn sends send → proposal_in send.message ≡ None

nothing_plain : ArePlain []
nothing_plain = record { unbegun = λ s h. absurd h; unproposed = λ s h. absurd h }

one_plain : (address : Address) (message : Kind) → ballot_begun_by message ≡ None → proposal_in message ≡ None
    → ArePlain (to address message ∷ [])
one_plain address message begun proposed = record {
  unbegun = only_one (λ (send : Outgoing). ballot_begun_by send.message ≡ None) (to address message) begun;
  unproposed = only_one (λ (send : Outgoing). proposal_in send.message ≡ None) (to address message) proposed;
}

outcome_plain : (status : Status) (tx : TxParts) (address : Address) → ArePlain (outcome_messages status tx address)
outcome_plain Status.Committed tx address = one_plain address (kinds.Commit tx) refl refl
outcome_plain Status.Aborted tx address = one_plain address (kinds.Abort tx) refl refl
outcome_plain other tx address = nothing_plain

module _ (config : Config) (l : ℕ) (before : List Step) (k : ℕ) (now : Option Change) (some : 0 < config.acceptors)
    (stored : StoredBallots) (old : LeaderMemory) where
  -- the step of an effect
  abbrev step_by : Event → Effect LeaderMemory → Step
  step_by event e = record {
    event = event;
    answer = e.answer;
    now = now;
    sent = numbered k (flat_map (datagrams_of config (L l)) e.sends);
    told = [];
  }

  -- an effect leaves what its lines say
  abbrev pub Leaves : Event → Effect LeaderMemory → Type 0
  Leaves event e = IsLine config l before old e.memory (step_by event e)

  read_is : {X : Type 0} (read : Kind → Option X) (event : Event) (e : Effect LeaderMemory)
      → filter_map read (sent_by l (step_by event e).sent) ≡ filter_map read (flat_map (copies config) e.sends)
  read_is read event e = ap (filter_map read) (own_sent config l k e.sends)

  -- plain sends, nothing begun and nothing proposed
  plain : (event : Event) (e : Effect LeaderMemory) → ArePlain e.sends
      → ((tx : TxParts) → list_any (tx_eq tx) e.memory.met ≡ met_said config l before (step_by event e) tx (list_any (tx_eq tx) old.met))
      → e.memory.begun ≡ old.begun → e.memory.proposed ≡ old.proposed
      → e.memory.heard ≡ joined_to old.heard (came_said config l before (step_by event e) old) → Leaves event e
  plain event e are met begun proposed heard =
      let none = read_is proposal_in event e ∙ unread proposal_in config e.sends are.unproposed in
      unbegun_line config l before old e.memory (step_by event e) (record {
        ballots = read_is ballot_begun_by event e ∙ unread ballot_begun_by config e.sends are.unbegun;
        met = met;
        begun = begun;
        proposed = λ m. (
          λ h. subst (λ (ps : List Kind). IsIn (ps ++ old.proposed) m) (sym none) (subst (λ (ps : List Kind). IsIn ps m) proposed h),
          λ h. subst (λ (ps : List Kind). IsIn ps m) (sym proposed) (subst (λ (ps : List Kind). IsIn (ps ++ old.proposed) m) none h),
        );
        heard = heard;
      })

  -- nothing sent, asked or taken, and nothing changed
  quiet : (event : Event) (e : Effect LeaderMemory) → e.sends ≡ [] → met_at config l before event e.answer ≡ None
      → taken_at config l before event e.answer ≡ None → e.memory ≡ old → Leaves event e
  quiet event e sends met taken same = unsaid_line config l before old e.memory (step_by event e) (record {
    sent = ap (λ (ss : List Outgoing). sent_by l (numbered k (flat_map (datagrams_of config (L l)) ss))) sends;
    met = met;
    taken = taken;
  }) same

  met_only : (tx : TxParts) → with_met tx old ≡ record old { met = (with_met tx old).met }
  met_only tx = cond_both (list_any (tx_eq tx) old.met) old (record old { met = tx ∷ old.met })
      (λ (m : LeaderMemory). m ≡ record old { met = m.met }) (λ known. refl) (λ new. refl)

  -- asked by a request that was carried out
  asked_met : (tx t : TxParts) → list_any (tx_eq t) (with_met tx old).met
      ≡ (option_map_or (tx_eq t) (if l == l then Some tx else None) false || list_any (tx_eq t) old.met)
  asked_met tx t = met_is tx t old
      ∙ sym (ap (λ (b : Bool). option_map_or (tx_eq t) (if b then Some tx else None) false || list_any (tx_eq t) old.met) (eq-eqb l l refl))

  pub commit_leaves : (tx : TxParts) → Leaves (Ask (L l) (Request.Commit tx)) (on_commit_call config stored old tx)
  commit_leaves tx = cond_both (is_inside config tx) _ _ (Leaves (Ask (L l) (Request.Commit tx)))
      (λ inside. plain (Ask (L l) (Request.Commit tx)) told sends (asked_met tx) (ap (λ (m : LeaderMemory). m.begun) (met_only tx))
      (ap (λ (m : LeaderMemory). m.proposed) (met_only tx)) (ap (λ (m : LeaderMemory). m.heard) (met_only tx)))
      (λ outside. quiet (Ask (L l) (Request.Commit tx)) (answer_only old (Refused BadTx)) refl refl refl refl)
    where
      status : Status
      status = status_of config.acceptors stored (with_met tx old) tx

      told : Effect LeaderMemory
      told = record {
        answer = Stands (status_standing status);
        fact = None;
        sends = if is_final status then outcome_messages status tx Managers else to Managers (kinds.Prepare tx) ∷ [];
        memory = with_met tx old;
      }

      sends : ArePlain told.sends
      sends = cond_both (is_final status) (outcome_messages status tx Managers) (to Managers (kinds.Prepare tx) ∷ []) ArePlain
          (λ final. outcome_plain status tx Managers) (λ open_yet. one_plain Managers (kinds.Prepare tx) refl refl)

  -- a ballot begun
  begun_leaves : (tx : TxParts) (b : ℕ) (fact : Fact) → participants tx ≢ []
      → Leaves (Ask (L l) (Timeout tx)) (stores (with_begun tx b (with_met tx old)) fact (phase_1a config tx b))
  begun_leaves tx b fact named = record {
    met = asked_met tx;
    current_is = λ t. current_by t (tx_eq t tx) refl ∙ sym (ap (λ (o : Option Begun). option_map_or (λ g. Some g.ballot) o (current old t))
        (found t));
    proposed = λ m. (
      λ h. subst (λ (ps : List Kind). IsIn ps m) proposed_is h,
      λ h. subst (λ (ps : List Kind). IsIn ps m) (sym proposed_is) h,
    );
    heard = λ i. filter (λ (m : Kind). not (is_phase_1b m && sym (begins (message_tx m)) i)) (met_only tx i).heard;
  }
    where
      event : Event
      event = Ask (L l) (Timeout tx)

      effect : Effect LeaderMemory
      effect = stores (with_begun tx b (with_met tx old)) fact (phase_1a config tx b)

      begun : Begun
      begun = record { tx = tx; ballot = b }

      begins : (t : TxParts) → begins_at l (step_by event effect) t ≡ tx_eq tx t
      begins t = ap (list_any (λ (g : Begun). tx_eq g.tx t)) (read_is ballot_begun_by event effect)
          ∙ only_any (λ (g : Begun). tx_eq g.tx t) begun _ (ballot_said config some tx b named)

      found : (t : TxParts) → began_at l (step_by event effect) t ≡ (if tx_eq t tx then Some begun else None)
      found t = ap (find (λ (g : Begun). tx_eq t g.tx)) (read_is ballot_begun_by event effect)
          ∙ only_find (λ (g : Begun). tx_eq t g.tx) begun _ (ballot_said config some tx b named)

      current_by : (t : TxParts) (own : Bool) → tx_eq t tx ≡ own
          → option_map (λ (g : Begun). g.ballot) (if own then Some begun else find (λ (g : Begun). tx_eq t g.tx) (with_met tx old).begun)
          ≡ option_map_or (λ (g : Begun). Some g.ballot) (if own then Some begun else None) (current old t)
      current_by t true e = refl
      current_by t false e = ap (λ (m : LeaderMemory). current m t) (met_only tx)

      proposed_is : filter (λ (m : Kind). not (tx_eq tx (message_tx m))) (with_met tx old).proposed
          ≡ proposed_said config l before (step_by event effect) old.proposed
      proposed_is = (λ i. filter (λ (m : Kind). not (sym (begins (message_tx m)) i)) (met_only tx i).proposed)
          ∙ sym (ap (λ (ps : List Kind). ps ++ filter (λ (m : Kind). not (begins_at l (step_by event effect) (message_tx m))) old.proposed)
          (read_is proposal_in event effect ∙ none_proposed config tx b))

  -- a transaction that names no resource manager is decided
  undecided_named : (tx : TxParts) → is_final (status_of config.acceptors stored old tx) ≡ false → participants tx ≢ []
  undecided_named tx open_yet none = absurd (cc (
    sym (settled_is config.acceptors stored old tx) ∙ open_yet,
    ap (λ (rs : List ℕ). list_any (λ i. is_decided config.acceptors old.heard tx i votes.Aborted) rs
        || list_all (λ i. is_decided config.acceptors old.heard tx i votes.Prepared) rs) none,
  ))

  pub timeout_leaves : (tx : TxParts) → Leaves (Ask (L l) (Timeout tx)) (on_leader_timeout config l stored old tx)
  timeout_leaves tx = cond_both (not (is_inside config tx)) _ _ (Leaves (Ask (L l) (Timeout tx)))
      (λ outside. quiet (Ask (L l) (Timeout tx)) (answer_only old (Refused BadTx)) refl refl refl refl)
      (λ inside. cond_both (is_final (status_of config.acceptors stored old tx)) _ _ (Leaves (Ask (L l) (Timeout tx)))
      (λ final. plain (Ask (L l) (Timeout tx))
      (sends_only (with_met tx old) (outcome_messages (status_of config.acceptors stored old tx) tx Managers))
      (outcome_plain (status_of config.acceptors stored old tx) tx Managers) (asked_met tx)
      (ap (λ (m : LeaderMemory). m.begun) (met_only tx)) (ap (λ (m : LeaderMemory). m.proposed) (met_only tx))
      (ap (λ (m : LeaderMemory). m.heard) (met_only tx)))
      (λ open_yet. cond_both (nat_lt (next_of config.leaders l (stored tx)) (2 ^ 32)) _ _ (Leaves (Ask (L l) (Timeout tx)))
      (λ left. begun_leaves tx (next_of config.leaders l (stored tx)) (stored_facts.Ballot tx (next_of config.leaders l (stored tx)))
      (undecided_named tx open_yet))
      (λ none. quiet (Ask (L l) (Timeout tx)) (answer_only old (Refused NoBallot)) refl refl refl refl)))

  -- ---- a message that was taken

  module _ (n : ℕ) (m : Kind) (taken : taken_at config l before (Deliver n) Done ≡ Some m) where
    abbrev event : Event
    event = Deliver n

    -- what is met then
    abbrev met_by : TxParts → Bool
    met_by t = option_map_or (tx_eq t) (told_of m) false || list_any (tx_eq t) old.met

    said_met : (t : TxParts) → met_by t
        ≡ (option_map_or (tx_eq t) (option_and_then told_of (taken_at config l before (Deliver n) Done)) false || list_any
        (tx_eq t) old.met)
    said_met t = sym (ap (λ (o : Option Kind). option_map_or (tx_eq t) (option_and_then told_of o) false || list_any (tx_eq t) old.met)
        taken)

    abbrev came : List Kind
    came = counted_of config.acceptors old.heard (current old) m

    said_came : joined_to old.heard came ≡ joined_to old.heard
        (option_map_or (counted_of config.acceptors old.heard (current old)) (taken_at config l before (Deliver n) Done) [])
    said_came = sym (ap (λ (o : Option Kind). joined_to old.heard
        (option_map_or (counted_of config.acceptors old.heard (current old)) o []))
        taken)

    came_by : (b : Bool) → counts config.acceptors old.heard (current old) m ≡ b → came ≡ (if b then unbundled m else [])
    came_by b e = ap (λ (c : Bool). if c then unbundled m else []) e

    -- plain sends, and what it leaves of what was met and heard
    took : (sends : List Outgoing) (new : LeaderMemory) → ArePlain sends → ((t : TxParts) → list_any (tx_eq t) new.met ≡ met_by t)
        → new.begun ≡ old.begun → new.proposed ≡ old.proposed → new.heard ≡ joined_to old.heard came
        → Leaves event (sends_only new sends)
    took sends new are met begun proposed heard = plain event (sends_only new sends) are (λ t. met t ∙ said_met t) begun proposed
        (heard ∙ said_came)

    took_none : told_of m ≡ None → counts config.acceptors old.heard (current old) m ≡ false → Leaves event (no_effect old)
    took_none untold late = took [] old nothing_plain
        (λ t. sym (ap (λ (o : Option TxParts). option_map_or (tx_eq t) o false || list_any (tx_eq t) old.met) untold)) refl refl
        (sym (ap (joined_to old.heard) (came_by false late)))

    took_met : (tx : TxParts) (sends : List Outgoing) → ArePlain sends → told_of m ≡ Some tx
        → counts config.acceptors old.heard (current old) m ≡ false → Leaves event (sends_only (with_met tx old) sends)
    took_met tx sends are told late = took sends (with_met tx old) are
        (λ t. met_is tx t old ∙ sym (ap (λ (o : Option TxParts). option_map_or (tx_eq t) o false || list_any (tx_eq t) old.met) told))
        (ap (λ (k : LeaderMemory). k.begun) (met_only tx)) (ap (λ (k : LeaderMemory). k.proposed) (met_only tx))
        (ap (λ (k : LeaderMemory). k.heard) (met_only tx) ∙ sym (ap (joined_to old.heard) (came_by false late)))

    -- phase 2b
    accepts_leave : (tx : TxParts) (a : ℕ) (accepts : List InstanceAccept) → told_of m ≡ Some tx
        → unbundled m ≡ accept_messages_of tx a accepts
        → counts config.acceptors old.heard (current old) m ≡ not (is_settled config.acceptors old.heard tx)
        → Leaves event (on_2b config stored old tx a accepts)
    accepts_leave tx a accepts told stands tests =
        cond_both (is_final (status_of config.acceptors stored old tx)) _ _ (Leaves event)
        (λ late. took_met tx [] nothing_plain told (tests ∙ ap not (sym (settled_is config.acceptors stored old tx) ∙ late)))
        (λ counted.
        let true_now = tests ∙ ap not (sym (settled_is config.acceptors stored old tx) ∙ counted) in
        let messages = accept_messages_of tx a accepts in
        let is = heard_all messages (with_met tx old) in
        took _ _ (outcome_plain _ tx Managers)
        (λ t. ap (λ (k : LeaderMemory). list_any (tx_eq t) k.met) is ∙ met_is tx t old
        ∙ sym (ap (λ (o : Option TxParts). option_map_or (tx_eq t) o false || list_any (tx_eq t) old.met) told))
        (ap (λ (k : LeaderMemory). k.begun) is ∙ ap (λ (k : LeaderMemory). k.begun) (met_only tx))
        (ap (λ (k : LeaderMemory). k.proposed) is ∙ ap (λ (k : LeaderMemory). k.proposed) (met_only tx))
        (ap (λ (k : LeaderMemory). k.heard) is ∙ ap (λ (k : LeaderMemory). joined_to k.heard messages) (met_only tx)
        ∙ sym (ap (joined_to old.heard) (came_by true true_now ∙ stands))))

    -- proposals are of phase 2a
    proposal_is : (memory : LeaderMemory) (tx : TxParts) (b : ℕ) (is : List ℕ) (p : Kind)
        → IsIn (filter_map (proposal_of config memory tx b) is) p
        → (proposal_in p ≡ Some p) × (ballot_begun_by p ≡ None)
    proposal_is memory tx b is p h =
        let given = filter_map_given (proposal_of config memory tx b) is p h in
        by_test (is_reported config.acceptors memory.heard tx given.source b && not (is_proposed memory.proposed tx given.source b))
        (kinds.P2a tx given.source b (value_to_propose memory.heard tx given.source b)) refl refl given.gives
      where
        by_test : (c : Bool) (q : Kind) → proposal_in q ≡ Some q → ballot_begun_by q ≡ None → (if c then Some q else None) ≡ Some p
            → (proposal_in p ≡ Some p) × (ballot_begun_by p ≡ None)
        by_test true q a2 begun e =
            let same = ap (λ (o : Option Kind). unwrap_or o q) e in
            subst (λ (r : Kind). (proposal_in r ≡ Some r) × (ballot_begun_by r ≡ None)) same (a2, begun)
        by_test false q a2 begun e = absurd (cc (e))

    proposing : (new : LeaderMemory) (proposals : List Kind)
        → ((p : Kind) → IsIn proposals p → (proposal_in p ≡ Some p) × (ballot_begun_by p ≡ None))
        → told_of m ≡ None → new ≡ record old { heard = joined_to old.heard came; proposed = proposals ++ old.proposed }
        → Leaves event (sends_only new (map (to Acceptors) proposals))
    proposing new proposals are untold is = unbegun_line config l before old new (step_by event effect) (record {
      ballots = read_is ballot_begun_by event effect ∙ unread ballot_begun_by config (map (to Acceptors) proposals)
          (λ s h. let one = IsIn-mapped (to Acceptors) proposals s h in
          subst (λ (send : Outgoing). ballot_begun_by send.message ≡ None) one.maps (are one.source one.among).1);
      met = λ t. ap (λ (k : LeaderMemory). list_any (tx_eq t) k.met) is
          ∙ sym (ap (λ (o : Option TxParts). option_map_or (tx_eq t) o false || list_any (tx_eq t) old.met) untold) ∙ said_met t;
      begun = ap (λ (k : LeaderMemory). k.begun) is;
      proposed = λ p. (
        λ h. subst (λ (ps : List Kind). IsIn (ps ++ old.proposed) p) (sym read) (elim (IsIn-append proposals old.proposed p
            (subst (λ (k : LeaderMemory). IsIn k.proposed p) is h)) [
              | inl new_one ↦ IsIn-before said old.proposed p ((both p).1 new_one)
              | inr was ↦ IsIn-after said old.proposed p was
            ]),
        λ h. subst (λ (k : LeaderMemory). IsIn k.proposed p) (sym is) (elim (IsIn-append said old.proposed p
            (subst (λ (ps : List Kind). IsIn (ps ++ old.proposed) p) read h)) [
              | inl new_one ↦ IsIn-before proposals old.proposed p ((both p).0 new_one)
              | inr was ↦ IsIn-after proposals old.proposed p was
            ]),
      );
      heard = ap (λ (k : LeaderMemory). k.heard) is ∙ said_came;
    })
      where
        effect : Effect LeaderMemory
        effect = sends_only new (map (to Acceptors) proposals)

        said : List Kind
        said = filter_map proposal_in (flat_map (copies config) (map (to Acceptors) proposals))

        read : filter_map proposal_in (sent_by l (step_by event effect).sent) ≡ said
        read = read_is proposal_in event effect

        both : (p : Kind) → (IsIn said p → IsIn proposals p) × (IsIn proposals p → IsIn said p)
        both p = proposals_said config some proposals (λ q h. (are q h).0) p

    -- phase 1b
    reports_leave : (tx : TxParts) (b a : ℕ) (reports : List InstanceReport) → told_of m ≡ None
        → unbundled m ≡ report_messages tx b a reports
        → counts config.acceptors old.heard (current old) m
        ≡ (not (is_settled config.acceptors old.heard tx) && is_current old tx b)
        → Leaves event (on_1b config stored old tx b a reports)
    reports_leave tx b a reports untold stands tests =
        let final = is_final (status_of config.acceptors stored old tx) in
        let is_late = late_or_not final (is_settled config.acceptors old.heard tx) (is_current old tx b)
        (settled_is config.acceptors stored old tx) in
        cond_both (final || not (is_current old tx b)) _ _ (Leaves event)
        (λ late. took_none untold (tests ∙ is_late true late))
        (λ counted.
        let messages = report_messages tx b a reports in
        let is = heard_all messages old ∙ ap (λ (ms : List Kind). record old { heard = joined_to old.heard ms })
        (sym (came_by true (tests ∙ is_late false counted) ∙ stands)) in
        let now_memory = with_all_heard messages old in
        let proposals = filter_map (proposal_of config now_memory tx b) (map (λ (item : InstanceReport). item.instance) reports) in
        proposing _ proposals (proposal_is now_memory tx b (map (λ (item : InstanceReport). item.instance) reports)) untold
        (ap (λ (k : LeaderMemory). record k { proposed = proposals ++ k.proposed }) is))

  -- a message of the cluster
  pub message_leaves : (n : ℕ) (m : Kind) → taken_at config l before (Deliver n) Done ≡ Some m
      → Leaves (Deliver n) (on_leader_message config stored old m)
  message_leaves n (kinds.P1b tx i b report a) taken =
      reports_leave n (kinds.P1b tx i b report a) taken tx b a (record { instance = i; report = report } ∷ []) refl refl refl
  message_leaves n (kinds.B1b tx b a reports) taken = reports_leave n (kinds.B1b tx b a reports) taken tx b a reports refl refl refl
  message_leaves n (kinds.P2b tx i b v a) taken =
      accepts_leave n (kinds.P2b tx i b v a) taken tx a (record { instance = i; ballot = b; vote = v } ∷ []) refl refl refl
  message_leaves n (kinds.B2b tx a accepts) taken = accepts_leave n (kinds.B2b tx a accepts) taken tx a accepts refl refl refl
  message_leaves n (kinds.Ask tx rm) taken =
      took_met n (kinds.Ask tx rm) taken tx _ (outcome_plain (status_of config.acceptors stored old tx) tx (Node (R rm))) refl refl
  message_leaves n (kinds.Prepare tx) taken = took_none n (kinds.Prepare tx) taken refl refl
  message_leaves n (kinds.P1a tx i b) taken = took_none n (kinds.P1a tx i b) taken refl refl
  message_leaves n (kinds.P2a tx i b v) taken = took_none n (kinds.P2a tx i b v) taken refl refl
  message_leaves n (kinds.Commit tx) taken = took_none n (kinds.Commit tx) taken refl refl
  message_leaves n (kinds.Abort tx) taken = took_none n (kinds.Abort tx) taken refl refl
  message_leaves n (kinds.B1a tx b) taken = took_none n (kinds.B1a tx b) taken refl refl
