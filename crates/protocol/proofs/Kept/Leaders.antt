-- A leader needs nothing in its memory of transactions below its floor.
-- Needed by crates floors, leader and resource_manager.
use Rattle.std.proofs.Common.{◌≡◌, ◌∙◌, inl, inr, ℕ, ◌^◌, Bool, true, false, not, ◌&&◌, ◌||◌, ◌==◌, if◌then◌else◌, List, [], ◌∷◌, ◌++◌}
use Rattle.std.proofs.Common.{Option, Some, None, refl, sym, ap, subst, nat_lt, unwrap_or}
use Rattle.ballot.specs.Greatest.{IsIn}
use Rattle.protocol.specs.Vocabulary.{R, Node, Acceptors, Managers, Refused, Stands}
use Rattle.protocol.proofs.Lists.{IsIn-mapped, filter_map_given}
use Rattle.std.specs.Prelude.{map, filter, filter_map, find, option_map}
use Rattle.std.specs.List.{list_any, list_all, cons_option}
use Rattle.std.specs.Option.{option_map_or}
use Rattle.std.proofs.lemmas.Bool.{cond_both, cond-true, cond-false}
use Rattle.xid.specs.Transactions.{TxParts, tx_eq, participants}
use Rattle.xid.specs.declared.transaction.Vote.{Vote}
use Rattle.xid.specs.declared.transaction.Vote.TheVariants as votes
use Rattle.xid.specs.declared.refusals.Refusal.TheVariants.{BadTx, NoBallot}
use Rattle.xid.proofs.Deciding.{tx_decides}
use Rattle.wire.specs.Messages.{message_tx}
use Rattle.wire.specs.declared.items.InstanceReport.{InstanceReport}
use Rattle.wire.specs.declared.items.InstanceAccept.{InstanceAccept}
use Rattle.wire.specs.declared.message.Kind.{Kind}
use Rattle.wire.specs.declared.message.Kind.TheVariants as kinds
use Rattle.stable_record.specs.declared.fact.FactKind.TheVariants as stored
use Rattle.ballot.specs.Ballots.{next_of}
use Rattle.ballot.specs.Choice.{pick}
use Rattle.ballot.specs.Majority.{is_majority}
use Rattle.protocol.specs.declared.states.Status.{Status}
use Rattle.protocol.specs.declared.states.Status.TheVariants as statuses
use Rattle.protocol.specs.Effects.{Config, Effect, is_inside, no_effect, answer_only, sends_only, stores, to, status_standing}
use Rattle.protocol.specs.Facts.{instance_eq, vote_eq}
use Rattle.protocol.specs.LeaderMemory.{LeaderMemory, StoredBallots, Begun, message_report, is_report_of, has_reported, is_reported}
use Rattle.protocol.specs.LeaderMemory.{value_to_propose, is_proposed, is_accept_of, ballot_told, is_decided, status_of, with_met}
use Rattle.protocol.specs.LeaderMemory.{with_heard, is_counted, with_all_heard, is_phase_1b, with_begun, with_proposed}
use Rattle.protocol.specs.Leaders.{is_final, outcome_messages, on_commit_call, phase_1a, on_leader_timeout, on_status_call, is_current}
use Rattle.protocol.specs.Leaders.{proposal_of, after_reports, on_1b, on_2b, on_ask, on_leader_message}
use Rattle.protocol.specs.PaperItems.{report_messages, accept_messages_of}
use Rattle.xid.specs.Places.{Place, is_below}
use Rattle.protocol.specs.Kept.{kept_leader}

-- ---- filters

module _ {X : Type 0} (p : X → Bool) where
  -- what passes a test that only what is kept passes is among what is kept
  pub any_filter : (q : X → Bool) (xs : List X) → ((x : X) → p x ≡ false → q x ≡ false) → list_any q (filter p xs) ≡ list_any q xs
  any_filter q [] none = refl
  any_filter q (x ∷ xs) none =
      cond_both (p x) (x ∷ filter p xs) (filter p xs) (λ (zs : List X). list_any q zs ≡ (q x || list_any q xs))
      (λ kept. ap (λ (b : Bool). q x || b) (any_filter q xs none))
      (λ dropped. any_filter q xs none ∙ sym (ap (λ (b : Bool). b || list_any q xs) (none x dropped)))

  -- so it is for what is made of each
  pub map_filter : {Y : Type 0} (g : X → Option Y) (xs : List X) → ((x : X) → p x ≡ false → g x ≡ None)
      → filter_map g (filter p xs) ≡ filter_map g xs
  map_filter g [] none = refl
  map_filter {Y} g (x ∷ xs) none =
      cond_both (p x) (x ∷ filter p xs) (filter p xs) (λ (zs : List X). filter_map g zs ≡ cons_option (g x) (filter_map g xs))
      (λ kept. ap (λ (ys : List Y). cons_option (g x) ys) (map_filter g xs none))
      (λ dropped. map_filter g xs none ∙ sym (ap (λ (o : Option Y). cons_option o (filter_map g xs)) (none x dropped)))

  -- and for what is found first
  pub find_filter : (q : X → Bool) (xs : List X) → ((x : X) → p x ≡ false → q x ≡ false) → find q (filter p xs) ≡ find q xs
  find_filter q [] none = refl
  find_filter q (x ∷ xs) none =
      cond_both (p x) (x ∷ filter p xs) (filter p xs) (λ (zs : List X). find q zs ≡ (if q x then Some x else find q xs))
      (λ kept. ap (λ (o : Option X). if q x then Some x else o) (find_filter q xs none))
      (λ dropped. find_filter q xs none ∙ sym (cond-false (q x) (Some x) (find q xs) (none x dropped)))

  join_filter : (xs ys : List X) → ((x : X) → IsIn xs x → p x ≡ true) → filter p (xs ++ ys) ≡ xs ++ filter p ys
  join_filter [] ys all = refl
  join_filter (x ∷ xs) ys all =
      cond-true (p x) (x ∷ filter p (xs ++ ys)) (filter p (xs ++ ys)) (all x (inl refl))
      ∙ ap (λ (zs : List X). x ∷ zs) (join_filter xs ys (λ y h. all y (inr h)))

  both_filters : (q : X → Bool) (xs : List X) → filter p (filter q xs) ≡ filter q (filter p xs)
  both_filters q [] = refl
  both_filters q (x ∷ xs) = by_tests (both_filters q xs) (p x) refl (q x) refl
    where
      by_tests : filter p (filter q xs) ≡ filter q (filter p xs) → (s : Bool) → p x ≡ s → (t : Bool) → q x ≡ t
          → filter p (if q x then x ∷ filter q xs else filter q xs) ≡ filter q (if p x then x ∷ filter p xs else filter p xs)
      by_tests rest true e true f =
          ap (λ (b : Bool). filter p (if b then x ∷ filter q xs else filter q xs)) f
          ∙ cond-true (p x) (x ∷ filter p (filter q xs)) (filter p (filter q xs)) e
          ∙ ap (λ (zs : List X). x ∷ zs) rest
          ∙ sym (cond-true (q x) (x ∷ filter q (filter p xs)) (filter q (filter p xs)) f)
          ∙ sym (ap (λ (b : Bool). filter q (if b then x ∷ filter p xs else filter p xs)) e)
      by_tests rest true e false f =
          ap (λ (b : Bool). filter p (if b then x ∷ filter q xs else filter q xs)) f
          ∙ rest
          ∙ sym (cond-false (q x) (x ∷ filter q (filter p xs)) (filter q (filter p xs)) f)
          ∙ sym (ap (λ (b : Bool). filter q (if b then x ∷ filter p xs else filter p xs)) e)
      by_tests rest false e true f =
          ap (λ (b : Bool). filter p (if b then x ∷ filter q xs else filter q xs)) f
          ∙ cond-false (p x) (x ∷ filter p (filter q xs)) (filter p (filter q xs)) e
          ∙ rest
          ∙ sym (ap (λ (b : Bool). filter q (if b then x ∷ filter p xs else filter p xs)) e)
      by_tests rest false e false f =
          ap (λ (b : Bool). filter p (if b then x ∷ filter q xs else filter q xs)) f
          ∙ rest
          ∙ sym (ap (λ (b : Bool). filter q (if b then x ∷ filter p xs else filter p xs)) e)

-- ---- what is of another transaction

-- of three tests the last fails
pub last_false : (x y : Bool) → (x && (y && false)) ≡ false
last_false true true = refl
last_false true false = refl
last_false false y = refl

module _ (floor : Option Place) (tx : TxParts) (above : is_below floor tx ≡ false) where
  abbrev pub is_kept_tx : TxParts → Bool
  is_kept_tx t = not (is_below floor t)

  abbrev pub is_kept_message : Kind → Bool
  is_kept_message m = not (is_below floor (message_tx m))

  abbrev pub is_kept_begun : Begun → Bool
  is_kept_begun begun = not (is_below floor begun.tx)

  -- a transaction that isn't kept is another one
  pub other_tx : (t : TxParts) → is_kept_tx t ≡ false → tx_eq tx t ≡ false
  other_tx t dropped = by_test (tx_eq tx t) refl
    where
      not_not : (b : Bool) → not b ≡ false → b ≡ true
      not_not true e = refl
      not_not false e = absurd (cc (e))

      by_test : (b : Bool) → tx_eq tx t ≡ b → tx_eq tx t ≡ false
      by_test true e =
          let below : is_below floor tx ≡ true =
          subst (λ (u : TxParts). is_below floor u ≡ true) (sym ((tx_decides tx t).0 e)) (not_not (is_below floor t) dropped) in
          absurd (cc (above, below))
      by_test false e = e

  kept_here : (t : TxParts) → t ≡ tx → is_kept_tx t ≡ true
  kept_here t e = ap not (ap (is_below floor) e ∙ above)

  accept_by : (i b : ℕ) (v : Vote) (a : ℕ) (m : Kind) → tx_eq tx (message_tx m) ≡ false → is_accept_of tx i b v a m ≡ false
  accept_by i b v a (kinds.P2b other j c w from) e =
      ap (λ (t : Bool). (a == from) && (b == c) && vote_eq v w && ((i == j) && t)) e
      ∙ last_false ((a == from) && (b == c) && vote_eq v w) (i == j)
  accept_by i b v a m e = refl

  told_by : (i : ℕ) (v : Vote) (m : Kind) → tx_eq tx (message_tx m) ≡ false → ballot_told tx i v m ≡ None
  told_by i v (kinds.P2b other j b w from) e =
      ap (λ (t : Bool). if vote_eq v w && ((i == j) && t) then Some b else None) e
      ∙ ap (λ (t : Bool). if t then Some b else None) (last_false (vote_eq v w) (i == j))
  told_by i v m e = refl

  report_by : (i b a : ℕ) (m : Kind) → tx_eq tx (message_tx m) ≡ false → is_report_of tx i b a m ≡ false
  report_by i b a (kinds.P1b other j c report from) e =
      ap (λ (t : Bool). (a == from) && (b == c) && ((i == j) && t)) e ∙ last_false ((a == from) && (b == c)) (i == j)
  report_by i b a m e = refl

  reports_by : (i b : ℕ) (m : Kind) → tx_eq tx (message_tx m) ≡ false → message_report tx i b m ≡ None
  reports_by i b (kinds.P1b other j c report from) e =
      ap (λ (t : Bool). if (b == c) && ((i == j) && t) then Some report else None) e
      ∙ ap (λ (t : Bool). if t then Some report else None) (last_false (b == c) (i == j))
  reports_by i b m e = refl

  -- ---- what a leader's memory says of the transaction

  module _ (heard : List Kind) where
    abbrev pub few : List Kind
    few = filter is_kept_message heard

    -- the accepts that were heard of it are the same
    pub accepts_kept : (i b : ℕ) (v : Vote) (a : ℕ) → list_any (is_accept_of tx i b v a) few ≡ list_any (is_accept_of tx i b v a) heard
    accepts_kept i b v a =
        any_filter is_kept_message (is_accept_of tx i b v a) heard (λ m dropped. accept_by i b v a m (other_tx (message_tx m) dropped))

    pub decided_kept : (n i : ℕ) (v : Vote) → is_decided n few tx i v ≡ is_decided n heard tx i v
    decided_kept n i v = λ k.
        list_any (λ b. is_majority n (λ a. accepts_kept i b v a k))
        (map_filter is_kept_message (ballot_told tx i v) heard (λ m dropped. told_by i v m (other_tx (message_tx m) dropped)) k)

    -- so are the reports
    pub reported_by : (i b a : ℕ) → has_reported few tx i b a ≡ has_reported heard tx i b a
    reported_by i b a =
        any_filter is_kept_message (is_report_of tx i b a) heard (λ m dropped. report_by i b a m (other_tx (message_tx m) dropped))

    pub reported_kept : (n i b : ℕ) → is_reported n few tx i b ≡ is_reported n heard tx i b
    reported_kept n i b = λ k. is_majority n (λ a. reported_by i b a k)

    value_kept : (i b : ℕ) → value_to_propose few tx i b ≡ value_to_propose heard tx i b
    value_kept i b =
        ap pick (map_filter is_kept_message (message_report tx i b) heard (λ m dropped. reports_by i b m (other_tx (message_tx m) dropped)))

    counted_kept : (m : Kind) → message_tx m ≡ tx → is_counted few m ≡ is_counted heard m
    counted_kept (kinds.P1b t i b report a) e =
        ap (λ (u : TxParts). has_reported few u i b a) e ∙ reported_by i b a ∙ sym (ap (λ (u : TxParts). has_reported heard u i b a) e)
    counted_kept (kinds.P2b t i b v a) e =
        ap (λ (u : TxParts). list_any (is_accept_of u i b v a) few) e ∙ accepts_kept i b v a
        ∙ sym (ap (λ (u : TxParts). list_any (is_accept_of u i b v a) heard) e)
    counted_kept m e = refl

  one_proposed : (i b : ℕ) (some all : List Kind) (m : Kind) → is_proposed some tx i b ≡ is_proposed all tx i b
      → is_proposed (m ∷ some) tx i b ≡ is_proposed (m ∷ all) tx i b
  one_proposed i b some all (kinds.P2a other j c v) e = ap (λ (t : Bool). ((b == c) && instance_eq tx i other j) || t) e
  one_proposed i b some all m e = e

  none_proposed : (i b : ℕ) (all : List Kind) (m : Kind) → tx_eq tx (message_tx m) ≡ false
      → is_proposed (m ∷ all) tx i b ≡ is_proposed all tx i b
  none_proposed i b all (kinds.P2a other j c v) e =
      ap (λ (t : Bool). t || is_proposed all tx i b) (ap (λ (t : Bool). (b == c) && ((i == j) && t)) e ∙ last_false (b == c) (i == j))
  none_proposed i b all m e = refl

  -- and what was proposed
  pub proposed_kept : (proposed : List Kind) (i b : ℕ) → is_proposed (filter is_kept_message proposed) tx i b ≡ is_proposed proposed tx i b
  proposed_kept [] i b = refl
  proposed_kept (m ∷ ms) i b =
      cond_both (is_kept_message m) (m ∷ filter is_kept_message ms) (filter is_kept_message ms)
      (λ (zs : List Kind). is_proposed zs tx i b ≡ is_proposed (m ∷ ms) tx i b)
      (λ kept. one_proposed i b (filter is_kept_message ms) ms m (proposed_kept ms i b))
      (λ dropped. proposed_kept ms i b ∙ sym (none_proposed i b ms m (other_tx (message_tx m) dropped)))

  module _ (config : Config) (ballots : StoredBallots) where
    abbrev K : LeaderMemory → LeaderMemory
    K = kept_leader floor

    pub status_kept : (memory : LeaderMemory)
        → status_of config.acceptors ballots (K memory) tx ≡ status_of config.acceptors ballots memory tx
    status_kept memory = λ k.
        if list_any (λ i. decided_kept memory.heard config.acceptors i votes.Aborted k) (participants tx) then statuses.Aborted
        else if list_all (λ i. decided_kept memory.heard config.acceptors i votes.Prepared k) (participants tx) then statuses.Committed
        else if any_filter is_kept_tx (tx_eq tx) memory.met other_tx k || nat_lt 0 (ballots tx) then statuses.Undecided
        else statuses.Unknown

    met_kept : (memory : LeaderMemory) → with_met tx (K memory) ≡ K (with_met tx memory)
    met_kept memory =
        ap (λ (t : Bool). if t then K memory else record (K memory) { met = tx ∷ filter is_kept_tx memory.met })
        (any_filter is_kept_tx (tx_eq tx) memory.met other_tx)
        ∙ by_test (list_any (tx_eq tx) memory.met)
      where
        by_test : (t : Bool)
            → (if t then K memory else record (K memory) { met = tx ∷ filter is_kept_tx memory.met })
            ≡ K (if t then memory else record memory { met = tx ∷ memory.met })
        by_test true = refl
        by_test false = ap (λ (met : List TxParts). record (K memory) { met = met })
            (sym (cond-true (is_kept_tx tx) (tx ∷ filter is_kept_tx memory.met) (filter is_kept_tx memory.met) (kept_here tx refl)))

    all_heard_kept : (ms : List Kind) → ((m : Kind) → IsIn ms m → message_tx m ≡ tx) → (memory : LeaderMemory)
        → with_all_heard ms (K memory) ≡ K (with_all_heard ms memory)
    all_heard_kept [] on memory = refl
    all_heard_kept (m ∷ ms) on memory =
        ap (with_all_heard ms) (one_heard m (on m (inl refl)))
        ∙ all_heard_kept ms (λ n h. on n (inr h)) (if is_counted memory.heard m then memory else with_heard m memory)
      where
        by_test : (n : Kind) → message_tx n ≡ tx → (t : Bool)
            → (if t then K memory else with_heard n (K memory)) ≡ K (if t then memory else with_heard n memory)
        by_test n e true = refl
        by_test n e false = ap (λ (heard : List Kind). record (K memory) { heard = heard })
            (sym (cond-true (is_kept_message n) (n ∷ filter is_kept_message memory.heard) (filter is_kept_message memory.heard)
            (kept_here (message_tx n) e)))

        one_heard : (n : Kind) → message_tx n ≡ tx
            → (if is_counted (K memory).heard n then K memory else with_heard n (K memory))
            ≡ K (if is_counted memory.heard n then memory else with_heard n memory)
        one_heard n e =
            ap (λ (t : Bool). if t then K memory else with_heard n (K memory)) (counted_kept memory.heard n e)
            ∙ by_test n e (is_counted memory.heard n)

    current_kept : (memory : LeaderMemory) (b : ℕ) → is_current (K memory) tx b ≡ is_current memory tx b
    current_kept memory b =
        ap (λ (o : Option Begun). option_map_or (λ last. last == b) (option_map (λ begun. begun.ballot) o) false)
        (find_filter is_kept_begun (λ begun. tx_eq tx begun.tx) memory.begun (λ begun dropped. other_tx begun.tx dropped))

    begun_kept : (memory : LeaderMemory) (b : ℕ) → with_begun tx b (K memory) ≡ K (with_begun tx b memory)
    begun_kept memory b = λ k. record {
      heard = sym (both_filters is_kept_message (λ message. not (is_phase_1b message && tx_eq tx (message_tx message))) memory.heard) k;
      begun = sym (cond-true (is_kept_tx tx) (record { tx = tx; ballot = b } ∷ filter is_kept_begun memory.begun)
          (filter is_kept_begun memory.begun) (kept_here tx refl)) k;
      proposed = sym (both_filters is_kept_message (λ message. not (tx_eq tx (message_tx message))) memory.proposed) k;
      met = filter is_kept_tx memory.met;
    }

    -- ---- effects

    -- the same, with what is kept of its memory
    abbrev pub with_kept : Effect LeaderMemory → Effect LeaderMemory
    with_kept e = record { answer = e.answer; fact = e.fact; sends = e.sends; memory = K e.memory }

    proposal_kept : (memory : LeaderMemory) (b i : ℕ) → proposal_of config (K memory) tx b i ≡ proposal_of config memory tx b i
    proposal_kept memory b i = λ k.
        if reported_kept memory.heard config.acceptors i b k && not (proposed_kept memory.proposed i b k)
        then Some (kinds.P2a tx i b (value_kept memory.heard i b k))
        else None

    proposals_on : (memory : LeaderMemory) (b : ℕ) (instances : List ℕ) (m : Kind)
        → IsIn (filter_map (proposal_of config memory tx b) instances) m → message_tx m ≡ tx
    proposals_on memory b instances m h =
        let from = filter_map_given (proposal_of config memory tx b) instances m h in on_tx from.source m from.gives
      where
        on_tx : (i : ℕ) (n : Kind) → proposal_of config memory tx b i ≡ Some n → message_tx n ≡ tx
        on_tx i n =
            cond_both (is_reported config.acceptors memory.heard tx i b && not (is_proposed memory.proposed tx i b))
            (Some (kinds.P2a tx i b (value_to_propose memory.heard tx i b))) None (λ (o : Option Kind). o ≡ Some n → message_tx n ≡ tx)
            (λ may e. subst (λ (k : Kind). message_tx k ≡ tx) (ap (λ (o : Option Kind). unwrap_or o n) e) refl)
            (λ may_not e. absurd (cc (e)))

    reports_kept : (memory : LeaderMemory) (b : ℕ) (instances : List ℕ)
        → after_reports config (K memory) tx b instances ≡ with_kept (after_reports config memory tx b instances)
    reports_kept memory b instances =
        ap (λ (proposals : List Kind). sends_only (with_proposed proposals (K memory)) (map (to Acceptors) proposals))
        (λ k. filter_map (λ i. proposal_kept memory b i k) instances)
        ∙ ap (λ (all : List Kind). sends_only (record (K memory) { proposed = all })
        (map (to Acceptors) (filter_map (proposal_of config memory tx b) instances)))
        (sym (join_filter is_kept_message (filter_map (proposal_of config memory tx b) instances) memory.proposed
        (λ m h. kept_here (message_tx m) (proposals_on memory b instances m h))))

    module _ (b a : ℕ) (reports : List InstanceReport) (memory : LeaderMemory) where
      abbrev reported : List Kind
      reported = report_messages tx b a reports

      abbrev instances : List ℕ
      instances = map (λ item. item.instance) reports

      reported_on : (m : Kind) → IsIn reported m → message_tx m ≡ tx
      reported_on m h =
          let from = IsIn-mapped (λ (item : InstanceReport). kinds.P1b tx item.instance b item.report a) reports m h in
          subst (λ (n : Kind). message_tx n ≡ tx) from.maps refl

      late_or_not : (t : Bool)
          → (if t then no_effect (K memory) else after_reports config (K (with_all_heard reported memory)) tx b instances)
          ≡ with_kept (if t then no_effect memory else after_reports config (with_all_heard reported memory) tx b instances)
      late_or_not true = refl
      late_or_not false = reports_kept (with_all_heard reported memory) b instances

      kept_1b : on_1b config ballots (K memory) tx b a reports ≡ with_kept (on_1b config ballots memory tx b a reports)
      kept_1b =
          (λ k. if is_final (status_kept memory k) || not (current_kept memory b k) then no_effect (K memory)
          else after_reports config (all_heard_kept reported reported_on memory k) tx b instances)
          ∙ late_or_not (is_final (status_of config.acceptors ballots memory tx) || not (is_current memory tx b))

    module _ (a : ℕ) (accepts : List InstanceAccept) (memory : LeaderMemory) where
      abbrev accepted : List Kind
      accepted = accept_messages_of tx a accepts

      abbrev now : LeaderMemory
      now = with_all_heard accepted (with_met tx memory)

      accepted_on : (m : Kind) → IsIn accepted m → message_tx m ≡ tx
      accepted_on m h =
          let from = IsIn-mapped (λ (item : InstanceAccept). kinds.P2b tx item.instance item.ballot item.vote a) accepts m h in
          subst (λ (n : Kind). message_tx n ≡ tx) from.maps refl

      now_kept : with_all_heard accepted (with_met tx (K memory)) ≡ K now
      now_kept = ap (with_all_heard accepted) (met_kept memory) ∙ all_heard_kept accepted accepted_on (with_met tx memory)

      final_or_not : (t : Bool)
          → (if t then no_effect (K (with_met tx memory))
          else sends_only (K now) (outcome_messages (status_of config.acceptors ballots (K now) tx) tx Managers))
          ≡ with_kept (if t then no_effect (with_met tx memory)
          else sends_only now (outcome_messages (status_of config.acceptors ballots now tx) tx Managers))
      final_or_not true = refl
      final_or_not false = ap (λ (s : Status). sends_only (K now) (outcome_messages s tx Managers)) (status_kept now)

      kept_2b : on_2b config ballots (K memory) tx a accepts ≡ with_kept (on_2b config ballots memory tx a accepts)
      kept_2b =
          (λ k. if is_final (status_kept memory k) then no_effect (met_kept memory k)
          else sends_only (now_kept k) (outcome_messages (status_of config.acceptors ballots (now_kept k) tx) tx Managers))
          ∙ final_or_not (is_final (status_of config.acceptors ballots memory tx))

    kept_ask : (rm : ℕ) (memory : LeaderMemory)
        → on_ask config ballots (K memory) tx rm ≡ with_kept (on_ask config ballots memory tx rm)
    kept_ask rm memory = λ k. sends_only (met_kept memory k) (outcome_messages (status_kept memory k) tx (Node (R rm)))

    abbrev commit_by : Status → LeaderMemory → Effect LeaderMemory
    commit_by status known = record {
      answer = Stands (status_standing status);
      fact = None;
      sends = if is_final status then outcome_messages status tx Managers else to Managers (kinds.Prepare tx) ∷ [];
      memory = known;
    }

    -- a call to commit does the same with what is kept
    pub kept_commit : (memory : LeaderMemory)
        → on_commit_call config ballots (K memory) tx ≡ with_kept (on_commit_call config ballots memory tx)
    kept_commit memory =
        (λ k. if is_inside config tx then commit_by (status_of config.acceptors ballots (met_kept memory k) tx) (met_kept memory k)
        else answer_only (K memory) (Refused BadTx))
        ∙ ap (λ (s : Status). if is_inside config tx then commit_by s (K (with_met tx memory)) else answer_only (K memory) (Refused BadTx))
        (status_kept (with_met tx memory))
        ∙ by_test (is_inside config tx) (status_of config.acceptors ballots (with_met tx memory) tx)
      where
        by_test : (t : Bool) (s : Status)
            → (if t then commit_by s (K (with_met tx memory)) else answer_only (K memory) (Refused BadTx))
            ≡ with_kept (if t then commit_by s (with_met tx memory) else answer_only memory (Refused BadTx))
        by_test true s = refl
        by_test false s = refl

    -- so does a call of a status
    pub kept_status : (memory : LeaderMemory)
        → on_status_call config ballots (K memory) tx ≡ with_kept (on_status_call config ballots memory tx)
    kept_status memory = λ k.
        answer_only (K memory) (if is_inside config tx then Stands (status_standing (status_kept memory k)) else Refused BadTx)

    module _ (l : ℕ) where
      abbrev b : ℕ
      b = next_of config.leaders l (ballots tx)

      -- by the status, and the memory before, with the transaction met and with the ballot begun
      abbrev timeout_by : (outside final left : Bool) → Status → (before met begun : LeaderMemory) → Effect LeaderMemory
      timeout_by outside final left status before met begun =
          if outside then answer_only before (Refused BadTx)
          else if final then sends_only met (outcome_messages status tx Managers)
          else if left then stores begun (stored.Ballot tx b) (phase_1a config tx b)
          else answer_only before (Refused NoBallot)

      kept_by : (outside final left : Bool) (status : Status) (before met begun : LeaderMemory)
          → timeout_by outside final left status (K before) (K met) (K begun)
          ≡ with_kept (timeout_by outside final left status before met begun)
      kept_by true final left status before met begun = refl
      kept_by false true left status before met begun = refl
      kept_by false false true status before met begun = refl
      kept_by false false false status before met begun = refl

      -- and a timeout
      pub kept_timeout : (memory : LeaderMemory)
          → on_leader_timeout config l ballots (K memory) tx ≡ with_kept (on_leader_timeout config l ballots memory tx)
      kept_timeout memory =
          (λ k. timeout_by (not (is_inside config tx)) (is_final (status_kept memory k)) (nat_lt b (2 ^ 32)) (status_kept memory k)
          (K memory) (met_kept memory k) (with_begun tx b (met_kept memory k)))
          ∙ ap (timeout_by (not (is_inside config tx)) (is_final (status_of config.acceptors ballots memory tx)) (nat_lt b (2 ^ 32))
          (status_of config.acceptors ballots memory tx) (K memory) (K (with_met tx memory))) (begun_kept (with_met tx memory) b)
          ∙ kept_by (not (is_inside config tx)) (is_final (status_of config.acceptors ballots memory tx)) (nat_lt b (2 ^ 32))
          (status_of config.acceptors ballots memory tx) memory (with_met tx memory) (with_begun tx b (with_met tx memory))

-- ---- inputs

module _ (config : Config) (floor : Option Place) (ballots : StoredBallots) (memory : LeaderMemory) where
  abbrev Kept : Effect LeaderMemory → Effect LeaderMemory
  Kept e = record { answer = e.answer; fact = e.fact; sends = e.sends; memory = kept_leader floor e.memory }

  -- and a message
  pub message_forgets : (m : Kind) → is_below floor (message_tx m) ≡ false
      → on_leader_message config ballots (kept_leader floor memory) m ≡ Kept (on_leader_message config ballots memory m)
  message_forgets (kinds.P1b tx i b report a) above =
      kept_1b floor tx above config ballots b a (record { instance = i; report = report } ∷ []) memory
  message_forgets (kinds.B1b tx b a reports) above = kept_1b floor tx above config ballots b a reports memory
  message_forgets (kinds.P2b tx i b v a) above =
      kept_2b floor tx above config ballots a (record { instance = i; ballot = b; vote = v } ∷ []) memory
  message_forgets (kinds.B2b tx a accepts) above = kept_2b floor tx above config ballots a accepts memory
  message_forgets (kinds.Ask tx rm) above = kept_ask floor tx above config ballots rm memory
  message_forgets m above = refl
