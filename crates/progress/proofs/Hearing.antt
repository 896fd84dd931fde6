-- What a leader makes of phase 1b in its current ballot: it counts it, and proposes what a majority has reported.
use Rattle.std.proofs.Common.{◌≡◌, inl, inr, ◌∙◌, ℕ, ◌<◌, Bool, true, false, not, ◌==◌, ◌&&◌, ◌||◌, if◌then◌else◌, List, [], ◌∷◌, ◌++◌}
use Rattle.std.proofs.Common.{Some, None, map, filter_map, refl, sym, ap, subst, arith}
use Rattle.std.specs.List.{list_any, range_with_len}
use Rattle.std.proofs.lemmas.Bool.{cond_both, cond-true, cond-false, and_from, and_parts, or_cases, or_from, eqb-true, eq-eqb, cases_Bool}
use Rattle.std.proofs.lemmas.Bool.{not_from_true, not_from_false}
use Rattle.xid.specs.Transactions.{TxParts}
use Rattle.xid.specs.declared.transaction.Vote.{Vote}
use Rattle.wire.specs.declared.items.InstanceReport.{InstanceReport}
use Rattle.wire.specs.declared.message.Kind.{Kind}
use Rattle.wire.specs.declared.message.Kind.TheVariants.{P1b, P2a}
use Rattle.ballot.specs.Choice.{Report}
use Rattle.ballot.specs.Greatest.{IsIn}
use Rattle.safety.specs.Vocabulary.{A, NodeId, Outgoing, Acceptors}
use Rattle.protocol.specs.Effects.{Config, Effect, no_effect, to}
use Rattle.protocol.specs.Facts.{instance_eq}
use Rattle.protocol.specs.LeaderMemory.{LeaderMemory, StoredBallots, Begun, is_report_of, has_reported, is_reported, value_to_propose}
use Rattle.protocol.specs.LeaderMemory.{is_proposed, is_counted, with_heard, with_all_heard, status_of}
use Rattle.protocol.specs.Leaders.{is_final, is_current, proposal_of, after_reports, on_1b}
use Rattle.protocol.specs.PaperItems.{report_messages}
use Rattle.protocol.proofs.Lists.{any_found, found_any, IsIn-before, IsIn-after, IsIn-map, filter_map_gives}
use Rattle.protocol.proofs.Same.{instance_eq-is, instance_eq-same}
use Rattle.safety.proofs.Leader.Memory.{hears_no_ballot}
use Rattle.progress.proofs.Mail.{Letter, letters, letter_among}
use Rattle.progress.proofs.Accepting.{number_among}

-- ---- what is heard stays heard, and each message counts

pub hears_no_proposal : (messages : List Kind) (memory : LeaderMemory) → (with_all_heard messages memory).proposed ≡ memory.proposed
hears_no_proposal [] memory = refl
hears_no_proposal (m ∷ rest) memory =
    hears_no_proposal rest (if is_counted memory.heard m then memory else with_heard m memory)
    ∙ cond_both (is_counted memory.heard m) memory (with_heard m memory) (λ (x : LeaderMemory). x.proposed ≡ memory.proposed)
    (λ e. refl) (λ e. refl)

stays_heard : (messages : List Kind) (memory : LeaderMemory) (m : Kind) → IsIn memory.heard m
    → IsIn (with_all_heard messages memory).heard m
stays_heard [] memory m h = h
stays_heard (x ∷ rest) memory m h =
    stays_heard rest (if is_counted memory.heard x then memory else with_heard x memory) m
    (cond_both (is_counted memory.heard x) memory (with_heard x memory) (λ (y : LeaderMemory). IsIn y.heard m) (λ e. h) (λ e. inr h))

-- what some message heard passes
pub passes_still : (p : Kind → Bool) (messages : List Kind) (memory : LeaderMemory) → list_any p memory.heard ≡ true
    → list_any p (with_all_heard messages memory).heard ≡ true
passes_still p messages memory h =
    let at = any_found p memory.heard h in
    found_any p (with_all_heard messages memory).heard at.element (stays_heard messages memory at.element at.among) at.passes

module _ (p : Kind → Bool) (m : Kind) (passes : p m ≡ true)
    (counts : (heard : List Kind) → is_counted heard m ≡ true → list_any p heard ≡ true) where
  next_passes : (memory : LeaderMemory) → list_any p (if is_counted memory.heard m then memory else with_heard m memory).heard ≡ true
  next_passes memory = cond_both (is_counted memory.heard m) memory (with_heard m memory)
      (λ (x : LeaderMemory). list_any p x.heard ≡ true)
      (λ e. counts memory.heard e)
      (λ e. found_any p (m ∷ memory.heard) m (inl refl) passes)

  pub hears : (messages : List Kind) (memory : LeaderMemory) → IsIn messages m
      → list_any p (with_all_heard messages memory).heard ≡ true
  hears [] memory h = absurd h
  hears (x ∷ rest) memory (inl e) =
      passes_still p rest (if is_counted memory.heard x then memory else with_heard x memory)
      (subst (λ (y : Kind). list_any p (if is_counted memory.heard y then memory else with_heard y memory).heard ≡ true) (sym e)
      (next_passes memory))
  hears (x ∷ rest) memory (inr h) = hears rest (if is_counted memory.heard x then memory else with_heard x memory) h

-- ---- proposals are in the mail

-- a proposal of an instance is in the mail to each acceptor
abbrev pub IsSentToAll : Config → TxParts → (b : ℕ) → List Letter → (i : ℕ) → Type 0
IsSentToAll config tx b post i =
    (v : Vote) × ((a : ℕ) → a < config.acceptors → IsIn post (record { receiver = A a; message = P2a tx i b v }))

-- what was proposed in the ballot was sent
abbrev pub AreSentToAll : Config → TxParts → (b : ℕ) → List Letter → List Kind → Type 0
AreSentToAll config tx b post proposed = (i : ℕ) → is_proposed proposed tx i b ≡ true → IsSentToAll config tx b post i

module _ (config : Config) (tx : TxParts) (b : ℕ) where
  pub sent_stays : (post more : List Letter) (i : ℕ) → IsSentToAll config tx b post i → IsSentToAll config tx b (post ++ more) i
  sent_stays post more i sent =
      (sent.0, λ a lt. IsIn-before post more (record { receiver = A a; message = P2a tx i b sent.0 }) (sent.1 a lt))

  sent_by : (post : List Letter) (proposed proposals : List Kind) → AreSentToAll config tx b post proposed
      → ((m : Kind) → IsIn proposals m → (a : ℕ) → a < config.acceptors → IsIn post (record { receiver = A a; message = m }))
      → AreSentToAll config tx b post (proposals ++ proposed)
  sent_by post proposed [] old all i h = old i h
  sent_by post proposed (P2a other j c v ∷ proposals) old all i h =
      elim (or_cases ((b == c) && instance_eq tx i other j) (is_proposed (proposals ++ proposed) tx i b) h) [
        | inl here ↦
            let parts = and_parts (b == c) (instance_eq tx i other j) here in
            let same = instance_eq-is tx other i j parts.1 in
            let eb : b ≡ c = eqb-true b c parts.0 in
            let is : P2a other j c v ≡ P2a tx i b v = λ k. P2a (sym same.0 k) (sym same.1 k) (sym eb k) v in
            (v, λ a lt. subst (λ (m : Kind). IsIn post (record { receiver = A a; message = m })) is (all (P2a other j c v) (inl refl) a lt))
        | inr there ↦ sent_by post proposed proposals old (λ m k. all m (inr k)) i there
      ]
  sent_by post proposed (m ∷ proposals) old all i h = sent_by post proposed proposals old (λ n k. all n (inr k)) i h

  -- proposals that go out now
  pub sent_now : (post : List Letter) (proposed proposals : List Kind) → AreSentToAll config tx b post proposed
      → AreSentToAll config tx b (post ++ letters config (map (to Acceptors) proposals)) (proposals ++ proposed)
  sent_now post proposed proposals old =
      let more = letters config (map (to Acceptors) proposals) in
      sent_by (post ++ more) proposed proposals (λ i h. sent_stays post more i (old i h))
      (λ m h a lt. IsIn-after post more (record { receiver = A a; message = m })
      (letter_among config (map (to Acceptors) proposals) (to Acceptors m) (A a)
      (IsIn-map {Y = Outgoing} (to Acceptors) proposals m h)
      (IsIn-map {Y = NodeId} A (range_with_len 0 config.acceptors) a (number_among 0 config.acceptors a (omega arith) (omega arith)))))

-- ---- a report heard

-- what the leader has after it
pub record IsHearing (config : Config) (tx : TxParts) (b a i : ℕ) (memory : LeaderMemory) (e : Effect LeaderMemory) : Type 0 where
  pub silent : e.fact ≡ None
  pub current : is_current e.memory tx b ≡ true
  pub reported : has_reported e.memory.heard tx i b a ≡ true
  pub still : (j from : ℕ) → has_reported memory.heard tx j b from ≡ true → has_reported e.memory.heard tx j b from ≡ true
  pub sent : (post : List Letter) → AreSentToAll config tx b post memory.proposed
      → AreSentToAll config tx b (post ++ letters config e.sends) e.memory.proposed
  pub proposes : is_reported config.acceptors e.memory.heard tx i b ≡ true → is_proposed e.memory.proposed tx i b ≡ true
  pub proposed : (j : ℕ) → is_proposed memory.proposed tx j b ≡ true → is_proposed e.memory.proposed tx j b ≡ true

module _ (config : Config) (stored : StoredBallots) (memory : LeaderMemory) (tx : TxParts) (b a : ℕ) (reports : List InstanceReport)
    (is : is_current memory tx b ≡ true) (undecided : is_final (status_of config.acceptors stored memory tx) ≡ false) (i : ℕ)
    (among : IsIn (map (λ item. item.instance) reports) i) where
  abbrev now : LeaderMemory
  now = with_all_heard (report_messages tx b a reports) memory

  abbrev instances : List ℕ
  instances = map (λ (item : InstanceReport). item.instance) reports

  abbrev proposals : List Kind
  proposals = filter_map (proposal_of config now tx b) instances

  reported_among : (items : List InstanceReport) → IsIn (map (λ (item : InstanceReport). item.instance) items) i
      → (report : Report) × IsIn (report_messages tx b a items) (P1b tx i b report a)
  reported_among [] h = absurd h
  reported_among (item ∷ items) (inl e) =
      (item.report, inl (ap (λ (j : ℕ). P1b tx j b item.report a) e))
  reported_among (item ∷ items) (inr h) = let rest = reported_among items h in (rest.0, inr rest.1)

  reported_now : has_reported now.heard tx i b a ≡ true
  reported_now =
      let at = reported_among reports among in
      hears (is_report_of tx i b a) (P1b tx i b at.0 a)
      (and_from ((a == a) && (b == b)) (instance_eq tx i tx i) (and_from (a == a) (b == b) (eq-eqb a a refl) (eq-eqb b b refl))
      (instance_eq-same tx i)) (λ heard h. h) (report_messages tx b a reports) memory at.1

  proposed_now : (v : Vote) → IsIn proposals (P2a tx i b v) → is_proposed (proposals ++ memory.proposed) tx i b ≡ true
  proposed_now v h =
      found_any _ (proposals ++ memory.proposed) (P2a tx i b v) (IsIn-before proposals memory.proposed (P2a tx i b v) h)
      (and_from (b == b) (instance_eq tx i tx i) (eq-eqb b b refl) (instance_eq-same tx i))

  still_proposed : (j : ℕ) → is_proposed memory.proposed tx j b ≡ true → is_proposed (proposals ++ memory.proposed) tx j b ≡ true
  still_proposed j h =
      let at = any_found {X = Kind} _ memory.proposed h in
      found_any _ (proposals ++ memory.proposed) at.element (IsIn-after proposals memory.proposed at.element at.among) at.passes

  proposes_now : is_reported config.acceptors now.heard tx i b ≡ true → is_proposed (proposals ++ memory.proposed) tx i b ≡ true
  proposes_now h = elim (cases_Bool (is_proposed memory.proposed tx i b)) [
    | inl before ↦ still_proposed i before
    | inr new ↦
        let none : is_proposed now.proposed tx i b ≡ false =
        ap (λ (ms : List Kind). is_proposed ms tx i b) (hears_no_proposal (report_messages tx b a reports) memory) ∙ new in
        let v = value_to_propose now.heard tx i b in
        let given : proposal_of config now tx b i ≡ Some (P2a tx i b v) =
        cond-true (is_reported config.acceptors now.heard tx i b && not (is_proposed now.proposed tx i b)) (Some (P2a tx i b v)) None
        (and_from (is_reported config.acceptors now.heard tx i b) (not (is_proposed now.proposed tx i b)) h
        (not_from_false (is_proposed now.proposed tx i b) none)) in
        proposed_now v (filter_map_gives (proposal_of config now tx b) instances i (P2a tx i b v) among given)
  ]

  pub heard_report : IsHearing config tx b a i memory (on_1b config stored memory tx b a reports)
  heard_report =
      let final = is_final (status_of config.acceptors stored memory tx) in
      let unproposed : now.proposed ≡ memory.proposed = hears_no_proposal (report_messages tx b a reports) memory in
      subst (λ (e : Effect LeaderMemory). IsHearing config tx b a i memory e)
      (sym (cond-false (final || not (is_current memory tx b)) (no_effect memory) (after_reports config now tx b instances)
      (or_from final (not (is_current memory tx b)) undecided (not_from_true (is_current memory tx b) is))))
      (record {
        silent = refl;
        current = subst (λ (begun : List Begun). is_current (record memory { begun = begun }) tx b ≡ true)
            (sym (hears_no_ballot (report_messages tx b a reports) memory)) is;
        reported = reported_now;
        still = λ j from h. passes_still (is_report_of tx j b from) (report_messages tx b a reports) memory h;
        sent = λ post old. subst (λ (ms : List Kind). AreSentToAll config tx b (post ++ letters config (map (to Acceptors) proposals))
            (proposals ++ ms)) (sym unproposed) (sent_now config tx b post memory.proposed proposals old);
        proposes = λ h. subst (λ (ms : List Kind). is_proposed (proposals ++ ms) tx i b ≡ true) (sym unproposed) (proposes_now h);
        proposed = λ j h. subst (λ (ms : List Kind). is_proposed (proposals ++ ms) tx j b ≡ true) (sym unproposed) (still_proposed j h);
      })
