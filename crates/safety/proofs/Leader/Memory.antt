-- A leader's invariant is kept: by what it hears, proposes and begins, and while others send.
-- Needed by Leader.Effects; crates progress and forgetting.
use Rattle.std.proofs.Common.{◌≡◌, ◌⊎◌, inl, inr, ℕ, ◌<◌, ◌≤◌, max, Bool, true, false, not, ◌&&◌, ◌==◌, if◌then◌else◌, List, [], ◌∷◌, ◌++◌}
use Rattle.std.proofs.Common.{Option, Some, None, filter, filter_map, find, option_map, refl, sym, ap, ◌∙◌, subst, arith}
use Rattle.std.specs.List.{list_any, cons_option}
use Rattle.std.proofs.lemmas.Bool.{both_ways, and_from, and_parts, or_cases, or_right, or_left, eq-eqb, cases_Bool, cond_both, cond-true}
use Rattle.std.proofs.lemmas.Bool.{cond-false}
use Rattle.std.proofs.lemmas.List.Elements.{filter_map-append}
use Rattle.xid.specs.Transactions.{TxParts, tx_eq}
use Rattle.xid.specs.declared.transaction.Vote.{Vote}
use Rattle.wire.specs.declared.message.Kind.{Kind}
use Rattle.wire.specs.declared.message.Kind.TheVariants.{P1b, P2a}
use Rattle.wire.specs.Messages.{message_tx}
use Rattle.ballot.specs.Ballots.{IsOwned}
use Rattle.ballot.specs.Choice.{Report}
use Rattle.stable_record.specs.declared.fact.FactKind.TheVariants as stored
use Rattle.ballot.specs.Greatest.{greatest, IsIn}
use Rattle.protocol.specs.Basics.{Fact}
use Rattle.protocol.specs.Facts.{instance_eq, ballot_begun, last_ballot}
use Rattle.protocol.specs.Effects.{Config}
use Rattle.protocol.specs.LeaderMemory.{LeaderMemory, Begun, nothing_heard, current, has_reported, is_proposed, with_met, with_heard}
use Rattle.protocol.specs.LeaderMemory.{with_begun, with_proposed, with_all_heard, is_counted}
use Rattle.safety.proofs.Facts.{begun_below}
use Rattle.protocol.proofs.Lists.{any_found, found_any, IsIn-before, IsIn-after, IsIn-last, filter_kept}
use Rattle.safety.proofs.Leader.Invariant.{IsBegunBallot, LeaderInvariant, AreProposalsBacked}
use Rattle.xid.proofs.Deciding.{tx_self, tx_decides}
use Rattle.protocol.proofs.Same.{instance_eq-is, instance_eq-same}
use Rattle.safety.proofs.Leader.Heard.{reported_from}

-- ---- the greatest ballot stored

-- the greatest of some numbers and others
pub greatest-append : (xs ys : List ℕ) → greatest (xs ++ ys) ≡ max (greatest xs) (greatest ys)
greatest-append [] ys = omega arith
greatest-append (x ∷ xs) ys = let rest = greatest-append xs ys in omega arith

last_ballot-push : (facts : List Fact) (fact : Fact) (tx : TxParts)
    → last_ballot (facts ++ fact ∷ []) tx ≡ max (last_ballot facts tx) (greatest (cons_option (ballot_begun tx fact) []))
last_ballot-push facts fact tx =
    ap greatest (filter_map-append (ballot_begun tx) facts (fact ∷ []))
    ∙ greatest-append (filter_map (ballot_begun tx) facts) (filter_map (ballot_begun tx) (fact ∷ []))

-- the last ballot after a greater one is that one
pub last_ballot-of_new : (facts : List Fact) (tx : TxParts) (b : ℕ) → last_ballot facts tx < b
    → last_ballot (facts ++ stored.Ballot tx b ∷ []) tx ≡ b
last_ballot-of_new facts tx b up =
    let same : ballot_begun tx (stored.Ballot tx b) ≡ Some b = cond-true (tx_eq tx tx) (Some b) None (tx_self tx) in
    let step : last_ballot (facts ++ stored.Ballot tx b ∷ []) tx ≡ max (last_ballot facts tx) (greatest (b ∷ [])) =
    last_ballot-push facts (stored.Ballot tx b) tx ∙ ap (λ (o : Option ℕ). max (last_ballot facts tx) (greatest (cons_option o []))) same in
    omega arith

last_ballot-of_other : (facts : List Fact) (tx other : TxParts) (b : ℕ) → tx_eq tx other ≡ false
    → last_ballot (facts ++ stored.Ballot other b ∷ []) tx ≡ last_ballot facts tx
last_ballot-of_other facts tx other b apart =
    let same : ballot_begun tx (stored.Ballot other b) ≡ None = cond-false (tx_eq tx other) (Some b) None apart in
    let step : last_ballot (facts ++ stored.Ballot other b ∷ []) tx ≡ max (last_ballot facts tx) (greatest []) =
    last_ballot-push facts (stored.Ballot other b) tx
    ∙ ap (λ (o : Option ℕ). max (last_ballot facts tx) (greatest (cons_option o []))) same in
    omega arith

module _ (leaders l : ℕ) (facts : List Fact) (Sent : Kind → Type 0) where
  -- what was ever proposed in a leader's own ballots is at most the greatest that it stored, also once it has restarted
  pub proposed_below : (tx : TxParts) (i b : ℕ) (v : Vote)
      → AreProposalsBacked leaders l facts Sent → Sent (P2a tx i b v) → IsOwned leaders l b → b ≤ last_ballot facts tx
  proposed_below tx i b v backed sent owned = begun_below facts tx b (backed.backed tx i b v sent owned)

-- ---- at the start, and while others send

module _ (config : Config) (l : ℕ) (facts : List Fact) where
  -- right after a restart, and while the node is down
  pub kept_at_start : (Sent : Kind → Type 0)
      → LeaderInvariant config l facts nothing_heard Sent
  kept_at_start Sent = record {
    heard = λ m h. absurd h;
    inside = λ tx i b report a h. absurd h;
    once = λ tx i b x y a h k. absurd h;
    begun = λ tx b e. absurd (cc (e));
    noted = λ tx i b v e h. absurd (cc (e));
  }

  -- more is sent, and nothing more is proposed in this leader's ballots
  pub kept_while : (memory : LeaderMemory) (Sent Now : Kind → Type 0)
      → ((m : Kind) → Sent m → Now m)
      → ((tx : TxParts) (i b : ℕ) (v : Vote) → Now (P2a tx i b v) → IsOwned config.leaders l b → Sent (P2a tx i b v))
      → LeaderInvariant config l facts memory Sent → LeaderInvariant config l facts memory Now
  kept_while memory Sent Now more no_more kept = record {
    heard = λ m h. more m (kept.heard m h);
    inside = kept.inside;
    once = kept.once;
    begun = kept.begun;
    noted = λ tx i b v e h. kept.noted tx i b v e (no_more tx i b v h (kept.begun tx b e).owned);
  }

module _ (config : Config) (l : ℕ) (facts : List Fact) (Sent : Kind → Type 0) where
  pub kept_meets : (tx : TxParts) (memory : LeaderMemory) → LeaderInvariant config l facts memory Sent
      → LeaderInvariant config l facts (with_met tx memory) Sent
  kept_meets tx memory kept =
      cond_both (list_any (tx_eq tx) memory.met) memory (record memory { met = tx ∷ memory.met })
      (λ (x : LeaderMemory). LeaderInvariant config l facts x Sent)
      (λ e. kept)
      (λ e. record { heard = kept.heard; inside = kept.inside; once = kept.once; begun = kept.begun; noted = kept.noted })

  -- one more message, sent, and if it is a report the first of an acceptor of the cluster
  pub kept_hears : (message : Kind) (memory : LeaderMemory) → Sent message
      → ((tx : TxParts) (i b : ℕ) (report : Report) (a : ℕ) → message ≡ P1b tx i b report a → (a < config.acceptors)
      × (has_reported memory.heard tx i b a ≡ false))
      → LeaderInvariant config l facts memory Sent → LeaderInvariant config l facts (with_heard message memory) Sent
  kept_hears message memory sent new kept = record {
    heard = λ m h. elim h [ inl e ↦ subst Sent e sent | inr old ↦ kept.heard m old ];
    inside = λ tx i b report a h. elim h [ inl e ↦ (new tx i b report a e).0 | inr old ↦ kept.inside tx i b report a old ];
    once = λ tx i b x y a h k. elim h [
      | inl e ↦ elim k [
        | inl f ↦ let both : P1b tx i b x a ≡ P1b tx i b y a = sym e ∙ f in cc
        | inr f ↦ absurd (both_ways (has_reported memory.heard tx i b a) (new tx i b x a e).1 (reported_from memory.heard tx i b a y f))
      ]
      | inr e ↦ elim k [
        | inl f ↦ absurd (both_ways (has_reported memory.heard tx i b a) (new tx i b y a f).1 (reported_from memory.heard tx i b a x e))
        | inr f ↦ kept.once tx i b x y a e f
      ]
    ];
    begun = kept.begun;
    noted = kept.noted;
  }

  -- messages that were sent, of acceptors of the cluster
  pub kept_hears_all : (messages : List Kind) (memory : LeaderMemory) → ((m : Kind) → IsIn messages m → Sent m)
      → ((tx : TxParts) (i b : ℕ) (report : Report) (a : ℕ) → IsIn messages (P1b tx i b report a) → a < config.acceptors)
      → LeaderInvariant config l facts memory Sent → LeaderInvariant config l facts (with_all_heard messages memory) Sent
  kept_hears_all [] memory sent few kept = kept
  kept_hears_all (m ∷ rest) memory sent few kept =
      kept_hears_all rest (if is_counted memory.heard m then memory else with_heard m memory) (λ k h. sent k (inr h))
      (λ tx i b report a h. few tx i b report a (inr h))
      (cond_both (is_counted memory.heard m) memory (with_heard m memory) (λ (x : LeaderMemory). LeaderInvariant config l facts x Sent)
      (λ e. kept)
      (λ e. kept_hears m memory (sent m (inl refl))
      (λ tx i b report a f. (few tx i b report a (inl f), ap (is_counted memory.heard) (sym f) ∙ e)) kept))

  -- proposals, noted
  pub kept_proposes : (proposals : List Kind) (memory : LeaderMemory) (Now : Kind → Type 0)
      → ((m : Kind) → Sent m → Now m) → ((m : Kind) → Now m → Sent m ⊎ IsIn proposals m)
      → LeaderInvariant config l facts memory Sent → LeaderInvariant config l facts (with_proposed proposals memory) Now
  kept_proposes proposals memory Now more only kept = record {
    heard = λ m h. more m (kept.heard m h);
    inside = kept.inside;
    once = kept.once;
    begun = kept.begun;
    noted = λ tx i b v e h. elim (only (P2a tx i b v) h) [
      | inl old ↦
          let at = any_found {X = Kind} _ memory.proposed (kept.noted tx i b v e old) in
          found_any _ (proposals ++ memory.proposed) at.element (IsIn-after proposals memory.proposed at.element at.among) at.passes
      | inr new ↦
          found_any _ (proposals ++ memory.proposed) (P2a tx i b v) (IsIn-before proposals memory.proposed (P2a tx i b v) new)
          (and_from (b == b) (instance_eq tx i tx i) (eq-eqb b b refl) (instance_eq-same tx i))
    ];
  }

-- to hear messages changes no ballot
pub hears_no_ballot : (messages : List Kind) (memory : LeaderMemory) → (with_all_heard messages memory).begun ≡ memory.begun
hears_no_ballot [] memory = refl
hears_no_ballot (m ∷ rest) memory =
    hears_no_ballot rest (if is_counted memory.heard m then memory else with_heard m memory)
    ∙ cond_both (is_counted memory.heard m) memory (with_heard m memory) (λ (x : LeaderMemory). x.begun ≡ memory.begun) (λ e. refl)
    (λ e. refl)

-- ---- a ballot begun

-- what is kept of the proposals when a ballot of tx is begun
abbrev is_of_other : TxParts → Kind → Bool
is_of_other tx message = not (tx_eq tx (message_tx message))

of_other : (tx ux : TxParts) → tx_eq ux tx ≡ false → not (tx_eq tx ux) ≡ true
of_other tx ux apart = elim (cases_Bool (tx_eq tx ux)) [
  | inl e ↦ absurd (both_ways (tx_eq ux tx) apart (subst (λ (y : TxParts). tx_eq ux y ≡ true) (sym ((tx_decides tx ux).0 e)) (tx_self ux)))
  | inr e ↦ ap not e
]

still_proposed : (tx ux : TxParts) (i b : ℕ) → tx_eq ux tx ≡ false → (proposed : List Kind)
    → is_proposed proposed ux i b ≡ true → is_proposed (filter (is_of_other tx) proposed) ux i b ≡ true
still_proposed tx ux i b apart [] h = absurd (cc (h))
still_proposed tx ux i b apart (P2a other j d v ∷ proposed) h =
    cond_both (not (tx_eq tx other)) (P2a other j d v ∷ filter (is_of_other tx) proposed) (filter (is_of_other tx) proposed)
    (λ (ms : List Kind). is_proposed ms ux i b ≡ true)
    (λ e. elim (or_cases ((b == d) && instance_eq ux i other j) (is_proposed proposed ux i b) h) [
      | inl here ↦ or_left ((b == d) && instance_eq ux i other j) (is_proposed (filter (is_of_other tx) proposed) ux i b) here
      | inr there ↦ or_right ((b == d) && instance_eq ux i other j) (is_proposed (filter (is_of_other tx) proposed) ux i b)
          (still_proposed tx ux i b apart proposed there)
    ])
    (λ e. elim (or_cases ((b == d) && instance_eq ux i other j) (is_proposed proposed ux i b) h) [
      | inl here ↦
          let same = (instance_eq-is ux other i j (and_parts (b == d) (instance_eq ux i other j) here).1).0 in
          absurd (both_ways (not (tx_eq tx other)) e (subst (λ (y : TxParts). not (tx_eq tx y) ≡ true) same (of_other tx ux apart)))
      | inr there ↦ still_proposed tx ux i b apart proposed there
    ])
still_proposed tx ux i b apart (message ∷ proposed) h =
    cond_both (is_of_other tx message) (message ∷ filter (is_of_other tx) proposed) (filter (is_of_other tx) proposed)
    (λ (ms : List Kind). is_proposed ms ux i b ≡ true)
    (λ e. still_proposed tx ux i b apart proposed h)
    (λ e. still_proposed tx ux i b apart proposed h)

-- the ballot of what was found
abbrev ballot_of : Option Begun → Option ℕ
ballot_of found = option_map (λ (begun : Begun). begun.ballot) found

-- the ballot that was begun is the current one
pub current_begun : (tx : TxParts) (b : ℕ) (memory : LeaderMemory) → current (with_begun tx b memory) tx ≡ Some b
current_begun tx b memory = ap ballot_of
    (cond-true (tx_eq tx tx) (Some (record { tx = tx; ballot = b })) (find (λ (begun : Begun). tx_eq tx begun.tx) memory.begun)
    (tx_self tx))

module _ (config : Config) (l : ℕ) (facts : List Fact) (Sent : Kind → Type 0) (tx : TxParts) (b : ℕ) (memory : LeaderMemory)
    (kept : LeaderInvariant config l facts memory Sent) (owned : IsOwned config.leaders l b) (up : last_ballot facts tx < b) where
  begun_new : (ux : TxParts) → ux ≡ tx → IsBegunBallot config.leaders l (facts ++ stored.Ballot tx b ∷ []) ux b
  begun_new ux e = subst (λ (y : TxParts). IsBegunBallot config.leaders l (facts ++ stored.Ballot tx b ∷ []) y b) (sym e)
      (record { owned = owned; begun = IsIn-last facts (stored.Ballot tx b); greatest = last_ballot-of_new facts tx b up })

  begun_old : (ux : TxParts) (c : ℕ) → tx_eq ux tx ≡ false → IsBegunBallot config.leaders l facts ux c
      → IsBegunBallot config.leaders l (facts ++ stored.Ballot tx b ∷ []) ux c
  begun_old ux c apart was = record {
    owned = was.owned;
    begun = IsIn-before facts (stored.Ballot tx b ∷ []) (stored.Ballot ux c) was.begun;
    greatest = last_ballot-of_other facts ux tx b apart ∙ was.greatest;
  }

  -- a ballot of its own begun and stored, greater than every one before
  pub kept_begins : AreProposalsBacked config.leaders l facts Sent → LeaderInvariant config l (facts ++ stored.Ballot tx b ∷ [])
      (with_begun tx b memory) Sent
  kept_begins backed = record {
    heard = λ m h. kept.heard m (filter_kept _ memory.heard m h).0;
    inside = λ ux i c report a h. kept.inside ux i c report a (filter_kept _ memory.heard (P1b ux i c report a) h).0;
    once = λ ux i c x y a h k. kept.once ux i c x y a (filter_kept _ memory.heard (P1b ux i c x a) h).0
        (filter_kept _ memory.heard (P1b ux i c y a) k).0;
    begun = λ ux c. cond_both (tx_eq ux tx) (Some (record { tx = tx; ballot = b }))
        (find (λ (begun : Begun). tx_eq ux begun.tx) memory.begun)
        (λ (o : Option Begun). ballot_of o ≡ Some c → IsBegunBallot config.leaders l (facts ++ stored.Ballot tx b ∷ []) ux c)
        (λ same e. let eb : b ≡ c = cc (e) in subst (IsBegunBallot config.leaders l (facts ++ stored.Ballot tx b ∷ []) ux) eb
        (begun_new ux ((tx_decides ux tx).0 same)))
        (λ apart e. begun_old ux c apart (kept.begun ux c e));
    noted = λ ux i c v. cond_both (tx_eq ux tx) (Some (record { tx = tx; ballot = b }))
        (find (λ (begun : Begun). tx_eq ux begun.tx) memory.begun)
        (λ (o : Option Begun). ballot_of o ≡ Some c → Sent (P2a ux i c v) → is_proposed (with_begun tx b memory).proposed ux i c ≡ true)
        (λ same e h.
        let eb : b ≡ c = cc (e) in
        let et = (tx_decides ux tx).0 same in
        let sent : Sent (P2a ux i b v) = subst (λ (k : ℕ). Sent (P2a ux i k v)) (sym eb) h in
        let low : b ≤ last_ballot facts ux = proposed_below config.leaders l facts Sent ux i b v backed sent owned in
        let at : last_ballot facts ux ≡ last_ballot facts tx = ap (last_ballot facts) et in
        absurd (omega arith))
        (λ apart e h. still_proposed tx ux i c apart memory.proposed (kept.noted ux i c v e h));
  }
