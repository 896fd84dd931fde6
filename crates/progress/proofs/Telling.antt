-- What a leader makes of phase 2b: once a majority has told of each instance in one ballot, it has the outcome.
use Rattle.std.proofs.Common.{◌≡◌, inl, inr, ◌∙◌, ℕ, zero, suc, ◌+◌, ◌*◌, ◌<◌, ◌≤◌, Bool, true, false, ◌==◌, ◌&&◌}
use Rattle.std.proofs.Common.{if◌then◌else◌, List, ◌∷◌, Some, None, filter_map, refl, sym, ap, subst, arith}
use Rattle.std.specs.List.{list_any, list_all}
use Rattle.std.proofs.lemmas.Bool.{cond_both, cond-true, cond-false, both_ways, and_from, and_parts}
use Rattle.std.proofs.lemmas.Bool.{eqb-true, eq-eqb, cases_Bool, ltb-true, lt-ltb}
use Rattle.xid.specs.Transactions.{TxParts, participants, tx_eq}
use Rattle.xid.specs.declared.transaction.Vote.{Vote}
use Rattle.xid.specs.declared.transaction.Vote.TheVariants as votes
use Rattle.wire.specs.declared.items.InstanceAccept.{InstanceAccept}
use Rattle.wire.specs.declared.message.Kind.{Kind}
use Rattle.wire.specs.declared.message.Kind.TheVariants.{P2b}
use Rattle.ballot.specs.Greatest.{IsIn}
use Rattle.ballot.specs.Majority.{count, is_majority}
use Rattle.protocol.specs.declared.states.Status.TheVariants as statuses
use Rattle.safety.specs.Vocabulary.{Managers}
use Rattle.protocol.specs.Effects.{Config, Effect, no_effect, sends_only}
use Rattle.protocol.specs.Facts.{instance_eq, vote_eq}
use Rattle.protocol.specs.LeaderMemory.{LeaderMemory, StoredBallots, is_accept_of, ballot_told, is_decided, is_known, with_met}
use Rattle.protocol.specs.LeaderMemory.{with_all_heard, status_of}
use Rattle.protocol.specs.Leaders.{is_final, outcome_messages, on_2b}
use Rattle.protocol.specs.PaperItems.{accept_messages_of}
use Rattle.protocol.proofs.Lists.{any_found, found_any, IsIn-map, filter_map_gives}
use Rattle.protocol.proofs.Same.{instance_eq-same}
use Rattle.progress.proofs.Hearing.{passes_still, hears}
use Rattle.progress.proofs.Accepting.{all_pass}

-- ---- majorities

module _ (p q : ℕ → Bool) where
  count_more : (n : ℕ) → ((a : ℕ) → a < n → p a ≡ true → q a ≡ true) → count n p ≤ count n q
  count_more zero each = omega arith
  count_more (suc n) each =
      let rest = count_more n (λ a lt h. each a (omega arith) h) in
      by_tests (p n) (q n) rest (λ h. each n (omega arith) h)
    where
      by_tests : (s t : Bool) → count n p ≤ count n q → (s ≡ true → t ≡ true)
          → (if s then 1 else 0) + count n p ≤ (if t then 1 else 0) + count n q
      by_tests true true h e = omega arith
      by_tests true false h e = absurd (both_ways false refl (e refl))
      by_tests false true h e = omega arith
      by_tests false false h e = omega arith

  -- what each of a majority passes, a majority passes
  pub majority_more : (n : ℕ) → is_majority n p ≡ true → ((a : ℕ) → a < n → p a ≡ true → q a ≡ true) → is_majority n q ≡ true
  majority_more n h each =
      let below : n < 2 * count n p = ltb-true n (2 * count n p) h in
      let more : count n p ≤ count n q = count_more n each in
      lt-ltb n (2 * count n q) (omega arith)

-- one of a majority
pub record IsMember (n : ℕ) (q : ℕ → Bool) : Type 0 where
  pub member : ℕ
  pub below : member < n
  pub passes : q member ≡ true

some_member : (n : ℕ) (q : ℕ → Bool) → 0 < count n q → IsMember n q
some_member zero q h = absurd (omega arith)
some_member (suc n) q h = elim (cases_Bool (q n)) [
  | inl e ↦ record { member = n; below = omega arith; passes = e }
  | inr e ↦
      let same : count (suc n) q ≡ 0 + count n q = ap (λ (t : Bool). (if t then 1 else 0) + count n q) e in
      let rest = some_member n q (omega (arith, same, h)) in
      record { member = rest.member; below = omega (arith, rest.below); passes = rest.passes }
]

pub majority_member : (n : ℕ) (q : ℕ → Bool) → is_majority n q ≡ true → IsMember n q
majority_member n q h = some_member n q (omega (arith, ltb-true n (2 * count n q) h))

-- ---- an accept heard

-- acceptor a has told of a value of an instance in ballot b
abbrev pub has_told : List Kind → TxParts → (b a i : ℕ) → Vote → Bool
has_told heard tx b a i v = list_any (is_accept_of tx i b v a) heard

-- what the leader has after it
pub record IsTold (tx : TxParts) (b a i : ℕ) (v : Vote) (memory : LeaderMemory) (e : Effect LeaderMemory) : Type 0 where
  pub silent : e.fact ≡ None
  pub told : has_told e.memory.heard tx b a i v ≡ true
  pub still : (from j : ℕ) (w : Vote) → has_told memory.heard tx b from j w ≡ true → has_told e.memory.heard tx b from j w ≡ true

is_vote : (v : Vote) → vote_eq v v ≡ true
is_vote votes.Prepared = refl
is_vote votes.Aborted = refl

same_accept : (tx : TxParts) (b a i : ℕ) (v : Vote) → is_accept_of tx i b v a (P2b tx i b v a) ≡ true
same_accept tx b a i v =
    and_from ((a == a) && (b == b) && vote_eq v v) (instance_eq tx i tx i)
    (and_from ((a == a) && (b == b)) (vote_eq v v) (and_from (a == a) (b == b) (eq-eqb a a refl) (eq-eqb b b refl)) (is_vote v))
    (instance_eq-same tx i)

pub met_heard : (tx : TxParts) (memory : LeaderMemory) → (with_met tx memory).heard ≡ memory.heard
met_heard tx memory = cond_both (list_any (tx_eq tx) memory.met) memory (record memory { met = tx ∷ memory.met })
    (λ (x : LeaderMemory). x.heard ≡ memory.heard) (λ e. refl) (λ e. refl)

pub heard_accept : (config : Config) (stored : StoredBallots) (memory : LeaderMemory) (tx : TxParts) (b a : ℕ)
    (accepts : List InstanceAccept)
    → is_final (status_of config.acceptors stored memory tx) ≡ false → (i : ℕ) (v : Vote)
    → IsIn accepts (record { instance = i; ballot = b; vote = v })
    → IsTold tx b a i v memory (on_2b config stored memory tx a accepts)
heard_accept config stored memory tx b a accepts undecided i v among =
    let met = with_met tx memory in
    let now = with_all_heard (accept_messages_of tx a accepts) met in
    let after : Effect LeaderMemory =
    sends_only now (outcome_messages (status_of config.acceptors stored now tx) tx Managers) in
    subst (λ (e : Effect LeaderMemory). IsTold tx b a i v memory e)
    (sym (cond-false (is_final (status_of config.acceptors stored memory tx)) (no_effect met) after undecided))
    (record {
      silent = refl;
      told = hears (is_accept_of tx i b v a) (P2b tx i b v a) (same_accept tx b a i v) (λ heard h. h) (accept_messages_of tx a accepts) met
          (IsIn-map {Y = Kind} (λ (item : InstanceAccept). P2b tx item.instance item.ballot item.vote a) accepts
          (record { instance = i; ballot = b; vote = v }) among);
      still = λ from j w h. passes_still (is_accept_of tx j b w from) (accept_messages_of tx a accepts) met
          (subst (λ (heard : List Kind). list_any (is_accept_of tx j b w from) heard ≡ true) (sym (met_heard tx memory)) h);
    })

-- ---- the outcome

told_ballot : (tx : TxParts) (b a i : ℕ) (v : Vote) (m : Kind) → is_accept_of tx i b v a m ≡ true → ballot_told tx i v m ≡ Some b
told_ballot tx b a i v (P2b other j c w from) h =
    let one = and_parts ((a == from) && (b == c) && vote_eq v w) (instance_eq tx i other j) h in
    let two = and_parts ((a == from) && (b == c)) (vote_eq v w) one.0 in
    let three = and_parts (a == from) (b == c) two.0 in
    let eb : c ≡ b = sym (eqb-true b c three.1) in
    cond-true (vote_eq v w && instance_eq tx i other j) (Some c) None (and_from (vote_eq v w) (instance_eq tx i other j) two.1 one.1)
    ∙ ap Some eb
told_ballot tx b a i v _ h = absurd (cc (h))

module _ (n : ℕ) (q : ℕ → Bool) (majority : is_majority n q ≡ true) (heard : List Kind) (tx : TxParts) (b : ℕ) where
  -- each of a majority has told of the value
  pub decides_value : (i : ℕ) (v : Vote) → ((a : ℕ) → a < n → q a ≡ true → has_told heard tx b a i v ≡ true)
      → is_decided n heard tx i v ≡ true
  decides_value i v told =
      let one = majority_member n q majority in
      let by = any_found (is_accept_of tx i b v one.member) heard (told one.member one.below one.passes) in
      found_any (λ (c : ℕ). is_majority n (λ a. list_any (is_accept_of tx i c v a) heard)) (filter_map (ballot_told tx i v) heard) b
      (filter_map_gives (ballot_told tx i v) heard by.element b by.among (told_ballot tx b one.member i v by.element by.passes))
      (majority_more q (λ a. list_any (is_accept_of tx i b v a) heard) n majority told)

final_by : (x y z : Bool) → (x ≡ false → y ≡ true)
    → is_final (if x then statuses.Aborted else if y then statuses.Committed else if z then statuses.Undecided else statuses.Unknown) ≡ true
final_by true y z h = refl
final_by false true z h = refl
final_by false false z h = absurd (both_ways false refl (h refl))

-- where each instance has decided a value, the outcome is there
pub all_decided : (n : ℕ) (stored : StoredBallots) (memory : LeaderMemory) (tx : TxParts) (value : ℕ → Vote)
    → ((i : ℕ) → IsIn (participants tx) i → is_decided n memory.heard tx i (value i) ≡ true)
    → is_final (status_of n stored memory tx) ≡ true
all_decided n stored memory tx value each =
    final_by (list_any (λ i. is_decided n memory.heard tx i votes.Aborted) (participants tx))
    (list_all (λ i. is_decided n memory.heard tx i votes.Prepared) (participants tx)) (is_known stored memory tx)
    (λ none. all_pass (λ i. is_decided n memory.heard tx i votes.Prepared) (participants tx)
    (λ i h. prepared_by i h none (value i) (each i h)))
  where
    prepared_by : (i : ℕ) → IsIn (participants tx) i
        → list_any (λ i. is_decided n memory.heard tx i votes.Aborted) (participants tx) ≡ false
        → (v : Vote) → is_decided n memory.heard tx i v ≡ true → is_decided n memory.heard tx i votes.Prepared ≡ true
    prepared_by i h none votes.Prepared is = is
    prepared_by i h none votes.Aborted is =
        absurd (both_ways (list_any (λ i. is_decided n memory.heard tx i votes.Aborted) (participants tx)) none
        (found_any (λ i. is_decided n memory.heard tx i votes.Aborted) (participants tx) i h is))
