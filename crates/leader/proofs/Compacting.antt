-- The ballots of a compacted record play, and each transaction's is its greatest.
-- Needed by `Leader::shorter`; crates forgetting and node_core.
use Rattle.std.proofs.Common.{◌≡◌, ◌∙◌, ◌==◌, ℕ, ◌+◌, ◌<◌, ◌≤◌, max, Bool, true, false, ◌||◌, ltb, List, [], ◌∷◌, ◌++◌}
use Rattle.std.proofs.Common.{map, sum, refl, sym, ap, subst, append_assoc, arith}
use Rattle.std.specs.Prelude.{if◌then◌else◌, Option, Some, None, fold}
use Rattle.std.specs.List.{AllByRecursion, IsDistinct, list_any, cons_option}
use Rattle.std.specs.Cmp.{first_so, second_so}
use Rattle.std.proofs.lemmas.Bool.{ltb-true, ltb-false, lt-ltb, and_from, true≢false}
use Rattle.std.proofs.lemmas.List.{append-nil}
use Rattle.std.proofs.lemmas.Map.Keys.{IsDistinct-head, IsDistinct-tail}
use Rattle.xid.specs.Transactions.{TxParts, tx_eq}
use Rattle.transactions.proofs.Before.{turned}
use Rattle.ballot.specs.Ballots.{owner_of}
use Rattle.ballot.specs.Greatest.{greatest}
use Rattle.stable_record.specs.declared.fact.FactKind.{FactKind as Fact}
use Rattle.stable_record.specs.Facts.{fact_tx}
use Rattle.stable_record.specs.Frames.{frame_length}
use Rattle.stable_record.proofs.Lengths.{length_both, length_of, length_sum}
use Rattle.transactions.specs.Seen.{seen_with}
use Rattle.transactions.proofs.First.{seen_after, seen_all, first_any, first_both, first_more, first_once}
use Rattle.protocol.specs.declared.nodes.NodeId.TheVariants.{L}
use Rattle.protocol.specs.Effects.{Config}
use Rattle.protocol.specs.Facts.{last_ballot, ballot_begun}
use Rattle.protocol.specs.LeaderMemory.{LeaderMemory, StoredBallots}
use Rattle.protocol.specs.Leaders.{plays_at_leader}
use Rattle.protocol.specs.Nodes.{plays, all_play}
use Rattle.protocol.proofs.Manager.Played.{all_play_then}
use Rattle.leader.specs.Leaders.{LeaderParts, StandsForBallots, StandsFor, course_of, begun_in}
use Rattle.leader.specs.Compaction.{ballot_facts, compacted, shorter_facts, IsCompacted}
use Rattle.leader.proofs.Basics.{same_tx, tx_self}
use Rattle.leader.proofs.Leading.{greatest_with, stored_ballot}

-- ---- greatest ballots, with more facts after them

pub same_after : (a b more : List Fact) → ((tx : TxParts) → last_ballot a tx ≡ last_ballot b tx) → (tx : TxParts)
    → last_ballot (a ++ more) tx ≡ last_ballot (b ++ more) tx
same_after a b [] same tx = (λ k. last_ballot (append-nil a k) tx) ∙ same tx ∙ (λ k. last_ballot (sym (append-nil b) k) tx)
same_after a b (fact ∷ more) same tx =
    (λ k. last_ballot (sym (append_assoc a (fact ∷ []) more) k) tx)
    ∙ same_after (a ++ fact ∷ []) (b ++ fact ∷ []) more
    (λ other. greatest_with a other fact ∙ ap (λ n. max n (greatest (cons_option (ballot_begun other fact) []))) (same other)
    ∙ sym (greatest_with b other fact)) tx
    ∙ (λ k. last_ballot (append_assoc b (fact ∷ []) more k) tx)

module _ (config : Config) (number : ℕ) where
  -- each greatest ballot is this leader's own
  abbrev AreOwned : List Fact → Type 0
  AreOwned facts = (tx : TxParts) → 0 < last_ballot facts tx → (owner_of config.leaders (last_ballot facts tx) == number) ≡ true

  owned_then : (before : List Fact) (fact : Fact) → plays config (L number) before fact ≡ true → AreOwned before
      → AreOwned (before ++ fact ∷ [])
  owned_then before (Fact.Ballot tx b) fits owned other some =
      let above = ltb-true _ _ (first_so (ltb (last_ballot before tx) b) (owner_of config.leaders b == number) fits) in
      by (tx_eq other tx) (stored_ballot before tx other b above) some
    where
      by : (t : Bool) → last_ballot (before ++ Fact.Ballot tx b ∷ []) other ≡ (if t then b else last_ballot before other)
          → 0 < last_ballot (before ++ Fact.Ballot tx b ∷ []) other
          → (owner_of config.leaders (last_ballot (before ++ Fact.Ballot tx b ∷ []) other) == number) ≡ true
      by true is some =
          ap (λ n. owner_of config.leaders n == number) is
          ∙ second_so (ltb (last_ballot before tx) b) (owner_of config.leaders b == number) fits
      by false is some = ap (λ n. owner_of config.leaders n == number) is ∙ owned other (omega (arith, some, is))
  owned_then before (Fact.Promise tx i b) fits owned other some = absurd (true≢false (sym fits))
  owned_then before (Fact.Accept tx i b v) fits owned other some = absurd (true≢false (sym fits))
  owned_then before (Fact.PromiseAll tx b) fits owned other some = absurd (true≢false (sym fits))
  owned_then before (Fact.VotePrepared tx keys) fits owned other some = absurd (true≢false (sym fits))
  owned_then before (Fact.VoteAborted tx) fits owned other some = absurd (true≢false (sym fits))
  owned_then before (Fact.Committed tx) fits owned other some = absurd (true≢false (sym fits))
  owned_then before (Fact.Aborted tx) fits owned other some = absurd (true≢false (sym fits))

  owned_after : (before more : List Fact) → all_play config (L number) before more ≡ true → AreOwned before → AreOwned (before ++ more)
  owned_after before [] play owned = subst AreOwned (sym (append-nil before)) owned
  owned_after before (fact ∷ more) play owned =
      let rest = all_play config (L number) (before ++ fact ∷ []) more in
      subst AreOwned (append_assoc before (fact ∷ []) more)
      (owned_after (before ++ fact ∷ []) more (second_so (plays config (L number) before fact) rest play)
      (owned_then before fact (first_so (plays config (L number) before fact) rest play) owned))

  -- ---- ballots one after the other

  -- facts play, and each greatest ballot is this
  record Leads (facts : List Fact) (g : StoredBallots) : Type 0 where
    play : all_play config (L number) [] facts ≡ true
    ballots_are : (tx : TxParts) → last_ballot facts tx ≡ g tx

  leads_to_same : {facts : List Fact} {g : StoredBallots} (h : StoredBallots) → Leads facts g → ((tx : TxParts) → g tx ≡ h tx)
      → Leads facts h
  leads_to_same h leads same = record { play = leads.play; ballots_are = λ tx. leads.ballots_are tx ∙ same tx }

  with_ballot : {facts : List Fact} {g : StoredBallots} (tx : TxParts) (b : ℕ) → Leads facts g → g tx < b
      → (owner_of config.leaders b == number) ≡ true
      → Leads (facts ++ Fact.Ballot tx b ∷ []) (λ other. if tx_eq other tx then b else g other)
  with_ballot {facts} {g} tx b leads lt owned =
      let above : last_ballot facts tx < b = omega (arith, lt, leads.ballots_are tx) in
      record {
        play =
            all_play_then config (L number) [] facts (Fact.Ballot tx b) leads.play
            (and_from (ltb (last_ballot facts tx) b) (owner_of config.leaders b == number) (lt-ltb _ _ above) owned);
        ballots_are = λ other.
            stored_ballot facts tx other b above ∙ ap (λ n. if tx_eq other tx then b else n) (leads.ballots_are other);
      }

  module _ (stored : StoredBallots)
      (owned : (tx : TxParts) → 0 < stored tx → (owner_of config.leaders (stored tx) == number) ≡ true) where
    -- the ballots of those that are done, and none of all others
    abbrev so_far : (TxParts → Bool) → StoredBallots
    so_far done tx = if done tx then stored tx else 0

    one_more : {facts : List Fact} (done : TxParts → Bool) (tx : TxParts) → Leads facts (so_far done) → done tx ≡ false
        → Leads (facts ++ ballot_facts tx (stored tx)) (so_far (λ other. tx_eq other tx || done other))
    one_more {facts} done tx leads new = by (ltb 0 (stored tx)) refl
      where
        by : (t : Bool) → ltb 0 (stored tx) ≡ t
            → Leads (facts ++ (if t then Fact.Ballot tx (stored tx) ∷ [] else [])) (so_far (λ other. tx_eq other tx || done other))
        by true e =
            let some : 0 < stored tx = ltb-true 0 (stored tx) e in
            let none : so_far done tx ≡ 0 = ap (λ t. if t then stored tx else 0) new in
            leads_to_same _ (with_ballot tx (stored tx) leads (omega (arith, some, none)) (owned tx some))
            (λ other. alike other (tx_eq other tx) refl)
          where
            alike : (other : TxParts) (t : Bool) → tx_eq other tx ≡ t
                → (if t then stored tx else so_far done other) ≡ (if t || done other then stored other else 0)
            alike other true e = ap stored (sym (same_tx other tx e))
            alike other false e = refl
        by false e =
            subst (λ (fs : List Fact). Leads fs (so_far (λ other. tx_eq other tx || done other))) (sym (append-nil facts))
            (leads_to_same _ leads (λ other. alike other (tx_eq other tx) refl))
          where
            alike : (other : TxParts) (t : Bool) → tx_eq other tx ≡ t → so_far done other ≡ (if t || done other then stored other else 0)
            alike other true same =
                let is = same_tx other tx same in
                let zero_here : stored tx ≡ 0 = omega (arith, ltb-false 0 (stored tx) e) in
                ap (so_far done) is ∙ ap (λ t. if t then stored tx else 0) new ∙ sym (ap stored is ∙ zero_here)
            alike other false same = refl

    all_more : (txs : List TxParts) (facts : List Fact) (done : TxParts → Bool) → Leads facts (so_far done)
        → AllByRecursion (λ tx. done tx ≡ false) txs → IsDistinct tx_eq txs
        → Leads (facts ++ compacted txs stored) (so_far (λ other. list_any (tx_eq other) txs || done other))
    all_more [] facts done leads new once = subst (λ (fs : List Fact). Leads fs (so_far done)) (sym (append-nil facts)) leads
    all_more (tx ∷ txs) facts done leads new once =
        subst (λ (fs : List Fact). Leads fs (so_far (λ other. list_any (tx_eq other) (tx ∷ txs) || done other)))
        (append_assoc facts (ballot_facts tx (stored tx)) (compacted txs stored))
        (leads_to_same _
        (all_more txs (facts ++ ballot_facts tx (stored tx)) (λ other. tx_eq other tx || done other) (one_more done tx leads new.0)
        (still_new txs new.1 (IsDistinct-head tx_eq tx txs once)) (IsDistinct-tail tx_eq tx txs once))
        (λ other. ap (λ t. if t then stored other else 0) (swap (tx_eq other tx) (list_any (tx_eq other) txs) (done other))))
      where
        swap : (a b c : Bool) → (b || (a || c)) ≡ ((a || b) || c)
        swap true true c = refl
        swap true false c = refl
        swap false b c = refl

        still_new : (ys : List TxParts) → AllByRecursion (λ y. done y ≡ false) ys → AllByRecursion (λ y. tx_eq tx y ≡ false) ys
            → AllByRecursion (λ y. (tx_eq y tx || done y) ≡ false) ys
        still_new [] each apart = tt
        still_new (y ∷ ys) each apart = (
          ap (λ t. t || done y) (turned tx y apart.0) ∙ each.0,
          still_new ys each.1 apart.1,
        )

    compacted_leads : (txs : List TxParts) → IsDistinct tx_eq txs → ((tx : TxParts) → 0 < stored tx → list_any (tx_eq tx) txs ≡ true)
        → Leads (compacted txs stored) stored
    compacted_leads txs once there =
        leads_to_same stored (all_more txs [] (λ other. false) (record { play = refl; ballots_are = λ tx. refl }) (at_start txs) once)
        (λ tx. by tx (list_any (tx_eq tx) txs) refl)
      where
        at_start : (ys : List TxParts) → AllByRecursion (λ y. ◌≡◌ {A = Bool} false false) ys
        at_start [] = tt
        at_start (y ∷ ys) = (refl, at_start ys)

        by : (tx : TxParts) (t : Bool) → list_any (tx_eq tx) txs ≡ t → (if t || false then stored tx else 0) ≡ stored tx
        by tx true e = refl
        by tx false e = none (ltb 0 (stored tx)) refl
          where
            none : (t : Bool) → ltb 0 (stored tx) ≡ t → 0 ≡ stored tx
            none true some = absurd (true≢false (sym (there tx (ltb-true 0 (stored tx) some)) ∙ e))
            none false e = omega (arith, ltb-false 0 (stored tx) e)

-- ---- their order

-- with more facts the greatest ballot is no less
no_less : (before more : List Fact) (tx : TxParts) → last_ballot before tx ≤ last_ballot (before ++ more) tx
no_less before [] tx = subst (λ (fs : List Fact). last_ballot before tx ≤ last_ballot fs tx) (sym (append-nil before)) (omega arith)
no_less before (fact ∷ more) tx =
    let later = no_less (before ++ fact ∷ []) more tx in
    let one = greatest_with before tx fact in
    subst (λ (fs : List Fact). last_ballot before tx ≤ last_ballot fs tx) (append_assoc before (fact ∷ []) more)
    (omega (arith, later, one))

-- a ballot of a transaction that has begun is above 0
pub some_ballot : (config : Config) (number : ℕ) (before more : List Fact) (tx : TxParts) → all_play config (L number) before more ≡ true
    → list_any (λ fact. tx_eq tx (fact_tx fact)) more ≡ true → 0 < last_ballot (before ++ more) tx
some_ballot config number before [] tx play there = absurd (true≢false (sym there))
some_ballot config number before (fact ∷ more) tx play there =
    by (tx_eq tx (fact_tx fact)) refl
    (λ rest. some_ballot config number (before ++ fact ∷ []) more tx
    (second_so (plays config (L number) before fact) (all_play config (L number) (before ++ fact ∷ []) more) play) rest)
  where
    fits : plays config (L number) before fact ≡ true
    fits = first_so (plays config (L number) before fact) (all_play config (L number) (before ++ fact ∷ []) more) play

    ballot_here : (fact : Fact) → plays config (L number) before fact ≡ true → 0 < last_ballot (before ++ fact ∷ []) (fact_tx fact)
    ballot_here (Fact.Ballot other b) fits =
        let above = ltb-true _ _ (first_so (ltb (last_ballot before other) b) (owner_of config.leaders b == number) fits) in
        let is = stored_ballot before other other b above ∙ ap (λ t. if t then b else last_ballot before other) (tx_self other) in
        omega (arith, above, is)
    ballot_here (Fact.Promise other i b) fits = absurd (true≢false (sym fits))
    ballot_here (Fact.Accept other i b v) fits = absurd (true≢false (sym fits))
    ballot_here (Fact.PromiseAll other b) fits = absurd (true≢false (sym fits))
    ballot_here (Fact.VotePrepared other keys) fits = absurd (true≢false (sym fits))
    ballot_here (Fact.VoteAborted other) fits = absurd (true≢false (sym fits))
    ballot_here (Fact.Committed other) fits = absurd (true≢false (sym fits))
    ballot_here (Fact.Aborted other) fits = absurd (true≢false (sym fits))

    goes_on : 0 < last_ballot ((before ++ fact ∷ []) ++ more) tx → 0 < last_ballot (before ++ fact ∷ more) tx
    goes_on h = subst (λ (fs : List Fact). 0 < last_ballot fs tx) (append_assoc before (fact ∷ []) more) h

    by : (t : Bool) → tx_eq tx (fact_tx fact) ≡ t
        → (list_any (λ f. tx_eq tx (fact_tx f)) more ≡ true → 0 < last_ballot ((before ++ fact ∷ []) ++ more) tx)
        → 0 < last_ballot (before ++ fact ∷ more) tx
    by true e later =
        let here = subst (λ (x : TxParts). 0 < last_ballot (before ++ fact ∷ []) x) (sym (same_tx tx (fact_tx fact) e))
        (ballot_here fact fits) in
        goes_on (omega (arith, here, no_less (before ++ fact ∷ []) more tx))
    by false e later = goes_on (later (sym (ap (λ t. t || list_any (λ f. tx_eq tx (fact_tx f)) more) e) ∙ there))

-- of a transaction that hasn't begun there is none
pub no_ballot : (before more : List Fact) (tx : TxParts) → list_any (λ fact. tx_eq tx (fact_tx fact)) more ≡ false
    → last_ballot (before ++ more) tx ≡ last_ballot before tx
no_ballot before [] tx none = λ k. last_ballot (append-nil before k) tx
no_ballot before (fact ∷ more) tx none =
    let parts = not_first (tx_eq tx (fact_tx fact)) (list_any (λ f. tx_eq tx (fact_tx f)) more) none in
    (λ k. last_ballot (sym (append_assoc before (fact ∷ []) more) k) tx)
    ∙ no_ballot (before ++ fact ∷ []) more tx parts.1 ∙ same fact parts.0
  where
    not_first : (a b : Bool) → (a || b) ≡ false → (a ≡ false) × (b ≡ false)
    not_first false b e = (refl, e)
    not_first true b e = absurd (true≢false e)

    nothing_more : (fact : Fact) → ballot_begun tx fact ≡ None → last_ballot (before ++ fact ∷ []) tx ≡ last_ballot before tx
    nothing_more fact none =
        greatest_with before tx fact
        ∙ ap (λ (o : Option ℕ). max (last_ballot before tx) (greatest (cons_option o []))) none
        ∙ omega arith

    same : (fact : Fact) → tx_eq tx (fact_tx fact) ≡ false → last_ballot (before ++ fact ∷ []) tx ≡ last_ballot before tx
    same (Fact.Ballot other b) e =
        nothing_more (Fact.Ballot other b) (ap (λ t. if t then Some b else None) e)
    same (Fact.Promise other i b) e = nothing_more (Fact.Promise other i b) refl
    same (Fact.Accept other i b v) e = nothing_more (Fact.Accept other i b v) refl
    same (Fact.PromiseAll other b) e = nothing_more (Fact.PromiseAll other b) refl
    same (Fact.VotePrepared other keys) e = nothing_more (Fact.VotePrepared other keys) refl
    same (Fact.VoteAborted other) e = nothing_more (Fact.VoteAborted other) refl
    same (Fact.Committed other) e = nothing_more (Fact.Committed other) refl
    same (Fact.Aborted other) e = nothing_more (Fact.Aborted other) refl

-- ballots of some transactions begin in their order
ballots_seen : (stored : StoredBallots) (txs seen : List TxParts) → AllByRecursion (λ tx. 0 < stored tx) txs
    → fold (seen_after fact_tx) seen (compacted txs stored) ≡ fold seen_with seen txs
ballots_seen stored [] seen each = refl
ballots_seen stored (tx ∷ txs) seen each =
    ap (λ t. fold (seen_after fact_tx) seen ((if t then Fact.Ballot tx (stored tx) ∷ [] else []) ++ compacted txs stored))
    (lt-ltb 0 (stored tx) each.0)
    ∙ ballots_seen stored txs (seen_with seen tx) each.1

compacted_begun : (stored : StoredBallots) (txs : List TxParts) → IsDistinct tx_eq txs
    → ((tx : TxParts) → list_any (tx_eq tx) txs ≡ true → 0 < stored tx) → begun_in (compacted txs stored) ≡ txs
compacted_begun stored txs once some = ballots_seen stored txs [] (each txs some) ∙ seen_all [] txs once
  where
    or_yes : (a : Bool) → (a || true) ≡ true
    or_yes true = refl
    or_yes false = refl

    each : (ys : List TxParts) → ((tx : TxParts) → list_any (tx_eq tx) ys ≡ true → 0 < stored tx)
        → AllByRecursion (λ tx. 0 < stored tx) ys
    each [] there = tt
    each (y ∷ ys) there = (
      there y (ap (λ t. t || list_any (tx_eq y) ys) (tx_self y)),
      each ys (λ tx e. there tx (ap (λ t. tx_eq tx y || t) e ∙ or_yes (tx_eq tx y))),
    )

-- ---- their lengths

ballot_length : (tx : TxParts) (b c : ℕ) → length_of (ballot_facts tx b) ≤ frame_length (Fact.Ballot tx c)
ballot_length tx b c = by (ltb 0 b)
  where
    by : (t : Bool) → length_of (if t then Fact.Ballot tx b ∷ [] else []) ≤ frame_length (Fact.Ballot tx c)
    by true = omega arith
    by false = omega arith

-- where the ballots of all but one transaction stay
module _ (before after : StoredBallots) (tx : TxParts) (b : ℕ)
    (others : (other : TxParts) → tx_eq other tx ≡ false → after other ≡ before other) where
  others_same : (txs : List TxParts) → AllByRecursion (λ y. tx_eq tx y ≡ false) txs → compacted txs after ≡ compacted txs before
  others_same [] each = refl
  others_same (y ∷ ys) each = λ k. ballot_facts y (others y (turned tx y each.0) k) ++ others_same ys each.1 k

  grows : (txs : List TxParts) → IsDistinct tx_eq txs
      → length_of (compacted txs after) ≤ length_of (compacted txs before) + frame_length (Fact.Ballot tx b)
  grows [] once = omega arith
  grows (y ∷ ys) once = by (tx_eq y tx) refl (grows ys (IsDistinct-tail tx_eq y ys once))
    where
      by : (t : Bool) → tx_eq y tx ≡ t
          → length_of (compacted ys after) ≤ length_of (compacted ys before) + frame_length (Fact.Ballot tx b)
          → length_of (compacted (y ∷ ys) after) ≤ length_of (compacted (y ∷ ys) before) + frame_length (Fact.Ballot tx b)
      by true e left =
          let now = length_both (ballot_facts y (before y)) (compacted ys before) in
          let later = length_both (ballot_facts y (after y)) (compacted ys after) in
          let same = same_tx y tx e in
          let rest = ap length_of
          (others_same ys (subst (λ (x : TxParts). AllByRecursion (λ z. tx_eq x z ≡ false) ys) same (IsDistinct-head tx_eq y ys once))) in
          let one = subst (λ (x : TxParts). length_of (ballot_facts y (after y)) ≤ frame_length (Fact.Ballot x b)) same
          (ballot_length y (after y) b) in
          omega (arith, now, later, rest, one)
      by false e left =
          let now = length_both (ballot_facts y (before y)) (compacted ys before) in
          let later = length_both (ballot_facts y (after y)) (compacted ys after) in
          let one = ap (λ n. length_of (ballot_facts y n)) (others y e) in
          omega (arith, now, later, one, left)

-- a transaction that hasn't begun adds nothing
seen_same : (before : List Fact) (tx : TxParts)
    → length_of (compacted (seen_with (begun_in before) tx) (last_ballot before)) ≤ length_of (shorter_facts before)
seen_same before tx = by (list_any (tx_eq tx) (begun_in before)) refl
  where
    one_more : (txs : List TxParts) → length_of (ballot_facts tx (last_ballot before tx)) ≤ 0
        → length_of (compacted (txs ++ tx ∷ []) (last_ballot before)) ≤ length_of (compacted txs (last_ballot before))
    one_more [] none = omega (arith, length_both (ballot_facts tx (last_ballot before tx)) [], none)
    one_more (y ∷ ys) none =
        omega (
          arith,
          length_both (ballot_facts y (last_ballot before y)) (compacted (ys ++ tx ∷ []) (last_ballot before)),
          length_both (ballot_facts y (last_ballot before y)) (compacted ys (last_ballot before)),
          one_more ys none,
        )

    by : (t : Bool) → list_any (tx_eq tx) (begun_in before) ≡ t
        → length_of (compacted (if t then begun_in before else begun_in before ++ tx ∷ []) (last_ballot before))
        ≤ length_of (shorter_facts before)
    by true e = omega arith
    by false e =
        let none : last_ballot before tx ≡ 0 = no_ballot [] before tx (sym (first_any fact_tx tx before) ∙ e) in
        one_more (begun_in before) (subst (λ n. length_of (ballot_facts tx n) ≤ 0) (sym none) (omega arith))

one_fact : (config : Config) (number : ℕ) (before : List Fact) (fact : Fact) → plays config (L number) before fact ≡ true
    → length_of (shorter_facts (before ++ fact ∷ [])) ≤ length_of (shorter_facts before) + frame_length fact
one_fact config number before (Fact.Ballot tx b) fits =
    let above : last_ballot before tx < b =
    ltb-true _ _ (first_so (ltb (last_ballot before tx) b) (owner_of config.leaders b == number) fits) in
    let seen = ap (λ ys. length_of (compacted ys (last_ballot before))) (first_more fact_tx before (Fact.Ballot tx b)) in
    omega (
      arith,
      seen,
      grows (last_ballot before) (last_ballot (before ++ Fact.Ballot tx b ∷ [])) tx b
          (λ other e. stored_ballot before tx other b above ∙ ap (λ t. if t then b else last_ballot before other) e)
          (begun_in (before ++ Fact.Ballot tx b ∷ [])) (first_once fact_tx (before ++ Fact.Ballot tx b ∷ [])),
      seen_same before tx,
    )
one_fact config number before (Fact.Promise tx i b) fits = absurd (true≢false (sym fits))
one_fact config number before (Fact.Accept tx i b v) fits = absurd (true≢false (sym fits))
one_fact config number before (Fact.PromiseAll tx b) fits = absurd (true≢false (sym fits))
one_fact config number before (Fact.VotePrepared tx keys) fits = absurd (true≢false (sym fits))
one_fact config number before (Fact.VoteAborted tx) fits = absurd (true≢false (sym fits))
one_fact config number before (Fact.Committed tx) fits = absurd (true≢false (sym fits))
one_fact config number before (Fact.Aborted tx) fits = absurd (true≢false (sym fits))

module _ (config : Config) (number : ℕ) where
  lengths_from : (before more : List Fact) → all_play config (L number) before more ≡ true
      → length_of (shorter_facts before) ≤ length_of before → length_of (shorter_facts (before ++ more)) ≤ length_of (before ++ more)
  lengths_from before [] play le =
      subst (λ (fs : List Fact). length_of (shorter_facts fs) ≤ length_of fs) (sym (append-nil before)) le
  lengths_from before (fact ∷ more) play le =
      let rest = all_play config (L number) (before ++ fact ∷ []) more in
      subst (λ (fs : List Fact). length_of (shorter_facts fs) ≤ length_of fs) (append_assoc before (fact ∷ []) more)
      (lengths_from (before ++ fact ∷ []) more (second_so (plays config (L number) before fact) rest play)
      (omega (
        arith,
        le,
        length_both before (fact ∷ []),
        one_fact config number before fact (first_so (plays config (L number) before fact) rest play),
      )))

  -- the frames of a shorter record are together no longer than those of the facts
  pub no_longer : (facts : List Fact) → all_play config (L number) [] facts ≡ true
      → sum (map frame_length (shorter_facts facts)) ≤ sum (map frame_length facts)
  no_longer facts play = omega (arith, lengths_from [] facts play (omega arith), length_sum facts, length_sum (shorter_facts facts))

-- ---- those of a leader

-- what is compacted says the same as whatever plays and a leader stands for
pub is_compacted : (l : LeaderParts) (kept : List Fact) → kept ≡ compacted l.courses.begun (λ tx. (course_of l tx).greatest)
    → (config : Config) (number : ℕ) (facts : List Fact) (memory : LeaderMemory) → StandsFor config number l facts memory
    → all_play config (L number) [] facts ≡ true → IsCompacted kept config number facts
is_compacted l kept e config number facts memory stands play = record {
  list = is;
  no_longer = subst (λ (fs : List Fact). sum (map frame_length fs) ≤ sum (map frame_length facts)) (sym is)
      (no_longer config number facts play);
  same = record {
    play = ap (λ (fs : List Fact). all_play config (L number) [] fs) is ∙ leads.play;
    stands = λ more other heard h. record {
      ballots = subst (λ (s : StoredBallots). StandsForBallots config number other s heard)
          (λ k tx. same_after kept facts more alike tx k) h.ballots;
      begun_are = h.begun_are ∙ first_both fact_tx kept facts more order;
    };
    fits = λ more fact. λ k. plays_at_leader config.leaders number (λ tx. same_after kept facts more alike tx k) fact;
    shorter = λ more. λ k. compacted (first_both fact_tx kept facts more order k) (λ tx. same_after kept facts more alike tx k);
  };
}
  where
    once : IsDistinct tx_eq (begun_in facts)
    once = first_once fact_tx facts

    is : kept ≡ shorter_facts facts
    is = e ∙ (λ k. compacted (stands.begun_are k) (λ tx. (stands.ballots.courses_are tx).greatest_is k))

    there : (tx : TxParts) → 0 < last_ballot facts tx → list_any (tx_eq tx) (begun_in facts) ≡ true
    there tx some = by (list_any (tx_eq tx) (begun_in facts)) refl
      where
        by : (t : Bool) → list_any (tx_eq tx) (begun_in facts) ≡ t → t ≡ true
        by true e = refl
        by false e = absurd (omega (arith, some, no_ballot [] facts tx (sym (first_any fact_tx tx facts) ∙ e)))

    leads : Leads config number (shorter_facts facts) (last_ballot facts)
    leads =
        compacted_leads config number (last_ballot facts)
        (owned_after config number [] facts play (λ tx some. absurd (omega (arith, some)))) (begun_in facts) once there

    alike : (tx : TxParts) → last_ballot kept tx ≡ last_ballot facts tx
    alike tx = ap (λ (fs : List Fact). last_ballot fs tx) is ∙ leads.ballots_are tx

    order : begun_in kept ≡ begun_in facts
    order =
        ap begun_in is
        ∙ compacted_begun (last_ballot facts) (begun_in facts) once
        (λ tx e. some_ballot config number [] facts tx play (sym (first_any fact_tx tx facts) ∙ e))
