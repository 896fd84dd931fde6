-- The transactions that facts of an acceptor are about are those of which some slot is taken.
-- Needed by Above, Compacting and Lengths; crate forgetting.
use Rattle.std.proofs.Common.{◌≡◌, ◌∙◌, ◌==◌, ℕ, ◌<◌, ◌≤◌, max, Bool, true, false, not, ◌&&◌, ◌||◌, ltb, leb, List, [], ◌∷◌, ◌++◌}
use Rattle.std.proofs.Common.{Option, Some, None, refl, sym, ap, subst, append_assoc, append-nil, arith}
use Rattle.std.specs.Prelude.{if◌then◌else◌, is_some, nat_lt, fold}
use Rattle.std.specs.List.{AllByRecursion, IsDistinct, list_any, flat_map}
use Rattle.std.specs.Cmp.{first_so, second_so}
use Rattle.std.proofs.lemmas.Bool.{ltb-true, ltb-false, lt-ltb, le-ltb, eqb-true, and_from, true≢false}
use Rattle.xid.specs.Transactions.{TxParts, BranchParts, is_at, participants, rm_numbers, is_participant, tx_eq}
use Rattle.xid.specs.declared.transaction.Vote.{Vote}
use Rattle.xid.proofs.Deciding.{tx_self, tx_decides}
use Rattle.ballot.specs.declared.slot.Slot.{Slot}
use Rattle.ballot.specs.Choice.{Report}
use Rattle.ballot.specs.Slots.{empty_slot}
use Rattle.stable_record.specs.declared.fact.FactKind.{FactKind as Fact}
use Rattle.stable_record.specs.Facts.{fact_tx}
use Rattle.transactions.specs.Seen.{seen_with}
use Rattle.transactions.proofs.First.{seen_after, fold_both, fold_same, seen_all, first_any, or_true}
use Rattle.protocol.specs.declared.nodes.NodeId.TheVariants.{A}
use Rattle.protocol.specs.Acceptors.{Slots, plays_at_acceptor, is_accepted}
use Rattle.protocol.specs.Effects.{Config}
use Rattle.protocol.specs.Facts.{ballot_joined, accept_of, slot}
use Rattle.protocol.specs.Nodes.{plays, all_play}
use Rattle.protocol.proofs.Same.{instance_eq-same}
use Rattle.protocol.proofs.Lists.{all_joined}
use Rattle.acceptor.specs.Slots.{after_fact, raised, latest}
use Rattle.acceptor.specs.Acceptors.{begun_in}
use Rattle.acceptor.specs.Compaction.{accepted_ballot, accept_facts, common_ballot, common_facts, promise_facts, accepts_of, promises_of}
use Rattle.acceptor.specs.Compaction.{transaction_facts, compacted}
use Rattle.acceptor.proofs.Instances.{each_named}
use Rattle.acceptor.proofs.Played.{slot_more, stays}

-- ---- a slot is taken

-- whether an instance took part in a ballot above 0, or accepted
abbrev pub taken : Slot → Bool
taken s = nat_lt 0 s.mbal || is_some s.report

-- it stays so
taken_more : (m : ℕ) (r : Report) (o : Option ℕ) (q : Report) → (nat_lt 0 m || is_some r) ≡ true
    → (nat_lt 0 (raised m o) || is_some (latest r q)) ≡ true
taken_more m r o (Some last) e = or_true (nat_lt 0 (raised m o))
taken_more m r None None e = e
taken_more m r (Some b) None e = by (nat_lt 0 m) refl
  where
    by : (t : Bool) → nat_lt 0 m ≡ t → (nat_lt 0 (max m b) || is_some r) ≡ true
    by true some = ap (λ t. t || is_some r) (lt-ltb 0 (max m b) (omega (arith, ltb-true 0 m some)))
    by false none =
        ap (λ t. nat_lt 0 (max m b) || t) (sym (ap (λ t. t || is_some r) none) ∙ e) ∙ or_true (nat_lt 0 (max m b))

taken_then : (tx : TxParts) (i : ℕ) (s : Slot) (fact : Fact) → taken s ≡ true → taken (after_fact tx i s fact) ≡ true
taken_then tx i s fact e = taken_more s.mbal s.report (ballot_joined tx i fact) (accept_of tx i fact) e

-- a ballot joined, or a value accepted
taken_at : (m : ℕ) (r q : Report) (b : ℕ) → 0 < b → (nat_lt 0 (max m b) || is_some (latest r q)) ≡ true
taken_at m r q b some = ap (λ t. t || is_some (latest r q)) (lt-ltb 0 (max m b) (omega (arith, some)))

any_more : (p q : ℕ → Bool) → ((i : ℕ) → p i ≡ true → q i ≡ true) → (is : List ℕ) → list_any p is ≡ true → list_any q is ≡ true
any_more p q each [] e = e
any_more p q each (i ∷ is) e = by (p i) refl (λ rest. any_more p q each is rest)
  where
    by : (t : Bool) → p i ≡ t → (list_any p is ≡ true → list_any q is ≡ true) → (q i || list_any q is) ≡ true
    by true here later = ap (λ t. t || list_any q is) (each i here)
    by false here later = ap (λ t. q i || t) (later (sym (ap (λ t. t || list_any p is) here) ∙ e)) ∙ or_true (q i)

-- an instance that passes a test
member : (p : ℕ → Bool) (i : ℕ) (bs : List BranchParts) → list_any (is_at i) bs ≡ true → p i ≡ true → list_any p (rm_numbers bs) ≡ true
member p i [] named e = named
member p i (b ∷ bs) named e = by (b.rm == i) refl (λ rest. member p i bs rest e)
  where
    by : (t : Bool) → (b.rm == i) ≡ t → (list_any (is_at i) bs ≡ true → list_any p (rm_numbers bs) ≡ true)
        → (p b.rm || list_any p (rm_numbers bs)) ≡ true
    by true here later = ap (λ t. t || list_any p (rm_numbers bs)) (ap p (eqb-true b.rm i here) ∙ e)
    by false here later =
        ap (λ t. p b.rm || t) (later (sym (ap (λ t. t || list_any (is_at i) bs) here) ∙ named)) ∙ or_true (p b.rm)

-- a test that those named pass
pub named_any : (p q : ℕ → Bool) (tx : TxParts) → ((i : ℕ) → is_participant tx i ≡ true → p i ≡ true → q i ≡ true)
    → list_any p (participants tx) ≡ true → list_any q (participants tx) ≡ true
named_any p q tx each e = from (participants tx) (each_named tx.branches tx.branches (λ b h. h)) e
  where
    from : (is : List ℕ) → AllByRecursion (λ i. is_participant tx i ≡ true) is → list_any p is ≡ true → list_any q is ≡ true
    from [] named e = e
    from (i ∷ is) named e = by (p i) refl (λ rest. from is named.1 rest)
      where
        by : (t : Bool) → p i ≡ t → (list_any p is ≡ true → list_any q is ≡ true) → (q i || list_any q is) ≡ true
        by true here later = ap (λ t. t || list_any q is) (each i named.0 here)
        by false here later = ap (λ t. q i || t) (later (sym (ap (λ t. t || list_any p is) here) ∙ e)) ∙ or_true (q i)

-- ---- a fact takes a slot of its transaction

-- the slots of a transaction of which some is taken
abbrev some_taken : Slots → TxParts → Bool
some_taken slots tx = list_any (λ i. taken (slots tx i)) (participants tx)

promise_takes : (g : Slots) (tx : TxParts) (i b : ℕ) → plays_at_acceptor g (Fact.Promise tx i b) ≡ true
    → some_taken (λ other j. after_fact other j (g other j) (Fact.Promise tx i b)) tx ≡ true
promise_takes g tx i b e =
    let lt = ltb-true (g tx i).mbal b (second_so (is_participant tx i) (ltb (g tx i).mbal b) e) in
    member (λ j. taken (after_fact tx j (g tx j) (Fact.Promise tx i b))) i tx.branches
    (first_so (is_participant tx i) (ltb (g tx i).mbal b) e)
    ((λ k. nat_lt 0 (raised (g tx i).mbal (if instance_eq-same tx i k then Some b else None)) || is_some (latest (g tx i).report None))
    ∙ taken_at (g tx i).mbal (g tx i).report None b (omega (arith, lt)))

accept_takes : (g : Slots) (tx : TxParts) (i b : ℕ) (v : Vote) → plays_at_acceptor g (Fact.Accept tx i b v) ≡ true
    → some_taken (λ other j. after_fact other j (g other j) (Fact.Accept tx i b v)) tx ≡ true
accept_takes g tx i b v e =
    member (λ j. taken (after_fact tx j (g tx j) (Fact.Accept tx i b v))) i tx.branches
    (first_so (is_participant tx i) (leb (g tx i).mbal b)
    (first_so (is_participant tx i && leb (g tx i).mbal b) (not (is_accepted (g tx i) b v)) e))
    ((λ k. nat_lt 0 (raised (g tx i).mbal (if instance_eq-same tx i k then Some b else None))
    || is_some (latest (g tx i).report (if instance_eq-same tx i k then Some (b, v) else None)))
    ∙ or_true (nat_lt 0 (max (g tx i).mbal b)))

all_take : (g : Slots) (tx : TxParts) (b : ℕ) → plays_at_acceptor g (Fact.PromiseAll tx b) ≡ true
    → some_taken (λ other j. after_fact other j (g other j) (Fact.PromiseAll tx b)) tx ≡ true
all_take g tx b e =
    named_any (λ i. nat_lt (g tx i).mbal b) (λ j. taken (after_fact tx j (g tx j) (Fact.PromiseAll tx b))) tx
    (λ i named below.
    (λ k. nat_lt 0 (raised (g tx i).mbal (if and_from (is_participant tx i) (tx_eq tx tx) named (tx_self tx) k then Some b else None))
    || is_some (latest (g tx i).report None))
    ∙ taken_at (g tx i).mbal (g tx i).report None b (omega (arith, ltb-true (g tx i).mbal b below)))
    e

takes : (g : Slots) (fact : Fact) → plays_at_acceptor g fact ≡ true
    → some_taken (λ other j. after_fact other j (g other j) fact) (fact_tx fact) ≡ true
takes g (Fact.Promise tx i b) e = promise_takes g tx i b e
takes g (Fact.Accept tx i b v) e = accept_takes g tx i b v e
takes g (Fact.PromiseAll tx b) e = all_take g tx b e
takes g (Fact.Ballot tx b) e = absurd (true≢false (sym e))
takes g (Fact.VotePrepared tx keys) e = absurd (true≢false (sym e))
takes g (Fact.VoteAborted tx) e = absurd (true≢false (sym e))
takes g (Fact.Committed tx) e = absurd (true≢false (sym e))
takes g (Fact.Aborted tx) e = absurd (true≢false (sym e))

-- ---- facts that play

still_taken : (before more : List Fact) (tx : TxParts) → some_taken (slot before) tx ≡ true → some_taken (slot (before ++ more)) tx ≡ true
still_taken before [] tx e = subst (λ (fs : List Fact). some_taken (slot fs) tx ≡ true) (sym (append-nil before)) e
still_taken before (fact ∷ more) tx e =
    subst (λ (fs : List Fact). some_taken (slot fs) tx ≡ true) (append_assoc before (fact ∷ []) more)
    (still_taken (before ++ fact ∷ []) more tx
    (any_more (λ i. taken (slot before tx i)) (λ i. taken (slot (before ++ fact ∷ []) tx i))
    (λ i h. ap taken (slot_more before fact tx i) ∙ taken_then tx i (slot before tx i) fact h) (participants tx) e))

module _ (config : Config) (number : ℕ) where
  taken_from : (before more : List Fact) (tx : TxParts) → all_play config (A number) before more ≡ true
      → list_any (λ fact. tx_eq tx (fact_tx fact)) more ≡ true → some_taken (slot (before ++ more)) tx ≡ true
  taken_from before [] tx play there = absurd (true≢false (sym there))
  taken_from before (fact ∷ more) tx play there =
      by (tx_eq tx (fact_tx fact)) refl
      (λ rest. taken_from (before ++ fact ∷ []) more tx
      (second_so (plays config (A number) before fact) (all_play config (A number) (before ++ fact ∷ []) more) play) rest)
    where
      goes_on : some_taken (slot ((before ++ fact ∷ []) ++ more)) tx ≡ true → some_taken (slot (before ++ fact ∷ more)) tx ≡ true
      goes_on h = subst (λ (fs : List Fact). some_taken (slot fs) tx ≡ true) (append_assoc before (fact ∷ []) more) h

      fits : plays config (A number) before fact ≡ true
      fits = first_so (plays config (A number) before fact) (all_play config (A number) (before ++ fact ∷ []) more) play

      by : (t : Bool) → tx_eq tx (fact_tx fact) ≡ t
          → (list_any (λ f. tx_eq tx (fact_tx f)) more ≡ true → some_taken (slot ((before ++ fact ∷ []) ++ more)) tx ≡ true)
          → some_taken (slot (before ++ fact ∷ more)) tx ≡ true
      by true e later =
          goes_on (still_taken (before ++ fact ∷ []) more tx
          (subst (λ (x : TxParts). some_taken (slot (before ++ fact ∷ [])) x ≡ true) (sym ((tx_decides tx (fact_tx fact)).0 e))
          ((λ k. some_taken (λ other j. slot_more before fact other j k) (fact_tx fact)) ∙ takes (slot before) fact fits)))
      by false e later = goes_on (later (sym (ap (λ t. t || list_any (λ f. tx_eq tx (fact_tx f)) more) e) ∙ there))

  -- of a transaction that has begun some slot is taken
  pub begun_taken : (facts : List Fact) → all_play config (A number) [] facts ≡ true → (tx : TxParts)
      → list_any (tx_eq tx) (begun_in facts) ≡ true → some_taken (slot facts) tx ≡ true
  begun_taken facts play tx there = taken_from [] facts tx play (sym (first_any fact_tx tx facts) ∙ there)

-- of one that hasn't, each is at first
not_first : (a b : Bool) → (a || b) ≡ false → (a ≡ false) × (b ≡ false)
not_first false b e = (refl, e)
not_first true b e = absurd (true≢false e)

still_empty : (before more : List Fact) (tx : TxParts) (i : ℕ) → slot before tx i ≡ empty_slot
    → list_any (λ fact. tx_eq tx (fact_tx fact)) more ≡ false → slot (before ++ more) tx i ≡ empty_slot
still_empty before [] tx i e none = (λ k. slot (append-nil before k) tx i) ∙ e
still_empty before (fact ∷ more) tx i e none =
    let parts = not_first (tx_eq tx (fact_tx fact)) (list_any (λ f. tx_eq tx (fact_tx f)) more) none in
    (λ k. slot (sym (append_assoc before (fact ∷ []) more) k) tx i)
    ∙ still_empty (before ++ fact ∷ []) more tx i
    (slot_more before fact tx i ∙ stays tx i (slot before tx i) fact parts.0 ∙ e) parts.1

-- the slots of a transaction that hasn't begun are empty
pub unbegun_empty : (facts : List Fact) (tx : TxParts) (i : ℕ) → list_any (tx_eq tx) (begun_in facts) ≡ false → slot facts tx i ≡ empty_slot
unbegun_empty facts tx i none = still_empty [] facts tx i refl (sym (first_any fact_tx tx facts) ∙ none)

-- ---- the facts of a shorter record

module _ (slots : Slots) (tx : TxParts) where
  abbrev IsOf : Fact → Type 0
  IsOf fact = fact_tx fact ≡ tx

  accept_of_it : (i : ℕ) (o : Report) → AllByRecursion IsOf (accept_facts tx i o)
  accept_of_it i None = tt
  accept_of_it i (Some last) = (refl, tt)

  promise_of_it : (i m : ℕ) (t : Bool) → AllByRecursion IsOf (if t then Fact.Promise tx i m ∷ [] else [])
  promise_of_it i m true = (refl, tt)
  promise_of_it i m false = tt

  each_of_it : (h : ℕ → List Fact) → ((i : ℕ) → AllByRecursion IsOf (h i)) → (is : List ℕ) → AllByRecursion IsOf (flat_map h is)
  each_of_it h each [] = tt
  each_of_it h each (i ∷ is) = all_joined IsOf (h i) (flat_map h is) (each i) (each_of_it h each is)

  common_of_it : (b : ℕ) (t : Bool) → AllByRecursion IsOf (if t then Fact.PromiseAll tx b ∷ [] else [])
  common_of_it b true = (refl, tt)
  common_of_it b false = tt

  all_of_it : AllByRecursion IsOf (transaction_facts slots tx)
  all_of_it =
      all_joined IsOf (accepts_of slots tx) (common_facts tx (common_ballot slots tx) ++ promises_of slots tx)
      (each_of_it (λ i. accept_facts tx i (slots tx i).report) (λ i. accept_of_it i (slots tx i).report) (participants tx))
      (all_joined IsOf (common_facts tx (common_ballot slots tx)) (promises_of slots tx)
      (common_of_it (common_ballot slots tx) (nat_lt 0 (common_ballot slots tx)))
      (each_of_it (λ i. promise_facts tx (common_ballot slots tx) i (slots tx i))
      (λ i. promise_of_it i (slots tx i).mbal
      (nat_lt (max (accepted_ballot (slots tx i).report) (common_ballot slots tx)) (slots tx i).mbal))
      (participants tx)))

  none_first : (xs ys : List Fact) → xs ++ ys ≡ [] → (xs ≡ []) × (ys ≡ [])
  none_first [] ys e = (refl, e)
  none_first (x ∷ xs) ys e = absurd (cc (e))

  each_none : (h : ℕ → List Fact) (is : List ℕ) → flat_map h is ≡ [] → AllByRecursion (λ i. h i ≡ []) is
  each_none h [] empty = tt
  each_none h (i ∷ is) empty =
      let parts = none_first (h i) (flat_map h is) empty in
      (parts.0, each_none h is parts.1)

  common_none : (b : ℕ) (t : Bool) → nat_lt 0 b ≡ t → (if t then Fact.PromiseAll tx b ∷ [] else []) ≡ [] → b ≤ 0
  common_none b true e empty = absurd (cc (empty))
  common_none b false e empty = ltb-false 0 b e

  slot_none : (common i m : ℕ) (o : Report) → common ≤ 0 → accept_facts tx i o ≡ []
      → promise_facts tx common i (record { mbal = m; report = o }) ≡ [] → (nat_lt 0 m || is_some o) ≡ false
  slot_none common i m (Some last) le accept empty = absurd (cc (accept))
  slot_none common i m None le accept empty = by (nat_lt (max 0 common) m) refl empty
    where
      by : (t : Bool) → nat_lt (max 0 common) m ≡ t → (if t then Fact.Promise tx i m ∷ [] else []) ≡ [] → (nat_lt 0 m || false) ≡ false
      by true e empty = absurd (cc (empty))
      by false e empty =
          ap (λ (t : Bool). t || false) (le-ltb 0 m (omega (arith, le, ltb-false (max 0 common) m e)))

  none_taken : (common : ℕ) (is : List ℕ) → common ≤ 0 → AllByRecursion (λ i. accept_facts tx i (slots tx i).report ≡ []) is
      → AllByRecursion (λ i. promise_facts tx common i (slots tx i) ≡ []) is → list_any (λ i. taken (slots tx i)) is ≡ false
  none_taken common [] le accepts promises = refl
  none_taken common (i ∷ is) le accepts promises =
      ap (λ (t : Bool). t || list_any (λ n. taken (slots tx n)) is)
      (slot_none common i (slots tx i).mbal (slots tx i).report le accepts.0 promises.0)
      ∙ none_taken common is le accepts.1 promises.1

  some_facts : some_taken slots tx ≡ true → transaction_facts slots tx ≡ [] → ⊥
  some_facts e empty =
      let common = common_ballot slots tx in
      let both = none_first (accepts_of slots tx) (common_facts tx common ++ promises_of slots tx) empty in
      let rest = none_first (common_facts tx common) (promises_of slots tx) both.1 in
      true≢false (sym e ∙ none_taken common (participants tx) (common_none common (nat_lt 0 common) refl rest.0)
      (each_none (λ i. accept_facts tx i (slots tx i).report) (participants tx) both.0)
      (each_none (λ i. promise_facts tx common i (slots tx i)) (participants tx) rest.1))

  part_seen : (seen : List TxParts) (facts : List Fact) → AllByRecursion IsOf facts → (facts ≡ [] → ⊥)
      → fold (seen_after fact_tx) seen facts ≡ seen_with seen tx
  part_seen seen [] each some = absurd (some refl)
  part_seen seen (fact ∷ facts) each some = fold_same fact_tx seen tx fact facts each.0 each.1

  pub transaction_seen : (seen : List TxParts) → some_taken slots tx ≡ true
      → fold (seen_after fact_tx) seen (transaction_facts slots tx) ≡ seen_with seen tx
  transaction_seen seen e = part_seen seen (transaction_facts slots tx) all_of_it (some_facts e)

compacted_seen : (slots : Slots) (txs seen : List TxParts) → AllByRecursion (λ tx. some_taken slots tx ≡ true) txs
    → fold (seen_after fact_tx) seen (compacted txs slots) ≡ fold seen_with seen txs
compacted_seen slots [] seen each = refl
compacted_seen slots (tx ∷ txs) seen each =
    fold_both fact_tx seen (transaction_facts slots tx) (compacted txs slots)
    ∙ ap (λ s. fold (seen_after fact_tx) s (compacted txs slots)) (transaction_seen slots tx seen each.0)
    ∙ compacted_seen slots txs (seen_with seen tx) each.1

-- they begin in the same order
pub compacted_begun : (slots : Slots) (txs : List TxParts) → IsDistinct tx_eq txs → ((tx : TxParts) → list_any (tx_eq tx) txs ≡ true
    → some_taken slots tx ≡ true) → begun_in (compacted txs slots) ≡ txs
compacted_begun slots txs once held = compacted_seen slots txs [] (each txs (λ tx e. held tx e)) ∙ seen_all [] txs once
  where
    each : (ys : List TxParts) → ((tx : TxParts) → list_any (tx_eq tx) ys ≡ true → some_taken slots tx ≡ true)
        → AllByRecursion (λ tx. some_taken slots tx ≡ true) ys
    each [] there = tt
    each (y ∷ ys) there = (
      there y (ap (λ t. t || list_any (tx_eq y) ys) (tx_self y)),
      each ys (λ tx e. there tx (ap (λ t. tx_eq tx y || t) e ∙ or_true (tx_eq tx y))),
    )
