-- The frames of a shorter record are together no longer than those of the facts that it says.
-- Needed by Compacting; crate node_core.
use Rattle.std.proofs.Common.{◌≡◌, ◌∙◌, ◌==◌, ℕ, ◌+◌, ◌<◌, ◌≤◌, max, Bool, true, false, ◌&&◌, ◌||◌, ltb, leb, not, List, [], ◌∷◌, ◌++◌}
use Rattle.std.proofs.Common.{map, sum, Some, None, refl, sym, ap, subst, append_assoc, append-nil, arith}
use Rattle.std.specs.Prelude.{if◌then◌else◌}
use Rattle.std.specs.List.{AllByRecursion, IsDistinct, list_any, flat_map}
use Rattle.std.specs.Cmp.{unsigned_Decides, first_so, second_so}
use Rattle.std.proofs.lemmas.Bool.{ltb-true, ltb-false, leb-true, lt-ltb, le-ltb, eq-eqb, eqb-true, and_from, or_right, true≢false}
use Rattle.std.proofs.lemmas.List.Kept.{AllPairs-from_increasing}
use Rattle.std.proofs.lemmas.Map.Keys.{IsDistinct-head, IsDistinct-tail}
use Rattle.std.proofs.lemmas.Map.Made.{IsDistinct-from_AllPairs}
use Rattle.xid.specs.Transactions.{TxParts, IsTx, participants, is_participant, tx_eq}
use Rattle.xid.specs.declared.transaction.Vote.{Vote}
use Rattle.xid.proofs.Deciding.{tx_self, tx_decides}
use Rattle.ballot.specs.declared.slot.Slot.{Slot}
use Rattle.ballot.specs.Slots.{empty_slot}
use Rattle.stable_record.specs.declared.fact.FactKind.{FactKind as Fact}
use Rattle.stable_record.specs.Facts.{fact_tx}
use Rattle.stable_record.specs.Frames.{frame_length}
use Rattle.stable_record.proofs.Lengths.{length_both, length_of, length_sum}
use Rattle.transactions.specs.Seen.{seen_with}
use Rattle.transactions.proofs.First.{first_more, first_once, first_any}
use Rattle.protocol.specs.declared.nodes.NodeId.TheVariants.{A}
use Rattle.protocol.specs.Acceptors.{Slots, plays_at_acceptor, is_accepted, is_some_below}
use Rattle.protocol.specs.Effects.{Config}
use Rattle.protocol.specs.Facts.{instance_eq, slot}
use Rattle.protocol.specs.Nodes.{plays, all_play}
use Rattle.protocol.proofs.Same.{instance_eq-same}
use Rattle.acceptor.specs.Slots.{after_fact, raised, latest}
use Rattle.acceptor.specs.Acceptors.{begun_in}
use Rattle.acceptor.specs.Compaction.{accepted_ballot, accept_facts, least, least_ballot, is_promised, common_ballot, common_facts}
use Rattle.acceptor.specs.Compaction.{promise_facts, accepts_of, promises_of, transaction_facts, compacted, shorter_facts}
use Rattle.acceptor.proofs.Begun.{unbegun_empty}
use Rattle.acceptor.proofs.Instances.{each_named}
use Rattle.acceptor.proofs.Least.{least_all, least_more, least_above}
use Rattle.acceptor.proofs.Played.{slot_more, stays}

-- ---- sums

-- a number of each instance, together
abbrev total : (ℕ → ℕ) → List ℕ → ℕ
total f [] = 0
total f (i ∷ is) = f i + total f is

length_flat : (h : ℕ → List Fact) (is : List ℕ) → length_of (flat_map h is) ≡ total (λ i. length_of (h i)) is
length_flat h [] = refl
length_flat h (i ∷ is) = length_both (h i) (flat_map h is) ∙ ap (λ n. length_of (h i) + n) (length_flat h is)

total_same : (f h : ℕ → ℕ) (is : List ℕ) → ((i : ℕ) → f i ≡ h i) → total f is ≡ total h is
total_same f h [] each = refl
total_same f h (i ∷ is) each = λ k. each i k + total_same f h is each k

total_none : (is : List ℕ) → total (λ i. 0) is ≡ 0
total_none [] = refl
total_none (i ∷ is) = omega (arith, total_none is)

total_each : (f h : ℕ → ℕ) (is : List ℕ) → AllByRecursion (λ i. f i ≤ h i) is → total f is ≤ total h is
total_each f h [] each = omega arith
total_each f h (i ∷ is) each = omega (arith, each.0, total_each f h is each.1)

-- where no instance but one has more
total_one : (f h : ℕ → ℕ) (i more : ℕ) (is : List ℕ) → IsDistinct ◌==◌ is → ((j : ℕ) → (j == i) ≡ false → f j ≤ h j) → f i ≤ h i + more
    → total f is ≤ total h is + more
total_one f h i more [] once others this = omega arith
total_one f h i more (j ∷ js) once others this =
    by (j == i) refl (total_one f h i more js (IsDistinct-tail ◌==◌ j js once) others this)
  where
    apart : (n : ℕ) → (i == n) ≡ false → (n == i) ≡ false
    apart n e = by (n == i) refl
      where
        by : (t : Bool) → (n == i) ≡ t → t ≡ false
        by true same = absurd (true≢false (sym (eq-eqb i n (sym (eqb-true n i same))) ∙ e))
        by false same = refl

    all_others : (ns : List ℕ) → j ≡ i → AllByRecursion (λ n. (j == n) ≡ false) ns → AllByRecursion (λ n. f n ≤ h n) ns
    all_others [] same each = tt
    all_others (n ∷ ns) same each =
        (others n (apart n (ap (λ k. k == n) (sym same) ∙ each.0)), all_others ns same each.1)

    by : (t : Bool) → (j == i) ≡ t → total f js ≤ total h js + more → f j + total f js ≤ (h j + total h js) + more
    by true e rest =
        let same : j ≡ i = eqb-true j i e in
        let here : f j ≤ h j + more = subst (λ n. f n ≤ h n + more) (sym same) this in
        omega (arith, here, total_each f h js (all_others js same (IsDistinct-head ◌==◌ j js once)))
    by false e rest = omega (arith, others j e, rest)

-- ---- what promises cost

module _ (q : ℕ) where
  -- the promise of a single instance, where it took part in a ballot above one
  abbrev above : ℕ → Slot → ℕ
  above b s = if ltb (max (accepted_ballot s.report) b) s.mbal then q + 2 else 0

  -- the promise for all, if it is above ballot 0
  abbrev whole : ℕ → ℕ
  whole b = if ltb 0 b then q else 0

  abbrev cost : ℕ → (ℕ → Slot) → List ℕ → ℕ
  cost b s is = whole b + total (λ i. above b (s i)) is

  above_less : (b c : ℕ) (s r : Slot) → (max (accepted_ballot s.report) b < s.mbal → max (accepted_ballot r.report) c < r.mbal)
      → above b s ≤ above c r
  above_less b c s r so = by (ltb (max (accepted_ballot s.report) b) s.mbal) refl
    where
      by : (t : Bool) → ltb (max (accepted_ballot s.report) b) s.mbal ≡ t → (if t then q + 2 else 0) ≤ above c r
      by true e =
          subst (λ (t : Bool). q + 2 ≤ (if t then q + 2 else 0)) (sym (lt-ltb _ _ (so (ltb-true _ _ e)))) (omega arith)
      by false e = omega arith

  above_most : (b : ℕ) (s : Slot) → above b s ≤ q + 2
  above_most b s = by (ltb (max (accepted_ballot s.report) b) s.mbal)
    where
      by : (t : Bool) → (if t then q + 2 else 0) ≤ q + 2
      by true = omega arith
      by false = omega arith

  above_none : (b : ℕ) (s : Slot) → s.mbal ≤ max (accepted_ballot s.report) b → above b s ≡ 0
  above_none b s le = ap (λ (t : Bool). if t then q + 2 else 0) (le-ltb _ _ le)

  above_some : (b : ℕ) (s : Slot) → max (accepted_ballot s.report) b < s.mbal → above b s ≡ q + 2
  above_some b s lt = ap (λ (t : Bool). if t then q + 2 else 0) (lt-ltb _ _ lt)

  whole_most : (b : ℕ) → whole b ≤ q
  whole_most b = by (ltb 0 b)
    where
      by : (t : Bool) → (if t then q else 0) ≤ q
      by true = omega arith
      by false = omega arith

  -- a greater ballot leaves fewer above it
  fewer_above : (b c : ℕ) (s : ℕ → Slot) (is : List ℕ) → b ≤ c → total (λ i. above c (s i)) is ≤ total (λ i. above b (s i)) is
  fewer_above b c s [] le = omega arith
  fewer_above b c s (i ∷ is) le =
      let one = above_less c b (s i) (s i) (λ lt. omega (arith, le, lt)) in
      omega (arith, one, fewer_above b c s is le)

  not_first : (a b : Bool) → (a || b) ≡ false → (a ≡ false) × (b ≡ false)
  not_first false b e = (refl, e)
  not_first true b e = absurd (true≢false e)

  -- where no instance at the least ballot accepted only below it
  none_promised : (m b : ℕ) (s : ℕ → Slot) (is : List ℕ) → b ≤ m → AllByRecursion (λ i. m ≤ (s i).mbal) is
      → list_any (λ i. is_promised m (s i)) is ≡ false → total (λ i. above 0 (s i)) is ≤ total (λ i. above b (s i)) is
  none_promised m b s [] le each none = omega arith
  none_promised m b s (i ∷ is) le each none =
      let parts = not_first (is_promised m (s i)) (list_any (λ n. is_promised m (s n)) is) none in
      let one = above_less 0 b (s i) (s i) (λ lt. higher parts.0 lt) in
      omega (arith, one, none_promised m b s is le each.1 parts.1)
    where
      higher : is_promised m (s i) ≡ false → max (accepted_ballot (s i).report) 0 < (s i).mbal
          → max (accepted_ballot (s i).report) b < (s i).mbal
      higher unmet lt = by (ltb m (s i).mbal) refl
        where
          by : (t : Bool) → ltb m (s i).mbal ≡ t → max (accepted_ballot (s i).report) b < (s i).mbal
          by true e = omega (arith, lt, le, ltb-true _ _ e)
          by false e =
              let same : (s i).mbal ≡ m = omega (arith, ltb-false _ _ e, each.0) in
              let low : accepted_ballot (s i).report < m = omega (arith, lt, same) in
              absurd (true≢false (sym (and_from ((s i).mbal == m) (ltb (accepted_ballot (s i).report) m) (eq-eqb _ _ same) (lt-ltb _ _ low))
              ∙ unmet))

  -- where some did, one promise for all is in the place of its own
  some_promised : (m b : ℕ) (s : ℕ → Slot) (is : List ℕ) → b < m → list_any (λ i. is_promised m (s i)) is ≡ true
      → total (λ i. above m (s i)) is + (q + 2) ≤ total (λ i. above b (s i)) is
  some_promised m b s [] lt some = absurd (true≢false (sym some))
  some_promised m b s (i ∷ is) lt some = by (is_promised m (s i)) refl (λ rest. some_promised m b s is lt rest)
    where
      by : (t : Bool) → is_promised m (s i) ≡ t
          → (list_any (λ n. is_promised m (s n)) is ≡ true
          → total (λ n. above m (s n)) is + (q + 2) ≤ total (λ n. above b (s n)) is)
          → (above m (s i) + total (λ n. above m (s n)) is) + (q + 2) ≤ above b (s i) + total (λ n. above b (s n)) is
      by true e later =
          let at : (s i).mbal ≡ m = eqb-true _ _ (first_so ((s i).mbal == m) (ltb (accepted_ballot (s i).report) m) e) in
          let low = ltb-true _ _ (second_so ((s i).mbal == m) (ltb (accepted_ballot (s i).report) m) e) in
          let none = above_none m (s i) (omega (arith, at)) in
          let one = above_some b (s i) (omega (arith, at, low, lt)) in
          omega (arith, none, one, fewer_above b m s is (omega (arith, lt)))
      by false e later =
          let one = above_less m b (s i) (s i) (λ higher. omega (arith, lt, higher)) in
          omega (arith, one, later (sym (ap (λ t. t || list_any (λ n. is_promised m (s n)) is) e) ∙ some))

  -- no ballot at or below the least of all costs less than the one that is chosen
  best : (s : ℕ → Slot) (is : List ℕ) (b : ℕ) → b ≤ least (map (λ i. (s i).mbal) is)
      → cost (if list_any (λ i. is_promised (least (map (λ n. (s n).mbal) is)) (s i)) is then least (map (λ n. (s n).mbal) is) else 0) s is
      ≤ cost b s is
  best s is b le = by (list_any (λ i. is_promised (least (map (λ n. (s n).mbal) is)) (s i)) is) refl
    where
      m : ℕ
      m = least (map (λ n. (s n).mbal) is)

      by : (t : Bool) → list_any (λ i. is_promised m (s i)) is ≡ t → cost (if t then m else 0) s is ≤ cost b s is
      by false e = omega (arith, none_promised m b s is le (least_all (λ n. (s n).mbal) is) e)
      by true e = at (ltb b m) refl
        where
          at : (t : Bool) → ltb b m ≡ t → cost m s is ≤ cost b s is
          at true lt = omega (arith, whole_most m, some_promised m b s is (ltb-true b m lt) e)
          at false ge =
              let same : b ≡ m = omega (arith, le, ltb-false b m ge) in
              subst (λ n. cost m s is ≤ cost n s is) (sym same) (omega arith)

-- ---- one transaction

-- the length of what is kept of what its instances accepted
abbrev accepts_length : Slots → TxParts → ℕ
accepts_length slots tx = total (λ i. length_of (accept_facts tx i (slots tx i).report)) (participants tx)

-- the length of a promise for all
abbrev all_length : TxParts → ℕ
all_length tx = frame_length (Fact.PromiseAll tx 0)

module _ (slots : Slots) (tx : TxParts) where
  common_length : (b : ℕ) → length_of (common_facts tx b) ≡ whole (all_length tx) b
  common_length b = by (ltb 0 b)
    where
      by : (t : Bool) → length_of (if t then Fact.PromiseAll tx b ∷ [] else []) ≡ (if t then all_length tx else 0)
      by true = omega arith
      by false = refl

  promise_length : (b i : ℕ) (s : Slot) → length_of (promise_facts tx b i s) ≡ above (all_length tx) b s
  promise_length b i s = by (ltb (max (accepted_ballot s.report) b) s.mbal)
    where
      by : (t : Bool) → length_of (if t then Fact.Promise tx i s.mbal ∷ [] else []) ≡ (if t then all_length tx + 2 else 0)
      by true = omega arith
      by false = refl

  -- the length of the facts of a transaction
  length_is : length_of (transaction_facts slots tx)
      ≡ accepts_length slots tx + cost (all_length tx) (common_ballot slots tx) (slots tx) (participants tx)
  length_is =
      let common = common_ballot slots tx in
      length_both (accepts_of slots tx) (common_facts tx common ++ promises_of slots tx)
      ∙ (λ k. length_flat (λ i. accept_facts tx i (slots tx i).report) (participants tx) k
      + length_both (common_facts tx common) (promises_of slots tx) k)
      ∙ (λ k. accepts_length slots tx + (common_length common k + promised common k))
    where
      promised : (b : ℕ) → length_of (flat_map (λ i. promise_facts tx b i (slots tx i)) (participants tx))
          ≡ total (λ i. above (all_length tx) b (slots tx i)) (participants tx)
      promised b =
          length_flat (λ i. promise_facts tx b i (slots tx i)) (participants tx)
          ∙ total_same (λ i. length_of (promise_facts tx b i (slots tx i))) (λ i. above (all_length tx) b (slots tx i)) (participants tx)
          (λ i. promise_length b i (slots tx i))

  -- it is no longer than with another ballot at or below the least
  length_most : (b : ℕ) → b ≤ least_ballot slots tx
      → length_of (transaction_facts slots tx) ≤ accepts_length slots tx + cost (all_length tx) b (slots tx) (participants tx)
  length_most b le = omega (arith, length_is, best (all_length tx) (slots tx) (participants tx) b le)

-- the ballot of the promise for all is at or below the least
common_least : (slots : Slots) (tx : TxParts) → common_ballot slots tx ≤ least_ballot slots tx
common_least slots tx = by (list_any (λ i. is_promised (least_ballot slots tx) (slots tx i)) (participants tx))
  where
    by : (t : Bool) → (if t then least_ballot slots tx else 0) ≤ least_ballot slots tx
    by true = omega arith
    by false = omega arith

-- ---- one fact more

-- slots after a fact
abbrev after : Slots → Fact → Slots
after slots fact tx i = after_fact tx i (slots tx i) fact

instances_once : (tx : TxParts) → IsTx tx → IsDistinct ◌==◌ (participants tx)
instances_once tx valid = IsDistinct-from_AllPairs unsigned_Decides (participants tx) (λ i j d lt within e.
    absurd (omega (arith, e, AllPairs-from_increasing (participants tx) valid.branches.ascending i j d lt within)))

-- what a fact of one instance leaves of another
other_instance : (tx : TxParts) (i j : ℕ) → (j == i) ≡ false → instance_eq tx j tx i ≡ false
other_instance tx i j e = ap (λ t. t && tx_eq tx tx) e

-- nothing that is joined lowers a ballot
raised_more : (m b : ℕ) (t : Bool) → m ≤ raised m (if t then Some b else None)
raised_more m b true = omega arith
raised_more m b false = omega arith

promise_step : (slots : Slots) (tx : TxParts) (i b : ℕ) → IsTx tx
    → length_of (transaction_facts (after slots (Fact.Promise tx i b)) tx)
    ≤ length_of (transaction_facts slots tx) + frame_length (Fact.Promise tx i b)
promise_step slots tx i b valid =
    let next = after slots (Fact.Promise tx i b) in
    let common = common_ballot slots tx in
    let higher = least_more (λ j. (slots tx j).mbal) (λ j. (next tx j).mbal) (participants tx)
    (λ j. raised_more (slots tx j).mbal b (instance_eq tx j tx i)) in
    let most = length_most next tx common (omega (arith, higher, common_least slots tx)) in
    let promises = total_one (λ j. above q common (next tx j)) (λ j. above q common (slots tx j)) i (q + 2) (participants tx)
    (instances_once tx valid) others (omega (arith, above_most q common (next tx i))) in
    omega (arith, most, promises, length_is slots tx)
  where
    q : ℕ
    q = all_length tx

    others : (j : ℕ) → (j == i) ≡ false
        → above q (common_ballot slots tx) (after slots (Fact.Promise tx i b) tx j) ≤ above q (common_ballot slots tx) (slots tx j)
    others j e =
        subst (λ (t : Bool). above q (common_ballot slots tx) (record {
          mbal = raised (slots tx j).mbal (if t then Some b else None);
          report = (slots tx j).report;
        }) ≤ above q (common_ballot slots tx) (slots tx j)) (sym (other_instance tx i j e)) (omega arith)

accept_step : (slots : Slots) (tx : TxParts) (i b : ℕ) (v : Vote) → IsTx tx → (slots tx i).mbal ≤ b
    → length_of (transaction_facts (after slots (Fact.Accept tx i b v)) tx)
    ≤ length_of (transaction_facts slots tx) + frame_length (Fact.Accept tx i b v)
accept_step slots tx i b v valid le =
    let next = after slots (Fact.Accept tx i b v) in
    let common = common_ballot slots tx in
    let higher = least_more (λ j. (slots tx j).mbal) (λ j. (next tx j).mbal) (participants tx)
    (λ j. raised_more (slots tx j).mbal b (instance_eq tx j tx i)) in
    let most = length_most next tx common (omega (arith, higher, common_least slots tx)) in
    let promises = total_one (λ j. above q common (next tx j)) (λ j. above q common (slots tx j)) i 0 (participants tx)
    (instances_once tx valid) (λ j e. others j e) (omega (arith, accepted)) in
    let accepts = total_one (λ j. length_of (accept_facts tx j (next tx j).report)) (λ j. length_of (accept_facts tx j (slots tx j).report))
    i (q + 3) (participants tx) (instances_once tx valid) (λ j e. same_accept j e) (omega (arith, longer)) in
    omega (arith, most, promises, accepts, length_is slots tx)
  where
    q : ℕ
    q = all_length tx

    -- an instance after the fact
    then_at : ℕ → Bool → Slot
    then_at j t = record {
      mbal = raised (slots tx j).mbal (if t then Some b else None);
      report = latest (slots tx j).report (if t then Some (b, v) else None);
    }

    others : (j : ℕ) → (j == i) ≡ false
        → above q (common_ballot slots tx) (after slots (Fact.Accept tx i b v) tx j) ≤ above q (common_ballot slots tx) (slots tx j)
    others j e =
        subst (λ (t : Bool). above q (common_ballot slots tx) (then_at j t) ≤ above q (common_ballot slots tx) (slots tx j))
        (sym (other_instance tx i j e)) (omega arith)

    accepted : above q (common_ballot slots tx) (after slots (Fact.Accept tx i b v) tx i) ≡ 0
    accepted =
        subst (λ (t : Bool). above q (common_ballot slots tx) (then_at i t) ≡ 0) (sym (instance_eq-same tx i))
        (above_none q (common_ballot slots tx) (then_at i true) (omega (arith, le)))

    same_accept : (j : ℕ) → (j == i) ≡ false
        → length_of (accept_facts tx j (after slots (Fact.Accept tx i b v) tx j).report) ≤ length_of (accept_facts tx j (slots tx j).report)
    same_accept j e =
        subst (λ (t : Bool). length_of (accept_facts tx j (then_at j t).report) ≤ length_of (accept_facts tx j (slots tx j).report))
        (sym (other_instance tx i j e)) (omega arith)

    longer : length_of (accept_facts tx i (after slots (Fact.Accept tx i b v) tx i).report) ≡ q + 3
    longer =
        subst (λ (t : Bool). length_of (accept_facts tx i (then_at i t).report) ≡ q + 3) (sym (instance_eq-same tx i)) (omega arith)

all_step : (slots : Slots) (tx : TxParts) (b : ℕ) → is_some_below slots tx b ≡ true
    → length_of (transaction_facts (after slots (Fact.PromiseAll tx b)) tx)
    ≤ length_of (transaction_facts slots tx) + frame_length (Fact.PromiseAll tx b)
all_step slots tx b some =
    let next = after slots (Fact.PromiseAll tx b) in
    let named = each_named tx.branches tx.branches (λ c e. e) in
    let most = length_most next tx b
    (least_above (λ j. (next tx j).mbal) b (λ j. ltb (slots tx j).mbal b) (participants tx) some (raised_all (participants tx) named)) in
    let promises = total_each (λ j. above q b (next tx j)) (λ j. above q (common_ballot slots tx) (slots tx j)) (participants tx)
    (fewer (participants tx) named) in
    omega (arith, most, promises, whole_most q b, length_is slots tx)
  where
    q : ℕ
    q = all_length tx

    -- an instance after the fact
    then_at : ℕ → Bool → Slot
    then_at j t = record { mbal = raised (slots tx j).mbal (if t then Some b else None); report = (slots tx j).report }

    joins : (j : ℕ) → is_participant tx j ≡ true → (is_participant tx j && tx_eq tx tx) ≡ true
    joins j named = and_from (is_participant tx j) (tx_eq tx tx) named (tx_self tx)

    raised_all : (is : List ℕ) → AllByRecursion (λ j. is_participant tx j ≡ true) is
        → AllByRecursion (λ j. b ≤ (after slots (Fact.PromiseAll tx b) tx j).mbal) is
    raised_all [] named = tt
    raised_all (j ∷ js) named = (
      subst (λ (t : Bool). b ≤ (then_at j t).mbal) (sym (joins j named.0)) (omega arith),
      raised_all js named.1,
    )

    -- some instance stands below it, so the promise for all that was kept does
    common_below : common_ballot slots tx < b
    common_below = from (participants tx) some (least_all (λ j. (slots tx j).mbal) (participants tx))
      where
        from : (is : List ℕ) → list_any (λ j. ltb (slots tx j).mbal b) is ≡ true
            → AllByRecursion (λ j. least_ballot slots tx ≤ (slots tx j).mbal) is → common_ballot slots tx < b
        from [] some each = absurd (true≢false (sym some))
        from (j ∷ js) some each = by (ltb (slots tx j).mbal b) refl (λ rest. from js rest each.1)
          where
            by : (t : Bool) → ltb (slots tx j).mbal b ≡ t
                → (list_any (λ n. ltb (slots tx n).mbal b) js ≡ true → common_ballot slots tx < b) → common_ballot slots tx < b
            by true e later = omega (arith, ltb-true _ _ e, each.0, common_least slots tx)
            by false e later = later (sym (ap (λ t. t || list_any (λ n. ltb (slots tx n).mbal b) js) e) ∙ some)

    fewer : (is : List ℕ) → AllByRecursion (λ j. is_participant tx j ≡ true) is
        → AllByRecursion (λ j. above q b (after slots (Fact.PromiseAll tx b) tx j) ≤ above q (common_ballot slots tx) (slots tx j)) is
    fewer [] named = tt
    fewer (j ∷ js) named = (
      subst (λ (t : Bool). above q b (then_at j t) ≤ above q (common_ballot slots tx) (slots tx j)) (sym (joins j named.0))
          (above_less q b (common_ballot slots tx) (then_at j true) (slots tx j) (λ lt. omega (arith, lt, common_below))),
      fewer js named.1,
    )

-- a fact that plays lengthens what is kept of its transaction by its own frame at most
step : (slots : Slots) (fact : Fact) → IsTx (fact_tx fact) → plays_at_acceptor slots fact ≡ true
    → length_of (transaction_facts (after slots fact) (fact_tx fact))
    ≤ length_of (transaction_facts slots (fact_tx fact)) + frame_length fact
step slots (Fact.Promise tx i b) valid fits = promise_step slots tx i b valid
step slots (Fact.Accept tx i b v) valid fits =
    let both = first_so (is_participant tx i && leb (slots tx i).mbal b) (not (is_accepted (slots tx i) b v)) fits in
    accept_step slots tx i b v valid (leb-true _ _ (second_so (is_participant tx i) (leb (slots tx i).mbal b) both))
step slots (Fact.PromiseAll tx b) valid fits = all_step slots tx b fits
step slots (Fact.Ballot tx b) valid fits = absurd (true≢false (sym fits))
step slots (Fact.VotePrepared tx keys) valid fits = absurd (true≢false (sym fits))
step slots (Fact.VoteAborted tx) valid fits = absurd (true≢false (sym fits))
step slots (Fact.Committed tx) valid fits = absurd (true≢false (sym fits))
step slots (Fact.Aborted tx) valid fits = absurd (true≢false (sym fits))

-- and leaves what is kept of others
same_of : (slots : Slots) (fact : Fact) (tx : TxParts) → tx_eq tx (fact_tx fact) ≡ false
    → transaction_facts (after slots fact) tx ≡ transaction_facts slots tx
same_of slots fact tx e = λ k. transaction_facts (λ other i. stays tx i (slots tx i) fact e k) tx

module _ (slots : Slots) (fact : Fact) where
  others_same : (tx : TxParts) (txs : List TxParts) → tx_eq tx (fact_tx fact) ≡ true → AllByRecursion (λ y. tx_eq tx y ≡ false) txs
      → compacted txs (after slots fact) ≡ compacted txs slots
  others_same tx [] same each = refl
  others_same tx (y ∷ ys) same each = λ k. same_of slots fact y other k ++ others_same tx ys same each.1 k
    where
      other : tx_eq y (fact_tx fact) ≡ false
      other = by (tx_eq y (fact_tx fact)) refl
        where
          by : (t : Bool) → tx_eq y (fact_tx fact) ≡ t → t ≡ false
          by true e =
              let one = (tx_decides tx (fact_tx fact)).0 same ∙ sym ((tx_decides y (fact_tx fact)).0 e) in
              absurd (true≢false (sym ((tx_decides tx y).1 one) ∙ each.0))
          by false e = refl

  -- what is kept of some transactions
  grows : (txs : List TxParts) → IsDistinct tx_eq txs → IsTx (fact_tx fact) → plays_at_acceptor slots fact ≡ true
      → length_of (compacted txs (after slots fact)) ≤ length_of (compacted txs slots) + frame_length fact
  grows [] once valid fits = omega arith
  grows (tx ∷ txs) once valid fits =
      by (tx_eq tx (fact_tx fact)) refl (grows txs (IsDistinct-tail tx_eq tx txs once) valid fits)
    where
      by : (t : Bool) → tx_eq tx (fact_tx fact) ≡ t
          → length_of (compacted txs (after slots fact)) ≤ length_of (compacted txs slots) + frame_length fact
          → length_of (compacted (tx ∷ txs) (after slots fact)) ≤ length_of (compacted (tx ∷ txs) slots) + frame_length fact
      by true e left =
          let now = length_both (transaction_facts slots tx) (compacted txs slots) in
          let later = length_both (transaction_facts (after slots fact) tx) (compacted txs (after slots fact)) in
          let rest = ap length_of (others_same tx txs e (IsDistinct-head tx_eq tx txs once)) in
          let one =
          subst (λ x. length_of (transaction_facts (after slots fact) x) ≤ length_of (transaction_facts slots x) + frame_length fact)
          (sym ((tx_decides tx (fact_tx fact)).0 e)) (step slots fact valid fits) in
          omega (arith, now, later, rest, one)
      by false e left =
          let now = length_both (transaction_facts slots tx) (compacted txs slots) in
          let later = length_both (transaction_facts (after slots fact) tx) (compacted txs (after slots fact)) in
          let one = ap length_of (same_of slots fact tx e) in
          omega (arith, now, later, one, left)

-- ---- all facts

-- nothing is kept of slots at first
none_kept : (slots : Slots) (tx : TxParts) → ((i : ℕ) → slots tx i ≡ empty_slot) → length_of (transaction_facts slots tx) ≤ 0
none_kept slots tx empty =
    let accepts : accepts_length slots tx ≡ 0 =
    total_same (λ i. length_of (accept_facts tx i (slots tx i).report)) (λ i. 0) (participants tx)
    (λ i. ap (λ (s : Slot). length_of (accept_facts tx i s.report)) (empty i))
    ∙ total_none (participants tx) in
    let promises : total (λ i. above (all_length tx) 0 (slots tx i)) (participants tx) ≡ 0 =
    total_same (λ i. above (all_length tx) 0 (slots tx i)) (λ i. 0) (participants tx) (λ i. ap (above (all_length tx) 0) (empty i))
    ∙ total_none (participants tx) in
    omega (arith, length_most slots tx 0 (omega arith), accepts, promises)

-- a transaction that hasn't begun adds nothing
seen_same : (before : List Fact) (tx : TxParts)
    → length_of (compacted (seen_with (begun_in before) tx) (slot before)) ≤ length_of (shorter_facts before)
seen_same before tx = by (list_any (tx_eq tx) (begun_in before)) refl
  where
    one_more : (txs : List TxParts) (kept : ℕ) → length_of (transaction_facts (slot before) tx) ≤ 0
        → length_of (compacted (txs ++ tx ∷ []) (slot before)) ≤ length_of (compacted txs (slot before))
    one_more [] kept none =
        omega (arith, length_both (transaction_facts (slot before) tx) [], none)
    one_more (y ∷ ys) kept none =
        omega (
          arith,
          length_both (transaction_facts (slot before) y) (compacted (ys ++ tx ∷ []) (slot before)),
          length_both (transaction_facts (slot before) y) (compacted ys (slot before)),
          one_more ys kept none,
        )

    by : (t : Bool) → list_any (tx_eq tx) (begun_in before) ≡ t
        → length_of (compacted (if t then begun_in before else begun_in before ++ tx ∷ []) (slot before)) ≤ length_of (shorter_facts before)
    by true e = omega arith
    by false e = one_more (begun_in before) 0 (none_kept (slot before) tx (λ i. unbegun_empty before tx i e))

one_fact : (before : List Fact) (fact : Fact) → IsTx (fact_tx fact) → plays_at_acceptor (slot before) fact ≡ true
    → length_of (shorter_facts (before ++ fact ∷ [])) ≤ length_of (shorter_facts before) + frame_length fact
one_fact before fact valid plays =
    let txs = begun_in (before ++ fact ∷ []) in
    let slots = ap length_of (λ k. compacted txs (λ tx i. slot_more before fact tx i k)) in
    let seen = ap (λ ys. length_of (compacted ys (slot before))) (first_more fact_tx before fact) in
    omega (
      arith,
      slots,
      seen,
      grows (slot before) fact txs (first_once fact_tx (before ++ fact ∷ [])) valid plays,
      seen_same before (fact_tx fact),
    )

module _ (config : Config) (number : ℕ) where
  from : (before more : List Fact) → all_play config (A number) before more ≡ true → AllByRecursion (λ fact. IsTx (fact_tx fact)) more
      → length_of (shorter_facts before) ≤ length_of before → length_of (shorter_facts (before ++ more)) ≤ length_of (before ++ more)
  from before [] play valid le =
      subst (λ (fs : List Fact). length_of (shorter_facts fs) ≤ length_of fs) (sym (append-nil before)) le
  from before (fact ∷ more) play valid le =
      subst (λ (fs : List Fact). length_of (shorter_facts fs) ≤ length_of fs) (append_assoc before (fact ∷ []) more)
      (from (before ++ fact ∷ []) more
      (second_so (plays config (A number) before fact) (all_play config (A number) (before ++ fact ∷ []) more) play) valid.1
      (omega (
        arith,
        le,
        length_both before (fact ∷ []),
        one_fact before fact valid.0
            (first_so (plays config (A number) before fact) (all_play config (A number) (before ++ fact ∷ []) more) play),
      )))

  -- the frames of a shorter record are together no longer than those of the facts
  pub no_longer : (facts : List Fact) → all_play config (A number) [] facts ≡ true → AllByRecursion (λ fact. IsTx (fact_tx fact)) facts
      → sum (map frame_length (shorter_facts facts)) ≤ sum (map frame_length facts)
  no_longer facts play valid =
      omega (arith, from [] facts play valid (omega arith), length_sum facts, length_sum (shorter_facts facts))

-- where the transactions that facts begin are valid, each fact is of a valid one
valid_tx : (txs : List TxParts) (tx : TxParts) → AllByRecursion IsTx txs → list_any (tx_eq tx) txs ≡ true → IsTx tx
valid_tx [] tx each there = absurd (true≢false (sym there))
valid_tx (y ∷ ys) tx each there = by (tx_eq tx y) refl (λ rest. valid_tx ys tx each.1 rest)
  where
    by : (t : Bool) → tx_eq tx y ≡ t → (list_any (tx_eq tx) ys ≡ true → IsTx tx) → IsTx tx
    by true e later = subst IsTx (sym ((tx_decides tx y).0 e)) each.0
    by false e later = later (sym (ap (λ t. t || list_any (tx_eq tx) ys) e) ∙ there)

-- facts about transactions that hold together do
pub each_valid : (facts : List Fact) → AllByRecursion IsTx (begun_in facts) → AllByRecursion (λ fact. IsTx (fact_tx fact)) facts
each_valid facts valid = rest_valid facts (λ tx there. there)
  where
    rest_valid : (rest : List Fact) → ((tx : TxParts) → list_any (λ x. tx_eq tx (fact_tx x)) rest ≡ true
        → list_any (λ x. tx_eq tx (fact_tx x)) facts ≡ true) → AllByRecursion (λ fact. IsTx (fact_tx fact)) rest
    rest_valid [] sub = tt
    rest_valid (fact ∷ rest) sub = (
      valid_tx (begun_in facts) (fact_tx fact) valid
          (first_any fact_tx (fact_tx fact) facts
          ∙ sub (fact_tx fact) (ap (λ t. t || list_any (λ x. tx_eq (fact_tx fact) (fact_tx x)) rest) (tx_self (fact_tx fact)))),
      rest_valid rest (λ tx there. sub tx (or_right (tx_eq tx (fact_tx fact)) _ there)),
    )
