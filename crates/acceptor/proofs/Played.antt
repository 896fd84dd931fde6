-- The slots after a fact that plays, and those that the facts with it say.
-- Needed by `Table::change`; Begun, Compacting, Lengths, Rows and Standing.
use Rattle.std.proofs.Common.{◌≡◌, ◌≢◌, ◌∙◌, ◌==◌, ℕ, ◌<◌, ◌≤◌, max, Bool, true, false, not, ◌&&◌, cond, ltb, leb, List, [], ◌∷◌, ◌++◌}
use Rattle.std.proofs.Common.{length, get_or, set, map, Option, Some, None, refl, sym, ap, arith}
use Rattle.std.specs.Prelude.{filter_map}
use Rattle.std.specs.List.{last_or, cons_option}
use Rattle.std.proofs.lemmas.Bool.{ltb-true, ltb-false, leb-true, eqb-true, eq-eqb, le-ltb, true≢false}
use Rattle.std.proofs.lemmas.List.{get_or_past, get_or-map, get_or-set_same, get_or-set_other, length-set, length-map}
use Rattle.std.proofs.lemmas.List.Elements.{filter_map-append}
use Rattle.std.proofs.lemmas.List.Sums.{passes_at_first, prefix_len-le-length}
use Rattle.std.specs.Cmp.{first_so, second_so}
use Rattle.xid.specs.Transactions.{TxParts, is_at, is_participant, tx_eq}
use Rattle.xid.specs.declared.transaction.Vote.{Vote}
use Rattle.xid.proofs.Deciding.{tx_self}
use Rattle.ballot.specs.Greatest.{greatest}
use Rattle.ballot.specs.Choice.{Report}
use Rattle.ballot.specs.declared.slot.Slot.{Slot}
use Rattle.ballot.specs.Slots.{empty_slot, promised, accepted_in}
use Rattle.stable_record.specs.declared.fact.FactKind.{FactKind as Fact}
use Rattle.stable_record.specs.Facts.{fact_tx}
use Rattle.transactions.proofs.Keys.{absent_from_place, present_from_place}
use Rattle.protocol.specs.Facts.{ballot_joined, accept_of, instance_eq, slot}
use Rattle.protocol.specs.Acceptors.{Slots, plays_at_acceptor, is_accepted}
use Rattle.acceptor.specs.Slots.{place_of, slot_at, slot_of, slots_of, slots_after, raised, latest, after_fact}
use Rattle.acceptor.proofs.Instances.{blank}

-- ---- one more fact

greatest_first : (m : ℕ) (o : Option ℕ) (g all : ℕ) → all ≡ raised g o → max m all ≡ raised (max m g) o
greatest_first m None g all e = ap (max m) e
greatest_first m (Some n) g all e = ap (max m) e ∙ omega arith

greatest_more : (o : Option ℕ) (ns : List ℕ) → greatest (ns ++ cons_option o []) ≡ raised (greatest ns) o
greatest_more None [] = refl
greatest_more (Some n) [] = omega arith
greatest_more o (m ∷ ns) = greatest_first m o (greatest ns) (greatest (ns ++ cons_option o [])) (greatest_more o ns)

last_more : (o before : Report) (xs : List (ℕ × Vote)) → last_or before (xs ++ cons_option o []) ≡ latest (last_or before xs) o
last_more None before [] = refl
last_more (Some x) before [] = refl
last_more o before (x ∷ xs) = last_more o (Some x) xs

-- a slot after one fact more
pub slot_more : (facts : List Fact) (fact : Fact) (tx : TxParts) (i : ℕ)
    → slot (facts ++ fact ∷ []) tx i ≡ after_fact tx i (slot facts tx i) fact
slot_more facts fact tx i =
    let ballots = ap greatest (filter_map-append (ballot_joined tx i) facts (fact ∷ []))
    ∙ greatest_more (ballot_joined tx i fact) (filter_map (ballot_joined tx i) facts) in
    let reports = ap (last_or None) (filter_map-append (accept_of tx i) facts (fact ∷ []))
    ∙ last_more (accept_of tx i fact) None (filter_map (accept_of tx i) facts) in
    λ j. record { mbal = ballots j; report = reports j }

-- ---- one slot

promised_is : (s : Slot) (b : ℕ) → promised b s ≡ record { mbal = max s.mbal b; report = s.report }
promised_is s b = by (ltb s.mbal b) refl
  where
    by : (t : Bool) → ltb s.mbal b ≡ t → cond t (record s { mbal = b }) s ≡ record { mbal = max s.mbal b; report = s.report }
    by true e =
        let lt = ltb-true s.mbal b e in
        let m : b ≡ max s.mbal b = omega arith in
        λ j. record { mbal = m j; report = s.report }
    by false e =
        let le : b ≤ s.mbal = ltb-false s.mbal b e in
        let m : s.mbal ≡ max s.mbal b = omega arith in
        λ j. record { mbal = m j; report = s.report }

accepted_is : (s : Slot) (b : ℕ) (v : Vote) → leb s.mbal b ≡ true → accepted_in b v s ≡ record { mbal = max s.mbal b; report = Some (b, v) }
accepted_is s b v e =
    let le = leb-true s.mbal b e in
    let m : b ≡ max s.mbal b = omega arith in
    ap (λ t. cond t s (record { mbal = b; report = Some (b, v) })) (le-ltb b s.mbal le)
    ∙ (λ j. record { mbal = m j; report = Some (b, v) })

-- ---- the slots of a transaction

and_true : (b : Bool) → (b && true) ≡ b
and_true true = refl
and_true false = refl

and_false : (s : Bool) {t : Bool} → t ≡ false → (s && t) ≡ false
and_false true e = e
and_false false e = refl

-- two instances at one place are one
one_instance : (tx : TxParts) (i j : ℕ) → place_of tx j < length tx.branches → place_of tx i ≡ place_of tx j → i ≡ j
one_instance tx i j lt e =
    let at_j = passes_at_first (is_at j) tx.branches blank lt in
    let at_i = passes_at_first (is_at i) tx.branches blank (omega (arith, lt, e)) in
    let same = ap (λ (n : ℕ). (get_or tx.branches n blank).rm) e in
    sym (eqb-true _ i at_i) ∙ same ∙ eqb-true _ j at_j

place_below : (tx : TxParts) (j : ℕ) → is_participant tx j ≡ true → place_of tx j < length tx.branches
place_below tx j e = by (ltb (place_of tx j) (length tx.branches)) refl
  where
    by : (t : Bool) → ltb (place_of tx j) (length tx.branches) ≡ t → place_of tx j < length tx.branches
    by true t = ltb-true _ _ t
    by false t =
        let full : place_of tx j ≡ length tx.branches =
        omega (arith, ltb-false _ _ t, prefix_len-le-length (λ b. not (is_at j b)) tx.branches) in
        absurd (true≢false (sym e ∙ absent_from_place (is_at j) tx.branches full))

module _ (tx : TxParts) (slots : List Slot) (i j : ℕ) (named : is_participant tx j ≡ true) (whole : length slots ≡ length tx.branches)
    (new : Slot) where
  pub set_same : i ≡ j → slot_of tx (set slots (place_of tx j) new) i ≡ new
  set_same e =
      ap (λ n. slot_at (set slots (place_of tx j) new) (place_of tx n)) e
      ∙ get_or-set_same slots (place_of tx j) new empty_slot (omega (arith, whole, place_below tx j named))

  pub set_other : i ≢ j → slot_of tx (set slots (place_of tx j) new) i ≡ slot_of tx slots i
  set_other apart =
      get_or-set_other slots (place_of tx j) (place_of tx i) new empty_slot
      (λ e. apart (one_instance tx i j (place_below tx j named) e))

-- where a slot of one instance is set to what a fact of it leads to
set_leads : (tx : TxParts) (slots : List Slot) (i j : ℕ) (new : Slot) (joined : Option ℕ) (given : Report) → is_participant tx j ≡ true
    → length slots ≡ length tx.branches
    → new ≡ record { mbal = raised (slot_of tx slots j).mbal joined; report = latest (slot_of tx slots j).report given }
    → slot_of tx (set slots (place_of tx j) new) i
    ≡ record {
      mbal = raised (slot_of tx slots i).mbal (cond (instance_eq tx i tx j) joined None);
      report = latest (slot_of tx slots i).report (cond (instance_eq tx i tx j) given None);
    }
set_leads tx slots i j new joined given named whole e = by (i == j) refl
  where
    self : instance_eq tx i tx j ≡ (i == j)
    self = ap (λ t. (i == j) && t) (tx_self tx) ∙ and_true (i == j)

    leads : Bool → Slot
    leads t = record {
      mbal = raised (slot_of tx slots i).mbal (cond t joined None);
      report = latest (slot_of tx slots i).report
          (cond t given None);
    }

    by : (t : Bool) → (i == j) ≡ t → slot_of tx (set slots (place_of tx j) new) i ≡ leads (instance_eq tx i tx j)
    by true t =
        let same = eqb-true i j t in
        set_same tx slots i j named whole new same ∙ e
        ∙ ap (λ n. record { mbal = raised (slot_of tx slots n).mbal joined; report = latest (slot_of tx slots n).report given }) (sym same)
        ∙ ap leads (sym (self ∙ t))
    by false t = set_other tx slots i j named whole new (λ e. true≢false (sym (eq-eqb i j e) ∙ t)) ∙ ap leads (sym (self ∙ t))

abbrev none_reported : Report
none_reported = None

-- what is given where a test passes, and nothing else
none_given : (t : Bool) → cond t None None ≡ none_reported
none_given true = refl
none_given false = refl

module _ (slots : List Slot) (i : ℕ) where
  promise_leads : (tx : TxParts) (b : ℕ) → length slots ≡ length tx.branches
      → slot_of tx (map (promised b) slots) i ≡ after_fact tx i (slot_of tx slots i) (Fact.PromiseAll tx b)
  promise_leads tx b whole = by (ltb (place_of tx i) (length tx.branches)) refl
    where
      leads : Bool → Slot
      leads t = record { mbal = raised (slot_of tx slots i).mbal (cond t (Some b) None); report = (slot_of tx slots i).report }

      joins : (t : Bool) → is_participant tx i ≡ t → leads (is_participant tx i && tx_eq tx tx) ≡ leads t
      joins t e = ap leads (ap (λ s. is_participant tx i && s) (tx_self tx) ∙ and_true (is_participant tx i) ∙ e)

      by : (t : Bool) → ltb (place_of tx i) (length tx.branches) ≡ t
          → slot_of tx (map (promised b) slots) i ≡ leads (is_participant tx i && tx_eq tx tx)
      by true t =
          let lt = ltb-true _ _ t in
          get_or-map (promised b) slots (place_of tx i) empty_slot empty_slot (omega (arith, lt, whole))
          ∙ promised_is (slot_of tx slots i) b
          ∙ sym (joins true (present_from_place (is_at i) tx.branches lt))
      by false t =
          let full : place_of tx i ≡ length tx.branches =
          omega (arith, ltb-false _ _ t, prefix_len-le-length (λ branch. not (is_at i branch)) tx.branches) in
          let len : length (map (promised b) slots) ≡ length slots = length-map slots (promised b) in
          get_or_past (map (promised b) slots) (place_of tx i) empty_slot (omega (arith, len, whole, full))
          ∙ sym (get_or_past slots (place_of tx i) empty_slot (omega (arith, whole, full)))
          ∙ sym (joins false (absent_from_place (is_at i) tx.branches full))

  -- slots that a fact changes are what it makes of them
  pub leads_to : (fact : Fact) → length slots ≡ length (fact_tx fact).branches → plays_at_acceptor (slots_of (fact_tx fact) slots) fact
      ≡ true
      → slot_of (fact_tx fact) (slots_after (fact_tx fact) slots fact) i ≡ after_fact (fact_tx fact) i (slot_of (fact_tx fact) slots i) fact
  leads_to (Fact.Promise tx j b) whole plays =
      let named = first_so (is_participant tx j) (ltb (slot_of tx slots j).mbal b) plays in
      set_leads tx slots i j (promised b (slot_of tx slots j)) (Some b) None named whole (promised_is (slot_of tx slots j) b)
      ∙ (λ k. record {
        mbal = raised (slot_of tx slots i).mbal (cond (instance_eq tx i tx j) (Some b) None);
        report = latest (slot_of tx slots i).report (none_given (instance_eq tx i tx j) k);
      })
  leads_to (Fact.Accept tx j b v) whole plays =
      let both = first_so (is_participant tx j && leb (slot_of tx slots j).mbal b) (not (is_accepted (slot_of tx slots j) b v)) plays in
      let named = first_so (is_participant tx j) (leb (slot_of tx slots j).mbal b) both in
      let le = second_so (is_participant tx j) (leb (slot_of tx slots j).mbal b) both in
      set_leads tx slots i j (accepted_in b v (slot_of tx slots j)) (Some b) (Some (b, v)) named whole (accepted_is
      (slot_of tx slots j) b v le)
  leads_to (Fact.PromiseAll tx b) whole plays = promise_leads tx b whole
  leads_to (Fact.Ballot tx b) whole plays = absurd (true≢false (sym plays))
  leads_to (Fact.VotePrepared tx keys) whole plays = absurd (true≢false (sym plays))
  leads_to (Fact.VoteAborted tx) whole plays = absurd (true≢false (sym plays))
  leads_to (Fact.Committed tx) whole plays = absurd (true≢false (sym plays))
  leads_to (Fact.Aborted tx) whole plays = absurd (true≢false (sym plays))

-- ---- the slots of other transactions stay

-- a fact of another transaction leaves a slot
pub stays : (tx : TxParts) (i : ℕ) (s : Slot) (fact : Fact) → tx_eq tx (fact_tx fact) ≡ false → after_fact tx i s fact ≡ s
stays tx i s (Fact.Promise other j b) e = ap (λ t. record { mbal = raised s.mbal (cond t (Some b) None); report = s.report }) (and_false
    (i == j) e)
stays tx i s (Fact.Accept other j b v) e =
    ap (λ t. record { mbal = raised s.mbal (cond t (Some b) None); report = latest s.report (cond t (Some (b, v)) None) }) (and_false
    (i == j) e)
stays tx i s (Fact.PromiseAll other b) e =
    ap (λ t. record { mbal = raised s.mbal (cond t (Some b) None); report = s.report }) (and_false (is_participant tx i) e)
stays tx i s (Fact.Ballot other b) e = refl
stays tx i s (Fact.VotePrepared other keys) e = refl
stays tx i s (Fact.VoteAborted other) e = refl
stays tx i s (Fact.Committed other) e = refl
stays tx i s (Fact.Aborted other) e = refl

-- as many slots after a fact
pub whole_after : (tx : TxParts) (slots : List Slot) (fact : Fact) → length (slots_after tx slots fact) ≡ length slots
whole_after tx slots (Fact.Promise other j b) = length-set slots (place_of tx j) (promised b (slot_of tx slots j))
whole_after tx slots (Fact.Accept other j b v) = length-set slots (place_of tx j) (accepted_in b v (slot_of tx slots j))
whole_after tx slots (Fact.PromiseAll other b) = length-map slots (promised b)
whole_after tx slots (Fact.Ballot other b) = refl
whole_after tx slots (Fact.VotePrepared other keys) = refl
whole_after tx slots (Fact.VoteAborted other) = refl
whole_after tx slots (Fact.Committed other) = refl
whole_after tx slots (Fact.Aborted other) = refl

-- ---- the condition of a fact asks of its own transaction alone

-- whether a fact plays is asked of its own transaction's slots
pub plays_alone : (slots : Slots) (fact : Fact) → plays_at_acceptor (λ _. slots (fact_tx fact)) fact ≡ plays_at_acceptor slots fact
plays_alone slots (Fact.Promise tx j b) = refl
plays_alone slots (Fact.Accept tx j b v) = refl
plays_alone slots (Fact.PromiseAll tx b) = refl
plays_alone slots (Fact.Ballot tx b) = refl
plays_alone slots (Fact.VotePrepared tx keys) = refl
plays_alone slots (Fact.VoteAborted tx) = refl
plays_alone slots (Fact.Committed tx) = refl
plays_alone slots (Fact.Aborted tx) = refl
