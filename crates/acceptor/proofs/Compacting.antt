-- The facts of a compacted record play, and lead each slot to where it stands.
-- Needed by `Acceptor::shorter`.
use Rattle.std.proofs.Common.{◌≡◌, ◌∙◌, ◌==◌, ℕ, ◌<◌, ◌≤◌, max, Bool, true, false, not, ◌&&◌, ◌||◌, ltb, leb, List, [], ◌∷◌, ◌++◌, length}
use Rattle.std.proofs.Common.{Some, None, refl, sym, ap, subst, append_assoc, arith, map, sum}
use Rattle.std.specs.Prelude.{if◌then◌else◌}
use Rattle.std.specs.List.{AllByRecursion, IsDistinct, list_any, flat_map}
use Rattle.std.specs.Cmp.{unsigned_Decides, first_so, second_so}
use Rattle.std.proofs.lemmas.Bool.{ltb-true, ltb-false, lt-ltb, le-leb, eq-eqb, eqb-true, and_from, true≢false}
use Rattle.std.proofs.Math.Bool.{and-false}
use Rattle.std.proofs.lemmas.List.{append-nil, get_or_past}
use Rattle.std.proofs.lemmas.List.Kept.{AllPairs-from_increasing}
use Rattle.std.proofs.lemmas.Map.Keys.{IsDistinct-head, IsDistinct-tail}
use Rattle.std.proofs.lemmas.Map.Made.{IsDistinct-from_AllPairs}
use Rattle.xid.specs.Transactions.{TxParts, BranchParts, IsTx, is_at, participants, rm_numbers, is_participant, tx_eq}
use Rattle.xid.specs.declared.transaction.Vote.{Vote}
use Rattle.xid.proofs.Deciding.{tx_self, tx_decides}
use Rattle.ballot.specs.declared.slot.Slot.{Slot}
use Rattle.ballot.specs.Choice.{Report}
use Rattle.ballot.specs.Slots.{empty_slot}
use Rattle.stable_record.specs.declared.fact.FactKind.{FactKind as Fact}
use Rattle.stable_record.specs.Facts.{fact_tx}
use Rattle.stable_record.specs.Frames.{frame_length}
use Rattle.transactions.specs.Seen.{place_in}
use Rattle.transactions.proofs.First.{first_both, first_once}
use Rattle.transactions.proofs.Keys.{present_from_place}
use Rattle.protocol.specs.declared.nodes.NodeId.TheVariants.{A}
use Rattle.protocol.specs.Acceptors.{Slots, plays_at_acceptor, is_accepted, is_some_below}
use Rattle.protocol.specs.Effects.{Config}
use Rattle.protocol.specs.Facts.{instance_eq, slot}
use Rattle.protocol.specs.Nodes.{plays, all_play}
use Rattle.protocol.proofs.Manager.Played.{all_play_then}
use Rattle.acceptor.specs.Slots.{place_of, slot_of, after_fact, raised, latest}
use Rattle.acceptor.specs.SlotTables.{TableParts, IsSeen, IsTable, slots_in, slot_in}
use Rattle.acceptor.specs.Acceptors.{AcceptorParts, StandsFor, begun_in}
use Rattle.acceptor.specs.Compaction.{accepted_ballot, accept_facts, least_ballot, is_promised, common_ballot, common_facts}
use Rattle.acceptor.specs.Compaction.{promise_facts, accepts_of, promises_of, transaction_facts, compacted, IsCompacted, shorter_facts}
use Rattle.acceptor.proofs.Begun.{begun_taken, unbegun_empty, compacted_begun, named_any}
use Rattle.acceptor.proofs.Instances.{each_named}
use Rattle.acceptor.proofs.Least.{common_low}
use Rattle.acceptor.proofs.Lengths.{no_longer, each_valid}
use Rattle.acceptor.proofs.Played.{slot_more}

-- ---- slots of facts, with more after them

-- what leads to the same slots still does with more facts after it
pub same_after : (a b more : List Fact) → ((tx : TxParts) (i : ℕ) → slot a tx i ≡ slot b tx i) → (tx : TxParts) (i : ℕ)
    → slot (a ++ more) tx i ≡ slot (b ++ more) tx i
same_after a b [] same tx i = (λ k. slot (append-nil a k) tx i) ∙ same tx i ∙ (λ k. slot (sym (append-nil b) k) tx i)
same_after a b (fact ∷ more) same tx i =
    (λ k. slot (sym (append_assoc a (fact ∷ []) more) k) tx i)
    ∙ same_after (a ++ fact ∷ []) (b ++ fact ∷ []) more
    (λ other j. slot_more a fact other j ∙ ap (λ s. after_fact other j s fact) (same other j) ∙ sym (slot_more b fact other j)) tx i
    ∙ (λ k. slot (append_assoc b (fact ∷ []) more k) tx i)

-- what was accepted last is in a ballot no greater than the greatest
abbrev IsLow : Slot → Type 0
IsLow s = accepted_ballot s.report ≤ s.mbal

-- a fact gives a ballot, or nothing
raised_low : (s : Slot) (t : Bool) (b : ℕ) → IsLow s → accepted_ballot s.report ≤ raised s.mbal (if t then Some b else None)
raised_low s true b low = omega (arith, low)
raised_low s false b low = low

accepted_low : (s : Slot) (t : Bool) (b : ℕ) (v : Vote) → IsLow s
    → accepted_ballot (latest s.report (if t then Some (b, v) else None)) ≤ raised s.mbal (if t then Some b else None)
accepted_low s true b v low = omega arith
accepted_low s false b v low = low

low_then : (tx : TxParts) (i : ℕ) (s : Slot) (fact : Fact) → IsLow s → IsLow (after_fact tx i s fact)
low_then tx i s (Fact.Promise other j b) low = raised_low s (instance_eq tx i other j) b low
low_then tx i s (Fact.Accept other j b v) low = accepted_low s (instance_eq tx i other j) b v low
low_then tx i s (Fact.PromiseAll other b) low = raised_low s (is_participant tx i && tx_eq tx other) b low
low_then tx i s (Fact.Ballot other b) low = low
low_then tx i s (Fact.VotePrepared other keys) low = low
low_then tx i s (Fact.VoteAborted other) low = low
low_then tx i s (Fact.Committed other) low = low
low_then tx i s (Fact.Aborted other) low = low

low_after : (before more : List Fact) (tx : TxParts) (i : ℕ) → IsLow (slot before tx i) → IsLow (slot (before ++ more) tx i)
low_after before [] tx i low = subst (λ (fs : List Fact). IsLow (slot fs tx i)) (sym (append-nil before)) low
low_after before (fact ∷ more) tx i low =
    subst (λ (fs : List Fact). IsLow (slot fs tx i)) (append_assoc before (fact ∷ []) more)
    (low_after (before ++ fact ∷ []) more tx i
    (subst IsLow (sym (slot_more before fact tx i)) (low_then tx i (slot before tx i) fact low)))

pub is_low : (facts : List Fact) (tx : TxParts) (i : ℕ) → accepted_ballot (slot facts tx i).report ≤ (slot facts tx i).mbal
is_low facts tx i = low_after [] facts tx i (omega arith)

-- ---- one instance

-- an instance that is another is the same one
at_instance : (g : Slots) (other : TxParts) (j : ℕ) (tx : TxParts) (i : ℕ) → instance_eq other j tx i ≡ true → g other j ≡ g tx i
at_instance g other j tx i e =
    let numbers = eqb-true j i (first_so (j == i) (tx_eq other tx) e) in
    let txs = (tx_decides other tx).0 (second_so (j == i) (tx_eq other tx) e) in
    λ k. g (txs k) (numbers k)

-- slots of which one is another
abbrev changed : Slots → TxParts → ℕ → Slot → Slots
changed g tx i s other j = if instance_eq other j tx i then s else g other j

module _ (config : Config) (number : ℕ) where
  -- facts play, and lead to slots
  record Leads (facts : List Fact) (g : Slots) : Type 0 where
    play : all_play config (A number) [] facts ≡ true
    slots_are : (tx : TxParts) (i : ℕ) → slot facts tx i ≡ g tx i

  leads_to_same : {facts : List Fact} {g : Slots} (h : Slots) → Leads facts g → ((tx : TxParts) (i : ℕ) → g tx i ≡ h tx i) → Leads facts h
  leads_to_same h leads same = record { play = leads.play; slots_are = λ tx i. leads.slots_are tx i ∙ same tx i }

  with_one : {facts : List Fact} {g : Slots} (fact : Fact) → Leads facts g → plays_at_acceptor g fact ≡ true
      → Leads (facts ++ fact ∷ []) (λ tx i. after_fact tx i (g tx i) fact)
  with_one {facts} {g} fact leads fits = record {
    play =
        all_play_then config (A number) [] facts fact leads.play
        ((λ k. plays_at_acceptor (λ tx i. leads.slots_are tx i k) fact) ∙ fits);
    slots_are = λ tx i. slot_more facts fact tx i ∙ ap (λ s. after_fact tx i s fact) (leads.slots_are tx i);
  }

  with_promise : {facts : List Fact} {g : Slots} (tx : TxParts) (i b : ℕ) → Leads facts g → is_participant tx i ≡ true
      → (g tx i).mbal < b
      → Leads (facts ++ Fact.Promise tx i b ∷ []) (changed g tx i (record { mbal = b; report = (g tx i).report }))
  with_promise {facts} {g} tx i b leads named lt =
      leads_to_same _ (with_one (Fact.Promise tx i b) leads (and_from (is_participant tx i) (ltb (g tx i).mbal b) named (lt-ltb _ _ lt))) is
    where
      joined : TxParts → ℕ → Bool → Slot
      joined other j t = record { mbal = raised (g other j).mbal (if t then Some b else None); report = (g other j).report }

      is : (other : TxParts) (j : ℕ) → joined other j (instance_eq other j tx i)
          ≡ (if instance_eq other j tx i then record { mbal = b; report = (g tx i).report } else g other j)
      is other j = by (instance_eq other j tx i) refl
        where
          by : (t : Bool) → instance_eq other j tx i ≡ t
              → joined other j t ≡ (if t then record { mbal = b; report = (g tx i).report } else g other j)
          by true e =
              let same = at_instance g other j tx i e in
              let m : max (g tx i).mbal b ≡ b = omega (arith, lt) in
              (λ k. record { mbal = max (same k).mbal b; report = (same k).report })
              ∙ (λ k. record { mbal = m k; report = (g tx i).report })
          by false e = refl

  with_accept : {facts : List Fact} {g : Slots} (tx : TxParts) (i b : ℕ) (v : Vote) → Leads facts g → is_participant tx i ≡ true
      → g tx i ≡ empty_slot
      → Leads (facts ++ Fact.Accept tx i b v ∷ []) (changed g tx i (record { mbal = b; report = Some (b, v) }))
  with_accept {facts} {g} tx i b v leads named empty = leads_to_same _ (with_one (Fact.Accept tx i b v) leads fits) is
    where
      fits : plays_at_acceptor g (Fact.Accept tx i b v) ≡ true
      fits =
          (λ k. (is_participant tx i && leb (empty k).mbal b) && not (is_accepted (empty k) b v))
          ∙ and_from (is_participant tx i && leb 0 b) (not (is_accepted empty_slot b v))
          (and_from (is_participant tx i) (leb 0 b) named (le-leb 0 b (omega arith))) (ap not (and-false (0 == b)))

      given : TxParts → ℕ → Bool → Slot
      given other j t = record {
        mbal = raised (g other j).mbal (if t then Some b else None);
        report = latest (g other j).report (if t then Some (b, v) else None);
      }

      is : (other : TxParts) (j : ℕ) → given other j (instance_eq other j tx i)
          ≡ (if instance_eq other j tx i then record { mbal = b; report = Some (b, v) } else g other j)
      is other j = by (instance_eq other j tx i) refl
        where
          by : (t : Bool) → instance_eq other j tx i ≡ t
              → given other j t ≡ (if t then record { mbal = b; report = Some (b, v) } else g other j)
          by true e =
              let same = at_instance g other j tx i e ∙ empty in
              let m : max 0 b ≡ b = omega arith in
              (λ k. record { mbal = max (same k).mbal b; report = Some (b, v) }) ∙ (λ k. record { mbal = m k; report = Some (b, v) })
          by false e = refl

  -- a promise for all: each instance of the transaction that stands below it is raised
  abbrev leveled : Slots → TxParts → ℕ → Slots
  leveled g tx b other j =
      if is_participant other j && tx_eq other tx then record { mbal = max (g other j).mbal b; report = (g other j).report } else g other j

  with_promise_all : {facts : List Fact} {g : Slots} (tx : TxParts) (b : ℕ) → Leads facts g → is_some_below g tx b ≡ true
      → Leads (facts ++ Fact.PromiseAll tx b ∷ []) (leveled g tx b)
  with_promise_all {facts} {g} tx b leads some =
      leads_to_same _ (with_one (Fact.PromiseAll tx b) leads some) (λ other j. by other j (is_participant other j && tx_eq other tx))
    where
      by : (other : TxParts) (j : ℕ) (t : Bool)
          → record { mbal = raised (g other j).mbal (if t then Some b else None); report = latest (g other j).report None }
          ≡ (if t then record { mbal = max (g other j).mbal b; report = (g other j).report } else g other j)
      by other j true = refl
      by other j false = refl

  -- ---- the facts of one slot

  -- a slot that took part in no ballot but that of what it accepted last
  abbrev at_accept : Report → Slot
  at_accept o = record { mbal = accepted_ballot o; report = o }

  -- the same once it is raised to a ballot
  abbrev at_level : ℕ → Slot → Slot
  at_level b s = record { mbal = max (accepted_ballot s.report) b; report = s.report }

  unchanged : (g : Slots) (tx : TxParts) (i : ℕ) (s : Slot) → g tx i ≡ s → (other : TxParts) (j : ℕ) → g other j ≡ changed g tx i s other j
  unchanged g tx i s e other j = by (instance_eq other j tx i) refl
    where
      by : (t : Bool) → instance_eq other j tx i ≡ t → g other j ≡ (if t then s else g other j)
      by true same = at_instance g other j tx i same ∙ e
      by false same = refl

  with_accepted : {facts : List Fact} {g : Slots} (tx : TxParts) (i : ℕ) (o : Report) → Leads facts g → is_participant tx i ≡ true
      → g tx i ≡ empty_slot → Leads (facts ++ accept_facts tx i o) (changed g tx i (at_accept o))
  with_accepted {facts} {g} tx i None leads named empty =
      subst (λ (fs : List Fact). Leads fs (changed g tx i empty_slot)) (sym (append-nil facts))
      (leads_to_same _ leads (unchanged g tx i empty_slot empty))
  with_accepted tx i (Some last) leads named empty = with_accept tx i last.0 last.1 leads named empty

  with_promised : {facts : List Fact} {g : Slots} (tx : TxParts) (common i : ℕ) (s : Slot) → IsLow s → common ≤ s.mbal → Leads facts g
      → is_participant tx i ≡ true → g tx i ≡ at_level common s → Leads (facts ++ promise_facts tx common i s) (changed g tx i s)
  with_promised {facts} {g} tx common i s low fits leads named at = by (ltb (max (accepted_ballot s.report) common) s.mbal) refl
    where
      by : (t : Bool) → ltb (max (accepted_ballot s.report) common) s.mbal ≡ t
          → Leads (facts ++ (if t then Fact.Promise tx i s.mbal ∷ [] else [])) (changed g tx i s)
      by true e =
          let lt : (g tx i).mbal < s.mbal = subst (λ (x : Slot). x.mbal < s.mbal) (sym at) (ltb-true _ _ e) in
          leads_to_same _ (with_promise tx i s.mbal leads named lt) (λ other j. λ k.
          if instance_eq other j tx i then record { mbal = s.mbal; report = (at k).report } else g other j)
      by false e =
          let m : max (accepted_ballot s.report) common ≡ s.mbal = omega (arith, low, fits, ltb-false _ _ e) in
          let same : g tx i ≡ s = at ∙ (λ k. record { mbal = m k; report = s.report }) in
          subst (λ (fs : List Fact). Leads fs (changed g tx i s)) (sym (append-nil facts)) (leads_to_same _ leads (unchanged g tx i s same))

  -- ---- those of each instance of a transaction

  -- slots of which those of a transaction are others
  abbrev of_tx : Slots → TxParts → (ℕ → Slot) → Slots
  of_tx g tx b other j = if is_participant other j && tx_eq other tx then b j else g other j

  module _ (tx : TxParts) (valid : IsTx tx) (a b : ℕ → Slot) (h : ℕ → List Fact)
      (step : (facts : List Fact) (g : Slots) (i : ℕ) → Leads facts g → is_participant tx i ≡ true → g tx i ≡ a i
      → Leads (facts ++ h i) (changed g tx i (b i))) where
    abbrev among_them : Slots → List ℕ → Slots
    among_them g is other j = if list_any (λ i. instance_eq other j tx i) is then b j else g other j

    each_more : (is : List ℕ) (facts : List Fact) (g : Slots) → Leads facts g → AllByRecursion (λ i. is_participant tx i ≡ true) is
        → AllByRecursion (λ i. g tx i ≡ a i) is → IsDistinct ◌==◌ is → Leads (facts ++ flat_map h is) (among_them g is)
    each_more [] facts g leads named before once = subst (λ (fs : List Fact). Leads fs g) (sym (append-nil facts)) leads
    each_more (i ∷ is) facts g leads named before once =
        subst (λ (fs : List Fact). Leads fs (among_them g (i ∷ is))) (append_assoc facts (h i) (flat_map h is))
        (leads_to_same _
        (each_more is (facts ++ h i) (changed g tx i (b i)) (step facts g i leads named.0 before.0) named.1
        (still is before.1 (IsDistinct-head ◌==◌ i is once)) (IsDistinct-tail ◌==◌ i is once))
        (λ other j. alike other j (instance_eq other j tx i) (list_any (λ n. instance_eq other j tx n) is) refl))
      where
        alike : (other : TxParts) (j : ℕ) (t u : Bool) → instance_eq other j tx i ≡ t
            → (if u then b j else (if t then b i else g other j)) ≡ (if t || u then b j else g other j)
        alike other j true true e = refl
        alike other j true false e = ap b (sym (eqb-true j i (first_so (j == i) (tx_eq other tx) e)))
        alike other j false u e = refl

        apart : (n : ℕ) → (i == n) ≡ false → (n == i) ≡ false
        apart n e = by (n == i) refl
          where
            by : (t : Bool) → (n == i) ≡ t → t ≡ false
            by true same = absurd (true≢false (sym (eq-eqb i n (sym (eqb-true n i same))) ∙ e))
            by false same = refl

        still : (ns : List ℕ) → AllByRecursion (λ n. g tx n ≡ a n) ns → AllByRecursion (λ n. (i == n) ≡ false) ns
            → AllByRecursion (λ n. changed g tx i (b i) tx n ≡ a n) ns
        still [] each other = tt
        still (n ∷ ns) each other = (
          ap (λ t. if t && tx_eq tx tx then b i else g tx n) (apart n other.0) ∙ each.0,
          still ns each.1 other.1,
        )

    -- all of them
    each_leads : (facts : List Fact) (g : Slots) → Leads facts g → ((i : ℕ) → is_participant tx i ≡ true → g tx i ≡ a i)
        → Leads (facts ++ flat_map h (participants tx)) (of_tx g tx b)
    each_leads facts g leads before =
        leads_to_same _
        (each_more (participants tx) facts g leads named (before_all (participants tx) named) ascending)
        (λ other j. ap (λ t. if t then b j else g other j) (among_those other j))
      where
        named : AllByRecursion (λ i. is_participant tx i ≡ true) (participants tx)
        named = each_named tx.branches tx.branches (λ b e. e)

        before_all : (is : List ℕ) → AllByRecursion (λ i. is_participant tx i ≡ true) is → AllByRecursion (λ i. g tx i ≡ a i) is
        before_all [] each = tt
        before_all (i ∷ is) each = (before i each.0, before_all is each.1)

        ascending : IsDistinct ◌==◌ (participants tx)
        ascending = IsDistinct-from_AllPairs unsigned_Decides (participants tx) (λ i j d lt within e.
            absurd (omega (arith, e, AllPairs-from_increasing (participants tx) valid.branches.ascending i j d lt within)))

        -- an instance is one of the transaction's
        among_named : (j : ℕ) (t : Bool) (bs : List BranchParts)
            → list_any (λ i. (j == i) && t) (rm_numbers bs) ≡ (list_any (is_at j) bs && t)
        among_named j t [] = refl
        among_named j t (c ∷ bs) = by t (j == c.rm) (c.rm == j) refl refl (among_named j t bs)
          where
            rest : Bool → Bool
            rest u = list_any (λ i. (j == i) && u) (rm_numbers bs)

            by : (u p q : Bool) → (j == c.rm) ≡ p → (c.rm == j) ≡ q → rest u ≡ (list_any (is_at j) bs && u)
                → ((p && u) || rest u) ≡ ((q || list_any (is_at j) bs) && u)
            by u true true e f r = turned u (rest u) (list_any (is_at j) bs) r
              where
                turned : (u r s : Bool) → r ≡ (s && u) → (u || r) ≡ u
                turned true r s e = refl
                turned false r true e = e
                turned false r false e = e
            by u false false e f r = r
            by u true false e f r = absurd (true≢false (sym (eq-eqb c.rm j (sym (eqb-true j c.rm e))) ∙ f))
            by u false true e f r = absurd (true≢false (sym (eq-eqb j c.rm (sym (eqb-true c.rm j f))) ∙ e))

        swapped : (other : TxParts) (j : ℕ) (t : Bool) → tx_eq other tx ≡ t → (is_participant tx j && t) ≡ (is_participant other j && t)
        swapped other j true e = ap (λ (x : TxParts). is_participant x j && true) (sym ((tx_decides other tx).0 e))
        swapped other j false e = and-false (is_participant tx j) ∙ sym (and-false (is_participant other j))

        among_those : (other : TxParts) (j : ℕ)
            → list_any (λ i. instance_eq other j tx i) (participants tx) ≡ (is_participant other j && tx_eq other tx)
        among_those other j = among_named j (tx_eq other tx) tx.branches ∙ swapped other j (tx_eq other tx) refl

  -- ---- those of one transaction

  module _ (slots : Slots) (low : (tx : TxParts) (i : ℕ) → IsLow (slots tx i)) where
    module _ (tx : TxParts) (valid : IsTx tx) (facts : List Fact) (g : Slots) (leads : Leads facts g)
        (empty : (i : ℕ) → g tx i ≡ empty_slot) where
      abbrev common : ℕ
      common = common_ballot slots tx

      abbrev accepted : ℕ → Slot
      accepted i = at_accept (slots tx i).report

      with_accepts : Leads (facts ++ accepts_of slots tx) (of_tx g tx accepted)
      with_accepts =
          each_leads tx valid (λ i. empty_slot) accepted (λ i. accept_facts tx i (slots tx i).report)
          (λ fs h i l named e. with_accepted tx i (slots tx i).report l named e) facts g leads (λ i named. empty i)

      -- its own instances
      own : (h : Slots) (b : ℕ → Slot) (i : ℕ) → is_participant tx i ≡ true → of_tx h tx b tx i ≡ b i
      own h b i named = ap (λ t. if t then b i else h tx i) (and_from (is_participant tx i) (tx_eq tx tx) named (tx_self tx))

      some_stands_below : (t : Bool) → list_any (λ i. is_promised (least_ballot slots tx) (slots tx i)) (participants tx) ≡ t
          → ltb 0 (if t then least_ballot slots tx else 0) ≡ true
          → is_some_below (of_tx g tx accepted) tx (if t then least_ballot slots tx else 0) ≡ true
      some_stands_below true e some =
          named_any (λ i. is_promised (least_ballot slots tx) (slots tx i))
          (λ i. ltb (of_tx g tx accepted tx i).mbal (least_ballot slots tx)) tx
          (λ i named promised.
          ap (λ (s : Slot). ltb s.mbal (least_ballot slots tx)) (own g accepted i named)
          ∙ second_so ((slots tx i).mbal == least_ballot slots tx)
          (ltb (accepted_ballot (slots tx i).report) (least_ballot slots tx)) promised) e
      some_stands_below false e some = absurd (true≢false (sym some))

      with_common : Leads ((facts ++ accepts_of slots tx) ++ common_facts tx common) (leveled (of_tx g tx accepted) tx common)
      with_common = by (ltb 0 common) refl
        where
          by : (t : Bool) → ltb 0 common ≡ t
              → Leads ((facts ++ accepts_of slots tx) ++ (if t then Fact.PromiseAll tx common ∷ [] else []))
              (leveled (of_tx g tx accepted) tx common)
          by true e = with_promise_all tx common with_accepts (some_stands_below _ refl e)
          by false e =
              subst (λ (fs : List Fact). Leads fs (leveled (of_tx g tx accepted) tx common))
              (sym (append-nil (facts ++ accepts_of slots tx)))
              (leads_to_same _ with_accepts (λ other j. same (of_tx g tx accepted other j) (is_participant other j && tx_eq other tx)))
            where
              same : (s : Slot) (t : Bool) → s ≡ (if t then record { mbal = max s.mbal common; report = s.report } else s)
              same s true =
                  let m : s.mbal ≡ max s.mbal common = omega (arith, ltb-false 0 common e) in
                  λ k. record { mbal = m k; report = s.report }
              same s false = refl

      with_promises : Leads (((facts ++ accepts_of slots tx) ++ common_facts tx common) ++ promises_of slots tx)
          (of_tx (leveled (of_tx g tx accepted) tx common) tx (slots tx))
      with_promises =
          each_leads tx valid (λ i. at_level common (slots tx i)) (slots tx) (λ i. promise_facts tx common i (slots tx i))
          (λ fs h i l named e. with_promised tx common i (slots tx i) (low tx i) (common_low slots tx i named) l named e)
          _ _ with_common
          (λ i named.
          own (of_tx g tx accepted) (λ j. at_level_of common (of_tx g tx accepted tx j)) i named
          ∙ ap (at_level_of common) (own g accepted i named))
        where
          at_level_of : ℕ → Slot → Slot
          at_level_of b s = record { mbal = max s.mbal b; report = s.report }

      with_transaction : Leads (facts ++ transaction_facts slots tx) (of_tx g tx (slots tx))
      with_transaction =
          subst (λ (fs : List Fact). Leads fs (of_tx g tx (slots tx)))
          (append_assoc (facts ++ accepts_of slots tx) (common_facts tx common) (promises_of slots tx)
          ∙ append_assoc facts (accepts_of slots tx) (common_facts tx common ++ promises_of slots tx))
          (leads_to_same _ with_promises (λ other j. over other j (is_participant other j && tx_eq other tx)))
        where
          over : (other : TxParts) (j : ℕ) (t : Bool)
              → (if t then slots tx j else (if t then record {
                mbal = max (if t then accepted j else g other j).mbal common;
                report = (if t then accepted j else g other j).report;
              } else (if t then accepted j else g other j)))
              ≡ (if t then slots tx j else g other j)
          over other j true = refl
          over other j false = refl

    -- ---- those of some transactions

    -- an instance is one of theirs
    abbrev is_among : List TxParts → TxParts → ℕ → Bool
    is_among txs other j = list_any (λ tx. is_participant other j && tx_eq other tx) txs

    all_more : (txs : List TxParts) (facts : List Fact) (g : Slots) → Leads facts g
        → AllByRecursion (λ tx. (i : ℕ) → g tx i ≡ empty_slot) txs → AllByRecursion IsTx txs → IsDistinct tx_eq txs
        → Leads (facts ++ compacted txs slots) (λ other j. if is_among txs other j then slots other j else g other j)
    all_more [] facts g leads new valid once = subst (λ (fs : List Fact). Leads fs g) (sym (append-nil facts)) leads
    all_more (tx ∷ txs) facts g leads new valid once =
        subst (λ (fs : List Fact). Leads fs (λ other j. if is_among (tx ∷ txs) other j then slots other j else g other j))
        (append_assoc facts (transaction_facts slots tx) (compacted txs slots))
        (leads_to_same _
        (all_more txs (facts ++ transaction_facts slots tx) (of_tx g tx (slots tx)) (with_transaction tx valid.0 facts g leads new.0)
        (still_new txs new.1 (IsDistinct-head tx_eq tx txs once)) valid.1 (IsDistinct-tail tx_eq tx txs once))
        (λ other j. one_of other j (is_participant other j && tx_eq other tx) (is_among txs other j) refl))
      where
        one_of : (other : TxParts) (j : ℕ) (t u : Bool) → (is_participant other j && tx_eq other tx) ≡ t
            → (if u then slots other j else (if t then slots tx j else g other j)) ≡ (if t || u then slots other j else g other j)
        one_of other j true true e = refl
        one_of other j true false e =
            ap (λ (x : TxParts). slots x j) (sym ((tx_decides other tx).0 (second_so (is_participant other j) (tx_eq other tx) e)))
        one_of other j false u e = refl

        other_tx : (y : TxParts) → tx_eq tx y ≡ false → tx_eq y tx ≡ false
        other_tx y e = by (tx_eq y tx) refl
          where
            by : (t : Bool) → tx_eq y tx ≡ t → t ≡ false
            by true same = absurd (true≢false (sym ((tx_decides tx y).1 (sym ((tx_decides y tx).0 same))) ∙ e))
            by false same = refl

        still_new : (ys : List TxParts) → AllByRecursion (λ y. (i : ℕ) → g y i ≡ empty_slot) ys
            → AllByRecursion (λ y. tx_eq tx y ≡ false) ys
            → AllByRecursion (λ y. (j : ℕ) → of_tx g tx (slots tx) y j ≡ empty_slot) ys
        still_new [] each other = tt
        still_new (y ∷ ys) each other = (
          λ j. ap (λ t. if is_participant y j && t then slots tx j else g y j) (other_tx y other.0)
              ∙ ap (λ t. if t then slots tx j else g y j) (and-false (is_participant y j)) ∙ each.0 j,
          still_new ys each.1 other.1,
        )

    compacted_leads : (txs : List TxParts) → AllByRecursion IsTx txs → IsDistinct tx_eq txs
        → ((tx : TxParts) (i : ℕ) → is_among txs tx i ≡ false → slots tx i ≡ empty_slot) → Leads (compacted txs slots) slots
    compacted_leads txs valid once outside =
        leads_to_same slots (all_more txs [] (λ other j. empty_slot) (record { play = refl; slots_are = λ tx i. refl }) (at_start txs) valid
        once)
        (λ tx i. by tx i (is_among txs tx i) refl)
      where
        at_start : (ys : List TxParts) → AllByRecursion (λ y. (i : ℕ) → ◌≡◌ {A = Slot} empty_slot empty_slot) ys
        at_start [] = tt
        at_start (y ∷ ys) = (λ i. refl, at_start ys)

        by : (tx : TxParts) (i : ℕ) (t : Bool) → is_among txs tx i ≡ t → (if t then slots tx i else empty_slot) ≡ slots tx i
        by tx i true e = refl
        by tx i false e = sym (outside tx i e)

    -- an instance of one of some transactions is among theirs
    among : (txs : List TxParts) (tx : TxParts) (i : ℕ) → list_any (tx_eq tx) txs ≡ true → is_participant tx i ≡ true
        → is_among txs tx i ≡ true
    among txs tx i seen named = ap (λ (t : Bool). list_any (λ y. t && tx_eq tx y) txs) named ∙ seen

-- ---- those of an acceptor

-- what isn't an instance of a transaction that has begun has a slot at first
outside_begun : (table : TableParts) → IsTable table → (low : (tx : TxParts) (i : ℕ) → IsLow (slot_in table tx i)) (config : Config)
    (number : ℕ) (txs : List TxParts) (tx : TxParts) (i : ℕ) → list_any (tx_eq tx) txs ≡ true
    → is_among config number (slot_in table) low txs tx i ≡ false → slot_in table tx i ≡ empty_slot
outside_begun table is low config number txs tx i there out = by (ltb (place_in table.transactions tx) (length table.transactions)) refl
  where
    by_place : IsSeen table tx → (t : Bool) → ltb (place_of tx i) (length tx.branches) ≡ t → slot_in table tx i ≡ empty_slot
    by_place seen true e =
        absurd (true≢false (sym (among config number (slot_in table) low txs tx i there
        (present_from_place (is_at i) tx.branches (ltb-true _ _ e))) ∙ out))
    by_place seen false e =
        get_or_past (slots_in table tx) (place_of tx i) empty_slot (omega (arith, ltb-false _ _ e, is.branches tx seen))

    by : (t : Bool) → ltb (place_in table.transactions tx) (length table.transactions) ≡ t → slot_in table tx i ≡ empty_slot
    by true e = by_place (ltb-true _ _ e) (ltb (place_of tx i) (length tx.branches)) refl
    by false e =
        ap (λ slots. slot_of tx slots i)
        (get_or_past table.slots (place_in table.transactions tx) [] (omega (arith, ltb-false _ _ e, is.rows)))

-- some facts, and then more
all_play_both : (config : Config) (number : ℕ) (before xs ys : List Fact) → all_play config (A number) before (xs ++ ys)
    ≡ (all_play config (A number) before xs && all_play config (A number) (before ++ xs) ys)
all_play_both config number before [] ys = ap (λ (fs : List Fact). all_play config (A number) fs ys) (sym (append-nil before))
all_play_both config number before (x ∷ xs) ys =
    let p = plays config (A number) before x in
    let this = all_play config (A number) (before ++ x ∷ []) xs in
    let later = all_play config (A number) ((before ++ x ∷ []) ++ xs) ys in
    ap (λ b. p && b) (all_play_both config number (before ++ x ∷ []) xs ys) ∙ and_three p this later
    ∙ ap (λ (fs : List Fact). (p && this) && all_play config (A number) fs ys) (append_assoc before (x ∷ []) xs)
  where
    and_three : (a b c : Bool) → (a && (b && c)) ≡ ((a && b) && c)
    and_three true b c = refl
    and_three false b c = refl

-- facts that play, with others in the place of those before them that say the same
play_after : (config : Config) (number : ℕ) (a b more : List Fact) → ((tx : TxParts) (i : ℕ) → slot a tx i ≡ slot b tx i)
    → all_play config (A number) a more ≡ all_play config (A number) b more
play_after config number a b [] same = refl
play_after config number a b (fact ∷ more) same = λ k.
    plays_at_acceptor (λ tx i. same tx i k) fact
    && play_after config number (a ++ fact ∷ []) (b ++ fact ∷ []) more (λ tx i. same_after a b (fact ∷ []) same tx i) k

all_after : (config : Config) (number : ℕ) (a b more : List Fact) → ((tx : TxParts) (i : ℕ) → slot a tx i ≡ slot b tx i)
    → all_play config (A number) [] b ≡ true → all_play config (A number) [] (a ++ more) ≡ true
    → all_play config (A number) [] (b ++ more) ≡ true
all_after config number a b more same play all =
    let both = sym (all_play_both config number [] a more) ∙ all in
    all_play_both config number [] b more
    ∙ and_from (all_play config (A number) [] b) (all_play config (A number) b more) play
    (sym (play_after config number a b more same)
    ∙ second_so (all_play config (A number) [] a) (all_play config (A number) a more) both)

-- what is compacted says the same as whatever an acceptor stands for
pub is_compacted : (a : AcceptorParts) (kept : List Fact) → IsTable a.table → AllByRecursion IsTx a.begun
    → kept ≡ compacted a.begun (slot_in a.table)
    → (config : Config) (number : ℕ) (facts : List Fact) → StandsFor config number a facts → IsCompacted kept config number facts
is_compacted a kept is valid e config number facts stands = record {
  list = list;
  no_longer = subst (λ (fs : List Fact). sum (map frame_length fs) ≤ sum (map frame_length facts)) (sym list)
      (no_longer config number facts stands.played
      (each_valid facts (subst (AllByRecursion IsTx) stands.begun_are valid)));
  same = record {
    play = ap (λ (fs : List Fact). all_play config (A number) [] fs) e ∙ leads.play;
    stands = λ more other h. record {
      number_is = h.number_is;
      leaders_are = h.leaders_are;
      bundled_is = h.bundled_is;
      slots_are = λ tx i. h.slots_are tx i ∙ same_after kept facts more alike tx i;
      played = all_after config number kept facts more alike stands.played h.played;
      begun_are = h.begun_are ∙ first_both fact_tx kept facts more order;
    };
    fits = λ more fact. λ k. plays_at_acceptor (λ tx i. same_after kept facts more alike tx i k) fact;
    shorter = λ more. λ k. compacted (first_both fact_tx kept facts more order k) (λ tx i. same_after kept facts more alike tx i k);
  };
}
  where
    list : kept ≡ shorter_facts facts
    list = e ∙ (λ k. compacted (stands.begun_are k) (λ tx i. stands.slots_are tx i k))

    low : (tx : TxParts) (i : ℕ) → IsLow (slot_in a.table tx i)
    low tx i = subst IsLow (sym (stands.slots_are tx i)) (is_low facts tx i)

    outside : (tx : TxParts) (i : ℕ) → is_among config number (slot_in a.table) low a.begun tx i ≡ false → slot_in a.table tx i ≡ empty_slot
    outside tx i out = by (list_any (tx_eq tx) a.begun) refl
      where
        by : (t : Bool) → list_any (tx_eq tx) a.begun ≡ t → slot_in a.table tx i ≡ empty_slot
        by true there = outside_begun a.table is low config number a.begun tx i there out
        by false none =
            stands.slots_are tx i
            ∙ unbegun_empty facts tx i (ap (λ (txs : List TxParts). list_any (tx_eq tx) txs) (sym stands.begun_are) ∙ none)

    leads : Leads config number (compacted a.begun (slot_in a.table)) (slot_in a.table)
    leads = compacted_leads config number (slot_in a.table) low a.begun valid
        (subst (IsDistinct tx_eq) (sym stands.begun_are) (first_once fact_tx facts)) outside

    alike : (tx : TxParts) (i : ℕ) → slot kept tx i ≡ slot facts tx i
    alike tx i = ap (λ (fs : List Fact). slot fs tx i) e ∙ leads.slots_are tx i ∙ stands.slots_are tx i

    order : begun_in kept ≡ begun_in facts
    order =
        ap begun_in list
        ∙ compacted_begun (slot facts) (begun_in facts) (first_once fact_tx facts)
        (λ tx there. begun_taken config number facts stands.played tx there)
