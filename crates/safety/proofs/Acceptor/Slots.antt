-- A slot is what the facts of an acceptor say.
-- Needed by `slot_is_greatest`; Acceptor.Effects, WellFormed.Acceptor and World.Reachable.
use Rattle.std.proofs.Common.{◌≡◌, ◌⊎◌, inl, inr, ⊎_elim, ◌∙◌, ℕ, ◌≤◌, Bool, true, ◌&&◌, not, if◌then◌else◌, List, [], ◌∷◌, ◌++◌, Some}
use Rattle.std.proofs.Common.{None, refl, sym, ap, subst, arith, append_assoc, nat_le}
use Rattle.std.specs.Prelude.{Option, IsTrue, filter_map, unwrap_or}
use Rattle.std.specs.List.{last_or, cons_option}
use Rattle.std.proofs.lemmas.Bool.{cond_both, cond-true, and_from, and_parts, leb-true}
use Rattle.std.proofs.lemmas.List.{append-nil}
use Rattle.std.proofs.lemmas.List.Elements.{filter_map-append}
use Rattle.xid.specs.Transactions.{TxParts, is_participant, tx_eq}
use Rattle.xid.specs.declared.transaction.Vote.{Vote}
use Rattle.ballot.specs.Choice.{Report}
use Rattle.stable_record.specs.declared.fact.FactKind.TheVariants as stored
use Rattle.protocol.specs.Basics.{Fact}
use Rattle.safety.specs.Vocabulary.{A}
use Rattle.protocol.specs.Acceptors.{is_accepted, plays_at_acceptor}
use Rattle.protocol.specs.Effects.{Config}
use Rattle.protocol.specs.Facts.{instance_eq, ballot_joined, accept_of, slot}
use Rattle.protocol.specs.Nodes.{all_play}
use Rattle.safety.specs.Laws.{IsGreatestAccept, IsJoinedBallot, IsSlot}
use Rattle.safety.specs.Standing.{IsPromised}
use Rattle.xid.proofs.Deciding.{tx_self, tx_decides}
use Rattle.ballot.specs.Greatest.{IsIn}
use Rattle.protocol.proofs.Same.{instance_eq-same, instance_eq-is}
use Rattle.protocol.proofs.Lists.{IsIn-append, IsIn-before, IsIn-last}
use Rattle.ballot.proofs.Greatest.{at_most_greatest}
use Rattle.safety.proofs.Greatest.{greatest_given}

-- ---- what is promised and accepted is at most mbal

joined_here : (tx : TxParts) (i b : ℕ) → ballot_joined tx i (stored.Promise tx i b) ≡ Some b
joined_here tx i b = ap (λ (t : Bool). if t then Some b else None) (instance_eq-same tx i)

accepted_joins : (tx : TxParts) (i b : ℕ) (v : Vote) → ballot_joined tx i (stored.Accept tx i b v) ≡ Some b
accepted_joins tx i b v = ap (λ (t : Bool). if t then Some b else None) (instance_eq-same tx i)

joined_all : (tx : TxParts) (i b : ℕ) → IsTrue (is_participant tx i) → ballot_joined tx i (stored.PromiseAll tx b) ≡ Some b
joined_all tx i b named = cond-true (is_participant tx i
    && tx_eq tx tx) (Some b) None (and_from (is_participant tx i) (tx_eq tx tx) named (tx_self tx))

promised_below : (facts : List Fact) (tx : TxParts) (i b : ℕ) → IsPromised facts tx i b → b ≤ (slot facts tx i).mbal
promised_below facts tx i b (inl h) = at_most_greatest (ballot_joined tx i) facts (stored.Promise tx i b) b h (joined_here tx i b)
promised_below facts tx i b (inr h) =
    at_most_greatest (ballot_joined tx i) facts (stored.PromiseAll tx b) b h.1 (joined_all tx i b h.0)

accepted_below : (facts : List Fact) (tx : TxParts) (i b : ℕ) (v : Vote) → IsIn facts (stored.Accept tx i b v) → b ≤ (slot facts tx i).mbal
accepted_below facts tx i b v h = at_most_greatest (ballot_joined tx i) facts (stored.Accept tx i b v) b h (accepted_joins tx i b v)

-- ---- mbal is the ballot of a promise or an accept

-- where the test of an instance gives a ballot, the instance and the ballot are these
joined_same : (tx other : TxParts) (i j b c : ℕ) → (if instance_eq tx i other j then Some c else None) ≡ Some b
    → (other ≡ tx) × (j ≡ i) × (c ≡ b)
joined_same tx other i j b c =
    cond_both (instance_eq tx i other j) (Some c) None (λ (o : Option ℕ). o ≡ Some b → (other ≡ tx) × (j ≡ i) × (c ≡ b))
    (λ e h. let same = instance_eq-is tx other i j e in (sym same.0, sym same.1, ap (λ (o : Option ℕ). unwrap_or o 0) h))
    (λ e h. absurd (cc (h)))

all_joined_by : (facts : List Fact) (tx other : TxParts) (i b c : ℕ)
    → (if is_participant tx i && tx_eq tx other then Some c else None) ≡ Some b → IsIn facts (stored.PromiseAll other c)
    → IsTrue (is_participant tx i) × IsIn facts (stored.PromiseAll tx b)
all_joined_by facts tx other i b c =
    cond_both (is_participant tx i && tx_eq tx other) (Some c) None
    (λ (o : Option ℕ). o ≡ Some b → IsIn facts (stored.PromiseAll other c)
    → IsTrue (is_participant tx i) × IsIn facts (stored.PromiseAll tx b))
    (λ e f h.
    let parts = and_parts (is_participant tx i) (tx_eq tx other) e in
    let et : other ≡ tx = sym ((tx_decides tx other).0 parts.1) in
    let eb : c ≡ b = ap (λ (o : Option ℕ). unwrap_or o 0) f in
    (parts.0, subst (λ (g : Fact). IsIn facts g) (λ k. stored.PromiseAll (et k) (eb k)) h))
    (λ e f h. absurd (cc (f)))

joined_by : (facts : List Fact) (tx : TxParts) (i b : ℕ) (fact : Fact) → IsIn facts fact → ballot_joined tx i fact ≡ Some b
    → IsJoinedBallot facts tx i b
joined_by facts tx i b (stored.Promise other j c) h e =
    let same = joined_same tx other i j b c e in
    inr (inl (inl (subst (λ (f : Fact). IsIn facts f) (λ k. stored.Promise (same.0 k) (same.1 k) (same.2 k)) h)))
joined_by facts tx i b (stored.Accept other j c v) h e =
    let same = joined_same tx other i j b c e in
    inr (inr (v, subst (λ (f : Fact). IsIn facts f) (λ k. stored.Accept (same.0 k) (same.1 k) (same.2 k) v) h))
joined_by facts tx i b (stored.PromiseAll other c) h e = inr (inl (inr (all_joined_by facts tx other i b c e h)))
joined_by facts tx i b fact h e = absurd (cc (e))

mbal_joined : (facts : List Fact) (tx : TxParts) (i : ℕ) → IsJoinedBallot facts tx i (slot facts tx i).mbal
mbal_joined facts tx i = ⊎_elim
    (λ none. inl none)
    (λ given. joined_by facts tx i (slot facts tx i).mbal given.source given.among given.gives)
    (greatest_given (ballot_joined tx i) facts)

-- ---- the report after one more fact

abbrev report_in : List Fact → TxParts → ℕ → Report
report_in facts tx i = last_or None (filter_map (accept_of tx i) facts)

-- what was accepted last, after what one more fact has accepted
abbrev later : Report → Report → Report
later None before = before
later (Some last) before = Some last

last_or-snoc : (o : Report) (xs : List (ℕ × Vote)) (x : ℕ × Vote) → last_or o (xs ++ x ∷ []) ≡ Some x
last_or-snoc o [] x = refl
last_or-snoc o (y ∷ xs) x = last_or-snoc (Some y) xs x

later_last : (o : Report) (xs : List (ℕ × Vote)) → last_or None (xs ++ cons_option o []) ≡ later o (last_or None xs)
later_last None xs = ap (last_or None) (append-nil xs)
later_last (Some last) xs = last_or-snoc None xs last

report-next : (facts : List Fact) (tx : TxParts) (i : ℕ) (fact : Fact) → report_in (facts ++ fact ∷ []) tx i ≡ later (accept_of tx i fact)
    (report_in facts tx i)
report-next facts tx i fact =
    ap (last_or None) (filter_map-append (accept_of tx i) facts (fact ∷ []))
    ∙ later_last (accept_of tx i fact) (filter_map (accept_of tx i) facts)

-- ---- an accept among the facts

accepted_here : (tx : TxParts) (i b : ℕ) (v : Vote) → accept_of tx i (stored.Accept tx i b v) ≡ Some (b, v)
accepted_here tx i b v = ap (λ (t : Bool). if t then Some (b, v) else None) (instance_eq-same tx i)

-- a fact that has accepted something is that accept
accept_is : (tx : TxParts) (i : ℕ) (fact : Fact) (last : ℕ × Vote) → accept_of tx i fact ≡ Some last
    → fact ≡ stored.Accept tx i last.0 last.1
accept_is tx i (stored.Accept other j b v) last =
    cond_both (instance_eq tx i other j) (Some (b, v)) None
    (λ (o : Report). o ≡ Some last → stored.Accept other j b v ≡ stored.Accept tx i last.0 last.1)
    (λ e h.
    let same = instance_eq-is tx other i j e in
    let value : (b, v) ≡ last = ap (λ (o : Report). unwrap_or o (b, v)) h in
    λ k. stored.Accept (sym same.0 k) (sym same.1 k) (value k).0 (value k).1)
    (λ e h. absurd (cc (h)))
accept_is tx i fact last = λ h. absurd (cc (h))

-- an accept plays no lower than any ballot before
plays_above : (facts : List Fact) (tx : TxParts) (i b : ℕ) (v : Vote) → plays_at_acceptor (slot facts) (stored.Accept tx i b v) ≡ true
    → (slot facts tx i).mbal ≤ b
plays_above facts tx i b v h =
    leb-true (slot facts tx i).mbal b
    (and_parts (is_participant tx i) (nat_le (slot facts tx i).mbal b)
    (and_parts (is_participant tx i && nat_le (slot facts tx i).mbal b) (not (is_accepted (slot facts tx i) b v)) h).0).1

ballot_same : (b : ℕ) (v : Vote) (last : ℕ × Vote) → Some last ≡ Some (b, v) → b ≤ last.0
ballot_same b v last e = let same : last.0 ≡ b = ap (λ (r : Report). ballot_of r) e in omega (arith, same)
  where
    ballot_of : Report → ℕ
    ballot_of None = 0
    ballot_of (Some l) = l.0

module _ (facts : List Fact) (fact : Fact) (tx : TxParts) (i : ℕ) where
  -- an accept that stands after one more fact stood before it, or is that fact
  old_or_new : (b : ℕ) (v : Vote)
      → IsIn (facts ++ fact ∷ []) (stored.Accept tx i b v)
      → IsIn facts (stored.Accept tx i b v) ⊎ (accept_of tx i fact ≡ Some (b, v))
  old_or_new b v h = ⊎_elim (λ old. inl old) (λ new. inr (told new)) (IsIn-append facts (fact ∷ []) (stored.Accept tx i b v) h)
    where
      told : IsIn (fact ∷ []) (stored.Accept tx i b v) → accept_of tx i fact ≡ Some (b, v)
      told (inl e) = ap (accept_of tx i) e ∙ accepted_here tx i b v
      told (inr none) = absurd none

  kept : (r : Report)
      → accept_of tx i fact ≡ None → IsGreatestAccept facts tx i r → IsGreatestAccept (facts ++ fact ∷ []) tx i r
  kept None none h = λ b v is. ⊎_elim (λ old. h b v old) (λ new. absurd (cc (none, new))) (old_or_new b v is)
  kept (Some last) none h = (
    IsIn-before facts (fact ∷ []) (stored.Accept tx i last.0 last.1) h.0,
    λ b v is. ⊎_elim (λ old. h.1 b v old) (λ new. absurd (cc (none, new))) (old_or_new b v is),
  )

  added : (last : ℕ × Vote)
      → accept_of tx i fact ≡ Some last → plays_at_acceptor (slot facts) fact ≡ true
      → IsGreatestAccept (facts ++ fact ∷ []) tx i (Some last)
  added last e h =
      let is : fact ≡ stored.Accept tx i last.0 last.1 = accept_is tx i fact last e in
      let above = plays_above facts tx i last.0 last.1 (subst (λ (f : Fact). plays_at_acceptor (slot facts) f ≡ true) is h) in (
        subst (λ (f : Fact). IsIn (facts ++ fact ∷ []) f) is (IsIn-last facts fact),
        λ b v at. ⊎_elim
            (λ old. let low = accepted_below facts tx i b v old in omega (arith, low, above))
            (λ new. ballot_same b v last (sym e ∙ new))
            (old_or_new b v at),
      )

  stepped : (o : Report)
      → accept_of tx i fact ≡ o → plays_at_acceptor (slot facts) fact ≡ true
      → IsGreatestAccept facts tx i (report_in facts tx i) → IsGreatestAccept (facts ++ fact ∷ []) tx i (later o (report_in facts tx i))
  stepped None e h is = kept (report_in facts tx i) e is
  stepped (Some last) e h is = added last e h

module _ (config : Config) (a : ℕ) (tx : TxParts) (i : ℕ) where
  after : (before facts : List Fact)
      → IsGreatestAccept before tx i (report_in before tx i)
      → all_play config (A a) before facts ≡ true → IsGreatestAccept (before ++ facts) tx i (report_in (before ++ facts) tx i)
  after before [] is h = subst (λ (fs : List Fact). IsGreatestAccept fs tx i (report_in fs tx i)) (sym (append-nil before)) is
  after before (fact ∷ facts) is h =
      let parts = and_parts (plays_at_acceptor (slot before) fact) (all_play config (A a) (before ++ fact ∷ []) facts) h in
      let next = subst (λ (r : Report). IsGreatestAccept (before ++ fact ∷ []) tx i r) (sym (report-next before tx i fact))
      (stepped before fact tx i (accept_of tx i fact) refl parts.0 is) in
      subst (λ (fs : List Fact). IsGreatestAccept fs tx i (report_in fs tx i)) (append_assoc before (fact ∷ []) facts)
      (after (before ++ fact ∷ []) facts next parts.1)

pub slot_is : (config : Config) (a : ℕ) (facts : List Fact) → all_play config (A a) [] facts ≡ true → (tx : TxParts) (i : ℕ)
    → IsSlot facts tx i (slot facts tx i)
slot_is config a facts h tx i = record {
  joined = mbal_joined facts tx i;
  promised = promised_below facts tx i;
  accepted = accepted_below facts tx i;
  last = after config a tx i [] facts (λ b v none. none) h;
}
