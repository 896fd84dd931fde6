-- What one more fact makes of an acceptor's slots.
use Rattle.std.proofs.Common.{◌≡◌, ◌≢◌, ◌∙◌, ℕ, ◌≤◌, max, Bool, true, false, ◌==◌, ◌&&◌, if◌then◌else◌, List, [], ◌∷◌, ◌++◌}
use Rattle.std.proofs.Common.{Option, Some, None, refl, ap, arith}
use Rattle.std.specs.Prelude.{filter_map, unwrap_or}
use Rattle.std.specs.List.{last_or, cons_option}
use Rattle.std.proofs.lemmas.List.{append-nil}
use Rattle.std.proofs.lemmas.List.Elements.{filter_map-append}
use Rattle.std.proofs.lemmas.Bool.{cond-false, cond-true, ne_eqb, and_left}
use Rattle.xid.specs.Transactions.{TxParts, is_participant, tx_eq}
use Rattle.xid.specs.declared.transaction.Vote.{Vote}
use Rattle.ballot.specs.Greatest.{greatest}
use Rattle.ballot.specs.Choice.{Report}
use Rattle.stable_record.specs.declared.fact.FactKind.TheVariants as stored
use Rattle.protocol.specs.Basics.{Fact}
use Rattle.protocol.specs.Facts.{instance_eq, ballot_joined, accept_of, slot}
use Rattle.protocol.proofs.Same.{instance_eq-same}
use Rattle.safety.proofs.Leader.Memory.{greatest-append}

-- where a fact has an acceptor take part
joined_in : (facts : List Fact) (fact : Fact) (tx : TxParts) (i : ℕ)
    → (slot (facts ++ fact ∷ []) tx i).mbal ≡ max (slot facts tx i).mbal (greatest (cons_option (ballot_joined tx i fact) []))
joined_in facts fact tx i =
    ap greatest (filter_map-append (ballot_joined tx i) facts (fact ∷ []))
    ∙ greatest-append (filter_map (ballot_joined tx i) facts) (filter_map (ballot_joined tx i) (fact ∷ []))

module _ (facts : List Fact) (fact : Fact) (tx : TxParts) (i : ℕ) where
  mbal_by : (o : Option ℕ) (b : ℕ) → ballot_joined tx i fact ≡ o → ((c : ℕ) → o ≡ Some c → c ≤ b)
      → (slot facts tx i).mbal ≤ b → (slot (facts ++ fact ∷ []) tx i).mbal ≤ b
  mbal_by None b e low h =
      let is : (slot (facts ++ fact ∷ []) tx i).mbal ≡ max (slot facts tx i).mbal (greatest []) =
      joined_in facts fact tx i ∙ ap (λ (o : Option ℕ). max (slot facts tx i).mbal (greatest (cons_option o []))) e in
      omega (arith, is, h)
  mbal_by (Some c) b e low h =
      let is : (slot (facts ++ fact ∷ []) tx i).mbal ≡ max (slot facts tx i).mbal (greatest (c ∷ [])) =
      joined_in facts fact tx i ∙ ap (λ (o : Option ℕ). max (slot facts tx i).mbal (greatest (cons_option o []))) e in
      omega (arith, is, h, low c refl)

  -- a fact of a ballot no greater than b
  pub mbal_below : (b : ℕ) → ((c : ℕ) → ballot_joined tx i fact ≡ Some c → c ≤ b)
      → (slot facts tx i).mbal ≤ b → (slot (facts ++ fact ∷ []) tx i).mbal ≤ b
  mbal_below b low h = mbal_by (ballot_joined tx i fact) b refl low h

  -- a fact of no ballot of the instance
  pub mbal_same : ballot_joined tx i fact ≡ None → (slot (facts ++ fact ∷ []) tx i).mbal ≡ (slot facts tx i).mbal
  mbal_same e =
      let is : (slot (facts ++ fact ∷ []) tx i).mbal ≡ max (slot facts tx i).mbal (greatest []) =
      joined_in facts fact tx i ∙ ap (λ (o : Option ℕ). max (slot facts tx i).mbal (greatest (cons_option o []))) e in
      omega (arith, is)

  last_or-snoc : (o : Report) (xs : List (ℕ × Vote)) (x : ℕ × Vote) → last_or o (xs ++ x ∷ []) ≡ Some x
  last_or-snoc o [] x = refl
  last_or-snoc o (y ∷ xs) x = last_or-snoc (Some y) xs x

  reported_in : (o : Report) → accept_of tx i fact ≡ o
      → (slot (facts ++ fact ∷ []) tx i).report ≡ last_or None (filter_map (accept_of tx i) facts ++ cons_option o [])
  reported_in o e =
      ap (last_or None) (filter_map-append (accept_of tx i) facts (fact ∷ []))
      ∙ ap (λ (r : Report). last_or None (filter_map (accept_of tx i) facts ++ cons_option r [])) e

  pub report_same : accept_of tx i fact ≡ None → (slot (facts ++ fact ∷ []) tx i).report ≡ (slot facts tx i).report
  report_same e = reported_in None e ∙ ap (last_or None) (append-nil (filter_map (accept_of tx i) facts))

  pub report_new : (last : ℕ × Vote) → accept_of tx i fact ≡ Some last → (slot (facts ++ fact ∷ []) tx i).report ≡ Some last
  report_new last e = reported_in (Some last) e ∙ last_or-snoc None (filter_map (accept_of tx i) facts) last

-- ---- facts of ballot b of an instance

given_by : (t : Bool) (b c : ℕ) → (if t then Some b else None) ≡ Some c → c ≤ b
given_by true b c e = let same : b ≡ c = ap (λ (o : Option ℕ). unwrap_or o 0) e in omega arith
given_by false b c e = absurd (cc (e))

module _ (tx : TxParts) (i b : ℕ) where
  pub promise_low : (j c : ℕ) → ballot_joined tx j (stored.Promise tx i b) ≡ Some c → c ≤ b
  promise_low j c e = given_by (instance_eq tx j tx i) b c e

  pub promise_all_low : (j c : ℕ) → ballot_joined tx j (stored.PromiseAll tx b) ≡ Some c → c ≤ b
  promise_all_low j c e = given_by (is_participant tx j && tx_eq tx tx) b c e

  pub accept_low : (v : Vote) (j c : ℕ) → ballot_joined tx j (stored.Accept tx i b v) ≡ Some c → c ≤ b
  accept_low v j c e = given_by (instance_eq tx j tx i) b c e

  pub promise_apart : (j : ℕ) → j ≢ i → ballot_joined tx j (stored.Promise tx i b) ≡ None
  promise_apart j apart = cond-false (instance_eq tx j tx i) (Some b) None (and_left (j == i) (tx_eq tx tx) (ne_eqb j i apart))

  pub accept_apart : (v : Vote) (j : ℕ) → j ≢ i → accept_of tx j (stored.Accept tx i b v) ≡ None
  accept_apart v j apart = cond-false (instance_eq tx j tx i) (Some (b, v)) None (and_left (j == i) (tx_eq tx tx) (ne_eqb j i apart))

  pub accept_here : (v : Vote) → accept_of tx i (stored.Accept tx i b v) ≡ Some (b, v)
  accept_here v = cond-true (instance_eq tx i tx i) (Some (b, v)) None (instance_eq-same tx i)
