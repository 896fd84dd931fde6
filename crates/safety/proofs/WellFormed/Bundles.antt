-- The items of bundles: those of the instances that pass a test are instances of the transaction, ascending.
-- Needed by WellFormed.Acceptor.
use Rattle.std.proofs.Common.{◌≡◌, ℕ, ◌≤◌, Bool, true, if◌then◌else◌, List, [], ◌∷◌, length, Option, Some, None, unwrap_or, is_some}
use Rattle.std.proofs.Common.{refl, sym, ap, subst, arith}
use Rattle.std.specs.Prelude.{map, filter, filter_map, IsTrue}
use Rattle.std.specs.List.{AllByRecursion, list_any, cons_option}
use Rattle.std.proofs.lemmas.List.Kept.{IsStrictlyIncreasing-filter}
use Rattle.xid.specs.Transactions.{TxParts, IsTx, participants, is_participant}
use Rattle.xid.specs.declared.transaction.Vote.{Vote}
use Rattle.wire.specs.declared.items.InstanceAccept.{InstanceAccept}
use Rattle.wire.specs.Messages.{IsBallot, AreInstances, reported_instances, accepted_instances}
use Rattle.ballot.specs.Choice.{Report}
use Rattle.ballot.specs.Greatest.{IsIn}
use Rattle.protocol.specs.Acceptors.{Slots, accept_item}
use Rattle.protocol.proofs.Lists.{any_found, found_any, filter_kept, filter_keeps, filter_map_given, all_each}
use Rattle.safety.proofs.Facts.{participates}

some_there : {X : Type 0} (xs : List X) (x : X) → IsIn xs x → 1 ≤ length xs
some_there [] x h = absurd h
some_there (y ∷ ys) x h = omega arith

-- the participants that pass a test, where there is one
passing : (tx : TxParts) (p : ℕ → Bool) → IsTx tx → list_any p (participants tx) ≡ true → AreInstances tx (filter p (participants tx))
passing tx p is any =
    let one = any_found p (participants tx) any in
    record {
      valid = is;
      some = some_there (filter p (participants tx)) one.element (filter_keeps p (participants tx) one.element one.among one.passes);
      named = all_each (λ rm. IsTrue (is_participant tx rm)) (filter p (participants tx))
          (λ i h. participates tx i (filter_kept p (participants tx) i h).0);
      ascending = IsStrictlyIncreasing-filter p (participants tx) is.branches.ascending;
    }

-- ---- phase 1b

reports_back : (slots : Slots) (tx : TxParts) (is : List ℕ)
    → reported_instances (map (λ i. record { instance = i; report = (slots tx i).report }) is) ≡ is
reports_back slots tx [] = refl
reports_back slots tx (i ∷ is) = ap (λ (rest : List ℕ). i ∷ rest) (reports_back slots tx is)

pub reports_are : (slots : Slots) (tx : TxParts) → IsTx tx → (p : ℕ → Bool) → list_any p (participants tx) ≡ true
    → AreInstances tx (reported_instances (map (λ i. record { instance = i; report = (slots tx i).report }) (filter p (participants tx))))
reports_are slots tx is p any = subst (AreInstances tx) (sym (reports_back slots tx (filter p (participants tx)))) (passing tx p is any)

-- ---- phase 2b

module _ (last : ℕ → Report) where
  back_by : (i : ℕ) (o : Report) (rest : List InstanceAccept) (kept : List ℕ) → accepted_instances rest ≡ kept
      → accepted_instances (cons_option (accept_item i o) rest) ≡ (if is_some o then i ∷ kept else kept)
  back_by i None rest kept e = e
  back_by i (Some value) rest kept e = ap (λ (is : List ℕ). i ∷ is) e

  accepts_back : (is : List ℕ) → accepted_instances (filter_map (λ j. accept_item j (last j)) is) ≡ filter (λ j. is_some (last j)) is
  accepts_back [] = refl
  accepts_back (i ∷ is) = back_by i (last i) _ _ (accepts_back is)

  pub accepts_are : (tx : TxParts) → IsTx tx → (i : ℕ) → IsIn (participants tx) i → is_some (last i) ≡ true
      → AreInstances tx (accepted_instances (filter_map (λ j. accept_item j (last j)) (participants tx)))
  accepts_are tx is i h some = subst (AreInstances tx) (sym (accepts_back (participants tx)))
      (passing tx (λ j. is_some (last j)) is (found_any (λ j. is_some (last j)) (participants tx) i h some))

  item_ballot : (i : ℕ) (o : Report) (item : InstanceAccept) → accept_item i o ≡ Some item
      → ((value : ℕ × Vote) → o ≡ Some value → IsBallot value.0) → IsBallot item.ballot
  item_ballot i None item e ballots = absurd (cc (e))
  item_ballot i (Some value) item e ballots =
      subst IsBallot (ap (λ (o : Option InstanceAccept). (unwrap_or o item).ballot) e) (ballots value refl)

  pub accept_ballots : (is : List ℕ) → ((i : ℕ) → IsIn is i → (value : ℕ × Vote) → last i ≡ Some value → IsBallot value.0)
      → AllByRecursion (λ (item : InstanceAccept). IsBallot item.ballot) (filter_map (λ j. accept_item j (last j)) is)
  accept_ballots is ballots = all_each (λ (item : InstanceAccept). IsBallot item.ballot) (filter_map (λ j. accept_item j (last j)) is)
      (λ item h.
      let from = filter_map_given (λ j. accept_item j (last j)) is item h in
      item_ballot from.source (last from.source) item from.gives (ballots from.source from.among))
