-- The facts of a compacted record as they are written, one transaction and one instance after the other.
-- Needed by `write_accepts` and `write_promises`.
use Rattle.std.proofs.Common.{◌≡◌, ◌∙◌, ℕ, ◌+◌, ◌<◌, List, ◌++◌, length, get_or, drop, sym, ap, arith}
use Rattle.std.specs.List.{flat_map}
use Rattle.std.proofs.lemmas.List.{get_or_default, get_or-map, length-map}
use Rattle.xid.specs.Transactions.{TxParts, BranchParts, IsTx, participants}
use Rattle.ballot.specs.declared.slot.Slot.{Slot}
use Rattle.stable_record.specs.declared.fact.FactKind.{FactKind as Fact}
use Rattle.transactions.proofs.Pieces.{next_put}
use Rattle.acceptor.specs.Slots.{slot_at, slot_of}
use Rattle.acceptor.proofs.Instances.{blank, place_of_nth}

module _ (tx : TxParts) (slots : List Slot) (h : ℕ → Slot → List Fact) (place rm : ℕ) (s : Slot) (old new all : List Fact) where
  abbrev of_instance : ℕ → List Fact
  of_instance i = h i (slot_of tx slots i)

  -- the facts of one more instance
  pub slot_put : IsTx tx → place < length tx.branches → rm ≡ get_or (participants tx) place 0 → s ≡ slot_at slots place
      → new ≡ old ++ h rm s → old ++ flat_map of_instance (drop place (participants tx)) ≡ all
      → new ++ flat_map of_instance (drop (place + 1) (participants tx)) ≡ all
  slot_put valid lt at here put =
      let branch = at ∙ get_or-map (λ (b : BranchParts). b.rm) tx.branches place blank 0 lt in
      let found = ap (slot_at slots) (sym (place_of_nth tx place valid lt)) ∙ ap (λ i. slot_of tx slots i) (sym branch) in
      let len : length (participants tx) ≡ length tx.branches = length-map tx.branches (λ b. b.rm) in
      let within : place < length (participants tx) = omega (arith, len, lt) in
      next_put of_instance (participants tx) place rm old new all within
      (get_or_default (participants tx) place rm 0 within ∙ sym at)
      (put ∙ ap (λ k. old ++ h rm k) (here ∙ found))
