-- A table goes on from its rows by what is kept: a commit at or above the floor writes the keys of a vote that is kept.
use Rattle.std.proofs.Common.{◌≡◌, ◌∙◌, Bool, false, if◌then◌else◌, List, [], ◌∷◌, ◌++◌, Option, Some, None, refl, sym, ap, fold}
use Rattle.std.specs.Prelude.{filter, filter_map, find}
use Rattle.std.specs.List.{cons_option}
use Rattle.std.specs.Option.{option_map_or}
use Rattle.std.proofs.lemmas.Bool.{cond_both, cond-false}
use Rattle.xid.specs.Transactions.{TxParts, tx_eq}
use Rattle.stable_record.specs.declared.fact.FactKind.TheVariants as stored
use Rattle.protocol.specs.Basics.{Fact}
use Rattle.safety.specs.Vocabulary.{Row}
use Rattle.protocol.specs.Facts.{Bound, branch_bound_by}
use Rattle.protocol.specs.Tables.{put_row, with_writes, keys_voted, commit_of, table}
use Rattle.xid.specs.Places.{Place, is_below}
use Rattle.protocol.specs.Kept.{is_kept, kept_facts}
use Rattle.protocol.proofs.Kept.Facts.{apart, bound_tx}

-- ---- one more at the end

module _ {X Y : Type 0} (g : X → Option Y) (last : X) where
  push_none : g last ≡ None → (xs : List X) → filter_map g (xs ++ last ∷ []) ≡ filter_map g xs
  push_none e [] = ap (λ (o : Option Y). cons_option o []) e
  push_none e (x ∷ xs) = ap (λ (ys : List Y). cons_option (g x) ys) (push_none e xs)

  push_some : (y : Y) → g last ≡ Some y → (xs : List X) → filter_map g (xs ++ last ∷ []) ≡ filter_map g xs ++ y ∷ []
  push_some y e [] = ap (λ (o : Option Y). cons_option o []) e
  push_some y e (x ∷ xs) =
      ap (λ (ys : List Y). cons_option (g x) ys) (push_some y e xs) ∙ before (g x)
    where
      before : (o : Option Y) → cons_option o (filter_map g xs ++ y ∷ []) ≡ cons_option o (filter_map g xs) ++ y ∷ []
      before None = refl
      before (Some z) = refl

fold_push : {X Y : Type 0} (f : Y → X → Y) (z : Y) (xs : List X) (x : X) → fold f z (xs ++ x ∷ []) ≡ f (fold f z xs) x
fold_push f z [] x = refl
fold_push f z (y ∷ xs) x = fold_push f (f z y) xs x

-- ---- the keys of a vote

module _ (floor : Option Place) (tx : TxParts) (above : is_below floor tx ≡ false) where
  abbrev is_its : Bound → Bool
  is_its bound = tx_eq tx bound.tx

  found_more : (o : Option Bound) (xs ys : List Bound) → find is_its xs ≡ find is_its ys
      → find is_its (cons_option o xs) ≡ find is_its (cons_option o ys)
  found_more None xs ys e = e
  found_more (Some bound) xs ys e = ap (λ (o : Option Bound). if is_its bound then Some bound else o) e

  not_found : (f : Fact) → is_kept floor f ≡ false → (o : Option Bound) → branch_bound_by f ≡ o → (ys : List Bound)
      → find is_its (cons_option o ys) ≡ find is_its ys
  not_found f dropped None e ys = refl
  not_found f dropped (Some bound) e ys =
      cond-false (is_its bound) (Some bound) (find is_its ys)
      (ap (tx_eq tx) (sym (bound_tx floor (f ∷ []) f bound e)) ∙ apart floor tx above f dropped)

  found_kept : (facts : List Fact)
      → find is_its (filter_map branch_bound_by (kept_facts floor facts)) ≡ find is_its (filter_map branch_bound_by facts)
  found_kept [] = refl
  found_kept (f ∷ fs) =
      cond_both (is_kept floor f) (f ∷ filter (is_kept floor) fs) (filter (is_kept floor) fs)
      (λ (zs : List Fact). find is_its (filter_map branch_bound_by zs)
      ≡ find is_its (cons_option (branch_bound_by f) (filter_map branch_bound_by fs)))
      (λ kept. found_more (branch_bound_by f) (filter_map branch_bound_by (filter (is_kept floor) fs)) (filter_map branch_bound_by fs)
      (found_kept fs))
      (λ dropped. found_kept fs ∙ sym (not_found f dropped (branch_bound_by f) refl (filter_map branch_bound_by fs)))

  keys_kept : (facts : List Fact) → keys_voted (kept_facts floor facts) tx ≡ keys_voted facts tx
  keys_kept facts = ap (λ (o : Option Bound). option_map_or (λ bound. bound.keys) o []) (found_kept facts)

  -- a commit: its writes come to the rows that are there
  pub commit_writes : (first : List Row) (facts : List Fact)
      → table first (facts ++ stored.Committed tx ∷ []) ≡ with_writes (table first facts) (keys_voted (kept_facts floor facts) tx)
  commit_writes first facts =
      ap (λ (txs : List TxParts). fold (λ rows t. with_writes rows (keys_voted (facts ++ stored.Committed tx ∷ []) t))
      (fold put_row [] first) txs) (push_some commit_of (stored.Committed tx) tx refl facts)
      ∙ fold_push (λ rows t. with_writes rows (keys_voted (facts ++ stored.Committed tx ∷ []) t)) (fold put_row [] first)
      (filter_map commit_of facts) tx
      ∙ (λ k. with_writes (fold (λ rows t. with_writes rows (same t k)) (fold put_row [] first) (filter_map commit_of facts)) (same tx k))
      ∙ ap (with_writes (table first facts)) (sym (keys_kept facts))
    where
      same : (t : TxParts) → keys_voted (facts ++ stored.Committed tx ∷ []) t ≡ keys_voted facts t
      same t =
          ap (λ (bounds : List Bound). option_map_or (λ bound. bound.keys) (find (λ bound. tx_eq t bound.tx) bounds) [])
          (push_none branch_bound_by (stored.Committed tx) refl facts)
