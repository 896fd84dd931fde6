-- The transactions that things are about, in the order of the first.
-- Needed by Above; crates acceptor, leader, resource_manager, forgetting and audit.
use Rattle.std.proofs.Common.{◌≡◌, ◌∙◌, Bool, true, false, ◌&&◌, ◌||◌, cond, List, [], ◌∷◌, ◌++◌, refl, sym, ap, subst}
use Rattle.std.proofs.Common.{append_assoc, append-nil}
use Rattle.std.specs.Prelude.{fold}
use Rattle.std.specs.List.{AllByRecursion, IsDistinct, list_all, list_any}
use Rattle.std.proofs.lemmas.Bool.{true≢false, false_from_ne_true}
use Rattle.std.proofs.lemmas.List.Folds.{list_all-append, list_any-append}
use Rattle.xid.specs.Transactions.{TxParts, tx_eq}
use Rattle.xid.proofs.Deciding.{tx_decides, tx_self}
use Rattle.transactions.specs.Seen.{seen_with, first_seen}

pub or_false : (a : Bool) → a ≡ (a || false)
or_false true = refl
or_false false = refl

pub or_true : (a : Bool) → (a || true) ≡ true
or_true true = refl
or_true false = refl

-- ---- what passes a test that asks only which transaction it is

any_same : (t x : TxParts) → tx_eq t x ≡ true → (seen : List TxParts) → list_any (tx_eq t) seen ≡ list_any (tx_eq x) seen
any_same t x e seen = ap (λ (u : TxParts). list_any (tx_eq u) seen) ((tx_decides t x).0 e)

any_seen : (seen : List TxParts) (t x : TxParts) → list_any (tx_eq t) (seen_with seen x) ≡ (list_any (tx_eq t) seen || tx_eq t x)
any_seen seen t x = by (list_any (tx_eq x) seen) (tx_eq t x) refl refl
  where
    by : (b u : Bool) → list_any (tx_eq x) seen ≡ b → tx_eq t x ≡ u
        → list_any (tx_eq t) (cond b seen (seen ++ x ∷ [])) ≡ (list_any (tx_eq t) seen || u)
    by true true e f =
        let there : list_any (tx_eq t) seen ≡ true = any_same t x f seen ∙ e in there ∙ sym (ap (λ b. b || true) there)
    by true false e f = or_false (list_any (tx_eq t) seen)
    by false u e f = list_any-append (tx_eq t) seen (x ∷ []) ∙ ap (λ b. list_any (tx_eq t) seen || b) (sym (or_false (tx_eq t x)) ∙ f)

-- one that was seen is so once more
pub seen_twice : (seen : List TxParts) (x : TxParts) → seen_with (seen_with seen x) x ≡ seen_with seen x
seen_twice seen x =
    let there = any_seen seen x x ∙ ap (λ b. list_any (tx_eq x) seen || b) (tx_self x) ∙ or_true (list_any (tx_eq x) seen) in
    ap (λ b. cond b (seen_with seen x) (seen_with seen x ++ x ∷ [])) there

-- no two are the same
seen_once : (seen : List TxParts) (x : TxParts) → IsDistinct tx_eq seen → IsDistinct tx_eq (seen_with seen x)
unfolding IsDistinct
seen_once seen x once = by (list_any (tx_eq x) seen) refl
  where
    turned : (y : TxParts) → tx_eq x y ≡ false → tx_eq y x ≡ false
    turned y e = false_from_ne_true (tx_eq y x) (λ same. true≢false (sym ((tx_decides x y).1 (sym ((tx_decides y x).0 same))) ∙ e))

    apart : (y : TxParts) (ys : List TxParts) → tx_eq y x ≡ false → AllByRecursion (λ z. tx_eq y z ≡ false) ys
        → AllByRecursion (λ z. tx_eq y z ≡ false) (ys ++ x ∷ [])
    apart y [] e each = (e, tt)
    apart y (z ∷ ys) e each = (each.0, apart y ys e each.1)

    not_first : (a b : Bool) → (a || b) ≡ false → (a ≡ false) × (b ≡ false)
    not_first false b e = (refl, e)
    not_first true b e = absurd (cc (e))

    push : (ys : List TxParts) → IsDistinct tx_eq ys → list_any (tx_eq x) ys ≡ false → IsDistinct tx_eq (ys ++ x ∷ [])
    push [] all none = (tt, tt)
    push (y ∷ ys) all none =
        let parts = not_first (tx_eq x y) (list_any (tx_eq x) ys) none in
        (apart y ys (turned y parts.0) all.0, push ys all.1 parts.1)

    by : (b : Bool) → list_any (tx_eq x) seen ≡ b → IsDistinct tx_eq (cond b seen (seen ++ x ∷ []))
    by true e = once
    by false e = push seen once e

module _ {X : Type 0} (about : X → TxParts) where
  -- those seen after one thing more
  abbrev pub seen_after : List TxParts → X → List TxParts
  seen_after seen x = seen_with seen (about x)

  -- the transactions of things behind others
  pub fold_both : (seen : List TxParts) (xs ys : List X) → fold seen_after seen (xs ++ ys) ≡ fold seen_after (fold seen_after seen xs) ys
  fold_both seen [] ys = refl
  fold_both seen (x ∷ xs) ys = fold_both (seen_after seen x) xs ys

  -- of one thing more
  pub first_more : (xs : List X) (x : X) → first_seen about (xs ++ x ∷ []) ≡ seen_with (first_seen about xs) (about x)
  first_more xs x = fold_both [] xs (x ∷ [])

  -- what leads to the same order does with more after it
  pub first_both : (xs ys more : List X) → first_seen about xs ≡ first_seen about ys
      → first_seen about (xs ++ more) ≡ first_seen about (ys ++ more)
  first_both xs ys more same =
      fold_both [] xs more ∙ ap (λ seen. fold seen_after seen more) same ∙ sym (fold_both [] ys more)

  -- each is there once
  pub first_once : (xs : List X) → IsDistinct tx_eq (first_seen about xs)
  unfolding IsDistinct
  first_once xs = from [] xs none
    where
      none : IsDistinct tx_eq []
      none = tt

      from : (seen : List TxParts) (ys : List X) → IsDistinct tx_eq seen → IsDistinct tx_eq (fold seen_after seen ys)
      from seen [] once = once
      from seen (y ∷ ys) once = from (seen_after seen y) ys (seen_once seen (about y) once)

  any_from : (t : TxParts) (seen : List TxParts) (xs : List X)
      → list_any (tx_eq t) (fold seen_after seen xs) ≡ (list_any (tx_eq t) seen || list_any (λ x. tx_eq t (about x)) xs)
  any_from t seen [] = or_false (list_any (tx_eq t) seen)
  any_from t seen (x ∷ xs) =
      any_from t (seen_after seen x) xs
      ∙ after (list_any (tx_eq t) (seen_after seen x)) (list_any (tx_eq t) seen) (tx_eq t (about x)) (list_any (λ y. tx_eq t (about y)) xs)
      (any_seen seen t (about x))
    where
      after : (a b c d : Bool) → a ≡ (b || c) → (a || d) ≡ (b || (c || d))
      after a true c d e = ap (λ k. k || d) e
      after a false c d e = ap (λ k. k || d) e

  -- it is among them where something is about it
  pub first_any : (t : TxParts) (xs : List X) → list_any (tx_eq t) (first_seen about xs) ≡ list_any (λ x. tx_eq t (about x)) xs
  first_any t xs = any_from t [] xs

  -- all of them pass a test where what each thing is about does
  module _ (q : TxParts → Bool) where
    and_true : (a : Bool) → (a && true) ≡ a
    and_true true = refl
    and_true false = refl

    -- one that was seen passes where all that were seen do
    passes_there : (seen : List TxParts) (t : TxParts) → list_any (tx_eq t) seen ≡ true → (list_all q seen && q t) ≡ list_all q seen
    passes_there [] t there = absurd (true≢false (sym there))
    passes_there (y ∷ ys) t there = by (tx_eq t y) refl (passes_there ys t)
      where
        twice : (a b : Bool) → ((a && b) && a) ≡ (a && b)
        twice true b = and_true b
        twice false b = refl

        grouped : (a b c : Bool) → (b && c) ≡ b → ((a && b) && c) ≡ (a && b)
        grouped true b c e = e
        grouped false b c e = refl

        by : (u : Bool) → tx_eq t y ≡ u → (list_any (tx_eq t) ys ≡ true → (list_all q ys && q t) ≡ list_all q ys)
            → ((q y && list_all q ys) && q t) ≡ (q y && list_all q ys)
        by true e later = ap (λ (x : TxParts). (q y && list_all q ys) && q x) ((tx_decides t y).0 e) ∙ twice (q y) (list_all q ys)
        by false e later =
            grouped (q y) (list_all q ys) (q t) (later (sym (ap (λ b. b || list_any (tx_eq t) ys) e) ∙ there))

    all_with : (seen : List TxParts) (t : TxParts) → list_all q (seen_with seen t) ≡ (list_all q seen && q t)
    all_with seen t = by (list_any (tx_eq t) seen) refl
      where
        by : (u : Bool) → list_any (tx_eq t) seen ≡ u → list_all q (cond u seen (seen ++ t ∷ [])) ≡ (list_all q seen && q t)
        by true there = sym (passes_there seen t there)
        by false none = list_all-append q seen (t ∷ []) ∙ ap (λ b. list_all q seen && b) (and_true (q t))

    all_from : (seen : List TxParts) (xs : List X)
        → list_all q (fold seen_after seen xs) ≡ (list_all q seen && list_all (λ x. q (about x)) xs)
    all_from seen [] = sym (and_true (list_all q seen))
    all_from seen (x ∷ xs) =
        all_from (seen_after seen x) xs ∙ ap (λ b. b && list_all (λ y. q (about y)) xs) (all_with seen (about x))
        ∙ grouped (list_all q seen) (q (about x)) (list_all (λ y. q (about y)) xs)
      where
        grouped : (a b c : Bool) → ((a && b) && c) ≡ (a && (b && c))
        grouped true b c = refl
        grouped false b c = refl

    -- all transactions pass where each thing is about one that does
    pub first_all : (xs : List X) → list_all q (first_seen about xs) ≡ list_all (λ x. q (about x)) xs
    first_all xs = all_from [] xs

  -- some things, all about one transaction
  pub fold_same : (seen : List TxParts) (t : TxParts) (x : X) (xs : List X) → about x ≡ t → AllByRecursion (λ y. about y ≡ t) xs
      → fold seen_after seen (x ∷ xs) ≡ seen_with seen t
  fold_same seen t x xs is each = ap (λ (u : TxParts). fold seen_after (seen_with seen u) xs) is ∙ rest xs each
    where
      rest : (ys : List X) → AllByRecursion (λ y. about y ≡ t) ys → fold seen_after (seen_with seen t) ys ≡ seen_with seen t
      rest [] each = refl
      rest (y ∷ ys) each =
          ap (λ (u : TxParts). fold seen_after (seen_with (seen_with seen t) u) ys) each.0
          ∙ ap (λ s. fold seen_after s ys) (seen_twice seen t) ∙ rest ys each.1

-- those that are seen once each, in their order
pub seen_all : (before txs : List TxParts) → IsDistinct tx_eq (before ++ txs) → fold seen_with before txs ≡ before ++ txs
unfolding IsDistinct
seen_all before [] once = sym (append-nil before)
seen_all before (t ∷ txs) once = ap (λ s. fold seen_with s txs) (ap (λ b. cond b before (before ++ t ∷ [])) (new before once))
    ∙ seen_all (before ++ t ∷ []) txs (subst (IsDistinct tx_eq) (sym (append_assoc before (t ∷ []) txs)) once)
    ∙ append_assoc before (t ∷ []) txs
  where
    no_more : (y : TxParts) (ys zs : List TxParts) → AllByRecursion (λ z. tx_eq y z ≡ false) (ys ++ t ∷ zs) → tx_eq y t ≡ false
    no_more y [] zs each = each.0
    no_more y (z ∷ ys) zs each = no_more y ys zs each.1

    turned : (y : TxParts) → tx_eq y t ≡ false → tx_eq t y ≡ false
    turned y e = false_from_ne_true (tx_eq t y) (λ same. true≢false (sym ((tx_decides y t).1 (sym ((tx_decides t y).0 same))) ∙ e))

    new : (ys : List TxParts) → IsDistinct tx_eq (ys ++ t ∷ txs) → list_any (tx_eq t) ys ≡ false
    new [] all = refl
    new (y ∷ ys) all = (λ k. turned y (no_more y ys txs all.0) k || new ys all.1 k)
