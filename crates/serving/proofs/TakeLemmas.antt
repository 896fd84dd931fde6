-- Lines that are taken one after another.
use Rattle.std.proofs.Common.{◌≡◌, ◌<◌, ◌++◌, ◌∷◌, ◌&&◌, [], List, ℕ, Bool, true, false, length, not, refl, sym, ap, ◌∙◌, append_assoc}
use Rattle.std.proofs.Common.{arith, inl, inr}
use Rattle.std.proofs.lemmas.List.{append-nil}
use Rattle.std.proofs.lemmas.List.Concat.{flat_map-append}
use Rattle.std.proofs.lemmas.List.Folds.{list_all-append}
use Rattle.std.specs.List.{AllZip}
use Rattle.serving.specs.declared.group.Item.{Item}
use Rattle.serving.specs.declared.group.Origin.{Origin}
use Rattle.serving.specs.declared.taking.TheConstants.{MOST_ITEMS}
use Rattle.serving.specs.declared.terms.Terms.{Terms}
use Rattle.serving.specs.Fronts.{IsNoLine}
use Rattle.serving.specs.Taking.{are_free, holds_up, with_ends, IsItemOf, NoneLeft, TakesFree, TakesFront, TakesLine}

-- lines were taken from the front of these bytes, and none of them holds up what is behind it
pub record TakesFreely (terms : Terms) (origin : Origin) (bytes rest : List ℕ) (before after : List Item) : Type 0 where
  pub lines : List (List ℕ)
  pub taken : List Item
  pub bytes_are : bytes ≡ with_ends lines ++ rest
  pub after_is : after ≡ before ++ taken
  pub each : AllZip (IsItemOf terms origin) lines taken
  pub free : are_free taken ≡ true

-- none yet
pub free_none : (terms : Terms) (origin : Origin) (bytes : List ℕ) (before : List Item) → TakesFreely terms origin bytes bytes before before
free_none terms origin bytes before = record {
  lines = [];
  taken = [];
  bytes_are = refl;
  after_is = sym (append-nil before);
  each = tt;
  free = refl;
}

-- one line more
pub zip_push : {A B : Type 0} (R : A → B → Type 0) (xs : List A) (ys : List B) (x : A) (y : B) → AllZip R xs ys → R x y
    → AllZip R (xs ++ x ∷ []) (ys ++ y ∷ [])
zip_push R [] [] x y all here = (here, tt)
zip_push R [] (b ∷ ys) x y all here = absurd all
zip_push R (a ∷ xs) [] x y all here = absurd all
zip_push R (a ∷ xs) (b ∷ ys) x y all here = (all.0, zip_push R xs ys x y all.1 here)

pub free_push : (items : List Item) (item : Item) → are_free items ≡ true → holds_up item.work ≡ false
    → are_free (items ++ item ∷ []) ≡ true
free_push items item free here =
    list_all-append (λ (x : Item). not (holds_up x.work)) items (item ∷ [])
    ∙ ap (λ (b : Bool). b && (not (holds_up item.work) && true)) free ∙ ap (λ (b : Bool). not b && true) here

one_more_line : (lines : List (List ℕ)) (line bytes rest after : List ℕ) → bytes ≡ with_ends lines ++ rest → rest ≡ line ++ 10 ∷ after
    → bytes ≡ with_ends (lines ++ line ∷ []) ++ after
one_more_line lines line bytes rest after bytes_are cut =
    let ends : with_ends (lines ++ line ∷ []) ≡ with_ends lines ++ ((line ++ 10 ∷ []) ++ []) =
    flat_map-append (λ (l : List ℕ). l ++ 10 ∷ []) lines (line ∷ []) in
    let regrouped : with_ends lines ++ (line ++ 10 ∷ after) ≡ (with_ends lines ++ ((line ++ 10 ∷ []) ++ [])) ++ after = simp append_assoc in
    bytes_are ∙ ap (λ (r : List ℕ). with_ends lines ++ r) cut ∙ regrouped ∙ ap (λ (t : List ℕ). t ++ after) (sym ends)

-- one line more, and it holds up nothing
pub free_more : (terms : Terms) (origin : Origin) (bytes rest left : List ℕ) (before mid after : List Item)
    → TakesFreely terms origin bytes rest before mid → TakesFree terms origin rest left mid after
    → TakesFreely terms origin bytes left before after
free_more terms origin bytes rest left before mid after had next = record {
  lines = had.lines ++ next.line ∷ [];
  taken = had.taken ++ next.item ∷ [];
  bytes_are = one_more_line had.lines next.line bytes rest left had.bytes_are next.cut.whole;
  after_is = next.after_is ∙ ap (λ (items : List Item). items ++ next.item ∷ []) had.after_is
      ∙ append_assoc before had.taken (next.item ∷ []);
  each = zip_push (IsItemOf terms origin) had.lines had.taken next.line next.item had.each next.its;
  free = free_push had.taken next.item had.free next.free;
}

-- all that were taken
pub front_taken : (terms : Terms) (origin : Origin) (bytes rest : List ℕ) (before after : List Item)
    → TakesFreely terms origin bytes rest before after → (length after < MOST_ITEMS → IsNoLine rest)
    → (taken : List Item) × (after ≡ before ++ taken) × TakesFront terms origin bytes rest taken
    × (length after < MOST_ITEMS → NoneLeft taken rest)
front_taken terms origin bytes rest before after had left = (
  had.taken,
  had.after_is,
  record {
    lines = had.lines;
    bytes_are = had.bytes_are;
    each = had.each;
    last = record { front = had.taken; last = []; whole = sym (append-nil had.taken); free = had.free; one = omega arith };
  },
  λ room. inl (left room),
)

-- with the last one
pub front_last : (terms : Terms) (origin : Origin) (bytes rest left : List ℕ) (before mid after : List Item)
    → TakesFreely terms origin bytes rest before mid → TakesLine terms origin rest left mid after
    → (taken : List Item) × (after ≡ before ++ taken) × TakesFront terms origin bytes left taken
    × (length after < MOST_ITEMS → NoneLeft taken left)
front_last terms origin bytes rest left before mid after had next = (
  had.taken ++ next.item ∷ [],
  next.after_is ∙ ap (λ (items : List Item). items ++ next.item ∷ []) had.after_is ∙ append_assoc before had.taken (next.item ∷ []),
  record {
    lines = had.lines ++ next.line ∷ [];
    bytes_are = one_more_line had.lines next.line bytes rest left had.bytes_are next.cut.whole;
    each = zip_push (IsItemOf terms origin) had.lines had.taken next.line next.item had.each next.its;
    last = record { front = had.taken; last = next.item ∷ []; whole = refl; free = had.free; one = omega arith };
  },
  λ room. inr (record { front = had.taken; last = next.item; whole = refl; held = next.held }),
)
