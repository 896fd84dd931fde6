-- Names that stand once in a list: kept by what makes the list shorter, and by one more that is new.
-- Needed by Manager.Apart and Manager.Prepared; crate resource_manager.
use Rattle.std.proofs.Common.{inl, inr, Bool, List, [], ◌∷◌, ◌++◌, Option, Some, None, filter, filter_map, refl, sym, subst}
use Rattle.std.specs.List.{cons_option}
use Rattle.std.proofs.lemmas.Bool.{cond_both}
use Rattle.xid.specs.Names.{XidParts}
use Rattle.protocol.specs.Managers.{Branch}
use Rattle.ballot.specs.Greatest.{IsIn}
use Rattle.protocol.specs.Holds.{AreDistinct, AreNamedOnce, names_of}
use Rattle.protocol.proofs.Lists.{IsIn-append, IsIn-push, IsIn-map, IsIn-mapped, filter_kept, filter_map_given, filter_map_gives}

-- with one name more that is new
pub distinct_push : (xs : List XidParts) (x : XidParts) → AreDistinct xs → (IsIn xs x → ⊥) → AreDistinct (xs ++ x ∷ [])
distinct_push [] x d new = (λ h. h, tt)
distinct_push (y ∷ ys) x d new = (
  λ h. elim (IsIn-push ys x y h) [ inl old ↦ d.0 old | inr e ↦ new (inl (sym e)) ],
  distinct_push ys x d.1 (λ h. new (inr h)),
)

-- with more names that are new
pub distinct_append : (xs ys : List XidParts) → AreDistinct xs → AreDistinct ys → ((x : XidParts) → IsIn xs x → IsIn ys x → ⊥)
    → AreDistinct (xs ++ ys)
distinct_append [] ys d e apart = e
distinct_append (x ∷ xs) ys d e apart = (
  λ h. elim (IsIn-append xs ys x h) [ inl here ↦ d.0 here | inr there ↦ apart x (inl refl) there ],
  distinct_append xs ys d.1 e (λ z h k. apart z (inr h) k),
)

-- of the branches that pass a test
pub named_once_filtered : (p : Branch → Bool) (branches : List Branch) → AreNamedOnce branches → AreNamedOnce (filter p branches)
named_once_filtered p [] d = tt
named_once_filtered p (b ∷ rest) d =
    cond_both (p b) (b ∷ filter p rest) (filter p rest) AreNamedOnce
    (λ passes. (λ h. d.0 (still b.xid h), named_once_filtered p rest d.1))
    (λ fails. named_once_filtered p rest d.1)
  where
    still : (x : XidParts) → IsIn (names_of (filter p rest)) x → IsIn (names_of rest) x
    still x h =
        let at = IsIn-mapped (λ (c : Branch). c.xid) (filter p rest) x h in
        subst (IsIn (names_of rest)) at.maps (IsIn-map (λ (c : Branch). c.xid) rest at.source (filter_kept p rest at.source at.among).0)

module _ {X : Type 0} (name : X → Option XidParts) where
  -- the names that a longer list gives, one in front
  distinct_cons : (o : Option XidParts) (xs ys : List XidParts) → ((x : XidParts) → IsIn ys x → IsIn xs x) → AreDistinct ys
      → AreDistinct (cons_option o xs) → AreDistinct (cons_option o ys)
  distinct_cons None xs ys some d e = d
  distinct_cons (Some x) xs ys some d e = (λ h. e.0 (some x h), d)

  distinct_rest : (o : Option XidParts) (xs : List XidParts) → AreDistinct (cons_option o xs) → AreDistinct xs
  distinct_rest None xs d = d
  distinct_rest (Some x) xs d = d.1

  -- of the names that are left of what passes one
  pub distinct_filtered : (p : X → Bool) (xs : List X) → AreDistinct (filter_map name xs) → AreDistinct (filter_map name (filter p xs))
  distinct_filtered p [] d = tt
  distinct_filtered p (x ∷ xs) d =
      let rest = distinct_filtered p xs (distinct_rest (name x) (filter_map name xs) d) in
      cond_both (p x) (x ∷ filter p xs) (filter p xs) (λ (ys : List X). AreDistinct (filter_map name ys))
      (λ passes. distinct_cons (name x) (filter_map name xs) (filter_map name (filter p xs))
      (λ y h.
      let at = filter_map_given name (filter p xs) y h in
      filter_map_gives name xs at.source y (filter_kept p xs at.source at.among).0 at.gives)
      rest d)
      (λ fails. rest)
