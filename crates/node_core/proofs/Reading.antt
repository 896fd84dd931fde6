-- What was read of bytes so far.
-- Needed by Replaying and Rows.
use Rattle.std.proofs.Common.{◌≡◌, ◌∙◌, ℕ, List, [], ◌∷◌, ◌++◌, refl, sym, ap, subst, append_assoc}
use Rattle.stable_record.specs.declared.entry.EntryKind.{EntryKind as Entry}
use Rattle.stable_record.specs.Grammar.{IsStored, IsFramed, IsDamaged}
use Rattle.stable_record.proofs.Framed.{stored_same, goes_on, came_on, place_on}
use Rattle.node_core.specs.Opening.{IsReadUpTo}

-- nothing was read yet
pub nothing_read : (bytes : List ℕ) → IsReadUpTo bytes bytes []
nothing_read bytes =
    record { place = ([], refl); goes = λ more tail stored. stored; came = λ all tail stored. (all, refl, stored) }

-- what follows what was read begins with the entry that stands there
pub next_is : (rest after : List ℕ) (entry : Entry) (more : List Entry) (tail : List ℕ) → IsFramed entry rest after
    → IsStored rest more tail → (left : List Entry) × (more ≡ entry ∷ left) × IsStored after left tail
next_is rest after entry more tail framed stored =
    let left = came_on rest after entry framed more tail stored in
    (left.0, (stored_same more (entry ∷ left.0) rest tail tail stored (after, framed, left.1)).0, left.1)

module _ (bytes rest after : List ℕ) (read : List Entry) (entry : Entry) (up : IsReadUpTo bytes rest read)
    (framed : IsFramed entry rest after) where
  -- the entries after those read, and the one that stands there
  pub then_came : (all : List Entry) (tail : List ℕ) → IsStored bytes all tail
      → (left : List Entry) × (all ≡ read ++ entry ∷ left) × IsStored after left tail
  then_came all tail stored =
      let b = up.came all tail stored in
      let n = next_is rest after entry b.0 tail framed b.2 in
      (n.0, b.1 ∙ ap (λ es. read ++ es) n.1, n.2)

  -- one entry more
  pub read_more : IsReadUpTo bytes after (read ++ entry ∷ [])
  read_more = record {
    place = place_on bytes rest after entry framed up.place;
    goes = goes_on bytes rest after read entry framed up.goes;
    came = λ all tail stored.
        let c = then_came all tail stored in
        (c.0, c.1 ∙ sym (append_assoc read (entry ∷ []) c.0), c.2);
  }

-- what was read, and then more
pub read_both : (bytes mid rest : List ℕ) (first second : List Entry) → IsReadUpTo bytes mid first → IsReadUpTo mid rest second
    → IsReadUpTo bytes rest (first ++ second)
read_both bytes mid rest first second f s = record {
  place = (
    f.place.0 ++ s.place.0,
    f.place.1 ∙ ap (λ (xs : List ℕ). f.place.0 ++ xs) s.place.1 ∙ sym (append_assoc f.place.0 s.place.0 rest),
  );
  goes = λ more tail stored. subst (λ es. IsStored bytes es tail) (sym (append_assoc first second more))
      (f.goes (second ++ more) tail (s.goes more tail stored));
  came = λ all tail stored.
      let c = f.came all tail stored in
      let d = s.came c.0 tail c.2 in
      (d.0, c.1 ∙ ap (λ es. first ++ es) d.1 ∙ sym (append_assoc first second d.0), d.2);
}

-- where no entries follow what was read, the bytes hold none
pub damaged_on : (bytes rest : List ℕ) (read : List Entry) → IsReadUpTo bytes rest read → IsDamaged rest → IsDamaged bytes
damaged_on bytes rest read up none all tail stored = let c = up.came all tail stored in none c.0 tail c.2
