-- What holds of the branches of a resource manager.
use Rattle.std.specs.Prelude.{◌≡◌, ◌≢◌, ℕ, true, false, List, [], ◌∷◌, map, Contains}
use Rattle.std.specs.List.{AllByRecursion}
use Rattle.stable_record.specs.Facts.{AreAscending}
use Rattle.xid.specs.Names.{XidParts}
pub use Rattle.ballot.specs.Greatest.{IsIn}
use Rattle.protocol.specs.Basics.{Fact, Touched}
use Rattle.protocol.specs.Facts.{Bound, is_spent, bound_branches}
use Rattle.protocol.specs.Branches.{is_write}
use Rattle.protocol.specs.Managers.{Branch, act_on, has_key}

-- no key is held by branches of two names of which one has put or deleted it
abbrev pub AreHeldOnce : List Branch → Type 0
AreHeldOnce branches = (b c : Branch) → Contains branches b → Contains branches c → b.xid ≢ c.xid
    → (key : List ℕ) → is_write (act_on b.keys key) ≡ true → ¬ (has_key key c.keys ≡ true)

-- no name stands twice in a list
abbrev pub AreDistinct : List XidParts → Type 0
AreDistinct [] = Unit {0}
AreDistinct (x ∷ xs) = (¬ IsIn xs x) × AreDistinct xs

-- the names of branches
abbrev pub names_of : List Branch → List XidParts
names_of branches = map (λ branch. branch.xid) branches

-- no name has two branches
abbrev pub AreNamedOnce : List Branch → Type 0
AreNamedOnce branches = AreDistinct (names_of branches)

-- the touched keys of each branch stand ascending
abbrev pub AreInOrder : List Branch → Type 0
AreInOrder branches = AllByRecursion (λ branch. AreAscending branch.keys) branches

-- no key that is written among these is among the others
abbrev pub OwnsWrites : List Touched → List Touched → Type 0
OwnsWrites keys others = (key : List ℕ) → is_write (act_on keys key) ≡ true → has_key key others ≡ true → ⊥

-- no key is in both, unless both have only read it
abbrev pub AreDisjoint : List Touched → List Touched → Type 0
AreDisjoint keys others = OwnsWrites keys others × OwnsWrites others keys

-- the branches that aren't prepared: their names aren't spent, no name has two of them, and no key that one has written is in another,
-- nor in a prepared one, nor the other way round; and the keys of each ascend
pub record AreApart (rm : ℕ) (facts : List Fact) (branches : List Branch) : Type 0 where
  pub unspent : (b : Branch) → IsIn branches b → is_spent rm facts b.xid ≡ false
  pub apart : (b c : Branch) → IsIn branches b → IsIn branches c → b.xid ≢ c.xid → OwnsWrites b.keys c.keys
  pub free : (b : Branch) (bound : Bound) → IsIn branches b → IsIn (bound_branches facts) bound → AreDisjoint b.keys bound.keys
  pub distinct : AreNamedOnce branches
  pub ordered : (b : Branch) → IsIn branches b → AreAscending b.keys
