-- Names of branches under numbers: of the clients that started them, and of the seconds in which they were touched.
use Rattle.std.specs.Prelude.{◌≡◌, ℕ, ◌==◌, ◌&&◌, ◌-◌, ◌/◌, not, Bool, true, false, List, [], Option, Some, None}
use Rattle.std.specs.Option.{option_map_or}
use Rattle.std.specs.Ordering.{nat_cmp}
use Rattle.std.specs.Set.{is_member}
use Rattle.std.specs.BTreeMap.{get}
use Rattle.std.specs.Time.{instant_nanos}
use Rattle.std.specs.declared.time.Instant.{Instant}
use Rattle.indexmap.specs.IndexMap as maps
use Rattle.indexmap.specs.IndexSet as sets
use Rattle.hashing.specs.declared.keys.WordKey.{WordKey}
use Rattle.xid.specs.Names.{XidParts, xid_eq}
use Rattle.serving.specs.declared.branches.Branch.{Branch}
use Rattle.serving.specs.declared.by_number.ByNumber.{ByNumber}

-- whether a name is among these, if there are any
abbrev pub is_in : XidParts → Option (sets.IndexSet XidParts WordKey) → Bool
is_in x None = false
is_in x (Some names) = is_member xid_eq names.keys x

-- those under a number
abbrev pub under : ByNumber → (number : ℕ) → List XidParts
under names number = option_map_or (λ names. names.keys) (get nat_cmp names.numbers number) []

-- whether a name is there, under a number
abbrev pub has : ByNumber → (number : ℕ) → XidParts → Bool
has names number x = is_in x (get nat_cmp names.numbers number)

-- what was there is there
abbrev pub HasAll : ByNumber → ByNumber → Type 0
HasAll old new = (number : ℕ) (x : XidParts) → has old number x ≡ true → has new number x ≡ true

-- what was there is there, but for a name under a number
abbrev pub HasOthers : ByNumber → ByNumber → (number : ℕ) → XidParts → Type 0
HasOthers old new number x =
    (other : ℕ) (y : XidParts) → (number == other && xid_eq x y) ≡ false → has old other y ≡ true → has new other y ≡ true

-- what was there is there, but for a name under other numbers than this
abbrev pub Leaves : ByNumber → ByNumber → (number : ℕ) → XidParts → Type 0
Leaves old new number x =
    (other : ℕ) (y : XidParts) → (not (number == other) && xid_eq x y) ≡ false → has old other y ≡ true → has new other y ≡ true

-- what was there is there, but for a name
abbrev pub HasApart : ByNumber → ByNumber → XidParts → Type 0
HasApart old new x = (number : ℕ) (y : XidParts) → xid_eq x y ≡ false → has old number y ≡ true → has new number y ≡ true

-- each known branch that passes a test is there, under its number
abbrev pub AreUnder : (Branch → Bool) → (Branch → ℕ) → maps.IndexMap XidParts Branch WordKey → ByNumber → Type 0
AreUnder test number_of named names =
    (x : XidParts) (branch : Branch) → maps.get xid_eq named x ≡ Some branch → test branch ≡ true → has names (number_of branch) x ≡ true

-- each active branch is under the client that started it
abbrev pub AreFound : maps.IndexMap XidParts Branch WordKey → ByNumber → Type 0
AreFound named started = AreUnder (λ branch. branch.is_active) (λ branch. branch.client) named started

-- in which second of these a time is, the first for those before them
abbrev pub second_of : (began time : Instant) → ℕ
second_of began time = (instant_nanos time - instant_nanos began) / 1_000_000_000

-- each branch is under the second in which it was last touched
abbrev pub AreTimed : (began : Instant) → maps.IndexMap XidParts Branch WordKey → ByNumber → Type 0
AreTimed began named touched = AreUnder (λ branch. true) (λ branch. second_of began branch.touched) named touched
