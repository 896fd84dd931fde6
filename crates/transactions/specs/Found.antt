-- Where bytes stand among keys: by a hint, and else by what the others say.
use Rattle.std.specs.Prelude.{◌≡◌, ◌&&◌, ◌⊎◌, ℕ, Bool, true, false, not, if◌then◌else◌, List, Option, Some, None, is_some, IsSomeAnd}
use Rattle.std.specs.Prelude.{slice_get, nat_eq}
use Rattle.std.specs.Map.{lookup}
use Rattle.std.specs.Str.{bytes_eq}
use Rattle.hashing.specs.Hashing.{hash_of}
use Rattle.hashing.specs.declared.keys.WordKey.{WordKey}
use Rattle.transactions.specs.declared.hashed.HashedPlaces.{HashedPlaces}

-- what the hints say of a hash
abbrev pub hint_of : HashedPlaces → ℕ → Option ℕ
hint_of places hash = lookup (nat_eq hash) places.hints.entries

-- what the others say of bytes
abbrev pub other_of : HashedPlaces → List ℕ → Option ℕ
other_of places k = lookup (λ key. bytes_eq k key.items) places.others.entries

-- a place, or where there is none that of something new
abbrev pub or_new : Option ℕ → (is_new : Bool) → (place : ℕ) → Option ℕ
or_new (Some known) is_new place = Some known
or_new None is_new place = if is_new then Some place else None

-- bytes of this hash have a place now: by a hint, or by the others where the hash is taken
pub record IsPlaced (old new : HashedPlaces) (hash : ℕ) (k : List ℕ) (place : ℕ) : Type 0 where
  pub hints : (h : ℕ) → hint_of new h ≡ or_new (hint_of old h) (not (is_some (hint_of old hash)) && nat_eq h hash) place
  pub others : (q : List ℕ) → other_of new q ≡ or_new (other_of old q) (is_some (hint_of old hash) && bytes_eq q k) place

module _ {K : Type 0} (bytes : K → List ℕ) where
  -- whether a key has these bytes
  abbrev pub has_bytes : List ℕ → Option K → Bool
  has_bytes k None = false
  has_bytes k (Some key) = bytes_eq k (bytes key)

  -- whether these bytes stand at a place
  abbrev pub is_at : List K → List ℕ → ℕ → Bool
  is_at keys k place = has_bytes k (slice_get keys place)

  -- the place of bytes: where there is a hint that of the hint, if they stand there, and else the other
  abbrev pub found : List K → List ℕ → (hint other : Option ℕ) → Option ℕ
  found keys k None other = None
  found keys k (Some place) other = if is_at keys k place then Some place else other

  -- what is found by a hint and what the others say, or else a place where the bytes stand
  abbrev pub IsFound : List K → List ℕ → (by_hint result : Option ℕ) → Type 0
  IsFound keys k by_hint result = (result ≡ by_hint) ⊎ IsSomeAnd result (λ place. is_at keys k place ≡ true)

  -- each key is found by its bytes under the key of hashes, and bytes stand where the others say
  pub record IsIndex (words : WordKey) (keys : List K) (hint : ℕ → Option ℕ) (other : List ℕ → Option ℕ) : Type 0 where
    pub own : (place : ℕ) (key : K) → slice_get keys place ≡ Some key
        → found keys (bytes key) (hint (hash_of words (bytes key))) (other (bytes key)) ≡ Some place
    pub others : (k : List ℕ) (place : ℕ) → other k ≡ Some place → is_at keys k place ≡ true
