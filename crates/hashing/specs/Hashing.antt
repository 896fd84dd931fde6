-- How bytes are hashed. Nothing that a contract of a map says depends on it.
use Rattle.std.specs.Prelude.{ℕ, ◌+◌, ◌*◌, ◌/◌, ◌%◌, ◌^◌, ◌-◌, ◌==◌, nat_lt, if◌then◌else◌, List, [], ◌∷◌, length, drop, bit_and, bit_xor}
use Rattle.std.specs.Int.{w64, from_le_bytes, rotate_left}
use Rattle.std.specs.Prelude.{Option, Some, None}
use Rattle.std.specs.RandomState.{initial_hasher}
use Rattle.std.specs.declared.hash.RandomState.{RandomState}
use Rattle.std.specs.declared.hash.DefaultHasher.{DefaultHasher}
use Rattle.std.specs.Hash.DefaultHasher as sip
use Rattle.hashing.specs.declared.keys.WordKey.{WordKey}
use Rattle.hashing.specs.declared.keys.SipKey.{SipKey}
use Rattle.hashing.specs.declared.words.WordHasher.{WordHasher}

-- the key of those that draw none
abbrev pub fixed_words : WordKey
fixed_words = record { first = 0x243f6a8885a308d3; multiplier = 0x9e3779b97f4a7c15 }

-- nothing is hashed
abbrev pub nothing_taken : WordKey → WordHasher
nothing_taken key = record { state = key.first; multiplier = key.multiplier; word = 1 }

-- SipHash of a key, or without one
abbrev pub sip_of : SipKey → DefaultHasher
sip_of key = sip_by key.drawn
  where
    sip_by : Option RandomState → DefaultHasher
    sip_by (Some state) = initial_hasher state
    sip_by None = sip.initial

-- the two halves of a product of 128 bits, one into the other
unfoldable pub folded_multiply : ℕ → ℕ → ℕ
folded_multiply a b = bit_xor (bit_and (a * b) (2 ^ 64 - 1)) (a * b / 2 ^ 64)

-- a word taken into a state, in which the state before shows too
abbrev pub mixed : (multiplier state word : ℕ) → ℕ
mixed multiplier state word = bit_xor (folded_multiply (bit_xor state word) multiplier) (rotate_left w64 state 23)

-- a word with one byte more
abbrev pub longer : (word byte : ℕ) → ℕ
longer word byte = (word * 256 % 2 ^ 64 + byte) % 2 ^ 64

-- after one byte more: a full word goes into the state
abbrev pub with_byte : WordHasher → ℕ → WordHasher
with_byte h byte =
    if nat_lt (longer h.word byte) (2 ^ 56) then record { state = h.state; multiplier = h.multiplier; word = longer h.word byte }
    else record { state = mixed h.multiplier h.state (longer h.word byte); multiplier = h.multiplier; word = 1 }

-- after bytes one by one
abbrev pub with_bytes : WordHasher → List ℕ → WordHasher
with_bytes h [] = h
with_bytes h (byte ∷ bytes) = with_bytes (with_byte h byte) bytes

-- ---- by words of eight bytes

-- eight bytes as a number, the first the lowest
abbrev pub word_of : List ℕ → ℕ
word_of bytes = from_le_bytes w64 bytes

-- bytes taken into a word one by one
abbrev pub taken : ℕ → List ℕ → ℕ
taken word [] = word
taken word (byte ∷ bytes) = taken (longer word byte) bytes

-- the last eight bytes as a number, or all where there are fewer
abbrev pub last_word : List ℕ → ℕ
last_word bytes = if nat_lt (length bytes) 8 then taken 0 bytes else word_of (drop (length bytes - 8) bytes)

-- words taken into a state, as many as there are
unfoldable pub words_taken : (multiplier state : ℕ) → List ℕ → ℕ
words_taken multiplier state (a ∷ b ∷ c ∷ d ∷ e ∷ f ∷ g ∷ h ∷ rest) =
    words_taken multiplier (mixed multiplier state (word_of (a ∷ b ∷ c ∷ d ∷ e ∷ f ∷ g ∷ h ∷ []))) rest
words_taken multiplier state rest = state

-- all bytes taken into a state
abbrev pub all_taken : (multiplier state : ℕ) → List ℕ → ℕ
all_taken multiplier state bytes = mixed multiplier (words_taken multiplier state bytes) (last_word bytes)

-- the hash of bytes under a key
abbrev pub hash_of : WordKey → List ℕ → ℕ
hash_of key bytes = all_taken key.multiplier (bit_xor key.first (length bytes)) bytes

-- a hasher in another state
abbrev pub in_state : WordHasher → ℕ → WordHasher
in_state h state = record { state = state; multiplier = h.multiplier; word = h.word }

-- after bytes that aren't eight: few are taken one by one, more by words
abbrev pub with_slice : WordHasher → List ℕ → WordHasher
with_slice h bytes = if nat_lt (length bytes) 8 then with_bytes h bytes else in_state h (all_taken h.multiplier h.state bytes)

-- after bytes that are written at once: eight are a word
abbrev pub written : WordHasher → List ℕ → WordHasher
written h bytes =
    if length bytes == 8 then in_state h (mixed h.multiplier h.state (from_le_bytes w64 bytes)) else with_slice h bytes
