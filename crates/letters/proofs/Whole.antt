-- Bytes that are messages, each behind its length: with one more in front, and without the first. So a reader that takes one after another
-- finds whether all of them are.
use Rattle.std.proofs.Common.{◌≡◌, ◌≢◌, ◌∙◌, ◌==◌, ℕ, ◌+◌, ◌≤◌, Bool, true, false, Option, Some, None, List, [], ◌∷◌, ◌++◌, length, refl}
use Rattle.std.proofs.Common.{sym, subst, ap, arith, length-append}
use Rattle.std.specs.List.{flat_map}
use Rattle.byteorder.specs.Endian.{big_bytes}
use Rattle.byteorder.specs.Numbers.{length-bytes_high_first}
use Rattle.wire.specs.Reading.{byte_at}
use Rattle.letters.specs.Letters.{AreEnclosed, HasFirstMessage, IsLetterOf, IsMessageOrNotice, enclosed, letter_version}
use Rattle.wire.proofs.Spelled.{some_same}
use Rattle.letters.proofs.Firsts.{firsts_are_one}

-- what isn't empty, by a test
pub some_by : (bytes : List ℕ) (test : Bool) → test ≡ (length bytes == 0) → test ≡ false → bytes ≢ []
some_by bytes test is holds =
    λ none. let e : false ≡ true = sym holds ∙ is ∙ ap (λ (xs : List ℕ). length xs == 0) none in absurd (cc)

-- some messages
abbrev pub AreSome : List ℕ → Type 0
AreSome bytes = (messages : List (List ℕ)) × AreEnclosed messages bytes

-- one more in front
pub one_more : (message more rest : List ℕ) → HasFirstMessage message more rest → IsMessageOrNotice message → AreSome more → AreSome rest
one_more message more rest first one (messages, are) = (
  message ∷ messages,
  record {
    each = (record { short = first.short; one = one }, are.each);
    is = first.is ∙ ap (λ (xs : List ℕ). enclosed message ++ xs) are.is;
  },
)

-- bytes that aren't empty begin with the first of their messages
pub first_is : (messages : List (List ℕ)) (bytes : List ℕ) → AreEnclosed messages bytes → bytes ≢ []
    → (message : List ℕ) × (more : List ℕ) × HasFirstMessage message more bytes × IsMessageOrNotice message × AreSome more
first_is [] bytes are some = absurd (some are.is)
first_is (message ∷ messages) bytes are some = (
  message,
  flat_map enclosed messages,
  record { short = are.each.0.short; is = are.is },
  are.each.0.one,
  (messages, record { each = are.each.1; is = refl }),
)

-- and without the first
pub one_less : (message more rest : List ℕ) → HasFirstMessage message more rest → rest ≢ [] → AreSome rest
    → IsMessageOrNotice message × AreSome more
one_less message more rest first some (messages, are) =
    let found = first_is messages rest are some in
    let same = firsts_are_one found.0 found.1 message more rest found.2 first in (
      subst IsMessageOrNotice same.0 found.3,
      subst AreSome same.1 found.4,
    )

-- a message behind its length has bytes
enclosed_long : (message : List ℕ) → 2 ≤ length (enclosed message)
enclosed_long message =
    let parts : length (enclosed message) ≡ length (big_bytes 2 (length message)) + length message =
    length-append (big_bytes 2 (length message)) message in
    let two : length (big_bytes 2 (length message)) ≡ 2 = length-bytes_high_first 2 (length message) in
    omega (arith, parts, two)

tails_are_one : (a b : ℕ) (xs ys : List ℕ) → a ∷ xs ≡ b ∷ ys → (a ≡ b) × (xs ≡ ys)
tails_are_one a b xs ys e = (cc, cc)

-- what was taken from the front of bytes stands there
pub begun : (bytes rest : List ℕ) (byte : ℕ) → Some (byte, rest) ≡ byte_at bytes → bytes ≡ byte ∷ rest
begun [] rest byte e = absurd (cc)
begun (x ∷ xs) rest byte e = sym (ap (λ (taken : ℕ × List ℕ). taken.0 ∷ taken.1) (some_same (byte, rest) (x, xs) e))

-- a letter begins with its version
pub version_is : (messages : List (List ℕ)) (bytes rest : List ℕ) (byte : ℕ) → Some (byte, rest) ≡ byte_at bytes
    → IsLetterOf messages bytes → byte ≡ letter_version
version_is messages bytes rest byte e letter =
    (tails_are_one byte letter_version rest (flat_map enclosed messages) (sym (begun bytes rest byte e) ∙ letter.is)).0

-- no bytes are no letter
pub nothing_is_none : (messages : List (List ℕ)) (bytes : List ℕ) → None ≡ byte_at bytes → IsLetterOf messages bytes → ⊥
nothing_is_none messages bytes e letter =
    let none : ◌≡◌ {A = Option (ℕ × List ℕ)} None (Some (letter_version, flat_map enclosed messages)) = e ∙ ap byte_at letter.is in
    absurd (cc (none))

-- one with nothing behind its version has no message
pub empty_is_none : (messages : List (List ℕ)) (bytes rest : List ℕ) → bytes ≡ letter_version ∷ rest → length rest ≡ 0
    → IsLetterOf messages bytes → ⊥
empty_is_none [] bytes rest begins none letter = letter.some refl
empty_is_none (message ∷ messages) bytes rest begins none letter =
    let is : rest ≡ enclosed message ++ flat_map enclosed messages =
    (tails_are_one letter_version letter_version rest (enclosed message ++ flat_map enclosed messages) (sym begins ∙ letter.is)).1 in
    let whole : length rest ≡ length (enclosed message ++ flat_map enclosed messages) = ap length is in
    let parts : length (enclosed message ++ flat_map enclosed messages) ≡ length (enclosed message) + length (flat_map enclosed messages) =
    length-append (enclosed message) (flat_map enclosed messages) in
    omega (arith, whole, parts, none, enclosed_long message)
