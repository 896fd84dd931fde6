-- Letters: many messages in one datagram, each behind its length.
use Rattle.std.specs.Prelude.{◌≡◌, ◌≢◌, ◌⊎◌, ℕ, ◌<◌, ◌≤◌, ◌^◌, List, [], ◌∷◌, ◌++◌, length, Some}
use Rattle.std.specs.List.{flat_map, AllByRecursion}
use Rattle.byteorder.specs.Endian.{big_bytes}
use Rattle.wire.specs.declared.message.Kind.{Kind}
use Rattle.wire.specs.declared.notice.Notice.{Notice}
use Rattle.wire.specs.Grammar.{Spells}
use Rattle.wire.specs.Notices.{notice_at}
use Rattle.letters.specs.declared.letter.TheConstants.{MAX_LETTER}

-- the version of the grammar of letters, the first byte of each
abbrev pub letter_version : ℕ
letter_version = 3

-- a message in a letter: its length in two bytes, big endian, and its bytes
abbrev pub enclosed : List ℕ → List ℕ
enclosed message = big_bytes 2 (length message) ++ message

-- the spelling of a letter with these messages: its version, and each of them
abbrev pub letter_spelling : List (List ℕ) → List ℕ
letter_spelling messages = letter_version ∷ flat_map enclosed messages

-- what is left of a letter begins with a message, whose length fits two bytes, and goes on with what follows it
pub record HasFirstMessage (message more rest : List ℕ) : Type 0 where
  pub short : length message < 2 ^ 16
  pub is : rest ≡ enclosed message ++ more

-- bytes are a message, or a notice
abbrev pub IsMessageOrNotice : List ℕ → Type 0
IsMessageOrNotice bytes = ((kind : Kind) × Spells kind bytes) ⊎ ((notice : Notice) × (notice_at bytes ≡ Some notice))

-- bytes are what a letter may have in it
pub record IsEnclosable (bytes : List ℕ) : Type 0 where
  pub short : length bytes < 2 ^ 16
  pub one : IsMessageOrNotice bytes

-- bytes are these messages, each behind its length, and nothing else
pub record AreEnclosed (messages : List (List ℕ)) (bytes : List ℕ) : Type 0 where
  pub each : AllByRecursion IsEnclosable messages
  pub is : bytes ≡ flat_map enclosed messages

-- bytes are a letter of these messages, of one at least, and few enough
pub record IsLetterOf (messages : List (List ℕ)) (bytes : List ℕ) : Type 0 where
  pub few : length bytes ≤ MAX_LETTER
  pub some : messages ≢ []
  pub each : AllByRecursion IsEnclosable messages
  pub is : bytes ≡ letter_spelling messages
