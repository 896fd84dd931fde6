-- What the program is asked, and what it prints.
use Rattle.std.specs.Prelude.{◌≡◌, ◌⊎◌, ℕ, List, [], ◌∷◌, ◌++◌, Option, codes, decimal}
use Rattle.std.specs.Io.KnownBytes.{Appends, Keeps}
use Rattle.xid.specs.declared.refusals.Refusal.{Refusal}
use Rattle.xid.specs.declared.refusals.Refusal.TheVariants.{BadScript}
use Rattle.xid.specs.Refusals.{number_of}
use Rattle.net_script.specs.TraceReading.{RefusesTrace}
use Rattle.net_script.specs.Writing.{BreaksOff, IsFileRefusal, TriesToAppend}
use Rattle.picture.specs.Pictures.{IsPictureOf}

-- ---- lines

-- the line of a refusal, with the line at fault where there is one
abbrev pub refusal_line : Refusal → List ℕ
refusal_line (BadScript line) = codes "pcommit_picture: refused 7 line " ++ decimal line ++ 10 ∷ []
refusal_line refusal = codes "pcommit_picture: refused " ++ decimal (number_of refusal) ++ 10 ∷ []

-- the line for a command line that is none of the program's
abbrev pub usage_line : List ℕ
usage_line = codes "pcommit_picture: usage: pcommit_picture FILE" ++ 10 ∷ []

-- ---- command lines

-- the words are the program's name and a file
pub record Names (words : List (List ℕ)) (path : List ℕ) : Type 0 where
  pub name : List ℕ
  pub are : words ≡ name ∷ path ∷ []

-- the words name no file, or more than one word follows the program's name
abbrev pub IsMisuse : List (List ℕ) → Type 0
IsMisuse words = (path : List ℕ) → Names words path → ⊥

-- ---- files

-- the picture of the trace in some bytes, which the file had, joins what a writer has
pub record DrawsFile (path : List ℕ) (old new : Option (List ℕ)) : Type 0 where
  pub bytes : List ℕ
  pub text : List ℕ
  pub is : IsPictureOf path bytes text
  pub printed : Appends old new text

-- a beginning of it, and not all of it, joins what a writer has
pub record BreaksOffIn (path : List ℕ) (old new : Option (List ℕ)) : Type 0 where
  pub bytes : List ℕ
  pub text : List ℕ
  pub is : IsPictureOf path bytes text
  pub broken : BreaksOff old new text

-- why the trace in a file isn't drawn, and what a writer has then: nothing new where the file can't be read, or has no trace, and a
-- beginning of the picture where that can't be written
abbrev pub RefusesFile : (path : List ℕ) → Refusal → (old new : Option (List ℕ)) → Type 0
RefusesFile path refusal old new =
    (IsFileRefusal refusal × Keeps old new) ⊎ ((bytes : List ℕ) × RefusesTrace bytes refusal × Keeps old new)
    ⊎ (IsFileRefusal refusal × BreaksOffIn path old new)

-- the words name a file, and its trace was drawn
pub record Draws (words : List (List ℕ)) (out_old out_new : Option (List ℕ)) : Type 0 where
  pub path : List ℕ
  pub named : Names words path
  pub drawn : DrawsFile path out_old out_new

-- the words name a file, and its trace wasn't drawn: why, the line of that on `err`, and what is left on `out`
pub record IsRefused (words : List (List ℕ)) (out_old out_new err_old err_new : Option (List ℕ)) : Type 0 where
  pub path : List ℕ
  pub named : Names words path
  pub refusal : Refusal
  pub line : TriesToAppend err_old err_new (refusal_line refusal)
  pub refuses : RefusesFile path refusal out_old out_new
