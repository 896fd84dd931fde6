-- A text that joins what a writer has, and what the writer has where it fails.
use Rattle.std.specs.Prelude.{◌≡◌, ◌⊎◌, ℕ, ◌<◌, List, ◌++◌, length, Option, Result, MatchResult}
use Rattle.std.specs.Io.KnownBytes.{Appends}
use Rattle.xid.specs.declared.refusals.Refusal.{Refusal}
use Rattle.xid.specs.declared.refusals.Refusal.TheVariants.{NoMemory, FileFault}

-- a beginning of the text, and not all of it, joins what a writer has
abbrev pub BreaksOff : (old new : Option (List ℕ)) → (text : List ℕ) → Type 0
BreaksOff old new text =
    (written : List ℕ) × (rest : List ℕ) × (text ≡ written ++ rest) × (0 < length rest) × Appends old new written

-- the text joins what a writer has, or a beginning of it where the writer fails
abbrev pub TriesToAppend : (old new : Option (List ℕ)) → (text : List ℕ) → Type 0
TriesToAppend old new text = Appends old new text ⊎ BreaksOff old new text

-- the refusals of a file that can't be read or written: its own, and want of memory
abbrev pub IsFileRefusal : Refusal → Type 0
IsFileRefusal refusal = (refusal ≡ NoMemory) ⊎ (refusal ≡ FileFault)

-- the text joins what a vector has, unless memory runs out
abbrev pub Puts : {X : Type 0} → (old new : List ℕ) → Result X Refusal → (text : List ℕ) → Type 0
Puts old new result text = MatchResult result (λ _. new ≡ old ++ text) (λ e. e ≡ NoMemory)

-- the text joins what a writer has, or the writer fails, and then a beginning of the text joins it and nothing else
abbrev pub WritesText : {X : Type 0} → (old new : Option (List ℕ)) → Result X Refusal → (text : List ℕ) → Type 0
WritesText old new result text = MatchResult result (λ _. Appends old new text) (λ e. IsFileRefusal e × BreaksOff old new text)
