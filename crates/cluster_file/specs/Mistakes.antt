-- What is wrong with a file, and where; and what is read of it, if nothing is.
use Rattle.std.specs.Prelude.{◌≡◌, ℕ, ◌==◌, ◌&&◌, ◌||◌, not, Bool, if◌then◌else◌, List, ◌++◌, length, Option, Some, None, Result, Ok, Err}
use Rattle.std.specs.Prelude.{IfSome, string_bytes}
use Rattle.std.specs.Char.{is_ascii_alphanumeric}
use Rattle.std.specs.List.{list_all}
use Rattle.cluster_file.specs.declared.error.ClusterError.{ClusterError}
use Rattle.cluster_file.specs.declared.error.ClusterError.TheVariants.{Syntax, Wrong, Memory}
use Rattle.cluster_file.specs.declared.error.Fault.{Fault}

-- what is wrong, and the text of where: its key, behind those in which it stands. No text is known where that key is quoted
pub record Mistake : Type 0 where
  pub at : Option (List ℕ)
  pub fault : Fault

-- the second step, if the first gave a value
infixl 10 ◌>>=◌
abbrev pub ◌>>=◌ : {A B E : Type 0} → Result A E → (A → Result B E) → Result B E
Ok x >>= f = f x
Err e >>= f = Err e

-- whether a byte may stand in a key without quotes
abbrev pub is_bare_byte : ℕ → Bool
is_bare_byte byte = (is_ascii_alphanumeric byte || byte == 95) || byte == 45

-- whether a key is written without quotes
abbrev pub is_bare : List ℕ → Bool
is_bare key = list_all is_bare_byte key && not (length key == 0)

-- where a key stands behind a path
abbrev pub key_at : List ℕ → List ℕ → Option (List ℕ)
key_at path key = if is_bare key then Some (path ++ key) else None

-- a fault at a key behind a path
abbrev pub mistake_at : List ℕ → List ℕ → Fault → Mistake
mistake_at path key fault = record { at = key_at path key; fault = fault }

-- what is read at a key behind a path
abbrev pub reads_at : {T : Type 0} → List ℕ → List ℕ → Result T Fault → Result T Mistake
reads_at path key (Ok value) = Ok value
reads_at path key (Err fault) = Err (mistake_at path key fault)

-- an error says a mistake, or that memory ran out before that could be said
abbrev pub Says : Mistake → ClusterError → Type 0
Says mistake (Wrong path fault) = IfSome mistake.at (λ text. string_bytes path ≡ text) × (fault ≡ mistake.fault)
Says mistake Memory = Unit {0}
Says mistake (Syntax line error) = ⊥

-- the same of a reading's mistake
abbrev pub SaysOf : {T : Type 0} → Result T Mistake → ClusterError → Type 0
SaysOf said (Wrong path fault) = (mistake : Mistake) × (said ≡ Err mistake) × Says mistake (Wrong path fault)
SaysOf said Memory = Unit {0}
SaysOf said (Syntax line error) = ⊥

-- an error is one of a reading: it says its mistake, or that memory ran out before
pub record IsRefused {T : Type 0} (said : Result T Mistake) (error : ClusterError) : Type 0 where
  pub says : SaysOf said error
