-- What an outbox makes of sends: each message is put behind those that its receiver's letter has.
use Rattle.std.specs.Prelude.{◌≡◌, ◌⊎◌, ◌≤◌, ℕ, zero, suc, ◌==◌, MatchBool, List, [], ◌++◌, length, slice_index_or}
use Rattle.std.specs.Prelude.{slice_set, Option, Some, Result, Ok, Err}
use Rattle.xid.specs.declared.refusals.Refusal.{Refusal}
use Rattle.xid.specs.declared.refusals.Refusal.TheVariants.{PortFault}
use Rattle.protocol.specs.declared.nodes.NodeId.{NodeId}
use Rattle.protocol.specs.Worlds.{place}
use Rattle.node_core.specs.Configs.{config_by}
use Rattle.node_core.specs.Places.{node_in}
use Rattle.letters.specs.Letters.{enclosed, letter_spelling}
use Rattle.letters.specs.declared.letter.TheConstants.{MAX_LETTER}
use Rattle.port.specs.Calls.{Receiving, Sending}
use Rattle.port.specs.Ports.{faults_after}
use Rattle.letter_port.specs.declared.outbox.Outbox.{Outbox}
use Rattle.letter_port.specs.Mails.{can_go}

-- its count
abbrev pub outbox_count : {P : Type 0} → Outbox P → ℕ
outbox_count outbox = outbox.faults

-- the letter in a place
abbrev pub letter_in : List (List ℕ) → ℕ → List ℕ
letter_in letters at = slice_index_or letters at (letter_spelling [])

-- the letter in a place went to its node, where it had a message, and another is begun there
pub record Dispatched {P : Type 0} (Sent : Sending P) (at : ℕ) (old new : Outbox P) : Type 0 where
  pub sizes : new.sizes ≡ old.sizes
  pub faults : new.faults ≡ old.faults
  pub letters : new.letters.items ≡ slice_set old.letters.items at (letter_spelling [])
  pub short : length (letter_in old.letters.items at) ≤ MAX_LETTER
  pub goes : MatchBool (length (letter_in old.letters.items at) == 1) (new.port ≡ old.port)
      ((result : Result (Unit {0}) Refusal)
      × Sent old.port new.port (node_in (config_by old.sizes []) at) (letter_in old.letters.items at) result)

-- a message was put behind those that the letter in a place has
pub record Puts {P : Type 0} (at : ℕ) (bytes : List ℕ) (old new : Outbox P) : Type 0 where
  pub sizes : new.sizes ≡ old.sizes
  pub port : new.port ≡ old.port
  pub faults : new.faults ≡ old.faults
  pub letters : new.letters.items ≡ slice_set old.letters.items at (letter_in old.letters.items at ++ enclosed bytes)
  pub short : length (letter_in old.letters.items at ++ enclosed bytes) ≤ MAX_LETTER

-- the letters in so many places went, one after another
abbrev pub AllGo : {P : Type 0} → Sending P → ℕ → (old new : Outbox P) → Type 0
AllGo Sent zero old new = new ≡ old
AllGo {P} Sent (suc count) old new = (middle : Outbox P) × AllGo Sent count old middle × Dispatched Sent count middle new

-- there is room for a message in a place: there was, or the letter that stood there went
abbrev pub MakesRoom : {P : Type 0} → Sending P → ℕ → (old new : Outbox P) → Type 0
MakesRoom Sent at old new = (new ≡ old) ⊎ Dispatched Sent at old new

-- a message that may go was put into the letter to its receiver
pub record Encloses {P : Type 0} (Sent : Sending P) (receiver : NodeId) (bytes : List ℕ) (old new : Outbox P) : Type 0 where
  pub at : ℕ
  pub found : place (config_by old.sizes []) receiver ≡ Some at
  pub middle : Outbox P
  pub room : MakesRoom Sent at old middle
  pub puts : Puts at bytes middle new

-- what may not go is lost
pub record Loses {P : Type 0} (old new : Outbox P) : Type 0 where
  pub sizes : new.sizes ≡ old.sizes
  pub port : new.port ≡ old.port
  pub letters : new.letters.items ≡ old.letters.items

-- a send puts what may go into a letter, and loses the rest
pub record OutboxSent {P : Type 0} (Sent : Sending P) (old new : Outbox P) (receiver : NodeId) (bytes : List ℕ)
    (result : Result (Unit {0}) Refusal) : Type 0 where
  pub faults : new.faults ≡ faults_after old.faults result
  pub goes : MatchBool (can_go old.sizes receiver bytes) (Encloses Sent receiver bytes old new) (Loses old new)

-- what it gives of what the port gave: the same
abbrev pub Gives : (came taken : Result (Option (List ℕ)) Refusal) → Type 0
Gives (Ok came) taken = taken ≡ Ok came
Gives (Err refusal) taken = taken ≡ Err PortFault

-- a receive is one of the port
pub record OutboxReceived {P : Type 0} (Received : Receiving P) (old new : Outbox P) (taken : Result (Option (List ℕ)) Refusal) : Type 0
  where
    pub sizes : new.sizes ≡ old.sizes
    pub letters : new.letters.items ≡ old.letters.items
    pub faults : new.faults ≡ faults_after old.faults taken
    pub came : Result (Option (List ℕ)) Refusal
    pub received : Received old.port new.port came
    pub gives : Gives came taken
