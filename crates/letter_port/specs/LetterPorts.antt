-- A port whose datagrams are letters, as contracts see it, and what it makes of receives.
use Rattle.std.specs.Prelude.{◌≡◌, ◌⊎◌, ℕ, ◌+◌, min, List, [], ◌∷◌, map, if◌then◌else◌, Option, Some, None, Result, Ok, Err}
use Rattle.std.specs.List.{flat_map}
use Rattle.xid.specs.declared.refusals.Refusal.{Refusal}
use Rattle.xid.specs.declared.refusals.Refusal.TheVariants.{NoSuch, PortFault}
use Rattle.xid.specs.Places.{Place}
use Rattle.stable_record.specs.Held.{most_faults}
use Rattle.protocol.specs.declared.nodes.NodeId.TheVariants.{R}
use Rattle.protocol.specs.declared.nodes.NodeId.{NodeId}
use Rattle.protocol.specs.Effects.{Config}
use Rattle.protocol.specs.Nodes.{NodeState}
use Rattle.node_core.specs.declared.config.Sizes.{Sizes}
use Rattle.node_core.specs.Opening.{restart_answer}
use Rattle.floors.specs.Worlds.{is_done, notices_of}
use Rattle.floored.specs.Nodes.{FlooredStands}
use Rattle.letters.specs.Letters.{HasFirstMessage, IsLetterOf, enclosed}
use Rattle.port.specs.Calls.{Receiving, Sending}
use Rattle.port.specs.Members.{MemberParts, RaisesMember}
use Rattle.letter_port.specs.Mails.{GoesInLetters, Mail, mail_of_notice}

-- the port beneath, the sizes of the cluster, what is left of the letter that came last, and how many datagrams were no letters
pub record LetterParts (P : Type 0) : Type 0 where
  pub port : P
  pub sizes : Sizes
  pub left : List ℕ
  pub dropped : ℕ

-- all that was to go went, in letters
pub record SendsOut {P : Type 0} (Sent : Sending P) (old new : LetterParts P) (mails : List Mail) : Type 0 where
  pub sizes : new.sizes ≡ old.sizes
  pub goes : GoesInLetters Sent old.sizes old.port new.port mails

-- the first message that was left was taken
pub record TakesLeft {P : Type 0} (old new : LetterParts P) (taken : Result (Option (List ℕ)) Refusal) : Type 0 where
  pub message : List ℕ
  pub first : HasFirstMessage message new.left old.left
  pub is : taken ≡ Ok (Some message)
  pub port : new.port ≡ old.port
  pub dropped : new.dropped ≡ old.dropped

-- a letter came: its first message was taken, and the others are left
pub record OpensLetter {P : Type 0} (bytes : List ℕ) (old new : LetterParts P) (taken : Result (Option (List ℕ)) Refusal) : Type 0 where
  pub message : List ℕ
  pub others : List (List ℕ)
  pub letter : IsLetterOf (message ∷ others) bytes
  pub is : taken ≡ Ok (Some message)
  pub left : new.left ≡ flat_map enclosed others
  pub dropped : new.dropped ≡ old.dropped

-- what came is no letter: nothing of it was taken
pub record DropsAll {P : Type 0} (bytes : List ℕ) (old new : LetterParts P) (taken : Result (Option (List ℕ)) Refusal) : Type 0 where
  pub none : (messages : List (List ℕ)) → IsLetterOf messages bytes → ⊥
  pub is : taken ≡ Err PortFault
  pub left : new.left ≡ []
  pub dropped : new.dropped ≡ min (old.dropped + 1) most_faults

-- nothing came
pub record TakesNothing {P : Type 0} (old new : LetterParts P) : Type 0 where
  pub left : new.left ≡ []
  pub dropped : new.dropped ≡ old.dropped

-- what was made of what came
abbrev pub Opens : {P : Type 0} → (came : Result (Option (List ℕ)) Refusal) → (old new : LetterParts P)
    → (taken : Result (Option (List ℕ)) Refusal) → Type 0
Opens (Ok None) old new taken = (taken ≡ Ok None) × TakesNothing old new
Opens (Ok (Some bytes)) old new taken = OpensLetter bytes old new taken ⊎ DropsAll bytes old new taken
Opens (Err refusal) old new taken = (taken ≡ Err PortFault) × TakesNothing old new

-- nothing was left, and the port was asked
pub record TakesNext {P : Type 0} (Received : Receiving P) (old new : LetterParts P) (taken : Result (Option (List ℕ)) Refusal) : Type 0
  where
    pub none : (message more : List ℕ) → HasFirstMessage message more old.left → ⊥
    pub came : Result (Option (List ℕ)) Refusal
    pub received : Received old.port new.port came
    pub opens : Opens came old new taken

-- a receive takes what is left of a letter, and then of the next
pub record LetterReceived {P : Type 0} (Received : Receiving P) (old new : LetterParts P) (taken : Result (Option (List ℕ)) Refusal)
    : Type 0 where
  pub sizes : new.sizes ≡ old.sizes
  pub takes : TakesLeft old new taken ⊎ TakesNext Received old new taken

-- a resource manager was asked to raise its floor: it did what the machine's does, and where that was done the notices of its floor went
pub record RaisesManager {P : Type 0} (Sent : Sending P) (config : Config) (place : Place) (rm : ℕ) (was is : MemberParts)
    (old new : LetterParts P) (result : Result (Unit {0}) Refusal) : Type 0 where
  pub raises : RaisesMember place was is result
  pub sends : SendsOut Sent old new
      (map mail_of_notice (if is_done (restart_answer result) then notices_of config rm is.floored.floor else []))

-- whatever node of the machine it stood for; any other node is asked for nothing
abbrev pub RaisesInLetters : {P : Type 0} → Sending P → Place → (who : NodeId) → (was is : MemberParts) → (old new : LetterParts P)
    → Result (Unit {0}) Refusal → Type 0
RaisesInLetters Sent place (R rm) was is old new result =
    (config : Config) (m : NodeState) → FlooredStands config was.floored m → RaisesManager Sent config place rm was is old new result
RaisesInLetters Sent place who was is old new result = (is ≡ was) × (result ≡ Err NoSuch) × SendsOut Sent old new []
