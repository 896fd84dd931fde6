-- What receives give, one after another: the messages of the letters that came.
use Rattle.std.specs.Prelude.{◌≡◌, ◌⊎◌, ℕ, List, [], ◌∷◌, ◌++◌, Option, Some, None, Result, Ok, Err}
use Rattle.std.specs.List.{flat_map, AllByRecursion}
use Rattle.xid.specs.declared.refusals.Refusal.{Refusal}
use Rattle.letters.specs.Letters.{IsEnclosable, IsLetterOf, enclosed}
use Rattle.port.specs.Calls.{Receiving}
use Rattle.letter_port.specs.LetterPorts.{LetterParts, LetterReceived}

-- what a receive gave
abbrev pub Given : Type 0
Given = Result (Option (List ℕ)) Refusal

-- one receive of a port whose datagrams are letters after another
abbrev pub ReceivesAll : {P : Type 0} → Receiving P → (old new : LetterParts P) → List Given → Type 0
ReceivesAll Received old new [] = new ≡ old
ReceivesAll {P} Received old new (given ∷ more) =
    (next : LetterParts P) × LetterReceived Received old next given × ReceivesAll Received next new more

-- one receive of the port beneath after another
abbrev pub ReceivesBeneath : {P : Type 0} → Receiving P → (old new : P) → List Given → Type 0
ReceivesBeneath Received old new [] = new ≡ old
ReceivesBeneath {P} Received old new (came ∷ more) = (next : P) × Received old next came × ReceivesBeneath Received next new more

-- the messages that were given
abbrev pub messages_of : List Given → List (List ℕ)
messages_of [] = []
messages_of (Ok None ∷ more) = messages_of more
messages_of (Ok (Some message) ∷ more) = message ∷ messages_of more
messages_of (Err refusal ∷ more) = messages_of more

-- what came is a letter of these messages, or it is none, and there are none
abbrev pub IsLetterOrNone : List ℕ → (messages : List (List ℕ)) → Type 0
IsLetterOrNone bytes messages =
    IsLetterOf messages bytes ⊎ ((messages ≡ []) × ((others : List (List ℕ)) → IsLetterOf others bytes → ⊥))

-- these are the messages of all letters among what came, in order
abbrev pub AreOf : List Given → (messages : List (List ℕ)) → Type 0
AreOf [] messages = messages ≡ []
AreOf (Ok None ∷ more) messages = AreOf more messages
AreOf (Ok (Some bytes) ∷ more) messages =
    (first : List (List ℕ)) × (rest : List (List ℕ)) × (messages ≡ first ++ rest) × IsLetterOrNone bytes first × AreOf more rest
AreOf (Err refusal ∷ more) messages = AreOf more messages

-- what was given, and what is left, is what was left and then the messages of the letters that came
pub record TakesWhole {P : Type 0} (Received : Receiving P) (old new : LetterParts P) (given : List Given) (left : List (List ℕ)) : Type 0
  where
    pub came : List Given
    pub comes : ReceivesBeneath Received old.port new.port came
    pub messages : List (List ℕ)
    pub are : AreOf came messages
    pub rest : List (List ℕ)
    pub each : AllByRecursion IsEnclosable rest
    pub left_is : new.left ≡ flat_map enclosed rest
    pub exact : messages_of given ++ rest ≡ left ++ messages

-- however often it is asked, a port gives the messages of letters in order and once each, and of what is no letter nothing
abbrev pub TakesLettersWhole : {P : Type 0} → Receiving P → Type 0
TakesLettersWhole {P} Received =
    (given : List Given) (old new : LetterParts P) (left : List (List ℕ)) → AllByRecursion IsEnclosable left
    → old.left ≡ flat_map enclosed left → ReceivesAll Received old new given → TakesWhole Received old new given left
