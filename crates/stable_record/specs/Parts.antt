-- The shape of each part of a node: decide, make ready, play. A part first decides which fact to store and what to send, and changes
-- nothing; then it makes itself ready for the fact; once the fact is stored, it plays it. What a part holds is said by the facts that
-- it stands for.
use Rattle.std.specs.Prelude.{◌≡◌, Bool, true, false, List, [], ◌∷◌, ◌++◌, Result, Ok, Err}
use Rattle.xid.specs.declared.refusals.Refusal.{Refusal}
use Rattle.stable_record.specs.declared.fact.FactKind.{FactKind as Fact}

-- a kind of part: how contracts see it, which facts it stands for, whether a fact plays after some, and for which fact it is ready:
-- to play it takes no memory
pub record Part (Value : Type 0) : Type 1 where
  pub StandsFor : Value → List Fact → Type 0
  pub plays : List Fact → Fact → Bool
  pub IsReadyFor : Value → Fact → Type 0

-- it stands for whatever it stood for
abbrev pub IsSame : {Value : Type 0} → Part Value → (old new : Value) → Type 0
IsSame part old new = (facts : List Fact) → part.StandsFor old facts → part.StandsFor new facts

-- a fact plays after whatever it stands for, or doesn't
abbrev pub Plays : {Value : Type 0} → Part Value → Value → Fact → Bool → Type 0
Plays part value fact does = (facts : List Fact) → part.StandsFor value facts → part.plays facts fact ≡ does

-- made ready for a fact: it stands for the same, and the only refusal is that of memory
abbrev pub IsMadeReady : {Value : Type 0} → Part Value → (old new : Value) → Fact → Result (Unit {0}) Refusal → Type 0
IsMadeReady part old new fact (Ok done) = IsSame part old new × part.IsReadyFor new fact
IsMadeReady part old new fact (Err Refusal.NoMemory) = IsSame part old new
IsMadeReady part old new fact (Err other) = ⊥

-- played: a fact that plays leads to the facts with it; one that doesn't is Damaged; and memory is refused only where it wasn't ready.
-- A refusal leaves what it stands for
abbrev pub IsPlayed : {Value : Type 0} → Part Value → (old new : Value) → Fact → Result (Unit {0}) Refusal → Type 0
IsPlayed part old new fact (Ok done) =
    Plays part old fact true × ((facts : List Fact) → part.StandsFor old facts → part.StandsFor new (facts ++ fact ∷ []))
IsPlayed part old new fact (Err Refusal.Damaged) = Plays part old fact false × IsSame part old new
IsPlayed part old new fact (Err Refusal.NoMemory) = Plays part old fact true × (¬ part.IsReadyFor old fact) × IsSame part old new
IsPlayed part old new fact (Err other) = ⊥
