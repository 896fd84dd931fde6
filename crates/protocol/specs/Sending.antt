-- How contracts see what a part decides to send: `Sends` of src/decisions.rt keeps it in place, and is seen as the list.
use Rattle.std.specs.Prelude.{List, [], ◌∷◌, Option, Some, None}

-- the list of what is there
abbrev pub listed : {X : Type 0} → Option X → List X
listed None = []
listed (Some x) = x ∷ []

-- the first of a list
abbrev pub first_listed : {X : Type 0} → List X → Option X
first_listed [] = None
first_listed (x ∷ rest) = Some x
