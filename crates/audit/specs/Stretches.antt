-- What was done in a branch since it was last started, by looking back over a history, which has the newest first.
use Rattle.std.specs.Prelude.{ℕ, ◌&&◌, ◌==◌, if◌then◌else◌, List, [], ◌∷◌, ◌++◌, reverse, Option, Some, None}
use Rattle.std.specs.Option.{option_map, option_map_or, option_and_then}
use Rattle.xid.specs.Names.{XidParts, xid_eq}
use Rattle.xid.specs.Transactions.{TxParts, xid_at}
use Rattle.xid.specs.declared.codes.XaCode.{XaCode}
use Rattle.protocol.specs.Basics.{Act, Touched}
use Rattle.safety.specs.Vocabulary.{Answer, Code, Value, NoValue, Event, Ask, Step, R, Action, Start, Put, Del, Get, Call}
use Rattle.audit.specs.declared.stretch.Shown.{Shown}
use Rattle.history.specs.LookingBack.{last_act_on}

-- what was done in a branch since it was last started: the puts and dels that were accepted, and what gets showed, in their order
pub record StretchParts : Type 0 where
  pub writes : List Touched
  pub gets : List Shown

-- a branch that was just started
abbrev pub just_started : StretchParts
just_started = record { writes = []; gets = [] }

-- the last of some writes to a key, which is to read it where there is none
abbrev pub own_act : List Touched → List ℕ → Act
own_act writes key = last_act_on (reverse writes) key

-- a stretch with one more write
abbrev pub with_write : List ℕ → Act → StretchParts → StretchParts
with_write key act stretch = record stretch { writes = stretch.writes ++ (record { key = key; act = act }) ∷ [] }

-- a stretch with one more get, and what it showed
abbrev pub with_get : List ℕ → Option (List ℕ) → StretchParts → StretchParts
with_get key found stretch =
    record stretch { gets = stretch.gets ++ (record { key = key; own = own_act stretch.writes key; found = found }) ∷ [] }

-- what a call that was answered so makes of a branch, which may never have been started
abbrev pub stretch_after : Action → Answer → Option StretchParts → Option StretchParts
stretch_after Start (Code XaCode.Ok) stretch = Some just_started
stretch_after (Put key value) (Code XaCode.Ok) stretch = option_map (with_write key (Act.Put value)) stretch
stretch_after (Del key) (Code XaCode.Ok) stretch = option_map (with_write key Act.Del) stretch
stretch_after (Get key) (Value bytes) stretch = option_map (with_get key (Some bytes)) stretch
stretch_after (Get key) NoValue stretch = option_map (with_get key None) stretch
stretch_after action answer stretch = stretch

-- what an event that was answered so makes of branch x of resource manager rm
abbrev pub stretch_by : ℕ → XidParts → Event → Answer → Option StretchParts → Option StretchParts
stretch_by rm x (Ask (R other) (Call y action)) answer stretch =
    if (other == rm) && xid_eq y x then stretch_after action answer stretch else stretch
stretch_by rm x event answer stretch = stretch

-- what was done in branch x of rm since it was last started; nothing, where it never was
abbrev pub stretch_back : ℕ → XidParts → List Step → Option StretchParts
stretch_back rm x [] = None
stretch_back rm x (step ∷ before) = stretch_by rm x step.event step.answer (stretch_back rm x before)

-- the writes of a branch that may never have been started
abbrev pub writes_in : Option StretchParts → List Touched
writes_in stretch = option_map_or (λ s. s.writes) stretch []

-- the gets of a branch that may never have been started
abbrev pub gets_in : Option StretchParts → List Shown
gets_in stretch = option_map_or (λ s. s.gets) stretch []

-- what was done in each branch of each resource manager since it was last started
abbrev pub Stretches : Type 0
Stretches = ℕ → XidParts → Option StretchParts

-- what a history tells of it
abbrev pub stretches_back : List Step → Stretches
stretches_back history = λ rm x. stretch_back rm x history

-- what was done in the branch of a transaction at rm
abbrev pub branch_at : Stretches → ℕ → TxParts → Option StretchParts
branch_at done rm tx = option_and_then (done rm) (xid_at tx rm)

-- the accepted writes of the branch of a transaction at rm
abbrev pub writes_at : Stretches → ℕ → TxParts → List Touched
writes_at done rm tx = writes_in (branch_at done rm tx)
