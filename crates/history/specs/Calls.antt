-- What a step did to the branches of a resource manager.
use Rattle.std.specs.Prelude.{ℕ, Bool, false, ◌&&◌, ◌==◌, if◌then◌else◌, Option, Some, None}
use Rattle.xid.specs.Names.{XidParts, xid_eq}
use Rattle.safety.specs.Vocabulary.{R, Event, Ask, Restart, Action, Call, Answer, Done}
use Rattle.protocol.specs.Branches.{is_done}

-- the call on branch x of resource manager rm that an event is and that was done, if it is one
abbrev pub call_done : ℕ → XidParts → Event → Answer → Option Action
call_done rm x (Ask (R other) (Call y action)) answer =
    if is_done action answer then if (other == rm) && xid_eq y x then Some action else None else None
call_done rm x event answer = None

-- whether an event is a restart of rm, and was done
abbrev pub is_restart : ℕ → Event → Answer → Bool
is_restart rm (Restart (R other)) Done = other == rm
is_restart rm event answer = false
