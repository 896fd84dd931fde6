-- What a node does by what it keeps: the facts about names at or above its floor, and its table.
use Rattle.std.specs.Prelude.{List, Option}
use Rattle.protocol.specs.Basics.{Fact}
use Rattle.protocol.specs.declared.requests.Request.TheVariants.{Call}
use Rattle.safety.specs.Vocabulary.{NodeId, R}
use Rattle.protocol.specs.Effects.{Config, Effect}
use Rattle.protocol.specs.Managers.{stored_votes, on_call}
use Rattle.protocol.specs.Nodes.{Memory, Input, Asked, of_manager, first_rows, effect_of}
use Rattle.protocol.specs.Tables.{table}
use Rattle.xid.specs.Places.{Place}
use Rattle.protocol.specs.Kept.{kept_facts}

-- an effect by the facts that are kept; the table that a client's call reads is the one that all facts have made
abbrev pub kept_effect : Config → NodeId → Option Place → List Fact → Memory → Input → Effect Memory
kept_effect config (R rm) floor facts memory (Asked (Call x action)) =
    of_manager memory
    (on_call rm (stored_votes rm (kept_facts floor facts)) (table (first_rows config rm) facts) memory.branches x action)
kept_effect config who floor facts memory input = effect_of config who (kept_facts floor facts) memory input
