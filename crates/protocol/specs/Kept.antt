-- What is kept of a node's facts and of its memory where it forgets names below a floor: what is about names at or above it.
use Rattle.std.specs.Prelude.{Bool, not, ◌&&◌, List, filter, Option, Some}
use Rattle.std.specs.List.{list_all}
use Rattle.xid.specs.Places.{Place, is_below, is_xid_below}
use Rattle.protocol.specs.Basics.{message_tx, Fact, fact_tx}
use Rattle.protocol.specs.Facts.{bound_branches}
use Rattle.protocol.specs.LeaderMemory.{LeaderMemory}
use Rattle.protocol.specs.Managers.{Branch}
use Rattle.protocol.specs.Nodes.{Memory}

-- whether a fact is about a name at or above a floor
abbrev pub is_kept : Option Place → Fact → Bool
is_kept floor fact = not (is_below floor (fact_tx fact))

-- the facts about names at or above a floor
abbrev pub kept_facts : Option Place → List Fact → List Fact
kept_facts floor facts = filter (is_kept floor) facts

-- what a leader's memory has of transactions at or above a floor
abbrev pub kept_leader : Option Place → LeaderMemory → LeaderMemory
kept_leader floor memory = record {
  heard = filter (λ message. not (is_below floor (message_tx message))) memory.heard;
  begun = filter (λ begun. not (is_below floor begun.tx)) memory.begun;
  proposed = filter (λ message. not (is_below floor (message_tx message))) memory.proposed;
  met = filter (λ tx. not (is_below floor tx)) memory.met;
}

-- and a node's memory: of a resource manager's branches none is below its floor
abbrev pub kept_memory : Option Place → Memory → Memory
kept_memory floor memory = record memory { leader = kept_leader floor memory.leader }

-- whether no branch of a resource manager is below a place, neither a prepared one nor one that is kept in memory
abbrev pub are_free_below : Place → List Fact → List Branch → Bool
are_free_below place facts branches =
    list_all (λ bound. not (is_below (Some place) bound.tx)) (bound_branches facts)
    && list_all (λ branch. not (is_xid_below (Some place) branch.xid)) branches
