-- Runs of a cluster, each node of which has a floor, of which a trace may tell.
use Rattle.std.specs.Prelude.{ℕ, ◌<◌, ◌≤◌, ◌^◌, List, length}
use Rattle.std.specs.List.{All, AllByRecursion}
use Rattle.xid.specs.Limits.{most_acceptors, most_leaders, most_managers}
use Rattle.protocol.specs.Effects.{Config}
use Rattle.protocol.specs.Nodes.{first_rows}
use Rattle.protocol.specs.Worlds.{Occurrence}
use Rattle.floors.specs.Runs.{floored_opening}
use Rattle.floors.specs.Worlds.{floored_world_after}
use Rattle.net_script.specs.Events.{IsEvent}
use Rattle.net_script.specs.Items.{IsRow}

-- the nodes of a cluster are no more than there may be, and there is a leader
pub record IsLimited (config : Config) : Type 0 where
  pub acceptors : config.acceptors ≤ most_acceptors
  pub some : 0 < config.leaders
  pub leaders : config.leaders ≤ most_leaders
  pub managers : config.managers ≤ most_managers

-- each event of some that happened is one that a text may name
abbrev pub AreNameable : List Occurrence → Type 0
AreNameable happened = AllByRecursion (λ occurrence. IsEvent occurrence.event) happened

-- a trace may tell of what happened in a cluster: that is within the limits, its first rows too, texts may name the events, and fewer than
-- 2^32 datagrams were sent and notices told, since words of a trace have numbers of 32 bits
pub record CanBeTold (config : Config) (happened : List Occurrence) : Type 0 where
  pub limits : IsLimited config
  pub rows : (rm : ℕ) → All IsRow (first_rows config rm)
  pub events : AreNameable happened
  pub few : length (floored_world_after config (floored_opening config) happened).machine.net < 2 ^ 32
  pub few_notices : length (floored_world_after config (floored_opening config) happened).notices < 2 ^ 32
