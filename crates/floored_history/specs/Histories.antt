-- What happened in a cluster with floors.
use Rattle.std.specs.Prelude.{List}
use Rattle.safety.specs.Vocabulary.{Step}
use Rattle.protocol.specs.Effects.{Config}
use Rattle.history.specs.Lines.{history}
use Rattle.floors.specs.Worlds.{FlooredWorld}
use Rattle.floors.specs.Runs.{IsFlooredReachable, all_events}

-- the steps of a run, the newest first: what isn't passed over, a datagram that is as one that is lost, a floor that rises as a compaction,
-- and a blank node that stands in for a lost one as a restart
abbrev pub floored_history : (config : Config) (world : FlooredWorld) → IsFlooredReachable config world → List Step
floored_history config world reach = history config (all_events config world reach)
