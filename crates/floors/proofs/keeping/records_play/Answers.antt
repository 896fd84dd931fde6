use Rattle.std.specs.Prelude.{[]}
use Rattle.safety.specs.Standing.{facts_at}
use Rattle.safety.proofs.World.Reachable.{play}
use Rattle.floors.proofs.Following.{are_runs}
use Rattle.protocol.proofs.Kept.Playing.{all_play_kept}
use Rattle.floors.proofs.keeping.records_play.Goals as goal

pub returns : goal.returns
returns c config world reach who =
    all_play_kept (world.floor who) config who [] (facts_at config world.machine who)
    (play config world.machine (are_runs config world reach) who)
