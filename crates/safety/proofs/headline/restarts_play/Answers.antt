use Rattle.safety.proofs.World.Reachable.{play, restart_done, restart_undamaged}
use Rattle.safety.proofs.headline.restarts_play.Goals as goal

pub returns-clause-play : goal.returns-clause-play
returns-clause-play c = play

pub returns-clause-done : goal.returns-clause-done
returns-clause-done c config world reachable who node is = restart_done config world who node is (play config world reachable who)

pub returns-clause-undamaged : goal.returns-clause-undamaged
returns-clause-undamaged c config world reachable who fault = restart_undamaged config world who fault (play config world reachable who)
