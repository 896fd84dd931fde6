use Rattle.std.proofs.Common.{◌≡◌, take, true}
use Rattle.std.specs.List.{list_all}
use Rattle.udp_run.specs.Commands.{is_served}
use Rattle.udp_run.proofs.runs.first_refused.Given as goal

abbrev pub invariant-loop-at : goal.invariant-loop-at
invariant-loop-at l = list_all is_served (take l.at l.commands) ≡ true
