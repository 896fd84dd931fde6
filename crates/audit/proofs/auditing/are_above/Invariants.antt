use Rattle.std.proofs.Common.{◌≡◌, true, take}
use Rattle.audit.specs.Told.{history_of, each_step}
use Rattle.audit.specs.Floors.{stays_above}
use Rattle.audit.specs.FloorBooks.{FollowsFloors}
use Rattle.audit.proofs.auditing.are_above.Given as goal

abbrev pub invariant-loop-entry : goal.invariant-loop-entry
invariant-loop-entry l = record {
  follows : FollowsFloors l.floors l.trace.sizes.rms (history_of (take l.entry-index l.trace.entries));
  above : each_step (stays_above l.trace.sizes.rms) (history_of (take l.entry-index l.trace.entries)) ≡ true;
}
