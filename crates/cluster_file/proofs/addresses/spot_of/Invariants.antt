use Rattle.std.proofs.Common.{◌≡◌, drop}
use Rattle.cluster_file.specs.Repeated.{spot_from}
use Rattle.cluster_file.proofs.addresses.spot_of.Given as goal

-- it stands in none of the places so far
abbrev pub invariant-loop-i : goal.invariant-loop-i
invariant-loop-i l =
    spot_from l.acceptors l.leaders l.address 0 l.places ≡ spot_from l.acceptors l.leaders l.address l.i (drop l.i l.places)
