use Rattle.std.proofs.Common.{◌≡◌, ◌-◌, length, drop}
use Rattle.floors.specs.Worlds.{least_of}
use Rattle.floored.proofs.told.ToldFloors.least.Given as goal

-- from the last of them on, the least was found of as many
abbrev pub invariant-loop-i : goal.invariant-loop-i
invariant-loop-i l =
    (l.len ≡ length l.self-inside.floors.items) × (l.least ≡ least_of (drop (l.len - l.i) l.self-inside.floors.items))
