use Rattle.std.proofs.Common.{◌≡◌}
use Rattle.serving.proofs.FloorLemmas.{entry_place, lowest_of}
use Rattle.serving.proofs.branches.Branches.held_back.Given as goal

-- the lowest so far, with the places of the entries that are left
abbrev pub invariant-loop-xid : goal.invariant-loop-xid
invariant-loop-xid l = lowest_of entry_place l.lowest l.xid-iterator ≡ lowest_of entry_place l.initial.lowest l.self.named.entries
