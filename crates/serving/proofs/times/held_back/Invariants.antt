use Rattle.std.proofs.Common.{◌≡◌, drop}
use Rattle.xid.specs.Places.{tx_place}
use Rattle.serving.proofs.FloorLemmas.{lowest_of}
use Rattle.serving.proofs.times.held_back.Given as goal

-- the lowest so far, with the places of the transactions that are left
abbrev pub invariant-loop-tx : goal.invariant-loop-tx
invariant-loop-tx l = lowest_of tx_place l.lowest (drop l.tx-index l.prepared) ≡ lowest_of tx_place l.initial.lowest l.prepared
