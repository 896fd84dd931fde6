use Rattle.std.proofs.Common.{◌≡◌, map, take}
use Rattle.net_script.proofs.items.keys_of.Given as goal

abbrev pub invariant-loop-row : goal.invariant-loop-row
invariant-loop-row l = map (λ key. key.now) l.keys.items ≡ map (λ row. row.key) (take l.row-index l.rows)
