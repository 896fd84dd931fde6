use Rattle.std.proofs.Common.{◌≡◌, ◌++◌, length}
use Rattle.xid.specs.Text.{hex_text, Extends}
use Rattle.xid.proofs.text.put_hex.Given as goal

abbrev pub invariant-loop-rest : goal.invariant-loop-rest
invariant-loop-rest l =
    (l.out.items ++ hex_text l.rest ≡ l.initial.out.items ++ hex_text l.bytes) × Extends l.initial.out.items l.out.items

abbrev pub decreases-loop-rest : goal.decreases-loop-rest
decreases-loop-rest l = length l.rest
