use Rattle.std.proofs.Common.{◌≡◌, ◌*◌, ◌++◌, take, drop}
use Rattle.xid.specs.Text.{hex_text}
use Rattle.xid.proofs.hex_digits.write_hex.Given as goal

abbrev pub invariant-loop-i : goal.invariant-loop-i
invariant-loop-i l = take (2 * l.i) l.text ++ hex_text (drop l.i l.bytes) ≡ hex_text l.bytes
