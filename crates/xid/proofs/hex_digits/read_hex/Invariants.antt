use Rattle.xid.proofs.HexTables.{Reads}
use Rattle.xid.proofs.hex_digits.read_hex.Given as goal

abbrev pub invariant-loop-i : goal.invariant-loop-i
invariant-loop-i l = Reads l.text l.bytes l.i l.all
