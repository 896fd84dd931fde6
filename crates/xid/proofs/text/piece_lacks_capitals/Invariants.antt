use Rattle.std.proofs.Common.{◌≡◌, ◌&&◌, drop}
use Rattle.std.specs.List.{list_all}
use Rattle.xid.specs.Text.{is_no_capital}
use Rattle.xid.proofs.text.piece_lacks_capitals.Given as goal

abbrev pub invariant-loop-byte : goal.invariant-loop-byte
invariant-loop-byte l = list_all is_no_capital l.piece ≡ l.lacks && list_all is_no_capital (drop l.byte-index l.piece)
