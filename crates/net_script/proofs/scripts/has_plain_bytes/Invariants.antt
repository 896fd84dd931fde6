use Rattle.std.proofs.Common.{◌≡◌, drop}
use Rattle.std.specs.Prelude.{◌&&◌}
use Rattle.std.specs.List.{list_all}
use Rattle.net_script.specs.Lines.{is_plain}
use Rattle.net_script.proofs.scripts.has_plain_bytes.Given as goal

abbrev pub invariant-loop-byte : goal.invariant-loop-byte
invariant-loop-byte l = list_all is_plain l.line ≡ l.plain && list_all is_plain (drop l.byte-index l.line)
