use Rattle.std.proofs.Common.{◌≡◌, ◌≢◌, rules}
use Rattle.hex.specs.Hex.{encode_lower}
use Rattle.cluster_file.proofs.RowLemmas.{bytes_capital, bytes_small, bytes_undecoded}
use Rattle.cluster_file.proofs.tables.bytes_of.Goals as goal

pub returns-in-Err-clause-ok : goal.returns-in-Err-clause-ok
returns-in-Err-clause-ok c =
    bytes_undecoded c.args.text.now c.in-Err.error c.in-Err.ensures.err c.in_ok-has_memory-in-Err.ensures.ok

pub returns-then-eq-clause-ok : goal.returns-then-eq-clause-ok
returns-then-eq-clause-ok c =
    let small : encode_lower c.in-Ok.bytes.items ≡ c.args.text.now = search rules in
    bytes_small c.args.text.now c.in-Ok.bytes.items c.in-Ok.ensures.ok small

pub returns-clause-ok : goal.returns-clause-ok
returns-clause-ok c =
    let other : encode_lower c.in-Ok.bytes.items ≢ c.args.text.now = search rules in
    bytes_capital c.args.text.now c.in-Ok.bytes.items c.in-Ok.ensures.ok other
