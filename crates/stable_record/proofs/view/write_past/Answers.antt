use Rattle.std.proofs.Common.{refl}
use Rattle.wire.specs.Grammar.{tx_spelling}
use Rattle.wire.specs.Versions.{version_2}
use Rattle.stable_record.proofs.Written.{past_framed}
use Rattle.stable_record.proofs.view.write_past.Goals as goal

pub returns-clause-ok : goal.returns-clause-ok
returns-clause-ok c =
    past_framed c.args.out.now.items c.put_number.new.out.items c.extend_from_slice.new.self.items c.extend_from_slice-2.new.self.items
    _ c.args.code c.as_bytes-tx.result.now (tx_spelling version_2 c.args.tx.now) c.as_bytes-tx.ensures.value refl
    c.in_ok-put_number.ensures c.in_ok-extend_from_slice.ensures.items c.in_ok-extend_from_slice-2.ensures.items
