use Rattle.std.proofs.Math.Facts.{Fits-lt-pow}
use Rattle.xid.specs.Names.{IsBytes}
use Rattle.wire.specs.declared.grammar.VersionNumber.TheVariants.{Second}
use Rattle.stable_record.proofs.SpelledEntries.{rest_cases}
use Rattle.stable_record.proofs.reading.view_about.Goals as goal

pub new-requires : goal.new-requires
new-requires c =
    let each : IsBytes c.args.bytes.now = λ i. Fits-lt-pow (c.type_inv.bytes i) in
    let read = rest_cases Second c.args.tx c.count.ensures.valid c.args.bytes.now _ each c.args.code (c.in-Ok.ensures c.args.tx) in
    read.valid
