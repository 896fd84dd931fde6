use Rattle.std.proofs.Common.{◌∙◌, sym}
use Rattle.stable_record.proofs.Known.{opened_fronted}
use Rattle.stable_record.proofs.behind.Behind.open.Goals as goal

pub invariant_of-result : goal.invariant_of-result
invariant_of-result g c =
    let old = g.R.Record.held c.args.device in
    let new = g.R.Record.held c.read.new.self in
    opened_fronted c.floor_in-floor.result c.deref.result.now new.bytes c.floor_in-floor.ensures.floor c.floor_in-floor.ensures.begins
    c.floor_in-floor.ensures.are_bytes
    (c.deref.ensures.value ∙ c.in-Ok.ensures.bytes ∙ sym (λ i. (c.in-Ok.ensures.step i).bytes)) c.floor_in-floor.ensures.valid
