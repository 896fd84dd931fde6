use Rattle.std.proofs.Common.{length, Option, ap, arith}
use Rattle.xid.specs.Places.{Place}
use Rattle.stable_record.specs.Floors.{front_of}
use Rattle.stable_record.proofs.Floors.{frame_has}
use Rattle.stable_record.proofs.floor_frame.front_len.Goals as goal

pub returns-in-Some-clause-value : goal.returns-in-Some-clause-value
returns-in-Some-clause-value c =
    let front = ap (λ (floor : Option Place). length (front_of floor)) c.in-Some.is in
    omega (arith, front, frame_has c.in-Some.floor, ap length c.gtrid.ensures.value)
