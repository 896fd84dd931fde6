use Rattle.std.proofs.Common.{refl, sym}
use Rattle.std.proofs.Math.Facts.{Fits-lt-pow}
use Rattle.xid.specs.Names.{IsBytes}
use Rattle.stable_record.proofs.Framed.{short_tail, no_length, too_long, split_frame, split_bad}
use Rattle.stable_record.proofs.frames.take_body.Goals as goal

pub returns-in_default-clause-ok : goal.returns-in_default-clause-ok
returns-in_default-clause-ok c = short_tail c.args.bytes.now (sym c.in_default.ensures)

pub returns-then-len-eq0-clause-err : goal.returns-then-len-eq0-clause-err
returns-then-len-eq0-clause-err c =
    (refl, no_length c.args.bytes.now c.in-Some.len c.in-Some.rest.now (sym c.in-Some.ensures) c.if-len-eq0.true)

pub returns-then-len-gt-MAX_BODY-clause-err : goal.returns-then-len-gt-MAX_BODY-clause-err
returns-then-len-gt-MAX_BODY-clause-err c =
    (refl, too_long c.args.bytes.now c.in-Some.len c.in-Some.rest.now (sym c.in-Some.ensures) c.if-len-gt-MAX_BODY.true)

pub returns-clause-ok : goal.returns-clause-ok
returns-clause-ok c =
    let each : IsBytes c.args.bytes.now = λ i. Fits-lt-pow (c.type_inv.bytes i) in
    record {
      framed = λ entry taken. split_frame c.args.bytes.now c.in-Some.len c.in-Some.rest.now _ _ entry c.in-Some.ensures
          each c.if-rest-len.false c.split_at.ensures.front c.split_at.ensures.back taken;
      bad = λ none. split_bad c.args.bytes.now c.in-Some.len c.in-Some.rest.now _ c.in-Some.ensures c.if-rest-len.false
          c.split_at.ensures.front none;
    }
