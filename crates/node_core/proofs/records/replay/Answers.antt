use Rattle.std.proofs.Common.{subst, sym, arith}
use Rattle.std.specs.Prelude.{Ok}
use Rattle.stable_record.proofs.Framed.{framed_longer}
use Rattle.node_core.specs.Opening.{HasPlayedTo, PlaysFirst}
use Rattle.node_core.proofs.Replaying.{first_on, played_all, refused_first}
use Rattle.node_core.proofs.records.replay.Goals as goal

pub loop-after-preserved : goal.loop-after-preserved
loop-after-preserved c =
    let rest = c.loop-after.rest.now in
    let after = c.in-Ok-Some.after.now in
    let first = subst (λ found. PlaysFirst c.args.compacted rest c.loop-after.role c.play_first.new.role (Ok found))
    c.in-Ok-Some.field-0-is c.in-Ok-Some.ensures in
    record {
      read = λ config who s.
          first_on config who c.args.compacted c.args.bytes.now rest c.loop-after.role c.play_first.new.role
          (c.loop-after.invariant.read config who s) after first;
      few = omega (arith, framed_longer first.entry rest after first.framed, c.loop-after.invariant.few);
    }

pub returns-in-Ok-None-clause-read : goal.returns-in-Ok-None-clause-read
returns-in-Ok-None-clause-read c = λ config who s.
    let rest = c.loop-after.rest.now in
    let tail = subst (λ found. PlaysFirst c.args.compacted rest c.loop-after.role c.play_first.new.role (Ok found))
    c.in-Ok-None.field-0-is c.in-Ok-None.ensures in
    played_all config who c.args.compacted c.args.bytes.now rest c.play_first.new.role
    (subst (HasPlayedTo config who c.args.compacted c.args.bytes.now rest) (sym tail.1) (c.loop-after.invariant.read config who s))
    tail.0

pub returns-in-Err-clause-read : goal.returns-in-Err-clause-read
returns-in-Err-clause-read c = λ config who s.
    refused_first config who c.args.compacted c.args.bytes.now c.loop-after.rest.now c.loop-after.role c.play_first.new.role
    (c.loop-after.invariant.read config who s) c.in-Err.refusal c.in-Err.ensures
