use Rattle.std.proofs.Common.{◌∙◌, map, take, drop, suc, sym, inl}
use Rattle.std.proofs.lemmas.List.{length-set}
use Rattle.stable_record.specs.Held.{Held}
use Rattle.xid.specs.declared.refusals.Refusal.TheVariants.{RecordFault}
use Rattle.node_core.specs.Nodes.{input_of}
use Rattle.node_core.specs.Groups.{Place, StopsIn, IsStoredGroup}
use Rattle.node_core.proofs.Walked.{Reaches, reaches_more, stops_there, stopped_once, stored_each}
use Rattle.node_core.proofs.Taken.{one_more, none_left, one_among}
use Rattle.node_core.proofs.grouping.store_one_by_one.Goals as goal

pub loop-i-preserved : goal.loop-i-preserved
loop-i-preserved g c = record {
  len = length-set c.loop-i.outs c.loop-i.i c.handle.new.out ∙ c.loop-i.invariant.len;
  armed = sym c.if-not-is_armed.ensures;
  reaches = λ config own m sizes s.
      let from : Place = record { state = m; held = g.R.Record.held c.args.device.now; role = c.args.role.now } in
      one_more (λ is os. Reaches config c.args.who own from is os c.handle.new.role (g.R.Record.held c.handle.new.device))
      c.args.inputs.now c.loop-i.outs c.loop-i.i c.loop-i.invariant.len c.index-inputs-i.result c.handle.new.out c.loop-i-test.true
      c.index-inputs-i.is
      (reaches_more config c.args.who c.args.sizes own sizes from (map input_of (take c.loop-i.i c.args.inputs.now))
      (take c.loop-i.i c.loop-i.outs) c.loop-i.role (g.R.Record.held c.loop-i.device) s
      (c.loop-i.invariant.reaches config own m sizes s) (input_of c.index-inputs-i.result) (g.R.Record.held c.handle.new.device)
      c.handle.new.role c.handle.new.out c.loop-i.invariant.armed (sym c.if-not-is_armed.ensures) c.handle.ensures);
}

pub returns-then-not-is_armed-clause-comes : goal.returns-then-not-is_armed-clause-comes
returns-then-not-is_armed-clause-comes g c = λ config own m sizes s.
    let from : Place = record { state = m; held = g.R.Record.held c.args.device.now; role = c.args.role.now } in
    let new : Held = g.R.Record.held c.handle.new.device in
    one_among (λ is. StopsIn config c.args.who own from is new RecordFault) c.args.inputs.now c.loop-i.i c.index-inputs-i.result
    c.loop-i-test.true c.index-inputs-i.is
    (stops_there config c.args.who c.args.sizes own sizes from (map input_of (take c.loop-i.i c.args.inputs.now))
    (take c.loop-i.i c.loop-i.outs) c.loop-i.role (g.R.Record.held c.loop-i.device) s (c.loop-i.invariant.reaches config own m sizes s)
    (input_of c.index-inputs-i.result) (map input_of (drop (suc c.loop-i.i) c.args.inputs.now)) new c.handle.new.role c.handle.new.out
    c.loop-i.invariant.armed (sym c.if-not-is_armed.ensures) c.handle.ensures)

pub returns-then-not-is_armed-clause-once : goal.returns-then-not-is_armed-clause-once
returns-then-not-is_armed-clause-once g c = λ config own m sizes s.
    let from : Place = record { state = m; held = g.R.Record.held c.args.device.now; role = c.args.role.now } in
    stopped_once config c.args.who c.args.sizes own sizes from (map input_of (take c.loop-i.i c.args.inputs.now))
    (take c.loop-i.i c.loop-i.outs) c.loop-i.role (g.R.Record.held c.loop-i.device) s (c.loop-i.invariant.reaches config own m sizes s)
    (input_of c.index-inputs-i.result) (g.R.Record.held c.handle.new.device) c.handle.new.role c.handle.new.out
    c.loop-i.invariant.armed (sym c.if-not-is_armed.ensures) c.handle.ensures

pub returns-clause-once : goal.returns-clause-once
returns-clause-once g c = λ config own m sizes s. inl (c.loop-i.invariant.reaches config own m sizes s).same

pub returns-clause-comes : goal.returns-clause-comes
returns-clause-comes g c = λ config own m sizes s.
    let from : Place = record { state = m; held = g.R.Record.held c.args.device.now; role = c.args.role.now } in
    none_left (λ is os. IsStoredGroup config c.args.who own from is os c.loop-i.role (g.R.Record.held c.loop-i.device))
    c.args.inputs.now c.loop-i.outs c.loop-i.i c.loop-i.invariant.len c.loop-i-test.false
    (stored_each config c.args.who own from (map input_of (take c.loop-i.i c.args.inputs.now)) (take c.loop-i.i c.loop-i.outs)
    c.loop-i.role (g.R.Record.held c.loop-i.device) (c.loop-i.invariant.reaches config own m sizes s))
