use Rattle.std.proofs.Common.{◌∙◌, map, take, refl}
use Rattle.std.proofs.lemmas.List.{length-set}
use Rattle.stable_record.specs.Held.{Held}
use Rattle.stable_record.specs.Records.{mem_held}
use Rattle.protocol.specs.Nodes.{Input}
use Rattle.node_core.specs.Nodes.{input_of}
use Rattle.node_core.specs.Groups.{Place, GathersOn}
use Rattle.node_core.proofs.Gathered.{acts_of, gathers_more}
use Rattle.node_core.proofs.Taken.{one_more, none_left}
use Rattle.node_core.proofs.grouping.gather.Goals as goal

pub loop-i-preserved : goal.loop-i-preserved
loop-i-preserved c = record {
  len = length-set c.loop-i.outs c.loop-i.i c.handle.new.out ∙ c.loop-i.invariant.len;
  gathers = λ config own m held unarmed untorn sizes s.
      let from : Place = record { state = m; held = held; role = c.args.role.now } in
      let was : Held = mem_held c.loop-i.frames in
      let now : Held = mem_held c.handle.new.device in
      let input : Input = input_of c.index-inputs-i.result in
      one_more (λ is os. GathersOn config c.args.who own from is os c.handle.new.role (mem_held c.args.frames.now) now) c.args.inputs.now
      c.loop-i.outs c.loop-i.i c.loop-i.invariant.len c.index-inputs-i.result c.handle.new.out c.loop-i-test.true c.index-inputs-i.is
      (gathers_more config c.args.who own from (map input_of (take c.loop-i.i c.args.inputs.now)) (take c.loop-i.i c.loop-i.outs)
      c.loop-i.role c.handle.new.role (mem_held c.args.frames.now) was now input c.handle.new.out unarmed s
      (c.loop-i.invariant.gathers config own m held unarmed untorn sizes s)
      (λ n there unarmed-there untorn-there stands. acts_of config c.args.who own n input there unarmed-there c.args.sizes was now
      c.loop-i.role c.handle.new.role c.handle.new.out untorn-there refl sizes c.handle.ensures stands));
}

pub returns : goal.returns
returns c = λ config own m held unarmed untorn sizes s.
    none_left (λ is os. GathersOn config c.args.who own (record { state = m; held = held; role = c.args.role.now }) is os c.loop-i.role
    (mem_held c.args.frames.now) (mem_held c.loop-i.frames)) c.args.inputs.now c.loop-i.outs c.loop-i.i c.loop-i.invariant.len
    c.loop-i-test.false (c.loop-i.invariant.gathers config own m held unarmed untorn sizes s)
