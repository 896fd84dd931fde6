use Rattle.std.proofs.Common.{◌≡◌, map, None}
use Rattle.stable_record.specs.Held.{Held}
use Rattle.node_core.specs.Nodes.{input_of}
use Rattle.stable_record.specs.Records.{mem_held}
use Rattle.node_core.proofs.Gathered.{comes, stored_once, unarmed_of}
use Rattle.node_core.proofs.grouping.store_at_once.Goals as goal

pub returns-clause-comes : goal.returns-clause-comes
returns-clause-comes g c = λ config own m sizes s.
    let base : Held = g.R.Record.held c.args.device.now in
    let unarmed : base.armed ≡ None = unarmed_of base c.requires.unarmed in
    let gathers = c.gather.ensures config own m base unarmed c.begin.ensures.unarmed sizes s in
    comes config c.args.who own (record { state = m; held = base; role = c.args.role.now }) (map input_of c.args.inputs.now)
    c.gather.new.outs c.gather.new.role (mem_held c.begin.new.frames) (mem_held c.gather.new.frames) c.as_slice.result.now
    (g.R.Record.held c.store_all-stored.new.device) unarmed c.begin.ensures.bytes gathers c.as_slice.ensures c.store_all-stored.result
    c.store_all-stored.ensures

pub returns-clause-once : goal.returns-clause-once
returns-clause-once g c = λ config own m sizes s.
    stored_once c.as_slice.result.now (g.R.Record.held c.args.device.now) (g.R.Record.held c.store_all-stored.new.device)
    c.store_all-stored.result c.store_all-stored.ensures
