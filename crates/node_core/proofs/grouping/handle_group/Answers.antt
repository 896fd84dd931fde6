use Rattle.std.proofs.Common.{◌≡◌, ◌∙◌, map, length, subst, sym}
use Rattle.std.proofs.lemmas.List.{length-map}
use Rattle.node_core.specs.Nodes.{input_of}
use Rattle.node_core.specs.Groups.{Place, Comes, AppendsOnce}
use Rattle.node_core.proofs.Grouped.{group_stopped}
use Rattle.node_core.proofs.grouping.handle_group.Goals as goal

pub returns-in-Ok-clause-groups : goal.returns-in-Ok-clause-groups
returns-in-Ok-clause-groups g c = λ config own m sizes s.
    subst (Comes config c.args.who own
    (record { state = m; held = g.R.Record.held c.args.device.now; role = c.args.role.now }) (map input_of c.args.inputs.now)
    c.store_group.new.outs c.store_group.new.role (g.R.Record.held c.store_group.new.device)) c.in-Ok.is
    (c.store_group.ensures.comes config own m sizes s)

pub returns-in-Ok-clause-once : goal.returns-in-Ok-clause-once
returns-in-Ok-clause-once g c = λ config own m sizes s.
    subst (AppendsOnce (g.R.Record.held c.args.device.now) (g.R.Record.held c.store_group.new.device)) c.in-Ok.is
    (c.store_group.ensures.once config own m sizes s)

pub returns-in-Err-clause-groups : goal.returns-in-Err-clause-groups
returns-in-Err-clause-groups g c = λ config own m sizes s.
    let from : Place = record { state = m; held = g.R.Record.held c.args.device.now; role = c.args.role.now } in
    let stops = subst (Comes config c.args.who own from (map input_of c.args.inputs.now) c.store_group.new.outs c.store_group.new.role
    (g.R.Record.held c.store_group.new.device)) c.in-Err.is (c.store_group.ensures.comes config own m sizes s) in
    let len : length c.store_group.new.outs ≡ length (map input_of c.args.inputs.now) =
    c.store_group.auto.outs ∙ c.requires ∙ sym (length-map c.args.inputs.now input_of) in
    group_stopped config c.args.who own from (map input_of c.args.inputs.now) c.store_group.new.outs c.refuse_all.new.outs
    c.store_group.new.role c.settle.new.role (g.R.Record.held c.store_group.new.device) c.in-Err.error c.from.result stops
    c.settle.ensures c.from.ensures len c.refuse_all.ensures

pub returns-in-Err-clause-once : goal.returns-in-Err-clause-once
returns-in-Err-clause-once g c = λ config own m sizes s.
    subst (AppendsOnce (g.R.Record.held c.args.device.now) (g.R.Record.held c.store_group.new.device)) c.in-Err.is
    (c.store_group.ensures.once config own m sizes s)
