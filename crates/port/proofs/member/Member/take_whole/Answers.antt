use Rattle.std.proofs.Common.{◌∙◌, ap, map, sym}
use Rattle.std.proofs.lemmas.List.{length-map}
use Rattle.floored.specs.Nodes.{are_above}
use Rattle.port.specs.Members.{item_of}
use Rattle.port.proofs.Taking.{all_high, taken_whole, whole_grouped}
use Rattle.port.proofs.member.Member.take_whole.Goals as goal

pub take_group-requires-clause-above : goal.take_group-requires-clause-above
take_group-requires-clause-above g c =
    let now = c.args.self.now in
    ap (are_above now.floored.floor) (sym (whole_grouped now.floored.floor now.floored.node.who c.args.inputs.now c.requires.none))
    ∙ all_high now.floored.floor (map (item_of now.floored.node.who) c.args.inputs.now)

pub returns : goal.returns
returns g c =
    let now = c.args.self.now in
    let items = map (item_of now.floored.node.who) c.args.inputs.now in
    taken_whole items now c.take_group.new.self c.args.outs.now c.take_group.new.outs c.requires.up c.requires.none
    (c.take_group.ensures.places ∙ c.requires.places ∙ sym (length-map c.args.inputs.now (item_of now.floored.node.who)))
    c.take_group.result
    (c.take_group.ensures.group items (sym (whole_grouped now.floored.floor now.floored.node.who c.args.inputs.now c.requires.none)))
