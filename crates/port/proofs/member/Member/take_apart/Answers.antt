use Rattle.std.proofs.Common.{◌∙◌, ap, inl, inr, Bool, List, map, refl, sym, subst}
use Rattle.std.proofs.lemmas.List.{length-map}
use Rattle.protocol.specs.declared.nodes.NodeId.{NodeId}
use Rattle.node_core.specs.Nodes.{input_of}
use Rattle.floored.specs.Nodes.{are_above}
use Rattle.port.specs.Members.{TakesThose, item_of}
use Rattle.port.proofs.Taking.{all_high, group_length, taken_apart}
use Rattle.port.proofs.member.Member.take_apart.Goals as goal

pub returns-in-Err : goal.returns-in-Err
returns-in-Err g c = inr (record { some = c.requires.some; error_is = refl; new_is = refl; outs_are = refl })

pub take_group-requires-clause-places : goal.take_group-requires-clause-places
take_group-requires-clause-places g c =
    let now = c.args.self.now in
    let items = map (item_of now.floored.node.who) c.args.inputs.now in
    c.requires.places ∙ sym (length-map c.args.inputs.now (item_of now.floored.node.who))
    ∙ sym (group_length now.floored.floor items c.deref.result.now (ap (map input_of) c.deref.ensures.value ∙ c.in-Ok.ensures.group))

pub take_group-requires-clause-above : goal.take_group-requires-clause-above
take_group-requires-clause-above g c =
    let now = c.args.self.now in
    ap (are_above now.floored.floor) (ap (map input_of) c.deref.ensures.value ∙ c.in-Ok.ensures.group)
    ∙ all_high now.floored.floor (map (item_of now.floored.node.who) c.args.inputs.now)

pub returns-in-Err-take_group : goal.returns-in-Err-take_group
returns-in-Err-take_group g c =
    inl (c.in-Err-take_group.ensures.group (map (item_of c.args.self.now.floored.node.who) c.args.inputs.now)
    (ap (map input_of) c.deref.ensures.value ∙ c.in-Ok.ensures.group))

pub returns : goal.returns
returns g c =
    let now = c.args.self.now in
    let items = map (item_of now.floored.node.who) c.args.inputs.now in
    let between = c.take_group.new.self in
    let middle = c.take_group.new.outs in
    let new = c.take_marked.new.self in
    let outs = c.take_marked.new.outs in
    taken_apart items now new c.args.outs.now outs c.requires.up between middle
    (c.in-Ok-take_group.ensures.group items (ap (map input_of) c.deref.ensures.value ∙ c.in-Ok.ensures.group))
    (subst (λ (marks : List Bool). TakesThose marks items between new middle outs) (c.deref-2.ensures.value ∙ c.in-Ok.ensures.asides)
    (subst (λ (who : NodeId). TakesThose c.deref-2.result.now (map (item_of who) c.args.inputs.now) between new middle outs)
    c.in-Ok-take_group.ensures.who c.take_marked.ensures))
