use Rattle.std.proofs.Common.{◌∙◌, false, true, sym}
use Rattle.std.specs.Prelude.{Ok, Err}
use Rattle.floored.proofs.Rising.{sound_raise}
use Rattle.floored.proofs.Seen.{lower_now, node_is_down, node_is_low, node_rises, raises_seen, up_now}
use Rattle.floored.proofs.node.Floored.raise.Goals as goal

pub returns-then-is_down-clause-node : goal.returns-then-is_down-clause-node
returns-then-is_down-clause-node g c =
    node_is_down c.self.inside.node c.args.self.now c.self.view_is c.args.floor.now (sym c.is_down.ensures ∙ c.if-is_down.true)

pub returns-then-not-is_higher_than-clause-node : goal.returns-then-not-is_higher_than-clause-node
returns-then-not-is_higher_than-clause-node g c =
    let inside = c.self.inside in
    let now = c.args.self.now in
    let place = c.args.floor.now in
    node_is_low inside.node now c.self.view_is place
    (up_now inside.node now c.is_down.result c.self.view_is c.is_down.ensures c.if-is_down.false)
    (lower_now inside.floor inside.node now place c.is_down.result c.is_higher_than.result false c.self.view_is c.self.invariant
    c.is_down.ensures c.if-is_down.false c.is_higher_than.ensures c.if-not-is_higher_than.true)

pub invariant_of-self : goal.invariant_of-self
invariant_of-self g c =
    let inside = c.self.inside in
    let place = c.args.floor.now in
    sound_raise inside.floor inside.node c.raise.new.self place c.self.invariant
    (lower_now inside.floor inside.node c.args.self.now place c.is_down.result c.is_higher_than.result true c.self.view_is
    c.self.invariant c.is_down.ensures c.if-is_down.false c.is_higher_than.ensures c.if-not-is_higher_than.false) (Ok tt)
    c.in-Ok.ensures.machine

pub invariant_of-self-in-Err : goal.invariant_of-self-in-Err
invariant_of-self-in-Err g c =
    let inside = c.self.inside in
    let place = c.args.floor.now in
    sound_raise inside.floor inside.node c.raise.new.self place c.self.invariant
    (lower_now inside.floor inside.node c.args.self.now place c.is_down.result c.is_higher_than.result true c.self.view_is
    c.self.invariant c.is_down.ensures c.if-is_down.false c.is_higher_than.ensures c.if-not-is_higher_than.false) (Err c.in-Err.refusal)
    c.in-Err.ensures.machine

pub returns-in-Ok-clause-machine : goal.returns-in-Ok-clause-machine
returns-in-Ok-clause-machine g c =
    let inside = c.self.inside in
    let place = c.args.floor.now in
    raises_seen inside.node c.args.self.now c.self.view_is c.raise.new.self place (Ok tt)
    (lower_now inside.floor inside.node c.args.self.now place c.is_down.result c.is_higher_than.result true c.self.view_is
    c.self.invariant c.is_down.ensures c.if-is_down.false c.is_higher_than.ensures c.if-not-is_higher_than.false) c.in-Ok.ensures.machine

pub returns-in-Ok-clause-node : goal.returns-in-Ok-clause-node
returns-in-Ok-clause-node g c =
    let inside = c.self.inside in
    let now = c.args.self.now in
    let place = c.args.floor.now in
    node_rises inside.node now c.self.view_is c.raise.new.self place (Ok tt)
    (up_now inside.node now c.is_down.result c.self.view_is c.is_down.ensures c.if-is_down.false)
    (lower_now inside.floor inside.node now place c.is_down.result c.is_higher_than.result true c.self.view_is c.self.invariant
    c.is_down.ensures c.if-is_down.false c.is_higher_than.ensures c.if-not-is_higher_than.false) c.in-Ok.ensures.machine

pub returns-in-Err-clause-machine : goal.returns-in-Err-clause-machine
returns-in-Err-clause-machine g c =
    let inside = c.self.inside in
    let place = c.args.floor.now in
    raises_seen inside.node c.args.self.now c.self.view_is c.raise.new.self place (Err c.in-Err.refusal)
    (lower_now inside.floor inside.node c.args.self.now place c.is_down.result c.is_higher_than.result true c.self.view_is
    c.self.invariant c.is_down.ensures c.if-is_down.false c.is_higher_than.ensures c.if-not-is_higher_than.false) c.in-Err.ensures.machine

pub returns-in-Err-clause-node : goal.returns-in-Err-clause-node
returns-in-Err-clause-node g c =
    let inside = c.self.inside in
    let now = c.args.self.now in
    let place = c.args.floor.now in
    node_rises inside.node now c.self.view_is c.raise.new.self place (Err c.in-Err.refusal)
    (up_now inside.node now c.is_down.result c.self.view_is c.is_down.ensures c.if-is_down.false)
    (lower_now inside.floor inside.node now place c.is_down.result c.is_higher_than.result true c.self.view_is c.self.invariant
    c.is_down.ensures c.if-is_down.false c.is_higher_than.ensures c.if-not-is_higher_than.false) c.in-Err.ensures.machine
