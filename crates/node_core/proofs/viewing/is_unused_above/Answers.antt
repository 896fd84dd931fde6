use Rattle.std.proofs.Common.{refl}
use Rattle.node_core.proofs.Looking.{says_unused, up_stands, down_stands, unread_unused}
use Rattle.node_core.proofs.viewing.is_unused_above.Goals as goal

pub returns-in-Some : goal.returns-in-Some
returns-in-Some g c = λ config m sizes s.
    let held = g.R.Record.held c.args.device.now in
    says_unused config c.args.who c.args.own.now m held held c.args.role.now s c.in-Some.up c.args.floor.now c.is_unused_above.result refl
    (up_stands config c.args.who c.args.own.now m held held c.args.role.now s c.in-Some.up c.in-Some.is) c.is_unused_above.ensures

pub returns-in-Ok : goal.returns-in-Ok
returns-in-Ok g c = λ config m sizes s.
    let old = g.R.Record.held c.args.device.now in
    let new = g.R.Record.held c.peek.new.device in
    let p = c.in-Ok.ensures config sizes in
    says_unused config c.args.who c.args.own.now m old new c.args.role.now s c.in-Ok.read c.args.floor.now
    c.is_unused_above-in-Ok.result p.same
    (down_stands config c.args.who c.args.own.now m old new c.args.role.now s c.in-Ok.read p) c.is_unused_above-in-Ok.ensures

pub returns-in-Err : goal.returns-in-Err
returns-in-Err g c = λ config m sizes s.
    unread_unused config c.args.who c.args.own.now m (g.R.Record.held c.args.device.now) (g.R.Record.held c.peek.new.device)
    c.args.role.now s c.args.floor.now c.in-None.is c.in-Err.refusal (c.in-Err.ensures config sizes)
