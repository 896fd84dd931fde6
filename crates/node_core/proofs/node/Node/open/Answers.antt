use Rattle.std.proofs.Common.{◌≡◌, true, sym, subst}
use Rattle.std.specs.Prelude.{Ok}
use Rattle.branch_table.specs.TableStates.{are_rows}
use Rattle.node_core.specs.Nodes.{HasRows}
use Rattle.node_core.proofs.Sizing.{sized_of, among_of}
use Rattle.node_core.proofs.Restarting.{sound_opened, is_opened, is_unopened, unopened_early, loads_over}
use Rattle.node_core.proofs.node.Node.open.Goals as goal

pub invariant_of-result : goal.invariant_of-result
invariant_of-result g c =
    let config = c.args.config.now in
    let sizes = c.sizes-sizes in
    let has = subst (HasRows config c.args.who) (sym c.in-Ok.ensures.ok) c.rows_of.ensures.rows in
    let loaded = loads_over config c.args.who _ c.in-Ok.rows.items (g.R.Record.held c.args.device) (g.R.Record.held c.load.new.device)
    (Ok c.in-Ok-load.role) c.deref.ensures.value (c.in-Ok-load.ensures config sizes.ensures.sizes) in
    sound_opened config c.args.who c.in-Ok.rows.items (g.R.Record.held c.args.device) (g.R.Record.held c.load.new.device) c.in-Ok-load.role
    loaded has sizes.result sizes.ensures.sizes
    (sized_of config sizes.result sizes.ensures.sizes sizes.ensures.valid)
    (among_of config sizes.result c.args.who sizes.ensures.sizes (sym c.if-not-has.ensures))
    (subst (λ rows. are_rows rows ≡ true) (sym c.in-Ok.ensures.ok) c.rows_of.ensures.short)

pub returns-in-Ok-load-clause-ok : goal.returns-in-Ok-load-clause-ok
returns-in-Ok-load-clause-ok g c =
    let config = c.args.config.now in
    let sizes = c.sizes-sizes in
    let has = subst (HasRows config c.args.who) (sym c.in-Ok.ensures.ok) c.rows_of.ensures.rows in
    let loaded = loads_over config c.args.who _ c.in-Ok.rows.items (g.R.Record.held c.args.device) (g.R.Record.held c.load.new.device)
    (Ok c.in-Ok-load.role) c.deref.ensures.value (c.in-Ok-load.ensures config sizes.ensures.sizes) in
    is_opened config c.args.who c.in-Ok.rows.items (g.R.Record.held c.args.device) (g.R.Record.held c.load.new.device) c.in-Ok-load.role
    loaded has sizes.result sizes.ensures.sizes

pub returns-in-Err-load-clause-err : goal.returns-in-Err-load-clause-err
returns-in-Err-load-clause-err g c =
    is_unopened c.args.config.now c.args.who c.deref.result.now (g.R.Record.held c.args.device) (g.R.Record.held c.load.new.device)
    c.in-Err-load.refusal (sym c.if-not-has.ensures) (c.in-Err-load.ensures c.args.config.now c.sizes-sizes.ensures.sizes)

pub returns-in-Err-clause-err : goal.returns-in-Err-clause-err
returns-in-Err-clause-err g c =
    unopened_early c.args.config.now c.args.who (g.R.Record.held c.args.device) c.in-Err.refusal (sym c.if-not-has.ensures)
    c.in-Err.ensures.err
