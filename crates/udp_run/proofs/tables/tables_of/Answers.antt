use Rattle.std.proofs.Common.{◌≡◌, ◌⊎◌, List, ◌<◌, length, sym, subst, arith, rules}
use Rattle.xid.specs.declared.refusals.Refusal.TheVariants.{NoMemory, RecordFault}
use Rattle.protocol.specs.declared.rows.Row.{Row}
use Rattle.cluster_run.proofs.Configs.{handed_on}
use Rattle.udp_run.specs.NodeTables.{StopsAtTable}
use Rattle.udp_run.proofs.Shown.{HaveShownTables, none_shown, all_shown, shown_next, shown_no_more}
use Rattle.udp_run.proofs.tables.tables_of.Goals as goal

pub loop-at-init : goal.loop-at-init
loop-at-init g c =
    subst (λ (tables : List (List Row)). HaveShownTables 0 c.args.nodes.now.items c.args.nodes.now.items tables)
    (sym c.new-tables.ensures.items) (none_shown c.args.nodes.now.items)

pub returns-in_err-show-clause-err : goal.returns-in_err-show-clause-err
returns-in_err-show-clause-err g c =
    let lt : c.loop-at.at < length c.loop-at.nodes.items =
    omega (arith, c.loop-at-test.true, c.len-at-end.ensures, c.loop-at.invariant.long) in
    handed_on (λ e. (e ≡ NoMemory) ⊎ ((e ≡ RecordFault) × StopsAtTable c.args.nodes.now.items)) c.from_residual.result
    c.in_err-show.field-0.0 (search rules)
    (shown_no_more c.loop-at.at c.args.nodes.now.items c.loop-at.nodes.items c.loop-at.tables.items c.index_mut-node.result.now
    c.show.new.node lt c.index_mut-node.ensures.value c.loop-at.invariant c.in_err-show.field-0.0 c.in_err-show.ensures.err)

pub loop-at-preserved : goal.loop-at-preserved
loop-at-preserved g c =
    let lt : c.loop-at.at < length c.loop-at.nodes.items =
    omega (arith, c.loop-at-test.true, c.len-at-end.ensures, c.loop-at.invariant.long) in
    shown_next c.loop-at.at c.args.nodes.now.items c.loop-at.nodes.items c.loop-at.tables.items c.index_mut-node.result.now
    c.show.new.node lt c.index_mut-node.ensures.value c.loop-at.invariant c.show.new.tables.items c.in_ok-show.ensures.ok

pub returns-clause-ok : goal.returns-clause-ok
returns-clause-ok g c =
    all_shown c.loop-at.at c.args.nodes.now.items c.loop-at.nodes.items c.loop-at.tables.items
    (omega (arith, c.loop-at-test.false, c.len-at-end.ensures, c.loop-at.invariant.long)) c.loop-at.invariant
