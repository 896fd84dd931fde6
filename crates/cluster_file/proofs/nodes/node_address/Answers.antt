use Rattle.std.proofs.Common.{◌≡◌, Ok, None, Some, codes, sym, rules, false}
use Rattle.toml.specs.Data.{get_member}
use Rattle.toml.specs.View.{table_view}
use Rattle.cluster_file.specs.Reads.{address_of}
use Rattle.cluster_file.proofs.AddressLemmas.{node_badly, node_missing, node_open}
use Rattle.cluster_file.proofs.nodes.node_address.Goals as goal

pub returns-then-not-is_loopback-clause-err : goal.returns-then-not-is_loopback-clause-err
returns-then-not-is_loopback-clause-err c =
    let found = get_member (codes "node") (table_view c.args.node.now.table.now) in
    let is : address_of found ≡ Ok (Some c.in-Ok-Some.at) = search rules in
    let none : c.args.keyed.nodes ≡ false = search rules in
    node_open c.args.node.now.path.now (codes "node") c.args.keyed.nodes found c.in-Ok-Some.at c.fault-then-not-is_loopback.result is none
    (sym c.if-not-is_loopback.ensures) c.fault-then-not-is_loopback.ensures

pub returns-in-Ok-None-clause-err : goal.returns-in-Ok-None-clause-err
returns-in-Ok-None-clause-err c =
    let found = get_member (codes "node") (table_view c.args.node.now.table.now) in
    let is : address_of found ≡ Ok None = search rules in
    node_missing c.args.node.now.path.now (codes "node") c.args.keyed.nodes found c.fault.result is c.fault.ensures

pub returns-in-Err-clause-err : goal.returns-in-Err-clause-err
returns-in-Err-clause-err c =
    let found = get_member (codes "node") (table_view c.args.node.now.table.now) in
    node_badly c.args.node.now.path.now (codes "node") c.args.keyed.nodes found c.in-Err.error c.in-Err.ensures.err
