use Rattle.std.proofs.Common.{◌≡◌, Ok, Some, codes, sym, rules, false}
use Rattle.toml.specs.Data.{get_member}
use Rattle.toml.specs.View.{table_view}
use Rattle.cluster_file.specs.Reads.{address_of}
use Rattle.cluster_file.proofs.AddressLemmas.{client_badly, client_open}
use Rattle.cluster_file.proofs.nodes.client_address.Goals as goal

pub returns-then-not-is_loopback-clause-err : goal.returns-then-not-is_loopback-clause-err
returns-then-not-is_loopback-clause-err c =
    let found = get_member (codes "client") (table_view c.args.node.now.table.now) in
    let is : address_of found ≡ Ok (Some c.in-Ok-Some.client) = search rules in
    let none : c.args.keyed.clients ≡ false = search rules in
    client_open c.args.node.now.path.now (codes "client") c.args.keyed.clients found c.in-Ok-Some.client c.fault.result is none
    (sym c.if-not-is_loopback.ensures) c.fault.ensures

pub returns-in-Err-clause-err : goal.returns-in-Err-clause-err
returns-in-Err-clause-err c =
    let found = get_member (codes "client") (table_view c.args.node.now.table.now) in
    client_badly c.args.node.now.path.now (codes "client") c.args.keyed.clients found c.in-Err.error c.in-Err.ensures.err
