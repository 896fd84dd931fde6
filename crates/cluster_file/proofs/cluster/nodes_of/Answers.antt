use Rattle.std.proofs.Common.{◌≡◌, ◌≢◌, ◌<◌, ◌∙◌, ℕ, List, length, true, false, Ok, Result, ap, sym, subst, arith, rules}
use Rattle.std.specs.Prelude.{All}
use Rattle.std.specs.List.{AllPairs}
use Rattle.node_core.specs.Configs.{config_of, is_config}
use Rattle.protocol.specs.Effects.{Config}
use Rattle.toml.specs.Data.{Members}
use Rattle.toml.specs.View.{table_view}
use Rattle.cluster_file.specs.declared.cluster.Place.{Place}
use Rattle.cluster_file.specs.Clusters.{IsShut, addresses_of}
use Rattle.cluster_file.specs.Mistakes.{Mistake, IsRefused}
use Rattle.cluster_file.proofs.ClusterLemmas.{all_config, all_places, apart_same, config_same, parts_no_acceptors, parts_no_leaders}
use Rattle.cluster_file.proofs.ClusterLemmas.{parts_no_managers, parts_not_apart, parts_outside, parts_right, placed, tabled}
use Rattle.cluster_file.proofs.Refusals.{handed_on}
use Rattle.cluster_file.proofs.cluster.nodes_of.Goals as goal

pub returns-in_err-acceptors-clause-err : goal.returns-in_err-acceptors-clause-err
returns-in_err-acceptors-clause-err c =
    handed_on _ c.from_residual.result c.in_err-acceptors.field-0.0 (search rules)
    (parts_no_acceptors c.args.root.now.path.now c.args.keyed.nodes c.args.keyed.clients (table_view c.args.root.now.table.now)
    c.in_err-acceptors.field-0.0 c.in_err-acceptors.ensures.err)

pub returns-in_err-leaders-clause-err : goal.returns-in_err-leaders-clause-err
returns-in_err-leaders-clause-err c =
    let acceptors = c.in_ok-acceptors.ensures.ok in
    handed_on _ c.from_residual-in_err-leaders.result c.in_err-leaders.field-0.0 (search rules)
    (parts_no_leaders c.args.root.now.path.now c.args.keyed.nodes c.args.keyed.clients (table_view c.args.root.now.table.now)
    acceptors.nodes acceptors.are c.in_err-leaders.field-0.0 c.in_err-leaders.ensures.err)

pub returns-in_err-managers-clause-err : goal.returns-in_err-managers-clause-err
returns-in_err-managers-clause-err c =
    let acceptors = c.in_ok-acceptors.ensures.ok in
    let leaders = c.in_ok-leaders.ensures.ok in
    handed_on _ c.from_residual-in_err-managers.result c.in_err-managers.field-0.0 (search rules)
    (parts_no_managers c.args.root.now.path.now c.args.keyed.nodes c.args.keyed.clients (table_view c.args.root.now.table.now)
    acceptors.nodes acceptors.are leaders.nodes leaders.are c.in_err-managers.field-0.0 c.in_err-managers.ensures.err)

pub returns-in_err-check_apart-clause-err : goal.returns-in_err-check_apart-clause-err
returns-in_err-check_apart-clause-err c =
    let a = c.in_ok-acceptors.ensures.ok in
    let l = c.in_ok-leaders.ensures.ok in
    let m = c.in_ok-managers.ensures.ok in
    let error = c.in_err-check_apart.field-0.0 in
    let places =
    c.deref.ensures.value
    ∙ placed c.new-places.result.items c.read_nodes.new.places.items c.read_nodes-2.new.places.items c.read_nodes-3.new.places.items
    a.nodes l.nodes m.nodes c.new-places.ensures.items a.found l.found m.found in
    let same =
    apart_same c.in_ok-acceptors.acceptors c.in_ok-leaders.leaders (length a.nodes) (length l.nodes) c.deref.result.now
    (all_places a.nodes l.nodes m.nodes) a.many l.many places in
    handed_on _ c.from_residual-in_err-check_apart.result error (search rules)
    (parts_not_apart c.args.root.now.path.now c.args.keyed.nodes c.args.keyed.clients (table_view c.args.root.now.table.now)
    a.nodes a.are l.nodes l.are m.nodes m.are error
    (subst (λ (said : Result (Unit {0}) Mistake). IsRefused said error) same c.in_err-check_apart.ensures.err))

pub returns-in-Ok-clause-nodes : goal.returns-in-Ok-clause-nodes
returns-in-Ok-clause-nodes c =
    let same = c.in-Ok.ensures.ok.0 in
    let none : length c.new-places.result.items ≡ 0 = ap length c.new-places.ensures.items in
    let Valid : Config → Type 0 = λ config. is_config config ≡ true in
    let Apart : List Place → Type 0 = λ places. AllPairs (λ a b. a ≢ b) (addresses_of places) in
    let Shut : List Place → Type 0 = All (IsShut c.args.keyed.nodes c.args.keyed.clients) in
    let begun : Shut c.new-places.result.items =
    λ (k : ℕ) (d : Place) (below : k < length c.new-places.result.items). absurd (omega (arith, below, none)) in record {
      valid = subst Valid (sym same) c.in-Ok.ensures.ok.1;
      count = omega (
        arith,
        none,
        c.in_ok-acceptors.ensures.places,
        c.in_ok-leaders.ensures.places,
        c.in_ok-managers.ensures.places,
        ap (λ (config : Config). config.acceptors) same,
        ap (λ (config : Config). config.leaders) same,
        ap (λ (config : Config). config.managers) same,
      );
      apart = subst Apart c.deref.ensures.value c.in_ok-check_apart.ensures.apart;
      shut = c.in_ok-managers.ensures.shut (c.in_ok-leaders.ensures.shut (c.in_ok-acceptors.ensures.shut begun));
    }

pub returns-in-Ok-clause-plain : goal.returns-in-Ok-clause-plain
returns-in-Ok-clause-plain c = ap (λ (config : Config). config.bundled) c.in-Ok.ensures.ok.0

pub returns-in-Ok-clause-ok : goal.returns-in-Ok-clause-ok
returns-in-Ok-clause-ok c =
    let path : List ℕ = c.args.root.now.path.now in
    let members : Members = table_view c.args.root.now.table.now in
    let a = c.in_ok-acceptors.ensures.ok in
    let l = c.in_ok-leaders.ensures.ok in
    let m = c.in_ok-managers.ensures.ok in
    let found =
    placed c.new-places.result.items c.read_nodes.new.places.items c.read_nodes-2.new.places.items c.read_nodes-3.new.places.items
    a.nodes l.nodes m.nodes c.new-places.ensures.items a.found l.found m.found in
    let same =
    apart_same c.in_ok-acceptors.acceptors c.in_ok-leaders.leaders (length a.nodes) (length l.nodes) c.deref.result.now
    (all_places a.nodes l.nodes m.nodes) a.many l.many (c.deref.ensures.value ∙ found) in
    let rows = tabled c.new-tables.result.items c.read_nodes-3.new.tables.items m.nodes c.new-tables.ensures.items m.tables in
    let tables : c.new.result ≡ c.read_nodes-3.new.tables.items = search rules in
    let config : config_of c.in_ok-acceptors.acceptors c.in_ok-leaders.leaders c.in_ok-managers.managers c.new.result
    ≡ all_config a.nodes l.nodes m.nodes = config_same _ _ _ _ _ _ _ _ a.many l.many m.many (tables ∙ rows) in
    let within = subst (λ (k : Config). is_config k ≡ true) config c.in-Ok.ensures.ok.1 in
    let both : Config → List Place → Config × List Place = λ k places. (k, places) in
    parts_right path c.args.keyed.nodes c.args.keyed.clients members a.nodes a.are l.nodes l.are m.nodes m.are
    (sym same ∙ c.in_ok-check_apart.ensures.ok) within
    ∙ (ap (λ (k : Config). Ok (both k (all_places a.nodes l.nodes m.nodes))) (sym (c.in-Ok.ensures.ok.0 ∙ config))
    ∙ ap (λ (places : List Place). Ok (both c.in-Ok.config places)) (sym found))

pub returns-in-Err-clause-err : goal.returns-in-Err-clause-err
returns-in-Err-clause-err c =
    let path : List ℕ = c.args.root.now.path.now in
    let members : Members = table_view c.args.root.now.table.now in
    let a = c.in_ok-acceptors.ensures.ok in
    let l = c.in_ok-leaders.ensures.ok in
    let m = c.in_ok-managers.ensures.ok in
    let found =
    placed c.new-places.result.items c.read_nodes.new.places.items c.read_nodes-2.new.places.items c.read_nodes-3.new.places.items
    a.nodes l.nodes m.nodes c.new-places.ensures.items a.found l.found m.found in
    let same =
    apart_same c.in_ok-acceptors.acceptors c.in_ok-leaders.leaders (length a.nodes) (length l.nodes) c.deref.result.now
    (all_places a.nodes l.nodes m.nodes) a.many l.many (c.deref.ensures.value ∙ found) in
    let rows = tabled c.new-tables.result.items c.read_nodes-3.new.tables.items m.nodes c.new-tables.ensures.items m.tables in
    let tables : c.new.result ≡ c.read_nodes-3.new.tables.items = search rules in
    let config : config_of c.in_ok-acceptors.acceptors c.in_ok-leaders.leaders c.in_ok-managers.managers c.new.result
    ≡ all_config a.nodes l.nodes m.nodes = config_same _ _ _ _ _ _ _ _ a.many l.many m.many (tables ∙ rows) in
    let outside = subst (λ (k : Config). is_config k ≡ false) config c.in-Err.ensures.err.1 in
    parts_outside path c.args.keyed.nodes c.args.keyed.clients members a.nodes a.are l.nodes l.are m.nodes m.are
    (sym same ∙ c.in_ok-check_apart.ensures.ok) c.fault.result outside c.fault.ensures
