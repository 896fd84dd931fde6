use Rattle.std.proofs.Common.{◌≡◌, ◌+◌, ◌≤◌, ℕ, List, [], ◌∷◌, ◌++◌, length, drop, Result, ap, sym, ◌∙◌, subst, arith, length-append, rules}
use Rattle.std.specs.Prelude.{All}
use Rattle.std.proofs.lemmas.List.Elements.{All-push}
use Rattle.toml.specs.Data.{Items}
use Rattle.toml.specs.View.{items_view, table_view, view}
use Rattle.cluster_file.specs.declared.cluster.Place.{Place}
use Rattle.cluster_file.specs.Clusters.{IsShut}
use Rattle.cluster_file.specs.Mistakes.{Mistake, IsRefused}
use Rattle.cluster_file.specs.Nodes.{Node, ReadNodes, nodes_from}
use Rattle.cluster_file.proofs.NodeLemmas.{ReadSoFar, all_read, nodes_listed, nodes_unlisted, one_more_read, one_refused, values_at}
use Rattle.cluster_file.proofs.NodeLemmas.{values_end}
use Rattle.cluster_file.proofs.Refusals.{handed_on}
use Rattle.cluster_file.proofs.nodes.read_nodes.Goals as goal

pub returns-in_err-nodes-clause-err : goal.returns-in_err-nodes-clause-err
returns-in_err-nodes-clause-err c =
    handed_on _ c.from_residual.result c.in_err-nodes.field-0.0 (search rules)
    (nodes_unlisted c.args.root.now.path.now c.args.kind c.args.keyed.nodes c.args.keyed.clients (table_view c.args.root.now.table.now)
    c.in_err-nodes.field-0.0 c.in_err-nodes.ensures.err)

pub returns-in_err-place-clause-err : goal.returns-in_err-place-clause-err
returns-in_err-place-clause-err c =
    let nodes = c.args.keyed.nodes in
    let clients = c.args.keyed.clients in
    let values = c.in_ok-nodes.nodes.now.items in
    let index = c.loop-index.index in
    let value = c.index.result.now in
    let error = c.in_err-place.field-0.0 in
    let said = nodes_from c.args.kind nodes clients 0 (items_view values) in
    let listed =
    nodes_listed c.args.root.now.path.now c.args.kind nodes clients (table_view c.args.root.now.table.now) (items_view values)
    c.in_ok-nodes.ensures.ok in
    let Read : Items → Type 0 = λ left.
    ReadSoFar said (nodes_from c.args.kind nodes clients index left) c.args.places.now.items c.loop-index.places.items
    c.args.tables.now.items c.loop-index.tables.items index in
    let so_far = subst Read (values_at values index value (omega arith) c.index.ensures) c.loop-index.invariant.read in
    handed_on _ c.from_residual-in_err-place.result error (search rules)
    (subst (λ (r : Result (List Node) Mistake). IsRefused r error) (sym listed)
    (one_refused c.args.kind nodes clients index (view value) (items_view (drop (index + 1) values)) said c.args.places.now.items
    c.loop-index.places.items c.args.tables.now.items c.loop-index.tables.items index error so_far c.in_err-place.ensures.err))

pub loop-index-preserved : goal.loop-index-preserved
loop-index-preserved c =
    let nodes = c.args.keyed.nodes in
    let clients = c.args.keyed.clients in
    let values = c.in_ok-nodes.nodes.now.items in
    let index = c.loop-index.index in
    let value = c.index.result.now in
    let place = c.in_ok-place.place in
    let rows = c.in_ok-place.rows in
    let said = nodes_from c.args.kind nodes clients 0 (items_view values) in
    let Read : Items → Type 0 = λ left.
    ReadSoFar said (nodes_from c.args.kind nodes clients index left) c.args.places.now.items c.loop-index.places.items
    c.args.tables.now.items c.loop-index.tables.items index in
    let so_far = subst Read (values_at values index value (omega arith) c.index.ensures) c.loop-index.invariant.read in
    let more : c.push.new.self.items ≡ c.loop-index.places.items ++ place ∷ [] = c.in_ok-push.ensures.items in
    let more_rows : c.push-in-loop-index.new.self.items ≡ c.loop-index.tables.items ++ rows ∷ [] = c.in_ok-push-2.ensures.items in
    let long : length c.push.new.self.items ≡ length c.loop-index.places.items + 1 =
    ap length more ∙ length-append c.loop-index.places.items (place ∷ []) in
    let Shut : List Place → Type 0 = All (IsShut nodes clients) in record {
      count = omega (arith, long, c.loop-index.invariant.count);
      shut = λ (all : Shut c.args.places.now.items).
          subst Shut (sym more)
          (All-push (IsShut nodes clients) c.loop-index.places.items place (c.loop-index.invariant.shut all) c.in_ok-place.ensures.shut);
      read = one_more_read c.args.kind nodes clients index (view value) (items_view (drop (index + 1) values)) said c.args.places.now.items
          c.loop-index.places.items c.push.new.self.items c.args.tables.now.items c.loop-index.tables.items
          c.push-in-loop-index.new.self.items place rows so_far c.in_ok-place.ensures.ok more more_rows;
    }

pub returns-clause-ok : goal.returns-clause-ok
returns-clause-ok c =
    let nodes = c.args.keyed.nodes in
    let clients = c.args.keyed.clients in
    let values = c.in_ok-nodes.nodes.now.items in
    let index = c.loop-index.index in
    let said = nodes_from c.args.kind nodes clients 0 (items_view values) in
    let listed =
    nodes_listed c.args.root.now.path.now c.args.kind nodes clients (table_view c.args.root.now.table.now) (items_view values)
    c.in_ok-nodes.ensures.ok in
    let Read : Items → Type 0 = λ left.
    ReadSoFar said (nodes_from c.args.kind nodes clients index left) c.args.places.now.items c.loop-index.places.items
    c.args.tables.now.items c.loop-index.tables.items index in
    let past : length values ≤ index = omega arith in
    let all =
    all_read c.args.kind nodes clients index said c.args.places.now.items c.loop-index.places.items c.args.tables.now.items
    c.loop-index.tables.items index
    (subst Read (values_end values index past) c.loop-index.invariant.read) in
    let same : index ≡ c.len.result = omega arith in
    let counted =
    subst (λ (n : ℕ).
    ReadNodes said c.args.places.now.items c.loop-index.places.items c.args.tables.now.items c.loop-index.tables.items n) same all in
    subst (λ (r : Result (List Node) Mistake).
    ReadNodes r c.args.places.now.items c.loop-index.places.items c.args.tables.now.items c.loop-index.tables.items c.len.result)
    (sym listed) counted
