use Rattle.std.proofs.Common.{◌≡◌, ◌∙◌, Ok, Bool, List, ℕ, ap, sym, subst, rules, codes}
use Rattle.std.specs.Prelude.{is_some}
use Rattle.protocol.specs.Effects.{Config}
use Rattle.toml.specs.Data.{Members}
use Rattle.toml.specs.View.{table_view}
use Rattle.cluster_file.specs.declared.cluster.Place.{Place}
use Rattle.cluster_file.specs.ClusterAt.{Said, cluster_behind, parts_at}
use Rattle.cluster_file.specs.Mistakes.{IsRefused}
use Rattle.cluster_file.specs.Reads.{name_bytes}
use Rattle.cluster_file.proofs.ClusterLemmas.{config_plain, shared_right, shared_wrong, some_bytes}
use Rattle.cluster_file.proofs.Refusals.{handed_on, ok_after, ok_at, refused_after, refused_bind}
use Rattle.cluster_file.proofs.cluster.cluster_of.Goals as goal
use Rattle.cluster_file.proofs.cluster.cluster_of.Goals.{then-bundled, else-bundled}

pub returns-in_err-check_keys-clause-err : goal.returns-in_err-check_keys-clause-err
unfolding cluster_behind
returns-in_err-check_keys-clause-err c =
    handed_on _ c.from_residual.result c.in_err-check_keys.field-0.0 (search rules)
    (refused_bind _ c.in_err-check_keys.ensures.err)

pub returns-in_err-bundled-clause-err : goal.returns-in_err-bundled-clause-err
unfolding cluster_behind
returns-in_err-bundled-clause-err c =
    handed_on _ c.from_residual-in_err-bundled.result c.in_err-bundled.field-0.0 (search rules)
    (refused_after _ c.in_ok-check_keys.ensures.ok (refused_bind _ c.in_err-bundled.ensures.err))

pub returns-in_err-key-clause-err : goal.returns-in_err-key-clause-err
unfolding cluster_behind
returns-in_err-key-clause-err c =
    let path : List ℕ = c.args.root.now.path.now in
    handed_on _ c.from_residual-in_err-key.result c.in_err-key.field-0.0 (search rules)
    (refused_after _ c.in_ok-check_keys.ensures.ok
    (refused_after _ (ok_at path (codes "bundled") _ c.in_ok-bundled.bundled c.in_ok-bundled.ensures.ok)
    (refused_bind _ c.in_err-key.ensures.err)))

pub returns-in_err-client_key-clause-err : goal.returns-in_err-client_key-clause-err
unfolding cluster_behind
returns-in_err-client_key-clause-err c =
    let path : List ℕ = c.args.root.now.path.now in
    handed_on _ c.from_residual-in_err-client_key.result c.in_err-client_key.field-0.0 (search rules)
    (refused_after _ c.in_ok-check_keys.ensures.ok
    (refused_after _ (ok_at path (codes "bundled") _ c.in_ok-bundled.bundled c.in_ok-bundled.ensures.ok)
    (refused_after _ c.in_ok-key.ensures.ok (refused_bind _ c.in_err-client_key.ensures.err))))

pub returns-then-are_shared-clause-err : goal.returns-then-are_shared-clause-err
unfolding cluster_behind
returns-then-are_shared-clause-err c =
    let path : List ℕ = c.args.root.now.path.now in
    refused_after _ c.in_ok-check_keys.ensures.ok
    (refused_after _ (ok_at path (codes "bundled") _ c.in_ok-bundled.bundled c.in_ok-bundled.ensures.ok)
    (refused_after _ c.in_ok-key.ensures.ok
    (refused_after _ c.in_ok-client_key.ensures.ok
    (refused_bind _
    (shared_wrong path (name_bytes c.in_ok-key.key) (name_bytes c.in_ok-client_key.client_key) c.fault.result
    (sym c.are_shared.ensures ∙ c.if-are_shared.true) c.fault.ensures)))))

pub returns-in_err-timing-clause-err : goal.returns-in_err-timing-clause-err
unfolding cluster_behind
returns-in_err-timing-clause-err c =
    let path : List ℕ = c.args.root.now.path.now in
    handed_on _ c.from_residual-in_err-timing.result c.in_err-timing.field-0.0 (search rules)
    (refused_after _ c.in_ok-check_keys.ensures.ok
    (refused_after _ (ok_at path (codes "bundled") _ c.in_ok-bundled.bundled c.in_ok-bundled.ensures.ok)
    (refused_after _ c.in_ok-key.ensures.ok
    (refused_after _ c.in_ok-client_key.ensures.ok
    (refused_after _
    (shared_right path (name_bytes c.in_ok-key.key) (name_bytes c.in_ok-client_key.client_key)
    (sym c.are_shared.ensures ∙ c.if-are_shared.false))
    (refused_bind _ c.in_err-timing.ensures.err))))))

pub returns-in_err-naming-clause-err : goal.returns-in_err-naming-clause-err
unfolding cluster_behind
returns-in_err-naming-clause-err c =
    let path : List ℕ = c.args.root.now.path.now in
    handed_on _ c.from_residual-in_err-naming.result c.in_err-naming.field-0.0 (search rules)
    (refused_after _ c.in_ok-check_keys.ensures.ok
    (refused_after _ (ok_at path (codes "bundled") _ c.in_ok-bundled.bundled c.in_ok-bundled.ensures.ok)
    (refused_after _ c.in_ok-key.ensures.ok
    (refused_after _ c.in_ok-client_key.ensures.ok
    (refused_after _
    (shared_right path (name_bytes c.in_ok-key.key) (name_bytes c.in_ok-client_key.client_key)
    (sym c.are_shared.ensures ∙ c.if-are_shared.false))
    (refused_after _ c.in_ok-timing.ensures.ok (refused_bind _ c.in_err-naming.ensures.err)))))))

pub returns-in_err-plain-clause-err : goal.returns-in_err-plain-clause-err
unfolding cluster_behind
returns-in_err-plain-clause-err c =
    let path : List ℕ = c.args.root.now.path.now in
    let members : Members = table_view c.args.root.now.table.now in
    let nodes : c.is_some.result ≡ is_some (name_bytes c.in_ok-key.key) = search (rules, some_bytes) in
    let clients : c.is_some-2.result ≡ is_some (name_bytes c.in_ok-client_key.client_key) = search (rules, some_bytes) in
    let P : Bool → Type 0 = λ b. IsRefused (parts_at path b c.is_some-2.result members) c.in_err-plain.field-0.0 in
    let Q : Bool → Type 0 = λ b.
    IsRefused (parts_at path (is_some (name_bytes c.in_ok-key.key)) b members) c.in_err-plain.field-0.0 in
    handed_on _ c.from_residual-in_err-plain.result c.in_err-plain.field-0.0 (search rules)
    (refused_after _ c.in_ok-check_keys.ensures.ok
    (refused_after _ (ok_at path (codes "bundled") _ c.in_ok-bundled.bundled c.in_ok-bundled.ensures.ok)
    (refused_after _ c.in_ok-key.ensures.ok
    (refused_after _ c.in_ok-client_key.ensures.ok
    (refused_after _
    (shared_right path (name_bytes c.in_ok-key.key) (name_bytes c.in_ok-client_key.client_key)
    (sym c.are_shared.ensures ∙ c.if-are_shared.false))
    (refused_after _ c.in_ok-timing.ensures.ok
    (refused_after _ c.in_ok-naming.ensures.ok (refused_bind _ (subst Q clients (subst P nodes c.in_err-plain.ensures.err))))))))))

pub returns-clause-ok : goal.returns-clause-ok
unfolding cluster_behind
returns-clause-ok c =
    let path : List ℕ = c.args.root.now.path.now in
    let members : Members = table_view c.args.root.now.table.now in
    let plain : Config = c.in_ok-plain.plain in
    let places : List Place = c.in_ok-plain.places.items in
    let nodes : c.is_some.result ≡ is_some (name_bytes c.in_ok-key.key) = search (rules, some_bytes) in
    let clients : c.is_some-2.result ≡ is_some (name_bytes c.in_ok-client_key.client_key) = search (rules, some_bytes) in
    let P : Bool → Type 0 = λ b. parts_at path b c.is_some-2.result members ≡ Ok (plain, places) in
    let Q : Bool → Type 0 = λ b. parts_at path (is_some (name_bytes c.in_ok-key.key)) b members ≡ Ok (plain, places) in
    let kind : c.if-bundled.config ≡ record plain { bundled = c.in_ok-bundled.bundled } =
    elim c.if-bundled.branch [
      | then-bundled w ↦
          w.config-is ∙ (w.bundled-config.ensures ∙ ap (λ (b : Bool). record plain { bundled = b }) (sym w.if-bundled.true))
      | else-bundled w ↦ w.config-is ∙ config_plain plain c.in_ok-bundled.bundled (c.in_ok-plain.ensures.plain ∙ sym w.if-bundled.false)
    ] in
    let said : Config → Said = λ config. record {
      config = config;
      places = places;
      key = name_bytes c.in_ok-key.key;
      client_key = name_bytes c.in_ok-client_key.client_key;
      timing = c.in_ok-timing.timing;
      naming = c.in_ok-naming.naming;
    } in
    ok_after _ c.in_ok-check_keys.ensures.ok
    (ok_after _ (ok_at path (codes "bundled") _ c.in_ok-bundled.bundled c.in_ok-bundled.ensures.ok)
    (ok_after _ c.in_ok-key.ensures.ok
    (ok_after _ c.in_ok-client_key.ensures.ok
    (ok_after _
    (shared_right path (name_bytes c.in_ok-key.key) (name_bytes c.in_ok-client_key.client_key)
    (sym c.are_shared.ensures ∙ c.if-are_shared.false))
    (ok_after _ c.in_ok-timing.ensures.ok
    (ok_after _ c.in_ok-naming.ensures.ok
    (ok_after _ (subst Q clients (subst P nodes c.in_ok-plain.ensures.ok)) (ap (λ (k : Config). Ok (said k)) (sym kind)))))))))
