use Rattle.std.proofs.Common.{◌∙◌, ℕ, List, map, Bor, ap, sym, subst, string_bytes}
use Rattle.toml.specs.View.{members_view, view}
use Rattle.cluster_file.specs.declared.error.Fault.TheVariants.{Unknown}
use Rattle.cluster_file.specs.Mistakes.{mistake_at, Says}
use Rattle.cluster_file.specs.Nodes.{keys_at}
use Rattle.cluster_file.proofs.NodeLemmas.{key_known, keys_known, keys_none, keys_unknown}
use Rattle.cluster_file.proofs.Refusals.{refused_says}
use Rattle.cluster_file.proofs.section.Section.check_keys.Goals as goal

pub returns-then-not-is_among-clause-err : goal.returns-then-not-is_among-clause-err
returns-then-not-is_among-clause-err c =
    let path : List ℕ = c.args.self.now.path.now in
    let known : List (List ℕ) = map (λ (k : Bor (List ℕ)). k.now) c.args.known.now in
    let key : List ℕ = string_bytes c.in-Some.key.now in
    let whole = c.in-Some.ensures.steps in
    let unknown =
    key_known c.args.known.now key c.as_str.result.now _ c.as_str.ensures.value c.if-not-is_among.ensures in
    let says =
    subst (λ (k : List ℕ). Says (mistake_at path k Unknown) c.fault.result) c.as_str-then-not-is_among.ensures.value c.fault.ensures in
    refused_says _ (mistake_at path key Unknown) c.fault.result
    (sym c.loop-key.invariant
    ∙ (ap (λ es. keys_at path known (members_view es)) whole
    ∙ keys_unknown path known key (view c.in-Some.field-0-1.now) (members_view c.next.new.self) unknown)) says

pub loop-key-preserved : goal.loop-key-preserved
loop-key-preserved c =
    let path : List ℕ = c.args.self.now.path.now in
    let known : List (List ℕ) = map (λ (k : Bor (List ℕ)). k.now) c.args.known.now in
    let key : List ℕ = string_bytes c.in-Some.key.now in
    let whole = c.in-Some.ensures.steps in
    let there =
    key_known c.args.known.now key c.as_str.result.now _ c.as_str.ensures.value c.if-not-is_among.ensures in
    sym (keys_known path known key (view c.in-Some.field-0-1.now) (members_view c.next.new.self) there)
    ∙ (ap (λ es. keys_at path known (members_view es)) (sym whole) ∙ c.loop-key.invariant)

pub returns-clause-ok : goal.returns-clause-ok
returns-clause-ok c =
    let path : List ℕ = c.args.self.now.path.now in
    let known : List (List ℕ) = map (λ (k : Bor (List ℕ)). k.now) c.args.known.now in
    sym c.loop-key.invariant
    ∙ (ap (λ es. keys_at path known (members_view es)) c.in-None.ensures.steps.0 ∙ keys_none path known)
