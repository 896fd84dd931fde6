use Rattle.std.proofs.Common.{◌≡◌, ◌∙◌, ◌++◌, ◌∷◌, [], ℕ, List, Ok, Result, ap, sym, subst, string_bytes, rules}
use Rattle.protocol.specs.declared.rows.Row.{Row}
use Rattle.toml.specs.View.{members_view, view}
use Rattle.cluster_file.specs.Mistakes.{Mistake, ◌>>=◌, reads_at, IsRefused}
use Rattle.cluster_file.specs.Rows.{row_of, rows_from}
use Rattle.cluster_file.proofs.NodeLemmas.{rows_end, rows_more, rows_refused}
use Rattle.cluster_file.proofs.Refusals.{handed_on}
use Rattle.cluster_file.proofs.tables.rows_of.Goals as goal

pub returns-in_err-row-clause-err : goal.returns-in_err-row-clause-err
returns-in_err-row-clause-err c =
    let path : List ℕ = c.args.rows.now.path.now in
    let key : List ℕ = string_bytes c.in-Some.key.now in
    let before : List Row = c.loop-key.all.items in
    let error = c.in_err-row.field-0.0 in
    let whole = c.in-Some.ensures.steps in
    let wrong =
    subst (λ (k : List ℕ). IsRefused (reads_at path k (row_of k (view c.in-Some.value.now))) error) c.as_str.ensures.value
    c.in_err-row.ensures.err in
    let same =
    c.loop-key.invariant ∙ ap (λ es. rows_from path (members_view es) >>= (λ more. Ok (before ++ more))) whole in
    handed_on _ c.from_residual.result error (search rules)
    (subst (λ (said : Result (List Row) Mistake). IsRefused said error) (sym same)
    (rows_refused path key (view c.in-Some.value.now) (members_view c.next.new.self) before error wrong))

pub loop-key-preserved : goal.loop-key-preserved
loop-key-preserved c =
    let path : List ℕ = c.args.rows.now.path.now in
    let key : List ℕ = string_bytes c.in-Some.key.now in
    let before : List Row = c.loop-key.all.items in
    let whole = c.in-Some.ensures.steps in
    let row = c.in_ok-row.row in
    let read = subst (λ (k : List ℕ). row_of k (view c.in-Some.value.now) ≡ Ok row) c.as_str.ensures.value c.in_ok-row.ensures.ok in
    let more : c.push.new.self.items ≡ before ++ row ∷ [] = c.in_ok-push.ensures.items in
    c.loop-key.invariant
    ∙ (ap (λ es. rows_from path (members_view es) >>= (λ more. Ok (before ++ more))) whole
    ∙ (rows_more path key (view c.in-Some.value.now) (members_view c.next.new.self) row before read
    ∙ ap (λ (b : List Row). rows_from path (members_view c.next.new.self) >>= (λ more. Ok (b ++ more))) (sym more)))

pub returns-clause-ok : goal.returns-clause-ok
returns-clause-ok c =
    let path : List ℕ = c.args.rows.now.path.now in
    let before : List Row = c.loop-key.all.items in
    let all =
    c.loop-key.invariant
    ∙ (ap (λ es. rows_from path (members_view es) >>= (λ more. Ok (before ++ more))) c.in-None.ensures.steps.0 ∙ rows_end path before) in
    let same : before ≡ c.new.result = search rules in
    all ∙ ap (λ (b : List Row). Ok b) same
