use Rattle.std.proofs.Common.{◌≡◌, ◌∙◌, ◌++◌, Err, ap, inl, List, ℕ, Option, refl, rules}
use Rattle.std.proofs.lemmas.Result.{err_from_is_err_and}
use Rattle.std.proofs.KnownBytes.{Keeps-refl}
use Rattle.safety.specs.Vocabulary.{Row}
use Rattle.net_script.specs.Traces.{final_lines}
use Rattle.cluster_run.proofs.Configs.{handed_on}
use Rattle.cluster_run.proofs.Running.{begun_by, ends_by, ends_err, ends_ok, runs_on, stops_after, stops_in}
use Rattle.cluster_run.proofs.runs.run_script.Goals as goal

pub returns-in_err-write_head-clause-err : goal.returns-in_err-write_head-clause-err
returns-in_err-write_head-clause-err g c =
    handed_on _ c.from_residual-in_err-write_head.result c.in_err-write_head.field-0.0 (search rules)
    (inl (inl c.in_err-write_head.ensures.err, Keeps-refl (g.W.Write.contents c.args.out.now)))

pub returns-in_err-carry_out_all-clause-err : goal.returns-in_err-carry_out_all-clause-err
returns-in_err-carry_out_all-clause-err g c =
    let s = c.args.script in
    let first = c.in_ok-cluster.cluster in
    let head = c.write_head.new.out.items in
    let begun =
    begun_by s c.in_ok-config.config c.as_slice-first.result.now c.in_ok-config.ensures.ok.0 c.as_slice-first.ensures
    c.in_ok-config.ensures.ok.1 first c.in_ok-cluster.ensures.ok c.new-piece.result.items head c.new-piece.ensures.items
    c.in_ok-write_head.ensures.ok in
    handed_on _ c.from_residual-in_err-carry_out_all.result c.in_err-carry_out_all.field-0.0 (search rules)
    (stops_in s c.in_ok-config.config first head begun s.commands refl (g.W.Write.contents c.args.out.now)
    (g.W.Write.contents c.carry_out_all.new.out) c.in_err-carry_out_all.field-0.0 c.in_err-carry_out_all.ensures.err)

pub returns-in-Err-clause-err : goal.returns-in-Err-clause-err
returns-in-Err-clause-err g c =
    let s = c.args.script in
    let config = c.in_ok-config.config in
    let first = c.in_ok-cluster.cluster in
    let head = c.write_head.new.out.items in
    let last = c.carry_out_all.new.cluster in
    let body = c.carry_out_all.new.piece.items in
    let old : Option (List ℕ) = g.W.Write.contents c.args.out.now in
    let new : Option (List ℕ) = g.W.Write.contents c.carry_out_all.new.out in
    let goes = c.in_ok-carry_out_all.ensures.ok in
    let begun =
    begun_by s config c.as_slice-first.result.now c.in_ok-config.ensures.ok.0 c.as_slice-first.ensures
    c.in_ok-config.ensures.ok.1 first c.in_ok-cluster.ensures.ok c.new-piece.result.items head c.new-piece.ensures.items
    c.in_ok-write_head.ensures.ok in
    let so = runs_on s config first head begun s.commands refl old last body new goes in
    stops_after s config first head begun s.commands refl old last body new c.in-Err.refusal goes
    (c.in-Err.ensures config so.0 so.1 c.sizes.ensures.sizes.managers_are)

pub returns-in_err-write_finals-clause-err : goal.returns-in_err-write_finals-clause-err
returns-in_err-write_finals-clause-err g c =
    let s = c.args.script in
    let config = c.in_ok-config.config in
    let first = c.in_ok-cluster.cluster in
    let head = c.write_head.new.out.items in
    let begun =
    begun_by s config c.as_slice-first.result.now c.in_ok-config.ensures.ok.0 c.as_slice-first.ensures
    c.in_ok-config.ensures.ok.1 first c.in_ok-cluster.ensures.ok c.new-piece.result.items head c.new-piece.ensures.items
    c.in_ok-write_head.ensures.ok in
    let from = err_from_is_err_and c.from_residual-in_err-write_finals.result c.from_residual-in_err-write_finals.ensures.1 in
    handed_on _ c.from_residual-in_err-write_finals.result c.in_err-write_finals.field-0.0 (from.1 ∙ ap Err from.2)
    (stops_after s config first head begun s.commands refl (g.W.Write.contents c.args.out.now)
    c.carry_out_all.new.cluster c.carry_out_all.new.piece.items (g.W.Write.contents c.carry_out_all.new.out)
    c.in_err-write_finals.field-0.0 c.in_ok-carry_out_all.ensures.ok c.in_err-write_finals.ensures.err)

pub returns-clause-ok : goal.returns-clause-ok
returns-clause-ok g c =
    let s = c.args.script in
    let config = c.in_ok-config.config in
    let first = c.in_ok-cluster.cluster in
    let head = c.write_head.new.out.items in
    let last = c.carry_out_all.new.cluster in
    let body = c.carry_out_all.new.piece.items in
    let commands = s.commands in
    let finals = c.in-Ok.finals.items in
    let text = c.deref-2.result.now in
    let old : Option (List ℕ) = g.W.Write.contents c.args.out.now in
    let middle : Option (List ℕ) = g.W.Write.contents c.carry_out_all.new.out in
    let new : Option (List ℕ) = g.W.Write.contents c.write_text.new.out in
    let begun =
    begun_by s config c.as_slice-first.result.now c.in_ok-config.ensures.ok.0 c.as_slice-first.ensures
    c.in_ok-config.ensures.ok.1 first c.in_ok-cluster.ensures.ok c.new-piece.result.items head c.new-piece.ensures.items
    c.in_ok-write_head.ensures.ok in
    let text_is : text ≡ body ++ final_lines 0 finals =
    c.deref-2.ensures.value ∙ c.in_ok-write_finals.ensures.ok
    ∙ ap (λ (rows : List (List Row)). body ++ final_lines 0 rows) c.deref.ensures.value in
    ends_ok s config first head begun commands refl old c.write_text.result new
    (ends_by s config first head begun commands refl old last body text middle new c.in_ok-carry_out_all.ensures.ok
    c.sizes.result.managers c.sizes.ensures.sizes.managers_are finals c.in-Ok.ensures text_is c.write_text.result c.write_text.ensures)

pub returns-clause-err : goal.returns-clause-err
returns-clause-err g c =
    let s = c.args.script in
    let config = c.in_ok-config.config in
    let first = c.in_ok-cluster.cluster in
    let head = c.write_head.new.out.items in
    let last = c.carry_out_all.new.cluster in
    let body = c.carry_out_all.new.piece.items in
    let commands = s.commands in
    let finals = c.in-Ok.finals.items in
    let text = c.deref-2.result.now in
    let old : Option (List ℕ) = g.W.Write.contents c.args.out.now in
    let middle : Option (List ℕ) = g.W.Write.contents c.carry_out_all.new.out in
    let new : Option (List ℕ) = g.W.Write.contents c.write_text.new.out in
    let begun =
    begun_by s config c.as_slice-first.result.now c.in_ok-config.ensures.ok.0 c.as_slice-first.ensures
    c.in_ok-config.ensures.ok.1 first c.in_ok-cluster.ensures.ok c.new-piece.result.items head c.new-piece.ensures.items
    c.in_ok-write_head.ensures.ok in
    let text_is : text ≡ body ++ final_lines 0 finals =
    c.deref-2.ensures.value ∙ c.in_ok-write_finals.ensures.ok
    ∙ ap (λ (rows : List (List Row)). body ++ final_lines 0 rows) c.deref.ensures.value in
    ends_err s config first head begun commands refl old c.write_text.result new
    (ends_by s config first head begun commands refl old last body text middle new c.in_ok-carry_out_all.ensures.ok
    c.sizes.result.managers c.sizes.ensures.sizes.managers_are finals c.in-Ok.ensures text_is c.write_text.result c.write_text.ensures)
