use Rattle.std.proofs.Common.{◌≡◌, ◌<◌, ◌∙◌, ◌+◌, ◌++◌, ℕ, List, [], ◌∷◌, length, get_or, take, ap, subst, arith}
use Rattle.std.proofs.lemmas.Option.{unwrap_or-slice_get}
use Rattle.std.specs.List.{flat_map}
use Rattle.sha2.specs.Hashers.{Holds256}
use Rattle.protocol.specs.declared.rows.Row.{Row}
use Rattle.cluster_file.specs.Texts.{bundled_text, table_text}
use Rattle.cluster_file.proofs.TextLemmas.{tables_long, text_more_first}
use Rattle.cluster_file.proofs.digesting.digest.Goals as goal

pub loop-rm-preserved : goal.loop-rm-preserved
loop-rm-preserved c =
    let config = c.args.config.now in
    let head : List ℕ = config.acceptors ∷ config.leaders ∷ config.managers ∷ bundled_text config.bundled ∷ [] in
    let so_far : List ℕ = head ++ flat_map table_text (take c.loop-rm.rm config.tables) in
    let long : length config.tables ≡ config.managers = tables_long config c.sizes-sizes.ensures.valid in
    let many : c.sizes-sizes.result.managers ≡ config.managers = c.sizes-sizes.ensures.sizes.managers_are in
    let below : c.loop-rm.rm < length config.tables = omega (arith, long, many, c.loop-rm-test.true) in
    let rows : c.rows_of.result.now ≡ get_or config.tables c.loop-rm.rm [] =
    c.rows_of.ensures.rows ∙ unwrap_or-slice_get config.tables c.loop-rm.rm [] in
    let text : so_far ++ table_text c.rows_of.result.now ≡ head ++ flat_map table_text (take (c.loop-rm.rm + 1) config.tables) =
    ap (λ (table : List Row). so_far ++ table_text table) rows
    ∙ text_more_first table_text head config.tables c.loop-rm.rm [] below in
    let Held : List ℕ → Type 0 = λ t. Holds256 c.add_table.new.hasher t in
    subst Held text (c.add_table.ensures so_far c.loop-rm.invariant)
