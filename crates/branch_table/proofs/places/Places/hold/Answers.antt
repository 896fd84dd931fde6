use Rattle.std.proofs.Common.{◌≡◌, ◌∙◌, ◌+◌, cond, drop, refl, sym, ap, arith}
use Rattle.std.specs.Str.{bytes_eq}
use Rattle.branch_table.specs.Parts.{AddsHolders, hold_at, hold_by, table_of, uses_by, uses_held}
use Rattle.branch_table.proofs.PlaceTable.{given_on_ok, kept_on_err}
use Rattle.branch_table.proofs.Uses.{hold_step, split_uses, take_ascends, uses_step}
use Rattle.branch_table.proofs.places.Places.hold.Goals as goal

pub let_go-requires : goal.let_go-requires
let_go-requires c = take_ascends c.args.keys.now c.loop-at.at c.requires.ascending

pub returns-then-is_err-clause-err : goal.returns-then-is_err-clause-err
returns-then-is_err-clause-err c = (
  refl,
  λ writes key.
      let same = kept_on_err c.add.result c.add.new.self c.loop-at.self (sym c.is_err.ensures.value ∙ c.if-is_err.true) c.add.ensures.err in
      let kept = ap (λ hs. uses_held writes (hold_at hs key)) same in
      let freed = c.let_go.ensures.holds writes key in
      let held = c.loop-at.invariant.holds writes key in
      let split = split_uses writes key c.args.keys.now c.loop-at.at c.requires.ascending in
      omega (arith, kept, freed, held, split),
)

pub returns-then-is_err-clause-rows : goal.returns-then-is_err-clause-rows
returns-then-is_err-clause-rows c =
    c.let_go.ensures.rows
    ∙ ap table_of (kept_on_err c.add.result c.add.new.self c.loop-at.self (sym c.is_err.ensures.value ∙ c.if-is_err.true) c.add.ensures.err)
    ∙ c.loop-at.invariant.rows

pub loop-at-preserved : goal.loop-at-preserved
loop-at-preserved c = record {
  rows = given_on_ok c.add.result (table_of c.add.new.self ≡ table_of c.loop-at.self)
      (sym c.is_err.ensures.value ∙ c.if-is_err.false) c.add.ensures.rows ∙ c.loop-at.invariant.rows;
  holds = λ writes key.
      let keys = c.args.keys.now in
      let i = c.loop-at.at in
      let t = c.index-keys-at.result in
      let adds = given_on_ok c.add.result (AddsHolders c.loop-at.self c.add.new.self c.as_slice.result.now c.by.result)
      (sym c.is_err.ensures.value ∙ c.if-is_err.false) c.add.ensures.holds in
      let added = adds writes key
      ∙ (λ j. cond (bytes_eq (c.as_slice.ensures j) key)
      (uses_held writes (hold_at c.loop-at.self key) + uses_held writes (c.by.ensures j))
      (uses_held writes (hold_at c.loop-at.self key))) in
      hold_step _ (uses_held writes (hold_at c.loop-at.self key)) (uses_by writes key (drop i keys))
      (uses_by writes key (drop (i + 1) keys))
      (uses_held writes (hold_by t.act)) _ (bytes_eq t.key key) added
      (uses_step writes key keys i t c.loop-at-test.true c.index-keys-at.is c.requires.ascending) (c.loop-at.invariant.holds writes key);
}
