use Rattle.std.proofs.Common.{◌≡◌, ◌-◌, ap, ◌∙◌, arith, length, slice_index, ℕ}
use Rattle.std.specs.Prelude.{nat_lt}
use Rattle.std.proofs.lemmas.List.{length-map}
use Rattle.xid.specs.Transactions.{rm_numbers}
use Rattle.wire.proofs.Walks.{all_below}
use Rattle.wire.proofs.spelled_tx.SpelledTx.are_below.Goals as goal

pub returns-clause-value : goal.returns-clause-value
returns-clause-value c =
    let bs = c.args.self.now.branches in
    let len : length (rm_numbers bs) ≡ length bs = simp length-map in
    let last : c.count.result - 1 ≡ length (rm_numbers bs) - 1 = omega (arith, len, c.count.ensures.value) in
    let valid = c.count.ensures.valid in
    ap (λ (rm : ℕ). nat_lt rm c.args.managers) (c.rm.ensures.value ∙ ap (slice_index (rm_numbers bs)) last)
    ∙ all_below (rm_numbers bs) c.args.managers valid.branches.ascending (omega (arith, len, valid.branches.some))
