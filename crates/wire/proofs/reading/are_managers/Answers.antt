use Rattle.std.proofs.Common.{◌≡◌, ◌-◌, ap, ◌∙◌, arith, length, slice_index, ℕ}
use Rattle.std.specs.Prelude.{nat_lt}
use Rattle.std.proofs.lemmas.List.{length-map}
use Rattle.std.proofs.lemmas.List.Folds.{list_all-map}
use Rattle.xid.specs.Transactions.{BranchParts, rm_numbers}
use Rattle.wire.specs.Versions.{version_of}
use Rattle.wire.proofs.Walks.{all_below}
use Rattle.wire.proofs.reading.are_managers.Goals as goal

pub returns : goal.returns
returns c =
    let bs = c.args.tx.now.branches in
    let most = (version_of c.args.version).most_managers in
    let len : length (rm_numbers bs) ≡ length bs = simp length-map in
    let last : c.count.result - 1 ≡ length (rm_numbers bs) - 1 = omega (arith, len, c.count.ensures.value) in
    let valid = c.count.ensures.valid in
    ap (nat_lt c.rm.result) c.most_managers.ensures
    ∙ ap (λ (rm : ℕ). nat_lt rm most) (c.rm.ensures.value ∙ ap (slice_index (rm_numbers bs)) last)
    ∙ all_below (rm_numbers bs) most valid.branches.ascending (omega (arith, len, valid.branches.some))
    ∙ list_all-map (λ rm. nat_lt rm most) (λ (b : BranchParts). b.rm) bs
