use Rattle.std.proofs.Common.{◌≡◌, ◌∷◌, [], ◌++◌, take}
use Rattle.std.specs.List.{flat_map}
use Rattle.xid.specs.Transactions.{branch_text}
use Rattle.xid.proofs.transaction_text.write_branches.Given as goal

abbrev pub invariant-loop-branch : goal.invariant-loop-branch
invariant-loop-branch l = l.text.items ≡ l.initial.text.items ++ flat_map (λ y. (44 ∷ []) ++ branch_text y) (take l.branch-index l.others)
