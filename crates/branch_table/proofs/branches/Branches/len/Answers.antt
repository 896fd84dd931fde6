use Rattle.std.proofs.Common.{subst, map}
use Rattle.std.specs.List.{IsDistinct}
use Rattle.xid.specs.Names.{xid_eq}
use Rattle.branch_table.proofs.Found.{distinct_names}
use Rattle.branch_table.proofs.branches.Branches.len.Goals as goal

pub returns-clause-distinct : goal.returns-clause-distinct
returns-clause-distinct c =
    subst (λ bs. IsDistinct xid_eq (map (λ branch. branch.xid) bs)) c.self.view_is
    (distinct_names c.self.inside.named.entries c.len.ensures.unique)
