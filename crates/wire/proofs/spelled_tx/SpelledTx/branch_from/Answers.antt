use Rattle.std.proofs.Common.{[], subst}
use Rattle.xid.specs.Transactions.{BranchParts, IsTx}
use Rattle.wire.proofs.Walks.{took, some_next}
use Rattle.wire.proofs.spelled_tx.SpelledTx.branch_from.Goals as goal

abbrev blank : BranchParts
blank = record { rm = 0; bqual = [] }

pub first_branch-requires : goal.first_branch-requires
first_branch-requires c =
    some_next c.args.self.now.branches c.args.i c.args.rest.now
    (subst IsTx c.self.view_is c.self.invariant.valid).branches.each c.requires.within c.requires.left

pub returns-clause-rm : goal.returns-clause-rm
returns-clause-rm c =
    (took c.args.self.now.branches c.args.i c.args.rest.now blank _ _ _
    (subst IsTx c.self.view_is c.self.invariant.valid).branches.each c.requires.within
    c.requires.left c.first_branch.ensures).manager

pub returns-clause-bqual : goal.returns-clause-bqual
returns-clause-bqual c =
    (took c.args.self.now.branches c.args.i c.args.rest.now blank _ _ _
    (subst IsTx c.self.view_is c.self.invariant.valid).branches.each c.requires.within
    c.requires.left c.first_branch.ensures).name

pub returns-clause-after : goal.returns-clause-after
returns-clause-after c =
    (took c.args.self.now.branches c.args.i c.args.rest.now blank _ _ _
    (subst IsTx c.self.view_is c.self.invariant.valid).branches.each c.requires.within
    c.requires.left c.first_branch.ensures).after
