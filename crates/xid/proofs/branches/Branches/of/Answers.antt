use Rattle.xid.proofs.GivenBranches.{too_long}
use Rattle.xid.proofs.branches.Branches.of.Goals as goal

pub returns-then-bqual-gt-MAX_COMPONENT : goal.returns-then-bqual-gt-MAX_COMPONENT
returns-then-bqual-gt-MAX_COMPONENT c = λ bs is e. too_long c.args.parts.now bs c.loop-rm.rm-index _ c.loop-rm-test.true
    c.if-bqual-gt-MAX_COMPONENT.true is e
