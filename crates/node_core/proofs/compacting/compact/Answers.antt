use Rattle.node_core.proofs.Shortening.{compacts_up}
use Rattle.node_core.proofs.compacting.compact.Goals as goal

pub returns : goal.returns
returns g c = λ config who own m s.
    compacts_up config who own m _ _ c.args.role.now c.keep.new.role c.in-Some.up c.recompact-done.result c.keep.result c.in-Some.is
    c.keep.ensures.role c.keep.ensures.done c.recompact-done.ensures s
