use Rattle.std.proofs.Common.{arith}
use Rattle.wire.proofs.Walks.{stands, read_there}
use Rattle.wire.proofs.spelled_tx.first_branch.Goals as goal

pub bounds-bytes-2 : goal.bounds-bytes-2
bounds-bytes-2 c = omega (arith, (stands c.args.bytes.now c.requires).long)

pub read_u16-requires : goal.read_u16-requires
read_u16-requires c = omega (arith, (stands c.args.bytes.now c.requires).long)

pub slice_bounds-result-end : goal.slice_bounds-result-end
slice_bounds-result-end c = (stands c.args.bytes.now c.requires).whole

pub slice_bounds-result-count-2 : goal.slice_bounds-result-count-2
slice_bounds-result-count-2 c = (stands c.args.bytes.now c.requires).whole

pub slice_bounds-result-start-2 : goal.slice_bounds-result-start-2
slice_bounds-result-start-2 c = (stands c.args.bytes.now c.requires).whole

pub returns : goal.returns
returns c = read_there c.args.bytes.now c.read_u16.result c.requires c.read_u16.ensures
