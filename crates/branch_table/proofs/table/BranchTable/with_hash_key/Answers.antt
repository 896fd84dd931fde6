use Rattle.branch_table.proofs.TableKept.{kept_none}
use Rattle.branch_table.proofs.table.BranchTable.with_hash_key.Goals as goal

pub invariant_of-result : goal.invariant_of-result
invariant_of-result c = kept_none c.in_ok-places.places c.new-2.result c.new-2.ensures c.in_ok-places.ensures.free
