-- The transactions that a resource manager has prepared and that aren't ended.
use Rattle.std.specs.Prelude.{if◌then◌else◌, List, filter, Option, Some, None}
use Rattle.xid.specs.Transactions.{TxParts}
use Rattle.stable_record.specs.declared.fact.FactKind.{FactKind as Fact}
use Rattle.protocol.specs.Facts.{view, is_prepared_view}
use Rattle.resource_manager.specs.Courses.{begun_in, course_in, view_of}
use Rattle.resource_manager.specs.Managers.{ManagerParts}

-- the transactions that facts leave prepared, in the order of their first facts
abbrev pub open_in : List Fact → List TxParts
open_in facts = filter (λ tx. is_prepared_view (view facts tx)) (begun_in facts)

-- a transaction, if a resource manager is prepared in it
abbrev pub open_at : ManagerParts → TxParts → Option TxParts
open_at m tx = if is_prepared_view (view_of (course_in m.courses tx)) then Some tx else None
