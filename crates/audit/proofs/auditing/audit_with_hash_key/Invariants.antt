use Rattle.std.proofs.Common.{◌≡◌, true, take}
use Rattle.audit.specs.Following.{Follows}
use Rattle.audit.specs.ToldTables.{first_tables}
use Rattle.audit.specs.Told.{history_of, each_step}
use Rattle.audit.proofs.AuditLemmas.{is_right}
use Rattle.audit.proofs.auditing.audit_with_hash_key.Given as goal

abbrev pub invariant-loop-entry : goal.invariant-loop-entry
invariant-loop-entry l = record {
  follows : Follows (first_tables l.trace.tables) (history_of (take l.entry-index l.trace.entries)) l.ledger;
  right : each_step (is_right (first_tables l.trace.tables)) (history_of (take l.entry-index l.trace.entries)) ≡ true;
}
