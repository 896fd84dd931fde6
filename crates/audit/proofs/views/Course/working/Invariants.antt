use Rattle.std.proofs.Common.{◌≡◌, map, take}
use Rattle.xid.specs.Transactions.{participants}
use Rattle.safety.specs.Vocabulary.{View}
use Rattle.audit.proofs.views.Course.working.Given as goal

abbrev pub invariant-loop-place : goal.invariant-loop-place
invariant-loop-place l = l.views.items ≡ map (λ _. View.Working) (take l._place (participants l.tx))
