-- What a judge holds after each line of a trace.
use Rattle.std.specs.Prelude.{◌≡◌, ◌⊎◌, ℕ, ◌+◌, ◌<◌, ◌≤◌, Bool, true, false, List, length, Option, Some, None}
use Rattle.net_script.specs.TraceReaders.{lines_so_far}
use Rattle.net_script.specs.declared.values.Trace.{Trace}
use Rattle.audit.specs.Hearing.{HasHeard}
use Rattle.audit.specs.FloorBooks.{HasHeardFloors, are_above}
use Rattle.audit.specs.Faults.{HasNoFault, IsFirstFault}
use Rattle.audit.specs.declared.faults.Fault.{Fault}
use Rattle.audit.specs.declared.judge.Judge.{Judge}

-- how many of the last rows a trace so far has
abbrev pub rows_so_far : Option Trace → ℕ
rows_so_far None = 0
rows_so_far (Some t) = length t.finals

-- a fault, or a new one, where there is none and what is asked isn't kept
abbrev pub or_fault : Option Fault → (kept : Bool) → Fault → Option Fault
or_fault (Some fault) kept new = Some fault
or_fault None true new = None
or_fault None false new = Some new

-- a judge holds what so many first lines of some bytes come to, which tell this trace so far: the first at which a change or a get isn't
-- right or something is below a floor, or that all questions are kept before the last rows
pub record HasNoted (bytes : List ℕ) (judge : Judge) (lines : ℕ) (trace : Option Trace) : Type 0 where
  pub heard : HasHeard judge.auditor trace
  pub counted : length (lines_so_far trace) ≡ lines
  pub floors : HasHeardFloors judge.floors trace
  pub fault : (fault : Fault) → judge.fault ≡ Some fault
      → IsFirstFault bytes fault × ((judge.auditor.is_right ≡ false) ⊎ (are_above trace ≡ false))
  pub right : judge.fault ≡ None → judge.auditor.is_right ≡ true
  pub above : judge.fault ≡ None → are_above trace ≡ true
  pub none : judge.fault ≡ None → (count : ℕ) → 0 < count → count + rows_so_far trace ≤ lines → HasNoFault bytes count
