-- Of some reports of an acceptor the first of an instance counts.
-- Needed by `InstanceCourse::hear_reports`.
use Rattle.std.proofs.Common.{◌≡◌, ◌∙◌, ℕ, Bool, true, false, not, ◌&&◌, ◌==◌, List, [], ◌∷◌, Some, None, sym, ap, refl}
use Rattle.std.specs.Prelude.{if◌then◌else◌}
use Rattle.wire.specs.declared.items.InstanceReport.{InstanceReport}
use Rattle.ballot.specs.Choice.{Report}
use Rattle.ballot.specs.Majority.{has}
use Rattle.leader.specs.declared.instance.InstanceCourse.{InstanceCourse}
use Rattle.leader.specs.Choices.{merged}
use Rattle.leader.specs.Courses.{joined, with_said, first_report, with_report, with_reports}
use Rattle.leader.proofs.Basics.{and_no}

-- a report more of an acceptor that was heard changes nothing
heard_before : (a : ℕ) (item : InstanceReport) (row : InstanceCourse) → has row.reporters a ≡ true → with_report a item row ≡ row
heard_before a item row heard =
    ap (λ t. if t then record row { reporters = joined a row.reporters; best = merged item.report row.best } else row)
    (ap (λ t. (item.instance == row.instance) && not t) heard ∙ and_no (item.instance == row.instance))

all_before : (a : ℕ) (items : List InstanceReport) (row : InstanceCourse) → has row.reporters a ≡ true → with_reports a items row ≡ row
all_before a [] row heard = refl
all_before a (item ∷ items) row heard = ap (with_reports a items) (heard_before a item row heard) ∙ all_before a items row heard

some_report : (x y : Report) → Some x ≡ Some y → x ≡ y
some_report x y e = cc

-- by whether a report is of this instance
abbrev reported_if : ℕ → InstanceReport → InstanceCourse → Bool → InstanceCourse
reported_if a item row t =
    if t && not (has row.reporters a) then record row { reporters = joined a row.reporters; best = merged item.report row.best } else row

-- the first report of an instance is the one that is heard
pub heard_first : (a : ℕ) (items : List InstanceReport) (row new : InstanceCourse) (report : Report)
    → first_report row.instance items ≡ Some report → new ≡ with_said a report row → has new.reporters a ≡ true
    → new ≡ with_reports a items row
heard_first a [] row new report e is heard = absurd (cc)
heard_first a (item ∷ items) row new report e is heard =
    by (item.instance == row.instance) e (λ f. heard_first a items row new report f is heard)
  where
    by : (t : Bool) → (if t then Some item.report else first_report row.instance items) ≡ Some report
        → (first_report row.instance items ≡ Some report → new ≡ with_reports a items row)
        → new ≡ with_reports a items (reported_if a item row t)
    by true f rest =
        sym (all_before a items new heard)
        ∙ ap (with_reports a items) (is ∙ ap (λ r. with_said a r row) (sym (some_report item.report report f)))
    by false f rest = rest f

-- where there is none, the instance stays
pub not_heard : (a : ℕ) (items : List InstanceReport) (row : InstanceCourse) → first_report row.instance items ≡ None
    → row ≡ with_reports a items row
not_heard a [] row none = refl
not_heard a (item ∷ items) row none = by (item.instance == row.instance) none (not_heard a items row)
  where
    by : (t : Bool) → (if t then Some item.report else first_report row.instance items) ≡ None
        → (first_report row.instance items ≡ None → row ≡ with_reports a items row)
        → row ≡ with_reports a items (reported_if a item row t)
    by true f rest = absurd (cc)
    by false f rest = rest f
