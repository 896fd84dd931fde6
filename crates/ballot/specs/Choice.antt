-- The value that phase 2a takes from the reports of a majority.
-- Gray and Lamport, "Consensus on Transaction Commit", ACM TODS 31(1), 2006, sections 4.1 and 4.2.
use Rattle.std.specs.Prelude.{◌≡◌, ℕ, ◌≤◌, Bool, true, false, not, ◌&&◌, ◌||◌, ◌==◌, if◌then◌else◌, List, Option, Some, None}
use Rattle.std.specs.Prelude.{is_some, filter_map}
use Rattle.std.specs.List.{list_any, list_all}
use Rattle.std.specs.Option.{option_map}
use Rattle.xid.specs.declared.transaction.Vote.{Vote}
use Rattle.xid.specs.declared.transaction.Vote.TheVariants.{Prepared, Aborted}
pub use Rattle.ballot.specs.Greatest.{IsIn, greatest}

-- the last ballot in which an acceptor accepted a value, and the value
abbrev pub Report : Type 0
Report = Option (ℕ × Vote)

-- the ballot of a report, where there is one
abbrev pub ballot_reported : Report → Option ℕ
ballot_reported report = option_map (λ last. last.0) report

-- the greatest ballot reported, 0 where there is none
abbrev pub top_of : List Report → ℕ
top_of reports = greatest (filter_map ballot_reported reports)

-- whether a vote is prepared
abbrev pub is_prepared : Vote → Bool
is_prepared Prepared = true
is_prepared Aborted = false

-- whether a report of this ballot, if it is one, says prepared
abbrev pub says_prepared : ℕ → Report → Bool
says_prepared ballot None = true
says_prepared ballot (Some last) = not (last.0 == ballot) || is_prepared last.1

-- prepared where some acceptor reports a value and all reports of the greatest ballot say prepared, else aborted
abbrev pub pick : List Report → Vote
pick reports = if list_any is_some reports && list_all (says_prepared (top_of reports)) reports then Prepared else Aborted

-- a ballot is the greatest that is reported
pub record IsTop (reports : List Report) (top : ℕ) : Type 0 where
  pub value : Vote
  pub reported : IsIn reports (Some (top, value))
  pub greatest : (last : ℕ × Vote) → IsIn reports (Some last) → last.0 ≤ top

-- all reports of the greatest ballot say prepared, and there is one
pub record IsPreparedTop (reports : List Report) : Type 0 where
  pub top : ℕ
  pub is_top : IsTop reports top
  pub prepared : (v : Vote) → IsIn reports (Some (top, v)) → v ≡ Prepared

-- the value of phase 2a as the paper has it; aborted, too, where reports of one ballot differ, which the paper rules out
abbrev pub IsPick : List Report → Vote → Type 0
IsPick reports Prepared = IsPreparedTop reports
IsPick reports Aborted = ¬ IsPreparedTop reports
