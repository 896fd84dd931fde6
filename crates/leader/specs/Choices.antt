-- What reports come to: the greatest ballot of them, and the value that it bears out.
use Rattle.std.specs.Prelude.{nat_lt, if◌then◌else◌, List, [], ◌∷◌, Some, None}
use Rattle.xid.specs.declared.transaction.Vote.{Vote}
use Rattle.xid.specs.declared.transaction.Vote.TheVariants.{Prepared, Aborted}
use Rattle.ballot.specs.Choice.{Report}

-- prepared where both are
abbrev pub both : Vote → Vote → Vote
both Prepared v = v
both Aborted v = Aborted

-- of two reports the one of the greater ballot; of one ballot, prepared where both are
abbrev pub merged : (new before : Report) → Report
merged None before = before
merged (Some new) None = Some new
merged (Some new) (Some last) =
    if nat_lt last.0 new.0 then Some new else if nat_lt new.0 last.0 then Some last else Some (last.0, both new.1 last.1)

-- the greatest ballot of some reports, with prepared where all of that ballot say so
abbrev pub best_of : List Report → Report
best_of [] = None
best_of (report ∷ reports) = merged report (best_of reports)

-- the value to propose
abbrev pub vote_of : Report → Vote
vote_of None = Aborted
vote_of (Some last) = last.1
