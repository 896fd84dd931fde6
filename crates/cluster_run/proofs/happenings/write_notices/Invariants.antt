use Rattle.std.proofs.Common.{◌≡◌, ◌++◌}
use Rattle.std.specs.List.{flat_map}
use Rattle.cluster.proofs.Noticed.{told_up_to}
use Rattle.net_script.specs.Traces.{notice_line}
use Rattle.cluster_run.proofs.happenings.write_notices.Given as goal

-- the lines of so many notices joined the piece
abbrev pub invariant-loop-place : goal.invariant-loop-place
invariant-loop-place l = l.piece.items ≡ l.fn.piece.items ++ flat_map notice_line (told_up_to l.before l.place l.cluster.notices)
