use Rattle.std.proofs.Common.{◌≡◌, ◌++◌}
use Rattle.net_script.specs.Events.{event_words}
use Rattle.net_script.specs.Traces.{outcome_text}
use Rattle.cluster.proofs.Sent.{sent_up_to}
use Rattle.cluster_run.proofs.happenings.write_lines.Given as goal

-- the lines of so many datagrams joined the piece
abbrev pub invariant-loop-place : goal.invariant-loop-place
invariant-loop-place l =
    l.piece.items ≡ l.fn.piece.items ++ outcome_text (event_words l.event) l.answered.answer l.answered.now
    (sent_up_to l.before l.place l.cluster.network)
