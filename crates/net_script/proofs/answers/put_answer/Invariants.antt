use Rattle.std.proofs.Common.{◌≡◌, ◌++◌, take, map}
use Rattle.xid.specs.Text.{xid_text}
use Rattle.net_script.specs.Traces.{spaced_words}
use Rattle.net_script.proofs.answers.put_answer.Given as goal

abbrev pub invariant-loop-xid : goal.invariant-loop-xid
invariant-loop-xid l = l.out.items ≡ l.initial.out.items ++ spaced_words (map xid_text (take l.xid-index l.xid-items))
