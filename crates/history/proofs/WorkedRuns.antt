-- Worked runs, looked back at: what answers and tables are by the lines before them.
use Rattle.std.specs.Prelude.{◌≡◌, refl, true, false, ℕ, List, [], ◌∷◌, ◌++◌, map}
use Rattle.xid.specs.Names.{XidParts}
use Rattle.xid.specs.declared.codes.XaCode.TheVariants as codes
use Rattle.xid.specs.declared.refusals.Refusal.TheVariants.{Busy}
use Rattle.stable_record.specs.declared.fact.Act.TheVariants as acts
use Rattle.protocol.specs.declared.states.Standing.TheVariants as standings
use Rattle.safety.specs.Vocabulary.{L, R, Answer, Code, Value, Xids, Stands, Refused, Event, Ask, Deliver, Tear, Restart, Compact, Action}
use Rattle.safety.specs.Vocabulary.{Start, Get, End, Rollback, Step, Recover}
use Rattle.protocol.specs.Effects.{Config}
use Rattle.protocol.specs.Nodes.{first_rows}
use Rattle.protocol.proofs.RowWords.{x, y, z, two, one, other_one, row, cluster, cluster_with_row, well, call, put, recover, view, commit}
use Rattle.protocol.proofs.RowWords.{deliveries, ok, two_ended, one_ended}
use Rattle.history.specs.Lines.{history}
use Rattle.history.specs.Writes.{accepted_writes, commit_order, table_back}
use Rattle.history.specs.Answers.{answer_to}
use Rattle.history.specs.Outages.{is_out, is_outage, is_record_fault}
use Rattle.history.specs.Heard.{came_since}
use Rattle.xid.specs.declared.transaction.Vote.TheVariants as votes
use Rattle.wire.specs.declared.message.Kind.TheVariants.{P2b}

-- the history of events that all go well
abbrev after : Config → List Event → List Step
after config events = history config (map well events)

-- what looking back gives as the answer of each event at a manager that comes after others
abbrev looked : Config → (before events : List Event) → List Answer
looked config before [] = []
looked config before (Ask (R rm) request ∷ rest) =
    answer_to config rm (after config before) request ∷ looked config (before ++ Ask (R rm) request ∷ []) rest
looked config before (event ∷ rest) = looked config (before ++ event ∷ []) rest

-- busy_then_free: a held key is refused, and free after the abort
abbrev one_each : Config
one_each = cluster 1 1 1

abbrev busy : List Event
busy = call 0 x Start ∷ call 0 x (put 0x6b 0x31) ∷ call 0 z Start ∷ call 0 z (put 0x6b 0x32) ∷ call 0 z (Get (0x6b ∷ []))
    ∷ commit 0 one ∷ Deliver 1 ∷ call 0 z (put 0x6b 0x32) ∷ call 0 x Start ∷ []

pub busy_then_free : looked one_each [] busy ≡ ok ∷ ok ∷ ok ∷ Refused Busy ∷ Refused Busy ∷ ok ∷ Code codes.DupId ∷ []
busy_then_free = refl

pub busy_table : table_back [] 0 (after one_each busy) ≡ []
busy_table = refl

-- dropped_writes: a restart drops an unprepared branch and its writes
abbrev dropped : List Event
dropped = call 0 x Start ∷ call 0 x (put 0x6b 0x31) ∷ Restart (R 0) ∷ call 0 x (put 0x6b 0x32) ∷ call 0 x Start
    ∷ call 0 x (put 0x6c 0x33) ∷ call 0 x End ∷ []

pub dropped_answers : looked one_each [] dropped ≡ ok ∷ ok ∷ Code codes.Nota ∷ ok ∷ ok ∷ ok ∷ []
dropped_answers = refl

pub dropped_table : table_back [] 0 (after one_each (dropped ++ commit 0 one ∷ deliveries 1 4)) ≡ row 0x6c 0x33 ∷ []
dropped_table = refl

-- two_lists_one_gtrid: one name, two transactions; only one may bind the branch
abbrev both : List Event
both = call 0 x Start ∷ call 0 x End ∷ commit 0 one ∷ commit 0 two ∷ deliveries 1 3

pub still_bound : answer_to (cluster 1 1 2) 0 (after (cluster 1 1 2) both) Recover ≡ Xids (x ∷ [])
still_bound = refl

pub both_answers : looked (cluster 1 1 2) [] both ≡ ok ∷ ok ∷ []
both_answers = refl

abbrev both_ended : List Step
both_ended = after (cluster 1 1 2) (both ++ recover 0 ∷ Deliver 4 ∷ Deliver 7 ∷ Deliver 8 ∷ [])

pub bound_commits : commit_order 0 both_ended ≡ one ∷ []
bound_commits = refl

pub both_tables : table_back [] 0 both_ended ∷ table_back [] 1 both_ended ∷ [] ≡ [] ∷ [] ∷ []
both_tables = refl

-- torn_vote: the append of a vote is stopped, before its last byte and after it
abbrev torn : ℕ → List Event
torn n = one_ended ++ Tear (R 0) n ∷ Deliver 1 ∷ Restart (R 0) ∷ []

pub not_kept : looked one_each (torn 23) (recover 0 ∷ call 0 x (Get (0x6b ∷ [])) ∷ Deliver 1 ∷ call 0 x Start ∷ [])
    ≡ Xids [] ∷ Code codes.Nota ∷ Code codes.DupId ∷ []
not_kept = refl

pub all_kept : looked one_each (torn 24) (recover 0 ∷ call 0 x (Get (0x6b ∷ [])) ∷ call 0 x Rollback ∷ call 0 z Start
    ∷ call 0 z (put 0x6b 0x32) ∷ [])
    ≡ Xids (x ∷ []) ∷ Code codes.Proto ∷ Code codes.Proto ∷ ok ∷ Refused Busy ∷ []
all_kept = refl

pub torn_table : table_back [] 0 (after one_each (torn 24 ++ Deliver 1 ∷ [])) ≡ []
torn_table = refl

-- a manager is out from the torn append to the restart
abbrev stopped : ℕ → List Event
stopped n = one_ended ++ Tear (R 0) n ∷ Deliver 1 ∷ []

pub out_after_tear : is_out is_record_fault 0 (after one_each (stopped 0)) ≡ true
out_after_tear = refl

pub back_after_restart : is_out is_outage 0 (after one_each (torn 0)) ≡ false
back_after_restart = refl

pub others_stay : is_out is_outage 1 (after (cluster 1 1 2) (stopped 24)) ≡ false
others_stay = refl

-- what came to the leader: the acceptor told that it accepted the vote; after a restart nothing
pub came_to_leader : came_since 0 (after one_each (one_ended ++ deliveries 1 3)) ≡ P2b one 0 0 votes.Prepared 0 ∷ []
came_to_leader = refl

pub came_no_more : came_since 0 (after one_each (one_ended ++ deliveries 1 3 ++ Restart (L 0) ∷ [])) ≡ []
came_no_more = refl

-- shared_reads_prepared: branches that only read one key are prepared beside each other
abbrev with_row : Config
with_row = cluster_with_row 1 1 1

abbrev read : Action
read = Get (0x6b ∷ [])

-- 1:76:61
abbrev later : XidParts
later = record { format = 1; gtrid = 0x76 ∷ []; bqual = 0x61 ∷ [] }

abbrev shared : List Event
shared = call 0 x Start ∷ call 0 x read ∷ call 0 x End ∷ call 0 z Start ∷ call 0 z read ∷ call 0 z End
    ∷ commit 0 one ∷ commit 0 other_one ∷ Deliver 1 ∷ Deliver 2 ∷ Restart (R 0) ∷ recover 0 ∷ call 0 later Start ∷ call 0 later read
    ∷ call 0 later (put 0x6b 0x31) ∷ []

abbrev thirty : Answer
thirty = Value (0x30 ∷ [])

pub shared_reads : looked with_row [] shared ≡ ok ∷ thirty ∷ ok ∷ ok ∷ thirty ∷ ok ∷ Xids (x ∷ z ∷ []) ∷ ok ∷ thirty ∷ Refused Busy ∷ []
shared_reads = refl

pub shared_table : table_back (first_rows with_row 0) 0 (after with_row shared) ≡ row 0x6b 0x30 ∷ []
shared_table = refl

-- compacted: after a whole commit a node replaces its record by a shorter one, and restarts as it was
abbrev three : Config
three = cluster_with_row 3 1 2

abbrev compacted : List Event
compacted = two_ended ++ deliveries 1 16 ++ Compact (R 0) ∷ Restart (R 0) ∷ []

pub compacted_answers : looked three compacted (view 0 two ∷ call 0 x Start ∷ []) ≡ Stands standings.Committed ∷ Code codes.DupId ∷ []
compacted_answers = refl

pub compacted_order : commit_order 0 (after three compacted) ≡ two ∷ []
compacted_order = refl

pub compacted_writes : accepted_writes 1 y (after three compacted) ≡ record { key = 0x6d ∷ []; act = acts.Put (0x32 ∷ []) } ∷ []
compacted_writes = refl

pub compacted_tables : table_back (first_rows three 0) 0 (after three compacted)
    ∷ table_back (first_rows three 1) 1 (after three compacted) ∷ []
    ≡ (row 0x6b 0x31 ∷ []) ∷ (row 0x6d 0x32 ∷ []) ∷ []
compacted_tables = refl
