-- What a trace tells, step by step, and whether its changes of views are steps of the machine TCommit (Gray and Lamport, "Consensus on
-- Transaction Commit", ACM TODS 31(1), 2006, section 2). A history is a trace with the newest step first.
use Rattle.std.specs.Prelude.{Bool, true, false, not, ◌&&◌, List, [], ◌∷◌, map, reverse}
use Rattle.std.specs.List.{list_all}
use Rattle.std.specs.Option.{option_map_or}
use Rattle.xid.specs.Transactions.{TxParts, participants, is_participant}
use Rattle.safety.specs.Vocabulary.{Change, Deliver, Step, View}
use Rattle.history.specs.Lines.{view_back}
use Rattle.history.specs.Writes.{is_committed_view}
use Rattle.net_script.specs.declared.values.Entry.{Entry}

-- an entry as a step; what a node took from a socket is a datagram with no number, and those of steps are numbered from 1
abbrev pub step_of : Entry → Step
step_of (Entry.Step step) = step
step_of (Entry.Serve node answer now sent) = record { event = Deliver 0; answer = answer; now = now; sent = sent; told = [] }

-- what happened, the newest first
abbrev pub history_of : List Entry → List Step
history_of entries = reverse (map step_of entries)

-- whether each step of a history passes a test that knows what was before it
abbrev pub each_step : (List Step → Step → Bool) → List Step → Bool
each_step test [] = true
each_step test (step ∷ before) = each_step test before && test before step

-- whether a view is prepared or committed
abbrev pub is_ready_view : View → Bool
is_ready_view View.Prepared = true
is_ready_view View.Committed = true
is_ready_view other = false

-- whether one participant of a transaction may go from a view to another, where these are the views of all its participants: it
-- prepares; it commits, all being prepared or committed; it aborts, none being committed
abbrev pub may_move : (all : List View) → View → View → Bool
may_move all View.Working View.Prepared = true
may_move all View.Prepared View.Committed = list_all is_ready_view all
may_move all View.Working View.Aborted = list_all (λ view. not (is_committed_view view)) all
may_move all View.Prepared View.Aborted = list_all (λ view. not (is_committed_view view)) all
may_move all from to = false

-- the views that the participants of a transaction have, in the order of its list
abbrev pub views_back : List Step → TxParts → List View
views_back history tx = map (λ rm. view_back rm history tx) (participants tx)

-- whether a change is one of a participant, and one step of TCommit
abbrev pub is_move : List Step → Change → Bool
is_move before change =
    is_participant change.tx change.rm && may_move (views_back before change.tx) (view_back change.rm before change.tx) change.view

-- whether the change that a step says, if it says one, is a step of TCommit from the views before it
abbrev pub moves_rightly : List Step → Step → Bool
moves_rightly before step = option_map_or (is_move before) step.now true
