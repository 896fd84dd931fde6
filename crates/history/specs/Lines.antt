-- What a trace says of the facts of its resource managers. A history is a trace with the newest step first.
use Rattle.std.specs.Prelude.{ℕ, Bool, ◌==◌, if◌then◌else◌, List, reverse, filter_map, find, Option, Some, None}
use Rattle.std.specs.List.{list_any}
use Rattle.std.specs.Option.{option_map_or, option_and_then}
use Rattle.xid.specs.Names.{XidParts, xid_eq}
use Rattle.xid.specs.Transactions.{TxParts, tx_eq, xid_at}
use Rattle.stable_record.specs.Facts.{fact_tx}
use Rattle.protocol.specs.Basics.{Fact}
use Rattle.safety.specs.Vocabulary.{Change, Step, View}
use Rattle.protocol.specs.Effects.{Config}
use Rattle.protocol.specs.Worlds.{Occurrence, opening, trace}

-- what happened, the newest first
abbrev pub history : Config → List Occurrence → List Step
history config events = reverse (trace config (opening config) events)

-- a change, where it is one at resource manager rm
abbrev pub change_here : ℕ → Change → Option Change
change_here rm change = if change.rm == rm then Some change else None

-- the change of a view at rm that a step says, if it says one
abbrev pub change_at : ℕ → Step → Option Change
change_at rm step = option_and_then (change_here rm) step.now

-- the changes of views at rm, in the order of the steps
abbrev pub changes_at : ℕ → List Step → List Change
changes_at rm steps = filter_map (change_at rm) steps

-- the view that a fact of a resource manager leads to
abbrev pub view_stored : Fact → View
view_stored (Fact.VotePrepared tx keys) = View.Prepared
view_stored (Fact.Committed tx) = View.Committed
view_stored (Fact.VoteAborted tx) = View.Aborted
view_stored (Fact.Aborted tx) = View.Aborted
view_stored fact = View.Working

-- what a fact of rm changes
abbrev pub change_stored : ℕ → Fact → Change
change_stored rm fact = record { rm = rm; tx = fact_tx fact; view = view_stored fact }

-- where rm stands in a transaction: as the last change of it says; working where there is none
abbrev pub view_back : ℕ → List Step → TxParts → View
view_back rm history tx = option_map_or (λ change. change.view) (find (λ change. tx_eq tx change.tx) (changes_at rm history)) View.Working

-- whether a name is spent at rm: some change there is of a transaction that has it there
abbrev pub is_spent_back : ℕ → List Step → XidParts → Bool
is_spent_back rm history x = list_any (xid_eq x) (filter_map (λ change. xid_at change.tx rm) (changes_at rm history))
