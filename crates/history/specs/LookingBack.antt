-- Branches by looking back over a history: no list of branches is kept. Histories, and lists of actions, have the newest first.
use Rattle.std.specs.Prelude.{ℕ, Bool, true, false, not, ◌&&◌, ◌||◌, ◌==◌, if◌then◌else◌, List, [], ◌∷◌, length, map, filter_map}
use Rattle.std.specs.Prelude.{find, Option, Some, None}
use Rattle.std.specs.List.{list_any, take_while}
use Rattle.std.specs.Option.{option_map_or}
use Rattle.std.specs.Str.{bytes_eq}
use Rattle.xid.specs.Names.{XidParts, xid_eq}
use Rattle.xid.specs.Transactions.{TxParts, tx_eq, xid_at}
use Rattle.protocol.specs.Basics.{Act, Touched}
use Rattle.safety.specs.Vocabulary.{BranchState, Action, Start, Put, Del, End, EndFail, Rollback, R, Event, Ask, Call, Answer, Row, Step}
use Rattle.protocol.specs.Branches.{BranchView, hinders, key_of}
use Rattle.protocol.specs.Facts.{is_prepared_view}
use Rattle.protocol.specs.Managers.{named_answer}
use Rattle.branch_table.specs.OneCall.{view_in_state}
use Rattle.history.specs.Lines.{change_at, changes_at, view_back, is_spent_back}
use Rattle.history.specs.Calls.{call_done, is_restart}

-- ---- a branch, by the actions that were done in it

-- whether an action starts a branch
abbrev pub is_start : Action → Bool
is_start Start = true
is_start action = false

-- whether an action ends the work of a branch
abbrev pub is_end : Action → Bool
is_end End = true
is_end action = false

-- whether an action ends it as failed
abbrev pub is_end_fail : Action → Bool
is_end_fail EndFail = true
is_end_fail action = false

-- whether an action rolls a branch back
abbrev pub is_rollback : Action → Bool
is_rollback Rollback = true
is_rollback action = false

-- the state. Not started: non-existent. Started: active; then ended: idle; or ended as failed: rollback-only
abbrev pub state_by : List Action → Option BranchState
state_by actions =
    if list_any is_end_fail actions then Some BranchState.RollbackOnly
    else if list_any is_end actions then Some BranchState.Idle
    else if list_any is_start actions then Some BranchState.Active
    else None

-- each touched key, once for each action on it
abbrev pub touched_keys : List Action → List (List ℕ)
touched_keys actions = filter_map key_of actions

-- keys without repeats
abbrev pub distinct_keys : List (List ℕ) → List (List ℕ)
distinct_keys [] = []
distinct_keys (key ∷ keys) = if list_any (λ other. bytes_eq other key) keys then distinct_keys keys else key ∷ distinct_keys keys

-- what an action writes, and where
abbrev pub write_by : Action → Option Touched
write_by (Put key value) = Some (record { key = key; act = Act.Put value })
write_by (Del key) = Some (record { key = key; act = Act.Del })
write_by action = None

-- the writes
abbrev pub writes_in : List Action → List Touched
writes_in actions = filter_map write_by actions

-- the last act on a key, which is to read it where there is no write of it
abbrev pub last_act_on : List Touched → List ℕ → Act
last_act_on writes key = option_map_or (λ write. write.act) (find (λ write. bytes_eq write.key key) writes) Act.Read

-- how the branch shows
abbrev pub branch_by : List Action → BranchView
branch_by actions = record {
  state = state_by actions;
  touched = λ key. list_any (λ other. bytes_eq other key) (touched_keys actions);
  count = length (distinct_keys (touched_keys actions));
  act = last_act_on (writes_in actions);
}

-- ---- the actions of a branch of resource manager rm

-- the action that a step has done in branch x
abbrev pub done_at : ℕ → XidParts → Step → Option Action
done_at rm x step = call_done rm x step.event step.answer

-- whether a transaction names x at rm
abbrev pub is_name_at : ℕ → XidParts → TxParts → Bool
is_name_at rm x tx = option_map_or (xid_eq x) (xid_at tx rm) false

-- whether a step ends all that was done in x before: rm was restarted, a transaction that names x there has another view there, or x
-- was rolled back
abbrev pub ends_at : ℕ → XidParts → Step → Bool
ends_at rm x step =
    is_restart rm step.event step.answer || option_map_or (λ change. is_name_at rm x change.tx) (change_at rm step) false
    || option_map_or is_rollback (done_at rm x step) false

-- the actions that were done in x since then
abbrev pub actions_since : ℕ → XidParts → List Step → List Action
actions_since rm x history = filter_map (done_at rm x) (take_while (λ step. not (ends_at rm x step)) history)

-- whether a step says that rm is prepared in a transaction
abbrev pub is_vote_at : ℕ → TxParts → Step → Bool
is_vote_at rm tx step = option_map_or (λ change. tx_eq tx change.tx && is_prepared_view change.view) (change_at rm step) false

-- what happened before rm voted prepared on a transaction
abbrev pub before_vote : ℕ → TxParts → List Step → List Step
before_vote rm tx [] = []
before_vote rm tx (step ∷ history) = if is_vote_at rm tx step then history else before_vote rm tx history

-- the transaction in which x is prepared at rm
abbrev pub prepared_in : ℕ → List Step → XidParts → Option TxParts
prepared_in rm history x =
    find (λ tx. is_name_at rm x tx && is_prepared_view (view_back rm history tx)) (map (λ change. change.tx) (changes_at rm history))

-- the branch x of rm: a prepared one keeps what was done in it before the vote
abbrev pub branch_back : ℕ → List Step → XidParts → BranchView
branch_back rm history x =
    option_map_or (λ tx. view_in_state (branch_by (actions_since rm x (before_vote rm tx history))) BranchState.Prepared)
    (prepared_in rm history x) (branch_by (actions_since rm x history))

-- ---- answers

-- the name that an event calls at rm
abbrev pub called_name : ℕ → Event → Option XidParts
called_name rm (Ask (R other) (Call x action)) = if other == rm then Some x else None
called_name rm event = None

-- whether a branch of another name hinders an action in x
abbrev pub is_hindered_back : ℕ → List Step → XidParts → Action → Bool
is_hindered_back rm history x action =
    list_any (λ other. not (xid_eq other x) && hinders action (branch_back rm history other))
    (filter_map (λ step. called_name rm step.event) history)

-- the answer of a call on branch x of rm, where the table is these rows
abbrev pub answer_back : (rows : List Row) → ℕ → List Step → XidParts → Action → Answer
answer_back rows rm history x action =
    named_answer (is_spent_back rm history x) rows (branch_back rm history x) (is_hindered_back rm history x action) action
