-- The rules of a resource manager: client calls by the table of `Branches`, and messages after Gray and Lamport, "Consensus on
-- Transaction Commit", ACM TODS 31(1), 2006, section 4.2.
use Rattle.std.specs.Prelude.{ℕ, Bool, true, false, not, ◌&&◌, if◌then◌else◌, List, [], ◌∷◌, ◌++◌, length, map, filter, filter_map, find}
use Rattle.std.specs.Prelude.{fold, Option, Some, None, is_some, is_none}
use Rattle.protocol.specs.Basics.{slice_cmp, list_any, option_map, option_map_or, nat_cmp, is_lt, bytes_eq, XidParts, xid_eq, xid_cmp}
use Rattle.protocol.specs.Basics.{TxParts, is_participant, xid_at, XaCode, Refusal, Vote, Kind, Prepare, P2a, Commit, Abort, Fact, Act}
use Rattle.protocol.specs.Basics.{Touched}
use Rattle.protocol.specs.Vocabulary.{BranchState, View, Action, Answer, Row, Start, End, EndFail, Rollback, Put, Del, Get, Code, Xids}
use Rattle.protocol.specs.Vocabulary.{Stands, Refused, Outgoing, Acceptors, Leaders}
use Rattle.protocol.specs.Branches.{BranchView, no_branch, is_write, hinders_use, hinders, call_answer, is_done}
use Rattle.protocol.specs.Facts.{Bound, vote_in, is_ended, view, is_prepared_view, is_open_view, is_spent, bound_branches}
use Rattle.protocol.specs.Effects.{Config, Effect, answer_only, no_effect, sends_only, stores, to, is_inside, view_standing}

-- ---- what is stored

-- what the rules ask of what a resource manager has stored: its vote on a transaction, whether an outcome is stored, where it stands,
-- whether a name is spent, and the prepared branches
pub record StoredVotes : Type 0 where
  pub vote : TxParts → Option Vote
  pub is_ended : TxParts → Bool
  pub view : TxParts → View
  pub is_spent : XidParts → Bool
  pub bound : List Bound

-- as the facts say
abbrev pub stored_votes : ℕ → List Fact → StoredVotes
stored_votes rm facts = record {
  vote = vote_in facts;
  is_ended = is_ended facts;
  view = view facts;
  is_spent = is_spent rm facts;
  bound = bound_branches facts;
}

-- ---- branches as they stand

-- a branch as it is listed: its touched keys stand ascending
pub record Branch : Type 0 where
  pub xid : XidParts
  pub state : BranchState
  pub keys : List Touched

-- the last of two acts on a key: to read it leaves what was written
abbrev pub last_act : (before act : Act) → Act
last_act before Act.Read = before
last_act before act = act

-- touched keys, ascending, with one more act
abbrev pub with_touched : List Touched → (key : List ℕ) → Act → List Touched
with_touched [] key act = record { key = key; act = act } ∷ []
with_touched (first ∷ keys) key act =
    if bytes_eq first.key key then record { key = key; act = last_act first.act act } ∷ keys
    else if is_lt (slice_cmp nat_cmp key first.key) then record { key = key; act = act } ∷ first ∷ keys
    else first ∷ with_touched keys key act

-- whether a key is among those touched
abbrev pub has_key : List ℕ → List Touched → Bool
has_key key keys = list_any (λ touched. bytes_eq touched.key key) keys

-- the last act on a key, which is to read it where it wasn't touched
abbrev pub act_on : List Touched → List ℕ → Act
act_on [] key = Act.Read
act_on (first ∷ keys) key = if bytes_eq first.key key then first.act else act_on keys key

-- the branches: the prepared ones, then the others
abbrev pub all_branches : ℕ → List Bound → List Branch → List Branch
all_branches rm bound branches =
    filter_map (λ one. option_map (λ x. record { xid = x; state = BranchState.Prepared; keys = one.keys }) (xid_at one.tx rm)) bound
    ++ branches

-- how a branch shows that is in a state and has touched keys
abbrev pub view_by : BranchState → List Touched → BranchView
view_by state keys = record { state = Some state; touched = λ key. has_key key keys; count = length keys; act = act_on keys }

-- how the branch of a name shows
abbrev pub view_named : List Branch → XidParts → BranchView
view_named [] x = no_branch
view_named (branch ∷ branches) x = if xid_eq branch.xid x then view_by branch.state branch.keys else view_named branches x

-- whether some branch of another name hinders, which is tested of what shows of it
abbrev pub is_hindered : (test : BranchView → Bool) → List Branch → XidParts → Bool
is_hindered test branches x = list_any (λ branch. not (xid_eq branch.xid x) && test (view_by branch.state branch.keys)) branches

-- ---- client calls

-- what a call makes of its branch
abbrev pub branch_after : Action → Branch → Branch
branch_after (Put key value) branch = record branch { keys = with_touched branch.keys key (Act.Put value) }
branch_after (Del key) branch = record branch { keys = with_touched branch.keys key Act.Del }
branch_after (Get key) branch = record branch { keys = with_touched branch.keys key Act.Read }
branch_after End branch = record branch { state = BranchState.Idle }
branch_after EndFail branch = record branch { state = BranchState.RollbackOnly }
branch_after action branch = branch

-- the branches without the one of a name
abbrev pub branches_without : List Branch → XidParts → List Branch
branches_without branches x = filter (λ branch. not (xid_eq branch.xid x)) branches

-- what a call that was done leaves of the branches
abbrev pub after_call : List Branch → XidParts → Action → List Branch
after_call branches x Start = branches ++ record { xid = x; state = BranchState.Active; keys = [] } ∷ []
after_call branches x Rollback = branches_without branches x
after_call branches x action = map (λ branch. if xid_eq branch.xid x then branch_after action branch else branch) branches

-- the answer: of a spent name no branch can be started; else the table of client calls has it
abbrev pub named_answer : (spent : Bool) → List Row → BranchView → (busy : Bool) → Action → Answer
named_answer true rows branch busy Start = Code XaCode.DupId
named_answer spent rows branch busy action = call_answer rows branch busy action

-- a client call
abbrev pub on_call : ℕ → StoredVotes → List Row → List Branch → XidParts → Action → Effect (List Branch)
on_call rm stored rows branches x action =
    let all = all_branches rm stored.bound branches in
    let answer = named_answer (stored.is_spent x) rows (view_named all x) (is_hindered (hinders action) all x) action in
    answer_only (if is_done action answer then after_call branches x action else branches) answer

-- a name among names in ascending order
abbrev pub insert_xid : XidParts → List XidParts → List XidParts
insert_xid x [] = x ∷ []
insert_xid x (y ∷ xs) = if is_lt (xid_cmp x y) then x ∷ y ∷ xs else y ∷ insert_xid x xs

-- the names of the prepared branches, ascending
abbrev pub on_recover : ℕ → StoredVotes → List Branch → Effect (List Branch)
on_recover rm stored branches =
    answer_only branches (Xids (fold (λ xs x. insert_xid x xs) [] (filter_map (λ bound. xid_at bound.tx rm) stored.bound)))

-- where this resource manager stands in a transaction that names it
abbrev pub on_view_call : Config → ℕ → StoredVotes → List Branch → TxParts → Effect (List Branch)
on_view_call config rm stored branches tx =
    let known = is_inside config tx && is_participant tx rm in
    answer_only branches (if known then Stands (view_standing (stored.view tx)) else Refused Refusal.BadTx)

-- ---- messages

-- a stored vote goes to all acceptors, in ballot 0
abbrev pub vote_sent : ℕ → TxParts → Option Vote → List Outgoing
vote_sent rm tx None = []
vote_sent rm tx (Some v) = to Acceptors (P2a tx rm 0 v) ∷ []

-- the touched keys of the idle branch of a name
abbrev pub idle_keys : List Branch → XidParts → Option (List Touched)
idle_keys branches x = option_map (λ branch. branch.keys) (find (λ branch. xid_eq branch.xid x && is_idle branch.state) branches)
  where
    is_idle : BranchState → Bool
    is_idle BranchState.Idle = true
    is_idle state = false

-- the first vote on a transaction that has the name x here: prepared with the keys of an idle branch whose name isn't spent,
-- else aborted; the branch isn't among the unprepared ones any more
abbrev pub first_vote : ℕ → List Branch → TxParts → XidParts → (spent : Bool) → (idle : Option (List Touched)) → Effect (List Branch)
first_vote rm branches tx x false (Some keys) =
    stores (branches_without branches x) (Fact.VotePrepared tx keys) (vote_sent rm tx (Some Vote.Prepared))
first_vote rm branches tx x spent idle =
    stores (branches_without branches x) (Fact.VoteAborted tx) (vote_sent rm tx (Some Vote.Aborted))

-- Prepare: a vote that is stored is sent again; where an outcome is stored, nothing; else the first vote
abbrev pub on_prepare : ℕ → StoredVotes → List Branch → TxParts → XidParts → Effect (List Branch)
on_prepare rm stored branches tx x =
    if is_some (stored.vote tx) then sends_only branches (vote_sent rm tx (stored.vote tx))
    else if stored.is_ended tx then no_effect branches
    else first_vote rm branches tx x (stored.is_spent x) (idle_keys branches x)

-- Commit, where this resource manager is prepared: it is stored, and the branch ends with its writes in the table
abbrev pub on_commit : StoredVotes → List Branch → TxParts → Effect (List Branch)
on_commit stored branches tx = if is_prepared_view (stored.view tx) then stores branches (Fact.Committed tx) [] else no_effect branches

-- Abort, where it is working or prepared: it is stored, and the branch ends without effect, unless it is bound to another
-- transaction
abbrev pub on_abort : StoredVotes → List Branch → TxParts → XidParts → Effect (List Branch)
on_abort stored branches tx x =
    if is_open_view (stored.view tx) then stores (branches_without branches x) (Fact.Aborted tx) [] else no_effect branches

-- what a resource manager does on a message, by the name x that its transaction has here, if it has one
abbrev pub on_manager_message : ℕ → StoredVotes → List Branch → Option XidParts → Kind → Effect (List Branch)
on_manager_message rm stored branches (Some x) (Prepare tx) = on_prepare rm stored branches tx x
on_manager_message rm stored branches (Some x) (Commit tx) = on_commit stored branches tx
on_manager_message rm stored branches (Some x) (Abort tx) = on_abort stored branches tx x
on_manager_message rm stored branches name message = no_effect branches

-- a timeout: a stored vote is sent again, and where this resource manager is prepared all leaders are asked
abbrev pub on_manager_timeout : Config → ℕ → StoredVotes → List Branch → TxParts → Effect (List Branch)
on_manager_timeout config rm stored branches tx =
    let asked = if is_prepared_view (stored.view tx) then to Leaders (Kind.Ask tx rm) ∷ [] else [] in
    if is_inside config tx
    then sends_only branches (vote_sent rm tx (stored.vote tx) ++ asked)
    else answer_only branches (Refused Refusal.BadTx)

-- neither a vote nor an outcome of the transaction is stored
abbrev pub is_new : StoredVotes → TxParts → Bool
is_new stored tx = is_none (stored.vote tx) && not (stored.is_ended tx)

-- whether the name that a transaction has here is spent
abbrev pub is_name_spent : ℕ → StoredVotes → TxParts → Bool
is_name_spent rm stored tx = option_map_or stored.is_spent (xid_at tx rm) false

-- whether a prepared branch hinders a use of these keys: it has touched one of them too, and not both have only read it
abbrev pub is_some_held : List Bound → List Touched → Bool
is_some_held bound keys =
    list_any (λ one. list_any (λ touched. hinders_use (is_write touched.act) touched.key (view_by BranchState.Prepared one.keys)) keys)
    bound

-- what the record of resource manager rm may hold, by what is stored before: a vote on a transaction that names it, of which neither a
-- vote nor an outcome is stored, prepared where name and keys are free; an outcome where it is still open, committed where it is
-- prepared
abbrev pub plays_at_manager : (rm : ℕ) → StoredVotes → Fact → Bool
plays_at_manager rm stored (Fact.VotePrepared tx keys) =
    is_participant tx rm && is_new stored tx && not (is_name_spent rm stored tx) && not (is_some_held stored.bound keys)
plays_at_manager rm stored (Fact.VoteAborted tx) = is_participant tx rm && is_new stored tx
plays_at_manager rm stored (Fact.Committed tx) = is_prepared_view (stored.view tx)
plays_at_manager rm stored (Fact.Aborted tx) = is_participant tx rm && is_open_view (stored.view tx)
plays_at_manager rm stored fact = false
