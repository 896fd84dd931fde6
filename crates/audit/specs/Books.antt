-- What the parts of an audit hold, question by question.
use Rattle.std.specs.Prelude.{◌≡◌, ℕ, ◌+◌, ◌<◌, ◌≤◌, Bool, true, false, ◌&&◌, ◌==◌, if◌then◌else◌, List, [], map, length, slice_set}
use Rattle.std.specs.Prelude.{filter, position, take, Option, Some, None}
use Rattle.std.specs.List.{slice_index_or, position_or_len, list_all}
use Rattle.std.specs.Map.{lookup}
use Rattle.std.specs.Cmp.Lexicographic.{slice_cmp}
use Rattle.std.specs.Option.{IfSome, option_eq, option_map_or}
use Rattle.std.specs.Ordering.{nat_cmp, is_eq}
use Rattle.std.specs.Str.{bytes_eq}
use Rattle.xid.specs.Names.{XidParts, xid_eq}
use Rattle.protocol.specs.Basics.{Act, Touched}
use Rattle.safety.specs.Vocabulary.{Answer, Action, Change, Row, View}
use Rattle.history.specs.Writes.{is_committed_view}
use Rattle.audit.specs.Told.{may_move}
use Rattle.audit.specs.Stretches.{StretchParts, Stretches, stretch_after, own_act, writes_at}
use Rattle.audit.specs.declared.branches.Name.{Name}
use Rattle.transactions.specs.Seen.{place_in, seen_with}
use Rattle.xid.specs.Transactions.{is_at, TxParts, tx_eq, participants}
use Rattle.protocol.specs.Tables.{with_writes}
use Rattle.audit.specs.Consistent.{serial_table}

-- the rows of entries by key
abbrev pub rows_in : {K : Type 0} → (K → List ℕ) → List (K × List ℕ) → List Row
rows_in bytes entries = map (λ entry. record { key = bytes entry.0; value = entry.1 }) entries

-- the act of the write of a place; to read, where there is none
abbrev pub act_at : List Touched → Option ℕ → Act
act_at writes None = Act.Read
act_at writes (Some place) = (slice_index_or writes place (record { key = []; act = Act.Read })).act

-- the places of the last writes to keys
pub record ArePlaces {K : Type 0} (bytes : K → List ℕ) (places : List (K × ℕ)) (writes : List Touched) : Type 0 where
  pub within : (key : List ℕ) → IfSome (lookup (λ k. is_eq (slice_cmp nat_cmp key (bytes k))) places) (λ place. place < length writes)
  pub last : (key : List ℕ) → act_at writes (lookup (λ k. is_eq (slice_cmp nat_cmp key (bytes k))) places) ≡ own_act writes key

-- an act; to read, where there is none
abbrev pub act_or_read : Option Act → Act
act_or_read None = Act.Read
act_or_read (Some act) = act

-- whether two values that may be missing are the same
abbrev pub agrees : Option (List ℕ) → Option (List ℕ) → Bool
agrees found other = option_eq bytes_eq found other

-- the rows of a resource manager
abbrev pub rows_of : List (List Row) → ℕ → List Row
rows_of tables rm = slice_index_or tables rm []

-- whether two names of branches are the same
abbrev pub name_eq : Name → Name → Bool
name_eq a b = (a.rm == b.rm) && xid_eq a.xid b.xid

-- what was done in branch x of resource manager rm
abbrev pub stretch_of : List (Name × StretchParts) → ℕ → XidParts → Option StretchParts
stretch_of branches rm x = lookup (name_eq (record { rm = rm; xid = x })) branches

-- branch x of rm is this one now, and each other is the one that it was
abbrev pub Sets : (old new : List (Name × StretchParts)) → ℕ → XidParts → Option StretchParts → Type 0
Sets old new rm x now =
    (r : ℕ) (y : XidParts) → stretch_of new r y ≡ (if (rm == r) && xid_eq x y then now else stretch_of old r y)

-- the views of the participants of a transaction before any of them changes
abbrev pub all_working : TxParts → List View
all_working tx = map (λ _. View.Working) (participants tx)

-- transactions, and for each the views of its participants
pub record ViewsParts : Type 0 where
  pub transactions : List TxParts
  pub views : List (List View)

-- the views of the participants of a transaction: all are working where none changed
abbrev pub views_in : ViewsParts → TxParts → List View
views_in parts tx = slice_index_or parts.views (place_in parts.transactions tx) (all_working tx)

-- a number is that of a transaction which was noted
pub record IsNumberOf (parts : ViewsParts) (tx : TxParts) (number : ℕ) : Type 0 where
  pub place : number ≡ place_in parts.transactions tx
  pub seen : number < length parts.transactions
  pub kept : number < length parts.views

-- the view of a participant that has this place
abbrev pub view_in : ViewsParts → TxParts → ℕ → View
view_in parts tx place = slice_index_or (views_in parts tx) place View.Working

-- the place of a resource manager among the participants of a transaction
abbrev pub place_at : ℕ → TxParts → ℕ
place_at rm tx = position_or_len (is_at rm) tx.branches

-- whether a change is one of a participant, and one step of TCommit
abbrev pub is_move_from : ViewsParts → Change → Bool
is_move_from parts change =
    option_map_or (λ place. may_move (views_in parts change.tx) (view_in parts change.tx place) change.view)
    (position (is_at change.rm) change.tx.branches) false

-- the views of the participants of a transaction after a change
abbrev pub views_moved : ViewsParts → Change → TxParts → List View
views_moved parts change tx =
    if tx_eq tx change.tx then slice_set (views_in parts tx) (place_at change.rm tx) change.view else views_in parts tx

-- whether a resource manager has committed a transaction
abbrev pub has_committed : ViewsParts → ℕ → TxParts → Bool
has_committed parts rm tx = is_committed_view (view_in parts tx (place_at rm tx))

-- whether all participants of a transaction have committed it
abbrev pub has_committed_everywhere : ViewsParts → TxParts → Bool
has_committed_everywhere parts tx = list_all (λ rm. has_committed parts rm tx) (participants tx)

-- each branch after a call on branch x of rm that was answered so
abbrev pub Called : (old new : List (Name × StretchParts)) → ℕ → XidParts → Action → Answer → Type 0
Called old new rm x action answer = Sets old new rm x (stretch_after action answer (stretch_of old rm x))

-- the rows of each resource manager after a change
abbrev pub rows_changed : List (List Row) → Stretches → Change → ℕ → List Row
rows_changed tables done change rm =
    if is_committed_view change.view && (change.rm == rm) then with_writes (rows_of tables rm) (writes_at done rm change.tx)
    else rows_of tables rm

-- the order of first commits after a change
abbrev pub firsts_changed : List TxParts → Change → List TxParts
firsts_changed firsts change = if is_committed_view change.view then seen_with firsts change.tx else firsts

-- a test holds of so many last rows, from the first on, and not of one more
pub record Reaches (test : List (List Row) → Bool) (finals : List (List Row)) (count : ℕ) : Type 0 where
  pub within : count ≤ length finals
  pub kept : 0 < count → test (take count finals) ≡ true
  pub next : count < length finals → test (take (count + 1) finals) ≡ false

-- the tables after an order of transactions, each by those that its resource manager has committed
abbrev pub IsReplayed : (first : ℕ → List Row) → Stretches → (committed : ℕ → TxParts → Bool) → List TxParts → List (List Row) → Type 0
IsReplayed first done committed order tables = (rm : ℕ) → rows_of tables rm ≡ serial_table first done rm (filter (committed rm) order)
