-- The serial order of worked traces and runs, computed.
use Rattle.std.specs.Prelude.{◌≡◌, refl, true, false, ℕ, List, [], ◌∷◌, ◌++◌, map, reverse, Some, None}
use Rattle.xid.specs.Names.{XidParts}
use Rattle.xid.specs.Transactions.{TxParts}
use Rattle.protocol.specs.declared.states.View.TheVariants as views
use Rattle.safety.specs.Vocabulary.{View, Answer, Value, Done, Event, Deliver, Start, Get, End, Row, Step}
use Rattle.protocol.specs.Effects.{Config}
use Rattle.protocol.proofs.RowWords.{x, y, z, two, row, cluster, well, call, put, commit, deliveries, ok}
use Rattle.history.specs.Lines.{history}
use Rattle.history.specs.SerialOrder.{first_commits, committed_at, stands_first, voted_branch, is_conflict, serial_table, serial_read}
use Rattle.history.specs.Writes.{commit_order, table_back}

-- audit_in_order and audit_out_of_order: 1:70/0=61 reads what 1:71/0=61 writes, and either is committed first
abbrev p : XidParts
p = record { format = 1; gtrid = 0x70 ∷ []; bqual = 0x61 ∷ [] }

abbrev q : XidParts
q = record { format = 1; gtrid = 0x71 ∷ []; bqual = 0x61 ∷ [] }

abbrev reader : TxParts
reader = record { format = 1; gtrid = 0x70 ∷ []; branches = record { rm = 0; bqual = 0x61 ∷ [] } ∷ [] }

abbrev writer : TxParts
writer = record { format = 1; gtrid = 0x71 ∷ []; branches = record { rm = 0; bqual = 0x61 ∷ [] } ∷ [] }

abbrev key : List ℕ
key = 0x6b ∷ []

abbrev first : List Row
first = row 0x6b 0x30 ∷ []

-- an event and its answer
abbrev said : Event → Answer → Step
said event answer = record { event = event; answer = answer; now = None; sent = []; told = [] }

-- a delivery that changes a view at r0
abbrev moved : ℕ → TxParts → View → Step
moved n tx view = record { event = Deliver n; answer = Done; now = Some (record { rm = 0; tx = tx; view = view }); sent = []; told = [] }

-- up to the get, oldest first
abbrev begun : List Step
begun = said (call 0 p Start) ok ∷ []

abbrev voted : List Step
voted = begun ++ said (call 0 p (Get key)) (Value (0x30 ∷ [])) ∷ said (call 0 q Start) ok ∷ said (call 0 q (put 0x6b 0x31)) ok
    ∷ moved 1 reader views.Prepared ∷ moved 2 writer views.Prepared ∷ []

abbrev in_order : List Step
in_order = reverse (voted ++ moved 3 reader views.Committed ∷ moved 4 writer views.Committed ∷ [])

abbrev out_of_order : List Step
out_of_order = reverse (voted ++ moved 3 writer views.Committed ∷ moved 4 reader views.Committed ∷ [])

pub conflict : is_conflict (voted_branch 0 in_order reader) (voted_branch 0 in_order writer) key ≡ true
conflict = refl

pub in_order_firsts : first_commits in_order ≡ reader ∷ writer ∷ []
in_order_firsts = refl

pub in_order_read : serial_read first 0 in_order (reverse begun) reader p key ≡ Some (0x30 ∷ [])
in_order_read = refl

pub in_order_table : serial_table first 0 in_order (committed_at 0 in_order) ≡ row 0x6b 0x31 ∷ []
in_order_table = refl

-- here the serial run would have shown 31
pub out_of_order_firsts : first_commits out_of_order ≡ writer ∷ reader ∷ []
out_of_order_firsts = refl

pub out_of_order_read : serial_read first 0 out_of_order (reverse begun) reader p key ≡ Some (0x31 ∷ [])
out_of_order_read = refl

-- ---- two managers that commit in different orders

-- 1:75/0=61,1=62, and 1:75:62
abbrev other_two : TxParts
other_two = record {
  format = 1;
  gtrid = 0x75 ∷ [];
  branches = record { rm = 0; bqual = 0x61 ∷ [] } ∷ record { rm = 1; bqual = 0x62 ∷ [] } ∷ [];
}

abbrev w : XidParts
w = record { format = 1; gtrid = 0x75 ∷ []; bqual = 0x62 ∷ [] }

abbrev put_one : ℕ → XidParts → ℕ → ℕ → List Event
put_one rm name at value = call rm name Start ∷ call rm name (put at value) ∷ call rm name End ∷ []

-- both are decided; r0 hears of the first one first, r1 of the second
abbrev crossed : List Event
crossed = put_one 0 x 0x6b 0x31 ++ put_one 1 y 0x6d 0x32 ++ put_one 0 z 0x6c 0x33 ++ put_one 1 w 0x6e 0x34 ++ commit 0 two
    ∷ commit 0 other_two ∷ deliveries 1 12 ++ Deliver 13 ∷ Deliver 16 ∷ Deliver 14 ∷ Deliver 15 ∷ []

abbrev both : Config
both = cluster 1 1 2

abbrev after_both : List Step
after_both = history both (map well crossed)

pub orders : commit_order 0 after_both ∷ commit_order 1 after_both ∷ first_commits after_both ∷ []
    ≡ (two ∷ other_two ∷ []) ∷ (other_two ∷ two ∷ []) ∷ (two ∷ other_two ∷ []) ∷ []
orders = refl

pub one_table : serial_table [] 1 after_both (committed_at 1 after_both) ≡ row 0x6d 0x32 ∷ row 0x6e 0x34 ∷ []
one_table = refl

pub same_table : table_back [] 1 after_both ≡ row 0x6d 0x32 ∷ row 0x6e 0x34 ∷ []
same_table = refl

-- ---- what wrong rules lead to, and which law says so

-- a delivery that changes a view at a manager
abbrev moved_at : ℕ → TxParts → View → Step
moved_at rm tx view = record {
  event = Deliver 1;
  answer = Done;
  now = Some (record { rm = rm; tx = tx; view = view });
  sent = [];
  told = [];
}

-- 1:76/1=61, and its branch
abbrev alone : TxParts
alone = record { format = 1; gtrid = 0x76 ∷ []; branches = record { rm = 1; bqual = 0x61 ∷ [] } ∷ [] }

abbrev v : XidParts
v = record { format = 1; gtrid = 0x76 ∷ []; bqual = 0x61 ∷ [] }

-- a commit that doesn't wait for every vote: r0 commits before r1 has voted, and at r1 another commits in between
abbrev early_commit : List Step
early_commit = reverse (moved_at 0 two views.Prepared ∷ moved_at 0 two views.Committed ∷ said (call 1 v Start) ok
    ∷ said (call 1 v (put 0x6b 0x31)) ok ∷ moved_at 1 alone views.Prepared ∷ moved_at 1 alone views.Committed ∷ said (call 1 y Start) ok
    ∷ said (call 1 y (put 0x6b 0x32)) ok ∷ moved_at 1 two views.Prepared ∷ moved_at 1 two views.Committed ∷ [])

pub early_conflict : is_conflict (voted_branch 1 early_commit alone) (voted_branch 1 early_commit two) key ≡ true
early_conflict = refl

-- conflicts_are_ordered refuses it
pub early_here : stands_first alone two (commit_order 1 early_commit) ≡ true
early_here = refl

pub early_anywhere : stands_first alone two (first_commits early_commit) ≡ false
early_anywhere = refl

-- and so does tables_are_serial
pub early_table : table_back [] 1 early_commit ≡ row 0x6b 0x32 ∷ []
early_table = refl

pub early_serial : serial_table [] 1 early_commit (committed_at 1 early_commit) ≡ row 0x6b 0x31 ∷ []
early_serial = refl

-- a branch that goes on after its vote with 31: the vote's keys are in the table, and tables_are_serial wants what was accepted last
abbrev gone_on : List Step
gone_on = reverse (said (call 0 p Start) ok ∷ said (call 0 p (put 0x6b 0x31)) ok ∷ moved_at 0 reader views.Prepared
    ∷ said (call 0 p (put 0x6b 0x32)) ok ∷ moved_at 0 reader views.Committed ∷ [])

pub gone_on_serial : serial_table first 0 gone_on (committed_at 0 gone_on) ≡ row 0x6b 0x32 ∷ []
gone_on_serial = refl

-- keys that are free at the vote: both have read 30 and written the key, and the one that commits last has read what isn't there any more
abbrev freed : List Step
freed = reverse (said (call 0 p Start) ok ∷ said (call 0 p (Get key)) (Value (0x30 ∷ [])) ∷ said (call 0 p (put 0x6b 0x32)) ok
    ∷ moved_at 0 reader views.Prepared ∷ said (call 0 q Start) ok ∷ said (call 0 q (put 0x6b 0x31)) ok ∷ moved_at 0 writer views.Prepared
    ∷ moved_at 0 writer views.Committed ∷ moved_at 0 reader views.Committed ∷ [])

-- reads_are_serial refuses it
pub freed_read : serial_read first 0 freed (reverse begun) reader p key ≡ Some (0x31 ∷ [])
freed_read = refl
