-- What one line of a script says, and its one list of words.
use Rattle.std.specs.Prelude.{◌≢◌, ℕ, ◌<◌, ◌^◌, Bool, true, false, ◌==◌, ◌&&◌, ◌||◌, nat_le, List, [], ◌∷◌, map, codes, decimal}
use Rattle.std.specs.List.{All, AllPairs}
use Rattle.xid.specs.Limits.{most_leaders, most_managers}
use Rattle.stable_record.specs.Facts.{IsKey, IsValue}
use Rattle.net_script.specs.Basics.{R, Row, Sizes, Table, Command, Do, Flow, Item}
use Rattle.net_script.specs.declared.items.Item.TheVariants.{Cluster, Contents, Then}
use Rattle.net_script.specs.Lines.{node_text, row_text}
use Rattle.net_script.specs.Events.{IsEvent, event_words}

-- ---- what is in range

-- the sizes that a cluster's line may say: any numbers of 32 bits
pub record IsSizes (s : Sizes) : Type 0 where
  pub acceptors : s.acceptors < 2 ^ 32
  pub leaders : s.leaders < 2 ^ 32
  pub rms : s.rms < 2 ^ 32

-- whether a cluster may have so many nodes: 1, 3, 5 or 7 acceptors, and no more leaders and resource managers than there may be
abbrev pub is_in_limits : Sizes → Bool
is_in_limits s =
    (s.acceptors == 1 || s.acceptors == 3 || s.acceptors == 5 || s.acceptors == 7)
    && (nat_le 1 s.leaders && nat_le s.leaders most_leaders) && (nat_le 1 s.rms && nat_le s.rms most_managers)

-- a row of a table keeps the limits of keys and values
pub record IsRow (row : Row) : Type 0 where
  pub key : IsKey row.key
  pub value : IsValue row.value

-- rows of distinct keys
pub record AreRows (rows : List Row) : Type 0 where
  pub each : All IsRow rows
  pub keys : AllPairs (λ a b. a.key ≢ b.key) rows

-- the first rows of a resource manager that a table's line may say
pub record IsContents (t : Table) : Type 0 where
  pub rm : t.rm < 256
  pub rows : AreRows t.rows

-- what a script may ask for
abbrev pub IsCommand : Command → Type 0
IsCommand (Do event) = IsEvent event
IsCommand (Flow most) = most < 2 ^ 32

-- what a line may say
abbrev pub IsItem : Item → Type 0
IsItem (Cluster sizes) = IsSizes sizes
IsItem (Contents table) = IsContents table
IsItem (Then command) = IsCommand command

-- ---- the words

-- the last word of a bundled cluster's line
abbrev pub bundled_words : Bool → List (List ℕ)
bundled_words false = []
bundled_words true = codes "bundled" ∷ []

-- the words of the cluster's line after its first
abbrev pub sizes_words : Sizes → List (List ℕ)
sizes_words s =
    codes "acceptors" ∷ decimal s.acceptors ∷ codes "leaders" ∷ decimal s.leaders ∷ codes "rms" ∷ decimal s.rms ∷ bundled_words s.bundled

-- the words of rows, one for each
abbrev pub rows_words : List Row → List (List ℕ)
rows_words rows = map row_text rows

-- the words of a table's line after its first
abbrev pub contents_words : Table → List (List ℕ)
contents_words t = node_text (R t.rm) ∷ rows_words t.rows

-- the words of a command
abbrev pub command_words : Command → List (List ℕ)
command_words (Do event) = event_words event
command_words (Flow most) = codes "flow" ∷ decimal most ∷ []

-- the words of a line
abbrev pub item_words : Item → List (List ℕ)
item_words (Cluster sizes) = codes "cluster" ∷ sizes_words sizes
item_words (Contents table) = codes "table" ∷ contents_words table
item_words (Then command) = command_words command
