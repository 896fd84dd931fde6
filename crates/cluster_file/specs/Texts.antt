-- The text whose digest names a cluster, and the text beside a record.
use Rattle.std.specs.Prelude.{ℕ, List, [], ◌∷◌, ◌++◌, length, Bool, true, false, decimal}
use Rattle.std.specs.Int.{w64, to_be_bytes}
use Rattle.std.specs.List.{flat_map}
use Rattle.hex.specs.Hex.{encode_lower}
use Rattle.protocol.specs.declared.nodes.NodeId.{NodeId}
use Rattle.protocol.specs.declared.nodes.NodeId.TheVariants.{A, L, R}
use Rattle.protocol.specs.declared.rows.Row.{Row}
use Rattle.protocol.specs.Effects.{Config}

-- bytes, after how many they are
abbrev pub counted_text : List ℕ → List ℕ
counted_text bytes = to_be_bytes w64 (length bytes) ++ bytes

-- a row: its key and its value
abbrev pub row_text : Row → List ℕ
row_text row = counted_text row.key ++ counted_text row.value

-- a table: its rows, after how many they are
abbrev pub table_text : List Row → List ℕ
table_text rows = to_be_bytes w64 (length rows) ++ flat_map row_text rows

-- whether a cluster is bundled
abbrev pub bundled_text : Bool → ℕ
bundled_text true = 1
bundled_text false = 0

-- a cluster: its sizes, whether it is bundled, and its first tables
abbrev pub config_text : Config → List ℕ
config_text config =
    (config.acceptors ∷ config.leaders ∷ config.managers ∷ bundled_text config.bundled ∷ []) ++ flat_map table_text config.tables

-- a node's name
abbrev pub node_name : NodeId → List ℕ
node_name (A a) = 97 ∷ decimal a
node_name (L l) = 108 ∷ decimal l
node_name (R rm) = 114 ∷ decimal rm

-- which node a record is of, and of which cluster
abbrev pub owner_text : NodeId → List ℕ → List ℕ
owner_text who digest = node_name who ++ (32 ∷ encode_lower digest ++ 10 ∷ [])
