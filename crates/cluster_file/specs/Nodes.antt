-- The nodes that a file says.
use Rattle.std.specs.Prelude.{◌≡◌, ℕ, ◌+◌, ◌==◌, ◌&&◌, ◌||◌, nat_lt, nat_le, Bool, if◌then◌else◌, List, [], ◌∷◌, ◌++◌, map, length}
use Rattle.std.specs.Prelude.{Option, Some, None, Result, Ok, Err, bytes_eq, codes, decimal}
use Rattle.std.specs.List.{list_any}
use Rattle.xid.specs.Limits.{most_leaders, most_managers}
use Rattle.protocol.specs.declared.rows.Row.{Row}
use Rattle.toml.specs.Data.{Data, Items, no_items, item, Members, no_members, member, table, get_member}
use Rattle.cluster_file.specs.declared.cluster.Place.{Place}
use Rattle.cluster_file.specs.declared.error.Kind.{Kind}
use Rattle.cluster_file.specs.declared.error.Kind.TheVariants.{Acceptor, Leader, Manager}
use Rattle.cluster_file.specs.declared.error.Fault.{Fault}
use Rattle.cluster_file.specs.declared.error.Fault.TheVariants.{Unknown, NoTable, Acceptors, Leaders, Managers}
use Rattle.cluster_file.specs.Kinds.{kind_name}
use Rattle.cluster_file.specs.Mistakes.{Mistake, ◌>>=◌, reads_at, mistake_at}
use Rattle.cluster_file.specs.Reads.{node_address_of, client_address_of, flag_of, list_of}
use Rattle.cluster_file.specs.Rows.{rows_at}

-- each key of a table behind a path is among those known; the first that isn't is wrong
unfoldable pub keys_at : List ℕ → List (List ℕ) → Members → Result (Unit {0}) Mistake
keys_at path known no_members = Ok tt
keys_at path known (member key value more) =
    if list_any (λ other. bytes_eq other key) known then keys_at path known more else Err (mistake_at path key Unknown)

-- the keys that a node of a kind may have
abbrev pub node_keys : Kind → List (List ℕ)
node_keys Acceptor = codes "node" ∷ codes "client" ∷ []
node_keys Leader = codes "node" ∷ codes "client" ∷ []
node_keys Manager = codes "node" ∷ codes "client" ∷ codes "beside" ∷ codes "table" ∷ []

-- where the node of a number stands
abbrev pub node_path : Kind → ℕ → List ℕ
node_path kind index = kind_name kind ++ (codes "[" ++ (decimal index ++ codes "]"))

-- what stands before the keys of that node
abbrev pub section_path : Kind → ℕ → List ℕ
section_path kind index = kind_name kind ++ (codes "[" ++ (decimal index ++ codes "]."))

-- where a node is found, and its first rows
abbrev pub Node : Type 0
Node = Place × List Row

-- where a node is found, and whether it speaks for a database beside it
unfoldable pub place_at : List ℕ → (nodes_keyed clients_keyed : Bool) → Members → Result Place Mistake
place_at path nodes_keyed clients_keyed members = do
  node ← reads_at path (codes "node") (node_address_of nodes_keyed (get_member (codes "node") members))
  client ← reads_at path (codes "client") (client_address_of clients_keyed (get_member (codes "client") members))
  beside ← reads_at path (codes "beside") (flag_of (get_member (codes "beside") members))
  Ok (record { node = node; client = client; beside = beside })

-- the node of a table
unfoldable pub node_in : List ℕ → Kind → (nodes_keyed clients_keyed : Bool) → Members → Result Node Mistake
node_in path kind nodes_keyed clients_keyed members = do
  known ← keys_at path (node_keys kind) members
  place ← place_at path nodes_keyed clients_keyed members
  rows ← rows_at path members
  Ok (place, rows)

-- the node of a value
unfoldable pub node_of : Kind → (nodes_keyed clients_keyed : Bool) → ℕ → Data → Result Node Mistake
node_of kind nodes_keyed clients_keyed index (table members) =
    node_in (section_path kind index) kind nodes_keyed clients_keyed members
node_of kind nodes_keyed clients_keyed index other = Err (record { at = Some (node_path kind index); fault = NoTable })

-- the nodes of values, numbered from one on
unfoldable pub nodes_from : Kind → (nodes_keyed clients_keyed : Bool) → ℕ → Items → Result (List Node) Mistake
nodes_from kind nodes_keyed clients_keyed index no_items = Ok []
nodes_from kind nodes_keyed clients_keyed index (item value more) = do
  node ← node_of kind nodes_keyed clients_keyed index value
  nodes ← nodes_from kind nodes_keyed clients_keyed (index + 1) more
  Ok (node ∷ nodes)

-- how many values there are
abbrev pub item_count : Items → ℕ
item_count no_items = 0
item_count (item value more) = item_count more + 1

-- what is wrong with so many nodes of a kind, if something is
abbrev pub size_fault : Kind → ℕ → Option Fault
size_fault Acceptor n = if n == 1 || n == 3 || n == 5 || n == 7 then None else Some Acceptors
size_fault Leader n = if nat_lt 0 n && nat_le n most_leaders then None else Some Leaders
size_fault Manager n = if nat_lt 0 n && nat_le n most_managers then None else Some Managers

-- values, unless something is wrong with how many they are
abbrev pub unless : Items → Option Fault → Result Items Fault
unless values None = Ok values
unless values (Some fault) = Err fault

-- as many values as there may be nodes of a kind
abbrev pub sized : Kind → Items → Result Items Fault
sized kind values = unless values (size_fault kind (item_count values))

-- the values of a kind's nodes
unfoldable pub listed_at : List ℕ → Kind → Members → Result Items Mistake
listed_at path kind members = reads_at path (kind_name kind) (list_of (get_member (kind_name kind) members) >>= sized kind)

-- the nodes of a kind
unfoldable pub nodes_at : List ℕ → Kind → (nodes_keyed clients_keyed : Bool) → Members → Result (List Node) Mistake
nodes_at path kind nodes_keyed clients_keyed members =
    listed_at path kind members >>= nodes_from kind nodes_keyed clients_keyed 0

-- nodes were read, as many as counted: where they are found, and their first rows, stand behind those that were there
pub record ReadNodes (said : Result (List Node) Mistake) (places more_places : List Place) (rows more_rows : List (List Row)) (count : ℕ)
    : Type 0 where
  pub nodes : List Node
  pub are : said ≡ Ok nodes
  pub found : more_places ≡ places ++ map (λ node. node.0) nodes
  pub tables : more_rows ≡ rows ++ map (λ node. node.1) nodes
  pub many : count ≡ length nodes
