-- The cluster that a file says, or what is wrong with it first: keys that it doesn't know, then the keys at its top, `time`, `names`, the
-- nodes, kind by kind, and what can only be said of all nodes.
use Rattle.std.specs.Prelude.{◌≡◌, ℕ, Bool, false, if◌then◌else◌, List, [], ◌∷◌, ◌++◌, map, length, codes, bytes_eq}
use Rattle.std.specs.Prelude.{Option, Some, None, is_some, Result, Ok, Err}
use Rattle.toml.specs.Data.{Members, get_member}
use Rattle.toml.specs.Parse.{parse_document}
use Rattle.node_core.specs.Configs.{is_config, config_of}
use Rattle.protocol.specs.Effects.{Config}
use Rattle.cluster_file.specs.declared.cluster.Cluster.{Cluster}
use Rattle.cluster_file.specs.declared.cluster.Naming.{Naming}
use Rattle.cluster_file.specs.declared.cluster.Place.{Place}
use Rattle.cluster_file.specs.declared.cluster.Timing.{Timing}
use Rattle.cluster_file.specs.declared.error.ClusterError.{ClusterError}
use Rattle.cluster_file.specs.declared.error.ClusterError.TheVariants.{Syntax, Wrong, Memory}
use Rattle.cluster_file.specs.declared.error.Kind.TheVariants.{Acceptor, Leader, Manager}
use Rattle.cluster_file.specs.declared.error.Fault.{Fault}
use Rattle.cluster_file.specs.declared.error.Fault.TheVariants.{Limits, SharedKey}
use Rattle.cluster_file.specs.Mistakes.{Mistake, ◌>>=◌, reads_at, IsRefused}
use Rattle.cluster_file.specs.Nodes.{keys_at, nodes_at}
use Rattle.cluster_file.specs.Reads.{text_of, flag_of, number_of, table_of, name_bytes}
use Rattle.cluster_file.specs.Repeated.{apart_at}

-- the keys at the top of a file
abbrev pub top_keys : List (List ℕ)
top_keys =
    codes "acceptor" ∷ codes "bundled" ∷ codes "client_key" ∷ codes "key" ∷ codes "leader" ∷ codes "names" ∷ codes "rm"
    ∷ codes "time" ∷ []

-- the keys of `time`
abbrev pub time_keys : List (List ℕ)
time_keys = codes "ask" ∷ codes "idle" ∷ []

-- the keys of `names`
abbrev pub names_keys : List (List ℕ)
names_keys = codes "ahead" ∷ codes "format" ∷ codes "keep" ∷ codes "timed" ∷ []

-- what a cluster is, without where it lies in memory
pub record Said : Type 0 where
  pub config : Config
  pub places : List Place
  pub key : Option (List ℕ)
  pub client_key : Option (List ℕ)
  pub timing : Timing
  pub naming : Naming

-- what is said of a cluster
abbrev pub said_of : Cluster → Said
said_of cluster = record {
  config = cluster.config;
  places = cluster.places.items;
  key = name_bytes cluster.key;
  client_key = name_bytes cluster.client_key;
  timing = cluster.timing;
  naming = cluster.naming;
}

-- the name of a file at a key
abbrev pub name_at : List ℕ → List ℕ → Members → Result (Option (List ℕ)) Mistake
name_at path key members = reads_at path key (text_of (get_member key members))

-- whether both names are there, and one
abbrev pub are_shared : Option (List ℕ) → Option (List ℕ) → Bool
are_shared None other = false
are_shared (Some key) None = false
are_shared (Some key) (Some client_key) = bytes_eq key client_key

-- both keys have names of their own
abbrev pub keys_apart : Option (List ℕ) → Option (List ℕ) → Result (Unit {0}) Fault
keys_apart key client_key = if are_shared key client_key then Err SharedKey else Ok tt

-- how long nodes wait, by the table of that, or where there is none
unfoldable pub timing_in : Option Members → Result Timing Mistake
timing_in None = Ok (record { ask = 200; idle = 60000 })
timing_in (Some members) = do
  known ← keys_at (codes "time.") time_keys members
  ask ← reads_at (codes "time.") (codes "ask") (number_of 1 60000 200 (get_member (codes "ask") members))
  idle ← reads_at (codes "time.") (codes "idle") (number_of 0 4294967295 60000 (get_member (codes "idle") members))
  Ok (record { ask = ask; idle = idle })

-- how long nodes wait
abbrev pub timing_at : List ℕ → Members → Result Timing Mistake
timing_at path members = reads_at path (codes "time") (table_of (get_member (codes "time") members)) >>= timing_in

-- how names stand in time, by the table of that, or where there is none
unfoldable pub naming_in : Option Members → Result Naming Mistake
naming_in None = Ok (record { timed = false; format = 1; keep = 600000; ahead = 60000 })
naming_in (Some members) = do
  known ← keys_at (codes "names.") names_keys members
  timed ← reads_at (codes "names.") (codes "timed") (flag_of (get_member (codes "timed") members))
  format ← reads_at (codes "names.") (codes "format") (number_of 0 2147483647 1 (get_member (codes "format") members))
  keep ← reads_at (codes "names.") (codes "keep") (number_of 1000 4294967295 600000 (get_member (codes "keep") members))
  ahead ← reads_at (codes "names.") (codes "ahead") (number_of 0 4294967295 60000 (get_member (codes "ahead") members))
  Ok (record { timed = timed; format = format; keep = keep; ahead = ahead })

-- how names stand in time
abbrev pub naming_at : List ℕ → Members → Result Naming Mistake
naming_at path members = reads_at path (codes "names") (table_of (get_member (codes "names") members)) >>= naming_in

-- a cluster within the limits
abbrev pub config_within : Config → Result Config Fault
config_within config = if is_config config then Ok config else Err Limits

-- the sizes and first tables, and where the nodes are found: acceptors, then leaders, then resource managers
unfoldable pub parts_at : List ℕ → (nodes_keyed clients_keyed : Bool) → Members → Result (Config × List Place) Mistake
parts_at path nodes_keyed clients_keyed members = do
  acceptors ← nodes_at path Acceptor nodes_keyed clients_keyed members
  leaders ← nodes_at path Leader nodes_keyed clients_keyed members
  managers ← nodes_at path Manager nodes_keyed clients_keyed members
  let places = (map (λ node. node.0) acceptors ++ map (λ node. node.0) leaders) ++ map (λ node. node.0) managers
  apart ← apart_at (length acceptors) (length leaders) places
  config ← reads_at path (codes "rm") (config_within
      (config_of (length acceptors) (length leaders) (length managers) (map (λ node. node.1) managers)))
  Ok (config, places)

-- the cluster of a table behind a path
unfoldable pub cluster_behind : List ℕ → Members → Result Said Mistake
cluster_behind path members = do
  known ← keys_at path top_keys members
  bundled ← reads_at path (codes "bundled") (flag_of (get_member (codes "bundled") members))
  key ← name_at path (codes "key") members
  client_key ← name_at path (codes "client_key") members
  apart ← reads_at path (codes "client_key") (keys_apart key client_key)
  timing ← timing_at path members
  naming ← naming_at path members
  parts ← parts_at path (is_some key) (is_some client_key) members
  Ok (record {
    config = record parts.0 { bundled = bundled };
    places = parts.1;
    key = key;
    client_key = client_key;
    timing = timing;
    naming = naming;
  })

-- the cluster that a file's table says, or what is wrong first
abbrev pub cluster_at : Members → Result Said Mistake
cluster_at members = cluster_behind [] members

-- why a file's text isn't a table: it is no TOML, or memory ran out, which says nothing of the text
abbrev pub IsNoTable : List ℕ → ClusterError → Type 0
IsNoTable text (Syntax line error) = parse_document text ≡ None
IsNoTable text (Wrong path fault) = ⊥
IsNoTable text Memory = Unit {0}

-- why a file's text isn't a cluster: it is no TOML, or its table is refused, or memory ran out
abbrev pub IsNoCluster : List ℕ → ClusterError → Type 0
IsNoCluster text (Syntax line error) = parse_document text ≡ None
IsNoCluster text (Wrong path fault) =
    (members : Members) × (parse_document text ≡ Some members) × IsRefused (cluster_at members) (Wrong path fault)
IsNoCluster text Memory = Unit {0}
