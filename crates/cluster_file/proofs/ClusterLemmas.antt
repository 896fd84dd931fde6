-- The parts of a cluster, put together.
use Rattle.std.proofs.Common.{◌≡◌, ◌∙◌, ℕ, List, [], ◌++◌, map, length, codes, Bool, true, false, Option, Some, None, Ok, String, Global}
use Rattle.std.proofs.Common.{refl, ap}
use Rattle.std.specs.Prelude.{is_some}
use Rattle.node_core.specs.Configs.{config_of, is_config}
use Rattle.protocol.specs.Effects.{Config}
use Rattle.protocol.specs.declared.rows.Row.{Row}
use Rattle.toml.specs.Data.{Members}
use Rattle.cluster_file.specs.declared.cluster.Place.{Place}
use Rattle.cluster_file.specs.declared.error.ClusterError.{ClusterError}
use Rattle.cluster_file.specs.declared.error.Kind.TheVariants.{Acceptor, Leader, Manager}
use Rattle.cluster_file.specs.declared.error.Fault.TheVariants.{Limits, SharedKey}
use Rattle.cluster_file.specs.ClusterAt.{are_shared, config_within, keys_apart, parts_at}
use Rattle.cluster_file.specs.Mistakes.{mistake_at, reads_at, Says, IsRefused}
use Rattle.cluster_file.specs.Nodes.{Node, nodes_at}
use Rattle.cluster_file.specs.Reads.{name_bytes}
use Rattle.cluster_file.specs.Repeated.{apart_at}
use Rattle.cluster_file.proofs.Refusals.{ok_after, ok_at, refused_after, refused_at, refused_bind}

-- where the nodes of each kind are found
abbrev pub all_places : (acceptors leaders managers : List Node) → List Place
all_places acceptors leaders managers =
    (map (λ node. node.0) acceptors ++ map (λ node. node.0) leaders) ++ map (λ node. node.0) managers

-- their sizes, and the first rows of the resource managers
abbrev pub all_config : (acceptors leaders managers : List Node) → Config
all_config acceptors leaders managers =
    config_of (length acceptors) (length leaders) (length managers) (map (λ node. node.1) managers)

module _ (path : List ℕ) (nodes clients : Bool) (members : Members) where
  pub parts_no_acceptors : (error : ClusterError) → IsRefused (nodes_at path Acceptor nodes clients members) error
      → IsRefused (parts_at path nodes clients members) error
  unfolding parts_at
  parts_no_acceptors error h = refused_bind _ h

  module _ (acceptors : List Node) (are_acceptors : nodes_at path Acceptor nodes clients members ≡ Ok acceptors) where
    pub parts_no_leaders : (error : ClusterError) → IsRefused (nodes_at path Leader nodes clients members) error
        → IsRefused (parts_at path nodes clients members) error
    unfolding parts_at
    parts_no_leaders error h = refused_after _ are_acceptors (refused_bind _ h)

    module _ (leaders : List Node) (are_leaders : nodes_at path Leader nodes clients members ≡ Ok leaders) where
      pub parts_no_managers : (error : ClusterError) → IsRefused (nodes_at path Manager nodes clients members) error
          → IsRefused (parts_at path nodes clients members) error
      unfolding parts_at
      parts_no_managers error h = refused_after _ are_acceptors (refused_after _ are_leaders (refused_bind _ h))

      module _ (managers : List Node) (are_managers : nodes_at path Manager nodes clients members ≡ Ok managers) where
        pub parts_not_apart : (error : ClusterError)
            → IsRefused (apart_at (length acceptors) (length leaders) (all_places acceptors leaders managers)) error
            → IsRefused (parts_at path nodes clients members) error
        unfolding parts_at
        parts_not_apart error h =
            refused_after _ are_acceptors (refused_after _ are_leaders (refused_after _ are_managers (refused_bind _ h)))

        module _ (apart : apart_at (length acceptors) (length leaders) (all_places acceptors leaders managers) ≡ Ok tt) where
          pub parts_outside : (error : ClusterError) → is_config (all_config acceptors leaders managers) ≡ false
              → Says (mistake_at path (codes "rm") Limits) error → IsRefused (parts_at path nodes clients members) error
          unfolding parts_at
          parts_outside error outside says =
              refused_after _ are_acceptors
              (refused_after _ are_leaders
              (refused_after _ are_managers
              (refused_after _ apart
              (refused_bind _
              (refused_at path (codes "rm") (config_within (all_config acceptors leaders managers)) Limits error (rw outside refl) says)))))

          pub parts_right : is_config (all_config acceptors leaders managers) ≡ true
              → parts_at path nodes clients members ≡ Ok (all_config acceptors leaders managers, all_places acceptors leaders managers)
          unfolding parts_at
          parts_right within =
              ok_after _ are_acceptors
              (ok_after _ are_leaders
              (ok_after _ are_managers
              (ok_after _ apart
              (ok_after _
              (ok_at path (codes "rm") (config_within (all_config acceptors leaders managers)) (all_config acceptors leaders managers)
              (rw within refl))
              refl))))

-- the places of each kind stand behind those before
pub placed : (begun first second third : List Place) (acceptors leaders managers : List Node) → begun ≡ []
    → first ≡ begun ++ map (λ node. node.0) acceptors → second ≡ first ++ map (λ node. node.0) leaders
    → third ≡ second ++ map (λ node. node.0) managers → third ≡ all_places acceptors leaders managers
placed begun first second third acceptors leaders managers none one two three =
    let added : List Node → List Place → List Place = λ nodes places. places ++ map (λ (node : Node). node.0) nodes in
    three ∙ ap (added managers) (two ∙ ap (added leaders) (one ∙ ap (added acceptors) none))

-- the first rows of resource managers alone
pub tabled : (begun tables : List (List Row)) (managers : List Node) → begun ≡ [] → tables ≡ begun ++ map (λ node. node.1) managers
    → tables ≡ map (λ node. node.1) managers
tabled begun tables managers none is = is ∙ ap (λ (rows : List (List Row)). rows ++ map (λ (node : Node). node.1) managers) none

-- the same test of the same places
pub apart_same : (a b c d : ℕ) (places others : List Place) → a ≡ c → b ≡ d → places ≡ others → apart_at a b places ≡ apart_at c d others
apart_same a b c d places others one two three =
    ap (λ n. apart_at n b places) one ∙ (ap (λ n. apart_at c n places) two ∙ ap (apart_at c d) three)

-- the same cluster
pub config_same : (a b c d e f : ℕ) (tables others : List (List Row)) → a ≡ d → b ≡ e → c ≡ f → tables ≡ others
    → config_of a b c tables ≡ config_of d e f others
config_same a b c d e f tables others one two three four =
    ap (λ n. config_of n b c tables) one
    ∙ (ap (λ n. config_of d n c tables) two ∙ (ap (λ n. config_of d e n tables) three ∙ ap (config_of d e f) four))

-- a name is there where its bytes are
pub some_bytes : (name : Option (String Global)) → is_some (name_bytes name) ≡ is_some name
some_bytes None = refl
some_bytes (Some name) = refl

-- a cluster of a kind
pub config_plain : (plain : Config) (bundled : Bool) → plain.bundled ≡ bundled → plain ≡ record plain { bundled = bundled }
config_plain plain bundled e = ap (λ (b : Bool). record plain { bundled = b }) e

pub shared_wrong : (path : List ℕ) (key client_key : Option (List ℕ)) (error : ClusterError) → are_shared key client_key ≡ true
    → Says (mistake_at path (codes "client_key") SharedKey) error
    → IsRefused (reads_at path (codes "client_key") (keys_apart key client_key)) error
shared_wrong path key client_key error is says =
    refused_at path (codes "client_key") (keys_apart key client_key) SharedKey error (rw is refl) says

pub shared_right : (path : List ℕ) (key client_key : Option (List ℕ)) → are_shared key client_key ≡ false
    → reads_at path (codes "client_key") (keys_apart key client_key) ≡ Ok tt
shared_right path key client_key is = ok_at path (codes "client_key") (keys_apart key client_key) tt (rw is refl)
