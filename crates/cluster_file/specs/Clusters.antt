-- The clusters that files say.
use Rattle.std.specs.Prelude.{◌≡◌, ◌≢◌, ◌≤◌, ◌+◌, Bool, true, false, List, [], ◌∷◌, length, All, Option, Some, None, is_some, IfSome}
use Rattle.std.specs.List.{AllPairs, flat_map}
use Rattle.std.specs.declared.net.socket_addr.SocketAddr.{SocketAddr}
use Rattle.std.specs.Net.Addr.{IsLoopbackV4, IsLoopbackV6, MatchIp}
use Rattle.std.specs.Net.Socket.{socket_ip}
use Rattle.protocol.specs.Effects.{Config}
use Rattle.node_core.specs.Configs.{is_config}
use Rattle.cluster_file.specs.declared.cluster.Cluster.{Cluster}
use Rattle.cluster_file.specs.declared.cluster.Place.{Place}

-- an address at which only this host sends and connects
abbrev pub IsLoopback : SocketAddr → Type 0
IsLoopback address = MatchIp (socket_ip address) IsLoopbackV4 IsLoopbackV6

-- without a key for nodes, and without one for clients, they are at loopback addresses
pub record IsShut (nodes_keyed clients_keyed : Bool) (place : Place) : Type 0 where
  pub node : nodes_keyed ≡ false → IsLoopback place.node
  pub client : clients_keyed ≡ false → IfSome place.client IsLoopback

-- the address where clients come, if they may
abbrev pub client_at : Option SocketAddr → List SocketAddr
client_at None = []
client_at (Some address) = address ∷ []

-- the addresses of a place
abbrev pub addresses_at : Place → List SocketAddr
addresses_at place = place.node ∷ client_at place.client

-- all addresses, in order
abbrev pub addresses_of : List Place → List SocketAddr
addresses_of places = flat_map addresses_at places

-- a cluster within the limits, with a place for each node, no address twice, and all that needs no key at loopback addresses
pub record AreNodePlaces (nodes_keyed clients_keyed : Bool) (config : Config) (places : List Place) : Type 0 where
  pub valid : is_config config ≡ true
  pub count : length places ≡ config.acceptors + config.leaders + config.managers
  pub apart : AllPairs (λ a b. a ≢ b) (addresses_of places)
  pub shut : All (IsShut nodes_keyed clients_keyed) places

-- what is read of a file: such nodes, with the keys that it names, which ask again after 1 to 60,000 milliseconds
pub record IsCluster (cluster : Cluster) : Type 0 where
  pub nodes : AreNodePlaces (is_some cluster.key) (is_some cluster.client_key) cluster.config cluster.places.items
  pub least : 1 ≤ cluster.timing.ask
  pub most : cluster.timing.ask ≤ 60000
