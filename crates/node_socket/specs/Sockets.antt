-- Where a socket sends, and what it makes of receives and sends.
use Rattle.std.specs.Prelude.{◌≡◌, ℕ, List, [], Option, Result, slice_get}
use Rattle.std.specs.Option.{option_and_then}
use Rattle.std.specs.declared.net.socket_addr.SocketAddr.{SocketAddr}
use Rattle.xid.specs.declared.refusals.Refusal.{Refusal}
use Rattle.protocol.specs.declared.nodes.NodeId.{NodeId}
use Rattle.protocol.specs.Effects.{Config}
use Rattle.protocol.specs.Worlds.{place}
use Rattle.node_core.specs.Configs.{config_by}
use Rattle.node_core.specs.Nodes.{AreSizes}
use Rattle.node_core.specs.declared.config.Sizes.{Sizes}
use Rattle.port.specs.Asks.{AsksAt}
use Rattle.port.specs.Ports.{faults_after}
use Rattle.node_socket.specs.declared.socket.NodeSocket.{NodeSocket}

-- the place to which a datagram to a node goes: the node's own, where acceptors come first, then leaders, then resource managers
abbrev pub place_for : Sizes → List SocketAddr → NodeId → Option SocketAddr
place_for sizes places receiver = option_and_then (slice_get places) (place (config_by sizes []) receiver)

-- a socket finds the nodes of a cluster at these places
pub record BoundTo (config : Config) (places : List SocketAddr) (socket : NodeSocket) : Type 0 where
  pub cluster : AreSizes config socket.sizes
  pub found : socket.places.items ≡ places

-- its count
abbrev pub socket_count : NodeSocket → ℕ
socket_count socket = socket.faults

-- a receive leaves the places, and asks the system to send nothing
pub record SocketReceived (old new : NodeSocket) (taken : Result (Option (List ℕ)) Refusal) : Type 0 where
  pub sizes : new.sizes ≡ old.sizes
  pub places : new.places ≡ old.places
  pub socket : new.socket ≡ old.socket
  pub faults : new.faults ≡ faults_after old.faults taken

-- a send leaves them too. It asks the system once to send so many bytes to the node's place, and comes to what the system made of it;
-- where the node has no place it asks nothing, and fails
pub record SocketSent (old new : NodeSocket) (receiver : NodeId) (bytes : List ℕ) (result : Result (Unit {0}) Refusal) : Type 0 where
  pub sizes : new.sizes ≡ old.sizes
  pub places : new.places ≡ old.places
  pub faults : new.faults ≡ faults_after old.faults result
  pub asks : AsksAt (place_for old.sizes old.places.items receiver) old.socket new.socket bytes result
