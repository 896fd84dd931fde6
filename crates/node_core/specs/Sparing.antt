-- Which inputs want no memory but for a fact that they store.
use Rattle.std.specs.Prelude.{Bool, true, false}
use Rattle.protocol.specs.declared.nodes.NodeId.{NodeId}
use Rattle.protocol.specs.declared.nodes.NodeId.TheVariants.{A, L, R}
use Rattle.protocol.specs.declared.requests.Action.{Action}
use Rattle.protocol.specs.declared.requests.Request.{Request}
use Rattle.protocol.specs.Nodes.{Input, Asked, Received, ReceivedNoise}
use Rattle.node_core.specs.declared.role.Role.{Role}

-- a client call ends a branch, or its work
abbrev pub is_ending : Action → Bool
is_ending Action.End = true
is_ending Action.EndFail = true
is_ending Action.Rollback = true
is_ending action = false

-- a leader wants no memory for a request: all but a commit, which makes it know the transaction
abbrev pub leads_freely : Request → Bool
leads_freely (Request.Commit tx) = false
leads_freely request = true

-- a resource manager wants none: for an end, a view and a timeout
abbrev pub manages_freely : Request → Bool
manages_freely (Request.Call x action) = is_ending action
manages_freely Request.Recover = false
manages_freely request = true

-- a kind of node wants none for a request; an acceptor takes no request
abbrev pub asks_freely : NodeId → Request → Bool
asks_freely (A a) request = true
asks_freely (L l) request = leads_freely request
asks_freely (R rm) request = manages_freely request

-- a node wants no memory to decide on an input: an acceptor never, no node for noise, others by what they are asked
abbrev pub is_free : NodeId → Input → Bool
is_free who ReceivedNoise = true
is_free (A a) (Received message) = true
is_free who (Received message) = false
is_free who (Asked request) = asks_freely who request

-- the same of a role, on a message
abbrev pub hears_freely : Role → Bool
hears_freely (Role.Acceptor p) = true
hears_freely role = false

-- the same of a role, on a request
abbrev pub serves_freely : Role → Request → Bool
serves_freely (Role.Acceptor p) request = true
serves_freely (Role.Leader p) request = leads_freely request
serves_freely (Role.Manager p) request = manages_freely request
