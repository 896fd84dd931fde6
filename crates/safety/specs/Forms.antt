-- Runs of events whose names and bytes are well-formed, in a cluster whose acceptors messages can name.
use Rattle.std.specs.Prelude.{◌≤◌}
use Rattle.xid.specs.Limits.{most_acceptors}
use Rattle.xid.specs.Names.{IsBytes, IsXid}
use Rattle.xid.specs.Transactions.{IsTx}
use Rattle.protocol.specs.declared.requests.Request.TheVariants.{Recover}
use Rattle.safety.specs.Vocabulary.{Event, Ask, Action, Put, Del, Get, Request, Call, Timeout}
use Rattle.protocol.specs.Effects.{Config}
use Rattle.protocol.specs.Nodes.{Fault}
use Rattle.protocol.specs.Worlds.{World, opening, world_step}

-- the keys and values of an action are bytes; how long they may be, the rules ask
abbrev pub IsAction : Action → Type 0
IsAction (Put key value) = IsBytes key × IsBytes value
IsAction (Del key) = IsBytes key
IsAction (Get key) = IsBytes key
IsAction action = Unit {0}

-- a request names a branch by an XID, and else a transaction
abbrev pub IsRequest : Request → Type 0
IsRequest (Call xid action) = IsXid xid × IsAction action
IsRequest Recover = Unit {0}
IsRequest (Request.View tx) = IsTx tx
IsRequest (Request.Commit tx) = IsTx tx
IsRequest (Request.Status tx) = IsTx tx
IsRequest (Timeout tx) = IsTx tx

-- an event asks nothing but what a request may ask; datagrams, bytes and nodes are free
abbrev pub IsEvent : Event → Type 0
IsEvent (Ask who request) = IsRequest request
IsEvent event = Unit {0}

-- a cluster within the limit on acceptors, whose numbers messages have
pub record IsSized (config : Config) : Type 0 where
  pub acceptors : config.acceptors ≤ most_acceptors

-- the worlds that runs of such events lead to: the opening one, and what one of them, with any fault, makes of one
pub data IsWellReached (config : Config) : World → Type 0 where
  Opening : IsWellReached config (opening config)
  After : (world : World) (event : Event) (fault : Fault) → IsEvent event → IsWellReached config world
      → IsWellReached config (world_step config world event fault).world
