-- Where nodes are found.
use Rattle.std.specs.Prelude.{ℕ, Option, Some, None, replicate, slice_get, slice_set}
use Rattle.std.specs.Option.{option_and_then}
use Rattle.protocol.specs.declared.nodes.NodeId.{NodeId}
use Rattle.protocol.specs.declared.nodes.NodeId.TheVariants.{A, L, R}
use Rattle.port.specs.declared.addresses.Addresses.{Addresses}

-- no node is found
abbrev pub no_addresses : Addresses
no_addresses = record { acceptors = replicate 7 None; leaders = replicate 4 None; managers = replicate 64 None }

-- the port at which a node is found, if it is
abbrev pub address_of : Addresses → NodeId → Option ℕ
address_of addresses (A a) = option_and_then (λ found. found) (slice_get addresses.acceptors a)
address_of addresses (L l) = option_and_then (λ found. found) (slice_get addresses.leaders l)
address_of addresses (R rm) = option_and_then (λ found. found) (slice_get addresses.managers rm)

-- the same with a node found at a port, if there may be such a node
abbrev pub with_address : Addresses → NodeId → ℕ → Addresses
with_address addresses (A a) number = record addresses { acceptors = slice_set addresses.acceptors a (Some number) }
with_address addresses (L l) number = record addresses { leaders = slice_set addresses.leaders l (Some number) }
with_address addresses (R rm) number = record addresses { managers = slice_set addresses.managers rm (Some number) }
