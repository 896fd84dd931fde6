-- Where an address stands twice in a file.
use Rattle.std.specs.Prelude.{ℕ, ◌+◌, ◌-◌, nat_lt, Bool, true, false, if◌then◌else◌, List, [], ◌∷◌, ◌++◌}
use Rattle.std.specs.Prelude.{Option, Some, None, Result, Ok, Err, unwrap_or}
use Rattle.std.specs.List.{list_any}
use Rattle.std.specs.declared.net.socket_addr.SocketAddr.{SocketAddr}
use Rattle.cluster_file.specs.declared.cluster.Place.{Place}
use Rattle.cluster_file.specs.declared.error.Spot.{Spot}
use Rattle.cluster_file.specs.declared.error.Kind.TheVariants.{Acceptor, Leader, Manager}
use Rattle.cluster_file.specs.declared.error.Fault.TheVariants.{Repeated}
use Rattle.cluster_file.specs.Addresses.{same_address}
use Rattle.cluster_file.specs.Clusters.{addresses_at}
use Rattle.cluster_file.specs.Mistakes.{Mistake}
use Rattle.cluster_file.specs.Kinds.{spot_text}

-- where the node of a place stands, with so many acceptors and leaders before
abbrev pub spot_at : (acceptors leaders place : ℕ) → Bool → Spot
spot_at acceptors leaders place client =
    if nat_lt place acceptors then record { kind = Acceptor; index = place; client = client }
    else (if nat_lt place (acceptors + leaders) then record { kind = Leader; index = place - acceptors; client = client }
    else record { kind = Manager; index = place - (acceptors + leaders); client = client })

-- whether an address is one of these
abbrev pub stands_in : List SocketAddr → SocketAddr → Bool
stands_in taken address = list_any (λ other. same_address other address) taken

-- whether an address is that of a place's clients
abbrev pub is_client : Option SocketAddr → SocketAddr → Bool
is_client None address = false
is_client (Some client) address = same_address client address

-- where an address first stands among places numbered from one on
abbrev pub spot_from : (acceptors leaders : ℕ) → SocketAddr → ℕ → List Place → Spot
spot_from acceptors leaders address at [] = spot_at acceptors leaders 0 false
spot_from acceptors leaders address at (place ∷ more) =
    if same_address place.node address then spot_at acceptors leaders at false
    else (if is_client place.client address then spot_at acceptors leaders at true
    else spot_from acceptors leaders address (at + 1) more)

-- whether it is the clients' address of a place that stands among others, or its node's; none where neither does
abbrev pub client_repeated : List SocketAddr → Option SocketAddr → Option Bool
client_repeated taken None = None
client_repeated taken (Some client) = if stands_in taken client then Some true else None

-- the same of both addresses of a place
abbrev pub place_repeated : List SocketAddr → Place → Option Bool
place_repeated taken place =
    if stands_in taken place.node then Some false else client_repeated (taken ++ place.node ∷ []) place.client

-- what is found in a place, or else later
abbrev pub first_or : ℕ → Place → Option Bool → Option (ℕ × Place × Bool) → Option (ℕ × Place × Bool)
first_or at place (Some client) later = Some (at, place, client)
first_or at place None later = later

-- the first address of places, numbered from one on, that stands among others or before: the place's number, the place, and whether it is
-- the clients'
unfoldable pub first_repeated : List SocketAddr → ℕ → List Place → Option (ℕ × Place × Bool)
first_repeated taken at [] = None
first_repeated taken at (place ∷ more) =
    first_or at place (place_repeated taken place) (first_repeated (taken ++ addresses_at place) (at + 1) more)

-- an address of a place
abbrev pub address_by : Place → Bool → SocketAddr
address_by place false = place.node
address_by place true = unwrap_or place.client place.node

-- that an address of a place stands in the file before
abbrev pub repetition : (acceptors leaders : ℕ) → List Place → ℕ → Place → Bool → Mistake
repetition acceptors leaders places at place client = record {
  at = Some (spot_text (spot_at acceptors leaders at client));
  fault = Repeated (spot_from acceptors leaders (address_by place client) 0 places);
}

-- what is wrong where an address is repeated
abbrev pub apart_unless : (acceptors leaders : ℕ) → List Place → Option (ℕ × Place × Bool) → Result (Unit {0}) Mistake
apart_unless acceptors leaders places None = Ok tt
apart_unless acceptors leaders places (Some found) = Err (repetition acceptors leaders places found.0 found.1 found.2)

-- no address of places stands twice; the first that does is wrong
unfoldable pub apart_at : (acceptors leaders : ℕ) → List Place → Result (Unit {0}) Mistake
apart_at acceptors leaders places = apart_unless acceptors leaders places (first_repeated [] 0 places)
