-- The addresses that texts say.
use Rattle.std.specs.Prelude.{ℕ, ◌==◌, ◌&&◌, Bool, false, List, [], ◌∷◌, take, Option, Some, None, bytes_eq}
use Rattle.std.specs.Option.{option_map, option_or}
use Rattle.std.specs.declared.net.socket_addr.SocketAddr.{SocketAddr}
use Rattle.std.specs.declared.net.socket_addr.SocketAddr.TheVariants.{V4, V6}
use Rattle.std.specs.Net.Addr.{ipv4_octets, ipv6_segments}
use Rattle.std.specs.Net.Reader.{read_socket_v4, read_socket_v6}
use Rattle.std.specs.Net.Socket.{v4_ip, v4_port, v6_ip, v6_port, v6_flowinfo, v6_scope_id}

-- a value that was read at the front of a text, if nothing follows it
abbrev pub if_last : {A : Type 0} → A → List ℕ → Option A
if_last value [] = Some value
if_last value (byte ∷ rest) = None

-- the value that a whole text is
abbrev pub whole : {A : Type 0} → Option (A × List ℕ) → Option A
whole None = None
whole (Some read) = if_last read.0 read.1

-- an address by its four bytes and its port
abbrev pub address_v4 : List ℕ × ℕ → SocketAddr
address_v4 parts = V4 (record { ip = record { octets = parts.0 }; port = parts.1 })

-- an address by its eight segments, its port, its flow and its scope
abbrev pub address_v6 : List ℕ × ℕ × ℕ × ℕ → SocketAddr
address_v6 parts =
    V6 (record { ip = record { segments = parts.0 }; port = parts.1; flowinfo = parts.2; scope_id = parts.3 })

-- the address that a text writes, of either version; `IsSocketText` says which texts write it
unfoldable pub socket_of : List ℕ → Option SocketAddr
socket_of text =
    option_or (option_map address_v4 (whole (read_socket_v4 text))) (option_map address_v6 (whole (read_socket_v6 text)))

-- whether two addresses are one
unfoldable pub same_address : SocketAddr → SocketAddr → Bool
same_address (V4 a) (V4 b) = bytes_eq (ipv4_octets (v4_ip a)) (ipv4_octets (v4_ip b)) && v4_port a == v4_port b
same_address (V6 a) (V6 b) =
    ((bytes_eq (ipv6_segments (v6_ip a)) (ipv6_segments (v6_ip b)) && v6_port a == v6_port b)
    && v6_flowinfo a == v6_flowinfo b)
    && v6_scope_id a == v6_scope_id b
same_address (V4 a) (V6 b) = false
same_address (V6 a) (V4 b) = false

-- whether only this host sends and connects there
unfoldable pub is_loopback : SocketAddr → Bool
is_loopback (V4 a) = bytes_eq (take 1 (ipv4_octets (v4_ip a))) (127 ∷ [])
is_loopback (V6 a) = bytes_eq (ipv6_segments (v6_ip a)) (0 ∷ 0 ∷ 0 ∷ 0 ∷ 0 ∷ 0 ∷ 0 ∷ 1 ∷ [])
