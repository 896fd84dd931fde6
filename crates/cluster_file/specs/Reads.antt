-- What a file says at its keys, or what is wrong there.
use Rattle.std.specs.Prelude.{ℕ, ℤ, pos, negsuc, ◌==◌, ◌&&◌, ◌||◌, nat_le, Bool, false, if◌then◌else◌, List}
use Rattle.std.specs.Prelude.{Option, Some, None, Result, Ok, Err, String, string_bytes, option_map}
use Rattle.std.specs.declared.alloc.Global.{Global}
use Rattle.std.specs.declared.net.socket_addr.SocketAddr.{SocketAddr}
use Rattle.std.specs.Net.Socket.{socket_port}
use Rattle.toml.specs.Data.{Data, Items, Members, string, integer, boolean, array, table}
use Rattle.cluster_file.specs.declared.error.Fault.{Fault}
use Rattle.cluster_file.specs.declared.error.Fault.TheVariants.{Missing, NoText, NoBoolean, NoNumber, NoTable, NoList, NoAddress}
use Rattle.cluster_file.specs.declared.error.Fault.TheVariants.{Outside, OpenToNodes, OpenToClients}
use Rattle.cluster_file.specs.Addresses.{socket_of, is_loopback}
use Rattle.cluster_file.specs.Mistakes.{◌>>=◌}

-- the text that a value is; none where it is missing
abbrev pub text_of : Option Data → Result (Option (List ℕ)) Fault
text_of None = Ok None
text_of (Some (string text)) = Ok (Some text)
text_of (Some other) = Err NoText

-- the flag that a value is; it isn't set where it is missing
abbrev pub flag_of : Option Data → Result Bool Fault
flag_of None = Ok false
flag_of (Some (boolean flag)) = Ok flag
flag_of (Some other) = Err NoBoolean

-- a number from low to high
abbrev pub number_within : ℕ → ℕ → ℤ → Result ℕ Fault
number_within low high (pos n) = if nat_le low n && nat_le n high then Ok n else Err (Outside low high)
number_within low high (negsuc n) = Err (Outside low high)

-- the number from low to high that a value is, or what it is where it is missing
abbrev pub number_of : ℕ → ℕ → ℕ → Option Data → Result ℕ Fault
number_of low high missing None = Ok missing
number_of low high missing (Some (integer n)) = number_within low high n
number_of low high missing (Some other) = Err NoNumber

-- the table that a value is; none where it is missing
abbrev pub table_of : Option Data → Result (Option Members) Fault
table_of None = Ok None
table_of (Some (table members)) = Ok (Some members)
table_of (Some other) = Err NoTable

-- the list that a value is
abbrev pub list_of : Option Data → Result Items Fault
list_of None = Err Missing
list_of (Some (array items)) = Ok items
list_of (Some other) = Err NoList

-- an address with a port, if a text wrote one
abbrev pub with_port : Option SocketAddr → Result (Option SocketAddr) Fault
with_port None = Err NoAddress
with_port (Some address) = if socket_port address == 0 then Err NoAddress else Ok (Some address)

-- the address that a text writes, if there is a text
abbrev pub address_in : Option (List ℕ) → Result (Option SocketAddr) Fault
address_in None = Ok None
address_in (Some text) = with_port (socket_of text)

-- the address that a value is; none where it is missing
abbrev pub address_of : Option Data → Result (Option SocketAddr) Fault
address_of found = text_of found >>= address_in

-- an address of a node: it is there, and at loopback without a key
abbrev pub node_address : Bool → Option SocketAddr → Result SocketAddr Fault
node_address keyed None = Err Missing
node_address keyed (Some address) = if keyed || is_loopback address then Ok address else Err OpenToNodes

-- an address where clients come, if there is one: at loopback without a key
abbrev pub client_address : Bool → Option SocketAddr → Result (Option SocketAddr) Fault
client_address keyed None = Ok None
client_address keyed (Some address) = if keyed || is_loopback address then Ok (Some address) else Err OpenToClients

-- where the other nodes find a node, by a value
abbrev pub node_address_of : Bool → Option Data → Result SocketAddr Fault
node_address_of keyed found = address_of found >>= node_address keyed

-- where its clients come, by a value
abbrev pub client_address_of : Bool → Option Data → Result (Option SocketAddr) Fault
client_address_of keyed found = address_of found >>= client_address keyed

-- the bytes of a name, if there is one
abbrev pub name_bytes : Option (String Global) → Option (List ℕ)
name_bytes name = option_map string_bytes name
