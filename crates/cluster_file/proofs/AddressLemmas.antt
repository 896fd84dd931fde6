-- What the addresses of a node are read as.
use Rattle.std.proofs.Common.{◌≡◌, ◌≢◌, ◌∙◌, ◌||◌, ◌==◌, ℕ, List, Bool, true, false, Option, Some, None, Ok, refl, sym, ap}
use Rattle.std.proofs.lemmas.Bool.Decides.{Decides-eqb}
use Rattle.std.specs.declared.net.socket_addr.SocketAddr.{SocketAddr}
use Rattle.std.specs.Net.Socket.{socket_port}
use Rattle.toml.specs.Data.{Data}
use Rattle.cluster_file.specs.declared.error.ClusterError.{ClusterError}
use Rattle.cluster_file.specs.declared.error.Fault.TheVariants.{Missing, NoAddress, OpenToNodes, OpenToClients}
use Rattle.cluster_file.specs.Addresses.{socket_of, is_loopback}
use Rattle.cluster_file.specs.Mistakes.{◌>>=◌, mistake_at, reads_at, Says, IsRefused}
use Rattle.cluster_file.specs.Reads.{text_of, with_port, address_in, address_of, node_address, client_address, node_address_of}
use Rattle.cluster_file.specs.Reads.{client_address_of}
use Rattle.cluster_file.proofs.SocketLemmas.{loopback_is}
use Rattle.cluster_file.proofs.Refusals.{refused_at, refused_more, ok_at}

port_zero : (n : ℕ) → n ≢ 0 → (n == 0) ≡ false
port_zero n some = by (n == 0) refl
  where
    by : (b : Bool) → (n == 0) ≡ b → (n == 0) ≡ false
    by true e = absurd (some ((Decides-eqb n 0).0 e))
    by false e = e

-- ---- an address

pub address_none : (found : Option Data) → text_of found ≡ Ok None → address_of found ≡ Ok None
address_none found is = ap (λ r. r >>= address_in) is

pub address_there : (found : Option Data) (text : List ℕ) (address : SocketAddr) → text_of found ≡ Ok (Some text)
    → Some address ≡ socket_of text → socket_port address ≢ 0 → address_of found ≡ Ok (Some address)
address_there found text address is read port =
    ap (λ r. r >>= address_in) is ∙ (ap with_port (sym read) ∙ rw (port_zero (socket_port address) port) refl)

pub address_badly : (path key : List ℕ) (found : Option Data) (error : ClusterError) → IsRefused (reads_at path key (text_of found)) error
    → IsRefused (reads_at path key (address_of found)) error
address_badly path key found error h = refused_more path key (text_of found) address_in error h

pub address_unread : (path key : List ℕ) (found : Option Data) (text : List ℕ) (error : ClusterError) → text_of found ≡ Ok (Some text)
    → None ≡ socket_of text → Says (mistake_at path key NoAddress) error → IsRefused (reads_at path key (address_of found)) error
address_unread path key found text error is read says =
    refused_at path key (address_of found) NoAddress error (ap (λ r. r >>= address_in) is ∙ ap with_port (sym read)) says

pub address_portless : (path key : List ℕ) (found : Option Data) (text : List ℕ) (address : SocketAddr) (error : ClusterError)
    → text_of found ≡ Ok (Some text) → Some address ≡ socket_of text → socket_port address ≡ 0 → Says (mistake_at path key NoAddress) error
    → IsRefused (reads_at path key (address_of found)) error
address_portless path key found text address error is read port says =
    refused_at path key (address_of found) NoAddress error
    (ap (λ r. r >>= address_in) is ∙ (ap with_port (sym read) ∙ rw port refl)) says

pub ruleset address_reading = (address_none, address_there, address_badly, address_unread, address_portless)

-- ---- where the other nodes find a node

module _ (path key : List ℕ) (keyed : Bool) (found : Option Data) where
  pub node_badly : (error : ClusterError) → IsRefused (reads_at path key (address_of found)) error
      → IsRefused (reads_at path key (node_address_of keyed found)) error
  node_badly error h = refused_more path key (address_of found) (node_address keyed) error h

  pub node_missing : (error : ClusterError) → address_of found ≡ Ok None → Says (mistake_at path key Missing) error
      → IsRefused (reads_at path key (node_address_of keyed found)) error
  node_missing error is says =
      refused_at path key (node_address_of keyed found) Missing error (ap (λ r. r >>= node_address keyed) is) says

  pub node_open : (address : SocketAddr) (error : ClusterError) → address_of found ≡ Ok (Some address) → keyed ≡ false
      → is_loopback address ≡ false → Says (mistake_at path key OpenToNodes) error
      → IsRefused (reads_at path key (node_address_of keyed found)) error
  node_open address error is none afar says =
      refused_at path key (node_address_of keyed found) OpenToNodes error
      (ap (λ r. r >>= node_address keyed) is ∙ rw (none, afar) refl) says

  pub node_right : (address : SocketAddr) → address_of found ≡ Ok (Some address) → (keyed || is_loopback address) ≡ true
      → reads_at path key (node_address_of keyed found) ≡ Ok address
  node_right address is shut =
      ok_at path key (node_address_of keyed found) address (ap (λ r. r >>= node_address keyed) is ∙ rw shut refl)

  -- ---- where the clients of a node come

  pub client_badly : (error : ClusterError) → IsRefused (reads_at path key (address_of found)) error
      → IsRefused (reads_at path key (client_address_of keyed found)) error
  client_badly error h = refused_more path key (address_of found) (client_address keyed) error h

  pub client_none : address_of found ≡ Ok None → reads_at path key (client_address_of keyed found) ≡ Ok None
  client_none is = ok_at path key (client_address_of keyed found) None (ap (λ r. r >>= client_address keyed) is)

  pub client_open : (address : SocketAddr) (error : ClusterError) → address_of found ≡ Ok (Some address) → keyed ≡ false
      → is_loopback address ≡ false → Says (mistake_at path key OpenToClients) error
      → IsRefused (reads_at path key (client_address_of keyed found)) error
  client_open address error is none afar says =
      refused_at path key (client_address_of keyed found) OpenToClients error
      (ap (λ r. r >>= client_address keyed) is ∙ rw (none, afar) refl) says

  pub client_right : (address : SocketAddr) → address_of found ≡ Ok (Some address) → (keyed || is_loopback address) ≡ true
      → reads_at path key (client_address_of keyed found) ≡ Ok (Some address)
  client_right address is shut =
      ok_at path key (client_address_of keyed found) (Some address)
      (ap (λ r. r >>= client_address keyed) is ∙ rw shut refl)

pub ruleset client_reading = (client_none, client_right, loopback_is)
