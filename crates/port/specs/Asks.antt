-- What the system is asked to send by a socket.
use Rattle.std.specs.Prelude.{◌≡◌, ℕ, ◌+◌, ◌-◌, ◌^◌, min, List, [], ◌∷◌, length, Option, Some, None, Result, Ok, Err}
use Rattle.std.specs.declared.net.socket_addr.SocketAddr.{SocketAddr}
use Rattle.std.specs.declared.net.socket_addr.SocketAddr.TheVariants.{V4}
use Rattle.xid.specs.declared.refusals.Refusal.{Refusal}
use Rattle.xid.specs.declared.refusals.Refusal.TheVariants.{PortFault}
use Rattle.port.specs.declared.counted.CountedSocket.{CountedSocket}
use Rattle.port.specs.declared.counted.SendReply.{SendReply}
use Rattle.port.specs.declared.counted.SendReply.TheVariants.{Sent, Interrupted}

-- a port of 127.0.0.1
abbrev pub loopback : ℕ → SocketAddr
loopback number = V4 (record { ip = record { octets = 127 ∷ 0 ∷ 0 ∷ 1 ∷ [] }; port = number })

-- how often the system was asked, after it replied so once more: what a signal interrupted isn't counted
abbrev pub asked_after : ℕ → SendReply → ℕ
asked_after asked Interrupted = asked
asked_after asked reply = min (asked + 1) (2 ^ 64 - 1)

-- a socket by which the system was asked nothing yet
pub record IsUnasked (socket : CountedSocket) : Type 0 where
  pub asked : socket.asked ≡ 0
  pub last : socket.last ≡ None

-- the system was asked to send a datagram of so many bytes to an address, once but for what a signal interrupted, and made this of it
pub record Asks (old new : CountedSocket) (to : SocketAddr) (len : ℕ) (reply : SendReply) : Type 0 where
  pub socket : new.socket ≡ old.socket
  pub asked : new.asked ≡ asked_after old.asked reply
  pub last : new.last ≡ Some (record { to = to; len = len; reply = reply })

-- what a send comes to: it is done only where the system took all bytes
abbrev pub send_result : SendReply → Result (Unit {0}) Refusal
send_result Sent = Ok tt
send_result reply = Err PortFault

-- a send of bytes asked the system once to send so many to an address, and came to what the system made of it
pub record AsksOnce (old new : CountedSocket) (to : SocketAddr) (bytes : List ℕ) (result : Result (Unit {0}) Refusal) : Type 0 where
  pub reply : SendReply
  pub asks : Asks old new to (length bytes) reply
  pub result_is : result ≡ send_result reply

-- a send of bytes to where a node is found, if it is; else the system was asked nothing, and the send failed
abbrev pub AsksAt : Option SocketAddr → (old new : CountedSocket) → List ℕ → Result (Unit {0}) Refusal → Type 0
AsksAt (Some to) old new bytes result = AsksOnce old new to bytes result
AsksAt None old new bytes result = (new ≡ old) × (result ≡ Err PortFault)
