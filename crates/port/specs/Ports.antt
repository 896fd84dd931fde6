-- What a receive gives, and what the ports of this crate make of receives and sends.
use Rattle.std.specs.Prelude.{◌≡◌, ◌==◌, ℕ, ◌+◌, ◌-◌, min, List, [], ◌∷◌, ◌++◌, take, Option, Some, None, Result, Ok, Err, is_err}
use Rattle.std.specs.Option.{option_map}
use Rattle.xid.specs.declared.refusals.Refusal.{Refusal}
use Rattle.xid.specs.declared.refusals.Refusal.TheVariants.{PortFault}
use Rattle.stable_record.specs.Held.{most_faults}
use Rattle.protocol.specs.declared.nodes.NodeId.{NodeId}
use Rattle.port.specs.declared.port.TheConstants.{MAX_TAKEN}
use Rattle.port.specs.declared.fake.FakePort.{FakePort}
use Rattle.port.specs.declared.fake.Letter.{Letter}
use Rattle.port.specs.declared.udp.UdpPort.{UdpPort}
use Rattle.port.specs.Addresses.{address_of}
use Rattle.port.specs.Asks.{AsksAt, loopback}

-- what was received: the bytes at the front of a buffer, nothing, or a refusal
abbrev pub taken_from : List ℕ → Result (Option ℕ) Refusal → Result (Option (List ℕ)) Refusal
taken_from buffer (Ok None) = Ok None
taken_from buffer (Ok (Some len)) = Ok (Some (take len buffer))
taken_from buffer (Err refusal) = Err refusal

-- a count of faults after a call: one more if it failed, up to the greatest
abbrev pub faults_after : {T : Type 0} → ℕ → Result T Refusal → ℕ
faults_after faults (Ok value) = faults
faults_after faults (Err refusal) = min (faults + 1) most_faults

-- ---- a port in memory

-- its count
abbrev pub fake_count : FakePort → ℕ
fake_count port = port.faults

-- the first letter that was waiting was drawn; without one there was none; a failure leaves them
abbrev pub FakeDraws : (old new : List (List ℕ)) → Result (Option (List ℕ)) Refusal → Type 0
FakeDraws old new (Ok None) = (old ≡ []) × (new ≡ [])
FakeDraws old new (Ok (Some first)) = old ≡ first ∷ new
FakeDraws old new (Err refusal) = new ≡ old

-- a draw takes of what was waiting, and leaves what has gone. It is counted as a call, and fails where it is the one that shall
pub record FakeDrawn (old new : FakePort) (drawn : Result (Option (List ℕ)) Refusal) : Type 0 where
  pub draws : FakeDraws old.waiting.items new.waiting.items drawn
  pub gone : new.gone.items ≡ old.gone.items
  pub left : new.left ≡ old.left - 1
  pub due : is_err drawn ≡ (old.left == 1)
  pub faults : new.faults ≡ faults_after old.faults drawn

-- the first letter that was waiting was taken, as far as a buffer reaches; without one there was none; a failure leaves them
abbrev pub FakeTakes : (old new : List (List ℕ)) → Result (Option (List ℕ)) Refusal → Type 0
FakeTakes old new (Ok None) = (old ≡ []) × (new ≡ [])
FakeTakes old new (Ok (Some bytes)) = (first : List ℕ) × (old ≡ first ∷ new) × (bytes ≡ take MAX_TAKEN first)
FakeTakes old new (Err refusal) = new ≡ old

-- a receive takes of what was waiting, and leaves what has gone. It is counted as a call, and fails where it is the one that shall
pub record FakeReceived (old new : FakePort) (taken : Result (Option (List ℕ)) Refusal) : Type 0 where
  pub takes : FakeTakes old.waiting.items new.waiting.items taken
  pub gone : new.gone.items ≡ old.gone.items
  pub left : new.left ≡ old.left - 1
  pub due : is_err taken ≡ (old.left == 1)
  pub faults : new.faults ≡ faults_after old.faults taken

-- what has gone after a send: the letter last, unless it failed
abbrev pub gone_after : List Letter → Letter → Result (Unit {0}) Refusal → List Letter
gone_after gone letter (Ok done) = gone ++ letter ∷ []
gone_after gone letter (Err refusal) = gone

-- a send puts a letter after those that have gone, unless it failed, and leaves what is waiting. It is counted as a call, and fails where
-- it is the one that shall; it may fail elsewhere, for want of memory
pub record FakeSent (old new : FakePort) (receiver : NodeId) (bytes : List ℕ) (result : Result (Unit {0}) Refusal) : Type 0 where
  pub gone : new.gone.items ≡ gone_after old.gone.items (record { receiver = receiver; bytes = bytes }) result
  pub waiting : new.waiting.items ≡ old.waiting.items
  pub left : new.left ≡ old.left - 1
  pub due : old.left ≡ 1 → result ≡ Err PortFault
  pub faults : new.faults ≡ faults_after old.faults result

-- ---- a socket

-- its count
abbrev pub udp_count : UdpPort → ℕ
udp_count port = port.faults

-- it has its number, and finds nodes where it found them
pub record IsSamePort (old new : UdpPort) : Type 0 where
  pub number : new.number ≡ old.number
  pub addresses : new.addresses ≡ old.addresses

-- a receive asks the system to send nothing. What the system gives no contract can say
pub record UdpReceived (old new : UdpPort) (taken : Result (Option (List ℕ)) Refusal) : Type 0 where
  pub same : IsSamePort old new
  pub socket : new.socket ≡ old.socket
  pub faults : new.faults ≡ faults_after old.faults taken

-- a send asks the system once to send so many bytes to where the node is found, and comes to what the system made of it; where the node
-- isn't found it asks nothing, and fails. What the system does then no contract can say
pub record UdpSent (old new : UdpPort) (receiver : NodeId) (bytes : List ℕ) (result : Result (Unit {0}) Refusal) : Type 0 where
  pub same : IsSamePort old new
  pub faults : new.faults ≡ faults_after old.faults result
  pub asks : AsksAt (option_map loopback (address_of old.addresses receiver)) old.socket new.socket bytes result
