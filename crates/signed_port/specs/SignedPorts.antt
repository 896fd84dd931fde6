-- What a port over a carrier makes of the carrier's receives and sends.
use Rattle.std.specs.Prelude.{◌≡◌, ◌⊎◌, ◌<◌, ◌+◌, min, ℕ, List, length, take, Option, Some, None, Result, Ok, Err}
use Rattle.xid.specs.declared.refusals.Refusal.{Refusal}
use Rattle.xid.specs.declared.refusals.Refusal.TheVariants.{PortFault}
use Rattle.stable_record.specs.Held.{most_faults}
use Rattle.wire.specs.declared.grammar.TheConstants.{MAX_DATAGRAM}
use Rattle.protocol.specs.declared.nodes.NodeId.{NodeId}
use Rattle.port.specs.declared.port.TheConstants.{MAX_TAKEN}
use Rattle.port.specs.Calls.{Receiving, Sending}
use Rattle.port.specs.Ports.{faults_after}
use Rattle.signed_port.specs.declared.plain.PlainPort.{PlainPort}
use Rattle.signed_port.specs.declared.signed.SignedPort.{SignedPort}
use Rattle.signed_port.specs.declared.signing.Signer.{Signer}
use Rattle.signed_port.specs.Signing.{signed, IsSigned}

-- ---- a port whose datagrams are signed

-- its count
abbrev pub signed_count : {C : Type 0} → SignedPort C → ℕ
signed_count port = port.faults

-- what it gives of what the carrier gave: the bytes of a datagram that is signed for this node; one that isn't is refused
abbrev pub Checks : Signer → (carried taken : Result (Option (List ℕ)) Refusal) → Type 0
Checks signer (Ok None) taken = taken ≡ Ok None
Checks signer (Ok (Some datagram)) (Ok None) = ⊥
Checks signer (Ok (Some datagram)) (Ok (Some body)) = IsSigned signer.key.block signer.digest signer.who body datagram
Checks signer (Ok (Some datagram)) (Err refusal) =
    (refusal ≡ PortFault) × ((body : List ℕ) → IsSigned signer.key.block signer.digest signer.who body datagram → ⊥)
Checks signer (Err refusal) taken = taken ≡ Err PortFault

-- a count of datagrams that were dropped: one more if the carrier gave one and the port refused it, up to the greatest
abbrev pub dropped_after : ℕ → (carried taken : Result (Option (List ℕ)) Refusal) → ℕ
dropped_after dropped (Ok (Some datagram)) (Err refusal) = min (dropped + 1) most_faults
dropped_after dropped (Ok (Some datagram)) (Ok taken) = dropped
dropped_after dropped (Ok None) taken = dropped
dropped_after dropped (Err refusal) taken = dropped

-- a receive is one of the carrier, and what it gives was signed
pub record SignedReceived {C : Type 0} (Received : Receiving C) (old new : SignedPort C) (taken : Result (Option (List ℕ)) Refusal)
    : Type 0 where
  pub signer : new.signer ≡ old.signer
  pub faults : new.faults ≡ faults_after old.faults taken
  pub carried : Result (Option (List ℕ)) Refusal
  pub received : Received old.carrier new.carrier carried
  pub checks : Checks old.signer carried taken
  pub dropped : new.dropped ≡ dropped_after old.dropped carried taken

-- a send is one of the carrier, of the signed bytes, unless they are too many
abbrev pub SendsSigned : {C : Type 0} → Sending C → (old new : SignedPort C) → NodeId → List ℕ → Result (Unit {0}) Refusal → Type 0
SendsSigned Sent old new receiver bytes result =
    ((MAX_DATAGRAM < length bytes) × (new.carrier ≡ old.carrier) × (result ≡ Err PortFault))
    ⊎ Sent old.carrier new.carrier receiver (signed old.signer.key.block old.signer.digest old.signer.who receiver bytes) result

-- a send signs, and leaves the signer
pub record SignedSent {C : Type 0} (Sent : Sending C) (old new : SignedPort C) (receiver : NodeId) (bytes : List ℕ)
    (result : Result (Unit {0}) Refusal) : Type 0 where
  pub signer : new.signer ≡ old.signer
  pub faults : new.faults ≡ faults_after old.faults result
  pub dropped : new.dropped ≡ old.dropped
  pub sends : SendsSigned Sent old new receiver bytes result

-- ---- a port that signs nothing

-- its count
abbrev pub plain_count : {C : Type 0} → PlainPort C → ℕ
plain_count port = port.faults

-- what it gives of what the carrier gave: the same, as far as its buffer reaches
abbrev pub Passes : (carried taken : Result (Option (List ℕ)) Refusal) → Type 0
Passes (Ok None) taken = taken ≡ Ok None
Passes (Ok (Some datagram)) taken = taken ≡ Ok (Some (take MAX_TAKEN datagram))
Passes (Err refusal) taken = taken ≡ Err PortFault

-- a receive is one of the carrier
pub record PlainReceived {C : Type 0} (Received : Receiving C) (old new : PlainPort C) (taken : Result (Option (List ℕ)) Refusal)
    : Type 0 where
  pub faults : new.faults ≡ faults_after old.faults taken
  pub carried : Result (Option (List ℕ)) Refusal
  pub received : Received old.carrier new.carrier carried
  pub passes : Passes carried taken

-- a send is one of the carrier, of the same bytes
pub record PlainSent {C : Type 0} (Sent : Sending C) (old new : PlainPort C) (receiver : NodeId) (bytes : List ℕ)
    (result : Result (Unit {0}) Refusal) : Type 0 where
  pub faults : new.faults ≡ faults_after old.faults result
  pub sends : Sent old.carrier new.carrier receiver bytes result
