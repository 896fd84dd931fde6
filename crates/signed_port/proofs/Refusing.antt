-- What a port gives and refuses of what its carrier gave.
use Rattle.std.proofs.Common.{◌≡◌, ℕ, ◌+◌, ◌≤◌, min, List, length, take, Some, Ok, Err, refl, sym, ◌∙◌, subst, ap, arith}
use Rattle.std.proofs.lemmas.List.{length-take, take_all}
use Rattle.xid.specs.declared.refusals.Refusal.{Refusal}
use Rattle.xid.specs.declared.refusals.Refusal.TheVariants.{PortFault}
use Rattle.stable_record.specs.Held.{most_faults}
use Rattle.protocol.specs.declared.nodes.NodeId.{NodeId}
use Rattle.port.specs.Calls.{Receiving}
use Rattle.signed_port.specs.declared.plain.PlainPort.{PlainPort}
use Rattle.signed_port.specs.declared.signed.SignedPort.{SignedPort}
use Rattle.signed_port.specs.Signing.{IsSigned}
use Rattle.signed_port.specs.SignedPorts.{SignedReceived, PlainReceived}

-- where the carrier failed
pub is_failed : {C : Type 0} (Received : Receiving C) (old new : SignedPort C) (mid : C) (theirs refusal : Refusal)
    → Received old.carrier mid (Err theirs) → refusal ≡ PortFault
    → new ≡ record { carrier = mid; signer = old.signer; faults = min (old.faults + 1) most_faults; dropped = old.dropped }
    → SignedReceived Received old new (Err refusal)
is_failed {C} Received old new mid theirs refusal received fault same =
    let Goal : SignedPort C → Type 0 = λ p. SignedReceived Received old p (Err refusal) in
    subst Goal (sym same) (record {
      signer = refl;
      faults = refl;
      carried = Err theirs;
      received = received;
      checks = ap Err fault;
      dropped = refl;
    })

-- where it gave a datagram that isn't signed
pub is_dropped : {C : Type 0} (Received : Receiving C) (old new : SignedPort C) (mid : C) (datagram : List ℕ) (refusal : Refusal)
    → Received old.carrier mid (Ok (Some datagram)) → refusal ≡ PortFault
    → ((body : List ℕ) → IsSigned old.signer.key.block old.signer.digest old.signer.who body datagram → ⊥)
    → new ≡ record {
      carrier = mid;
      signer = old.signer;
      faults = min (old.faults + 1) most_faults;
      dropped = min (old.dropped + 1) most_faults;
    }
    → SignedReceived Received old new (Err refusal)
is_dropped {C} Received old new mid datagram refusal received fault unsigned same =
    let Goal : SignedPort C → Type 0 = λ p. SignedReceived Received old p (Err refusal) in
    subst Goal (sym same) (record {
      signer = refl;
      faults = refl;
      carried = Ok (Some datagram);
      received = received;
      checks = (fault, unsigned);
      dropped = refl;
    })

-- the bytes that were signed are given whole
pub is_given : (key digest : List ℕ) (me : NodeId) (carried body given : List ℕ) (len : ℕ) → len ≤ 1435
    → IsSigned key digest me body (take len carried) → length body + 34 ≡ length (take len carried) → given ≡ take 1401 body
    → IsSigned key digest me given (take len carried)
is_given key digest me carried body given len within is long front =
    let cut : length (take len carried) ≡ min len (length carried) = length-take len carried in
    let few : length body ≤ 1401 = omega (arith, cut, long, within) in
    let same : given ≡ body = front ∙ take_all 1401 body few in
    let P : List ℕ → Type 0 = λ b. IsSigned key digest me b (take len carried) in
    subst P (sym same) is

-- where the carrier of a port that signs nothing failed
pub is_plain_failed : {C : Type 0} (Received : Receiving C) (old new : PlainPort C) (mid : C) (theirs refusal : Refusal)
    → Received old.carrier mid (Err theirs) → refusal ≡ PortFault
    → new ≡ record { carrier = mid; faults = min (old.faults + 1) most_faults }
    → PlainReceived Received old new (Err refusal)
is_plain_failed {C} Received old new mid theirs refusal received fault same =
    let Goal : PlainPort C → Type 0 = λ p. PlainReceived Received old p (Err refusal) in
    subst Goal (sym same) (record { faults = refl; carried = Err theirs; received = received; passes = ap Err fault })
