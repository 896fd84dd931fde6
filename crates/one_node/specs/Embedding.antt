-- What the node of this process is at first, and what its rounds make of it.
use Rattle.std.specs.Prelude.{◌≡◌, ℕ, zero, suc, List, [], ◌∷◌, Option, None, Result}
use Rattle.xid.specs.declared.refusals.Refusal.{Refusal}
use Rattle.stable_record.specs.Records.{just_opened}
use Rattle.protocol.specs.declared.nodes.NodeId.TheVariants.{R}
use Rattle.node_core.specs.Configs.{config_of}
use Rattle.floored.specs.Nodes.{IsFlooredOpened}
use Rattle.port.specs.Members.{MemberParts}
use Rattle.port.specs.declared.calling.Served.{Served}
use Rattle.port.specs.Calls.{Receiving, Sending, Serves}

-- resource manager 0 of a cluster of one node of each kind, whose table is empty at first, was opened over the bytes of a file
pub record IsTakenUp (node : MemberParts) : Type 0 where
  pub bytes : List ℕ
  pub opened : IsFlooredOpened (config_of 1 1 1 ([] ∷ [])) (R 0) (just_opened bytes) node.floored
  pub told_is : node.told ≡ None ∷ []

-- a round followed others: the node took a datagram at its port, or none
pub record ServesNext {P : Type 0} (Received : Receiving P) (Sent : Sending P) (Before : MemberParts → P → Type 0) (new : MemberParts)
    (after : P) : Type 0 where
  pub node : MemberParts
  pub port : P
  pub result : Result (Option Served) Refusal
  pub earlier : Before node port
  pub serves : Serves Received Sent node new port after result

-- so many rounds
abbrev pub ServesRounds : {P : Type 0} → Receiving P → Sending P → ℕ → (old new : MemberParts) → (before after : P) → Type 0
ServesRounds Received Sent zero old new before after = (new ≡ old) × (after ≡ before)
ServesRounds Received Sent (suc k) old new before after =
    ServesNext Received Sent (λ node port. ServesRounds Received Sent k old node before port) new after
