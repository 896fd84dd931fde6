-- A floor that was to rise, and the notices of it: what a raise of a port does, by what the node's does and what goes out of its outbox.
-- Needed by `LetterPort::raise`.
use Rattle.std.proofs.Common.{◌≡◌, [], length, replicate, if◌then◌else◌, Result}
use Rattle.xid.specs.Places.{Place}
use Rattle.xid.specs.declared.refusals.Refusal.{Refusal}
use Rattle.protocol.specs.declared.nodes.NodeId.{NodeId}
use Rattle.protocol.specs.declared.nodes.NodeId.TheVariants.{A, L, R}
use Rattle.node_core.specs.Opening.{restart_answer}
use Rattle.floors.specs.Worlds.{is_done, notices_of}
use Rattle.node_core.specs.Places.{node_count}
use Rattle.letters.specs.Letters.{letter_spelling}
use Rattle.port.specs.Calls.{Raises, Sending}
use Rattle.port.specs.Members.{MemberParts}
use Rattle.letter_port.specs.declared.outbox.Outbox.{Outbox}
use Rattle.letter_port.specs.LetterPorts.{LetterParts, RaisesInLetters}
use Rattle.letter_port.specs.Outboxes.{AllGo, OutboxSent}
use Rattle.letter_port.proofs.Emptying.{notices_out, seen_out}

-- what was asked for was done, and its notices went in letters
pub raised : {P : Type 0} (Sent : Sending P) (place : Place) (who : NodeId) (was is : MemberParts) (old middle new : Outbox P)
    (before inside after : LetterParts P) (result : Result (Unit {0}) Refusal) → inside ≡ before → inside.sizes ≡ old.sizes
    → inside.port ≡ old.port → after.sizes ≡ new.sizes → after.port ≡ new.port
    → old.letters.items ≡ replicate (node_count old.sizes) (letter_spelling [])
    → Raises (OutboxSent Sent) place who was is old middle result → AllGo Sent (length middle.letters.items) middle new
    → RaisesInLetters Sent place who was is before after result
raised Sent place (R rm) was is old middle new before inside after result same sizes_were port_was sizes_are port_is empty raises go =
    λ config m stands.
    let does = raises config m stands in record {
      raises = does.raises;
      sends = seen_out Sent old new _ before inside after same sizes_were port_was sizes_are port_is
          (notices_out Sent (if is_done (restart_answer result) then notices_of config rm is.floored.floor else []) old middle new empty
          does.tells go);
    }
raised Sent place (A a) was is old middle new before inside after result same sizes_were port_was sizes_are port_is empty raises go = (
  raises.0,
  raises.2,
  seen_out Sent old new [] before inside after same sizes_were port_was sizes_are port_is
      (notices_out Sent [] old middle new empty raises.1 go),
)
raised Sent place (L l) was is old middle new before inside after result same sizes_were port_was sizes_are port_is empty raises go = (
  raises.0,
  raises.2,
  seen_out Sent old new [] before inside after same sizes_were port_was sizes_are port_is
      (notices_out Sent [] old middle new empty raises.1 go),
)
