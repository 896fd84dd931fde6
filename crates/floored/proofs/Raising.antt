-- A node that is asked to raise its floor: when it is up.
-- Needed by crates cluster and port.
use Rattle.std.proofs.Common.{◌≡◌, Bool, true, false, not, if◌then◌else◌, Option, Some, refl}
use Rattle.xid.specs.Places.{Place, is_lower}
use Rattle.xid.specs.declared.refusals.Refusal.TheVariants as refusals
use Rattle.protocol.specs.declared.answers.Answer.TheVariants.{Done, Refused}
use Rattle.protocol.specs.Nodes.{NodeState, Fault, NoFault, NoMemoryBefore, NoMemoryAt, RecordFails}
use Rattle.floors.specs.Nodes.{Rise, is_free_below, kept_rise, on_raise, risen}

-- a resource manager whose rise is done is up
module _ (floor : Option Place) (m : NodeState) (place : Place) (fault : Fault) where
  risen_up : (fault : Fault) → m.up ≡ true → (risen floor m place fault).answer ≡ Done → (risen floor m place fault).node.up ≡ true
  risen_up NoFault up done = up
  risen_up NoMemoryBefore up done = up
  risen_up NoMemoryAt up done = absurd (cc (done))
  risen_up (RecordFails whole) up done = absurd (cc (done))

  abbrev rise_by : Bool → Bool → Bool → Rise
  rise_by up lower free =
      if not up then kept_rise floor m (Refused refusals.Down)
      else if not lower then kept_rise floor m Done
      else if not free then kept_rise floor m (Refused refusals.Busy)
      else risen floor m place fault

  up_by : (up lower free : Bool) → m.up ≡ up → (rise_by up lower free).answer ≡ Done → (rise_by up lower free).node.up ≡ true
  up_by true true true up done = risen_up fault up done
  up_by true true false up done = absurd (cc (done))
  up_by true false free up done = up
  up_by false lower free up done = absurd (cc (done))

  pub done_up : (on_raise floor m place fault).answer ≡ Done → (on_raise floor m place fault).node.up ≡ true
  done_up done = up_by m.up (is_lower floor (Some place)) (is_free_below place m) refl done
