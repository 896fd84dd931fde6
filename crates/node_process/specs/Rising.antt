-- A resource manager's floor that rises by itself, or is told again.
use Rattle.std.specs.Prelude.{◌≡◌, ◌⊎◌, Bool, true, false, Some, Result, Ok, is_some}
use Rattle.std.specs.Option.{option_and_then}
use Rattle.xid.specs.Names.{XidParts}
use Rattle.xid.specs.Places.{Place, is_lower, is_xid_below}
use Rattle.xid.specs.declared.refusals.Refusal.{Refusal}
use Rattle.port.specs.Calls.{Sending}
use Rattle.port.specs.Members.{MemberParts}
use Rattle.letter_port.specs.LetterPorts.{LetterParts, RaisesInLetters}
use Rattle.serving.specs.declared.branches.Branches.{Branches}
use Rattle.serving.specs.declared.terms.Terms.{Terms}
use Rattle.serving.specs.Noted.{known}
use Rattle.serving.specs.Times.{floor_of}
use Rattle.node_process.specs.Saying.{Stay}

-- a place isn't above another, nor above any branch that clients have begun
pub record IsLetBy (branches : Branches) (wanted place : Place) : Type 0 where
  pub within : is_lower (Some wanted) (Some place) ≡ false
  pub begun : (x : XidParts) → is_some (known branches x) ≡ true → is_xid_below (Some place) x ≡ false

-- a floor was to rise to a place: to where the clock and the latest name let it, but not above a branch that clients have begun
pub record Rises {P : Type 0} (Sent : Sending P) (terms : Terms) (branches : Branches) (has_risen : Bool) (was is : MemberParts)
    (before after : LetterParts P) : Type 0 where
  pub wanted : Place
  pub by_time : option_and_then (λ times. floor_of times terms.clock terms.latest) terms.times ≡ Some wanted
  pub place : Place
  pub is_let : IsLetBy branches wanted place
  pub result : Result (Unit {0}) Refusal
  pub raises : RaisesInLetters Sent place was.floored.node.who was is before after result
  pub risen : has_risen ≡ true → result ≡ Ok tt

-- a floor was to rise by itself, or nothing happened
abbrev pub MayRise : {P : Type 0} → Sending P → Terms → Branches → (has_risen : Bool) → (was is : MemberParts)
    → (before after : LetterParts P) → Type 0
MayRise Sent terms branches has_risen was is before after =
    (Stay was is before after × (has_risen ≡ false)) ⊎ Rises Sent terms branches has_risen was is before after

-- a resource manager was to raise its floor to where it stands, so that it tells it
pub record TellsAgain {P : Type 0} (Sent : Sending P) (was is : MemberParts) (before after : LetterParts P) : Type 0 where
  pub place : Place
  pub its : is_some was.floored.node.role ≡ true → was.floored.floor ≡ Some place
  pub result : Result (Unit {0}) Refusal
  pub raises : RaisesInLetters Sent place was.floored.node.who was is before after result

-- it was, or nothing happened
abbrev pub MayTell : {P : Type 0} → Sending P → (was is : MemberParts) → (before after : LetterParts P) → Type 0
MayTell Sent was is before after = Stay was is before after ⊎ TellsAgain Sent was is before after
