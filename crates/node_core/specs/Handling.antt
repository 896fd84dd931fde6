-- What a node makes of an input at its record, whichever node of the machine it stands for.
use Rattle.std.specs.Prelude.{◌≡◌, ◌⊎◌, Bool, true, false, List, Option, Some, None}
use Rattle.xid.specs.declared.refusals.Refusal.TheVariants.{NoSuch}
use Rattle.stable_record.specs.declared.fact.FactKind.{FactKind as Fact}
use Rattle.stable_record.specs.Held.{Held}
use Rattle.protocol.specs.declared.answers.Answer.TheVariants.{Refused}
use Rattle.protocol.specs.declared.nodes.NodeId.{NodeId}
use Rattle.protocol.specs.Effects.{Config}
use Rattle.protocol.specs.Nodes.{Memory, Input, accepts_input, effect_of, down_answer}
use Rattle.node_core.specs.declared.config.Sizes.{Sizes}
use Rattle.node_core.specs.declared.output.Output.{Output}
use Rattle.node_core.specs.declared.role.Role.{Role}
use Rattle.node_core.specs.Roles.{RoleStands}
use Rattle.node_core.specs.Storing.{Carries, carried, output_of}
use Rattle.node_core.specs.Nodes.{AreSizes, role_settled}
use Rattle.node_core.specs.Sparing.{is_free}

-- a request that its kind doesn't take was refused, and nothing changed
pub record IsNotTaken (who : NodeId) (input : Input) (old new : Held) (was role : Option Role) (out : Output) : Type 0 where
  pub refused : accepts_input who input ≡ false
  pub out_is : out ≡ output_of (Refused NoSuch) None
  pub held_is : new ≡ old
  pub role_is : role ≡ was

-- the node was down, and nothing changed
pub record IsFoundDown (who : NodeId) (input : Input) (old new : Held) (was role : Option Role) (out : Output) : Type 0 where
  pub accepted : accepts_input who input ≡ true
  pub was_is : was ≡ None
  pub out_is : out ≡ output_of (down_answer input) None
  pub held_is : new ≡ old
  pub role_is : role ≡ None

-- the node was up, and what its role decided was carried out, or it is down; where it wants no memory and stores nothing, it is up
pub record IsCarriedOut (who : NodeId) (sizes : Sizes) (input : Input) (old new : Held) (was role : Option Role) (out : Output)
    : Type 0 where
  pub accepted : accepts_input who input ≡ true
  pub before : Role
  pub after : Role
  pub up : Bool
  pub was_is : was ≡ Some before
  pub role_is : role ≡ role_settled (Some after) up
  pub carries : (config : Config) (facts : List Fact) (memory : Memory) → AreSizes config sizes → RoleStands config who before facts memory
      → Carries config who facts memory (effect_of config who facts memory input) old new after (carried up out)
  pub free : is_free who input ≡ true → (config : Config) (facts : List Fact) (memory : Memory) → AreSizes config sizes
      → RoleStands config who before facts memory → (effect_of config who facts memory input).fact ≡ None → up ≡ true

-- an input was handled at a record, which it has made another, by a role, which it has made another
abbrev pub Handles : NodeId → Sizes → Input → (old new : Held) → (was role : Option Role) → Output → Type 0
Handles who sizes input old new was role out =
    IsNotTaken who input old new was role out ⊎ (IsFoundDown who input old new was role out
    ⊎ IsCarriedOut who sizes input old new was role out)
