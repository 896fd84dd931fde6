-- What comes of a node whose floor was to rise.
use Rattle.std.specs.Prelude.{◌≡◌, ◌⊎◌, ℕ, Bool, true, false, List, IsTrue, Option, Some, None, Result, Ok, Err}
use Rattle.xid.specs.Places.{Place, IsPlace}
use Rattle.xid.specs.declared.refusals.Refusal.{Refusal}
use Rattle.stable_record.specs.declared.fact.FactKind.{FactKind as Fact}
use Rattle.stable_record.specs.declared.record.RecordError.{RecordError}
use Rattle.stable_record.specs.Held.{HasRead, Held, IsCounted, refusal_of}
use Rattle.stable_record.specs.Behind.{BehindParts, HasFailedToRise, IsFronting, risen}
use Rattle.protocol.specs.declared.nodes.NodeId.{NodeId}
use Rattle.protocol.specs.declared.nodes.NodeId.TheVariants.{R}
use Rattle.protocol.specs.declared.rows.Row.{Row}
use Rattle.protocol.specs.Effects.{Config}
use Rattle.protocol.specs.Kept.{are_free_below, kept_memory}
use Rattle.protocol.specs.Nodes.{NodeState, Memory, down_node}
use Rattle.resource_manager.specs.Left.{AreAlike, HasFirstRows, left_facts, left_node, rows_of}
use Rattle.node_core.specs.declared.role.Role.{Role}
use Rattle.node_core.specs.Compacting.{Shortens}
use Rattle.node_core.specs.Nodes.{NodeParts, Stands}
use Rattle.node_core.specs.Roles.{RoleStands}

-- whether nothing keeps a node's floor from rising to a place: a resource manager has no branch below it
abbrev pub is_clear_below : NodeId → Place → List Fact → Memory → Bool
is_clear_below (R rm) place facts memory = are_free_below place facts memory.branches
is_clear_below who place facts memory = true

-- a role says whether nothing keeps its floor from rising, for whatever it stands for
abbrev pub TellsClear : Place → Role → Bool → Type 0
TellsClear place role free =
    (config : Config) (who : NodeId) (facts : List Fact) (memory : Memory) → RoleStands config who role facts memory
    → free ≡ is_clear_below who place facts memory

-- a cluster that is alike to a node, in which a resource manager's table begins with the rows that it has
pub record GoesOnIn (config : Config) (who : NodeId) (facts : List Fact) (next : Config) : Type 0 where
  pub alike : AreAlike who next config
  pub begins : HasFirstRows next who (rows_of config who facts)

-- what is left of a role stands for what is left of whatever it stood for, where nothing keeps its floor from rising
abbrev pub Leaves : Place → (old left : Role) → Type 0
Leaves place old left =
    (config next : Config) (who : NodeId) (facts : List Fact) (memory : Memory) → RoleStands config who old facts memory
    → is_clear_below who place facts memory ≡ true → GoesOnIn config who facts next
    → RoleStands next who left (left_facts who (Some place) facts) (kept_memory (Some place) memory)

-- what is left of a role, whose frames stand behind a floor then
abbrev pub Forgets : Place → Role → (old new : BehindParts) → Result Role Refusal → Type 0
Forgets place role old new (Ok left) =
    Leaves place role left × (bytes : List ℕ) × Shortens left bytes × IsPlace place
    × (new ≡ record { floor = Some place; held = risen place bytes old.held; is_known = true })
Forgets place role old new (Err Refusal.RecordFault) =
    (left : Role) × Leaves place role left × (bytes : List ℕ) × Shortens left bytes × HasFailedToRise place bytes old new
Forgets place role old new (Err Refusal.NoMemory) = new ≡ old
Forgets place role old new (Err other) = ⊥

-- a floor rose: what is left of the node stands behind it, in a cluster that is alike
pub record IsRaised (config : Config) (who : NodeId) (own : List Row) (m : NodeState) (place : Place) (new : BehindParts)
    (role : Option Role) : Type 0 where
  pub floor_is : new.floor ≡ Some place
  pub fronting : IsFronting new.floor new.held
  pub next : Config
  pub goes_on : GoesOnIn config who m.facts next
  pub stands : Stands next who own new.held role (left_node who (Some place) m)

-- a record counted a failure, which it may have, and a tear stays armed
pub record HasCountedFault (old new : Held) : Type 0 where
  pub may : IsTrue old.nature.may_fail
  pub counted : IsCounted old.faults new.faults
  pub armed : new.armed ≡ old.armed

-- a record failed where a floor was to rise: the node is down, over what it had, or over what is left of it
abbrev pub IsRaisedOrNot : Config → NodeId → (own : List Row) → NodeState → Place → (old new : BehindParts) → Option Role → Type 0
IsRaisedOrNot config who own m place old new role =
    ((new.floor ≡ old.floor) × IsFronting new.floor new.held × Stands config who own new.held role (down_node m))
    ⊎ IsRaised config who own (down_node m) place new role

-- what comes of a node whose floor was to rise to a place
abbrev pub Raises : Config → NodeId → (own : List Row) → NodeState → Place → (old new : BehindParts) → (was now : Option Role)
    → Result (Unit {0}) Refusal → Type 0
Raises config who own m place old new was now (Ok done) =
    (m.up ≡ true) × (is_clear_below who place m.facts m.memory ≡ true) × (new.held.faults ≡ old.held.faults)
    × (new.held.armed ≡ old.held.armed) × IsRaised config who own m place new now
Raises config who own m place old new was now (Err Refusal.Down) = (m.up ≡ false) × (new ≡ old) × (now ≡ was)
Raises config who own m place old new was now (Err Refusal.Busy) =
    (m.up ≡ true) × (is_clear_below who place m.facts m.memory ≡ false) × (new ≡ old) × (now ≡ was)
Raises config who own m place old new was now (Err Refusal.RecordFault) =
    (m.up ≡ true) × (is_clear_below who place m.facts m.memory ≡ true) × (now ≡ None)
    × HasCountedFault old.held new.held × IsFronting old.floor old.held × IsRaisedOrNot config who own m place old new now
Raises config who own m place old new was now (Err Refusal.NoMemory) =
    (m.up ≡ true) × (is_clear_below who place m.facts m.memory ≡ true) × (new ≡ old) × (now ≡ None)
Raises config who own m place old new was now (Err other) = ⊥

-- ---- the whole node

-- a node's floor was to rise to a place, from the one that its record stands behind
pub record RaisesAs (config : Config) (m : NodeState) (place : Place) (old new : NodeParts) (result : Result (Unit {0}) Refusal) : Type 0
  where
    pub who_is : new.who ≡ old.who
    pub sizes_are : new.sizes ≡ old.sizes
    pub rows_are : new.rows ≡ old.rows
    pub before : BehindParts
    pub after : BehindParts
    pub before_is : before.held ≡ old.held
    pub after_is : after.held ≡ new.held
    pub raises : Raises config old.who old.rows m place before after old.role new.role result

-- a node's floor was learned, or the read that was to tell it was refused: nothing else changes
abbrev pub LearnsFloor : (old new : NodeParts) → Result (Option Place) Refusal → Type 0
LearnsFloor old new (Ok floor) = (new ≡ old) × IsFronting floor old.held
LearnsFloor old new (Err refusal) =
    (error : RecordError) × (refusal ≡ refusal_of error) × HasRead {T = Unit {0}} old.held new.held (Err error)
    × (new ≡ record old { held = new.held })
