-- What an auditor keeps of floors.
use Rattle.std.specs.Prelude.{◌≡◌, ℕ, ◌+◌, ◌*◌, Bool, true, ◌==◌, if◌then◌else◌, List, Option, Some, None, drop}
use Rattle.std.specs.Map.{lookup}
use Rattle.std.specs.Option.{option_map_or}
use Rattle.xid.specs.Places.{Place}
use Rattle.protocol.specs.declared.events.Told.{Told}
use Rattle.protocol.specs.declared.nodes.NodeId.{NodeId}
use Rattle.protocol.specs.declared.nodes.NodeId.TheVariants.{A, L}
use Rattle.safety.specs.Vocabulary.{R, Step}
use Rattle.net_script.specs.declared.values.Trace.{Trace}
use Rattle.audit.specs.Told.{history_of, each_step}
use Rattle.audit.specs.Floors.{FloorsTold, no_floors, floors_back, stays_above}
use Rattle.audit.specs.declared.floors.Earlier.{Earlier}
use Rattle.audit.specs.declared.floors.Floors.{Floors}

-- what stands beside a number, if it is there
abbrev pub entry_of : {X : Type 0} → List (ℕ × X) → ℕ → Option X
entry_of entries number = lookup (λ other. number == other) entries

-- a number for each node: the three kinds take turns
abbrev pub place_of : NodeId → ℕ
place_of (A number) = 3 * number
place_of (L number) = 3 * number + 1
place_of (R number) = 3 * number + 2

-- the floor of a node
abbrev pub floor_at : Floors → NodeId → Option Place
floor_at floors who = entry_of floors.floors.entries (place_of who)

-- what was told of a resource manager's floor, of what one node was told
abbrev pub told_in : Option (List (ℕ × Place)) → ℕ → Option Place
told_in told rm = option_map_or (λ entries. entry_of entries rm) told None

-- what a node was told of a resource manager's floor
abbrev pub told_at : Floors → NodeId → ℕ → Option Place
told_at floors who rm = told_in (entry_of floors.told.entries (place_of who)) rm

-- the notice of a number
abbrev pub notice_at : Floors → ℕ → Option Told
notice_at floors number = entry_of floors.notices.entries number

-- a floor, or that which it had earlier where it is of this place
abbrev pub or_earlier : Option Earlier → ℕ → Option Place → Option Place
or_earlier None place floor = floor
or_earlier (Some earlier) place floor = if earlier.place == place then earlier.floor else floor

-- the floor that a node had before the last that happened
abbrev pub floor_before : Floors → NodeId → Option Place
floor_before floors who = or_earlier floors.before (place_of who) (floor_at floors who)

-- what is kept is what a trace tells of floors
pub record Keeps (floors : Floors) (tale : FloorsTold) : Type 0 where
  pub floor : (who : NodeId) → floor_at floors who ≡ tale.floor who
  pub told : (who : NodeId) (rm : ℕ) → told_at floors who rm ≡ tale.told who rm
  pub notice : (number : ℕ) → notice_at floors number ≡ tale.notice number

-- and these were the floors before the last that happened
abbrev pub HadBefore : Floors → (NodeId → Option Place) → Type 0
HadBefore floors before = (who : NodeId) → floor_before floors who ≡ before who

-- what is kept of floors is what a history tells, in a cluster of so many resource managers
pub record FollowsFloors (floors : Floors) (managers : ℕ) (history : List Step) : Type 0 where
  pub managers_are : floors.managers ≡ managers
  pub keeps : Keeps floors (floors_back managers history)
  pub before : HadBefore floors (floors_back managers (drop 1 history)).floor

-- it is what the lines of this trace so far tell; nothing, before the first
abbrev pub HasHeardFloors : Floors → Option Trace → Type 0
HasHeardFloors floors None = Keeps floors no_floors × HadBefore floors (λ who. None)
HasHeardFloors floors (Some t) = FollowsFloors floors t.sizes.rms (history_of t.entries)

-- whether no step of a trace so far takes part below a floor
abbrev pub are_above : Option Trace → Bool
are_above None = true
are_above (Some t) = each_step (stays_above t.sizes.rms) (history_of t.entries)
