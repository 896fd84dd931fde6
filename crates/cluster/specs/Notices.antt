-- What comes of notices: they are told to acceptors and leaders where a floor rises, and kept in memory where they are heard.
use Rattle.std.specs.Prelude.{◌≡◌, ℕ, ◌+◌, ◌++◌, Bool, true, false, if◌then◌else◌, [], List, length, replicate, slice_index_or, Option}
use Rattle.std.specs.Prelude.{Some, None, is_some, Result, Ok, Err}
use Rattle.std.specs.List.{slice_set}
use Rattle.xid.specs.Places.{Place}
use Rattle.floors.specs.Worlds.{Notice, least_of, notices_of}
use Rattle.node_core.specs.Configs.{config_by}
use Rattle.floored.specs.Nodes.{FlooredParts, FlooredRaises, FlooredStands}
use Rattle.floored.specs.Told.{HasHeard}
use Rattle.xid.specs.declared.refusals.Refusal.{Refusal}
use Rattle.protocol.specs.declared.events.Told.{Told}
use Rattle.protocol.specs.Effects.{Config}
use Rattle.protocol.specs.Nodes.{NodeState}
use Rattle.node_core.specs.declared.config.Sizes.{Sizes}
use Rattle.cluster.specs.Clusters.{NoticesParts}
use Rattle.cluster.specs.declared.notices.KeptNotice.{KeptNotice}

-- a notice as it is kept
abbrev pub shown_notice : KeptNotice → Notice
shown_notice kept = record { manager = kept.manager; receiver = kept.receiver; place = kept.floor }

-- a notice as it is listed with its number
abbrev pub notice_in : Told → Notice
notice_in told = record { manager = told.manager; receiver = told.receiver; place = told.floor }

-- how many nodes are told a floor
abbrev pub told_count : Sizes → ℕ
told_count sizes = sizes.acceptors + sizes.leaders

-- a resource manager's floor, if it has one, was told to all of them; what they heard before stays
pub record HaveTold (sizes : Sizes) (manager : ℕ) (floor : Option Place) (old new : NoticesParts) : Type 0 where
  pub all_are : new.all ≡ old.all ++ notices_of (config_by sizes []) manager floor
  pub told_are : new.told ≡ old.told

-- what was told to the node of a place
abbrev pub told_in : NoticesParts → ℕ → List (Option Place)
told_in notices at = slice_index_or notices.told at []

-- the node of a place heard a notice, and this is the least then that it was told of all resource managers; all else is as it was
pub record HasHeardAt (at : ℕ) (notice : Notice) (old new : NoticesParts) (least : Option Place) : Type 0 where
  pub list : List (Option Place)
  pub heard : HasHeard (record { manager = notice.manager; floor = notice.place }) (told_in old at) list
  pub new_is : new ≡ record old { told = slice_set old.told at list }
  pub least_is : least ≡ least_of list

-- notices of which the node of a place has forgotten all that it was told
abbrev pub forgotten_at : ℕ → NoticesParts → NoticesParts
forgotten_at at old = record old { told = slice_set old.told at (replicate (length (told_in old at)) None) }

-- whether none stands in for a node since that has stored something, or has a higher floor
abbrev pub is_in_use : Result (Unit {0}) Refusal → Bool
is_in_use (Err Refusal.InUse) = true
is_in_use result = false

-- notices once a blank node was to stand in for the one of a place: what that was told is forgotten, but where it is in use
abbrev pub replaced_at : ℕ → Result (Unit {0}) Refusal → NoticesParts → NoticesParts
replaced_at at result old = if is_in_use result then old else forgotten_at at old

-- ---- floors that rise

-- a node's floor was to rise to a place, whatever node of the machine it stood for; and whether its record may fail of itself stays
pub record RaisesTo (place : Place) (old new : FlooredParts) (result : Result (Unit {0}) Refusal) : Type 0 where
  pub raises : (config : Config) (m : NodeState) → FlooredStands config old m → FlooredRaises config m place old new result
  pub may_fail_is : new.node.held.nature.may_fail ≡ old.node.held.nature.may_fail

-- it was to rise to the least that was told; where there is none, nothing came of it
abbrev pub RaisesToLeast : Option Place → (old new : FlooredParts) → Result (Unit {0}) Refusal → Type 0
RaisesToLeast None old new result = (new ≡ old) × (result ≡ Ok tt)
RaisesToLeast (Some place) old new result = RaisesTo place old new result

-- a resource manager that is up has told its own floor
pub record HasToldOwn (sizes : Sizes) (manager : ℕ) (floored : FlooredParts) (old new : NoticesParts) : Type 0 where
  pub floor : Option Place
  pub own : is_some floored.node.role ≡ true → floor ≡ floored.floor
  pub told : HaveTold sizes manager floor old new
