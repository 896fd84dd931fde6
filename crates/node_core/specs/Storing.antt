-- How a node carries out what its role decided, and what it leaves of its record.
use Rattle.std.specs.Prelude.{◌≡◌, ◌⊎◌, ℕ, Bool, true, false, ◌==◌, if◌then◌else◌, List, [], ◌∷◌, ◌++◌, length, Option, Some, None, Result}
use Rattle.std.specs.Prelude.{Ok, Err}
use Rattle.xid.specs.declared.refusals.Refusal.TheVariants.{RecordFault, NoMemory}
use Rattle.wire.specs.Versions.{version_2}
use Rattle.stable_record.specs.declared.fact.FactKind.{FactKind as Fact}
use Rattle.stable_record.specs.declared.entry.EntryKind.TheVariants as entries
use Rattle.stable_record.specs.Facts.{IsFact}
use Rattle.stable_record.specs.Grammar.{frame}
use Rattle.stable_record.specs.Held.{Held, IsAdded, IsStopped}
use Rattle.protocol.specs.declared.answers.Answer.{Answer}
use Rattle.protocol.specs.declared.answers.Answer.TheVariants.{Refused}
use Rattle.protocol.specs.declared.events.Change.{Change}
use Rattle.protocol.specs.declared.nodes.NodeId.{NodeId}
use Rattle.protocol.specs.declared.nodes.NodeId.TheVariants.{R}
use Rattle.protocol.specs.declared.states.View.{View}
use Rattle.protocol.specs.Effects.{Config, Effect}
use Rattle.protocol.specs.Nodes.{Memory, plays}
use Rattle.node_core.specs.declared.output.Output.{Output}
use Rattle.node_core.specs.declared.role.Role.{Role}
use Rattle.node_core.specs.declared.storing.Stopped.{Stopped}
use Rattle.node_core.specs.declared.storing.Stopped.TheVariants as stops
use Rattle.node_core.specs.Roles.{RoleStands}

-- a fact's frame as it is written
abbrev pub fact_frame : Fact → List ℕ
fact_frame fact = frame version_2 (entries.Fact fact)

-- an append that was stopped: whether the whole frame was kept
pub record IsTorn (fact : Fact) (old new : Held) (whole : Bool) : Type 0 where
  pub stopped : IsStopped (fact_frame fact) old new
  pub whole_is : whole ≡ (new.kept == length (fact_frame fact))

-- what an append of a fact leaves
abbrev pub HasStored : Fact → (old new : Held) → Result (Unit {0}) Stopped → Type 0
HasStored fact old new (Ok done) = IsAdded (fact_frame fact) old new
HasStored fact old new (Err (stops.Fault whole)) = IsTorn fact old new whole
HasStored fact old new (Err stops.Memory) = new ≡ old

-- an answer and the change of a view, with nothing sent
abbrev pub output_of : Answer → Option Change → Output
output_of reply now = record { reply = reply; now = now; sends = [] }

-- what is put out where an append was stopped
abbrev pub stopped_output : Stopped → Option Change → Output
stopped_output (stops.Fault whole) now = output_of (Refused RecordFault) (if whole then now else None)
stopped_output stops.Memory now = output_of (Refused NoMemory) None

-- the change of a view that a fact makes
abbrev pub change_made : NodeId → Fact → Option Change
change_made (R rm) (Fact.VotePrepared tx keys) = Some (record { rm = rm; tx = tx; view = View.Prepared })
change_made (R rm) (Fact.VoteAborted tx) = Some (record { rm = rm; tx = tx; view = View.Aborted })
change_made (R rm) (Fact.Committed tx) = Some (record { rm = rm; tx = tx; view = View.Committed })
change_made (R rm) (Fact.Aborted tx) = Some (record { rm = rm; tx = tx; view = View.Aborted })
change_made who fact = None

-- a fact was stored and played
pub record IsStoredAs (config : Config) (who : NodeId) (facts : List Fact) (e : Effect Memory) (old new : Held) (role : Role)
    (now : Option Change) (fact : Fact) : Type 0 where
  pub valid : IsFact fact
  pub fits : plays config who facts fact ≡ true
  pub added : IsAdded (fact_frame fact) old new
  pub now_is : now ≡ change_made who fact
  pub stands : RoleStands config who role (facts ++ fact ∷ []) e.memory

-- with nothing to store, the record is as it was
pub record IsUnstored (config : Config) (who : NodeId) (facts : List Fact) (e : Effect Memory) (old new : Held) (role : Role)
    (now : Option Change) : Type 0 where
  pub same : new ≡ old
  pub now_is : now ≡ None
  pub stands : RoleStands config who role facts e.memory

-- what an effect leaves, by the fact that it stores, if it stores one
abbrev pub IsKept : Config → NodeId → List Fact → Effect Memory → (old new : Held) → Role → Option Change → Option Fact → Type 0
IsKept config who facts e old new role now None = IsUnstored config who facts e old new role now
IsKept config who facts e old new role now (Some fact) = IsStoredAs config who facts e old new role now fact

-- the effect was carried out
pub record IsDone (config : Config) (who : NodeId) (facts : List Fact) (e : Effect Memory) (old new : Held) (role : Role)
    (out : Output) : Type 0 where
  pub reply_is : out.reply ≡ e.answer
  pub sends_are : out.sends ≡ e.sends
  pub kept : IsKept config who facts e old new role out.now e.fact

-- memory ran out: the record is as it was
pub record RanOut (old new : Held) (out : Output) : Type 0 where
  pub same : new ≡ old
  pub out_is : out ≡ output_of (Refused NoMemory) None

-- the append of the fact was stopped
pub record WasStopped (config : Config) (who : NodeId) (facts : List Fact) (e : Effect Memory) (old new : Held) (out : Output)
    : Type 0 where
  pub fact : Fact
  pub fact_is : e.fact ≡ Some fact
  pub valid : IsFact fact
  pub fits : plays config who facts fact ≡ true
  pub whole : Bool
  pub torn : IsTorn fact old new whole
  pub out_is : out ≡ output_of (Refused RecordFault) (if whole then change_made who fact else None)

-- what is put out, and whether the node stays up
abbrev pub carried : (up : Bool) → Output → Result Output Output
carried true out = Ok out
carried false out = Err out

-- what came of a decision
abbrev pub Carries : Config → NodeId → List Fact → Memory → Effect Memory → (old new : Held) → Role → Result Output Output → Type 0
Carries config who facts memory e old new role (Ok out) = IsDone config who facts e old new role out
Carries config who facts memory e old new role (Err out) = RanOut old new out ⊎ WasStopped config who facts e old new out
