-- How the cluster of a run follows the machine, and what is printed then.
use Rattle.std.specs.Prelude.{◌≡◌, ℕ, List, ◌++◌, Option}
use Rattle.std.specs.Io.KnownBytes.{Appends}
use Rattle.std.specs.List.{flat_map}
use Rattle.xid.specs.declared.refusals.Refusal.{Refusal}
use Rattle.cluster_run.specs.Happenings.{AreOfMemory}
use Rattle.protocol.specs.Effects.{Config}
use Rattle.protocol.specs.Worlds.{Occurrence}
use Rattle.floors.specs.Worlds.{FlooredWorld, floored_trace, floored_world_after}
use Rattle.cluster.specs.Clusters.{ClusterParts, ClusterStands}
use Rattle.cluster.specs.Runs.{IsFirm}
use Rattle.net_script.specs.Traces.{step_text}
use Rattle.net_script.specs.Writing.{IsFileRefusal}

-- a cluster over records that never fail of themselves stands for a world
pub record IsRunning (config : Config) (world : FlooredWorld) (cluster : ClusterParts) : Type 0 where
  pub stands : ClusterStands config cluster world
  pub firm : IsFirm cluster

-- how far a text is printed: the piece of it that isn't yet, and what the writer has
pub record Printed : Type 0 where
  pub piece : List ℕ
  pub out : Option (List ℕ)

-- so far
abbrev pub so_far : List ℕ → Option (List ℕ) → Printed
so_far piece out = record { piece = piece; out = out }

-- a text follows the piece, and of both a beginning joins what the writer has; the rest is the piece now
abbrev pub Prints : (old new : Printed) → (text : List ℕ) → Type 0
Prints old new text = (written : List ℕ) × (old.piece ++ text ≡ written ++ new.piece) × Appends old.out new.out written

-- the same, where nothing is printed any more: some rest is left
abbrev pub PrintsShort : (old : Printed) → (out : Option (List ℕ)) → (text : List ℕ) → Type 0
PrintsShort old out text = (rest : List ℕ) × Prints old (so_far rest out) text

-- the lines of what happens from a world on
abbrev pub lines_from : Config → FlooredWorld → List Occurrence → List ℕ
lines_from config world happened = flat_map step_text (floored_trace config world happened)

-- what a run has come to, from a world, by these events: its cluster stands for the world after them, and their lines are printed
pub record ComesTo (config : Config) (world : FlooredWorld) (cluster : ClusterParts) (before after : Printed) (happened : List Occurrence)
    : Type 0 where
  pub running : IsRunning config (floored_world_after config world happened) cluster
  pub faults : AreOfMemory happened
  pub prints : Prints before after (lines_from config world happened)

-- whatever world the cluster stood for, the run went on by events of which something is true there
abbrev pub GoesOn : (Config → FlooredWorld → List Occurrence → Type 0) → (old new : ClusterParts) → (before after : Printed) → Type 0
GoesOn Are old new before after =
    (config : Config) (world : FlooredWorld) → IsRunning config world old
    → (happened : List Occurrence) × Are config world happened × ComesTo config world new before after happened

-- a run that can't go on has printed a beginning of the lines of such events at most: of those that happened, and then of some in which
-- no more faults are met
abbrev pub FallsShort : (Config → FlooredWorld → List Occurrence → Type 0) → ClusterParts → (before : Printed)
    → (out : Option (List ℕ)) → Type 0
FallsShort Are old before out =
    (config : Config) (world : FlooredWorld) → IsRunning config world old
    → (happened : List Occurrence) × Are config world happened × AreOfMemory happened
    × PrintsShort before out (lines_from config world happened)

-- why a run can't go on
abbrev pub StopsIn : (Config → FlooredWorld → List Occurrence → Type 0) → ClusterParts → (before : Printed)
    → (out : Option (List ℕ)) → Refusal → Type 0
StopsIn Are old before out refusal = IsFileRefusal refusal × FallsShort Are old before out
