-- What a group does at a node over a record, as a group of the machine.
use Rattle.std.specs.Prelude.{◌≡◌, if◌then◌else◌, List, [], ◌∷◌, ◌++◌, map, None, Result, Ok, Err, is_ok}
use Rattle.std.specs.List.{flat_map}
use Rattle.stable_record.specs.declared.fact.FactKind.{FactKind as Fact}
use Rattle.stable_record.specs.declared.record.RecordError.{RecordError}
use Rattle.stable_record.specs.Held.{refusal_of}
use Rattle.protocol.specs.declared.answers.Answer.TheVariants.{Refused}
use Rattle.protocol.specs.declared.nodes.NodeId.{NodeId}
use Rattle.protocol.specs.Effects.{Config}
use Rattle.protocol.specs.Nodes.{NodeState, Input, Outcome, node_step}
use Rattle.protocol.specs.Worlds.{change_of}
use Rattle.node_core.specs.declared.output.Output.{Output}
use Rattle.node_core.specs.Nodes.{NodeParts, NodeStands}
use Rattle.node_core.specs.Storing.{output_of}
use Rattle.groups.specs.Runs.{Handed, node_after, sends_after, handled_in, Happening, Handled}

-- where a group was stored, none of its inputs is left
abbrev pub AllHandled : List Input → Result (Unit {0}) RecordError → Type 0
AllHandled behind (Ok done) = behind ≡ []
AllHandled behind (Err error) = Unit {0}

-- an output is what the machine's node makes of an input: its answer, the view that it changed, and what is sent
pub record IsShown (who : NodeId) (before : List Fact) (outcome : Outcome) (out : Output) : Type 0 where
  pub reply_is : out.reply ≡ outcome.answer
  pub now_is : out.now ≡ change_of who before outcome.node.facts
  pub sends_are : out.sends ≡ outcome.sends

-- outputs are what the machine's node makes of the inputs of a group, one by one
abbrev pub AreShown : Config → NodeId → NodeState → List Handed → List Output → Type 0
AreShown config who node [] [] = Unit {0}
AreShown config who node (first ∷ rest) (out ∷ outs) =
    let outcome = node_step config who node first.input first.fault in
    IsShown who node.facts outcome out × AreShown config who outcome.node rest outs
AreShown config who node group outs = ⊥

-- inputs, each with the answer that its output has
abbrev pub replied : NodeId → List Handed → List Output → List Happening
replied who (first ∷ rest) (out ∷ outs) = Handled who first.input out.reply ∷ replied who rest outs
replied who group outs = []

-- what came of a stored group, one by one; and so what happened there is that these inputs were answered by these outputs
pub record IsShownAll (config : Config) (who : NodeId) (node : NodeState) (group : List Handed) (outs : List Output) : Type 0 where
  pub shown : AreShown config who node group outs
  pub happened : handled_in config who node group ≡ replied who group outs

-- what comes of each input: where the group was stored, what the machine's node makes of it; where it was stopped, the refusal alone
abbrev pub AreTold : Config → NodeId → NodeState → List Handed → List Input → List Output → Result (Unit {0}) RecordError → Type 0
AreTold config who node group inputs outs (Ok done) = IsShownAll config who node group outs
AreTold config who node group inputs outs (Err error) = outs ≡ map (λ (input : Input). output_of (Refused (refusal_of error)) None) inputs

-- inputs were handed to a node: a group of them was handled, all where it was stored, and each was answered, changed a view and sent what
-- the machine's node answers, changes and sends; where it was stopped, nothing was sent, and each input was refused
pub record IsGroup (config : Config) (m : NodeState) (inputs : List Input) (old new : NodeParts) (outs : List Output)
    (result : Result (Unit {0}) RecordError) : Type 0 where
  pub group : List Handed
  pub behind : List Input
  pub inputs_are : inputs ≡ map (λ handed. handed.input) group ++ behind
  pub all : AllHandled behind result
  pub stands : NodeStands config new (node_after config old.who m group)
  pub told : AreTold config old.who m group inputs outs result
  pub sends_are : flat_map (λ (out : Output). out.sends) outs ≡ (if is_ok result then sends_after config old.who m group else [])
