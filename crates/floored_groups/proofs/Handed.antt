-- A group at a process is a group at the node that it stands for, of the same inputs, each with a fault: it is handled, answered and sent
-- alike. What a process takes at once is proved by it.
-- Needed by Taken.
use Rattle.std.proofs.Common.{◌≡◌, ◌∙◌, List, [], ◌∷◌, ◌++◌, map, Option, refl, sym, ap, subst}
use Rattle.std.specs.List.{AllByRecursion}
use Rattle.xid.specs.Places.{Place}
use Rattle.protocol.specs.declared.decisions.Outgoing.{Outgoing}
use Rattle.protocol.specs.declared.nodes.NodeId.{NodeId}
use Rattle.protocol.specs.Effects.{Config}
use Rattle.protocol.specs.Nodes.{NodeState, Input, Outcome}
use Rattle.node_core.specs.declared.output.Output.{Output}
use Rattle.node_core.specs.Groups.{Place as At}
use Rattle.groups.specs.Runs.{Handed}
use Rattle.floors.specs.Nodes.{floored_node_step}
use Rattle.floored.specs.Nodes.{FlooredRuns}
use Rattle.floored_groups.specs.Runs.{FlooredHappening, Took, floored_node_after, floored_sends_after, taken_in}
use Rattle.floored_groups.specs.Processes.{sent_of}

-- inputs, each with the answer that its output has
abbrev pub replies : NodeId → List Input → List Output → List FlooredHappening
replies who (input ∷ inputs) (out ∷ outs) = Took who input out.reply ∷ replies who inputs outs
replies who inputs outs = []

-- inputs were handled one after another as a group of them is
pub record IsRunOf (config : Config) (who : NodeId) (floor : Option Place) (m : NodeState) (inputs : List Input) (outs : List Output)
    (last : NodeState) : Type 0 where
  pub group : List Handed
  pub inputs_are : map (λ (h : Handed). h.input) group ≡ inputs
  pub node_is : last ≡ floored_node_after config who floor m group
  pub sends_are : floored_sends_after config who floor m group ≡ sent_of outs
  pub happened_is : taken_in config who floor m group ≡ replies who inputs outs

module _ (config : Config) (who : NodeId) (floor : Option Place) where
  -- inputs that a process handled one after another are a group of its node's
  pub run_of : (from : At) (inputs : List Input) (outs : List Output) (to : At) → FlooredRuns config who floor from inputs outs to
      → IsRunOf config who floor from.state inputs outs to.state
  run_of from [] [] to is = record {
    group = [];
    inputs_are = refl;
    node_is = ap (λ (at : At). at.state) is;
    sends_are = refl;
    happened_is = refl;
  }
  run_of from (input ∷ inputs) (out ∷ outs) to (next, does, later) =
      let r = run_of next inputs outs to later in
      let outcome : Outcome = floored_node_step config who floor from.state input does.fault in
      record {
        group = record { input = input; fault = does.fault } ∷ r.group;
        inputs_are = ap (λ (rest : List Input). input ∷ rest) r.inputs_are;
        node_is = r.node_is ∙ ap (λ (n : NodeState). floored_node_after config who floor n r.group) does.state_is;
        sends_are =
            ap (λ (sends : List Outgoing). sends ++ floored_sends_after config who floor outcome.node r.group)
            (sym does.output_is.sends_are)
            ∙ ap (λ (sends : List Outgoing). out.sends ++ sends)
            (ap (λ (n : NodeState). floored_sends_after config who floor n r.group) (sym does.state_is) ∙ r.sends_are);
        happened_is =
            ap (λ (a : _). Took who input a ∷ taken_in config who floor outcome.node r.group) (sym does.output_is.reply_is)
            ∙ ap (λ (rest : List FlooredHappening). Took who input out.reply ∷ rest)
            (ap (λ (n : NodeState). taken_in config who floor n r.group) (sym does.state_is) ∙ r.happened_is);
      }
  run_of from [] (out ∷ outs) to is = absurd is
  run_of from (input ∷ inputs) [] to is = absurd is

  -- one more input behind a group
  pub after_one : (group : List Handed) (m : NodeState) (input : Input) (fault : _)
      → floored_node_after config who floor m (group ++ record { input = input; fault = fault } ∷ [])
      ≡ (floored_node_step config who floor (floored_node_after config who floor m group) input fault).node
  after_one [] m input fault = refl
  after_one (first ∷ rest) m input fault =
      after_one rest (floored_node_step config who floor m first.input first.fault).node input fault

-- what holds of each input of a list holds of the inputs that lead it
pub all_inputs : (P : Input → Type 0) (group : List Handed) (inputs : List Input) → map (λ (h : Handed). h.input) group ≡ inputs
    → AllByRecursion P inputs → AllByRecursion (λ (h : Handed). P h.input) group
all_inputs P group inputs is all =
    unmapped group (subst (AllByRecursion P) (sym is) all)
  where
    unmapped : (hs : List Handed) → AllByRecursion P (map (λ (h : Handed). h.input) hs) → AllByRecursion (λ (h : Handed). P h.input) hs
    unmapped [] all = tt
    unmapped (h ∷ hs) all = (all.0, unmapped hs all.1)

-- and of the first of them
pub all_first : (P : Input → Type 0) (before : List Input) (at : Input) (after : List Input) → AllByRecursion P (before ++ at ∷ after)
    → AllByRecursion P (before ++ at ∷ [])
all_first P [] at after all = (all.0, tt)
all_first P (input ∷ before) at after all = (all.0, all_first P before at after all.1)
