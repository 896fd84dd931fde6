-- A group at a node over a record is one of the machine.
-- Needed by `nodes_work_in_groups`.
use Rattle.std.proofs.Common.{◌≡◌, ◌∙◌, List, [], ◌∷◌, ◌++◌, None, refl, sym, ap, subst, append-nil}
use Rattle.std.specs.Prelude.{map, Result, Ok, Err}
use Rattle.std.specs.List.{flat_map}
use Rattle.xid.specs.declared.refusals.Refusal.{Refusal}
use Rattle.stable_record.specs.Held.{refusal_of}
use Rattle.stable_record.specs.declared.record.RecordError.{RecordError}
use Rattle.protocol.specs.declared.answers.Answer.TheVariants.{Refused}
use Rattle.protocol.specs.declared.nodes.NodeId.{NodeId}
use Rattle.protocol.specs.declared.rows.Row.{Row}
use Rattle.protocol.specs.Effects.{Config}
use Rattle.protocol.specs.Nodes.{NodeState, Input, node_step}
use Rattle.node_core.specs.declared.output.Output.{Output}
use Rattle.node_core.specs.Groups.{Place, Runs, GroupsAs}
use Rattle.node_core.specs.Nodes.{AreSizes, IsSameNode, NodeParts, NodeStands, Stands}
use Rattle.node_core.specs.Storing.{output_of}
use Rattle.node_core.proofs.Grouped.{kept_stands, runs_stand}
use Rattle.groups.specs.Runs.{Handed, node_after, sends_after, handled_in, Handled}
use Rattle.groups.specs.Nodes.{IsGroup, AreShown, replied}

module _ (config : Config) (who : NodeId) (own : List Row) where
  -- inputs that were handled, with the faults that met them
  record AreHandled (from : Place) (inputs : List Input) (outs : List Output) (to : Place) : Type 0 where
    pub group : List Handed
    pub inputs_are : inputs ≡ map (λ (h : Handed). h.input) group
    pub state_is : to.state ≡ node_after config who from.state group
    pub shown : AreShown config who from.state group outs
    pub sends_are : flat_map (λ (out : Output). out.sends) outs ≡ sends_after config who from.state group

  are_handled : (from to : Place) (inputs : List Input) (outs : List Output) → Runs config who own from inputs outs to
      → AreHandled from inputs outs to
  are_handled from to [] [] r = record {
    group = [];
    inputs_are = refl;
    state_is = ap (λ (p : Place). p.state) r;
    shown = tt;
    sends_are = refl;
  }
  are_handled from to (input ∷ inputs) (out ∷ outs) (next, does, r) =
      let first : Handed = record { input = input; fault = does.steps.fault } in
      let h = are_handled next to inputs outs r in
      record {
        group = first ∷ h.group;
        inputs_are = ap (λ (is : List Input). input ∷ is) h.inputs_are;
        state_is = h.state_is ∙ ap (λ (m : NodeState). node_after config who m h.group) does.state_is;
        shown = (
          record {
            reply_is = does.steps.shows.reply_is;
            now_is = does.steps.shows.now_is;
            sends_are = does.steps.shows.sends_are;
          },
          subst (λ (m : NodeState). AreShown config who m h.group outs) does.state_is h.shown,
        );
        sends_are = λ i.
            does.steps.shows.sends_are i
            ++ (h.sends_are ∙ ap (λ (m : NodeState). sends_after config who m h.group) does.state_is) i;
      }
  are_handled from to [] (o ∷ outs) r = absurd r
  are_handled from to (i ∷ inputs) [] r = absurd r

  -- what happened there
  replies_are : (node : NodeState) (group : List Handed) (outs : List Output) → AreShown config who node group outs
      → handled_in config who node group ≡ replied who group outs
  replies_are node [] [] shown = refl
  replies_are node (first ∷ rest) (out ∷ outs) shown =
      let others = replies_are (node_step config who node first.input first.fault).node rest outs shown.1 in
      λ i. Handled who first.input (sym shown.0.reply_is i) ∷ others i
  replies_are node [] (out ∷ outs) shown = absurd shown
  replies_are node (first ∷ rest) [] shown = absurd shown

  nothing_sent : (refusal : Refusal) (inputs : List Input)
      → flat_map (λ (out : Output). out.sends) (map (λ (input : Input). output_of (Refused refusal) None) inputs) ≡ []
  nothing_sent refusal [] = refl
  nothing_sent refusal (input ∷ inputs) = nothing_sent refusal inputs

  -- one input more
  more_after : (node : NodeState) (group : List Handed) (last : Handed) → node_after config who node (group ++ last ∷ [])
      ≡ (node_step config who (node_after config who node group) last.input last.fault).node
  more_after node [] last = refl
  more_after node (first ∷ rest) last = more_after (node_step config who node first.input first.fault).node rest last

  more_inputs : (group : List Handed) (last : Handed) (behind : List Input) → map (λ (h : Handed). h.input) group ++ last.input ∷ behind
      ≡ map (λ (h : Handed). h.input) (group ++ last ∷ []) ++ behind
  more_inputs [] last behind = refl
  more_inputs (first ∷ rest) last behind = ap (λ (is : List Input). first.input ∷ is) (more_inputs rest last behind)

-- the node that a record and a role stand for
node_stands : (config : Config) (old new : NodeParts) (m after : NodeState) → NodeStands config old m → IsSameNode old new
    → Stands config old.who old.rows new.held new.role after → NodeStands config new after
node_stands config old new m after s same stands = record {
  sizes_are = subst (AreSizes config) (sym same.sizes_are) s.sizes_are;
  stands =
      subst (λ who. Stands config who new.rows new.held new.role after) (sym same.who_is)
      (subst (λ rows. Stands config old.who rows new.held new.role after) (sym same.rows_are) stands);
}

pub are_groups : (config : Config) (m : NodeState) (inputs : List Input) (old new : NodeParts) (outs : List Output)
    (result : Result (Unit {0}) RecordError) → NodeStands config old m → GroupsAs config m inputs old new outs result
    → IsGroup config m inputs old new outs result
are_groups config m inputs old new outs (Ok done) s g =
    let from : Place = record { state = m; held = old.held; role = old.role } in
    let c = g.comes in
    let h = are_handled config old.who old.rows from c.to inputs outs c.runs in
    let there = runs_stand config old.who old.rows from c.to inputs outs s.stands c.runs in
    let stands : Stands config old.who old.rows new.held new.role c.to.state =
    kept_stands config old.who old.rows c.to.held new.held new.role c.to.state c.held_is
    (subst (λ r. Stands config old.who old.rows c.to.held r c.to.state) (sym c.role_is) there) in
    record {
      group = h.group;
      behind = [];
      inputs_are = h.inputs_are ∙ sym (append-nil (map (λ (x : Handed). x.input) h.group));
      all = refl;
      stands = node_stands config old new m (node_after config old.who m h.group) s g.same
          (subst (Stands config old.who old.rows new.held new.role) h.state_is stands);
      told = record { shown = h.shown; happened = replies_are config old.who old.rows m h.group outs h.shown };
      sends_are = h.sends_are;
    }
are_groups config m inputs old new outs (Err error) s g =
    let from : Place = record { state = m; held = old.held; role = old.role } in
    let p = g.comes.stops in
    let h = are_handled config old.who old.rows from p.place p.before p.outs p.runs in
    let last : Handed = record { input = p.at; fault = p.stopped.fault } in
    let after : NodeState = (node_step config old.who p.place.state p.at p.stopped.fault).node in
    let stands : Stands config old.who old.rows new.held new.role after =
    kept_stands config old.who old.rows p.left new.held new.role after p.left_is
    (subst (λ r. Stands config old.who old.rows p.left r after) (sym g.comes.down) p.stopped.shows.stands) in
    let same : after ≡ node_after config old.who m (h.group ++ last ∷ []) =
    ap (λ (n : NodeState). (node_step config old.who n p.at p.stopped.fault).node) h.state_is
    ∙ sym (more_after config old.who old.rows m h.group last) in
    record {
      group = h.group ++ last ∷ [];
      behind = p.behind;
      inputs_are =
          p.inputs_are ∙ ap (λ (is : List Input). is ++ p.at ∷ p.behind) h.inputs_are
          ∙ more_inputs config old.who old.rows h.group last p.behind;
      all = tt;
      stands = node_stands config old new m (node_after config old.who m (h.group ++ last ∷ [])) s g.same
          (subst (Stands config old.who old.rows new.held new.role) same stands);
      told = g.comes.outs_are;
      sends_are =
          ap (flat_map (λ (out : Output). out.sends)) g.comes.outs_are
          ∙ nothing_sent config old.who old.rows (refusal_of error) inputs;
    }
