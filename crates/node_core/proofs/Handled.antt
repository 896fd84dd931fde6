-- What a node makes of an input is a step of the machine, whatever node of it it stands for.
-- Needed by `Node::step_into`; Walked.
use Rattle.std.proofs.Common.{◌≡◌, true, Option, None, List, inl, inr, sym, subst}
use Rattle.stable_record.specs.Held.{Held}
use Rattle.protocol.specs.declared.nodes.NodeId.{NodeId}
use Rattle.protocol.specs.declared.rows.Row.{Row}
use Rattle.protocol.specs.Effects.{Config}
use Rattle.protocol.specs.Nodes.{NodeState, Input}
use Rattle.node_core.specs.declared.config.Sizes.{Sizes}
use Rattle.node_core.specs.declared.output.Output.{Output}
use Rattle.node_core.specs.declared.role.Role.{Role}
use Rattle.node_core.specs.Nodes.{AreSizes, Stands, Steps, StepsFreely, fact_to_store}
use Rattle.node_core.specs.Sparing.{is_free}
use Rattle.node_core.specs.Handling.{IsNotTaken, IsFoundDown, Handles}
use Rattle.node_core.proofs.Steps.{steps_refused, steps_down, steps_settled, freely_refused, freely_down, freely_settled}

module _ (config : Config) (who : NodeId) (sizes : Sizes) (own : List Row) (m : NodeState) (input : Input) where
  -- with the record and the role as they were
  pub refused_again : (old new : Held) (was role : Option Role) (out : Output) → IsNotTaken who input old new was role out
      → Stands config who own old was m → Steps config who own m input old old was out
  refused_again old new was role out h s = steps_refused config who own m input old was out s h.refused h.out_is

  pub found_again : (old new : Held) (was role : Option Role) (out : Output) → IsFoundDown who input old new was role out
      → Stands config who own old was m → Steps config who own m input old old None out
  found_again old new was role out h s =
      steps_down config who own m input old out (subst (λ r. Stands config who own old r m) h.was_is s) h.accepted h.out_is

  -- what a node makes of an input is a step of the machine
  pub steps_of : (old new : Held) (was role : Option Role) (out : Output) → AreSizes config sizes
      → Handles who sizes input old new was role out → Stands config who own old was m → Steps config who own m input old new role out
  steps_of old new was role out are (inl h) s =
      subst (λ x. Steps config who own m input old x role out) (sym h.held_is)
      (subst (λ r. Steps config who own m input old old r out) (sym h.role_is) (refused_again old new was role out h s))
  steps_of old new was role out are (inr (inl h)) s =
      subst (λ x. Steps config who own m input old x role out) (sym h.held_is)
      (subst (λ r. Steps config who own m input old old r out) (sym h.role_is) (found_again old new was role out h s))
  steps_of old new was role out are (inr (inr h)) s =
      steps_settled config who own m input old new was role h.before h.after h.up out h.was_is h.accepted h.role_is
      (λ r. h.carries config m.facts m.memory are r) s

  -- where it wants no memory to be decided, and stores nothing
  pub freely_of : (old new : Held) (was role : Option Role) (out : Output) → AreSizes config sizes
      → Handles who sizes input old new was role out → Stands config who own old was m → is_free who input ≡ true
      → fact_to_store config who m input ≡ None → StepsFreely config who own m input old new role out
  freely_of old new was role out are (inl h) s is none =
      subst (λ x. StepsFreely config who own m input old x role out) (sym h.held_is)
      (subst (λ r. StepsFreely config who own m input old old r out) (sym h.role_is)
      (freely_refused config who own m input old was out s h.refused h.out_is))
  freely_of old new was role out are (inr (inl h)) s is none =
      subst (λ x. StepsFreely config who own m input old x role out) (sym h.held_is)
      (subst (λ r. StepsFreely config who own m input old old r out) (sym h.role_is)
      (freely_down config who own m input old out (subst (λ r. Stands config who own old r m) h.was_is s) h.accepted h.out_is))
  freely_of old new was role out are (inr (inr h)) s is none =
      freely_settled config who own m input old new was role h.before h.after h.up out h.was_is h.accepted h.role_is
      (λ r. h.carries config m.facts m.memory are r) (λ r without. h.free is config m.facts m.memory are r without) none s
