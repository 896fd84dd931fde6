-- A resource manager that was asked at its port to raise its floor.
-- Needed by `raise`.
use Rattle.std.proofs.Common.{◌≡◌, ◌∙◌, ℕ, true, [], Option, refl, sym, ap, subst}
use Rattle.std.specs.Prelude.{is_some, Result, Ok, Err}
use Rattle.xid.specs.Places.{Place}
use Rattle.xid.specs.declared.refusals.Refusal.{Refusal}
use Rattle.protocol.specs.declared.answers.Answer.TheVariants.{Done}
use Rattle.protocol.specs.declared.nodes.NodeId.{NodeId}
use Rattle.protocol.specs.declared.nodes.NodeId.TheVariants.{R}
use Rattle.protocol.specs.Effects.{Config}
use Rattle.protocol.specs.Nodes.{NodeState, Fault}
use Rattle.node_core.specs.declared.config.Sizes.{Sizes}
use Rattle.node_core.specs.Configs.{config_by}
use Rattle.floors.specs.Worlds.{notices_of}
use Rattle.floored.specs.Nodes.{FlooredRaises, FlooredStands, on_rise}
use Rattle.floored.proofs.Raising.{done_up}
use Rattle.floored.proofs.Noticing.{notices_as}
use Rattle.floored.proofs.Replacing.{is_up_as}
use Rattle.port.specs.Calls.{Raises, RaisesAs, Sending, TellsAll}
use Rattle.port.specs.Members.{IsMember, MemberParts, RaisesMember}
use Rattle.port.proofs.Members.{member_sizes}

-- of a resource manager that is named so
raised_up : (who : NodeId) (rm : ℕ) → who ≡ R rm → (floor : Option Place) (m : NodeState) (place : Place) (fault : Fault)
    → Done ≡ (on_rise who floor m place fault).answer → (on_rise who floor m place fault).node.up ≡ true
raised_up who rm is floor m place fault =
    subst (λ (n : NodeId). Done ≡ (on_rise n floor m place fault).answer → (on_rise n floor m place fault).node.up ≡ true) (sym is)
    (λ done. done_up floor m place fault (sym done))

module _ {P : Type 0} (Sent : Sending P) (place : Place) (who : NodeId) (rm : ℕ) (is : R rm ≡ who) where
  as_manager : (old new : MemberParts) (before after : P) (result : Result (Unit {0}) Refusal)
      → ((config : Config) (m : NodeState) → FlooredStands config old.floored m
      → RaisesAs Sent config place rm old new before after result) → Raises Sent place who old new before after result
  as_manager old new before after result raises =
      subst (λ (n : NodeId). Raises Sent place n old new before after result) is raises

  -- refused, it tells nothing
  pub raised_not : (old new : MemberParts) (before : P) (refusal : Refusal) → RaisesMember place old new (Err refusal)
      → Raises Sent place who old new before before (Err refusal)
  raised_not old new before refusal raises =
      as_manager old new before before (Err refusal) (λ config m s. record { raises = raises; tells = refl })

  -- done, it tells its floor
  pub raised_done : (sizes : Sizes) (old : MemberParts) → old.floored.node.who ≡ who → IsMember sizes old.floored old.told
      → (new : MemberParts) (before after : P) → RaisesMember place old new (Ok tt) → (floor : Option Place)
      → (is_some new.floored.node.role ≡ true → floor ≡ new.floored.floor)
      → TellsAll Sent before after (notices_of (config_by sizes []) rm floor) → Raises Sent place who old new before after (Ok tt)
  raised_done sizes old named member new before after raises floor own told =
      as_manager old new before after (Ok tt) (λ config m s.
      let r : FlooredRaises config m place old.floored new.floored (Ok tt) = raises.machine config m s in
      let up : is_some new.floored.node.role ≡ true =
      is_up_as config new.floored (on_rise old.floored.node.who old.floored.floor m place r.fault).node r.stands
      ∙ raised_up old.floored.node.who rm (named ∙ sym is) old.floored.floor m place r.fault r.answer_is in
      let notices : notices_of (config_by sizes []) rm floor ≡ notices_of config rm new.floored.floor =
      ap (notices_of (config_by sizes []) rm) (own up)
      ∙ notices_as config sizes (member_sizes sizes old.floored old.told member config m s) rm new.floored.floor in
      record { raises = raises; tells = subst (TellsAll Sent before after) notices told })
