use Rattle.xid.specs.Places.{is_below}
use Rattle.std.proofs.Common.{◌≡◌, ◌∙◌, false, sym, ap, subst}
use Rattle.safety.specs.Vocabulary.{NodeId}
use Rattle.protocol.specs.Worlds.{node_at}
use Rattle.floors.proofs.Above.{above_ever}
use Rattle.floors.proofs.Restricting.{effect_kept}
use Rattle.floors.proofs.keeping.effects_are_kept.Goals as goal

pub returns : goal.returns
returns c config world reach who node is input above =
    effect_kept config who (world.floor who) node.facts node.memory input above
    (λ rm own tx prepared. subst (λ (n : NodeId). is_below (world.floor n) tx ≡ false) (sym own)
    (((above_ever config world reach).nodes rm node (ap (node_at config world.machine) (sym own) ∙ is)).prepared tx prepared))
