use Rattle.std.proofs.Common.{◌∙◌, List, [], None, refl, ap}
use Rattle.xid.specs.declared.refusals.Refusal.TheVariants.{NoMemory}
use Rattle.protocol.specs.declared.answers.Answer.TheVariants.{Refused}
use Rattle.protocol.specs.declared.events.Sent.{Sent}
use Rattle.protocol.specs.declared.events.Told.{Told}
use Rattle.protocol.specs.Nodes.{NoMemoryBefore}
use Rattle.cluster.specs.Clusters.{place_reached}
use Rattle.cluster.proofs.Occurring.{step_made}
use Rattle.cluster.proofs.Standing.{unchanged, all_stay}
use Rattle.cluster.proofs.cluster.unmade.Goals as goal

pub returns : goal.returns
returns c = λ cluster config world stands. record {
  same = unchanged cluster cluster refl refl;
  others = all_stay (place_reached config world c.args.event) cluster.nodes cluster.nodes refl;
  fault = NoMemoryBefore;
  befalls = refl;
  step_is =
      ap (λ (sent : List Sent). step_made c.args.event (Refused NoMemory) None sent c.new-4.result) (c.new-2.ensures ∙ c.new.ensures.items)
      ∙ ap (λ (told : List Told). step_made c.args.event (Refused NoMemory) None [] told) (c.new-4.ensures ∙ c.new-3.ensures.items);
  stands = stands;
}
