use Rattle.std.proofs.Common.{◌∙◌, ℕ, sym, ap, subst}
use Rattle.stable_record.specs.Rests.{fact_of}
use Rattle.stable_record.specs.declared.fact.FactKind.TheVariants.{Ballot}
use Rattle.stable_record.specs.Parts.{IsPlayed}
use Rattle.protocol.specs.Effects.{Config}
use Rattle.protocol.specs.LeaderMemory.{LeaderMemory}
use Rattle.leader.specs.Leaders.{leader_part}
use Rattle.leader.proofs.leader.Leader.play.Goals as goal

pub returns : goal.returns
returns c =
    subst
    (λ fact. (config : Config) (number : ℕ) (memory : LeaderMemory)
    → IsPlayed (leader_part config number memory) c.args.self.now c.play_ballot.new.self fact c.play_ballot.result)
    (ap (λ tx. Ballot tx c.in-Ballot.ballot) c.tx.ensures.value ∙ ap (fact_of _) (sym c.in-Ballot.is) ∙ c.rest.ensures.value)
    c.play_ballot.ensures
