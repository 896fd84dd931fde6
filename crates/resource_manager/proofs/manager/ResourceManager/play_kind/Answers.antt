use Rattle.std.proofs.Common.{◌∙◌, Err, sym, ap, subst}
use Rattle.stable_record.specs.declared.fact.FactKind.TheVariants as facts
use Rattle.stable_record.specs.Rests.{fact_of}
use Rattle.xid.specs.declared.refusals.Refusal.TheVariants.{Damaged}
use Rattle.resource_manager.specs.Playing.{Plays}
use Rattle.resource_manager.proofs.Played.{stranger}
use Rattle.resource_manager.proofs.manager.ResourceManager.play_kind.Goals as goal

pub returns-in-VotePrepared : goal.returns-in-VotePrepared
returns-in-VotePrepared c =
    subst (λ f. Plays c.args.self.now c.play_prepared.new.self f c.play_prepared.result)
    ((λ j. facts.VotePrepared (c.tx-tx.ensures.value j) (c.as_slice.ensures j)) ∙ ap (fact_of _) (sym c.in-VotePrepared.is)
    ∙ c.rest.ensures.value) c.play_prepared.ensures

pub returns-in-VoteAborted : goal.returns-in-VoteAborted
returns-in-VoteAborted c =
    subst (λ f. Plays c.args.self.now c.play_refused.new.self f c.play_refused.result)
    (ap facts.VoteAborted c.tx-tx.ensures.value ∙ ap (fact_of _) (sym c.in-VoteAborted.is) ∙ c.rest.ensures.value) c.play_refused.ensures

pub returns-in-Committed : goal.returns-in-Committed
returns-in-Committed c =
    subst (λ f. Plays c.args.self.now c.play_committed.new.self f c.play_committed.result)
    (ap facts.Committed c.tx-tx.ensures.value ∙ ap (fact_of _) (sym c.in-Committed.is) ∙ c.rest.ensures.value) c.play_committed.ensures

pub returns-in-Aborted : goal.returns-in-Aborted
returns-in-Aborted c =
    subst (λ f. Plays c.args.self.now c.play_aborted.new.self f c.play_aborted.result)
    (ap facts.Aborted c.tx-tx.ensures.value ∙ ap (fact_of _) (sym c.in-Aborted.is) ∙ c.rest.ensures.value) c.play_aborted.ensures

pub returns-in-Promise : goal.returns-in-Promise
returns-in-Promise c =
    subst (λ f. Plays c.args.self.now c.args.self.now f (Err Damaged)) (ap (fact_of _) (sym c.in-Promise.is) ∙ c.rest.ensures.value)
    (stranger c.args.self.now _ tt)

pub returns-in-PromiseAll : goal.returns-in-PromiseAll
returns-in-PromiseAll c =
    subst (λ f. Plays c.args.self.now c.args.self.now f (Err Damaged)) (ap (fact_of _) (sym c.in-PromiseAll.is) ∙ c.rest.ensures.value)
    (stranger c.args.self.now _ tt)

pub returns-in-Accept : goal.returns-in-Accept
returns-in-Accept c =
    subst (λ f. Plays c.args.self.now c.args.self.now f (Err Damaged)) (ap (fact_of _) (sym c.in-Accept.is) ∙ c.rest.ensures.value)
    (stranger c.args.self.now _ tt)

pub returns-in-Ballot : goal.returns-in-Ballot
returns-in-Ballot c =
    subst (λ f. Plays c.args.self.now c.args.self.now f (Err Damaged)) (ap (fact_of _) (sym c.in-Ballot.is) ∙ c.rest.ensures.value)
    (stranger c.args.self.now _ tt)
