-- The steps of a cluster are those of a run with floors, and what is told there is told in a run of the machine, which tells one outcome.
use Rattle.std.proofs.Common.{ℕ, List, subst}
use Rattle.xid.specs.Transactions.{TxParts}
use Rattle.ballot.specs.Greatest.{IsIn}
use Rattle.safety.specs.CommitSteps.{committed}
use Rattle.protocol.specs.declared.events.Step.{Step}
use Rattle.protocol.specs.declared.states.Standing.{Standing}
use Rattle.protocol.specs.declared.states.Standing.TheVariants as standings
use Rattle.protocol.specs.Effects.{Config}
use Rattle.answers.specs.Answers.{Tells, HavePrepared, NoneIs}
use Rattle.answers.proofs.Runs.{never_both, prepared_ever, uncommitted_ever, IsToldIn}
use Rattle.floors.specs.Worlds.{FlooredWorld}
use Rattle.floors.specs.Runs.{IsFlooredReachable, events_from}
use Rattle.floors.proofs.Following.{are_runs, machine_after}
use Rattle.cluster.specs.Clusters.{ClusterParts, ClusterStands, IsSound}
use Rattle.cluster.specs.Runs.{FollowMachine, HaveOccurred}
use Rattle.cluster.proofs.Following.{follow}
use Rattle.cluster_answers.specs.Steps.{EndIn}
use Rattle.cluster_answers.proofs.Told.{told_in}

module _ (first last : ClusterParts) (steps : List Step) (occurred : HaveOccurred first steps last) (tx : TxParts) where
  module _ (config : Config) (world : FlooredWorld) (run : FollowMachine config world steps last) where
    found : (l : ℕ) (standing : Standing) (told : Step) → IsIn steps told → Tells l tx standing told
        → IsToldIn config world.machine (events_from config world run.occurrences) l tx standing
    found l standing told h tells =
        told_in config l tx standing world run.occurrences told (subst (λ (made : List Step). IsIn made told) run.steps_are h) tells

  pub one_outcome : IsSound first → (l other : ℕ) (one two : Step) → IsIn steps one → Tells l tx standings.Committed one
      → IsIn steps two → Tells other tx standings.Aborted two → ⊥
  one_outcome sound l other one two h commits k aborts =
      let run = follow sound.config sound.world first last steps occurred sound.is in
      let before = found sound.config sound.world run l standings.Committed one h commits in
      let after = found sound.config sound.world run other standings.Aborted two k aborts in
      never_both sound.config tx l other before.step after.step before.tells after.tells sound.world.machine
      (are_runs sound.config sound.world sound.reached) (events_from sound.config sound.world run.occurrences) before.among after.among

  module _ (config : Config) (world : FlooredWorld) (reach : IsFlooredReachable config world) (stands : ClusterStands config first world)
      (l : ℕ) (told : Step) (h : IsIn steps told) where
    pub prepared_at_end : Tells l tx standings.Committed told → EndIn config world steps last (HavePrepared config tx)
    prepared_at_end tells =
        let run = follow config world first last steps occurred stands in
        let step = found config world run l standings.Committed told h tells in
        record {
          follow = run;
          holds = subst (HavePrepared config tx) (machine_after config world run.occurrences)
              (prepared_ever config tx l step.step step.tells world.machine (are_runs config world reach)
              (events_from config world run.occurrences) step.among);
        }

    pub uncommitted_at_end : Tells l tx standings.Aborted told → EndIn config world steps last (NoneIs config tx committed)
    uncommitted_at_end tells =
        let run = follow config world first last steps occurred stands in
        let step = found config world run l standings.Aborted told h tells in
        record {
          follow = run;
          holds = subst (NoneIs config tx committed) (machine_after config world run.occurrences)
              (uncommitted_ever config tx l step.step step.tells world.machine (are_runs config world reach)
              (events_from config world run.occurrences) step.among);
        }
