use Rattle.protocol.specs.declared.states.Standing.TheVariants as standings
use Rattle.safety.specs.Vocabulary.{Stands}
use Rattle.progress.proofs.Lasting.{commits, aborts}
use Rattle.floors.proofs.Following.{are_runs}
use Rattle.floors.proofs.Ends.{answered, narrow, back, ballots_there}
use Rattle.floors.proofs.ending.votes_decide.Goals as goal

pub returns-clause-committed : goal.returns-clause-committed
returns-clause-committed c config world reach tx inside l few quorum majority at_hand ballots accepted =
    let machine = are_runs config world reach in
    answered config tx l quorum few inside majority world machine at_hand ballots (Stands standings.Committed)
    (commits config tx l quorum few inside majority (narrow config tx l quorum few inside majority world machine at_hand ballots)
    (back config tx l quorum few inside majority world machine at_hand ballots)
    (ballots_there config tx l quorum few inside majority world machine at_hand ballots)
    (λ r named. let one = accepted r named in
    record { ballot = one.ballot; members = one.members; majority = one.majority; accepted = one.accepted }))

pub returns-clause-aborted : goal.returns-clause-aborted
returns-clause-aborted c config world reach tx inside l few quorum majority at_hand ballots r named unvoted =
    let machine = are_runs config world reach in
    answered config tx l quorum few inside majority world machine at_hand ballots (Stands standings.Aborted)
    (aborts config tx l quorum few inside majority (narrow config tx l quorum few inside majority world machine at_hand ballots)
    (back config tx l quorum few inside majority world machine at_hand ballots)
    (ballots_there config tx l quorum few inside majority world machine at_hand ballots) r named unvoted)
