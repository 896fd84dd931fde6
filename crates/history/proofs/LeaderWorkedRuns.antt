-- Worked runs of leaders, looked back at: what counts, which ballots are current, and what was proposed.
use Rattle.std.specs.Prelude.{◌≡◌, refl, true, false, List, [], ◌∷◌, ◌++◌, map, Some, None}
use Rattle.xid.specs.declared.transaction.Vote.TheVariants as votes
use Rattle.wire.specs.declared.message.Kind.TheVariants.{P1b, P2b}
use Rattle.safety.specs.Vocabulary.{L, Status, Event, Deliver, Restart, Step}
use Rattle.protocol.specs.Effects.{Config}
use Rattle.protocol.specs.LeaderMemory.{is_proposed}
use Rattle.protocol.proofs.RowWords.{two, one, cluster, with_bundles, well, timeout, deliveries, one_ended, two_ended}
use Rattle.history.specs.Lines.{history}
use Rattle.history.specs.LeaderBack.{is_met_back, current_back, proposed_back, heard_back, status_back}

abbrev after : Config → List Event → List Step
after config events = history config (map well events)

-- ballots_after_restart: reports of ballot 1 count while it is current, and none does after a restart
abbrev three_one : Config
three_one = cluster 3 1 1

abbrev taken_over : List Event
taken_over = timeout (L 0) one ∷ Deliver 1 ∷ Deliver 2 ∷ []

pub begun : current_back 0 (after three_one taken_over) one ≡ Some 1
begun = refl

pub first_report : heard_back three_one 0 (after three_one (taken_over ++ Deliver 4 ∷ Deliver 4 ∷ [])) ≡ P1b one 0 1 None 0 ∷ []
first_report = refl

pub majority : heard_back three_one 0 (after three_one (taken_over ++ Deliver 4 ∷ Deliver 5 ∷ []))
    ≡ P1b one 0 1 None 1 ∷ P1b one 0 1 None 0 ∷ []
majority = refl

pub proposed : is_proposed (proposed_back 0 (after three_one (taken_over ++ Deliver 4 ∷ Deliver 5 ∷ []))) one 0 1 ≡ true
proposed = refl

pub restarted : heard_back three_one 0 (after three_one (taken_over ++ Restart (L 0) ∷ Deliver 4 ∷ Deliver 5 ∷ [])) ≡ []
restarted = refl

pub no_ballot : current_back 0 (after three_one (taken_over ++ Restart (L 0) ∷ [])) one ≡ None
no_ballot = refl

-- a report of a ballot that isn't current any more doesn't count, and what was heard in the old one no longer does
pub old_ballot : heard_back three_one 0 (after three_one (taken_over ++ Deliver 4 ∷ timeout (L 0) one ∷ Deliver 5 ∷ [])) ≡ []
old_ballot = refl

-- phase 2b counts until the transaction is decided
abbrev one_each : Config
one_each = cluster 1 1 1

abbrev voted : List Event
voted = one_ended ++ deliveries 1 3

pub told : heard_back one_each 0 (after one_each (voted ++ Deliver 3 ∷ [])) ≡ P2b one 0 0 votes.Prepared 0 ∷ []
told = refl

pub decided : status_back one_each (λ tx. 0) 0 (after one_each voted) one ≡ Status.Committed
decided = refl

-- plain_commit: of three acceptors' messages those of the first majority decide, and the last ones don't count
abbrev three : Config
three = cluster 3 1 2

pub committed : status_back three (λ tx. 0) 0 (after three (two_ended ++ deliveries 1 13)) two ≡ Status.Committed
committed = refl

pub undecided : status_back three (λ tx. 0) 0 (after three (two_ended ++ deliveries 1 12)) two ≡ Status.Undecided
undecided = refl

pub late : heard_back three 0 (after three (two_ended ++ deliveries 1 14)) ≡ heard_back three 0 (after three (two_ended ++ deliveries 1 13))
late = refl

-- a bundle counts as the messages that it stands for
pub bundle : heard_back (with_bundles one_each) 0 (after (with_bundles one_each) (timeout (L 0) one ∷ Deliver 1 ∷ Deliver 2 ∷ []))
    ≡ P1b one 0 1 None 0 ∷ []
bundle = refl

pub unmet : is_met_back one_each 0 (after one_each (one_ended ++ Restart (L 0) ∷ [])) one ≡ false
unmet = refl
