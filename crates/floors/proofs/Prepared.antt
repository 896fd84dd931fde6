-- Where a transaction is prepared, a leader and a majority that weren't replaced can end it.
use Rattle.std.proofs.Common.{◌≡◌, ◌⊎◌, inl, inr, ℕ, ◌<◌, Bool, false, IsTrue, List, [], ◌∷◌, Option, refl, sym, subst}
use Rattle.xid.specs.Transactions.{TxParts, is_participant}
use Rattle.ballot.specs.Majority.{is_majority}
use Rattle.protocol.specs.declared.states.View.TheVariants as views
use Rattle.safety.specs.Vocabulary.{NodeId, A, L, R, Event}
use Rattle.safety.specs.CommitSteps.{committed, aborted}
use Rattle.safety.specs.Runs.{views_in}
use Rattle.protocol.specs.Effects.{Config, is_inside}
use Rattle.progress.specs.Outcomes.{HasBallots}
use Rattle.xid.specs.Places.{Place, is_below}
use Rattle.floors.specs.Worlds.{FlooredWorld}
use Rattle.floors.specs.Runs.{IsFlooredReachable, IsAtHand, HaveEndedAbove, LeadsFloored, leader_quorum_and_unforgetting, floored_after}
use Rattle.floors.specs.Runs.{floored_next}
use Rattle.floors.proofs.Following.{are_runs}
use Rattle.floors.proofs.Above.{own_is_above, others_are_below}
use Rattle.floors.proofs.Ends.{ended}

pub at_hand : (config : Config) (world : FlooredWorld) → IsFlooredReachable config world → (tx : TxParts) (r : ℕ)
    → views_in config world.machine tx r ≡ views.Prepared → (l : ℕ) → world.is_replaced (L l) ≡ false → (quorum : ℕ → Bool)
    → ((a : ℕ) → IsTrue (quorum a) → world.is_replaced (A a) ≡ false) → IsAtHand world l quorum tx
at_hand config world reach tx r is l kept quorum all_kept = record {
  leader = others_are_below config world reach tx r is (L l) refl kept;
  acceptors = λ a h. others_are_below config world reach tx r is (A a) refl (all_kept a h);
}

-- events of the machine move no floor
floors_stay : (config : Config) (world : FlooredWorld) (events : List Event) → (floored_after config world events).floor ≡ world.floor
floors_stay config world [] = refl
floors_stay config world (event ∷ events) = floors_stay config (floored_next config world event) events

pub prepared_ends : (config : Config) (world : FlooredWorld) → IsFlooredReachable config world → (tx : TxParts)
    → IsTrue (is_inside config tx) → (r : ℕ) → IsTrue (is_participant tx r) → views_in config world.machine tx r ≡ views.Prepared
    → (l : ℕ) → l < config.leaders → world.is_replaced (L l) ≡ false → (quorum : ℕ → Bool)
    → IsTrue (is_majority config.acceptors quorum) → ((a : ℕ) → IsTrue (quorum a) → world.is_replaced (A a) ≡ false)
    → HasBallots config world.machine l quorum tx
    → LeadsFloored config (leader_quorum_and_unforgetting world l quorum tx) tx
    (λ after. (views_in config after.machine tx r ≡ views.Committed) ⊎ (views_in config after.machine tx r ≡ views.Aborted)) world
prepared_ends config world reach tx inside r named is l few kept quorum majority all_kept ballots =
    record { events = run.events; at = run.at; holds = at_last run.holds }
  where
    run : LeadsFloored config (leader_quorum_and_unforgetting world l quorum tx) tx
        (λ after. HaveEndedAbove config tx committed after ⊎ HaveEndedAbove config tx aborted after) world
    run = ended config tx l quorum few inside majority world (are_runs config world reach)
        (at_hand config world reach tx r is l kept quorum all_kept) ballots

    above : is_below ((floored_after config world run.events).floor (R r)) tx ≡ false
    above =
        subst (λ (floor : NodeId → Option Place). is_below (floor (R r)) tx ≡ false) (sym (floors_stay config world run.events))
        (own_is_above config world reach tx r is)

    at_last : HaveEndedAbove config tx committed (floored_after config world run.events)
        ⊎ HaveEndedAbove config tx aborted (floored_after config world run.events)
        → (views_in config (floored_after config world run.events).machine tx r ≡ views.Committed)
        ⊎ (views_in config (floored_after config world run.events).machine tx r ≡ views.Aborted)
    at_last (inl h) = inl (h r named above)
    at_last (inr h) = inr (h r named above)
