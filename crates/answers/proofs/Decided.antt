-- What a decided outcome says of the views of participants, and of what any leader answers, then and later.
use Rattle.std.proofs.Common.{◌≡◌, ◌≢◌, inl, inr, ℕ, IsTrue, List, subst}
use Rattle.xid.specs.Transactions.{TxParts, is_participant}
use Rattle.ballot.specs.Greatest.{IsIn}
use Rattle.safety.specs.CommitSteps.{View, working, prepared, committed, aborted}
use Rattle.safety.specs.Invariant.{Invariant}
use Rattle.safety.specs.Items.{Vote, Prepared, Aborted, Item, Voted, IsDecided, IsView}
use Rattle.safety.specs.Items as items
use Rattle.safety.specs.Runs.{IsReachable, views_in}
use Rattle.safety.specs.Standing.{Stands, setting, sent_in}
use Rattle.safety.proofs.Argument.Agreement.{decided_was_proposed, one_decision, prepared_was_voted}
use Rattle.safety.proofs.Argument.Preservation.{IsDecided-kept}
use Rattle.safety.proofs.Leader.Invariant.{IsSentItem}
use Rattle.safety.proofs.World.Events.{reachable_after}
use Rattle.safety.proofs.World.Reachable.{invariant}
use Rattle.safety.proofs.World.SafeSteps.{state_stands}
use Rattle.protocol.specs.declared.states.Standing.TheVariants as standings
use Rattle.protocol.specs.Effects.{Config}
use Rattle.protocol.specs.TCommit.{IsReady}
use Rattle.protocol.specs.Worlds.{World, Occurrence, node_at, world_after}
use Rattle.progress.proofs.Lasting.{stands_if_sent}
use Rattle.answers.specs.Answers.{IsAnswered}
use Rattle.answers.proofs.Sent.{StaySent, sent_stays}
use Rattle.answers.proofs.Told.{IsSentDecided, all_prepared, some_aborted}

-- ---- one world

-- every participant's instance has decided prepared; some participant's has decided aborted
abbrev AllPrepared : Config → World → TxParts → Type 0
AllPrepared config world tx = (r : ℕ) → IsTrue (is_participant tx r) → IsSentDecided config world tx r Prepared

abbrev SomeAborted : Config → World → TxParts → Type 0
SomeAborted config world tx = (r : ℕ) × IsTrue (is_participant tx r) × IsSentDecided config world tx r Aborted

module _ (config : Config) (world : World) (reach : IsReachable config world) (tx : TxParts) where
  abbrev Has : Item TxParts → Type 0
  Has = Stands config world

  inv : Invariant (setting config) Has
  inv = invariant config world reach

  stood : (i : ℕ) (v : Vote) → IsSentDecided config world tx i v → IsDecided config.acceptors Has tx i v
  stood i v = IsDecided-kept (stands_if_sent config world)

  -- not both
  apart : (i : ℕ) → IsDecided config.acceptors Has tx i Prepared → IsDecided config.acceptors Has tx i Aborted → ⊥
  apart i d e =
      let same : Prepared ≡ Aborted =
      one_decision (setting config) Has inv {tx = tx} {i = i} {v = Prepared} {w = Aborted} d e in
      absurd (cc (same))

  pub one_outcome : AllPrepared config world tx → SomeAborted config world tx → ⊥
  one_outcome all some = apart some.0 (stood some.0 Prepared (all some.0 some.1)) (stood some.0 Aborted some.2)

  view_stands : (q : ℕ) → IsTrue (is_participant tx q) → IsView Has tx q (views_in config world tx q)
  view_stands q named = state_stands config (node_at config world) (sent_in world) tx q named

  pub voted : AllPrepared config world tx → (q : ℕ) → IsTrue (is_participant tx q) → Has (Voted q tx Prepared)
  voted all q named =
      let d = stood q Prepared (all q named) in
      prepared_was_voted (setting config) Has inv {tx = tx} {i = q} {b = d.0}
      (decided_was_proposed (setting config) Has inv {tx = tx} {i = q} {b = d.0} {v = Prepared} d.1)

  ready_by : AllPrepared config world tx → (q : ℕ) → IsTrue (is_participant tx q) → (x : View) → IsView Has tx q x → IsReady x
  ready_by all q named working h = absurd (h.0 Prepared (voted all q named))
  ready_by all q named prepared h = tt
  ready_by all q named committed h = tt
  ready_by all q named aborted (inl vote) =
      let same : Prepared ≡ Aborted = inv.vote_once {r = q} {tx = tx} {v = Prepared} {w = Aborted} (voted all q named) vote in
      absurd (cc (same))
  ready_by all q named aborted (inr dropped) =
      let some = inv.some_aborted {tx = tx} (inv.abort_sent {r = q} {tx = tx} dropped) in
      absurd (apart some.0 (stood some.0 Prepared (all some.0 some.1)) some.2)

  pub ready : AllPrepared config world tx → (q : ℕ) → IsTrue (is_participant tx q) → IsReady (views_in config world tx q)
  ready all q named = ready_by all q named (views_in config world tx q) (view_stands q named)

  pub uncommitted : SomeAborted config world tx → (q : ℕ) → IsTrue (is_participant tx q) → views_in config world tx q ≢ committed
  uncommitted some q named e =
      let stands : Has (items.Committed q tx) = subst (IsView Has tx q) e (view_stands q named) in
      apart some.0 (inv.all_prepared {tx = tx} (inv.commit_sent {r = q} {tx = tx} stands) some.0 some.1) (stood some.0 Aborted some.2)

-- ---- later worlds

still_sent : (before after : World) → StaySent before after → (y : Item TxParts) → IsSentItem (IsIn (sent_in before)) y
    → IsSentItem (IsIn (sent_in after)) y
still_sent before after stays (items.P1b tx i b report a) h = stays _ h
still_sent before after stays (items.P2a tx i b v) h = stays _ h
still_sent before after stays (items.P2b tx i b v a) h = stays _ h
still_sent before after stays (items.Commit tx) h = stays _ h
still_sent before after stays (items.Abort tx) h = stays _ h
still_sent before after stays y h = absurd h

module _ (config : Config) (world : World) (reach : IsReachable config world) (l : ℕ) (tx : TxParts) (events : List Occurrence) where
  abbrev after : World
  after = world_after config world events

  reached : IsReachable config after
  reached = reachable_after config world reach events

  kept : (i : ℕ) (v : Vote) → IsSentDecided config world tx i v → IsSentDecided config after tx i v
  kept i v = IsDecided-kept (still_sent world after (sent_stays config world events))

  module _ (answered : IsAnswered config world l tx standings.Committed) where
    all_after : AllPrepared config after tx
    all_after r named = kept r Prepared (all_prepared config world reach l tx answered r named)

    pub committed_voted : (q : ℕ) → IsTrue (is_participant tx q) → Stands config after (Voted q tx Prepared)
    committed_voted = voted config after reached tx all_after

    pub committed_ready : (q : ℕ) → IsTrue (is_participant tx q) → IsReady (views_in config after tx q)
    committed_ready = ready config after reached tx all_after

    pub never_aborted : (q : ℕ) → IsTrue (is_participant tx q) → views_in config after tx q ≢ aborted
    never_aborted q named e = subst IsReady e (committed_ready q named)

    pub committed_agree : (other : ℕ) → IsAnswered config after other tx standings.Aborted → ⊥
    committed_agree other answered_so =
        one_outcome config after reached tx all_after (some_aborted config after reached other tx answered_so)

  module _ (answered : IsAnswered config world l tx standings.Aborted) where
    some_after : SomeAborted config after tx
    some_after =
        let some = some_aborted config world reach l tx answered in (some.0, some.1, kept some.0 Aborted some.2)

    pub never_committed : (q : ℕ) → IsTrue (is_participant tx q) → views_in config after tx q ≢ committed
    never_committed = uncommitted config after reached tx some_after

    pub aborted_agree : (other : ℕ) → IsAnswered config after other tx standings.Committed → ⊥
    aborted_agree other answered_so =
        one_outcome config after reached tx (all_prepared config after reached other tx answered_so) some_after
