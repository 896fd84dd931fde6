-- A leader that has the outcome sends it to the participants at a timeout; and what the outcome has each of them store.
use Rattle.std.proofs.Common.{◌≡◌, ◌≢◌, ◌⊎◌, inl, inr, ◌∙◌, ℕ, Bool, true, false, not, if◌then◌else◌, List, []}
use Rattle.std.proofs.Common.{Option, Some, None, refl, sym, ap, subst}
use Rattle.std.specs.Option.{option_map}
use Rattle.std.proofs.lemmas.Bool.{cond-true}
use Rattle.xid.specs.Names.{XidParts}
use Rattle.xid.specs.Transactions.{TxParts, BranchParts, participants, is_at, xid_of, xid_at}
use Rattle.xid.specs.declared.refusals.Refusal.TheVariants.{BadTx}
use Rattle.wire.specs.declared.message.Kind.{Kind}
use Rattle.wire.specs.declared.message.Kind.TheVariants as kinds
use Rattle.stable_record.specs.declared.fact.FactKind.TheVariants as stored
use Rattle.ballot.specs.Greatest.{IsIn}
use Rattle.protocol.specs.Basics.{Fact}
use Rattle.safety.specs.Vocabulary.{NodeId, L, R, View, Refused, Stands as answers, Answer, Status}
use Rattle.safety.specs.Runs.{IsReachable, views_in}
use Rattle.safety.specs.Standing.{Stands, setting, facts_at, sent_in}
use Rattle.safety.specs.Items.{Item, Commit, Abort, IsView}
use Rattle.safety.specs.CommitSteps.{IsReady, working, prepared, committed, aborted}
use Rattle.safety.proofs.Facts.{participates}
use Rattle.safety.proofs.Argument.Agreement.{one_outcome}
use Rattle.safety.proofs.Argument.Views.{one_view}
use Rattle.safety.proofs.World.Reachable.{invariant, ready}
use Rattle.safety.proofs.World.SafeSteps.{state_stands}
use Rattle.protocol.specs.Effects.{Config, Effect, is_inside, no_effect, stores, status_standing}
use Rattle.protocol.specs.Facts.{view, last_ballot, is_prepared_view, is_open_view}
use Rattle.protocol.specs.Managers.{Branch, branches_without, stored_votes, on_manager_message}
use Rattle.protocol.specs.LeaderMemory.{status_of}
use Rattle.protocol.specs.Nodes.{NodeState, Memory, Input, Asked, NoFault, on_message, node_step, effect_of, effect_outcome, answer_outcome}
use Rattle.protocol.specs.Nodes.{down_answer}
use Rattle.protocol.specs.declared.requests.Request.TheVariants as requests
use Rattle.protocol.specs.declared.states.Standing.{Standing}
use Rattle.protocol.specs.declared.states.Standing.TheVariants as standings
use Rattle.protocol.specs.declared.states.Status.TheVariants as statuses
use Rattle.progress.specs.Outcomes.{status_answer}
use Rattle.protocol.specs.PaperItems.{unbundled}
use Rattle.protocol.specs.Worlds.{World, Datagram, node_at, outcome_result, if_found}
use Rattle.protocol.proofs.Lists.{IsIn-join, IsIn-mapped, any_find}
use Rattle.progress.proofs.Mail.{Letter, letter_of, mail}
use Rattle.progress.proofs.Backed.{IsBacked}
use Rattle.progress.proofs.Ending.{IsAnnounced}

-- what is in the mail was sent
mailed_sent : (world : World) (receiver : NodeId) (message m : Kind)
    → IsIn (mail world.net) (record { receiver = receiver; message = message })
    → IsIn (unbundled message) m → IsIn (sent_in world) m
mailed_sent world receiver message m h k =
    let from = IsIn-mapped letter_of world.net (record { receiver = receiver; message = message }) h in
    IsIn-join (λ (d : Datagram). unbundled d.message) world.net from.source m from.among
    (subst (λ (x : Kind). IsIn (unbundled x) m) (sym (ap (λ (letter : Letter). letter.message) from.maps)) k)

-- a participant has a name
named_there : (tx : TxParts) (r : ℕ) → IsIn (participants tx) r → (x : XidParts) × (xid_at tx r ≡ Some x)
named_there tx r named =
    let found = any_find (is_at r) tx.branches (participates tx r named) in
    (xid_of tx found.0, ap (λ (o : Option BranchParts). option_map (xid_of tx) o) found.1)

module _ (config : Config) (tx : TxParts) (world : World) where
  abbrev Has : Item TxParts → Type 0
  Has = Stands config world

  module _ (reach : IsReachable config world) (r : ℕ) (named : IsIn (participants tx) r) where
    view_stands : IsView Has tx r (views_in config world tx r)
    view_stands = state_stands config (node_at config world) (sent_in world) tx r (participates tx r named)

    -- a stored outcome is the view
    commit_ends_there : IsIn (facts_at config world (R r)) (stored.Committed tx) → views_in config world tx r ≡ committed
    commit_ends_there h =
        one_view (setting config) Has (invariant config world reach) tx r (views_in config world tx r) committed view_stands h

    abort_ends_there : IsIn (facts_at config world (R r)) (stored.Aborted tx) → views_in config world tx r ≡ aborted
    abort_ends_there h =
        one_view (setting config) Has (invariant config world reach) tx r (views_in config world tx r) aborted view_stands (inr h)

  abbrev committing : List Branch → View → Effect (List Branch)
  committing branches v = if is_prepared_view v then stores branches (stored.Committed tx) [] else no_effect branches

  abbrev aborting : List Branch → XidParts → View → Effect (List Branch)
  aborting branches x v = if is_open_view v then stores (branches_without branches x) (stored.Aborted tx) [] else no_effect branches

  -- a Commit finds a participant prepared, if it isn't committed
  commit_by : (r : ℕ) (facts : List Fact) (memory : Memory) (x : XidParts) → xid_at tx r ≡ Some x → (now : View) → view facts tx ≡ now
      → IsReady now → (now ≡ committed) ⊎ ((on_message config (R r) facts memory (kinds.Commit tx)).fact ≡ Some (stored.Committed tx))
  commit_by r facts memory x named prepared e is =
      inr (ap (λ (o : Option XidParts). (on_manager_message r (stored_votes r facts) memory.branches o (kinds.Commit tx)).fact) named
      ∙ ap (λ (v : View). (committing memory.branches v).fact) e)
  commit_by r facts memory x named committed e is = inl refl
  commit_by r facts memory x named working e is = absurd is
  commit_by r facts memory x named aborted e is = absurd is

  commit_stores_there : IsReachable config world → (r : ℕ) → IsIn (participants tx) r
      → IsIn (mail world.net) (record { receiver = R r; message = kinds.Commit tx }) → (memory : Memory)
      → (views_in config world tx r ≡ committed)
      ⊎ ((on_message config (R r) (facts_at config world (R r)) memory (kinds.Commit tx)).fact ≡ Some (stored.Committed tx))
  commit_stores_there reach r named posted memory =
      let name = named_there tx r named in
      let stands : Has (Commit tx) = mailed_sent world (R r) (kinds.Commit tx) (kinds.Commit tx) posted (inl refl) in
      commit_by r (facts_at config world (R r)) memory name.0 name.1 (views_in config world tx r) refl
      (ready config world reach tx r (participates tx r named) stands)

  -- an Abort finds a participant working or prepared, if it isn't aborted
  abort_by : (r : ℕ) (facts : List Fact) (memory : Memory) (x : XidParts) → xid_at tx r ≡ Some x → (now : View) → view facts tx ≡ now
      → now ≢ committed
      → (now ≡ aborted) ⊎ ((on_message config (R r) facts memory (kinds.Abort tx)).fact ≡ Some (stored.Aborted tx))
  abort_by r facts memory x named prepared e apart =
      inr (ap (λ (o : Option XidParts). (on_manager_message r (stored_votes r facts) memory.branches o (kinds.Abort tx)).fact) named
      ∙ ap (λ (v : View). (aborting memory.branches x v).fact) e)
  abort_by r facts memory x named working e apart =
      inr (ap (λ (o : Option XidParts). (on_manager_message r (stored_votes r facts) memory.branches o (kinds.Abort tx)).fact) named
      ∙ ap (λ (v : View). (aborting memory.branches x v).fact) e)
  abort_by r facts memory x named committed e apart = absurd (apart refl)
  abort_by r facts memory x named aborted e apart = inl refl

  abort_stores_there : IsReachable config world → (r : ℕ) → IsIn (participants tx) r
      → IsIn (mail world.net) (record { receiver = R r; message = kinds.Abort tx }) → (memory : Memory)
      → (views_in config world tx r ≡ aborted)
      ⊎ ((on_message config (R r) (facts_at config world (R r)) memory (kinds.Abort tx)).fact ≡ Some (stored.Aborted tx))
  abort_stores_there reach r named posted memory =
      let name = named_there tx r named in
      let stands : Has (Abort tx) = mailed_sent world (R r) (kinds.Abort tx) (kinds.Abort tx) posted (inl refl) in
      let inv = invariant config world reach in
      abort_by r (facts_at config world (R r)) memory name.0 name.1 (views_in config world tx r) refl
      (λ e. one_outcome (setting config) Has inv
      (inv.commit_sent (subst (IsView Has tx r) e (view_stands reach r named))) stands)

-- ---- the same in a backed world

module _ (config : Config) (tx : TxParts) (world : World) where
  abbrev with_nodes : List NodeState → World
  with_nodes nodes = record { nodes = nodes; net = world.net }

  -- at a participant that has stored the outcome
  module _ (b : IsBacked config world) (r : ℕ) (named : IsIn (participants tx) r) where
    pub commit_ends : IsIn (facts_at config world (R r)) (stored.Committed tx) → views_in config world tx r ≡ committed
    commit_ends = subst (λ (nodes : List NodeState). IsIn (facts_at config (with_nodes nodes) (R r)) (stored.Committed tx)
        → views_in config (with_nodes nodes) tx r ≡ committed) b.nodes_are (commit_ends_there config tx b.machine b.reach r named)

    pub abort_ends : IsIn (facts_at config world (R r)) (stored.Aborted tx) → views_in config world tx r ≡ aborted
    abort_ends = subst (λ (nodes : List NodeState). IsIn (facts_at config (with_nodes nodes) (R r)) (stored.Aborted tx)
        → views_in config (with_nodes nodes) tx r ≡ aborted) b.nodes_are (abort_ends_there config tx b.machine b.reach r named)

  -- at one that is told it
  pub commit_stores : IsAnnounced config tx (kinds.Commit tx) world → (r : ℕ) → IsIn (participants tx) r → (memory : Memory)
      → (views_in config world tx r ≡ committed)
      ⊎ ((on_message config (R r) (facts_at config world (R r)) memory (kinds.Commit tx)).fact ≡ Some (stored.Committed tx))
  commit_stores state r named memory =
      let b = state.reach in
      subst (λ (nodes : List NodeState). (views_in config (with_nodes nodes) tx r ≡ committed)
      ⊎ ((on_message config (R r) (facts_at config (with_nodes nodes) (R r)) memory (kinds.Commit tx)).fact ≡ Some (stored.Committed tx)))
      b.nodes_are (commit_stores_there config tx b.machine b.reach r named
      (b.sent (record { receiver = R r; message = kinds.Commit tx }) (state.posted r named)) memory)

  pub abort_stores : IsAnnounced config tx (kinds.Abort tx) world → (r : ℕ) → IsIn (participants tx) r → (memory : Memory)
      → (views_in config world tx r ≡ aborted)
      ⊎ ((on_message config (R r) (facts_at config world (R r)) memory (kinds.Abort tx)).fact ≡ Some (stored.Aborted tx))
  abort_stores state r named memory =
      let b = state.reach in
      subst (λ (nodes : List NodeState). (views_in config (with_nodes nodes) tx r ≡ aborted)
      ⊎ ((on_message config (R r) (facts_at config (with_nodes nodes) (R r)) memory (kinds.Abort tx)).fact ≡ Some (stored.Aborted tx)))
      b.nodes_are (abort_stores_there config tx b.machine b.reach r named
      (b.sent (record { receiver = R r; message = kinds.Abort tx }) (state.posted r named)) memory)

-- ---- the leader

-- a leader that is up, with this status
pub record HasStatus (config : Config) (l : ℕ) (tx : TxParts) (status : Status) (world : World) : Type 0 where
  pub node : NodeState
  pub is : node_at config world (L l) ≡ Some node
  pub up : node.up ≡ true
  pub status_is : status_of config.acceptors (last_ballot node.facts) node.memory.leader tx ≡ status

-- a standing that is answered is a status
pub status_of_answer : (status : Status) → ((answers (status_standing status) ≡ answers standings.Committed) → status ≡ statuses.Committed)
    × ((answers (status_standing status) ≡ answers standings.Aborted) → status ≡ statuses.Aborted)
status_of_answer statuses.Unknown = (λ e. absurd (cc (e)), λ e. absurd (cc (e)))
status_of_answer statuses.Undecided = (λ e. absurd (cc (e)), λ e. absurd (cc (e)))
status_of_answer statuses.Committed = (λ e. refl, λ e. absurd (cc (e)))
status_of_answer statuses.Aborted = (λ e. absurd (cc (e)), λ e. refl)

module _ (config : Config) (l : ℕ) (tx : TxParts) (inside : is_inside config tx ≡ true) (world : World) where
  abbrev asked : Input
  asked = Asked (requests.Status tx)

  abbrev answer_by : Option NodeState → Answer
  answer_by o = (if_found world
      (λ found. outcome_result config world (L l) found.facts (node_step config (L l) found asked NoFault)) o).answer

  abbrev answer_if : NodeState → Bool → Answer
  answer_if node up =
      let e = effect_of config (L l) node.facts node.memory asked in
      (if not up then answer_outcome node (down_answer asked) else effect_outcome node e None node.tear NoFault).answer

  abbrev status_at : NodeState → Status
  status_at node = status_of config.acceptors (last_ballot node.facts) node.memory.leader tx

  module _ (standing : Standing) (status : Status)
      (told : (s : Status) → (answers (status_standing s) ≡ answers standing) → s ≡ status) where
    up_by : (node : NodeState) → node_at config world (L l) ≡ Some node → (up : Bool) → node.up ≡ up → answer_if node up ≡ answers standing
        → HasStatus config l tx status world
    up_by node is false e h = absurd (cc (h))
    up_by node is true e h = record {
      node = node;
      is = is;
      up = e;
      status_is = told (status_at node)
          (sym (cond-true (is_inside config tx) (answers (status_standing (status_at node))) (Refused BadTx) inside) ∙ h);
    }

    there_by : (o : Option NodeState) → node_at config world (L l) ≡ o → answer_by o ≡ answers standing → HasStatus config l tx status world
    there_by None is h = absurd (cc (h))
    there_by (Some node) is h = up_by node is node.up refl h

    -- by what it answers
    pub has_status : status_answer config world l tx ≡ answers standing → HasStatus config l tx status world
    has_status h = there_by (node_at config world (L l)) refl h

  pub has_committed : status_answer config world l tx ≡ answers standings.Committed → HasStatus config l tx statuses.Committed world
  has_committed = has_status standings.Committed statuses.Committed (λ s e. (status_of_answer s).0 e)

  pub has_aborted : status_answer config world l tx ≡ answers standings.Aborted → HasStatus config l tx statuses.Aborted world
  has_aborted = has_status standings.Aborted statuses.Aborted (λ s e. (status_of_answer s).1 e)
