-- From the opening world on each participant starts a branch and ends its work, and then the transaction can commit.
use Rattle.std.proofs.Common.{◌≡◌, ◌≢◌, ◌⊎◌, inl, inr, ◌∙◌, ℕ, zero, suc, ◌*◌, ◌^◌, ◌<◌, Bool, true, IsTrue}
use Rattle.std.proofs.Common.{List, [], ◌∷◌, Option, Some, None, refl, sym, ap, subst, arith, nat_lt}
use Rattle.std.specs.Option.{option_map}
use Rattle.std.proofs.lemmas.Bool.{cases_eq, lt-ltb, ltb-true}
use Rattle.xid.specs.Names.{XidParts}
use Rattle.xid.specs.Transactions.{TxParts, BranchParts, participants, is_participant, is_at, xid_of, xid_at}
use Rattle.xid.proofs.Deciding.{xid_self}
use Rattle.ballot.specs.Greatest.{IsIn}
use Rattle.ballot.specs.Majority.{is_majority, count}
use Rattle.protocol.specs.Basics.{Fact}
use Rattle.safety.specs.Vocabulary.{BranchState, NodeId, A, L, R, Event, Ask, Start, End, Call}
use Rattle.safety.specs.CommitSteps.{committed}
use Rattle.safety.specs.Runs.{Opening}
use Rattle.safety.specs.Standing.{facts_of, facts_at}
use Rattle.safety.proofs.Facts.{participates, among_participants}
use Rattle.safety.proofs.World.NodePlaces.{opening_node}
use Rattle.protocol.specs.declared.requests.Request.TheVariants as requests
use Rattle.protocol.specs.Effects.{Config, is_inside}
use Rattle.protocol.specs.Facts.{slot, last_ballot}
use Rattle.protocol.specs.LeaderMemory.{nothing_heard}
use Rattle.protocol.specs.Nodes.{NodeState, new_node, NoFault, Asked, node_step}
use Rattle.protocol.specs.Worlds.{World, opening, node_at, world_step, world_after}
use Rattle.protocol.proofs.Lists.{any_found, all_found}
use Rattle.progress.specs.Runs.{without_fault}
use Rattle.progress.specs.Outcomes.{HasBallots, HaveEnded}
use Rattle.progress.proofs.Backed.{IsBacked, backed}
use Rattle.progress.proofs.Ending.{manager_apart}
use Rattle.progress.proofs.Existing.{leader_there, manager_there}
use Rattle.progress.proofs.Steps.{quiet_node}
use Rattle.commits.specs.Idle.{IsUp, HasIdleBranch}
use Rattle.commits.specs.Votes.{IsAtFirst}
use Rattle.commits.specs.Whole.{HasCommittingRun}
use Rattle.commits.proofs.Preparing.{found_by}
use Rattle.commits.proofs.Requesting.{asked_moved, request_committed}

-- ---- runs of any events

-- events without a fault lead to a world with a property
record Reaches (config : Config) (P : World → Type 0) (world : World) : Type 0 where
  events : List Event
  holds : P (world_after config world (without_fault events))

module _ (config : Config) where
  reaches_now : (P : World → Type 0) (world : World) → P world → Reaches config P world
  reaches_now P world h = record { events = []; holds = h }

  reaches_step : (P : World → Type 0) (world : World) (event : Event) → Reaches config P (world_step config world event NoFault).world
      → Reaches config P world
  reaches_step P world event rest = record { events = event ∷ rest.events; holds = rest.holds }

  reaches_on : (Q P : World → Type 0) → ((after : World) → Q after → Reaches config P after) → (world : World) (events : List Event)
      → Q (world_after config world (without_fault events)) → Reaches config P world
  reaches_on Q P next world [] h = next world h
  reaches_on Q P next world (event ∷ events) h =
      reaches_step P world event (reaches_on Q P next (world_step config world event NoFault).world events h)

-- ---- one participant

abbrev with_branch : XidParts → BranchState → NodeState
with_branch x state =
    quiet_node [] (record { leader = nothing_heard; branches = record { xid = x; state = state; keys = [] } ∷ [] })

started : (config : Config) (r : ℕ) (x : XidParts) → (node_step config (R r) new_node (Asked (Call x Start)) NoFault).node
    ≡ with_branch x BranchState.Active
started config r x = refl

ended : (config : Config) (r : ℕ) (x : XidParts)
    → (node_step config (R r) (with_branch x BranchState.Active) (Asked (Call x End)) NoFault).node ≡ with_branch x BranchState.Idle
ended config r x = rw (xid_self x) refl

named_there : (tx : TxParts) (r : ℕ) → IsTrue (is_participant tx r) → (x : XidParts) × (xid_at tx r ≡ Some x)
named_there tx r named =
    let at = any_found (is_at r) tx.branches named in
    let one = found_by (is_at r) tx.branches at.element at.among at.passes in
    (xid_of tx one.0, ap (λ (o : Option BranchParts). option_map (xid_of tx) o) one.1)

-- each participant is new or has an idle branch; acceptors and leaders are new
record IsYoung (config : Config) (tx : TxParts) (world : World) : Type 0 where
  reach : IsBacked config world
  each : (r : ℕ) → IsIn (participants tx) r → (node_at config world (R r) ≡ Some new_node) ⊎ HasIdleBranch config world tx r
  acceptors : (a : ℕ) → node_at config world (A a) ≡ node_at config (opening config) (A a)
  leaders : (l : ℕ) → node_at config world (L l) ≡ node_at config (opening config) (L l)

module _ (config : Config) (tx : TxParts) where
  abbrev Idle : ℕ → World → Type 0
  Idle r world = HasIdleBranch config world tx r

  idle_still : (r : ℕ) (before after : World) → node_at config after (R r) ≡ node_at config before (R r) → Idle r before → Idle r after
  idle_still r before after same idle = record {
    facts = idle.facts;
    memory = idle.memory;
    up = same ∙ idle.up;
    name = idle.name;
    named = idle.named;
    keys = idle.keys;
    idle = idle.idle;
  }

  module _ (r : ℕ) (named : IsIn (participants tx) r) (before : World) (state : IsYoung config tx before) where
    abbrev Next : World → Type 0
    Next after = IsYoung config tx after × Idle r after × ((s : ℕ) → Idle s before → Idle s after)

    next_by : (after : World) → IsBacked config after → ((n : NodeId) → n ≢ R r → node_at config after n ≡ node_at config before n)
        → Idle r after → Next after
    next_by after reach others idle = (
      record {
        reach = reach;
        each = λ s h. elim (cases_eq s r) [
          | inl same ↦ inr (subst (λ (k : ℕ). Idle k after) (sym same) idle)
          | inr apart ↦ elim (state.each s h) [
            | inl new ↦ inl (others (R s) (manager_apart s r apart) ∙ new)
            | inr had ↦ inr (idle_still s before after (others (R s) (manager_apart s r apart)) had)
          ]
        ];
        acceptors = λ a. others (A a) (λ e. absurd (cc (e))) ∙ state.acceptors a;
        leaders = λ l. others (L l) (λ e. absurd (cc (e))) ∙ state.leaders l;
      },
      idle,
      λ s had. elim (cases_eq s r) [
        | inl same ↦ subst (λ (k : ℕ). Idle k after) (sym same) idle
        | inr apart ↦ idle_still s before after (others (R s) (manager_apart s r apart)) had
      ],
    )

    -- it starts a branch, and ends its work
    works : (x : XidParts) → xid_at tx r ≡ Some x → node_at config before (R r) ≡ Some new_node → Reaches config Next before
    works x name new =
        let first = asked_moved config before (R r) new_node new (Call x Start) in
        let middle : World = (world_step config before (Ask (R r) (Call x Start)) NoFault).world in
        let active = with_branch x BranchState.Active in
        let here : node_at config middle (R r) ≡ Some active = first.here ∙ ap Some (started config r x) in
        let second = asked_moved config middle (R r) active here (Call x End) in
        let last : World = (world_step config middle (Ask (R r) (Call x End)) NoFault).world in
        reaches_step config Next before (Ask (R r) (Call x Start))
        (reaches_step config Next middle (Ask (R r) (Call x End))
        (reaches_now config Next last (next_by last (second.reach (first.reach state.reach))
        (λ n apart. second.others n apart ∙ first.others n apart)
        (record {
          facts = [];
          memory = (with_branch x BranchState.Idle).memory;
          up = second.here ∙ ap Some (ended config r x);
          name = x;
          named = name;
          keys = [];
          idle = inl refl;
        }))))

    make_idle : (node_at config before (R r) ≡ Some new_node) ⊎ Idle r before → Reaches config Next before
    make_idle (inl new) = let x = named_there tx r (participates tx r named) in works x.0 x.1 new
    make_idle (inr idle) = reaches_now config Next before (state, idle, λ s had. had)

  -- ---- each of them

  abbrev AreIdle : List ℕ → World → World → Type 0
  AreIdle rs before after =
      IsYoung config tx after × ((r : ℕ) → IsIn rs r → Idle r after) × ((s : ℕ) → Idle s before → Idle s after)

  all_idle : (rs : List ℕ) → ((r : ℕ) → IsIn rs r → IsIn (participants tx) r) → (world : World) → IsYoung config tx world
      → Reaches config (AreIdle rs world) world
  all_idle [] some world state = reaches_now config (AreIdle [] world) world (state, λ r none. absurd none, λ s had. had)
  all_idle (r ∷ rs) some world state =
      let one = make_idle r (some r (inl refl)) world state (state.each r (some r (inl refl))) in
      reaches_on config (Next r (some r (inl refl)) world state) (AreIdle (r ∷ rs) world)
      (λ middle first.
      let rest = all_idle rs (λ s h. some s (inr h)) middle first.0 in
      reaches_on config (AreIdle rs middle) (AreIdle (r ∷ rs) world)
      (λ after more. reaches_now config (AreIdle (r ∷ rs) world) after (
        more.0,
        idle_by middle after first.1 more,
        λ s had. more.2 s (first.2 s had),
      )) middle rest.events rest.holds) world one.events one.holds
    where
      idle_by : (middle after : World) → Idle r middle → AreIdle rs middle after → (s : ℕ) → IsIn (r ∷ rs) s → Idle s after
      idle_by middle after first more s (inl e) = subst (λ (k : ℕ). Idle k after) e (more.2 r first)
      idle_by middle after first more s (inr h) = more.1 s h

-- ---- the opening world

new_facts : (o : Option NodeState) → ((node : NodeState) → o ≡ Some node → new_node ≡ node) → facts_of o ≡ []
new_facts None new = refl
new_facts (Some node) new = ap (λ (n : NodeState). n.facts) (sym (new node refl))

count_all : (n : ℕ) → count n (λ a. true) ≡ n
count_all zero = refl
count_all (suc n) = let rest = count_all n in omega (arith, rest)

module _ (config : Config) (tx : TxParts) (inside : is_inside config tx ≡ true) (some_leader : 0 < config.leaders)
    (some_acceptor : 0 < config.acceptors) (few : 3 * config.leaders < 2 ^ 32) where
  abbrev quorum : ℕ → Bool
  quorum a = true

  majority : is_majority config.acceptors quorum ≡ true
  majority =
      let all : count config.acceptors quorum ≡ config.acceptors = count_all config.acceptors in
      lt-ltb config.acceptors (2 * count config.acceptors quorum) (omega (arith, all, some_acceptor))

  young : IsYoung config tx (opening config)
  young = record {
    reach = backed config (opening config) Opening;
    each = λ r named.
        let there = manager_there config (opening config) (backed config (opening config) Opening) r
        (ltb-true r config.managers (all_found (λ (rm : ℕ). nat_lt rm config.managers) (participants tx) inside r named)) in
        inl (there.1 ∙ ap Some (sym (opening_node config (R r) there.0 there.1)));
    acceptors = λ a. refl;
    leaders = λ l. refl;
  }

  commits_from : (world : World) → AreIdle config tx (participants tx) (opening config) world
      → Reaches config (HaveEnded config tx committed) world
  commits_from world idle =
      let state = idle.0 in
      let acceptor : (a : ℕ) → facts_at config world (A a) ≡ [] =
      λ a. ap facts_of (state.acceptors a) ∙ new_facts (node_at config (opening config) (A a)) (opening_node config (A a)) in
      let leader : facts_at config world (L 0) ≡ [] =
      ap facts_of (state.leaders 0) ∙ new_facts (node_at config (opening config) (L 0)) (opening_node config (L 0)) in
      let there = leader_there config (opening config) (backed config (opening config) Opening) 0 some_leader in
      let at : node_at config world (L 0) ≡ Some new_node =
      state.leaders 0 ∙ there.1 ∙ ap Some (sym (opening_node config (L 0) there.0 there.1)) in
      let up : IsUp config world (L 0) = record { node = new_node; is = at; up = refl } in
      let first : IsAtFirst config quorum tx world =
      λ a i is named. ap (λ (facts : List Fact). (slot facts tx i).mbal) (acceptor a) in
      let no_ballot : last_ballot (facts_at config world (L 0)) tx ≡ 0 = ap (λ (facts : List Fact). last_ballot facts tx) leader in
      let ballots : HasBallots config world 0 quorum tx = record {
        most = 0;
        stored = omega (arith, no_ballot);
        promised = λ a i is named. let none = first a i is named in omega (arith, none);
        left = omega (arith, few);
      } in
      let run = request_committed config tx 0 quorum some_leader inside majority world state.reach ballots first
      (λ r named. idle.1 r (among_participants tx r named)) up in
      reaches_step config (HaveEnded config tx committed) world (Ask (L 0) (requests.Commit tx))
      (record { events = run.events; holds = run.holds })

  pub committing_run : HasCommittingRun config tx
  committing_run =
      let first = all_idle config tx (participants tx) (λ r h. h) (opening config) young in
      let run = reaches_on config (AreIdle config tx (participants tx) (opening config)) (HaveEnded config tx committed) commits_from
      (opening config) first.events first.holds in
      record { events = run.events; committed = run.holds }
