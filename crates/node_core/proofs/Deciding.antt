-- What a part decides is what its node does.
-- Needed by 9 functions of this crate; Playing.
use Rattle.std.proofs.lemmas.Bool.{cond_both}
use Rattle.std.proofs.Common.{unwrap_or, ◌≡◌, ◌∙◌, ℕ, true, false, not, ◌||◌, List, [], ◌∷◌, ◌++◌, Option, Some, None, refl, sym, ap, subst}
use Rattle.ballot.specs.Ballots.{next_of}
use Rattle.protocol.specs.Effects.{stores, Config, Effect, decision_of, is_inside}
use Rattle.protocol.specs.declared.decisions.Outgoing.{Outgoing}
use Rattle.node_core.specs.Roles.{memory_after, RoleStands, IsLeft, IsDecided, Decides, Rule, answering}
use Rattle.std.specs.Prelude.{IfErr, IfSome, IfNone, OnOk, Result, Ok, Err, nat_lt, ◌^◌}
use Rattle.xid.specs.Names.{XidParts}
use Rattle.xid.specs.Transactions.{TxParts, xid_at}
use Rattle.xid.specs.declared.refusals.Refusal.{Refusal}
use Rattle.xid.specs.declared.refusals.Refusal.TheVariants.{NoMemory}
use Rattle.wire.specs.declared.message.Kind.{Kind}
use Rattle.wire.specs.declared.message.Kind.TheVariants as kinds
use Rattle.wire.specs.Messages.{message_tx}
use Rattle.wire.specs.declared.items.InstanceReport.{InstanceReport}
use Rattle.wire.specs.declared.items.InstanceAccept.{InstanceAccept}
use Rattle.stable_record.specs.declared.fact.FactKind.{FactKind as Fact}
use Rattle.protocol.specs.declared.answers.Answer.{Answer}
use Rattle.protocol.specs.declared.decisions.Decision.{Decision}
use Rattle.protocol.specs.declared.nodes.NodeId.{NodeId}
use Rattle.protocol.specs.declared.nodes.NodeId.TheVariants.{A, L, R}
use Rattle.protocol.specs.declared.requests.Action.{Action}
use Rattle.protocol.specs.declared.requests.Request.{Request}
use Rattle.protocol.specs.declared.requests.Request.TheVariants as requests
use Rattle.protocol.specs.Facts.{slot, last_ballot, with_fact}
use Rattle.protocol.specs.LeaderMemory.{LeaderMemory, StoredBallots, status_of, with_begun, with_met}
use Rattle.protocol.specs.Leaders as rules
use Rattle.protocol.specs.Managers.{Branch, stored_votes, plays_at_manager, on_manager_message}
use Rattle.protocol.specs.Acceptors.{on_acceptor_message, plays_at_acceptor}
use Rattle.protocol.specs.Nodes.{Memory, on_message, on_request, in_memory, of_leader, of_manager, plays}
use Rattle.acceptor.specs.Acceptors as acceptor_specs
use Rattle.acceptor.specs.Acceptors.{AcceptorParts}
use Rattle.leader.specs.Leaders as leader_specs
use Rattle.leader.specs.Leaders.{LeaderParts, StandsForBallots, Follows, FollowsOrRefuses}
use Rattle.leader.specs.Decisions as leader_decisions
use Rattle.leader.specs.declared.decision.LeaderDecision.{LeaderDecision}
use Rattle.resource_manager.specs.Managers as manager_specs
use Rattle.resource_manager.specs.Managers.{ManagerParts, IsCall}
use Rattle.resource_manager.proofs.More.{unspent_all}
use Rattle.node_core.specs.declared.role.Role.{Role}

-- ---- acceptors

module _ (p : AcceptorParts) (d : Decision) (message : Kind)
    (h : acceptor_specs.Decides p d (λ config a slots. on_acceptor_message config a slots message)) where
  acceptor_left : (config : Config) (a : ℕ) (facts : List Fact) (memory : Memory) (e : Effect (Unit {0}))
      → acceptor_specs.StandsFor config a p facts → (o : Option Fact) → IfSome o (λ fact. plays_at_acceptor (slot facts) fact ≡ true)
      → IsLeft config (A a) facts memory (Role.Acceptor p) (in_memory (λ none. memory) e) o
  acceptor_left config a facts memory e s None plays = s
  acceptor_left config a facts memory e s (Some fact) plays = record { stands = s; fits = plays; idle = tt; leaves = refl }

  -- what an acceptor decides on a message is what its node does
  pub acceptor_decides : Decides (Role.Acceptor p) (Role.Acceptor p) d
      (λ config who facts memory. on_message config who facts memory message)
  acceptor_decides config (A a) facts memory s =
      let is = h config a facts s in
      record {
        effect_is = is.effect_is;
        leaves = acceptor_left config a facts memory (on_acceptor_message config a (slot facts) message) s d.fact is.plays;
      }
  acceptor_decides config (L l) facts memory s = absurd s
  acceptor_decides config (R rm) facts memory s = absurd s

-- ---- resource managers

module _ (p : ManagerParts) (d : Decision) (message : Kind) (h : manager_specs.Decides p d
    (λ config number stored branches. on_manager_message number stored branches (xid_at (message_tx message) number) message)) where
  manager_left : (config : Config) (rm : ℕ) (facts : List Fact) (memory : Memory) (e : Effect (List Branch))
      → manager_specs.StandsFor config rm p facts memory.branches → (o : Option Fact)
      → IfSome o (λ fact. (plays_at_manager rm (stored_votes rm facts) fact ≡ true) × manager_specs.IsOfIdleBranch rm memory.branches fact)
      → e.memory ≡ manager_specs.unspent_branches rm (with_fact facts o) memory.branches
      → IsLeft config (R rm) facts memory (Role.Manager p) (of_manager memory e) o
  manager_left config rm facts memory e s None plays leaves =
      subst (manager_specs.StandsFor config rm p facts) (sym (unspent_all rm facts memory.branches s.apart.unspent) ∙ sym leaves) s
  manager_left config rm facts memory e s (Some fact) plays leaves = record {
    stands = s;
    fits = plays.0;
    idle = plays.1;
    leaves = ap (λ (branches : List Branch). record memory { branches = branches }) leaves;
  }

  -- so it is for a resource manager
  pub manager_decides : Decides (Role.Manager p) (Role.Manager p) d
      (λ config who facts memory. on_message config who facts memory message)
  manager_decides config (A a) facts memory s = absurd s
  manager_decides config (L l) facts memory s = absurd s
  manager_decides config (R rm) facts memory s =
      let is = h config rm facts memory.branches s in
      record {
        effect_is = is.effect_is;
        leaves = manager_left config rm facts memory
            (on_manager_message rm (stored_votes rm facts) memory.branches (xid_at (message_tx message) rm) message)
            s d.fact is.plays is.leaves;
      }

-- ---- leaders

-- an answer is all
abbrev NoFact : Effect LeaderMemory → Type 0
NoFact e = e.fact ≡ None

module _ (config : Config) (stored : StoredBallots) (memory : LeaderMemory) where
  commit_stores_nothing : (tx : TxParts) → NoFact (rules.on_commit_call config stored memory tx)
  commit_stores_nothing tx = cond_both (is_inside config tx) _ _ NoFact (λ h. refl) (λ h. refl)

  reports_store_nothing : (tx : TxParts) (b a : ℕ) (reports : List InstanceReport)
      → NoFact (rules.on_1b config stored memory tx b a reports)
  reports_store_nothing tx b a reports =
      cond_both (rules.is_final (status_of config.acceptors stored memory tx) || not (rules.is_current memory tx b)) _ _ NoFact
      (λ h. refl) (λ h. refl)

  accepts_store_nothing : (tx : TxParts) (a : ℕ) (accepts : List InstanceAccept) → NoFact (rules.on_2b config stored memory tx a accepts)
  accepts_store_nothing tx a accepts =
      cond_both (rules.is_final (status_of config.acceptors stored memory tx)) _ _ NoFact (λ h. refl) (λ h. refl)

  message_stores_nothing : (message : Kind) → NoFact (rules.on_leader_message config stored memory message)
  message_stores_nothing (kinds.P1b tx i b report a) = reports_store_nothing tx b a (record { instance = i; report = report } ∷ [])
  message_stores_nothing (kinds.B1b tx b a reports) = reports_store_nothing tx b a reports
  message_stores_nothing (kinds.P2b tx i b v a) = accepts_store_nothing tx a (record { instance = i; ballot = b; vote = v } ∷ [])
  message_stores_nothing (kinds.B2b tx a accepts) = accepts_store_nothing tx a accepts
  message_stores_nothing other = refl

-- a leader that stores nothing
module _ (old new : LeaderParts) (d : LeaderDecision) (rule : leader_specs.Rule) where
  nothing_left : (config : Config) (l : ℕ) (facts : List Fact) (memory : Memory) (e : Effect LeaderMemory) → e.fact ≡ None
      → leader_specs.StandsFor config l new facts e.memory → (o : Option Fact) → o ≡ e.fact
      → IsLeft config (L l) facts memory (Role.Leader new) (of_leader memory e) o
  nothing_left config l facts memory e none s o is =
      subst (IsLeft config (L l) facts memory (Role.Leader new) (of_leader memory e)) (sym (is ∙ none)) s

  pub leader_follows : (config : Config) (l : ℕ) (facts : List Fact) (memory : Memory)
      → NoFact (rule (last_ballot facts) memory.leader) → Follows config l old new d rule
      → leader_specs.StandsFor config l old facts memory.leader
      → IsDecided config (L l) facts memory (Role.Leader new) (leader_decisions.shown d)
      (of_leader memory (rule (last_ballot facts) memory.leader))
  leader_follows config l facts memory none h s =
      let is = h.decides (last_ballot facts) memory.leader s.ballots in
      record {
        effect_is = is;
        leaves = nothing_left config l facts memory (rule (last_ballot facts) memory.leader) none
            (record { ballots = h.stands (last_ballot facts) memory.leader s.ballots; begun_are = h.begun_is ∙ s.begun_are }) d.fact
            (ap (λ (x : Decision). x.fact) is);
      }

-- a call that may refuse, refuses for memory
pub refused_memory : (config : Config) (number : ℕ) (old new : LeaderParts) (rule : leader_specs.Rule) (e : Refusal)
    → FollowsOrRefuses config number old new (Err e) rule → e ≡ NoMemory
refused_memory config number old new rule NoMemory h = refl
refused_memory config number old new rule other h = absurd h

-- a cluster of no nodes
abbrev pub no_config : Config
no_config = record { acceptors = 0; leaders = 0; managers = 0; bundled = false; tables = [] }

-- and for a leader
pub leader_decides : (old new : LeaderParts) (d : LeaderDecision) (message : Kind)
    → ((config : Config) (number : ℕ) → Follows config number old new d
    (λ stored memory. rules.on_leader_message config stored memory message))
    → Decides (Role.Leader old) (Role.Leader new) (leader_decisions.shown d)
    (λ config who facts memory. on_message config who facts memory message)
leader_decides old new d message h config (A a) facts memory s = absurd s
leader_decides old new d message h config (R rm) facts memory s = absurd s
leader_decides old new d message h config (L l) facts memory s =
    leader_follows old new d (λ stored memory. rules.on_leader_message config stored memory message) config l facts memory
    (message_stores_nothing config (last_ballot facts) memory.leader message) (h config l) s

-- and stores nothing
pub leader_stores_nothing : (config : Config) (who : NodeId) (facts : List Fact) (memory : Memory) (p : LeaderParts) (message : Kind)
    → RoleStands config who (Role.Leader p) facts memory → (on_message config who facts memory message).fact ≡ None
leader_stores_nothing config (A a) facts memory p message s = absurd s
leader_stores_nothing config (R rm) facts memory p message s = absurd s
leader_stores_nothing config (L l) facts memory p message s = message_stores_nothing config (last_ballot facts) memory.leader message

-- what a leader decides on a call to commit is what its node does on that request
pub commit_decides : (old new : LeaderParts) (d : LeaderDecision) (tx : TxParts)
    → ((config : Config) (number : ℕ) → Follows config number old new d
    (λ stored memory. rules.on_commit_call config stored memory tx))
    → Decides (Role.Leader old) (Role.Leader new) (leader_decisions.shown d)
    (λ config who facts memory. on_request config who facts memory (requests.Commit tx))
commit_decides old new d tx h config (A a) facts memory s = absurd s
commit_decides old new d tx h config (R rm) facts memory s = absurd s
commit_decides old new d tx h config (L l) facts memory s =
    leader_follows old new d (λ stored memory. rules.on_commit_call config stored memory tx) config l facts memory
    (commit_stores_nothing config (last_ballot facts) memory.leader tx) (h config l) s

-- it refuses for want of memory alone
pub commit_refused : (old new : LeaderParts) (d : LeaderDecision) (tx : TxParts) (result : Result (Unit {0}) Refusal)
    → ((config : Config) (number : ℕ) → FollowsOrRefuses config number old new (leader_specs.decided d result)
    (λ stored memory. rules.on_commit_call config stored memory tx))
    → IfErr result (λ e. e ≡ NoMemory)
commit_refused old new d tx (Ok done) h = tt
commit_refused old new d tx (Err refusal) h =
    refused_memory no_config 0 old new (λ stored memory. rules.on_commit_call no_config stored memory tx) refusal (h no_config 0)

-- so it is for a call of a status
pub status_decides : (p : LeaderParts) (d : LeaderDecision) (tx : TxParts)
    → ((config : Config) (number : ℕ) → Follows config number p p d
    (λ stored memory. rules.on_status_call config stored memory tx))
    → Decides (Role.Leader p) (Role.Leader p) (leader_decisions.shown d)
    (λ config who facts memory. on_request config who facts memory (requests.Status tx))
status_decides p d tx h config (A a) facts memory s = absurd s
status_decides p d tx h config (R rm) facts memory s = absurd s
status_decides p d tx h config (L l) facts memory s =
    leader_follows p p d (λ stored memory. rules.on_status_call config stored memory tx) config l facts memory refl (h config l) s

-- ---- a leader's timeout

module _ (config : Config) (l : ℕ) (facts : List Fact) (memory : Memory) (tx : TxParts) (fact : Fact) where
  abbrev LeavesBallot : Effect LeaderMemory → Type 0
  LeavesBallot e = e.fact ≡ Some fact → record memory { leader = e.memory } ≡ memory_after (L l) facts memory fact

  stores_ballot : (b : ℕ) (sends : List Outgoing)
      → LeavesBallot (stores (with_begun tx b (with_met tx memory.leader)) (Fact.Ballot tx b) sends)
  stores_ballot b sends is =
      ap (λ (o : Option Fact). memory_after (L l) facts memory (unwrap_or o (Fact.Ballot tx b))) is

  timeout_leaves : LeavesBallot (rules.on_leader_timeout config l (last_ballot facts) memory.leader tx)
  timeout_leaves =
      cond_both (not (is_inside config tx)) _ _ LeavesBallot (λ outside is. absurd (cc (is))) (λ inside.
      cond_both (rules.is_final (status_of config.acceptors (last_ballot facts) memory.leader tx)) _ _ LeavesBallot
      (λ final is. absurd (cc (is))) (λ open_yet.
      cond_both (nat_lt (next_of config.leaders l (last_ballot facts tx)) (2 ^ 32)) _ _ LeavesBallot
      (λ fits. stores_ballot (next_of config.leaders l (last_ballot facts tx))
      (rules.phase_1a config tx (next_of config.leaders l (last_ballot facts tx)))) (λ none is. absurd (cc (is)))))

module _ (old new : LeaderParts) (d : LeaderDecision) (tx : TxParts) where
  abbrev timeout_rule : ℕ → Config → leader_specs.Rule
  timeout_rule number config stored memory = rules.on_leader_timeout config number stored memory tx

  timeout_left : (config : Config) (l : ℕ) (facts : List Fact) (memory : Memory)
      → leader_specs.StandsFor config l old facts memory.leader → (o : Option Fact)
      → o ≡ (timeout_rule l config (last_ballot facts) memory.leader).fact
      → IfSome o (λ fact. rules.plays_at_leader config.leaders l (last_ballot facts) fact ≡ true) → IfSome o (λ fact. new ≡ old)
      → IfNone o (leader_specs.StandsFor config l new facts (timeout_rule l config (last_ballot facts) memory.leader).memory)
      → IsLeft config (L l) facts memory (Role.Leader new) (of_leader memory (timeout_rule l config (last_ballot facts) memory.leader)) o
  timeout_left config l facts memory s None is plays waits stands = stands
  timeout_left config l facts memory s (Some fact) is plays waits stands = record {
    stands = subst (λ (p : LeaderParts). leader_specs.StandsFor config l p facts memory.leader) (sym waits) s;
    fits = plays;
    idle = tt;
    leaves = timeout_leaves config l facts memory tx fact (sym is);
  }

  -- and for a leader's timeout
  pub timeout_decides :
      ((config : Config) (number : ℕ) (stored : StoredBallots) (memory : LeaderMemory) → StandsForBallots config number old stored memory
      → leader_decisions.shown d ≡ decision_of (rules.on_leader_timeout config number stored memory tx))
      → ((config : Config) (number : ℕ) (stored : StoredBallots) (memory : LeaderMemory)
      → StandsForBallots config number old stored memory
      → IfSome d.fact (λ fact. rules.plays_at_leader config.leaders number stored fact ≡ true))
      → IfSome d.fact (λ fact. new ≡ old) → new.courses.begun ≡ old.courses.begun
      → IfNone d.fact ((config : Config) (number : ℕ) (stored : StoredBallots) (memory : LeaderMemory)
      → StandsForBallots config number old stored memory
      → StandsForBallots config number new stored (rules.on_leader_timeout config number stored memory tx).memory)
      → Decides (Role.Leader old) (Role.Leader new) (leader_decisions.shown d)
      (λ config who facts memory. on_request config who facts memory (requests.Timeout tx))
  timeout_decides decides plays waits begun stands config (A a) facts memory s = absurd s
  timeout_decides decides plays waits begun stands config (R rm) facts memory s = absurd s
  timeout_decides decides plays waits begun stands config (L l) facts memory s =
      let is = decides config l (last_ballot facts) memory.leader s.ballots in
      record {
        effect_is = is;
        leaves = timeout_left config l facts memory s d.fact (ap (λ (x : Decision). x.fact) is)
            (plays config l (last_ballot facts) memory.leader s.ballots) waits
            (if_none d.fact (λ h. record {
              ballots = h config l (last_ballot facts) memory.leader s.ballots;
              begun_are = begun ∙ s.begun_are;
            }) stands);
      }
    where
      if_none : {P Q : Type 0} (o : Option Fact) → (P → Q) → IfNone o P → IfNone o Q
      if_none None f h = f h
      if_none (Some fact) f h = h

-- ---- what a resource manager is asked

-- what a resource manager answers to a call of a branch is what its node does on that request
pub call_decides : (old new : ManagerParts) (x : XidParts) (action : Action) (answer : Answer)
    → ((config : Config) (number : ℕ) → IsCall config number old new x action answer)
    → Decides (Role.Manager old) (Role.Manager new) (answering answer)
    (λ config who facts memory. on_request config who facts memory (requests.Call x action))
call_decides old new x action answer h config (A a) facts memory s = absurd s
call_decides old new x action answer h config (L l) facts memory s = absurd s
call_decides old new x action answer h config (R rm) facts memory s = record {
  effect_is = ap (λ (a : Answer). record { answer = a; fact = None; sends = [] }) ((h config rm).answers facts memory.branches s);
  leaves = (h config rm).stands facts memory.branches s;
}

-- ---- what a kind of node isn't asked

-- ---- what is decided, under other names

-- what is said of a decision and a request holds of equal ones
pub asked_so : (old new : Role) (d e : Decision) (r s : Request) → d ≡ e → r ≡ s
    → Decides old new e (λ config who facts memory. on_request config who facts memory s)
    → Decides old new d (λ config who facts memory. on_request config who facts memory r)
asked_so old new d e r s is_d is_r h =
    let P : Decision → Request → Type 0 = λ x y. Decides old new x (λ config who facts memory. on_request config who facts memory y) in
    subst (λ x. P x r) (sym is_d) (subst (λ y. P e y) (sym is_r) h)

-- so it is where a call to commit may refuse
pub commit_asked : (old new : LeaderParts) (d : LeaderDecision) (tx : TxParts) (result : Result (Unit {0}) Refusal) (r : Request)
    → r ≡ requests.Commit tx
    → ((config : Config) (number : ℕ) → FollowsOrRefuses config number old new (leader_specs.decided d result)
    (λ stored memory. rules.on_commit_call config stored memory tx))
    → OnOk result (Decides (Role.Leader old) (Role.Leader new) (leader_decisions.shown d)
    (λ config who facts memory. on_request config who facts memory r))
commit_asked old new d tx (Ok done) r is h = asked_so _ _ _ _ _ _ refl is (commit_decides old new d tx h)
commit_asked old new d tx (Err refusal) r is h = tt

-- what is decided, once its parts stand apart, beside no other message
pub asked_apart : (old new : Role) (rule : Rule) (d : LeaderDecision) (answer : Answer) (fact : Option Fact)
    (replied first question : List Outgoing) → answer ≡ d.answer → fact ≡ d.fact → replied ≡ [] → first ≡ [] → question ≡ []
    → Decides old new (leader_decisions.shown d) rule
    → Decides old new (record { answer = answer; fact = fact; sends = replied ++ (first ++ question ++ d.sends) }) rule
asked_apart old new rule d answer fact replied first question answer_is fact_is replied_is first_is question_is h =
    subst (λ (x : Decision). Decides old new x rule)
    (λ i. record {
      answer = sym answer_is i;
      fact = sym fact_is i;
      sends = sym replied_is i ++ (sym first_is i ++ sym question_is i ++ d.sends);
    }) h

-- so it is on a message
pub led_follows : (config : Config) (number : ℕ) (old new : LeaderParts) (rule : leader_specs.Rule) (d : LeaderDecision) (answer : Answer)
    (fact : Option Fact) (replied first question : List Outgoing) → answer ≡ d.answer → fact ≡ d.fact → replied ≡ [] → first ≡ []
    → question ≡ [] → Follows config number old new d rule
    → Follows config number old new (record { answer = answer; fact = fact; sends = replied ++ (first ++ question ++ d.sends) }) rule
led_follows config number old new rule d answer fact replied first question answer_is fact_is replied_is first_is question_is h =
    subst (λ (x : LeaderDecision). Follows config number old new x rule)
    (λ i. record {
      answer = sym answer_is i;
      fact = sym fact_is i;
      sends = sym replied_is i ++ (sym first_is i ++ sym question_is i ++ d.sends);
    }) h
