-- What a leader's answer rests on: the accepts that it heard, which were sent.
use Rattle.std.proofs.Common.{◌≡◌, inl, inr, ℕ, Bool, true, false, not, if◌then◌else◌, IsTrue, List, Option, Some, None, refl, subst}
use Rattle.std.proofs.lemmas.Bool.{cond_both}
use Rattle.xid.specs.Transactions.{TxParts, is_participant}
use Rattle.xid.specs.declared.refusals.Refusal.TheVariants.{NoSuch}
use Rattle.xid.specs.declared.transaction.Vote.{Vote}
use Rattle.xid.specs.declared.transaction.Vote.TheVariants.{Prepared, Aborted}
use Rattle.wire.specs.declared.message.Kind.{Kind}
use Rattle.stable_record.specs.declared.fact.FactKind.{FactKind as Fact}
use Rattle.ballot.specs.Greatest.{IsIn}
use Rattle.safety.specs.Vocabulary.{L, Ask, Request, Answer, Refused, Stands as answers, Status}
use Rattle.safety.specs.Items.{IsDecided}
use Rattle.safety.specs.Runs.{IsReachable}
use Rattle.safety.specs.Standing.{sent_in}
use Rattle.safety.proofs.Leader.Heard.{committed_is, aborted_is}
use Rattle.safety.proofs.Leader.Invariant.{IsSentItem}
use Rattle.safety.proofs.World.Reachable.{leader_memory}
use Rattle.protocol.specs.declared.states.Standing.{Standing}
use Rattle.protocol.specs.declared.states.Standing.TheVariants as standings
use Rattle.protocol.specs.declared.states.Status.TheVariants as statuses
use Rattle.protocol.specs.Effects.{Config, Effect, is_inside, status_standing}
use Rattle.protocol.specs.Facts.{last_ballot}
use Rattle.protocol.specs.LeaderMemory.{LeaderMemory, StoredBallots, status_of, with_met}
use Rattle.protocol.specs.Leaders.{on_commit_call, on_status_call}
use Rattle.protocol.specs.Nodes.{Memory, NodeState, Asked, Fault, NoMemoryBefore, NoMemoryAt, RecordFails, effect_of, effect_outcome}
use Rattle.protocol.specs.Nodes.{accepts_input, answer_outcome, down_answer, node_step}
use Rattle.protocol.specs.Worlds.{World, node_at, if_found, outcome_result, world_step}
use Rattle.progress.proofs.Announcing.{status_of_answer}
use Rattle.progress.proofs.Telling.{met_heard}
use Rattle.answers.specs.Answers.{IsQuestion, IsAnswered}

-- ---- the status that is answered

-- a leader, and a memory with all that it heard and nothing else, by which a transaction has this status
pub record Knows (config : Config) (world : World) (l : ℕ) (tx : TxParts) (status : Status) : Type 0 where
  pub node : NodeState
  pub is : node_at config world (L l) ≡ Some node
  pub memory : LeaderMemory
  pub heard : memory.heard ≡ node.memory.leader.heard
  pub status_is : status_of config.acceptors (last_ballot node.facts) memory tx ≡ status

-- where an effect's outcome stands for a transaction, the effect's answer does
settled : (node : NodeState) (e : Effect Memory) (fact : Option Fact) (tear : Option ℕ) (fault : Fault) (standing : Standing)
    → (effect_outcome node e fact tear fault).answer ≡ answers standing → e.answer ≡ answers standing
settled node e fact tear NoMemoryAt standing h = absurd (cc (h))
settled node e None tear fault standing h = h
settled node e (Some fact) (Some n) fault standing h = absurd (cc (h))
settled node e (Some fact) None (RecordFails whole) standing h = absurd (cc (h))
settled node e (Some fact) None fault standing h = h

module _ (config : Config) (stored : StoredBallots) (memory : LeaderMemory) (tx : TxParts) (standing : Standing) where
  -- a commit call's answer is the status once the transaction was met
  commit_tells : (on_commit_call config stored memory tx).answer ≡ answers standing
      → answers (status_standing (status_of config.acceptors stored (with_met tx memory) tx)) ≡ answers standing
  commit_tells =
      cond_both (is_inside config tx) _ _
      (λ (e : Effect LeaderMemory). e.answer ≡ answers standing
      → answers (status_standing (status_of config.acceptors stored (with_met tx memory) tx)) ≡ answers standing)
      (λ inside h. h) (λ outside h. absurd (cc (h)))

  status_tells : (on_status_call config stored memory tx).answer ≡ answers standing
      → answers (status_standing (status_of config.acceptors stored memory tx)) ≡ answers standing
  status_tells =
      cond_both (is_inside config tx) _ _
      (λ (answer : Answer). answer ≡ answers standing
      → answers (status_standing (status_of config.acceptors stored memory tx)) ≡ answers standing)
      (λ inside h. h) (λ outside h. absurd (cc (h)))

module _ (config : Config) (world : World) (l : ℕ) (tx : TxParts) (standing : Standing) (status : Status)
    (tells : (s : Status) → answers (status_standing s) ≡ answers standing → s ≡ status) where
  -- by what the rules answer
  by_rule : (node : NodeState) → node_at config world (L l) ≡ Some node → (request : Request) → IsQuestion tx request
      → (effect_of config (L l) node.facts node.memory (Asked request)).answer ≡ answers standing → Knows config world l tx status
  by_rule node is request (inl e) h =
      let told : (on_commit_call config (last_ballot node.facts) node.memory.leader tx).answer ≡ answers standing =
      subst (λ (r : Request). (effect_of config (L l) node.facts node.memory (Asked r)).answer ≡ answers standing) e h in
      record {
        node = node;
        is = is;
        memory = with_met tx node.memory.leader;
        heard = met_heard tx node.memory.leader;
        status_is = tells (status_of config.acceptors (last_ballot node.facts) (with_met tx node.memory.leader) tx)
            (commit_tells config (last_ballot node.facts) node.memory.leader tx standing told);
      }
  by_rule node is request (inr e) h =
      let told : (on_status_call config (last_ballot node.facts) node.memory.leader tx).answer ≡ answers standing =
      subst (λ (r : Request). (effect_of config (L l) node.facts node.memory (Asked r)).answer ≡ answers standing) e h in
      record {
        node = node;
        is = is;
        memory = node.memory.leader;
        heard = refl;
        status_is = tells (status_of config.acceptors (last_ballot node.facts) node.memory.leader tx)
            (status_tells config (last_ballot node.facts) node.memory.leader tx standing told);
      }

  -- where the node is up; a request that it doesn't take, and one to a node that is down, is answered otherwise
  up_by : (node : NodeState) → node_at config world (L l) ≡ Some node → (request : Request) → IsQuestion tx request → (fault : Fault)
      → (taken up : Bool)
      → (if not taken then answer_outcome node (Refused NoSuch) else if not up then answer_outcome node (down_answer (Asked request))
      else effect_outcome node (effect_of config (L l) node.facts node.memory (Asked request))
      (effect_of config (L l) node.facts node.memory (Asked request)).fact node.tear fault).answer ≡ answers standing
      → Knows config world l tx status
  up_by node is request asks fault false up h = absurd (cc (h))
  up_by node is request (inl e) fault true false h =
      absurd (cc (subst (λ (r : Request). (answer_outcome node (down_answer (Asked r))).answer ≡ answers standing) e h))
  up_by node is request (inr e) fault true false h =
      absurd (cc (subst (λ (r : Request). (answer_outcome node (down_answer (Asked r))).answer ≡ answers standing) e h))
  up_by node is request asks fault true true h =
      by_rule node is request asks (settled node (effect_of config (L l) node.facts node.memory (Asked request))
      (effect_of config (L l) node.facts node.memory (Asked request)).fact node.tear fault standing h)

  there_by : (request : Request) → IsQuestion tx request → (fault : Fault) → (o : Option NodeState) → node_at config world (L l) ≡ o
      → (if_found world (λ node. outcome_result config world (L l) node.facts (node_step config (L l) node (Asked request) fault)) o).answer
      ≡ answers standing
      → Knows config world l tx status
  there_by request asks fault None is h = absurd (cc (h))
  there_by request asks fault (Some node) is h =
      up_by node is request asks fault (accepts_input (L l) (Asked request)) node.up h

  reached_by : (request : Request) → IsQuestion tx request → (fault : Fault)
      → (world_step config world (Ask (L l) request) fault).answer ≡ answers standing → Knows config world l tx status
  reached_by request asks NoMemoryBefore h = absurd (cc (h))
  reached_by request asks fault h = there_by request asks fault (node_at config world (L l)) refl h

  pub knows : IsAnswered config world l tx standing → Knows config world l tx status
  knows answered = reached_by answered.request answered.asks answered.fault answered.answer_is

-- ---- what it heard

-- of what was sent, an instance is decided
abbrev pub IsSentDecided : Config → World → TxParts → ℕ → Vote → Type 0
IsSentDecided config world tx i v = IsDecided config.acceptors (IsSentItem (IsIn (sent_in world))) tx i v

module _ (config : Config) (world : World) (reach : IsReachable config world) (l : ℕ) (tx : TxParts) where
  heard_sent : (status : Status) (known : Knows config world l tx status) → (m : Kind) → IsIn known.memory.heard m
      → IsIn (sent_in world) m
  heard_sent status known m h =
      (leader_memory config world reach l known.node known.is).heard m (subst (λ (ms : List Kind). IsIn ms m) known.heard h)

  pub all_prepared : IsAnswered config world l tx standings.Committed → (r : ℕ) → IsTrue (is_participant tx r)
      → IsSentDecided config world tx r Prepared
  all_prepared answered r named =
      let known = knows config world l tx standings.Committed statuses.Committed (λ s e. (status_of_answer s).0 e) answered in
      committed_is config.acceptors (last_ballot known.node.facts) known.memory tx (IsIn (sent_in world))
      (heard_sent statuses.Committed known) known.status_is r named

  pub some_aborted : IsAnswered config world l tx standings.Aborted → (r : ℕ) × IsTrue (is_participant tx r)
      × IsSentDecided config world tx r Aborted
  some_aborted answered =
      let known = knows config world l tx standings.Aborted statuses.Aborted (λ s e. (status_of_answer s).1 e) answered in
      aborted_is config.acceptors (last_ballot known.node.facts) known.memory tx (IsIn (sent_in world))
      (heard_sent statuses.Aborted known) known.status_is
