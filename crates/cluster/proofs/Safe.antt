-- An event of a cluster is safe, as it is in the machine: with floors it is one of the machine's, or none.
-- Needed by `Cluster::step`, `Cluster::step_into` and `events_are_safe`.
use Rattle.std.proofs.Common.{◌≡◌, ◌≢◌, ◌⊎◌, inl, inr, ℕ, suc, Bool, true, false, if◌then◌else◌, List, [], ◌∷◌, Option, Some, None}
use Rattle.std.proofs.Common.{refl, ◌∙◌, sym, ap, subst, arith}
use Rattle.std.specs.Prelude.{is_some, slice_get}
use Rattle.std.specs.List.{All, AllZip}
use Rattle.std.proofs.lemmas.List.Elements.{All-cons}
use Rattle.xid.specs.Names.{XidParts}
use Rattle.xid.specs.Transactions.{is_participant}
use Rattle.xid.specs.declared.refusals.Refusal.{Refusal}
use Rattle.protocol.specs.declared.answers.Answer.TheVariants.{Refused}
use Rattle.protocol.specs.declared.events.Event.{Event}
use Rattle.protocol.specs.declared.events.Event.TheVariants.{Ask, Deliver, Lose, Restart, Compact, Raise, Hear, Replace}
use Rattle.protocol.specs.declared.events.Step.{Step}
use Rattle.protocol.specs.declared.nodes.NodeId.{NodeId}
use Rattle.protocol.specs.declared.nodes.NodeId.TheVariants.{R}
use Rattle.protocol.specs.declared.requests.Action.{Action}
use Rattle.protocol.specs.declared.requests.Request.{Request}
use Rattle.protocol.specs.declared.requests.Request.TheVariants.{Call}
use Rattle.protocol.specs.Branches.{BranchView, no_branch}
use Rattle.protocol.specs.Effects.{Config}
use Rattle.protocol.specs.Nodes.{NodeState, Asked, Fault, NoMemoryBefore}
use Rattle.protocol.specs.Worlds.{World, StepResult, place, datagram_at, step_of, world_after, world_step}
use Rattle.safety.specs.Runs.{IsReachable, views_in}
use Rattle.safety.proofs.World.Reachable.{moves_find_ready, play, restart_undamaged}
use Rattle.node_core.specs.declared.role.Role.{Role}
use Rattle.node_core.specs.Nodes.{RoleIs}
use Rattle.floors.specs.Runs.{IsFlooredReachable, After, does_raise, does_rise, is_lost, is_put_in, passes_over, receiver_of, with_fault}
use Rattle.floors.specs.Worlds as floored
use Rattle.floors.specs.Worlds.{FlooredWorld, FlooredResult, Machine, floored_step, floored_step_of, machine_part}
use Rattle.floors.specs.Worlds.{step_with_floors, with_floors}
use Rattle.floors.proofs.Following.{are_runs, consistent, one_step, steps}
use Rattle.floors.proofs.Steps.{in_machine, same_event, unasked_event}
use Rattle.node_core.specs.Configs.{config_by}
use Rattle.floored.specs.Nodes.{FlooredParts, FlooredStands}
use Rattle.cluster.specs.Clusters.{ClusterParts, ClusterStands, IsSound, OccursAs, Occurs}
use Rattle.cluster.specs.Headlines.{IsKept, IsWritten, IsInOrder, branch_kept, LeavesKept, IsSafeMove, MovesSafely}
use Rattle.cluster.proofs.Standing.{is_there, none_there, place_as}
use Rattle.cluster.proofs.Grown.{Grows, still, step_grows, none_moved, table_moves}
use Rattle.cluster.proofs.KeptWrites.{writes_kept}

-- ---- records

-- the record of a node that stands for one of the machine, of which it may have forgotten what is below its floor
in_order : (config : Config) (floored : FlooredParts) (m : NodeState) → FlooredStands config floored m → IsInOrder config floored
in_order config floored m s = record {
  from = s.from;
  alike = s.above.alike;
  kept = s.is.stands.keeps.kept;
  tail = s.is.stands.tail;
  holds = s.is.stands.keeps.holds;
  up = no_tail floored.node.role s.is.stands.role_is;
}
  where
    no_tail : (role : Option Role) → RoleIs s.from floored.node.who s.few s.is.stands.tail role → is_some role ≡ true
        → s.is.stands.tail ≡ []
    no_tail None down e = absurd (cc (e))
    no_tail (Some role) up e = up.1

all_in_order : (config : Config) (nodes : List FlooredParts) (states : List NodeState) → AllZip (FlooredStands config) nodes states
    → All (IsInOrder config) nodes
all_in_order config [] states all = λ k d lt. absurd (omega (arith, lt))
all_in_order config (floored ∷ nodes) [] all = absurd all
all_in_order config (floored ∷ nodes) (m ∷ states) all =
    All-cons (IsInOrder config) floored nodes (in_order config floored m all.0) (all_in_order config nodes states all.1)

-- ---- what is kept for branches

-- what a step leaves kept, another does that is the same event with the same answer
alike_leaves : (one other : Step) (rm : ℕ) (x : XidParts) (key : List ℕ) (before after : BranchView) → other.event ≡ one.event
    → other.answer ≡ one.answer → LeavesKept one rm x key before after → LeavesKept other rm x key before after
alike_leaves one other rm x key before after event_is answer_is (inl same) = inl same
alike_leaves one other rm x key before after event_is answer_is (inr (inl none)) = inr (inl none)
alike_leaves one other rm x key before after event_is answer_is (inr (inr wrote)) = inr (inr (record {
  action = wrote.action;
  event_is = event_is ∙ wrote.event_is;
  writes = wrote.writes;
  answer_is = answer_is ∙ wrote.answer_is;
}))

module _ (config : Config) (world : FlooredWorld) (reachable : IsFlooredReachable config world) (rm : ℕ) (x : XidParts) (key : List ℕ)
  where
    abbrev machine : World
    machine = world.machine

    abbrev reached : IsReachable config machine
    reached = are_runs config world reachable

    abbrev before : BranchView
    before = branch_kept config machine rm x

    -- nothing comes to be kept
    abbrev Stays : World → Type 0
    Stays next = ((branch_kept config next rm x).act key ≡ before.act key) ⊎ (branch_kept config next rm x ≡ no_branch)

    no_more : (step : Step) (next : World) → Stays next → LeavesKept step rm x key before (branch_kept config next rm x)
    no_more step next (inl same) = inl same
    no_more step next (inr none) = inr (inl none)

    -- an event of the machine that is no call
    no_call : (event : Event) (fault : Fault) → ((action : Action) → event ≢ Ask (R rm) (Call x action))
        → Stays (world_step config machine event fault).world
    no_call event fault other = elim (writes_kept config machine reached event fault rm x key) [
      | inl same ↦ inl same
      | inr (inl none) ↦ inr none
      | inr (inr wrote) ↦ absurd (other wrote.action wrote.event_is)
    ]

    abbrev stepped : Event → Fault → FlooredResult
    stepped event fault = step_with_floors config world event fault

    abbrev Leaves : Event → Fault → Type 0
    Leaves event fault =
        LeavesKept (floored_step_of world event (stepped event fault)) rm x key before
        (branch_kept config (stepped event fault).world.machine rm x)

    -- one that is the machine's
    same_leaves : (event : Event) (fault : Fault)
        → machine_part (floored_step config world (Machine event) fault) ≡ world_step config machine event fault
        → LeavesKept (floored_step_of world event (floored_step config world (Machine event) fault)) rm x key before
        (branch_kept config (floored_step config world (Machine event) fault).world.machine rm x)
    same_leaves event fault same =
        let result : StepResult = world_step config machine event fault in
        let made : FlooredResult = floored_step config world (Machine event) fault in
        subst (λ (next : World). LeavesKept (floored_step_of world event made) rm x key before (branch_kept config next rm x))
        (sym (ap (λ (r : StepResult). r.world) same))
        (alike_leaves (step_of machine event result) (floored_step_of world event made) rm x key before
        (branch_kept config result.world rm x) refl (ap (λ (r : StepResult). r.answer) same)
        (writes_kept config machine reached event fault rm x key))

    asked_leaves : (who : NodeId) (request : Request) (fault : Fault) (t : Bool) → passes_over config world who (Asked request) ≡ t
        → Leaves (Ask who request) fault
    asked_leaves who request NoMemoryBefore t e = inl refl
    asked_leaves who request fault true e =
        subst (λ (r : FlooredResult). LeavesKept (floored_step_of world (Ask who request) r) rm x key before
        (branch_kept config r.world.machine rm x)) (sym (unasked_event config world who request fault e)) (inl refl)
    asked_leaves who request fault false e =
        same_leaves (Ask who request) fault
        (same_event config world (Ask who request) fault (ap (λ (t : Bool). if t then [] else Ask who request ∷ []) e))

    -- one that is no call is at most one of the machine's that is none
    one_or_none : (t : Bool) (event : Event) (fault : Fault) → ((action : Action) → event ≢ Ask (R rm) (Call x action))
        → Stays (world_after config machine (with_fault fault (if t then event ∷ [] else [])))
    one_or_none true event fault other = no_call event fault other
    one_or_none false event fault other = inl refl

    lost_or_not : (t : Bool) (n : ℕ) (fault : Fault)
        → Stays (world_after config machine (with_fault fault ((if t then Lose n else Deliver n) ∷ [])))
    lost_or_not true n fault = no_call (Lose n) fault (λ action e. absurd (cc (e)))
    lost_or_not false n fault = no_call (Deliver n) fault (λ action e. absurd (cc (e)))

    -- each event
    pub leaves_kept : (event : Event) (fault : Fault) → Leaves event fault
    leaves_kept (Ask who request) fault = asked_leaves who request fault (passes_over config world who (Asked request)) refl
    leaves_kept (Deliver n) fault =
        no_more (floored_step_of world (Deliver n) (stepped (Deliver n) fault)) (stepped (Deliver n) fault).world.machine
        (subst Stays (sym (in_machine config world (Machine (Deliver n)) fault))
        (lost_or_not (is_lost config world (datagram_at machine.net n)) n fault))
    leaves_kept (Raise r place) fault =
        no_more (floored_step_of world (Raise r place) (stepped (Raise r place) fault)) (stepped (Raise r place) fault).world.machine
        (subst Stays (sym (in_machine config world (floored.Raise (R r) place) fault))
        (one_or_none (does_raise config world (R r) place) (Compact (R r)) fault (λ action e. absurd (cc (e)))))
    leaves_kept (Hear (suc n)) fault =
        let notice = slice_get world.notices n in
        no_more (floored_step_of world (Hear (suc n)) (stepped (Hear (suc n)) fault)) (stepped (Hear (suc n)) fault).world.machine
        (subst Stays (sym (in_machine config world (floored.Hear n) fault))
        (one_or_none (does_rise config world notice) (Compact (receiver_of notice)) fault (λ action e. absurd (cc (e)))))
    leaves_kept (Replace who place) fault =
        no_more (floored_step_of world (Replace who place) (stepped (Replace who place) fault))
        (stepped (Replace who place) fault).world.machine
        (subst Stays (sym (in_machine config world (floored.Replace who place) fault))
        (one_or_none (is_put_in config world who place) (Restart who) fault (λ action e. absurd (cc (e)))))
    leaves_kept event fault = same_leaves event fault (same_event config world event fault refl)

-- ---- an event

module _ (event : Event) (old new : ClusterParts) (step : Step) (config : Config) (world : FlooredWorld)
    (reachable : IsFlooredReachable config world) (stands : ClusterStands config old world)
    (o : OccursAs config world event old new step) where
  abbrev next : FlooredWorld
  next = (step_with_floors config world event o.fault).world

  after : IsFlooredReachable config next
  after = After world (with_floors event) o.fault reachable

  grows : Grows config world.machine next.machine
  grows =
      one_step config world (Grows config world.machine) (still config world.machine) (step_grows config world.machine) (with_floors event)
      o.fault

  table_moved : (rm : ℕ) (at : Option ℕ) → place (config_by old.sizes []) (R rm) ≡ at → place (config_by new.sizes []) (R rm) ≡ at
      → IsKept config world.machine next.machine rm ⊎ IsWritten config world.machine next.machine rm
  table_moved rm None e f =
      none_moved config world.machine next.machine rm
      (none_there config world old.sizes old.nodes old.network old.notices stands (R rm) e)
      (none_there config next new.sizes new.nodes new.network new.notices o.stands (R rm) f)
  table_moved rm (Some at) e f =
      let node = is_there config world old.sizes old.nodes old.network old.notices stands (R rm) at e in
      let now = is_there config next new.sizes new.nodes new.network new.notices o.stands (R rm) at f in
      table_moves config world.machine next.machine rm grows (play config next.machine (are_runs config next after) (R rm)) node.0 now.0
      node.1 now.1

  -- no restart there is refused as damaged
  undamaged : (who : NodeId) (fault : Fault) → (step_with_floors config next (Restart who) fault).answer ≢ Refused Refusal.Damaged
  undamaged who fault e =
      restart_undamaged config next.machine who fault (play config next.machine (are_runs config next after) who)
      (sym (ap (λ (r : StepResult). r.answer) (same_event config next (Restart who) fault refl)) ∙ e)

  -- a step of a cluster is safe
  pub safe_move : IsSafeMove config world step next new
  safe_move = record {
    reached = after;
    stands = o.stands;
    moved = steps config world reachable (with_floors event) o.fault;
    consistent = consistent config next after;
    found_prepared = λ tx r q named_r named_q before committed.
        moves_find_ready (is_participant tx) (views_in config world.machine tx) (views_in config next.machine tx)
        q named_q r named_r before committed (steps config world reachable (with_floors event) o.fault tx);
    tables = λ rm.
        table_moved rm (place (config_by old.sizes []) (R rm)) refl
        (place_as config new.sizes o.stands.sizes_are (R rm) ∙ sym (place_as config old.sizes stands.sizes_are (R rm)));
    kept = λ rm x key.
        subst (λ (s : Step). LeavesKept s rm x key (branch_kept config world.machine rm x) (branch_kept config next.machine rm x))
        (sym o.step_is) (leaves_kept config world reachable rm x key event o.fault);
    records = all_in_order config new.nodes next.machine.nodes o.stands.nodes_are.stand;
    restarts = undamaged;
  }

-- an event of a cluster that stands for a world to which events lead
pub moves_safely : (event : Event) (old new : ClusterParts) (step : Step) → IsSound old → Occurs event old new step
    → MovesSafely event old new step
moves_safely event old new step sound happens =
    let o : OccursAs sound.config sound.world event old new step = happens sound.config sound.world sound.is in record {
      config = sound.config;
      world = sound.world;
      reached = sound.reached;
      stood = sound.is;
      occurs = o;
      safe = safe_move event old new step sound.config sound.world sound.reached sound.is o;
    }
