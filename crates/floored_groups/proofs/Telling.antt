-- What processes reply to clients is told in a run of the machine, which tells one outcome of each transaction, and what it tells holds.
-- Needed by `processes_tell_one_outcome` and `told_outcomes_hold`.
use Rattle.std.proofs.Common.{◌≡◌, ◌∙◌, inl, inr, ℕ, Bool, true, false, not, if◌then◌else◌, List, [], ◌∷◌, Option, refl, sym, ap, subst}
use Rattle.std.specs.Prelude.{IsTrue, Ok}
use Rattle.xid.specs.Places.{Place}
use Rattle.xid.specs.Transactions.{TxParts, is_participant}
use Rattle.xid.specs.declared.refusals.Refusal.TheVariants.{Down, Forgotten, NoSuch}
use Rattle.ballot.specs.Greatest.{IsIn}
use Rattle.safety.specs.Vocabulary.{L, NodeId, R, Refused, Request, Stands as answers}
use Rattle.safety.specs.CommitSteps.{committed}
use Rattle.safety.specs.Runs as reachable
use Rattle.safety.specs.Runs.{views_in}
use Rattle.protocol.specs.declared.states.Standing.{Standing}
use Rattle.protocol.specs.declared.states.Standing.TheVariants as standings
use Rattle.protocol.specs.declared.states.View.{View}
use Rattle.protocol.specs.declared.states.View.TheVariants as views
use Rattle.protocol.specs.Effects.{Config}
use Rattle.protocol.specs.Nodes.{NodeState, Input, Asked, Fault, Outcome, accepts_input, answer_outcome, down_answer}
use Rattle.protocol.specs.TCommit.{IsReady}
use Rattle.protocol.specs.Worlds.{World, Occurrence, opening, step_of, world_step}
use Rattle.protocol.proofs.Lists.{IsIn-after, IsIn-append, IsIn-before}
use Rattle.answers.specs.Answers.{IsQuestion, HavePrepared, NoneIs}
use Rattle.answers.proofs.Runs.{never_both, prepared_ever, uncommitted_ever, IsToldIn}
use Rattle.node_core.specs.Configs.{is_among}
use Rattle.groups.specs.Runs.{Handed, Happening, Handled, IsMachines, AreSame, IsSame}
use Rattle.groups.proofs.Reached.{with_nodes}
use Rattle.floors.specs.Nodes.{floored_node_step, forgotten_answer, is_input_below}
use Rattle.floors.specs.Worlds.{FlooredWorld}
use Rattle.floors.proofs.Nodes.{ended}
use Rattle.port.specs.Members.{MemberParts}
use Rattle.floored_groups.specs.Runs.{FlooredHappening, Grouped, IsFlooredReached, Kept, Opening, Took, Underwent, all_taken, handled_above}
use Rattle.floored_groups.specs.Runs.{machine_happened, taken_in, upkept_as}
use Rattle.floored_groups.specs.Processes.{AnswersView}
use Rattle.floored_groups.specs.Clusters.{AllProcesses, IsReplied, IsRun, Reply, StandFor, TellsClient, all_replies}
use Rattle.floored_groups.proofs.Clusters.{stand_for}
use Rattle.floored_groups.proofs.Reached.{are_machines}
use Rattle.floored_groups.proofs.Views.{aborted_is, answered_view, committed_is}

-- ---- an outcome isn't told below a floor

module _ (config : Config) (who : NodeId) (floor : Option Place) (node : NodeState) (fault : Fault) (standing : Standing) where
  refused_by : (request : Request) → down_answer (Asked request) ≡ Refused Down → forgotten_answer (Asked request) ≡ Refused Forgotten
      → (takes up : Bool)
      → (if not takes then answer_outcome node (Refused NoSuch)
      else if not up then answer_outcome node (down_answer (Asked request))
      else answer_outcome node (forgotten_answer (Asked request))).answer ≡ answers standing → ⊥
  refused_by request down below false up e = absurd (cc (e))
  refused_by request down below true false e = absurd (cc (e, down))
  refused_by request down below true true e = absurd (cc (e, below))

  untold_below : (request : Request) → down_answer (Asked request) ≡ Refused Down
      → forgotten_answer (Asked request) ≡ Refused Forgotten → is_input_below floor (Asked request) ≡ true
      → (floored_node_step config who floor node (Asked request) fault).answer ≡ answers standing → ⊥
  untold_below request down forgotten below e =
      refused_by request down forgotten (accepts_input who (Asked request)) node.up
      (sym (ap (λ (b : Bool). (if not (accepts_input who (Asked request)) then answer_outcome node (Refused NoSuch)
      else if not node.up then answer_outcome node (down_answer (Asked request))
      else if b then answer_outcome node (forgotten_answer (Asked request))
      else ended config who floor node (Asked request) fault).answer) below) ∙ e)

  told_above : (tx : TxParts) (request : Request) → IsQuestion tx request → (t : Bool) → is_input_below floor (Asked request) ≡ t
      → (floored_node_step config who floor node (Asked request) fault).answer ≡ answers standing → t ≡ false
  told_above tx request asks false below e = refl
  told_above tx request (inl is) true below e =
      absurd (untold_below request (ap (λ (r : Request). down_answer (Asked r)) is)
      (ap (λ (r : Request). forgotten_answer (Asked r)) is) below e)
  told_above tx request (inr is) true below e =
      absurd (untold_below request (ap (λ (r : Request). down_answer (Asked r)) is)
      (ap (λ (r : Request). forgotten_answer (Asked r)) is) below e)

-- ---- so it is among what happened in the machine

module _ (config : Config) (tx : TxParts) (request : Request) (asks : IsQuestion tx request) (standing : Standing) (teller : NodeId) where
  abbrev taken : FlooredHappening
  taken = Took teller (Asked request) (answers standing)

  abbrev handled : Happening
  handled = Handled teller (Asked request) (answers standing)

  later_if : (t : Bool) (first : Happening) (later : List Happening) → IsIn later handled
      → IsIn (if t then later else first ∷ later) handled
  later_if true first later h = h
  later_if false first later h = inr h

  first_if : (t : Bool) (first : Happening) (later : List Happening) → t ≡ false → first ≡ handled
      → IsIn (if t then later else first ∷ later) handled
  first_if true first later e is = absurd (cc (e))
  first_if false first later e is = inl is

  in_group : (who : NodeId) (floor : Option Place) (group : List Handed) (node : NodeState)
      → IsIn (taken_in config who floor node group) taken → IsIn (handled_above config who floor node group) handled
  in_group who floor [] node h = absurd h
  in_group who floor (first ∷ rest) node (inl e) =
      let outcome : Outcome = floored_node_step config who floor node first.input first.fault in
      let who_is : who ≡ teller = cc (e) in
      let input_is : first.input ≡ Asked request = cc (e) in
      let answer_is : outcome.answer ≡ answers standing = cc (e) in
      first_if (is_input_below floor first.input) (Handled who first.input outcome.answer)
      (handled_above config who floor outcome.node rest)
      (told_above config who floor node first.fault standing tx request asks (is_input_below floor first.input)
      (ap (is_input_below floor) (sym input_is))
      (subst (λ (input : Input). (floored_node_step config who floor node input first.fault).answer ≡ answers standing) input_is answer_is))
      (λ i. Handled (who_is i) (input_is i) (answer_is i))
  in_group who floor (first ∷ rest) node (inr h) =
      let outcome : Outcome = floored_node_step config who floor node first.input first.fault in
      later_if (is_input_below floor first.input) (Handled who first.input outcome.answer)
      (handled_above config who floor outcome.node rest) (in_group who floor rest outcome.node h)

  in_machine : (world : FlooredWorld) (reach : IsFlooredReached config world) → IsIn (all_taken config world reach) taken
      → IsIn (machine_happened config world reach) handled
  in_machine _ Opening h = absurd h
  in_machine _ (Grouped world who node group is_stored reach is all) h =
      elim (IsIn-append (all_taken config world reach) (taken_in config who (world.floor who) node group) taken h) [
        | inl before ↦
            IsIn-before (machine_happened config world reach) (handled_above config who (world.floor who) node group) handled
            (in_machine world reach before)
        | inr now ↦
            IsIn-after (machine_happened config world reach) (handled_above config who (world.floor who) node group) handled
            (in_group who (world.floor who) group node now)
      ]
  in_machine _ (Kept world event fault reach is) h =
      elim (IsIn-append (all_taken config world reach) (Underwent event _ ∷ []) taken h) [
        | inl before ↦ IsIn-before (machine_happened config world reach) (upkept_as _ _) handled (in_machine world reach before)
        | inr now ↦ elim now [ inl e ↦ absurd (cc (e)) | inr none ↦ absurd none ]
      ]

-- ---- a step of the machine's run tells it

told_in : (config : Config) (world : World) (events : List Occurrence) (happened : List Happening) → AreSame config world events happened
    → (l : ℕ) (tx : TxParts) (standing : Standing) (request : Request) → IsQuestion tx request
    → IsIn happened (Handled (L l) (Asked request) (answers standing)) → IsToldIn config world events l tx standing
told_in config world [] [] same l tx standing request asks h = absurd h
told_in config world [] (first ∷ happened) same l tx standing request asks h = absurd same
told_in config world (event ∷ events) [] same l tx standing request asks h = absurd h
told_in config world (event ∷ events) (first ∷ happened) same l tx standing request asks (inl e) =
    let result = world_step config world event.event event.fault in
    let handled : IsSame world event.event result.answer (Handled (L l) (Asked request) (answers standing)) =
    subst (IsSame world event.event result.answer) e same.0 in
    record {
      step = step_of world event.event result;
      among = inl refl;
      tells = record { request = request; asks = asks; event_is = handled.0; answer_is = handled.1 };
    }
told_in config world (event ∷ events) (first ∷ happened) same l tx standing request asks (inr h) =
    let next = (world_step config world event.event event.fault).world in
    let later = told_in config next events happened same.1 l tx standing request asks h in
    record { step = later.step; among = inr later.among; tells = later.tells }

-- ---- replies of a run

module _ (config : Config) (all : AllProcesses) (run : IsRun config all) (tx : TxParts) where
  so : StandFor config all (all_replies config all run)
  so = stand_for config all run

  machines : IsMachines config so.world.machine (machine_happened config so.world so.reached)
  machines = are_machines config so.world so.reached

  found : (l : ℕ) (standing : Standing) (reply : Reply) → IsIn (all_replies config all run) reply → TellsClient l tx standing reply
      → IsToldIn config (opening config) machines.events l tx standing
  found l standing reply h tells =
      told_in config (opening config) machines.events (machine_happened config so.world so.reached) machines.same l tx standing
      tells.request tells.asks
      (in_machine config tx tells.request tells.asks standing (L l) so.world so.reached
      (subst (λ (r : Reply). IsReplied so.world.notices (all_taken config so.world so.reached) r.who r.item r.answer) tells.is
      (so.replied reply h)))

  -- no two replies tell different outcomes
  pub one_outcome : (l other : ℕ) (one two : Reply) → IsIn (all_replies config all run) one → TellsClient l tx standings.Committed one
      → IsIn (all_replies config all run) two → TellsClient other tx standings.Aborted two → ⊥
  one_outcome l other one two h commits k aborts =
      let first = found l standings.Committed one h commits in
      let second = found other standings.Aborted two k aborts in
      never_both config tx l other first.step second.step first.tells second.tells (opening config) reachable.Opening machines.events
      first.among second.among

  ready_not : (v : View) → IsReady v → v ≡ views.Aborted → ⊥
  ready_not views.Working ready is = ready
  ready_not views.Prepared ready is = absurd (cc (is))
  ready_not views.Committed ready is = absurd (cc (is))
  ready_not views.Aborted ready is = ready

  module _ (l : ℕ) (told : Reply) (h : IsIn (all_replies config all run) told) (r : ℕ) (named : IsTrue (is_participant tx r))
      (among : is_among config (R r) ≡ true) (mine : MemberParts) where
    -- after an answer committed no participant's process answers aborted
    pub none_aborted : TellsClient l tx standings.Committed told → AnswersView tx (all.members (R r)) mine (Ok views.Aborted) → ⊥
    none_aborted tells view =
        let step = found l standings.Committed told h tells in
        let has : HavePrepared config tx so.world.machine =
        subst (λ (nodes : List NodeState). HavePrepared config tx (with_nodes so.world.machine nodes)) machines.nodes_are
        (λ q named.
        let has = prepared_ever config tx l step.step step.tells (opening config) reachable.Opening machines.events step.among q named in
        record { voted = has.voted; ready = has.ready }) in
        ready_not (views_in config so.world.machine tx r) (has r named).ready
        (aborted_is (views_in config so.world.machine tx r)
        (answered_view config so.world r (all.members (R r)) mine (so.stand (R r) among) tx views.Aborted view))

    -- after an answer aborted none answers committed
    pub none_committed : TellsClient l tx standings.Aborted told → AnswersView tx (all.members (R r)) mine (Ok views.Committed) → ⊥
    none_committed tells view =
        let step = found l standings.Aborted told h tells in
        let none : NoneIs config tx committed so.world.machine =
        subst (λ (nodes : List NodeState). NoneIs config tx committed (with_nodes so.world.machine nodes)) machines.nodes_are
        (uncommitted_ever config tx l step.step step.tells (opening config) reachable.Opening machines.events step.among) in
        none r named
        (committed_is (views_in config so.world.machine tx r)
        (answered_view config so.world r (all.members (R r)) mine (so.stand (R r) among) tx views.Committed view))
