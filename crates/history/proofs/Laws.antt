-- The laws, of a world and its history.
-- Needed by 7 functions of this crate; Answering; crates floored_history, process_history, audit and cluster_run.
use Rattle.std.proofs.Common.{◌≡◌, ◌≢◌, ◌∙◌, ℕ, Bool, true, false, not, ◌&&◌, if◌then◌else◌, List, [], Option, Some, None, unwrap_or, map}
use Rattle.std.proofs.Common.{refl, sym, ap, subst}
use Rattle.std.specs.Prelude.{reverse}
use Rattle.std.specs.Option.{option_map_or}
use Rattle.std.proofs.lemmas.Bool.{cond_both, both_ways, not-true}
use Rattle.xid.specs.Names.{XidParts}
use Rattle.xid.specs.Transactions.{TxParts, is_participant, xid_at}
use Rattle.xid.specs.declared.refusals.Refusal.TheVariants.{BadTx, NoSuch}
use Rattle.stable_record.specs.declared.fact.FactKind.TheVariants as stored
use Rattle.protocol.specs.Basics.{Fact, Touched}
use Rattle.safety.specs.Vocabulary.{R, Ask, View, Row, Step, Request, Call, Recover, Timeout, Done, Xids, Stands, Refused}
use Rattle.protocol.specs.Branches.{BranchView}
use Rattle.protocol.specs.Effects.{Config, Effect, is_inside, view_standing}
use Rattle.protocol.specs.Facts.{view, is_spent, bound_branches}
use Rattle.protocol.specs.Managers.{Branch, all_branches, view_named, act_on}
use Rattle.protocol.specs.Nodes.{Memory, NodeState, new_node, Asked, Fault, NoFault, NoMemoryBefore, NoMemoryAt, RecordFails, first_rows}
use Rattle.protocol.specs.Nodes.{accepts_request, effect_of, effect_outcome, Outcome, node_step}
use Rattle.protocol.specs.Tables.{table}
use Rattle.protocol.specs.Worlds.{World, node_at, if_found, outcome_result, at_node, world_step, table_at}
use Rattle.protocol.specs.Holds.{IsIn}
use Rattle.safety.specs.Standing.{facts_at}
use Rattle.history.specs.Lines.{changes_at, change_stored, view_back, is_spent_back}
use Rattle.history.specs.LookingBack.{branch_back, answer_back, actions_since, writes_in, last_act_on}
use Rattle.history.specs.Writes.{actions_since_start, table_back}
use Rattle.history.specs.Outages.{is_outage, is_record_fault, is_out}
use Rattle.history.specs.Answers.{IsAmple, answer_to}
use Rattle.history.proofs.Moves.{manager_in}
use Rattle.history.proofs.Runs.{IsRun, facts_in, lines_back}
use Rattle.history.proofs.Told.{IsSound, IsTold, sound, told_ever}
use Rattle.history.proofs.Shown.{shown_back}
use Rattle.history.proofs.Answered.{answered_back}
use Rattle.history.proofs.Kept.{IsKept, kept_ever, started}
use Rattle.history.proofs.TablesBack.{table_is, names_are}
use Rattle.history.proofs.Outages.{IsOutBack, out_ever}

module _ (config : Config) (world : World) (before : List Step) (rm : ℕ) (run : IsRun config world before) where
  told : IsTold rm (manager_in config world rm) before
  told = told_ever config world before rm run

  is_sound : IsSound config rm (manager_in config world rm)
  is_sound = sound config world before rm run

  pub views_back : (tx : TxParts) → view (facts_at config world (R rm)) tx ≡ view_back rm before tx
  views_back tx = ap (λ (facts : List Fact). view facts tx) (facts_in config world rm) ∙ told.views tx

  pub spent_back : (x : XidParts) → is_spent rm (facts_at config world (R rm)) x ≡ is_spent_back rm before x
  spent_back x = ap (λ (facts : List Fact). is_spent rm facts x) (facts_in config world rm) ∙ told.spent x

  kept : IsKept rm (manager_in config world rm) before
  kept = kept_ever config world before rm run

  lines : map (change_stored rm) (manager_in config world rm).facts ≡ reverse (changes_at rm before)
  lines = lines_back config world before rm run

  pub voted_writes : (tx : TxParts) (keys : List Touched) (x : XidParts)
      → IsIn (facts_at config world (R rm)) (stored.VotePrepared tx keys) → xid_at tx rm ≡ Some x → (key : List ℕ)
      → act_on keys key ≡ last_act_on (writes_in (actions_since_start rm x before)) key
  voted_writes tx keys x h =
      kept.written tx keys x (subst (λ (facts : List Fact). IsIn facts (stored.VotePrepared tx keys)) (facts_in config world rm) h)

  pub table_looked_back : (node : NodeState) → node_at config world (R rm) ≡ Some node
      → table_at config world rm ≡ table_back (first_rows config rm) rm before
  table_looked_back node stands =
      let table_of = λ (n : NodeState). table (first_rows config rm) n.facts in
      ap (λ (o : Option NodeState). option_map_or table_of o []) stands
      ∙ sym (ap table_of (ap (λ (o : Option NodeState). unwrap_or o new_node) stands))
      ∙ table_is config rm (manager_in config world rm) before is_sound kept lines (first_rows config rm)

  pub looked_table : (first : List Row) → table first (manager_in config world rm).facts ≡ table_back first rm before
  looked_table first = table_is config rm (manager_in config world rm) before is_sound kept lines first

  module _ (node : NodeState) (stands : node_at config world (R rm) ≡ Some node) (up : node.up ≡ true) where
    is_node : manager_in config world rm ≡ node
    is_node = ap (λ (o : Option NodeState). unwrap_or o new_node) stands

    pub node_told : IsTold rm node before
    node_told = subst (λ (n : NodeState). IsTold rm n before) is_node told

    pub node_sound : IsSound config rm node
    node_sound = subst (IsSound config rm) is_node is_sound

    pub branches_back : (x : XidParts)
        → view_named (all_branches rm (bound_branches node.facts) node.memory.branches) x ≡ branch_back rm before x
    branches_back x = shown_back config rm node before node_sound node_told up x

    pub unprepared_writes : (x : XidParts) → (view_named node.memory.branches x).state ≢ None → (key : List ℕ)
        → (view_named node.memory.branches x).act key ≡ last_act_on (writes_in (actions_since_start rm x before)) key
    unprepared_writes x exists key =
        let shows = node_told.branches up x in
        ap (λ (v : BranchView). v.act key) shows
        ∙ ap (λ (ts : List Touched). last_act_on ts key)
        (started (actions_since rm x before) (actions_since_start rm x before) (kept.begun x)
        (λ none. exists (ap (λ (v : BranchView). v.state) shows ∙ none)))

    node_lines : map (change_stored rm) node.facts ≡ reverse (changes_at rm before)
    node_lines = subst (λ (n : NodeState). map (change_stored rm) n.facts ≡ reverse (changes_at rm before)) is_node lines

    node_table : (first : List Row) → table first node.facts ≡ table_back first rm before
    node_table = table_is config rm node before node_sound
        (subst (λ (n : NodeState). IsKept rm n before) is_node kept) node_lines

    -- what the rules answer
    ruled : (request : Request) → (effect_of config (R rm) node.facts node.memory (Asked request)).answer
        ≡ answer_to config rm before request
    ruled (Call x action) =
        answered_back config rm node before node_sound node_told up x action (first_rows config rm)
        ∙ ap (λ (rows : List Row). answer_back rows rm before x action) (node_table (first_rows config rm))
    ruled Recover = ap Xids (names_are rm node before node_told node_lines)
    ruled (Request.View tx) =
        ap (λ (v : View). if is_inside config tx && is_participant tx rm then Stands (view_standing v) else Refused BadTx)
        (node_told.views tx)
    ruled (Timeout tx) =
        cond_both (is_inside config tx) _ _ (λ (e : Effect (List Branch)). e.answer ≡ (if is_inside config tx then Done else Refused BadTx))
        (λ inside. sym (ap (λ (b : Bool). if b then Done else Refused BadTx) inside))
        (λ outside. sym (ap (λ (b : Bool). if b then Done else Refused BadTx) outside))
    ruled (Request.Commit tx) = refl
    ruled (Request.Status tx) = refl

    quiet : (request : Request) → (effect_of config (R rm) node.facts node.memory (Asked request)).fact ≡ None
    quiet (Call x action) = refl
    quiet Recover = refl
    quiet (Request.View tx) = refl
    quiet (Timeout tx) =
        cond_both (is_inside config tx) _ _ (λ (e : Effect (List Branch)). e.fact ≡ None) (λ inside. refl) (λ outside. refl)
    quiet (Request.Commit tx) = refl
    quiet (Request.Status tx) = refl

    settles : (e : Effect Memory) (o : Option Fact) (fault : Fault) → o ≡ None → IsAmple fault
        → (effect_outcome node e o node.tear fault).answer ≡ e.answer
    settles e None NoFault none ample = refl
    settles e None (RecordFails whole) none ample = refl
    settles e None NoMemoryBefore none ample = absurd ample
    settles e None NoMemoryAt none ample = absurd ample
    settles e (Some fact) fault none ample = absurd (cc (none))

    pub stepped : (request : Request) (fault : Fault) → IsAmple fault
        → (node_step config (R rm) node (Asked request) fault).answer ≡ answer_to config rm before request
    stepped request fault ample =
        let e = effect_of config (R rm) node.facts node.memory (Asked request) in
        let is = answer_to config rm before request in
        cond_both (not (accepts_request (R rm) request)) _ _ (λ (left : Outcome). left.answer ≡ is)
        (λ other. untaken request other)
        (λ taken. cond_both (not node.up) _ _ (λ (left : Outcome). left.answer ≡ is)
        (λ down. absurd (both_ways node.up (not-true node.up down) up))
        (λ stays. settles e e.fact fault (quiet request) ample ∙ ruled request))
      where
        untaken : (r : Request) → not (accepts_request (R rm) r) ≡ true → Refused NoSuch ≡ answer_to config rm before r
        untaken (Call x action) e = absurd (cc (e))
        untaken Recover e = absurd (cc (e))
        untaken (Request.View tx) e = absurd (cc (e))
        untaken (Timeout tx) e = absurd (cc (e))
        untaken (Request.Commit tx) e = refl
        untaken (Request.Status tx) e = refl

    found : (request : Request) (fault : Fault) → IsAmple fault
        → (at_node config world (R rm) (Asked request) fault).answer ≡ answer_to config rm before request
    found request fault ample =
        ap (λ (o : Option NodeState). (if_found world
        (λ n. outcome_result config world (R rm) n.facts (node_step config (R rm) n (Asked request) fault)) o).answer) stands
        ∙ stepped request fault ample

    pub answers_back : (request : Request) (fault : Fault) → IsAmple fault
        → (world_step config world (Ask (R rm) request) fault).answer ≡ answer_to config rm before request
    answers_back request NoMemoryBefore ample = absurd ample
    answers_back request NoMemoryAt ample = absurd ample
    answers_back request NoFault ample = found request NoFault ample
    answers_back request (RecordFails whole) ample = found request (RecordFails whole) ample

module _ (config : Config) (world : World) (before : List Step) (rm : ℕ) (run : IsRun config world before) (node : NodeState)
    (stands : node_at config world (R rm) ≡ Some node) where
  out : IsOutBack rm node.up before
  out = subst (λ (o : Option NodeState). IsOutBack rm (unwrap_or o new_node).up before) stands (out_ever config world before rm run)

  pub may_be_out : node.up ≡ false → is_out is_outage rm before ≡ true
  may_be_out down = out.may down

  pub must_be_out : is_out is_record_fault rm before ≡ true → node.up ≡ false
  must_be_out e = out.must e
