-- What is kept for branches: nothing comes to be kept but what a put or a delete wrote that was answered ok.
-- Needed by Safe.
use Rattle.std.proofs.Common.{◌≡◌, ◌≢◌, ◌⊎◌, inl, inr, ◌∙◌, ℕ, Bool, true, false, if◌then◌else◌, List, [], ◌∷◌}
use Rattle.std.proofs.Common.{Option, Some, None, unwrap_or, refl, sym, ap, subst}
use Rattle.std.specs.Option.{option_map, option_map_or}
use Rattle.std.specs.Str.{bytes_eq}
use Rattle.std.specs.Cmp.Lexicographic.{bytes_decides}
use Rattle.std.proofs.lemmas.Bool.{both_ways, cond_both}
use Rattle.xid.specs.Names.{XidParts, xid_eq}
use Rattle.xid.specs.Transactions.{xid_at}
use Rattle.xid.specs.declared.codes.XaCode.{XaCode}
use Rattle.xid.proofs.Deciding.{xid_decides}
use Rattle.stable_record.specs.Facts.{fact_tx}
use Rattle.stable_record.specs.declared.fact.Act.{Act}
use Rattle.stable_record.specs.declared.fact.FactKind.{FactKind as Fact}
use Rattle.stable_record.specs.declared.fact.FactKind.TheVariants as stored
use Rattle.stable_record.specs.declared.fact.Touched.{Touched}
use Rattle.protocol.specs.declared.answers.Answer.{Answer}
use Rattle.protocol.specs.declared.answers.Answer.TheVariants.{Code}
use Rattle.protocol.specs.declared.events.Event.{Event}
use Rattle.protocol.specs.declared.events.Event.TheVariants.{Ask}
use Rattle.protocol.specs.declared.events.Step.{Step}
use Rattle.protocol.specs.declared.nodes.NodeId.TheVariants.{R}
use Rattle.protocol.specs.declared.requests.Action.{Action}
use Rattle.protocol.specs.declared.requests.Action.TheVariants.{Start, Put, Del, Get, End, EndFail, Rollback}
use Rattle.protocol.specs.declared.requests.Request.TheVariants.{Call}
use Rattle.protocol.specs.Branches.{BranchView, no_branch, is_done}
use Rattle.protocol.specs.Effects.{Config}
use Rattle.protocol.specs.Facts.{Bound, bound_branches, is_prepared_view, view}
use Rattle.protocol.specs.Holds.{AreApart, AreNamedOnce, IsIn}
use Rattle.protocol.specs.Managers.{Branch, act_on, all_branches, view_by, view_named, branches_without, stored_votes, on_call}
use Rattle.protocol.specs.Nodes.{NodeState, Fault, new_node, all_play, first_rows}
use Rattle.protocol.specs.Tables.{table}
use Rattle.protocol.specs.Worlds.{World, StepResult, node_at, step_of, world_step}
use Rattle.protocol.proofs.DoneCalls.{IsReadyFor}
use Rattle.protocol.proofs.Lists.{IsIn-append, IsIn-before, IsIn-after, IsIn-push, all_each, filter_map_gives}
use Rattle.protocol.proofs.Manager.Apart.{none_apart, without_some, bound_stored, stored_bound, idle_branch, name_of, named_so}
use Rattle.protocol.proofs.Manager.Effects.{IsManagerFact}
use Rattle.protocol.proofs.Manager.Prepared.{IsPreparedAs, prepared_or_not, names_held_once}
use Rattle.protocol.proofs.Manager.Views.{prepared_before}
use Rattle.safety.specs.Runs.{IsReachable}
use Rattle.safety.proofs.World.Events.{safe_ever}
use Rattle.branch_table.specs.OneCall.{SameView, view_after_done}
use Rattle.history.specs.LookingBack.{write_by}
use Rattle.history.proofs.Actions.{equal_views, plain_at}
use Rattle.history.proofs.CallsLeave.{IsLeft, prepared_in, each_over, call_leaves, undone_leaves}
use Rattle.history.proofs.Moves.{manager_in, branches_of, left_by, IsQuiet, IsRestarted, IsCalled, IsStored, IsMove, Quiet, Restarted}
use Rattle.history.proofs.Moves.{Called, Stored, event_moved}
use Rattle.history.proofs.Runs.{facts_in}
use Rattle.history.proofs.Told.{IsSound, own_shows}
use Rattle.cluster.specs.Headlines.{branches_kept, branch_kept, LeavesKept}

-- ---- branches among others

-- a name shows the first branch that has it, or none
shown : (bs : List Branch) (x : XidParts)
    → ((b : Branch) × IsIn bs b × (b.xid ≡ x) × (view_named bs x ≡ view_by b.state b.keys)) ⊎ (view_named bs x ≡ no_branch)
shown [] x = inr refl
shown (b ∷ bs) x = first (xid_eq b.xid x) refl (shown bs x)
  where
    first : (t : Bool) → xid_eq b.xid x ≡ t
        → ((c : Branch) × IsIn bs c × (c.xid ≡ x) × (view_named bs x ≡ view_by c.state c.keys)) ⊎ (view_named bs x ≡ no_branch)
        → ((c : Branch) × IsIn (b ∷ bs) c × (c.xid ≡ x) × (view_named (b ∷ bs) x ≡ view_by c.state c.keys))
        ⊎ (view_named (b ∷ bs) x ≡ no_branch)
    first true e rest =
        inl (b, inl refl, (xid_decides b.xid x).0 e, ap (λ (t : Bool). if t then view_by b.state b.keys else view_named bs x) e)
    first false e (inl one) =
        inl (one.0, inr one.1, one.2, ap (λ (t : Bool). if t then view_by b.state b.keys else view_named bs x) e ∙ one.3)
    first false e (inr none) = inr (ap (λ (t : Bool). if t then view_by b.state b.keys else view_named bs x) e ∙ none)

-- each branch of the first list is one of the second, by its name and its touched keys
abbrev AreAmong : (some all : List Branch) → Type 0
AreAmong some all = (b : Branch) → IsIn some b → (c : Branch) × IsIn all c × (c.xid ≡ b.xid) × (c.keys ≡ b.keys)

-- what is kept for a name stays then, unless it has no branch
among_keeps : (step : Step) (rm : ℕ) (x : XidParts) (key : List ℕ) (some all : List Branch) → AreNamedOnce all → AreAmong some all
    → LeavesKept step rm x key (view_named all x) (view_named some x)
among_keeps step rm x key some all once among = elim (shown some x) [
  | inl one ↦
      let of = among one.0 one.1 in
      let shows : view_named all x ≡ view_by of.0.state of.0.keys =
      ap (view_named all) (sym (of.2 ∙ one.2)) ∙ own_shows all of.0 once of.1 in
      inl (ap (λ (v : BranchView). v.act key) one.3 ∙ ap (λ (ks : List Touched). act_on ks key) (sym of.3)
      ∙ sym (ap (λ (v : BranchView). v.act key) shows))
  | inr none ↦ inr (inl none)
]

-- ---- what a call that was done leaves

-- a put or a delete that was done was answered ok
put_ok : (key value : List ℕ) (answer : Answer) → is_done (Put key value) answer ≡ true → answer ≡ Code XaCode.Ok
put_ok key value (Code XaCode.Ok) done = refl
put_ok key value answer done = absurd (cc (done))

del_ok : (key : List ℕ) (answer : Answer) → is_done (Del key) answer ≡ true → answer ≡ Code XaCode.Ok
del_ok key (Code XaCode.Ok) done = refl
del_ok key answer done = absurd (cc (done))

-- a write on a key shows on that key alone
wrote : (step : Step) (rm : ℕ) (x : XidParts) (key at : List ℕ) (act : Act) (action : Action) (before after : BranchView)
    → step.event ≡ Ask (R rm) (Call x action) → write_by action ≡ Some (record { key = at; act = act }) → step.answer ≡ Code XaCode.Ok
    → after.act key ≡ (if bytes_eq at key then act else before.act key) → LeavesKept step rm x key before after
wrote step rm x key at act action before after event_is writes answer_is shows = by_key (bytes_eq at key) refl
  where
    by_key : (t : Bool) → bytes_eq at key ≡ t → LeavesKept step rm x key before after
    by_key false e = inl (shows ∙ ap (λ (t : Bool). if t then act else before.act key) e)
    by_key true e =
        let here : at ≡ key = (bytes_decides at key).0 e in
        let acts : after.act key ≡ act = shows ∙ ap (λ (t : Bool). if t then act else before.act key) e in
        inr (inr (record {
          action = action;
          event_is = event_is;
          writes = writes ∙ ap (λ (k : List ℕ). Some (record { key = k; act = act })) here
              ∙ ap (λ (a : Act). Some (record { key = key; act = a })) (sym acts);
          answer_is = answer_is;
        }))

done_leaves : (step : Step) (rm : ℕ) (x : XidParts) (key : List ℕ) (action : Action) (bs left : List Branch)
    → step.event ≡ Ask (R rm) (Call x action) → is_done action step.answer ≡ true → IsReadyFor action (view_named bs x).state
    → SameView (view_named left x) (view_after_done (view_named bs x) action)
    → LeavesKept step rm x key (view_named bs x) (view_named left x)
done_leaves step rm x key Start bs left event_is done ready own =
    inl (own.act key ∙ sym (ap (λ (v : BranchView). v.act key) (plain_at bs x ready)))
done_leaves step rm x key (Put at value) bs left event_is done ready own =
    wrote step rm x key at (Act.Put value) (Put at value) (view_named bs x) (view_named left x) event_is refl
    (put_ok at value step.answer done) (own.act key)
done_leaves step rm x key (Del at) bs left event_is done ready own =
    wrote step rm x key at Act.Del (Del at) (view_named bs x) (view_named left x) event_is refl (del_ok at step.answer done)
    (own.act key)
done_leaves step rm x key (Get at) bs left event_is done ready own =
    inl (own.act key ∙ cond_both (bytes_eq at key) ((view_named bs x).act key) ((view_named bs x).act key)
    (λ (a : Act). a ≡ (view_named bs x).act key) (λ same. refl) (λ apart. refl))
done_leaves step rm x key End bs left event_is done ready own = inl (own.act key)
done_leaves step rm x key EndFail bs left event_is done ready own = inl (own.act key)
done_leaves step rm x key Rollback bs left event_is done ready own = inr (inl (equal_views _ _ own))

-- ---- at a resource manager

-- the branches in memory, while it is up
abbrev in_memory : NodeState → List Branch
in_memory node = if node.up then node.memory.branches else []

abbrev all_of : ℕ → NodeState → List Branch
all_of rm node = all_branches rm (bound_branches node.facts) (in_memory node)

module _ (config : Config) (rm : ℕ) (old new : NodeState) (step : Step) (sound : IsSound config rm old) (x : XidParts) (key : List ℕ)
  where
    abbrev Leaves : Type 0
    Leaves = LeavesKept step rm x key (view_named (all_of rm old) x) (view_named (all_of rm new) x)

    apart : AreApart rm old.facts (in_memory old)
    apart =
        cond_both old.up (branches_of old) [] (AreApart rm old.facts) (λ up. sound.apart) (λ down. none_apart rm old.facts)

    once : AreNamedOnce (all_of rm old)
    once = names_held_once config rm old.facts (in_memory old) sound.played apart

    -- where each branch was one
    stays : AreAmong (all_of rm new) (all_of rm old) → Leaves
    stays among = among_keeps step rm x key (all_of rm new) (all_of rm old) once among

    -- with the same facts
    fewer : new.facts ≡ old.facts → ((b : Branch) → IsIn (in_memory new) b → IsIn (in_memory old) b) → Leaves
    fewer facts some = stays (λ b h.
        elim (IsIn-append (prepared_in rm (bound_branches old.facts)) (in_memory new) b
        (subst (λ (fs : List Fact). IsIn (all_branches rm (bound_branches fs) (in_memory new)) b) facts h)) [
          | inl bound ↦ (b, IsIn-before (prepared_in rm (bound_branches old.facts)) (in_memory old) b bound, refl, refl)
          | inr other ↦ (b, IsIn-after (prepared_in rm (bound_branches old.facts)) (in_memory old) b (some b other), refl, refl)
        ])

    -- of those in memory, where it is up
    if_up : (b : Branch) (bs : List Branch) → branches_of new ≡ bs → (new.up ≡ true → IsIn bs b → IsIn (in_memory old) b)
        → IsIn (in_memory new) b → IsIn (in_memory old) b
    if_up b bs left some = by_up new.up refl
      where
        by_up : (u : Bool) → new.up ≡ u → IsIn (if u then branches_of new else []) b → IsIn (in_memory old) b
        by_up true e h = some e (subst (λ (cs : List Branch). IsIn cs b) left h)
        by_up false e h = absurd h

    up_before : (b : Branch) → old.up ≡ true → IsIn (branches_of old) b → IsIn (in_memory old) b
    up_before b up h = subst (λ (u : Bool). IsIn (if u then branches_of old else []) b) (sym up) h

    quiet : IsQuiet rm old new step.event step.answer step.now → Leaves
    quiet is = fewer is.facts (λ b. if_up b (branches_of new) refl (λ up h.
        up_before b (is.kept up).0 (subst (λ (cs : List Branch). IsIn cs b) (is.kept up).1 h)))

    restarted : IsRestarted rm old new step.event step.answer step.now → Leaves
    restarted is = fewer is.facts (λ b. if_up b [] is.left (λ up h. absurd h))

    -- a call
    module _ (is : IsCalled config rm old new step.event step.answer step.now) where
      abbrev left : List Branch
      left = (on_call rm (stored_votes rm old.facts) (table (first_rows config rm) old.facts) (branches_of old) is.xid is.action).memory

      answered : (t : Bool) → is_done is.action step.answer ≡ t
          → is_done is.action
          (on_call rm (stored_votes rm old.facts) (table (first_rows config rm) old.facts) (branches_of old) is.xid is.action).answer ≡ t
      answered t d = ap (is_done is.action) (sym is.answered) ∙ d

      undone : is_done is.action step.answer ≡ false → Leaves
      undone d =
          let same : branches_of new ≡ branches_of old =
          is.left ∙ undone_leaves rm old.facts (first_rows config rm) (branches_of old) is.xid is.action (answered false d) in
          fewer is.facts (λ b. if_up b (branches_of old) same (λ up h. up_before b is.up h))

      -- of a branch in memory
      module _ (d : is_done is.action step.answer ≡ true) where
        leaves : IsReadyFor is.action (view_named (branches_of old) is.xid).state × IsLeft is.xid is.action (branches_of old) left
        leaves =
            call_leaves rm old.facts (first_rows config rm) (branches_of old) is.xid is.action
            (all_each _ (branches_of old) sound.apart.ordered) (answered true d)

        own : is.xid ≡ x → LeavesKept step rm x key (view_named (branches_of old) x) (view_named left x)
        own same =
            subst (λ (y : XidParts). LeavesKept step rm y key (view_named (branches_of old) y) (view_named left y)) same
            (done_leaves step rm is.xid key is.action (branches_of old) left is.is d leaves.0 leaves.1.own)

        in_it : (t : Bool) → xid_eq is.xid x ≡ t → LeavesKept step rm x key (view_named (branches_of old) x) (view_named left x)
        in_it true e = own ((xid_decides is.xid x).0 e)
        in_it false e =
            let apart : x ≢ is.xid = λ same. both_ways (xid_eq is.xid x) e ((xid_decides is.xid x).1 (sym same)) in
            inl (ap (λ (v : BranchView). v.act key) (leaves.1.others x apart))

        -- prepared ones stand first
        over : LeavesKept step rm x key (view_named (all_branches rm (bound_branches old.facts) (branches_of old)) x)
            (view_named (all_branches rm (bound_branches old.facts) left) x)
        over = elim (each_over rm old.facts x) [
          | inl through ↦
              subst (λ (v : BranchView). LeavesKept step rm x key v (view_named (all_branches rm (bound_branches old.facts) left) x))
              (sym (through (branches_of old)))
              (subst (λ (v : BranchView). LeavesKept step rm x key (view_named (branches_of old) x) v) (sym (through left))
              (in_it (xid_eq is.xid x) refl))
          | inr stops ↦ inl (ap (λ (v : BranchView). v.act key) (stops.2 left ∙ sym (stops.2 (branches_of old))))
        ]

        done_up : new.up ≡ true → Leaves
        done_up up =
            let before : in_memory old ≡ branches_of old = ap (λ (u : Bool). if u then branches_of old else []) is.up in
            let after : in_memory new ≡ left = ap (λ (u : Bool). if u then branches_of new else []) up ∙ is.left in
            subst (λ (bs : List Branch). LeavesKept step rm x key (view_named (all_branches rm (bound_branches old.facts) bs) x)
            (view_named (all_of rm new) x)) (sym before)
            (subst (λ (bs : List Branch). LeavesKept step rm x key
            (view_named (all_branches rm (bound_branches old.facts) (branches_of old)) x)
            (view_named (all_branches rm (bound_branches new.facts) bs) x)) (sym after)
            (subst (λ (fs : List Fact). LeavesKept step rm x key
            (view_named (all_branches rm (bound_branches old.facts) (branches_of old)) x)
            (view_named (all_branches rm (bound_branches fs) left) x)) (sym is.facts) over))

        done_by : (u : Bool) → new.up ≡ u → Leaves
        done_by true up = done_up up
        done_by false down = fewer is.facts (λ b. if_up b (branches_of new) refl (λ up h. absurd (cc (up, down))))

      called_by : (t : Bool) → is_done is.action step.answer ≡ t → Leaves
      called_by false d = undone d
      called_by true d = done_by d new.up refl

      called : Leaves
      called = called_by (is_done is.action step.answer) refl

    -- a fact is stored
    module _ (is : IsStored config rm old new step.event step.answer step.now) where
      by_name : (b : Branch) (o : Option XidParts) → IsIn (option_map_or (branches_without (branches_of old)) o (branches_of old)) b
          → IsIn (branches_of old) b
      by_name b None h = h
      by_name b (Some name) h = without_some (branches_of old) name b h

      left_some : (fact : Fact) (b : Branch) → IsIn (left_by rm (branches_of old) fact) b → IsIn (branches_of old) b
      left_some (stored.Committed tx) b h = h
      left_some (stored.VotePrepared tx keys) b h = by_name b (xid_at tx rm) h
      left_some (stored.VoteAborted tx) b h = by_name b (xid_at tx rm) h
      left_some (stored.Aborted tx) b h = by_name b (xid_at tx rm) h
      left_some fact b h = by_name b (xid_at (fact_tx fact) rm) h

      abbrev IsOne : Branch → Type 0
      IsOne b = (c : Branch) × IsIn (all_of rm old) c × (c.xid ≡ b.xid) × (c.keys ≡ b.keys)

      -- the branch with whose keys a vote was stored
      voted : (b : Branch) (one : IsPreparedAs rm new.facts b) → is.fact ≡ stored.VotePrepared one.bound.tx one.bound.keys → IsOne b
      voted b one e =
          let rule : IsManagerFact rm old.facts (branches_of old) is.input (stored.VotePrepared one.bound.tx one.bound.keys) =
          subst (IsManagerFact rm old.facts (branches_of old) is.input) e is.rule in
          let held = idle_branch (branches_of old) rule.0 one.bound.keys rule.1.idle in (
            held.branch,
            IsIn-after (prepared_in rm (bound_branches old.facts)) (in_memory old) held.branch
                (up_before held.branch is.up held.among),
            held.name ∙ name_of (xid_at one.bound.tx rm) rule.0 b.xid rule.1.first.name one.name,
            held.holds ∙ sym one.keys,
          )

      -- one that was prepared before
      bound : (b : Branch) (one : IsPreparedAs rm new.facts b) → IsIn (bound_branches old.facts) one.bound → IsOne b
      bound b one among = (
        named_so one.bound.keys b.xid,
        IsIn-before (prepared_in rm (bound_branches old.facts)) (in_memory old) (named_so one.bound.keys b.xid)
            (filter_map_gives (λ (given : Bound). option_map (named_so given.keys) (xid_at given.tx rm)) (bound_branches old.facts)
            one.bound (named_so one.bound.keys b.xid) among (ap (option_map (named_so one.bound.keys)) one.name)),
        refl,
        sym one.keys,
      )

      prepared : (b : Branch) → IsPreparedAs rm new.facts b → IsOne b
      prepared b one =
          let so = bound_stored new.facts one.bound one.among in
          elim (IsIn-push old.facts is.fact (stored.VotePrepared one.bound.tx one.bound.keys)
          (subst (λ (fs : List Fact). IsIn fs (stored.VotePrepared one.bound.tx one.bound.keys)) is.facts so.voted)) [
            | inl was ↦
                bound b one (stored_bound old.facts one.bound (record {
                  voted = was;
                  prepared = prepared_before old.facts is.fact one.bound.tx (one.bound.keys, was)
                      (subst (λ (fs : List Fact). is_prepared_view (view fs one.bound.tx) ≡ true) is.facts so.prepared);
                }))
            | inr e ↦ voted b one e
          ]

      stored_among : AreAmong (all_of rm new) (all_of rm old)
      stored_among b h = elim (prepared_or_not rm new.facts (in_memory new) b h) [
        | inl one ↦ prepared b one
        | inr other ↦ (
          b,
          IsIn-after (prepared_in rm (bound_branches old.facts)) (in_memory old) b
              (if_up b (branches_of new) refl (λ up k. up_before b is.up
              (left_some is.fact b (subst (λ (cs : List Branch). IsIn cs b) (is.left up) k))) other),
          refl,
          refl,
        )
      ]

    moved : IsMove config rm old new step.event step.answer step.now → Leaves
    moved (Quiet is) = quiet is
    moved (Restarted is) = restarted is
    moved (Called is) = called is
    moved (Stored is) = stays (stored_among is)

-- ---- in the world

module _ (config : Config) (world : World) (reachable : IsReachable config world) where
  apart_by : (rm : ℕ) (o : Option NodeState) → ((node : NodeState) → o ≡ Some node → AreApart rm node.facts (branches_of node))
      → AreApart rm (unwrap_or o new_node).facts (branches_of (unwrap_or o new_node))
  apart_by rm None each = none_apart rm []
  apart_by rm (Some node) each = each node refl

  sound : (rm : ℕ) → IsSound config rm (manager_in config world rm)
  sound rm = record {
    played = subst (λ (facts : List Fact). all_play config (R rm) [] facts ≡ true) (facts_in config world rm)
        ((safe_ever config world reachable).played (R rm));
    apart = apart_by rm (node_at config world (R rm)) ((safe_ever config world reachable).apart rm);
  }

kept_by : (rm : ℕ) (o : Option NodeState) → all_of rm (unwrap_or o new_node) ≡ branches_kept rm o
kept_by rm None = refl
kept_by rm (Some node) = refl

-- what an event leaves
pub writes_kept : (config : Config) (world : World) → IsReachable config world → (event : Event) (fault : Fault) (rm : ℕ) (x : XidParts)
    (key : List ℕ)
    → LeavesKept (step_of world event (world_step config world event fault)) rm x key (branch_kept config world rm x)
    (branch_kept config (world_step config world event fault).world rm x)
writes_kept config world reachable event fault rm x key =
    let result : StepResult = world_step config world event fault in
    let step : Step = step_of world event result in
    subst (λ (bs : List Branch). LeavesKept step rm x key (view_named bs x) (branch_kept config result.world rm x))
    (kept_by rm (node_at config world (R rm)))
    (subst (λ (bs : List Branch). LeavesKept step rm x key (view_named (all_of rm (manager_in config world rm)) x) (view_named bs x))
    (kept_by rm (node_at config result.world (R rm)))
    (moved config rm (manager_in config world rm) (manager_in config result.world rm) step (sound config world reachable rm) x key
    (event_moved config world rm event fault)))
