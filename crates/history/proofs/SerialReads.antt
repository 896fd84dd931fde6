-- What a committed transaction has read is what the serial run shows it.
-- Needed by `reads_are_serial`; crates floored_history, audit and cluster_run.
use Rattle.std.proofs.Common.{◌≡◌, ◌≢◌, inl, inr, ◌∙◌, ℕ, Bool, true, false, if◌then◌else◌, List, [], ◌∷◌, ◌++◌, Option, Some, None}
use Rattle.std.proofs.Common.{append_assoc, append-nil, unwrap_or, refl, sym, ap, subst}
use Rattle.std.specs.Prelude.{filter, filter_map, find, fold}
use Rattle.std.specs.List.{list_any, cons_option}
use Rattle.std.specs.Option.{option_map_or}
use Rattle.std.specs.Str.{bytes_eq}
use Rattle.std.proofs.lemmas.Bool.{or_left, or_parts}
use Rattle.std.proofs.lemmas.List.Elements.{filter_map-append}
use Rattle.std.proofs.lemmas.Slice.Eq.{bytes_eq-Decides}
use Rattle.xid.specs.Names.{XidParts, xid_eq}
use Rattle.xid.specs.Transactions.{TxParts, is_participant, tx_eq, xid_at}
use Rattle.xid.specs.declared.transaction.Vote.TheVariants as votes
use Rattle.xid.specs.declared.codes.XaCode.TheVariants as codes
use Rattle.xid.specs.declared.refusals.Refusal.TheVariants.{Busy, Full}
use Rattle.xid.proofs.Deciding.{xid_decides, tx_decides, tx_self}
use Rattle.stable_record.specs.declared.fact.FactKind.TheVariants as stored
use Rattle.protocol.specs.Basics.{Act, Fact, Touched}
use Rattle.protocol.specs.declared.states.BranchState.TheVariants.{Active, Idle, RollbackOnly, Prepared}
use Rattle.protocol.specs.declared.states.View.TheVariants as views
use Rattle.safety.specs.Vocabulary.{BranchState, View, Action, Start, Get, Change, Answer, Code, Refused, Event, Row, Step}
use Rattle.protocol.specs.Branches.{BranchView, is_write, is_done, hinders, row_at, read_of, get_answer, by_state, key_fits, value_after}
use Rattle.protocol.specs.Effects.{Config}
use Rattle.protocol.specs.Facts.{Bound, branch_bound_by, is_prepared_view, bound_branches, is_spent, view}
use Rattle.protocol.specs.Managers.{all_branches, act_on, is_hindered, named_answer, view_named}
use Rattle.protocol.specs.Nodes.{NodeState, Fault, first_rows}
use Rattle.protocol.specs.Tables.{put_row, with_writes, keys_voted, table, commit_of}
use Rattle.protocol.specs.Worlds.{World, step_of, world_step}
use Rattle.protocol.specs.Holds.{IsIn}
use Rattle.safety.specs.Laws.{IsViewOf}
use Rattle.safety.specs.Standing.{HasVote}
use Rattle.protocol.proofs.Lists.{IsIn-before, filter_kept, filter_keeps, found_any, found_among, any_find, filter_map_given}
use Rattle.protocol.proofs.Lists.{filter_map_gives}
use Rattle.protocol.proofs.Manager.Apart.{bound_is, stored_bound}
use Rattle.protocol.proofs.Manager.Effects.{name_names}
use Rattle.protocol.proofs.Manager.Played.{voted_named}
use Rattle.protocol.proofs.Manager.Prepared.{bound_apart}
use Rattle.protocol.proofs.Manager.Views.{view_is}
use Rattle.safety.proofs.World.Reachable.{consistent}
use Rattle.history.specs.Calls.{call_done}
use Rattle.history.specs.LookingBack.{is_start, branch_by, done_at, actions_since, writes_in, last_act_on}
use Rattle.history.specs.SerialOrder.{first_commits, those_before, serial_table, serial_read}
use Rattle.history.specs.Writes.{actions_since_start, writes_of, commit_order}
use Rattle.history.proofs.CallsLeave.{branch_view, through_own}
use Rattle.history.proofs.Conflicts.{AreOrdered, commits_in, commit_stored, stored_commit, first_voted, firsts_once, firsts_stored}
use Rattle.history.proofs.Conflicts.{ordered_ever}
use Rattle.protocol.proofs.DoneCalls.{IsReadyFor, ready}
use Rattle.history.proofs.Kept.{IsKept, kept_ever, started, voted_undone}
use Rattle.history.proofs.KeyCourses.{IsCourse, Alive, Voted, Gone, Aborted, IsVoted, course_moved}
use Rattle.history.proofs.Moves.{manager_in, branches_of, IsMove, Quiet, Restarted, Called, Stored, IsCalled, event_moved}
use Rattle.history.proofs.Orders.{IsFirst, once_filter, first_alone, first_more, first_filtered, find_more, one_way, same_order, in_before}
use Rattle.history.proofs.Orders.{first_before, before_first, first_those, once_before}
use Rattle.branch_table.proofs.TableRows.{AscendRows, writes_ascend, first_ascend}
use Rattle.history.proofs.Runs.{IsRun, AtFirst, Then, reached, facts_in}
use Rattle.history.proofs.SerialTables as tables
use Rattle.history.proofs.Stretches.{since_call}
use Rattle.history.proofs.TablesBack.{IsVoteFound}
use Rattle.history.proofs.Told.{IsSound, IsTold, sound, told_ever, no_restart, does_by, leaves}

-- ---- runs, one step back

-- the last step of a run
record IsLast (config : Config) (world : World) (step : Step) (rest : List Step) : Type 0 where
  before : World
  event : Event
  fault : Fault
  run : IsRun config before rest
  is_step : step_of before event (world_step config before event fault) ≡ step
  is_world : (world_step config before event fault).world ≡ world

abbrev pub rest_of : List Step → List Step
rest_of [] = []
rest_of (step ∷ rest) = rest

abbrev first_of : List Step → Step → Step
first_of [] other = other
first_of (step ∷ rest) other = step

last_of : (config : Config) (world : World) (steps : List Step) → IsRun config world steps → (step : Step) (rest : List Step)
    → steps ≡ step ∷ rest → IsLast config world step rest
last_of config _ _ AtFirst step rest e = absurd (cc (e))
last_of config _ _ (Then world before event fault run) step rest e = record {
  before = world;
  event = event;
  fault = fault;
  run = subst (IsRun config world) (ap rest_of e) run;
  is_step = ap (λ (steps : List Step). first_of steps step) e;
  is_world = refl;
}

-- facts grow at their end
facts_grow : (config : Config) (rm : ℕ) (old new : NodeState) (event : Event) (answer : Answer) (now : Option Change)
    → IsMove config rm old new event answer now → (more : List Fact) × (new.facts ≡ old.facts ++ more)
facts_grow config rm old new event answer now (Quiet is) = ([], is.facts ∙ sym (append-nil old.facts))
facts_grow config rm old new event answer now (Restarted is) = ([], is.facts ∙ sym (append-nil old.facts))
facts_grow config rm old new event answer now (Called is) = ([], is.facts ∙ sym (append-nil old.facts))
facts_grow config rm old new event answer now (Stored is) = (is.fact ∷ [], is.facts)

-- a vote that is stored is found
looked_up_not : (facts : List Fact) (t : TxParts) (keys : List Touched) → IsIn facts (stored.VotePrepared t keys)
    → find (λ (b : Bound). tx_eq t b.tx) (filter_map branch_bound_by facts) ≡ None → ⊥
looked_up_not facts t keys h e =
    let bound : Bound = record { tx = t; keys = keys } in
    let there = filter_map_gives branch_bound_by facts (stored.VotePrepared t keys) bound h refl in
    let found = any_find (λ (b : Bound). tx_eq t b.tx) (filter_map branch_bound_by facts)
    (found_any (λ (b : Bound). tx_eq t b.tx) (filter_map branch_bound_by facts) bound there (tx_self t)) in
    absurd (cc (sym e ∙ found.1))

-- ---- the answer of a get

-- a get that is done was answered by an active branch, which nobody hindered
pub done_inside : (key : List ℕ) (s : Option BranchState) (busy room : Bool) (answer : Answer)
    → is_done (Get key) (by_state s (Code codes.Nota) (if busy then Refused Busy else if room then answer else Refused Full)
    (Code codes.Proto)) ≡ true
    → by_state s (Code codes.Nota) (if busy then Refused Busy else if room then answer else Refused Full) (Code codes.Proto) ≡ answer
done_inside key None busy room answer e = absurd (cc (e))
done_inside key (Some Active) true room answer e = absurd (cc (e))
done_inside key (Some Active) false true answer e = refl
done_inside key (Some Active) false false answer e = absurd (cc (e))
done_inside key (Some Idle) busy room answer e = absurd (cc (e))
done_inside key (Some RollbackOnly) busy room answer e = absurd (cc (e))
done_inside key (Some Prepared) busy room answer e = absurd (cc (e))

-- a get that is done has a key that fits
pub fitting : (key : List ℕ) (fits : Bool) (inner answer : Answer) → (is_done (Get key) inner ≡ true → inner ≡ answer)
    → is_done (Get key) (if fits then inner else Code codes.Inval) ≡ true → (if fits then inner else Code codes.Inval) ≡ answer
fitting key true inner answer each e = each e
fitting key false inner answer each e = absurd (cc (e))

get_is : (spent : Bool) (rows : List Row) (v : BranchView) (busy : Bool) (key : List ℕ)
    → is_done (Get key) (named_answer spent rows v busy (Get key)) ≡ true
    → named_answer spent rows v busy (Get key) ≡ get_answer (read_of rows v key)
get_is true rows v busy key e = fitting key (key_fits key) _ _ (done_inside key v.state busy _ (get_answer (read_of rows v key))) e
get_is false rows v busy key e = fitting key (key_fits key) _ _ (done_inside key v.state busy _ (get_answer (read_of rows v key))) e

get_ready : (spent : Bool) (rows : List Row) (v : BranchView) (busy : Bool) (key : List ℕ)
    → is_done (Get key) (named_answer spent rows v busy (Get key)) ≡ true → v.state ≡ Some Active
get_ready true rows v busy key e = ready rows v busy (Get key) e
get_ready false rows v busy key e = ready rows v busy (Get key) e

-- ---- the get

module _ (config : Config) (rm : ℕ) (x : XidParts) (key : List ℕ) (old new : NodeState) (step : Step) (before : List Step)
    (is_sound : IsSound config rm old) (told : IsTold rm old before) (kept : IsKept rm old before)
    (does : call_done rm x step.event step.answer ≡ Some (Get key)) where
  record IsGet : Type 0 where
    is : IsCalled config rm old new step.event step.answer step.now
    own : is.xid ≡ x
    action : is.action ≡ Get key
    done : is_done is.action step.answer ≡ true

  get_of : IsMove config rm old new step.event step.answer step.now → IsGet
  get_of (Quiet is) = absurd (cc (sym (is.silent.calls x) ∙ does))
  get_of (Restarted is) = absurd (cc (sym (is.calls x) ∙ does))
  get_of (Stored is) = absurd (cc (sym (is.calls x) ∙ does))
  get_of (Called is) = by_done (is_done is.action step.answer) (xid_eq is.xid x) refl refl
    where
      by_done : (done own : Bool) → is_done is.action step.answer ≡ done → xid_eq is.xid x ≡ own → IsGet
      by_done false own d o = absurd (cc (sym (does_by config rm old new step before told is_sound is x false own d o) ∙ does))
      by_done true false d o = absurd (cc (sym (does_by config rm old new step before told is_sound is x true false d o) ∙ does))
      by_done true true d o = record {
        is = is;
        own = (xid_decides is.xid x).0 o;
        action = ap (λ (a : Option Action). unwrap_or a is.action)
            (sym (does_by config rm old new step before told is_sound is x true true d o) ∙ does);
        done = d;
      }

  module _ (get : IsGet) (tx : TxParts) (name : xid_at tx rm ≡ Some x) (early : List TxParts)
      (early_is : commits_in old.facts ≡ early) where
    abbrev the_call : IsCalled config rm old new step.event step.answer step.now
    the_call = get.is

    get_unvoted : ¬ HasVote old.facts tx votes.Prepared
    get_unvoted vote = absurd (cc (sym (voted_undone config rm old new step before told is_sound kept the_call tx vote.0 x vote.1 name)
        ∙ does))

    get_course : IsCourse rm x tx name key early new.facts (step ∷ before)
    get_course = Alive (record {
      unvoted = λ vote. get_unvoted (subst (λ (fs : List Fact). HasVote fs tx votes.Prepared) the_call.facts vote);
      touched = ap (λ (actions : List Action). (branch_by actions).touched key)
          (since_call rm step before x (Get key) (no_restart config rm old new step before told is_sound the_call) the_call.change does)
          ∙ or_left (bytes_eq key key) _ ((bytes_eq-Decides key key).1 refl);
      others = λ other keys apart v w h late. subst (λ (txs : List TxParts). IsIn txs other) early_is
          (subst (λ (fs : List Fact). IsIn (commits_in fs) other) the_call.facts h);
    })

    -- it is answered by the table, and the branch's own writes over it
    get_answered : step.answer
        ≡ get_answer (value_after (last_act_on (writes_in (actions_since_start rm x before)) key)
        (row_at (table (first_rows config rm) old.facts) key))
    get_answered =
        answered ∙ get_is (is_spent rm old.facts x) rows (all x) busy key done
        ∙ ap (λ (act : Act). get_answer (value_after act (row_at rows key))) own_act
      where
        rows : List Row
        rows = table (first_rows config rm) old.facts

        all : XidParts → BranchView
        all = branch_view rm old.facts (branches_of old)

        busy : Bool
        busy = is_hindered (hinders (Get key)) (all_branches rm (bound_branches old.facts) (branches_of old)) x

        answered : step.answer ≡ named_answer (is_spent rm old.facts x) rows (all x) busy (Get key)
        answered = the_call.answered ∙ (λ i. named_answer (is_spent rm old.facts (get.own i)) rows (all (get.own i))
            (is_hindered (hinders (get.action i)) (all_branches rm (bound_branches old.facts) (branches_of old)) (get.own i))
            (get.action i))

        done : is_done (Get key) (named_answer (is_spent rm old.facts x) rows (all x) busy (Get key)) ≡ true
        done = ap (is_done (Get key)) (sym answered) ∙ subst (λ (a : Action). is_done a step.answer ≡ true) get.action get.done

        active : (view_named (branches_of old) x).state ≡ Some Active
        active = subst (λ (y : XidParts). (view_named (branches_of old) y).state ≡ Some Active) get.own
            (subst (λ (a : Action). IsReadyFor a (view_named (branches_of old) the_call.xid).state) get.action
            (leaves config rm old new step before told is_sound the_call get.done).0)

        shows : view_named (branches_of old) x ≡ branch_by (actions_since rm x before)
        shows = told.branches the_call.up x

        in_all : branch_view rm old.facts (branches_of old) x ≡ view_named (branches_of old) x
        in_all = through_own rm old.facts x (Get key) (branches_of old) (get_ready (is_spent rm old.facts x) rows (all x) busy key done)

        own_act : (branch_view rm old.facts (branches_of old) x).act key ≡ last_act_on (writes_in (actions_since_start rm x before)) key
        own_act = ap (λ (v : BranchView). v.act key) (in_all ∙ shows)
            ∙ ap (λ (ts : List Touched). last_act_on ts key)
            (started (actions_since rm x before) (actions_since_start rm x before) (kept.begun x)
            (λ none. let e : Some Active ≡ None = sym active ∙ ap (λ (v : BranchView). v.state) shows ∙ none in absurd (cc (e))))

-- ---- from the get to the end of the run

module _ (config : Config) (rm : ℕ) (x : XidParts) (tx : TxParts) (name : xid_at tx rm ≡ Some x) (key : List ℕ) (step : Step)
    (before : List Step) (does : call_done rm x step.event step.answer ≡ Some (Get key)) where
  abbrev early : List TxParts
  early = commit_order rm before

  -- the manager before the get and after it
  record IsRead (world : World) : Type 0 where
    last : IsLast config world step before
    get : IsGet config rm x key (manager_in config last.before rm) (manager_in config world rm) step before
        (sound config last.before before rm last.run) (told_ever config last.before before rm last.run)
        (kept_ever config last.before before rm last.run) does

  moved_at : (world : World) (rest : List Step) (s : Step) (last : IsLast config world s rest)
      → IsMove config rm (manager_in config last.before rm) (manager_in config world rm) s.event s.answer s.now
  moved_at world rest s last =
      subst (λ (w : World). IsMove config rm (manager_in config last.before rm) (manager_in config w rm) s.event s.answer s.now)
      last.is_world
      (subst (λ (t : Step). IsMove config rm (manager_in config last.before rm)
      (manager_in config (world_step config last.before last.event last.fault).world rm) t.event t.answer t.now) last.is_step
      (event_moved config last.before rm last.event last.fault))

  read_at : (world : World) → IsRun config world (step ∷ before) → IsRead world
  read_at world run =
      let last = last_of config world (step ∷ before) run step before refl in
      record {
        last = last;
        get = get_of config rm x key (manager_in config last.before rm) (manager_in config world rm) step before
            (sound config last.before before rm last.run) (told_ever config last.before before rm last.run)
            (kept_ever config last.before before rm last.run) does (moved_at world before step last);
      }

  module _ (world : World) (read : IsRead world) where
    course_then : IsCourse rm x tx name key early (manager_in config world rm).facts (step ∷ before)
    course_then = get_course config rm x key (manager_in config read.last.before rm) (manager_in config world rm) step before
        (sound config read.last.before before rm read.last.run) (told_ever config read.last.before before rm read.last.run)
        (kept_ever config read.last.before before rm read.last.run) does read.get tx name early
        (tables.commits_are config read.last.before before rm read.last.run)

  none_started : (o : Option Action) (actions : List Action) → list_any is_start (cons_option o actions) ≡ false
      → (o ≢ Some Start) × (list_any is_start actions ≡ false)
  none_started None actions e = ((λ f. absurd (cc (f))), e)
  none_started (Some action) actions e =
      let parts = or_parts (is_start action) (list_any is_start actions) e in
      ((λ f. absurd (cc (sym parts.0 ∙ ap (λ (o : Option Action). option_map_or is_start o true) f))), parts.1)

  -- what came of the get, and the facts since then
  record IsSince (world : World) (steps : List Step) : Type 0 where
    course : IsCourse rm x tx name key early (manager_in config world rm).facts steps
    then_world : World
    read : IsRead then_world
    more : List Fact
    grown : (manager_in config world rm).facts ≡ (manager_in config read.last.before rm).facts ++ more

  since : (later : List Step) (world : World) → IsRun config world (later ++ step ∷ before)
      → list_any is_start (filter_map (done_at rm x) later) ≡ false → IsSince world (later ++ step ∷ before)
  since [] world run none =
      let read = read_at world run in
      record {
        course = course_then world read;
        then_world = world;
        read = read;
        more = [];
        grown = (read.get).is.facts ∙ sym (append-nil (manager_in config read.last.before rm).facts);
      }
  since (s ∷ later) world run none =
      let last = last_of config world (s ∷ (later ++ step ∷ before)) run s (later ++ step ∷ before) refl in
      let parts = none_started (done_at rm x s) (filter_map (done_at rm x) later) none in
      let old = manager_in config last.before rm in
      let was = since later last.before last.run parts.1 in
      let move = moved_at world (later ++ step ∷ before) s last in
      let grows = facts_grow config rm old (manager_in config world rm) s.event s.answer s.now move in
      record {
        course = course_moved rm x tx name key early config old (manager_in config world rm) s (later ++ step ∷ before)
            (sound config last.before (later ++ step ∷ before) rm last.run)
            (told_ever config last.before (later ++ step ∷ before) rm last.run)
            (ordered_ever config last.before (later ++ step ∷ before) rm last.run).show parts.0 was.course move;
        then_world = was.then_world;
        read = was.read;
        more = was.more ++ grows.0;
        grown = grows.1 ∙ ap (λ (fs : List Fact). fs ++ grows.0) was.grown
            ∙ append_assoc (manager_in config was.read.last.before rm).facts was.more grows.0;
      }

  -- ---- at the end

  module _ (world : World) (steps : List Step) (run : IsRun config world steps) (first_here : IsIn (first_commits steps) tx)
      (here : IsSince world steps) where
    abbrev facts : List Fact
    facts = (manager_in config world rm).facts

    abbrev then_facts : List Fact
    then_facts = (manager_in config here.read.last.before rm).facts

    abbrev then_run : IsRun config here.read.last.before before
    then_run = here.read.last.run

    is_sound : IsSound config rm (manager_in config world rm)
    is_sound = sound config world steps rm run

    ordered : AreOrdered facts (first_commits steps)
    ordered = ordered_ever config world steps rm run

    then_ordered : AreOrdered then_facts (first_commits before)
    then_ordered = ordered_ever config here.read.last.before before rm then_run

    abbrev w : TxParts → Bool
    w = tables.writes_key config world steps rm run key

    -- a transaction that was committed somewhere isn't aborted here
    unaborted : (t : TxParts) → IsIn (first_commits steps) t → is_participant t rm ≡ true → view facts t ≢ views.Aborted
    unaborted t h named aborted =
        let at = firsts_stored config world steps run t h in
        let there = ordered_ever config world steps at.0 run in
        let kept = (kept_ever config world steps at.0 run).committed t at.1 in
        let own = voted_named config at.0 (manager_in config world at.0).facts
        (sound config world steps at.0 run).played t votes.Prepared kept in
        consistent config world (reached config world steps run) t at.0 rm own named
        (ap (λ (fs : List Fact). view fs t) (facts_in config world at.0)
        ∙ there.show t (stored_commit (manager_in config world at.0).facts t at.1))
        (ap (λ (fs : List Fact). view fs t) (facts_in config world rm) ∙ aborted)

    own_named : is_participant tx rm ≡ true
    own_named = name_names tx rm x name

    -- its vote has the key
    voted : IsVoted rm x tx name key early facts
    voted = by_course here.course
      where
        by_course : IsCourse rm x tx name key early facts steps → IsVoted rm x tx name key early facts
        by_course (Voted is) = is
        by_course (Alive is) = absurd (is.unvoted (first_voted config world steps run tx first_here rm own_named))
        by_course (Gone is) = absurd (is.unvoted (first_voted config world steps run tx first_here rm own_named))
        by_course (Aborted e) = absurd (unaborted tx first_here own_named e)

    -- a transaction that writes the key was voted on
    written : (t : TxParts) → w t ≡ true → IsVoteFound facts t
    written t e = by_found (find (λ (b : Bound). tx_eq t b.tx) (filter_map branch_bound_by facts)) refl e
      where
        by_found : (o : Option Bound) → find (λ (b : Bound). tx_eq t b.tx) (filter_map branch_bound_by facts) ≡ o
            → is_write (act_on (option_map_or (λ b. b.keys) o []) key) ≡ true → IsVoteFound facts t
        by_found None is writes = absurd (cc (writes))
        by_found (Some b) is writes =
            let among = found_among (λ (c : Bound). tx_eq t c.tx) (filter_map branch_bound_by facts) b is in
            let source = filter_map_given branch_bound_by facts b among.0 in
            record {
              keys = b.keys;
              looked_up = ap (λ (o : Option Bound). option_map_or (λ c. c.keys) o []) is;
              stands = subst (λ (u : TxParts). IsIn facts (stored.VotePrepared u b.keys)) (sym ((tx_decides t b.tx).0 among.1))
                  (subst (IsIn facts) (bound_is source.source b source.gives) source.among);
            }

    writes_of_it : (t : TxParts) (e : w t ≡ true) → is_write (act_on (written t e).keys key) ≡ true
    writes_of_it t e = ap (λ (ks : List Touched). is_write (act_on ks key)) (sym (written t e).looked_up) ∙ e

    commits_more : commits_in facts ≡ commits_in then_facts ++ commits_in here.more
    commits_more = ap commits_in here.grown ∙ filter_map-append commit_of then_facts here.more

    then_unvoted : ¬ IsIn (commits_in then_facts) tx
    then_unvoted h = get_unvoted config rm x key (manager_in config here.read.last.before rm)
        (manager_in config here.then_world rm) step before
        (sound config here.read.last.before before rm then_run) (told_ever config here.read.last.before before rm then_run)
        (kept_ever config here.read.last.before before rm then_run) does here.read.get tx name early
        (tables.commits_are config here.read.last.before before rm then_run)
        ((kept_ever config here.read.last.before before rm then_run).committed tx (commit_stored then_facts tx h))

    still : (t : TxParts) → IsIn (commits_in then_facts) t → IsIn (commits_in facts) t
    still t h = subst (λ (txs : List TxParts). IsIn txs t) (sym commits_more)
        (IsIn-before (commits_in then_facts) (commits_in here.more) t h)

    -- one that writes the key and that was committed here before the get stands before
    stands_before : (t : TxParts) → IsIn (commits_in then_facts) t → w t ≡ true → IsIn (those_before tx (first_commits steps)) t
    stands_before t h e =
        let apart : t ≢ tx = λ same. then_unvoted (subst (IsIn (commits_in then_facts)) same h) in
        let vote = written t e in
        let first = subst (IsFirst t tx) (sym commits_more)
        (first_more t tx (commits_in then_facts) (commits_in here.more) (first_alone t tx (commits_in then_facts) h then_unvoted)) in
        first_before t tx (first_commits steps) apart
        (ordered.first t tx vote.keys voted.keys key apart vote.stands voted.stands (inl (writes_of_it t e, voted.has)) first)

    -- and the other way round
    was_before : (t : TxParts) → IsIn (those_before tx (first_commits steps)) t → w t ≡ true → IsIn (commits_in then_facts) t
    was_before t h e = by_view (view facts t) refl (view_is facts t)
      where
        among : IsIn (first_commits steps) t × (tx ≢ t)
        among = in_before tx (first_commits steps) t h

        apart : t ≢ tx
        apart same = among.1 (sym same)

        vote : IsVoteFound facts t
        vote = written t e

        first : IsFirst t tx (first_commits steps)
        first = before_first tx (first_commits steps) t h

        not_after : IsFirst tx t (commits_in facts) → ⊥
        not_after after = one_way t tx (first_commits steps) apart first
            (ordered.first tx t voted.keys vote.keys key among.1 voted.stands vote.stands (inr (writes_of_it t e, voted.has)) after)

        by_own : (v : View) → view facts tx ≡ v → IsViewOf facts tx v → is_prepared_view (view facts t) ≡ true
            → ¬ IsIn (commits_in facts) t → ⊥
        by_own views.Working is shows prepared none = shows.0 votes.Prepared (voted.keys, voted.stands)
        by_own views.Aborted is shows prepared none = voted.unaborted is
        by_own views.Committed is shows prepared none =
            not_after (first_alone tx t (commits_in facts) (stored_commit facts tx shows.0) none)
        by_own views.Prepared is shows prepared none =
            let one : Bound = record { tx = t; keys = vote.keys } in
            let own : Bound = record { tx = tx; keys = voted.keys } in
            (bound_apart config rm facts is_sound.played).apart one own
            (stored_bound facts one (record { voted = vote.stands; prepared = prepared }))
            (stored_bound facts own (record { voted = voted.stands; prepared = ap is_prepared_view is })) apart key
            (writes_of_it t e) voted.has

        by_view : (v : View) → view facts t ≡ v → IsViewOf facts t v → IsIn (commits_in then_facts) t
        by_view views.Working is shows = absurd (shows.0 votes.Prepared (vote.keys, vote.stands))
        by_view views.Aborted is shows = absurd (unaborted t among.0
            (voted_named config rm facts is_sound.played t votes.Prepared (vote.keys, vote.stands)) is)
        by_view views.Prepared is shows =
            absurd (by_own (view facts tx) refl (view_is facts tx) (ap is_prepared_view is) (λ k. shows.1 (commit_stored facts t k)))
        by_view views.Committed is shows =
            subst (λ (txs : List TxParts). IsIn txs t) (sym (tables.commits_are config here.read.last.before before rm then_run))
            (voted.others t vote.keys among.1 vote.stands (writes_of_it t e) (stored_commit facts t shows.0) not_after)

    same_writers : filter w (commits_in then_facts) ≡ filter w (those_before tx (first_commits steps))
    same_writers = same_order (filter w (commits_in then_facts)) (filter w (those_before tx (first_commits steps)))
        (once_filter w (commits_in then_facts) then_ordered.once)
        (once_filter w (those_before tx (first_commits steps)) (once_before tx (first_commits steps) (firsts_once steps)))
        (λ t h. let passes = filter_kept w (commits_in then_facts) t h in
        filter_keeps w (those_before tx (first_commits steps)) t (stands_before t passes.0 passes.1) passes.1)
        (λ t h. let passes = filter_kept w (those_before tx (first_commits steps)) t h in
        filter_keeps w (commits_in then_facts) t (was_before t passes.0 passes.1) passes.1)
        (λ a b h k apart first.
        let one = filter_kept w (commits_in then_facts) a h in
        let two = filter_kept w (commits_in then_facts) b k in
        let here_first = subst (IsFirst a b) (sym commits_more) (first_more a b (commits_in then_facts) (commits_in here.more)
        (sym (first_filtered w a b (commits_in then_facts) one.1 two.1) ∙ first)) in
        let in_firsts = tables.writers_ordered config world steps rm run key a b (still a one.0)
        (still b two.0) apart one.1 two.1 here_first in
        first_filtered w a b (those_before tx (first_commits steps)) one.1 two.1
        ∙ first_those tx a b (first_commits steps) (stands_before a one.0 one.1) in_firsts)

    -- the votes of those that were committed then are the same
    same_keys : (t : TxParts) → IsIn (commits_in then_facts) t → keys_voted then_facts t ≡ keys_voted facts t
    same_keys t h = by_found (find p (filter_map branch_bound_by then_facts)) refl
      where
        p : Bound → Bool
        p b = tx_eq t b.tx

        more_votes : filter_map branch_bound_by facts ≡ filter_map branch_bound_by then_facts ++ filter_map branch_bound_by here.more
        more_votes = ap (filter_map branch_bound_by) here.grown ∙ filter_map-append branch_bound_by then_facts here.more

        by_found : (o : Option Bound) → find p (filter_map branch_bound_by then_facts) ≡ o → keys_voted then_facts t ≡ keys_voted facts t
        by_found (Some b) e = ap (λ (o : Option Bound). option_map_or (λ c. c.keys) o []) (e
            ∙ sym (ap (find p) more_votes ∙ find_more p (filter_map branch_bound_by then_facts) (filter_map branch_bound_by here.more) b e))
        by_found None e =
            let vote = (tables.found config here.read.last.before before rm then_run t h) in
            absurd (looked_up_not then_facts t vote.keys vote.stands e)

    value_same : (txs : List TxParts) (value : Option (List ℕ))
        → ((t : TxParts) → IsIn txs t → keys_voted then_facts t ≡ keys_voted facts t)
        → tables.value_by config here.read.last.before before rm then_run key txs value
        ≡ tables.value_by config world steps rm run key txs value
    value_same [] value each = refl
    value_same (t ∷ txs) value each =
        value_same txs (value_after (act_on (keys_voted then_facts t) key) value) (λ u h. each u (inr h))
        ∙ ap (λ (ks : List Touched). tables.value_by config world steps rm run key txs (value_after (act_on ks key) value))
        (each t (inl refl))

    -- the serial run, at the key
    serial_value : (txs : List TxParts) (rows : List Row) → AscendRows rows → ((t : TxParts) → IsIn txs t → IsIn (first_commits steps) t)
        → row_at (fold (λ before_it t. with_writes before_it (writes_of rm steps t)) rows txs) key
        ≡ tables.value_by config world steps rm run key txs (row_at rows key)
    serial_value [] rows are each = refl
    serial_value (t ∷ txs) rows are each =
        serial_value txs (with_writes rows (writes_of rm steps t)) (writes_ascend rows (writes_of rm steps t) are) (λ u h. each u (inr h))
        ∙ ap (tables.value_by config world steps rm run key txs)
        (tables.written_value config world steps rm run key t rows are (each t (inl refl)))

    read_serial : step.answer ≡ get_answer (serial_read (first_rows config rm) rm steps before tx x key)
    read_serial =
        get_answered config rm x key (manager_in config here.read.last.before rm) (manager_in config here.then_world rm) step before
        (sound config here.read.last.before before rm then_run) (told_ever config here.read.last.before before rm then_run)
        (kept_ever config here.read.last.before before rm then_run) does here.read.get tx name early
        (tables.commits_are config here.read.last.before before rm then_run)
        ∙ ap (λ (o : Option (List ℕ)). get_answer (value_after (last_act_on (writes_in (actions_since_start rm x before)) key) o)) same_row
      where
        rows : List Row
        rows = fold put_row [] (first_rows config rm)

        are : AscendRows rows
        are = first_ascend [] (first_rows config rm) tt

        same_row : row_at (table (first_rows config rm) then_facts) key
            ≡ row_at (serial_table (first_rows config rm) rm steps (those_before tx (first_commits steps))) key
        same_row =
            tables.rows_value config here.read.last.before before rm then_run key (commits_in then_facts) rows are
            (tables.ascending config here.read.last.before before rm then_run)
            ∙ value_same (commits_in then_facts) (row_at rows key) same_keys
            ∙ tables.only_writers config world steps rm run key (commits_in then_facts) (row_at rows key)
            ∙ ap (λ (txs : List TxParts). tables.value_by config world steps rm run key txs (row_at rows key)) same_writers
            ∙ sym (tables.only_writers config world steps rm run key (those_before tx (first_commits steps)) (row_at rows key))
            ∙ sym (serial_value (those_before tx (first_commits steps)) rows are (λ t h. (in_before tx (first_commits steps) t h).0))

-- at any place of a run
pub reads_serial : (config : Config) (world : World) (steps later before : List Step) (step : Step) (rm : ℕ) (x : XidParts) (tx : TxParts)
    (key : List ℕ) → IsRun config world steps → steps ≡ later ++ step ∷ before → call_done rm x step.event step.answer ≡ Some (Get key)
    → list_any is_start (filter_map (done_at rm x) later) ≡ false → xid_at tx rm ≡ Some x → IsIn (first_commits steps) tx
    → step.answer ≡ get_answer (serial_read (first_rows config rm) rm steps before tx x key)
reads_serial config world steps later before step rm x tx key run is does none name h =
    let run_there = subst (IsRun config world) is run in
    let here = since config rm x tx name key step before does later world run_there none in
    read_serial config rm x tx name key step before does world steps run h
    (subst (IsSince config rm x tx name key step before does world) (sym is) here)
