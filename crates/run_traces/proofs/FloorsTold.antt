-- The floors that an auditor reads off the lines of a run are at most those that its nodes have. So no step takes part below one.
use Rattle.std.proofs.Common.{◌≡◌, inl, inr, ◌∙◌, ℕ, zero, suc, Bool, true, false, not, if◌then◌else◌, List, []}
use Rattle.std.proofs.Common.{length, map, Option, Some, None, refl, sym, ap, subst, arith}
use Rattle.std.specs.Prelude.{fold, slice_get}
use Rattle.std.specs.List.{range_with_len}
use Rattle.std.specs.Option.{option_map_or}
use Rattle.std.proofs.lemmas.Bool.{and_from, both_ways, cond_both, not-true}
use Rattle.std.proofs.lemmas.List.Sums.{fold-append}
use Rattle.xid.specs.Places.{Place, is_lower}
use Rattle.xid.specs.declared.refusals.Refusal.TheVariants.{Down, NoSuch}
use Rattle.xid.proofs.Places.{not_below_none, not_lower, not_lower_self}
use Rattle.ballot.specs.Greatest.{IsIn}
use Rattle.protocol.specs.declared.events.Told.{Told}
use Rattle.safety.specs.Vocabulary.{A, Answer, Done, Event, Hear, L, NodeId, R, Raise, Refused, Replace, Restart, Step}
use Rattle.protocol.specs.Effects.{Config}
use Rattle.protocol.specs.Nodes.{NodeState, Fault, NoMemoryAt, NoMemoryBefore, Outcome, RecordFails, all_play, restart_outcome}
use Rattle.protocol.specs.Worlds.{StepResult, if_found, node_at, outcome_result, set_node}
use Rattle.protocol.proofs.Lists.{IsIn-append, IsIn-mapped}
use Rattle.safety.proofs.World.NodePlaces.{node_there}
use Rattle.safety.proofs.World.Events.{slice_among as among}
use Rattle.floors.specs.Nodes.{Rise, floor_after, is_unread, kept_rise, may_replace, not_put_in, on_least, on_raise, risen}
use Rattle.floors.specs.Runs.{floored_opening}
use Rattle.floors.specs.Worlds as floored
use Rattle.floors.specs.Worlds.{FlooredResult, FlooredWorld, Machine, Notice, floored_answer, floored_if_found, floored_step}
use Rattle.floors.specs.Worlds.{floored_step_of, hear_at, hear_result, is_done, is_manager, least_told, nothing_told, notices_of}
use Rattle.floors.specs.Worlds.{raise_result, replace_result, step_with_floors, told_from, told_nodes, told_with, with_entry, with_rise}
use Rattle.floors.specs.Worlds.{with_told_lost}
use Rattle.floors.proofs.Order.{higher_bound}
use Rattle.floors.proofs.Rising.{entry_by, entry_own, least_rise, never_sinks, not_sunk, raise_is}
use Rattle.audit.specs.Floors as audit
use Rattle.audit.specs.Floors.{FloorsTold, floors_back, floors_by, no_floors, or_newer, stays_above, with_forgotten, with_heard}
use Rattle.audit.specs.Floors.{with_raised, with_replaced}
use Rattle.audit.specs.Told.{each_step}
use Rattle.cluster.proofs.Noticed.{event_adds}
use Rattle.cluster_run.proofs.Floored.{AtFirst, IsFlooredRun, Then, untold_heard, untold_replaced}
use Rattle.cluster_run.proofs.Raised.{raise_said}
use Rattle.run_traces.proofs.AboveFloors.{step_above, step_lower}
use Rattle.run_traces.proofs.AtMost.{IsAtMost, as_told, least_most, node_is, self_node, told_most, told_rises}
use Rattle.run_traces.proofs.Numbered.{heard_at, told_from_both}
use Rattle.run_traces.proofs.Up.{is_up, stays_up, up_in}

-- an event tells nothing of itself
same_notices : (managers : ℕ) (event : Event) (answer : Answer) (tale : FloorsTold)
    → (floors_by managers event answer tale).notice ≡ tale.notice
same_notices managers (Raise rm to) answer tale =
    cond_both (audit.is_done answer) (with_raised tale (R rm) to) tale (λ (t : FloorsTold). t.notice ≡ tale.notice) (λ done. refl)
    (λ other. refl)
same_notices managers (Hear number) answer tale =
    cond_both (audit.is_done answer) (option_map_or (with_heard managers tale) (tale.notice number) tale) tale
    (λ (t : FloorsTold). t.notice ≡ tale.notice) (λ done. by_found (tale.notice number)) (λ other. refl)
  where
    by_found : (o : Option Told) → (option_map_or (with_heard managers tale) o tale).notice ≡ tale.notice
    by_found None = refl
    by_found (Some notice) = refl
same_notices managers (Restart who) answer tale =
    cond_both (audit.is_no_such answer) tale (with_forgotten tale who) (λ (t : FloorsTold). t.notice ≡ tale.notice) (λ none. refl)
    (λ some. refl)
same_notices managers (Replace who to) answer tale =
    cond_both (audit.is_done answer) (with_replaced tale who to) tale (λ (t : FloorsTold). t.notice ≡ tale.notice) (λ done. refl)
    (λ other. refl)
same_notices managers event answer tale = refl

-- ---- what is read is at most what is so

-- of floors, and of what nodes that are up were told. One that couldn't be replaced may have forgotten that, of which no line tells; it is
-- down then
record IsBounded (up : NodeId → Bool) (floor : NodeId → Option Place) (said : NodeId → ℕ → Option Place) (tale : FloorsTold) : Type 0 where
  floor_is : (who : NodeId) → IsAtMost (tale.floor who) (floor who)
  told_is : (who : NodeId) (rm : ℕ) → up who ≡ true → IsAtMost (tale.told who rm) (said who rm)

done_is : (answer : Answer) → audit.is_done answer ≡ true → is_done answer ≡ true
done_is Done e = refl
done_is answer e = absurd (cc (e))

-- a floor that was to be the least that was told, and was done, is no lower
least_reached : (floor : Option Place) (node : NodeState) (least : Option Place) (fault : Fault)
    → audit.is_done (on_least floor node least fault).answer ≡ true → IsAtMost least (on_least floor node least fault).floor
least_reached floor node None fault done = not_below_none floor
least_reached floor node (Some to) fault done =
    cond_both (is_lower floor (Some to)) (risen floor node to fault) (kept_rise floor node Done)
    (λ (rise : Rise). audit.is_done rise.answer ≡ true → IsAtMost (Some to) rise.floor) (λ less. by_fault fault) (λ more was. more) done
  where
    by_fault : (f : Fault) → audit.is_done (risen floor node to f).answer ≡ true → IsAtMost (Some to) (risen floor node to f).floor
    by_fault NoMemoryAt was = absurd (cc (was))
    by_fault (RecordFails whole) was = absurd (cc (was))
    by_fault f was = not_lower_self (Some to)

module _ (config : Config) (who : NodeId) (node : NodeState) where
  -- a restart is never answered that there is no such node
  restart_answer : (fault : Fault) → audit.is_no_such (restart_outcome config who node fault).answer ≡ false
  restart_answer NoMemoryAt = refl
  restart_answer (RecordFails whole) = refl
  restart_answer fault =
      cond_both (all_play config who [] node.facts) _ _ (λ (left : Outcome). audit.is_no_such left.answer ≡ false) (λ plays. refl)
      (λ damaged. refl)

  -- one that isn't done leaves the node down
  undone_down : (fault : Fault) → audit.is_done (restart_outcome config who node fault).answer ≡ false
      → (restart_outcome config who node fault).node.up ≡ false
  undone_down NoMemoryAt e = refl
  undone_down (RecordFails whole) e = refl
  undone_down fault e =
      cond_both (all_play config who [] node.facts) _ _ (λ (left : Outcome). audit.is_done left.answer ≡ false → left.node.up ≡ false)
      (λ plays was. absurd (cc (was))) (λ damaged was. refl) e

  -- a blank node stands there, with its floor, where that is done
  done_reached : (floor : Option Place) (to : Place) (fault : Fault) → audit.is_done (restart_outcome config who node fault).answer ≡ true
      → IsAtMost (Some to) (floor_after floor to fault)
  done_reached floor to NoMemoryAt e = absurd (cc (e))
  done_reached floor to (RecordFails whole) e = absurd (cc (e))
  done_reached floor to fault e = not_lower_self (Some to)

  -- where none may, that isn't done
  unput_undone : (fault : Fault) → audit.is_done (not_put_in config who node fault) ≡ false
  unput_undone NoMemoryAt = cond_both (not node.up) _ _ (λ (a : Answer). audit.is_done a ≡ false) (λ down. refl) (λ up. refl)
  unput_undone (RecordFails whole) =
      cond_both (not node.up) _ _ (λ (a : Answer). audit.is_done a ≡ false) (λ down. refl) (λ up. refl)
  unput_undone fault = refl

  -- and the node is down where that couldn't be told
  unread_down : (fault : Fault) → is_unread node fault ≡ true → node.up ≡ false
  unread_down NoMemoryAt e = not-true node.up e
  unread_down (RecordFails whole) e = not-true node.up e
  unread_down fault e = absurd (cc (e))

module _ (config : Config) (world : FlooredWorld) (tale : FloorsTold)
    (so : IsBounded (is_up config world.machine) world.floor world.told tale) where
  -- after an event that was answered so
  abbrev Bounds : Event → FlooredResult → Type 0
  Bounds event r =
      IsBounded (is_up config r.world.machine) r.world.floor r.world.told (floors_by config.managers event r.answer tale)

  -- no node came up
  abbrev StayUp : FlooredResult → Type 0
  StayUp r = (n : NodeId) → is_up config r.world.machine n ≡ true → is_up config world.machine n ≡ true

  -- none but one
  abbrev OthersStayUp : NodeId → FlooredResult → Type 0
  OthersStayUp who r = (n : NodeId) → (n ≡ who → ⊥) → is_up config r.world.machine n ≡ true → is_up config world.machine n ≡ true

  -- ---- a floor was to rise

  module _ (rm : ℕ) (to : Place) (fault : Fault) (node : NodeState) (up : NodeId → Bool)
      (stay : (n : NodeId) → up n ≡ true → is_up config world.machine n ≡ true) where
    abbrev rise : Rise
    rise = on_raise (world.floor (R rm)) node to fault

    abbrev risen_floor : NodeId → Option Place
    risen_floor = with_entry world.floor (R rm) rise.floor

    raised_rises : (who : NodeId) → IsAtMost (tale.floor who) (risen_floor who)
    raised_rises who =
        entry_by world.floor (R rm) rise.floor (IsAtMost (tale.floor who)) who
        (λ own. subst (λ (n : NodeId). IsAtMost (tale.floor n) rise.floor) (sym own)
        (not_lower (tale.floor (R rm)) (world.floor (R rm)) rise.floor (so.floor_is (R rm))
        (not_sunk (world.floor (R rm)) node _ rise (raise_is (world.floor (R rm)) node to fault))))
        (λ other. so.floor_is who)

    raised_bounds : (done : Bool) → audit.is_done rise.answer ≡ done
        → IsBounded up risen_floor world.told (if done then with_raised tale (R rm) to else tale)
    raised_bounds true e = record {
      floor_is = λ who.
          cond_both (audit.is_node (R rm) who) (audit.higher (tale.floor who) (Some to)) (tale.floor who)
          (λ (f : Option Place). IsAtMost f (risen_floor who))
          (λ own. higher_bound (tale.floor who) (Some to) (risen_floor who) (raised_rises who)
          (subst (λ (n : NodeId). IsAtMost (Some to) (risen_floor n)) (node_is (R rm) who own)
          (subst (IsAtMost (Some to)) (sym (entry_own world.floor (R rm) rise.floor))
          ((raise_said (world.floor (R rm)) node to fault).surely (done_is rise.answer e)))))
          (λ other. raised_rises who);
      told_is = λ who q now. so.told_is who q (stay who now);
    }
    raised_bounds false e = record { floor_is = raised_rises; told_is = λ who q now. so.told_is who q (stay who now) }

  abbrev rises : ℕ → Place → Fault → Option NodeState → FlooredResult
  rises rm to fault o = floored_if_found world (λ node. raise_result config world rm (on_raise (world.floor (R rm)) node to fault)) o

  raise_bounds : (rm : ℕ) (to : Place) (fault : Fault) → StayUp (floored_step config world (floored.Raise (R rm) to) fault)
      → Bounds (Raise rm to) (floored_step config world (floored.Raise (R rm) to) fault)
  raise_bounds rm to NoMemoryBefore stay = so
  raise_bounds rm to fault stay = by_found (node_at config world.machine (R rm)) stay
    where
      by_found : (o : Option NodeState) → StayUp (rises rm to fault o) → Bounds (Raise rm to) (rises rm to fault o)
      by_found None stay = so
      by_found (Some node) stay =
          raised_bounds rm to fault node (is_up config (rises rm to fault (Some node)).world.machine) stay
          (audit.is_done (on_raise (world.floor (R rm)) node to fault).answer) refl

  -- ---- a notice was heard

  module _ (number : ℕ) (fault : Fault) (notice : Notice) (node : NodeState) (was_up : is_up config world.machine notice.receiver ≡ true)
      (up : NodeId → Bool) (stay : (n : NodeId) → up n ≡ true → is_up config world.machine n ≡ true) where
    abbrev who : NodeId
    who = notice.receiver

    abbrev now_told : ℕ → Option Place
    now_told = told_with (world.told who) notice

    abbrev least : Option Place
    least = least_told config now_told

    abbrev least_rises : Rise
    least_rises = on_least (world.floor who) node least fault

    abbrev heard_floor : NodeId → Option Place
    heard_floor = with_entry world.floor who least_rises.floor

    abbrev heard_told : NodeId → ℕ → Option Place
    heard_told = with_entry world.told who now_told

    -- what was read of the least floor
    abbrev least_read : NodeId → Option Place
    least_read n = audit.least_told config.managers (audit.told_with (tale.told n) (as_told number notice))

    floor_rises : (n : NodeId) → IsAtMost (tale.floor n) (heard_floor n)
    floor_rises n =
        entry_by world.floor who least_rises.floor (IsAtMost (tale.floor n)) n
        (λ own. subst (λ (k : NodeId). IsAtMost (tale.floor k) least_rises.floor) (sym own)
        (not_lower (tale.floor who) (world.floor who) least_rises.floor (so.floor_is who)
        (not_sunk (world.floor who) node _ least_rises (least_rise (world.floor who) node least fault))))
        (λ other. so.floor_is n)

    more_told : (n : NodeId) (rm : ℕ) → up n ≡ true → IsAtMost (tale.told n rm) (heard_told n rm)
    more_told n rm now =
        entry_by world.told who now_told (λ (t : ℕ → Option Place). IsAtMost (tale.told n rm) (t rm)) n
        (λ own. subst (λ (k : NodeId). IsAtMost (tale.told k rm) (now_told rm)) (sym own)
        (told_rises (world.told who) notice rm (tale.told who rm) (so.told_is who rm was_up)))
        (λ other. so.told_is n rm (stay n now))

    floor_heard : audit.is_done least_rises.answer ≡ true
        → IsAtMost (audit.higher (tale.floor who) (least_read who)) (heard_floor who)
    floor_heard done =
        higher_bound (tale.floor who) (least_read who) (heard_floor who) (floor_rises who)
        (subst (IsAtMost (least_read who)) (sym (entry_own world.floor who least_rises.floor))
        (not_lower (least_read who) least least_rises.floor
        (least_most (audit.told_with (tale.told who) (as_told number notice)) now_told
        (told_most (tale.told who) (world.told who) (λ rm. so.told_is who rm was_up) number notice) (range_with_len 0 config.managers))
        (least_reached (world.floor who) node least fault done)))

    heard_bounds : (done : Bool) → audit.is_done least_rises.answer ≡ done
        → IsBounded up heard_floor heard_told (if done then with_heard config.managers tale (as_told number notice) else tale)
    heard_bounds true e = record {
      floor_is = λ n.
          cond_both (audit.is_node who n) (audit.higher (tale.floor n) (least_read n)) (tale.floor n)
          (λ (f : Option Place). IsAtMost f (heard_floor n))
          (λ own. subst (λ (k : NodeId). IsAtMost (audit.higher (tale.floor k) (least_read k)) (heard_floor k)) (node_is who n own)
          (floor_heard e))
          (λ other. floor_rises n);
      told_is = λ n rm now.
          cond_both (audit.is_node who n) (audit.told_with (tale.told n) (as_told number notice) rm) (tale.told n rm)
          (λ (f : Option Place). IsAtMost f (heard_told n rm))
          (λ own. subst (λ (k : NodeId). IsAtMost (audit.told_with (tale.told k) (as_told number notice) rm) (heard_told k rm))
          (node_is who n own)
          (subst (λ (t : ℕ → Option Place). IsAtMost (audit.told_with (tale.told who) (as_told number notice) rm) (t rm))
          (sym (entry_own world.told who now_told))
          (told_most (tale.told who) (world.told who) (λ q. so.told_is who q was_up) number notice rm)))
          (λ other. more_told n rm now);
    }
    heard_bounds false e = record { floor_is = floor_rises; told_is = more_told }

  module _ (n : ℕ) (named : tale.notice (suc n) ≡ option_map_or (λ notice. Some (as_told (suc n) notice)) (slice_get world.notices n) None)
      (others : (notice : Notice) → slice_get world.notices n ≡ Some notice → is_manager notice.receiver ≡ false) where
    -- where this is the notice, and its receiver
    abbrev HeardBounds : Option Told → FlooredResult → Type 0
    HeardBounds o r =
        StayUp r
        → IsBounded (is_up config r.world.machine) r.world.floor r.world.told
        (if audit.is_done r.answer then option_map_or (with_heard config.managers tale) o tale else tale)

    by_node : (fault : Fault) (notice : Notice) (o : Option NodeState) → node_at config world.machine notice.receiver ≡ o
        → HeardBounds (Some (as_told (suc n) notice)) (floored_if_found world (hear_result config world notice fault) o)
    by_node fault notice None stands stay = so
    by_node fault notice (Some node) stands stay =
        let told_now = told_with (world.told notice.receiver) notice in
        let rise_now = on_least (world.floor notice.receiver) node (least_told config told_now) fault in
        let heard = floored_answer (record (with_rise config world notice.receiver rise_now)
        { told = with_entry world.told notice.receiver told_now }) rise_now.answer in
        cond_both node.up heard (floored_answer world (Refused Down)) (HeardBounds (Some (as_told (suc n) notice)))
        (λ up still. heard_bounds (suc n) fault notice node (ap up_in stands ∙ up) (is_up config heard.world.machine) still
        (audit.is_done rise_now.answer) refl) (λ down still. so) stay

    by_notice : (fault : Fault) (o : Option Notice) → slice_get world.notices n ≡ o
        → HeardBounds (option_map_or (λ notice. Some (as_told (suc n) notice)) o None)
        (floored_if_found world (hear_at config world fault) o)
    by_notice fault None is stay = so
    by_notice fault (Some notice) is stay =
        subst (λ (manager : Bool). HeardBounds (Some (as_told (suc n) notice)) (if manager then floored_answer world Done
        else floored_if_found world (hear_result config world notice fault) (node_at config world.machine notice.receiver)))
        (sym (others notice is)) (by_node fault notice (node_at config world.machine notice.receiver) refl) stay

    hear_bounds : (fault : Fault) → StayUp (floored_step config world (floored.Hear n) fault)
        → Bounds (Hear (suc n)) (floored_step config world (floored.Hear n) fault)
    hear_bounds NoMemoryBefore stay = so
    hear_bounds fault stay =
        subst (λ (o : Option Told). HeardBounds o (floored_if_found world (hear_at config world fault) (slice_get world.notices n)))
        (sym named) (by_notice fault (slice_get world.notices n) refl) stay

  -- ---- a restart, or a blank node in the place of a lost one

  module _ (who : NodeId) where
    abbrev forgotten : NodeId → ℕ → Option Place
    forgotten = with_entry world.told who nothing_told

    -- what was told is forgotten in the world, where the node isn't up
    none_forgotten : (up : NodeId → Bool) → ((n : NodeId) → (n ≡ who → ⊥) → up n ≡ true → is_up config world.machine n ≡ true)
        → up who ≡ false → (n : NodeId) (rm : ℕ) → up n ≡ true → IsAtMost (tale.told n rm) (forgotten n rm)
    none_forgotten up stay down n rm now =
        entry_by world.told who nothing_told (λ (t : ℕ → Option Place). IsAtMost (tale.told n rm) (t rm)) n
        (λ own. absurd (both_ways (up who) down (subst (λ (k : NodeId). up k ≡ true) own now)))
        (λ other. so.told_is n rm (stay n other now))

    -- or in what is read, whatever becomes of it in the world
    read_forgotten : (up : NodeId → Bool) → ((n : NodeId) → (n ≡ who → ⊥) → up n ≡ true → is_up config world.machine n ≡ true)
        → (said : NodeId → ℕ → Option Place) → ((n : NodeId) → (n ≡ who → ⊥) → said n ≡ world.told n)
        → (n : NodeId) (rm : ℕ) → up n ≡ true → IsAtMost ((with_forgotten tale who).told n rm) (said n rm)
    read_forgotten up stay said same n rm now =
        cond_both (audit.is_node who n) None (tale.told n rm) (λ (f : Option Place). IsAtMost f (said n rm))
        (λ own. not_below_none (said n rm))
        (λ other.
        let apart : n ≡ who → ⊥ =
        λ (e : n ≡ who). both_ways (audit.is_node who n) other
        (subst (λ (k : NodeId). audit.is_node who k ≡ true) (sym e) (self_node who)) in
        subst (λ (t : ℕ → Option Place). IsAtMost (tale.told n rm) (t rm)) (sym (same n apart)) (so.told_is n rm (stay n apart now)))

    others_told : (n : NodeId) → (n ≡ who → ⊥) → forgotten n ≡ world.told n
    others_told n apart =
        entry_by world.told who nothing_told (λ (t : ℕ → Option Place). t ≡ world.told n) n (λ own. absurd (apart own)) (λ other. refl)

    abbrev restarts : Fault → Option NodeState → StepResult
    restarts fault o =
        if_found world.machine (λ node.
        outcome_result config world.machine who node.facts (restart_outcome config who node fault)) o

    restart_bounds : (fault : Fault) → OthersStayUp who (floored_step config world (Machine (Restart who)) fault)
        → Bounds (Restart who) (floored_step config world (Machine (Restart who)) fault)
    restart_bounds NoMemoryBefore stay = record {
      floor_is = so.floor_is;
      told_is = read_forgotten (is_up config world.machine) stay world.told (λ n apart. refl);
    }
    restart_bounds fault stay = by_found (node_at config world.machine who) refl stay
      where
        by_found : (o : Option NodeState) → node_at config world.machine who ≡ o
            → ((n : NodeId) → (n ≡ who → ⊥) → is_up config (restarts fault o).world n ≡ true → is_up config world.machine n ≡ true)
            → IsBounded (is_up config (restarts fault o).world) world.floor forgotten
            (if audit.is_no_such (restarts fault o).answer then tale else with_forgotten tale who)
        by_found None none stay = record {
          floor_is = so.floor_is;
          told_is = none_forgotten (is_up config world.machine) stay (ap up_in none);
        }
        by_found (Some node) stands stay =
            subst (λ (none : Bool). IsBounded (is_up config (restarts fault (Some node)).world) world.floor forgotten
            (if none then tale else with_forgotten tale who)) (sym (restart_answer config who node fault))
            (record {
              floor_is = so.floor_is;
              told_is = read_forgotten (is_up config (restarts fault (Some node)).world) stay forgotten others_told;
            })

    module _ (to : Place) (fault : Fault) where
      -- where floors don't sink
      abbrev PutBounds : FlooredResult → Type 0
      PutBounds r = OthersStayUp who r → ((n : NodeId) → IsAtMost (tale.floor n) (r.world.floor n)) → Bounds (Replace who to) r

      module _ (node : NodeState) (stands : node_at config world.machine who ≡ Some node) where
        abbrev left : Outcome
        left = restart_outcome config who node fault

        abbrev put_floor : NodeId → Option Place
        put_floor = with_entry world.floor who (floor_after (world.floor who) to fault)

        abbrev now_up : NodeId → Bool
        now_up = is_up config (set_node config world.machine who left.node)

        put_by : (done : Bool) → audit.is_done left.answer ≡ done
            → ((n : NodeId) → (n ≡ who → ⊥) → now_up n ≡ true → is_up config world.machine n ≡ true)
            → ((n : NodeId) → IsAtMost (tale.floor n) (put_floor n))
            → IsBounded now_up put_floor forgotten (if done then with_replaced tale who to else tale)
        put_by true e stay high = record {
          floor_is = λ n.
              cond_both (audit.is_node who n) (audit.higher (tale.floor n) (Some to)) (tale.floor n)
              (λ (f : Option Place). IsAtMost f (put_floor n))
              (λ own. higher_bound (tale.floor n) (Some to) (put_floor n) (high n)
              (subst (λ (k : NodeId). IsAtMost (Some to) (put_floor k)) (node_is who n own)
              (subst (IsAtMost (Some to)) (sym (entry_own world.floor who (floor_after (world.floor who) to fault)))
              (done_reached config who node (world.floor who) to fault e))))
              (λ other. high n);
          told_is = read_forgotten now_up stay forgotten others_told;
        }
        put_by false e stay high = record {
          floor_is = high;
          told_is = none_forgotten now_up stay
              (ap up_in (node_there config world.machine who node left.node stands) ∙ undone_down config who node fault e);
        }

        unput_by : (unread : Bool) → (unread ≡ true → node.up ≡ false)
            → let lost = with_told_lost world who unread in IsBounded (is_up config lost.machine) lost.floor lost.told tale
        unput_by true down = record {
          floor_is = so.floor_is;
          told_is = none_forgotten (is_up config world.machine) (λ n apart now. now) (ap up_in stands ∙ down refl);
        }
        unput_by false down = so

        unput_bounds : PutBounds (floored_answer (with_told_lost world who (is_unread node fault)) (not_put_in config who node fault))
        unput_bounds stay high =
            let lost = with_told_lost world who (is_unread node fault) in
            subst (λ (done : Bool). IsBounded (is_up config lost.machine) lost.floor lost.told
            (if done then with_replaced tale who to else tale)) (sym (unput_undone config who node fault))
            (unput_by (is_unread node fault) (unread_down config who node fault))

      found_bounds : (o : Option NodeState) → node_at config world.machine who ≡ o
          → PutBounds (floored_if_found world (replace_result config world who to fault) o)
      found_bounds None none stay high = so
      found_bounds (Some node) stands stay high =
          cond_both (may_replace (world.floor who) node to) _ _ PutBounds
          (λ may. put_by node stands (audit.is_done (restart_outcome config who node fault).answer) refl)
          (λ used. unput_bounds node stands) stay high

    replace_bounds : (to : Place) (fault : Fault) → PutBounds to fault (floored_step config world (floored.Replace who to) fault)
    replace_bounds to NoMemoryBefore stay high = so
    replace_bounds to fault stay high =
        cond_both (is_manager who) (floored_answer world (Refused NoSuch))
        (floored_if_found world (replace_result config world who to fault) (node_at config world.machine who)) (PutBounds to fault)
        (λ manager still same. so) (λ other. found_bounds to fault (node_at config world.machine who) refl) stay high

-- ---- one event after another

-- what is read is at most what is so, and notices are those that were told, none of them a resource manager
record IsRead (config : Config) (world : FlooredWorld) (tale : FloorsTold) : Type 0 where
  bounded : IsBounded (is_up config world.machine) world.floor world.told tale
  noticed : (number : ℕ) → tale.notice number ≡ fold (or_newer number) None (told_from 1 world.notices)
  others : (notice : Notice) → IsIn world.notices notice → is_manager notice.receiver ≡ false

-- acceptors and leaders are told
told_other : (config : Config) (who : NodeId) → IsIn (told_nodes config) who → is_manager who ≡ false
told_other config who h =
    elim (IsIn-append (map A (range_with_len 0 config.acceptors)) (map L (range_with_len 0 config.leaders)) who h) [
      | inl acceptor ↦
          let at = IsIn-mapped A (range_with_len 0 config.acceptors) who acceptor in
          subst (λ (n : NodeId). is_manager n ≡ false) at.maps refl
      | inr leader ↦
          let at = IsIn-mapped L (range_with_len 0 config.leaders) who leader in
          subst (λ (n : NodeId). is_manager n ≡ false) at.maps refl
    ]

floor_told : (config : Config) (rm : ℕ) (floor : Option Place) (notice : Notice) → IsIn (notices_of config rm floor) notice
    → is_manager notice.receiver ≡ false
floor_told config rm None notice h = absurd h
floor_told config rm (Some to) notice h =
    let at = IsIn-mapped (λ (who : NodeId). record { manager = rm; receiver = who; place = to }) (told_nodes config) notice h in
    subst (λ (n : Notice). is_manager n.receiver ≡ false) at.maps (told_other config at.source at.among)

module _ (config : Config) (world : FlooredWorld) where
  abbrev TellsOthers : FlooredResult → Type 0
  TellsOthers r = (notice : Notice) → IsIn r.noticed notice → is_manager notice.receiver ≡ false

  raise_tells : (rm : ℕ) (to : Place) (fault : Fault) → TellsOthers (floored_step config world (floored.Raise (R rm) to) fault)
  raise_tells rm to NoMemoryBefore notice h = absurd h
  raise_tells rm to fault notice h = by_found (node_at config world.machine (R rm)) h
    where
      by_found : (o : Option NodeState) → IsIn (floored_if_found world (λ node.
          raise_result config world rm (on_raise (world.floor (R rm)) node to fault)) o).noticed notice
          → is_manager notice.receiver ≡ false
      by_found None h = absurd h
      by_found (Some node) h =
          let rise = on_raise (world.floor (R rm)) node to fault in
          cond_both (is_done rise.answer) (notices_of config rm rise.floor) []
          (λ (notices : List Notice). IsIn notices notice → is_manager notice.receiver ≡ false)
          (λ done. floor_told config rm rise.floor notice) (λ other none. absurd none) h

  machine_tells : (event : Event) (fault : Fault) → TellsOthers (floored_step config world (Machine event) fault)
  machine_tells event NoMemoryBefore notice h = absurd h
  machine_tells event fault notice h = absurd h

  tells_others : (event : Event) (fault : Fault) → TellsOthers (step_with_floors config world event fault)
  tells_others (Raise rm to) fault = raise_tells rm to fault
  tells_others (Hear zero) fault = machine_tells (Hear zero) fault
  tells_others (Hear (suc n)) fault = λ notice h.
      absurd (subst (λ (notices : List Notice). IsIn notices notice) (untold_heard config world n fault) h)
  tells_others (Replace who to) fault = λ notice h.
      absurd (subst (λ (notices : List Notice). IsIn notices notice) (untold_replaced config world who to fault) h)
  tells_others event fault = machine_tells event fault

module _ (config : Config) (world : FlooredWorld) (tale : FloorsTold) (read : IsRead config world tale) where
  -- an event that moves no floor, and after which no more nodes are up
  still_bounds : (up : NodeId → Bool) → ((n : NodeId) → up n ≡ true → is_up config world.machine n ≡ true)
      → IsBounded up world.floor world.told tale
  still_bounds up stay = record {
    floor_is = read.bounded.floor_is;
    told_is = λ n rm now. read.bounded.told_is n rm (stay n now);
  }

  event_bounds : (event : Event) (fault : Fault) → Bounds config world tale read.bounded event (step_with_floors config world event fault)
  event_bounds (Raise rm to) fault =
      raise_bounds config world tale read.bounded rm to fault
      (λ n now. stays_up config world n (Raise rm to) fault (λ e. absurd (cc (e))) (λ at e. absurd (cc (e))) now)
  event_bounds (Hear zero) NoMemoryBefore = read.bounded
  event_bounds (Hear zero) fault = read.bounded
  event_bounds (Hear (suc n)) fault =
      hear_bounds config world tale read.bounded n
      (read.noticed (suc n) ∙ heard_at (suc n) 1 n world.notices None (omega arith))
      (λ notice is. read.others notice (among world.notices n notice is)) fault
      (λ who now. stays_up config world who (Hear (suc n)) fault (λ e. absurd (cc (e))) (λ at e. absurd (cc (e))) now)
  event_bounds (Restart who) fault =
      restart_bounds config world tale read.bounded who fault
      (λ n apart now. stays_up config world n (Restart who) fault
      (λ e. let same : who ≡ n = cc (e) in apart (sym same)) (λ at e. absurd (cc (e))) now)
  event_bounds (Replace who to) fault =
      replace_bounds config world tale read.bounded who to fault
      (λ n apart now. stays_up config world n (Replace who to) fault (λ e. absurd (cc (e)))
      (λ at e. let same : who ≡ n = cc (e) in apart (sym same)) now)
      (λ n. not_lower (tale.floor n) (world.floor n) ((step_with_floors config world (Replace who to) fault).world.floor n)
      (read.bounded.floor_is n) (never_sinks config world (floored.Replace who to) fault n))
  event_bounds event NoMemoryBefore = read.bounded
  event_bounds event fault =
      still_bounds (is_up config (step_with_floors config world event fault).world.machine)
      (λ n now. stays_up config world n event fault (λ e. absurd (cc (e))) (λ at e. absurd (cc (e))) now)

  next_read : (event : Event) (fault : Fault) → let r = step_with_floors config world event fault in
      IsRead config r.world (audit.floors_after config.managers (floored_step_of world event r) tale)
  next_read event fault =
      let r = step_with_floors config world event fault in
      let bounds = event_bounds event fault in
      let adds = (event_adds config world event fault).noticed in
      record {
        bounded = record { floor_is = bounds.floor_is; told_is = bounds.told_is };
        noticed = λ number.
            let more = told_from (suc (length world.notices)) r.noticed in
            ap (λ (notice : ℕ → Option Told). fold (or_newer number) (notice number) more)
            (same_notices config.managers event r.answer tale)
            ∙ ap (λ (found : Option Told). fold (or_newer number) found more) (read.noticed number)
            ∙ sym (fold-append (or_newer number) None (told_from 1 world.notices) more)
            ∙ ap (fold (or_newer number) None)
            (sym (told_from_both 1 (suc (length world.notices)) world.notices r.noticed (omega arith)))
            ∙ sym (ap (λ (notices : List Notice). fold (or_newer number) None (told_from 1 notices)) adds);
        others = λ notice h. elim
            (IsIn-append world.notices r.noticed notice (subst (λ (notices : List Notice). IsIn notices notice) adds h)) [
              | inl old ↦ read.others notice old
              | inr new ↦ tells_others config world event fault notice new
            ];
      }

-- ---- whole runs

-- what is read of a run, and that none of its steps takes part below a floor
record StaysAbove (config : Config) (world : FlooredWorld) (steps : List Step) : Type 0 where
  read : IsRead config world (floors_back config.managers steps)
  stays : each_step (stays_above config.managers) steps ≡ true

opening_read : (config : Config) → IsRead config (floored_opening config) no_floors
opening_read config = record {
  bounded = record { floor_is = λ who. not_lower_self None; told_is = λ who rm up. not_lower_self None };
  noticed = λ number. refl;
  others = λ notice h. absurd h;
}

stay_above : (config : Config) (world : FlooredWorld) (steps : List Step) → IsFlooredRun config world steps
    → StaysAbove config world steps
stay_above config _ _ AtFirst = record { read = opening_read config; stays = refl }
stay_above config _ _ (Then world before event fault run) =
    let so = stay_above config world before run in
    let tale = floors_back config.managers before in
    let step = floored_step_of world event (step_with_floors config world event fault) in
    record {
      read = next_read config world tale so.read event fault;
      stays =
          and_from (each_step (stays_above config.managers) before) (stays_above config.managers before step) so.stays
          (step_lower world.floor tale.floor so.read.bounded.floor_is step (step_above config world event fault));
    }

-- the fifth question has the answer yes
pub all_above : (config : Config) (world : FlooredWorld) (steps : List Step) → IsFlooredRun config world steps
    → each_step (stays_above config.managers) steps ≡ true
all_above config world steps run = (stay_above config world steps run).stays
