-- What came of an event where each node has a floor, and the notices that it told, are what lines of a trace may tell.
use Rattle.std.proofs.Common.{◌≡◌, inl, inr, ℕ, zero, suc, ◌+◌, ◌<◌, ◌≤◌, ◌^◌, Bool, true, false, if◌then◌else◌, List, [], ◌∷◌, length, map}
use Rattle.std.proofs.Common.{Option, Some, None, refl, sym, ap, subst, arith}
use Rattle.std.specs.List.{AllByRecursion, range_with_len}
use Rattle.xid.specs.Places.{Place}
use Rattle.ballot.specs.Greatest.{IsIn}
use Rattle.safety.specs.Vocabulary.{A, Ask, Deliver, Event, Hear, L, Lose, NodeId, R, Raise, Replace, Request}
use Rattle.protocol.specs.Effects.{Config}
use Rattle.protocol.specs.Nodes.{NodeState, Asked, Fault, NoMemoryBefore, first_rows}
use Rattle.protocol.specs.Worlds.{datagram_at, node_at, world_step}
use Rattle.protocol.proofs.Lists.{IsIn-append, IsIn-mapped}
use Rattle.safety.specs.Forms as forms
use Rattle.safety.specs.Forms.{IsSized}
use Rattle.safety.proofs.WellFormed.Runs.{well_ever}
use Rattle.floors.specs.Nodes.{forgotten_answer, on_raise}
use Rattle.floors.specs.Worlds as floored
use Rattle.floors.specs.Worlds.{FlooredResult, FlooredWorld, Machine, Notice, floored_if_found, floored_step, is_done}
use Rattle.floors.specs.Worlds.{machine_part, notices_of, raise_result, step_with_floors, told_from, told_nodes}
use Rattle.floors.specs.Runs.{is_lost, passes_over}
use Rattle.floors.proofs.Steps.{lost_event, same_event, unasked_event}
use Rattle.cluster_run.proofs.Floored.{hear_silent, raise_silent, replace_silent, untold_heard, untold_replaced}
use Rattle.net_script.specs.Events.{IsFloor, IsNode}
use Rattle.net_script.specs.TraceLines.{IsNotice}
use Rattle.run_traces.specs.Machine.{IsLimited}
use Rattle.run_traces.proofs.Floors.{IsGood, hear_small, over_told, quiet_told, raise_small, replace_small, rise_named}
use Rattle.run_traces.proofs.Formed.{IsFormed}
use Rattle.run_traces.proofs.Rows.{KeepLimits}
use Rattle.run_traces.proofs.Steps.{IsTold, happens_told, number_below, silent}

module _ (config : Config) (sized : IsSized config) (limits : IsLimited config) (first : (rm : ℕ) → KeepLimits (first_rows config rm))
    (world : FlooredWorld) (good : IsGood config world) where
  abbrev Told : FlooredResult → Type 0
  Told result = IsTold (length world.machine.net) (machine_part result)

  -- what the machine makes of an event
  in_machine_told : (event : Event) (fault : Fault) → forms.IsEvent event
      → IsTold (length world.machine.net) (world_step config world.machine event fault)
  in_machine_told event fault is =
      happens_told config limits first world.machine (well_ever config sized world.machine good.reached) event fault is
      (well_ever config sized (world_step config world.machine event fault).world
      (forms.After world.machine event fault is good.reached))

  alone_told : (event : Event) (fault : Fault) → forms.IsEvent event
      → machine_part (floored_step config world (Machine event) fault) ≡ world_step config world.machine event fault
      → Told (floored_step config world (Machine event) fault)
  alone_told event fault is same = subst (IsTold (length world.machine.net)) (sym same) (in_machine_told event fault is)

  asked_told : (who : NodeId) (request : Request) (fault : Fault) → forms.IsEvent (Ask who request) → (over : Bool)
      → passes_over config world who (Asked request) ≡ over → Told (floored_step config world (Machine (Ask who request)) fault)
  asked_told who request fault is false e =
      alone_told (Ask who request) fault is
      (same_event config world (Ask who request) fault (ap (λ (t : Bool). if t then [] else Ask who request ∷ []) e))
  asked_told who request NoMemoryBefore is true e = silent (length world.machine.net) world.machine _ refl tt
  asked_told who request fault is true e =
      subst Told (sym (unasked_event config world who request fault e))
      (silent (length world.machine.net) world.machine (forgotten_answer (Asked request)) refl (over_told request))

  delivered_told : (n : ℕ) (fault : Fault) (lost : Bool) → is_lost config world (datagram_at world.machine.net n) ≡ lost
      → Told (floored_step config world (Machine (Deliver n)) fault)
  delivered_told n fault false e =
      alone_told (Deliver n) fault tt
      (same_event config world (Deliver n) fault (ap (λ (t : Bool). (if t then Lose n else Deliver n) ∷ []) e))
  delivered_told n fault true e =
      subst (IsTold (length world.machine.net)) (sym (lost_event config world n fault e)) (in_machine_told (Lose n) fault tt)

  pub event_told : (event : Event) (fault : Fault) → IsFormed event → Told (step_with_floors config world event fault)
  event_told (Ask who request) fault is =
      asked_told who request fault is (passes_over config world who (Asked request)) refl
  event_told (Deliver n) fault is = delivered_told n fault (is_lost config world (datagram_at world.machine.net n)) refl
  event_told (Raise rm place) fault is =
      quiet_told world (floored_step config world (floored.Raise (R rm) place) fault) (raise_silent config world rm place fault)
      (raise_small config world rm place fault)
  event_told (Hear zero) fault is = alone_told (Hear zero) fault tt (same_event config world (Hear zero) fault refl)
  event_told (Hear (suc n)) fault is =
      quiet_told world (floored_step config world (floored.Hear n) fault) (hear_silent config world n fault)
      (hear_small config world n fault)
  event_told (Replace who place) fault is =
      quiet_told world (floored_step config world (floored.Replace who place) fault) (replace_silent config world who place fault)
      (replace_small config world who place fault)
  event_told event fault is = alone_told event fault is (same_event config world event fault refl)

-- ---- notices

-- those of numbers below 2^32, of whom and to whom words can name
notices_are : (first : ℕ) (notices : List Notice) → first + length notices ≤ 2 ^ 32
    → ((notice : Notice) → IsIn notices notice → (notice.manager < 256) × IsNode notice.receiver × IsFloor notice.place)
    → AllByRecursion IsNotice (told_from first notices)
notices_are first [] few are = tt
notices_are first (notice ∷ notices) few are =
    let named = are notice (inl refl) in (
      record { number = omega (arith, few); manager = named.0; receiver = named.1; floor = named.2 },
      notices_are (suc first) notices (omega (arith, few)) (λ other h. are other (inr h)),
    )

module _ (config : Config) (limits : IsLimited config) where
  told_named : (who : NodeId) → IsIn (told_nodes config) who → IsNode who
  told_named who h =
      elim (IsIn-append (map A (range_with_len 0 config.acceptors)) (map L (range_with_len 0 config.leaders)) who h) [
        | inl acceptor ↦
            let at = IsIn-mapped A (range_with_len 0 config.acceptors) who acceptor in
            let below = number_below 0 config.acceptors at.source at.among in
            let named : IsNode (A at.source) = omega (arith, below, limits.acceptors) in
            subst IsNode at.maps named
        | inr leader ↦
            let at = IsIn-mapped L (range_with_len 0 config.leaders) who leader in
            let below = number_below 0 config.leaders at.source at.among in
            let named : IsNode (L at.source) = omega (arith, below, limits.leaders) in
            subst IsNode at.maps named
      ]

  floor_notices : (first rm : ℕ) → rm < 256 → (floor : Option Place) → ((place : Place) → floor ≡ Some place → IsFloor place)
      → first + length (notices_of config rm floor) ≤ 2 ^ 32 → AllByRecursion IsNotice (told_from first (notices_of config rm floor))
  floor_notices first rm named None floors few = tt
  floor_notices first rm named (Some place) floors few =
      let made : NodeId → Notice = λ (who : NodeId). record { manager = rm; receiver = who; place = place } in
      notices_are first (map made (told_nodes config)) few (λ notice h.
      let at = IsIn-mapped made (told_nodes config) notice h in
      subst (λ (n : Notice). (n.manager < 256) × IsNode n.receiver × IsFloor n.place) at.maps
      (named, told_named at.source at.among, floors place refl))

  module _ (world : FlooredWorld) (good : IsGood config world) where
    abbrev AreTold : FlooredResult → Type 0
    AreTold result = length world.notices + length result.noticed < 2 ^ 32
        → AllByRecursion IsNotice (told_from (suc (length world.notices)) result.noticed)

    none_told : (result : FlooredResult) → result.noticed ≡ [] → AreTold result
    none_told result none few =
        subst (λ (notices : List Notice). AllByRecursion IsNotice (told_from (suc (length world.notices)) notices)) (sym none) tt

    raise_notices : (rm : ℕ) (place : Place) (fault : Fault) → IsFormed (Raise rm place)
        → AreTold (floored_step config world (floored.Raise (R rm) place) fault)
    raise_notices rm place NoMemoryBefore is few = tt
    raise_notices rm place fault is few = by_found (node_at config world.machine (R rm)) few
      where
        by_found : (o : Option NodeState) → AreTold (floored_if_found world (λ node.
            raise_result config world rm (on_raise (world.floor (R rm)) node place fault)) o)
        by_found None few = tt
        by_found (Some node) few =
            let rise = on_raise (world.floor (R rm)) node place fault in
            by_done (is_done rise.answer) few
          where
            by_done : (done : Bool)
                → length world.notices
                + length (if done then notices_of config rm (on_raise (world.floor (R rm)) node place fault).floor else []) < 2 ^ 32
                → AllByRecursion IsNotice (told_from (suc (length world.notices))
                (if done then notices_of config rm (on_raise (world.floor (R rm)) node place fault).floor else []))
            by_done true few =
                floor_notices (suc (length world.notices)) rm is.0 (on_raise (world.floor (R rm)) node place fault).floor
                (λ at e. rise_named config world good.floors rm node place fault is.1 at e) (omega (arith, few))
            by_done false few = tt

    machine_untold : (event : Event) (fault : Fault) → (floored_step config world (Machine event) fault).noticed ≡ []
    machine_untold event NoMemoryBefore = refl
    machine_untold event fault = refl

    pub notices_told : (event : Event) (fault : Fault) → IsFormed event → AreTold (step_with_floors config world event fault)
    notices_told (Raise rm place) fault is = raise_notices rm place fault is
    notices_told (Hear zero) fault is = none_told (step_with_floors config world (Hear zero) fault) (machine_untold (Hear zero) fault)
    notices_told (Hear (suc n)) fault is =
        none_told (floored_step config world (floored.Hear n) fault) (untold_heard config world n fault)
    notices_told (Replace who place) fault is =
        none_told (floored_step config world (floored.Replace who place) fault) (untold_replaced config world who place fault)
    notices_told event fault is = none_told (floored_step config world (Machine event) fault) (machine_untold event fault)
