-- Each run can be gone on with to the end of its commands, meeting no more faults: for a run that breaks off while it is printed.
use Rattle.std.proofs.Common.{◌≡◌, ◌∙◌, ℕ, zero, suc, ◌+◌, ◌-◌, ◌≤◌, ◌<◌, List, [], ◌∷◌, ◌++◌, length, length-append, Option, Some, None}
use Rattle.std.proofs.Common.{refl, sym, ap, subst, append_assoc, inl, inr, arith, ◌⊎◌, map, take, drop, get_or, take-append-drop}
use Rattle.std.specs.List.{flat_map}
use Rattle.std.proofs.lemmas.Grind.{flat_map-append, take_at_read}
use Rattle.safety.specs.Vocabulary.{Deliver, Event, Step}
use Rattle.cluster_run.specs.Happenings.{AreOfMemory, AreNext, IsFlow, IsDoneBy, AreDoneBy}
use Rattle.cluster_run.specs.Running.{lines_from}
use Rattle.cluster_run.proofs.Happening.{after_more, trace_more, memory_more}
use Rattle.protocol.specs.Effects.{Config}
use Rattle.protocol.specs.Nodes.{NoFault}
use Rattle.protocol.specs.Worlds.{Occurrence}
use Rattle.floors.specs.Worlds.{FlooredWorld, floored_trace, floored_world_after, step_with_floors}
use Rattle.network.specs.Networks.{least_unmarked}
use Rattle.net_script.specs.Traces.{step_text}
use Rattle.net_script.specs.declared.values.Command.{Command}
use Rattle.net_script.specs.declared.values.Command.TheVariants.{Do, Flow}

-- the lines of events and of more
pub lines_more : (config : Config) (world : FlooredWorld) (before more : List Occurrence)
    → lines_from config world (before ++ more)
    ≡ lines_from config world before ++ lines_from config (floored_world_after config world before) more
lines_more config world before more =
    ap (λ (steps : List Step). flat_map step_text steps) (trace_more config world before more)
    ∙ flat_map-append step_text (floored_trace config world before) (floored_trace config (floored_world_after config world before) more)

-- ---- flows

-- deliveries and more of them
pub next_on : (config : Config) (world : FlooredWorld) (before more : List Occurrence) → AreNext config world before
    → AreNext config (floored_world_after config world before) more → AreNext config world (before ++ more)
next_on config world [] more are then = then
next_on config world (first ∷ before) more are then =
    (are.0, next_on config (step_with_floors config world first.event first.fault).world before more are.1 then)

-- an event that meets no fault
abbrev unmet : Event → Occurrence
unmet event = record { event = event; fault = NoFault }

-- what a flow may come to
abbrev FlowsOn : Config → FlooredWorld → ℕ → Type 0
FlowsOn config world count = (happened : List Occurrence) × IsFlow config world count happened × AreOfMemory happened

flow_longer : (config : Config) (world : FlooredWorld) (count number : ℕ) → least_unmarked world.machine.net ≡ Some number
    → FlowsOn config (step_with_floors config world (Deliver number) NoFault).world count → FlowsOn config world (suc count)
flow_longer config world count number least (rest, flow, memory) = (
  unmet (Deliver number) ∷ rest,
  record {
    next = ((number, least, refl), flow.next);
    at_most = let few = flow.at_most in omega (arith, few);
    ends = longer flow.ends;
  },
  (tt, memory),
) where
  longer : (length rest ≡ count)
      ⊎ (least_unmarked (floored_world_after config (step_with_floors config world (Deliver number) NoFault).world rest).machine.net ≡ None)
      → (length (unmet (Deliver number) ∷ rest) ≡ suc count)
      ⊎ (least_unmarked (floored_world_after config world (unmet (Deliver number) ∷ rest)).machine.net ≡ None)
  longer (inl all) = inl (ap suc all)
  longer (inr none) = inr none

-- one that delivers the least datagram first, where there is one
flow_by : (config : Config) (world : FlooredWorld) (count : ℕ) (found : Option ℕ) → least_unmarked world.machine.net ≡ found
    → ((number : ℕ) → FlowsOn config (step_with_floors config world (Deliver number) NoFault).world count)
    → FlowsOn config world (suc count)
flow_by config world count None none next = ([], record { next = tt; at_most = omega arith; ends = inr none }, tt)
flow_by config world count (Some number) least next = flow_longer config world count number least (next number)

-- a flow can be made
pub flow_on : (config : Config) (world : FlooredWorld) (count : ℕ) → FlowsOn config world count
flow_on config world zero = ([], record { next = tt; at_most = omega arith; ends = inl refl }, tt)
flow_on config world (suc count) =
    flow_by config world count (least_unmarked world.machine.net) refl
    (λ number. flow_on config (step_with_floors config world (Deliver number) NoFault).world count)

-- some of its deliveries, and a flow of the others
pub flow_after : (config : Config) (world : FlooredWorld) (count made : ℕ) (before more : List Occurrence) → AreNext config world before
    → length before ≡ made → made ≤ count → IsFlow config (floored_world_after config world before) (count - made) more
    → IsFlow config world count (before ++ more)
flow_after config world count made before more next is few flow = record {
  next = next_on config world before more next flow.next;
  at_most = let at_most = flow.at_most in let both = length-append before more in omega (arith, is, few, at_most, both);
  ends = ends flow.ends;
} where
  ends : (length more ≡ count - made)
      ⊎ (least_unmarked (floored_world_after config (floored_world_after config world before) more).machine.net ≡ None)
      → (length (before ++ more) ≡ count) ⊎ (least_unmarked (floored_world_after config world (before ++ more)).machine.net ≡ None)
  ends (inl all) = inl (let both = length-append before more in omega (arith, is, few, all, both))
  ends (inr none) = inr (ap (λ (w : FlooredWorld). least_unmarked w.machine.net) (after_more config world before more) ∙ none)

-- ---- commands

-- a command can be carried out
pub command_on : (config : Config) (world : FlooredWorld) (command : Command)
    → (happened : List Occurrence) × IsDoneBy config world command happened × AreOfMemory happened
command_on config world (Do event) = (unmet event ∷ [], (NoFault, refl), (tt, tt))
command_on config world (Flow count) = flow_on config world count

-- all can be
pub commands_on : (config : Config) (world : FlooredWorld) (commands : List Command)
    → (happened : List Occurrence) × AreDoneBy config world commands happened × AreOfMemory happened
commands_on config world [] = ([], refl, tt)
commands_on config world (command ∷ commands) =
    let first = command_on config world command in
    let rest = commands_on config (floored_world_after config world first.0) commands in (
      first.0 ++ rest.0,
      (first.0, rest.0, refl, first.1, rest.1),
      memory_more first.0 rest.0 first.2 rest.2,
    )

-- commands and more of them
pub done_on : (config : Config) (world : FlooredWorld) (commands more : List Command) (before after : List Occurrence)
    → AreDoneBy config world commands before → AreDoneBy config (floored_world_after config world before) more after
    → AreDoneBy config world (commands ++ more) (before ++ after)
done_on config world [] more before after none then =
    subst (λ (os : List Occurrence). AreDoneBy config world more (os ++ after)) (sym none)
    (subst (λ (os : List Occurrence). AreDoneBy config (floored_world_after config world os) more after) none then)
done_on config world (first ∷ commands) more before after are then =
    let done = are.0 in
    let rest = are.1 in
    let at : FlooredWorld = floored_world_after config world done in
    let same : floored_world_after config world before ≡ floored_world_after config at rest =
    ap (floored_world_after config world) are.2 ∙ after_more config world done rest in (
      done,
      rest ++ after,
      ap (λ (os : List Occurrence). os ++ after) are.2 ∙ append_assoc done rest after,
      are.3,
      done_on config at commands more rest after are.4
          (subst (λ (w : FlooredWorld). AreDoneBy config w more after) same then),
    )

-- ---- a list that is gone through

same_items : {X : Type 0} (xs : List X) → map (λ x. x) xs ≡ xs
same_items [] = refl
same_items (x ∷ xs) = ap (λ ys. x ∷ ys) (same_items xs)

-- its front, the value after it, and the others
pub gone_through : {X : Type 0} (all xs : List X) (x : X) → map (λ y. y) xs ≡ take (length xs) all
    → (length xs < length all) × (x ≡ get_or all (length xs) x) → (xs ++ x ∷ []) ++ drop (length xs + 1) all ≡ all
gone_through {X} all xs x so_far (within, is) =
    ap (λ ys. ys ++ drop (length xs + 1) all)
    (sym
    ((take_at_read all (length xs) x within).1 ∙ ap (λ ys. ys ++ get_or all (length xs) x ∷ []) (sym so_far ∙ same_items xs)
    ∙ ap (λ (y : X). xs ++ y ∷ []) (sym is)))
    ∙ take-append-drop (length xs + 1) all
