-- Where no event meets a fault, a script's run is one.
use Rattle.std.proofs.Common.{◌≡◌, ◌∙◌, ◌⊎◌, inl, inr, ℕ, zero, suc, ◌≤◌, List, [], ◌∷◌, ◌++◌, length, Some, None, refl, sym, ap}
use Rattle.std.proofs.Common.{subst, arith}
use Rattle.safety.specs.Vocabulary.{Deliver, Event, Row}
use Rattle.net_script.proofs.DraftLemmas.{trace}
use Rattle.cluster_run.specs.Happenings.{AreUnmet, IsNext, AreNext, IsDoneBy, AreDoneBy}
use Rattle.cluster_run.specs.Runs.{IsRun}
use Rattle.cluster_run.specs.Traces.{config_of, IsTraceOf}
use Rattle.protocol.specs.Effects.{Config}
use Rattle.protocol.specs.Nodes.{Fault, NoFault}
use Rattle.protocol.specs.Worlds.{Occurrence}
use Rattle.floors.specs.Worlds.{FlooredWorld, floored_world_after, step_with_floors}
use Rattle.floors.specs.Runs.{floored_opening}
use Rattle.network.specs.Networks.{least_unmarked}
use Rattle.net_script.specs.declared.values.Command.{Command}
use Rattle.net_script.specs.declared.values.Command.TheVariants.{Do, Flow}
use Rattle.net_script.specs.declared.values.Entry.{Entry}
use Rattle.net_script.specs.declared.values.Script.{Script}
use Rattle.net_script.specs.declared.values.Sizes.{Sizes}
use Rattle.net_script.specs.declared.values.Table.{Table}
use Rattle.net_script.specs.declared.values.Trace.{Trace}
use Rattle.net_script.specs.Lines.{lines}
use Rattle.net_script.specs.Traces.{trace_text}
use Rattle.net_script.proofs.LawLemmas.{one_script}

same_occurrence : (one other : Occurrence) → one.event ≡ other.event → one.fault ≡ other.fault → one ≡ other
same_occurrence one other event fault =
    let with_event : Event → Occurrence = λ (e : Event). record { event = e; fault = one.fault } in
    let with_fault : Fault → Occurrence = λ (f : Fault). record { event = other.event; fault = f } in
    ap with_event event ∙ ap with_fault fault

same_next : (world : FlooredWorld) (one other : Occurrence) → IsNext world one → IsNext world other → one.fault ≡ NoFault
    → other.fault ≡ NoFault → one ≡ other
same_next world one other is then fault unmet =
    let e : Some is.0 ≡ Some then.0 = sym is.1 ∙ then.1 in
    let same : is.0 ≡ then.0 = cc (e) in
    same_occurrence one other (is.2 ∙ ap Deliver same ∙ sym then.2) (fault ∙ sym unmet)

-- ---- a flow

-- a flow ends: so many were delivered, or none is left
abbrev Ends : Config → FlooredWorld → ℕ → List Occurrence → Type 0
Ends config world count happened =
    (length happened ≡ count) ⊎ (least_unmarked (floored_world_after config world happened).machine.net ≡ None)

-- one that has ended can't go on
ended : (config : Config) (world : FlooredWorld) (count : ℕ) (next : Occurrence) (rest : List Occurrence) → Ends config world count []
    → IsNext world next → length (next ∷ rest) ≤ count → ⊥
ended config world count next rest (inl all) is within = omega (arith, all, within)
ended config world count next rest (inr none) is within =
    let e : Some is.0 ≡ None = sym is.1 ∙ none in absurd (cc (e))

less_ends : (config : Config) (world : FlooredWorld) (count : ℕ) (first : Occurrence) (rest : List Occurrence)
    → Ends config world (suc count) (first ∷ rest) → Ends config (step_with_floors config world first.event first.fault).world count rest
less_ends config world count first rest (inl all) = inl (omega (arith, all))
less_ends config world count first rest (inr none) = inr none

one_flow : (config : Config) (world : FlooredWorld) (count : ℕ) (one other : List Occurrence) → AreNext config world one
    → AreNext config world other → length one ≤ count → length other ≤ count → Ends config world count one → Ends config world count other
    → AreUnmet one → AreUnmet other → one ≡ other
one_flow config world count [] [] next then within below ends stops unmet free = refl
one_flow config world count [] (p ∷ other) next then within below ends stops unmet free =
    absurd (ended config world count p other ends then.0 below)
one_flow config world count (o ∷ one) [] next then within below ends stops unmet free =
    absurd (ended config world count o one stops next.0 within)
one_flow config world zero (o ∷ one) (p ∷ other) next then within below ends stops unmet free = absurd (omega (arith, within))
one_flow config world (suc count) (o ∷ one) (p ∷ other) next then within below ends stops unmet free =
    let same = same_next world o p next.0 then.0 unmet.0 free.0 in
    let at : Occurrence → FlooredWorld = λ (x : Occurrence). (step_with_floors config world x.event x.fault).world in
    let rest : AreNext config (at o) other = subst (λ (x : Occurrence). AreNext config (at x) other) (sym same) then.1 in
    let last : Ends config (at o) count other =
    subst (λ (x : Occurrence). Ends config (at x) count other) (sym same) (less_ends config world count p other stops) in
    ap (λ (x : Occurrence). x ∷ one) same
    ∙ ap (λ (xs : List Occurrence). p ∷ xs)
    (one_flow config (at o) count one other next.1 rest (omega (arith, within)) (omega (arith, below))
    (less_ends config world count o one ends) last unmet.1 free.1)

-- ---- commands

unmet_parts : (first rest : List Occurrence) → AreUnmet (first ++ rest) → AreUnmet first × AreUnmet rest
unmet_parts [] rest unmet = (tt, unmet)
unmet_parts (o ∷ first) rest unmet = let parts = unmet_parts first rest unmet.1 in ((unmet.0, parts.0), parts.1)

one_event : (event : Event) (fault unmet : Fault) (one other : List Occurrence) → one ≡ record { event = event; fault = fault } ∷ []
    → other ≡ record { event = event; fault = unmet } ∷ [] → AreUnmet one → AreUnmet other → one ≡ other
one_event event fault unmet one other is then free clear =
    let made : Fault → List Occurrence = λ (f : Fault). record { event = event; fault = f } ∷ [] in
    let first : fault ≡ NoFault = (subst AreUnmet is free).0 in
    let second : unmet ≡ NoFault = (subst AreUnmet then clear).0 in
    is ∙ ap made (first ∙ sym second) ∙ sym then

one_done : (config : Config) (world : FlooredWorld) (command : Command) (one other : List Occurrence) → IsDoneBy config world command one
    → IsDoneBy config world command other → AreUnmet one → AreUnmet other → one ≡ other
one_done config world (Do event) one other is then unmet free = one_event event is.0 then.0 one other is.1 then.1 unmet free
one_done config world (Flow count) one other is then unmet free =
    one_flow config world count one other is.next then.next is.at_most then.at_most is.ends then.ends unmet free

pub all_done : (config : Config) (world : FlooredWorld) (commands : List Command) (one other : List Occurrence)
    → AreDoneBy config world commands one → AreDoneBy config world commands other → AreUnmet one → AreUnmet other → one ≡ other
all_done config world [] one other is then unmet free = is ∙ sym then
all_done config world (command ∷ commands) one other is then unmet free =
    let parts = unmet_parts is.0 is.1 (subst AreUnmet is.2 unmet) in
    let pieces = unmet_parts then.0 then.1 (subst AreUnmet then.2 free) in
    let first : is.0 ≡ then.0 = one_done config world command is.0 then.0 is.3 then.3 parts.0 pieces.0 in
    let rest : is.1 ≡ then.1 =
    all_done config (floored_world_after config world is.0) commands is.1 then.1 is.4
    (subst (λ (os : List Occurrence). AreDoneBy config (floored_world_after config world os) commands then.1) (sym first) then.4) parts.1
    pieces.1 in
    is.2 ∙ ap (λ (os : List Occurrence). os ++ is.1) first ∙ ap (λ (os : List Occurrence). then.0 ++ os) rest ∙ sym then.2

-- ---- runs

one_trace : (s : Script) (happened : List Occurrence) (one other : Trace) → IsTraceOf s happened one → IsTraceOf s happened other
    → one ≡ other
one_trace s happened one other is then =
    ap (λ (sizes : Sizes). trace sizes one.tables one.entries one.finals) (is.sizes ∙ sym then.sizes)
    ∙ ap (λ (tables : List Table). trace other.sizes tables one.entries one.finals) (is.tables ∙ sym then.tables)
    ∙ ap (λ (entries : List Entry). trace other.sizes other.tables entries one.finals) (is.entries ∙ sym then.entries)
    ∙ ap (λ (finals : List (List Row)). trace other.sizes other.tables other.entries finals) (is.finals ∙ sym then.finals)

pub one_run : (bytes one other : List ℕ) (a : IsRun bytes one) (b : IsRun bytes other) → AreUnmet a.is.happened → AreUnmet b.is.happened
    → one ≡ other
one_run bytes one other a b unmet free =
    let script : b.script ≡ a.script = one_script (lines bytes) b.script a.script b.spelled a.spelled in
    let config = config_of a.script in
    let done : AreDoneBy config (floored_opening config) a.script.commands b.is.happened =
    subst (λ (s : Script). AreDoneBy (config_of s) (floored_opening (config_of s)) s.commands b.is.happened) script b.is.done in
    let happened : b.is.happened ≡ a.is.happened =
    all_done config (floored_opening config) a.script.commands b.is.happened a.is.happened done a.is.done free unmet in
    let is : IsTraceOf a.script a.is.happened b.is.trace =
    subst (λ (os : List Occurrence). IsTraceOf a.script os b.is.trace) happened
    (subst (λ (s : Script). IsTraceOf s b.is.happened b.is.trace) script b.is.is_trace) in
    a.is.text ∙ ap trace_text (one_trace a.script a.is.happened a.is.trace b.is.trace a.is.is_trace is) ∙ sym b.is.text
