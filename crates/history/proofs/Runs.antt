-- Histories, one event after another; and the facts that their lines say.
-- Needed by 12 functions of this crate; 13 files here; crates floored_history, cluster, audit and cluster_run.
use Rattle.std.proofs.Common.{append_assoc, ◌≡◌, ◌∙◌, ℕ, List, [], ◌∷◌, ◌++◌, map, Option, Some, None, unwrap_or, refl, sym, ap, subst}
use Rattle.std.specs.Prelude.{reverse}
use Rattle.std.specs.List.{cons_option}
use Rattle.std.specs.Option.{option_and_then}
use Rattle.std.proofs.lemmas.List.{append-nil, map-append, reverse-append}
use Rattle.protocol.specs.Basics.{Fact}
use Rattle.safety.specs.Vocabulary.{Change, R, Answer, Event, Step}
use Rattle.protocol.specs.Effects.{Config}
use Rattle.protocol.specs.Nodes.{NodeState, new_node, Fault}
use Rattle.protocol.specs.Worlds.{World, Occurrence, opening, node_at, step_of, trace, world_after, world_step}
use Rattle.safety.specs.Runs.{IsReachable, Opening, After}
use Rattle.safety.specs.Standing.{facts_of, facts_at}
use Rattle.safety.proofs.World.NodePlaces.{opening_node}
use Rattle.history.specs.Lines.{history, change_here, changes_at, change_stored}
use Rattle.history.proofs.Moves.{manager_in, IsMove, Quiet, Restarted, Called, Stored, event_moved}

-- a world and its history, the newest step first
pub data IsRun (config : Config) : World → List Step → Type 0 where
  AtFirst : IsRun config (opening config) []
  Then : (world : World) (before : List Step) (event : Event) (fault : Fault) → IsRun config world before
      → IsRun config (world_step config world event fault).world (step_of world event (world_step config world event fault) ∷ before)

-- every run of events is one
run_from : (config : Config) (world : World) (before : List Step) (events : List Occurrence) → IsRun config world before
    → IsRun config (world_after config world events) (reverse (trace config world events) ++ before)
run_from config world before [] run = run
run_from config world before (first ∷ rest) run =
    let result = world_step config world first.event first.fault in
    let step = step_of world first.event result in
    subst (IsRun config (world_after config result.world rest)) (pushed (trace config result.world rest) step)
    (run_from config result.world (step ∷ before) rest (Then world before first.event first.fault run))
  where
    pushed : (steps : List Step) (step : Step) → reverse steps ++ (step ∷ before) ≡ reverse (step ∷ steps) ++ before
    pushed steps step =
        sym (ap (λ (all : List Step). all ++ before) (reverse-append (step ∷ []) steps) ∙ append_assoc (reverse steps) (step ∷ []) before)

pub run_is : (config : Config) (events : List Occurrence)
    → IsRun config (world_after config (opening config) events) (history config events)
run_is config events =
    subst (IsRun config (world_after config (opening config) events)) (append-nil (history config events))
    (run_from config (opening config) [] events AtFirst)

pub reached : (config : Config) (world : World) (before : List Step) → IsRun config world before → IsReachable config world
reached config _ _ AtFirst = Opening
reached config _ _ (Then world before event fault run) = After world event fault (reached config world before run)

-- ---- facts

-- the facts of a manager, none where it is outside the cluster
facts_by : (o : Option NodeState) → facts_of o ≡ (unwrap_or o new_node).facts
facts_by None = refl
facts_by (Some node) = refl

pub facts_in : (config : Config) (world : World) (rm : ℕ) → facts_at config world (R rm) ≡ (manager_in config world rm).facts
facts_in config world rm = facts_by (node_at config world (R rm))

new_or_none : (o : Option NodeState) → ((node : NodeState) → o ≡ Some node → new_node ≡ node) → new_node ≡ unwrap_or o new_node
new_or_none None each = refl
new_or_none (Some node) each = each node refl

pub new_manager : (config : Config) (rm : ℕ) → new_node ≡ manager_in config (opening config) rm
new_manager config rm = new_or_none (node_at config (opening config) (R rm)) (λ node is. opening_node config (R rm) node is)

-- the facts of a manager, as the changes that a step says
module _ (rm : ℕ) (old new : List Fact) (now : Option Change) where
  abbrev pub IsSaid : Type 0
  IsSaid = map (change_stored rm) new ≡ map (change_stored rm) old ++ cons_option (option_and_then (change_here rm) now) []

  none_more : new ≡ old → option_and_then (change_here rm) now ≡ None → IsSaid
  none_more facts change =
      ap (map (change_stored rm)) facts
      ∙ sym (ap (λ (o : Option Change). map (change_stored rm) old ++ cons_option o []) change ∙ append-nil (map (change_stored rm) old))

  one_more : (fact : Fact) → new ≡ old ++ fact ∷ [] → option_and_then (change_here rm) now ≡ Some (change_stored rm fact) → IsSaid
  one_more fact facts change =
      ap (map (change_stored rm)) facts ∙ map-append (change_stored rm) old (fact ∷ [])
      ∙ sym (ap (λ (o : Option Change). map (change_stored rm) old ++ cons_option o []) change)

pub said_by : (config : Config) (rm : ℕ) (old new : NodeState) (event : Event) (answer : Answer) (now : Option Change)
    → IsMove config rm old new event answer now → IsSaid rm old.facts new.facts now
said_by config rm old new event answer now (Quiet is) = none_more rm old.facts new.facts now is.facts is.silent.change
said_by config rm old new event answer now (Restarted is) = none_more rm old.facts new.facts now is.facts is.change
said_by config rm old new event answer now (Called is) = none_more rm old.facts new.facts now is.facts is.change
said_by config rm old new event answer now (Stored is) = one_more rm old.facts new.facts now is.fact is.facts is.change

in_front : (o : Option Change) (rest : List Change) → cons_option o [] ++ rest ≡ cons_option o rest
in_front None rest = refl
in_front (Some change) rest = refl

lines_from : (config : Config) (world : World) (events : List Occurrence) (rm : ℕ)
    → map (change_stored rm) (manager_in config (world_after config world events) rm).facts
    ≡ map (change_stored rm) (manager_in config world rm).facts ++ changes_at rm (trace config world events)
lines_from config world [] rm = sym (append-nil (map (change_stored rm) (manager_in config world rm).facts))
lines_from config world (first ∷ rest) rm =
    let result = world_step config world first.event first.fault in
    let old = manager_in config world rm in
    let new = manager_in config result.world rm in
    let before = map (change_stored rm) old.facts in
    let said = option_and_then (change_here rm) result.now in
    let later = changes_at rm (trace config result.world rest) in
    lines_from config result.world rest rm
    ∙ ap (λ (changes : List Change). changes ++ later)
    (said_by config rm old new first.event result.answer result.now (event_moved config world rm first.event first.fault))
    ∙ append_assoc before (cons_option said []) later ∙ ap (λ (changes : List Change). before ++ changes) (in_front said later)

-- the facts of a manager are the changes that the trace says of it
pub facts_are_lines : (config : Config) (events : List Occurrence) (rm : ℕ)
    → map (change_stored rm) (facts_at config (world_after config (opening config) events) (R rm))
    ≡ changes_at rm (trace config (opening config) events)
facts_are_lines config events rm =
    ap (map (change_stored rm)) (facts_in config (world_after config (opening config) events) rm)
    ∙ lines_from config (opening config) events rm
    ∙ ap (λ (node : NodeState). map (change_stored rm) node.facts ++ changes_at rm (trace config (opening config) events))
    (sym (new_manager config rm))

-- the changes of one step more, the newest last
pub reverse_more : (o : Option Change) (changes : List Change) → reverse (cons_option o changes) ≡ reverse changes ++ cons_option o []
reverse_more None changes = sym (append-nil (reverse changes))
reverse_more (Some change) changes = reverse-append (change ∷ []) changes

-- they are the changes of its history
pub lines_back : (config : Config) (world : World) (before : List Step) (rm : ℕ) → IsRun config world before
    → map (change_stored rm) (manager_in config world rm).facts ≡ reverse (changes_at rm before)
lines_back config _ _ rm AtFirst = ap (λ (node : NodeState). map (change_stored rm) node.facts) (sym (new_manager config rm))
lines_back config _ _ rm (Then world before event fault run) =
    let result = world_step config world event fault in
    said_by config rm (manager_in config world rm) (manager_in config result.world rm) event result.answer result.now
    (event_moved config world rm event fault)
    ∙ ap (λ (changes : List Change). changes ++ cons_option (option_and_then (change_here rm) result.now) [])
    (lines_back config world before rm run)
    ∙ sym (reverse_more (option_and_then (change_here rm) result.now) (changes_at rm before))
