-- The datagrams of a world are those that the lines of its history say.
-- Needed by `datagrams_are_sent_lines`; Heard, LeaderRuns and Outages; crates cluster, cluster_run and run_traces.
use Rattle.std.proofs.Common.{◌≡◌, ◌∙◌, ℕ, zero, suc, ◌+◌, Bool, false, if◌then◌else◌, List, [], ◌∷◌, ◌++◌, length, Option, Some}
use Rattle.std.proofs.Common.{None, refl, sym, ap, subst, arith, nat_lt, eq-eqb, append-nil, append_assoc}
use Rattle.std.specs.Prelude.{find, reverse, slice_get, ◌==◌}
use Rattle.std.specs.Option.{option_map}
use Rattle.std.proofs.lemmas.Bool.{cond_both, ne_eqb}
use Rattle.std.proofs.lemmas.List.{reverse-append, reverse-reverse}
use Rattle.wire.specs.Decoding.{spells_message}
use Rattle.wire.specs.Grammar.{spelling}
use Rattle.xid.specs.declared.refusals.Refusal.TheVariants.{NoSuch, Forged, Down}
use Rattle.safety.specs.Vocabulary.{NodeId, Event, Ask, Deliver, Lose, Cut, Noise, Tear, Restart, Compact, Done, Refused, Sent, Step}
use Rattle.protocol.specs.Effects.{Config}
use Rattle.protocol.specs.Nodes.{NodeState, Input, Asked, Received, ReceivedNoise, Fault, NoMemoryBefore, Outcome, node_step}
use Rattle.protocol.specs.Nodes.{restart_outcome, compact_outcome}
use Rattle.protocol.specs.Worlds.{Occurrence, trace, world_after, World, Datagram, StepResult, opening, node_at, set_node, answer_result}
use Rattle.protocol.specs.Worlds.{if_found, outcome_result, at_node}
use Rattle.protocol.specs.Worlds.{datagram_at, mark_at, with_mark, dispatch, world_step, numbered, step_of}
use Rattle.history.specs.Outages.{sent_lines, sent_back}
use Rattle.history.specs.Lines.{history}
use Rattle.history.proofs.Runs.{IsRun, AtFirst, Then, run_is}

-- a datagram as a line says it
abbrev pub line_of : ℕ → Datagram → Sent
line_of n d = record { number = n; sender = d.sender; receiver = d.receiver; message = d.message }

numbered-append : (n : ℕ) (xs ys : List Datagram) → numbered n (xs ++ ys) ≡ numbered n xs ++ numbered (n + length xs) ys
numbered-append n [] ys = let e : n ≡ n + 0 = omega arith in ap (λ (k : ℕ). numbered k ys) e
numbered-append n (x ∷ xs) ys =
    let e : suc n + length xs ≡ n + suc (length xs) = omega arith in
    ap (λ (rest : List Sent). line_of n x ∷ rest)
    (numbered-append (suc n) xs ys ∙ ap (λ (k : ℕ). numbered (suc n) xs ++ numbered k ys) e)

-- a mark changes neither lines nor their number
marked_lines : (n : ℕ) (net : List Datagram) (k : ℕ) → numbered n (mark_at net k) ≡ numbered n net
marked_lines n [] k = refl
marked_lines n (d ∷ net) zero = refl
marked_lines n (d ∷ net) (suc zero) = refl
marked_lines n (d ∷ net) (suc (suc k)) = ap (λ (rest : List Sent). line_of n d ∷ rest) (marked_lines (suc n) net (suc k))

-- a mark leaves how many datagrams there are
pub marked_length : (net : List Datagram) (k : ℕ) → length (mark_at net k) ≡ length net
marked_length [] k = refl
marked_length (d ∷ net) zero = refl
marked_length (d ∷ net) (suc zero) = refl
marked_length (d ∷ net) (suc (suc k)) = ap suc (marked_length net (suc k))

-- ---- one event

-- the lines of a world's datagrams are those before and those that the event says
abbrev pub SaysSent : World → StepResult → Type 0
SaysSent world result = numbered 1 result.world.net ≡ numbered 1 world.net ++ numbered (suc (length world.net)) result.sent

module _ (config : Config) (world : World) where
  none_sent : (result : StepResult) → numbered 1 result.world.net ≡ numbered 1 world.net → result.sent ≡ [] → SaysSent world result
  none_sent result same silent =
      same ∙ sym (ap (λ (ds : List Datagram). numbered 1 world.net ++ numbered (suc (length world.net)) ds) silent
      ∙ append-nil (numbered 1 world.net))

  outcome_sent : (who : NodeId) (node : NodeState) (left : Outcome) → SaysSent world (outcome_result config world who node.facts left)
  outcome_sent who node left =
      let sent = (outcome_result config world who node.facts left).sent in
      let next : 1 + length world.net ≡ suc (length world.net) = omega arith in
      numbered-append 1 world.net sent ∙ ap (λ (n : ℕ). numbered 1 world.net ++ numbered n sent) next

  found_sent : {X : Type 0} (o : Option X) (f : X → StepResult) → ((x : X) → o ≡ Some x → SaysSent world (f x))
      → SaysSent world (if_found world f o)
  found_sent None f says = none_sent (answer_result world (Refused NoSuch)) refl refl
  found_sent (Some x) f says = says x refl

  input_sent : (who : NodeId) (input : Input) (fault : Fault) → SaysSent world (at_node config world who input fault)
  input_sent who input fault = found_sent (node_at config world who)
      (λ node. outcome_result config world who node.facts (node_step config who node input fault))
      (λ node is. outcome_sent who node (node_step config who node input fault))

of_marked : (world : World) (n : ℕ) (result : StepResult) → SaysSent (with_mark world n) result → SaysSent world result
of_marked world n result says =
    says ∙ (λ i. marked_lines 1 world.net n i ++ numbered (suc (marked_length world.net n i)) result.sent)

dispatch_sent : (config : Config) (world : World) (event : Event) (fault : Fault) → SaysSent world (dispatch config world event fault)
dispatch_sent config world (Ask who request) fault = input_sent config world who (Asked request) fault
dispatch_sent config world (Deliver n) fault = found_sent config world (datagram_at world.net n)
    (λ d. at_node config (with_mark world n) d.receiver (Received d.message) fault)
    (λ d is. of_marked world n (at_node config (with_mark world n) d.receiver (Received d.message) fault)
    (input_sent config (with_mark world n) d.receiver (Received d.message) fault))
dispatch_sent config world (Lose n) fault = found_sent config world (datagram_at world.net n) (λ d. answer_result (with_mark world n) Done)
    (λ d is. none_sent config world (answer_result (with_mark world n) Done) (marked_lines 1 world.net n) refl)
dispatch_sent config world (Cut n k) fault = found_sent config world (datagram_at world.net n)
    (λ d. if nat_lt k (length (spelling d.message)) then at_node config world d.receiver ReceivedNoise fault
    else answer_result world (Refused NoSuch))
    (λ d is. cond_both (nat_lt k (length (spelling d.message))) (at_node config world d.receiver ReceivedNoise fault)
    (answer_result world (Refused NoSuch)) (SaysSent world)
    (λ fewer. input_sent config world d.receiver ReceivedNoise fault)
    (λ all. none_sent config world (answer_result world (Refused NoSuch)) refl refl))
dispatch_sent config world (Noise who bytes) fault = cond_both (spells_message bytes)
    (if_found world (λ node. answer_result world (Refused Forged)) (node_at config world who))
    (at_node config world who ReceivedNoise fault) (SaysSent world)
    (λ spelled. found_sent config world (node_at config world who) (λ node. answer_result world (Refused Forged))
    (λ node is. none_sent config world (answer_result world (Refused Forged)) refl refl))
    (λ garbled. input_sent config world who ReceivedNoise fault)
dispatch_sent config world (Tear who n) fault = found_sent config world (node_at config world who)
    (λ node. answer_result (set_node config world who (record node { tear = Some n })) Done)
    (λ node is. none_sent config world (answer_result (set_node config world who (record node { tear = Some n })) Done) refl refl)
dispatch_sent config world (Restart who) fault = found_sent config world (node_at config world who)
    (λ node. outcome_result config world who node.facts (restart_outcome config who node fault))
    (λ node is. outcome_sent config world who node (restart_outcome config who node fault))
dispatch_sent config world (Compact who) fault = found_sent config world (node_at config world who)
    (λ node. if node.up then outcome_result config world who node.facts (compact_outcome node fault)
    else answer_result world (Refused Down))
    (λ node is. cond_both node.up (outcome_result config world who node.facts (compact_outcome node fault))
    (answer_result world (Refused Down)) (SaysSent world)
    (λ up. outcome_sent config world who node (compact_outcome node fault))
    (λ down. none_sent config world (answer_result world (Refused Down)) refl refl))
dispatch_sent config world event fault = none_sent config world (answer_result world (Refused NoSuch)) refl refl

pub event_sent : (config : Config) (world : World) (event : Event) (fault : Fault) → SaysSent world (world_step config world event fault)
event_sent config world event NoMemoryBefore = none_sent config world (world_step config world event NoMemoryBefore) refl refl
event_sent config world event fault = dispatch_sent config world event fault

-- ---- runs

-- the datagrams of one step more
pub sent_more : (step : Step) (before : List Step) → sent_lines (reverse (step ∷ before)) ≡ sent_lines (reverse before) ++ step.sent
sent_more step before =
    ap sent_lines (reverse-append (step ∷ []) before) ∙ joined (reverse before)
  where
    joined : (steps : List Step) → sent_lines (steps ++ step ∷ []) ≡ sent_lines steps ++ step.sent
    joined [] = append-nil step.sent
    joined (first ∷ steps) =
        ap (λ (rest : List Sent). first.sent ++ rest) (joined steps) ∙ sym (append_assoc first.sent (sent_lines steps) step.sent)

-- the datagrams of a world, each by its line
pub datagrams_are_lines : (config : Config) (world : World) (before : List Step) → IsRun config world before
    → numbered 1 world.net ≡ sent_lines (reverse before)
datagrams_are_lines config _ _ AtFirst = refl
datagrams_are_lines config _ _ (Then world before event fault run) =
    let result = world_step config world event fault in
    event_sent config world event fault
    ∙ ap (λ (lines : List Sent). lines ++ numbered (suc (length world.net)) result.sent) (datagrams_are_lines config world before run)
    ∙ sym (sent_more (step_of world event result) before)

-- the datagram of a number
found_at : (k n : ℕ) (net : List Datagram) → find (λ (sent : Sent). sent.number == k + n) (numbered k net)
    ≡ option_map (line_of (k + n)) (slice_get net n)
found_at k n [] = refl
found_at k zero (d ∷ net) =
    let same : k ≡ k + 0 = omega arith in
    ap (λ (b : Bool). if b then Some (line_of k d) else find (λ (sent : Sent). sent.number == k + 0) (numbered (suc k) net))
    (eq-eqb k (k + 0) same) ∙ ap (λ (m : ℕ). Some (line_of m d)) same
found_at k (suc n) (d ∷ net) =
    let apart : (k == k + suc n) ≡ false = ne_eqb k (k + suc n) (λ e. absurd (omega (arith, e))) in
    let next : k + suc n ≡ suc k + n = omega arith in
    ap (λ (b : Bool). if b then Some (line_of k d) else find (λ (sent : Sent). sent.number == k + suc n) (numbered (suc k) net)) apart
    ∙ ap (λ (m : ℕ). find (λ (sent : Sent). sent.number == m) (numbered (suc k) net)) next
    ∙ found_at (suc k) n net ∙ ap (λ (m : ℕ). option_map (line_of m) (slice_get net n)) (sym next)

past_zero : (k : ℕ) (net : List Datagram) → find (λ (sent : Sent). sent.number == 0) (numbered (suc k) net) ≡ None
past_zero k [] = refl
past_zero k (d ∷ net) =
    let apart : (suc k == 0) ≡ false = ne_eqb (suc k) 0 (λ e. absurd (omega (arith, e))) in
    ap (λ (b : Bool). if b then Some (line_of (suc k) d) else find (λ (sent : Sent). sent.number == 0) (numbered (suc (suc k)) net)) apart
    ∙ past_zero (suc k) net

found_by : (net : List Datagram) (n : ℕ) → find (λ (sent : Sent). sent.number == n) (numbered 1 net)
    ≡ option_map (line_of n) (datagram_at net n)
found_by net zero = past_zero 0 net
found_by net (suc n) =
    let next : 1 + n ≡ suc n = omega arith in
    subst (λ (m : ℕ). find (λ (sent : Sent). sent.number == m) (numbered 1 net) ≡ option_map (line_of m) (slice_get net n)) next
    (found_at 1 n net)

pub sent_is : (config : Config) (world : World) (before : List Step) → IsRun config world before → (n : ℕ)
    → sent_back before n ≡ option_map (line_of n) (datagram_at world.net n)
sent_is config world before run n =
    ap (find (λ (sent : Sent). sent.number == n)) (sym (datagrams_are_lines config world before run)) ∙ found_by world.net n

-- the lines of the trace itself
pub net_is_lines : (config : Config) (events : List Occurrence)
    → numbered 1 (world_after config (opening config) events).net ≡ sent_lines (trace config (opening config) events)
net_is_lines config events =
    datagrams_are_lines config (world_after config (opening config) events) (history config events) (run_is config events)
    ∙ ap sent_lines (reverse-reverse (trace config (opening config) events))
