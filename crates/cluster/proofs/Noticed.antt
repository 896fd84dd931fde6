-- What an event adds to the datagrams and to the notices of a world with floors, and how those are read off a cluster.
-- Needed by `Cluster::step`, `list_told`, `most_told` and `put_all`; Occurring; crates cluster_run and run_traces.
use Rattle.std.proofs.Common.{◌≡◌, ◌∙◌, ℕ, zero, suc, ◌+◌, ◌-◌, ◌<◌, ◌≤◌, Bool, true, false, if◌then◌else◌, List, [], ◌∷◌, ◌++◌, length}
use Rattle.std.proofs.Common.{map, Option, Some, None, take, drop, get_or, refl, sym, ap, subst, append_assoc, length-append, nat_lt, arith}
use Rattle.std.specs.Prelude.{slice_get}
use Rattle.std.specs.List.{range_with_len}
use Rattle.std.proofs.lemmas.Bool.{cond_both, ltb-true, ltb-false}
use Rattle.std.proofs.lemmas.List.{append-nil, length-map, length-drop, length-take-le, take_all, take_more, get_or_append_left}
use Rattle.std.proofs.lemmas.List.{get_or-append_right, get_or-map}
use Rattle.std.proofs.lemmas.List.FromFn.{length-map-range_with_len, get_or-map-range_with_len}
use Rattle.std.proofs.Math.Seq.{drop-append_seam}
use Rattle.xid.specs.Places.{Place}
use Rattle.xid.specs.declared.refusals.Refusal.TheVariants.{NoMemory, NoSuch, Down}
use Rattle.protocol.specs.declared.answers.Answer.{Answer}
use Rattle.protocol.specs.declared.answers.Answer.TheVariants.{Done, Refused}
use Rattle.protocol.specs.declared.events.Event.{Event}
use Rattle.protocol.specs.declared.events.Event.TheVariants.{Ask, Deliver, Lose, Raise, Hear, Replace}
use Rattle.protocol.specs.declared.events.Told.{Told}
use Rattle.protocol.specs.declared.nodes.NodeId.{NodeId}
use Rattle.protocol.specs.declared.nodes.NodeId.TheVariants.{A, L, R}
use Rattle.protocol.specs.declared.requests.Request.{Request}
use Rattle.protocol.specs.Effects.{Config}
use Rattle.protocol.specs.Nodes.{NodeState, Asked, Fault, NoMemoryBefore}
use Rattle.protocol.specs.Worlds.{Datagram, StepResult, datagram_at, node_at, numbered, world_step}
use Rattle.history.proofs.Datagrams.{event_sent}
use Rattle.network.specs.Networks.{NetworkParts, StandsFor}
use Rattle.node_core.specs.declared.config.Sizes.{Sizes}
use Rattle.node_core.specs.Nodes.{AreSizes}
use Rattle.floors.specs.Nodes.{Rise, forgotten_answer, is_unread, may_replace, on_least, on_raise}
use Rattle.floors.specs.Worlds as floored
use Rattle.floors.specs.Worlds.{FlooredWorld, FlooredResult, Notice, Machine, floored_answer, floored_dispatch, floored_if_found}
use Rattle.floors.specs.Worlds.{floored_step, hear_at, hear_result, is_done, is_manager, least_told, machine_part, notices_of, raise_result}
use Rattle.floors.specs.Worlds.{replace_at, replace_result, step_with_floors, told_from, told_nodes, told_with, with_rise, with_entry}
use Rattle.floors.specs.Worlds.{with_told_lost}
use Rattle.floors.specs.Runs.{is_lost, passes_over}
use Rattle.floors.proofs.Steps.{lost_event, same_event, unasked_event}
use Rattle.node_core.specs.Configs.{config_by}
use Rattle.node_core.specs.Places.{node_in}
use Rattle.cluster.specs.Clusters.{NoticesParts, sent_after, told_after}
use Rattle.cluster.specs.Notices.{told_count}
use Rattle.node_core.proofs.Placed.{acceptor_named, leader_named}
use Rattle.cluster.proofs.Sent.{count_after, get_dropped, sent_is}

-- ---- an event

-- what came of an event stands behind what there was
pub record IsAppended (world : FlooredWorld) (result : FlooredResult) : Type 0 where
  pub sent : numbered 1 result.world.machine.net
      ≡ numbered 1 world.machine.net ++ numbered (suc (length world.machine.net)) result.sent
  pub noticed : result.world.notices ≡ world.notices ++ result.noticed

-- nothing is sent or told
adds_none : (world : FlooredWorld) (result : FlooredResult) → result.world.machine.net ≡ world.machine.net
    → result.world.notices ≡ world.notices → result.sent ≡ [] → result.noticed ≡ [] → IsAppended world result
adds_none world result net notices silent untold = record {
  sent =
      ap (numbered 1) net
      ∙ sym (ap (λ (ds : List Datagram). numbered 1 world.machine.net ++ numbered (suc (length world.machine.net)) ds) silent
      ∙ append-nil (numbered 1 world.machine.net));
  noticed = notices ∙ sym (ap (λ (ns : List Notice). world.notices ++ ns) untold ∙ append-nil world.notices);
}

module _ (config : Config) (world : FlooredWorld) where
  answer_adds : (answer : Answer) → IsAppended world (floored_answer world answer)
  answer_adds answer = adds_none world (floored_answer world answer) refl refl refl refl

  -- an event of the machine sends what one does there
  as_machine : (event : Event) (fault : Fault) (other : Event)
      → machine_part (floored_step config world (Machine event) fault) ≡ world_step config world.machine other fault
      → IsAppended world (floored_step config world (Machine event) fault)
  as_machine event fault other same = record {
    sent =
        subst (λ (r : StepResult). numbered 1 r.world.net
        ≡ numbered 1 world.machine.net ++ numbered (suc (length world.machine.net)) r.sent) (sym same)
        (event_sent config world.machine other fault);
    noticed = untold fault;
  }
    where
      untold : (fault : Fault) → (floored_step config world (Machine event) fault).world.notices
          ≡ world.notices ++ (floored_step config world (Machine event) fault).noticed
      untold NoMemoryBefore = sym (append-nil world.notices)
      untold fault = sym (append-nil world.notices)

  asked_adds : (who : NodeId) (request : Request) (fault : Fault) (t : Bool) → passes_over config world who (Asked request) ≡ t
      → IsAppended world (floored_step config world (Machine (Ask who request)) fault)
  asked_adds who request NoMemoryBefore t e = answer_adds (Refused NoMemory)
  asked_adds who request fault true e =
      subst (IsAppended world) (sym (unasked_event config world who request fault e)) (answer_adds (forgotten_answer (Asked request)))
  asked_adds who request fault false e =
      as_machine (Ask who request) fault (Ask who request)
      (same_event config world (Ask who request) fault (ap (λ (t : Bool). if t then [] else Ask who request ∷ []) e))

  delivered_adds : (n : ℕ) (fault : Fault) (t : Bool) → is_lost config world (datagram_at world.machine.net n) ≡ t
      → IsAppended world (floored_step config world (Machine (Deliver n)) fault)
  delivered_adds n fault true e = as_machine (Deliver n) fault (Lose n) (lost_event config world n fault e)
  delivered_adds n fault false e =
      as_machine (Deliver n) fault (Deliver n)
      (same_event config world (Deliver n) fault (ap (λ (t : Bool). (if t then Lose n else Deliver n) ∷ []) e))

  -- a floor was to rise
  risen_adds : (rm : ℕ) (rise : Rise) → IsAppended world (raise_result config world rm rise)
  risen_adds rm rise = record { sent = sym (append-nil (numbered 1 world.machine.net)); noticed = refl }

  raised_adds : (rm : ℕ) (place : Place) (fault : Fault)
      → IsAppended world (floored_dispatch config world (floored.Raise (R rm) place) fault)
  raised_adds rm place fault = by_found (node_at config world.machine (R rm))
    where
      by_found : (o : Option NodeState) → IsAppended world (floored_if_found world (λ node.
          raise_result config world rm (on_raise (world.floor (R rm)) node place fault)) o)
      by_found None = answer_adds (Refused NoSuch)
      by_found (Some node) = risen_adds rm (on_raise (world.floor (R rm)) node place fault)

  -- a notice was heard
  heard_adds : (notice : Notice) (fault : Fault) → IsAppended world (hear_at config world fault notice)
  heard_adds notice fault =
      cond_both (is_manager notice.receiver) (floored_answer world Done)
      (floored_if_found world (hear_result config world notice fault) (node_at config world.machine notice.receiver)) (IsAppended world)
      (λ manager. answer_adds Done) (λ other. by_found (node_at config world.machine notice.receiver))
    where
      by_found : (o : Option NodeState) → IsAppended world (floored_if_found world (hear_result config world notice fault) o)
      by_found None = answer_adds (Refused NoSuch)
      by_found (Some node) =
          let told = told_with (world.told notice.receiver) notice in
          let rise = on_least (world.floor notice.receiver) node (least_told config told) fault in
          let heard = floored_answer (record (with_rise config world notice.receiver rise)
          { told = with_entry world.told notice.receiver told }) rise.answer in
          cond_both node.up heard (floored_answer world (Refused Down)) (IsAppended world)
          (λ up. adds_none world heard refl refl refl refl) (λ down. answer_adds (Refused Down))

  found_adds : (o : Option Notice) (fault : Fault) → IsAppended world (floored_if_found world (hear_at config world fault) o)
  found_adds None fault = answer_adds (Refused NoSuch)
  found_adds (Some notice) fault = heard_adds notice fault

  -- a blank node was to stand in for a lost one
  lost_adds : (lost : Bool) (who : NodeId) (answer : Answer) → IsAppended world (floored_answer (with_told_lost world who lost) answer)
  lost_adds true who answer = adds_none world (floored_answer (with_told_lost world who true) answer) refl refl refl refl
  lost_adds false who answer = answer_adds answer

  replaced_adds : (who : NodeId) (place : Place) (fault : Fault) → IsAppended world (replace_at config world who place fault)
  replaced_adds who place fault =
      cond_both (is_manager who) (floored_answer world (Refused NoSuch))
      (floored_if_found world (replace_result config world who place fault) (node_at config world.machine who)) (IsAppended world)
      (λ manager. answer_adds (Refused NoSuch)) (λ other. by_found (node_at config world.machine who))
    where
      by_found : (o : Option NodeState) → IsAppended world (floored_if_found world (replace_result config world who place fault) o)
      by_found None = answer_adds (Refused NoSuch)
      by_found (Some node) =
          cond_both (may_replace (world.floor who) node place) _ _ (IsAppended world) (λ may. adds_none world _ refl refl refl refl)
          (λ used. lost_adds (is_unread node fault) who _)

  -- an event adds datagrams and notices at the end
  pub event_adds : (event : Event) (fault : Fault) → IsAppended world (step_with_floors config world event fault)
  event_adds (Ask who request) fault = asked_adds who request fault (passes_over config world who (Asked request)) refl
  event_adds (Deliver n) fault = delivered_adds n fault (is_lost config world (datagram_at world.machine.net n)) refl
  event_adds (Raise rm place) NoMemoryBefore = answer_adds (Refused NoMemory)
  event_adds (Raise rm place) fault = raised_adds rm place fault
  event_adds (Hear zero) fault = as_machine (Hear zero) fault (Hear zero) (same_event config world (Hear zero) fault refl)
  event_adds (Hear (suc n)) NoMemoryBefore = answer_adds (Refused NoMemory)
  event_adds (Hear (suc n)) fault = found_adds (slice_get world.notices n) fault
  event_adds (Replace who place) NoMemoryBefore = answer_adds (Refused NoMemory)
  event_adds (Replace who place) fault = replaced_adds who place fault
  event_adds event fault = as_machine event fault event (same_event config world event fault refl)

-- ---- read off a cluster

module _ (config : Config) (world : FlooredWorld) (event : Event) (fault : Fault) where
  abbrev result : FlooredResult
  result = step_with_floors config world event fault

  -- the datagrams of an event are those that the network has after it, beside those that it had
  pub sent_with_floors : (old new : NetworkParts) → StandsFor old world.machine.net → StandsFor new result.world.machine.net
      → sent_after (length old.datagrams) new ≡ numbered (suc (length world.machine.net)) result.sent
  sent_with_floors old new stood stands =
      sent_is world.machine.net result.world.machine.net result.sent (event_adds config world event fault).sent old new stood stands

  -- the datagrams of a cluster are as many more as the event sent
  pub sent_count : (old new : NetworkParts) → StandsFor old world.machine.net → StandsFor new result.world.machine.net
      → length new.datagrams ≡ length old.datagrams + length result.sent
  sent_count old new stood stands =
      count_after world.machine.net result.world.machine.net result.sent (event_adds config world event fault).sent old new stood stands

  -- and the notices those that the cluster has after it
  pub told_with_floors : (old new : NoticesParts) → old.all ≡ world.notices → new.all ≡ result.world.notices
      → told_after (length old.all) new ≡ told_from (suc (length world.notices)) result.noticed
  told_with_floors old new were are =
      ap (λ (ns : List Notice). told_after (length ns) new) were
      ∙ ap (λ (ns : List Notice). told_from (suc (length world.notices)) (drop (length world.notices) ns))
      (are ∙ (event_adds config world event fault).noticed)
      ∙ ap (told_from (suc (length world.notices))) (drop-append_seam world.notices result.noticed)

  -- how many there are after it
  pub noticed_count : (old new : NoticesParts) → old.all ≡ world.notices → new.all ≡ result.world.notices
      → length new.all ≡ length old.all + length result.noticed
  noticed_count old new were are =
      ap length (are ∙ (event_adds config world event fault).noticed) ∙ length-append world.notices result.noticed
      ∙ ap (λ (ns : List Notice). length ns + length result.noticed) (sym were)

-- ---- one notice after another is listed

-- those after so many, up to a place
abbrev pub told_up_to : (count upto : ℕ) → NoticesParts → List Told
told_up_to count upto notices = told_from (suc count) (take (upto - count) (drop count notices.all))

abbrev told_one : ℕ → Notice → Told
told_one n notice = record { number = n; manager = notice.manager; receiver = notice.receiver; floor = notice.place }

told_push : (n : ℕ) (xs : List Notice) (x : Notice) → told_from n (xs ++ x ∷ []) ≡ told_from n xs ++ told_one (n + length xs) x ∷ []
told_push n [] x = let e : n ≡ n + 0 = omega arith in ap (λ (k : ℕ). told_one k x ∷ []) e
told_push n (first ∷ xs) x =
    let e : suc n + length xs ≡ n + suc (length xs) = omega arith in
    ap (λ (l : List Told). told_one n first ∷ l)
    (told_push (suc n) xs x ∙ ap (λ (k : ℕ). told_from (suc n) xs ++ told_one k x ∷ []) e)

module _ (notices : NoticesParts) (count upto : ℕ) where
  -- none yet
  pub told_none : upto ≤ count → told_up_to count upto notices ≡ []
  told_none le =
      let e : upto - count ≡ 0 = omega (arith, le) in
      ap (λ (n : ℕ). told_from (suc count) (take n (drop count notices.all))) e

  -- one more
  pub told_more : count ≤ upto → upto < length notices.all → (kept : Notice) → kept ≡ get_or notices.all upto kept → (number : ℕ)
      → number ≡ suc upto
      → told_up_to count (upto + 1) notices
      ≡ told_up_to count upto notices
      ++ record { number = number; manager = kept.manager; receiver = kept.receiver; floor = kept.place } ∷ []
  told_more le lt kept is number named =
      let ns : List Notice = drop count notices.all in
      let i : ℕ = upto - count in
      let there : i < length ns = omega (arith, le, lt, length-drop count notices.all) in
      let next : upto + 1 - count ≡ i + 1 = omega (arith, le) in
      let at : count + i ≡ upto = omega (arith, le) in
      let last : suc count + length (take i ns) ≡ number = omega (arith, length-take-le i ns (omega (arith, there)), at, named) in
      let read : get_or ns i kept ≡ kept =
      get_dropped count notices.all i kept ∙ ap (λ (n : ℕ). get_or notices.all n kept) at ∙ sym is in
      ap (λ (n : ℕ). told_from (suc count) (take n ns)) next
      ∙ ap (told_from (suc count)) (take_more ns i kept there ∙ ap (λ (d : Notice). take i ns ++ d ∷ []) read)
      ∙ told_push (suc count) (take i ns) kept
      ∙ ap (λ (n : ℕ). told_up_to count upto notices ++ told_one n kept ∷ []) last

  -- all
  pub told_all : length notices.all ≤ upto → told_up_to count upto notices ≡ told_after count notices
  told_all le =
      ap (told_from (suc count)) (take_all (upto - count) (drop count notices.all) (omega (arith, le, length-drop count notices.all)))

-- ---- how many are told

notices_count : (config : Config) (manager : ℕ) (place : Place)
    → length (notices_of config manager (Some place)) ≡ config.acceptors + config.leaders
notices_count config manager place =
    length-map (told_nodes config) (λ who. record { manager = manager; receiver = who; place = place })
    ∙ length-append (map A (range_with_len 0 config.acceptors)) (map L (range_with_len 0 config.leaders))
    ∙ ap (λ (n : ℕ). n + length (map L (range_with_len 0 config.leaders))) (length-map-range_with_len A 0 config.acceptors)
    ∙ ap (λ (n : ℕ). config.acceptors + n) (length-map-range_with_len L 0 config.leaders)

pub notices_in : (sizes : Sizes) (manager : ℕ) (place : Place)
    → length (notices_of (config_by sizes []) manager (Some place)) ≡ told_count sizes
notices_in sizes manager place = notices_count (config_by sizes []) manager place

module _ (config : Config) (world : FlooredWorld) where
  notices_few : (manager : ℕ) (floor : Option Place) → length (notices_of config manager floor) ≤ config.acceptors + config.leaders
  notices_few manager None = omega arith
  notices_few manager (Some place) = omega (arith, notices_count config manager place)

  risen_few : (rm : ℕ) (rise : Rise) → length (raise_result config world rm rise).noticed ≤ config.acceptors + config.leaders
  risen_few rm rise =
      cond_both (is_done rise.answer) (notices_of config rm rise.floor) []
      (λ (ns : List Notice). length ns ≤ config.acceptors + config.leaders) (λ done. notices_few rm rise.floor) (λ refused. omega arith)

  raised_few : (rm : ℕ) (place : Place) (fault : Fault)
      → length (floored_dispatch config world (floored.Raise (R rm) place) fault).noticed ≤ config.acceptors + config.leaders
  raised_few rm place fault = by_found (node_at config world.machine (R rm))
    where
      by_found : (o : Option NodeState) → length (floored_if_found world (λ node.
          raise_result config world rm (on_raise (world.floor (R rm)) node place fault)) o).noticed ≤ config.acceptors + config.leaders
      by_found None = omega arith
      by_found (Some node) = risen_few rm (on_raise (world.floor (R rm)) node place fault)

  -- a rise tells each acceptor and each leader
  pub raise_tells : (sizes : Sizes) → AreSizes config sizes → (rm : ℕ) (place : Place) (fault : Fault)
      → length (step_with_floors config world (Raise rm place) fault).noticed ≤ told_count sizes
  raise_tells sizes are rm place NoMemoryBefore = omega arith
  raise_tells sizes are rm place fault = by_sizes _ (raised_few rm place fault)
    where
      by_sizes : (n : ℕ) → n ≤ config.acceptors + config.leaders → n ≤ sizes.acceptors + sizes.leaders
      by_sizes n le = omega (arith, le, are.acceptors_are, are.leaders_are)

-- ---- one node after another is told

-- the node of a place among those that are told is the one that stands there in the cluster
told_there : (config : Config) (i : ℕ) → i < config.acceptors + config.leaders → (d : NodeId)
    → get_or (told_nodes config) i d ≡ node_in config i
told_there config i lt d = by_kind (nat_lt i config.acceptors) refl
  where
    acceptors : List NodeId
    acceptors = map A (range_with_len 0 config.acceptors)

    leaders : List NodeId
    leaders = map L (range_with_len 0 config.leaders)

    by_kind : (t : Bool) → nat_lt i config.acceptors ≡ t → get_or (acceptors ++ leaders) i d ≡ node_in config i
    by_kind true e =
        let below : i < config.acceptors = ltb-true i config.acceptors e in
        let inside : i < length acceptors = omega (arith, below, length-map-range_with_len A 0 config.acceptors) in
        let here : 0 + i ≡ i = omega arith in
        get_or_append_left acceptors leaders d i inside ∙ get_or-map-range_with_len A 0 config.acceptors i i d below here
        ∙ sym (acceptor_named config i below)
    by_kind false e =
        let past : config.acceptors ≤ i = ltb-false i config.acceptors e in
        let few : i - config.acceptors < config.leaders = omega (arith, past, lt) in
        let here : 0 + (i - config.acceptors) ≡ i - config.acceptors = omega arith in
        get_or-append_right acceptors leaders config.acceptors i d (length-map-range_with_len A 0 config.acceptors) past
        ∙ get_or-map-range_with_len L 0 config.leaders (i - config.acceptors) (i - config.acceptors) d few here
        ∙ sym (leader_named config i past lt)

module _ (sizes : Sizes) (manager : ℕ) (place : Place) (before : List Notice) (i : ℕ) (lt : i < told_count sizes) where
  abbrev to_all : List Notice
  to_all = notices_of (config_by sizes []) manager (Some place)

  -- one more of them is told
  pub tells_next : (now : List Notice) → now ≡ before ++ take i to_all → (who : NodeId) → who ≡ node_in (config_by sizes []) i
      → now ++ record { manager = manager; receiver = who; place = place } ∷ [] ≡ before ++ take (i + 1) to_all
  tells_next now is who named =
      let told : Notice = record { manager = manager; receiver = who; place = place } in
      let f : NodeId → Notice = λ w. record { manager = manager; receiver = w; place = place } in
      let inside : i < length (told_nodes (config_by sizes [])) =
      omega (arith, lt, length-map (told_nodes (config_by sizes [])) f, notices_in sizes manager place) in
      let there : i < length to_all = omega (arith, lt, notices_in sizes manager place) in
      let one : get_or to_all i told ≡ told =
      get_or-map f (told_nodes (config_by sizes [])) i who told inside ∙ ap f (told_there (config_by sizes []) i lt who ∙ sym named) in
      ap (λ (ns : List Notice). ns ++ told ∷ []) is
      ∙ append_assoc before (take i to_all) (told ∷ [])
      ∙ ap (λ (ns : List Notice). before ++ ns) (sym (take_more to_all i told there ∙ ap (λ (x : Notice). take i to_all ++ x ∷ []) one))

-- all of them are told
pub tells_all : (sizes : Sizes) (manager : ℕ) (place : Place) (before : List Notice) (i : ℕ) → told_count sizes ≤ i
    → before ++ take i (notices_of (config_by sizes []) manager (Some place))
    ≡ before ++ notices_of (config_by sizes []) manager (Some place)
tells_all sizes manager place before i le =
    ap (λ (ns : List Notice). before ++ ns)
    (take_all i (notices_of (config_by sizes []) manager (Some place)) (omega (arith, le, notices_in sizes manager place)))
