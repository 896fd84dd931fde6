-- A run of the machine by which a transaction goes on is a run with floors, where no node that takes part has its floor above it: the nodes
-- are handed messages on this transaction alone.
use Rattle.std.proofs.Common.{◌≡◌, ◌⊎◌, inl, inr, ◌∙◌, ℕ, Bool, true, false, if◌then◌else◌, List, [], ◌∷◌, Option, Some, None}
use Rattle.std.proofs.Common.{refl, sym, ap, subst}
use Rattle.std.specs.Prelude.{slice_get, filter}
use Rattle.std.specs.List.{slice_set}
use Rattle.std.specs.Option.{option_map, option_map_or, option_and_then}
use Rattle.std.proofs.lemmas.Bool.{and_from, and_parts}
use Rattle.xid.specs.Transactions.{TxParts, tx_eq}
use Rattle.xid.proofs.Deciding.{tx_decides}
use Rattle.wire.specs.Messages.{message_tx}
use Rattle.ballot.specs.Greatest.{IsIn}
use Rattle.protocol.specs.Basics.{Fact}
use Rattle.safety.specs.Vocabulary.{NodeId, Outgoing, Event, Ask, Deliver, Restart, Timeout}
use Rattle.safety.specs.Runs.{IsReachable}
use Rattle.safety.proofs.World.Outcomes.{step_is}
use Rattle.protocol.specs.Effects.{Config, receivers}
use Rattle.protocol.specs.Nodes.{NodeState, Input, Asked, Received, NoFault, Outcome, node_step, restart_outcome}
use Rattle.protocol.specs.Worlds.{World, Datagram, place, node_at, if_found, outcome_result, at_node, datagram_at, with_mark}
use Rattle.protocol.specs.Worlds.{world_step, world_after}
use Rattle.protocol.proofs.Lists.{IsIn-append, IsIn-before, IsIn-after, IsIn-joined, IsIn-mapped, IsIn-map, filter_kept}
use Rattle.progress.specs.Runs.{happens_at, are_at, without_fault, Leads}
use Rattle.progress.proofs.Mail.{Letter, letter_of, mail, marked_mail, datagram_in, IsDeliverable, deliverable, letters_of, letters}
use Rattle.progress.proofs.Mail.{posted_mail}
use Rattle.progress.proofs.Backed.{AllAmong, IsBacked}
use Rattle.xid.specs.Places.{Place, is_below}
use Rattle.floors.specs.Nodes.{floored_node_step, is_input_below}
use Rattle.floors.specs.Worlds.{FlooredWorld, at_floored_node}
use Rattle.floors.specs.Runs.{happens_on, are_on, floored_next, floored_after, LeadsFloored}
use Rattle.floors.proofs.About.{IsOn, effect_about}
use Rattle.floors.proofs.Nodes.{above_is, restart_silent}

-- what a node sends on an input is on its transaction
step_sends : (config : Config) (who : NodeId) (node : NodeState) (input : Input) (send : Outgoing)
    → IsIn (node_step config who node input NoFault).sends send → IsOn input (message_tx send.message)
step_sends config who node input send h = elim (step_is config who node input NoFault) [
  | inl keeps ↦ absurd (subst (λ (sends : List Outgoing). IsIn sends send) keeps.silent h)
  | inr (inl stopped) ↦ absurd (subst (λ (sends : List Outgoing). IsIn sends send) stopped.silent h)
  | inr (inr finished) ↦
      (effect_about config who node.facts node.memory input).sent send (subst (λ (sends : List Outgoing). IsIn sends send) finished.sends h)
]

-- ---- beside a world of the machine

module _ (config : Config) (tx : TxParts) where
  -- the nodes are the same, and what was sent there, all of it on the transaction, was sent here too
  pub record IsBeside (a b : World) : Type 0 where
    pub nodes_are : a.nodes ≡ b.nodes
    pub sent : AllAmong (mail a.net) (mail b.net)
    pub on : (letter : Letter) → IsIn (mail a.net) letter → message_tx letter.message ≡ tx

  abbrev AreOn : List Outgoing → Type 0
  AreOn sends = (send : Outgoing) → IsIn sends send → message_tx send.message ≡ tx

  letters_on : (sends : List Outgoing) → AreOn sends → (letter : Letter) → IsIn (letters config sends) letter
      → message_tx letter.message ≡ tx
  letters_on sends on letter h =
      let from = IsIn-joined (letters_of config) sends letter h in
      let one = IsIn-mapped (λ (receiver : NodeId). record { receiver = receiver; message = from.source.message })
      (receivers config from.source.to (message_tx from.source.message)) letter from.inside in
      subst (λ (l : Letter). message_tx l.message ≡ tx) one.maps (on from.source from.among)

  module _ (a b : World) (beside : IsBeside a b) where
    -- the same outcome at a node
    outcome_beside : (who : NodeId) (facts : List Fact) (left : Outcome) → AreOn left.sends
        → IsBeside (outcome_result config a who facts left).world (outcome_result config b who facts left).world
    outcome_beside who facts left on = record {
      nodes_are = ap (λ (nodes : List NodeState). option_map_or (λ at. slice_set nodes at left.node) (place config who) nodes)
          beside.nodes_are;
      sent = λ letter h.
          subst (λ (post : List Letter). IsIn post letter) (sym (posted_mail config who b.net left.sends))
          (elim (parts letter h) [
            | inl old ↦ IsIn-before (mail b.net) (letters config left.sends) letter (beside.sent letter old)
            | inr new ↦ IsIn-after (mail b.net) (letters config left.sends) letter new
          ]);
      on = λ letter h. elim (parts letter h) [
        | inl old ↦ beside.on letter old
        | inr new ↦ letters_on left.sends on letter new
      ];
    }
      where
        parts : (letter : Letter) → IsIn (mail (outcome_result config a who facts left).world.net) letter
            → IsIn (mail a.net) letter ⊎ IsIn (letters config left.sends) letter
        parts letter h = IsIn-append (mail a.net) (letters config left.sends) letter
            (subst (λ (post : List Letter). IsIn post letter) (posted_mail config who a.net left.sends) h)

    same_node_at : (who : NodeId) → node_at config a who ≡ node_at config b who
    same_node_at who =
        ap (λ (nodes : List NodeState). option_and_then (λ at. slice_get nodes at) (place config who)) beside.nodes_are

    restart_by : (who : NodeId) (o : Option NodeState)
        → IsBeside (if_found a (λ node. outcome_result config a who node.facts (restart_outcome config who node NoFault)) o).world
        (if_found b (λ node. outcome_result config b who node.facts (restart_outcome config who node NoFault)) o).world
    restart_by who None = beside
    restart_by who (Some node) =
        outcome_beside who node.facts (restart_outcome config who node NoFault)
        (λ send h. absurd (subst (λ (sends : List Outgoing). IsIn sends send) (restart_silent config who node NoFault) h))

    restart_beside : (who : NodeId)
        → IsBeside (world_step config a (Restart who) NoFault).world (world_step config b (Restart who) NoFault).world
    restart_beside who =
        subst (λ (o : Option NodeState). IsBeside (world_step config a (Restart who) NoFault).world
        (if_found b (λ node. outcome_result config b who node.facts (restart_outcome config who node NoFault)) o).world)
        (same_node_at who) (restart_by who (node_at config a who))

    module _ (floor : Option Place) (who : NodeId) (input : Input) (above : is_input_below floor input ≡ false)
        (on : (t : TxParts) → IsOn input t → t ≡ tx) where
      input_by : (o : Option NodeState)
          → IsBeside (if_found a (λ node. outcome_result config a who node.facts (node_step config who node input NoFault)) o).world
          (if_found b (λ node. outcome_result config b who node.facts (floored_node_step config who floor node input NoFault)) o).world
      input_by None = beside
      input_by (Some node) =
          subst (λ (left : Outcome).
          IsBeside (outcome_result config a who node.facts (node_step config who node input NoFault)).world
          (outcome_result config b who node.facts left).world)
          (sym (above_is config who floor node input NoFault above))
          (outcome_beside who node.facts (node_step config who node input NoFault)
          (λ send h. on (message_tx send.message) (step_sends config who node input send h)))

      -- the same input at a node, whose floor isn't above it
      pub input_beside : IsBeside (at_node config a who input NoFault).world (at_floored_node config b floor who input NoFault).world
      input_beside =
          subst (λ (o : Option NodeState). IsBeside (at_node config a who input NoFault).world
          (if_found b (λ node. outcome_result config b who node.facts (floored_node_step config who floor node input NoFault)) o).world)
          (same_node_at who) (input_by (node_at config a who))

  -- ---- one event

  module _ (part : NodeId → Bool) (a : World) (world : FlooredWorld) (beside : IsBeside a world.machine)
      (above : (who : NodeId) → part who ≡ true → is_below (world.floor who) tx ≡ false) where
    -- an event with floors by which the world stays beside
    record IsFloored (after : World) : Type 0 where
      event : Event
      at : option_map_or part (happens_on world.machine tx event) false ≡ true
      floors : (floored_next config world event).floor ≡ world.floor
      beside_after : IsBeside after (floored_next config world event).machine

    timed_out : (who : NodeId) (other : TxParts) (t : Bool) → tx_eq tx other ≡ t
        → option_map_or part (if t then Some who else None) false ≡ true
        → IsFloored (world_step config a (Ask who (Timeout other)) NoFault).world
    timed_out who other false e at = absurd (cc (at))
    timed_out who other true e at =
        let same : tx ≡ other = (tx_decides tx other).0 e in
        record {
          event = Ask who (Timeout other);
          at = ap (λ (t : Bool). option_map_or part (if t then Some who else None) false) e ∙ at;
          floors = refl;
          beside_after = input_beside a world.machine beside (world.floor who) who (Asked (Timeout other))
              (subst (λ (t : TxParts). is_below (world.floor who) t ≡ false) same (above who at)) (λ t on. sym on ∙ sym same);
        }

    module _ (n : ℕ) (d : Datagram) (is : datagram_at a.net n ≡ Some d) (at : part d.receiver ≡ true) where
      abbrev letter : Letter
      letter = letter_of d

      here : IsIn (mail a.net) letter
      here = datagram_in a.net n d is

      about : message_tx d.message ≡ tx
      about = beside.on letter here

      abbrev there : IsDeliverable world.machine.net letter
      there = deliverable world.machine.net letter (beside.sent letter here)

      marked : (k : ℕ) → IsBeside (with_mark a n) (with_mark world.machine k)
      marked k = record {
        nodes_are = beside.nodes_are;
        sent = λ l h. subst (λ (post : List Letter). IsIn post l) (sym (marked_mail world.machine.net k))
            (beside.sent l (subst (λ (post : List Letter). IsIn post l) (marked_mail a.net n) h));
        on = λ l h. beside.on l (subst (λ (post : List Letter). IsIn post l) (marked_mail a.net n) h);
      }

      abbrev handed_to : Letter → World
      handed_to l =
          (at_floored_node config (with_mark world.machine there.number) (world.floor l.receiver) l.receiver (Received l.message)
          NoFault).world

      arrives : (floored_next config world (Deliver there.number)).machine ≡ handed_to letter
      arrives =
          ap (λ (o : Option Datagram). (if_found world.machine (λ e.
          at_floored_node config (with_mark world.machine there.number) (world.floor e.receiver) e.receiver (Received e.message) NoFault)
          o).world) there.there
          ∙ ap handed_to there.is

      delivered : IsFloored (at_node config (with_mark a n) d.receiver (Received d.message) NoFault).world
      delivered = record {
        event = Deliver there.number;
        at = ap (λ (o : Option Datagram). option_map_or part
            (option_and_then (λ (e : Datagram). if tx_eq tx (message_tx e.message) then Some e.receiver else None) o) false) there.there
            ∙ ap (λ (l : Letter). option_map_or part (if tx_eq tx (message_tx l.message) then Some l.receiver else None) false) there.is
            ∙ ap (λ (t : Bool). option_map_or part (if t then Some d.receiver else None) false)
            ((tx_decides tx (message_tx d.message)).1 (sym about))
            ∙ at;
        floors = refl;
        beside_after = subst (λ (w : World). IsBeside (at_node config (with_mark a n) d.receiver (Received d.message) NoFault).world w)
            (sym arrives)
            (input_beside (with_mark a n) (with_mark world.machine there.number) (marked there.number) (world.floor d.receiver) d.receiver
            (Received d.message)
            (subst (λ (t : TxParts). is_below (world.floor d.receiver) t ≡ false) (sym about) (above d.receiver at))
            (λ t on. sym on ∙ about));
      }

    handed : (n : ℕ) (o : Option Datagram) → datagram_at a.net n ≡ o
        → option_map_or part (option_map (λ (d : Datagram). d.receiver) o) false ≡ true
        → IsFloored (if_found a (λ d. at_node config (with_mark a n) d.receiver (Received d.message) NoFault) o).world
    handed n None is at = absurd (cc (at))
    handed n (Some d) is at = delivered n d is at

    floored : (event : Event) → option_map_or part (happens_at a tx event) false ≡ true
        → IsFloored (world_step config a event NoFault).world
    floored (Restart who) at = record {
      event = Restart who;
      at = at;
      floors = refl;
      beside_after = restart_beside a world.machine beside who;
    }
    floored (Ask who (Timeout other)) at = timed_out who other (tx_eq tx other) refl at
    floored (Deliver n) at = handed n (datagram_at a.net n) refl at
    floored event at = absurd (cc (at))

  -- ---- one event after another

  module _ (part : NodeId → Bool) where
    record AreFloored (world : FlooredWorld) (after : World) : Type 0 where
      events : List Event
      at : are_on config part tx world events ≡ true
      floors : (floored_after config world events).floor ≡ world.floor
      nodes_are : after.nodes ≡ (floored_after config world events).machine.nodes

    all_floored : (events : List Event) (a : World) (world : FlooredWorld) → IsBeside a world.machine
        → ((who : NodeId) → part who ≡ true → is_below (world.floor who) tx ≡ false) → are_at config part tx a events ≡ true
        → AreFloored world (world_after config a (without_fault events))
    all_floored [] a world beside above at = record { events = []; at = refl; floors = refl; nodes_are = beside.nodes_are }
    all_floored (event ∷ events) a world beside above at =
        let next : World = (world_step config a event NoFault).world in
        let parts = and_parts (option_map_or part (happens_at a tx event) false) (are_at config part tx next events) at in
        let one = floored part a world beside above event parts.0 in
        let later = floored_next config world one.event in
        let rest = all_floored events next later one.beside_after
        (λ who takes. subst (λ (floor : NodeId → Option Place). is_below (floor who) tx ≡ false)
        (sym one.floors) (above who takes)) parts.1 in
        record {
          events = one.event ∷ rest.events;
          at = and_from (option_map_or part (happens_on world.machine tx one.event) false) (are_on config part tx later rest.events)
              one.at rest.at;
          floors = rest.floors ∙ one.floors;
          nodes_are = rest.nodes_are;
        }

    -- what of a world was sent on the transaction
    abbrev on_it : Datagram → Bool
    on_it d = tx_eq tx (message_tx d.message)

    abbrev pub narrowed : World → World
    narrowed world = record world { net = filter on_it world.net }

    pub narrowed_beside : (world : World) → IsBeside (narrowed world) world
    narrowed_beside world = record {
      nodes_are = refl;
      sent = λ letter h.
          let from = IsIn-mapped letter_of (filter on_it world.net) letter h in
          subst (λ (l : Letter). IsIn (mail world.net) l) from.maps
          (IsIn-map letter_of world.net from.source (filter_kept on_it world.net from.source from.among).0);
      on = λ letter h.
          let from = IsIn-mapped letter_of (filter on_it world.net) letter h in
          let passes = (filter_kept on_it world.net from.source from.among).1 in
          subst (λ (l : Letter). message_tx l.message ≡ tx) from.maps (sym ((tx_decides tx (message_tx from.source.message)).0 passes));
    }

    -- the machine backs it
    pub narrowed_backed : (world : World) → IsReachable config world → IsBacked config (narrowed world)
    narrowed_backed world reach =
        record { machine = world; reach = reach; nodes_are = refl; sent = (narrowed_beside world).sent }

    -- so a run of the machine on the transaction alone leads to the same with floors
    pub leads_beside : (P : FlooredWorld → Type 0) (world : FlooredWorld) (Q : World → Type 0) (a : World) → IsBeside a world.machine
        → ((after : World) (floored : FlooredWorld) → after.nodes ≡ floored.machine.nodes → floored.floor ≡ world.floor
        → Q after → P floored)
        → ((who : NodeId) → part who ≡ true → is_below (world.floor who) tx ≡ false)
        → Leads config part tx Q a → LeadsFloored config part tx P world
    leads_beside P world Q a beside makes above run =
        let all = all_floored run.events a world beside above run.at in
        record {
          events = all.events;
          at = all.at;
          holds = makes (world_after config a (without_fault run.events)) (floored_after config world all.events) all.nodes_are all.floors
              run.holds;
        }

    pub leads_floored : (P : FlooredWorld → Type 0) (world : FlooredWorld) (Q : World → Type 0)
        → ((after : World) (floored : FlooredWorld) → after.nodes ≡ floored.machine.nodes → floored.floor ≡ world.floor
        → Q after → P floored)
        → ((who : NodeId) → part who ≡ true → is_below (world.floor who) tx ≡ false)
        → Leads config part tx Q (narrowed world.machine) → LeadsFloored config part tx P world
    leads_floored P world Q = leads_beside P world Q (narrowed world.machine) (narrowed_beside world.machine)
