-- One event at a node, and what it leaves alone.
use Rattle.std.proofs.Common.{◌≡◌, ◌≢◌, ◌∙◌, Bool, true, false, not, if◌then◌else◌, List, [], ◌∷◌, ◌++◌, Option, Some, None}
use Rattle.std.proofs.Common.{ℕ, refl, sym, ap, subst, nat_le}
use Rattle.stable_record.specs.Frames.{frame_length}
use Rattle.std.proofs.lemmas.Bool.{cond-true}
use Rattle.std.specs.Option.{option_map}
use Rattle.xid.specs.Transactions.{TxParts, tx_eq}
use Rattle.xid.proofs.Deciding.{tx_self}
use Rattle.wire.specs.declared.message.Kind.{Kind}
use Rattle.ballot.specs.Greatest.{IsIn}
use Rattle.xid.specs.declared.refusals.Refusal.TheVariants.{NoSuch, Damaged}
use Rattle.protocol.specs.Basics.{Fact}
use Rattle.safety.specs.Vocabulary.{NodeId, Outgoing, Event, Ask, Deliver, Restart, Request, Timeout, Done, Refused}
use Rattle.protocol.specs.Effects.{Config, Effect, no_effect}
use Rattle.protocol.specs.Facts.{with_fact}
use Rattle.protocol.specs.Nodes.{NodeState, Memory, empty_memory, Input, Asked, Received, NoFault, Outcome, node_step, effect_of}
use Rattle.protocol.specs.Nodes.{accepts_input, answer_outcome, down_node, effect_outcome, stopped_append, finished_append, restart_outcome}
use Rattle.protocol.specs.Nodes.{all_play, is_message_inside, on_message}
use Rattle.protocol.proofs.Lists.{IsIn-before}
use Rattle.protocol.specs.Worlds.{World, Datagram, node_at, outcome_result, at_node, with_mark, mark_at, if_found, world_step}
use Rattle.safety.specs.Standing.{facts_of}
use Rattle.safety.proofs.World.NodePlaces.{node_there, node_elsewhere}
use Rattle.progress.specs.Runs.{happens_at}
use Rattle.progress.proofs.Mail.{Letter, mail, letters, marked_mail, posted_mail, deliverable}
use Rattle.progress.proofs.Backed.{AllAmong, IsBacked, HasOutcomeThere, backing_node, backed_after, play}

-- a node that is up, with no tear armed
abbrev pub quiet_node : List Fact → Memory → NodeState
quiet_node facts memory = record { facts = facts; up = true; tear = None; memory = memory }

abbrev pub IsQuiet : Config → World → NodeId → List Fact → Memory → Type 0
IsQuiet config world who facts memory = node_at config world who ≡ Some (quiet_node facts memory)

-- one node has changed, and something was sent
pub record IsMoved (config : Config) (before after : World) (who : NodeId) (node : NodeState) (sends : List Outgoing) : Type 0 where
  pub here : node_at config after who ≡ Some node
  pub others : (n : NodeId) → n ≢ who → node_at config after n ≡ node_at config before n
  pub posted : mail after.net ≡ mail before.net ++ letters config sends
  pub reach : IsBacked config before → IsBacked config after

-- an event without a fault at a node, and what it comes to
pub record HasStep (config : Config) (world : World) (tx : TxParts) (who : NodeId) (node : NodeState) (sends : List Outgoing)
    : Type 0 where
  pub event : Event
  pub happens : happens_at world tx event ≡ Some who
  pub moved : IsMoved config world (world_step config world event NoFault).world who node sends

-- ---- what a quiet node makes of an input

settled : (node : NodeState) (e : Effect Memory) (fact : Option Fact)
    → effect_outcome node e fact None NoFault ≡ finished_append node e (with_fact node.facts fact)
settled node e None = refl
settled node e (Some fact) = refl

pub quiet_step : (config : Config) (who : NodeId) (facts : List Fact) (memory : Memory) (input : Input)
    → accepts_input who input ≡ true
    → node_step config who (quiet_node facts memory) input NoFault
    ≡ finished_append (quiet_node facts memory) (effect_of config who facts memory input)
    (with_fact facts (effect_of config who facts memory input).fact)
quiet_step config who facts memory input takes =
    let node = quiet_node facts memory in
    let e = effect_of config who facts memory input in
    ap (λ (t : Bool). if not t then answer_outcome node (Refused NoSuch) else effect_outcome node e e.fact None NoFault) takes
    ∙ settled node e e.fact

module _ (config : Config) (world : World) (who : NodeId) (node : NodeState) (is : node_at config world who ≡ Some node) where
  -- any world with the node, and with what was sent here, comes to the same outcome
  abbrev pub ComesThere : Outcome → Type 0
  ComesThere left = (machine : World) → node_at config machine who ≡ Some node → AllAmong (mail world.net) (mail machine.net)
      → HasOutcomeThere config machine who node.facts left

  -- the world after an outcome, where marks were set before
  moved_by : (net : List Datagram) → mail net ≡ mail world.net → (left : Outcome) → ComesThere left → (after : World)
      → after ≡ (outcome_result config (record world { net = net }) who node.facts left).world
      → IsMoved config world after who left.node left.sends
  moved_by net same left there after e =
      let marked : World = record world { net = net } in record {
        here = subst (λ (w : World). node_at config w who ≡ Some left.node) (sym e) (node_there config marked who node left.node is);
        others = λ n apart. subst (λ (w : World). node_at config w n ≡ node_at config world n) (sym e)
            (node_elsewhere config marked who n left.node apart);
        posted = ap (λ (w : World). mail w.net) e ∙ posted_mail config who net left.sends
            ∙ ap (λ (first : List Letter). first ++ letters config left.sends) same;
        reach = λ b. backed_after config world b who node.facts left
            (there b.machine (backing_node config world b who ∙ is) b.sent) net same after e;
      }

  -- an input at it, where marks were set before
  pub handed : (net : List Datagram) → mail net ≡ mail world.net → (input : Input)
      → ComesThere (node_step config who node input NoFault) → (after : World)
      → after ≡ (at_node config (record world { net = net }) who input NoFault).world
      → IsMoved config world after who (node_step config who node input NoFault).node (node_step config who node input NoFault).sends
  handed net same input there after e =
      let marked : World = record world { net = net } in
      moved_by net same (node_step config who node input NoFault) there after
      (e ∙ ap (λ (o : Option NodeState).
      (if_found marked (λ found. outcome_result config marked who found.facts (node_step config who found input NoFault)) o).world) is)

  -- a request of it, wherever it is
  pub asked_there : (request : Request) → ComesThere (node_step config who node (Asked request) NoFault)
  asked_there request machine here some = record {
    event = Ask who request;
    net = machine.net;
    same = refl;
    comes = ap (λ (o : Option NodeState). (if_found machine
        (λ found. outcome_result config machine who found.facts (node_step config who found (Asked request) NoFault)) o).world) here;
  }

  -- and a delivery, wherever the message was sent to it
  pub received_there : (message : Kind) → IsIn (mail world.net) (record { receiver = who; message = message })
      → ComesThere (node_step config who node (Received message) NoFault)
  received_there message h machine here some =
      let at = deliverable machine.net (record { receiver = who; message = message })
      (some (record { receiver = who; message = message }) h) in
      let marked : World = with_mark machine at.number in
      record {
        event = Deliver at.number;
        net = mark_at machine.net at.number;
        same = marked_mail machine.net at.number;
        comes = ap (λ (o : Option Datagram). (if_found machine
            (λ d. at_node config marked d.receiver (Received d.message) NoFault) o).world) at.there
            ∙ ap (λ (letter : Letter). (at_node config marked letter.receiver (Received letter.message) NoFault).world) at.is
            ∙ ap (λ (o : Option NodeState). (if_found marked
            (λ found. outcome_result config marked who found.facts (node_step config who found (Received message) NoFault)) o).world) here;
      }

  -- it is restarted, where its facts play
  abbrev fresh : NodeState
  fresh = record { facts = node.facts; up = true; tear = node.tear; memory = empty_memory }

  restart_is : all_play config who [] node.facts ≡ true → (machine : World) → node_at config machine who ≡ Some node
      → (world_step config machine (Restart who) NoFault).world
      ≡ (outcome_result config machine who node.facts (answer_outcome fresh Done)).world
  restart_is plays machine here =
      ap (λ (o : Option NodeState). (if_found machine
      (λ found. outcome_result config machine who found.facts (restart_outcome config who found NoFault)) o).world) here
      ∙ ap (λ (t : Bool). (outcome_result config machine who node.facts
      (if t then answer_outcome fresh Done else answer_outcome (down_node node) (Refused Damaged))).world) plays

  module _ (tx : TxParts) where
    -- a timeout of the transaction
    pub timed_out : HasStep config world tx who (node_step config who node (Asked (Timeout tx)) NoFault).node
        (node_step config who node (Asked (Timeout tx)) NoFault).sends
    timed_out = record {
      event = Ask who (Timeout tx);
      happens = cond-true (tx_eq tx tx) (Some who) None (tx_self tx);
      moved = handed world.net refl (Asked (Timeout tx)) (asked_there (Timeout tx))
          (world_step config world (Ask who (Timeout tx)) NoFault).world refl;
    }

    -- a delivery of what was sent to it
    pub delivered : (message : Kind) → IsIn (mail world.net) (record { receiver = who; message = message })
        → HasStep config world tx who (node_step config who node (Received message) NoFault).node
        (node_step config who node (Received message) NoFault).sends
    delivered message h =
        let at = deliverable world.net (record { receiver = who; message = message }) h in
        let event : Event = Deliver at.number in
        let receiver : at.datagram.receiver ≡ who = ap (λ (letter : Letter). letter.receiver) at.is in
        record {
          event = event;
          happens = ap (λ (o : Option Datagram). option_map (λ (d : Datagram). d.receiver) o) at.there ∙ ap Some receiver;
          moved = handed (mark_at world.net at.number) (marked_mail world.net at.number) (Received message) (received_there message h)
              (world_step config world event NoFault).world
              (ap (λ (o : Option Datagram). (if_found world
              (λ d. at_node config (with_mark world at.number) d.receiver (Received d.message) NoFault) o).world) at.there
              ∙ ap (λ (letter : Letter).
              (at_node config (with_mark world at.number) letter.receiver (Received letter.message) NoFault).world) at.is);
        }

    -- a restart
    pub restarted : IsBacked config world
        → HasStep config world tx who (record { facts = node.facts; up = true; tear = node.tear; memory = empty_memory }) []
    restarted b =
        let plays : all_play config who [] node.facts ≡ true =
        subst (λ (o : Option NodeState). all_play config who [] (facts_of o) ≡ true) is (play config world b who) in
        record {
          event = Restart who;
          happens = refl;
          moved = moved_by world.net refl (answer_outcome fresh Done)
              (λ machine here some. record { event = Restart who; net = machine.net; same = refl; comes = restart_is plays machine here })
              (world_step config world (Restart who) NoFault).world (restart_is plays world is);
        }

-- ---- quiet nodes

module _ (config : Config) (world : World) (tx : TxParts) (who : NodeId) (facts : List Fact) (memory : Memory)
    (is : IsQuiet config world who facts memory) where
  -- what an input comes to at a quiet node, which stays quiet
  abbrev pub HasQuietStep : Effect Memory → Type 0
  HasQuietStep e = HasStep config world tx who (quiet_node (with_fact facts e.fact) e.memory) e.sends

  quietly : (input : Input) → accepts_input who input ≡ true
      → HasStep config world tx who (node_step config who (quiet_node facts memory) input NoFault).node
      (node_step config who (quiet_node facts memory) input NoFault).sends
      → HasQuietStep (effect_of config who facts memory input)
  quietly input takes step =
      subst (λ (left : Outcome). HasStep config world tx who left.node left.sends) (quiet_step config who facts memory input takes) step

  pub quiet_timeout : accepts_input who (Asked (Timeout tx)) ≡ true → HasQuietStep (effect_of config who facts memory (Asked (Timeout tx)))
  quiet_timeout takes = quietly (Asked (Timeout tx)) takes (timed_out config world who (quiet_node facts memory) is tx)

  pub quiet_delivery : (message : Kind) → IsIn (mail world.net) (record { receiver = who; message = message })
      → HasQuietStep (effect_of config who facts memory (Received message))
  quiet_delivery message h = quietly (Received message) refl (delivered config world who (quiet_node facts memory) is tx message h)

  -- a message of the cluster, by its rule
  pub quiet_message : (message : Kind) → is_message_inside config message ≡ true
      → IsIn (mail world.net) (record { receiver = who; message = message }) → HasQuietStep (on_message config who facts memory message)
  quiet_message message inside h =
      subst (λ (e : Effect Memory). HasQuietStep e)
      (cond-true (is_message_inside config message) (on_message config who facts memory message) (no_effect memory) inside)
      (quiet_delivery message h)

-- what was in the mail stays there
pub mail_stays : (config : Config) (before after : World) (who : NodeId) (node : NodeState) (sends : List Outgoing)
    → IsMoved config before after who node sends → (letter : Letter) → IsIn (mail before.net) letter → IsIn (mail after.net) letter
mail_stays config before after who node sends moved letter h =
    subst (λ (post : List Letter). IsIn post letter) (sym moved.posted) (IsIn-before (mail before.net) (letters config sends) letter h)

-- ---- nodes with a tear armed

-- a node that is up, with a tear armed
abbrev pub armed_node : List Fact → Memory → ℕ → NodeState
armed_node facts memory n = record { facts = facts; up = true; tear = Some n; memory = memory }

-- what a stopped append leaves of the facts
abbrev pub torn_facts : List Fact → Fact → (whole : Bool) → List Fact
torn_facts facts fact whole = if whole then facts ++ fact ∷ [] else facts

-- what a stopped append leaves
abbrev pub torn_node : List Fact → Fact → (whole : Bool) → NodeState
torn_node facts fact whole = record { facts = torn_facts facts fact whole; up = false; tear = None; memory = empty_memory }

torn_step : (config : Config) (who : NodeId) (facts : List Fact) (memory : Memory) (n : ℕ) (input : Input) (fact : Fact)
    → accepts_input who input ≡ true → (effect_of config who facts memory input).fact ≡ Some fact
    → node_step config who (armed_node facts memory n) input NoFault
    ≡ stopped_append (armed_node facts memory n) fact (nat_le (frame_length fact) n)
torn_step config who facts memory n input fact takes stores =
    let node = armed_node facts memory n in
    let e = effect_of config who facts memory input in
    ap (λ (t : Bool). if not t then answer_outcome node (Refused NoSuch) else effect_outcome node e e.fact (Some n) NoFault) takes
    ∙ ap (λ (o : Option Fact). effect_outcome node e o (Some n) NoFault) stores

module _ (config : Config) (world : World) (tx : TxParts) (who : NodeId) (facts : List Fact) (memory : Memory) (n : ℕ) (fact : Fact)
    (is : node_at config world who ≡ Some (armed_node facts memory n)) where
  abbrev pub HasTornStep : Type 0
  HasTornStep = HasStep config world tx who (torn_node facts fact (nat_le (frame_length fact) n)) []

  torn_by : (input : Input) → accepts_input who input ≡ true → (effect_of config who facts memory input).fact ≡ Some fact
      → HasStep config world tx who (node_step config who (armed_node facts memory n) input NoFault).node
      (node_step config who (armed_node facts memory n) input NoFault).sends → HasTornStep
  torn_by input takes stores step =
      subst (λ (left : Outcome). HasStep config world tx who left.node left.sends)
      (torn_step config who facts memory n input fact takes stores) step

  -- a timeout whose append is stopped
  pub torn_timeout : accepts_input who (Asked (Timeout tx)) ≡ true
      → (effect_of config who facts memory (Asked (Timeout tx))).fact ≡ Some fact → HasTornStep
  torn_timeout takes stores = torn_by (Asked (Timeout tx)) takes stores (timed_out config world who (armed_node facts memory n) is tx)

  -- and a delivery
  pub torn_delivery : (message : Kind) → IsIn (mail world.net) (record { receiver = who; message = message })
      → is_message_inside config message ≡ true → (on_message config who facts memory message).fact ≡ Some fact → HasTornStep
  torn_delivery message h inside stores =
      torn_by (Received message) refl
      (ap (λ (e : Effect Memory). e.fact)
      (cond-true (is_message_inside config message) (on_message config who facts memory message) (no_effect memory) inside) ∙ stores)
      (delivered config world who (armed_node facts memory n) is tx message h)
