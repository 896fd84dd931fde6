-- How a cluster goes on from a world to another, at one process: step after step, by a group at its node, and by an event that hands it no
-- input. What a process is handed, and what else befalls it, is proved by these.
-- Needed by Clusters, Heard, Reopened, Single, Taken and Upkept.
use Rattle.std.proofs.Common.{◌≡◌, ◌∙◌, Bool, true, false, if◌then◌else◌, List, [], ◌∷◌, ◌++◌, length, Option, refl, sym, ap}
use Rattle.std.proofs.Common.{subst, append-nil, append_assoc}
use Rattle.std.specs.List.{AllByRecursion, flat_map}
use Rattle.std.proofs.lemmas.Grind.{flat_map-append}
use Rattle.xid.specs.Places.{Place}
use Rattle.protocol.specs.declared.decisions.Outgoing.{Outgoing}
use Rattle.protocol.specs.declared.nodes.NodeId.{NodeId}
use Rattle.protocol.specs.Effects.{Config}
use Rattle.protocol.specs.Nodes.{NodeState, Fault, NoFault, NoMemoryBefore, NoMemoryAt, RecordFails}
use Rattle.protocol.specs.Worlds.{Datagram, datagrams_of}
use Rattle.safety.proofs.World.NodePlaces.{node_there, node_elsewhere}
use Rattle.groups.specs.Runs.{Handed, CanBeHanded}
use Rattle.floors.specs.Worlds.{FlooredWorld, FlooredEvent, FlooredResult, Notice, floored_dispatch, floored_step}
use Rattle.floored.specs.Nodes.{FlooredStands}
use Rattle.floored.specs.Told.{told_at}
use Rattle.port.specs.Members.{MemberParts}
use Rattle.floored_groups.specs.Runs.{IsFlooredReached, Grouped, Kept, FlooredHappening, Underwent, all_taken, taken_in, floored_node_after}
use Rattle.floored_groups.specs.Runs.{floored_sends_after, floored_group_result, is_floored_upkeep}
use Rattle.floored_groups.specs.Processes.{StandsIn, OthersStay, GoesOn}

-- ---- step after step

module _ (config : Config) (who : NodeId) where
  -- in the same world every other node is as it was
  pub others_same : (world : FlooredWorld) → OthersStay config world world who
  others_same world = record {
    nodes_are = λ other apart. refl;
    floors_are = λ other apart. refl;
    told_are = λ other apart. refl;
    replaced_are = refl;
  }

  others_then : (a b c : FlooredWorld) → OthersStay config a b who → OthersStay config b c who → OthersStay config a c who
  others_then a b c x y = record {
    nodes_are = λ other apart. y.nodes_are other apart ∙ x.nodes_are other apart;
    floors_are = λ other apart. y.floors_are other apart ∙ x.floors_are other apart;
    told_are = λ other apart. y.told_are other apart ∙ x.told_are other apart;
    replaced_are = y.replaced_are ∙ x.replaced_are;
  }

  -- nothing happened
  pub stays_on : (world : FlooredWorld) (reach : IsFlooredReached config world) (member : MemberParts)
      → StandsIn config world who member → GoesOn config world reach who member [] [] []
  stays_on world reach member s = record {
    after = world;
    reached = reach;
    stands = s;
    others = others_same world;
    net_is = sym (append-nil world.machine.net);
    notices_are = sym (append-nil world.notices);
    happened_is = sym (append-nil (all_taken config world reach));
  }

  -- two steps make one
  pub goes_then : (world : FlooredWorld) (reach : IsFlooredReached config world) (mid new : MemberParts) (sends more : List Outgoing)
      (told others : List Notice) (happened later : List FlooredHappening)
      (g : GoesOn config world reach who mid sends told happened) → GoesOn config g.after g.reached who new more others later
      → GoesOn config world reach who new (sends ++ more) (told ++ others) (happened ++ later)
  goes_then world reach mid new sends more told others happened later g r = record {
    after = r.after;
    reached = r.reached;
    stands = r.stands;
    others = others_then world g.after r.after g.others r.others;
    net_is =
        r.net_is ∙ ap (λ (net : List Datagram). net ++ flat_map (datagrams_of config who) more) g.net_is
        ∙ append_assoc world.machine.net (flat_map (datagrams_of config who) sends) (flat_map (datagrams_of config who) more)
        ∙ ap (λ (net : List Datagram). world.machine.net ++ net) (sym (flat_map-append (datagrams_of config who) sends more));
    notices_are =
        r.notices_are ∙ ap (λ (all : List Notice). all ++ others) g.notices_are ∙ append_assoc world.notices told others;
    happened_is =
        r.happened_is ∙ ap (λ (all : List FlooredHappening). all ++ later) g.happened_is
        ∙ append_assoc (all_taken config world reach) happened later;
  }

  -- what was sent, told and happened may be spelled otherwise
  pub goes_as : (world : FlooredWorld) (reach : IsFlooredReached config world) (new : MemberParts) (sends others : List Outgoing)
      (told more : List Notice) (happened also : List FlooredHappening) → sends ≡ others → told ≡ more → happened ≡ also
      → GoesOn config world reach who new sends told happened → GoesOn config world reach who new others more also
  goes_as world reach new sends others told more happened also s t h g = record {
    after = g.after;
    reached = g.reached;
    stands = g.stands;
    others = g.others;
    net_is = g.net_is ∙ ap (λ (x : List Outgoing). world.machine.net ++ flat_map (datagrams_of config who) x) s;
    notices_are = g.notices_are ∙ ap (λ (x : List Notice). world.notices ++ x) t;
    happened_is = g.happened_is ∙ ap (λ (x : List FlooredHappening). all_taken config world reach ++ x) h;
  }

  -- ---- by an event that hands no input

  -- by an event whose result is known
  pub goes_by : (world : FlooredWorld) (reach : IsFlooredReached config world) (event : FlooredEvent) (fault : Fault)
      → is_floored_upkeep event ≡ true → (result : FlooredResult) → floored_step config world event fault ≡ result → (new : MemberParts)
      → StandsIn config result.world who new → OthersStay config world result.world who
      → result.world.machine.net ≡ world.machine.net → (told : List Notice) → result.world.notices ≡ world.notices ++ told
      → GoesOn config world reach who new [] told (Underwent event result.answer ∷ [])
  goes_by world reach event fault is result e new stands others net told notices =
      subst (λ (r : FlooredResult). StandsIn config r.world who new → OthersStay config world r.world who
      → r.world.machine.net ≡ world.machine.net → r.world.notices ≡ world.notices ++ told
      → GoesOn config world reach who new [] told (Underwent event r.answer ∷ [])) e
      (λ stands others net notices. record {
        after = (floored_step config world event fault).world;
        reached = Kept world event fault reach is;
        stands = stands;
        others = others;
        net_is = net ∙ sym (append-nil world.machine.net);
        notices_are = notices;
        happened_is = refl;
      }) stands others net notices

-- a fault at which a node is reached
abbrev pub IsMet : Fault → Type 0
IsMet NoMemoryBefore = ⊥
IsMet fault = Unit {0}

-- what comes of an event then
pub met_step : (config : Config) (world : FlooredWorld) (event : FlooredEvent) (fault : Fault) → IsMet fault
    → floored_step config world event fault ≡ floored_dispatch config world event fault
met_step config world event NoMemoryBefore met = absurd met
met_step config world event NoFault met = refl
met_step config world event NoMemoryAt met = refl
met_step config world event (RecordFails whole) met = refl

-- ---- by a group

module _ (config : Config) (world : FlooredWorld) (reach : IsFlooredReached config world) (who : NodeId) (old new : MemberParts)
    (s : StandsIn config world who old) (group : List Handed)
    (all : AllByRecursion (λ (h : Handed). CanBeHanded world.machine who h.input) group) (is_stored : Bool) where
  abbrev floor : Option Place
  floor = world.floor who

  abbrev last : NodeState
  last = floored_node_after config who floor s.state group

  net_by : (t : Bool) (net : List Datagram) (sends : List Outgoing)
      → (if t then net ++ flat_map (datagrams_of config who) sends else net)
      ≡ net ++ flat_map (datagrams_of config who) (if t then sends else [])
  net_by true net sends = refl
  net_by false net sends = sym (append-nil net)

  -- by a group after which a member stands for the node
  pub goes_group : FlooredStands config new.floored last → new.floored.node.who ≡ old.floored.node.who
      → new.floored.floor ≡ old.floored.floor → new.told ≡ old.told
      → GoesOn config world reach who new (if is_stored then floored_sends_after config who floor s.state group else []) []
      (taken_in config who floor s.state group)
  goes_group stands who_is floor_is told_is = record {
    after = floored_group_result config world who s.state group is_stored;
    reached = Grouped world who s.state group is_stored reach s.there all;
    stands = record {
      state = last;
      there = node_there config world.machine who s.state last s.there;
      is = stands;
      who_is = who_is ∙ s.who_is;
      floor_is = floor_is ∙ s.floor_is;
      told_count = ap length told_is ∙ s.told_count;
      told_are = λ rm few. ap (λ (told : List (Option Place)). told_at told rm) told_is ∙ s.told_are rm few;
    };
    others = record {
      nodes_are = λ other apart. node_elsewhere config world.machine who other last apart;
      floors_are = λ other apart. refl;
      told_are = λ other apart. refl;
      replaced_are = refl;
    };
    net_is = net_by is_stored world.machine.net (floored_sends_after config who floor s.state group);
    notices_are = sym (append-nil world.notices);
    happened_is = refl;
  }
