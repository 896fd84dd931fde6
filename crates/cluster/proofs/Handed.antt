-- What the functions of this crate make of each event at which no floor rises.
-- Needed by 9 functions of this crate.
use Rattle.std.proofs.Common.{◌≡◌, ◌∙◌, ℕ, ◌*◌, ◌<◌, ◌≤◌, true, false, List, [], ◌∷◌, length, take, get_or, set, Option, Some, None, refl}
use Rattle.std.proofs.Common.{sym, ap, subst, arith}
use Rattle.std.specs.Prelude.{is_some}
use Rattle.std.specs.List.{flat_map}
use Rattle.std.specs.Option.{option_map_or}
use Rattle.xid.specs.declared.refusals.Refusal.TheVariants as refusals
use Rattle.wire.specs.Decoding.{message_at}
use Rattle.wire.specs.Grammar.{Spells, spelling}
use Rattle.wire.specs.declared.grammar.TheConstants.{MAX_MESSAGE_BYTES}
use Rattle.wire.specs.declared.message.Kind.{Kind}
use Rattle.stable_record.specs.declared.fact.FactKind.{FactKind as Fact}
use Rattle.protocol.specs.declared.answers.Answer.TheVariants.{Done, Refused}
use Rattle.protocol.specs.declared.events.Event.{Event}
use Rattle.protocol.specs.declared.events.Event.TheVariants.{Ask, Deliver, Lose, Cut, Noise, Tear, Restart, Compact}
use Rattle.protocol.specs.declared.nodes.NodeId.{NodeId}
use Rattle.protocol.specs.declared.requests.Request.{Request}
use Rattle.protocol.specs.Effects.{Config}
use Rattle.protocol.specs.Nodes.{NodeState, Memory, Input, Asked, Received, ReceivedNoise, effect_of, on_request}
use Rattle.protocol.specs.Worlds.{World, Datagram, place, node_at, datagram_at, mark_at, with_mark, datagrams_of, if_found, answer_result}
use Rattle.node_core.specs.declared.config.Sizes.{Sizes}
use Rattle.node_core.specs.declared.output.Output.{Output}
use Rattle.node_core.specs.Nodes.{AreSizes, datagram_input}
use Rattle.floors.specs.Worlds.{FlooredWorld, nothing_told}
use Rattle.node_core.specs.Configs.{config_by}
use Rattle.node_core.proofs.Hearing.{is_received}
use Rattle.floored.specs.Nodes.{FlooredParts, FlooredStands, FlooredStepsAs}
use Rattle.network.specs.Networks.{DatagramParts, NetworkParts, StandsFor, Finds, IsKept}
use Rattle.cluster.specs.declared.handing.Answered.{Answered}
use Rattle.cluster.specs.Clusters.{ClusterParts, NoticesParts, cluster_of, ClusterStands, IsSound, ReachesAs, HappensAs, Reaches}
use Rattle.cluster.specs.Sending.{HaveSent, HasRoom}
use Rattle.cluster.proofs.Bounds.{count}
use Rattle.cluster.proofs.Sent.{none_sent}
use Rattle.cluster.proofs.Standing.{is_there, none_there, told_elsewhere}
use Rattle.cluster.proofs.Reaching.{reached, sends_few, room_less}
use Rattle.cluster.proofs.Occurring.{cut_is_noise, mark_absent, occurs_asked, occurs_delivered, occurs_cut, unlost, occurs_forged}
use Rattle.cluster.proofs.Occurring.{reaches_none, refused_before, not_torn, not_restarted, not_compacted, undelivered, uncut, not_cut}
use Rattle.cluster.proofs.Occurring.{occurs_lost, with_network, with_marked}

none_left : {X : Type 0} (xs : List X) → length xs ≤ 0 → [] ≡ xs
none_left [] le = refl
none_left (x ∷ xs) le = absurd (omega (arith, le))

-- what a node's step says of the one that was read from the list
abbrev pub Stepped : Input → (node new : FlooredParts) → Output → Type 0
Stepped input node new out = (config : Config) (m : NodeState) → FlooredStands config node m → FlooredStepsAs config m input node new out

module _ (config : Config) (world : FlooredWorld) (sizes : Sizes) (nodes : List FlooredParts) (network : NetworkParts)
    (notices : NoticesParts) (s : ClusterStands config (cluster_of sizes nodes network notices) world) (who : NodeId) (at : ℕ)
    (is : Some at ≡ place (config_by sizes []) who) (input : Input) (node new : FlooredParts) (out : Output)
    (read : node ≡ get_or nodes at node) (steps : Stepped input node new out) where
  by_place : Stepped input (get_or nodes at node) new out
  by_place = subst (λ (n : FlooredParts). Stepped input n new out) read steps

  -- its sends fit
  pub fits : (n : ℕ)
      → ((config : Config) → AreSizes config sizes → (facts : List Fact) (memory : Memory)
      → count config who (effect_of config who facts memory input).sends ≤ n)
      → length (flat_map (datagrams_of (config_by sizes []) who) out.sends) ≤ n
  fits n bound = sends_few config world sizes nodes network notices s who at (sym is) input node new out by_place n bound

  pub handed_on : (after : NetworkParts) (answered : Answered)
      → HaveSent network after (flat_map (datagrams_of (config_by sizes []) who) out.sends)
      → answered.answer ≡ out.reply → answered.now ≡ out.now
      → ReachesAs config world world.machine who input (cluster_of sizes nodes network notices)
      (cluster_of sizes (set nodes at new) after notices) answered
  handed_on after answered so answer_is now_is =
      reached config world sizes nodes network notices s who at (sym is) input node new out by_place after answered so answer_is now_is

-- ---- no such node, and no room

module _ (config : Config) (world : FlooredWorld) (sizes : Sizes) (nodes : List FlooredParts) (network : NetworkParts)
    (notices : NoticesParts) (s : ClusterStands config (cluster_of sizes nodes network notices) world) (who : NodeId)
    (none : None ≡ place (config_by sizes []) who) (answered : Answered)
    (answer_is : answered.answer ≡ Refused refusals.NoSuch) (now_is : answered.now ≡ None) where
  abbrev cluster : ClusterParts
  cluster = cluster_of sizes nodes network notices

  absent : node_at config world.machine who ≡ None
  absent = none_there config world sizes nodes network notices s who (sym none)

  -- a node that isn't there is handed nothing
  pub nowhere : (input : Input) → ReachesAs config world world.machine who input cluster cluster answered
  nowhere input = reaches_none config world cluster cluster answered refl refl who input absent answer_is now_is s

  -- a request to one
  pub asked_nowhere : (request : Request) → HappensAs config world (Ask who request) cluster cluster answered
  asked_nowhere request = occurs_asked config world cluster cluster answered s who request (nowhere (Asked request))

  -- a tear of one
  pub torn_nowhere : (n : ℕ) → HappensAs config world (Tear who n) cluster cluster answered
  torn_nowhere n = not_torn config world cluster cluster answered s refl refl who absent n answer_is now_is s

  -- a restart of one
  pub restarted_nowhere : HappensAs config world (Restart who) cluster cluster answered
  restarted_nowhere = not_restarted config world cluster cluster answered s refl refl who absent answer_is now_is
      (record {
        sizes_are = s.sizes_are;
        nodes_are = s.nodes_are;
        net_is = s.net_is;
        told_are = told_elsewhere config world sizes nodes network notices s who (sym none) nothing_told;
        notices_are = s.notices_are;
      })

  -- a compaction of one
  pub compacted_nowhere : HappensAs config world (Compact who) cluster cluster answered
  compacted_nowhere = not_compacted config world cluster cluster answered s refl refl who absent answer_is now_is s

  -- bytes for one that spell a message
  pub forged_nowhere : (bytes : List ℕ) (k : Kind) → Spells k bytes
      → HappensAs config world (Noise who bytes) cluster cluster answered
  forged_nowhere bytes k spells =
      occurs_forged config world cluster cluster answered s who bytes refl refl k spells (Refused refusals.NoSuch)
      (ap (if_found world.machine (λ (node : NodeState). answer_result world.machine (Refused refusals.Forged))) absent) answer_is now_is s

-- no room was made, and the network stands for what it stood for
pub no_room : (event : Event) (sizes : Sizes) (nodes : List FlooredParts) (before after : NetworkParts) (notices : NoticesParts)
    → ((net : List Datagram) → StandsFor before net → StandsFor after net) → (answered : Answered)
    → answered.answer ≡ Refused refusals.NoMemory
    → answered.now ≡ None → (config : Config) (world : FlooredWorld)
    → ClusterStands config (cluster_of sizes nodes before notices) world
    → HappensAs config world event (cluster_of sizes nodes before notices) (cluster_of sizes nodes after notices) answered
no_room event sizes nodes before after notices same answered answer_is now_is config world s =
    refused_before config world event (cluster_of sizes nodes before notices) (cluster_of sizes nodes after notices) answered s refl refl
    answer_is now_is (with_network config world sizes nodes before after notices same s)

-- ---- noise

noise_input : (bytes : List ℕ) → message_at bytes ≡ None → datagram_input bytes ≡ ReceivedNoise
noise_input bytes none = ap (λ (o : Option Kind). option_map_or Received o ReceivedNoise) none

noise_few : (config : Config) (who : NodeId) (facts : List Fact) (memory : Memory)
    → count config who (effect_of config who facts memory ReceivedNoise).sends ≤ 0
noise_few config who facts memory = omega arith

-- bytes that spell no message
pub noise_handed : (config : Config) (world : FlooredWorld) (sizes : Sizes) (nodes : List FlooredParts) (network : NetworkParts)
    (notices : NoticesParts) → ClusterStands config (cluster_of sizes nodes network notices) world → (who : NodeId) (at : ℕ)
    → Some at ≡ place (config_by sizes []) who
    → (bytes : List ℕ) → message_at bytes ≡ None → (node new : FlooredParts) (out : Output) → node ≡ get_or nodes at node
    → Stepped (datagram_input bytes) node new out
    → (answered : Answered) → answered.answer ≡ out.reply → answered.now ≡ out.now
    → ReachesAs config world world.machine who ReceivedNoise (cluster_of sizes nodes network notices)
    (cluster_of sizes (set nodes at new) network notices) answered
noise_handed config world sizes nodes network notices s who at is bytes none node new out read steps answered answer_is now_is =
    let noise : Stepped ReceivedNoise node new out = subst (λ (i : Input). Stepped i node new out) (noise_input bytes none) steps in
    let few : length (flat_map (datagrams_of (config_by sizes []) who) out.sends) ≤ 0 =
    fits config world sizes nodes network notices s who at is ReceivedNoise node new out read noise 0
    (λ c are facts memory. noise_few c who facts memory) in
    handed_on config world sizes nodes network notices s who at is ReceivedNoise node new out read noise network answered
    (subst (λ (more : List Datagram). HaveSent network network more) (none_left _ few) (none_sent network)) answer_is now_is

-- a cut
module _ (network : NetworkParts) (n k : ℕ) (kept : DatagramParts)
    (finds : (net : List Datagram) → StandsFor network net → Finds net n (Some kept)) (lt : k < length kept.bytes) where
  -- the front of a datagram is no message
  pub cut_none : (net : List Datagram) → StandsFor network net → message_at (take k kept.bytes) ≡ None
  cut_none net s = let f = finds net s in cut_is_noise kept.bytes f.0.message k f.2.spells lt

  -- a datagram of which the front arrives
  pub cut_made : (sizes : Sizes) (nodes new : List FlooredParts) (answered : Answered)
      → ((other : NetworkParts) (notices : NoticesParts) → Reaches kept.receiver ReceivedNoise (cluster_of sizes nodes other notices)
      (cluster_of sizes new other notices) answered)
      → (notices : NoticesParts) (config : Config) (world : FlooredWorld)
      → ClusterStands config (cluster_of sizes nodes network notices) world
      → HappensAs config world (Cut n k) (cluster_of sizes nodes network notices) (cluster_of sizes new network notices) answered
  cut_made sizes nodes new answered reaches notices config world s =
      let f = finds world.machine.net s.net_is in
      let d : Datagram = f.0 in
      let is_kept : IsKept kept d = f.2 in
      let fewer : k < length (spelling d.message) = subst (λ (bytes : List ℕ). k < length bytes) is_kept.spells.spelled lt in
      occurs_cut config world (cluster_of sizes nodes network notices) (cluster_of sizes new network notices) answered s n d f.1 k fewer
      (subst (λ (who : NodeId). ReachesAs config world world.machine who ReceivedNoise (cluster_of sizes nodes network notices)
      (cluster_of sizes new network notices) answered)
      is_kept.receiver_is (reaches network notices config world s))

-- bytes that nobody sent, but that spell a message
pub forged_there : (config : Config) (world : FlooredWorld) (sizes : Sizes) (nodes : List FlooredParts) (network : NetworkParts)
    (notices : NoticesParts) → ClusterStands config (cluster_of sizes nodes network notices) world → (who : NodeId) (at : ℕ)
    → Some at ≡ place (config_by sizes []) who
    → (bytes : List ℕ) (k : Kind) → Spells k bytes → (answered : Answered) → answered.answer ≡ Refused refusals.Forged → answered.now ≡ None
    → HappensAs config world (Noise who bytes) (cluster_of sizes nodes network notices) (cluster_of sizes nodes network notices) answered
forged_there config world sizes nodes network notices s who at is bytes k spells answered answer_is now_is =
    let cluster : ClusterParts = cluster_of sizes nodes network notices in
    let m : (m : NodeState) × (node_at config world.machine who ≡ Some m) =
    is_there config world sizes nodes network notices s who at (sym is) in
    occurs_forged config world cluster cluster answered s who bytes refl refl k spells (Refused refusals.Forged)
    (ap (if_found world.machine (λ (node : NodeState). answer_result world.machine (Refused refusals.Forged))) m.1) answer_is now_is s

-- a number that none has
module _ (sizes : Sizes) (nodes : List FlooredParts) (network : NetworkParts) (n : ℕ)
    (absent : (net : List Datagram) → StandsFor network net → Finds net n None) (answered : Answered)
    (answer_is : answered.answer ≡ Refused refusals.NoSuch) (now_is : answered.now ≡ None) (notices : NoticesParts)
    (config : Config) (world : FlooredWorld) (s : ClusterStands config (cluster_of sizes nodes network notices) world) where
  abbrev unmoved : ClusterParts
  unmoved = cluster_of sizes nodes network notices

  -- a delivery of a datagram that isn't there
  pub delivered_none : HappensAs config world (Deliver n) unmoved unmoved answered
  delivered_none =
      undelivered config world unmoved unmoved answered s refl refl n (absent world.machine.net s.net_is) answer_is now_is s

  -- and of the front of one
  pub cut_absent : (k : ℕ) → HappensAs config world (Cut n k) unmoved unmoved answered
  cut_absent k = uncut config world unmoved unmoved answered s refl refl n k (absent world.machine.net s.net_is) answer_is now_is s

-- a cut that leaves nothing off
pub cut_nothing : (sizes : Sizes) (nodes : List FlooredParts) (network : NetworkParts) (n k : ℕ) (kept : DatagramParts)
    → ((net : List Datagram) → StandsFor network net → Finds net n (Some kept)) → length kept.bytes ≤ k → (answered : Answered)
    → answered.answer ≡ Refused refusals.NoSuch → answered.now ≡ None → (notices : NoticesParts) (config : Config) (world : FlooredWorld)
    → ClusterStands config (cluster_of sizes nodes network notices) world
    → HappensAs config world (Cut n k) (cluster_of sizes nodes network notices) (cluster_of sizes nodes network notices) answered
cut_nothing sizes nodes network n k kept finds le answered answer_is now_is notices config world s =
    let cluster : ClusterParts = cluster_of sizes nodes network notices in
    let f = finds world.machine.net s.net_is in
    not_cut config world cluster cluster answered s n f.0 f.1 refl refl k
    (subst (λ (bytes : List ℕ). length bytes ≤ k) f.2.spells.spelled le) answer_is now_is s

-- a number that none has is lost without a mark
pub lost_none : (network after : NetworkParts) (n : ℕ) (answered : Answered)
    → ((net : List Datagram) → StandsFor network net → false ≡ is_some (datagram_at net n))
    → ((net : List Datagram) → StandsFor network net → StandsFor after (mark_at net n))
    → answered.answer ≡ Refused refusals.NoSuch → answered.now ≡ None
    → (sizes : Sizes) (nodes : List FlooredParts) (notices : NoticesParts) (config : Config) (world : FlooredWorld)
    → ClusterStands config (cluster_of sizes nodes network notices) world
    → HappensAs config world (Lose n) (cluster_of sizes nodes network notices) (cluster_of sizes nodes after notices) answered
lost_none network after n answered absent marks answer_is now_is sizes nodes notices config world s =
    let none : datagram_at world.machine.net n ≡ None =
    no_some (datagram_at world.machine.net n) (absent world.machine.net s.net_is) in
    unlost config world (cluster_of sizes nodes network notices) (cluster_of sizes nodes after notices) answered s refl refl n none
    answer_is now_is
    (record {
      sizes_are = s.sizes_are;
      nodes_are = s.nodes_are;
      net_is =
          subst (λ (ds : List Datagram). StandsFor after ds) (mark_absent world.machine.net n none) (marks world.machine.net s.net_is);
      told_are = s.told_are;
      notices_are = s.notices_are;
    })
  where
    no_some : {X : Type 0} (o : Option X) → false ≡ is_some o → o ≡ None
    no_some None e = refl
    no_some (Some x) e = absurd (cc (e))

-- one that a datagram has is marked
pub lost_one : (network after : NetworkParts) (n : ℕ) (answered : Answered)
    → ((net : List Datagram) → StandsFor network net → true ≡ is_some (datagram_at net n))
    → ((net : List Datagram) → StandsFor network net → StandsFor after (mark_at net n))
    → answered.answer ≡ Done → answered.now ≡ None
    → (sizes : Sizes) (nodes : List FlooredParts) (notices : NoticesParts) (config : Config) (world : FlooredWorld)
    → ClusterStands config (cluster_of sizes nodes network notices) world
    → HappensAs config world (Lose n) (cluster_of sizes nodes network notices) (cluster_of sizes nodes after notices) answered
lost_one network after n answered there marks answer_is now_is sizes nodes notices config world s =
    let d = found_one (datagram_at world.machine.net n) (there world.machine.net s.net_is) in
    occurs_lost config world (cluster_of sizes nodes network notices) (cluster_of sizes nodes after notices) answered s n d.0 d.1 refl refl
    answer_is now_is (with_marked config world sizes nodes network after notices n marks s)
  where
    found_one : {X : Type 0} (o : Option X) → true ≡ is_some o → (x : X) × (o ≡ Some x)
    found_one None e = absurd (cc (e))
    found_one (Some x) e = (x, refl)

-- what is said of the nodes before holds whatever the network was, and of what was marked in it
as_before : (config : Config) (world : FlooredWorld) (machine : World) (who : NodeId) (input : Input) (sizes : Sizes)
    (nodes : List FlooredParts) (a b : NetworkParts) (notices : NoticesParts) (new : ClusterParts) (answered : Answered)
    → ReachesAs config (record world { machine = machine }) machine who input (cluster_of sizes nodes a notices) new answered
    → ReachesAs config world machine who input (cluster_of sizes nodes b notices) new answered
as_before config world machine who input sizes nodes a b notices new answered r =
    record {
      fault = r.fault;
      reached = r.reached;
      same = record { sizes_are = r.same.sizes_are; nodes_are = r.same.nodes_are };
      others = r.others;
      befalls = r.befalls;
      comes = record { answer_is = r.comes.answer_is; now_is = r.comes.now_is; stands = r.comes.stands };
    }

-- ---- a request

module _ (sizes : Sizes) (nodes : List FlooredParts) (network after : NetworkParts)
    (same : (net : List Datagram) → StandsFor network net → StandsFor after net)
    (who : NodeId) (at : ℕ) (is : Some at ≡ place (config_by sizes []) who) (request : Request)
    (node new : FlooredParts) (out : Output) (read : node ≡ get_or nodes at node) (steps : Stepped (Asked request) node new out) where
  -- there is room for what a request sends
  pub ask_room : (notices : NoticesParts) → IsSound (cluster_of sizes nodes network notices) → (n : ℕ)
      → ((config : Config) → AreSizes config sizes → (facts : List Fact) (memory : Memory)
      → count config who (on_request config who facts memory request).sends ≤ n)
      → HasRoom n after → HasRoom (length (flat_map (datagrams_of (config_by sizes []) who) out.sends)) after
  ask_room notices sound n bound room =
      room_less after (length (flat_map (datagrams_of (config_by sizes []) who) out.sends)) n
      (fits sound.config sound.world sizes nodes network notices sound.is who at is (Asked request) node new out read steps n bound) room

  -- a request
  pub ask_made : (final : NetworkParts) (answered : Answered)
      → HaveSent after final (flat_map (datagrams_of (config_by sizes []) who) out.sends)
      → answered.answer ≡ out.reply → answered.now ≡ out.now
      → (notices : NoticesParts) (config : Config) (world : FlooredWorld)
      → ClusterStands config (cluster_of sizes nodes network notices) world
      → HappensAs config world (Ask who request) (cluster_of sizes nodes network notices)
      (cluster_of sizes (set nodes at new) final notices) answered
  ask_made final answered so answer_is now_is notices config world s =
      let next : ClusterStands config (cluster_of sizes nodes after notices) world =
      with_network config world sizes nodes network after notices same s in
      occurs_asked config world (cluster_of sizes nodes network notices) (cluster_of sizes (set nodes at new) final notices) answered s who
      request
      (as_before config world world.machine who (Asked request) sizes nodes after network notices
      (cluster_of sizes (set nodes at new) final notices) answered
      (handed_on config world sizes nodes after notices next who at is (Asked request) node new out read steps final answered so answer_is
      now_is))

-- ---- a datagram

-- the room that a mark leaves
room_marked : (before after : NetworkParts) (n : ℕ) → after.spare ≡ before.spare → after.spare_bytes ≡ before.spare_bytes
    → HasRoom n before → HasRoom n after
room_marked before after n spare bytes room = record {
  datagrams = subst (λ (k : ℕ). n ≤ k) (sym spare) room.datagrams;
  bytes = subst (λ (k : ℕ). n * MAX_MESSAGE_BYTES ≤ k) (sym bytes) room.bytes;
}

module _ (sizes : Sizes) (nodes : List FlooredParts) (network after marked : NetworkParts) (n : ℕ)
    (same : (net : List Datagram) → StandsFor network net → StandsFor after net)
    (marks : (net : List Datagram) → StandsFor after net → StandsFor marked (mark_at net n))
    (first : DatagramParts) (finds : (net : List Datagram) → StandsFor network net → Finds net n (Some first)) where
  stands_marked : (notices : NoticesParts) (config : Config) (world : FlooredWorld)
      → ClusterStands config (cluster_of sizes nodes network notices) world
      → ClusterStands config (cluster_of sizes nodes marked notices) (record world { machine = with_mark world.machine n })
  stands_marked notices config world s =
      with_marked config world sizes nodes after marked notices n marks (with_network config world sizes nodes network after notices same s)

  -- to a node that isn't there
  pub deliver_nowhere : place (config_by sizes []) first.receiver ≡ None → (answered : Answered)
      → answered.answer ≡ Refused refusals.NoSuch → answered.now ≡ None
      → (notices : NoticesParts) (config : Config) (world : FlooredWorld)
      → ClusterStands config (cluster_of sizes nodes network notices) world
      → HappensAs config world (Deliver n) (cluster_of sizes nodes network notices) (cluster_of sizes nodes marked notices) answered
  deliver_nowhere nowhere answered answer_is now_is notices config world s =
      let f = finds world.machine.net s.net_is in
      let d : Datagram = f.0 in
      let machine : World = with_mark world.machine n in
      let receiver_is : first.receiver ≡ d.receiver = f.2.receiver_is in
      let none : node_at config world.machine d.receiver ≡ None =
      none_there config world sizes nodes network notices s d.receiver
      (ap (λ (w : NodeId). place (config_by sizes []) w) (sym receiver_is) ∙ nowhere) in
      occurs_delivered config world (cluster_of sizes nodes network notices) (cluster_of sizes nodes marked notices) answered s n d f.1
      (as_before config world machine d.receiver (Received d.message) sizes nodes network network notices
      (cluster_of sizes nodes marked notices) answered
      (reaches_none config (record world { machine = machine }) (cluster_of sizes nodes network notices)
      (cluster_of sizes nodes marked notices) answered refl refl d.receiver
      (Received d.message) none answer_is now_is (stands_marked notices config world s)))

  module _ (again : DatagramParts) (finds_again : (net : List Datagram) → StandsFor after net → Finds net n (Some again))
      (at : ℕ) (is : Some at ≡ place (config_by sizes []) first.receiver) (node new : FlooredParts) (out : Output)
      (read : node ≡ get_or nodes at node)
      (steps : Stepped (datagram_input again.bytes) node new out) where
    -- there is room for what a delivery sends
    pub deliver_room : (notices : NoticesParts) → IsSound (cluster_of sizes nodes network notices) → (most : ℕ)
        → ((config : Config) → AreSizes config sizes → (facts : List Fact) (memory : Memory) (bytes : List ℕ)
        → count config first.receiver (effect_of config first.receiver facts memory (datagram_input bytes)).sends ≤ most)
        → marked.spare ≡ after.spare → marked.spare_bytes ≡ after.spare_bytes
        → HasRoom most after
        → HasRoom (length (flat_map (datagrams_of (config_by sizes []) first.receiver) out.sends)) marked
    deliver_room notices sound most bound spare bytes room =
        room_less marked (length (flat_map (datagrams_of (config_by sizes []) first.receiver) out.sends)) most
        (fits sound.config sound.world sizes nodes network notices sound.is first.receiver at is
        (datagram_input again.bytes) node new out read steps most
        (λ config are facts memory. bound config are facts memory again.bytes))
        (room_marked after marked most spare bytes room)

    -- a delivery
    pub deliver_made : (final : NetworkParts) (answered : Answered)
        → HaveSent marked final (flat_map (datagrams_of (config_by sizes []) first.receiver) out.sends)
        → answered.answer ≡ out.reply → answered.now ≡ out.now
        → (notices : NoticesParts) (config : Config) (world : FlooredWorld)
        → ClusterStands config (cluster_of sizes nodes network notices) world
        → HappensAs config world (Deliver n) (cluster_of sizes nodes network notices)
        (cluster_of sizes (set nodes at new) final notices) answered
    deliver_made final answered so answer_is now_is notices config world s =
        let f = finds world.machine.net s.net_is in
        let g = finds_again world.machine.net (same world.machine.net s.net_is) in
        let d : Datagram = f.0 in
        let machine : World = with_mark world.machine n in
        let last : ClusterParts = cluster_of sizes (set nodes at new) final notices in
        let e : Some g.0 ≡ Some d = sym g.1 ∙ f.1 in
        let one : g.0 ≡ d = cc (e) in
        let receiver_is : first.receiver ≡ d.receiver = f.2.receiver_is in
        let input_is : datagram_input again.bytes ≡ Received d.message =
        is_received again.bytes g.0.message g.2.spells ∙ ap (λ (x : Datagram). Received x.message) one in
        let stepped : Stepped (Received d.message) node new out = subst (λ (i : Input). Stepped i node new out) input_is steps in
        occurs_delivered config world (cluster_of sizes nodes network notices) last answered s n d f.1
        (subst (λ (w : NodeId). ReachesAs config world machine w (Received d.message) (cluster_of sizes nodes network notices) last
        answered)
        receiver_is
        (as_before config world machine first.receiver (Received d.message) sizes nodes marked network notices last answered
        (handed_on config (record world { machine = machine }) sizes nodes marked notices (stands_marked notices config world s)
        first.receiver at is (Received d.message) node new out read stepped final answered so answer_is now_is)))
