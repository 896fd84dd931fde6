-- Which events happen over sockets.
use Rattle.std.proofs.Common.{◌≡◌, ℕ, true, refl}
use Rattle.xid.specs.declared.floor.Floor.{Floor}
use Rattle.xid.specs.declared.sequence.Sequence.{Sequence}
use Rattle.protocol.specs.declared.events.Event.{Event}
use Rattle.protocol.specs.declared.events.Event.TheVariants.{Ask, Deliver, Lose, Cut, Noise, Tear, Restart, Compact, Raise, Hear, Replace}
use Rattle.protocol.specs.declared.nodes.NodeId.{NodeId}
use Rattle.protocol.specs.declared.requests.Request.{Request}
use Rattle.udp_run.specs.Commands.{is_served_event}

-- one that does is a request, noise, a restart, a compaction or a rise of a floor
pub none_served : (event : Event) → is_served_event event ≡ true → ((who : NodeId) (request : Request) → event ≡ Ask who request → ⊥)
    → ((who : NodeId) (bytes : Sequence ℕ) → event ≡ Noise who bytes → ⊥) → ((who : NodeId) → event ≡ Restart who → ⊥)
    → ((who : NodeId) → event ≡ Compact who → ⊥) → ((rm : ℕ) (floor : Floor) → event ≡ Raise rm floor → ⊥) → ⊥
none_served (Ask who request) served ask noise restart compact raise = ask who request refl
none_served (Noise who bytes) served ask noise restart compact raise = noise who bytes refl
none_served (Restart who) served ask noise restart compact raise = restart who refl
none_served (Compact who) served ask noise restart compact raise = compact who refl
none_served (Raise rm floor) served ask noise restart compact raise = raise rm floor refl
none_served (Deliver n) served ask noise restart compact raise = absurd (cc (served))
none_served (Lose n) served ask noise restart compact raise = absurd (cc (served))
none_served (Cut n bytes) served ask noise restart compact raise = absurd (cc (served))
none_served (Tear who n) served ask noise restart compact raise = absurd (cc (served))
none_served (Hear n) served ask noise restart compact raise = absurd (cc (served))
none_served (Replace who floor) served ask noise restart compact raise = absurd (cc (served))
