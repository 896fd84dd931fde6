-- Events that a text may name are well formed.
use Rattle.std.proofs.Common.{◌<◌}
use Rattle.safety.specs.Vocabulary.{Action, Start, Put, Del, Get, End, EndFail, Rollback, NodeId, L, R, Request, Call, Recover, Timeout}
use Rattle.safety.specs.Vocabulary.{Event, Ask, Deliver, Lose, Cut, Noise, Tear, Restart, Compact, Raise, Hear, Replace}
use Rattle.safety.specs.Forms as forms
use Rattle.net_script.specs.Events.{IsEvent, IsAsked, IsAction, IsFloor}

action_formed : (action : Action) → IsAction action → forms.IsAction action
action_formed Start is = tt
action_formed (Put key value) is = is
action_formed (Del key) is = is
action_formed (Get key) is = is
action_formed End is = tt
action_formed EndFail is = tt
action_formed Rollback is = tt

request_formed : (who : NodeId) (request : Request) → IsAsked who request → forms.IsRequest request
request_formed (R rm) (Call x action) is = (is.0, action_formed action is.1)
request_formed (R rm) Recover is = tt
request_formed (R rm) (Request.View tx) is = is
request_formed (R rm) (Timeout tx) is = is
request_formed (L l) (Request.Commit tx) is = is
request_formed (L l) (Request.Status tx) is = is
request_formed (L l) (Timeout tx) is = is
request_formed who request is = absurd is

-- an event that is well formed in the machine, or a rise to a floor that a text may name
abbrev pub IsFormed : Event → Type 0
IsFormed (Raise rm floor) = (rm < 256) × IsFloor floor
IsFormed event = forms.IsEvent event

pub event_formed : (event : Event) → IsEvent event → IsFormed event
event_formed (Ask who request) is = request_formed who request is.1
event_formed (Deliver n) is = tt
event_formed (Lose n) is = tt
event_formed (Cut n k) is = tt
event_formed (Noise who bytes) is = tt
event_formed (Tear who n) is = tt
event_formed (Restart who) is = tt
event_formed (Compact who) is = tt
event_formed (Raise rm floor) is = is
event_formed (Hear n) is = tt
event_formed (Replace who floor) is = tt
