-- Floors as a trace tells them, and whether a step takes part below one. A history is a trace with the newest step first.
use Rattle.std.specs.Prelude.{ℕ, Bool, true, false, not, ◌&&◌, ◌||◌, ◌==◌, if◌then◌else◌, List, [], ◌∷◌, fold, map, Option, Some, None}
use Rattle.std.specs.List.{list_all, range_with_len}
use Rattle.std.specs.Option.{option_map_or}
use Rattle.xid.specs.Places.{Place, is_lower, is_below, is_xid_below}
use Rattle.xid.specs.declared.refusals.Refusal.{Refusal}
use Rattle.xid.specs.declared.codes.XaCode.{XaCode}
use Rattle.wire.specs.Messages.{message_tx}
use Rattle.protocol.specs.declared.answers.Answer.TheVariants.{Done, Refused}
use Rattle.protocol.specs.declared.events.Event.TheVariants.{Restart, Raise, Hear, Replace}
use Rattle.protocol.specs.declared.events.Sent.{Sent}
use Rattle.protocol.specs.declared.events.Told.{Told}
use Rattle.protocol.specs.declared.nodes.NodeId.{NodeId}
use Rattle.protocol.specs.declared.nodes.NodeId.TheVariants.{A, L}
use Rattle.protocol.specs.declared.requests.Request.{Request}
use Rattle.protocol.specs.declared.requests.Request.TheVariants.{Recover}
use Rattle.safety.specs.Vocabulary.{Answer, Code, Change, Event, Ask, Step, R, Action, Start, Call}

-- ---- places

-- the higher of two floors
abbrev pub higher : Option Place → Option Place → Option Place
higher a b = if is_lower a b then b else a

-- the lower of two floors
abbrev pub lower : Option Place → Option Place → Option Place
lower a b = if is_lower b a then b else a

-- the least of floors; none, where one of them is none or there are none
abbrev pub least_of : List (Option Place) → Option Place
least_of [] = None
least_of (first ∷ []) = first
least_of (first ∷ rest) = lower first (least_of rest)

-- ---- what a trace tells of floors

-- the floor of each node; what each node was told of each resource manager's since it was last restarted or replaced; and notices by
-- their numbers
pub record FloorsTold : Type 0 where
  pub floor : NodeId → Option Place
  pub told : NodeId → ℕ → Option Place
  pub notice : ℕ → Option Told

-- nothing of floors
abbrev pub no_floors : FloorsTold
no_floors = record { floor = λ who. None; told = λ who rm. None; notice = λ number. None }

-- whether two nodes are the same
abbrev pub is_node : NodeId → NodeId → Bool
is_node (A m) (A n) = m == n
is_node (L m) (L n) = m == n
is_node (R m) (R n) = m == n
is_node node who = false

-- what was told of resource managers' floors, with a notice more: of each the highest counts
abbrev pub told_with : (ℕ → Option Place) → Told → ℕ → Option Place
told_with told notice rm = if notice.manager == rm then higher (told rm) (Some notice.floor) else told rm

-- the least floor that was told of so many resource managers: none, where one of them told none
abbrev pub least_told : ℕ → (ℕ → Option Place) → Option Place
least_told managers told = least_of (map told (range_with_len 0 managers))

-- a node heard a notice: its own floor is then the least that it was told by all resource managers, where that is higher
abbrev pub with_heard : ℕ → FloorsTold → Told → FloorsTold
with_heard managers floors notice = record floors {
  floor = λ who.
      if is_node notice.receiver who then higher (floors.floor who) (least_told managers (told_with (floors.told who) notice))
      else floors.floor who;
  told = λ who rm. if is_node notice.receiver who then told_with (floors.told who) notice rm else floors.told who rm;
}

-- a node's floor was raised to a place, where that is higher
abbrev pub with_raised : FloorsTold → NodeId → Place → FloorsTold
with_raised floors node place = record floors {
  floor = λ who. if is_node node who then higher (floors.floor who) (Some place) else floors.floor who;
}

-- a node was restarted, and forgot what it was told
abbrev pub with_forgotten : FloorsTold → NodeId → FloorsTold
with_forgotten floors node = record floors { told = λ who rm. if is_node node who then None else floors.told who rm }

-- a blank node stands in the place of another, with a floor
abbrev pub with_replaced : FloorsTold → NodeId → Place → FloorsTold
with_replaced floors node place = with_forgotten (with_raised floors node place) node

-- whether an event was done
abbrev pub is_done : Answer → Bool
is_done Done = true
is_done answer = false

-- whether there was no such node
abbrev pub is_no_such : Answer → Bool
is_no_such (Refused Refusal.NoSuch) = true
is_no_such answer = false

-- what an event that was answered so makes of floors, in a cluster of so many resource managers
abbrev pub floors_by : ℕ → Event → Answer → FloorsTold → FloorsTold
floors_by managers (Raise rm place) answer floors = if is_done answer then with_raised floors (R rm) place else floors
floors_by managers (Hear number) answer floors =
    if is_done answer then option_map_or (with_heard managers floors) (floors.notice number) floors else floors
floors_by managers (Restart who) answer floors = if is_no_such answer then floors else with_forgotten floors who
floors_by managers (Replace who place) answer floors = if is_done answer then with_replaced floors who place else floors
floors_by managers event answer floors = floors

-- the notice of a number, where there is one more: of several the last that was told
abbrev pub or_newer : ℕ → Option Told → Told → Option Told
or_newer number found notice = if notice.number == number then Some notice else found

-- what a step makes of floors
abbrev pub floors_after : ℕ → Step → FloorsTold → FloorsTold
floors_after managers step floors =
    let by = floors_by managers step.event step.answer floors in
    record by { notice = λ number. fold (or_newer number) (by.notice number) step.told }

-- what a history tells of floors
abbrev pub floors_back : ℕ → List Step → FloorsTold
floors_back managers [] = no_floors
floors_back managers (step ∷ before) = floors_after managers step (floors_back managers before)

-- ---- what takes part below a floor

-- whether an answer is a refusal
abbrev pub is_refused : Answer → Bool
is_refused (Refused refusal) = true
is_refused (Code XaCode.RmFail) = true
is_refused answer = false

-- whether a call on a branch below a floor may be answered so: a refusal; a branch can't be started anew, and there is none of that name
abbrev pub is_call_refused : Action → Answer → Bool
is_call_refused Start (Code XaCode.DupId) = true
is_call_refused Start answer = is_refused answer
is_call_refused action (Code XaCode.Nota) = true
is_call_refused action answer = is_refused answer

-- whether a request may be answered so by a node with a floor
abbrev pub is_request_above : Option Place → Request → Answer → Bool
is_request_above floor (Call x action) answer = not (is_xid_below floor x) || is_call_refused action answer
is_request_above floor Recover answer = true
is_request_above floor (Request.View tx) answer = not (is_below floor tx) || is_refused answer
is_request_above floor (Request.Commit tx) answer = not (is_below floor tx) || is_refused answer
is_request_above floor (Request.Status tx) answer = not (is_below floor tx) || is_refused answer
is_request_above floor (Request.Timeout tx) answer = not (is_below floor tx) || is_refused answer

-- whether an event may be answered so, where these are the floors
abbrev pub is_event_above : (floor : NodeId → Option Place) → Event → Answer → Bool
is_event_above floor (Ask who request) answer = is_request_above (floor who) request answer
is_event_above floor event answer = true

-- whether a view may change, where these are the floors
abbrev pub is_change_above : (floor : NodeId → Option Place) → Change → Bool
is_change_above floor change = not (is_below (floor (R change.rm)) change.tx)

-- whether a datagram may be sent, where these are the floors
abbrev pub is_sent_above : (floor : NodeId → Option Place) → Sent → Bool
is_sent_above floor sent = not (is_below (floor sent.sender) (message_tx sent.message))

-- whether a step takes no part below a floor, where these are the floors before it
abbrev pub is_step_above : (floor : NodeId → Option Place) → Step → Bool
is_step_above floor step =
    is_event_above floor step.event step.answer
    && (option_map_or (is_change_above floor) step.now true && list_all (is_sent_above floor) step.sent)

-- whether a step takes no part below a floor, by the lines above it
abbrev pub stays_above : (managers : ℕ) → List Step → Step → Bool
stays_above managers before step = is_step_above (floors_back managers before).floor step
