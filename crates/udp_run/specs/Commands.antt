-- What the commands of a script make of nodes at their ports.
use Rattle.std.specs.Prelude.{◌≡◌, ℕ, zero, suc, Bool, true, false, List, [], ◌∷◌, ◌++◌, length, Option, Some, None, Result, Ok, Err}
use Rattle.xid.specs.declared.refusals.Refusal.{Refusal}
use Rattle.protocol.specs.declared.answers.Answer.TheVariants.{Refused}
use Rattle.protocol.specs.declared.events.Event.{Event}
use Rattle.protocol.specs.declared.events.Event.TheVariants.{Ask, Noise, Restart, Compact, Raise}
use Rattle.protocol.specs.declared.events.Step.{Step}
use Rattle.protocol.specs.declared.nodes.NodeId.{NodeId}
use Rattle.net_script.specs.declared.values.Command.{Command}
use Rattle.net_script.specs.declared.values.Command.TheVariants.{Do, Flow}
use Rattle.net_script.specs.declared.values.Entry.{Entry}
use Rattle.port.specs.declared.calling.Served.{Served}
use Rattle.port.specs.Members.{MemberParts}
use Rattle.port.specs.Calls.{Receiving, Sending, Serves}
use Rattle.udp_run.specs.Sites.{SiteParts, ChangesAt, Happens}

-- whether an event happens over sockets
abbrev pub is_served_event : Event → Bool
is_served_event (Ask who request) = true
is_served_event (Noise who bytes) = true
is_served_event (Restart who) = true
is_served_event (Compact who) = true
is_served_event (Raise rm floor) = true
is_served_event event = false

-- whether a command does
abbrev pub is_served : Command → Bool
is_served (Do event) = is_served_event event
is_served (Flow count) = true

-- entries were put after others, by what makes them
pub record Joins {S : Type 0} (Makes : S → S → List Entry → Type 0) (old new : S) (before after : List Entry) : Type 0 where
  pub more : List Entry
  pub makes : Makes old new more
  pub entries_are : after ≡ before ++ more

-- ---- rounds

-- what is listed of a serve: a datagram that was taken, a notice too, with what came of it, or that the socket failed
abbrev pub listed : NodeId → Result (Option Served) Refusal → List Entry
listed who (Ok None) = []
listed who (Ok (Some served)) = Entry.Serve who served.reply served.now [] ∷ []
listed who (Err refusal) = Entry.Serve who (Refused refusal) None [] ∷ []

-- a node took a datagram at its port, or none, and this is listed
pub record ServesListed {P : Type 0} (Received : Receiving P) (Sent : Sending P) (entries : List Entry) (old new : MemberParts)
    (before after : P) : Type 0 where
  pub result : Result (Option Served) Refusal
  pub serves : Serves Received Sent old new before after result
  pub entries_are : entries ≡ listed old.floored.node.who result

-- what is listed of it was put after other entries
pub record JoinsServed {P : Type 0} (Received : Receiving P) (Sent : Sending P) (old new : MemberParts) (before after : P)
    (earlier later : List Entry) : Type 0 where
  pub more : List Entry
  pub serves : ServesListed Received Sent more old new before after
  pub entries_are : later ≡ earlier ++ more

-- one after another: what some steps make, and their entries
pub record Then {S : Type 0} (First Next : S → S → List Entry → Type 0) (old new : S) (entries : List Entry) : Type 0 where
  pub between : S
  pub some : List Entry
  pub more : List Entry
  pub first : First old between some
  pub next : Next between new more
  pub entries_are : entries ≡ some ++ more

-- the first so many nodes, in order, each took a datagram or none
abbrev pub ServesFirst : {P : Type 0} → Receiving P → Sending P → ℕ → (old new : SiteParts P) → List Entry → Type 0
ServesFirst Received Sent zero old new entries = (new ≡ old) × (entries ≡ [])
ServesFirst Received Sent (suc k) old new entries =
    Then (ServesFirst Received Sent k) (λ a b listed. ChangesAt (ServesListed Received Sent listed) k a b) old new entries

-- so many rounds, in each of which every node takes one datagram at most
abbrev pub Flows : {P : Type 0} → Receiving P → Sending P → ℕ → (old new : SiteParts P) → List Entry → Type 0
Flows Received Sent zero old new entries = (new ≡ old) × (entries ≡ [])
Flows Received Sent (suc k) old new entries =
    Then (Flows Received Sent k) (λ a b listed. ServesFirst Received Sent (length a.nodes) a b listed) old new entries

-- ---- commands

-- one command: an event, or rounds
abbrev pub CarriesOut : {P : Type 0} → Receiving P → Sending P → Command → (old new : SiteParts P) → List Entry → Type 0
CarriesOut Received Sent (Do event) old new entries =
    (step : Step) × Happens Sent event old new step × (entries ≡ Entry.Step step ∷ [])
CarriesOut Received Sent (Flow count) old new entries = Flows Received Sent count old new entries

-- commands, one after another
abbrev pub CarriesAll : {P : Type 0} → Receiving P → Sending P → List Command → (old new : SiteParts P) → List Entry → Type 0
CarriesAll Received Sent [] old new entries = (new ≡ old) × (entries ≡ [])
CarriesAll Received Sent (command ∷ commands) old new entries =
    Then (CarriesOut Received Sent command) (CarriesAll Received Sent commands) old new entries
