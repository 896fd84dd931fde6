-- One round of work of a process.
use Rattle.std.specs.Prelude.{◌≡◌, ◌⊎◌, ℕ, List, [], map, Vec}
use Rattle.std.specs.Borrow.{Bor}
use Rattle.std.specs.declared.alloc.Global.{Global}
use Rattle.std.specs.declared.time.Instant.{Instant}
use Rattle.protocol.specs.declared.answers.Answer.{Answer}
use Rattle.node_core.specs.declared.output.Output.{Output}
use Rattle.port.specs.Calls.{Receiving, Sending}
use Rattle.port.specs.Members.{MemberParts}
use Rattle.letter_port.specs.LetterPorts.{LetterParts}
use Rattle.serving.specs.declared.group.Item.{Item}
use Rattle.serving.specs.declared.terms.Terms.{Terms}
use Rattle.slab.specs.Slab.{Slab}
use Rattle.serving.specs.Clients.{AreUntold, ClientParts}
use Rattle.serving.specs.Groups.{answers_to, AreTold, AreToldSome}
use Rattle.serving.specs.Happenings.{AwaitsBegin, WorksOn}
use Rattle.node_process.specs.declared.desk.Desk.{Desk}
use Rattle.node_process.specs.Asking.{Asks}
use Rattle.node_process.specs.Awaiting.{IsAwaitedUntil}
use Rattle.node_process.specs.Gathering.{AreGathered, GathersAhead, Receives}
use Rattle.node_process.specs.Handing.{Hands, IsUnhanded}
use Rattle.node_process.specs.Noting.{NotesAll}
use Rattle.node_process.specs.Saying.{SaysAll, Stay}

-- ---- a round of work

-- a group is handed to a node, if there is one
abbrev pub HandsSome : {P : Type 0} → Sending P → List Item → (was is : MemberParts) → (before after : LetterParts P) → List Output → Type 0
HandsSome Sent [] was is before after outs = Stay was is before after × (outs ≡ [])
HandsSome Sent items was is before after outs = Hands Sent items was is before after outs

-- a group that was stored was answered: what came of it was noted, its wishes were answered, each client was told what its own items are
-- answered, and who awaits an end waits for it from now on
pub record Answers {P : Type 0} (Sent : Sending P) (now : Instant) (items : List Item) (outs : List Output) (old new : Desk)
    (was is : MemberParts) (before after : LetterParts P) : Type 0 where
  pub said : List (Vec ℕ Global)
  pub says : SaysAll Sent old.terms items was is before after said
  pub replies : List (Bor Answer)
  pub replies_are : map (λ (reply : Bor Answer). reply.now) replies ≡ map (λ (out : Output). out.reply) outs
  pub told : Slab ClientParts
  pub tells : AreTold old.clients.seats told (answers_to items replies said)
  pub until : Instant
  pub long : IsAwaitedUntil now until
  pub begins : AwaitsBegin old.terms.who until items told new.clients.seats
  pub branches : NotesAll now items outs old.notes.branches new.notes.branches
  pub terms : new.terms ≡ record old.terms { latest = new.terms.latest }

-- a round of work: what waits came into a group, behind questions that were put to the node; it was handed to the node and stored; the
-- wishes were answered; and who asked was told: clients' lines are items of the group, and each client is told what the node replied to its
-- own requests, and what was said to its own wishes
pub record Works {P : Type 0} (Received : Receiving P) (Sent : Sending P) (now : Instant) (old new : Desk) (was is : MemberParts)
    (before after : LetterParts P) : Type 0 where
  pub asked : MemberParts
  pub asks : Asks old.terms.who was asked
  pub ahead : List Item
  pub got : LetterParts P
  pub desk : Desk
  pub gathers : GathersAhead Received now old desk was asked before got ahead
  pub left : new.pending ≡ desk.pending
  pub items : List Item
  pub handed : MemberParts
  pub sent : LetterParts P
  pub outs : List Output
  pub hands : HandsSome Sent items asked handed got sent outs
  pub said : List (Vec ℕ Global)
  pub says : SaysAll Sent old.terms items handed is sent after said
  pub replies : List (Bor Answer)
  pub replies_are : map (λ (reply : Bor Answer). reply.now) replies ≡ map (λ (out : Output). out.reply) outs
  pub until : Instant
  pub long : (items ≡ [] → ⊥) → IsAwaitedUntil now until
  pub clients : WorksOn old.terms.who old.terms.lock old.terms ahead items replies said until old.clients.seats new.clients.seats
  pub branches : NotesAll now items outs old.notes.branches new.notes.branches
  pub terms : new.terms ≡ record old.terms { latest = new.terms.latest }

-- ---- a round that ended, and with it the process

-- a round ended before a group was handed to the node: it was asked where transactions stand, at most; the port gave what it gave, and
-- nothing was sent; and nobody was told anything
pub record EndsBefore {P : Type 0} (Received : Receiving P) (old new : Desk) (was is : MemberParts) (before after : LetterParts P) : Type 0
  where
    pub asks : Asks old.terms.who was is
    pub receives : Receives Received before after
    pub untold : AreUntold old.clients.seats new.clients.seats

-- a round ended with a group that wasn't stored: it was gathered as in a round that ends well, nothing of it was sent, and nobody was told
-- anything
pub record EndsUnstored {P : Type 0} (Received : Receiving P) (now : Instant) (old new : Desk) (was is : MemberParts)
    (before after : LetterParts P) : Type 0 where
  pub asked : MemberParts
  pub asks : Asks old.terms.who was asked
  pub items : List Item
  pub gathered : AreGathered Received now old new was asked before after items
  pub unhanded : IsUnhanded items asked is
  pub untold : AreUntold old.clients.seats new.clients.seats

-- of a group that was stored, clients were told the first answers, and none behind them: what the node replied, and what was said to wishes
pub record AnswersSome {P : Type 0} (Sent : Sending P) (terms : Terms) (items : List Item) (outs : List Output) (old new : Slab ClientParts)
    (was is : MemberParts) (before after : LetterParts P) : Type 0 where
  pub said : List (Vec ℕ Global)
  pub says : SaysAll Sent terms items was is before after said
  pub replies : List (Bor Answer)
  pub replies_are : map (λ (reply : Bor Answer). reply.now) replies ≡ map (λ (out : Output). out.reply) outs
  pub told : Slab ClientParts
  pub tells : AreToldSome old told (answers_to items replies said)
  pub no_more : AreUntold told new

-- a round ended with a group that was stored: it was gathered, handed to the node and stored as in a round that ends well; and clients were
-- told at most the first of what its items are answered. What had become of the node and the port where a wish couldn't be answered isn't
-- said
pub record EndsStored {P : Type 0} (Received : Receiving P) (Sent : Sending P) (now : Instant) (old new : Desk) (was is : MemberParts)
    (before after : LetterParts P) : Type 0 where
  pub asked : MemberParts
  pub asks : Asks old.terms.who was asked
  pub desk : Desk
  pub got : LetterParts P
  pub items : List Item
  pub gathered : AreGathered Received now old desk was asked before got items
  pub handed : MemberParts
  pub sent : LetterParts P
  pub outs : List Output
  pub hands : Hands Sent items asked handed got sent outs
  pub told : AreUntold desk.clients.seats new.clients.seats
      ⊎ AnswersSome Sent old.terms items outs desk.clients.seats new.clients.seats handed is sent after

-- a round ended, and with it the process
abbrev pub EndsWork : {P : Type 0} → Receiving P → Sending P → Instant → (old new : Desk) → (was is : MemberParts)
    → (before after : LetterParts P) → Type 0
EndsWork Received Sent now old new was is before after =
    EndsBefore Received old new was is before after
    ⊎ (EndsUnstored Received now old new was is before after ⊎ EndsStored Received Sent now old new was is before after)
