-- A round of work, put together: what came into the group, what the node made of it, and who was told. What `Process::work` says needs it.
use Rattle.std.proofs.Common.{◌≡◌, ◌⊎◌, ◌≤◌, ◌∷◌, ◌++◌, ◌&&◌, [], List, ℕ, Bool, true, length, map, filter}
use Rattle.std.proofs.Common.{refl, sym, ap, ◌∙◌, subst, arith}
use Rattle.std.proofs.lemmas.List.{length-map}
use Rattle.std.proofs.lemmas.List.Folds.{list_all-append}
use Rattle.std.specs.Borrow.{Bor}
use Rattle.std.specs.List.{flat_map, list_all}
use Rattle.std.specs.declared.time.Instant.{Instant}
use Rattle.slab.specs.Slab.{Slab}
use Rattle.protocol.specs.declared.answers.Answer.{Answer}
use Rattle.protocol.specs.declared.requests.Request.{Request}
use Rattle.node_core.specs.declared.output.Output.{Output}
use Rattle.port.specs.Calls.{Receiving, Sending}
use Rattle.port.specs.Members.{MemberParts}
use Rattle.letter_port.specs.LetterPorts.{LetterParts}
use Rattle.letter_port.specs.Runs.{messages_of}
use Rattle.serving.specs.declared.branches.Branches.{Branches}
use Rattle.serving.specs.declared.group.Item.{Item}
use Rattle.serving.specs.declared.terms.Terms.{Terms}
use Rattle.serving.specs.Clients.{AreUntold, ClientParts}
use Rattle.serving.specs.Groups.{is_handed, is_nobody}
use Rattle.serving.specs.Happenings.{AwaitsBegin, WorksOn}
use Rattle.serving.specs.Served.{are_nobodys}
use Rattle.serving.specs.Taking.{HearsAll}
use Rattle.serving.proofs.TellLemmas.{told_none}
use Rattle.node_process.specs.declared.desk.Desk.{Desk}
use Rattle.node_process.specs.Asking.{Asks}
use Rattle.node_process.specs.Due.{asked_after}
use Rattle.node_process.specs.Gathering.{asked_item, taken_item, AreGathered, GathersAhead}
use Rattle.node_process.specs.Handing.{handed_of, Hands}
use Rattle.node_process.specs.Noting.{NotesAll}
use Rattle.node_process.specs.Saying.{SaysAll}
use Rattle.node_process.specs.Working.{Answers, AnswersSome, HandsSome, Works}
use Rattle.node_process.proofs.AwaitLemmas.{begins_all}
use Rattle.node_process.proofs.SayLemmas.{handed_many, silent, spoken}

-- ---- what is nobody's

asked_nobodys : (requests : List Request) → are_nobodys (map asked_item requests) ≡ true
asked_nobodys [] = refl
asked_nobodys (request ∷ rest) = asked_nobodys rest

taken_nobodys : (messages : List (List ℕ)) → are_nobodys (map taken_item messages) ≡ true
taken_nobodys [] = refl
taken_nobodys (message ∷ rest) = taken_nobodys rest

behind_nobodys : (old more new : List Item) → new ≡ old ++ more → are_nobodys old ≡ true → are_nobodys more ≡ true → are_nobodys new ≡ true
behind_nobodys old more new came first second =
    let test : Item → Bool = λ item. is_nobody item.origin in
    ap (list_all test) came ∙ list_all-append test old more ∙ ap (λ (b : Bool). b && list_all test more) first ∙ second

ahead_nobodys : {P : Type 0} (Received : Receiving P) (now : Instant) (old new : Desk) (was is : MemberParts)
    (before after : LetterParts P) (ahead : List Item) → GathersAhead Received now old new was is before after ahead
    → are_nobodys ahead ≡ true
ahead_nobodys Received now old new was is before after ahead gathers =
    let taken : List Request = gathers.takes.taken in
    let due : List Request = flat_map (asked_after old.terms.who) gathers.due.taken in
    let messages : List (List ℕ) = messages_of gathers.messages.given in
    behind_nobodys gathers.asked (map taken_item messages) ahead gathers.messages.taken
    (behind_nobodys gathers.pending (map asked_item due) gathers.asked gathers.due.these.came
    (behind_nobodys [] (map asked_item taken) gathers.pending gathers.takes.came refl (asked_nobodys taken)) (asked_nobodys due))
    (taken_nobodys messages)

-- ---- who is told

as_many : (items : List Item) (outs : List Output) (replies : List (Bor Answer)) → length outs ≡ length (handed_of items)
    → map (λ (reply : Bor Answer). reply.now) replies ≡ map (λ (out : Output). out.reply) outs
    → length (filter (λ (item : Item). is_handed item.work) items) ≤ length replies
as_many items outs replies count are =
    let same : length replies ≡ length outs =
    sym (length-map replies (λ (reply : Bor Answer). reply.now)) ∙ ap length are ∙ length-map outs (λ (out : Output). out.reply) in
    let many : length (filter (λ (item : Item). is_handed item.work) items) ≡ length (handed_of items) = handed_many items in
    omega arith

-- clients' lines came into a group that was stored, and they were told
pub works_on : {P : Type 0} (Received : Receiving P) (Sent : Sending P) (now : Instant) (old desk counted new : Desk)
    (was asked handed is : MemberParts) (before got sent after : LetterParts P) (items : List Item) (outs : List Output)
    (gathered : AreGathered Received now old desk was asked before got items) → length outs ≡ length (handed_of items)
    → counted.terms ≡ old.terms → counted.clients.seats ≡ desk.clients.seats
    → (answers : Answers Sent now items outs counted new handed is sent after)
    → WorksOn old.terms.who old.terms.lock old.terms gathered.ahead items answers.replies answers.said answers.until old.clients.seats
    new.clients.seats
works_on Received Sent now old desk counted new was asked handed is before got sent after items outs gathered count terms seats answers =
    let begins : AwaitsBegin old.terms.who answers.until items answers.told new.clients.seats =
    subst (λ (t : Terms). AwaitsBegin t.who answers.until items answers.told new.clients.seats) terms answers.begins in record {
      who_is = refl;
      lock_is = refl;
      nobodys = ahead_nobodys Received now old desk was asked before got gathered.ahead gathered.gathered;
      heard = counted.clients.seats;
      hears = subst (λ (s : Slab ClientParts). HearsAll old.terms old.clients.seats s gathered.ahead items) (sym seats) gathered.hears;
      replied = as_many items outs answers.replies count answers.replies_are;
      spoken = spoken Sent counted.terms items handed is sent after answers.said answers.says;
      silent = silent Sent counted.terms items answers.replies handed is sent after answers.said answers.says;
      told = answers.told;
      tells = answers.tells;
      begins = begins;
    }

-- ---- the round

hands_some : {P : Type 0} (Sent : Sending P) (items : List Item) (was is : MemberParts) (before after : LetterParts P) (outs : List Output)
    → (items ≡ [] → ⊥) → Hands Sent items was is before after outs → HandsSome Sent items was is before after outs
hands_some Sent [] was is before after outs some hands = absurd (some refl)
hands_some Sent (item ∷ items) was is before after outs some hands = hands

-- a group was gathered, handed to the node and answered
pub works_some : {P : Type 0} (Received : Receiving P) (Sent : Sending P) (now : Instant) (old desk counted new : Desk)
    (was asked handed is : MemberParts) (before got sent after : LetterParts P) (items : List Item) (outs : List Output)
    → Asks old.terms.who was asked → AreGathered Received now old desk was asked before got items → (items ≡ [] → ⊥)
    → Hands Sent items asked handed got sent outs → counted.terms ≡ old.terms → counted.clients.seats ≡ desk.clients.seats
    → counted.notes.branches ≡ old.notes.branches → new.pending ≡ desk.pending
    → Answers Sent now items outs counted new handed is sent after → Works Received Sent now old new was is before after
works_some Received Sent now old desk counted new was asked handed is before got sent after items outs asks gathered some hands terms seats
    branches left answers = record {
      asked = asked;
      asks = asks;
      ahead = gathered.ahead;
      got = got;
      desk = desk;
      gathers = gathered.gathered;
      left = left;
      items = items;
      handed = handed;
      sent = sent;
      outs = outs;
      hands = hands_some Sent items asked handed got sent outs some hands;
      said = answers.said;
      says = subst (λ (t : Terms). SaysAll Sent t items handed is sent after answers.said) terms answers.says;
      replies = answers.replies;
      replies_are = answers.replies_are;
      until = answers.until;
      long = λ _. answers.long;
      clients = works_on Received Sent now old desk counted new was asked handed is before got sent after items outs gathered hands.count
          terms seats answers;
      branches = subst (λ (known : Branches). NotesAll now items outs known new.notes.branches) branches answers.branches;
      terms = subst (λ (t : Terms). new.terms ≡ record t { latest = new.terms.latest }) terms answers.terms;
    }

-- nothing came into the group
pub works_none : {P : Type 0} (Received : Receiving P) (Sent : Sending P) (now : Instant) (old new : Desk)
    (was asked : MemberParts) (before got : LetterParts P) (items : List Item)
    → Asks old.terms.who was asked → AreGathered Received now old new was asked before got items → items ≡ []
    → new.notes.branches ≡ old.notes.branches → new.terms ≡ old.terms → Works Received Sent now old new was asked before got
works_none Received Sent now old new was asked before got items asks gathered none branches terms = record {
  asked = asked;
  asks = asks;
  ahead = gathered.ahead;
  got = got;
  desk = new;
  gathers = gathered.gathered;
  left = refl;
  items = [];
  handed = asked;
  sent = got;
  outs = [];
  hands = (record { node = refl; port = refl }, refl);
  said = [];
  says = (record { node = refl; port = refl }, refl);
  replies = [];
  replies_are = refl;
  until = now;
  long = λ some. absurd (some refl);
  clients = record {
    who_is = refl;
    lock_is = refl;
    nobodys = ahead_nobodys Received now old new was asked before got gathered.ahead gathered.gathered;
    heard = new.clients.seats;
    hears = subst (λ (all : List Item). HearsAll old.terms old.clients.seats new.clients.seats gathered.ahead all) none gathered.hears;
    replied = omega arith;
    spoken = omega arith;
    silent = tt;
    told = new.clients.seats;
    tells = told_none new.clients.seats;
    begins = begins_all old.terms.who now [] 0 new.clients.seats (omega arith);
  };
  branches = branches;
  terms = subst (λ (t : Terms). t ≡ record old.terms { latest = t.latest }) (sym terms) refl;
}

-- a round whose group was stored ended while that was answered
pub ends_in : {P : Type 0} (Sent : Sending P) (given items : List Item) (outs : List Output) (counted terms : Terms)
    (seats heard new : Slab ClientParts) (handed is : MemberParts) (sent after : LetterParts P) → given ≡ items → counted ≡ terms
    → seats ≡ heard → AreUntold seats new ⊎ AnswersSome Sent counted given outs seats new handed is sent after
    → AreUntold heard new ⊎ AnswersSome Sent terms items outs heard new handed is sent after
ends_in Sent given items outs counted terms seats heard new handed is sent after items_are terms_are seats_are ends =
    subst (λ (all : List Item). AreUntold heard new ⊎ AnswersSome Sent terms all outs heard new handed is sent after) items_are
    (subst (λ (t : Terms). AreUntold heard new ⊎ AnswersSome Sent t given outs heard new handed is sent after) terms_are
    (subst (λ (s : Slab ClientParts). AreUntold s new ⊎ AnswersSome Sent counted given outs s new handed is sent after) seats_are ends))
