-- What happens to the clients of a node's process, one thing after another.
use Rattle.std.specs.Prelude.{◌≡◌, ◌≤◌, ℕ, ◌++◌, ◌∷◌, ◌==◌, not, Bool, true, false, if◌then◌else◌, List, [], length, filter}
use Rattle.std.specs.Prelude.{Option, Some, None, Vec}
use Rattle.std.specs.Borrow.{Bor}
use Rattle.std.specs.List.{flat_map, list_all, AllByRecursion}
use Rattle.std.specs.Option.{option_map}
use Rattle.std.specs.declared.alloc.Global.{Global}
use Rattle.std.specs.declared.time.Instant.{Instant}
use Rattle.slab.specs.Slab.{Slab, get, Updates}
use Rattle.xid.specs.Transactions.{TxParts}
use Rattle.protocol.specs.declared.answers.Answer.{Answer}
use Rattle.protocol.specs.declared.nodes.NodeId.{NodeId}
use Rattle.protocol.specs.declared.nodes.NodeId.TheVariants.{L}
use Rattle.protocol.specs.declared.requests.Request.{Request}
use Rattle.protocol.specs.declared.requests.Request.TheVariants.{Status, View}
use Rattle.serving.specs.declared.group.Item.{Item}
use Rattle.serving.specs.declared.group.Work.{Work}
use Rattle.serving.specs.declared.group.Work.TheVariants.{Say}
use Rattle.serving.specs.declared.proving.Lock.{Lock}
use Rattle.serving.specs.declared.stage.Stage.{Stage}
use Rattle.serving.specs.declared.stage.Stage.TheVariants.{Awaiting}
use Rattle.serving.specs.declared.terms.Terms.{Terms}
use Rattle.serving.specs.declared.words.Wish.TheVariants.{Await}
use Rattle.serving.specs.Clients.{after_standing, fresh_client, is_awaiting, with_told, ClientParts}
use Rattle.serving.specs.Groups.{answers_to, is_for, is_handed, is_said, AreTold}
use Rattle.serving.specs.Served.{are_nobodys, served_at, served_of, told_text, Served}
use Rattle.serving.specs.Taking.{HearsAll}

-- an answer that a client heard, of how a transaction stands, and when that was
abbrev pub Heard : Type 0
Heard = Answer × Instant

-- one thing that happens to clients
pub data Happening : Type 0 where
  -- one comes in at a key and is greeted: by its challenge, if it is to prove that it has the clients' key
  Comes : (key number : ℕ) (stage : Stage) (greeting : List ℕ) (now : Instant) → Happening
  -- bytes of the client at a key came
  Writes : (key : ℕ) (bytes : List ℕ) → Happening
  -- no more bytes of it come
  Ends : (key : ℕ) → Happening
  -- it is to be let go
  Breaks : (key : ℕ) → Happening
  -- it is let go
  Goes : (key : ℕ) → Happening
  -- a group: lines were taken behind items of the node's own, all these items were handled, clients were told, and some wait from now on
  Works : (terms : Terms) (ahead items : List Item) (replies : List (Bor Answer)) (said : List (Vec ℕ Global)) (until : Instant) → Happening
  -- a client that waits hears how its transaction stands
  Hears : (key : ℕ) (answer : Answer) (now : Instant) → Happening
  -- bytes at the front of what it was told were sent to it
  Gets : (key : ℕ) (bytes : List ℕ) → Happening

-- ---- one client

-- the client at a key changes, if one is there, and no other does
abbrev pub Changes : (key : ℕ) → (ClientParts → ClientParts) → Slab ClientParts → Slab ClientParts → Type 0
Changes key change old new = Updates old new key (option_map change (get old key))

-- a client comes in where nobody is, and is told its greeting
pub record ComesIn (key number : ℕ) (stage : Stage) (greeting : List ℕ) (now : Instant) (old new : Slab ClientParts) : Type 0 where
  pub free : get old key ≡ None
  pub asks : is_awaiting stage ≡ false
  pub only : Updates old new key (Some (with_told greeting (fresh_client number stage now)))

-- bytes at the front of what a client was told were sent to it
pub record IsSent (key : ℕ) (bytes : List ℕ) (old new : Slab ClientParts) : Type 0 where
  pub client : ClientParts
  pub was : get old key ≡ Some client
  pub rest : List ℕ
  pub front : client.output ≡ bytes ++ rest
  pub only : Updates old new key (Some (record client { output = rest }))

-- ---- a group

-- whether a piece of work is an await
abbrev pub is_await : Work → Bool
is_await (Say (Await tx)) = true
is_await work = false

-- what a node is asked again and again about a transaction whose end is awaited: a leader what it knows of it, another how it stands there
abbrev pub question : NodeId → TxParts → Request
question (L number) tx = Status tx
question who tx = View tx

-- what a client's next lines are after a piece of work for it: it waits, if that was an await
abbrev pub after_work : NodeId → (until : Instant) → Work → Stage → Stage
after_work who until (Say (Await tx)) stage = Awaiting (question who tx) until false
after_work who until work stage = stage

-- what they are after the items of a group, of which only those for the client of this number at this key count
abbrev pub after_items : NodeId → (until : Instant) → (key number : ℕ) → List Item → Stage → Stage
after_items who until key number [] stage = stage
after_items who until key number (item ∷ items) stage =
    after_items who until key number items (if is_for key number item.origin then after_work who until item.work stage else stage)

-- a client at a key after the awaits of a group began
abbrev pub with_awaits : NodeId → (until : Instant) → (key : ℕ) → List Item → ClientParts → ClientParts
with_awaits who until key items client = record client { stage = after_items who until key client.number items client.stage }

-- the awaits of a group began, each of the client whose line it is; all else is as it was
abbrev pub AwaitsBegin : NodeId → (until : Instant) → List Item → Slab ClientParts → Slab ClientParts → Type 0
AwaitsBegin who until items old new = (key : ℕ) → get new key ≡ option_map (with_awaits who until key items) (get old key)

-- an await is told nothing in its group
abbrev pub IsSilent : Served → Type 0
IsSilent one = is_await one.item.work ≡ true → told_text one ≡ []

-- a group: lines came behind items of the node's own, on terms of this node and lock; there is a reply to each item that the node was
-- handed, and a text for each wish; clients were told these, and awaits began
pub record WorksOn (who : NodeId) (lock : Option Lock) (terms : Terms) (ahead items : List Item) (replies : List (Bor Answer))
    (said : List (Vec ℕ Global)) (until : Instant) (old new : Slab ClientParts) : Type 0 where
  pub who_is : terms.who ≡ who
  pub lock_is : terms.lock ≡ lock
  pub nobodys : are_nobodys ahead ≡ true
  pub heard : Slab ClientParts
  pub hears : HearsAll terms old heard ahead items
  pub replied : length (filter (λ item. is_handed item.work) items) ≤ length replies
  pub spoken : length (filter (λ item. is_said item.work) items) ≤ length said
  pub silent : AllByRecursion IsSilent (served_of items replies said)
  pub told : Slab ClientParts
  pub tells : AreTold heard told (answers_to items replies said)
  pub begins : AwaitsBegin who until items told new

-- ---- what each does

-- how clients stand before and after one thing that happens to them, at a node that has this lock, if it has one
abbrev pub Happens : NodeId → Option Lock → Happening → (old new : Slab ClientParts) → Type 0
Happens who lock (Comes key number stage greeting now) old new = ComesIn key number stage greeting now old new
Happens who lock (Writes key bytes) old new = Changes key (λ client. record client { input = client.input ++ bytes }) old new
Happens who lock (Ends key) old new = Changes key (λ client. record client { has_ended = true }) old new
Happens who lock (Breaks key) old new = Changes key (λ client. record client { is_broken = true }) old new
Happens who lock (Goes key) old new = Updates old new key None
Happens who lock (Works terms ahead items replies said until) old new = WorksOn who lock terms ahead items replies said until old new
Happens who lock (Hears key answer now) old new = Changes key (after_standing answer now) old new
Happens who lock (Gets key bytes) old new = IsSent key bytes old new

-- these happened, one after another
abbrev pub Runs : NodeId → Option Lock → List Happening → (old new : Slab ClientParts) → Type 0
Runs who lock [] old new = new ≡ old
Runs who lock (happening ∷ happenings) old new =
    (mid : Slab ClientParts) × Happens who lock happening old mid × Runs who lock happenings mid new

-- ---- what of it is of one client

-- whether the client at a key is let go
abbrev pub lets_go : (key : ℕ) → Happening → Bool
lets_go key (Goes its_key) = its_key == key
lets_go key happening = false

-- whether the client at a key stays
abbrev pub stays : (key : ℕ) → List Happening → Bool
stays key happenings = list_all (λ happening. not (lets_go key happening)) happenings

-- the bytes that came of the client at a key
abbrev pub wrote_in : (key : ℕ) → Happening → List ℕ
wrote_in key (Writes its_key bytes) = if its_key == key then bytes else []
wrote_in key happening = []

-- the bytes that were sent to the client at a key
abbrev pub sent_in : (key : ℕ) → Happening → List ℕ
sent_in key (Gets its_key bytes) = if its_key == key then bytes else []
sent_in key happening = []

-- what the client at a key heard of how a transaction stands
abbrev pub heard_in : (key : ℕ) → Happening → List Heard
heard_in key (Hears its_key answer now) = if its_key == key then (answer, now) ∷ [] else []
heard_in key happening = []

-- the items for the client at a key, each with what the node replied to it or what was said to it
abbrev pub served_in : (key : ℕ) → Happening → List Served
served_in key (Works terms ahead items replies said until) = served_at key (served_of items replies said)
served_in key happening = []

-- all that is a client's of what happened: the bytes that came of it, those that were sent to it, the items that were for it, and what it
-- heard
pub record Past : Type 0 where
  pub wrote : List ℕ
  pub sent : List ℕ
  pub served : List Served
  pub heard : List Heard

-- what of these happenings is of the client at a key
abbrev pub past_at : (key : ℕ) → List Happening → Past
past_at key happenings = record {
  wrote = flat_map (wrote_in key) happenings;
  sent = flat_map (sent_in key) happenings;
  served = flat_map (served_in key) happenings;
  heard = flat_map (heard_in key) happenings;
}
