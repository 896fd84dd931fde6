-- What is due is taken up, one transaction after another. What `is_open_at`, `take_next` and `take_due` say needs it.
use Rattle.std.proofs.Common.{◌≡◌, ◌≢◌, ◌<◌, ◌≤◌, ◌+◌, ◌-◌, ◌^◌, ◌++◌, ◌∷◌, [], List, ℕ, Bool, true, false, Option, Some, None, Ok}
use Rattle.std.proofs.Common.{MatchBool, MatchOption, min, is_some, length, drop, get_or}
use Rattle.std.proofs.Common.{Vec, if◌then◌else◌, map, refl, sym, ap, ◌∙◌, subst, append_assoc, inr}
use Rattle.std.proofs.Math.ListN.{drop_of_length-le}
use Rattle.std.proofs.lemmas.Grind.{flat_map-append}
use Rattle.std.proofs.lemmas.List.{append-nil, drop_more, map-append}
use Rattle.std.specs.List.{flat_map, AllByRecursion}
use Rattle.std.specs.declared.alloc.Global.{Global}
use Rattle.std.specs.declared.time.Instant.{Instant}
use Rattle.xid.specs.Transactions.{TxParts}
use Rattle.wire.specs.Grammar.{tx_spelling}
use Rattle.wire.specs.Versions.{version_2}
use Rattle.protocol.specs.declared.answers.Answer.{Answer}
use Rattle.protocol.specs.Effects.{Config}
use Rattle.protocol.specs.Nodes.{NodeState}
use Rattle.protocol.specs.declared.nodes.NodeId.{NodeId}
use Rattle.protocol.specs.declared.nodes.NodeId.TheVariants.{A, L, R}
use Rattle.protocol.specs.declared.requests.Request.{Request}
use Rattle.resource_manager.specs.Open.{open_in}
use Rattle.node_core.specs.Listing.{ListsOpen}
use Rattle.node_core.specs.Nodes.{NodeParts, NodeStands}
use Rattle.node_core.specs.declared.role.Role.{Role}
use Rattle.port.specs.Members.{MemberParts}
use Rattle.serving.specs.declared.group.Item.{Item}
use Rattle.serving.specs.declared.queue.Place.{Place}
use Rattle.serving.specs.declared.schedule.Schedule.{Schedule}
use Rattle.serving.specs.declared.watched.Watch.{Watch}
use Rattle.serving.specs.declared.watches.Watches.{Watches}
use Rattle.serving.specs.Named.{seen, AreAsBefore, IsAdded, IsHandedOut, IsPutOff, SetsOnly}
use Rattle.serving.specs.Watching.{AreOnTime}
use Rattle.node_process.specs.Asking.{IsAnswered}
use Rattle.node_process.specs.Due.{asked_after, question_due, says_open, AsksAfterOpen, DueTx, IsOpenAt, IsWatched, KeepsTime, TakesUp}
use Rattle.node_process.specs.Due.{TakesUpEach}
use Rattle.node_process.specs.Gathering.{asked_item, TakesDue, TakesNext, TakesNone, TakesThese}

-- ---- whether it is open

-- by the answer
pub open_by : (who : NodeId) (tx : TxParts) (was is : MemberParts) (answer : Answer) (is_open : Bool) → IsAnswered who tx was is answer
    → is_open ≡ says_open answer → IsOpenAt who tx was is is_open
open_by who tx was is answer is_open answered said = record {
  out = answered.out;
  takes = answered.takes;
  open_is = said ∙ ap says_open answered.answer_is;
}

-- ---- one is taken up

-- where the queues are as they were, they are on time still
pub keeps_time : (now : Instant) (old new : Watches) → new.schedule ≡ old.schedule → new.queues ≡ old.queues → KeepsTime now old new
keeps_time now old new schedule queues = record {
  schedule = schedule;
  on_time = λ before. subst (λ (s : Schedule). AreOnTime s new.queues.items now) (sym schedule)
      (subst (λ (q : Vec (List Place) Global). AreOnTime old.schedule q.items now) (sym queues) before);
}

-- what waited for its turn, and was handed out, is put off to its next turn
pub put_off_again : (old handed new : Watches) (now : Instant) (spelled : List ℕ) (turn : ℕ)
    (hands : IsHandedOut (seen old) (seen handed) now spelled turn)
    → MatchOption (seen handed spelled) (AreAsBefore (seen handed) (seen new)) (λ watch.
    IsPutOff (seen handed) (seen new) spelled watch handed.schedule handed.queues.items (min (turn + 1) (2 ^ 64 - 1)) now)
    → IsPutOff (seen handed) (seen new) spelled hands.watch handed.schedule handed.queues.items (min (turn + 1) (2 ^ 64 - 1)) now
put_off_again old handed new now spelled turn hands again =
    let off : IsPutOff (seen handed) (seen new) spelled (record hands.watch { waits = false }) handed.schedule handed.queues.items
    (min (turn + 1) (2 ^ 64 - 1)) now =
    subst (λ (seat : Option Watch). MatchOption seat (AreAsBefore (seen handed) (seen new)) (λ watch.
    IsPutOff (seen handed) (seen new) spelled watch handed.schedule handed.queues.items (min (turn + 1) (2 ^ 64 - 1)) now))
    hands.only.changed again in
    record { due = off.due; after = off.after; exact = off.exact; only = off.only }

if_open : (who : NodeId) (one : DueTx) (is_open : Bool) → is_open ≡ says_open one.out.reply
    → (if is_open then question_due who one.turn one.tx ∷ [] else []) ≡ asked_after who one
if_open who one is_open said = ap (λ (b : Bool). if b then question_due who one.turn one.tx ∷ [] else []) said

-- one that is open is asked after, and waits for its next turn
pub next_open : (who : NodeId) (now : Instant) (tx : TxParts) (turn : ℕ) (request : Request) (was is : MemberParts)
    (old handed new : Watches) (before after : List Item) → IsOpenAt who tx was is true
    → (hands : IsHandedOut (seen old) (seen handed) now (tx_spelling version_2 tx) turn) → KeepsTime now old handed
    → MatchOption (seen handed (tx_spelling version_2 tx)) (AreAsBefore (seen handed) (seen new)) (λ watch.
    IsPutOff (seen handed) (seen new) (tx_spelling version_2 tx) watch handed.schedule handed.queues.items
    (min (turn + 1) (2 ^ 64 - 1)) now)
    → KeepsTime now handed new → request ≡ question_due who turn tx → after ≡ before ++ asked_item request ∷ []
    → TakesNext who now was is old new before after
next_open who now tx turn request was is old handed new before after said hands hands_in_time again goes_in_time question came =
    let one : DueTx = record { tx = tx; turn = turn; out = said.out } in
    let spelled : List ℕ = tx_spelling version_2 tx in
    record {
      one = one;
      takes = record {
        handed = handed;
        hands = hands;
        hands_in_time = hands_in_time;
        takes = said.takes;
        goes_on = subst (λ (b : Bool). MatchBool b (IsPutOff (seen handed) (seen new) spelled hands.watch handed.schedule
            handed.queues.items (min (turn + 1) (2 ^ 64 - 1)) now) (SetsOnly (seen handed) (seen new) spelled None)) said.open_is
            (put_off_again old handed new now spelled turn hands again);
        goes_in_time = goes_in_time;
      };
      came = came ∙ ap (λ (r : Request). before ++ asked_item r ∷ []) question
          ∙ ap (λ (asked : List Request). before ++ map asked_item asked) (if_open who one true said.open_is);
    }

-- one that isn't is watched no longer
pub next_settled : (who : NodeId) (now : Instant) (tx : TxParts) (turn : ℕ) (was is : MemberParts) (old handed new : Watches)
    (items : List Item) → IsOpenAt who tx was is false
    → (hands : IsHandedOut (seen old) (seen handed) now (tx_spelling version_2 tx) turn) → KeepsTime now old handed
    → SetsOnly (seen handed) (seen new) (tx_spelling version_2 tx) None → KeepsTime now handed new
    → TakesNext who now was is old new items items
next_settled who now tx turn was is old handed new items said hands hands_in_time settles goes_in_time =
    let one : DueTx = record { tx = tx; turn = turn; out = said.out } in
    let spelled : List ℕ = tx_spelling version_2 tx in
    record {
      one = one;
      takes = record {
        handed = handed;
        hands = hands;
        hands_in_time = hands_in_time;
        takes = said.takes;
        goes_on = subst (λ (b : Bool). MatchBool b (IsPutOff (seen handed) (seen new) spelled hands.watch handed.schedule
            handed.queues.items (min (turn + 1) (2 ^ 64 - 1)) now) (SetsOnly (seen handed) (seen new) spelled None)) said.open_is settles;
        goes_in_time = goes_in_time;
      };
      came = sym (append-nil items)
          ∙ ap (λ (asked : List Request). items ++ map asked_item asked) (if_open who one false said.open_is);
    }

-- ---- one after another

-- nothing was taken up
pub these_none : (who : NodeId) (now : Instant) (node : MemberParts) (watches : Watches) (items : List Item)
    → TakesThese [] who now node node watches watches items items
these_none who now node watches items = record { each = (refl, refl); came = sym (append-nil items) }

each_more : (who : NodeId) (now : Instant) (taken : List DueTx) (one : DueTx) (was mid is : MemberParts) (old between new : Watches)
    → TakesUpEach who now taken was mid old between → TakesUp who now one mid is between new
    → TakesUpEach who now (taken ++ one ∷ []) was is old new
each_more who now [] one was mid is old between new (node, watches) takes =
    let up : TakesUp who now one was is old new =
    subst (λ (w : Watches). TakesUp who now one was is w new) watches
    (subst (λ (m : MemberParts). TakesUp who now one m is between new) node takes) in
    (is, new, up, (refl, refl))
each_more who now (first ∷ rest) one was mid is old between new (next, middle, up, each) takes =
    (next, middle, up, each_more who now rest one next mid is middle between new each takes)

came_more : (who : NodeId) (taken : List DueTx) (one : DueTx) (old items new : List Item)
    → items ≡ old ++ map asked_item (flat_map (asked_after who) taken) → new ≡ items ++ map asked_item (asked_after who one)
    → new ≡ old ++ map asked_item (flat_map (asked_after who) (taken ++ one ∷ []))
came_more who taken one old items new came more =
    let asked : List Request = flat_map (asked_after who) taken in
    let last : List Request = asked_after who one in
    let all : flat_map (asked_after who) (taken ++ one ∷ []) ≡ asked ++ last =
    flat_map-append (asked_after who) taken (one ∷ []) ∙ ap (λ (more : List Request). asked ++ more) (append-nil last) in
    more ∙ ap (λ (some : List Item). some ++ map asked_item last) came ∙ append_assoc old (map asked_item asked) (map asked_item last)
    ∙ ap (λ (some : List Item). old ++ some) (sym (ap (map asked_item) all ∙ map-append asked_item asked last))

-- one more was
pub these_more : (who : NodeId) (now : Instant) (taken : List DueTx) (was mid is : MemberParts) (old between new : Watches)
    (before items after : List Item) → TakesThese taken who now was mid old between before items
    → (next : TakesNext who now mid is between new items after) → TakesThese (taken ++ next.one ∷ []) who now was is old new before after
these_more who now taken was mid is old between new before items after these next = record {
  each = each_more who now taken next.one was mid is old between new these.each next.takes;
  came = came_more who taken next.one before items after these.came next.came;
}

-- there is nothing more
pub due_ends : (who : NodeId) (now : Instant) (taken : List DueTx) (was mid is : MemberParts) (before last after : Watches)
    (old items new : List Item) → TakesThese taken who now was mid before last old items → TakesNone now mid is last after items new
    → TakesDue who now was is before after old new
due_ends who now taken was mid is before last after old items new these none = record {
  taken = taken;
  last = last;
  these = subst (λ (node : MemberParts). TakesThese taken who now was node before last old new) (sym none.node)
      (subst (λ (some : List Item). TakesThese taken who now was mid before last old some) (sym none.items) these);
  enough = inr none.none;
}

-- ---- what is watched from the start

-- what is watched stays so
abbrev pub KeepWatch : (old new : Watches) → Type 0
KeepWatch old new = (spelled : List ℕ) → is_some (seen old spelled) ≡ true → is_some (seen new spelled) ≡ true

there_by_add : (seat : Option Watch) (old new : List ℕ → Option Watch) (spelled : List ℕ) (schedule : Schedule)
    (queues : List (List Place)) (turn : ℕ) (now : Instant) → seat ≡ old spelled
    → MatchOption seat (IsAdded old new spelled schedule queues turn now) (λ watch. AreAsBefore old new)
    → is_some (new spelled) ≡ true
there_by_add None old new spelled schedule queues turn now is added = ap is_some added.put_off.only.changed
there_by_add (Some watch) old new spelled schedule queues turn now is same = ap is_some (same spelled) ∙ ap is_some (sym is)

kept_by_add : (seat : Option Watch) (old new : List ℕ → Option Watch) (spelled other : List ℕ) (schedule : Schedule)
    (queues : List (List Place)) (turn : ℕ) (now : Instant) → seat ≡ old spelled
    → MatchOption seat (IsAdded old new spelled schedule queues turn now) (λ watch. AreAsBefore old new)
    → is_some (old other) ≡ true → is_some (new other) ≡ true
kept_by_add None old new spelled other schedule queues turn now is added there =
    let apart : other ≢ spelled = λ e.
    let wrong : true ≡ false = sym there ∙ ap (λ (s : List ℕ). is_some (old s)) e ∙ ap is_some (sym is) in absurd (cc) in
    ap is_some (added.put_off.only.others other apart) ∙ there
kept_by_add (Some watch) old new spelled other schedule queues turn now is same there = ap is_some (same other) ∙ there

-- no transaction is left
pub watched_all : (txs : List TxParts) (i : ℕ) (watches : Watches) → length txs ≤ i
    → AllByRecursion (IsWatched watches) (drop i txs)
watched_all txs i watches done =
    subst (AllByRecursion (IsWatched watches)) (sym (drop_of_length-le txs done)) tt

-- the next one is watched, and then those that are left
pub watched_next : (txs : List TxParts) (i : ℕ) (tx : TxParts) (old new last : Watches) (turn : ℕ) (now : Instant) → i < length txs
    → tx ≡ get_or txs i tx
    → MatchOption (seen old (tx_spelling version_2 tx))
    (IsAdded (seen old) (seen new) (tx_spelling version_2 tx) old.schedule old.queues.items turn now)
    (λ watch. AreAsBefore (seen old) (seen new))
    → KeepWatch new last → AllByRecursion (IsWatched last) (drop (i + 1) txs)
    → KeepWatch old last × AllByRecursion (IsWatched last) (drop i txs)
watched_next txs i tx old new last turn now below is added keep left =
    let spelled : List ℕ = tx_spelling version_2 tx in
    let here : tx ∷ drop (i + 1) txs ≡ drop i txs = ap (λ (t : TxParts). t ∷ drop (i + 1) txs) is ∙ sym (drop_more txs i tx below) in (
      λ other there. keep other (kept_by_add (seen old spelled) (seen old) (seen new) spelled other old.schedule old.queues.items turn now
          refl added there),
      subst (AllByRecursion (IsWatched last)) here (
        keep spelled (there_by_add (seen old spelled) (seen old) (seen new) spelled old.schedule old.queues.items turn now refl added),
        left,
      ),
    )

-- a resource manager lists what is open at it
pub open_watched : (node : NodeParts) (txs : List TxParts) (watches : Watches)
    → ((config : Config) (m : NodeState) → NodeStands config node m → ListsOpen node.who m.facts node.role (Ok txs))
    → AllByRecursion (IsWatched watches) txs → AsksAfterOpen node watches
open_watched node txs watches lists watched config m stands =
    by node.who node.role (lists config m stands)
  where
    by : (its : NodeId) (role : Option Role) → ListsOpen its m.facts role (Ok txs) → AllByRecursion (IsWatched watches) (open_in m.facts)
    by (R rm) None wrong = absurd (cc)
    by (R rm) (Some role) are = subst (AllByRecursion (IsWatched watches)) are watched
    by (A at) role wrong = absurd (cc)
    by (L at) role wrong = absurd (cc)
