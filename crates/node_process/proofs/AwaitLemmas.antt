-- Ends that clients await: when they begin, and what those who wait hear.
use Rattle.std.proofs.Common.{◌≡◌, ◌⊎◌, ◌<◌, ◌≤◌, ◌+◌, ◌∷◌, [], List, ℕ, Option, Some, None, Bool, true, false, length, drop, get_or}
use Rattle.std.proofs.Common.{is_some, refl, sym, ap, ◌∙◌, subst, if◌then◌else◌, inl, inr}
use Rattle.std.proofs.Math.ListN.{drop_of_length-le}
use Rattle.std.proofs.lemmas.Bool.{cases_eq}
use Rattle.std.proofs.lemmas.List.{drop_more}
use Rattle.std.specs.Option.{option_map}
use Rattle.std.specs.declared.time.Instant.{Instant}
use Rattle.slab.specs.Slab.{Slab, get, with_value, SameValues, Updates}
use Rattle.slab.proofs.SlabLemmas.{Updates-with_value}
use Rattle.xid.specs.Transactions.{TxParts}
use Rattle.protocol.specs.declared.nodes.NodeId.{NodeId}
use Rattle.protocol.specs.declared.requests.Request.{Request}
use Rattle.port.specs.Members.{MemberParts}
use Rattle.serving.specs.declared.group.Item.{Item}
use Rattle.serving.specs.declared.group.Work.{Work}
use Rattle.serving.specs.declared.group.Work.TheVariants as works
use Rattle.serving.specs.declared.stage.Stage.{Stage}
use Rattle.serving.specs.declared.words.Wish.TheVariants as wishes
use Rattle.serving.specs.Clients.{ClientParts}
use Rattle.serving.specs.Groups.{is_for}
use Rattle.serving.specs.Happenings.{after_work, is_await, question, with_awaits, AwaitsBegin}
use Rattle.serving.proofs.LifeLists.{no_await}
use Rattle.node_process.specs.Awaiting.{once_waiting, AsksStanding, HearsAt, HearStandings, Waiting}

-- ---- they begin

either_way : (b : Bool) (a stage : Stage) → a ≡ stage → (if b then a else stage) ≡ stage
either_way true a stage same = same
either_way false a stage same = refl

stays_at : (who : NodeId) (until : Instant) (key : ℕ) (item : Item) (seat : Option ClientParts) → is_await item.work ≡ false
    → seat ≡ option_map (with_awaits who until key (item ∷ [])) seat
stays_at who until key item None none = refl
stays_at who until key item (Some client) none =
    ap (λ (stage : Stage). Some (record client { stage = stage }))
    (sym (either_way (is_for key client.number item.origin) (after_work who until item.work client.stage) client.stage
    (no_await who until item.work client.stage none)))

-- an item that awaits nothing leaves all as it is
pub begins_none : (who : NodeId) (until : Instant) (item : Item) (clients : Slab ClientParts) → is_await item.work ≡ false
    → AwaitsBegin who until (item ∷ []) clients clients
begins_none who until item clients none key = stays_at who until key item (get clients key) none

waits_at : (who : NodeId) (until : Instant) (key : ℕ) (item : Item) (tx : TxParts) (request : Request) (seat : Option ClientParts)
    → item.work ≡ works.Say (wishes.Await tx) → request ≡ question who tx
    → option_map (once_waiting item.origin request until key) seat ≡ option_map (with_awaits who until key (item ∷ [])) seat
waits_at who until key item tx request None work asks = refl
waits_at who until key item tx request (Some client) work asks =
    ap (λ (r : Request). Some (once_waiting item.origin r until key client)) asks
    ∙ ap (λ (w : Work). Some (record client {
      stage = if is_for key client.number item.origin then after_work who until w client.stage
          else client.stage;
    })) (sym work)

-- who awaits an end waits for it
pub begins_one : (who : NodeId) (until : Instant) (item : Item) (tx : TxParts) (request : Request) (old new : Slab ClientParts)
    → item.work ≡ works.Say (wishes.Await tx) → request ≡ question who tx
    → ((key : ℕ) → get new key ≡ option_map (once_waiting item.origin request until key) (get old key))
    → AwaitsBegin who until (item ∷ []) old new
begins_one who until item tx request old new work asks waits key =
    waits key ∙ waits_at who until key item tx request (get old key) work asks

both_at : (who : NodeId) (until : Instant) (key : ℕ) (item : Item) (rest : List Item) (seat : Option ClientParts)
    → option_map (with_awaits who until key rest) (option_map (with_awaits who until key (item ∷ [])) seat)
    ≡ option_map (with_awaits who until key (item ∷ rest)) seat
both_at who until key item rest None = refl
both_at who until key item rest (Some client) = refl

none_at : (who : NodeId) (until : Instant) (key : ℕ) (seat : Option ClientParts) → seat ≡ option_map (with_awaits who until key []) seat
none_at who until key None = refl
none_at who until key (Some client) = refl

-- no item is left
pub begins_all : (who : NodeId) (until : Instant) (items : List Item) (i : ℕ) (clients : Slab ClientParts) → length items ≤ i
    → AwaitsBegin who until (drop i items) clients clients
begins_all who until items i clients done =
    subst (λ (left : List Item). AwaitsBegin who until left clients clients) (sym (drop_of_length-le items done))
    (λ key. none_at who until key (get clients key))

-- the next item, and then those that are left
pub begins_next : (who : NodeId) (until : Instant) (items : List Item) (i : ℕ) (item : Item) (old mid new : Slab ClientParts)
    → i < length items → item ≡ get_or items i item → AwaitsBegin who until (item ∷ []) old mid
    → AwaitsBegin who until (drop (i + 1) items) mid new → AwaitsBegin who until (drop i items) old new
begins_next who until items i item old mid new below is first more =
    let here : item ∷ drop (i + 1) items ≡ drop i items = ap (λ (x : Item). x ∷ drop (i + 1) items) is
    ∙ sym (drop_more items i item below) in
    subst (λ (left : List Item). AwaitsBegin who until left old new) here
    (λ key. more key ∙ ap (option_map (with_awaits who until key (drop (i + 1) items))) (first key)
    ∙ both_at who until key item (drop (i + 1) items) (get old key))

-- ---- they are heard

same_values : (old : Slab ClientParts) (key : ℕ) (client now : ClientParts) → get old key ≡ Some client → now ≡ client
    → Updates old (with_value old key now) key (Some now) → (other : ℕ) → (other ≡ key) ⊎ (other ≡ key → ⊥)
    → get (with_value old key now) other ≡ get old other
same_values old key client now was same updates other (inl is) =
    ap (get (with_value old key now)) is ∙ updates.changed ∙ ap Some same ∙ sym was ∙ ap (get old) (sym is)
same_values old key client now was same updates other (inr apart) = updates.others other apart

-- a client at a key asked how its transaction stands, or it didn't wait
pub hears_one : (now : Instant) (was is : MemberParts) (key : ℕ) (old : Slab ClientParts) (client heard : ClientParts)
    → get old key ≡ Some client → AsksStanding now was is client heard → HearsAt now was is old (with_value old key heard)
hears_one now was is key old client heard there (inl (node, same)) =
    let updates = Updates-with_value old key heard (ap is_some there) in
    inl (node, λ other. same_values old key client heard there same updates other (cases_eq other key))
hears_one now was is key old client heard there (inr asks) =
    let updates = Updates-with_value old key heard (ap is_some there) in
    let one : Waiting = record {
      key = key;
      client = client;
      request = asks.request;
      until = asks.until;
      is_asked = asks.is_asked;
      out = asks.out;
    } in
    inr (
      one,
      record {
        there = there;
        stage = asks.stage;
        takes = asks.takes;
        only = subst (λ (c : ClientParts). Updates old (with_value old key heard) key (Some c)) asks.hears updates;
      },
    )

heard_alike : (now : Instant) (heard : List Waiting) (was is : MemberParts) (old like new : Slab ClientParts) → SameValues old like
    → HearStandings now heard was is like new → HearStandings now heard was is old new
heard_alike now [] was is old like new same (node, more) = (node, λ key. more key ∙ same key)
heard_alike now (one ∷ rest) was is old like new same (next, mid, hears, more) = (
  next,
  mid,
  record {
    there = sym (same one.key) ∙ hears.there;
    stage = hears.stage;
    takes = hears.takes;
    only = record { changed = hears.only.changed; others = λ other apart. hears.only.others other apart ∙ same other };
  },
  more,
)

-- what the client at a key heard, and then the others
pub heard_next : (now : Instant) (heard : List Waiting) (was mid is : MemberParts) (old next new : Slab ClientParts)
    → HearsAt now was mid old next → HearStandings now heard mid is next new
    → (all : List Waiting) × HearStandings now all was is old new
heard_next now heard was mid is old next new (inl (node, same)) more =
    (heard, heard_alike now heard was is old next new same (subst (λ (m : MemberParts). HearStandings now heard m is next new) node more))
heard_next now heard was mid is old next new (inr (one, hears)) more = (one ∷ heard, (mid, next, hears, more))
