-- How the lines that clients wrote come into a group.
use Rattle.std.specs.Prelude.{⊤, ◌≡◌, ◌⊎◌, ◌↔◌, ◌≤◌, ◌<◌, ◌==◌, ◌&&◌, ℕ, ◌++◌, ◌∷◌, not, Bool, true, false, List, [], length, filter}
use Rattle.std.specs.Prelude.{Option, Some, None, is_some, IsSomeAnd}
use Rattle.std.specs.List.{flat_map, list_all, AllZip}
use Rattle.std.specs.Option.{option_map_or}
use Rattle.slab.specs.Slab.{Slab, get}
use Rattle.xid.specs.Names.{XidParts}
use Rattle.xid.specs.Places.{Place, is_xid_below}
use Rattle.xid.specs.Text.{lacks}
use Rattle.protocol.specs.declared.requests.Action.TheVariants.{Start}
use Rattle.protocol.specs.declared.requests.Request.{Request}
use Rattle.protocol.specs.declared.requests.Request.TheVariants.{Call}
use Rattle.serving.specs.declared.lines.TheConstants.{MAX_LINE}
use Rattle.serving.specs.declared.stage.Stage.TheVariants as stages
use Rattle.serving.specs.declared.words.Wish.{Wish}
use Rattle.serving.specs.declared.words.Wish.TheVariants as wishes
use Rattle.serving.specs.declared.group.Origin.{Origin}
use Rattle.serving.specs.declared.group.Origin.TheVariants.{Client, Node}
use Rattle.serving.specs.declared.group.Work.{Work}
use Rattle.serving.specs.declared.group.Work.TheVariants.{Ask, Say, Untimely, Late}
use Rattle.serving.specs.declared.group.Item.{Item}
use Rattle.serving.specs.declared.taking.TheConstants.{MOST_ITEMS}
use Rattle.serving.specs.declared.taking.Taken.{Taken}
use Rattle.serving.specs.declared.taking.Taken.TheVariants as takens
use Rattle.serving.specs.declared.terms.Terms.{Terms}
use Rattle.serving.specs.Clients.{ClientParts, is_proving, may_ask}
use Rattle.serving.specs.Fronts.{IsCut, IsLong, IsNoLine}
use Rattle.serving.specs.Groups.{is_nobody}
use Rattle.serving.specs.Proving.{IsProof}
use Rattle.serving.specs.Times.{is_timely}
use Rattle.serving.specs.Wishes.{IsWish}

-- ---- what is to be done for a line

-- whether a name isn't of its time, where names stand in time
abbrev pub is_untimely : Terms → XidParts → Bool
is_untimely terms x = option_map_or (λ times. not (is_timely times x terms.clock)) terms.times false

-- whether a request is a start that is refused: its name isn't of its time
abbrev pub is_refused : Terms → Request → Bool
is_refused terms (Call x Start) = is_untimely terms x
is_refused terms request = false

-- whether a start is answered as below the floor: names stand in time, and its own is below a place to which that may rise
abbrev pub is_late : Terms → (promised : Option Place) → XidParts → Bool
is_late terms promised x = is_some terms.times && is_xid_below promised x

-- a request is a start that is answered as below the floor
abbrev pub IsLate : Terms → Request → Type 0
IsLate terms (Call x Start) = (promised : Option Place) × (is_late terms promised x ≡ true)
IsLate terms request = ⊥

-- what is to be done for a wish: a request is handed to the node, unless it is a start that is refused or answered as below the floor, and
-- one that is refused never is; another wish is answered
abbrev pub IsWorkFor : Terms → Wish → Work → Type 0
IsWorkFor terms (wishes.Ask request) (Ask handed) = (handed ≡ request) × (is_refused terms request ≡ false)
IsWorkFor terms (wishes.Ask request) Untimely = is_refused terms request ≡ true
IsWorkFor terms (wishes.Ask request) Late = (is_refused terms request ≡ false) × IsLate terms request
IsWorkFor terms (wishes.Ask request) work = ⊥
IsWorkFor terms wish (Say said) = said ≡ wish
IsWorkFor terms wish work = ⊥

-- what is to be done for a line of a client
pub record IsWorkOf (terms : Terms) (line : List ℕ) (work : Work) : Type 0 where
  pub wish : Wish
  pub wished : IsWish terms.who line wish
  pub done : IsWorkFor terms wish work

-- a line of a client became an item of a group: it is for that client, and is what is to be done for the line
pub record IsItemOf (terms : Terms) (origin : Origin) (line : List ℕ) (item : Item) : Type 0 where
  pub whole : lacks 10 line ≡ true
  pub short : length line ≤ MAX_LINE
  pub origin_is : item.origin ≡ origin
  pub work : IsWorkOf terms line item.work

-- whether no line of a client is looked at before this work of it is answered
abbrev pub holds_up : Work → Bool
holds_up (Say wishes.Unknown) = false
holds_up (Say wishes.Elsewhere) = false
holds_up (Say wishes.Info) = false
holds_up (Say wish) = true
holds_up work = false

-- none of these holds up what is behind it
abbrev pub are_free : List Item → Bool
are_free items = list_all (λ item. not (holds_up item.work)) items

-- only the last of these may hold up what is behind it
pub record HoldsUpLast (items : List Item) : Type 0 where
  pub front : List Item
  pub last : List Item
  pub whole : items ≡ front ++ last
  pub free : are_free front ≡ true
  pub one : length last ≤ 1

-- the last of these holds up what is behind it
pub record IsHeldUp (items : List Item) : Type 0 where
  pub front : List Item
  pub last : Item
  pub whole : items ≡ front ++ last ∷ []
  pub held : holds_up last.work ≡ true

-- where these were taken and this is left, no line is to be taken still: none stands there whole, or it is held up
abbrev pub NoneLeft : (taken : List Item) → (rest : List ℕ) → Type 0
NoneLeft taken rest = IsNoLine rest ⊎ IsHeldUp taken

-- ---- the lines of a client

-- lines, each with the LF at its end
abbrev pub with_ends : List (List ℕ) → List ℕ
with_ends lines = flat_map (λ line. line ++ 10 ∷ []) lines

-- lines were taken from the front of these bytes, each as an item in the same order
pub record TakesFront (terms : Terms) (origin : Origin) (bytes rest : List ℕ) (taken : List Item) : Type 0 where
  pub lines : List (List ℕ)
  pub bytes_are : bytes ≡ with_ends lines ++ rest
  pub each : AllZip (IsItemOf terms origin) lines taken
  pub last : HoldsUpLast taken

-- lines of a client were taken; what it hears, and how it stands, is else as it was, but that it is to be let go where a line that is too
-- long comes next
pub record TakesLines (terms : Terms) (key : ℕ) (old new : ClientParts) (taken : List Item) : Type 0 where
  pub front : TakesFront terms (Client (key) (old.number)) old.input new.input taken
  pub same : new ≡ record old { input = new.input; is_broken = new.is_broken; begun = new.begun }
  pub kept : old.is_broken ≡ true → new.is_broken ≡ true
  pub broken : new.is_broken ≡ true → (old.is_broken ≡ true) ⊎ IsLong new.input

-- a client whose proof came
abbrev pub after_proof : Bool → ClientParts → ClientParts
after_proof true client = record client { stage = stages.Open; begun = None }
after_proof false client = record client { is_broken = true }

-- the first line of a client that is to prove that it has the key was taken as its proof
pub record GivesProof (terms : Terms) (old new : ClientParts) : Type 0 where
  pub challenge : List ℕ
  pub line : List ℕ
  pub rest : List ℕ
  pub was : old.stage ≡ stages.Proving challenge
  pub cut : IsCut old.input line rest
  pub is_proved : Bool
  pub proved : (is_proved ≡ true) ↔ IsProof terms.lock challenge line
  pub after : new ≡ after_proof is_proved (record old { input = rest })

-- a client that is to prove that it has the key wrote a line that is too long for that
pub record IsTooLong (old new : ClientParts) : Type 0 where
  pub due : is_proving old.stage ≡ true
  pub long : IsLong old.input
  pub after : new ≡ record old { is_broken = true }

-- nothing came of a client that is to prove that it has the key, or too much, or its proof
abbrev pub TakesProof : Terms → ClientParts → ClientParts → Type 0
TakesProof terms old new = (new ≡ old) ⊎ (IsTooLong old new ⊎ GivesProof terms old new)

-- what a client wrote was looked at: first its proof, if that is due, and then lines, none before the proof; and nothing where it may not
-- ask, as while it waits for an answer
pub record HearsClient (terms : Terms) (key : ℕ) (old new : ClientParts) (taken : List Item) : Type 0 where
  pub mid : ClientParts
  pub proof : TakesProof terms old mid
  pub lines : TakesLines terms key mid new taken
  pub unproved : is_proving mid.stage ≡ true → (new ≡ mid) × (taken ≡ [])
  pub idle : may_ask old ≡ false → (new ≡ old) × (taken ≡ [])

-- of a client of which these were taken no line is to be taken still: it may not ask, or none is left
abbrev pub NoneWaits : ClientParts → (taken : List Item) → Type 0
NoneWaits client taken = (may_ask client ≡ false) ⊎ NoneLeft taken client.input

-- ---- one line

-- a line stood at the front of these bytes, and became an item behind others, which holds up what is behind it
pub record TakesLine (terms : Terms) (origin : Origin) (bytes rest : List ℕ) (before after : List Item) : Type 0 where
  pub line : List ℕ
  pub item : Item
  pub cut : IsCut bytes line rest
  pub after_is : after ≡ before ++ item ∷ []
  pub its : IsItemOf terms origin line item
  pub held : holds_up item.work ≡ true

-- the same, and the item holds nothing up
pub record TakesFree (terms : Terms) (origin : Origin) (bytes rest : List ℕ) (before after : List Item) : Type 0 where
  pub line : List ℕ
  pub item : Item
  pub cut : IsCut bytes line rest
  pub after_is : after ≡ before ++ item ∷ []
  pub its : IsItemOf terms origin line item
  pub free : holds_up item.work ≡ false

-- a line was taken from the front, or none
abbrev pub TakesOne : (terms : Terms) → Origin → (bytes : List ℕ) → (before after : List Item) → Taken → Type 0
TakesOne terms origin bytes before after (takens.More rest) = TakesFree terms origin bytes rest.now before after
TakesOne terms origin bytes before after (takens.Last rest) = TakesLine terms origin bytes rest.now before after
TakesOne terms origin bytes before after takens.TooLong = (after ≡ before) × IsLong bytes
TakesOne terms origin bytes before after takens.Nothing = (after ≡ before) × (lacks 10 bytes ≡ true)

-- ---- the lines of all clients

-- whether somebody is a client at a key
abbrev pub is_from : (key : ℕ) → Origin → Bool
is_from key (Client its_key its_number) = its_key == key
is_from key Node = false

-- whether an item is for a client at a key
abbrev pub is_at : (key : ℕ) → Item → Bool
is_at key item = is_from key item.origin

-- which of these items are for clients at a key
abbrev pub items_at : (key : ℕ) → List Item → List Item
items_at key items = filter (is_at key) items

-- what the client at a key wrote was looked at, if one is there, and became these items
abbrev pub HearsAt : Terms → (key : ℕ) → (old new : Option ClientParts) → (taken : List Item) → Type 0
HearsAt terms key None new taken = (new ≡ None) × (taken ≡ [])
HearsAt terms key (Some old) new taken = IsSomeAnd new (λ now. HearsClient terms key old now taken)

-- of the client at a key no line is to be taken still, if one is there
abbrev pub NoneWaitsAt : Option ClientParts → (taken : List Item) → Type 0
NoneWaitsAt None taken = ⊤
NoneWaitsAt (Some client) taken = NoneWaits client taken

-- whether each of these items is for a client
abbrev pub are_clients : List Item → Bool
are_clients items = list_all (λ item. not (is_nobody item.origin)) items

-- what all clients wrote was looked at, each for itself: the items that came of it are behind those that were there, and of them those of
-- each client are what is to be done for its lines, and there are no others; where the group isn't full, no line is to be taken still
pub record HearsAll (terms : Terms) (old new : Slab ClientParts) (before after : List Item) : Type 0 where
  pub taken : List Item
  pub after_is : after ≡ before ++ taken
  pub each : (key : ℕ) → HearsAt terms key (get old key) (get new key) (items_at key taken)
  pub theirs : are_clients taken ≡ true
  pub enough : length after < MOST_ITEMS → (key : ℕ) → NoneWaitsAt (get new key) (items_at key taken)

-- the same of the clients at keys from one on and before another; the others are as they were
pub record HearsRange (terms : Terms) (from to : ℕ) (old new : Slab ClientParts) (before after : List Item) : Type 0 where
  pub taken : List Item
  pub after_is : after ≡ before ++ taken
  pub inside : (key : ℕ) → from ≤ key → key < to → HearsAt terms key (get old key) (get new key) (items_at key taken)
  pub outside : (key : ℕ) → (key < from) ⊎ (to ≤ key) → (get new key ≡ get old key) × (items_at key taken ≡ [])
  pub theirs : are_clients taken ≡ true
  pub enough : length after < MOST_ITEMS → (key : ℕ) → from ≤ key → key < to → NoneWaitsAt (get new key) (items_at key taken)
