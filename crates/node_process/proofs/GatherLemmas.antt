-- What comes into a group, one thing after another: requests that are pending, and the messages that a port gives. What `take_pending` and
-- `take_messages` say needs it.
use Rattle.std.proofs.Common.{◌≡◌, ◌++◌, ◌∷◌, [], List, ℕ, Some, None, Ok, Err}
use Rattle.std.proofs.Common.{length, drop, map, refl, sym, ap, ◌∙◌, subst, append_assoc, arith}
use Rattle.std.proofs.lemmas.List.{append-nil, map-append}
use Rattle.protocol.specs.declared.requests.Request.{Request}
use Rattle.port.specs.Calls.{Receiving}
use Rattle.letter_port.specs.LetterPorts.{LetterParts, LetterReceived}
use Rattle.letter_port.specs.Runs.{Given, ReceivesAll, messages_of}
use Rattle.serving.specs.declared.group.Item.{Item}
use Rattle.node_process.specs.Gathering.{asked_item, taken_item, GaveNothing, Receives, TakesMessages, TakesPending}

-- ---- requests that are pending

-- none came
pub pending_none : (pending : List Request) (items : List Item) → TakesPending pending pending items items
pending_none pending items = record { taken = []; whole = refl; came = sym (append-nil items) }

-- there was none
pub pending_empty : (pending : List Request) → pending ≡ drop 1 pending → pending ≡ []
pending_empty [] same = refl
pending_empty (request ∷ rest) same = let longer : length (request ∷ rest) ≡ length rest = ap length same in absurd (omega arith)

-- one more came
pub pending_more : (pending left rest : List Request) (request : Request) (old items new : List Item) → TakesPending pending left old items
    → left ≡ request ∷ rest → new ≡ items ++ asked_item request ∷ [] → TakesPending pending rest old new
pending_more pending left rest request old items new takes next came = record {
  taken = takes.taken ++ request ∷ [];
  whole = takes.whole ∙ ap (λ (more : List Request). takes.taken ++ more) next ∙ sym (append_assoc takes.taken (request ∷ []) rest);
  came = came ∙ ap (λ (some : List Item). some ++ asked_item request ∷ []) takes.came
      ∙ append_assoc old (map asked_item takes.taken) (asked_item request ∷ [])
      ∙ ap (λ (some : List Item). old ++ some) (sym (map-append asked_item takes.taken (request ∷ [])));
}

-- ---- messages

-- nothing came
pub takes_none : {P : Type 0} (Received : Receiving P) (port : LetterParts P) (items : List Item)
    → TakesMessages Received port port items items
takes_none Received port items = record { given = []; receives = refl; taken = sym (append-nil items) }

-- one receive gave no message
pub takes_nothing : {P : Type 0} (Received : Receiving P) (given : Given) (before after : LetterParts P) (items : List Item)
    → messages_of (given ∷ []) ≡ [] → LetterReceived Received before after given → TakesMessages Received before after items items
takes_nothing Received given before after items none received = record {
  given = given ∷ [];
  receives = (after, received, refl);
  taken = sym (ap (λ (messages : List (List ℕ)). items ++ map taken_item messages) none ∙ append-nil items);
}

-- one receive gave a message
pub takes_one : {P : Type 0} (Received : Receiving P) (bytes : List ℕ) (before after : LetterParts P) (old new : List Item)
    → LetterReceived Received before after (Ok (Some bytes)) → new ≡ old ++ taken_item bytes ∷ []
    → TakesMessages Received before after old new
takes_one Received bytes before after old new received taken = record {
  given = Ok (Some bytes) ∷ [];
  receives = (after, received, refl);
  taken = taken;
}

messages_both : (a b : List Given) → messages_of (a ++ b) ≡ messages_of a ++ messages_of b
messages_both [] b = refl
messages_both (Ok None ∷ more) b = messages_both more b
messages_both (Ok (Some message) ∷ more) b = ap (λ (rest : List (List ℕ)). message ∷ rest) (messages_both more b)
messages_both (Err refusal ∷ more) b = messages_both more b

receives_both : {P : Type 0} (Received : Receiving P) (a b : List Given) (before mid after : LetterParts P)
    → ReceivesAll Received before mid a → ReceivesAll Received mid after b → ReceivesAll Received before after (a ++ b)
receives_both Received [] b before mid after same more =
    subst (λ (port : LetterParts _). ReceivesAll Received port after b) same more
receives_both Received (given ∷ rest) b before mid after (next, received, each) more =
    (next, received, receives_both Received rest b next mid after each more)

-- nothing was received
pub receives_none : {P : Type 0} (Received : Receiving P) (port : LetterParts P) → Receives Received port port
receives_none Received port = record { given = []; each = refl }

-- one receive
pub receives_one : {P : Type 0} (Received : Receiving P) (given : Given) (before after : LetterParts P)
    → LetterReceived Received before after given → Receives Received before after
receives_one Received given before after received = record { given = given ∷ []; each = (after, received, refl) }

-- some receives, and then others
pub receives_more : {P : Type 0} (Received : Receiving P) (before mid after : LetterParts P) → Receives Received before mid
    → Receives Received mid after → Receives Received before after
receives_more Received before mid after first second = record {
  given = first.given ++ second.given;
  each = receives_both Received first.given second.given before mid after first.each second.each;
}

-- some came, and then others
pub takes_both : {P : Type 0} (Received : Receiving P) (before between after : LetterParts P) (old mid new : List Item)
    → TakesMessages Received before between old mid → TakesMessages Received between after mid new
    → TakesMessages Received before after old new
takes_both Received before between after old mid new first second =
    let a : List Item = map taken_item (messages_of first.given) in
    let b : List Item = map taken_item (messages_of second.given) in
    record {
      given = first.given ++ second.given;
      receives = receives_both Received first.given second.given before between after first.receives second.receives;
      taken = second.taken ∙ ap (λ (items : List Item). items ++ b) first.taken ∙ append_assoc old a b
          ∙ ap (λ (items : List Item). old ++ items) (sym (ap (map taken_item) (messages_both first.given second.given)
          ∙ map-append taken_item (messages_of first.given) (messages_of second.given)));
    }

-- one receive, which gave nothing
pub takes_no_more : {P : Type 0} (Received : Receiving P) (before after : LetterParts P) (items : List Item)
    → LetterReceived Received before after (Ok None)
    → (takes : TakesMessages Received before after items items) × GaveNothing takes.given
unfolding takes_nothing
takes_no_more Received before after items received = (takes_nothing Received (Ok None) before after items refl received, ([], refl))

-- some came, and then others, of which the last receive gave nothing
pub takes_last : {P : Type 0} (Received : Receiving P) (before between after : LetterParts P) (old mid new : List Item)
    → TakesMessages Received before between old mid
    → (last : TakesMessages Received between after mid new) × GaveNothing last.given
    → (takes : TakesMessages Received before after old new) × GaveNothing takes.given
unfolding takes_both
takes_last Received before between after old mid new first (last, nothing) = (
  takes_both Received before between after old mid new first last,
  (
    first.given ++ nothing.0,
    ap (λ (given : List Given). first.given ++ given) nothing.1 ∙ sym (append_assoc first.given nothing.0 (Ok None ∷ [])),
  ),
)
