-- Who is told answers one after another.
use Rattle.std.proofs.Common.{◌≡◌, ◌<◌, ◌≤◌, ◌+◌, ◌++◌, ◌∷◌, [], Bool, List, ℕ, Option, Some, None, Vec, length, drop, get_or, slice_get}
use Rattle.std.proofs.Common.{Result, Ok, Err, refl, sym, ap, ◌∙◌, subst, append_assoc}
use Rattle.std.proofs.Math.ListN.{drop_of_length-le}
use Rattle.std.proofs.lemmas.List.{append-nil, drop_more}
use Rattle.std.specs.declared.alloc.Global.{Global}
use Rattle.std.specs.Borrow.{Bor}
use Rattle.std.specs.Option.{option_map}
use Rattle.std.specs.Result.{OnErr}
use Rattle.slab.specs.Slab.{Slab, get}
use Rattle.serving.specs.Clients.{ClientParts}
use Rattle.serving.specs.declared.group.Item.{Item}
use Rattle.serving.specs.declared.group.Work.{Work}
use Rattle.protocol.specs.declared.answers.Answer.{Answer}
use Rattle.serving.specs.Groups.{Told, after_one, answer_text, answers_to, is_handed, is_said, texts_for, part_for, with_answers, AreTold}
use Rattle.serving.specs.Groups.{AreToldSome}

-- the texts of two lists
pub texts_of_two : (key number : ℕ) (a b : List Told) → texts_for key number (a ++ b) ≡ texts_for key number a ++ texts_for key number b
texts_of_two key number [] b = refl
texts_of_two key number (told ∷ a) b =
    ap (λ (t : List ℕ). part_for key number told ++ t) (texts_of_two key number a b)
    ∙ sym (append_assoc (part_for key number told) (texts_for key number a) (texts_for key number b))

told_two : (key : ℕ) (a b : List Told) (client : ClientParts)
    → with_answers key b (with_answers key a client) ≡ with_answers key (a ++ b) client
told_two key a b client =
    ap (λ (t : List ℕ). record client { output = t })
    (append_assoc client.output (texts_for key client.number a) (texts_for key client.number b)
    ∙ ap (λ (t : List ℕ). client.output ++ t) (sym (texts_of_two key client.number a b)))

told_two_at : (key : ℕ) (a b : List Told) (seat : Option ClientParts)
    → option_map (with_answers key b) (option_map (with_answers key a) seat) ≡ option_map (with_answers key (a ++ b)) seat
told_two_at key a b None = refl
told_two_at key a b (Some client) = ap Some (told_two key a b client)

-- who is told these answers, and then those, is told all of them
pub told_both : (old mid new : Slab ClientParts) (a b : List Told) → AreTold old mid a → AreTold mid new b → AreTold old new (a ++ b)
told_both old mid new a b first second key =
    second key ∙ ap (option_map (with_answers key b)) (first key) ∙ told_two_at key a b (get old key)

told_nothing : (key : ℕ) (client : ClientParts) → with_answers key [] client ≡ client
told_nothing key client = ap (λ (t : List ℕ). record client { output = t }) (append-nil client.output)

told_nothing_at : (key : ℕ) (seat : Option ClientParts) → seat ≡ option_map (with_answers key []) seat
told_nothing_at key None = refl
told_nothing_at key (Some client) = ap Some (sym (told_nothing key client))

-- nobody is told nothing
pub told_none : (old : Slab ClientParts) → AreTold old old []
told_none old key = told_nothing_at key (get old key)

-- where all items are done, all answers were told
pub told_all : (items : List Item) (i : ℕ) (given : List (Bor Answer)) (spoken : List (Vec ℕ Global)) (all told : List Told)
    → length items ≤ i → all ≡ told ++ answers_to (drop i items) given spoken → all ≡ told
told_all items i given spoken all told done whole =
    whole ∙ ap (λ (left : List Item). told ++ answers_to left given spoken) (drop_of_length-le items done) ∙ append-nil told

-- what an item is answered is the next answer
pub told_next : (items : List Item) (i : ℕ) (item : Item) (given next_given : List (Bor Answer)) (spoken next_spoken : List (Vec ℕ Global))
    (handed says : Bool) (text : List ℕ) (all told : List Told) → i < length items → item ≡ get_or items i item
    → text ≡ answer_text item.work (slice_get given 0) (slice_get spoken 0) → handed ≡ is_handed item.work → says ≡ is_said item.work
    → next_given ≡ after_one handed given → next_spoken ≡ after_one says spoken → all ≡ told ++ answers_to (drop i items) given spoken
    → all ≡ (told ++ record { origin = item.origin; text = text } ∷ []) ++ answers_to (drop (i + 1) items) next_given next_spoken
told_next items i item given next_given spoken next_spoken handed says text all told below is text_is handed_is says_is given_is spoken_is
    whole =
    let rest : List Item = drop (i + 1) items in
    let one : Told = record { origin = item.origin; text = text } in
    let is_given : after_one (is_handed item.work) given ≡ next_given =
    sym (given_is ∙ ap (λ (b : Bool). after_one b given) handed_is) in
    let is_spoken : after_one (is_said item.work) spoken ≡ next_spoken = sym (spoken_is ∙ ap (λ (b : Bool). after_one b spoken) says_is) in
    let here : drop i items ≡ item ∷ rest = drop_more items i item below ∙ ap (λ (x : Item). x ∷ rest) (sym is) in
    let next : answers_to (drop i items) given spoken ≡ one ∷ answers_to rest next_given next_spoken =
    ap (λ (left : List Item). answers_to left given spoken) here
    ∙ ap (λ (t : List ℕ). record { origin = item.origin; text = t }
    ∷ answers_to rest (after_one (is_handed item.work) given) (after_one (is_said item.work) spoken)) (sym text_is)
    ∙ ap (λ (g : List (Bor Answer)). one ∷ answers_to rest g (after_one (is_said item.work) spoken)) is_given
    ∙ ap (λ (s : List (Vec ℕ Global)). one ∷ answers_to rest next_given s) is_spoken in
    whole ∙ ap (λ (left : List Told). told ++ left) next ∙ sym (append_assoc told (one ∷ []) (answers_to rest next_given next_spoken))

-- nobody was told anything more
pub told_no_more : (old mid new : Slab ClientParts) (told : List Told) → AreTold old mid told → AreTold mid new [] → AreTold old new told
told_no_more old mid new told first none =
    subst (λ (all : List Told). AreTold old new all) (append-nil told) (told_both old mid new told [] first none)

-- all answers are the first of them
pub told_whole : (old new : Slab ClientParts) (answers : List Told) → AreTold old new answers → AreToldSome old new answers
told_whole old new answers tells = record { told = answers; left = []; whole = sym (append-nil answers); tells = tells }

-- the text of an answer, written into what was empty
pub answer_written : (shown after before : List ℕ) (work : Work) (a reply : Option (Bor Answer)) (b said : Option (Vec ℕ Global))
    → shown ≡ after
    → after ≡ before ++ answer_text work a b → before ≡ [] → a ≡ reply → b ≡ said → shown ≡ answer_text work reply said
answer_written shown after before work a reply b said is_shown is_after is_empty is_reply is_said =
    is_shown ∙ is_after ∙ ap (λ (t : List ℕ). t ++ answer_text work a b) is_empty
    ∙ ap (λ (o : Option (Bor Answer)). answer_text work o b) is_reply ∙ ap (λ (s : Option (Vec ℕ Global)). answer_text work reply s) is_said

-- what holds holds where there is a refusal
pub on_err_all : {A E : Type 0} (result : Result A E) (P : Type 0) → P → OnErr result P
on_err_all (Ok value) P holds = tt
on_err_all (Err error) P holds = holds
