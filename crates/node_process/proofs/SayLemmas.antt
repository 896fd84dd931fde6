-- What is said to the wishes of a group, one after another, and that there is a text for each: what the law of clients' lives asks of a
-- round of work.
use Rattle.std.proofs.Common.{◌≡◌, ◌<◌, ◌≤◌, ◌+◌, ◌++◌, ◌∷◌, [], List, ℕ, suc, Option, Some, None, Vec, true, cond}
use Rattle.std.proofs.Common.{length, drop, filter, get_or, slice_get, refl, sym, ap, ◌∙◌, subst, arith}
use Rattle.std.proofs.Math.ListN.{drop_of_length-le}
use Rattle.std.proofs.lemmas.List.{drop_more}
use Rattle.std.specs.Borrow.{Bor}
use Rattle.std.specs.List.{AllByRecursion}
use Rattle.std.specs.declared.alloc.Global.{Global}
use Rattle.protocol.specs.declared.answers.Answer.{Answer}
use Rattle.port.specs.Calls.{Sending}
use Rattle.port.specs.Members.{MemberParts}
use Rattle.letter_port.specs.LetterPorts.{LetterParts}
use Rattle.serving.specs.declared.group.Item.{Item}
use Rattle.serving.specs.declared.group.Work.{Work}
use Rattle.serving.specs.declared.group.Work.TheVariants.{Ask, Late, Say, Take, Untimely}
use Rattle.serving.specs.declared.terms.Terms.{Terms}
use Rattle.serving.specs.declared.words.Wish.TheVariants as wishes
use Rattle.serving.specs.Groups.{after_one, answer_text, is_handed, is_said}
use Rattle.serving.specs.Happenings.{is_await, IsSilent}
use Rattle.serving.specs.Served.{served_of}
use Rattle.node_process.specs.Handing.{given_by, handed_of, Given}
use Rattle.node_process.specs.Saying.{listed, SaysAll, SaysFor}

-- ---- one after another

-- no item is left
pub says_done : {P : Type 0} (Sent : Sending P) (terms : Terms) (items : List Item) (i : ℕ) (node : MemberParts) (port : LetterParts P)
    → length items ≤ i → SaysAll Sent terms (drop i items) node node port port []
says_done Sent terms items i node port done =
    subst (λ (left : List Item). SaysAll Sent terms left node node port port []) (sym (drop_of_length-le items done))
    (record { node = refl; port = refl }, refl)

-- the next item, and then those that are left
pub says_next : {P : Type 0} (Sent : Sending P) (terms : Terms) (items : List Item) (i : ℕ) (item : Item) (was next is : MemberParts)
    (before between after : LetterParts P) (text : Option (Vec ℕ Global)) (more : List (Vec ℕ Global)) → i < length items
    → item ≡ get_or items i item → SaysFor Sent terms item.work was next before between text
    → SaysAll Sent terms (drop (i + 1) items) next is between after more
    → SaysAll Sent terms (drop i items) was is before after (listed text ++ more)
says_next Sent terms items i item was next is before between after text more below at first rest =
    let here : item ∷ drop (i + 1) items ≡ drop i items = ap (λ (x : Item). x ∷ drop (i + 1) items) at
    ∙ sym (drop_more items i item below) in
    subst (λ (left : List Item). SaysAll Sent terms left was is before after (listed text ++ more)) here
    (next, between, text, more, first, refl, rest)

-- ---- a text for each

is_count : (work : Work) (item : Item) (items : List Item) (text : Option (Vec ℕ Global)) (more : List (Vec ℕ Global))
    → {P : Type 0} (Sent : Sending P) (terms : Terms) (was is : MemberParts) (before after : LetterParts P)
    → SaysFor Sent terms work was is before after text → length items ≤ length more
    → length (cond (is_said work) (item ∷ items) items) ≤ length (listed text ++ more)
is_count (Say wish) item items (Some text) more Sent terms was is before after says le = omega (arith, le)
is_count (Say wish) item items None more Sent terms was is before after says le = absurd says
is_count (Take bytes) item items (Some text) more Sent terms was is before after says le = absurd says
is_count (Take bytes) item items None more Sent terms was is before after says le = le
is_count (Ask request) item items (Some text) more Sent terms was is before after says le = absurd says
is_count (Ask request) item items None more Sent terms was is before after says le = le
is_count Untimely item items (Some text) more Sent terms was is before after says le = absurd says
is_count Untimely item items None more Sent terms was is before after says le = le
is_count Late item items (Some text) more Sent terms was is before after says le = absurd says
is_count Late item items None more Sent terms was is before after says le = le

-- there is a text for each wish
pub spoken : {P : Type 0} (Sent : Sending P) (terms : Terms) (items : List Item) (was is : MemberParts) (before after : LetterParts P)
    (said : List (Vec ℕ Global)) → SaysAll Sent terms items was is before after said
    → length (filter (λ (item : Item). is_said item.work) items) ≤ length said
spoken Sent terms [] was is before after said says = omega arith
spoken Sent terms (item ∷ items) was is before after said (next, between, text, more, says, said_is, rest) =
    subst (λ (all : List (Vec ℕ Global)). length (filter (λ (one : Item). is_said one.work) (item ∷ items)) ≤ length all) (sym said_is)
    (is_count item.work item (filter (λ (one : Item). is_said one.work) items) text more Sent terms was next before between says
    (spoken Sent terms items next is between after more rest))

left_over : {P : Type 0} (Sent : Sending P) (terms : Terms) (work : Work) (was is : MemberParts) (before after : LetterParts P)
    (text : Option (Vec ℕ Global)) (more : List (Vec ℕ Global)) → SaysFor Sent terms work was is before after text
    → after_one (is_said work) (listed text ++ more) ≡ more
left_over Sent terms (Say wish) was is before after (Some text) more says = refl
left_over Sent terms (Say wish) was is before after None more says = absurd says
left_over Sent terms (Take bytes) was is before after (Some text) more says = absurd says
left_over Sent terms (Take bytes) was is before after None more says = refl
left_over Sent terms (Ask request) was is before after (Some text) more says = absurd says
left_over Sent terms (Ask request) was is before after None more says = refl
left_over Sent terms Untimely was is before after (Some text) more says = absurd says
left_over Sent terms Untimely was is before after None more says = refl
left_over Sent terms Late was is before after (Some text) more says = absurd says
left_over Sent terms Late was is before after None more says = refl

silent_one : {P : Type 0} (Sent : Sending P) (terms : Terms) (work : Work) (reply : Option (Bor Answer)) (was is : MemberParts)
    (before after : LetterParts P) (text : Option (Vec ℕ Global)) (more : List (Vec ℕ Global))
    → SaysFor Sent terms work was is before after text → is_await work ≡ true
    → answer_text work reply (slice_get (listed text ++ more) 0) ≡ []
silent_one Sent terms (Say (wishes.Await tx)) reply was is before after (Some text) more says awaits = says.1
silent_one Sent terms (Say wish) reply was is before after (Some text) more says awaits = absurd (cc)
silent_one Sent terms (Say wish) reply was is before after None more says awaits = absurd says
silent_one Sent terms (Take bytes) reply was is before after text more says awaits = absurd (cc)
silent_one Sent terms (Ask request) reply was is before after text more says awaits = absurd (cc)
silent_one Sent terms Untimely reply was is before after text more says awaits = absurd (cc)
silent_one Sent terms Late reply was is before after text more says awaits = absurd (cc)

-- an await is told nothing in its group
pub silent : {P : Type 0} (Sent : Sending P) (terms : Terms) (items : List Item) (replies : List (Bor Answer)) (was is : MemberParts)
    (before after : LetterParts P) (said : List (Vec ℕ Global)) → SaysAll Sent terms items was is before after said
    → AllByRecursion IsSilent (served_of items replies said)
silent Sent terms [] replies was is before after said says = tt
silent Sent terms (item ∷ items) replies was is before after said (next, between, text, more, says, said_is, rest) =
    let left : List (Bor Answer) = after_one (is_handed item.work) replies in
    let others : AllByRecursion IsSilent (served_of items left (after_one (is_said item.work) (listed text ++ more))) =
    subst (λ (spare : List (Vec ℕ Global)). AllByRecursion IsSilent (served_of items left spare))
    (sym (left_over Sent terms item.work was next before between text more says))
    (silent Sent terms items left next is between after more rest) in
    subst (λ (all : List (Vec ℕ Global)). AllByRecursion IsSilent (served_of (item ∷ items) replies all)) (sym said_is)
    (silent_one Sent terms item.work (slice_get replies 0) was next before between text more says, others)

-- ---- a reply for each

handed_one : (work : Work) (item : Item) (items : List Item) (rest : List Given) → length items ≡ length rest
    → length (cond (is_handed work) (item ∷ items) items) ≡ length (given_by work ++ rest)
handed_one (Take bytes) item items rest same = ap suc same
handed_one (Ask request) item items rest same = ap suc same
handed_one (Say wish) item items rest same = same
handed_one Untimely item items rest same = same
handed_one Late item items rest same = same

-- as many items are handed to the node as the group gives it
pub handed_many : (items : List Item) → length (filter (λ (item : Item). is_handed item.work) items) ≡ length (handed_of items)
handed_many [] = refl
handed_many (item ∷ items) =
    handed_one item.work item (filter (λ (one : Item). is_handed one.work) items) (handed_of items) (handed_many items)
