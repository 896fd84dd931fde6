-- What became of what each client wrote, in one group: who asked is who is told.
use Rattle.std.specs.Prelude.{◌≡◌, ℕ, ◌++◌, ◌∷◌, Bool, List, [], filter, slice_get, Option, Some, Vec, true, false}
use Rattle.std.specs.Borrow.{Bor}
use Rattle.std.specs.List.{flat_map, list_all, AllZip}
use Rattle.std.specs.declared.alloc.Global.{Global}
use Rattle.slab.specs.Slab.{Slab, get}
use Rattle.serving.specs.declared.terms.Terms.{Terms}
use Rattle.serving.specs.declared.group.Item.{Item}
use Rattle.serving.specs.declared.group.Origin.TheVariants.{Client}
use Rattle.protocol.specs.declared.answers.Answer.{Answer}
use Rattle.serving.specs.Clients.{ClientParts, is_proving, may_ask}
use Rattle.serving.specs.Groups.{after_one, answer_text, answers_to, is_handed, is_nobody, is_said, AreTold}
use Rattle.serving.specs.Taking.{is_at, with_ends, HearsAll, IsItemOf, TakesProof}

-- an item of a group, what the node replied to it, if it was handed it, and what was said to it, if it is a wish
pub record Served : Type 0 where
  pub item : Item
  pub reply : Option (Bor Answer)
  pub said : Option (Vec ℕ Global)

-- the items of a group, each with what the node replied to it or what was said to it: both stand in the items' order
abbrev pub served_of : List Item → List (Bor Answer) → List (Vec ℕ Global) → List Served
served_of [] replies said = []
served_of (item ∷ items) replies said =
    record { item = item; reply = slice_get replies 0; said = slice_get said 0 }
    ∷ served_of items (after_one (is_handed item.work) replies) (after_one (is_said item.work) said)

-- those of them that are for clients at a key
abbrev pub served_at : (key : ℕ) → List Served → List Served
served_at key served = filter (λ one. is_at key one.item) served

-- what one of them is answered
abbrev pub told_text : Served → List ℕ
told_text one = answer_text one.item.work one.reply one.said

-- what a client wrote was looked at, and it was told the answers: lines of it were taken, from the front and behind its proof if that was
-- due, and none where it may not ask; each of them is one item of the group, in the same order; and what it is told are the answers to just
-- these, in that order
pub record IsServed (terms : Terms) (key : ℕ) (old new : ClientParts) (served : List Served) : Type 0 where
  pub mid : ClientParts
  pub proof : TakesProof terms old mid
  pub unproved : is_proving mid.stage ≡ true → served_at key served ≡ []
  pub idle : may_ask old ≡ false → served_at key served ≡ []
  pub lines : List (List ℕ)
  pub input : mid.input ≡ with_ends lines ++ new.input
  pub each : AllZip (λ line one. IsItemOf terms (Client key mid.number) line one.item) lines (served_at key served)
  pub output : new.output ≡ mid.output ++ flat_map told_text (served_at key served)

-- whether these items are all the node's own, and for no client
abbrev pub are_nobodys : List Item → Bool
are_nobodys items = list_all (λ item. is_nobody item.origin) items

-- in each group: where clients' lines became its items, behind items that are the node's own, and its answers were told, each client that
-- is there is told the answers to its own lines, one for each, in their order, and nothing else
abbrev pub WhoAskedIsTold : Type 0
WhoAskedIsTold =
    (terms : Terms) (old mid new : Slab ClientParts) (ahead items : List Item) (replies : List (Bor Answer)) (said : List (Vec ℕ Global))
    → are_nobodys ahead ≡ true → HearsAll terms old mid ahead items → AreTold mid new (answers_to items replies said)
    → (key : ℕ) (client : ClientParts) → get old key ≡ Some client
    → (now : ClientParts) × (get new key ≡ Some now) × IsServed terms key client now (served_of items replies said)
