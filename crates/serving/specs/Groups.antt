-- A group of what a node is handed at once: for whom each item is, and what it is answered.
use Rattle.std.specs.Prelude.{◌≡◌, ℕ, ◌++◌, ◌∷◌, ◌&&◌, ◌==◌, Bool, true, false, List, [], drop, slice_get, if◌then◌else◌, Vec, codes}
use Rattle.std.specs.Prelude.{Option, Some, None}
use Rattle.std.specs.Borrow.{Bor}
use Rattle.std.specs.List.{flat_map}
use Rattle.std.specs.Option.{option_map}
use Rattle.std.specs.declared.alloc.Global.{Global}
use Rattle.slab.specs.Slab.{Slab, get}
use Rattle.net_script.specs.Answers.{answer_words}
use Rattle.net_script.specs.Traces.{line_text}
use Rattle.xid.specs.declared.codes.XaCode.TheVariants.{DupId}
use Rattle.protocol.specs.declared.answers.Answer.{Answer}
use Rattle.protocol.specs.declared.answers.Answer.TheVariants.{Code}
use Rattle.serving.specs.declared.group.Origin.{Origin}
use Rattle.serving.specs.declared.group.Origin.TheVariants.{Client, Node}
use Rattle.serving.specs.declared.group.Work.{Work}
use Rattle.serving.specs.declared.group.Work.TheVariants.{Take, Ask, Say, Untimely, Late}
use Rattle.serving.specs.declared.group.Item.{Item}
use Rattle.serving.specs.Clients.{ClientParts}

-- ---- what an item is answered

-- the line of an answer: its words, with a space between, and an LF
abbrev pub reply_line : Answer → List ℕ
reply_line answer = line_text (answer_words answer)

-- whether the node is handed a piece of work
abbrev pub is_handed : Work → Bool
is_handed (Take bytes) = true
is_handed (Ask request) = true
is_handed work = false

-- whether a piece of work is a wish, which is answered beside what the node is handed
abbrev pub is_said : Work → Bool
is_said (Say wish) = true
is_said work = false

-- the line of what the node replied to an input, if it did
abbrev pub line_of : Option (Bor Answer) → List ℕ
line_of None = []
line_of (Some reply) = reply_line reply.now

-- the text of what was said to a wish, if something was
abbrev pub text_of : Option (Vec ℕ Global) → List ℕ
text_of None = []
text_of (Some text) = text.items

-- what a piece of work is answered, where this is the next that the node replied and that the next that was said: a request by what the
-- node
-- replied to it, a wish by what was said to it. A message is answered nothing
abbrev pub answer_text : Work → Option (Bor Answer) → Option (Vec ℕ Global) → List ℕ
answer_text (Take bytes) reply said = []
answer_text (Ask request) reply said = line_of reply
answer_text (Say wish) reply said = text_of said
answer_text Untimely reply said = codes "refused 19\n"
answer_text Late reply said = reply_line (Code DupId)

-- an answer, and for whom it is
pub record Told : Type 0 where
  pub origin : Origin
  pub text : List ℕ

-- what is left of a list where the first of it was for a piece of work
abbrev pub after_one : {X : Type 0} → Bool → List X → List X
after_one is_one list = if is_one then drop 1 list else list

-- the answers to the items of a group, in their order: what the node replied to those that it was handed and what was said to wishes,
-- each in
-- its place
abbrev pub answers_to : List Item → List (Bor Answer) → List (Vec ℕ Global) → List Told
answers_to [] replies said = []
answers_to (item ∷ items) replies said =
    record { origin = item.origin; text = answer_text item.work (slice_get replies 0) (slice_get said 0) }
    ∷ answers_to items (after_one (is_handed item.work) replies) (after_one (is_said item.work) said)

-- ---- who is told it

-- whether nobody is answered
abbrev pub is_nobody : Origin → Bool
is_nobody Node = true
is_nobody (Client key number) = false

-- whether an answer is for the client of a number at a key
abbrev pub is_for : (key number : ℕ) → Origin → Bool
is_for key number (Client its_key its_number) = its_key == key && its_number == number
is_for key number Node = false

-- what of an answer is for the client of a number at a key
abbrev pub part_for : (key number : ℕ) → Told → List ℕ
part_for key number told = if is_for key number told.origin then told.text else []

-- what of these answers is for the client of a number at a key, in their order
abbrev pub texts_for : (key number : ℕ) → List Told → List ℕ
texts_for key number answers = flat_map (part_for key number) answers

-- a client at a key after these answers were told: it has those for it behind what it had, and no others
abbrev pub with_answers : (key : ℕ) → List Told → ClientParts → ClientParts
with_answers key answers client = record client { output = client.output ++ texts_for key client.number answers }

-- after these answers were told, each client has those for it, and all else of it is as it was
abbrev pub AreTold : Slab ClientParts → Slab ClientParts → List Told → Type 0
AreTold old new answers = (key : ℕ) → get new key ≡ option_map (with_answers key answers) (get old key)

-- the first of these answers were told, and none behind them
pub record AreToldSome (old new : Slab ClientParts) (answers : List Told) : Type 0 where
  pub told : List Told
  pub left : List Told
  pub whole : answers ≡ told ++ left
  pub tells : AreTold old new told
