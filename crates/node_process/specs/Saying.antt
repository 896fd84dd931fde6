-- What a wish of a client is answered that is no input of the node.
use Rattle.std.specs.Prelude.{◌≡◌, ℕ, ◌++◌, ◌∷◌, Bool, false, MatchBool, List, [], Vec, Option, Some, None, Result, Ok, Err, codes}
use Rattle.std.specs.Option.{option_map_or}
use Rattle.std.specs.declared.alloc.Global.{Global}
use Rattle.xid.specs.Places.{Place}
use Rattle.xid.specs.declared.refusals.Refusal.{Refusal}
use Rattle.xid.specs.declared.refusals.Refusal.TheVariants.{BadScript, NoSuch}
use Rattle.protocol.specs.Effects.{Config}
use Rattle.protocol.specs.Nodes.{NodeState}
use Rattle.protocol.specs.declared.answers.Answer.TheVariants.{Refused}
use Rattle.protocol.specs.declared.rows.Row.{Row}
use Rattle.net_script.specs.Items.{rows_words}
use Rattle.net_script.specs.Traces.{line_text}
use Rattle.node_core.specs.Opening.{restart_answer}
use Rattle.floored.specs.Nodes.{FlooredStands, FlooredTables}
use Rattle.port.specs.Calls.{Sending}
use Rattle.port.specs.Members.{MemberParts}
use Rattle.letter_port.specs.LetterPorts.{LetterParts, RaisesInLetters}
use Rattle.serving.specs.declared.group.Item.{Item}
use Rattle.serving.specs.declared.group.Work.{Work}
use Rattle.serving.specs.declared.group.Work.TheVariants.{Say}
use Rattle.serving.specs.declared.terms.Terms.{Terms}
use Rattle.serving.specs.declared.words.Wish.{Wish}
use Rattle.serving.specs.declared.words.Wish.TheVariants.{Await, Elsewhere, Info, Open, Raise, Table}
use Rattle.serving.specs.Groups.{reply_line}
use Rattle.serving.specs.Times.{is_ahead}
use Rattle.node_process.specs.Asking.{Asks}

-- a node and its port are as they were
pub record Stay {P : Type 0} (was is : MemberParts) (before after : LetterParts P) : Type 0 where
  pub node : is ≡ was
  pub port : after ≡ before

-- the line of a table's rows, or of why there is none
abbrev pub table_line : Result (List Row) Refusal → List ℕ
table_line (Ok rows) = line_text (codes "rows" ∷ rows_words rows)
table_line (Err refusal) = reply_line (Refused refusal)

-- a client is told the rows of the node's table: those that the machine's node with that floor has
pub record SaysTable (was is : MemberParts) (text : List ℕ) : Type 0 where
  pub result : Result (List Row) Refusal
  pub tables : (config : Config) (m : NodeState) → FlooredStands config was.floored m → FlooredTables config m was.floored is.floored result
  pub told : is.told ≡ was.told
  pub text_is : text ≡ table_line result

-- a floor was to rise to a place, and the client is told what came of that
pub record SaysRaised {P : Type 0} (Sent : Sending P) (floor : Place) (was is : MemberParts) (before after : LetterParts P)
    (text : List ℕ) : Type 0 where
  pub result : Result (Unit {0}) Refusal
  pub raises : RaisesInLetters Sent floor was.floored.node.who was is before after result
  pub text_is : text ≡ reply_line (restart_answer result)

-- the client is told that a floor is above the clock's place, and nothing happens
pub record SaysAhead {P : Type 0} (was is : MemberParts) (before after : LetterParts P) (text : List ℕ) : Type 0 where
  pub stay : Stay was is before after
  pub text_is : text ≡ codes "refused 19\n"

-- the client is told a refusal, and nothing happens
pub record SaysRefused {P : Type 0} (refusal : Refusal) (was is : MemberParts) (before after : LetterParts P) (text : List ℕ) : Type 0 where
  pub stay : Stay was is before after
  pub text_is : text ≡ reply_line (Refused refusal)

-- whether a floor is above the clock's place, where names stand in time
abbrev pub is_above_clock : Terms → Place → Bool
is_above_clock terms floor = option_map_or (λ times. is_ahead times floor terms.clock) terms.times false

-- what a wish is answered: the rows of the node's table, what came of its floor, nothing yet where an end is awaited, and a refusal of what
-- is for another node, or is no wish. What stands in the lines of `info` and `open` isn't said here: for them the node is asked at most
-- where transactions stand
abbrev pub SaysOne : {P : Type 0} → Sending P → Terms → Wish → (was is : MemberParts) → (before after : LetterParts P) → List ℕ → Type 0
SaysOne Sent terms Table was is before after text = SaysTable was is text × (after ≡ before)
SaysOne Sent terms (Raise floor) was is before after text =
    MatchBool (is_above_clock terms floor) (SaysAhead was is before after text) (SaysRaised Sent floor was is before after text)
SaysOne Sent terms (Await tx) was is before after text = Stay was is before after × (text ≡ [])
SaysOne Sent terms Info was is before after text = Stay was is before after
SaysOne Sent terms Open was is before after text = Asks terms.who was is × (after ≡ before)
SaysOne Sent terms Elsewhere was is before after text = SaysRefused NoSuch was is before after text
SaysOne Sent terms wish was is before after text = SaysRefused (BadScript 1) was is before after text

-- what is said for a piece of work: for a wish what that is answered, and for no other anything
abbrev pub SaysFor : {P : Type 0} → Sending P → Terms → Work → (was is : MemberParts) → (before after : LetterParts P)
    → Option (Vec ℕ Global) → Type 0
SaysFor Sent terms (Say wish) was is before after (Some text) = SaysOne Sent terms wish was is before after text.items
SaysFor Sent terms (Say wish) was is before after None = ⊥
SaysFor Sent terms work was is before after (Some text) = ⊥
SaysFor Sent terms work was is before after None = Stay was is before after

-- what is there, as a list
abbrev pub listed : {X : Type 0} → Option X → List X
listed None = []
listed (Some x) = x ∷ []

-- what is said to the wishes of a group, in their order, one text for each
abbrev pub SaysAll : {P : Type 0} → Sending P → Terms → List Item → (was is : MemberParts) → (before after : LetterParts P)
    → List (Vec ℕ Global) → Type 0
SaysAll Sent terms [] was is before after said = Stay was is before after × (said ≡ [])
SaysAll {P} Sent terms (item ∷ items) was is before after said =
    (next : MemberParts) × (between : LetterParts P) × (text : Option (Vec ℕ Global)) × (more : List (Vec ℕ Global))
    × SaysFor Sent terms item.work was next before between text × (said ≡ listed text ++ more)
    × SaysAll Sent terms items next is between after more
