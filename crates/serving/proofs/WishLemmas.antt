-- What lines wish, and that they wish nothing where no reader found a wish. For the readers of wishes.
use Rattle.std.proofs.Common.{◌≡◌, ◌≢◌, ◌∷◌, ◌||◌, [], ℕ, List, Bool, true, false, Option, Some, None, Ok, MatchOption, codes}
use Rattle.std.proofs.Common.{Result, Err, IfOk, refl, sym, ap, ◌∙◌, subst}
use Rattle.std.specs.Str.{bytes_eq}
use Rattle.protocol.specs.declared.events.Event.{Event}
use Rattle.protocol.specs.declared.events.Event.TheVariants as events
use Rattle.protocol.specs.declared.nodes.NodeId.{NodeId}
use Rattle.protocol.specs.declared.requests.Action.TheVariants.{Start}
use Rattle.protocol.specs.declared.requests.Request.{Request}
use Rattle.protocol.specs.declared.requests.Request.TheVariants.{Call}
use Rattle.xid.specs.Places.{Place}
use Rattle.xid.specs.Transactions.{TxParts}
use Rattle.net_script.specs.Basics.{IsTx, tx_text}
use Rattle.net_script.specs.Events.{request_word, IsNode}
use Rattle.net_script.specs.Items.{command_words, IsCommand}
use Rattle.net_script.specs.Lines.{node_text, words, Reads}
use Rattle.net_script.specs.declared.values.Command.{Command}
use Rattle.net_script.specs.declared.values.Command.TheVariants.{Do, Flow}
use Rattle.net_script.proofs.Arms.{apart, first_word}
use Rattle.net_script.proofs.EventLemmas.{event_apart, event_injective}
use Rattle.net_script.proofs.WordLemmas.{differ}
use Rattle.serving.specs.declared.words.Wish.{Wish}
use Rattle.serving.specs.declared.words.Wish.TheVariants.{Ask, Raise, Table, Open, Await, Elsewhere}
use Rattle.serving.specs.Wishes.{BeginsAsRequest, IsCommandLine, IsNoWish, IsWish, Spells, SpellsFor}

-- what is asked of another node is wished elsewhere
pub spelled_there : (me who : NodeId) (line : List ℕ) (named : Option NodeId) (wish : Wish) → named ≡ Some who → who ≢ me
    → SpellsFor named line wish → IsWish me line Elsewhere
spelled_there me who line named wish is other spelled =
    (who, wish, other, subst (λ (n : Option NodeId). SpellsFor n line wish) is spelled)

-- the words of a line by its first one and the rest
pub named_word : (line word name rest : List ℕ) → words line ≡ word ∷ words rest → word ≡ name → words line ≡ name ∷ words rest
named_word line word name rest cut is = cut ∙ ap (λ (w : List ℕ). w ∷ words rest) is

-- what holds of what was read, where a premise does
pub ok_with : {X E P : Type 0} (Q : X → Type 0) (r : Result X E) → IfOk r (λ x. P → Q x) → P → IfOk r Q
ok_with Q (Ok x) holds premise = holds premise
ok_with Q (Err e) holds premise = tt

-- ---- the first words of wishes

-- the first word of a line that spells a wish
abbrev wish_word : Wish → List ℕ
wish_word (Ask request) = request_word request
wish_word (Raise floor) = codes "floor"
wish_word Table = codes "table"
wish_word Open = codes "open"
wish_word (Await tx) = codes "await"
wish_word wish = []

begins_with : (who : NodeId) (line : List ℕ) (wish : Wish) → Spells who line wish → first_word (words line) ≡ wish_word wish
begins_with who line (Ask request) spelled = ap first_word (spelled.1)
begins_with who line (Raise floor) spelled = ap first_word (spelled.2.1)
begins_with who line Table spelled = ap first_word (spelled.1)
begins_with who line Open spelled = ap first_word (spelled.1)
begins_with who line (Await tx) spelled = ap first_word (spelled.2)
begins_with who line wish spelled = absurd spelled

-- and so of the word that a line begins with
word_of : (who : NodeId) (line : List ℕ) (wish : Wish) (name : List ℕ) (args : List (List ℕ)) → words line ≡ name ∷ args
    → Spells who line wish → name ≡ wish_word wish
word_of who line wish name args begins spelled = sym (ap first_word begins) ∙ begins_with who line wish spelled

-- whether a word begins another wish than a request
abbrev is_own : List ℕ → Bool
is_own word =
    bytes_eq word (codes "table") || bytes_eq word (codes "open") || bytes_eq word (codes "await") || bytes_eq word (codes "floor")
    || bytes_eq word (codes "info")

request_is_none : (request : Request) → is_own (request_word request) ≡ false
request_is_none (Call x Start) = refl
request_is_none request = refl

request_apart : (word : List ℕ) (request : Request) → is_own word ≡ true → word ≡ request_word request → ⊥
request_apart word request own e =
    let none = request_is_none request in
    let same : is_own word ≡ is_own (request_word request) = ap is_own e in
    absurd (cc)

-- ---- a table

table_apart : (line : List ℕ) (args : List (List ℕ)) → words line ≡ codes "table" ∷ args
    → ((n : NodeId) → IsNode n → args ≢ node_text n ∷ []) → (who : NodeId) (wish : Wish) → Spells who line wish
    → codes "table" ≡ wish_word wish → ⊥
table_apart line args begins none who Table spelled same =
    let e : codes "table" ∷ args ≡ codes "table" ∷ node_text who ∷ [] = sym begins ∙ spelled.1 in
    none who (spelled.0) (cc)
table_apart line args begins none who (Ask request) spelled same = request_apart (codes "table") request refl same
table_apart line args begins none who wish spelled same = differ _ _ same refl

-- the table of the node that is named
pub names_table : (line rest : List ℕ) (found : Option NodeId) → words line ≡ codes "table" ∷ words rest
    → MatchOption found ((n : NodeId) → IsNode n → words rest ≢ node_text n ∷ []) (λ n. IsNode n × (words rest ≡ node_text n ∷ []))
    → SpellsFor found line Table
names_table line rest None begins none = record {
  names_none = λ who wish spelled.
      table_apart line (words rest) begins none who wish spelled (word_of who line wish (codes "table") (words rest) begins spelled);
  no_info = λ e. apart _ _ (sym begins ∙ e) refl;
}
names_table line rest (Some n) begins named = (named.0, begins ∙ ap (λ (ws : List (List ℕ)). codes "table" ∷ ws) (named.1))

-- ---- what is open

open_apart : (line : List ℕ) (args : List (List ℕ)) → words line ≡ codes "open" ∷ args
    → ((n : NodeId) → IsNode n → args ≢ node_text n ∷ []) → (who : NodeId) (wish : Wish) → Spells who line wish
    → codes "open" ≡ wish_word wish → ⊥
open_apart line args begins none who Open spelled same =
    let e : codes "open" ∷ args ≡ codes "open" ∷ node_text who ∷ [] = sym begins ∙ spelled.1 in
    none who (spelled.0) (cc)
open_apart line args begins none who (Ask request) spelled same = request_apart (codes "open") request refl same
open_apart line args begins none who wish spelled same = differ _ _ same refl

-- what is open at the node that is named
pub names_open : (line rest : List ℕ) (found : Option NodeId) → words line ≡ codes "open" ∷ words rest
    → MatchOption found ((n : NodeId) → IsNode n → words rest ≢ node_text n ∷ []) (λ n. IsNode n × (words rest ≡ node_text n ∷ []))
    → SpellsFor found line Open
names_open line rest None begins none = record {
  names_none = λ who wish spelled.
      open_apart line (words rest) begins none who wish spelled (word_of who line wish (codes "open") (words rest) begins spelled);
  no_info = λ e. apart _ _ (sym begins ∙ e) refl;
}
names_open line rest (Some n) begins named = (named.0, begins ∙ ap (λ (ws : List (List ℕ)). codes "open" ∷ ws) (named.1))

-- ---- an end that is awaited

await_apart : (line : List ℕ) (args : List (List ℕ)) → words line ≡ codes "await" ∷ args
    → ((n : NodeId) (tx : TxParts) → IsNode n → IsTx tx → args ≢ node_text n ∷ tx_text tx ∷ []) → (who : NodeId) (wish : Wish)
    → Spells who line wish → codes "await" ≡ wish_word wish → ⊥
await_apart line args begins none who (Await tx) spelled same =
    let e : codes "await" ∷ args ≡ codes "await" ∷ node_text who ∷ tx_text tx ∷ [] = sym begins ∙ spelled.2 in
    none who tx (spelled.0) (spelled.1) (cc)
await_apart line args begins none who (Ask request) spelled same = request_apart (codes "await") request refl same
await_apart line args begins none who wish spelled same = differ _ _ same refl

awaits_none : (line : List ℕ) (args : List (List ℕ)) → words line ≡ codes "await" ∷ args
    → ((n : NodeId) (tx : TxParts) → IsNode n → IsTx tx → args ≢ node_text n ∷ tx_text tx ∷ []) → IsNoWish line
awaits_none line args begins none = record {
  names_none = λ who wish spelled.
      await_apart line args begins none who wish spelled (word_of who line wish (codes "await") args begins spelled);
  no_info = λ e. apart _ _ (sym begins ∙ e) refl;
}

-- no node is named
pub awaits_nowhere : (line args : List ℕ) → words line ≡ codes "await" ∷ words args
    → ((n : NodeId) (ws : List (List ℕ)) → IsNode n → words args ≢ node_text n ∷ ws) → IsNoWish line
awaits_nowhere line args begins none = awaits_none line (words args) begins (λ n tx is is-tx e. none n (tx_text tx ∷ []) is e)

-- ---- words of scripts

-- a line of no words
pub wordless : (line : List ℕ) → words line ≡ [] → IsNoWish line
wordless line none = record {
  names_none = none_of;
  no_info = λ e. let same : [] ≡ codes "info" ∷ [] = sym none ∙ e in absurd (cc);
}
  where
    none_of : (who : NodeId) (wish : Wish) → Spells who line wish → ⊥
    none_of who (Ask request) spelled = let same : [] ≡ command_words (Do (events.Ask who request)) = sym none ∙ spelled.1 in absurd (cc)
    none_of who (Raise floor) spelled =
        let same : [] ≡ command_words (Do (events.Raise (spelled.0) floor)) = sym none ∙ spelled.2.1 in
        absurd (cc)
    none_of who Table spelled = let same : [] ≡ codes "table" ∷ node_text who ∷ [] = sym none ∙ spelled.1 in absurd (cc)
    none_of who Open spelled = let same : [] ≡ codes "open" ∷ node_text who ∷ [] = sym none ∙ spelled.1 in absurd (cc)
    none_of who (Await tx) spelled =
        let same : [] ≡ codes "await" ∷ node_text who ∷ tx_text tx ∷ [] = sym none ∙ spelled.2 in
        absurd (cc)
    none_of who wish spelled = absurd spelled

-- an event's words are those of no other command
event_is_one : (command : Command) (event : Event) → IsCommand command → IsCommand (Do event)
    → command_words command ≡ command_words (Do event) → command ≡ Do event
event_is_one (Do other) event is is-event e = ap Do (event_injective other event is is-event e)
event_is_one (Flow most) event is is-event e = absurd (event_apart (codes "flow") event refl (ap first_word e))

-- what was read is the event that the words say
pub event_read : (line : List ℕ) (read : Option Command) (event : Event) → Reads IsCommand command_words (words line) (Ok read)
    → IsCommandLine line (Do event) → read ≡ Some (Do event)
event_read line None event reads says = absurd (reads (Do event) (says.0) (says.1))
event_read line (Some command) event reads says =
    ap Some (event_is_one command event (reads.0) (says.0) (sym (reads.1) ∙ says.1))

-- the command that was read is what the line says
pub command_read : (line : List ℕ) (read : Option Command) (command : Command) → Reads IsCommand command_words (words line) (Ok read)
    → read ≡ Some command → IsCommandLine line command
command_read line read command reads is = subst (λ (found : Option Command). Reads IsCommand command_words (words line) (Ok found)) is reads

floor_apart : (line : List ℕ) → ((rm : ℕ) (floor : Place) → IsCommandLine line (Do (events.Raise rm floor)) → ⊥) → (who : NodeId)
    (wish : Wish) → Spells who line wish → codes "floor" ≡ wish_word wish → ⊥
floor_apart line none who (Raise floor) spelled same = none (spelled.0) floor (spelled.2)
floor_apart line none who (Ask request) spelled same = request_apart (codes "floor") request refl same
floor_apart line none who wish spelled same = differ _ _ same refl

-- no floor is to rise
pub raises_none : (line : List ℕ) (args : List (List ℕ)) (read : Option Command) → words line ≡ codes "floor" ∷ args
    → Reads IsCommand command_words (words line) (Ok read) → ((rm : ℕ) (floor : Place) → read ≢ Some (Do (events.Raise rm floor)))
    → IsNoWish line
raises_none line args read begins reads none = record {
  names_none = λ who wish spelled.
      floor_apart line (λ rm floor says. none rm floor (event_read line read (events.Raise rm floor) reads says)) who wish spelled
      (word_of who line wish (codes "floor") args begins spelled);
  no_info = λ e. apart _ _ (sym begins ∙ e) refl;
}

-- nothing is asked of a node
pub asks_none : (line : List ℕ) (read : Option Command) → BeginsAsRequest line → Reads IsCommand command_words (words line) (Ok read)
    → ((who : NodeId) (request : Request) → read ≢ Some (Do (events.Ask who request))) → IsNoWish line
asks_none line read begins reads none = record {
  names_none = λ who wish spelled. none_of who wish spelled (word_of who line wish (begins.word) (begins.rest) (begins.cut) spelled);
  no_info = λ e. begins.no_info (sym (ap first_word (begins.cut)) ∙ ap first_word e);
}
  where
    none_of : (who : NodeId) (wish : Wish) → Spells who line wish → begins.word ≡ wish_word wish → ⊥
    none_of who (Ask request) spelled same = none who request (event_read line read (events.Ask who request) reads spelled)
    none_of who (Raise floor) spelled same = begins.no_floor same
    none_of who Table spelled same = begins.no_table same
    none_of who Open spelled same = begins.no_open same
    none_of who (Await tx) spelled same = begins.no_await same
    none_of who wish spelled same = absurd spelled
