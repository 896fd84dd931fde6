-- What a line of a client wishes of a node.
use Rattle.std.specs.Prelude.{◌≡◌, ◌≢◌, ℕ, ◌∷◌, List, [], Option, Some, None, codes}
use Rattle.protocol.specs.declared.nodes.NodeId.{NodeId}
use Rattle.protocol.specs.declared.nodes.NodeId.TheVariants.{R}
use Rattle.protocol.specs.declared.events.Event.TheVariants as events
use Rattle.net_script.specs.Basics.{IsTx, tx_text}
use Rattle.net_script.specs.Events.{IsNode}
use Rattle.net_script.specs.Items.{command_words, IsCommand}
use Rattle.net_script.specs.Lines.{node_text, words}
use Rattle.net_script.specs.declared.values.Command.{Command}
use Rattle.net_script.specs.declared.values.Command.TheVariants.{Do}
use Rattle.serving.specs.declared.words.Wish.{Wish}
use Rattle.serving.specs.declared.words.Wish.TheVariants.{Ask, Raise, Table, Open, Info, Await, Elsewhere, Unknown}

-- ---- what a line spells

-- a line's words are those of a command of scripts, of what these may name
abbrev pub IsCommandLine : (line : List ℕ) → Command → Type 0
IsCommandLine line command = IsCommand command × (words line ≡ command_words command)

-- a line's words name a node, and ask it for what a wish says: a request and a floor are spelled as in scripts
abbrev pub Spells : (who : NodeId) → (line : List ℕ) → Wish → Type 0
Spells who line (Ask request) = IsCommandLine line (Do (events.Ask who request))
Spells who line (Raise floor) = (rm : ℕ) × (who ≡ R rm) × IsCommandLine line (Do (events.Raise rm floor))
Spells who line Table = IsNode who × (words line ≡ codes "table" ∷ node_text who ∷ [])
Spells who line Open = IsNode who × (words line ≡ codes "open" ∷ node_text who ∷ [])
Spells who line (Await tx) = IsNode who × IsTx tx × (words line ≡ codes "await" ∷ node_text who ∷ tx_text tx ∷ [])
Spells who line wish = ⊥

-- a line's words ask the node that reads them how it is, and name none
abbrev pub IsInfoLine : (line : List ℕ) → Type 0
IsInfoLine line = words line ≡ codes "info" ∷ []

-- a line spells no wish, of whichever node
pub record IsNoWish (line : List ℕ) : Type 0 where
  pub names_none : (who : NodeId) (wish : Wish) → Spells who line wish → ⊥
  pub no_info : IsInfoLine line → ⊥

-- what a line wishes of a node: what its words ask of it, or what they ask of another; it is unknown only where they spell no wish
abbrev pub IsWish : (me : NodeId) → (line : List ℕ) → Wish → Type 0
IsWish me line Info = IsInfoLine line
IsWish me line Elsewhere = (other : NodeId) × (wish : Wish) × (other ≢ me) × Spells other line wish
IsWish me line Unknown = IsNoWish line
IsWish me line wish = Spells me line wish

-- ---- for the readers of wishes

-- a line's words ask the node that is named for what a wish says, or spell no wish where none is named
abbrev pub SpellsFor : Option NodeId → (line : List ℕ) → Wish → Type 0
SpellsFor None line wish = IsNoWish line
SpellsFor (Some who) line wish = Spells who line wish

-- a line begins with none of the words that begin another wish than a request
pub record BeginsAsRequest (line : List ℕ) : Type 0 where
  pub word : List ℕ
  pub rest : List (List ℕ)
  pub cut : words line ≡ word ∷ rest
  pub no_table : word ≢ codes "table"
  pub no_open : word ≢ codes "open"
  pub no_await : word ≢ codes "await"
  pub no_floor : word ≢ codes "floor"
  pub no_info : word ≢ codes "info"
