-- Which texts spell a script, and which line of one that spells none is the first at fault.
use Rattle.std.specs.Prelude.{◌≡◌, ◌≢◌, ℕ, suc, ◌+◌, ◌<◌, ◌⊎◌, List, [], ◌∷◌, ◌++◌, length, take, map, Bool, true, false, not, ◌==◌, Option}
use Rattle.std.specs.Prelude.{Some, None, Result, Ok, Err, ◌&&◌, nat_lt, if◌then◌else◌}
use Rattle.std.specs.List.{All, AllPairs, list_all, filter}
use Rattle.net_script.specs.Basics.{Refusal, NoMemory, BadScript, Stop, Wrong, Memory, Table, Script, Item}
use Rattle.net_script.specs.declared.items.Item.TheVariants.{Cluster, Contents, Then}
use Rattle.net_script.specs.Lines.{lines, words, is_plain}
use Rattle.net_script.specs.Items.{IsSizes, IsContents, IsCommand, IsItem, item_words}

-- whether a line of these words is passed over: it has none, or the first begins with `#`
abbrev pub is_note : List (List ℕ) → Bool
is_note [] = true
is_note ([] ∷ rest) = false
is_note ((byte ∷ more) ∷ rest) = byte == 35

-- the lines that aren't passed over
abbrev pub lines_kept : List (List ℕ) → List (List ℕ)
lines_kept ls = filter (λ line. not (is_note (words line))) ls

-- first the cluster, then the tables, then what happens
abbrev pub script_items : Script → List Item
script_items s = Cluster s.sizes ∷ (map Contents s.tables ++ map Then s.commands)

-- tables are of the cluster's resource managers, at most one for each
pub record IsScript (s : Script) : Type 0 where
  pub sizes : IsSizes s.sizes
  pub tables : All IsContents s.tables
  pub managers : All (λ t. t.rm < s.sizes.rms) s.tables
  pub once : AllPairs (λ a b. a.rm ≢ b.rm) s.tables
  pub commands : All IsCommand s.commands

-- the lines say the script's items one by one
pub record SpelledBy (ls : List (List ℕ)) (s : Script) : Type 0 where
  pub plain : list_all (list_all is_plain) (lines_kept ls) ≡ true
  pub says : map words (lines_kept ls) ≡ map item_words (script_items s)
  pub valid : IsScript s

-- a text spells a script
abbrev pub SpellsScript : List ℕ → Script → Type 0
SpellsScript bytes s = SpelledBy (lines bytes) s

-- lines that say nothing so far, or with which those of a script begin
abbrev pub CanBegin : List (List ℕ) → Type 0
CanBegin ls = (lines_kept ls ≡ []) ⊎ ((more : List (List ℕ)) × (s : Script) × SpelledBy (ls ++ more) s)

-- the lines before this one can stand at the beginning, and those up to it can't
pub record FailsAt (Can : List (List ℕ) → Type 0) (ls : List (List ℕ)) (n : ℕ) : Type 0 where
  pub before : ℕ
  pub counted : n ≡ suc before
  pub within : before < length ls
  pub can : Can (take before ls)
  pub fails : Can (take n ls) → ⊥

-- the first line at fault, from 1; where no line says anything it is the one after the last
abbrev pub IsScriptFault : List ℕ → ℕ → Type 0
IsScriptFault bytes n = FailsAt CanBegin (lines bytes) n ⊎ ((lines_kept (lines bytes) ≡ []) × (n ≡ length (lines bytes) + 1))

-- the line that says an item of a script, by the item's place: as many lines before it say something
pub record IsLineOf (bytes : List ℕ) (place line : ℕ) : Type 0 where
  pub before : ℕ
  pub counted : line ≡ suc before
  pub within : before < length (lines bytes)
  pub earlier : length (lines_kept (take before (lines bytes))) ≡ place
  pub says : length (lines_kept (take line (lines bytes))) ≡ suc place

-- ---- for the reader of one line

-- a line of printed ASCII says an item
abbrev pub Says : List ℕ → Item → Type 0
Says line item = (list_all is_plain line ≡ true) × (words line ≡ item_words item)

-- the items of a script that may have begun
abbrev pub items_so_far : Option Script → List Item
items_so_far None = []
items_so_far (Some s) = script_items s

-- whether a table may follow
abbrev pub takes_table : Script → Table → Bool
takes_table s table = (length s.commands == 0) && nat_lt table.rm s.sizes.rms && list_all (λ other. not (other.rm == table.rm)) s.tables

-- the script so far with one more item, the first or another; none, where it can't follow
abbrev pub script_with : Option Script → Item → Option Script
script_with None (Cluster sizes) = Some (record { sizes = sizes; tables = []; commands = [] })
script_with None item = None
script_with (Some s) (Cluster sizes) = None
script_with (Some s) (Contents table) = if takes_table s table then Some (record s { tables = s.tables ++ table ∷ [] }) else None
script_with (Some s) (Then command) = Some (record s { commands = s.commands ++ command ∷ [] })

-- what comes of one more item
abbrev pub AddsItem : Option Script → Item → Result Script Stop → Type 0
AddsItem before item (Ok s) = script_with before item ≡ Some s
AddsItem before item (Err Wrong) = script_with before item ≡ None
AddsItem before item (Err Memory) = Unit {0}

-- what one more line makes of the items before it; nothing, where it says no item that may follow them
abbrev pub ReadsLine : List Item → List ℕ → Result Script Stop → Type 0
ReadsLine before line (Ok s) =
    (item : Item) × IsItem item × Says line item × IsScript s × (script_items s ≡ before ++ item ∷ [])
ReadsLine before line (Err Wrong) =
    (item : Item) → IsItem item → Says line item → (later : List Item) (s : Script) → IsScript s → script_items s ≢ before ++ item ∷ later
ReadsLine before line (Err Memory) = Unit {0}

-- why a script is refused
abbrev pub Refuses : List ℕ → Refusal → Type 0
Refuses bytes e = (e ≡ NoMemory) ⊎ ((line : ℕ) × (e ≡ BadScript line) × IsScriptFault bytes line)
