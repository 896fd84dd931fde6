-- What an auditor holds after each line of a trace.
use Rattle.std.specs.Prelude.{◌≡◌, Bool, true, ◌&&◌, List, [], Option, Some, None}
use Rattle.safety.specs.Vocabulary.{Row}
use Rattle.net_script.specs.declared.values.Entry.{Entry}
use Rattle.net_script.specs.declared.values.Table.{Table}
use Rattle.net_script.specs.declared.values.Trace.{Trace}
use Rattle.audit.specs.Told.{history_of, each_step, moves_rightly}
use Rattle.audit.specs.ToldTables.{first_tables, shows_rightly}
use Rattle.audit.specs.Following.{Follows}
use Rattle.audit.specs.declared.auditor.Auditor.{Auditor}

-- whether each of some entries is right
abbrev pub are_right : List Table → List Entry → Bool
are_right tables entries =
    each_step (λ before step. shows_rightly (first_tables tables) before step && moves_rightly before step) (history_of entries)

-- an auditor holds what first tables, entries and last rows come to, as long as the entries are right
pub record Hears (auditor : Auditor) (tables : List Table) (entries : List Entry) (finals : List (List Row)) : Type 0 where
  pub tables_are : auditor.tables.items ≡ tables
  pub right : auditor.is_right ≡ are_right tables entries
  pub follows : auditor.is_right ≡ true → Follows (first_tables tables) (history_of entries) auditor.ledger
  pub finals_are : auditor.is_right ≡ true → auditor.finals.items ≡ finals

-- an auditor holds what the lines of this trace so far come to; none, before the first
abbrev pub HasHeard : Auditor → Option Trace → Type 0
HasHeard auditor None = Hears auditor [] [] []
HasHeard auditor (Some t) = Hears auditor t.tables t.entries t.finals
