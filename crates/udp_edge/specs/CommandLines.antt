-- The command line, in the words of clap.
use Rattle.std.specs.Prelude.{◌≢◌, ⊤, [], ◌≡◌, ℕ, true, codes, List, Option, Some}
use Rattle.clap.specs.Words.{App, Row, Rule, Text, fault_of, first_of, new_app, new_rule, subcommand_of, with_rule, with_subcommand}
use Rattle.std.specs.IoError.{error_kind}
use Rattle.std.specs.declared.io.Error.{Error}
use Rattle.std.specs.declared.io.ErrorKind.TheVariants.{OutOfMemory}
use Rattle.clap.specs.declared.builder.ArgAction.TheVariants.{Set}
use Rattle.udp_edge.specs.declared.command.Rejected.{Rejected}
use Rattle.udp_edge.specs.declared.command.Rejected.TheVariants.{Usage, NoMemory}
use Rattle.udp_edge.specs.declared.command.Subcommand.{Subcommand}
use Rattle.udp_edge.specs.declared.command.Subcommand.TheVariants.{Run, Udp, Audit}

-- a position that must be given
abbrev pub position_rule : Text → Rule
position_rule name = record (new_rule name) { required = true; action = Some Set }

-- a subcommand with a file
abbrev pub file_app : Text → App
file_app name = with_rule (new_app name) (position_rule (codes "FILE"))

-- a subcommand with a file and a folder
abbrev pub folder_app : Text → App
folder_app name = with_rule (file_app name) (position_rule (codes "DIR"))

-- the program's name, which a subcommand must follow
abbrev pub program_name : App
program_name = record (new_app (codes "pcommit")) { top = record (new_app (codes "pcommit")).top { subcommand_required = true } }

-- the command lines of the program: `run FILE`, `udp FILE DIR`, `audit FILE`
abbrev pub command_line : App
command_line =
    with_subcommand (with_subcommand (with_subcommand program_name (file_app (codes "run")).top)
    (folder_app (codes "udp")).top) (file_app (codes "audit")).top

-- the subcommand that the words name, with its positions, if they name one
abbrev pub subcommand_in : List Text → Option (Text × List Row)
subcommand_in words = subcommand_of command_line words

-- the words have no fault, and name this subcommand, with these positions
pub record IsNamed (words : List Text) (name : Text) (rows : List Row) : Type 0 where
  pub faultless : fault_of command_line words ≡ []
  pub named : subcommand_in words ≡ Some (name, rows)

-- what a subcommand asks for, by its positions
abbrev pub Says : Text → List Row → Subcommand → Type 0
Says name rows (Run file) = (name ≡ codes "run") × (first_of (codes "FILE") rows ≡ Some file.now)
Says name rows (Udp file folder) =
    (name ≡ codes "udp") × (first_of (codes "FILE") rows ≡ Some file.now) × (first_of (codes "DIR") rows ≡ Some folder.now)
Says name rows (Audit file) = (name ≡ codes "audit") × (first_of (codes "FILE") rows ≡ Some file.now)

-- a subcommand asks for nothing
abbrev pub SaysNothing : Text → List Row → Type 0
SaysNothing name rows = (subcommand : Subcommand) → Says name rows subcommand → ⊥

-- what the words ask for
pub record AsksFor (words : List Text) (subcommand : Subcommand) : Type 0 where
  pub name : Text
  pub rows : List Row
  pub is : IsNamed words name rows
  pub says : Says name rows subcommand

-- the words ask for nothing: they have a fault, or name no subcommand with its positions
abbrev pub IsMisuse : List Text → Type 0
IsMisuse words = (subcommand : Subcommand) → AsksFor words subcommand → ⊥

-- why a command line is rejected
abbrev pub RejectsLine : List Text → Rejected → Type 0
RejectsLine words Usage = IsMisuse words
RejectsLine words NoMemory = ⊤

-- an error in the reading of the words is want of memory, or a word that is no text
abbrev pub RejectsBy : Error → Rejected → Type 0
RejectsBy error Usage = error_kind error ≢ OutOfMemory
RejectsBy error NoMemory = error_kind error ≡ OutOfMemory

-- the exit status of a command line that isn't carried out
abbrev pub exit_status : Rejected → ℕ
exit_status Usage = 2
exit_status NoMemory = 3
