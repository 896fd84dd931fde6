use Rattle.std.proofs.Common.{rules, List, map, Some, ap, sym, ⊎_elim, subst, [], ◌≡◌, ◌∙◌}
use Rattle.clap.specs.Words.{App, HasKind, Row, Text, app_of, fault_of, found_of}
use Rattle.clap.specs.Words.{is_simple, is_simple_and_free, kind_of, rows_of, subcommand_of, subcommand_rows_of}
use Rattle.udp_edge.specs.CommandLines.{RejectsLine, command_line}
use Rattle.udp_edge.specs.declared.command.Rejected.{Rejected}
use Rattle.udp_edge.proofs.CommandLineLemmas.{among_some, is_free_line, is_simple_line, named_rows}
use Rattle.udp_edge.proofs.command.action.Goals.{in-OutOfMemory, in_default}
use Rattle.udp_edge.proofs.command.action.Goals as goal

pub returns-in-Err-clause-err : goal.returns-in-Err-clause-err
returns-in-Err-clause-err g c =
    let line_is = c.in_ok-program_command.ensures.ok in
    let words : List Text = map g.S.AsStr.text c.args.words.now in
    let app : App = app_of c.in_ok-program_command.field-0 in
    let fault_is : fault_of app words ≡ fault_of command_line words = ap (λ (a : App). fault_of a words) line_is in
    let fails : HasKind (fault_of app words) c.in-Err.error = c.in-Err.ensures.kinds (ap is_simple_and_free line_is ∙ is_free_line) in
    elim c.match-kind.branch [
      | in-OutOfMemory w ↦ subst (λ (r : Rejected). RejectsLine words r) (sym w.result-is) (search rules)
      | in_default w ↦ subst (λ (r : Rejected). RejectsLine words r) (sym w.result-is)
          (⊎_elim
          (λ wanting. absurd (w.in_default.not-OutOfMemory (c.kind.ensures ∙ wanting)))
          (λ among subcommand asks.
          among_some (kind_of c.in-Err.error) (fault_of app words) among (fault_is ∙ asks.is.faultless))
          fails)
    ]

pub returns-in-Some-wanted-clause-ok : goal.returns-in-Some-wanted-clause-ok
returns-in-Some-wanted-clause-ok g c =
    let line_is = c.in_ok-program_command.ensures.ok in
    let words : List Text = map g.S.AsStr.text c.args.words.now in
    let found = c.in-Ok.ensures.matches (ap is_simple line_is ∙ is_simple_line) in
    let entered : subcommand_rows_of c.in-Ok.matches ≡ subcommand_of command_line words =
    found.1 ∙ ap (λ (a : App). subcommand_of a words) line_is in
    let faultless : fault_of command_line words ≡ [] =
    sym (ap (λ (a : App). fault_of a words) line_is) ∙ c.in-Ok.ensures.kinds (ap is_simple_and_free line_is ∙ is_free_line) in
    let rows : List Row = rows_of (found_of c.in-Some.positions.now) in
    let named : subcommand_rows_of c.in-Ok.matches ≡ Some (c.in-Some.name.now, rows) =
    named_rows _ _ _ c.in-Some.name.now rows (search rules) (search rules) in
    record {
      name = c.in-Some.name.now;
      rows = rows;
      is = record { faultless = faultless; named = sym entered ∙ named };
      says = c.in-Some-wanted.ensures.some;
    }
