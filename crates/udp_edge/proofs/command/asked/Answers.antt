use Rattle.std.proofs.Common.{◌∙◌, sym, codes}
use Rattle.clap.specs.Words.{found_of, rows_of}
use Rattle.clap.proofs.WalkLemmas.{first_value-rows}
use Rattle.udp_edge.proofs.CommandLineLemmas.{no_file, no_folder, none_holds}
use Rattle.udp_edge.proofs.command.asked.Goals as goal

pub returns-in_err-file-clause-none : goal.returns-in_err-file-clause-none
returns-in_err-file-clause-none c =
    none_holds c.from_residual.result _
    (no_file c.args.name.now (rows_of (found_of c.args.positions.now))
    (sym (first_value-rows (found_of c.args.positions.now) (codes "FILE")) ∙ sym c.in_err-file.ensures))

pub returns-in_err-get_str-in-udp-clause-none : goal.returns-in_err-get_str-in-udp-clause-none
returns-in_err-get_str-in-udp-clause-none c =
    none_holds c.from_residual-in_err-get_str-in-udp.result _
    (no_folder c.args.name.now (rows_of (found_of c.args.positions.now)) c.in-udp.is
    (sym (first_value-rows (found_of c.args.positions.now) (codes "DIR")) ∙ sym c.in_err-get_str-in-udp.ensures))

pub returns-in-run-clause-some : goal.returns-in-run-clause-some
returns-in-run-clause-some c =
    (c.in-run.is, sym (first_value-rows (found_of c.args.positions.now) (codes "FILE")) ∙ sym c.in_ok-file.ensures)

pub returns-in_ok-get_str-in-udp-clause-some : goal.returns-in_ok-get_str-in-udp-clause-some
returns-in_ok-get_str-in-udp-clause-some c = (
  c.in-udp.is,
  sym (first_value-rows (found_of c.args.positions.now) (codes "FILE")) ∙ sym c.in_ok-file.ensures,
  sym (first_value-rows (found_of c.args.positions.now) (codes "DIR")) ∙ sym c.in_ok-get_str-in-udp.ensures,
)

pub returns-in-audit-clause-some : goal.returns-in-audit-clause-some
returns-in-audit-clause-some c =
    (c.in-audit.is, sym (first_value-rows (found_of c.args.positions.now) (codes "FILE")) ∙ sym c.in_ok-file.ensures)
