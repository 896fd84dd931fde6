use Rattle.std.proofs.Common.{None, sym, subst}
use Rattle.udp_run.specs.Runs.{IsUdpRun}
use Rattle.udp_edge.proofs.PrintingLemmas.{IsOfRun, IsOfUdp, IsOfAudit, run_stops, text_stops, udp_output, audit_output}
use Rattle.udp_edge.proofs.printing.answer.Goals as goal

pub returns-in-Err-clause-err : goal.returns-in-Err-clause-err
returns-in-Err-clause-err g c =
    run_stops c.args.subcommand c.args.bytes.now c.in-Err.refusal (g.W.Write.contents c.args.out.now)
    (g.W.Write.contents c.run_to_with_hash_key.new.out) (subst IsOfRun (sym c.in-Run.is) tt) c.in-Err.ensures.err

pub returns-in-Ok-udp-clause-err : goal.returns-in-Ok-udp-clause-err
returns-in-Ok-udp-clause-err g c =
    let is : IsUdpRun c.args.bytes.now c.deref.result.now =
    subst (IsUdpRun c.args.bytes.now) (sym c.deref.ensures.value) c.in-Ok-udp.ensures.ok in
    text_stops c.args.subcommand c.args.bytes.now None c.deref.result.now (g.W.Write.contents c.args.out.now)
    (g.W.Write.contents c.print_whole.new.out) c.print_whole.result
    (udp_output c.args.subcommand c.args.bytes.now c.deref.result.now (subst IsOfUdp (sym c.in-Udp.is) tt) is)
    c.print_whole.ensures.text

pub returns-in-Ok-audit_text_with_hash_key-clause-err : goal.returns-in-Ok-audit_text_with_hash_key-clause-err
returns-in-Ok-audit_text_with_hash_key-clause-err g c =
    text_stops c.args.subcommand c.args.bytes.now c.in-Ok-audit_text_with_hash_key.found c.verdict_text.result.now
    (g.W.Write.contents c.args.out.now)
    (g.W.Write.contents c.print_whole-in-Ok-audit_text_with_hash_key.new.out) c.print_whole-in-Ok-audit_text_with_hash_key.result
    (audit_output c.args.subcommand c.args.bytes.now c.verdict_text.result.now c.in-Ok-audit_text_with_hash_key.found
    (subst IsOfAudit (sym c.in-Audit.is) tt) c.in-Ok-audit_text_with_hash_key.ensures.ok c.verdict_text.ensures)
    c.print_whole-in-Ok-audit_text_with_hash_key.ensures.text
