use Rattle.std.proofs.Common.{rules}
use Rattle.net_script.proofs.ReaderLemmas.{refused_next}
use Rattle.net_script.proofs.trace_readers.read_trace.Goals as goal

pub returns-in_err-heard-clause-err : goal.returns-in_err-heard-clause-err
returns-in_err-heard-clause-err c =
    refused_next c.args.bytes.now c.loop-trace.reader c.hear.new.self c.loop-trace.trace c.hear.result c.from_residual.result
    c.in_err-heard.field-0.0 c.in_err-heard.was (search rules) c.loop-trace.invariant.0
    (c.hear.ensures.next c.loop-trace.trace c.loop-trace.invariant.1)
