use Rattle.net_script.proofs.ReaderLemmas.{one_text, text_has_no_fault, one_trace_fault}
use Rattle.net_script.proofs.trace_readers.one_trace.Goals as goal

pub returns-clause-one : goal.returns-clause-one
returns-clause-one c = λ t u p q e. one_text t u p.begun q.begun e

pub returns-clause-apart : goal.returns-clause-apart
returns-clause-apart c = λ t line is fault. text_has_no_fault t line is fault

pub returns-clause-first : goal.returns-clause-first
returns-clause-first c = λ bytes line other p q. one_trace_fault bytes line other p q
