use Rattle.net_script.proofs.TraceLineLemmas.{suffix_fails, prefix_fails, arrow_found}
use Rattle.net_script.proofs.trace_lines.split_arrow.Goals as goal

pub returns-in_default-strip_suffix : goal.returns-in_default-strip_suffix
returns-in_default-strip_suffix c = λ f b none e.
    suffix_fails c.args.line.now c.in-Some.front.now c.in-Some.back.now c.as_slice.result.now f b c.in-Some.ensures none e
    c.as_slice.ensures
    c.in_default-strip_suffix.ensures.cases

pub returns-in_default-strip_prefix : goal.returns-in_default-strip_prefix
returns-in_default-strip_prefix c = λ f b none e.
    prefix_fails c.args.line.now c.in-Some.front.now c.in-Some.back.now c.as_slice-2.result.now f b c.in-Some.ensures none e
    c.as_slice-2.ensures c.in_default-strip_prefix.ensures.cases

pub returns : goal.returns
returns c =
    let suffix = c.in-Some-strip_suffix.ensures.cases in
    let prefix = c.in-Some-strip_prefix.ensures.cases in
    arrow_found c.args.line.now c.in-Some.front.now c.in-Some.back.now c.as_slice.result.now c.as_slice-2.result.now
    c.in-Some-strip_suffix.front.now c.in-Some-strip_prefix.back.now c.in-Some.ensures c.as_slice.ensures c.as_slice-2.ensures
    (suffix.0, suffix.1) (prefix.0, prefix.1)
