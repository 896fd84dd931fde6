use Rattle.std.proofs.Common.{◌∙◌, ◌+◌, ◌<◌, ◌≤◌, sym, ap, subst}
use Rattle.net_script.specs.Basics.{BadScript, BadConfig}
use Rattle.net_script.specs.TraceReading.{RefusesTrace}
use Rattle.net_script.specs.TraceReaders.{HasRead, IsRead}
use Rattle.net_script.proofs.ReaderLemmas.{nothing_read, rows_missing, too_large, all_read}
use Rattle.net_script.proofs.trace_readers.TraceReader.end.Goals as goal

pub returns-in_default : goal.returns-in_default
returns-in_default c = λ trace read.
    subst (λ r. RefusesTrace r.bytes (BadScript (c.self.inside.number + 1))) c.self.view_is
    (nothing_read (subst (λ r. HasRead r trace) (sym c.self.view_is) read) (ap (λ r. r.rest) c.self.view_is ∙ c.requires) c.in_default.is)

pub returns-then-so_far : goal.returns-then-so_far
returns-then-so_far c = λ trace read.
    let few : c.in-Some.so_far.finals < c.in-Some.so_far.sizes.rms = c.if-so_far.true in
    subst (λ r. RefusesTrace r.bytes (BadScript (c.self.inside.number + 1))) c.self.view_is
    (rows_missing c.in-Some.so_far (subst (λ r. HasRead r trace) (sym c.self.view_is) read)
    (ap (λ r. r.rest) c.self.view_is ∙ c.requires) c.in-Some.is few)

pub returns-then-not-is_in_limits : goal.returns-then-not-is_in_limits
returns-then-not-is_in_limits c = λ trace read.
    let enough : c.in-Some.so_far.sizes.rms ≤ c.in-Some.so_far.finals = c.if-so_far.false in
    subst (λ r. RefusesTrace r.bytes BadConfig) c.self.view_is
    (too_large c.in-Some.so_far (subst (λ r. HasRead r trace) (sym c.self.view_is) read)
    (ap (λ r. r.rest) c.self.view_is ∙ c.requires) c.in-Some.is enough (sym c.is_in_limits.ensures ∙ c.if-not-is_in_limits.true))

pub returns : goal.returns
returns c = λ trace read.
    let enough : c.in-Some.so_far.sizes.rms ≤ c.in-Some.so_far.finals = c.if-so_far.false in
    subst (λ r. IsRead r.bytes trace) c.self.view_is
    (all_read c.in-Some.so_far (subst (λ r. HasRead r trace) (sym c.self.view_is) read)
    (ap (λ r. r.rest) c.self.view_is ∙ c.requires) c.in-Some.is enough (sym c.is_in_limits.ensures ∙ c.if-not-is_in_limits.false))
