use Rattle.std.proofs.Common.{◌∙◌, None, ap, sym}
use Rattle.std.specs.Prelude.{replicate}
use Rattle.port.proofs.Members.{opened_member, unopened_early}
use Rattle.port.proofs.member.Member.open.Goals as goal

pub returns-in-Err-clause-err : goal.returns-in-Err-clause-err
returns-in-Err-clause-err g c =
    unopened_early c.args.config.now c.args.who (g.R.Record.held c.args.device) (sym c.has.ensures ∙ c.if-not-has.false)

pub invariant_of-result : goal.invariant_of-result
invariant_of-result g c =
    opened_member c.args.config.now c.args.who (g.R.Record.held c.args.device) c.sizes-sizes.result c.in-Ok-open.node c.in-Ok.told
    c.sizes-sizes.ensures.sizes c.in-Ok-open.ensures.ok (c.in-Ok.ensures ∙ ap (λ n. replicate n None) c.from.ensures)

pub returns-in-Ok-open-clause-told : goal.returns-in-Ok-open-clause-told
returns-in-Ok-open-clause-told g c =
    c.in-Ok.ensures ∙ ap (λ n. replicate n None) (c.from.ensures ∙ c.sizes-sizes.ensures.sizes.managers_are)
