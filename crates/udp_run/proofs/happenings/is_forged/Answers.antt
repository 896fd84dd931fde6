use Rattle.std.proofs.Common.{◌∙◌, Bool, ap, sym}
use Rattle.std.specs.Prelude.{◌||◌, is_some}
use Rattle.wire.specs.Notices.{notice_at}
use Rattle.udp_run.proofs.happenings.is_forged.Goals as goal

pub returns-then-is_message : goal.returns-then-is_message
returns-then-is_message c =
    sym (ap (λ (b : Bool). b || is_some (notice_at c.args.bytes.now)) (sym c.is_message.ensures ∙ c.if-is_message.true))

pub returns : goal.returns
returns c =
    c.is_notice.ensures
    ∙ sym (ap (λ (b : Bool). b || is_some (notice_at c.args.bytes.now)) (sym c.is_message.ensures ∙ c.if-is_message.false))
