use Rattle.std.proofs.Common.{◌∙◌, ap}
use Rattle.std.specs.Prelude.{fold}
use Rattle.std.specs.List.{list_all}
use Rattle.audit.specs.Floors.{is_sent_above, or_newer}
use Rattle.audit.specs.FloorBooks.{floor_before, notice_at}
use Rattle.audit.proofs.FloorLines.{step_above, step_followed}
use Rattle.audit.proofs.floors.Floors.take_step.Goals as goal

pub returns-clause-ok : goal.returns-clause-ok
returns-clause-ok c = λ managers before follows.
    let old = c.args.self.now in
    let mid = c.take_event.new.self in
    let step = c.args.step.now in
    let same = c.take_event.ensures.managers in
    let does = c.in_ok-take_event.ensures.ok in (
      c.all_hold.ensures
          ∙ step_above old mid managers before follows step same does c.allow_event-above.result c.allow_now-changes.result
          c.allow_all_sent-sends.result c.allow_event-above.ensures c.allow_now-changes.ensures
          (c.allow_all_sent-sends.ensures ∙ ap (list_all (is_sent_above (floor_before mid))) c.as_slice.ensures),
      λ right.
          step_followed old mid managers before follows step same does c.take_notices.new.self c.take_notices.ensures.rest
          (λ number. c.in_ok-take_notices.ensures.ok number ∙ ap (fold (or_newer number) (notice_at mid number)) c.as_slice-2.ensures),
    )
