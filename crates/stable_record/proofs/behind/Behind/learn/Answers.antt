use Rattle.std.proofs.Common.{◌∙◌, true, ap, subst, sym}
use Rattle.std.specs.Prelude.{Ok}
use Rattle.stable_record.specs.Floors.{floor_of}
use Rattle.stable_record.specs.Behind.{BehindParts, HasLearned, IsFloor, standing_behind}
use Rattle.stable_record.proofs.Known.{known_learned, read_learned}
use Rattle.stable_record.proofs.behind.Behind.learn.Goals as goal

pub returns-then-self : goal.returns-then-self
returns-then-self g c =
    let inside = c.self.inside in
    subst (λ (b : BehindParts). HasLearned b b (Ok inside.floor)) c.self.view_is
    (known_learned inside.is_known inside.floor (g.R.Record.held inside.device) c.if-self.true c.self.invariant.valid)

pub returns : goal.returns
returns g c =
    let inside = c.self.inside in
    let old = g.R.Record.held inside.device in
    let new = g.R.Record.held c.read.new.self in
    let found = c.floor_in-self-inside in
    subst (λ (b : BehindParts). HasLearned b (standing_behind true found.result new) (Ok found.result)) c.self.view_is
    (read_learned inside.is_known inside.floor found.result old new c.if-self.false c.in_ok-bytes.ensures.step
    (found.ensures.floor ∙ ap floor_of (c.deref.ensures.value ∙ c.in_ok-bytes.ensures.bytes))
    (subst IsFloor (sym found.ensures.floor) found.ensures.valid))
