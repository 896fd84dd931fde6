use Rattle.std.proofs.Common.{◌∙◌, sym, ap, subst}
use Rattle.std.proofs.lemmas.Bool.{false≢true}
use Rattle.protocol.specs.Leaders.{is_final}
use Rattle.leader.specs.Courses.{after_meeting, status_in}
use Rattle.leader.specs.Places.{IsPlaceOf}
use Rattle.leader.proofs.PlaceSteps.{changed_at, unknown_at, fresh_status}
use Rattle.leader.proofs.courses.Courses.mark_known.Goals as goal

pub returns-in-Some : goal.returns-in-Some
returns-in-Some c = λ final.
    changed_at c.self.inside.transactions c.self.inside.rows.items c.self.inside.begun c.self.invariant c.args.tx.now c.args.self.now
    c.self.view_is
    after_meeting c.in-Some.place c.index_mut.result.now c.meet.new.self
    (subst (IsPlaceOf c.args.self.now c.args.tx.now) c.in-Some.is c.requires) c.index_mut.ensures.value
    c.meet.ensures

pub returns-in_default : goal.returns-in_default
returns-in_default c = λ final.
    absurd (false≢true (sym (ap is_final (ap status_in
    (unknown_at c.self.inside.transactions c.self.inside.rows.items c.self.inside.begun c.self.invariant c.args.tx.now c.args.self.now
    c.self.view_is
    (subst (IsPlaceOf c.args.self.now c.args.tx.now) c.in_default.is c.requires))
    ∙ fresh_status c.args.tx.now.branches c.count.ensures.valid.branches.some)) ∙ final))
