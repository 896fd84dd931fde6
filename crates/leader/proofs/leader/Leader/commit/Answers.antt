use Rattle.std.proofs.Common.{◌∙◌, sym, ap, refl}
use Rattle.std.specs.Prelude.{Err, None}
use Rattle.protocol.specs.declared.answers.Answer.TheVariants.{Stands}
use Rattle.protocol.specs.Effects.{status_standing}
use Rattle.protocol.specs.Leaders as rules
use Rattle.leader.specs.contracts.leader.Leader.{the_view}
use Rattle.leader.specs.Courses.{after_meeting, status_in}
use Rattle.leader.specs.Leaders.{course_of, commit_messages}
use Rattle.leader.proofs.Leading.{follows, kept_same, err_same, commit_agrees, with_courses}
use Rattle.leader.proofs.leader.Leader.commit.Goals as goal

pub returns : goal.returns
returns c = λ config number.
    follows config number (the_view c.self.inside) c.args.self.now c.meet.new.self c.args.tx.now
    (after_meeting (course_of (the_view c.self.inside) c.args.tx.now))
    (record {
      answer = Stands (status_standing (status_in (after_meeting (course_of (the_view c.self.inside) c.args.tx.now))));
      fact = None;
      sends = commit_messages (status_in (after_meeting (course_of (the_view c.self.inside) c.args.tx.now))) c.args.tx.now;
    })
    c.commit.new.self (λ stored memory. rules.on_commit_call config stored memory c.args.tx.now) c.self.view_is
    (c.commit.ensures ∙ ap (λ s. record {
      answer = Stands (status_standing s);
      fact = None;
      sends = commit_messages s c.args.tx.now;
    }) c.in-Ok.ensures.status)
    c.in-Ok.ensures.now
    (commit_agrees config number (the_view c.self.inside) c.args.tx.now (sym c.is_inside.ensures ∙ c.if-not-is_inside.false))

pub returns-in-Err : goal.returns-in-Err
returns-in-Err c = λ config number.
    err_same config number c.args.self.now (with_courses (the_view c.self.inside) c.meet.new.self) (Err c.in-Err.refusal)
    c.in-Err.refusal (λ stored memory. rules.on_commit_call config stored memory c.args.tx.now) refl c.in-Err.ensures.err
    (kept_same config number (the_view c.self.inside) c.args.self.now c.meet.new.self c.self.view_is c.in-Err.ensures.kept)
