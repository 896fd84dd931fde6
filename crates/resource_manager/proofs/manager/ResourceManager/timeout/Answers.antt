use Rattle.std.proofs.Common.{◌∙◌, true, refl, sym, ap}
use Rattle.xid.specs.Transactions.{is_participant, participants}
use Rattle.protocol.specs.Managers.{vote_sent}
use Rattle.protocol.specs.declared.answers.Answer.TheVariants.{Done}
use Rattle.resource_manager.specs.Messages.{are_below, asked_by}
use Rattle.resource_manager.proofs.Deciding.{timeout_stranger, timeout_named, course_of}
use Rattle.resource_manager.proofs.manager.ResourceManager.timeout.Goals as goal

pub returns-then-not-is_participant : goal.returns-then-not-is_participant
returns-then-not-is_participant c config number facts branches stands =
    timeout_stranger c.args.self.now c.args.tx.now config number facts branches stands c.answers-then-not-is_participant.result true
    (c.if-not-is_inside.ensures ∙ ap (λ m. are_below m.managers (participants c.args.tx.now)) c.self.view_is) refl
    (sym (c.if-not-is_participant.ensures.value ∙ ap (is_participant c.args.tx.now) c.number-own.ensures))
    c.answers-then-not-is_participant.ensures

pub returns : goal.returns
returns c config number facts branches stands =
    timeout_named c.args.self.now c.args.tx.now config number facts branches stands _ true
    (c.if-not-is_inside.ensures ∙ ap (λ m. are_below m.managers (participants c.args.tx.now)) c.self.view_is) refl c.of-course.result
    (course_of _ c.args.self.now c.args.tx.now c.of-course.result c.self.view_is c.of-course.ensures)
    (λ i. record {
      answer = Done;
      vote = (c.votes_sent.ensures ∙ (λ j. vote_sent (c.number-own.ensures j) c.args.tx.now (c.vote.ensures j))) i;
      question = (c.asks.ensures ∙ ap (λ n. asked_by n c.args.tx.now c.of-course.result) c.number-own.ensures) i;
    })
