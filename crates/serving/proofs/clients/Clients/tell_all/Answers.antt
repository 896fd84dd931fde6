use Rattle.std.proofs.Common.{◌≡◌, ◌∙◌, ◌++◌, ◌∷◌, [], List, drop, slice_get, refl, sym, subst, arith}
use Rattle.serving.specs.Groups.{answer_text, answers_to, AreTold, Told}
use Rattle.serving.proofs.TellLemmas.{answer_written, on_err_all, told_all, told_both, told_next, told_no_more, told_none}
use Rattle.serving.proofs.clients.Clients.tell_all.Goals as goal

pub loop-item-init : goal.loop-item-init
loop-item-init c = record { told = []; tells = told_none c.args.self.now.seats; count = refl; whole = refl }

pub loop-item-preserved : goal.loop-item-preserved
loop-item-preserved c =
    let item = c.item-item.result in
    let given = c.loop-item.given.now in
    let spoken = c.loop-item.spoken.now in
    let told : List Told = c.loop-item.invariant.told in
    let text_is : c.deref.result.now ≡ answer_text item.work (slice_get given 0) (slice_get spoken 0) =
    answer_written _ _ _ item.work _ _ _ _ c.deref.ensures.value c.in_ok-put_answer.ensures c.clear.ensures.items c.first.ensures.value
    c.first-in-loop-item.ensures.value in record {
      told = told ++ record { origin = item.origin; text = c.deref.result.now } ∷ [];
      tells = told_both c.args.self.now.seats c.loop-item.self.seats c.tell.new.self.seats told
          (record { origin = item.origin; text = c.deref.result.now } ∷ []) c.loop-item.invariant.tells c.in_ok-tell.ensures.ok;
      count = c.tell.ensures.count ∙ c.loop-item.invariant.count;
      whole = told_next c.args.items.now c.loop-item.item-index item given c.after_one-given.result.now spoken
          c.after_one-spoken.result.now c.is_handed.result c.is_said.result c.deref.result.now
          (answers_to c.args.items.now c.args.replies.now c.args.said.now) told (omega arith) c.item-item.is text_is c.is_handed.ensures
          c.is_said.ensures c.after_one-given.ensures c.after_one-spoken.ensures c.loop-item.invariant.whole;
    }

pub returns-in_err-put_answer-clause-err : goal.returns-in_err-put_answer-clause-err
returns-in_err-put_answer-clause-err c =
    on_err_all c.from_residual.result _ (record {
      told = c.loop-item.invariant.told;
      left = answers_to (drop c.loop-item.item-index c.args.items.now) c.loop-item.given.now c.loop-item.spoken.now;
      whole = c.loop-item.invariant.whole;
      tells = c.loop-item.invariant.tells;
    })

pub returns-in_err-tell-clause-err : goal.returns-in_err-tell-clause-err
returns-in_err-tell-clause-err c =
    on_err_all c.from_residual-in_err-tell.result _ (record {
      told = c.loop-item.invariant.told;
      left = answers_to (drop c.loop-item.item-index c.args.items.now) c.loop-item.given.now c.loop-item.spoken.now;
      whole = c.loop-item.invariant.whole;
      tells = told_no_more c.args.self.now.seats c.loop-item.self.seats c.tell.new.self.seats c.loop-item.invariant.told
          c.loop-item.invariant.tells c.in_err-tell.ensures.err;
    })

pub returns-clause-ok : goal.returns-clause-ok
returns-clause-ok c =
    let all : answers_to c.args.items.now c.args.replies.now c.args.said.now ≡ c.loop-item.invariant.told =
    told_all c.args.items.now c.loop-item.item-index c.loop-item.given.now c.loop-item.spoken.now
    (answers_to c.args.items.now c.args.replies.now c.args.said.now) c.loop-item.invariant.told (omega arith) c.loop-item.invariant.whole in
    subst (λ (told : List Told). AreTold c.args.self.now.seats c.loop-item.self.seats told) (sym all) c.loop-item.invariant.tells
