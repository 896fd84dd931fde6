use Rattle.std.proofs.Common.{◌≢◌, []}
use Rattle.letters.proofs.Whole.{first_is, one_less, one_more, some_by}
use Rattle.letters.proofs.reading.are_enclosed.Goals as goal

pub returns-in_default : goal.returns-in_default
returns-in_default c = (
  λ e. absurd (cc),
  λ some.
      let left = c.loop-rest.invariant.0 some in
      let filled : c.loop-rest.rest.now ≢ [] = some_by c.loop-rest.rest.now c.is_empty.result c.is_empty.ensures c.loop-rest-test.true in
      let first = first_is left.0 c.loop-rest.rest.now left.1 filled in
      absurd (c.in_default.ensures.none first.0 first.1 first.2),
)

pub returns-then-not-is_message_or_notice : goal.returns-then-not-is_message_or_notice
returns-then-not-is_message_or_notice c = (
  λ e. absurd (cc),
  λ some.
      let filled : c.loop-rest.rest.now ≢ [] = some_by c.loop-rest.rest.now c.is_empty.result c.is_empty.ensures c.loop-rest-test.true in
      let less = one_less c.in-Some.message.now c.in-Some.more.now c.loop-rest.rest.now c.in-Some.ensures.some filled
      (c.loop-rest.invariant.0 some) in
      let is = c.is_message_or_notice.ensures.1 less.0 in
      absurd (cc),
)

pub loop-rest-preserved : goal.loop-rest-preserved
loop-rest-preserved c =
    let filled : c.loop-rest.rest.now ≢ [] = some_by c.loop-rest.rest.now c.is_empty.result c.is_empty.ensures c.loop-rest-test.true in (
      λ some. (one_less c.in-Some.message.now c.in-Some.more.now c.loop-rest.rest.now c.in-Some.ensures.some filled
          (c.loop-rest.invariant.0 some)).1,
      λ some. c.loop-rest.invariant.1 (one_more c.in-Some.message.now c.in-Some.more.now c.loop-rest.rest.now c.in-Some.ensures.some
          (c.is_message_or_notice.ensures.0 (search)) some),
    )
