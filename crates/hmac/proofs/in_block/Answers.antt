use Rattle.std.proofs.Common.{arith, replicate}
use Rattle.std.proofs.lemmas.Grind.{common_steps}
use Rattle.hmac.proofs.Blocks.{rest_more, is_in_block}
use Rattle.hmac.proofs.in_block.Goals as goal

pub loop-i-preserved : goal.loop-i-preserved
loop-i-preserved c = record {
  front = grind (arith, common_steps, c.loop-i.invariant.front);
  back = rest_more _ (replicate 64 0) c.loop-i.i _ c.loop-i.invariant.back;
}

pub returns : goal.returns
returns c = grind (arith, common_steps, is_in_block, c.loop-i.invariant.front, c.loop-i.invariant.back)
