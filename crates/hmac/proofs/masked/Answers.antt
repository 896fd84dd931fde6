use Rattle.std.proofs.Common.{arith, ◌≡◌, ◌<◌, ◌∙◌, length, bit_xor, sym, ap, map}
use Rattle.std.proofs.lemmas.List.{length-set, take_all}
use Rattle.hmac.proofs.Blocks.{map_more}
use Rattle.hmac.proofs.masked.Goals as goal

pub loop-i-preserved : goal.loop-i-preserved
loop-i-preserved c =
    let long : length c.loop-i.out ≡ 64 = c.loop-i.invariant.long in
    let short : length c.args.block ≡ 64 = c.loop-i.invariant.short in
    let within : c.loop-i.i < 64 = c.loop-i-test.true in record {
      long = length-set c.loop-i.out c.loop-i.i _ ∙ long;
      short = short;
      so_far = map_more (λ byte. bit_xor byte c.args.mask) c.args.block c.loop-i.out c.loop-i.i
          (omega (arith, short, within)) (omega (arith, long, within)) c.loop-i.invariant.so_far;
    }

pub returns : goal.returns
returns c =
    let long : length c.loop-i.out ≡ 64 = c.loop-i.invariant.long in
    let short : length c.args.block ≡ 64 = c.loop-i.invariant.short in
    sym (take_all c.loop-i.i c.loop-i.out (omega (arith, long, c.loop-i-test.false)))
    ∙ c.loop-i.invariant.so_far
    ∙ ap (map (λ byte. bit_xor byte c.args.mask)) (take_all c.loop-i.i c.args.block (omega (arith, short, c.loop-i-test.false)))
