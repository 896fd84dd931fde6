use Rattle.std.proofs.Common.{◌∙◌, List, ℕ, [], get_or, ap, arith}
use Rattle.hex.specs.Hex.{lower_digits}
use Rattle.hex.proofs.Pairs.{encode_step, encode_done}
use Rattle.xid.specs.declared.hex_digits.TheConstants.{PAIRS}
use Rattle.xid.proofs.HexTables.{pair_of}
use Rattle.xid.proofs.hex_digits.write_hex.Goals as goal

pub loop-i-preserved : goal.loop-i-preserved
loop-i-preserved c =
    let bytes = c.args.bytes.now in
    let text = c.loop-i.text in
    let i = c.loop-i.i in
    let pair : List ℕ = get_or PAIRS c.from.result [] in
    let digits = pair_of (get_or bytes i 0) (c.type_inv.bytes i).fits in
    encode_step lower_digits bytes text i (get_or pair 0 0) (get_or pair 1 0) c.loop-i-test.true (omega (arith, c.loop-i.auto.text))
    (ap (λ (b : ℕ). get_or (get_or PAIRS b []) 0 0) c.from.ensures ∙ digits.0)
    (ap (λ (b : ℕ). get_or (get_or PAIRS b []) 1 0) c.from.ensures ∙ digits.1) c.loop-i.invariant

pub returns : goal.returns
returns c =
    encode_done lower_digits c.args.bytes.now c.loop-i.text c.loop-i.i c.loop-i-test.false (omega (arith, c.loop-i.auto.text))
    c.loop-i.invariant
