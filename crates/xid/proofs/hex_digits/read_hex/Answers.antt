use Rattle.std.proofs.Common.{ℕ, ◌+◌, ◌*◌, ◌%◌, get_or, ap, arith}
use Rattle.std.proofs.lemmas.Bool.{ltb-true, ltb-false}
use Rattle.xid.specs.declared.hex_digits.TheConstants.{VALUES}
use Rattle.xid.proofs.HexTables.{read_start, read_more, read_all}
use Rattle.xid.proofs.hex_digits.read_hex.Goals as goal

pub loop-i-init : goal.loop-i-init
loop-i-init c = read_start c.args.text.now c.args.bytes.now (λ k. (c.type_inv.bytes k).fits)

pub loop-i-preserved : goal.loop-i-preserved
loop-i-preserved c =
    let high : ℕ = get_or VALUES c.from.result 0 in
    let low : ℕ = get_or VALUES c.from-in-loop-i.result 0 in
    read_more c.args.text.now c.loop-i.bytes c.loop-i.i c.loop-i.all high low ((high * 16 % 256 + low) % 256)
    (omega (arith, c.loop-i.auto.bytes)) (omega (arith, c.loop-i.auto.bytes)) (λ k. (c.type_inv.text k).fits)
    (ap (λ (byte : ℕ). get_or VALUES byte 0) c.from.ensures) (ap (λ (byte : ℕ). get_or VALUES byte 0) c.from-in-loop-i.ensures)
    (λ h l. omega arith) (omega arith) c.loop-i.invariant

pub returns : goal.returns
returns c = record {
  read = λ few. read_all c.args.text.now c.loop-i.bytes c.loop-i.i c.loop-i.all (omega (arith, c.loop-i.auto.bytes))
      (omega (arith, c.loop-i.auto.bytes)) c.loop-i.invariant (ltb-true c.loop-i.all 16 few);
  bytes = c.loop-i.invariant.written;
  other = λ many. c.loop-i.invariant.other (ltb-false c.loop-i.all 16 many);
}
