use Rattle.std.proofs.Common.{◌≡◌, ◌∙◌, ◌*◌, ◌/◌, ◌++◌, List, ℕ, length, take, drop, replicate, refl, ◌≤◌, sym, ap, subst, arith}
use Rattle.std.proofs.Math.Seq.{take-append_seam}
use Rattle.xid.specs.Names.{IsComponent}
use Rattle.xid.specs.Padding.{Padded}
use Rattle.xid.specs.Text.{hex_text}
use Rattle.xid.proofs.Texts.{length-hex_text}
use Rattle.xid.proofs.Padded.{padded-made}
use Rattle.xid.proofs.text.component.Goals as goal

pub returns-then-len-eq0 : goal.returns-then-len-eq0
returns-then-len-eq0 c = λ xs is e.
    let len : length c.args.text.now ≡ 2 * length xs = ap length e ∙ length-hex_text xs in
    omega (arith, is.some, is.few)

pub returns-then-text-ne0 : goal.returns-then-text-ne0
returns-then-text-ne0 c = λ xs is e.
    let len : length c.args.text.now ≡ 2 * length xs = ap length e ∙ length-hex_text xs in
    omega arith

-- bytes that are read into zeros
read_in : (text xs : List ℕ) (n : ℕ) → text ≡ hex_text xs → length text / 2 ≡ n → n ≤ 64
    → Padded n (xs ++ drop n (replicate 64 0)) × (take n (xs ++ drop n (replicate 64 0)) ≡ xs) × (length xs ≡ n)
read_in text xs n e half few =
    let len : length xs ≡ n = omega (arith, ap length e, length-hex_text xs) in (
      subst (λ (k : ℕ). Padded k (xs ++ drop k (replicate 64 0))) len (padded-made xs (omega arith)),
      subst (λ (k : ℕ). take k (xs ++ drop k (replicate 64 0)) ≡ xs) len
          (take-append_seam xs (drop (length xs) (replicate 64 0))),
      len,
    )

pub of_padded-requires : goal.of_padded-requires
of_padded-requires c =
    let e = c.read_hex.ensures.read c.if-not-read_hex.false in
    (read_in c.args.text.now c.read_hex.new.bytes (length c.args.text.now / 2) e refl (omega arith)).0

pub returns : goal.returns
returns c =
    let text = c.args.text.now in
    let xs = c.read_hex.new.bytes in
    let e : text ≡ hex_text xs = c.read_hex.ensures.read c.if-not-read_hex.false in
    let read = read_in text xs (length text / 2) e refl (omega arith) in
    subst (λ (bytes : List ℕ). IsComponent bytes × (text ≡ hex_text bytes)) (sym (c.of_padded.ensures ∙ read.1))
    (record { some = omega (arith, read.2); few = omega (arith, read.2); bytes = c.read_hex.ensures.bytes }, e)
