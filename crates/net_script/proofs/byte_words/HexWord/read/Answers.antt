use Rattle.std.proofs.Common.{◌≡◌, ◌∙◌, ℕ, List, true, false, ap, subst, sym, arith}
use Rattle.std.specs.List.{list_all}
use Rattle.std.proofs.lemmas.Bool.Decides.{nat_tests}
use Rattle.hex.proofs.HexLemmas.{decode_of-ok}
use Rattle.net_script.specs.Basics.{hex_text}
use Rattle.xid.specs.Text.{is_no_capital}
use Rattle.net_script.specs.Lines.{IsSome}
use Rattle.net_script.proofs.WordLemmas.{hex_some, hex_decodes, second_holds, hex_long}
use Rattle.xid.proofs.LowerHex.{hex_lacks, lower_again}
use Rattle.net_script.proofs.byte_words.HexWord.read.Goals as goal
use Rattle.net_script.proofs.byte_words.HexWord.read.Goals.{then-is_empty-via-then-is_empty}
use Rattle.net_script.proofs.byte_words.HexWord.read.Goals.{then-is_empty-via-else-is_empty+then-not-lacks_capitals}

pub returns-then-is_empty : goal.returns-then-is_empty
returns-then-is_empty c = λ y is e.
    elim c.then-is_empty.branch [
      | then-is_empty-via-then-is_empty w ↦ hex_some y.0 c.args.word.now is (grind (arith, nat_tests)) e
      | then-is_empty-via-else-is_empty+then-not-lacks_capitals w ↦
          let has : list_all is_no_capital c.args.word.now ≡ false = sym w.lacks_capitals.ensures ∙ w.if-not-lacks_capitals.true in
          let lacks : list_all is_no_capital c.args.word.now ≡ true = ap (list_all is_no_capital) e ∙ hex_lacks y.0 is.1 in
          absurd (cc (sym has ∙ lacks))
    ]

pub returns-in_default : goal.returns-in_default
returns-in_default c =
    λ y is e. hex_decodes y.0 c.args.word.now c.in-Err.error is e (second_holds (c.in-Err.ensures.err) c.in_default.not-OutOfMemory)

pub returns : goal.returns
returns c =
    let lower : list_all is_no_capital c.args.word.now ≡ true = sym c.lacks_capitals.ensures ∙ c.if-not-lacks_capitals.false in
    let text = lower_again c.args.word.now c.in-Ok.bytes.items c.in-Ok.ensures.ok lower in
    let ok = decode_of-ok c.args.word.now c.in-Ok.bytes.items c.in-Ok.ensures.ok in
    let some = hex_long c.args.word.now c.in-Ok.bytes.items c.is_empty.result c.is_empty.ensures c.if-is_empty.false ok.2 in
    subst (λ (bytes : List ℕ). IsSome bytes × (c.args.word.now ≡ hex_text bytes)) (sym c.new.ensures) ((some, ok.3), text)
