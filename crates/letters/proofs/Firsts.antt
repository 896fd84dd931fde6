-- The first message of what is left of a letter: where one begins, and that it is one alone. What takes letters apart rests on it.
use Rattle.std.proofs.Common.{◌≡◌, ◌∙◌, ℕ, List, ◌++◌, length, take, drop, sym, ap, arith, append_assoc}
use Rattle.std.proofs.lemmas.List.{drop_at}
use Rattle.std.proofs.Math.Seq.{take-append_seam, drop-append_seam}
use Rattle.byteorder.specs.Endian.{big_number, big_bytes}
use Rattle.byteorder.specs.Numbers.{big_number-reads_back, length-bytes_high_first}
use Rattle.letters.specs.Letters.{HasFirstMessage}

-- what a message's length and its bytes read as
pub length_read : (message more rest : List ℕ) → HasFirstMessage message more rest → big_number 2 rest ≡ length message
length_read message more rest first =
    ap (big_number 2) (first.is ∙ append_assoc (big_bytes 2 (length message)) message more)
    ∙ big_number-reads_back 2 (length message) (message ++ more) (omega (arith, first.short))

pub behind_length : (message more rest : List ℕ) → HasFirstMessage message more rest → drop 2 rest ≡ message ++ more
behind_length message more rest first =
    ap (drop 2) (first.is ∙ append_assoc (big_bytes 2 (length message)) message more)
    ∙ drop_at (big_bytes 2 (length message)) (message ++ more) 2 (length-bytes_high_first 2 (length message))

-- one message is first, and one text follows it
pub firsts_are_one : (message more message' more' rest : List ℕ) → HasFirstMessage message more rest → HasFirstMessage message' more' rest
    → (message ≡ message') × (more ≡ more')
firsts_are_one message more message' more' rest first other =
    let same : length message ≡ length message' = sym (length_read message more rest first) ∙ length_read message' more' rest other in
    let both : message ++ more ≡ message' ++ more' =
    sym (behind_length message more rest first) ∙ behind_length message' more' rest other in (
      sym (take-append_seam message more) ∙ ap (λ (n : ℕ). take n (message ++ more)) same ∙ ap (take (length message')) both
          ∙ take-append_seam message' more',
      sym (drop-append_seam message more) ∙ ap (λ (n : ℕ). drop n (message ++ more)) same ∙ ap (drop (length message')) both
          ∙ drop-append_seam message' more',
    )
