use Rattle.std.proofs.Common.{◌≡◌, ◌≤◌, ◌∙◌, ◌<◌, ◌^◌, ◌++◌, length, take, sym, ap, subst, arith}
use Rattle.std.proofs.lemmas.List.{take_at}
use Rattle.letters.specs.Letters.{HasFirstMessage, enclosed}
use Rattle.letter_port.proofs.Taking.{behind_front}
use Rattle.letter_port.proofs.arrived.Arrived.take.Goals as goal

pub returns-in_default-clause-none : goal.returns-in_default-clause-none
returns-in_default-clause-none c =
    λ message more first.
    c.in_default.ensures.none message more (subst (λ rest. HasFirstMessage message more rest) (sym c.self.view_is) first)

pub returns-clause-some : goal.returns-clause-some
returns-clause-some c =
    let message = c.in-Some.message.now in
    let more = c.in-Some.more.now in
    let first = c.in-Some.ensures.some in
    let within : c.self.inside.end ≤ length c.self.inside.bytes = omega (arith, c.self.invariant.1, c.self.told) in
    let left = behind_front c.self.inside.bytes (enclosed message) more c.self.inside.at c.self.inside.end c.self.invariant.0 within
    first.is in
    let given : take (length message) (c.copy_from_slice.new.self ++ _) ≡ message =
    take_at c.copy_from_slice.new.self _ (length message) (ap length c.copy_from_slice.ensures.after)
    ∙ c.copy_from_slice.ensures.after in record {
      short = subst (λ xs. length xs < 2 ^ 16) (sym given) first.short;
      is = sym c.self.view_is ∙ first.is ∙ λ i. enclosed (sym given i) ++ sym left i;
    }
