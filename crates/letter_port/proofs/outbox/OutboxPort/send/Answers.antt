use Rattle.std.proofs.Common.{◌≡◌, ◌∙◌, ◌++◌, set, refl, sym, ap, arith}
use Rattle.letters.specs.Letters.{enclosed}
use Rattle.letter_port.specs.Outboxes.{letter_in}
use Rattle.letter_port.proofs.Filling.{enclosed_fits, is_enclosed, letter_is}
use Rattle.letter_port.proofs.outbox.OutboxPort.send.Goals as goal

pub returns-clause-step : goal.returns-clause-step
returns-clause-step g c =
    let letters = c.make_room.new.self.letters.items in
    let letter : c.index_mut.result.now ≡ letter_in letters c.in-Some.at =
    letter_is letters c.in-Some.at c.index_mut.result.now c.make_room.ensures.at c.index_mut.ensures.value in
    is_enclosed g.P.Port.sent c.args.self.now c.make_room.new.self _ c.args.receiver c.args.bytes.now c.in-Some.at
    (sym c.in-Some.ensures) (omega (arith, c.if-bytes-gt-MAX_ENCLOSED.false)) c.make_room.ensures.room (record {
      sizes = refl;
      port = refl;
      faults = refl;
      letters = ap (set letters c.in-Some.at) (c.push.ensures ∙ ap (λ xs. xs ++ enclosed c.args.bytes.now) letter);
      short = enclosed_fits (letter_in letters c.in-Some.at) c.args.bytes.now c.make_room.ensures.fits;
    })
