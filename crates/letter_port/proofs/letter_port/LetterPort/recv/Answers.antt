use Rattle.std.proofs.Common.{◌∙◌, Ok, Err, Some, None, refl, take, inl, arith}
use Rattle.std.proofs.lemmas.List.{length-drop, take_all}
use Rattle.letter_port.proofs.Taking.{all_dropped, from_next, opened}
use Rattle.letter_port.proofs.letter_port.LetterPort.recv.Goals as goal

pub returns-in-Ok-None-clause-step : goal.returns-in-Ok-None-clause-step
returns-in-Ok-None-clause-step g c =
    from_next g.P.Port.received _ c.args.self.now _ (Ok None) c.self.view_is refl (record {
      none = c.in_default.ensures.none;
      came = Ok None;
      received = rw c.in-Ok-None.field-0-is at c.in-Ok-None.ensures.step;
      opens = (refl, record { left = c.in_default.ensures.over; dropped = refl });
    })

pub returns-in-Err-clause-step : goal.returns-in-Err-clause-step
returns-in-Err-clause-step g c =
    from_next g.P.Port.received _ c.args.self.now _ _ c.self.view_is refl (record {
      none = c.in_default.ensures.none;
      came = Err c.in-Err.field-0;
      received = c.in-Err.ensures.step;
      opens = (refl, record { left = c.in_default.ensures.over; dropped = refl });
    })

pub returns-then-not-is_letter-clause-step : goal.returns-then-not-is_letter-clause-step
returns-then-not-is_letter-clause-step g c =
    all_dropped g.P.Port.received _ c.args.self.now _ c.count_dropped.new.self (take c.in-Ok-Some.len c.recv.new.buffer)
    c.count_dropped.result c.self.view_is refl c.in_default.ensures.over refl c.in_default.ensures.none
    (rw c.in-Ok-Some.field-0-is at c.in-Ok-Some.ensures.step)
    (λ messages letter. let yes = c.is_letter.ensures.1 (messages, letter) in absurd (cc)) c.count_dropped.ensures.fault
    c.count_dropped.ensures.same

pub returns-clause-step : goal.returns-clause-step
returns-clause-step g c =
    let letter = c.is_letter.ensures.0 (search) in
    let bytes = take c.in-Ok-Some.len c.recv.new.buffer in
    let behind = c.keep.ensures ∙ take_all _ _ (omega (arith, length-drop 1 bytes)) in
    from_next g.P.Port.received _ c.args.self.now _ _ c.self.view_is refl (record {
      none = c.in_default.ensures.none;
      came = Ok (Some (take c.in-Ok-Some.len c.recv.new.buffer));
      received = rw c.in-Ok-Some.field-0-is at c.in-Ok-Some.ensures.step;
      opens = inl (opened _ _ letter.0 bytes c.keep.new.self c.take-2.new.buffer c.take-2.result letter.1 behind refl c.take-2.ensures.none
          c.take-2.ensures.some);
    })
