use Rattle.std.proofs.Common.{◌≡◌, ◌∙◌, ◌++◌, ◌∷◌, [], ℕ, suc, List, sym, ap, arith}
use Rattle.protocol.specs.declared.events.Told.{Told}
use Rattle.cluster.specs.Notices.{notice_in}
use Rattle.cluster.proofs.Noticed.{told_more}
use Rattle.cluster.proofs.cluster.list_told.Goals as goal

pub loop-place-preserved : goal.loop-place-preserved
loop-place-preserved c =
    let told : Told = c.listed.result in
    let place : ℕ = c.loop-place.place in
    let number : told.number ≡ suc place = omega (arith, c.listed.ensures.number) in
    record {
      listed =
          c.push_reserved.ensures.items
          ∙ ap (λ (ts : List Told). ts ++ told ∷ []) c.loop-place.invariant.listed
          ∙ sym (told_more c.args.notices.now c.args.before place c.loop-place.auto.place
          (omega (arith, c.loop-place-test.true, c.len-place-end.ensures)) (notice_in told) c.listed.ensures.notice told.number number);
      len = omega (arith, c.push_reserved.ensures.len, c.loop-place.invariant.len, c.loop-place.auto.place);
      capacity = c.push_reserved.ensures.capacity ∙ c.loop-place.invariant.capacity;
    }
