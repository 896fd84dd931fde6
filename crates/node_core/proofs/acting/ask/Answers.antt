use Rattle.std.proofs.Common.{◌∙◌, inl, inr, refl, sym, ap, None}
use Rattle.node_core.specs.Storing.{output_of}
use Rattle.node_core.proofs.acting.ask.Goals as goal

pub returns-then-not-accepts_request : goal.returns-then-not-accepts_request
returns-then-not-accepts_request g c = λ sizes. inl (record {
  refused = sym c.if-not-accepts_request.ensures;
  out_is = c.refuse.ensures;
  held_is = refl;
  role_is = refl;
})

pub returns-in-None : goal.returns-in-None
returns-in-None g c = λ sizes. inr (inl (record {
  accepted = sym c.if-not-accepts_request.ensures;
  was_is = c.in-None.is;
  out_is = c.answer.ensures ∙ ap (λ a. output_of a None) c.down_answer.ensures;
  held_is = refl;
  role_is = c.in-None.is;
}))

pub returns : goal.returns
returns g c = λ sizes. inr (inr (record {
  accepted = sym c.if-not-accepts_request.ensures;
  before = c.in-Some.up;
  after = c.serve-stays.new.role;
  up = c.serve-stays.result;
  was_is = c.in-Some.is;
  role_is = c.settle.ensures;
  carries = λ config facts memory are s. c.serve-stays.ensures.carries config facts memory s;
  free = λ is config facts memory are s. c.serve-stays.ensures.free is config facts memory s;
}))
