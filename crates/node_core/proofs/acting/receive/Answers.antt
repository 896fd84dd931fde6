use Rattle.std.proofs.Common.{◌∙◌, inl, inr, refl, sym, ap, None}
use Rattle.wire.specs.Decoding.{message_at}
use Rattle.node_core.specs.Storing.{output_of}
use Rattle.node_core.proofs.Hearing.{accepted_by, down_by}
use Rattle.node_core.proofs.acting.receive.Goals as goal

pub returns-in-None : goal.returns-in-None
returns-in-None g c = inr (inl (record {
  accepted = accepted_by c.args.who (message_at c.args.bytes.now);
  was_is = c.in-None.is;
  out_is = c.refuse.ensures ∙ ap (λ a. output_of a None) (sym (down_by (message_at c.args.bytes.now)));
  held_is = refl;
  role_is = c.in-None.is;
}))

pub returns : goal.returns
returns g c = inr (inr (record {
  accepted = accepted_by c.args.who (message_at c.args.bytes.now);
  before = c.in-Some.up;
  after = c.hear-stays.new.role;
  up = c.hear-stays.result;
  was_is = c.in-Some.is;
  role_is = c.settle.ensures;
  carries = λ config facts memory are s. c.hear-stays.ensures.carries config facts memory are s;
  free = λ is config facts memory are s. c.hear-stays.ensures.free is config facts memory are s;
}))
