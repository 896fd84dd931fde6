use Rattle.std.proofs.Common.{◌∙◌}
use Rattle.picture.proofs.Made.{made}
use Rattle.picture.proofs.pictures.picture.Goals as goal

pub returns-clause-ok : goal.returns-clause-ok
returns-clause-ok c =
    made c.args.path.now c.args.bytes.now c.in_ok-text.text.items c.as_slice.result.now c.in-Ok.trace c.deref.result.now c.in-Ok.ensures.ok
    c.in_ok-text.ensures.ok (c.as_slice.ensures ∙ c.in_ok-address.ensures.ok) (c.deref.ensures.value ∙ c.in_ok-elements.ensures.ok)
