use Rattle.std.proofs.Common.{refl}
use Rattle.port.proofs.addresses.Addresses.none.Goals as goal

pub returns : goal.returns
returns c = refl
