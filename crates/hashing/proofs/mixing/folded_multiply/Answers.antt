use Rattle.std.proofs.Common.{refl}
use Rattle.hashing.specs.Hashing.{folded_multiply}
use Rattle.hashing.proofs.mixing.folded_multiply.Goals as goal

pub returns : goal.returns
unfolding folded_multiply
returns c = refl
