use Rattle.std.proofs.Common.{◌≡◌, ℕ, zero, suc, get_or, replicate, refl}
use Rattle.protocol.specs.declared.states.View.{View}
use Rattle.picture.proofs.views.first_views.Goals as goal

working : (n rm : ℕ) → get_or (replicate n View.Working) rm View.Working ≡ View.Working
working zero rm = refl
working (suc n) zero = refl
working (suc n) (suc rm) = working n rm

pub returns : goal.returns
returns c = working 256
