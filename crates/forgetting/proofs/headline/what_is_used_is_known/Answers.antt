use Rattle.forgetting.proofs.Unused.{use_known}
use Rattle.forgetting.proofs.headline.what_is_used_is_known.Goals as goal

pub returns : goal.returns
returns c from config who floor place few all stands other high = use_known from config floor place few all high who stands other
