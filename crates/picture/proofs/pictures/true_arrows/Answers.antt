use Rattle.picture.proofs.TrueStrokes.{all_true}
use Rattle.picture.proofs.pictures.true_arrows.Goals as goal

pub returns : goal.returns
returns c = all_true
