use Rattle.floors.proofs.Forgetting.{leader_forgets}
use Rattle.floors.proofs.keeping.leaders_forget.Goals as goal

pub returns : goal.returns
returns c = leader_forgets
