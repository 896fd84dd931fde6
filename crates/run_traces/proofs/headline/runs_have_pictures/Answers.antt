use Rattle.run_traces.proofs.Pictures.{drawn}
use Rattle.run_traces.proofs.headline.runs_have_pictures.Goals as goal

pub returns : goal.returns
returns c bytes output run numbers path = drawn bytes output run numbers path
