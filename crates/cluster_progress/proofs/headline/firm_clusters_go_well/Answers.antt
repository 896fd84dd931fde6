use Rattle.cluster_progress.proofs.Handing.{firm_well}
use Rattle.cluster_progress.proofs.headline.firm_clusters_go_well.Goals as goal

pub returns : goal.returns
returns c config world part tx first last steps stands firm at happened some =
    firm_well config part tx steps world first last stands firm at happened some
