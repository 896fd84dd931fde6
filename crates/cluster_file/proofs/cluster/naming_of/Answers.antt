use Rattle.std.proofs.Common.{◌≡◌, None, Ok, codes, ap, rules}
use Rattle.toml.specs.Data.{get_member}
use Rattle.toml.specs.View.{table_view}
use Rattle.cluster_file.specs.ClusterAt.{naming_in}
use Rattle.cluster_file.specs.Mistakes.{◌>>=◌, reads_at}
use Rattle.cluster_file.specs.Reads.{table_of}
use Rattle.cluster_file.proofs.cluster.naming_of.Goals as goal

pub returns-in_default-clause-ok : goal.returns-in_default-clause-ok
unfolding naming_in
returns-in_default-clause-ok c =
    let found = get_member (codes "names") (table_view c.args.root.now.table.now) in
    let is : table_of found ≡ Ok None = search rules in
    ap (λ r. reads_at c.args.root.now.path.now (codes "names") r >>= naming_in) is
