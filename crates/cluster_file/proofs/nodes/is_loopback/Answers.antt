use Rattle.std.proofs.Common.{rules}
use Rattle.cluster_file.proofs.SocketLemmas.{loopback_same}
use Rattle.cluster_file.proofs.nodes.is_loopback.Goals as goal

pub returns : goal.returns
returns c = loopback_same c.args.address c.is_loopback.result (search rules)
