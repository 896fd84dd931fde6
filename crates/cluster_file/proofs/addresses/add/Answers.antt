use Rattle.std.proofs.Common.{◌≡◌, ◌<◌, not, ℕ, List, get_or, length, ap, sym, rules, arith}
use Rattle.std.specs.declared.net.socket_addr.SocketAddr.{SocketAddr}
use Rattle.cluster_file.proofs.ApartLemmas.{stands_at, stands_nowhere}
use Rattle.cluster_file.proofs.addresses.add.Goals as goal

pub returns-then-eq-clause-new : goal.returns-then-eq-clause-new
returns-then-eq-clause-new c =
    let taken : List SocketAddr = c.args.taken.now.items in
    let is : get_or taken c.loop-i.i c.index.result.now ≡ c.args.address = search rules in
    sym (ap not (stands_at taken c.args.address c.loop-i.i c.index.result.now (omega arith) is))

pub returns-clause-new : goal.returns-clause-new
returns-clause-new c =
    let taken : List SocketAddr = c.args.taken.now.items in
    sym (ap not (stands_nowhere taken c.args.address
    (λ (k : ℕ) (d : SocketAddr) (below : k < length taken). c.loop-i.invariant k d (omega (arith, below)))))
