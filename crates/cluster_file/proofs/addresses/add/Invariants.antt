use Rattle.std.proofs.Common.{◌≢◌, ℕ, ◌<◌, get_or}
use Rattle.std.specs.declared.net.socket_addr.SocketAddr.{SocketAddr}
use Rattle.cluster_file.proofs.addresses.add.Given as goal

-- none so far is the address
abbrev pub invariant-loop-i : goal.invariant-loop-i
invariant-loop-i l = (k : ℕ) (d : SocketAddr) → k < l.i → get_or l.taken.items k d ≢ l.address
