use Rattle.std.proofs.Common.{[]}
use Rattle.protocol.specs.Worlds.{datagrams_of}
use Rattle.node_core.specs.Configs.{config_by}
use Rattle.cluster.proofs.Sent.{AreSent}
use Rattle.cluster.proofs.sending.spell_and_send_all.Given as goal

abbrev pub invariant-loop-k : goal.invariant-loop-k
invariant-loop-k l = AreSent (datagrams_of (config_by l.fn.sizes []) l.fn.sender) l.fn.sends l.fn.network l.network l.k
