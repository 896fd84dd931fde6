use Rattle.std.proofs.Common.{◌≡◌, ◌+◌, ◌++◌, map, take, Some, []}
use Rattle.std.specs.Vec.{vec_len, vec_capacity}
use Rattle.floors.specs.Worlds.{notices_of}
use Rattle.node_core.specs.Configs.{config_by}
use Rattle.cluster.specs.Notices.{shown_notice}
use Rattle.cluster.proofs.notices.put_all.Given as goal

-- so many of them were told
abbrev pub invariant-loop-i : goal.invariant-loop-i
invariant-loop-i l = record {
  items : map shown_notice l.all.items
      ≡ map shown_notice l.fn.all.items ++ take l.i (notices_of (config_by l.sizes []) l.manager (Some l.floor));
  len : vec_len l.all ≡ vec_len l.fn.all + l.i;
  capacity : vec_capacity l.all ≡ vec_capacity l.fn.all;
}
