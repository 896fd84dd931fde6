use Rattle.std.proofs.Common.{◌≡◌, map}
use Rattle.toml.specs.View.{members_view, table_view}
use Rattle.cluster_file.specs.Nodes.{keys_at}
use Rattle.cluster_file.proofs.section.Section.check_keys.Given as goal

-- what is wrong with the keys that are left is what is wrong
abbrev pub invariant-loop-key : goal.invariant-loop-key
invariant-loop-key l =
    keys_at l.self.path.now (map (λ k. k.now) l.known) (members_view l.key-iterator)
    ≡ keys_at l.self.path.now (map (λ k. k.now) l.known) (table_view l.self.table.now)
