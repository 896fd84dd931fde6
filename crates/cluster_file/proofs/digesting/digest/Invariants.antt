use Rattle.std.proofs.Common.{[], ◌∷◌, ◌++◌, take}
use Rattle.std.specs.List.{flat_map}
use Rattle.sha2.specs.Hashers.{Holds256}
use Rattle.cluster_file.specs.Texts.{bundled_text, table_text}
use Rattle.cluster_file.proofs.digesting.digest.Given as goal

-- the tables so far have gone in
abbrev pub invariant-loop-rm : goal.invariant-loop-rm
invariant-loop-rm l =
    Holds256 l.hasher ((l.config.acceptors ∷ l.config.leaders ∷ l.config.managers ∷ bundled_text l.config.bundled ∷ [])
    ++ flat_map table_text (take l.rm l.config.tables))
