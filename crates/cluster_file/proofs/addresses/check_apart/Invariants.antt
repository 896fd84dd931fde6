use Rattle.std.proofs.Common.{◌≡◌, ◌≢◌, [], take, drop}
use Rattle.std.specs.List.{AllPairs}
use Rattle.cluster_file.specs.Clusters.{addresses_of}
use Rattle.cluster_file.specs.Repeated.{first_repeated}
use Rattle.cluster_file.proofs.addresses.check_apart.Given as goal

-- the addresses so far are apart, and what is repeated is so in the places that are left
abbrev pub invariant-loop-i : goal.invariant-loop-i
invariant-loop-i l = record {
  said : l.taken.items ≡ addresses_of (take l.i l.places);
  apart : AllPairs (λ a b. a ≢ b) l.taken.items;
  first : first_repeated [] 0 l.places ≡ first_repeated l.taken.items l.i (drop l.i l.places);
}
