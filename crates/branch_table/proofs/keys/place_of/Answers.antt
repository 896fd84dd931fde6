use Rattle.std.proofs.Common.{not, rules}
use Rattle.std.proofs.lemmas.List.Sorted.{IsPartitionPoint-from_clause}
use Rattle.branch_table.proofs.KeyPlaces.{is_up_to, none_from, parted, some_from}
use Rattle.branch_table.proofs.keys.place_of.Goals as goal

pub returns-then-at-keys : goal.returns-then-at-keys
returns-then-at-keys c =
    let keys = c.args.keys.now in
    let key = c.args.key.now in
    let found = c.partition_point-at in
    let point = IsPartitionPoint-from_clause (λ t. not (is_up_to key t)) _ _ found.ensures.partitioned (parted keys key c.requires)
    (λ a r q k. search rules) in
    none_from keys key found.result found.ensures.bound point c.if-at-keys.true

pub returns : goal.returns
returns c =
    let keys = c.args.keys.now in
    let key = c.args.key.now in
    let found = c.partition_point-at in
    let point = IsPartitionPoint-from_clause (λ t. not (is_up_to key t)) _ _ found.ensures.partitioned (parted keys key c.requires)
    (λ a r q k. search rules) in
    some_from keys key found.result found.ensures.bound point c.if-at-keys.false
