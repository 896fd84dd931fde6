use Rattle.std.proofs.Common.{◌≡◌, ◌∙◌, ◌≤◌, false, length, Some, sym, ap, subst, arith}
use Rattle.std.specs.List.{slice_index_or}
use Rattle.std.proofs.lemmas.List.{drop_all}
use Rattle.xid.specs.Names.{XidParts}
use Rattle.xid.specs.Places.{Place, is_below, is_lower, tx_place, xid_place}
use Rattle.xid.proofs.Places.{not_lower}
use Rattle.serving.proofs.FloorLemmas.{lowest_each, lowest_floor, lowest_name, lowest_of}
use Rattle.serving.proofs.times.held_back.Goals as goal

pub returns : goal.returns
returns c =
    let txs = c.args.prepared.now in
    let start : Place = c.held_back-lowest.result in
    let low : Place = c.loop-tx.lowest in
    let end : length txs ≤ c.loop-tx.tx-index = omega arith in
    let is : low ≡ lowest_of tx_place start txs =
    sym (ap (lowest_of tx_place low) (drop_all c.loop-tx.tx-index txs end)) ∙ c.loop-tx.invariant in
    let down : is_lower (Some start) (Some low) ≡ false =
    subst (λ (p : Place). is_lower (Some start) (Some p) ≡ false) (sym is) (lowest_floor tx_place start txs) in
    record {
      wanted = not_lower (Some low) (Some start) (Some c.args.floor) down c.held_back-lowest.ensures.wanted;
      begun = λ (x : XidParts) known.
          not_lower (Some low) (Some start) (Some (xid_place x)) down (c.held_back-lowest.ensures.begun x known);
      prepared = λ k d inside. subst (λ (p : Place). is_below (Some p) (slice_index_or txs k d) ≡ false) (sym is)
          (lowest_each tx_place start txs k d inside);
      is_one = lowest_name c.args.begun.now txs c.args.floor start low is c.held_back-lowest.ensures.is_one;
    }
