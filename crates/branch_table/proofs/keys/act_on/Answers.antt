use Rattle.std.proofs.Common.{◌∙◌, sym}
use Rattle.protocol.proofs.TouchedKeys.{untouched}
use Rattle.branch_table.proofs.KeyPlaces.{act_at, found_at, is_up_to, key_placed, none_at}
use Rattle.branch_table.proofs.Positions.{none_passes}
use Rattle.branch_table.proofs.keys.act_on.Goals as goal

pub returns-in_default : goal.returns-in_default
returns-in_default c =
    let keys = c.args.keys.now in
    let key = c.args.key.now in
    let none = none_at keys key (λ k t less. none_passes (is_up_to key) keys (sym c.in_default.ensures) k t less) in
    record { some = tt; none = untouched keys key none; touched = sym none }

pub returns-then-not-is_of_key : goal.returns-then-not-is_of_key
returns-then-not-is_of_key c =
    let keys = c.args.keys.now in
    let key = c.args.key.now in
    let t = c.index-keys-at.result in
    let place = key_placed keys key c.in-Some.at t (sym c.in-Some.ensures) c.index-keys-at.is in
    let none = found_at keys key c.in-Some.at t c.requires place ∙ sym c.if-not-is_of_key.ensures in
    record { some = tt; none = untouched keys key none; touched = sym none }

pub returns : goal.returns
returns c =
    let keys = c.args.keys.now in
    let key = c.args.key.now in
    let t = c.index-keys-at.result in
    let place = key_placed keys key c.in-Some.at t (sym c.in-Some.ensures) c.index-keys-at.is in
    let there = sym c.if-not-is_of_key.ensures in
    record {
      some = sym (act_at keys key c.in-Some.at t place there);
      none = tt;
      touched = sym (found_at keys key c.in-Some.at t c.requires place ∙ there);
    }
