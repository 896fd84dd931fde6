use Rattle.std.proofs.Common.{◌≡◌, Some, is_some, ap, sym}
use Rattle.std.proofs.lemmas.Result.{on_ok_weaker}
use Rattle.slab.specs.Slab.{Slab, get, with_value}
use Rattle.slab.proofs.SlabLemmas.{Updates-with_value}
use Rattle.serving.specs.Clients.{ClientParts}
use Rattle.serving.proofs.RangeLemmas.{range_empty, range_one}
use Rattle.serving.proofs.UntoldLemmas.{untold_none, untold_one}
use Rattle.serving.proofs.clients.Clients.take_at.Goals as goal

pub returns-in-Some-clause-ok : goal.returns-in-Some-clause-ok
returns-in-Some-clause-ok c =
    let old : Slab ClientParts = c.args.self.now.seats in
    let was : ClientParts = c.in-Some.client.now in
    let now : ClientParts = c.take_lines.new.self in
    let is_was : get old c.args.key ≡ Some was = sym c.in-Some.ensures.value in
    let updates = Updates-with_value old c.args.key now (ap is_some is_was) in
    on_ok_weaker c.take_lines.result (λ hears. range_one c.args.terms.now c.args.key old (with_value old c.args.key now)
    was now c.args.items.now.items c.take_lines.new.items.items is_was updates.changed updates.others hears) c.take_lines.ensures.ok

pub returns-in-Some-clause-untold : goal.returns-in-Some-clause-untold
returns-in-Some-clause-untold c =
    let old : Slab ClientParts = c.args.self.now.seats in
    let was : ClientParts = c.in-Some.client.now in
    let now : ClientParts = c.take_lines.new.self in
    let is_was : get old c.args.key ≡ Some was = sym c.in-Some.ensures.value in
    let updates = Updates-with_value old c.args.key now (ap is_some is_was) in
    untold_one c.args.key old (with_value old c.args.key now) was now is_was updates.changed updates.others c.take_lines.ensures.untold

pub returns-in-None-clause-untold : goal.returns-in-None-clause-untold
returns-in-None-clause-untold c = untold_none c.args.self.now.seats

pub returns-in-None-clause-ok : goal.returns-in-None-clause-ok
returns-in-None-clause-ok c = range_empty c.args.terms.now c.args.key c.args.self.now.seats c.args.items.now.items
    (sym c.in-None.ensures.value)
