use Rattle.std.proofs.Common.{◌≡◌, ◌≢◌, ◌∙◌, ◌+◌, ◌∷◌, ℕ, List, drop, get_or, None, sym, rules}
use Rattle.std.proofs.lemmas.List.{at_drop_more}
use Rattle.cluster_file.specs.declared.cluster.Place.{Place}
use Rattle.cluster_file.specs.Repeated.{spot_from}
use Rattle.cluster_file.proofs.ApartLemmas.{no_place, spot_client, spot_closed, spot_later, spot_node}
use Rattle.cluster_file.proofs.addresses.spot_of.Goals as goal
use Rattle.cluster_file.proofs.addresses.spot_of.Goals.{in-Some+else-eq-2, in_default}

pub returns-then-eq : goal.returns-then-eq
returns-then-eq c =
    let places : List Place = c.args.places.now in
    let i : ℕ = c.loop-i.i in
    let place : Place = get_or places i no_place in
    let from : ℕ → List Place → _ = spot_from c.args.acceptors c.args.leaders c.args.address in
    let so_far : from 0 places ≡ from i (drop i places) = c.loop-i.invariant in
    let is : place.node ≡ c.args.address = search rules in
    c.spot_at.ensures
    ∙ sym (so_far ∙ (at_drop_more (from i) places i no_place c.loop-i-test.true
    ∙ spot_node c.args.acceptors c.args.leaders c.args.address i place (drop (i + 1) places) is))

pub returns-then-eq-2 : goal.returns-then-eq-2
returns-then-eq-2 c =
    let places : List Place = c.args.places.now in
    let i : ℕ = c.loop-i.i in
    let place : Place = get_or places i no_place in
    let from : ℕ → List Place → _ = spot_from c.args.acceptors c.args.leaders c.args.address in
    let so_far : from 0 places ≡ from i (drop i places) = c.loop-i.invariant in
    let other : place.node ≢ c.args.address = search rules in
    let is : c.in-Some.client ≡ c.args.address = search rules in
    c.spot_at-then-eq-2.ensures
    ∙ sym (so_far ∙ (at_drop_more (from i) places i no_place c.loop-i-test.true
    ∙ spot_client c.args.acceptors c.args.leaders c.args.address i place (drop (i + 1) places) c.in-Some.client other c.in-Some.is is))

pub loop-i-preserved : goal.loop-i-preserved
loop-i-preserved c =
    let places : List Place = c.args.places.now in
    let i : ℕ = c.loop-i.i in
    let place : Place = get_or places i no_place in
    let from : ℕ → List Place → _ = spot_from c.args.acceptors c.args.leaders c.args.address in
    let so_far : from 0 places ≡ from i (drop i places) = c.loop-i.invariant in
    let other : place.node ≢ c.args.address = search rules in
    let here : from 0 places ≡ from i (place ∷ drop (i + 1) places) =
    so_far ∙ at_drop_more (from i) places i no_place c.loop-i-test.true in
    elim c.match-places-i.branch [
      | in-Some+else-eq-2 w ↦
          let differs : w.in-Some.client ≢ c.args.address = search rules in
          here
          ∙ spot_later c.args.acceptors c.args.leaders c.args.address i place (drop (i + 1) places) w.in-Some.client other w.in-Some.is
          differs
      | in_default w ↦
          let closed : place.client ≡ None = search rules in
          here ∙ spot_closed c.args.acceptors c.args.leaders c.args.address i place (drop (i + 1) places) other closed
    ]
