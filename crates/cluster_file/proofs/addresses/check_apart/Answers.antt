use Rattle.std.proofs.Common.{◌≡◌, ◌∙◌, ◌+◌, ◌++◌, ℕ, List, [], drop, get_or, Option, None, Some, Bool, ap, sym, subst, rules, arith}
use Rattle.std.specs.Prelude.{IfNone}
use Rattle.std.proofs.lemmas.List.{at_drop_all, at_drop_more}
use Rattle.std.specs.declared.net.socket_addr.SocketAddr.{SocketAddr}
use Rattle.cluster_file.specs.declared.cluster.Place.{Place}
use Rattle.cluster_file.specs.Clusters.{addresses_at}
use Rattle.cluster_file.specs.Repeated.{first_repeated, place_repeated, repetition}
use Rattle.cluster_file.proofs.ApartLemmas.{addresses_more, apart_right, apart_wrong, no_place, repeated_here, repeated_later}
use Rattle.cluster_file.proofs.ApartLemmas.{repeated_nowhere}
use Rattle.cluster_file.proofs.Refusals.{refused_says}
use Rattle.cluster_file.proofs.addresses.check_apart.Goals as goal

pub returns-in-Some-clause-err : goal.returns-in-Some-clause-err
returns-in-Some-clause-err c =
    let places : List Place = c.args.places.now in
    let i : ℕ = c.loop-i.i in
    let place : Place = get_or places i no_place in
    let taken : List SocketAddr = c.loop-i.taken.items in
    let old : place_repeated taken place ≡ Some c.in-Some.client = sym c.in_ok-client.ensures.old ∙ c.in-Some.is in
    let first : first_repeated [] 0 places ≡ Some (i, place, c.in-Some.client) =
    c.loop-i.invariant.first
    ∙ (at_drop_more (first_repeated taken i) places i no_place c.loop-i-test.true
    ∙ repeated_here taken i place (drop (i + 1) places) c.in-Some.client old) in
    refused_says _ (repetition c.args.acceptors c.args.leaders places i place c.in-Some.client) c.repeated.result
    (apart_wrong c.args.acceptors c.args.leaders places i place c.in-Some.client first) c.repeated.ensures

pub loop-i-preserved : goal.loop-i-preserved
loop-i-preserved c =
    let places : List Place = c.args.places.now in
    let i : ℕ = c.loop-i.i in
    let place : Place = get_or places i no_place in
    let taken : List SocketAddr = c.loop-i.taken.items in
    let more : List SocketAddr = c.add_place.new.taken.items in
    let none : c.in_ok-client.field-0 ≡ None = search rules in
    let items : more ≡ taken ++ addresses_at place =
    subst (λ (old : Option Bool). IfNone old (more ≡ taken ++ addresses_at place)) none c.in_ok-client.ensures.items in
    let new : place_repeated taken place ≡ None = sym c.in_ok-client.ensures.old ∙ none in record {
      said = items ∙ (ap (λ (t : List SocketAddr). t ++ addresses_at place) c.loop-i.invariant.said
          ∙ addresses_more places i no_place c.loop-i-test.true);
      apart = c.in_ok-client.ensures.apart c.loop-i.invariant.apart;
      first = c.loop-i.invariant.first
          ∙ (at_drop_more (first_repeated taken i) places i no_place c.loop-i-test.true
          ∙ (repeated_later taken i place (drop (i + 1) places) new
          ∙ ap (λ (t : List SocketAddr). first_repeated t (i + 1) (drop (i + 1) places)) (sym items)));
    }

pub returns-clause-ok : goal.returns-clause-ok
returns-clause-ok c =
    let places : List Place = c.args.places.now in
    let i : ℕ = c.loop-i.i in
    let taken : List SocketAddr = c.loop-i.taken.items in
    apart_right c.args.acceptors c.args.leaders places
    (c.loop-i.invariant.first ∙ (at_drop_all (first_repeated taken i) places i (omega arith) ∙ repeated_nowhere taken i))
