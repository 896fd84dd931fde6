use Rattle.std.proofs.Common.{◌≡◌, ◌∙◌, ◌-◌, List, None, length, nat_eq, take, refl, sym, ap, subst}
use Rattle.std.proofs.lemmas.List.{length-map}
use Rattle.std.specs.List.{All}
use Rattle.std.specs.Map.{lookup}
use Rattle.std.specs.Str.{bytes_eq}
use Rattle.xid.specs.Transactions.{TxParts, tx_eq}
use Rattle.wire.specs.Spelled.{tx_spelled, IsSpelled}
use Rattle.transactions.specs.Found.{found, hint_of, other_of, IsIndex}
use Rattle.transactions.specs.Seen.{place_in, seen_with}
use Rattle.transactions.proofs.Cutting.{without_last}
use Rattle.transactions.proofs.Index.{index_placed, settled}
use Rattle.transactions.proofs.Keys.{seen_of, seen_before, not_seen, place_of_position, seen_pushed, spelled_pushed}
use Rattle.transactions.proofs.Sought.{sought}
use Rattle.transactions.proofs.numbers.Transactions.insert_view.Goals as goal

pub returns-in-Some-clause-ok : goal.returns-in-Some-clause-ok
returns-in-Some-clause-ok c =
    let keys = c.self.inside.spelled in
    let tx = c.args.tx.now in
    let seen = sought (λ key. key) c.self.inside.words keys (hint_of c.self.inside.places) (other_of c.self.inside.places)
    c.self.invariant.found
    c.self.invariant.spelled c.as_bytes-spelled.result.now tx c.as_bytes-spelled.ensures.valid c.as_bytes-spelled.ensures.value
    c.hash_of-hash.result c.find.result c.hash_of-hash.ensures c.find.ensures in
    subst (λ (ts : List TxParts). (c.in-Some.number ≡ place_in ts tx) × (ts ≡ seen_with ts tx)) c.self.view_is
    (seen_before (seen_of (λ key. key) keys) tx c.in-Some.number (sym c.in-Some.is ∙ seen))

pub invariant_of-self-in-Err : goal.invariant_of-self-in-Err
invariant_of-self-in-Err c =
    let keys = c.self.inside.spelled in
    let places = c.self.inside.places in
    let pushed = c.in_ok-push.ensures.ok in
    let back = c.pop.ensures ∙ (λ i. take (length (pushed i) - 1) (pushed i)) ∙ without_last keys c.as_bytes-spelled.result.now in
    record {
      spelled = subst (All (λ key. IsSpelled key)) (sym back) c.self.invariant.spelled;
      found = subst (λ ks. IsIndex (λ key. key) c.self.inside.words ks (hint_of c.add.new.self) (other_of c.add.new.self)) (sym back)
          (subst (λ es. IsIndex (λ key. key) c.self.inside.words keys (λ h. lookup (nat_eq h) es) (other_of c.add.new.self))
          (sym c.in-Err.ensures.hints)
          (subst (λ es. IsIndex (λ key. key) c.self.inside.words keys (hint_of places) (λ k. lookup (λ key. bytes_eq k key.items) es))
          (sym c.in-Err.ensures.others) c.self.invariant.found));
    }

pub invariant_of-self-in_default-add : goal.invariant_of-self-in_default-add
invariant_of-self-in_default-add c =
    let keys = c.self.inside.spelled in
    let places = c.self.inside.places in
    let k = c.as_bytes-spelled.result.now in
    let none = sym (settled (λ key. key) c.self.inside.words keys (hint_of places) (other_of places) c.self.invariant.found k
    c.hash_of-hash.result
    c.find.result c.hash_of-hash.ensures c.find.ensures) ∙ c.in_default.is in
    let absent = (λ i. found (λ key. key) keys k (hint_of places (c.hash_of-hash.ensures i)) (other_of places k)) ∙ none in
    record {
      spelled = subst (All (λ key. IsSpelled key)) (sym c.in_ok-push.ensures.ok)
          (spelled_pushed (λ key. key) keys k c.args.tx.now c.as_bytes-spelled.ensures.valid c.as_bytes-spelled.ensures.value
          c.self.invariant.spelled);
      found = subst (λ ks. IsIndex (λ key. key) c.self.inside.words ks (hint_of c.add.new.self) (other_of c.add.new.self))
          (sym c.in_ok-push.ensures.ok)
          (index_placed (λ key. key) c.self.inside.words places c.add.new.self keys c.hash_of-hash.result c.len-number.result k k
          c.self.invariant.found absent
          c.in_default-add.ensures.ok c.hash_of-hash.ensures refl c.len-number.ensures);
    }

pub returns-clause-ok : goal.returns-clause-ok
returns-clause-ok c =
    let keys = c.self.inside.spelled in
    let tx = c.args.tx.now in
    let k = c.as_bytes-spelled.result.now in
    let seen = sought (λ key. key) c.self.inside.words keys (hint_of c.self.inside.places) (other_of c.self.inside.places)
    c.self.invariant.found
    c.self.invariant.spelled k tx c.as_bytes-spelled.ensures.valid c.as_bytes-spelled.ensures.value
    c.hash_of-hash.result c.find.result c.hash_of-hash.ensures c.find.ensures in
    let none = sym c.in_default.is ∙ seen in
    let place = place_of_position (tx_eq tx) (seen_of (λ key. key) keys) None none in (
      c.len-number.ensures ∙ sym (length-map keys tx_spelled) ∙ sym place ∙ ap (λ ts. place_in ts tx) c.self.view_is,
      ap (seen_of (λ key. key)) c.in_ok-push.ensures.ok
          ∙ seen_pushed (λ key. key) keys k tx c.as_bytes-spelled.ensures.valid c.as_bytes-spelled.ensures.value
          (not_seen (seen_of (λ key. key) keys) tx none)
          ∙ ap (λ ts. seen_with ts tx) c.self.view_is,
    )
