-- The transactions that a resource manager is prepared in are those that the facts leave so.
-- Needed by `ResourceManager::open_transactions`.
use Rattle.std.proofs.Common.{◌≡◌, ◌∙◌, ℕ, Bool, true, false, List, [], ◌∷◌, Some, None, refl, sym, ap}
use Rattle.std.specs.Prelude.{filter, filter_map, if◌then◌else◌, Result, Ok, Err, IfOk}
use Rattle.std.specs.List.{cons_option}
use Rattle.xid.specs.Transactions.{TxParts}
use Rattle.stable_record.specs.declared.fact.FactKind.{FactKind as Fact}
use Rattle.protocol.specs.Effects.{Config}
use Rattle.protocol.specs.Facts.{view, is_prepared_view}
use Rattle.protocol.specs.Managers.{Branch}
use Rattle.resource_manager.specs.Courses.{begun_in, course_in, view_of}
use Rattle.resource_manager.specs.Managers.{ManagerParts, StandsFor}
use Rattle.resource_manager.specs.Open.{open_at, open_in}
use Rattle.resource_manager.proofs.Votes.{view_is}

given_some : (p : TxParts → Bool) (txs : List TxParts) → filter_map (λ tx. if p tx then Some tx else None) txs ≡ filter p txs
given_some p [] = refl
given_some p (tx ∷ txs) = by (p tx) (given_some p txs)
  where
    by : (t : Bool) → filter_map (λ x. if p x then Some x else None) txs ≡ filter p txs
        → cons_option (if t then Some tx else None) (filter_map (λ x. if p x then Some x else None) txs)
        ≡ (if t then tx ∷ filter p txs else filter p txs)
    by true e = ap (λ (xs : List TxParts). tx ∷ xs) e
    by false e = e

same_filtered : (p q : TxParts → Bool) → ((tx : TxParts) → p tx ≡ q tx) → (txs : List TxParts) → filter p txs ≡ filter q txs
same_filtered p q each [] = refl
same_filtered p q each (tx ∷ txs) = λ i.
    if each tx i then tx ∷ same_filtered p q each txs i else same_filtered p q each txs i

are_open : (config : Config) (number : ℕ) (m : ManagerParts) (facts : List Fact) (branches : List Branch)
    → StandsFor config number m facts branches → filter_map (open_at m) m.courses.begun ≡ open_in facts
are_open config number m facts branches stands =
    let prepared : TxParts → Bool = λ tx. is_prepared_view (view_of (course_in m.courses tx)) in
    ap (filter_map (open_at m)) stands.begun_are
    ∙ given_some prepared (begun_in facts)
    ∙ same_filtered prepared (λ tx. is_prepared_view (view facts tx))
    (λ tx. ap is_prepared_view (sym (view_is config number m facts branches stands tx (course_in m.courses tx) refl))) (begun_in facts)

-- where there are some, they are so
pub all_open : {V E : Type 0} (r : Result V E) (items : V → List TxParts) (m : ManagerParts)
    → IfOk r (λ v. items v ≡ filter_map (open_at m) m.courses.begun)
    → IfOk r (λ v. (config : Config) (number : ℕ) (facts : List Fact) (branches : List Branch)
    → StandsFor config number m facts branches → items v ≡ open_in facts)
all_open (Ok v) items m e = λ config number facts branches stands. e ∙ are_open config number m facts branches stands
all_open (Err refusal) items m e = tt
