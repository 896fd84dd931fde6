-- The rules of an acceptor, each of the slots that it looks at. Gray and Lamport, "Consensus on Transaction Commit", ACM TODS 31(1),
-- 2006, section 4.1; and phases 1a, 1b and 2b of all instances of a transaction in one message each, in a bundled cluster.
use Rattle.std.specs.Prelude.{ℕ, Bool, false, not, ◌&&◌, ◌||◌, ◌==◌, nat_lt, nat_le, if◌then◌else◌, List, [], ◌∷◌, map, filter, filter_map}
use Rattle.std.specs.Prelude.{Option, Some, is_some}
use Rattle.protocol.specs.Basics.{list_any, list_all, option_map, option_map_or, TxParts, participants, is_participant, Vote, is_prepared}
use Rattle.protocol.specs.Basics.{Kind, P1a, P1b, P2a, P2b, B1a, B1b, B2b, InstanceReport, InstanceAccept, Fact, owner_of, Report, Slot}
use Rattle.protocol.specs.Vocabulary.{L, Node, Leaders, Outgoing}
use Rattle.protocol.specs.Facts.{vote_eq}
use Rattle.protocol.specs.Effects.{Config, Effect, no_effect, sends_only, stores, to}

-- an acceptor's slots, by transaction and instance
abbrev pub Slots : Type 0
Slots = TxParts → ℕ → Slot

-- whether a slot already stands at a ballot with this value accepted in it
abbrev pub is_accepted : Slot → ℕ → Vote → Bool
is_accepted s b v = (s.mbal == b) && option_map_or (λ last. (last.0 == b) && vote_eq last.1 v) s.report false

-- phase 1a: above every ballot before, the promise is stored, and what was accepted last goes to the ballot's owner
abbrev pub on_1a : Config → (acceptor : ℕ) → Slots → TxParts → ℕ → ℕ → Effect (Unit {0})
on_1a config a slots tx i b =
    if nat_lt (slots tx i).mbal b
    then stores tt (Fact.Promise tx i b) (to (Node (L (owner_of config.leaders b))) (P1b tx i b (slots tx i).report a) ∷ [])
    else no_effect tt

-- what is reported of the instances of a transaction that stand below a ballot, ascending
abbrev pub reports_below : Slots → TxParts → ℕ → List InstanceReport
reports_below slots tx b =
    map (λ i. record { instance = i; report = (slots tx i).report }) (filter (λ i. nat_lt (slots tx i).mbal b) (participants tx))

-- whether some instance of a transaction stands below a ballot
abbrev pub is_some_below : Slots → TxParts → ℕ → Bool
is_some_below slots tx b = list_any (λ i. nat_lt (slots tx i).mbal b) (participants tx)

-- phase 1a of all instances: where some stands below the ballot, one promise for all of these is stored, and they are reported to
-- the ballot's owner
abbrev pub on_b1a : Config → (acceptor : ℕ) → Slots → TxParts → ℕ → Effect (Unit {0})
on_b1a config a slots tx b =
    if is_some_below slots tx b
    then stores tt (Fact.PromiseAll tx b) (to (Node (L (owner_of config.leaders b))) (B1b tx b a (reports_below slots tx b)) ∷ [])
    else no_effect tt

-- what is accepted last of instance j, once a value of instance i is accepted
abbrev pub report_after : Slots → TxParts → (i b : ℕ) → Vote → (j : ℕ) → Report
report_after slots tx i b v j = if j == i then Some (b, v) else (slots tx j).report

-- how it is told, if there is any
abbrev pub accept_item : (instance : ℕ) → Report → Option InstanceAccept
accept_item i report = option_map (λ last. record { instance = i; ballot = last.0; vote = last.1 }) report

-- what is told of an accept: phase 2b of the instance; in a bundled cluster that of every instance that has a value, once all have
-- one or this one is aborted
abbrev pub accept_messages : Config → (acceptor : ℕ) → Slots → TxParts → ℕ → ℕ → Vote → List Outgoing
accept_messages config a slots tx i b v =
    let last = report_after slots tx i b v in
    let all = to Leaders (B2b tx a (filter_map (λ j. accept_item j (last j)) (participants tx))) ∷ [] in
    if not config.bundled then to Leaders (P2b tx i b v a) ∷ []
    else if list_all (λ j. is_some (last j)) (participants tx) || not (is_prepared v) then all
    else []

-- phase 2a: no lower than any ballot before, the value is accepted and told; what stands is not stored again
abbrev pub on_2a : Config → (acceptor : ℕ) → Slots → TxParts → ℕ → ℕ → Vote → Effect (Unit {0})
on_2a config a slots tx i b v =
    let told = accept_messages config a slots tx i b v in
    if nat_le (slots tx i).mbal b
    then (if is_accepted (slots tx i) b v then sends_only tt told else stores tt (Fact.Accept tx i b v) told)
    else no_effect tt

-- what an acceptor does on a message
abbrev pub on_acceptor_message : Config → (acceptor : ℕ) → Slots → Kind → Effect (Unit {0})
on_acceptor_message config a slots (P1a tx i b) = on_1a config a slots tx i b
on_acceptor_message config a slots (B1a tx b) = on_b1a config a slots tx b
on_acceptor_message config a slots (P2a tx i b v) = on_2a config a slots tx i b v
on_acceptor_message config a slots message = no_effect tt

-- what its record may hold, by the slots before: of an instance of the transaction, a promise above every ballot before, and an
-- accept no lower than any, and new; a promise for all where some instance stands below it
abbrev pub plays_at_acceptor : Slots → Fact → Bool
plays_at_acceptor slots (Fact.Promise tx i b) = is_participant tx i && nat_lt (slots tx i).mbal b
plays_at_acceptor slots (Fact.Accept tx i b v) =
    is_participant tx i && nat_le (slots tx i).mbal b && not (is_accepted (slots tx i) b v)
plays_at_acceptor slots (Fact.PromiseAll tx b) = is_some_below slots tx b
plays_at_acceptor slots fact = false
