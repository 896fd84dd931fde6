-- Datagrams that go out by a port, one send after another.
-- Needed by 7 functions of this crate.
use Rattle.std.proofs.Common.{◌≡◌, ◌∙◌, ℕ, ◌+◌, ◌<◌, List, [], ◌∷◌, ◌++◌, length, map, take, get_or, refl, sym, ap, subst, Result}
use Rattle.std.specs.List.{flat_map}
use Rattle.std.proofs.lemmas.Grind.{flat_map-append}
use Rattle.std.proofs.lemmas.List.{append-nil, map_push, take_more}
use Rattle.xid.specs.declared.refusals.Refusal.{Refusal}
use Rattle.xid.specs.Places.{Place}
use Rattle.wire.specs.Grammar.{spelling}
use Rattle.wire.specs.Notices.{notice_spelling}
use Rattle.protocol.specs.declared.nodes.NodeId.{NodeId}
use Rattle.protocol.specs.Effects.{Config, receivers}
use Rattle.protocol.specs.Worlds.{Datagram}
use Rattle.node_core.specs.declared.config.Sizes.{Sizes}
use Rattle.node_core.specs.Configs.{config_by}
use Rattle.node_core.specs.Nodes.{AreSizes}
use Rattle.node_core.specs.declared.output.Output.{Output}
use Rattle.node_core.proofs.Addressed.{datagrams_as}
use Rattle.port.specs.Calls.{Sending, SendsAll, SendsTo, TellsAll, datagrams_from}

module _ {P : Type 0} (Sent : Sending P) where
  -- more of them after some
  pub sends_then : (ds more : List Datagram) (a b c : P) → SendsAll Sent a b ds → SendsAll Sent b c more → SendsAll Sent a c (ds ++ more)
  sends_then [] more a b c none rest = subst (λ (p : P). SendsAll Sent p c more) none rest
  sends_then (d ∷ ds) more a b c some rest = (some.0, some.1, some.2, sends_then ds more some.0 b c some.3 rest)

  -- one more after some
  pub sends_one : (ds : List Datagram) (a b c : P) (d : Datagram) (result : Result (Unit {0}) Refusal) → SendsAll Sent a b ds
      → Sent b c d.receiver (spelling d.message) result → SendsAll Sent a c (ds ++ d ∷ [])
  sends_one ds a b c d result some one = sends_then ds (d ∷ []) a b c some (c, result, one, refl)

  -- one receiver more
  pub sends_next : (f : NodeId → Datagram) (receivers : List NodeId) (i : ℕ) (a b c : P) (receiver : NodeId)
      (result : Result (Unit {0}) Refusal) → i < length receivers → receiver ≡ get_or receivers i receiver
      → SendsAll Sent a b (map f (take i receivers)) → Sent b c (f receiver).receiver (spelling (f receiver).message) result
      → SendsAll Sent a c (map f (take (i + 1) receivers))
  sends_next f receivers i a b c receiver result lt read some one =
      let more : take (i + 1) receivers ≡ take i receivers ++ receiver ∷ [] =
      take_more receivers i receiver lt ∙ ap (λ (r : NodeId). take i receivers ++ r ∷ []) (sym read) in
      let grown : map f (take i receivers) ++ f receiver ∷ [] ≡ map f (take (i + 1) receivers) =
      sym (map_push f (take i receivers) receiver) ∙ ap (λ (rs : List NodeId). map f rs) (sym more) in
      subst (λ (ds : List Datagram). SendsAll Sent a c ds) grown
      (sends_one (map f (take i receivers)) a b c (f receiver) result some one)

  -- one message more
  pub sends_more : {X : Type 0} (f : X → List Datagram) (xs : List X) (k : ℕ) (a b c : P) (x : X) → k < length xs → x ≡ get_or xs k x
      → SendsAll Sent a b (flat_map f (take k xs)) → SendsAll Sent b c (f x) → SendsAll Sent a c (flat_map f (take (k + 1) xs))
  sends_more {X} f xs k a b c x lt read some more =
      let grown : flat_map f (take k xs) ++ f x ≡ flat_map f (take (k + 1) xs) =
      ap (λ (ds : List Datagram). flat_map f (take k xs) ++ ds) (sym (append-nil (f x)))
      ∙ sym (flat_map-append f (take k xs) (x ∷ []))
      ∙ ap (flat_map f) (ap (λ (y : X). take k xs ++ y ∷ []) read ∙ sym (take_more xs k x lt)) in
      subst (λ (ds : List Datagram). SendsAll Sent a c ds) grown (sends_then (flat_map f (take k xs)) (f x) a b c some more)

  -- the same bytes to more nodes
  pub to_then : (bytes : List ℕ) (whos more : List NodeId) (a b c : P) → SendsTo Sent a b bytes whos → SendsTo Sent b c bytes more
      → SendsTo Sent a c bytes (whos ++ more)
  to_then bytes [] more a b c none rest = subst (λ (p : P). SendsTo Sent p c bytes more) none rest
  to_then bytes (who ∷ whos) more a b c some rest = (some.0, some.1, some.2, to_then bytes whos more some.0 b c some.3 rest)

  -- bytes to one node more
  pub to_one : (bytes : List ℕ) (whos : List NodeId) (a b c : P) (who : NodeId) (result : Result (Unit {0}) Refusal)
      → SendsTo Sent a b bytes whos → Sent b c who bytes result → SendsTo Sent a c bytes (whos ++ who ∷ [])
  to_one bytes whos a b c who result some one = to_then bytes whos (who ∷ []) a b c some (c, result, one, refl)

  -- bytes that spell a notice are notices
  pub tells_to : (manager : ℕ) (place : Place) (bytes : List ℕ)
      → bytes ≡ notice_spelling (record { manager = manager; floor = place }) → (whos : List NodeId) (a b : P)
      → SendsTo Sent a b bytes whos
      → TellsAll Sent a b (map (λ who. record { manager = manager; receiver = who; place = place }) whos)
  tells_to manager place bytes spelled [] a b none = none
  tells_to manager place bytes spelled (who ∷ whos) a b (next, result, sent, rest) = (
    next,
    result,
    subst (λ (xs : List ℕ). Sent a next who xs result) spelled sent,
    tells_to manager place bytes spelled whos next b rest,
  )

-- datagrams of what came of inputs depend on the sizes of a cluster alone
pub all_datagrams_as : (config : Config) (sizes : Sizes) → AreSizes config sizes → (who : NodeId) (outs : List Output)
    → flat_map (datagrams_from (config_by sizes []) who) outs ≡ flat_map (datagrams_from config who) outs
all_datagrams_as config sizes are who [] = refl
all_datagrams_as config sizes are who (out ∷ outs) =
    λ i. datagrams_as config sizes are who out.sends i ++ all_datagrams_as config sizes are who outs i
