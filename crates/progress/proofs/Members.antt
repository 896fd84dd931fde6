-- Who takes part: the members of the quorum, each with each instance; and what a leader has in memory.
use Rattle.std.proofs.Common.{◌≡◌, ◌≢◌, inl, inr, ℕ, zero, suc, ◌+◌, ◌<◌, ◌≤◌, Bool, true, List, Option, Some, None}
use Rattle.std.proofs.Common.{map, filter, refl, subst, arith}
use Rattle.std.specs.List.{flat_map, range_with_len}
use Rattle.xid.specs.Transactions.{TxParts, participants}
use Rattle.ballot.specs.Greatest.{IsIn}
use Rattle.protocol.specs.Basics.{Fact}
use Rattle.safety.specs.Vocabulary.{A, L}
use Rattle.protocol.specs.Effects.{Config}
use Rattle.protocol.specs.Facts.{slot, last_ballot}
use Rattle.protocol.specs.LeaderMemory.{LeaderMemory, nothing_heard, status_of}
use Rattle.protocol.specs.Leaders.{is_final}
use Rattle.protocol.specs.Nodes.{NodeState, Memory}
use Rattle.protocol.specs.Worlds.{World, node_at}
use Rattle.protocol.proofs.Lists.{IsIn-join, IsIn-joined, IsIn-map, IsIn-mapped, filter_kept, filter_keeps}
use Rattle.progress.proofs.Steps.{IsQuiet, quiet_node}
use Rattle.progress.proofs.Accepting.{number_among}

number_below : (first n x : ℕ) → IsIn (range_with_len first n) x → x < first + n
number_below first zero x h = absurd h
number_below first (suc n) x (inl e) = omega (arith, e)
number_below first (suc n) x (inr h) = let rest = number_below (first + 1) n x h in omega arith

-- the acceptors of the quorum
abbrev pub members : Config → (ℕ → Bool) → List ℕ
members config q = filter q (range_with_len 0 config.acceptors)

pub member_in : (config : Config) (q : ℕ → Bool) (a : ℕ) → a < config.acceptors → q a ≡ true → IsIn (members config q) a
member_in config q a lt is =
    filter_keeps q (range_with_len 0 config.acceptors) a (number_among 0 config.acceptors a (omega arith) (omega arith)) is

pub member_of : (config : Config) (q : ℕ → Bool) (a : ℕ) → IsIn (members config q) a → (a < config.acceptors) × (q a ≡ true)
member_of config q a h =
    let kept = filter_kept q (range_with_len 0 config.acceptors) a h in
    let low = number_below 0 config.acceptors a kept.0 in
    (omega arith, kept.1)

-- each of them with each instance
abbrev pub pairs : Config → (ℕ → Bool) → TxParts → List (ℕ × ℕ)
pairs config q tx = flat_map (λ a. map (λ i. (a, i)) (participants tx)) (members config q)

pub record IsPair (config : Config) (q : ℕ → Bool) (tx : TxParts) (x : ℕ × ℕ) : Type 0 where
  pub below : x.0 < config.acceptors
  pub passes : q x.0 ≡ true
  pub named : IsIn (participants tx) x.1

pub pair_in : (config : Config) (q : ℕ → Bool) (tx : TxParts) (a i : ℕ) → a < config.acceptors → q a ≡ true
    → IsIn (participants tx) i → IsIn (pairs config q tx) (a, i)
pair_in config q tx a i lt is named =
    IsIn-join {Y = ℕ × ℕ} (λ (a : ℕ). map (λ i. (a, i)) (participants tx)) (members config q) a (a, i) (member_in config q a lt is)
    (IsIn-map {Y = ℕ × ℕ} (λ (i : ℕ). (a, i)) (participants tx) i named)

pub pair_of : (config : Config) (q : ℕ → Bool) (tx : TxParts) (x : ℕ × ℕ) → IsIn (pairs config q tx) x → IsPair config q tx x
pair_of config q tx x h =
    let at = IsIn-joined (λ (a : ℕ). map (λ i. (a, i)) (participants tx)) (members config q) x h in
    let from = IsIn-mapped (λ (i : ℕ). (at.source, i)) (participants tx) x at.inside in
    let is = member_of config q at.source at.among in
    subst (IsPair config q tx) from.maps (record { below = is.0; passes = is.1; named = from.among })

-- what a leader has in memory
abbrev pub leader_of : Option NodeState → LeaderMemory
leader_of None = nothing_heard
leader_of (Some node) = node.memory.leader

abbrev pub leader_in : Config → World → ℕ → LeaderMemory
leader_in config world l = leader_of (node_at config world (L l))

-- a leader that is up and has the outcome
pub record IsFinal (config : Config) (l : ℕ) (tx : TxParts) (world : World) : Type 0 where
  pub node : NodeState
  pub is : node_at config world (L l) ≡ Some node
  pub up : node.up ≡ true
  pub final : is_final (status_of config.acceptors (last_ballot node.facts) node.memory.leader tx) ≡ true

pub quiet_final : (config : Config) (l : ℕ) (tx : TxParts) (world : World) (facts : List Fact) (memory : Memory)
    → IsQuiet config world (L l) facts memory → is_final (status_of config.acceptors (last_ballot facts) memory.leader tx) ≡ true
    → IsFinal config l tx world
quiet_final config l tx world facts memory is final = record { node = quiet_node facts memory; is = is; up = refl; final = final }

-- a quiet acceptor that has promised no ballot above b
pub record IsBelow (config : Config) (tx : TxParts) (b : ℕ) (world : World) (a : ℕ) : Type 0 where
  pub facts : List Fact
  pub memory : Memory
  pub at : IsQuiet config world (A a) facts memory
  pub below : (i : ℕ) → IsIn (participants tx) i → (slot facts tx i).mbal ≤ b

pub acceptor_apart : (a c : ℕ) → a ≢ c → A a ≢ A c
acceptor_apart a c apart e = apart (cc (e))

pub not_leader : (a l : ℕ) → A a ≢ L l
not_leader a l e = absurd (cc (e))

pub not_acceptor : (l a : ℕ) → L l ≢ A a
not_acceptor l a e = absurd (cc (e))
