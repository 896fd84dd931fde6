-- The node of a place, and what becomes of it.
use Rattle.std.proofs.Common.{◌≡◌, ◌≢◌, ℕ, ◌<◌, Bool, true, false, List, length, get_or, set, refl, sym, ap, subst, Option, Some, None}
use Rattle.std.proofs.Common.{Result, [], arith}
use Rattle.std.specs.Prelude.{is_some, MatchBool}
use Rattle.xid.specs.declared.refusals.Refusal.{Refusal}
use Rattle.xid.specs.declared.refusals.Refusal.TheVariants.{Forged}
use Rattle.wire.specs.Decoding.{message_at, spells_message}
use Rattle.wire.specs.Grammar.{Spells, spelling}
use Rattle.wire.specs.Messages.{IsMessage}
use Rattle.wire.specs.declared.message.Kind.{Kind}
use Rattle.wire.proofs.DecodingLemmas.{found as message_found, spelled as message_spelled}
use Rattle.protocol.specs.declared.answers.Answer.TheVariants.{Refused}
use Rattle.protocol.specs.declared.nodes.NodeId.{NodeId}
use Rattle.node_core.specs.declared.config.Sizes.{Sizes}
use Rattle.node_core.specs.Configs.{config_by}
use Rattle.node_core.specs.Places.{node_count}
use Rattle.node_core.proofs.Placed.{place_within}
use Rattle.port.specs.Members.{MemberParts}
use Rattle.node_core.specs.Opening.{restart_answer}
use Rattle.port.specs.Calls.{Sending}
use Rattle.port.specs.declared.calling.Served.{Served}
use Rattle.udp_run.specs.Sites.{place_in, site_of, Making, ReachesAt, Handling, HandlesIn, SendsNoise, IsSentBy, answer_served, is_forged}

-- a place that a cluster has is one of so many
pub place_fits : {X : Type 0} (sizes : Sizes) (xs : List X) (who : NodeId) (at : ℕ) → length xs ≡ node_count sizes
    → Some at ≡ place_in sizes who → at < length xs
place_fits sizes xs who at count is =
    let lt : at < node_count sizes = place_within (config_by sizes []) who at (sym is) in omega (arith, lt, count)

-- ---- what became of it

-- the node of a place and its port became others
pub reaches : {P : Type 0} (Makes : Served → Making P) (sizes : Sizes) (nodes : List MemberParts) (ports : List P) (noise : P)
    (who : NodeId) (at : ℕ) → Some at ≡ place_in sizes who → length nodes ≡ node_count sizes → (was node : MemberParts) (before port : P)
    (served : Served) → was ≡ get_or nodes at was → before ≡ get_or ports at before → Makes served was node before port
    → ReachesAt Makes (place_in sizes who) (site_of sizes nodes ports noise) (site_of sizes (set nodes at node) (set ports at port) noise)
    served
reaches Makes sizes nodes ports noise who at is count was node before port served read read_port makes =
    subst (λ (o : Option ℕ). ReachesAt Makes o (site_of sizes nodes ports noise)
    (site_of sizes (set nodes at node) (set ports at port) noise)
    served) is
    (record {
      was = was;
      node = node;
      before = before;
      port = port;
      within = place_fits sizes nodes who at count is;
      was_is = read;
      before_is = read_port;
      makes = makes;
      site_is = refl;
    })

-- the node of a place was handled
pub handled : (Handles : Handling) (sizes : Sizes) (nodes : List MemberParts) (who : NodeId) (at : ℕ) → Some at ≡ place_in sizes who
    → length nodes ≡ node_count sizes → (was node : MemberParts) (result : Result (Unit {0}) Refusal) (served : Served)
    → was ≡ get_or nodes at was → Handles was node result → served ≡ answer_served (restart_answer result)
    → HandlesIn Handles (place_in sizes who) nodes (set nodes at node) served
handled Handles sizes nodes who at is count was node result served read handles answered =
    subst (λ (o : Option ℕ). HandlesIn Handles o nodes (set nodes at node) served) is
    (record {
      was = was;
      node = node;
      result = result;
      within = place_fits sizes nodes who at count is;
      was_is = read;
      handles = handles;
      served_is = answered;
      nodes_are = refl;
    })

-- ---- noise

none_by : (bytes : List ℕ) (read : Option Kind) → message_at bytes ≡ read → ((k : Kind) → Spells k bytes → ⊥) → message_at bytes ≡ None
none_by bytes None e none = e
none_by bytes (Some k) e none = absurd (none k (message_spelled k bytes e))

-- bytes that spell a message do so
pub is_spelled : (bytes : List ℕ) (k : Kind) → Spells k bytes → true ≡ spells_message bytes
is_spelled bytes k spells = sym (ap is_some (message_found k bytes spells))

-- others don't
pub is_unspelled : (bytes : List ℕ) → ((k : Kind) → IsMessage k → bytes ≢ spelling k) → false ≡ spells_message bytes
is_unspelled bytes none = sym (ap is_some (none_by bytes (message_at bytes) refl (λ k s. none k s.message s.spelled)))

module _ {P : Type 0} (Sent : Sending P) (sizes : Sizes) (who : NodeId) (at : ℕ) (is : Some at ≡ place_in sizes who) (bytes : List ℕ)
    (before after : P) (served : Served) where
  -- bytes that are forged are refused
  pub noise_forged : is_forged bytes ≡ true → after ≡ before → served ≡ answer_served (Refused Forged)
      → SendsNoise Sent (place_in sizes who) who bytes before after served
  noise_forged spelled same answered =
      subst (λ (o : Option ℕ). SendsNoise Sent o who bytes before after served) is
      (subst (λ (b : Bool). MatchBool b ((after ≡ before) × (served ≡ answer_served (Refused Forged)))
      (IsSentBy Sent who bytes before after served)) (sym spelled) (same, answered))

  -- others are sent
  pub noise_sent : is_forged bytes ≡ false → (result : Result (Unit {0}) Refusal) → Sent before after who bytes result
      → served ≡ answer_served (restart_answer result) → SendsNoise Sent (place_in sizes who) who bytes before after served
  noise_sent spelled result sent answered =
      subst (λ (o : Option ℕ). SendsNoise Sent o who bytes before after served) is
      (subst (λ (b : Bool). MatchBool b ((after ≡ before) × (served ≡ answer_served (Refused Forged)))
      (IsSentBy Sent who bytes before after served)) (sym spelled)
      (record { result = result; sent = sent; served_is = answered }))
