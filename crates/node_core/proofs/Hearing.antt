-- What the bytes of a datagram come to.
-- Needed by `hear`, `lead` and `receive`; Sparing; crate cluster.
use Rattle.std.proofs.Common.{◌≡◌, ◌≢◌, ◌∙◌, ℕ, Bool, true, false, List, Option, Some, None, refl, sym, ap, subst}
use Rattle.std.specs.Prelude.{if◌then◌else◌, Result}
use Rattle.std.specs.Option.{option_map_or}
use Rattle.xid.specs.declared.refusals.Refusal.{Refusal}
use Rattle.wire.specs.Decoding.{message_at}
use Rattle.wire.specs.Grammar.{Spells, spelling}
use Rattle.wire.specs.Messages.{IsMessage}
use Rattle.wire.specs.declared.message.Kind.{Kind}
use Rattle.wire.proofs.DecodingLemmas.{found, spelled}
use Rattle.stable_record.specs.declared.fact.FactKind.{FactKind as Fact}
use Rattle.stable_record.specs.Held.{Held}
use Rattle.protocol.specs.declared.answers.Answer.{Answer}
use Rattle.protocol.specs.declared.answers.Answer.TheVariants.{Refused}
use Rattle.protocol.specs.declared.decisions.Decision.{Decision}
use Rattle.protocol.specs.declared.nodes.NodeId.{NodeId}
use Rattle.protocol.specs.Effects.{Config, Effect, answer_only, no_effect}
use Rattle.protocol.specs.Nodes.{Memory, Input, Received, ReceivedNoise, accepts_input, down_answer, effect_of, is_message_inside}
use Rattle.protocol.specs.Nodes.{on_message}
use Rattle.node_core.specs.declared.output.Output.{Output}
use Rattle.node_core.specs.declared.role.Role.{Role}
use Rattle.node_core.specs.Roles.{RoleStands, IsDecided, IsLeft, decided}
use Rattle.node_core.specs.Storing.{IsDone, IsKept, Carries, output_of}
use Rattle.node_core.specs.Nodes.{datagram_input}

abbrev handed : Option Kind → Input
handed read = option_map_or Received read ReceivedNoise

noise_by : (bytes : List ℕ) (read : Option Kind) → message_at bytes ≡ read → ((k : Kind) → IsMessage k → bytes ≢ spelling k)
    → handed read ≡ ReceivedNoise
noise_by bytes None is none = refl
noise_by bytes (Some k) is none = let s = spelled k bytes is in absurd (none k s.message s.spelled)

is_noise : (bytes : List ℕ) → ((k : Kind) → IsMessage k → bytes ≢ spelling k) → datagram_input bytes ≡ ReceivedNoise
is_noise bytes none = noise_by bytes (message_at bytes) refl none

-- bytes that spell a message are the input that this message is received
pub is_received : (bytes : List ℕ) (k : Kind) → Spells k bytes → datagram_input bytes ≡ Received k
is_received bytes k spells = ap handed (found k bytes spells)

-- each node accepts what was read of a datagram as an input
pub accepted_by : (who : NodeId) (read : Option Kind) → accepts_input who (handed read) ≡ true
accepted_by who None = refl
accepted_by who (Some k) = refl

-- a node that is down answers what was read of a datagram as it does any datagram
pub down_by : (read : Option Kind) → down_answer (handed read) ≡ Refused Refusal.Down
down_by None = refl
down_by (Some k) = refl

module _ (config : Config) (who : NodeId) (facts : List Fact) (memory : Memory) where
  abbrev heard : List ℕ → Effect Memory
  heard bytes = effect_of config who facts memory (datagram_input bytes)

  -- what bytes come to is what their message comes to, and nothing where it is from outside
  pub heard_is : (bytes : List ℕ) (k : Kind) (inside : Bool) → Spells k bytes → inside ≡ is_message_inside config k
      → heard bytes ≡ (if inside then on_message config who facts memory k else no_effect memory)
  heard_is bytes k inside spells is =
      ap (effect_of config who facts memory) (is_received bytes k spells)
      ∙ ap (λ (b : Bool). if b then on_message config who facts memory k else no_effect memory) (sym is)

module _ (config : Config) (who : NodeId) (facts : List Fact) (memory : Memory) (held : Held) (role : Role) where
  answered : (e : Effect Memory) (answer : Answer) (out : Output) → e ≡ answer_only memory answer → out ≡ output_of answer None
      → RoleStands config who role facts memory → IsDone config who facts e held held role out
  answered e answer out e_is is s = subst (λ x. IsDone config who facts x held held role out) (sym e_is) (record {
    reply_is = ap (λ (o : Output). o.reply) is;
    sends_are = ap (λ (o : Output). o.sends) is;
    kept = record { same = refl; now_is = ap (λ (o : Output). o.now) is; stands = s };
  })

  -- bytes that spell no message are refused, and nothing changes
  pub noise_done : (bytes : List ℕ) (out : Output) → ((k : Kind) → IsMessage k → bytes ≢ spelling k)
      → out ≡ output_of (Refused Refusal.BadMessage) None → RoleStands config who role facts memory
      → IsDone config who facts (heard config who facts memory bytes) held held role out
  noise_done bytes out none is s =
      answered (heard config who facts memory bytes) (Refused Refusal.BadMessage) out
      (ap (effect_of config who facts memory) (is_noise bytes none)) is s

  -- a message from outside of the cluster is dropped
  pub outside_done : (bytes : List ℕ) (k : Kind) (out : Output) → Spells k bytes → false ≡ is_message_inside config k
      → out ≡ output_of Answer.Done None → RoleStands config who role facts memory
      → IsDone config who facts (heard config who facts memory bytes) held held role out
  outside_done bytes k out spells is out_is s =
      answered (heard config who facts memory bytes) Answer.Done out (heard_is config who facts memory bytes k false spells is) out_is s

  -- what a message inside comes to is what its bytes come to
  pub inside_carries : (bytes : List ℕ) (k : Kind) (new : Held) (now : Role) (done : Result Output Output) → Spells k bytes
      → true ≡ is_message_inside config k
      → Carries config who facts memory (on_message config who facts memory k) held new now done
      → Carries config who facts memory (heard config who facts memory bytes) held new now done
  inside_carries bytes k new now done spells is h =
      subst (λ e. Carries config who facts memory e held new now done) (sym (heard_is config who facts memory bytes k true spells is)) h

  -- what was decided is done where there is nothing to store, with the record as it is
  pub nothing_stored : (e : Effect Memory) (fact : Option Fact) (out new : Output) → e.fact ≡ None
      → IsDecided config who facts memory role (decided fact out) e
      → new ≡ record { reply = out.reply; now = None; sends = out.sends } → IsDone config who facts e held held role new
  nothing_stored e fact out new none is new_is = record {
    reply_is = ap (λ (o : Output). o.reply) new_is ∙ ap (λ (d : Decision). d.answer) is.effect_is;
    sends_are = ap (λ (o : Output). o.sends) new_is ∙ ap (λ (d : Decision). d.sends) is.effect_is;
    kept = subst (λ o. IsKept config who facts e held held role new.now o) (sym none) (record {
      same = refl;
      now_is = ap (λ (o : Output). o.now) new_is;
      stands = subst (IsLeft config who facts memory role e) (ap (λ (d : Decision). d.fact) is.effect_is ∙ none) is.leaves;
    });
  }
