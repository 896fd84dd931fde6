-- The lines of an event, one datagram and one notice after another: for `write_lines` and `write_notices`.
use Rattle.std.proofs.Common.{◌≡◌, ◌∙◌, ℕ, suc, ◌+◌, ◌<◌, ◌≤◌, List, [], ◌∷◌, ◌++◌, length, get_or, Option, Some, None}
use Rattle.std.proofs.Common.{refl, sym, ap, append_assoc}
use Rattle.std.specs.List.{flat_map}
use Rattle.std.specs.Option.{option_map_or}
use Rattle.std.proofs.lemmas.Grind.{flat_map-append}
use Rattle.std.proofs.lemmas.List.{append-nil}
use Rattle.wire.specs.declared.message.Kind.{Kind}
use Rattle.wire.specs.Decoding.{message_at}
use Rattle.protocol.specs.declared.events.Change.{Change}
use Rattle.protocol.specs.declared.events.Sent.{Sent}
use Rattle.protocol.specs.declared.events.Told.{Told}
use Rattle.safety.specs.Vocabulary.{Answer, Step}
use Rattle.network.specs.Networks.{DatagramParts, NetworkParts}
use Rattle.cluster.specs.Clusters.{listed_at}
use Rattle.cluster.proofs.Sent.{sent_up_to, up_to_more}
use Rattle.net_script.specs.Events.{event_words}
use Rattle.net_script.specs.Traces.{answered_line, change_text, datagram_line, notice_line, outcome_text, sent_line, step_text}

-- the line of a datagram is that of the one that is listed
datagram_listed : (n : ℕ) (kept : DatagramParts) → datagram_line n kept.sender kept.receiver kept.bytes ≡ flat_map sent_line
    (listed_at n kept)
datagram_listed n kept = by_message (message_at kept.bytes)
  where
    by_message : (o : Option Kind)
        → option_map_or (λ m. sent_line (record { number = n; sender = kept.sender; receiver = kept.receiver; message = m })) o []
        ≡ flat_map sent_line
        (option_map_or (λ m. record { number = n; sender = kept.sender; receiver = kept.receiver; message = m } ∷ []) o [])
    by_message None = refl
    by_message (Some m) = sym (append-nil _)

module _ (happened : List (List ℕ)) (answer : Answer) (now : Option Change) where
  -- the lines of more datagrams follow
  outcome_more : (sent more : List Sent)
      → outcome_text happened answer now sent ++ flat_map sent_line more ≡ outcome_text happened answer now (sent ++ more)
  outcome_more sent more =
      let front : List ℕ = answered_line happened answer ++ change_text now in
      append_assoc front (flat_map sent_line sent) (flat_map sent_line more)
      ∙ ap (λ (l : List ℕ). front ++ l) (sym (flat_map-append sent_line sent more))

  -- one more
  pub next_line : (network : NetworkParts) (count upto number : ℕ) → count ≤ upto → upto < length network.datagrams → number ≡ suc upto
      → (kept : DatagramParts) → kept ≡ get_or network.datagrams upto kept
      → outcome_text happened answer now (sent_up_to count upto network) ++ datagram_line number kept.sender kept.receiver kept.bytes
      ≡ outcome_text happened answer now (sent_up_to count (upto + 1) network)
  next_line network count upto number le lt same kept is =
      let text : List ℕ = outcome_text happened answer now (sent_up_to count upto network) in
      ap (λ (n : ℕ). text ++ datagram_line n kept.sender kept.receiver kept.bytes) same
      ∙ ap (λ (l : List ℕ). text ++ l) (datagram_listed (suc upto) kept)
      ∙ outcome_more (sent_up_to count upto network) (listed_at (suc upto) kept)
      ∙ ap (outcome_text happened answer now) (sym (up_to_more network count upto le lt kept is))

-- the line of one notice more follows
pub notices_more : (piece : List ℕ) (told : List Told) (last : Told)
    → (piece ++ flat_map notice_line told) ++ notice_line last ≡ piece ++ flat_map notice_line (told ++ last ∷ [])
notices_more piece told last =
    append_assoc piece (flat_map notice_line told) (notice_line last)
    ∙ ap (λ (l : List ℕ). piece ++ (flat_map notice_line told ++ l)) (sym (append-nil (notice_line last)))
    ∙ ap (λ (l : List ℕ). piece ++ l) (sym (flat_map-append notice_line told (last ∷ [])))

-- the lines of an event: those of its answer and of what it sent, and then those of what it told
pub step_joined : (old middle new : List ℕ) (step : Step) (outcome notices : List ℕ) → middle ≡ old ++ outcome → new ≡ middle ++ notices
    → outcome ≡ outcome_text (event_words step.event) step.answer step.now step.sent → notices ≡ flat_map notice_line step.told
    → new ≡ old ++ step_text step
step_joined old middle new step outcome notices first then outcome_is notices_are =
    then ∙ ap (λ (l : List ℕ). l ++ notices) first ∙ append_assoc old outcome notices
    ∙ ap (λ (l : List ℕ). old ++ (l ++ notices)) outcome_is
    ∙ ap (λ (l : List ℕ). old ++ (outcome_text (event_words step.event) step.answer step.now step.sent ++ l)) notices_are
