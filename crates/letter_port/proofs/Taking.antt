-- What a receive gives: what is left of a letter, and then the next one.
-- Needed by `Arrived::take` and `LetterPort::recv`.
use Rattle.std.proofs.Common.{◌≡◌, ◌∙◌, ℕ, ◌+◌, ◌-◌, ◌≤◌, min, List, [], ◌∷◌, ◌++◌, length, take, drop, Option, Some, None, Result, Ok, Err}
use Rattle.std.proofs.Common.{IfNone, IfSome, inr, refl, sym, ap, subst, arith, length-append}
use Rattle.std.specs.List.{flat_map}
use Rattle.std.proofs.lemmas.List.{drop-drop, drop-take, drop_at, length-drop, length-take}
use Rattle.xid.specs.declared.refusals.Refusal.{Refusal}
use Rattle.xid.specs.declared.refusals.Refusal.TheVariants.{PortFault}
use Rattle.stable_record.specs.Held.{most_faults}
use Rattle.letters.specs.Letters.{HasFirstMessage, IsLetterOf, enclosed}
use Rattle.letters.proofs.Firsts.{firsts_are_one}
use Rattle.port.specs.Calls.{Receiving}
use Rattle.port.specs.Ports.{taken_from}
use Rattle.letter_port.specs.LetterPorts.{LetterParts, LetterReceived, OpensLetter, TakesNext}

-- what is left behind a front of a part of a text
pub behind_front : (bytes front more : List ℕ) (at end : ℕ) → at ≤ end → end ≤ length bytes
    → take (end - at) (drop at bytes) ≡ front ++ more
    → take (end - (end - length more)) (drop (end - length more) bytes) ≡ more
behind_front bytes front more at end first last is =
    let k : ℕ = length front in
    let n : ℕ = length more in
    let cut : length (take (end - at) (drop at bytes)) ≡ min (end - at) (length (drop at bytes)) = length-take (end - at) (drop at bytes) in
    let behind : length (drop at bytes) ≡ length bytes - at = length-drop at bytes in
    let whole : length (take (end - at) (drop at bytes)) ≡ length (front ++ more) = ap length is in
    let parts : length (front ++ more) ≡ k + n = length-append front more in
    let span : end - at ≡ k + n = omega (arith, cut, behind, whole, parts, first, last) in
    let start : end - n ≡ at + k = omega (arith, span, first) in
    let rest : end - (end - n) ≡ n = omega (arith, span, first) in
    ap (λ (x : ℕ). take x (drop (end - n) bytes)) rest
    ∙ ap (λ (x : ℕ). take n (drop x bytes)) start
    ∙ ap (take n) (sym (drop-drop k at bytes))
    ∙ sym (drop-take k n (drop at bytes))
    ∙ ap (λ (x : ℕ). drop k (take x (drop at bytes))) (sym span)
    ∙ ap (drop k) is
    ∙ drop_at front more k refl

-- the next one was asked for
pub from_next : {P : Type 0} (Received : Receiving P) (inside old new : LetterParts P) (taken : Result (Option (List ℕ)) Refusal)
    → inside ≡ old → new.sizes ≡ inside.sizes → TakesNext Received inside new taken → LetterReceived Received old new taken
from_next Received inside old new taken same sizes next =
    subst (λ (o : LetterParts _). LetterReceived Received o new taken) same (record { sizes = sizes; takes = inr next })

-- nothing of what is no letter is taken
pub all_dropped : {P : Type 0} (Received : Receiving P) (inside old middle new : LetterParts P) (bytes : List ℕ) (refusal : Refusal)
    → inside ≡ old → middle.sizes ≡ inside.sizes → middle.left ≡ [] → middle.dropped ≡ inside.dropped
    → ((message more : List ℕ) → HasFirstMessage message more inside.left → ⊥) → Received inside.port middle.port (Ok (Some bytes))
    → ((messages : List (List ℕ)) → IsLetterOf messages bytes → ⊥) → refusal ≡ PortFault
    → new ≡ record middle { dropped = min (middle.dropped + 1) most_faults } → LetterReceived Received old new (Err refusal)
all_dropped Received inside old middle new bytes refusal same sizes left dropped none received other fault is =
    subst (λ (n : LetterParts _). LetterReceived Received old n (Err refusal)) (sym is)
    (from_next Received inside old (record middle { dropped = min (middle.dropped + 1) most_faults }) (Err refusal) same sizes (record {
      none = none;
      came = Ok (Some bytes);
      received = received;
      opens = inr (record {
        none = other;
        is = ap Err fault;
        left = left;
        dropped = ap (λ (n : ℕ). min (n + 1) most_faults) dropped;
      });
    }))

-- a letter begins with the first of its messages
letter_begins : (messages : List (List ℕ)) (bytes : List ℕ) → IsLetterOf messages bytes
    → (message : List ℕ) × (others : List (List ℕ)) × (messages ≡ message ∷ others)
    × HasFirstMessage message (flat_map enclosed others) (drop 1 bytes)
letter_begins [] bytes letter = absurd (letter.some refl)
letter_begins (message ∷ others) bytes letter =
    (message, others, refl, record { short = letter.each.0.short; is = ap (drop 1) letter.is })

-- of one that is whole the first message is given
pub opened : {P : Type 0} (old new : LetterParts P) (messages : List (List ℕ)) (bytes left buffer : List ℕ) (result : Option ℕ)
    → IsLetterOf messages bytes → left ≡ drop 1 bytes → new.dropped ≡ old.dropped
    → IfNone result ((message more : List ℕ) → HasFirstMessage message more left → ⊥)
    → IfSome result (λ len. HasFirstMessage (take len buffer) new.left left)
    → OpensLetter bytes old new (taken_from buffer (Ok result))
opened old new messages bytes left buffer None letter is dropped none some =
    let begins = letter_begins messages bytes letter in
    absurd (none begins.0 (flat_map enclosed begins.1)
    (subst (λ (xs : List ℕ). HasFirstMessage begins.0 (flat_map enclosed begins.1) xs) (sym is) begins.3))
opened old new messages bytes left buffer (Some len) letter is dropped none some =
    let begins = letter_begins messages bytes letter in
    let same = firsts_are_one (take len buffer) new.left begins.0 (flat_map enclosed begins.1) left some
    (subst (λ (xs : List ℕ). HasFirstMessage begins.0 (flat_map enclosed begins.1) xs) (sym is) begins.3) in record {
      message = begins.0;
      others = begins.1;
      letter = subst (λ (ms : List (List ℕ)). IsLetterOf ms bytes) begins.2 letter;
      is = ap (λ (xs : List ℕ). Ok (Some xs)) same.0;
      left = same.1;
      dropped = dropped;
    }
