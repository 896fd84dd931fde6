-- The line of a datagram by its bytes, and texts put one after another: for the writers of traces.
use Rattle.std.proofs.Common.{◌≡◌, ◌≢◌, ℕ, List, [], ◌++◌, refl, sym, ap, ◌∙◌, Option, Some, None, Result, Ok, Err, OnOk, OnErr, IfErr}
use Rattle.std.specs.Option.{option_map_or}
use Rattle.std.proofs.lemmas.List.{append-nil, append_assoc}
use Rattle.xid.specs.Text.{Extends}
use Rattle.xid.specs.declared.refusals.Refusal.{Refusal}
use Rattle.wire.specs.declared.message.Kind.{Kind}
use Rattle.wire.specs.Decoding.{message_at}
use Rattle.wire.specs.Grammar.{Spells, spelling, tx_spelling}
use Rattle.wire.specs.Messages.{IsMessage}
use Rattle.wire.specs.Spelled.{IsSpelled, tx_spelled}
use Rattle.wire.specs.Versions.{version_2}
use Rattle.wire.proofs.DecodingLemmas.{found, spelled}
use Rattle.wire.proofs.SpelledAgain.{is_spelled, spelled_is}
use Rattle.net_script.specs.Basics.{NodeId, Sent, TxParts, IsTx, NoMemory, tx_text}
use Rattle.net_script.specs.Traces.{datagram_line, sent_line}
use Rattle.net_script.specs.Writing.{Puts}

-- ---- datagrams by their bytes

abbrev sent_as : ℕ → NodeId → NodeId → Kind → Sent
sent_as number sender receiver message = record { number = number; sender = sender; receiver = receiver; message = message }

-- bytes that spell a message have its line
pub datagram_seen : (number : ℕ) (sender receiver : NodeId) (bytes : List ℕ) (message : Kind) → Spells message bytes
    → sent_line (sent_as number sender receiver message) ≡ datagram_line number sender receiver bytes
datagram_seen number sender receiver bytes message spells =
    sym (ap (λ (o : Option Kind). option_map_or (λ m. sent_line (sent_as number sender receiver m)) o [])
    (found message bytes spells))

-- and others have none
pub datagram_unseen : (number : ℕ) (sender receiver : NodeId) (bytes out : List ℕ) → ((k : Kind) → IsMessage k → bytes ≢ spelling k)
    → out ≡ out ++ datagram_line number sender receiver bytes
datagram_unseen number sender receiver bytes out none =
    sym (ap (λ (o : Option Kind). out ++ option_map_or (λ m. sent_line (sent_as number sender receiver m)) o [])
    (none_found (message_at bytes) refl) ∙ append-nil out)
  where
    none_found : (o : Option Kind) → message_at bytes ≡ o → message_at bytes ≡ None
    none_found None e = e
    none_found (Some k) e = let s = spelled k bytes e in absurd (none k s.message s.spelled)

-- a text that was put, by other words
pub puts_as : {X : Type 0} (r : Result X Refusal) (old new : List ℕ) {text other : List ℕ} → text ≡ other → Puts old new r text
    → OnOk r (new ≡ old ++ other)
puts_as (Ok x) old new same put = put ∙ ap (λ (t : List ℕ). old ++ t) same
puts_as (Err e) old new same put = tt

pub puts_also : {X : Type 0} (r : Result X Refusal) (old new : List ℕ) {text other : List ℕ} → text ≡ other
    → OnOk r (new ≡ old ++ text) → IfErr r (λ e. e ≡ NoMemory) → Puts old new r other
puts_also (Ok x) old new same put lacks = put ∙ ap (λ (t : List ℕ). old ++ t) same
puts_also (Err e) old new same put lacks = lacks

-- a text that is put after another
pub puts_after : {X : Type 0} (r : Result X Refusal) (old mid new front text : List ℕ) → mid ≡ old ++ front → Puts mid new r text
    → Puts old new r (front ++ text)
puts_after (Ok x) old mid new front text before put = put ∙ ap (λ (l : List ℕ). l ++ text) before ∙ append_assoc old front text
puts_after (Err e) old mid new front text before put = put

-- what stands behind a text, and more
pub onward : (old mid new front more : List ℕ) → mid ≡ old ++ front → new ≡ mid ++ more → new ≡ old ++ (front ++ more)
onward old mid new front more before then = then ∙ ap (λ (l : List ℕ). l ++ more) before ∙ append_assoc old front more

-- what stands behind a text keeps it
pub kept_so : {X : Type 0} (r : Result X Refusal) (old new front : List ℕ) → new ≡ old ++ front → OnErr r (Extends old new)
kept_so (Ok x) old new front is = tt
kept_so (Err e) old new front is = record { more = front; is = is }

-- and so does what begins with it
pub kept_behind : {X : Type 0} (r : Result X Refusal) (old mid new front : List ℕ) → mid ≡ old ++ front → Extends mid new
    → OnErr r (Extends old new)
kept_behind r old mid new front before kept = kept_so r old new (front ++ kept.more) (onward old mid new front kept.more before kept.is)

pub kept_on : {X : Type 0} (r : Result X Refusal) (old mid new front : List ℕ) → mid ≡ old ++ front → OnErr r (Extends mid new)
    → OnErr r (Extends old new)
kept_on (Ok x) old mid new front before kept = tt
kept_on (Err e) old mid new front before kept = record {
  more = front ++ kept.more;
  is = onward old mid new front kept.more before kept.is;
}

-- the text that is kept with a transaction's spelling
pub text_again : (spelled text : List ℕ) (tx : TxParts) → IsTx tx → (IsSpelled spelled → text ≡ tx_text (tx_spelled spelled))
    → spelled ≡ tx_spelling version_2 tx → text ≡ tx_text tx
text_again spelled text tx valid kept is = kept (is_spelled spelled tx valid is) ∙ ap tx_text (spelled_is spelled tx valid is)
