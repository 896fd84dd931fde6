-- Who was sent what: marks change nothing of it, and each of it can be delivered.
use Rattle.std.proofs.Common.{◌≡◌, inl, inr, false, ℕ, zero, suc, List, [], ◌∷◌, ◌++◌, Some, ◌∙◌, refl, ap}
use Rattle.std.specs.List.{flat_map}
use Rattle.std.proofs.lemmas.List.{map-append}
use Rattle.wire.specs.Messages.{message_tx}
use Rattle.safety.specs.Vocabulary.{Outgoing, NodeId}
use Rattle.protocol.specs.Effects.{Config, receivers}
use Rattle.protocol.specs.Worlds.{datagrams_of, Datagram, datagram_at, mark_at}
use Rattle.protocol.proofs.Lists.{IsIn-join, IsIn-map}
use Rattle.std.specs.Prelude.{map, slice_get}
use Rattle.ballot.specs.Greatest.{IsIn}
use Rattle.wire.specs.declared.message.Kind.{Kind}

-- a message, and the node that it was sent to
pub record Letter : Type 0 where
  pub receiver : NodeId
  pub message : Kind

abbrev pub letter_of : Datagram → Letter
letter_of d = record { receiver = d.receiver; message = d.message }

abbrev pub mail : List Datagram → List Letter
mail net = map letter_of net

pub marked_mail : (net : List Datagram) (n : ℕ) → mail (mark_at net n) ≡ mail net
marked_mail [] n = refl
marked_mail (d ∷ net) zero = refl
marked_mail (d ∷ net) (suc zero) = refl
marked_mail (d ∷ net) (suc (suc n)) = ap (λ (rest : List Letter). letter_of d ∷ rest) (marked_mail net (suc n))

-- a letter's datagram and its number
pub record IsDeliverable (net : List Datagram) (letter : Letter) : Type 0 where
  pub number : ℕ
  pub datagram : Datagram
  pub there : datagram_at net number ≡ Some datagram
  pub is : letter_of datagram ≡ letter

placed : (net : List Datagram) (letter : Letter) → IsIn (mail net) letter
    → (n : ℕ) × (d : Datagram) × (slice_get net n ≡ Some d) × (letter_of d ≡ letter)
placed [] letter h = absurd h
placed (d ∷ net) letter (inl e) = (0, d, refl, e)
placed (d ∷ net) letter (inr h) = let rest = placed net letter h in (suc rest.0, rest.1, rest.2, rest.3)

pub deliverable : (net : List Datagram) (letter : Letter) → IsIn (mail net) letter → IsDeliverable net letter
deliverable net letter h =
    let at = placed net letter h in record { number = suc at.0; datagram = at.1; there = at.2; is = at.3 }

got_in : (net : List Datagram) (n : ℕ) (d : Datagram) → slice_get net n ≡ Some d → IsIn (mail net) (letter_of d)
got_in [] n d e = absurd (cc (e))
got_in (first ∷ net) zero d e = let same : first ≡ d = cc (e) in inl (ap letter_of same)
got_in (first ∷ net) (suc n) d e = inr (got_in net n d e)

-- a datagram that can be delivered is in the mail
pub datagram_in : (net : List Datagram) (n : ℕ) (d : Datagram) → datagram_at net n ≡ Some d → IsIn (mail net) (letter_of d)
datagram_in net zero d e = absurd (cc (e))
datagram_in net (suc n) d e = got_in net n d e

-- the letters of one send, and of several
abbrev pub letters_of : Config → Outgoing → List Letter
letters_of config send =
    map (λ receiver. record { receiver = receiver; message = send.message }) (receivers config send.to (message_tx send.message))

abbrev pub letters : Config → List Outgoing → List Letter
letters config sends = flat_map (letters_of config) sends

same_letters : (who : NodeId) (message : Kind) (nodes : List NodeId)
    → mail (map (λ receiver. record { sender = who; receiver = receiver; message = message; marked = false }) nodes)
    ≡ map (λ receiver. record { receiver = receiver; message = message }) nodes
same_letters who message [] = refl
same_letters who message (node ∷ nodes) =
    ap (λ (rest : List Letter). record { receiver = node; message = message } ∷ rest) (same_letters who message nodes)

sent_letters : (config : Config) (who : NodeId) (sends : List Outgoing)
    → mail (flat_map (datagrams_of config who) sends) ≡ letters config sends
sent_letters config who [] = refl
sent_letters config who (send ∷ sends) =
    map-append letter_of (datagrams_of config who send) (flat_map (datagrams_of config who) sends)
    ∙ ap (λ (rest : List Letter). mail (datagrams_of config who send) ++ rest) (sent_letters config who sends)
    ∙ ap (λ (first : List Letter). first ++ letters config sends)
    (same_letters who send.message (receivers config send.to (message_tx send.message)))

-- what is sent joins the mail
pub posted_mail : (config : Config) (who : NodeId) (net : List Datagram) (sends : List Outgoing)
    → mail (net ++ flat_map (datagrams_of config who) sends) ≡ mail net ++ letters config sends
posted_mail config who net sends =
    map-append letter_of net (flat_map (datagrams_of config who) sends)
    ∙ ap (λ (rest : List Letter). mail net ++ rest) (sent_letters config who sends)

-- a letter of what is sent
pub letter_among : (config : Config) (sends : List Outgoing) (send : Outgoing) (receiver : NodeId) → IsIn sends send
    → IsIn (receivers config send.to (message_tx send.message)) receiver
    → IsIn (letters config sends) (record { receiver = receiver; message = send.message })
letter_among config sends send receiver h k =
    IsIn-join (letters_of config) sends send (record { receiver = receiver; message = send.message }) h
    (IsIn-map (λ (node : NodeId). record { receiver = node; message = send.message })
    (receivers config send.to (message_tx send.message)) receiver k)
