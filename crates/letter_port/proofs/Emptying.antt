-- What all letters are once they went, and what a node's port is then.
-- Needed by `LetterPort::call_all` and `LetterPort::raise`; Raised.
use Rattle.std.proofs.Common.{◌≡◌, ◌≢◌, ◌∙◌, ℕ, zero, suc, ◌<◌, ◌≤◌, ◌==◌, Bool, true, false, List, [], length, map, replicate, set, refl}
use Rattle.std.proofs.Common.{sym, ap, subst, arith, eqb-true}
use Rattle.std.proofs.lemmas.Bool.{eq-eqb}
use Rattle.std.proofs.lemmas.List.{ext_get_or, get_or-replicate, get_or-set_other, get_or-set_same, length-replicate, length-set}
use Rattle.protocol.specs.Worlds.{Datagram}
use Rattle.floors.specs.Worlds.{Notice}
use Rattle.node_core.specs.Places.{node_count}
use Rattle.letters.specs.Letters.{letter_spelling}
use Rattle.port.specs.Calls.{Sending, SendsAll, TellsAll}
use Rattle.letter_port.specs.declared.outbox.Outbox.{Outbox}
use Rattle.letter_port.specs.LetterPorts.{LetterParts, SendsOut}
use Rattle.letter_port.specs.Mails.{Mail, mail_of, mail_of_notice}
use Rattle.letter_port.specs.Outboxes.{AllGo, OutboxSent, letter_in}
use Rattle.letter_port.proofs.Transfers.{Carried, Holds, IsSentOut, letters_none, sends_all, sent_out, tells_all}

-- letters of which so many have nothing in them
pub record IsReset {P : Type 0} (count : ℕ) (old new : Outbox P) : Type 0 where
  pub sizes : new.sizes ≡ old.sizes
  pub long : length new.letters.items ≡ length old.letters.items
  pub each : (at : ℕ) → at < count → letter_in new.letters.items at ≡ letter_spelling []

each_or : (letters : List (List ℕ)) (count : ℕ) → count < length letters
    → ((at : ℕ) → at < count → letter_in letters at ≡ letter_spelling []) → (at : ℕ) → at < suc count → (test : Bool) → (at == count) ≡ test
    → letter_in (set letters count (letter_spelling [])) at ≡ letter_spelling []
each_or letters count long each at lt true is =
    ap (letter_in (set letters count (letter_spelling []))) (eqb-true at count is)
    ∙ get_or-set_same letters count (letter_spelling []) (letter_spelling []) long
each_or letters count long each at lt false is =
    let differs : at ≢ count = λ same. let never : false ≡ true = sym is ∙ eq-eqb at count same in absurd (cc) in
    get_or-set_other letters count at (letter_spelling []) (letter_spelling []) differs ∙ each at (omega (arith, lt, differs))

pub reset : {P : Type 0} (Sent : Sending P) (count : ℕ) (old new : Outbox P) → count ≤ length old.letters.items → AllGo Sent count old new
    → IsReset count old new
reset Sent zero old new le same =
    subst (λ (o : Outbox _). IsReset zero old o) (sym same)
    (record { sizes = refl; long = refl; each = λ at lt. absurd (omega (arith, lt)) })
reset Sent (suc count) old new le (middle, before, last) =
    let first = reset Sent count old middle (omega (arith, le)) before in record {
      sizes = last.sizes ∙ first.sizes;
      long = ap length last.letters ∙ length-set middle.letters.items count (letter_spelling []) ∙ first.long;
      each = λ at lt.
          ap (λ (letters : List (List ℕ)). letter_in letters at) last.letters
          ∙ each_or middle.letters.items count (omega (arith, le, first.long)) first.each at lt (at == count) refl;
    }

-- all are ready for the next group
pub ready : {P : Type 0} (Sent : Sending P) (old new : Outbox P) → length old.letters.items ≡ node_count old.sizes
    → AllGo Sent (length old.letters.items) old new → new.letters.items ≡ replicate (node_count new.sizes) (letter_spelling [])
ready Sent old new complete go =
    let is = reset Sent (length old.letters.items) old new (omega arith) go in
    let count : node_count new.sizes ≡ node_count old.sizes = ap node_count is.sizes in
    ext_get_or (letter_spelling []) new.letters.items (replicate (node_count new.sizes) (letter_spelling []))
    (is.long ∙ complete ∙ sym count ∙ sym (length-replicate (node_count new.sizes) (letter_spelling [])))
    (λ at lt.
    let below : at < length old.letters.items = omega (arith, lt, is.long) in
    let within : at < node_count new.sizes = omega (arith, below, complete, count) in
    is.each at below ∙ sym (get_or-replicate (node_count new.sizes) at (letter_spelling []) (letter_spelling []) within))

-- what stands in them at first
holds_none : {P : Type 0} (Sent : Sending P) (outbox : Outbox P)
    → outbox.letters.items ≡ replicate (node_count outbox.sizes) (letter_spelling [])
    → Holds outbox.sizes outbox.letters.items (λ who. [])
holds_none Sent outbox is =
    subst (λ (letters : List (List ℕ)). Holds outbox.sizes letters (λ who. [])) (sym is) (letters_none Sent outbox.sizes)

all_out : {P : Type 0} (Sent : Sending P) (old middle new : Outbox P) (mails : List Mail)
    → Carried Sent old.sizes (λ who. []) old middle mails
    → AllGo Sent (length middle.letters.items) middle new → IsSentOut Sent old.sizes old new mails
all_out Sent old middle new mails carried go =
    sent_out Sent old.sizes old middle new mails carried (subst (λ (n : ℕ). AllGo Sent n middle new) carried.holds.long go)

-- a group's datagrams
pub group_out : {P : Type 0} (Sent : Sending P) (datagrams : List Datagram) (old middle new : Outbox P)
    → old.letters.items ≡ replicate (node_count old.sizes) (letter_spelling []) → SendsAll (OutboxSent Sent) old middle datagrams
    → AllGo Sent (length middle.letters.items) middle new → IsSentOut Sent old.sizes old new (map mail_of datagrams)
group_out Sent datagrams old middle new is sends go =
    all_out Sent old middle new (map mail_of datagrams)
    (sends_all Sent old.sizes datagrams (λ who. []) old middle refl (holds_none Sent old is) sends) go

-- notices of a floor
pub notices_out : {P : Type 0} (Sent : Sending P) (notices : List Notice) (old middle new : Outbox P)
    → old.letters.items ≡ replicate (node_count old.sizes) (letter_spelling []) → TellsAll (OutboxSent Sent) old middle notices
    → AllGo Sent (length middle.letters.items) middle new → IsSentOut Sent old.sizes old new (map mail_of_notice notices)
notices_out Sent notices old middle new is tells go =
    all_out Sent old middle new (map mail_of_notice notices)
    (tells_all Sent old.sizes notices (λ who. []) old middle refl (holds_none Sent old is) tells) go

-- the same of the port
pub seen_out : {P : Type 0} (Sent : Sending P) (old new : Outbox P) (mails : List Mail) (was inside is : LetterParts P) → inside ≡ was
    → inside.sizes ≡ old.sizes → inside.port ≡ old.port → is.sizes ≡ new.sizes → is.port ≡ new.port → IsSentOut Sent old.sizes old new mails
    → SendsOut Sent was is mails
seen_out Sent old new mails was inside is same sizes_were port_was sizes_are port_is out =
    subst (λ (o : LetterParts _). SendsOut Sent o is mails) same (record {
      sizes = sizes_are ∙ out.sizes_are ∙ sym sizes_were;
      goes = rw (sizes_were, port_was, port_is) out.goes;
    })
