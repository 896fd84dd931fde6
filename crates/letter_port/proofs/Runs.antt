-- Receives one after another give the messages of the letters that came, in order and once each: by what each gives, what is left and what
-- is still to come. It is the law that a port states.
-- Needed by `LetterPort::letters_are_taken_whole`.
use Rattle.std.proofs.Common.{◌≡◌, ◌∙◌, ◌⊎◌, ℕ, List, [], ◌∷◌, ◌++◌, Some, None, Ok, Err, inl, inr, refl, sym, ap, subst}
use Rattle.std.specs.List.{flat_map, AllByRecursion}
use Rattle.std.proofs.lemmas.List.{append-nil}
use Rattle.letters.specs.Letters.{HasFirstMessage, IsEnclosable, enclosed}
use Rattle.letters.proofs.Firsts.{firsts_are_one}
use Rattle.port.specs.Calls.{Receiving}
use Rattle.letter_port.specs.LetterPorts.{DropsAll, LetterParts, Opens, OpensLetter, TakesLeft, TakesNext}
use Rattle.letter_port.specs.Runs.{AreOf, ReceivesBeneath, Given, TakesLettersWhole, TakesWhole, messages_of}

-- messages behind their lengths begin with the first of them
first_of : (message : List ℕ) (others : List (List ℕ)) (left : List ℕ) → AllByRecursion IsEnclosable (message ∷ others)
    → left ≡ flat_map enclosed (message ∷ others) → HasFirstMessage message (flat_map enclosed others) left
first_of message others left each is = record { short = each.0.short; is = is }

-- nothing is left where no message begins
none_left : (left : List (List ℕ)) (bytes : List ℕ) → AllByRecursion IsEnclosable left → bytes ≡ flat_map enclosed left
    → ((message more : List ℕ) → HasFirstMessage message more bytes → ⊥) → left ≡ []
none_left [] bytes each is none = refl
none_left (message ∷ others) bytes each is none = absurd (none message (flat_map enclosed others) (first_of message others bytes each is))

-- bytes that begin with a message aren't none
begins_some : (message more bytes : List ℕ) → HasFirstMessage message more bytes → bytes ≡ [] → ⊥
begins_some message more bytes first none = let e : [] ≡ enclosed message ++ more = sym none ∙ first.is in absurd (cc)

one_taken : {P : Type 0} (Received : Receiving P) (old next new : LetterParts P) (more : List Given) (left : List (List ℕ))
    (message : List ℕ) → AllByRecursion IsEnclosable left → old.left ≡ flat_map enclosed left → HasFirstMessage message next.left old.left
    → next.port ≡ old.port
    → ((others : List (List ℕ)) → AllByRecursion IsEnclosable others → next.left ≡ flat_map enclosed others
    → TakesWhole Received next new more others)
    → TakesWhole Received old new (Ok (Some message) ∷ more) left
one_taken Received old next new more [] message each is first port go = absurd (begins_some message next.left old.left first is)
one_taken Received old next new more (here ∷ others) message each is first port go =
    let same = firsts_are_one message next.left here (flat_map enclosed others) old.left first (first_of here others old.left each is) in
    let rest = go others each.1 same.1 in record {
      came = rest.came;
      comes = subst (λ p. ReceivesBeneath Received p new.port rest.came) port rest.comes;
      messages = rest.messages;
      are = rest.are;
      rest = rest.rest;
      each = rest.each;
      left_is = rest.left_is;
      exact = ap (λ ms. message ∷ ms) rest.exact ∙ ap (λ m. m ∷ (others ++ rest.messages)) same.0;
    }

-- a receive that gave nothing of a letter
none_given : {P : Type 0} (Received : Receiving P) (old next new : LetterParts P) (given : Given) (more : List Given)
    (left : List (List ℕ)) (came : Given) → left ≡ [] → next.left ≡ [] → Received old.port next.port came
    → messages_of (given ∷ more) ≡ messages_of more → ((messages : List (List ℕ)) (later : List Given) → AreOf later messages
    → AreOf (came ∷ later) messages)
    → ((others : List (List ℕ)) → AllByRecursion IsEnclosable others → next.left ≡ flat_map enclosed others
    → TakesWhole Received next new more others)
    → TakesWhole Received old new (given ∷ more) left
none_given Received old next new given more left came none over received still passes go =
    let rest = go [] tt over in record {
      came = came ∷ rest.came;
      comes = (next.port, received, rest.comes);
      messages = rest.messages;
      are = passes rest.messages rest.came rest.are;
      rest = rest.rest;
      each = rest.each;
      left_is = rest.left_is;
      exact = ap (λ ms. ms ++ rest.rest) still ∙ rest.exact ∙ ap (λ ms. ms ++ rest.messages) (sym none);
    }

letter_given : {P : Type 0} (Received : Receiving P) (old next new : LetterParts P) (given : Given) (more : List Given)
    (left : List (List ℕ)) (bytes : List ℕ) → left ≡ [] → Received old.port next.port (Ok (Some bytes)) → OpensLetter bytes old next given
    → ((others : List (List ℕ)) → AllByRecursion IsEnclosable others → next.left ≡ flat_map enclosed others
    → TakesWhole Received next new more others)
    → TakesWhole Received old new (given ∷ more) left
letter_given Received old next new given more left bytes none received opens go =
    let rest = go opens.others opens.letter.each.1 opens.left in record {
      came = Ok (Some bytes) ∷ rest.came;
      comes = (next.port, received, rest.comes);
      messages = (opens.message ∷ opens.others) ++ rest.messages;
      are = (opens.message ∷ opens.others, rest.messages, refl, inl opens.letter, rest.are);
      rest = rest.rest;
      each = rest.each;
      left_is = rest.left_is;
      exact = ap (λ (g : Given). messages_of (g ∷ more) ++ rest.rest) opens.is
          ∙ ap (λ ms. opens.message ∷ ms) rest.exact
          ∙ ap (λ ms. ms ++ ((opens.message ∷ opens.others) ++ rest.messages)) (sym none);
    }

drop_given : {P : Type 0} (Received : Receiving P) (old next new : LetterParts P) (given : Given) (more : List Given)
    (left : List (List ℕ)) (bytes : List ℕ) → left ≡ [] → Received old.port next.port (Ok (Some bytes)) → DropsAll bytes old next given
    → ((others : List (List ℕ)) → AllByRecursion IsEnclosable others → next.left ≡ flat_map enclosed others
    → TakesWhole Received next new more others)
    → TakesWhole Received old new (given ∷ more) left
drop_given Received old next new given more left bytes none received drops go =
    none_given Received old next new given more left (Ok (Some bytes)) none drops.left received
    (ap (λ (g : Given). messages_of (g ∷ more)) drops.is)
    (λ messages later are. ([], messages, refl, inr (refl, drops.none), are)) go

next_given : {P : Type 0} (Received : Receiving P) (old next new : LetterParts P) (given : Given) (more : List Given)
    (left : List (List ℕ)) → left ≡ [] → (came : Given) → Received old.port next.port came → Opens came old next given
    → ((others : List (List ℕ)) → AllByRecursion IsEnclosable others → next.left ≡ flat_map enclosed others
    → TakesWhole Received next new more others)
    → TakesWhole Received old new (given ∷ more) left
next_given Received old next new given more left none (Ok None) received opens go =
    none_given Received old next new given more left (Ok None) none opens.1.left received
    (ap (λ (g : Given). messages_of (g ∷ more)) opens.0) (λ messages later are. are) go
next_given Received old next new given more left none (Err refusal) received opens go =
    none_given Received old next new given more left (Err refusal) none opens.1.left received
    (ap (λ (g : Given). messages_of (g ∷ more)) opens.0) (λ messages later are. are) go
next_given Received old next new given more left none (Ok (Some bytes)) received (inl opens) go =
    letter_given Received old next new given more left bytes none received opens go
next_given Received old next new given more left none (Ok (Some bytes)) received (inr drops) go =
    drop_given Received old next new given more left bytes none received drops go

one_receive : {P : Type 0} (Received : Receiving P) (old next new : LetterParts P) (given : Given) (more : List Given)
    (left : List (List ℕ)) → AllByRecursion IsEnclosable left → old.left ≡ flat_map enclosed left
    → (TakesLeft old next given ⊎ TakesNext Received old next given)
    → ((others : List (List ℕ)) → AllByRecursion IsEnclosable others → next.left ≡ flat_map enclosed others
    → TakesWhole Received next new more others)
    → TakesWhole Received old new (given ∷ more) left
one_receive Received old next new given more left each is (inl takes) go =
    subst (λ (g : Given). TakesWhole Received old new (g ∷ more) left) (sym takes.is)
    (one_taken Received old next new more left takes.message each is takes.first takes.port go)
one_receive Received old next new given more left each is (inr takes) go =
    next_given Received old next new given more left (none_left left old.left each is takes.none) takes.came takes.received takes.opens go

-- whatever is left at first
pub takes_whole : {P : Type 0} (Received : Receiving P) → TakesLettersWhole Received
takes_whole Received [] old new left each is same = record {
  came = [];
  comes = ap (λ (parts : LetterParts _). parts.port) same;
  messages = [];
  are = refl;
  rest = left;
  each = each;
  left_is = ap (λ (parts : LetterParts _). parts.left) same ∙ is;
  exact = sym (append-nil left);
}
takes_whole Received (given ∷ more) old new left each is (next, received, later) =
    one_receive Received old next new given more left each is received.takes
    (λ others others_each others_are. takes_whole Received more next new others others_each others_are later)
