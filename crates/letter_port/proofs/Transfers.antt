-- What is put into letters, and letters that go: what was begun and what was to go is what went and what is begun then. So what a group
-- has to send goes, once its letters went: `Emptying` has that of an outbox, and so a port.
-- Needed by Emptying.
use Rattle.std.proofs.Common.{◌≡◌, ◌≢◌, ◌∙◌, ℕ, zero, suc, ◌+◌, ◌<◌, ◌≤◌, ◌==◌, Bool, true, false, if◌then◌else◌, List, [], ◌∷◌}
use Rattle.std.proofs.Common.{◌++◌, length, map, replicate, set, Option, Some, None, Result, refl, sym, ap, subst, append_assoc, arith}
use Rattle.std.proofs.Common.{length-append, eqb-true, inl, inr}
use Rattle.std.specs.List.{flat_map, AllByRecursion}
use Rattle.std.proofs.lemmas.Bool.{eq-eqb}
use Rattle.std.proofs.lemmas.Grind.{flat_map-append}
use Rattle.std.proofs.lemmas.List.{append-nil, get_or-replicate, get_or-set_other, get_or-set_same, length-replicate, length-set}
use Rattle.byteorder.specs.Endian.{big_bytes}
use Rattle.byteorder.specs.Numbers.{length-bytes_high_first}
use Rattle.xid.specs.declared.refusals.Refusal.{Refusal}
use Rattle.wire.specs.Grammar.{spelling}
use Rattle.wire.specs.Notices.{notice_spelling}
use Rattle.protocol.specs.declared.nodes.NodeId.{NodeId}
use Rattle.protocol.specs.Worlds.{Datagram, place}
use Rattle.floors.proofs.Places.{self_node, node_is}
use Rattle.node_core.specs.Configs.{config_by, is_among}
use Rattle.node_core.specs.declared.config.Sizes.{Sizes}
use Rattle.floors.specs.Worlds.{Notice, is_node}
use Rattle.node_core.specs.Places.{node_count, node_in}
use Rattle.node_core.proofs.Placed.{name_there, among_placed, place_within, name_placed}
use Rattle.letters.specs.Letters.{IsEnclosable, enclosed, letter_spelling, letter_version}
use Rattle.port.specs.Calls.{Sending, SendsAll, TellsAll}
use Rattle.letter_port.specs.declared.outbox.Outbox.{Outbox}
use Rattle.letter_port.specs.Mails.{GoesInLetters, MayBePosted, Mail, Posted, SendsLetters, can_go, mail_of, mail_of_notice, mail_to}
use Rattle.letter_port.specs.Mails.{posted_to}
use Rattle.letter_port.specs.Outboxes.{AllGo, Dispatched, Encloses, Loses, MakesRoom, OutboxSent, Puts, letter_in}
use Rattle.letter_port.proofs.Places.{isnt_there, places_agree, places_differ}
use Rattle.letter_port.proofs.Posting.{each_then, letters_are, letters_then, mail_is, mail_then, posted_then}

-- what was begun for each node: what its letter has
abbrev pub Begun : Type 0
Begun = NodeId → List (List ℕ)

-- each letter has what was begun for its node
pub record Holds (sizes : Sizes) (letters : List (List ℕ)) (begun : Begun) : Type 0 where
  pub long : length letters ≡ node_count sizes
  pub each : (who : NodeId) (at : ℕ) → place (config_by sizes []) who ≡ Some at → letter_in letters at ≡ letter_spelling (begun who)
  pub others : (who : NodeId) → is_among (config_by sizes []) who ≡ false → begun who ≡ []

-- another beginning for one node
abbrev pub begun_with : NodeId → List (List ℕ) → Begun → Begun
begun_with node messages begun who = if is_node node who then messages else begun who

with_test : (node : NodeId) (messages : List (List ℕ)) (begun : Begun) (who : NodeId) (test : Bool) → is_node node who ≡ test
    → begun_with node messages begun who ≡ (if test then messages else begun who)
with_test node messages begun who test is = ap (λ (b : Bool). if b then messages else begun who) is

holds_each : (sizes : Sizes) (letters : List (List ℕ)) (begun : Begun) → Holds sizes letters begun → (node : NodeId) (at : ℕ)
    → place (config_by sizes []) node ≡ Some at → (letter : List ℕ) (messages : List (List ℕ)) → letter ≡ letter_spelling messages
    → (who : NodeId) (x : ℕ) → place (config_by sizes []) who ≡ Some x → (test : Bool) → is_node node who ≡ test
    → letter_in (set letters at letter) x ≡ letter_spelling (begun_with node messages begun who)
holds_each sizes letters begun holds node at found letter messages is who x there true same =
    let below : at < node_count sizes = place_within (config_by sizes []) node at found in
    let lt : at < length letters = omega (arith, below, holds.long) in
    ap (letter_in (set letters at letter)) (places_agree sizes node who at x found there same)
    ∙ get_or-set_same letters at letter (letter_spelling []) lt ∙ is
    ∙ ap letter_spelling (sym (with_test node messages begun who true same))
holds_each sizes letters begun holds node at found letter messages is who x there false other =
    get_or-set_other letters at x letter (letter_spelling []) (places_differ sizes node who at x found there other)
    ∙ holds.each who x there ∙ ap letter_spelling (sym (with_test node messages begun who false other))

holds_others : (sizes : Sizes) (begun : Begun) (node : NodeId) (messages : List (List ℕ))
    → is_among (config_by sizes []) node ≡ true → ((who : NodeId) → is_among (config_by sizes []) who ≡ false → begun who ≡ [])
    → (who : NodeId) → is_among (config_by sizes []) who ≡ false → (test : Bool) → is_node node who ≡ test
    → begun_with node messages begun who ≡ []
holds_others sizes begun node messages among others who out true same =
    let both : true ≡ false = sym among ∙ ap (is_among (config_by sizes [])) (node_is node who same) ∙ out in
    absurd (cc)
holds_others sizes begun node messages among others who out false other = with_test node messages begun who false other ∙ others who out

pub holds_set : (sizes : Sizes) (letters : List (List ℕ)) (begun : Begun) → Holds sizes letters begun → (node : NodeId) (at : ℕ)
    → place (config_by sizes []) node ≡ Some at → (letter : List ℕ) (messages : List (List ℕ)) → letter ≡ letter_spelling messages
    → Holds sizes (set letters at letter) (begun_with node messages begun)
holds_set sizes letters begun holds node at found letter messages is = record {
  long = length-set letters at letter ∙ holds.long;
  each = λ who x there. holds_each sizes letters begun holds node at found letter messages is who x there (is_node node who) refl;
  others = λ who out.
      holds_others sizes begun node messages (among_placed (config_by sizes []) node at found) holds.others who out (is_node node who) refl;
}

-- a message more in a letter
pub one_enclosed : (letter bytes : List ℕ) (messages : List (List ℕ)) → letter ≡ letter_spelling messages
    → letter ++ enclosed bytes ≡ letter_spelling (messages ++ bytes ∷ [])
one_enclosed letter bytes messages is =
    ap (λ xs. xs ++ enclosed bytes) is
    ∙ ap (λ xs. letter_version ∷ xs) (ap (λ xs. flat_map enclosed messages ++ xs) (sym (append-nil (enclosed bytes)))
    ∙ sym (flat_map-append enclosed messages (bytes ∷ [])))

-- a letter is as long as its version alone exactly where nothing is in it
pub none_in : (messages : List (List ℕ)) → length (letter_spelling messages) ≡ 1 → messages ≡ []
none_in [] e = refl
none_in (message ∷ messages) e =
    let parts : length (enclosed message ++ flat_map enclosed messages) ≡ length (enclosed message) + length (flat_map enclosed messages) =
    length-append (enclosed message) (flat_map enclosed messages) in
    let front : length (enclosed message) ≡ length (big_bytes 2 (length message)) + length message =
    length-append (big_bytes 2 (length message)) message in
    let two : length (big_bytes 2 (length message)) ≡ 2 = length-bytes_high_first 2 (length message) in
    absurd (omega (arith, e, parts, front, two))

module _ {P : Type 0} (Sent : Sending P) (sizes : Sizes) where
  -- what was begun and what was to go is what went and what is begun then
  pub record Transfers (begun : Begun) (old : P) (after : Begun) (new : P) (mails : List Mail) : Type 0
    where
      pub letters : List Posted
      pub sends : SendsLetters Sent old new letters
      pub each : AllByRecursion MayBePosted letters
      pub exact : (who : NodeId) → posted_to who letters ++ after who ≡ begun who ++ mail_to sizes who mails

  -- one after another
  pub transfers_then : (a b c : Begun) (p q r : P) (some more : List Mail) → Transfers a p b q some
      → Transfers b q c r more → Transfers a p c r (some ++ more)
  transfers_then a b c p q r some more first second = record {
    letters = first.letters ++ second.letters;
    sends = letters_then Sent first.letters second.letters p q r first.sends second.sends;
    each = each_then first.letters second.letters first.each second.each;
    exact = λ who.
        ap (λ xs. xs ++ c who) (posted_then who first.letters second.letters)
        ∙ append_assoc (posted_to who first.letters) (posted_to who second.letters) (c who)
        ∙ ap (λ xs. posted_to who first.letters ++ xs) (second.exact who)
        ∙ sym (append_assoc (posted_to who first.letters) (b who) (mail_to sizes who more))
        ∙ ap (λ xs. xs ++ mail_to sizes who more) (first.exact who)
        ∙ append_assoc (a who) (mail_to sizes who some) (mail_to sizes who more)
        ∙ ap (λ xs. a who ++ xs) (sym (mail_then sizes who some more));
  }

  pub transfers_none : (a : Begun) (p q : P) → q ≡ p → Transfers a p a q []
  transfers_none a p q same = record { letters = []; sends = same; each = tt; exact = λ who. sym (append-nil (a who)) }

  -- ---- a letter goes

  -- what is begun after one went
  pub record Emptied (at : ℕ) (begun : Begun) (old new : Outbox P) : Type 0 where
    pub after : Begun
    pub holds : Holds sizes new.letters.items after
    pub transfers : Transfers begun old.port after new.port []
    pub here : after (node_in (config_by sizes []) at) ≡ []
    pub still : (who : NodeId) → begun who ≡ [] → after who ≡ []

  still_none : (node : NodeId) (begun : Begun) (who : NodeId) → begun who ≡ [] → (test : Bool) → is_node node who ≡ test
      → begun_with node [] begun who ≡ []
  still_none node begun who none true is = with_test node [] begun who true is
  still_none node begun who none false is = with_test node [] begun who false is ∙ none

  -- where it had nothing, nothing went
  exact_none : (node : NodeId) (begun : Begun) (who : NodeId) → begun node ≡ [] → (test : Bool) → is_node node who ≡ test
      → [] ++ begun_with node [] begun who ≡ begun who ++ []
  exact_none node begun who none true is =
      with_test node [] begun who true is
      ∙ sym (ap (λ xs. xs ++ []) (ap begun (sym (node_is node who is)) ∙ none))
  exact_none node begun who none false is = with_test node [] begun who false is ∙ sym (append-nil (begun who))

  -- where it had something, that went
  exact_one : (node : NodeId) (begun : Begun) (who : NodeId) (test : Bool) → is_node node who ≡ test
      → posted_to who (record { receiver = node; messages = begun node } ∷ []) ++ begun_with node [] begun who ≡ begun who ++ []
  exact_one node begun who true is =
      rw (is) (append-nil (begun node ++ []) ∙ ap (λ xs. xs ++ []) (ap begun (node_is node who is)))
  exact_one node begun who false is = rw (is) (sym (append-nil (begun who)))

  emptied_by : (at : ℕ) (begun : Begun) (old new : Outbox P) → old.sizes ≡ sizes → at < node_count sizes
      → Holds sizes old.letters.items begun → Dispatched Sent at old new → (test : Bool)
      → (length (letter_in old.letters.items at) == 1) ≡ test → Emptied at begun old new
  emptied_by at begun old new are lt holds gone true is =
      let node : NodeId = node_in (config_by sizes []) at in
      let found : place (config_by sizes []) node ≡ Some at = name_placed (config_by sizes []) at lt in
      let letter : letter_in old.letters.items at ≡ letter_spelling (begun node) = holds.each node at found in
      let none : begun node ≡ [] = none_in (begun node) (sym (ap length letter) ∙ eqb-true _ 1 is) in record {
        after = begun_with node [] begun;
        holds = subst (λ letters. Holds sizes letters (begun_with node [] begun)) (sym gone.letters)
            (holds_set sizes old.letters.items begun holds node at found (letter_spelling []) [] refl);
        transfers = record {
          letters = [];
          sends = rw is at gone.goes;
          each = tt;
          exact = λ who. exact_none node begun who none (is_node node who) refl;
        };
        here = with_test node [] begun node true (self_node node);
        still = λ who nothing. still_none node begun who nothing (is_node node who) refl;
      }
  emptied_by at begun old new are lt holds gone false is =
      let node : NodeId = node_in (config_by sizes []) at in
      let found : place (config_by sizes []) node ≡ Some at = name_placed (config_by sizes []) at lt in
      let letter : letter_in old.letters.items at ≡ letter_spelling (begun node) = holds.each node at found in
      let sent = rw is at gone.goes in
      let some : begun node ≢ [] =
      λ none.
      let one : (length (letter_in old.letters.items at) == 1) ≡ true = ap (λ xs. length xs == 1) (letter ∙ ap letter_spelling none) in
      let no : false ≡ true = sym is ∙ one in absurd (cc) in record {
        after = begun_with node [] begun;
        holds = subst (λ letters. Holds sizes letters (begun_with node [] begun)) (sym gone.letters)
            (holds_set sizes old.letters.items begun holds node at found (letter_spelling []) [] refl);
        transfers = record {
          letters = record { receiver = node; messages = begun node } ∷ [];
          sends = (
            new.port,
            sent.0,
            subst (λ (s : Sizes). Sent old.port new.port (node_in (config_by s []) at) (letter_spelling (begun node)) sent.0) are
                (subst (λ (bytes : List ℕ). Sent old.port new.port (node_in (config_by old.sizes []) at) bytes sent.0) letter sent.1),
            refl,
          );
          each = (record { some = some; short = subst (λ (bytes : List ℕ). length bytes ≤ 1400) letter gone.short }, tt);
          exact = λ who. exact_one node begun who (is_node node who) refl;
        };
        here = with_test node [] begun node true (self_node node);
        still = λ who nothing. still_none node begun who nothing (is_node node who) refl;
      }

  pub emptied : (at : ℕ) (begun : Begun) (old new : Outbox P) → old.sizes ≡ sizes → at < node_count sizes
      → Holds sizes old.letters.items begun → Dispatched Sent at old new → Emptied at begun old new
  emptied at begun old new are lt holds gone =
      emptied_by at begun old new are lt holds gone (length (letter_in old.letters.items at) == 1) refl

  -- ---- a send

  -- what is begun after one, and what went
  pub record Carried (begun : Begun) (old new : Outbox P) (mails : List Mail) : Type 0 where
    pub sizes_are : new.sizes ≡ sizes
    pub after : Begun
    pub holds : Holds sizes new.letters.items after
    pub transfers : Transfers begun old.port after new.port mails

  exact_put : (node : NodeId) (bytes : List ℕ) (begun : Begun) (who : NodeId) → can_go sizes node bytes ≡ true
      → (test : Bool) → is_node node who ≡ test
      → [] ++ begun_with node (begun node ++ bytes ∷ []) begun who
      ≡ begun who ++ mail_to sizes who (record { receiver = node; bytes = bytes } ∷ [])
  exact_put node bytes begun who may true is = rw (is, may) (ap (λ (w : NodeId). begun w ++ bytes ∷ []) (node_is node who is))
  exact_put node bytes begun who may false is = rw (is) (sym (append-nil (begun who)))

  put : (node : NodeId) (at : ℕ) (bytes : List ℕ) (begun : Begun) (old new : Outbox P)
      → place (config_by sizes []) node ≡ Some at → can_go sizes node bytes ≡ true → old.sizes ≡ sizes
      → Holds sizes old.letters.items begun → Puts at bytes old new
      → Carried begun old new (record { receiver = node; bytes = bytes } ∷ [])
  put node at bytes begun old new found may are holds puts =
      let messages : List (List ℕ) = begun node ++ bytes ∷ [] in record {
        sizes_are = puts.sizes ∙ are;
        after = begun_with node messages begun;
        holds = subst (λ letters. Holds sizes letters (begun_with node messages begun)) (sym puts.letters)
            (holds_set sizes old.letters.items begun holds node at found _ messages
            (one_enclosed (letter_in old.letters.items at) bytes (begun node) (holds.each node at found)));
        transfers = record {
          letters = [];
          sends = puts.port;
          each = tt;
          exact = λ who. exact_put node bytes begun who may (is_node node who) refl;
        };
      }

  encloses_by : (node : NodeId) (bytes : List ℕ) (begun : Begun) (old new : Outbox P) → can_go sizes node bytes ≡ true
      → old.sizes ≡ sizes → Holds sizes old.letters.items begun → (at : ℕ) → place (config_by sizes []) node ≡ Some at
      → (middle : Outbox P) → MakesRoom Sent at old middle → Puts at bytes middle new
      → Carried begun old new (record { receiver = node; bytes = bytes } ∷ [])
  encloses_by node bytes begun old new may are holds at found middle (inl same) puts =
      put node at bytes begun old new found may are holds (subst (λ (o : Outbox P). Puts at bytes o new) same puts)
  encloses_by node bytes begun old new may are holds at found middle (inr gone) puts =
      let left = emptied at begun old middle are (place_within (config_by sizes []) node at found) holds gone in
      let last = put node at bytes left.after middle new found may (gone.sizes ∙ are) left.holds puts in record {
        sizes_are = last.sizes_are;
        after = last.after;
        holds = last.holds;
        transfers = transfers_then begun left.after last.after old.port middle.port new.port []
            (record { receiver = node; bytes = bytes } ∷ []) left.transfers last.transfers;
      }

  exact_lost : (node : NodeId) (bytes : List ℕ) (begun : Begun) (who : NodeId) → can_go sizes node bytes ≡ false
      → (test : Bool) → is_node node who ≡ test
      → [] ++ begun who ≡ begun who ++ mail_to sizes who (record { receiver = node; bytes = bytes } ∷ [])
  exact_lost node bytes begun who lost true is = rw (is, lost) (sym (append-nil (begun who)))
  exact_lost node bytes begun who lost false is = rw (is) (sym (append-nil (begun who)))

  sends_by : (node : NodeId) (bytes : List ℕ) (begun : Begun) (old new : Outbox P) (result : Result (Unit {0}) Refusal)
      → old.sizes ≡ sizes → Holds sizes old.letters.items begun → OutboxSent Sent old new node bytes result → (test : Bool)
      → can_go old.sizes node bytes ≡ test → Carried begun old new (record { receiver = node; bytes = bytes } ∷ [])
  sends_by node bytes begun old new result are holds sent true may =
      let goes : Encloses Sent node bytes old new = rw may at sent.goes in
      encloses_by node bytes begun old new (ap (λ (s : Sizes). can_go s node bytes) (sym are) ∙ may) are holds goes.at
      (ap (λ (s : Sizes). place (config_by s []) node) (sym are) ∙ goes.found) goes.middle goes.room goes.puts
  sends_by node bytes begun old new result are holds sent false lost =
      let loses : Loses old new = rw lost at sent.goes in
      let not : can_go sizes node bytes ≡ false = ap (λ (s : Sizes). can_go s node bytes) (sym are) ∙ lost in record {
        sizes_are = loses.sizes ∙ are;
        after = begun;
        holds = subst (λ letters. Holds sizes letters begun) (sym loses.letters) holds;
        transfers = record {
          letters = [];
          sends = loses.port;
          each = tt;
          exact = λ who. exact_lost node bytes begun who not (is_node node who) refl;
        };
      }

  sends_one : (node : NodeId) (bytes : List ℕ) (begun : Begun) (old new : Outbox P) (result : Result (Unit {0}) Refusal)
      → old.sizes ≡ sizes → Holds sizes old.letters.items begun → OutboxSent Sent old new node bytes result
      → Carried begun old new (record { receiver = node; bytes = bytes } ∷ [])
  sends_one node bytes begun old new result are holds sent =
      sends_by node bytes begun old new result are holds sent (can_go old.sizes node bytes) refl

  none_carried : (begun : Begun) (old new : Outbox P) → old.sizes ≡ sizes → Holds sizes old.letters.items begun → new ≡ old
      → Carried begun old new []
  none_carried begun old new are holds same =
      subst (λ (o : Outbox P). Carried begun old o []) (sym same)
      (record { sizes_are = are; after = begun; holds = holds; transfers = transfers_none begun old.port old.port refl })

  both_carried : (begun : Begun) (old middle new : Outbox P) (some more : List Mail) → (first : Carried begun old middle some)
      → Carried first.after middle new more → Carried begun old new (some ++ more)
  both_carried begun old middle new some more first second = record {
    sizes_are = second.sizes_are;
    after = second.after;
    holds = second.holds;
    transfers = transfers_then begun first.after second.after old.port middle.port new.port some more first.transfers second.transfers;
  }

  -- all datagrams of a group
  pub sends_all : (datagrams : List Datagram) (begun : Begun) (old new : Outbox P) → old.sizes ≡ sizes
      → Holds sizes old.letters.items begun → SendsAll (OutboxSent Sent) old new datagrams → Carried begun old new (map mail_of datagrams)
  sends_all [] begun old new are holds none = none_carried begun old new are holds none
  sends_all (d ∷ ds) begun old new are holds (next, result, sent, rest) =
      let one = sends_one d.receiver (spelling d.message) begun old next result are holds sent in
      both_carried begun old next new (mail_of d ∷ []) (map mail_of ds) one (sends_all ds one.after next new one.sizes_are one.holds rest)

  -- all notices of a floor
  pub tells_all : (notices : List Notice) (begun : Begun) (old new : Outbox P) → old.sizes ≡ sizes
      → Holds sizes old.letters.items begun → TellsAll (OutboxSent Sent) old new notices
      → Carried begun old new (map mail_of_notice notices)
  tells_all [] begun old new are holds none = none_carried begun old new are holds none
  tells_all (n ∷ ns) begun old new are holds (next, result, sent, rest) =
      let bytes : List ℕ = notice_spelling (record { manager = n.manager; floor = n.place }) in
      let one = sends_one n.receiver bytes begun old next result are holds sent in
      both_carried begun old next new (mail_of_notice n ∷ []) (map mail_of_notice ns) one
      (tells_all ns one.after next new one.sizes_are one.holds rest)

  -- ---- all letters go

  pub record AllEmptied (count : ℕ) (begun : Begun) (old new : Outbox P) : Type 0 where
    pub sizes_are : new.sizes ≡ sizes
    pub faults : new.faults ≡ old.faults
    pub after : Begun
    pub holds : Holds sizes new.letters.items after
    pub transfers : Transfers begun old.port after new.port []
    pub none : (at : ℕ) → at < count → after (node_in (config_by sizes []) at) ≡ []

  none_or : (count : ℕ) (after : Begun) → after (node_in (config_by sizes []) count) ≡ []
      → ((at : ℕ) → at < count → after (node_in (config_by sizes []) at) ≡ [])
      → (at : ℕ) → at < suc count → (test : Bool) → (at == count) ≡ test
      → after (node_in (config_by sizes []) at) ≡ []
  none_or count after here below at lt true is = ap (λ (n : ℕ). after (node_in (config_by sizes []) n)) (eqb-true at count is) ∙ here
  none_or count after here below at lt false is =
      let differs : at ≢ count = λ same. let no : false ≡ true = sym is ∙ eq-eqb at count same in absurd (cc) in
      below at (omega (arith, lt, differs))

  none_below : (count : ℕ) (after : Begun) → after (node_in (config_by sizes []) count) ≡ []
      → ((at : ℕ) → at < count → after (node_in (config_by sizes []) at) ≡ [])
      → (at : ℕ) → at < suc count → after (node_in (config_by sizes []) at) ≡ []
  none_below count after here below at lt = none_or count after here below at lt (at == count) refl

  pub all_emptied : (count : ℕ) (begun : Begun) (old new : Outbox P) → old.sizes ≡ sizes → count ≤ node_count sizes
      → Holds sizes old.letters.items begun → AllGo Sent count old new → AllEmptied count begun old new
  all_emptied zero begun old new are le holds same =
      subst (λ (o : Outbox P). AllEmptied zero begun old o) (sym same) (record {
        sizes_are = are;
        faults = refl;
        after = begun;
        holds = holds;
        transfers = transfers_none begun old.port old.port refl;
        none = λ at lt. absurd (omega (arith, lt));
      })
  all_emptied (suc count) begun old new are le holds (middle, before, last) =
      let first = all_emptied count begun old middle are (omega (arith, le)) holds before in
      let next = emptied count first.after middle new first.sizes_are (omega (arith, le)) first.holds last in record {
        sizes_are = last.sizes ∙ first.sizes_are;
        faults = last.faults ∙ first.faults;
        after = next.after;
        holds = next.holds;
        transfers = transfers_then begun first.after next.after old.port middle.port new.port [] [] first.transfers next.transfers;
        none = none_below count next.after next.here (λ at lt. next.still (node_in (config_by sizes []) at) (first.none at lt));
      }

  -- ---- what a group has to send goes in letters

  -- at first nothing is begun
  pub letters_none : Holds sizes (replicate (node_count sizes) (letter_spelling [])) (λ who. [])
  letters_none = record {
    long = length-replicate (node_count sizes) (letter_spelling []);
    each = λ who at found.
        get_or-replicate (node_count sizes) at (letter_spelling []) (letter_spelling []) (place_within (config_by sizes []) who at found);
    others = λ who out. refl;
  }

  none_for : (begun : Begun) → ((at : ℕ) → at < node_count sizes → begun (node_in (config_by sizes []) at) ≡ [])
      → ((who : NodeId) → is_among (config_by sizes []) who ≡ false → begun who ≡ []) → (who : NodeId) (found : Option ℕ)
      → place (config_by sizes []) who ≡ found → begun who ≡ []
  none_for begun none others who None nowhere = others who (isnt_there sizes who nowhere)
  none_for begun none others who (Some at) found =
      sym (ap begun (name_there (config_by sizes []) who at found)) ∙ none at (place_within (config_by sizes []) who at found)

  -- what went
  pub record IsSentOut (old new : Outbox P) (mails : List Mail) : Type 0 where
    pub sizes_are : new.sizes ≡ sizes
    pub goes : GoesInLetters Sent sizes old.port new.port mails

  -- all that was put in, and then all letters
  pub sent_out : (old middle new : Outbox P) (mails : List Mail) → Carried (λ who. []) old middle mails
      → AllGo Sent (node_count sizes) middle new → IsSentOut old new mails
  sent_out old middle new mails carried go =
      let last = all_emptied (node_count sizes) carried.after middle new carried.sizes_are (omega arith) carried.holds go in
      let all = transfers_then (λ who. []) carried.after last.after old.port middle.port new.port mails [] carried.transfers
      last.transfers in
      let exact : (who : NodeId) → posted_to who all.letters ≡ mail_to sizes who mails =
      λ who.
      sym (append-nil (posted_to who all.letters))
      ∙ ap (λ xs. posted_to who all.letters ++ xs)
      (sym (none_for last.after last.none last.holds.others who (place (config_by sizes []) who) refl)) ∙ all.exact who
      ∙ ap (λ ms. mail_to sizes who ms) (append-nil mails) in record {
        sizes_are = last.sizes_are;
        goes = record {
          letters = all.letters;
          sends = all.sends;
          each = all.each;
          exact = exact;
          whole = λ are.
              letters_are all.letters all.each
              (λ who. subst (λ ms. AllByRecursion IsEnclosable ms) (sym (exact who)) (mail_is sizes who mails are));
        };
      }
