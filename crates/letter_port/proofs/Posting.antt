-- What goes to nodes, and letters that go, one after another: what both have, each node's part of it, and that each letter is one that its
-- receiver takes. What goes of a group, below, is put together of these.
-- Needed by Transfers.
use Rattle.std.proofs.Common.{◌≡◌, ◌∙◌, Bool, true, false, ◌&&◌, if◌then◌else◌, ℕ, List, [], ◌∷◌, ◌++◌, refl, sym, ap, subst, append_assoc}
use Rattle.std.specs.List.{AllByRecursion}
use Rattle.protocol.specs.declared.nodes.NodeId.{NodeId}
use Rattle.floors.proofs.Places.{self_node}
use Rattle.node_core.specs.declared.config.Sizes.{Sizes}
use Rattle.floors.specs.Worlds.{is_node}
use Rattle.port.specs.Calls.{Sending}
use Rattle.letters.specs.Letters.{IsEnclosable}
use Rattle.letter_port.specs.Mails.{MayBePosted, IsReadAsPosted, Mail, Posted, SendsLetters, can_go, mail_to, posted_to}

-- more mails after some
pub mail_then : (sizes : Sizes) (who : NodeId) (some more : List Mail)
    → mail_to sizes who (some ++ more) ≡ mail_to sizes who some ++ mail_to sizes who more
mail_then sizes who [] more = refl
mail_then sizes who (mail ∷ some) more =
    let here : List (List ℕ) = if is_node mail.receiver who && can_go sizes mail.receiver mail.bytes then mail.bytes ∷ [] else [] in
    ap (λ xs. here ++ xs) (mail_then sizes who some more) ∙ sym (append_assoc here (mail_to sizes who some) (mail_to sizes who more))

-- more letters after some
pub posted_then : (who : NodeId) (some more : List Posted) → posted_to who (some ++ more) ≡ posted_to who some ++ posted_to who more
posted_then who [] more = refl
posted_then who (letter ∷ some) more =
    let here : List (List ℕ) = if is_node letter.receiver who then letter.messages else [] in
    ap (λ xs. here ++ xs) (posted_then who some more) ∙ sym (append_assoc here (posted_to who some) (posted_to who more))

-- each of both
pub each_then : (some more : List Posted) → AllByRecursion MayBePosted some → AllByRecursion MayBePosted more
    → AllByRecursion MayBePosted (some ++ more)
each_then [] more some_are more_are = more_are
each_then (letter ∷ some) more some_are more_are = (some_are.0, each_then some more some_are.1 more_are)

-- the sends of both
pub letters_then : {P : Type 0} (Sent : Sending P) (some more : List Posted) (a b c : P) → SendsLetters Sent a b some
    → SendsLetters Sent b c more → SendsLetters Sent a c (some ++ more)
letters_then {P} Sent [] more a b c none rest = subst (λ (p : P). SendsLetters Sent p c more) none rest
letters_then {P} Sent (letter ∷ some) more a b c sends rest =
    (sends.0, sends.1, sends.2, letters_then Sent some more sends.0 b c sends.3 rest)

-- ---- each letter is one that its receiver takes

-- of what is joined both parts
both_of : (some more : List (List ℕ)) → AllByRecursion IsEnclosable (some ++ more)
    → AllByRecursion IsEnclosable some × AllByRecursion IsEnclosable more
both_of [] more all = (tt, all)
both_of (message ∷ some) more all = let rest = both_of some more all.1 in ((all.0, rest.0), rest.1)

one_or_none : (test : Bool) (bytes : List ℕ) (more : List (List ℕ)) → IsEnclosable bytes → AllByRecursion IsEnclosable more
    → AllByRecursion IsEnclosable ((if test then bytes ∷ [] else []) ++ more)
one_or_none true bytes more is are = (is, are)
one_or_none false bytes more is are = are

-- what is for a node are messages and notices, where all is
pub mail_is : (sizes : Sizes) (who : NodeId) (mails : List Mail) → AllByRecursion (λ mail. IsEnclosable mail.bytes) mails
    → AllByRecursion IsEnclosable (mail_to sizes who mails)
mail_is sizes who [] are = tt
mail_is sizes who (mail ∷ more) are =
    one_or_none (is_node mail.receiver who && can_go sizes mail.receiver mail.bytes) mail.bytes (mail_to sizes who more) are.0
    (mail_is sizes who more are.1)

-- letters are whole where what is in them for each node are messages and notices
pub letters_are : (letters : List Posted) → AllByRecursion MayBePosted letters
    → ((who : NodeId) → AllByRecursion IsEnclosable (posted_to who letters)) → AllByRecursion IsReadAsPosted letters
letters_are [] each all = tt
letters_are (letter ∷ more) each all =
    let rest : List (List ℕ) = posted_to letter.receiver more in
    let here : AllByRecursion IsEnclosable (letter.messages ++ rest) =
    subst (λ (test : Bool). AllByRecursion IsEnclosable ((if test then letter.messages else []) ++ rest)) (self_node letter.receiver)
    (all letter.receiver) in (
      record { few = each.0.short; some = each.0.some; each = (both_of letter.messages rest here).0; is = refl },
      letters_are more each.1 (λ who.
          (both_of (if is_node letter.receiver who then letter.messages else []) (posted_to who more) (all who)).1),
    )
