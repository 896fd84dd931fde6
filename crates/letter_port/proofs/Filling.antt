-- A message that is put into the letter to its receiver, and that there is room for it: what a send of an outbox does where the message may
-- go.
-- Needed by `OutboxPort::send`.
use Rattle.std.proofs.Common.{◌≡◌, ◌∙◌, ℕ, ◌+◌, ◌<◌, ◌≤◌, Bool, true, MatchBool, List, [], ◌++◌, length, get_or, Some, Ok, inl, inr, sym}
use Rattle.std.proofs.Common.{ap, subst, arith, length-append, ◌&&◌}
use Rattle.std.proofs.lemmas.Bool.{le-leb}
use Rattle.std.proofs.lemmas.List.{get_or_default}
use Rattle.byteorder.specs.Endian.{big_bytes}
use Rattle.byteorder.specs.Numbers.{length-bytes_high_first}
use Rattle.protocol.specs.declared.nodes.NodeId.{NodeId}
use Rattle.protocol.specs.Worlds.{place}
use Rattle.node_core.specs.Configs.{config_by}
use Rattle.node_core.proofs.Placed.{among_placed}
use Rattle.letters.specs.Letters.{enclosed, letter_spelling}
use Rattle.port.specs.Calls.{Sending}
use Rattle.letter_port.specs.declared.outbox.Outbox.{Outbox}
use Rattle.letter_port.specs.Mails.{can_go}
use Rattle.letter_port.specs.Outboxes.{Encloses, Loses, MakesRoom, OutboxSent, Puts, letter_in}

-- a message takes two bytes more
pub enclosed_fits : (letter bytes : List ℕ) → length letter + (2 + length bytes) ≤ 1400 → length (letter ++ enclosed bytes) ≤ 1400
enclosed_fits letter bytes fits =
    let parts : length (letter ++ enclosed bytes) ≡ length letter + length (enclosed bytes) = length-append letter (enclosed bytes) in
    let front : length (enclosed bytes) ≡ length (big_bytes 2 (length bytes)) + length bytes =
    length-append (big_bytes 2 (length bytes)) bytes in
    let two : length (big_bytes 2 (length bytes)) ≡ 2 = length-bytes_high_first 2 (length bytes) in
    omega (arith, parts, front, two, fits)

-- a letter that is read is that in its place
pub letter_is : (letters : List (List ℕ)) (at : ℕ) (letter : List ℕ) → at < length letters → letter ≡ get_or letters at letter
    → letter ≡ letter_in letters at
letter_is letters at letter lt read = read ∙ get_or_default letters at letter (letter_spelling []) lt

same_faults : {P : Type 0} (Sent : Sending P) (at : ℕ) (old middle : Outbox P) → MakesRoom Sent at old middle → middle.faults ≡ old.faults
same_faults Sent at old middle (inl same) = ap (λ (o : Outbox _). o.faults) same
same_faults Sent at old middle (inr gone) = gone.faults

pub may_go : {P : Type 0} (old : Outbox P) (receiver : NodeId) (bytes : List ℕ) (at : ℕ)
    → place (config_by old.sizes []) receiver ≡ Some at → length bytes ≤ 1397 → can_go old.sizes receiver bytes ≡ true
may_go old receiver bytes at found short =
    λ i. among_placed (config_by old.sizes []) receiver at found i && le-leb (length bytes) 1397 short i

-- a message that was put into the letter in its receiver's place was enclosed
pub is_enclosed : {P : Type 0} (Sent : Sending P) (old middle new : Outbox P) (receiver : NodeId) (bytes : List ℕ) (at : ℕ)
    → place (config_by old.sizes []) receiver ≡ Some at → length bytes ≤ 1397 → MakesRoom Sent at old middle → Puts at bytes middle new
    → OutboxSent Sent old new receiver bytes (Ok tt)
is_enclosed {P} Sent old middle new receiver bytes at found short room puts = record {
  faults = puts.faults ∙ same_faults Sent at old middle room;
  goes = subst (λ (test : Bool). MatchBool test (Encloses Sent receiver bytes old new) (Loses old new))
      (sym (may_go old receiver bytes at found short))
      (record { at = at; found = found; middle = middle; room = room; puts = puts });
}
