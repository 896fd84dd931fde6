-- Datagrams that are kept are those of the machine, as more are sent and as they are marked.
-- Needed by `Network::get` and `Network::mark`; Places; crate cluster.
use Rattle.std.proofs.Common.{◌≡◌, ℕ, zero, suc, ◌+◌, ◌-◌, ◌<◌, ◌≤◌, ◌⊎◌, inl, inr, Bool, true, false, cond, ltb, List, [], ◌∷◌, ◌++◌}
use Rattle.std.proofs.Common.{length, get_or, set, refl, sym, ap, arith, subst}
use Rattle.std.proofs.lemmas.Bool.Decides.{nat_tests}
use Rattle.std.specs.Prelude.{Some, None, slice_get}
use Rattle.std.specs.List.{AllZip, prefix_len}
use Rattle.std.specs.Option.{option_map}
use Rattle.protocol.specs.Worlds.{Datagram, datagram_at, mark_at}
use Rattle.network.specs.Networks.{DatagramParts, IsKept, least_unmarked}

-- as many
pub same_length : (kept : List DatagramParts) (net : List Datagram) → AllZip IsKept kept net → length kept ≡ length net
same_length [] [] all = refl
same_length [] (d ∷ net) all = absurd all
same_length (k ∷ kept) [] all = absurd all
same_length (k ∷ kept) (d ∷ net) all = ap suc (same_length kept net all.1)

-- one more
pub kept_push : (kept : List DatagramParts) (net : List Datagram) (k : DatagramParts) (d : Datagram)
    → AllZip IsKept kept net → IsKept k d → AllZip IsKept (kept ++ k ∷ []) (net ++ d ∷ [])
kept_push [] [] k d all is = (is, tt)
kept_push [] (e ∷ net) k d all is = absurd all
kept_push (j ∷ kept) [] k d all is = absurd all
kept_push (j ∷ kept) (e ∷ net) k d all is = (all.0, kept_push kept net k d all.1 is)

-- the one at a place
pub kept_at : (kept : List DatagramParts) (net : List Datagram) (i : ℕ) (k : DatagramParts)
    → AllZip IsKept kept net → i < length kept → (d : Datagram) × (slice_get net i ≡ Some d) × IsKept (get_or kept i k) d
kept_at [] net i k all lt = absurd (omega arith)
kept_at (j ∷ kept) [] i k all lt = absurd all
kept_at (j ∷ kept) (d ∷ net) zero k all lt = (d, refl, all.0)
kept_at (j ∷ kept) (d ∷ net) (suc i) k all lt = kept_at kept net i k all.1 (omega arith)

-- the last
pub kept_last : (kept : List DatagramParts) (net : List Datagram) (last : Datagram) (k : DatagramParts)
    → AllZip IsKept kept (net ++ last ∷ []) → IsKept (get_or kept (length kept - 1) k) last
kept_last [] [] last k all = absurd all
kept_last [] (e ∷ net) last k all = absurd all
kept_last (j ∷ []) [] last k all = all.0
kept_last (j ∷ i ∷ kept) [] last k all = absurd all.1
kept_last (j ∷ []) (e ∷ []) last k all = absurd all.1
kept_last (j ∷ []) (e ∷ f ∷ net) last k all = absurd all.1
kept_last (j ∷ i ∷ kept) (e ∷ net) last k all =
    let back : length (j ∷ i ∷ kept) - 1 ≡ suc (length (i ∷ kept) - 1) = omega arith in
    subst (λ n. IsKept (get_or (j ∷ i ∷ kept) n k) last) (sym back) (kept_last (i ∷ kept) net last k all.1)

-- one of them marked
pub kept_mark : (kept : List DatagramParts) (net : List Datagram) (i : ℕ) (k : DatagramParts)
    → AllZip IsKept kept net → AllZip IsKept (set kept i (record (get_or kept i k) { marked = true })) (mark_at net (suc i))
kept_mark [] [] i k all = tt
kept_mark [] (d ∷ net) i k all = absurd all
kept_mark (j ∷ kept) [] i k all = absurd all
kept_mark (j ∷ kept) (d ∷ net) zero k all =
    (record { sender_is = all.0.sender_is; receiver_is = all.0.receiver_is; marked_is = refl; spells = all.0.spells }, all.1)
kept_mark (j ∷ kept) (d ∷ net) (suc i) k all = (all.0, kept_mark kept net i k all.1)

-- a number that none has
pub past_end : {X : Type 0} (xs : List X) (i : ℕ) → length xs ≤ i → slice_get xs i ≡ None
past_end [] i le = refl
past_end (x ∷ xs) zero le = absurd (omega arith)
past_end (x ∷ xs) (suc i) le = past_end xs i (omega arith)

-- no datagram has number 0, or a number past the last
pub no_number : (net : List Datagram) (n : ℕ) → (n ≡ 0) ⊎ (length net < n) → datagram_at net n ≡ None
no_number net zero none = refl
no_number net (suc i) (inl e) = absurd (omega arith)
no_number net (suc i) (inr lt) = past_end net i (omega arith)

-- a mark there changes nothing
pub mark_none : (net : List Datagram) (n : ℕ) → (n ≡ 0) ⊎ (length net < n) → mark_at net n ≡ net
mark_none [] n none = refl
mark_none (d ∷ net) zero none = refl
mark_none (d ∷ net) (suc zero) (inl e) = absurd (omega arith)
mark_none (d ∷ net) (suc zero) (inr lt) = absurd (omega arith)
mark_none (d ∷ net) (suc (suc n)) (inl e) = absurd (omega arith)
mark_none (d ∷ net) (suc (suc n)) (inr lt) = ap (λ rest. d ∷ rest) (mark_none net (suc n) (inr (omega arith)))

-- ---- the number after the marked ones at the front

after_first : (b : Bool) (front count : ℕ) → cond b (option_map suc (cond (ltb front count) (Some (suc front)) None)) (Some 1)
    ≡ cond (ltb (cond b (1 + front) 0) (suc count)) (Some (suc (cond b (1 + front) 0))) None
after_first true front count = grind (arith, nat_tests)
after_first false front count = grind (arith, nat_tests)

-- the least unmarked datagram, by how many entries are marked in front
pub least_is : (kept : List DatagramParts) (net : List Datagram) → AllZip IsKept kept net
    → least_unmarked net
    ≡ cond (ltb (prefix_len (λ k. k.marked) kept) (length kept)) (Some (suc (prefix_len (λ k. k.marked) kept))) None
least_is [] [] all = refl
least_is [] (d ∷ net) all = absurd all
least_is (k ∷ kept) [] all = absurd all
least_is (k ∷ kept) (d ∷ net) all =
    rw (← all.0.marked_is, least_is kept net all.1) (after_first k.marked _ (length kept))
