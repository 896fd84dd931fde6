-- Bytes that stand one after another in one list.
-- Needed by `Spellings::get`, `Spellings::len`, `Spellings::pop`, `Spellings::push` and `Transactions::insert_view`.
use Rattle.std.proofs.Common.{◌≡◌, ◌∙◌, ℕ, zero, suc, ◌+◌, ◌-◌, ◌≤◌, List, [], ◌∷◌, ◌++◌, length, take, drop, get_or, slice_get}
use Rattle.std.proofs.Common.{Option, Some, None, refl, sym, ap, subst, arith}
use Rattle.std.specs.Prelude.{MatchOption, slice_range}
use Rattle.std.specs.List.{PartBy}
use Rattle.std.specs.Option.{option_map, option_to_list}
use Rattle.std.proofs.lemmas.Bool.{true≢false}
use Rattle.std.proofs.lemmas.List.{length-append, length-drop, length-take-le, take-append-drop, take-append-le, drop-append-le}
use Rattle.std.proofs.Math.Seq.{take-append_seam, take-length, drop-append_seam}
use Rattle.wire.proofs.Spelled.{some_same}
use Rattle.transactions.specs.Cuts.{cuts, AreEnds}

-- ---- the last of a list

-- a list with one more at the end, without it
pub without_last : {X : Type 0} (xs : List X) (x : X) → take (length (xs ++ x ∷ []) - 1) (xs ++ x ∷ []) ≡ xs
without_last xs x =
    let e : length (xs ++ x ∷ []) ≡ length xs + 1 = length-append xs (x ∷ []) in
    let n : length (xs ++ x ∷ []) - 1 ≡ length xs = omega (arith, e) in
    ap (λ (n : ℕ). take n (xs ++ x ∷ [])) n ∙ take-append_seam xs (x ∷ [])

-- ---- ends in order

ends_within : (start : ℕ) (ends : List ℕ) (count : ℕ) → AreEnds start ends count → start ≤ count
ends_within start [] count are = omega (arith, are)
ends_within start (end ∷ ends) count are =
    let rest = ends_within end ends count are.1 in
    omega (arith, are.0, rest)

ends_grown : (start : ℕ) (ends : List ℕ) (count more : ℕ) → count ≤ more → AreEnds start ends count
    → AreEnds start (ends ++ more ∷ []) more
ends_grown start [] count more le are = (omega (arith, le, are), refl)
ends_grown start (end ∷ ends) count more le are = (are.0, ends_grown end ends count more le are.1)

-- without the last
ends_before : (start : ℕ) (ends : List ℕ) (last count : ℕ) → AreEnds start (ends ++ last ∷ []) count
    → AreEnds start ends (get_or (start ∷ ends) (length ends) 0) × (get_or (start ∷ ends) (length ends) 0 ≤ last) × (last ≡ count)
ends_before start [] last count are = (refl, are.0, are.1)
ends_before start (end ∷ ends) last count are =
    let rest = ends_before end ends last count are.1 in
    ((are.0, rest.0), rest.1, rest.2)

-- ---- the bytes of a number

-- there are as many cuts as ends
pub cuts_count : (bytes : List ℕ) (start : ℕ) (ends : List ℕ) → length (cuts bytes start ends) ≡ length ends
cuts_count bytes start [] = refl
cuts_count bytes start (end ∷ ends) = ap suc (cuts_count bytes end ends)

-- a cut begins where the one before it ends
pub cut_at : (bytes : List ℕ) (start : ℕ) (ends : List ℕ) (n end : ℕ) → slice_get ends n ≡ Some end
    → slice_get (cuts bytes start ends) n ≡ Some (slice_range bytes (get_or (start ∷ ends) n 0) end)
cut_at bytes start [] n end e = absurd (cc)
cut_at bytes start (first ∷ ends) zero end e = ap (λ (o : Option ℕ). option_map (λ to. slice_range bytes start to) o) e
cut_at bytes start (first ∷ ends) (suc n) end e = cut_at bytes first ends n end e

-- past the last end there is none
pub no_cut_at : (bytes : List ℕ) (start : ℕ) (ends : List ℕ) (n : ℕ) → length ends ≤ n → slice_get (cuts bytes start ends) n ≡ None
no_cut_at bytes start [] n le = refl
no_cut_at bytes start (first ∷ ends) zero le = absurd (omega (arith, le))
no_cut_at bytes start (first ∷ ends) (suc n) le = no_cut_at bytes first ends n (omega (arith, le))

-- each cut is within the bytes
pub cut_within : (start : ℕ) (ends : List ℕ) (count n end : ℕ) → AreEnds start ends count → slice_get ends n ≡ Some end
    → (get_or (start ∷ ends) n 0 ≤ end) × (end ≤ count)
cut_within start [] count n end are e = absurd (cc)
cut_within start (first ∷ ends) count zero end are e =
    let is : first ≡ end = some_same first end e in
    let rest = ends_within first ends count are.1 in
    (omega (arith, are.0, is), omega (arith, rest, is))
cut_within start (first ∷ ends) count (suc n) end are e = cut_within first ends count n end are.1 e

-- what `get` of a range gives
pub part_is : {X : Type 0} (now : X → List ℕ) (bytes : List ℕ) (start end : ℕ) (r : Option X) → PartBy now bytes start end r
    → start ≤ end → end ≤ length bytes → option_map now r ≡ Some (slice_range bytes start end)
part_is now bytes start end None told le within = absurd (true≢false (sym (told.1 (le, within))))
part_is now bytes start end (Some x) told le within = ap Some told.0.2

-- ---- one more

same_range : (bytes more : List ℕ) (start end : ℕ) → start ≤ end → end ≤ length bytes
    → slice_range (bytes ++ more) start end ≡ slice_range bytes start end
same_range bytes more start end le within =
    ap (take (end - start)) (drop-append-le start bytes more (omega (arith, le, within)))
    ∙ take-append-le (end - start) (drop start bytes) more (omega (arith, le, within, length-drop start bytes))

last_range : (bytes more : List ℕ) (start : ℕ) → start ≡ length bytes
    → slice_range (bytes ++ more) start (length (bytes ++ more)) ≡ more
last_range bytes more start at =
    ap (λ (n : ℕ). take (length (bytes ++ more) - n) (drop n (bytes ++ more))) at
    ∙ ap (take (length (bytes ++ more) - length bytes)) (drop-append_seam bytes more)
    ∙ (let e : length (bytes ++ more) ≡ length bytes + length more = length-append bytes more in
    let n : length (bytes ++ more) - length bytes ≡ length more = omega (arith, e) in
    ap (λ (n : ℕ). take n more) n ∙ take-length more)

cuts_grown : (bytes more : List ℕ) (start : ℕ) (ends : List ℕ) → AreEnds start ends (length bytes)
    → cuts (bytes ++ more) start (ends ++ length (bytes ++ more) ∷ []) ≡ cuts bytes start ends ++ more ∷ []
cuts_grown bytes more start [] are = ap (λ (last : List ℕ). last ∷ []) (last_range bytes more start are)
cuts_grown bytes more start (end ∷ ends) are =
    λ k. same_range bytes more start end are.0 (ends_within end ends (length bytes) are.1) k ∷ cuts_grown bytes more end ends are.1 k

module _ (bytes more bytes_now ends ends_now : List ℕ) (last : ℕ) (are : AreEnds 0 ends (length bytes)) (all : bytes_now ≡ bytes ++ more)
    (at_end : last ≡ length bytes_now) (now : ends_now ≡ ends ++ last ∷ []) where
  put_now : ends_now ≡ ends ++ length (bytes ++ more) ∷ []
  put_now = now ∙ ap (λ (n : ℕ). ends ++ n ∷ []) (at_end ∙ ap length all)

  -- with one cut more, the ends are still ends
  pub ends_pushed : AreEnds 0 ends_now (length bytes_now)
  ends_pushed =
      let longer : length bytes ≤ length (bytes ++ more) = omega (arith, length-append bytes more) in
      subst (λ es. AreEnds 0 es (length bytes_now)) (sym put_now)
      (subst (AreEnds 0 (ends ++ length (bytes ++ more) ∷ [])) (sym (ap length all))
      (ends_grown 0 ends (length bytes) (length (bytes ++ more)) longer are))

  -- and the cuts are one more
  pub cuts_pushed : cuts bytes_now 0 ends_now ≡ cuts bytes 0 ends ++ more ∷ []
  cuts_pushed = (λ k. cuts (all k) 0 (put_now k)) ∙ cuts_grown bytes more 0 ends are

-- ---- one less

-- where the last begins
abbrev pub last_start : List ℕ → ℕ
last_start ends_now = get_or (0 ∷ ends_now) (length ends_now) 0

module _ (bytes ends_now : List ℕ) (last : ℕ) (are : AreEnds 0 (ends_now ++ last ∷ []) (length bytes)) where
  start_within : last_start ends_now ≤ length bytes
  start_within =
      let before = ends_before 0 ends_now last (length bytes) are in
      omega (arith, before.1, before.2)

  kept_len : length (take (last_start ends_now) bytes) ≡ last_start ends_now
  kept_len = length-take-le (last_start ends_now) bytes start_within

  ends_kept : AreEnds 0 ends_now (length (take (last_start ends_now) bytes))
  ends_kept = subst (AreEnds 0 ends_now) (sym kept_len) (ends_before 0 ends_now last (length bytes) are).0

  cuts_split : cuts bytes 0 (ends_now ++ last ∷ [])
      ≡ cuts (take (last_start ends_now) bytes) 0 ends_now ++ drop (last_start ends_now) bytes ∷ []
  cuts_split =
      let whole = sym (take-append-drop (last_start ends_now) bytes) in
      let at_end = (ends_before 0 ends_now last (length bytes) are).2 ∙ ap length whole in
      (λ k. cuts (whole k) 0 (ends_now ++ at_end k ∷ []))
      ∙ cuts_grown (take (last_start ends_now) bytes) (drop (last_start ends_now) bytes) 0 ends_now ends_kept

  cuts_less : cuts (take (last_start ends_now) bytes) 0 ends_now
      ≡ take (length (cuts bytes 0 (ends_now ++ last ∷ [])) - 1) (cuts bytes 0 (ends_now ++ last ∷ []))
  cuts_less =
      sym (without_last (cuts (take (last_start ends_now) bytes) 0 ends_now) (drop (last_start ends_now) bytes))
      ∙ (λ k. take (length (sym cuts_split k) - 1) (sym cuts_split k))

module _ (bytes ends : List ℕ) (are : AreEnds 0 ends (length bytes)) (len_old len : ℕ) where
  -- without the last one, the cuts are one less
  pub cuts_popped : (ends_now : List ℕ) (popped : Option ℕ) → ends ≡ ends_now ++ option_to_list popped → length ends_now ≡ len
      → MatchOption popped ((len_old ≡ 0) × (len ≡ 0)) (λ _. len + 1 ≡ len_old)
      → cuts (take (last_start ends_now) bytes) 0 ends_now ≡ take (length (cuts bytes 0 ends) - 1) (cuts bytes 0 ends)
  cuts_popped [] None split count counts = λ k. take (length (cuts bytes 0 (sym split k)) - 1) (cuts bytes 0 (sym split k))
  cuts_popped (end ∷ ends_now) None split count counts = absurd (omega (arith, count, counts.1))
  cuts_popped ends_now (Some last) split count counts =
      cuts_less bytes ends_now last (subst (λ es. AreEnds 0 es (length bytes)) split are)
      ∙ (λ k. take (length (cuts bytes 0 (sym split k)) - 1) (cuts bytes 0 (sym split k)))

  -- and the ends are still ends
  pub ends_popped : (ends_now : List ℕ) (popped : Option ℕ) → ends ≡ ends_now ++ option_to_list popped → length ends_now ≡ len
      → MatchOption popped ((len_old ≡ 0) × (len ≡ 0)) (λ _. len + 1 ≡ len_old)
      → AreEnds 0 ends_now (length (take (last_start ends_now) bytes))
  ends_popped [] None split count counts = refl
  ends_popped (end ∷ ends_now) None split count counts = absurd (omega (arith, count, counts.1))
  ends_popped ends_now (Some last) split count counts =
      ends_kept bytes ends_now last (subst (λ es. AreEnds 0 es (length bytes)) split are)
