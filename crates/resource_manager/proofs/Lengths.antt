-- What a resource manager writes of transactions is no longer than the entries that it stands in the place of.
-- Needed by Alike and Shortened; crate node_core.
use Rattle.std.proofs.Common.{◌≡◌, ◌∙◌, ℕ, ◌+◌, ◌≤◌, Bool, true, false, ◌||◌, List, [], ◌∷◌, ◌++◌, length, map, sum, Option, Some, None}
use Rattle.std.proofs.Common.{refl, sym, ap, subst, append_assoc, append-nil, arith, filter_map}
use Rattle.std.specs.Prelude.{filter, find, is_some, if◌then◌else◌}
use Rattle.std.specs.List.{AllByRecursion, IsDistinct, cons_option, flat_map, list_any}
use Rattle.std.specs.Option.{option_map_or}
use Rattle.std.proofs.lemmas.Bool.{true≢false}
use Rattle.std.proofs.lemmas.List.Elements.{filter-append, filter_map-append}
use Rattle.std.proofs.lemmas.List.Sums.{sum_by-cons}
use Rattle.std.proofs.lemmas.Map.Keys.{IsDistinct-head, IsDistinct-tail}
use Rattle.xid.specs.Transactions.{TxParts, tx_eq}
use Rattle.xid.specs.declared.transaction.Vote.{Vote}
use Rattle.xid.proofs.Deciding.{tx_self, tx_decides}
use Rattle.wire.specs.Grammar.{tx_spelling}
use Rattle.wire.specs.Versions.{version_2}
use Rattle.stable_record.specs.declared.entry.EntryKind.{EntryKind as Entry}
use Rattle.stable_record.specs.declared.entry.EntryKind.TheVariants as entries
use Rattle.stable_record.specs.declared.fact.FactKind.{FactKind as Fact}
use Rattle.stable_record.specs.declared.fact.Touched.{Touched}
use Rattle.stable_record.specs.Facts.{fact_tx}
use Rattle.stable_record.specs.Grammar.{frame}
use Rattle.stable_record.proofs.Lengths.{frame_has, fact_frame_has}
use Rattle.transactions.specs.Seen.{seen_with}
use Rattle.transactions.proofs.First.{fold_both, fold_same, first_once}
use Rattle.protocol.specs.declared.rows.Row.{Row}
use Rattle.protocol.specs.Facts.{Bound, branch_bound_by, is_vote_of, is_commit_of, is_abort_of}
use Rattle.protocol.specs.Tables.{keys_voted}
use Rattle.resource_manager.specs.declared.course.Course.{Course}
use Rattle.resource_manager.specs.Courses.{Stored, stored_in, stored_by, begun_in}
use Rattle.resource_manager.specs.Compacted.{about_length, entry_of, facts_of, is_about_tx, row_entry, shorter_entries}
use Rattle.resource_manager.proofs.Begun.{any_begun}
use Rattle.resource_manager.proofs.More.{FailsTests, fails, own}

-- ---- lengths

abbrev entry_length : Entry → ℕ
entry_length entry = length (frame version_2 entry)

-- the length of the frames of entries
abbrev lengths : List Entry → ℕ
lengths [] = 0
lengths (entry ∷ all) = entry_length entry + lengths all

lengths_both : (xs ys : List Entry) → lengths (xs ++ ys) ≡ lengths xs + lengths ys
lengths_both [] ys = omega arith
lengths_both (x ∷ xs) ys = omega (arith, lengths_both xs ys)

lengths_sum : (all : List Entry) → sum (map entry_length all) ≡ lengths all
lengths_sum [] = refl
lengths_sum (entry ∷ all) =
    let whole : sum (map entry_length (entry ∷ all)) ≡ entry_length entry + sum (map entry_length all) =
    sum_by-cons (λ (n : ℕ). n) (entry_length entry) (map entry_length all) in
    whole ∙ ap (λ n. entry_length entry + n) (lengths_sum all)

-- that of an entry, where there is one
abbrev kept_length : Option Entry → ℕ
kept_length None = 0
kept_length (Some entry) = entry_length entry

kept_then : (o : Option Entry) (all : List Entry) → lengths (cons_option o all) ≡ kept_length o + lengths all
kept_then None all = omega arith
kept_then (Some entry) all = refl

-- an entry that is a transaction alone
abbrev least_length : TxParts → ℕ
least_length tx = 6 + length (tx_spelling version_2 tx)

past_commit : (tx : TxParts) → entry_length (entries.PastCommitted tx) ≡ least_length tx
past_commit tx = omega (arith, frame_has version_2 (entries.PastCommitted tx))

past_abort : (tx : TxParts) → entry_length (entries.PastAborted tx) ≡ least_length tx
past_abort tx = omega (arith, frame_has version_2 (entries.PastAborted tx))

-- a fact has its transaction
fact_least : (f : Fact) → least_length (fact_tx f) ≤ entry_length (entries.Fact f)
fact_least f = omega (arith, fact_frame_has version_2 f)

abort : (tx : TxParts) → entry_length (entries.Fact (Fact.Aborted tx)) ≡ least_length tx
abort tx = omega (arith, fact_frame_has version_2 (Fact.Aborted tx))

commit : (tx : TxParts) → entry_length (entries.Fact (Fact.Committed tx)) ≡ least_length tx
commit tx = omega (arith, fact_frame_has version_2 (Fact.Committed tx))

-- ---- the keys of a vote

-- the first of two
abbrev pub first_of : Option Bound → Option Bound → Option Bound
first_of None second = second
first_of (Some bound) second = Some bound

-- the keys that a bound branch has, if there is one
abbrev pub keys_of : Option Bound → List Touched
keys_of o = option_map_or (λ (bound : Bound). bound.keys) o []

module _ (tx : TxParts) where
  -- the first prepared vote on a transaction
  abbrev pub found : List Fact → Option Bound
  found facts = find (λ bound. tx_eq tx bound.tx) (filter_map branch_bound_by facts)

  found_both : (xs ys : List Bound) → find (λ bound. tx_eq tx bound.tx) (xs ++ ys)
      ≡ first_of (find (λ bound. tx_eq tx bound.tx) xs) (find (λ bound. tx_eq tx bound.tx) ys)
  found_both [] ys = refl
  found_both (x ∷ xs) ys = by (tx_eq tx x.tx) (found_both xs ys)
    where
      by : (t : Bool) → find (λ bound. tx_eq tx bound.tx) (xs ++ ys)
          ≡ first_of (find (λ bound. tx_eq tx bound.tx) xs) (find (λ bound. tx_eq tx bound.tx) ys)
          → (if t then Some x else find (λ bound. tx_eq tx bound.tx) (xs ++ ys))
          ≡ first_of (if t then Some x else find (λ bound. tx_eq tx bound.tx) xs) (find (λ bound. tx_eq tx bound.tx) ys)
      by true rest = refl
      by false rest = rest

  -- what is found first among two lists of facts
  pub found_more : (facts more : List Fact) → found (facts ++ more) ≡ first_of (found facts) (found more)
  found_more facts more =
      ap (find (λ bound. tx_eq tx bound.tx)) (filter_map-append branch_bound_by facts more)
      ∙ found_both (filter_map branch_bound_by facts) (filter_map branch_bound_by more)

  -- it is there where one is stored
  pub found_voted : (facts : List Fact) → list_any (is_vote_of tx Vote.Prepared) facts ≡ is_some (found facts)
  found_voted [] = refl
  found_voted (Fact.VotePrepared other keys ∷ facts) = by (tx_eq tx other) (found_voted facts)
    where
      by : (t : Bool) → list_any (is_vote_of tx Vote.Prepared) facts ≡ is_some (found facts)
          → (t || list_any (is_vote_of tx Vote.Prepared) facts)
          ≡ is_some (if t then Some (record { tx = other; keys = keys }) else found facts)
      by true rest = refl
      by false rest = rest
  found_voted (Fact.Promise other i b ∷ facts) = found_voted facts
  found_voted (Fact.Accept other i b v ∷ facts) = found_voted facts
  found_voted (Fact.PromiseAll other b ∷ facts) = found_voted facts
  found_voted (Fact.Ballot other b ∷ facts) = found_voted facts
  found_voted (Fact.VoteAborted other ∷ facts) = found_voted facts
  found_voted (Fact.Committed other ∷ facts) = found_voted facts
  found_voted (Fact.Aborted other ∷ facts) = found_voted facts

  first_none : (o : Option Bound) → first_of o None ≡ o
  first_none None = refl
  first_none (Some bound) = refl

  found_other : (facts : List Fact) (fact : Fact) → is_vote_of tx Vote.Prepared fact ≡ false → found (facts ++ fact ∷ []) ≡ found facts
  found_other facts fact e = found_more facts (fact ∷ []) ∙ ap (first_of (found facts)) (none fact e) ∙ first_none (found facts)
    where
      none : (f : Fact) → is_vote_of tx Vote.Prepared f ≡ false → found (f ∷ []) ≡ None
      none (Fact.VotePrepared other keys) e =
          ap (λ (t : Bool). if t then Some (record { tx = other; keys = keys }) else None) e
      none (Fact.Promise other i b) e = refl
      none (Fact.Accept other i b v) e = refl
      none (Fact.PromiseAll other b) e = refl
      none (Fact.Ballot other b) e = refl
      none (Fact.VoteAborted other) e = refl
      none (Fact.Committed other) e = refl
      none (Fact.Aborted other) e = refl

-- ---- one transaction

-- what is kept of a transaction
abbrev pub kept_of : List Fact → TxParts → Option Entry
kept_of facts tx = entry_of tx (stored_in facts tx) (keys_voted facts tx)

-- the same by what is stored
abbrev length_by : TxParts → (voted refused committed aborted : Bool) → List Touched → ℕ
length_by tx p v c a keys =
    kept_length (entry_of tx (record { voted_prepared = p; voted_aborted = v; committed = c; aborted = a }) keys)

module _ (tx : TxParts) where
  -- a vote prepared more
  prepared_by : (keys : List Touched) (o : Option Bound) (v c a : Bool)
      → length_by tx (is_some o || (true || false)) (v || (false || false)) (c || (false || false)) (a || (false || false))
      (keys_of (first_of o (Some (record { tx = tx; keys = keys }))))
      ≤ length_by tx (is_some o) v c a (keys_of o) + entry_length (entries.Fact (Fact.VotePrepared tx keys))
  prepared_by keys o v true a = omega (arith, past_commit tx)
  prepared_by keys None v false true = omega (arith, past_abort tx, fact_least (Fact.VotePrepared tx keys))
  prepared_by keys (Some bound) v false true = omega (arith, past_abort tx)
  prepared_by keys None v false false = omega arith
  prepared_by keys (Some bound) v false false = omega arith

  -- a vote aborted more
  refused_by : (keys : List Touched) (p v c a : Bool)
      → length_by tx (p || (false || false)) (v || (true || false)) (c || (false || false)) (a || (false || false)) keys
      ≤ length_by tx p v c a keys + entry_length (entries.Fact (Fact.VoteAborted tx))
  refused_by keys p v true a = omega arith
  refused_by keys true v false true = omega arith
  refused_by keys true v false false = omega arith
  refused_by keys false true false a = omega arith
  refused_by keys false false false a = omega arith

  -- a commit more
  committed_by : (keys others : List Touched) (p v c a : Bool)
      → length_by tx (p || (false || false)) (v || (false || false)) (c || (true || false)) (a || (false || false)) keys
      ≤ length_by tx p v c a others + entry_length (entries.Fact (Fact.Committed tx))
  committed_by keys others p v true a = omega (arith, past_commit tx, commit tx)
  committed_by keys others p v false a = omega (arith, past_commit tx, commit tx)

  -- an abort more
  aborted_by : (keys : List Touched) (p v c a : Bool)
      → length_by tx (p || (false || false)) (v || (false || false)) (c || (false || false)) (a || (true || false)) keys
      ≤ length_by tx p v c a keys + entry_length (entries.Fact (Fact.Aborted tx))
  aborted_by keys p v true a = omega arith
  aborted_by keys true v false true = omega arith
  aborted_by keys true v false false = omega (arith, past_abort tx, abort tx)
  aborted_by keys false true false a = omega arith
  aborted_by keys false false false true = omega arith
  aborted_by keys false false false false = omega (arith, past_abort tx, abort tx)

module _ (facts : List Fact) (tx : TxParts) where
  abbrev stored : Stored
  stored = stored_in facts tx

  -- what is stored once a fact is, by its tests
  after_by : (fact : Fact) (p v c a : Bool) → is_vote_of tx Vote.Prepared fact ≡ p → is_vote_of tx Vote.Aborted fact ≡ v
      → is_commit_of tx fact ≡ c → is_abort_of tx fact ≡ a
      → kept_length (kept_of (facts ++ fact ∷ []) tx)
      ≡ length_by tx (stored.voted_prepared || (p || false)) (stored.voted_aborted || (v || false)) (stored.committed || (c || false))
      (stored.aborted || (a || false)) (keys_of (found tx (facts ++ fact ∷ [])))
  after_by fact p v c a e f g h =
      ap (λ s. kept_length (entry_of tx s (keys_voted (facts ++ fact ∷ []) tx))) (own facts fact tx stored p v c a refl e f g h)

  -- one that fails each leaves what is kept
  nothing_more : (fact : Fact) → FailsTests tx fact → kept_of (facts ++ fact ∷ []) tx ≡ kept_of facts tx
  nothing_more fact none =
      (λ k. entry_of tx
      (own facts fact tx stored false false false false refl none.voted_prepared none.voted_aborted none.committed none.aborted k)
      (keys_of (found_other tx facts fact none.voted_prepared k)))
      ∙ (λ k. entry_of tx (record {
        voted_prepared = or_none stored.voted_prepared k;
        voted_aborted = or_none stored.voted_aborted k;
        committed = or_none stored.committed k;
        aborted = or_none stored.aborted k;
      }) (keys_voted facts tx))
    where
      or_none : (b : Bool) → (b || (false || false)) ≡ b
      or_none true = refl
      or_none false = refl

  prepared_step : (keys : List Touched) → kept_length (kept_of (facts ++ Fact.VotePrepared tx keys ∷ []) tx)
      ≤ kept_length (kept_of facts tx) + entry_length (entries.Fact (Fact.VotePrepared tx keys))
  prepared_step keys =
      let fact = Fact.VotePrepared tx keys in
      let voted = found_voted tx facts in
      let one : found tx (fact ∷ []) ≡ Some (record { tx = tx; keys = keys }) =
      ap (λ (t : Bool). if t then Some (record { tx = tx; keys = keys }) else None) (tx_self tx) in
      let later =
      after_by fact true false false false (tx_self tx) refl refl refl
      ∙ (λ k. length_by tx (voted k || (true || false)) (stored.voted_aborted || (false || false)) (stored.committed || (false || false))
      (stored.aborted || (false || false)) (keys_of (found_more tx facts (fact ∷ []) k)))
      ∙ (λ k. length_by tx (is_some (found tx facts) || (true || false)) (stored.voted_aborted || (false || false))
      (stored.committed || (false || false)) (stored.aborted || (false || false)) (keys_of (first_of (found tx facts) (one k)))) in
      let now : kept_length (kept_of facts tx)
      ≡ length_by tx (is_some (found tx facts)) stored.voted_aborted stored.committed stored.aborted (keys_of (found tx facts)) =
      λ k. length_by tx (voted k) stored.voted_aborted stored.committed stored.aborted (keys_of (found tx facts)) in
      omega (arith, later, now, prepared_by tx keys (found tx facts) stored.voted_aborted stored.committed stored.aborted)

  -- the keys where no vote prepared is stored
  keys_left : (fact : Fact) (p v c a : Bool) → is_vote_of tx Vote.Prepared fact ≡ false
      → length_by tx p v c a (keys_of (found tx (facts ++ fact ∷ []))) ≡ length_by tx p v c a (keys_voted facts tx)
  keys_left fact p v c a e = ap (λ o. length_by tx p v c a (keys_of o)) (found_other tx facts fact e)

  refused_step : kept_length (kept_of (facts ++ Fact.VoteAborted tx ∷ []) tx)
      ≤ kept_length (kept_of facts tx) + entry_length (entries.Fact (Fact.VoteAborted tx))
  refused_step =
      let later = after_by (Fact.VoteAborted tx) false true false false refl (tx_self tx) refl refl ∙ keys_left (Fact.VoteAborted tx)
      (stored.voted_prepared || (false || false)) (stored.voted_aborted || (true || false)) (stored.committed || (false || false))
      (stored.aborted || (false || false)) refl in
      omega (arith, later, refused_by tx (keys_voted facts tx) stored.voted_prepared stored.voted_aborted stored.committed stored.aborted)

  committed_step : kept_length (kept_of (facts ++ Fact.Committed tx ∷ []) tx)
      ≤ kept_length (kept_of facts tx) + entry_length (entries.Fact (Fact.Committed tx))
  committed_step =
      let later = after_by (Fact.Committed tx) false false true false refl refl (tx_self tx) refl ∙ keys_left (Fact.Committed tx)
      (stored.voted_prepared || (false || false)) (stored.voted_aborted || (false || false)) (stored.committed || (true || false))
      (stored.aborted || (false || false)) refl in
      omega (
        arith,
        later,
        committed_by tx (keys_voted facts tx) (keys_voted facts tx) stored.voted_prepared stored.voted_aborted stored.committed
            stored.aborted,
      )

  aborted_step : kept_length (kept_of (facts ++ Fact.Aborted tx ∷ []) tx)
      ≤ kept_length (kept_of facts tx) + entry_length (entries.Fact (Fact.Aborted tx))
  aborted_step =
      let later = after_by (Fact.Aborted tx) false false false true refl refl refl (tx_self tx) ∙ keys_left (Fact.Aborted tx)
      (stored.voted_prepared || (false || false)) (stored.voted_aborted || (false || false)) (stored.committed || (false || false))
      (stored.aborted || (true || false)) refl in
      omega (arith, later, aborted_by tx (keys_voted facts tx) stored.voted_prepared stored.voted_aborted stored.committed stored.aborted)

-- a fact lengthens what is kept of its transaction by its own frame at most
own_step : (facts : List Fact) (fact : Fact) → kept_length (kept_of (facts ++ fact ∷ []) (fact_tx fact))
    ≤ kept_length (kept_of facts (fact_tx fact)) + entry_length (entries.Fact fact)
own_step facts (Fact.VotePrepared tx keys) = prepared_step facts tx keys
own_step facts (Fact.VoteAborted tx) = refused_step facts tx
own_step facts (Fact.Committed tx) = committed_step facts tx
own_step facts (Fact.Aborted tx) = aborted_step facts tx
own_step facts (Fact.Promise tx i b) =
    let same = ap kept_length (nothing_more facts tx (Fact.Promise tx i b) none) in omega (arith, same)
  where
    none : FailsTests tx (Fact.Promise tx i b)
    none = record { voted_prepared = refl; voted_aborted = refl; committed = refl; aborted = refl }
own_step facts (Fact.Accept tx i b v) =
    let same = ap kept_length (nothing_more facts tx (Fact.Accept tx i b v) none) in omega (arith, same)
  where
    none : FailsTests tx (Fact.Accept tx i b v)
    none = record { voted_prepared = refl; voted_aborted = refl; committed = refl; aborted = refl }
own_step facts (Fact.PromiseAll tx b) =
    let same = ap kept_length (nothing_more facts tx (Fact.PromiseAll tx b) none) in omega (arith, same)
  where
    none : FailsTests tx (Fact.PromiseAll tx b)
    none = record { voted_prepared = refl; voted_aborted = refl; committed = refl; aborted = refl }
own_step facts (Fact.Ballot tx b) =
    let same = ap kept_length (nothing_more facts tx (Fact.Ballot tx b) none) in omega (arith, same)
  where
    none : FailsTests tx (Fact.Ballot tx b)
    none = record { voted_prepared = refl; voted_aborted = refl; committed = refl; aborted = refl }

-- and leaves what is kept of others
other_same : (facts : List Fact) (fact : Fact) (other : TxParts) → tx_eq other (fact_tx fact) ≡ false
    → kept_of (facts ++ fact ∷ []) other ≡ kept_of facts other
other_same facts fact other e = nothing_more facts other fact (fails other fact e)

-- ---- some transactions

-- where what is kept of all but one stays
module _ (before after : TxParts → Option Entry) (tx : TxParts) (more : ℕ)
    (others : (other : TxParts) → tx_eq other tx ≡ false → after other ≡ before other)
    (this : kept_length (after tx) ≤ kept_length (before tx) + more) where
  turned : (y : TxParts) → tx_eq tx y ≡ false → tx_eq y tx ≡ false
  turned y e = by (tx_eq y tx) refl
    where
      by : (t : Bool) → tx_eq y tx ≡ t → t ≡ false
      by true same = absurd (true≢false (sym ((tx_decides tx y).1 (sym ((tx_decides y tx).0 same))) ∙ e))
      by false same = refl

  others_same : (txs : List TxParts) → AllByRecursion (λ y. tx_eq tx y ≡ false) txs → filter_map after txs ≡ filter_map before txs
  others_same [] each = refl
  others_same (y ∷ ys) each = λ k. cons_option (others y (turned y each.0) k) (others_same ys each.1 k)

  grows : (txs : List TxParts) → IsDistinct tx_eq txs → lengths (filter_map after txs) ≤ lengths (filter_map before txs) + more
  grows [] once = omega arith
  grows (y ∷ ys) once = by (tx_eq y tx) refl (grows ys (IsDistinct-tail tx_eq y ys once))
    where
      by : (t : Bool) → tx_eq y tx ≡ t → lengths (filter_map after ys) ≤ lengths (filter_map before ys) + more
          → lengths (filter_map after (y ∷ ys)) ≤ lengths (filter_map before (y ∷ ys)) + more
      by true e left =
          let now = kept_then (before y) (filter_map before ys) in
          let later = kept_then (after y) (filter_map after ys) in
          let same : y ≡ tx = (tx_decides y tx).0 e in
          let rest = ap lengths
          (others_same ys (subst (λ (x : TxParts). AllByRecursion (λ z. tx_eq x z ≡ false) ys) same (IsDistinct-head tx_eq y ys once))) in
          let one = subst (λ (x : TxParts). kept_length (after x) ≤ kept_length (before x) + more) (sym same) this in
          omega (arith, now, later, rest, one)
      by false e left =
          let now = kept_then (before y) (filter_map before ys) in
          let later = kept_then (after y) (filter_map after ys) in
          let one = ap kept_length (others y e) in
          omega (arith, now, later, one, left)

-- of a transaction that hasn't begun nothing is kept
none_kept : (facts : List Fact) (tx : TxParts) → list_any (λ f. tx_eq tx (fact_tx f)) facts ≡ false → kept_of facts tx ≡ None
none_kept facts tx none = ap (λ s. entry_of tx s (keys_voted facts tx)) (nothing_stored facts none)
  where
    not_first : (a b : Bool) → (a || b) ≡ false → (a ≡ false) × (b ≡ false)
    not_first false b e = (refl, e)
    not_first true b e = absurd (true≢false e)

    nothing_stored : (fs : List Fact) → list_any (λ f. tx_eq tx (fact_tx f)) fs ≡ false → stored_in fs tx ≡ stored_by Course.Working
    nothing_stored [] e = refl
    nothing_stored (f ∷ fs) e =
        let parts = not_first (tx_eq tx (fact_tx f)) (list_any (λ g. tx_eq tx (fact_tx g)) fs) e in
        let this = fails tx f parts.0 in
        (λ k. record {
          voted_prepared = this.voted_prepared k || list_any (is_vote_of tx Vote.Prepared) fs;
          voted_aborted = this.voted_aborted k || list_any (is_vote_of tx Vote.Aborted) fs;
          committed = this.committed k || list_any (is_commit_of tx) fs;
          aborted = this.aborted k || list_any (is_abort_of tx) fs;
        })
        ∙ nothing_stored fs parts.1

-- what is kept of all that have begun
abbrev outcomes : List Fact → List Entry
outcomes facts = filter_map (kept_of facts) (begun_in facts)

seen_same : (facts : List Fact) (tx : TxParts)
    → lengths (filter_map (kept_of facts) (seen_with (begun_in facts) tx)) ≤ lengths (outcomes facts)
seen_same facts tx = by (list_any (tx_eq tx) (begun_in facts)) refl
  where
    by : (t : Bool) → list_any (tx_eq tx) (begun_in facts) ≡ t
        → lengths (filter_map (kept_of facts) (if t then begun_in facts else begun_in facts ++ tx ∷ [])) ≤ lengths (outcomes facts)
    by true e = omega arith
    by false e =
        let none = ap kept_length (none_kept facts tx (sym (any_begun (tx_eq tx) facts) ∙ e)) in
        let both = ap lengths (filter_map-append (kept_of facts) (begun_in facts) (tx ∷ [])) in
        omega (
          arith,
          both,
          lengths_both (outcomes facts) (cons_option (kept_of facts tx) []),
          kept_then (kept_of facts tx) [],
          none,
        )

-- some facts more, all of one transaction
more_kept : (facts : List Fact) (fact : Fact) (rest : List Fact) (tx : TxParts) (more : ℕ) → fact_tx fact ≡ tx
    → AllByRecursion (λ f. fact_tx f ≡ tx) rest
    → ((other : TxParts) → tx_eq other tx ≡ false → kept_of (facts ++ fact ∷ rest) other ≡ kept_of facts other)
    → kept_length (kept_of (facts ++ fact ∷ rest) tx) ≤ kept_length (kept_of facts tx) + more
    → lengths (outcomes (facts ++ fact ∷ rest)) ≤ lengths (outcomes facts) + more
more_kept facts fact rest tx more is each others this =
    let begun : begun_in (facts ++ fact ∷ rest) ≡ seen_with (begun_in facts) tx =
    fold_both fact_tx [] facts (fact ∷ rest) ∙ fold_same fact_tx (begun_in facts) tx fact rest is each in
    let seen = ap (λ txs. lengths (filter_map (kept_of facts) txs)) begun in
    omega (
      arith,
      grows (kept_of facts) (kept_of (facts ++ fact ∷ rest)) tx more others this (begun_in (facts ++ fact ∷ rest))
          (first_once fact_tx (facts ++ fact ∷ rest)),
      seen,
      seen_same facts tx,
    )

-- ---- entries one after the other

-- an outcome of the past: a vote prepared with no keys, and the outcome, of which no more is kept than the outcome
past_kept : (facts : List Fact) (tx : TxParts) (fact : Fact) → fact_tx fact ≡ tx
    → ((before : List Fact) → (stored_in before tx).voted_prepared ≡ true
    → kept_length (kept_of (before ++ fact ∷ []) tx) ≤ least_length tx)
    → lengths (outcomes (facts ++ Fact.VotePrepared tx [] ∷ fact ∷ [])) ≤ lengths (outcomes facts) + least_length tx
past_kept facts tx fact is own_length =
    more_kept facts (Fact.VotePrepared tx []) (fact ∷ []) tx (least_length tx) refl (is, tt) others (omega (arith, here))
  where
    before : List Fact
    before = facts ++ Fact.VotePrepared tx [] ∷ []

    split : before ++ fact ∷ [] ≡ facts ++ Fact.VotePrepared tx [] ∷ fact ∷ []
    split = append_assoc facts (Fact.VotePrepared tx [] ∷ []) (fact ∷ [])

    others : (other : TxParts) → tx_eq other tx ≡ false
        → kept_of (facts ++ Fact.VotePrepared tx [] ∷ fact ∷ []) other ≡ kept_of facts other
    others other e =
        ap (λ (fs : List Fact). kept_of fs other) (sym split)
        ∙ other_same before fact other (ap (tx_eq other) is ∙ e)
        ∙ other_same facts (Fact.VotePrepared tx []) other e

    voted : (stored_in before tx).voted_prepared ≡ true
    voted =
        ap (λ (s : Stored). s.voted_prepared)
        (own facts (Fact.VotePrepared tx []) tx (stored_in facts tx) true false false false refl (tx_self tx) refl refl refl)
        ∙ or_yes (stored_in facts tx).voted_prepared
      where
        or_yes : (b : Bool) → (b || (true || false)) ≡ true
        or_yes true = refl
        or_yes false = refl

    here : kept_length (kept_of (facts ++ Fact.VotePrepared tx [] ∷ fact ∷ []) tx) ≤ least_length tx
    here = subst (λ (fs : List Fact). kept_length (kept_of fs tx) ≤ least_length tx) split (own_length before voted)

past_committed : (tx : TxParts) (before : List Fact) → (stored_in before tx).voted_prepared ≡ true
    → kept_length (kept_of (before ++ Fact.Committed tx ∷ []) tx) ≤ least_length tx
past_committed tx before voted =
    let later = after_by before tx (Fact.Committed tx) false false true false refl refl (tx_self tx) refl in
    omega (arith, later, by (stored_in before tx).committed)
  where
    by : (c : Bool)
        → length_by tx ((stored_in before tx).voted_prepared || (false || false)) ((stored_in before tx).voted_aborted || (false || false))
        (c || (true || false)) ((stored_in before tx).aborted || (false || false))
        (keys_of (found tx (before ++ Fact.Committed tx ∷ []))) ≤ least_length tx
    by true = omega (arith, past_commit tx)
    by false = omega (arith, past_commit tx)

past_aborted : (tx : TxParts) (before : List Fact) → (stored_in before tx).voted_prepared ≡ true
    → kept_length (kept_of (before ++ Fact.Aborted tx ∷ []) tx) ≤ least_length tx
past_aborted tx before voted =
    let later = after_by before tx (Fact.Aborted tx) false false false true refl refl refl (tx_self tx) in
    omega (arith, later, by (stored_in before tx).voted_prepared (stored_in before tx).committed (stored_in before tx).aborted voted)
  where
    by : (p c a : Bool) → p ≡ true → length_by tx (p || (false || false)) ((stored_in before tx).voted_aborted || (false || false))
        (c || (false || false)) (a || (true || false)) (keys_of (found tx (before ++ Fact.Aborted tx ∷ []))) ≤ least_length tx
    by true true a e = omega (arith, past_commit tx)
    by true false true e = omega (arith, past_abort tx)
    by true false false e = omega (arith, past_abort tx)
    by false c a e = absurd (true≢false (sym e))

-- an entry lengthens what is kept by its own frame at most
entry_step : (facts : List Fact) (entry : Entry)
    → lengths (outcomes (facts ++ facts_of entry)) ≤ lengths (outcomes facts) + lengths (filter is_about_tx (entry ∷ []))
entry_step facts (entries.Fact fact) =
    let one =
    more_kept facts fact [] (fact_tx fact) (entry_length (entries.Fact fact)) refl tt (other_same facts fact) (own_step facts fact) in
    omega (arith, one)
entry_step facts entries.Snapshot = let same = ap (λ (fs : List Fact). lengths (outcomes fs)) (append-nil facts) in omega (arith, same)
entry_step facts (entries.Row key value) =
    let same = ap (λ (fs : List Fact). lengths (outcomes fs)) (append-nil facts) in omega (arith, same)
entry_step facts (entries.PastCommitted tx) =
    omega (arith, past_commit tx, past_kept facts tx (Fact.Committed tx) refl (past_committed tx))
entry_step facts (entries.PastAborted tx) =
    omega (arith, past_abort tx, past_kept facts tx (Fact.Aborted tx) refl (past_aborted tx))

all_steps : (facts : List Fact) (more : List Entry)
    → lengths (outcomes (facts ++ flat_map facts_of more)) ≤ lengths (outcomes facts) + lengths (filter is_about_tx more)
all_steps facts [] = let same = ap (λ (fs : List Fact). lengths (outcomes fs)) (append-nil facts) in omega (arith, same)
all_steps facts (entry ∷ more) =
    let same = ap (λ (fs : List Fact). lengths (outcomes fs)) (append_assoc facts (facts_of entry) (flat_map facts_of more)) in
    let parts = ap lengths (filter-append is_about_tx (entry ∷ []) more) in
    omega (
      arith,
      same,
      parts,
      lengths_both (filter is_about_tx (entry ∷ [])) (filter is_about_tx more),
      entry_step facts entry,
      all_steps (facts ++ facts_of entry) more,
    )

-- ---- what is said of transactions

about_kept : (tx : TxParts) (p v c a : Bool) (keys : List Touched) (rest : List Entry)
    → filter is_about_tx
    (cons_option (entry_of tx (record { voted_prepared = p; voted_aborted = v; committed = c; aborted = a }) keys) rest)
    ≡ cons_option (entry_of tx (record { voted_prepared = p; voted_aborted = v; committed = c; aborted = a }) keys)
    (filter is_about_tx rest)
about_kept tx p v true a keys rest = refl
about_kept tx true v false true keys rest = refl
about_kept tx true v false false keys rest = refl
about_kept tx false true false a keys rest = refl
about_kept tx false false false true keys rest = refl
about_kept tx false false false false keys rest = refl

about_outcomes : (facts : List Fact) (txs : List TxParts)
    → filter is_about_tx (filter_map (kept_of facts) txs) ≡ filter_map (kept_of facts) txs
about_outcomes facts [] = refl
about_outcomes facts (tx ∷ txs) =
    let s = stored_in facts tx in
    about_kept tx s.voted_prepared s.voted_aborted s.committed s.aborted (keys_voted facts tx) (filter_map (kept_of facts) txs)
    ∙ ap (cons_option (kept_of facts tx)) (about_outcomes facts txs)

no_rows : (rows : List Row) → filter is_about_tx (map row_entry rows) ≡ []
no_rows [] = refl
no_rows (row ∷ rows) = no_rows rows

about_shorter : (rows : List Row) (facts : List Fact) → filter is_about_tx (shorter_entries rows facts) ≡ outcomes facts
about_shorter rows facts =
    filter-append is_about_tx (map row_entry rows) (outcomes facts)
    ∙ (λ k. no_rows rows k ++ about_outcomes facts (begun_in facts) k)

-- what a shorter record says of transactions is no longer than in any entries that stand for the facts
pub no_longer : (rows : List Row) (before : List Entry)
    → about_length (shorter_entries rows (flat_map facts_of before)) ≤ about_length before
no_longer rows before =
    let facts = flat_map facts_of before in
    let after = ap (λ (es : List Entry). sum (map entry_length es)) (about_shorter rows facts) in
    omega (arith, after, lengths_sum (outcomes facts), lengths_sum (filter is_about_tx before), all_steps [] before)
