-- What waits has a place in a queue: so it stays, whatever places come and go, and so nothing that waits is due where no place is.
use Rattle.std.proofs.Common.{◌≡◌, ◌≢◌, ◌∙◌, ◌⊎◌, inl, inr, ◌==◌, ℕ, zero, suc, ◌<◌, ◌≤◌, ◌||◌, not, List, [], ◌∷◌, ◌++◌}
use Rattle.std.proofs.Common.{length, get_or, set, Bool, true, false, Option, Some, None, refl, sym, ap, subst, arith}
use Rattle.std.specs.List.{list_any, AllByRecursion}
use Rattle.std.specs.Time.{instant_nanos}
use Rattle.std.specs.declared.time.Instant.{Instant}
use Rattle.std.proofs.lemmas.Bool.{and_from, and_parts, cases_eq, le-leb, or_left, or_right}
use Rattle.std.proofs.lemmas.Bool.Decides.{Decides-eqb}
use Rattle.std.proofs.lemmas.List.Folds.{list_all-append, list_any-append}
use Rattle.std.specs.Option.{option_map}
use Rattle.xid.specs.Transactions.{TxParts}
use Rattle.std.specs.Prelude.{MatchOption, is_some, nat_le, Vec}
use Rattle.std.specs.declared.alloc.Global.{Global}
use Rattle.std.proofs.lemmas.List.{append-nil, get_or-set_other, get_or-set_same}
use Rattle.slab.specs.Slab.{Slab, get, with_value, Updates}
use Rattle.slab.proofs.SlabLemmas.{Updates-with_value}
use Rattle.wire.specs.declared.grammar.VersionNumber.TheVariants.{Second}
use Rattle.wire.specs.Decoding.{tx_in}
use Rattle.wire.specs.Grammar.{tx_spelling}
use Rattle.wire.specs.Spelled.{tx_spelled, IsSpelled}
use Rattle.wire.specs.Versions.{version_2}
use Rattle.wire.proofs.Fields.{in_version_2}
use Rattle.wire.proofs.TakenTx.{in_again}
use Rattle.serving.specs.declared.queue.Place.{Place}
use Rattle.serving.specs.declared.watched.Watch.{Watch}
use Rattle.serving.specs.Queues.{are_by, due_at, AreLater}
use Rattle.serving.specs.Watching.{is_place_of, is_in_queue, is_in_queues, is_kept, waits_for, AreKept, AreSpelled, AreAllLater}
use Rattle.serving.specs.Watching.{AreWithin, HandsOut, HandsOutAt, IsNoWatchOf, PutsOff, PutsOffOne}

-- ---- tests of some element

-- where one element is exchanged, and what held of that one still does
any_set : {X : Type 0} (g : X → Bool) (xs : List X) (at : ℕ) (d y : X) → at < length xs → (g (get_or xs at d) ≡ true → g y ≡ true)
    → list_any g xs ≡ true → list_any g (set xs at y) ≡ true
any_set g [] at d y below keeps any = absurd (omega (arith, below))
any_set g (x ∷ xs) zero d y below keeps any = by (g x) refl any
  where
    by : (b : Bool) → g x ≡ b → (b || list_any g xs) ≡ true → (g y || list_any g xs) ≡ true
    by true e any = or_left (g y) (list_any g xs) (keeps e)
    by false e any = or_right (g y) (list_any g xs) any
any_set g (x ∷ xs) (suc at) d y below keeps any = by (g x) any (any_set g xs at d y (omega (arith, below)) keeps)
  where
    by : (b : Bool) → (b || list_any g xs) ≡ true → (list_any g xs ≡ true → list_any g (set xs at y) ≡ true)
        → (b || list_any g (set xs at y)) ≡ true
    by true any rest = refl
    by false any rest = rest any

-- the one that was put there passes
any_at_set : {X : Type 0} (g : X → Bool) (xs : List X) (at : ℕ) (y : X) → at < length xs → g y ≡ true → list_any g (set xs at y) ≡ true
any_at_set g [] at y below is = absurd (omega (arith, below))
any_at_set g (x ∷ xs) zero y below is = or_left (g y) (list_any g xs) is
any_at_set g (x ∷ xs) (suc at) y below is =
    or_right (g x) (list_any g (set xs at y)) (any_at_set g xs at y (omega (arith, below)) is)

-- ---- an exchange of one queue

-- what waits is kept where its place is
pub kept_exchanged : (watched : Slab Watch) (queues : List (List Place)) (at : ℕ) (queue : List Place) → at < length queues
    → ((key : ℕ) (watch : Watch) → get watched key ≡ Some watch → watch.waits ≡ true → is_in_queue key watch (get_or queues at []) ≡ true
    → is_in_queue key watch queue ≡ true)
    → AreKept watched queues → AreKept watched (set queues at queue)
kept_exchanged watched queues at queue below keeps kept = λ (key : ℕ). by key (get watched key) refl (kept key)
  where
    waiting : (key : ℕ) (watch : Watch) (b : Bool) → watch.waits ≡ b → get watched key ≡ Some watch
        → (not b || is_in_queues key watch queues) ≡ true → (not b || is_in_queues key watch (set queues at queue)) ≡ true
    waiting key watch true waits there before =
        any_set (is_in_queue key watch) queues at [] queue below (keeps key watch there waits) before
    waiting key watch false waits there before = refl

    by : (key : ℕ) (o : Option Watch) → get watched key ≡ o → is_kept key o queues ≡ true → is_kept key o (set queues at queue) ≡ true
    by key None there before = refl
    by key (Some watch) there before = waiting key watch watch.waits refl there before

-- ---- a place is taken out

-- another place stays
stays : (key : ℕ) (watch : Watch) (place : Place) (rest : List Place) → is_place_of key watch place ≡ false
    → is_in_queue key watch (place ∷ rest) ≡ true → is_in_queue key watch rest ≡ true
stays key watch place rest other before = rw other at before

-- a place for which no watch waits isn't that of a watch that waits
not_its : (watched : Slab Watch) (place : Place) → IsNoWatchOf place watched → (key : ℕ) (watch : Watch) → get watched key ≡ Some watch
    → watch.waits ≡ true → is_place_of key watch place ≡ false
not_its watched place none key watch there waits = by (place.key == key) refl
  where
    by : (b : Bool) → (place.key == key) ≡ b → is_place_of key watch place ≡ false
    by true e =
        let same : place.key ≡ key = (Decides-eqb place.key key).0 e in
        let P : ℕ → Type 0 = λ k. is_place_of k watch place ≡ false in
        subst P same (none watch (ap (get watched) same ∙ there) waits)
    by false e = rw e refl

-- all that waits is still in a queue where a place that no watch waits for is taken out
pub kept_popped : (watched : Slab Watch) (queues : List (List Place)) (at : ℕ) (place : Place) (rest : List Place) → at < length queues
    → get_or queues at [] ≡ place ∷ rest → IsNoWatchOf place watched → AreKept watched queues → AreKept watched (set queues at rest)
kept_popped watched queues at place rest below was none kept =
    kept_exchanged watched queues at rest below
    (λ (key : ℕ) (watch : Watch) there waits before.
    let P : List Place → Type 0 = λ queue. is_in_queue key watch queue ≡ true in
    stays key watch place rest (not_its watched place none key watch there waits) (subst P was before))
    kept

-- the watch of a place that is taken out waits no more
pub kept_handed : (old new : Slab Watch) (queues : List (List Place)) (at : ℕ) (place : Place) (rest : List Place) (watch : Watch)
    → at < length queues → get_or queues at [] ≡ place ∷ rest → Updates old new place.key (Some (record watch { waits = false }))
    → AreKept old queues → AreKept new (set queues at rest)
kept_handed old new queues at place rest watch below was only kept = λ (key : ℕ). by key (place.key == key) refl
  where
    other : (key : ℕ) → (place.key == key) ≡ false → (o : Option Watch) → is_kept key o queues ≡ true
        → is_kept key o (set queues at rest) ≡ true
    other key apart None before = refl
    other key apart (Some w) before = waiting key apart w w.waits before
      where
        waiting : (key : ℕ) → (place.key == key) ≡ false → (w : Watch) (b : Bool) → (not b || is_in_queues key w queues) ≡ true
            → (not b || is_in_queues key w (set queues at rest)) ≡ true
        waiting key apart w true before =
            any_set (is_in_queue key w) queues at [] rest below
            (λ inside.
            let P : List Place → Type 0 = λ queue. is_in_queue key w queue ≡ true in
            stays key w place rest (rw apart refl) (subst P was inside))
            before
        waiting key apart w false before = refl

    by : (key : ℕ) (b : Bool) → (place.key == key) ≡ b → is_kept key (get new key) (set queues at rest) ≡ true
    by key true e =
        let same : place.key ≡ key = (Decides-eqb place.key key).0 e in
        let now : get new key ≡ Some (record watch { waits = false }) = ap (get new) (sym same) ∙ only.changed in
        rw now refl
    by key false e =
        let apart : key ≢ place.key = λ same.
        let yes : (place.key == key) ≡ true = (Decides-eqb place.key key).1 (sym same) in
        let both : false ≡ true = sym e ∙ yes in absurd (cc) in
        let now : get new key ≡ get old key = only.others key apart in
        rw now (other key e (get old key) (kept key))

-- ---- a place is put behind

-- what was in a queue is in it with one more
in_longer : (key : ℕ) (watch : Watch) (queue : List Place) (place : Place) → is_in_queue key watch queue ≡ true
    → is_in_queue key watch (queue ++ place ∷ []) ≡ true
in_longer key watch queue place inside =
    list_any-append (is_place_of key watch) queue (place ∷ [])
    ∙ or_left (is_in_queue key watch queue) (is_in_queue key watch (place ∷ [])) inside

-- and where a place comes behind the others
pub kept_pushed : (watched : Slab Watch) (queues : List (List Place)) (at : ℕ) (place : Place) → at < length queues → AreKept watched queues
    → AreKept watched (set queues at (get_or queues at [] ++ place ∷ []))
kept_pushed watched queues at place below kept =
    kept_exchanged watched queues at (get_or queues at [] ++ place ∷ []) below
    (λ (key : ℕ) (watch : Watch) there waits before. in_longer key watch (get_or queues at []) place before)
    kept

-- the watch of a place that is put behind waits
pub kept_put_off : (old new : Slab Watch) (queues : List (List Place)) (at key turn : ℕ) (due : Instant) (watch : Watch)
    → at < length queues
    → Updates old new key (Some (record watch { due = due; turn = turn; waits = true }))
    → AreKept old (set queues at (get_or queues at [] ++ record { key = key; due = due } ∷ []))
    → AreKept new (set queues at (get_or queues at [] ++ record { key = key; due = due } ∷ []))
kept_put_off old new queues at key turn due watch below only kept = λ (k : ℕ). by k (key == k) refl
  where
    longer : List Place
    longer = get_or queues at [] ++ record { key = key; due = due } ∷ []

    own : (n : ℕ) → (n == n) ≡ true
    own n = (Decides-eqb n n).1 refl

    its : is_in_queue key (record watch { due = due; turn = turn; waits = true })
        (get_or queues at [] ++ record { key = key; due = due } ∷ []) ≡ true
    its =
        list_any-append (is_place_of key (record watch { due = due; turn = turn; waits = true })) (get_or queues at [])
        (record { key = key; due = due } ∷ [])
        ∙ or_right (is_in_queue key (record watch { due = due; turn = turn; waits = true }) (get_or queues at []))
        (is_in_queue key (record watch { due = due; turn = turn; waits = true }) (record { key = key; due = due } ∷ []))
        (rw (own key, own (instant_nanos due)) refl)

    by : (k : ℕ) (b : Bool) → (key == k) ≡ b
        → is_kept k (get new k) (set queues at (get_or queues at [] ++ record { key = key; due = due } ∷ [])) ≡ true
    by k true e =
        let same : key ≡ k = (Decides-eqb key k).0 e in
        let now : get new k ≡ Some (record watch { due = due; turn = turn; waits = true }) = ap (get new) (sym same) ∙ only.changed in
        let P : ℕ → Type 0 = λ n.
        is_in_queues n (record watch { due = due; turn = turn; waits = true })
        (set queues at (get_or queues at [] ++ record { key = key; due = due } ∷ [])) ≡ true in
        rw now (subst P same (any_at_set (is_in_queue key (record watch { due = due; turn = turn; waits = true })) queues at
        (get_or queues at [] ++ record { key = key; due = due } ∷ []) below its))
    by k false e =
        let apart : k ≢ key = λ same.
        let yes : (key == k) ≡ true = (Decides-eqb key k).1 (sym same) in
        let both : false ≡ true = sym e ∙ yes in absurd (cc) in
        let now : get new k ≡ get old k = only.others k apart in
        rw now (kept k)

-- ---- times within limits

-- where one queue is exchanged for another within its limit
pub within_exchanged : (limit : ℕ → ℕ) (queues : List (List Place)) (at : ℕ) (queue : List Place) → at < length queues
    → are_by (limit at) queue ≡ true → AreWithin limit queues → AreWithin limit (set queues at queue)
within_exchanged limit queues at queue below by within = λ (k : ℕ). one k (cases_eq k at)
  where
    one : (k : ℕ) → (k ≡ at) ⊎ (k ≡ at → ⊥) → are_by (limit k) (get_or (set queues at queue) k []) ≡ true
    one k (inl e) =
        let P : ℕ → Type 0 = λ n. are_by (limit n) (get_or (set queues at queue) n []) ≡ true in
        subst P (sym e) (ap (are_by (limit at)) (get_or-set_same queues at queue [] below) ∙ by)
    one k (inr apart) = ap (are_by (limit k)) (get_or-set_other queues at k queue [] apart) ∙ within k

-- a place is taken out
pub within_popped : (limit : ℕ → ℕ) (queues : List (List Place)) (at : ℕ) (place : Place) (rest : List Place) → at < length queues
    → get_or queues at [] ≡ place ∷ rest → AreWithin limit queues → AreWithin limit (set queues at rest)
within_popped limit queues at place rest below was within =
    let all : are_by (limit at) (place ∷ rest) ≡ true = ap (are_by (limit at)) (sym was) ∙ within at in
    within_exchanged limit queues at rest below (and_parts (nat_le (due_at place) (limit at)) (are_by (limit at) rest) all).1 within

-- a place is put behind
pub within_pushed : (limit : ℕ → ℕ) (queues : List (List Place)) (at : ℕ) (place : Place) → at < length queues
    → due_at place ≤ limit at → AreWithin limit queues → AreWithin limit (set queues at (get_or queues at [] ++ place ∷ []))
within_pushed limit queues at place below by within =
    let last : are_by (limit at) (place ∷ []) ≡ true = rw (le-leb (due_at place) (limit at) by) refl in
    within_exchanged limit queues at (get_or queues at [] ++ place ∷ []) below
    (list_all-append (λ p. nat_le (due_at p) (limit at)) (get_or queues at []) (place ∷ [])
    ∙ and_from (are_by (limit at) (get_or queues at [])) (are_by (limit at) (place ∷ [])) (within at) last)
    within

-- ---- nothing is due

module _ (P : ℕ → Type 0) (key : ℕ) (watch : Watch) where
  due_in : (queue : List Place) → AllByRecursion (λ place. P (due_at place)) queue → is_in_queue key watch queue ≡ true
      → P (instant_nanos watch.due)
  due_in [] all inside = absurd (cc)
  due_in (place ∷ rest) all inside = by (is_place_of key watch place) refl inside (due_in rest all.1)
    where
      by : (b : Bool) → is_place_of key watch place ≡ b → (b || is_in_queue key watch rest) ≡ true
          → (is_in_queue key watch rest ≡ true → P (instant_nanos watch.due)) → P (instant_nanos watch.due)
      by true e inside others =
          let both = and_parts (place.key == key) (due_at place == instant_nanos watch.due) e in
          let same : due_at place ≡ instant_nanos watch.due = (Decides-eqb (due_at place) (instant_nanos watch.due)).0 both.1 in
          subst P same all.0
      by false e inside others = others inside

  -- what holds of when each place is due holds of when a watch is, if it has a place
  pub due_anywhere : (queues : List (List Place))
      → ((at : ℕ) → at < length queues → AllByRecursion (λ place. P (due_at place)) (get_or queues at []))
      → is_in_queues key watch queues ≡ true → P (instant_nanos watch.due)
  due_anywhere [] all inside = absurd (cc)
  due_anywhere (queue ∷ queues) all inside =
      by (is_in_queue key watch queue) refl inside (due_anywhere queues (λ (at : ℕ) below. all (suc at) (omega (arith, below))))
    where
      by : (b : Bool) → is_in_queue key watch queue ≡ b → (b || is_in_queues key watch queues) ≡ true
          → (is_in_queues key watch queues ≡ true → P (instant_nanos watch.due)) → P (instant_nanos watch.due)
      by true e inside others = due_in queue (all 0 (omega arith)) e
      by false e inside others = others inside

-- what waits has a place
pub has_place : (watched : Slab Watch) (queues : List (List Place)) → AreKept watched queues → (key : ℕ) (watch : Watch)
    → get watched key ≡ Some watch → watch.waits ≡ true → is_in_queues key watch queues ≡ true
has_place watched queues kept key watch there waits =
    let is : is_kept key (Some watch) queues ≡ true =
    let P : Option Watch → Type 0 = λ o. is_kept key o queues ≡ true in subst P there (kept key) in
    rw waits at is

-- where no place is due, nothing that waits is
pub all_later : (watched : Slab Watch) (queues : List (List Place)) (now : Instant) → AreKept watched queues
    → ((at : ℕ) → at < length queues → AreLater now (get_or queues at [])) → AreAllLater watched now
all_later watched queues now kept later = λ (key : ℕ) (watch : Watch) there waits.
    due_anywhere (λ n. instant_nanos now < n) key watch queues later (has_place watched queues kept key watch there waits)

-- ---- a watch is written

-- what is written under a key that is watched changes nothing else
pub updates_at : (watched : Slab Watch) (key : ℕ) (watch now : Watch) → get watched key ≡ Some watch
    → Updates watched (with_value watched key now) key (Some now)
updates_at watched key watch now was = Updates-with_value watched key now (ap is_some was)

-- and each has a transaction's spelling where it had
pub spelled_after : (watched : Slab Watch) (key : ℕ) (watch now : Watch) → get watched key ≡ Some watch → now.spelled ≡ watch.spelled
    → AreSpelled watched → AreSpelled (with_value watched key now)
spelled_after watched key watch now was same spelled = λ (k : ℕ) (w : Watch) there. by k w there (key == k) refl
  where
    by : (k : ℕ) (w : Watch) → get (with_value watched key now) k ≡ Some w → (b : Bool) → (key == k) ≡ b → IsSpelled w.spelled.items
    by k w there true e =
        let own : key ≡ k = (Decides-eqb key k).0 e in
        let is : Some now ≡ Some w =
        sym (updates_at watched key watch now was).changed ∙ (ap (get (with_value watched key now)) own ∙ there) in
        let one : now ≡ w = cc (is) in
        let P : Watch → Type 0 = λ x. IsSpelled x.spelled.items in
        let Q : Vec ℕ Global → Type 0 = λ bytes. IsSpelled bytes.items in
        subst P one (subst Q (sym same) (spelled key watch was))
    by k w there false e =
        let apart : k ≢ key = λ own.
        let yes : (key == k) ≡ true = (Decides-eqb key k).1 (sym own) in
        let both : false ≡ true = sym e ∙ yes in absurd (cc) in
        spelled k w (sym ((updates_at watched key watch now was).others k apart) ∙ there)

-- what stands under a key is exchanged, or goes
pub kept_at : (old new : Slab Watch) (queues : List (List Place)) (key : ℕ) (slot : Option Watch) → Updates old new key slot
    → is_kept key slot queues ≡ true → AreKept old queues → AreKept new queues
kept_at old new queues key slot only here kept = λ (k : ℕ). by k (cases_eq k key)
  where
    by : (k : ℕ) → (k ≡ key) ⊎ (k ≡ key → ⊥) → is_kept k (get new k) queues ≡ true
    by k (inl e) =
        let P : ℕ → Type 0 = λ n. is_kept n (get new n) queues ≡ true in
        subst P (sym e) (ap (λ (o : Option Watch). is_kept key o queues) only.changed ∙ here)
    by k (inr apart) = ap (λ (o : Option Watch). is_kept k o queues) (only.others k apart) ∙ kept k

-- the same of spellings
pub spelled_at : (old new : Slab Watch) (key : ℕ) (slot : Option Watch) → Updates old new key slot
    → ((watch : Watch) → slot ≡ Some watch → IsSpelled watch.spelled.items) → AreSpelled old → AreSpelled new
spelled_at old new key slot only here spelled = λ (k : ℕ) (watch : Watch) there. by k watch there (cases_eq k key)
  where
    by : (k : ℕ) (watch : Watch) → get new k ≡ Some watch → (k ≡ key) ⊎ (k ≡ key → ⊥) → IsSpelled watch.spelled.items
    by k watch there (inl e) = here watch (sym only.changed ∙ (ap (get new) (sym e) ∙ there))
    by k watch there (inr apart) = spelled k watch (sym (only.others k apart) ∙ there)

-- what waits for a place
pub waits_parts : (place : Place) (watched : Slab Watch) (watch : Watch) → get watched place.key ≡ Some watch
    → waits_for place (get watched place.key) ≡ true → (watch.waits ≡ true) × (due_at place ≡ instant_nanos watch.due)
waits_parts place watched watch was waits =
    let P : Option Watch → Type 0 = λ o. waits_for place o ≡ true in
    let both = and_parts watch.waits (due_at place == instant_nanos watch.due) (subst P was waits) in
    (both.0, (Decides-eqb (due_at place) (instant_nanos watch.due)).0 both.1)

-- one that is there is put off
pub puts_off : (key turn : ℕ) (due : Instant) (others : List Place) (old new : Slab Watch) (watch : Watch) → get old key ≡ Some watch
    → PutsOffOne key turn due others old new watch → PutsOff key turn due others old new
puts_off key turn due others old new watch was one =
    let P : Option Watch → Type 0 = λ o. MatchOption o (new ≡ old) (PutsOffOne key turn due others old new) in subst P (sym was) one

-- the transaction of a whole spelling
pub spelled_read : (bytes : List ℕ) → IsSpelled bytes → tx_in version_2 bytes ≡ Some (tx_spelled bytes, [])
spelled_read bytes is =
    ap (tx_in version_2) (is.spelled ∙ sym (append-nil (tx_spelling version_2 (tx_spelled bytes))))
    ∙ in_again Second (tx_spelled bytes) [] (in_version_2 is.valid)

-- what is taken of a whole spelling
pub spelled_taken : (bytes : List ℕ) (tx : TxParts) (after : List ℕ) → Some (tx, after) ≡ tx_in version_2 bytes → IsSpelled bytes
    → Some tx ≡ Some (tx_spelled bytes)
spelled_taken bytes tx after got is = ap (λ (o : Option (TxParts × List ℕ)). option_map (λ p. p.0) o) (got ∙ spelled_read bytes is)

-- from a whole spelling something is taken
pub spelled_not_taken : (bytes : List ℕ) → None ≡ tx_in version_2 bytes → IsSpelled bytes → ⊥
spelled_not_taken bytes got is =
    let same : None ≡ Some (tx_spelled bytes, []) = got ∙ spelled_read bytes is in absurd (cc (same))

-- what is one under `Some` is one
pub some_tx : (a b : TxParts) → Some a ≡ Some b → a ≡ b
some_tx a b e = cc

-- what was handed out of a place that is due
pub handed_due : (place : Place) (old mid new : Slab Watch) (now : Instant) (tx : TxParts) (turn : ℕ) → mid ≡ old
    → due_at place ≤ instant_nanos now → HandsOutAt place mid new tx turn → HandsOut old new now tx turn
handed_due place old mid new now tx turn same by hands =
    subst (λ (w : Slab Watch). HandsOut w new now tx turn) same (record {
      key = place.key;
      watch = hands.watch;
      was = hands.was;
      waited = hands.waited;
      due = subst (λ (n : ℕ). n ≤ instant_nanos now) hands.due by;
      at_turn = hands.at_turn;
      spelled = hands.spelled;
      only = hands.only;
    })

-- a new watch has its spelling
pub spelled_new : (watch : Watch) (bytes : List ℕ) → watch.spelled.items ≡ bytes → IsSpelled bytes → (other : Watch)
    → Some watch ≡ Some other → IsSpelled other.spelled.items
spelled_new watch bytes its is other e =
    let one : watch ≡ other = cc (e) in
    subst (λ (w : Watch). IsSpelled w.spelled.items) one (subst IsSpelled (sym its) is)
