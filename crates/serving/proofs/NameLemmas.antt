-- What is watched is found by its spelling: so all others stay as they were where one watch is written, comes or goes.
use Rattle.std.proofs.Common.{◌≡◌, ◌≢◌, ◌∙◌, ◌⊎◌, inl, inr, ℕ, true, false, List, Option, Some, None, refl, sym, ap, subst, ◌≤◌, ◌+◌, ◌*◌}
use Rattle.std.proofs.Common.{◌-◌, ◌^◌, min, [], get_or, arith}
use Rattle.std.specs.Prelude.{Vec, IfNone, IfSome, IsSomeAnd, MatchOption, OnErr, OnOk, Result, Ok, Err, is_some, slice_get}
use Rattle.std.specs.Map.{KeepsOthers}
use Rattle.std.specs.Str.{bytes_eq}
use Rattle.std.specs.Time.{instant_nanos, FitsClock}
use Rattle.std.specs.declared.alloc.Global.{Global}
use Rattle.std.specs.declared.time.Instant.{Instant}
use Rattle.std.proofs.lemmas.Bool.{both_ways, cases_Bool, cases_eq, false_from_ne_true}
use Rattle.std.proofs.lemmas.Slice.Eq.{bytes_eq-Decides}
use Rattle.hashing.specs.declared.keys.WordKey.{WordKey}
use Rattle.indexmap.specs.IndexMap.{IndexMap, Updates as MapUpdates}
use Rattle.slab.specs.Slab.{Slab, get, Updates}
use Rattle.wire.specs.Grammar.{tx_spelling}
use Rattle.wire.specs.Spelled.{tx_spelled, IsSpelled}
use Rattle.wire.specs.Versions.{version_2}
use Rattle.xid.specs.Transactions.{TxParts}
use Rattle.serving.specs.declared.watched.Watch.{Watch}
use Rattle.serving.specs.declared.queue.Place.{Place}
use Rattle.serving.specs.declared.watches.Due.{Due}
use Rattle.serving.specs.declared.schedule.Schedule.{Schedule}
use Rattle.serving.specs.declared.schedule.TheConstants.{MOST_DELAY}
use Rattle.serving.specs.Queues.{are_by}
use Rattle.serving.specs.Watching.{key_of, at_key, has_spelling, turn_end, watch_of, AreAllLater, AreNamed, AreSpelled, HandsOut, Keys}
use Rattle.serving.specs.Watching.{PutsOff, PutsOffOne}
use Rattle.serving.specs.Named.{AreAsBefore, IsAdded, IsHandedOut, IsPutOff, SetsOnly}

-- ---- the keys of spellings

-- a change at the bytes of a spelling
pub keys_after : (old new : Keys) (spelled : List ℕ) (w : Option ℕ)
    → KeepsOthers (λ a b. bytes_eq a.items b.items) (λ key. bytes_eq spelled key.items) old new
    → (other : List ℕ) → other ≢ spelled → key_of new other ≡ key_of old other
unfolding KeepsOthers
keys_after old new spelled w keeps other apart = keeps (λ key. bytes_eq other key.items) is_test are_apart
  where
    is_test : (x y : Vec ℕ Global) → bytes_eq other x.items ≡ true → bytes_eq other y.items ≡ bytes_eq x.items y.items
    is_test x y e = ap (λ bytes. bytes_eq bytes y.items) ((bytes_eq-Decides other x.items).0 e)

    are_apart : (k : Vec ℕ Global) → bytes_eq spelled k.items ≡ true → bytes_eq other k.items ≡ false
    are_apart k there =
        false_from_ne_true (bytes_eq other k.items)
        (λ here. apart ((bytes_eq-Decides other k.items).0 here ∙ sym ((bytes_eq-Decides spelled k.items).0 there)))

-- ---- what stands under the key of a spelling

some_with : (o : Option Watch) (P : Watch → Type 0) → IsSomeAnd o P → (watch : Watch) → o ≡ Some watch → P watch
some_with o P some watch is = subst (λ (x : Option Watch). IsSomeAnd x P) is some

-- the watch under a spelling's key
of_name : (watched : Slab Watch) (keys : Keys) → AreNamed watched keys → (spelled : List ℕ) (key : ℕ) → key_of keys spelled ≡ Some key
    → IsSomeAnd (get watched key) (λ watch. watch.spelled.items ≡ spelled)
of_name watched keys named spelled key is = by (get watched key) (named.named spelled key is)
  where
    by : (o : Option Watch) → has_spelling spelled o ≡ true → IsSomeAnd o (λ watch. watch.spelled.items ≡ spelled)
    by None has = absurd (cc)
    by (Some watch) has = (bytes_eq-Decides watch.spelled.items spelled).0 has

to_name : (spelled : List ℕ) (o : Option Watch) → IsSomeAnd o (λ watch. watch.spelled.items ≡ spelled) → has_spelling spelled o ≡ true
to_name spelled None some = absurd some
to_name spelled (Some watch) some = (bytes_eq-Decides watch.spelled.items spelled).1 some

-- of two spellings with one key
pub one_key : (watched : Slab Watch) (keys : Keys) → AreNamed watched keys → (a b : List ℕ) (key : ℕ) → key_of keys a ≡ Some key
    → key_of keys b ≡ Some key → a ≡ b
one_key watched keys named a b key is_a is_b =
    by (get watched key) (of_name watched keys named a key is_a) (of_name watched keys named b key is_b)
  where
    by : (o : Option Watch) → IsSomeAnd o (λ watch. watch.spelled.items ≡ a) → IsSomeAnd o (λ watch. watch.spelled.items ≡ b) → a ≡ b
    by None one two = absurd one
    by (Some watch) one two = sym one ∙ two

-- what is seen of a spelling that has a key
pub seen_at : (watched : Slab Watch) (keys : Keys) (spelled : List ℕ) (key : ℕ) → key_of keys spelled ≡ Some key
    → watch_of watched keys spelled ≡ get watched key
seen_at watched keys spelled key is = ap (at_key watched) is

-- what is watched has a key, under which it stands
pub stands_at : (watched : Slab Watch) (keys : Keys) (spelled : List ℕ) (watch : Watch) → watch_of watched keys spelled ≡ Some watch
    → (key : ℕ) × (key_of keys spelled ≡ Some key) × (get watched key ≡ Some watch)
stands_at watched keys spelled watch is = by (key_of keys spelled) refl
  where
    by : (o : Option ℕ) → key_of keys spelled ≡ o → (key : ℕ) × (key_of keys spelled ≡ Some key) × (get watched key ≡ Some watch)
    by None e =
        let none : None ≡ Some watch = sym (ap (at_key watched) e) ∙ is in absurd (cc)
    by (Some key) e = (key, e, sym (ap (at_key watched) e) ∙ is)

-- what is watched of another spelling, whose key isn't written
others_seen : (old new : Slab Watch) (keys : Keys) (other : List ℕ) (key : ℕ) → key_of keys other ≢ Some key
    → ((k : ℕ) → k ≢ key → get new k ≡ get old k) → watch_of new keys other ≡ watch_of old keys other
others_seen old new keys other key apart same = by (key_of keys other) refl
  where
    by : (o : Option ℕ) → key_of keys other ≡ o → at_key new o ≡ at_key old o
    by None e = refl
    by (Some k) e = same k (λ is. apart (e ∙ ap Some is))

-- a watch is written under its key
pub seen_written : (old new : Slab Watch) (keys : Keys) (spelled : List ℕ) (key : ℕ) (watch : Option Watch) → AreNamed old keys
    → key_of keys spelled ≡ Some key → Updates old new key watch
    → SetsOnly (watch_of old keys) (watch_of new keys) spelled watch
seen_written old new keys spelled key watch named is only = record {
  changed = seen_at new keys spelled key is ∙ only.changed;
  others = λ other apart. others_seen old new keys other key
      (λ same. apart (one_key old keys named other spelled key same is)) only.others;
}

-- and each is still found by its spelling
pub named_written : (old new : Slab Watch) (keys : Keys) (key : ℕ) (watch now : Watch) → AreNamed old keys → get old key ≡ Some watch
    → now.spelled ≡ watch.spelled → (now.waits ≡ true → key_of keys watch.spelled.items ≡ Some key)
    → Updates old new key (Some now) → AreNamed new keys
named_written old new keys key watch now named was same found only = record {
  named = λ spelled k is. to_name spelled (get new k) (by spelled k is (cases_eq k key));
  found = λ k w there waits. at k w there waits (cases_eq k key);
}
  where
    by : (spelled : List ℕ) (k : ℕ) → key_of keys spelled ≡ Some k → (k ≡ key) ⊎ (k ≡ key → ⊥)
        → IsSomeAnd (get new k) (λ watch. watch.spelled.items ≡ spelled)
    by spelled k is (inl e) =
        let its : watch.spelled.items ≡ spelled =
        some_with (get old k) (λ w. w.spelled.items ≡ spelled) (of_name old keys named spelled k is) watch (ap (get old) e ∙ was) in
        subst (λ (o : Option Watch). IsSomeAnd o (λ w. w.spelled.items ≡ spelled)) (sym (ap (get new) e ∙ only.changed))
        (ap (λ (bytes : Vec ℕ Global). bytes.items) same ∙ its)
    by spelled k is (inr apart) =
        subst (λ (o : Option Watch). IsSomeAnd o (λ w. w.spelled.items ≡ spelled)) (sym (only.others k apart))
        (of_name old keys named spelled k is)

    at : (k : ℕ) (w : Watch) → get new k ≡ Some w → w.waits ≡ true → (k ≡ key) ⊎ (k ≡ key → ⊥) → key_of keys w.spelled.items ≡ Some k
    at k w there waits (inl e) =
        let some : Some now ≡ Some w = sym only.changed ∙ (ap (get new) (sym e) ∙ there) in
        let is : now ≡ w = cc (some) in
        subst (λ (x : Watch). x.waits ≡ true → key_of keys x.spelled.items ≡ Some k) is
        (λ waiting. ap (λ (bytes : Vec ℕ Global). key_of keys bytes.items) same ∙ (found waiting ∙ ap Some (sym e))) waits
    at k w there waits (inr apart) = named.found k w (sym (only.others k apart) ∙ there) waits

-- ---- a watch comes

-- one that comes without a spelling's key, and doesn't wait
pub named_unkeyed : (old new : Slab Watch) (keys : Keys) (key : ℕ) (watch : Watch) → AreNamed old keys
    → get old key ≡ None → Updates old new key (Some watch) → watch.waits ≡ false → AreNamed new keys
named_unkeyed old new keys key watch named none only waits_not = record {
  named = λ other k there. to_name other (get new k) (old_at other k (get old k) refl (of_name old keys named other k there));
  found = λ k w there waits. at k w there waits (cases_eq k key);
}
  where
    not_its : (k : ℕ) (w : Watch) → get old k ≡ Some w → k ≢ key
    not_its k w there is =
        let both : None ≡ Some w = sym none ∙ (ap (get old) (sym is) ∙ there) in absurd (cc)

    old_at : (other : List ℕ) (k : ℕ) (o : Option Watch) → get old k ≡ o → IsSomeAnd o (λ w. w.spelled.items ≡ other)
        → IsSomeAnd (get new k) (λ w. w.spelled.items ≡ other)
    old_at other k None e some = absurd some
    old_at other k (Some w) e some =
        subst (λ (o : Option Watch). IsSomeAnd o (λ w. w.spelled.items ≡ other)) (sym (only.others k (not_its k w e) ∙ e)) some

    at : (k : ℕ) (w : Watch) → get new k ≡ Some w → w.waits ≡ true → (k ≡ key) ⊎ (k ≡ key → ⊥) → key_of keys w.spelled.items ≡ Some k
    at k w there waits (inl e) =
        let some : Some watch ≡ Some w = sym only.changed ∙ (ap (get new) (sym e) ∙ there) in
        let one : watch ≡ w = cc (some) in
        let both : false ≡ true = sym waits_not ∙ (ap (λ (x : Watch). x.waits) one ∙ waits) in absurd (cc)
    at k w there waits (inr apart) = named.found k w (sym (only.others k apart) ∙ there) waits

-- one that stands there gets the key of its spelling
pub named_keyed : (watched : Slab Watch) (keys longer : Keys) (spelled : List ℕ) (key : ℕ) (watch : Watch) → AreNamed watched keys
    → get watched key ≡ Some watch → watch.spelled.items ≡ spelled → key_of keys spelled ≡ None
    → key_of longer spelled ≡ Some key → ((other : List ℕ) → other ≢ spelled → key_of longer other ≡ key_of keys other)
    → AreNamed watched longer
named_keyed watched keys longer spelled key watch named there its absent is same = record {
  named = λ other k e. to_name other (get watched k) (by other k e (cases_Bool (bytes_eq other spelled)));
  found = λ k w stands waits.
      let before : key_of keys w.spelled.items ≡ Some k = named.found k w stands waits in
      same w.spelled.items (λ own. gone k (sym absent ∙ (ap (key_of keys) (sym own) ∙ before))) ∙ before;
}
  where
    gone : (k : ℕ) → None ≡ Some k → ⊥
    gone k e = absurd (cc)

    unlike : (other : List ℕ) → bytes_eq other spelled ≡ false → other ≢ spelled
    unlike other e own = both_ways (bytes_eq other spelled) e ((bytes_eq-Decides other spelled).1 own)

    by : (other : List ℕ) (k : ℕ) → key_of longer other ≡ Some k → (bytes_eq other spelled ≡ true) ⊎ (bytes_eq other spelled ≡ false)
        → IsSomeAnd (get watched k) (λ w. w.spelled.items ≡ other)
    by other k e (inl here) =
        let own : other ≡ spelled = (bytes_eq-Decides other spelled).0 here in
        let keyed : Some k ≡ Some key = sym e ∙ (ap (key_of longer) own ∙ is) in
        let one : k ≡ key = cc (keyed) in
        subst (λ (o : Option Watch). IsSomeAnd o (λ w. w.spelled.items ≡ other)) (sym (ap (get watched) one ∙ there)) (its ∙ sym own)
    by other k e (inr not_here) = of_name watched keys named other k (sym (same other (unlike other not_here)) ∙ e)

-- of the others the same is seen
pub others_begun : (old new : Slab Watch) (keys longer : Keys) (spelled : List ℕ) (key : ℕ) (watch : Option Watch) → AreNamed old keys
    → get old key ≡ None → Updates old new key watch
    → ((other : List ℕ) → other ≢ spelled → key_of longer other ≡ key_of keys other)
    → (other : List ℕ) → other ≢ spelled → watch_of new longer other ≡ watch_of old keys other
others_begun old new keys longer spelled key watch named none only same other apart =
    ap (at_key new) (same other apart) ∙ others_seen old new keys other key not_its only.others
  where
    not_its : key_of keys other ≢ Some key
    not_its is = subst (λ (o : Option Watch). IsSomeAnd o (λ w. w.spelled.items ≡ other)) none (of_name old keys named other key is)

-- ---- a watch goes

-- the others are found by their spellings
pub named_gone : (old new : Slab Watch) (keys fewer : Keys) (spelled : List ℕ) (key : ℕ) → AreNamed old keys
    → key_of keys spelled ≡ Some key → Updates old new key None → key_of fewer spelled ≡ None
    → ((other : List ℕ) → other ≢ spelled → key_of fewer other ≡ key_of keys other) → AreNamed new fewer
named_gone old new keys fewer spelled key named is only gone same = record {
  named = λ other k there. to_name other (get new k) (by other k there);
  found = λ k w there waits. at k w there waits (cases_eq k key);
}
  where
    not_own : (other : List ℕ) (k : ℕ) → key_of fewer other ≡ Some k → other ≢ spelled
    not_own other k there own =
        let both : None ≡ Some k = sym gone ∙ (ap (key_of fewer) (sym own) ∙ there) in absurd (cc)

    by : (other : List ℕ) (k : ℕ) → key_of fewer other ≡ Some k → IsSomeAnd (get new k) (λ w. w.spelled.items ≡ other)
    by other k there =
        let before : key_of keys other ≡ Some k = sym (same other (not_own other k there)) ∙ there in
        let apart : k ≢ key = λ e. not_own other k there (one_key old keys named other spelled key (before ∙ ap Some e) is) in
        subst (λ (o : Option Watch). IsSomeAnd o (λ w. w.spelled.items ≡ other)) (sym (only.others k apart))
        (of_name old keys named other k before)

    at : (k : ℕ) (w : Watch) → get new k ≡ Some w → w.waits ≡ true → (k ≡ key) ⊎ (k ≡ key → ⊥) → key_of fewer w.spelled.items ≡ Some k
    at k w there waits (inl e) =
        let both : None ≡ Some w = sym only.changed ∙ (ap (get new) (sym e) ∙ there) in absurd (cc)
    at k w there waits (inr apart) =
        let before : key_of keys w.spelled.items ≡ Some k = named.found k w (sym (only.others k apart) ∙ there) waits in
        same w.spelled.items
        (λ own.
        let one : Some k ≡ Some key = sym before ∙ (ap (key_of keys) own ∙ is) in
        let equal : k ≡ key = cc (one) in apart equal)
        ∙ before

-- and they are seen as before
pub seen_gone : (old new : Slab Watch) (keys fewer : Keys) (spelled bytes : List ℕ) (key : ℕ) → spelled ≡ bytes → AreNamed old keys
    → key_of keys spelled ≡ Some key → Updates old new key None → key_of fewer spelled ≡ None
    → ((other : List ℕ) → other ≢ spelled → key_of fewer other ≡ key_of keys other)
    → SetsOnly (watch_of old keys) (watch_of new fewer) bytes None
seen_gone old new keys fewer spelled bytes key one named is only gone same =
    subst (λ (b : List ℕ). SetsOnly (watch_of old keys) (watch_of new fewer) b None) one (record {
      changed = ap (at_key new) gone;
      others = λ other apart. ap (at_key new) (same other apart)
          ∙ others_seen old new keys other key (λ here. apart (one_key old keys named other spelled key here is)) only.others;
    })

-- ---- what is due

-- what was handed out is seen to be
pub seen_handed : (old new : Slab Watch) (keys : Keys) (now : Instant) (tx : TxParts) (turn : ℕ) → AreNamed old keys → AreSpelled old
    → HandsOut old new now tx turn → IsHandedOut (watch_of old keys) (watch_of new keys) now (tx_spelling version_2 tx) turn
seen_handed old new keys now tx turn named spelled hands =
    let key_is = named.found hands.key hands.watch hands.was hands.waited in
    let whole = spelled hands.key hands.watch hands.was in
    let its : hands.watch.spelled.items ≡ tx_spelling version_2 tx = whole.spelled ∙ ap (tx_spelling version_2) hands.spelled in
    let is : key_of keys (tx_spelling version_2 tx) ≡ Some hands.key = ap (key_of keys) (sym its) ∙ key_is in
    record {
      watch = hands.watch;
      was = seen_at old keys (tx_spelling version_2 tx) hands.key is ∙ hands.was;
      waited = hands.waited;
      due = hands.due;
      at_turn = hands.at_turn;
      only = seen_written old new keys (tx_spelling version_2 tx) hands.key (Some (record hands.watch { waits = false })) named is
          hands.only;
    }

-- and found as before
pub named_handed : (old new : Slab Watch) (keys : Keys) (now : Instant) (tx : TxParts) (turn : ℕ) → AreNamed old keys
    → HandsOut old new now tx turn → AreNamed new keys
named_handed old new keys now tx turn named hands =
    named_written old new keys hands.key hands.watch (record hands.watch { waits = false }) named hands.was refl
    (λ never. named.found hands.key hands.watch hands.was hands.waited) hands.only

-- ---- what is put off

-- from the last queue's turn on the delay is the same
pub end_capped : (schedule : Schedule) (now : Instant) (turn : ℕ) → turn_end schedule now (min turn 23) ≡ turn_end schedule now turn
end_capped schedule now turn =
    let same : min (min turn 23 - 1) 16 ≡ min (turn - 1) 16 = omega arith in
    ap (λ (n : ℕ). instant_nanos now + min (schedule.first * 2 ^ n) MOST_DELAY * 1000000) same

-- what was put off is seen to be
pub seen_put_off : (old new : Slab Watch) (keys : Keys) (key turn : ℕ) (due now : Instant) (schedule : Schedule)
    (queues : List (List Place)) (watch : Watch) → AreNamed old keys → key_of keys watch.spelled.items ≡ Some key
    → (FitsClock (turn_end schedule now turn) → instant_nanos due ≡ turn_end schedule now turn)
    → PutsOffOne key turn due (get_or queues (min turn 23) []) old new watch
    → IsPutOff (watch_of old keys) (watch_of new keys) watch.spelled.items watch schedule queues turn now
seen_put_off old new keys key turn due now schedule queues watch named is end puts = record {
  due = puts.later;
  after = λ fits. subst (λ (n : ℕ). n ≤ instant_nanos puts.later) (end fits) puts.after;
  exact = λ fits on_time.
      let last : are_by (turn_end schedule now (min turn 23)) (get_or queues (min turn 23) []) ≡ true = on_time (min turn 23) in
      let when : turn_end schedule now (min turn 23) ≡ instant_nanos due = end_capped schedule now turn ∙ sym (end fits) in
      ap instant_nanos (puts.exact (subst (λ (n : ℕ). are_by n (get_or queues (min turn 23) []) ≡ true) when last)) ∙ end fits;
  only = seen_written old new keys watch.spelled.items key (Some (record watch { due = puts.later; turn = turn; waits = true })) named is
      puts.only;
}

-- what was begun and put off is added
pub added : (old mid new : List ℕ → Option Watch) (spelled : List ℕ) (watch : Watch) (schedule : Schedule) (queues : List (List Place))
    (turn : ℕ) (now : Instant) → watch.spelled.items ≡ spelled → watch.since ≡ now
    → ((other : List ℕ) → other ≢ spelled → mid other ≡ old other)
    → IsPutOff mid new watch.spelled.items watch schedule queues turn now
    → IsAdded old new spelled schedule queues turn now
added old mid new spelled watch schedule queues turn now its since same puts = record {
  watch = watch;
  its = its;
  since = since;
  put_off = record {
    due = puts.due;
    after = puts.after;
    exact = puts.exact;
    only = record {
      changed = ap new (sym its) ∙ puts.only.changed;
      others = λ other apart. puts.only.others other (λ is. apart (is ∙ its)) ∙ same other apart;
    };
  };
}

-- ---- by what a call answered

-- each is found by its spelling after the next that is due was looked for
pub named_next : (old new : Slab Watch) (keys : Keys) (now : Instant) (r : Option Due) → AreNamed old keys
    → IfNone r (AreAllLater new now × (new ≡ old)) → IfSome r (λ due. HandsOut old new now due.tx due.turn) → AreNamed new keys
named_next old new keys now None named none some = subst (λ (w : Slab Watch). AreNamed w keys) (sym none.1) named
named_next old new keys now (Some due) named none some = named_handed old new keys now due.tx due.turn named some

-- what the next of a queue is, is seen to be handed out
pub seen_next : (old new : Slab Watch) (keys : Keys) (now : Instant) (r : Option Due) → AreNamed old keys → AreSpelled old
    → IfSome r (λ due. HandsOut old new now due.tx due.turn)
    → IfSome r (λ due. IsHandedOut (watch_of old keys) (watch_of new keys) now (tx_spelling version_2 due.tx) due.turn)
seen_next old new keys now None named spelled some = tt
seen_next old new keys now (Some due) named spelled some = seen_handed old new keys now due.tx due.turn named spelled some

module _ {T E : Type 0} where
  -- each is found by its spelling after one was put off, which is
  pub named_put_off : (old new : Slab Watch) (keys : Keys) (key turn : ℕ) (due : Instant) (others : List Place) (r : Result T E)
      → AreNamed old keys → IsSomeAnd (get old key) (λ watch. key_of keys watch.spelled.items ≡ Some key)
      → OnOk r (PutsOff key turn due others old new) → OnErr r (new ≡ old) → AreNamed new keys
  named_put_off old new keys key turn due others (Err e) named keyed ok err = subst (λ (w : Slab Watch). AreNamed w keys) (sym err) named
  named_put_off old new keys key turn due others (Ok x) named keyed ok err = by (get old key) refl keyed ok
    where
      by : (o : Option Watch) → get old key ≡ o → IsSomeAnd o (λ watch. key_of keys watch.spelled.items ≡ Some key)
          → MatchOption o (new ≡ old) (PutsOffOne key turn due others old new) → AreNamed new keys
      by None e keyed ok = absurd keyed
      by (Some watch) e keyed ok =
          named_written old new keys key watch (record watch { due = ok.later; turn = turn; waits = true }) named e refl
          (λ waits. keyed) ok.only

  -- what is put off, if that is done, is seen to be
  pub seen_put_off_if : (old new : Slab Watch) (keys : Keys) (key turn at : ℕ) (due now : Instant) (schedule : Schedule)
      (queues : List (List Place)) (r : Result T E) → AreNamed old keys
      → IsSomeAnd (get old key) (λ watch. key_of keys watch.spelled.items ≡ Some key) → at ≡ min turn 23
      → (FitsClock (turn_end schedule now turn) → instant_nanos due ≡ turn_end schedule now turn)
      → OnOk r (PutsOff key turn due (get_or queues at []) old new)
      → OnOk r (IsSomeAnd (get old key)
      (λ watch. IsPutOff (watch_of old keys) (watch_of new keys) watch.spelled.items watch schedule queues turn now))
  seen_put_off_if old new keys key turn at due now schedule queues (Err e) named keyed is end ok = tt
  seen_put_off_if old new keys key turn at due now schedule queues (Ok x) named keyed is end ok = by (get old key) keyed ok
    where
      by : (o : Option Watch) → IsSomeAnd o (λ watch. key_of keys watch.spelled.items ≡ Some key)
          → MatchOption o (new ≡ old) (PutsOffOne key turn due (get_or queues at []) old new)
          → IsSomeAnd o (λ watch. IsPutOff (watch_of old keys) (watch_of new keys) watch.spelled.items watch schedule queues turn now)
      by None keyed ok = absurd keyed
      by (Some watch) keyed ok =
          seen_put_off old new keys key turn due now schedule queues watch named keyed end
          (subst (λ (n : ℕ). PutsOffOne key turn due (get_or queues n []) old new watch) is ok)

  -- a watch has its key, where there was memory
  pub named_begun : (watched : Slab Watch) (old new : IndexMap (Vec ℕ Global) ℕ WordKey) (name : Vec ℕ Global) (key : ℕ) (watch : Watch)
      (r : Result T E) → AreNamed watched old.entries → get watched key ≡ Some watch → watch.spelled.items ≡ name.items
      → key_of old.entries name.items ≡ None → OnOk r (MapUpdates (λ a b. bytes_eq a.items b.items) old new name (Some key))
      → OnErr r (new.entries ≡ old.entries) → AreNamed watched new.entries
  named_begun watched old new name key watch (Ok x) named there its absent ok err =
      named_keyed watched old.entries new.entries name.items key watch named there its absent ok.1
      (keys_after old.entries new.entries name.items (Some key) ok.3)
  named_begun watched old new name key watch (Err e) named there its absent ok err = subst (AreNamed watched) (sym err) named

  -- what wasn't watched is added
  pub added_if : (o : Option Watch) (old mid new : List ℕ → Option Watch) (spelled bytes : List ℕ) (schedule was : Schedule)
      (queues were : List (List Place)) (turn : ℕ) (now : Instant) (r : Result T E) → spelled ≡ bytes → old spelled ≡ None
      → IsSomeAnd o (λ watch. (watch.spelled.items ≡ spelled) × (watch.since ≡ now))
      → ((other : List ℕ) → other ≢ spelled → mid other ≡ old other) → schedule ≡ was → queues ≡ were
      → OnOk r (IsSomeAnd o (λ watch. IsPutOff mid new watch.spelled.items watch schedule queues turn now))
      → OnOk r (MatchOption (old bytes) (IsAdded old new bytes was were turn now) (λ watch. AreAsBefore old new))
  added_if o old mid new spelled bytes schedule was queues were turn now (Err e) one none begun others same alike ok = tt
  added_if o old mid new spelled bytes schedule was queues were turn now (Ok x) one none begun others same alike ok =
      subst (λ (b : List ℕ). MatchOption (old b) (IsAdded old new b was were turn now) (λ watch. AreAsBefore old new)) one
      (subst (λ (p : Option Watch). MatchOption p (IsAdded old new spelled was were turn now) (λ watch. AreAsBefore old new)) (sym none)
      (by o begun ok))
    where
      by : (o : Option Watch) → IsSomeAnd o (λ watch. (watch.spelled.items ≡ spelled) × (watch.since ≡ now))
          → IsSomeAnd o (λ watch. IsPutOff mid new watch.spelled.items watch schedule queues turn now)
          → IsAdded old new spelled was were turn now
      by None begun ok = absurd begun
      by (Some watch) begun ok =
          subst (λ (s : Schedule). IsAdded old new spelled s were turn now) same
          (subst (λ (qs : List (List Place)). IsAdded old new spelled schedule qs turn now) alike
          (added old mid new spelled watch schedule queues turn now begun.0 begun.1 others ok))

  -- what is watched is put off
  pub again_if : (watched : Slab Watch) (keys : Keys) (new : List ℕ → Option Watch) (spelled bytes : List ℕ) (key : ℕ) (schedule : Schedule)
      (queues : List (List Place)) (turn next : ℕ) (now : Instant) (r : Result T E) → spelled ≡ bytes → turn ≡ next
      → AreNamed watched keys → key_of keys spelled ≡ Some key
      → OnOk r (IsSomeAnd (get watched key)
      (λ watch. IsPutOff (watch_of watched keys) new watch.spelled.items watch schedule queues turn now))
      → OnOk r (MatchOption (watch_of watched keys bytes) (AreAsBefore (watch_of watched keys) new)
      (λ watch. IsPutOff (watch_of watched keys) new bytes watch schedule queues next now))
  again_if watched keys new spelled bytes key schedule queues turn next now (Err e) one same named is ok = tt
  again_if watched keys new spelled bytes key schedule queues turn next now (Ok x) one same named is ok =
      subst (λ (n : ℕ). MatchOption (watch_of watched keys bytes) (AreAsBefore (watch_of watched keys) new)
      (λ watch. IsPutOff (watch_of watched keys) new bytes watch schedule queues n now)) same
      (subst (λ (b : List ℕ). MatchOption (watch_of watched keys b) (AreAsBefore (watch_of watched keys) new)
      (λ watch. IsPutOff (watch_of watched keys) new b watch schedule queues turn now)) one
      (subst (λ (p : Option Watch). MatchOption p (AreAsBefore (watch_of watched keys) new)
      (λ watch. IsPutOff (watch_of watched keys) new spelled watch schedule queues turn now))
      (sym (seen_at watched keys spelled key is)) (by (get watched key) (of_name watched keys named spelled key is) ok)))
    where
      by : (o : Option Watch) → IsSomeAnd o (λ watch. watch.spelled.items ≡ spelled)
          → IsSomeAnd o (λ watch. IsPutOff (watch_of watched keys) new watch.spelled.items watch schedule queues turn now)
          → MatchOption o (AreAsBefore (watch_of watched keys) new)
          (λ watch. IsPutOff (watch_of watched keys) new spelled watch schedule queues turn now)
      by None its ok = absurd its
      by (Some watch) its ok =
          subst (λ (bytes : List ℕ). IsPutOff (watch_of watched keys) new bytes watch schedule queues turn now) its ok

-- under the key of a spelling stands a watch that is found by its spelling
pub keyed_watch : (watched : Slab Watch) (keys : Keys) (spelled : List ℕ) (key : ℕ) → AreNamed watched keys → key_of keys spelled ≡ Some key
    → IsSomeAnd (get watched key) (λ watch. key_of keys watch.spelled.items ≡ Some key)
keyed_watch watched keys spelled key named is = by (get watched key) (of_name watched keys named spelled key is)
  where
    by : (o : Option Watch) → IsSomeAnd o (λ watch. watch.spelled.items ≡ spelled)
        → IsSomeAnd o (λ watch. key_of keys watch.spelled.items ≡ Some key)
    by None its = absurd its
    by (Some watch) its = ap (key_of keys) its ∙ is

-- what has a key is seen
pub seen_some : (watched : Slab Watch) (keys : Keys) (spelled bytes : List ℕ) (P : Type 0) (Q : Watch → Type 0) → spelled ≡ bytes
    → AreNamed watched keys → is_some (key_of keys spelled) ≡ true → ((watch : Watch) → Q watch)
    → MatchOption (watch_of watched keys bytes) P Q
seen_some watched keys spelled bytes P Q one named is all =
    subst (λ (b : List ℕ). MatchOption (watch_of watched keys b) P Q) one (by (key_of keys spelled) refl is)
  where
    some : (o : Option Watch) → IsSomeAnd o (λ watch. watch.spelled.items ≡ spelled) → MatchOption o P Q
    some None its = absurd its
    some (Some watch) its = all watch

    by : (o : Option ℕ) → key_of keys spelled ≡ o → is_some o ≡ true → MatchOption (at_key watched o) P Q
    by None e is = absurd (cc)
    by (Some key) e is = some (get watched key) (of_name watched keys named spelled key e)

-- what has no key isn't seen
pub key_none : (o : Option ℕ) → is_some o ≡ false → o ≡ None
key_none None is = refl
key_none (Some key) is = absurd (cc)

-- a key's spelling is that of a transaction that is watched
pub listed : (watched : Slab Watch) (keys : Keys) (place : ℕ) (name : Vec ℕ Global) (key : ℕ) (r : Option TxParts) → AreNamed watched keys
    → AreSpelled watched → Some (name, key) ≡ slice_get keys place → key_of keys name.items ≡ Some key
    → (IsSpelled name.items → r ≡ Some (tx_spelled name.items))
    → MatchOption (slice_get keys place) (r ≡ None)
    (λ entry. (r ≡ Some (tx_spelled entry.0.items)) × (is_some (watch_of watched keys entry.0.items) ≡ true))
listed watched keys place name key r named spelled there is reads =
    subst (λ (o : Option (Vec ℕ Global × ℕ)). MatchOption o (r ≡ None)
    (λ entry. (r ≡ Some (tx_spelled entry.0.items)) × (is_some (watch_of watched keys entry.0.items) ≡ true))) there
    (by (get watched key) refl (of_name watched keys named name.items key is))
  where
    by : (o : Option Watch) → get watched key ≡ o → IsSomeAnd o (λ watch. watch.spelled.items ≡ name.items)
        → (r ≡ Some (tx_spelled name.items)) × (is_some (watch_of watched keys name.items) ≡ true)
    by None e its = absurd its
    by (Some watch) e its =
        (reads (subst IsSpelled its (spelled key watch e)), ap is_some (seen_at watched keys name.items key is ∙ e))

-- where there is no place, nothing is listed
pub not_listed : (keys : Keys) (place : ℕ) (r : Option TxParts) (Q : Vec ℕ Global × ℕ → Type 0) → None ≡ slice_get keys place → r ≡ None
    → MatchOption (slice_get keys place) (r ≡ None) Q
not_listed keys place r Q there is = subst (λ (o : Option (Vec ℕ Global × ℕ)). MatchOption o (r ≡ None) Q) there is
