-- What is taken was spelled, and its ranges and relations hold: each field of an entry from the front of bytes.
-- Needed by SpelledEntries.
use Rattle.std.proofs.Common.{◌≡◌, ℕ, zero, suc, ◌^◌, ◌<◌, ◌≤◌, Bool, true, false, cond, eqb, ltb, List, [], ◌∷◌, ◌++◌, length}
use Rattle.std.proofs.Common.{take, drop, Some, None, refl, sym, subst, ap, arith, eqb-true}
use Rattle.std.specs.List.{flat_map, AllByRecursion}
use Rattle.std.specs.Cmp.Lexicographic.{slice_cmp}
use Rattle.std.specs.Ordering.{nat_cmp, is_lt}
use Rattle.std.specs.declared.cmp.Ordering.{Ordering}
use Rattle.std.specs.declared.cmp.Ordering.TheVariants.{Less, Equal, Greater}
use Rattle.std.proofs.lemmas.Bool.Decides.{nat_tests}
use Rattle.std.proofs.lemmas.List.{take-append-drop, length-take}
use Rattle.std.proofs.lemmas.List.Concat.{flat_map-cons}
use Rattle.byteorder.specs.Endian.{big_number, big_bytes}
use Rattle.xid.specs.Names.{IsBytes}
use Rattle.xid.specs.Limits.{most_value, most_touched}
use Rattle.wire.specs.Messages.{IsBallot, IsLeaderBallot}
use Rattle.wire.specs.Versions.{version_of}
use Rattle.wire.specs.declared.grammar.VersionNumber.{VersionNumber}
use Rattle.wire.specs.declared.grammar.VersionNumber.TheVariants.{First, Second}
use Rattle.wire.specs.Grammar.{number_spelling, rm_spelling, component_spelling}
use Rattle.wire.specs.Reading.{◌>>=◌, byte_at, big_at, number_at, rm_at, component_at, instance_at, list_at}
use Rattle.wire.proofs.Spelled.{Front, front_of, joined, some_same, step, unless, byte_spelled, short_spelled, number_spelled, rm_spelled}
use Rattle.wire.proofs.Places.{bytes_front, component_few}
use Rattle.wire.proofs.Spelled.{bytes_after, component_spelled}
use Rattle.wire.proofs.DecodingLemmas.{kept}
use Rattle.wire.proofs.BundleKinds.{number_fits}
use Rattle.wire.proofs.CountedItems.{both}
use Rattle.stable_record.specs.declared.fact.Act.{Act}
use Rattle.stable_record.specs.declared.fact.Act.TheVariants.{Read, Del}
use Rattle.stable_record.specs.declared.fact.Touched.{Touched}
use Rattle.stable_record.specs.Facts.{IsKey, IsValue, IsAct, IsTouched, AreKeys, AreAscending}
use Rattle.stable_record.specs.Grammar.{value_spelling, act_spelling, touched_spelling, keys_spelling}
use Rattle.stable_record.specs.Reading.{value_at, key_at, act_at, touched_at, are_ascending, keys_at, leader_ballot_at}

-- a value that is taken was spelled there
pub value_spelled : (bytes : List ℕ) (x : List ℕ × List ℕ) → IsBytes bytes → value_at bytes ≡ Some x
    → IsValue x.0 × Front bytes (value_spelling x.0) x.1
unfolding value_at
value_spelled bytes x is e =
    step (big_at 2 bytes) _ e (λ n en e.
    let few = unless (ltb most_value n.0) _ x e in
    let long = unless (ltb (length n.1) n.0) (Some (take n.0 n.1, drop n.0 n.1)) x few.1 in
    let le : n.0 ≤ length n.1 = grind (arith, nat_tests, long.0) in
    let small : n.0 ≤ most_value = grind (arith, nat_tests, few.0) in
    let len : length (take n.0 n.1) ≡ n.0 = omega (arith, length-take n.0 n.1, le) in
    let first = short_spelled bytes n is en in
    let sized : Front bytes (big_bytes 2 (length (take n.0 n.1))) n.1 =
    subst (λ (k : ℕ). Front bytes (big_bytes 2 k) n.1) (sym len) first in
    let cut : n.1 ≡ take n.0 n.1 ++ drop n.0 n.1 = sym (take-append-drop n.0 n.1) in
    let second = front_of n.1 (take n.0 n.1) (drop n.0 n.1) first.after cut in
    let value : IsValue (take n.0 n.1) = record {
      few = omega (arith, len, small);
      bytes = bytes_front (take n.0 n.1) (drop n.0 n.1) (subst IsBytes cut first.after);
    } in
    subst (λ (x : List ℕ × List ℕ). IsValue x.0 × Front bytes (value_spelling x.0) x.1) (some_same (take n.0 n.1, drop n.0 n.1) x long.1)
    (value, joined bytes (big_bytes 2 (length (take n.0 n.1))) n.1 (take n.0 n.1) (drop n.0 n.1) sized second))

-- what is taken behind its length is no longer than a component
pub key_spelled : (bytes : List ℕ) (x : List ℕ × List ℕ) → IsBytes bytes → key_at bytes ≡ Some x
    → IsKey x.0 × Front bytes (component_spelling x.0) x.1
unfolding key_at
key_spelled bytes x is e =
    step (component_at bytes) _ e (λ key ek e.
    let some = kept (ltb 0 (length key.0)) key x e in
    let front = component_spelled bytes key is ek in
    let more : 0 < length key.0 = grind (arith, nat_tests, some.0) in
    let all : IsBytes (key.0 ++ key.1) = bytes_after (length key.0 ∷ []) (key.0 ++ key.1) (subst IsBytes front.same is) in
    let is-key : IsKey key.0 = record { some = more; few = component_few bytes key ek; bytes = bytes_front key.0 key.1 all } in
    subst (λ (x : List ℕ × List ℕ). IsKey x.0 × Front bytes (component_spelling x.0) x.1) some.1 (is-key, front))

pub act_spelled : (bytes : List ℕ) (x : Act × List ℕ) → IsBytes bytes → act_at bytes ≡ Some x
    → IsAct x.0 × Front bytes (act_spelling x.0) x.1
unfolding act_at
act_spelled [] x is e = absurd (cc)
act_spelled (n ∷ rest) x is e = by (eqb n 0) (eqb n 1) (eqb n 2) (eqb-true n 0) (eqb-true n 1) (eqb-true n 2) e
  where
    Is : Act × List ℕ → Type 0
    Is x = IsAct x.0 × Front (n ∷ rest) (act_spelling x.0) x.1

    head : (k : ℕ) → n ≡ k → Front (n ∷ rest) (k ∷ []) rest
    head k e = front_of (n ∷ rest) (k ∷ []) rest is (ap (λ (m : ℕ). m ∷ rest) e)

    by : (a b c : Bool) → (a ≡ true → n ≡ 0) → (b ≡ true → n ≡ 1) → (c ≡ true → n ≡ 2)
        → cond a (Some (Read, rest)) (cond b (value_at rest >>= λ value. Some (Act.Put value.0, value.1)) (cond c (Some (Del, rest)) None))
        ≡ Some x
        → Is x
    by true b c a-is b-is c-is e = subst Is (some_same (Read, rest) x e) (tt, head 0 (a-is refl))
    by false true c a-is b-is c-is e =
        step (value_at rest) _ e (λ value ev e.
        let first = head 1 (b-is refl) in
        let second = value_spelled rest value first.after ev in
        subst Is (some_same (Act.Put value.0, value.1) x e)
        (second.0, joined (n ∷ rest) (1 ∷ []) rest (value_spelling value.0) value.1 first second.1))
    by false false true a-is b-is c-is e = subst Is (some_same (Del, rest) x e) (tt, head 2 (c-is refl))
    by false false false a-is b-is c-is e = absurd (cc)

pub touched_spelled : (bytes : List ℕ) (x : Touched × List ℕ) → IsBytes bytes → touched_at bytes ≡ Some x
    → IsTouched x.0 × Front bytes (touched_spelling x.0) x.1
unfolding touched_at
touched_spelled bytes x is e =
    step (key_at bytes) _ e (λ key ek e. step (act_at key.1) _ e (λ act ea e.
    let one = key_spelled bytes key is ek in
    let two = act_spelled key.1 act one.1.after ea in
    let touched : Touched = record { key = key.0; act = act.0 } in
    let is-touched : IsTouched touched = record { key = one.0; act = two.0 } in
    subst (λ (x : Touched × List ℕ). IsTouched x.0 × Front bytes (touched_spelling x.0) x.1) (some_same (touched, act.1) x e)
    (is-touched, joined bytes (component_spelling key.0) key.1 (act_spelling act.0) act.1 one.1 two.1)))

-- touched keys one after the other, as many as were asked for
record Keys_front (count : ℕ) (bytes : List ℕ) (x : List Touched × List ℕ) : Type 0 where
  pub front : Front bytes (flat_map touched_spelling x.0) x.1
  pub counted : length x.0 ≡ count
  pub each : AllByRecursion IsTouched x.0

list_spelled : (n : ℕ) (bytes : List ℕ) (x : List Touched × List ℕ) → IsBytes bytes → list_at touched_at n bytes ≡ Some x
    → Keys_front n bytes x
unfolding list_at
list_spelled zero bytes x is e =
    subst (λ (x : List Touched × List ℕ). Keys_front 0 bytes x) (some_same ([], bytes) x e)
    (record { front = front_of bytes [] bytes is refl; counted = refl; each = tt })
list_spelled (suc n) bytes x is e =
    step (touched_at bytes) _ e (λ first ef e. step (list_at touched_at n first.1) _ e (λ others eo e.
    let front = touched_spelled bytes first is ef in
    let later = list_spelled n first.1 others front.1.after eo in
    let rest : List ℕ = flat_map touched_spelling others.0 in
    let whole = joined bytes (touched_spelling first.0) first.1 rest others.1 front.1 later.front in
    let spelled : touched_spelling first.0 ++ rest ≡ flat_map touched_spelling (first.0 ∷ others.0) =
    sym (flat_map-cons touched_spelling first.0 others.0) in
    subst (λ (x : List Touched × List ℕ). Keys_front (suc n) bytes x) (some_same (first.0 ∷ others.0, others.1) x e)
    (record {
      front = subst (λ (xs : List ℕ). Front bytes xs others.1) spelled whole;
      counted = ap suc later.counted;
      each = (front.0, later.each);
    })))

less : (o : Ordering) → is_lt o ≡ true → o ≡ Less
less Less e = refl
less Equal e = absurd (cc)
less Greater e = absurd (cc)

ascending_spelled : (keys : List Touched) → are_ascending keys ≡ true → AreAscending keys
ascending_spelled [] e = tt
ascending_spelled (first ∷ []) e = tt
ascending_spelled (first ∷ second ∷ rest) e =
    let t = both (is_lt (slice_cmp nat_cmp first.key second.key)) (are_ascending (second ∷ rest)) e in
    (less (slice_cmp nat_cmp first.key second.key) t.0, ascending_spelled (second ∷ rest) t.1)

-- touched keys that are taken were
pub keys_spelled : (bytes : List ℕ) (x : List Touched × List ℕ) → IsBytes bytes → keys_at bytes ≡ Some x
    → AreKeys x.0 × Front bytes (keys_spelling x.0) x.1
unfolding keys_at
keys_spelled bytes x is e =
    step (byte_at bytes) _ e (λ count ec e.
    let few = unless (ltb most_touched count.0) _ x e in
    step (list_at touched_at count.0 count.1) _ few.1 (λ keys ek e.
    let up = kept (are_ascending keys.0) keys x e in
    let first = byte_spelled bytes count is ec in
    let all = list_spelled count.0 count.1 keys first.after ek in
    let small : count.0 ≤ most_touched = grind (arith, nat_tests, few.0) in
    let front = joined bytes (count.0 ∷ []) count.1 (flat_map touched_spelling keys.0) keys.1 first all.front in
    let are : AreKeys keys.0 = record {
      few = omega (arith, all.counted, small);
      each = all.each;
      ascending = ascending_spelled keys.0 up.0;
    } in
    subst (λ (x : List Touched × List ℕ). AreKeys x.0 × Front bytes (keys_spelling x.0) x.1) up.1
    (are, subst (λ (n : ℕ). Front bytes (n ∷ flat_map touched_spelling keys.0) keys.1) (sym all.counted) front)))

-- a number that was taken fits its bytes
fits_2 : (bytes : List ℕ) → IsBytes bytes → 2 ≤ length bytes → big_number 2 bytes < 256 ^ 2
fits_2 [] is le = absurd (omega arith)
fits_2 (a ∷ []) is le = absurd (omega arith)
fits_2 (a ∷ b ∷ rest) is le = omega (arith, is 0, is 1)

fits_1 : (bytes : List ℕ) → IsBytes bytes → 1 ≤ length bytes → big_number 1 bytes < 256 ^ 1
fits_1 [] is le = absurd (omega arith)
fits_1 (a ∷ rest) is le = omega (arith, is 0)

pub rm_fits : (v : VersionNumber) (bytes : List ℕ) (x : ℕ × List ℕ) → IsBytes bytes → rm_at (version_of v) bytes ≡ Some x
    → x.0 < 256 ^ (version_of v).rm_width
rm_fits First bytes x is e =
    let t = unless (ltb (length bytes) 1) (Some (big_number 1 bytes, drop 1 bytes)) x e in
    let long : 1 ≤ length bytes = grind (arith, nat_tests, t.0) in
    subst (λ (x : ℕ × List ℕ). x.0 < 256 ^ 1) (some_same (big_number 1 bytes, drop 1 bytes) x t.1) (fits_1 bytes is long)
rm_fits Second bytes x is e =
    let t = unless (ltb (length bytes) 2) (Some (big_number 2 bytes, drop 2 bytes)) x e in
    let long : 2 ≤ length bytes = grind (arith, nat_tests, t.0) in
    subst (λ (x : ℕ × List ℕ). x.0 < 256 ^ 2) (some_same (big_number 2 bytes, drop 2 bytes) x t.1) (fits_2 bytes is long)

-- and a leader's ballot
pub leader_ballot_spelled : (bytes : List ℕ) (x : ℕ × List ℕ) → IsBytes bytes → leader_ballot_at bytes ≡ Some x
    → IsLeaderBallot x.0 × Front bytes (number_spelling x.0) x.1
unfolding leader_ballot_at
leader_ballot_spelled bytes x is e =
    step (number_at bytes) _ e (λ ballot eb e.
    let some = kept (ltb 0 ballot.0) ballot x e in
    let more : 1 ≤ ballot.0 = grind (arith, nat_tests, some.0) in
    let is-ballot : IsLeaderBallot ballot.0 = record { some = more; fits = number_fits bytes ballot is eb } in
    subst (λ (x : ℕ × List ℕ). IsLeaderBallot x.0 × Front bytes (number_spelling x.0) x.1) some.1
    (is-ballot, number_spelled bytes ballot is eb))

-- an instance and a ballot
pub record Instance_front (v : VersionNumber) (bytes : List ℕ) (x : ℕ × ℕ × List ℕ) : Type 0 where
  pub front : Front bytes (rm_spelling (version_of v) x.0 ++ number_spelling x.1) x.2
  pub instance : x.0 < 256 ^ (version_of v).rm_width
  pub ballot : IsBallot x.1

-- and an instance with a ballot
pub instance_spelled : (v : VersionNumber) (bytes : List ℕ) (x : ℕ × ℕ × List ℕ) → IsBytes bytes → instance_at (version_of v) bytes ≡ Some x
    → Instance_front v bytes x
unfolding instance_at
instance_spelled v bytes x is e =
    step (rm_at (version_of v) bytes) _ e (λ rm er e. step (number_at rm.1) _ e (λ ballot eb e.
    let one = rm_spelled v bytes rm is er in
    let two = number_spelled rm.1 ballot one.after eb in
    subst (Instance_front v bytes) (some_same (rm.0, ballot.0, ballot.1) x e) (record {
      front = joined bytes (rm_spelling (version_of v) rm.0) rm.1 (number_spelling ballot.0) ballot.1 one two;
      instance = rm_fits v bytes rm is er;
      ballot = number_fits rm.1 ballot one.after eb;
    })))
