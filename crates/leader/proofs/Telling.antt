-- What an acceptor tells in phase 2b, at a course and in a leader's memory.
-- Needed by Beginning, Proposing, Reporting, Rules and ToldPlaces.
use Rattle.std.proofs.Common.{◌≡◌, ◌∙◌, ℕ, zero, suc, ◌+◌, ◌*◌, ◌<◌, ◌≤◌, Bool, true, false, ◌&&◌, ◌||◌, ◌==◌, List, [], ◌∷◌, length}
use Rattle.std.proofs.Common.{get_or, replicate, Some, None, sym, ap, refl, arith, inl, inr, subst}
use Rattle.std.specs.Prelude.{cond, if◌then◌else◌, filter_map, find, map}
use Rattle.std.specs.List.{list_any, cons_option, AllByRecursion}
use Rattle.std.specs.Option.{option_map_or}
use Rattle.std.proofs.lemmas.Bool.{true≢false, false≢true, eqb-true, eqb-false, cases_Bool, ltb-true, lt-ltb, or_right}
use Rattle.std.proofs.lemmas.List.{length-set, get_or-set_same, get_or-set_other}
use Rattle.xid.specs.Limits.{most_acceptors}
use Rattle.xid.specs.Transactions.{TxParts, tx_eq}
use Rattle.xid.specs.declared.transaction.Vote.{Vote}
use Rattle.wire.specs.declared.message.Kind.{Kind}
use Rattle.wire.specs.declared.message.Kind.TheVariants.{P2b}
use Rattle.wire.specs.declared.items.InstanceAccept.{InstanceAccept}
use Rattle.ballot.specs.Majority.{has, is_majority, count}
use Rattle.protocol.specs.Facts.{vote_eq}
use Rattle.protocol.specs.LeaderMemory.{LeaderMemory, StoredBallots, is_accept_of, ballot_told, is_decided, with_heard, with_all_heard}
use Rattle.protocol.specs.PaperItems.{accept_messages_of}
use Rattle.leader.specs.declared.instance.InstanceCourse.{InstanceCourse}
use Rattle.leader.specs.declared.instance.Told.{Told}
use Rattle.leader.specs.Courses.{CourseParts, InstanceStands, CourseStands, nobody, joined, is_place_of, told_of, with_member, first_told}
use Rattle.leader.specs.Courses.{told_by, with_decided, Telling, after_accept, telling_of, after_accepts}
use Rattle.leader.proofs.Basics.{and_no, tx_self, nat_turned, is_false}

-- ---- an acceptor more

-- who has told, with one more
pub has_joined : (members : List Bool) (a x : ℕ) → a < length members → has (joined a members) x ≡ ((x == a) || has members x)
has_joined members a x within = elim (cases_Bool (x == a)) [
  | inl h ↦ ap (λ k. get_or (joined a members) k false) (eqb-true x a h) ∙ get_or-set_same members a true false within
      ∙ sym (ap (λ t. t || has members x) h)
  | inr h ↦ get_or-set_other members a x true false (eqb-false x a h) ∙ sym (ap (λ t. t || has members x) h)
]

-- ---- places

vote_turned : (v w : Vote) → vote_eq v w ≡ vote_eq w v
vote_turned Vote.Prepared Vote.Prepared = refl
vote_turned Vote.Prepared Vote.Aborted = refl
vote_turned Vote.Aborted Vote.Prepared = refl
vote_turned Vote.Aborted Vote.Aborted = refl

-- a vote passes the test with itself
pub vote_self : (v : Vote) → vote_eq v v ≡ true
vote_self Vote.Prepared = refl
vote_self Vote.Aborted = refl

pub same_vote : (v w : Vote) → vote_eq v w ≡ true → v ≡ w
same_vote Vote.Prepared Vote.Prepared h = refl
same_vote Vote.Prepared Vote.Aborted h = absurd (false≢true h)
same_vote Vote.Aborted Vote.Prepared h = absurd (false≢true h)
same_vote Vote.Aborted Vote.Aborted h = refl

-- whether two places are one
abbrev pub key_eq : ℕ → ℕ → Vote → ℕ → ℕ → Vote → Bool
key_eq i b v j c w = (b == c) && vote_eq v w && (i == j)

key_turned : (i b : ℕ) (v : Vote) (j c : ℕ) (w : Vote) → key_eq i b v j c w ≡ key_eq j c w i b v
key_turned i b v j c w = λ k. nat_turned b c k && vote_turned v w k && nat_turned i j k

record IsSameKey (i b : ℕ) (v : Vote) (j c : ℕ) (w : Vote) : Type 0 where
  instance_is : i ≡ j
  ballot_is : b ≡ c
  vote_is : v ≡ w

same_key_of : (i b : ℕ) (v : Vote) (j c : ℕ) (w : Vote) (x y z : Bool) → (b == c) ≡ x → vote_eq v w ≡ y → (i == j) ≡ z → (x && y && z)
    ≡ true
    → IsSameKey i b v j c w
same_key_of i b v j c w true true true e f g h = record {
  instance_is = eqb-true i j g;
  ballot_is = eqb-true b c e;
  vote_is = same_vote v w
      f;
}
same_key_of i b v j c w true true false e f g h = absurd (false≢true h)
same_key_of i b v j c w true false z e f g h = absurd (false≢true h)
same_key_of i b v j c w false y z e f g h = absurd (false≢true h)

same_key : (i b : ℕ) (v : Vote) (j c : ℕ) (w : Vote) → key_eq i b v j c w ≡ true → IsSameKey i b v j c w
same_key i b v j c w h = same_key_of i b v j c w (b == c) (vote_eq v w) (i == j) refl refl refl h

abbrev AreWhole : List Told → Type 0
AreWhole rows = AllByRecursion (λ row. length row.members ≡ most_acceptors) rows

this_key : (j c : ℕ) (w : Vote) (i b : ℕ) (v : Vote) (row : Told) → is_place_of j c w row ≡ true → is_place_of i b v row
    ≡ key_eq j c w i b v
this_key j c w i b v row h =
    let same : IsSameKey j c w row.instance row.ballot row.vote = same_key j c w row.instance row.ballot row.vote h in
    (λ k. key_eq i b v (sym same.instance_is k) (sym same.ballot_is k) (sym same.vote_is k)) ∙ key_turned i b v j c w

abbrev members_of : Told → List Bool
members_of row = row.members

-- nobody has told
none_of : (n x : ℕ) → get_or (replicate n false) x false ≡ false
none_of zero x = refl
none_of (suc n) zero = refl
none_of (suc n) (suc x) = none_of n x

-- nobody has told at first
pub has_nobody : (x : ℕ) → has nobody x ≡ false
has_nobody x = none_of most_acceptors x

-- ---- who told, after one more

and_yes : (t : Bool) → (t && true) ≡ t
and_yes true = refl
and_yes false = refl

-- at the place
joined_at : (x a : ℕ) (key : Bool) (members : List Bool) → key ≡ true → a < length members
    → has (joined a members) x ≡ (((x == a) && key) || has members x)
joined_at x a key members e within =
    has_joined members a x within ∙ ap (λ t. t || has members x) (sym (and_yes (x == a)))
    ∙ sym (ap (λ t. ((x == a) && t) || has members x) e)

-- at another
stays_at : (x a : ℕ) (key rest : Bool) → key ≡ false → rest ≡ (((x == a) && key) || rest)
stays_at x a key rest e = sym (ap (λ t. ((x == a) && t) || rest) e ∙ ap (λ t. t || rest) (and_no (x == a)))

other_key : (j c : ℕ) (w : Vote) (i b : ℕ) (v : Vote) (row : Told) → is_place_of i b v row ≡ true → is_place_of j c w row ≡ false
    → key_eq j c w i b v ≡ false
other_key j c w i b v row e f = is_false (key_eq j c w i b v) (λ h.
    let same : IsSameKey j c w i b v = same_key j c w i b v h in
    false≢true (sym f ∙ (λ k. is_place_of (same.instance_is k) (same.ballot_is k) (same.vote_is k) row) ∙ e))

told_first : (j c : ℕ) (w : Vote) (i b : ℕ) (v : Vote) (a x : ℕ) → a < most_acceptors
    → has (told_of (first_told i b v a ∷ []) j c w) x ≡ (((x == a) && key_eq j c w i b v) || false)
told_first j c w i b v a x within =
    elim (key_eq j c w i b v) as (λ t. has (option_map_or members_of (cond t (Some (first_told i b v a)) None) []) x
    ≡ (((x == a) && t) || false)) [
      | true ↦ joined_at x a true nobody refl within ∙ ap (λ t. ((x == a) && true) || t) (has_nobody x)
      | false ↦ stays_at x a false false refl
    ]

pub told_step : (j c : ℕ) (w : Vote) (i b : ℕ) (v : Vote) (a x : ℕ) (rows : List Told) → AreWhole rows → a < most_acceptors
    → has (told_of (told_by i b v a rows) j c w) x ≡ (((x == a) && key_eq j c w i b v) || has (told_of rows j c w) x)
told_step j c w i b v a x [] whole within = told_first j c w i b v a x within
told_step j c w i b v a x (row ∷ rows) whole within =
    by (is_place_of i b v row) (is_place_of j c w row) refl refl (told_step j c w i b v a x rows whole.1 within)
  where
    found : Told → List Told → Bool → Bool
    found first rest t = has (option_map_or members_of (cond t (Some first) (find (is_place_of j c w) rest)) []) x

    by : (t s : Bool) → is_place_of i b v row ≡ t → is_place_of j c w row ≡ s
        → has (told_of (told_by i b v a rows) j c w) x ≡ (((x == a) && key_eq j c w i b v) || has (told_of rows j c w) x)
        → has (told_of (if t then with_member a row ∷ rows else row ∷ told_by i b v a rows) j c w) x
        ≡ (((x == a) && key_eq j c w i b v) || found row rows s)
    by true true e f rest = ap (found (with_member a row) rows) f
        ∙ joined_at x a (key_eq j c w i b v) row.members (sym (this_key j c w i b v row f) ∙ e) (omega (arith, whole.0, within))
    by true false e f rest = ap (found (with_member a row) rows) f
        ∙ stays_at x a (key_eq j c w i b v) (has (told_of rows j c w) x) (other_key j c w i b v row e f)
    by false true e f rest = ap (found row (told_by i b v a rows)) f
        ∙ stays_at x a (key_eq j c w i b v) (has row.members x) (sym (this_key j c w i b v row f) ∙ e)
    by false false e f rest = ap (found row (told_by i b v a rows)) f ∙ rest

pub whole_step : (i b : ℕ) (v : Vote) (a : ℕ) (rows : List Told) → AreWhole rows → AreWhole (told_by i b v a rows)
whole_step i b v a [] whole = (length-set nobody a true, tt)
whole_step i b v a (row ∷ rows) whole = by (is_place_of i b v row) (whole_step i b v a rows whole.1)
  where
    by : (t : Bool) → AreWhole (told_by i b v a rows) → AreWhole (if t then with_member a row ∷ rows else row ∷ told_by i b v a rows)
    by true rest = (length-set row.members a true ∙ whole.0, whole.1)
    by false rest = (whole.0, rest)

-- ---- what is decided, after one message more

count_more : (n : ℕ) (p q : ℕ → Bool) → ((x : ℕ) → p x ≡ true → q x ≡ true) → count n p ≤ count n q
count_more zero p q more = omega arith
count_more (suc n) p q more = step (p n) (q n) refl refl (count_more n p q more)
  where
    step : (s t : Bool) → p n ≡ s → q n ≡ t → count n p ≤ count n q
        → ((if s then 1 else 0) + count n p) ≤ ((if t then 1 else 0) + count n q)
    step true true e f h = omega (arith, h)
    step true false e f h = absurd (false≢true (sym f ∙ more n e))
    step false true e f h = omega (arith, h)
    step false false e f h = omega (arith, h)

majority_more : (n : ℕ) (p q : ℕ → Bool) → ((x : ℕ) → p x ≡ true → q x ≡ true) → is_majority n p ≡ true → is_majority n q ≡ true
majority_more n p q more h =
    lt-ltb n (2 * count n q) (omega (arith, ltb-true n (2 * count n p) h, count_more n p q more))

-- who told of a ballot and value of an instance, in memory
abbrev pub tellers : List Kind → TxParts → ℕ → ℕ → Vote → ℕ → Bool
tellers heard tx i b v x = list_any (is_accept_of tx i b v x) heard

-- whether a majority did
abbrev pub is_told : ℕ → List Kind → TxParts → ℕ → Vote → ℕ → Bool
is_told n heard tx i v b = is_majority n (tellers heard tx i b v)

-- a list of ballots asked, where one more teller is asked of only one
any_told : (p q : ℕ → Bool) (b : ℕ) → ((c : ℕ) → (c == b) ≡ false → q c ≡ p c) → (p b ≡ true → q b ≡ true) → (cs : List ℕ)
    → (q b || list_any q cs) ≡ (q b || list_any p cs)
any_told p q b other more cs = elim (q b) as (λ t. q b ≡ t → (t || list_any q cs) ≡ (t || list_any p cs)) [
  | true ↦ λ e. refl
  | false ↦ λ e. λ k. list_any (λ c. alike e c k) cs
] refl
  where
    alike : q b ≡ false → (c : ℕ) → q c ≡ p c
    alike e c = elim (cases_Bool (c == b)) [
      | inl h ↦ ap q (eqb-true c b h) ∙ e ∙ sym (is_false (p b) (λ f. false≢true (sym e ∙ more f))) ∙ sym (ap p (eqb-true c b h))
      | inr h ↦ other c h
    ]

not_key : (p q y z : Bool) → (y && z) ≡ false → (p && q && y && z) ≡ false
not_key true true true true h = h
not_key true true true false h = refl
not_key true true false z h = refl
not_key true false y z h = refl
not_key false q y z h = refl

not_ballot : (p y z : Bool) → (p && false && y && z) ≡ false
not_ballot true y z = refl
not_ballot false y z = refl

-- whether what is told is of an instance and value
abbrev is_here : TxParts → ℕ → Vote → ℕ → Vote → Bool
is_here tx j w i v = vote_eq w v && ((j == i) && tx_eq tx tx)

decided_here : (n : ℕ) (tx : TxParts) (i b : ℕ) (v : Vote) (a : ℕ) (heard : List Kind) (j : ℕ) (w : Vote)
    → (is_told n (P2b tx i b v a ∷ heard) tx j w b || list_any (is_told n (P2b tx i b v a ∷ heard) tx j w) (filter_map
    (ballot_told tx j w) heard))
    ≡ (is_told n (P2b tx i b v a ∷ heard) tx j w b || is_decided n heard tx j w)
decided_here n tx i b v a heard j w =
    any_told (is_told n heard tx j w) (is_told n (P2b tx i b v a ∷ heard) tx j w) b
    (λ c other. λ k. is_majority n (λ x. apart c other x k))
    (λ h. majority_more n (tellers heard tx j b w) (tellers (P2b tx i b v a ∷ heard) tx j b w)
    (λ x e. or_right (is_accept_of tx j b w x (P2b tx i b v a)) (tellers heard tx j b w x) e) h)
    (filter_map (ballot_told tx j w) heard)
  where
    apart : (c : ℕ) → (c == b) ≡ false → (x : ℕ) → tellers (P2b tx i b v a ∷ heard) tx j c w x ≡ tellers heard tx j c w x
    apart c other x = ap (λ t. t || tellers heard tx j c w x)
        (ap (λ t. (x == a) && t && vote_eq w v && ((j == i) && tx_eq tx tx)) other
        ∙ not_ballot (x == a) (vote_eq w v) ((j == i) && tx_eq tx tx))

-- decided after one message more: before, or by it
decided_step : (n : ℕ) (tx : TxParts) (i b : ℕ) (v : Vote) (a : ℕ) (heard : List Kind) (j : ℕ) (w : Vote)
    → is_decided n (P2b tx i b v a ∷ heard) tx j w
    ≡ ((is_here tx j w i v && is_told n (P2b tx i b v a ∷ heard) tx j w b) || is_decided n heard tx j w)
decided_step n tx i b v a heard j w = elim (is_here tx j w i v) as (λ t. is_here tx j w i v ≡ t
    → list_any (is_told n (P2b tx i b v a ∷ heard) tx j w)
    (cons_option (if t then Some b else None) (filter_map (ballot_told tx j w) heard))
    ≡ ((t && is_told n (P2b tx i b v a ∷ heard) tx j w b) || is_decided n heard tx j w)) [
      | true ↦ λ e. decided_here n tx i b v a heard j w
      | false ↦ λ e. λ k. list_any (λ c. is_majority n (λ x. elsewhere e c x k)) (filter_map (ballot_told tx j w) heard)
    ] refl
  where
    elsewhere : is_here tx j w i v ≡ false → (c x : ℕ) → tellers (P2b tx i b v a ∷ heard) tx j c w x ≡ tellers heard tx j c w x
    elsewhere e c x = ap (λ t. t || tellers heard tx j c w x) (not_key (x == a) (c == b) (vote_eq w v) ((j == i) && tx_eq tx tx) e)

-- ---- an instance, when something was told

flag : (n : ℕ) (tx : TxParts) (i b : ℕ) (v : Vote) (a : ℕ) (heard : List Kind) (j : ℕ) (w : Vote) (decides : Bool)
    → decides ≡ is_told n (P2b tx i b v a ∷ heard) tx i v b
    → (((vote_eq w v && (j == i)) && decides) || is_decided n heard tx j w) ≡ is_decided n (P2b tx i b v a ∷ heard) tx j w
flag n tx i b v a heard j w decides is =
    ap (λ t. t || is_decided n heard tx j w) (by_key (vote_eq w v) (j == i) refl refl) ∙ sym (decided_step n tx i b v a heard j w)
  where
    told : ℕ → Vote → Bool
    told x y = is_told n (P2b tx i b v a ∷ heard) tx x y b

    by_key : (y z : Bool) → vote_eq w v ≡ y → (j == i) ≡ z
        → ((y && z) && decides) ≡ ((y && (z && tx_eq tx tx)) && is_told n (P2b tx i b v a ∷ heard) tx j w b)
    by_key true true e f = is ∙ (λ k. is_told n (P2b tx i b v a ∷ heard) tx (sym (eqb-true j i f) k) (sym (same_vote w v e) k) b)
        ∙ ap (λ t. t && is_told n (P2b tx i b v a ∷ heard) tx j w b) (sym (tx_self tx))
    by_key true false e f = refl
    by_key false z e f = refl

decided_is : (i : ℕ) (v : Vote) (row : InstanceCourse) → with_decided i v row
    ≡ record row {
      prepared = ((vote_eq Vote.Prepared v && (row.instance == i)) && true) || row.prepared;
      aborted = ((vote_eq Vote.Aborted v && (row.instance == i)) && true) || row.aborted;
    }
decided_is i Vote.Prepared row = elim (row.instance == i) as (λ t. (if t then record row { prepared = true } else row)
    ≡ record row { prepared = (t && true) || row.prepared; aborted = row.aborted }) [
      | true ↦ refl
      | false ↦ refl
    ]
decided_is i Vote.Aborted row = elim (row.instance == i) as (λ t. (if t then record row { aborted = true } else row)
    ≡ record row { prepared = row.prepared; aborted = (t && true) || row.aborted }) [
      | true ↦ refl
      | false ↦ refl
    ]

-- an instance with its flags
flagged : (n : ℕ) (tx : TxParts) (i b : ℕ) (v : Vote) (a : ℕ) (memory : LeaderMemory) (row : InstanceCourse) (p q : Bool)
    → p ≡ is_decided n (P2b tx i b v a ∷ memory.heard) tx row.instance Vote.Prepared
    → q ≡ is_decided n (P2b tx i b v a ∷ memory.heard) tx row.instance Vote.Aborted
    → InstanceStands n memory tx row → InstanceStands n (with_heard (P2b tx i b v a) memory) tx (record row { prepared = p; aborted = q })
flagged n tx i b v a memory row p q is_p is_q stands = record {
  whole = stands.whole;
  reporters_are = λ c x is. stands.reporters_are c x is;
  best_is = λ c is. stands.best_is c is;
  proposed_is = λ c is. stands.proposed_is c is;
  prepared_is = is_p;
  aborted_is = is_q;
}

row_decides : (n : ℕ) (tx : TxParts) (i b : ℕ) (v : Vote) (a : ℕ) (memory : LeaderMemory) (row : InstanceCourse)
    → true ≡ is_told n (P2b tx i b v a ∷ memory.heard) tx i v b
    → InstanceStands n memory tx row → InstanceStands n (with_heard (P2b tx i b v a) memory) tx (with_decided i v row)
row_decides n tx i b v a memory row is stands =
    let P : InstanceCourse → Type 0 = InstanceStands n (with_heard (P2b tx i b v a) memory) tx in
    subst P (sym (decided_is i v row)) (flagged n tx i b v a memory row
    (((vote_eq Vote.Prepared v && (row.instance == i)) && true) || row.prepared)
    (((vote_eq Vote.Aborted v && (row.instance == i)) && true) || row.aborted)
    (ap (λ t. ((vote_eq Vote.Prepared v && (row.instance == i)) && true) || t) stands.prepared_is
    ∙ flag n tx i b v a memory.heard row.instance Vote.Prepared true is)
    (ap (λ t. ((vote_eq Vote.Aborted v && (row.instance == i)) && true) || t) stands.aborted_is
    ∙ flag n tx i b v a memory.heard row.instance Vote.Aborted true is)
    stands)

row_stays : (n : ℕ) (tx : TxParts) (i b : ℕ) (v : Vote) (a : ℕ) (memory : LeaderMemory) (row : InstanceCourse)
    → false ≡ is_told n (P2b tx i b v a ∷ memory.heard) tx i v b
    → InstanceStands n memory tx row → InstanceStands n (with_heard (P2b tx i b v a) memory) tx row
row_stays n tx i b v a memory row is stands = flagged n tx i b v a memory row row.prepared row.aborted
    (stands.prepared_is ∙ ap (λ t. t || is_decided n memory.heard tx row.instance Vote.Prepared)
    (sym (and_no (vote_eq Vote.Prepared v && (row.instance == i)))) ∙ flag n tx i b v a memory.heard row.instance Vote.Prepared false is)
    (stands.aborted_is ∙ ap (λ t. t || is_decided n memory.heard tx row.instance Vote.Aborted)
    (sym (and_no (vote_eq Vote.Aborted v && (row.instance == i)))) ∙ flag n tx i b v a memory.heard row.instance Vote.Aborted false is)
    stands

-- all of a list, after each is changed
pub all_mapped : {X : Type 0} (P Q : X → Type 0) (f : X → X) → ((x : X) → P x → Q (f x)) → (xs : List X) → AllByRecursion P xs
    → AllByRecursion Q (map f xs)
all_mapped P Q f step [] all = tt
all_mapped P Q f step (x ∷ xs) all = (step x all.0, all_mapped P Q f step xs all.1)

pub all_kept : {X : Type 0} (P Q : X → Type 0) → ((x : X) → P x → Q x) → (xs : List X) → AllByRecursion P xs → AllByRecursion Q xs
all_kept P Q step [] all = tt
all_kept P Q step (x ∷ xs) all = (step x all.0, all_kept P Q step xs all.1)

-- what changes at instances leaves which they are
pub instances_kept : (f : InstanceCourse → InstanceCourse) → ((row : InstanceCourse) → (f row).instance ≡ row.instance)
    → (rows : List InstanceCourse)
    → map (λ row. row.instance) (map f rows) ≡ map (λ row. row.instance) rows
instances_kept f kept [] = refl
instances_kept f kept (row ∷ rows) = λ k. kept row k ∷ instances_kept f kept rows k

decided_instance : (i : ℕ) (v : Vote) (row : InstanceCourse) → (with_decided i v row).instance ≡ row.instance
decided_instance i v row = ap (λ r. r.instance) (decided_is i v row)

-- ---- a course, when something was told

told_now : (tx : TxParts) (i b : ℕ) (v : Vote) (a : ℕ) (heard : List Kind) (told : List Told) → AreWhole told → a < most_acceptors
    → ((j c : ℕ) (w : Vote) (x : ℕ) → has (told_of told j c w) x ≡ tellers heard tx j c w x)
    → (j c : ℕ) (w : Vote) (x : ℕ) → has (told_of (told_by i b v a told) j c w) x ≡ tellers (P2b tx i b v a ∷ heard) tx j c w x
told_now tx i b v a heard told whole within are j c w x =
    told_step j c w i b v a x told whole within
    ∙ (λ k. shape (x == a) (c == b) (vote_eq w v) (j == i) k || are j c w x k)
    ∙ ap (λ t. ((x == a) && (c == b) && vote_eq w v && ((j == i) && t)) || tellers heard tx j c w x) (sym (tx_self tx))
  where
    shape : (p q y z : Bool) → (p && (q && y && z)) ≡ (p && q && y && (z && true))
    shape true true true true = refl
    shape true true true false = refl
    shape true true false z = refl
    shape true false y z = refl
    shape false q y z = refl

abbrev changed : CourseParts → Telling → CourseParts
changed c t = record c { instances = t.instances; told = t.told }

new_told : (n : ℕ) (stored : StoredBallots) (tx : TxParts) (a : ℕ) (item : InstanceAccept) (memory : LeaderMemory) (c : CourseParts)
    → a < most_acceptors → CourseStands n stored memory tx c
    → CourseStands n stored (with_heard (P2b tx item.instance item.ballot item.vote a) memory) tx (changed c (record {
      instances = (if is_majority n (has (told_of
          (told_by item.instance item.ballot item.vote a c.told) item.instance item.ballot item.vote))
          then map (with_decided item.instance item.vote) c.instances else c.instances);
      told = told_by item.instance item.ballot item.vote a c.told;
    }))
new_told n stored tx a item memory c within stands =
    let told : List Told = told_by item.instance item.ballot item.vote a c.told in
    let are : (j d : ℕ) (w : Vote) (x : ℕ) → has (told_of told j d w) x
    ≡ tellers (P2b tx item.instance item.ballot item.vote a ∷ memory.heard) tx j d w x =
    told_now tx item.instance item.ballot item.vote a memory.heard c.told stands.whole within stands.told_are in
    elim (is_majority n (has (told_of told item.instance item.ballot item.vote)))
    as (λ t. t ≡ is_told n (P2b tx item.instance item.ballot item.vote a ∷ memory.heard) tx item.instance item.vote item.ballot
    → CourseStands n stored (with_heard (P2b tx item.instance item.ballot item.vote a) memory) tx (changed c (record {
      instances = (if t then map (with_decided item.instance item.vote) c.instances else c.instances);
      told = told;
    }))) [
      | true ↦ λ is. record {
        known_is = stands.known_is;
        greatest_is = stands.greatest_is;
        current_is = stands.current_is;
        instances_are = instances_kept (with_decided item.instance item.vote) (decided_instance item.instance item.vote) c.instances
            ∙ stands.instances_are;
        each_stands = all_mapped (InstanceStands n memory tx)
            (InstanceStands n (with_heard (P2b tx item.instance item.ballot item.vote a) memory) tx) (with_decided item.instance item.vote)
            (λ row. row_decides n tx item.instance item.ballot item.vote a memory row is) c.instances stands.each_stands;
        whole = whole_step item.instance item.ballot item.vote a c.told stands.whole;
        told_are = are;
      }
      | false ↦ λ is. record {
        known_is = stands.known_is;
        greatest_is = stands.greatest_is;
        current_is = stands.current_is;
        instances_are = stands.instances_are;
        each_stands = all_kept (InstanceStands n memory tx)
            (InstanceStands n (with_heard (P2b tx item.instance item.ballot item.vote a) memory) tx)
            (λ row. row_stays n tx item.instance item.ballot item.vote a memory row is) c.instances stands.each_stands;
        whole = whole_step item.instance item.ballot item.vote a c.told stands.whole;
        told_are = are;
      }
    ] (λ k. is_majority n (λ x. are item.instance item.ballot item.vote x k))

-- one item
accept_step : (n : ℕ) (stored : StoredBallots) (tx : TxParts) (a : ℕ) (item : InstanceAccept) (memory : LeaderMemory) (c : CourseParts)
    → a < most_acceptors → CourseStands n stored memory tx c
    → CourseStands n stored (if tellers memory.heard tx item.instance item.ballot item.vote a then memory
    else with_heard (P2b tx item.instance item.ballot item.vote a) memory) tx (changed c (after_accept n a item (telling_of c)))
accept_step n stored tx a item memory c within stands =
    by_count (has (told_of c.told item.instance item.ballot item.vote) a) (tellers memory.heard tx item.instance item.ballot item.vote a)
    (stands.told_are item.instance item.ballot item.vote a)
  where
    by_count : (t u : Bool) → t ≡ u → CourseStands n stored (if u then memory else with_heard
        (P2b tx item.instance item.ballot item.vote a) memory) tx
        (changed c (if t then telling_of c else record {
          instances = (if is_majority n (has (told_of
              (told_by item.instance item.ballot item.vote a c.told) item.instance item.ballot item.vote))
              then map (with_decided item.instance item.vote) c.instances else c.instances);
          told = told_by item.instance item.ballot item.vote a c.told;
        }))
    by_count true true e = stands
    by_count true false e = absurd (true≢false e)
    by_count false true e = absurd (false≢true e)
    by_count false false e = new_told n stored tx a item memory c within stands

-- some items
pub accepts_step : (n : ℕ) (stored : StoredBallots) (tx : TxParts) (a : ℕ) (items : List InstanceAccept) (memory : LeaderMemory)
    (c : CourseParts)
    → a < most_acceptors → CourseStands n stored memory tx c
    → CourseStands n stored (with_all_heard (accept_messages_of tx a items) memory) tx (after_accepts n a items c)
accepts_step n stored tx a [] memory c within stands = stands
accepts_step n stored tx a (item ∷ items) memory c within stands =
    accepts_step n stored tx a items
    (if tellers memory.heard tx item.instance item.ballot item.vote a then memory else with_heard
    (P2b tx item.instance item.ballot item.vote a) memory)
    (changed c (after_accept n a item (telling_of c))) within (accept_step n stored tx a item memory c within stands)
