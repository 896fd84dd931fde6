-- What a leader's tests say of what it heard: who reported, which value is picked, what is decided.
-- Needed by Leader.Effects and Leader.Memory; crates progress, answers and commits.
use Rattle.std.proofs.Common.{◌≡◌, ◌⊎◌, inl, inr, ℕ, ◌<◌, ◌≤◌, Bool, true, false, not, ◌||◌, ◌&&◌, if◌then◌else◌, ◌==◌, IsTrue, List, []}
use Rattle.std.proofs.Common.{◌∷◌, Option, Some, None, is_some, filter_map, refl, sym, ap, ◌∙◌, subst}
use Rattle.std.specs.List.{list_any, list_all, cons_option}
use Rattle.std.proofs.lemmas.Bool.{both_ways, and_from, and_parts, and_cases, or_cases, or_parts, eq-eqb, eqb-true, ltb-true, cond_both}
use Rattle.std.proofs.lemmas.Bool.{not-false, cond-true}
use Rattle.xid.specs.Transactions.{TxParts, participants, is_participant}
use Rattle.xid.specs.declared.transaction.Vote.{Vote}
use Rattle.xid.specs.declared.transaction.Vote.TheVariants.{Prepared, Aborted}
use Rattle.wire.specs.declared.message.Kind.{Kind}
use Rattle.wire.specs.declared.message.Kind.TheVariants.{P1b, P2b}
use Rattle.ballot.specs.Choice.{Report, IsIn, pick, top_of, says_prepared, is_prepared}
use Rattle.safety.specs.Vocabulary.{Status}
use Rattle.protocol.specs.Facts.{instance_eq, vote_eq}
use Rattle.protocol.specs.declared.states.Status.TheVariants as statuses
use Rattle.protocol.specs.LeaderMemory.{LeaderMemory, StoredBallots, message_report, is_report_of, has_reported, is_reported}
use Rattle.protocol.specs.LeaderMemory.{value_to_propose, is_accept_of, ballot_told, is_decided, is_known, status_of}
use Rattle.protocol.proofs.Same.{instance_eq-is, instance_eq-same}
use Rattle.ballot.proofs.Picks.{below_top, some_in, top_in, says_top, says_each}
use Rattle.safety.specs.Items.{IsMajorityPick, IsDecided, IsBallotAtMost}
use Rattle.ballot.specs.Greatest.{IsIn}
use Rattle.safety.proofs.Facts.{vote_eq-is, among_participants, participates}
use Rattle.protocol.proofs.Lists.{any_found, found_any, all_found}
use Rattle.safety.proofs.Leader.Invariant.{IsSentItem}

-- ---- who reported

abbrev report_in : Kind → Report
report_in (P1b other j c report from) = report
report_in message = None

report_is : (tx : TxParts) (i b a : ℕ) (m : Kind) → is_report_of tx i b a m ≡ true → m ≡ P1b tx i b (report_in m) a
report_is tx i b a (P1b other j c report from) h =
    let one = and_parts ((a == from) && (b == c)) (instance_eq tx i other j) h in
    let two = and_parts (a == from) (b == c) one.0 in
    let same = instance_eq-is tx other i j one.1 in
    let ea : a ≡ from = eqb-true a from two.0 in
    let eb : b ≡ c = eqb-true b c two.1 in
    let ei : i ≡ j = same.1 in
    let et : tx ≡ other = same.0 in
    cc
report_is tx i b a _ h = absurd (cc (h))

is_report : (tx : TxParts) (i b a : ℕ) (report : Report) → is_report_of tx i b a (P1b tx i b report a) ≡ true
is_report tx i b a report =
    and_from ((a == a) && (b == b)) (instance_eq tx i tx i) (and_from (a == a) (b == b) (eq-eqb a a refl) (eq-eqb b b refl))
    (instance_eq-same tx i)

pub reported_from : (heard : List Kind) (tx : TxParts) (i b a : ℕ) (report : Report)
    → IsIn heard (P1b tx i b report a) → has_reported heard tx i b a ≡ true
reported_from heard tx i b a report h = found_any (is_report_of tx i b a) heard (P1b tx i b report a) h (is_report tx i b a report)

-- what acceptor a reported
abbrev pub report_by : List Kind → TxParts → ℕ → ℕ → ℕ → Report
report_by [] tx i b a = None
report_by (m ∷ heard) tx i b a = if is_report_of tx i b a m then report_in m else report_by heard tx i b a

left_false : (x y : Bool) → (x || y) ≡ true → x ≡ false → y ≡ true
left_false x y h e = elim (or_cases x y h) [ inl f ↦ absurd (both_ways x e f) | inr f ↦ f ]

pub report_by_heard : (heard : List Kind) (tx : TxParts) (i b a : ℕ) → has_reported heard tx i b a ≡ true
    → IsIn heard (P1b tx i b (report_by heard tx i b a) a)
report_by_heard [] tx i b a h = absurd (cc (h))
report_by_heard (m ∷ heard) tx i b a h =
    cond_both (is_report_of tx i b a m) (report_in m) (report_by heard tx i b a) (λ (r : Report). IsIn (m ∷ heard) (P1b tx i b r a))
    (λ e. inl (report_is tx i b a m e))
    (λ e. inr (report_by_heard heard tx i b a (left_false (is_report_of tx i b a m) (has_reported heard tx i b a) h e)))

-- ---- reports

-- a report is some acceptor's
record IsReporter (heard : List Kind) (tx : TxParts) (i b : ℕ) (report : Report) : Type 0 where
  acceptor : ℕ
  among : IsIn heard (P1b tx i b report acceptor)

reported_is : (tx : TxParts) (i b : ℕ) (m : Kind) (r : Report) → message_report tx i b m ≡ Some r → (a : ℕ) × (m ≡ P1b tx i b r a)
reported_is tx i b (P1b other j c report from) r =
    cond_both ((b == c) && instance_eq tx i other j) (Some report) None
    (λ (o : Option Report). o ≡ Some r → (a : ℕ) × (P1b other j c report from ≡ P1b tx i b r a))
    (λ e f.
    let two = and_parts (b == c) (instance_eq tx i other j) e in
    let same = instance_eq-is tx other i j two.1 in
    let eb : b ≡ c = eqb-true b c two.0 in
    let ei : i ≡ j = same.1 in
    let et : tx ≡ other = same.0 in
    let er : report ≡ r = cc (f) in
    (from, (let e : P1b other j c report from ≡ P1b tx i b r from = cc in e)))
    (λ e f. absurd (cc (f)))
reported_is tx i b _ r = λ h. absurd (cc (h))

is_reported_in : (tx : TxParts) (i b a : ℕ) (r : Report) → message_report tx i b (P1b tx i b r a) ≡ Some r
is_reported_in tx i b a r =
    cond-true ((b == b) && instance_eq tx i tx i) (Some r) None
    (and_from (b == b) (instance_eq tx i tx i) (eq-eqb b b refl) (instance_eq-same tx i))

module _ (tx : TxParts) (i b : ℕ) where
  in_rest : (o : Option Report) (rest : List Report) (r : Report) → IsIn rest r → IsIn (cons_option o rest) r
  in_rest None rest r h = h
  in_rest (Some s) rest r h = inr h

  pub in_reports : (heard : List Kind) (r : Report) (a : ℕ) → IsIn heard (P1b tx i b r a)
      → IsIn (filter_map (message_report tx i b) heard) r
  in_reports [] r a h = absurd h
  in_reports (m ∷ heard) r a (inl e) =
      subst (λ (o : Option Report). IsIn (cons_option o (filter_map (message_report tx i b) heard)) r)
      (sym (ap (message_report tx i b) e ∙ is_reported_in tx i b a r)) (inl refl)
  in_reports (m ∷ heard) r a (inr h) =
      in_rest (message_report tx i b m) (filter_map (message_report tx i b) heard) r (in_reports heard r a h)

  reporter_by : (m : Kind) (heard : List Kind) (r : Report) (o : Option Report) → message_report tx i b m ≡ o
      → (IsIn (filter_map (message_report tx i b) heard) r → IsReporter heard tx i b r)
      → IsIn (cons_option o (filter_map (message_report tx i b) heard)) r → IsReporter (m ∷ heard) tx i b r
  reporter_by m heard r None e rest h = let w = rest h in record { acceptor = w.acceptor; among = inr w.among }
  reporter_by m heard r (Some s) e rest (inl f) =
      let w = reported_is tx i b m r (e ∙ ap Some f) in record { acceptor = w.0; among = inl w.1 }
  reporter_by m heard r (Some s) e rest (inr h) = let w = rest h in record { acceptor = w.acceptor; among = inr w.among }

  reporter_of : (heard : List Kind) (r : Report) → IsIn (filter_map (message_report tx i b) heard) r → IsReporter heard tx i b r
  reporter_of [] r h = absurd h
  reporter_of (m ∷ heard) r h = reporter_by m heard r (message_report tx i b m) refl (reporter_of heard r) h

-- ---- the value picked

aborted_from : (v : Vote) → is_prepared v ≡ false → v ≡ Aborted
aborted_from Prepared h = absurd (cc (h))
aborted_from Aborted h = refl

says_other : (t : ℕ) (r : Report) → says_prepared t r ≡ false → r ≡ Some (t, Aborted)
says_other t None h = absurd (cc (h))
says_other t (Some last) h =
    let parts = or_parts (not (last.0 == t)) (is_prepared last.1) h in
    let at : last.0 ≡ t = eqb-true last.0 t (not-false (last.0 == t) parts.0) in
    let is : last.1 ≡ Aborted = aborted_from last.1 parts.1 in
    λ i. Some (at i, is i)

some_says_other : (t : ℕ) (rs : List Report) → list_all (says_prepared t) rs ≡ false → IsIn rs (Some (t, Aborted))
some_says_other t [] h = absurd (cc (h))
some_says_other t (r ∷ rs) h = elim (and_cases (says_prepared t r) (list_all (says_prepared t) rs) h) [
  | inl e ↦ inl (says_other t r e)
  | inr e ↦ inr (some_says_other t rs e)
]

-- a value stands in a report of the greatest ballot
record IsTopValue (rs : List Report) (v : Vote) : Type 0 where
  top : ℕ
  reported : IsIn rs (Some (top, v))
  greatest : (last : ℕ × Vote) → IsIn rs (Some last) → last.0 ≤ top

abbrev IsPicked : List Report → Vote → Type 0
IsPicked rs v = ((v ≡ Aborted) × ((r : Report) → IsIn rs r → r ≡ None)) ⊎ IsTopValue rs v

none_of : (rs : List Report) → list_any is_some rs ≡ false → (r : Report) → IsIn rs r → r ≡ None
none_of rs e None h = refl
none_of rs e (Some last) h = absurd (both_ways (list_any is_some rs) e (some_in rs last h))

picked_by : (rs : List Report) (x y : Bool) → list_any is_some rs ≡ x → list_all (says_prepared (top_of rs)) rs ≡ y
    → IsPicked rs (if x && y then Prepared else Aborted)
picked_by rs true true e f =
    let at = top_in rs e in
    let is : at.0 ≡ Prepared = says_top (top_of rs) at.0 (says_each (top_of rs) rs f (Some (top_of rs, at.0)) at.1) in
    inr (record { top = top_of rs; reported = subst (λ (v : Vote). IsIn rs (Some (top_of rs, v))) is at.1; greatest = below_top rs })
picked_by rs true false e f = inr (record { top = top_of rs; reported = some_says_other (top_of rs) rs f; greatest = below_top rs })
picked_by rs false y e f = inl (refl, none_of rs e)

pick_is_picked : (rs : List Report) → IsPicked rs (pick rs)
pick_is_picked rs = picked_by rs (list_any is_some rs) (list_all (says_prepared (top_of rs)) rs) refl refl

at_most : (r : Report) (top : ℕ) → ((last : ℕ × Vote) → r ≡ Some last → last.0 ≤ top) → IsBallotAtMost r top
at_most None top h = tt
at_most (Some last) top h = h last refl

module _ (n : ℕ) (heard : List Kind) (tx : TxParts) (i b : ℕ) where
  -- what a majority reported gives the value of phase 2a
  pub picked_is : (Sent : Kind → Type 0)
      → ((m : Kind) → IsIn heard m → Sent m)
      → ((report : Report) (a : ℕ) → IsIn heard (P1b tx i b report a) → a < n)
      → ((x y : Report) (a : ℕ) → IsIn heard (P1b tx i b x a) → IsIn heard (P1b tx i b y a) → x ≡ y)
      → is_reported n heard tx i b ≡ true → IsMajorityPick n (IsSentItem Sent) tx i b (value_to_propose heard tx i b)
  picked_is Sent sent inside once h = record {
    members = has_reported heard tx i b;
    majority = ltb-true n _ h;
    report = report_by heard tx i b;
    heard = λ a l is. sent (P1b tx i b (report_by heard tx i b a) a) (report_by_heard heard tx i b a is);
    value = elim (pick_is_picked (filter_map (message_report tx i b) heard)) [
      | inl silent ↦ inl (
        silent.0,
        λ a l is.
            silent.1 (report_by heard tx i b a) (in_reports tx i b heard (report_by heard tx i b a) a (report_by_heard heard tx i b a is)),
      )
      | inr at ↦
          let w = reporter_of tx i b heard (Some (at.top, value_to_propose heard tx i b)) at.reported in
          let is_in : has_reported heard tx i b w.acceptor ≡ true = reported_from heard tx i b w.acceptor
          (Some (at.top, value_to_propose heard tx i b)) w.among in
          inr (record {
            member = w.acceptor;
            top = at.top;
            below = inside (Some (at.top, value_to_propose heard tx i b)) w.acceptor w.among;
            is_in = is_in;
            says =
                once (report_by heard tx i b w.acceptor) (Some (at.top, value_to_propose heard tx i b)) w.acceptor
                (report_by_heard heard tx i b w.acceptor is_in) w.among;
            greatest = λ a l is. at_most (report_by heard tx i b a) at.top (λ last e. at.greatest last
                (subst (λ (r : Report). IsIn (filter_map (message_report tx i b) heard) r) e
                (in_reports tx i b heard (report_by heard tx i b a) a (report_by_heard heard tx i b a is))));
          })
    ];
  }

-- ---- what is decided

accept_is : (tx : TxParts) (i b : ℕ) (v : Vote) (a : ℕ) (m : Kind) → is_accept_of tx i b v a m ≡ true → m ≡ P2b tx i b v a
accept_is tx i b v a (P2b other j c w from) h =
    let one = and_parts ((a == from) && (b == c) && vote_eq v w) (instance_eq tx i other j) h in
    let two = and_parts ((a == from) && (b == c)) (vote_eq v w) one.0 in
    let three = and_parts (a == from) (b == c) two.0 in
    let same = instance_eq-is tx other i j one.1 in
    let ea : a ≡ from = eqb-true a from three.0 in
    let eb : b ≡ c = eqb-true b c three.1 in
    let ev : v ≡ w = vote_eq-is v w two.1 in
    let ei : i ≡ j = same.1 in
    let et : tx ≡ other = same.0 in
    cc
accept_is tx i b v a _ h = absurd (cc (h))

pub decided_is : (n : ℕ) (heard : List Kind) (tx : TxParts) (i : ℕ) (v : Vote) (Sent : Kind → Type 0)
    → ((m : Kind) → IsIn heard m → Sent m) → is_decided n heard tx i v ≡ true → IsDecided n (IsSentItem Sent) tx i v
decided_is n heard tx i v Sent sent h =
    let at = any_found {X = ℕ} _ (filter_map (ballot_told tx i v) heard) h in (
      at.element,
      record {
        members = λ a. list_any (is_accept_of tx i at.element v a) heard;
        majority = ltb-true n _ at.passes;
        accepted = λ a l is.
            let m = any_found (is_accept_of tx i at.element v a) heard is in
            subst Sent (accept_is tx i at.element v a m.element m.passes) (sent m.element m.among);
      },
    )

-- ---- the status

-- the status by its three tests
abbrev status_by : Bool → Bool → Bool → Status
status_by x y z = if x then statuses.Aborted else if y then statuses.Committed else if z then statuses.Undecided else statuses.Unknown

committed_by : (x y z : Bool) → status_by x y z ≡ statuses.Committed → y ≡ true
committed_by true y z e = absurd (cc (e))
committed_by false true z e = refl
committed_by false false true e = absurd (cc (e))
committed_by false false false e = absurd (cc (e))

aborted_by : (x y z : Bool) → status_by x y z ≡ statuses.Aborted → x ≡ true
aborted_by true y z e = refl
aborted_by false true z e = absurd (cc (e))
aborted_by false false true e = absurd (cc (e))
aborted_by false false false e = absurd (cc (e))

module _ (n : ℕ) (stored : StoredBallots) (memory : LeaderMemory) (tx : TxParts) (Sent : Kind → Type 0)
    (sent : (m : Kind) → IsIn memory.heard m → Sent m) where
  pub committed_is : status_of n stored memory tx ≡ statuses.Committed → (r : ℕ) → IsTrue (is_participant tx r)
      → IsDecided n (IsSentItem Sent) tx r Prepared
  committed_is e r is = decided_is n memory.heard tx r Prepared Sent sent
      (all_found (λ (i : ℕ). is_decided n memory.heard tx i Prepared) (participants tx)
      (committed_by (list_any (λ (i : ℕ). is_decided n memory.heard tx i Aborted) (participants tx)) _ (is_known stored memory tx) e) r
      (among_participants tx r is))

  pub aborted_is : status_of n stored memory tx ≡ statuses.Aborted → (r : ℕ) × IsTrue (is_participant tx r)
      × IsDecided n (IsSentItem Sent) tx r Aborted
  aborted_is e =
      let at = any_found (λ (i : ℕ). is_decided n memory.heard tx i Aborted) (participants tx)
      (aborted_by _ (list_all (λ (i : ℕ). is_decided n memory.heard tx i Prepared) (participants tx)) (is_known stored memory tx) e) in
      (at.element, participates tx at.element at.among, decided_is n memory.heard tx at.element Aborted Sent sent at.passes)
