-- The bundles that bytes spell, by what was passed over.
-- Needed by `b1b_of` and `b2b_of`; crate stable_record.
use Rattle.std.proofs.Common.{◌≡◌, ◌==◌, ℕ, zero, suc, ◌<◌, ◌^◌, Bool, true, false, cond, ltb, List, [], ◌∷◌, length, map, Option, Some}
use Rattle.std.proofs.Common.{None, IsTrue, refl, sym, ap, subst, ◌∙◌, arith}
use Rattle.std.specs.Prelude.{Result, Ok, Err}
use Rattle.std.specs.List.{AllByRecursion}
use Rattle.std.proofs.lemmas.Bool.{false≢true}
use Rattle.std.proofs.lemmas.List.{length-map}
use Rattle.xid.specs.Limits.{most_acceptors, most_branches}
use Rattle.xid.specs.Names.{IsBytes}
use Rattle.xid.specs.Transactions.{TxParts, IsTx, is_participant}
use Rattle.xid.specs.declared.refusals.Refusal.{Refusal}
use Rattle.xid.specs.declared.refusals.Refusal.TheVariants.{BadMessage}
use Rattle.wire.specs.declared.items.InstanceReport.{InstanceReport}
use Rattle.wire.specs.declared.items.InstanceAccept.{InstanceAccept}
use Rattle.wire.specs.declared.message.Kind.{Kind}
use Rattle.wire.specs.declared.message.Kind.TheVariants.{B1b, B2b}
use Rattle.wire.specs.Messages.{IsMessage, IsLeaderBallot, IsBallot, IsReportBelow, AreInstances}
use Rattle.byteorder.specs.Endian.{big_number}
use Rattle.wire.specs.declared.grammar.VersionNumber.TheVariants.{Second}
use Rattle.wire.specs.Versions.{version_2}
use Rattle.wire.specs.Reading.{byte_at, number_at, rm_at, vote_at, instance_at}
use Rattle.wire.specs.Reading.{list_at, items_at, report_item_at, accept_item_at, b1b_at, b2b_at}
use Rattle.wire.specs.Decoding.{is_report, is_message, decoded}
use Rattle.wire.proofs.DecodingLemmas.{report_decides, message_decides}
use Rattle.wire.proofs.Decoded.{accepted}
use Rattle.wire.proofs.Spelled.{some_same, step, unless, rm_spelled, byte_spelled, accept_item_spelled}
use Rattle.wire.specs.SpelledItems.{reports_spelled, accepts_spelled, are_items, is_item, is_reported, is_accepted}
use Rattle.wire.proofs.CountedItems.{both, are, are_again}

-- one fact of each
module _ {X : Type 0} where
  each_of : (P Q : X → Type 0) → ((x : X) → P x → Q x) → (xs : List X) → AllByRecursion P xs → AllByRecursion Q xs
  each_of P Q go [] each = tt
  each_of P Q go (x ∷ xs) each = (go x each.0, each_of P Q go xs each.1)

  named_of : (f : X → ℕ) (P : X → Type 0) (Q : ℕ → Type 0) → ((x : X) → P x → Q (f x)) → (xs : List X) → AllByRecursion P xs
      → AllByRecursion Q (map f xs)
  named_of f P Q go [] each = tt
  named_of f P Q go (x ∷ xs) each = (go x each.0, named_of f P Q go xs each.1)

  two_of : (f : X → ℕ) (P : ℕ → Type 0) (Q R : X → Type 0) → ((x : X) → P (f x) → Q x → R x) → (xs : List X) → AllByRecursion P (map f xs)
      → AllByRecursion Q xs → AllByRecursion R xs
  two_of f P Q R go [] ps qs = tt
  two_of f P Q R go (x ∷ xs) ps qs = (go x ps.0 qs.0, two_of f P Q R go xs ps.1 qs.1)

-- a kind of bundle with a transaction: it is seen on the bytes of its items, and read from them
module _ {X : Type 0} (one : List ℕ → Option (X × List ℕ)) (instance : X → ℕ) (is_below : X → Bool) (tx : TxParts) (kind : List X → Kind)
    (items : List ℕ) (spelled : List X) (read : Option (Kind × List ℕ))
    (seen : (xs : List X) → items_at one items ≡ Some (xs, []) → spelled ≡ xs)
    (reads : (x : List X × List ℕ) → items_at one items ≡ Some x → read ≡ Some (kind x.0, x.1))
    (reads_none : items_at one items ≡ None → read ≡ None) where
  abbrev is : X → Bool
  is = is_item instance is_below tx

  bundle_accepted : IsTx tx
      → ((xs : List X) → items_at one items ≡ Some (xs, []) → AreInstances tx (map instance xs)
      → AllByRecursion (λ x. is_below x ≡ true) xs → IsMessage (kind xs))
      → are_items one is instance items ≡ true → Ok (kind spelled) ≡ decoded read
  bundle_accepted valid message e =
      let all = are one is instance items e in
      let instances : AreInstances tx (map instance all.items) = record {
        valid = valid;
        some = let len : length (map instance all.items) ≡ length all.items = simp length-map in omega (arith, len, all.some);
        named = named_of instance (λ x. is x ≡ true) (λ rm. IsTrue (is_participant tx rm)) (λ x h. (both _ _ h).0) all.items all.each;
        ascending = all.ascending;
      } in
      let lows = each_of (λ x. is x ≡ true) (λ x. is_below x ≡ true) (λ x h. (both _ _ h).1) all.items all.each in
      ap said_ok (seen all.items all.read)
      ∙ accepted true (kind all.items) (λ _. message all.items all.read instances lows, λ _. refl) refl
      ∙ sym (ap decoded (reads (all.items, []) all.read))
    where
      said_ok : List X → Result Kind Refusal
      said_ok xs = Ok (kind xs)

  bundle_refused : ((xs : List X) → IsMessage (kind xs) → AreInstances tx (map instance xs) × AllByRecursion (λ x. is_below x ≡ true) xs)
      → are_items one is instance items ≡ false → Err BadMessage ≡ decoded read
  bundle_refused facts fails = by (items_at one items) refl
    where
      asked : (xs : List X) (t : Bool) → is_message (kind xs) ≡ t → items_at one items ≡ Some (xs, [])
          → Err BadMessage ≡ cond t (Ok (kind xs)) (Err BadMessage)
      asked xs true et er =
          let fact = facts xs ((message_decides (kind xs)).0 et) in
          let each = two_of instance (λ rm. IsTrue (is_participant tx rm)) (λ x. is_below x ≡ true) (λ x. is x ≡ true)
          (λ x named low. let name : is_participant tx (instance x) ≡ true = named in rw (name, low) refl) xs fact.0.named fact.1 in
          absurd (false≢true (sym fails ∙ are_again one is instance items xs er each fact.0.ascending))
      asked xs false et er = refl

      by : (found : Option (List X × List ℕ)) → items_at one items ≡ found → Err BadMessage ≡ decoded read
      by None er = rw (reads_none er) refl
      by (Some (xs, [])) er = rw (reads (xs, []) er) (asked xs (is_message (kind xs)) refl er)
      by (Some (xs, n ∷ ns)) er = rw (reads (xs, n ∷ ns) er) refl

-- ---- phase 1b

module _ (tx : TxParts) (bytes rest reports : List ℕ) (ballot acceptor : ℕ) (eb : Some (ballot, rest) ≡ number_at bytes)
    (ea : Some (acceptor, reports) ≡ byte_at rest) where
  abbrev b1b_kind : List InstanceReport → Kind
  b1b_kind items = B1b tx ballot acceptor items

  reports_read : (items : List InstanceReport) → items_at report_item_at reports ≡ Some (items, []) → reports_spelled reports ≡ items
  unfolding reports_spelled
  reports_read items e = rw e refl

  b1b_read : (x : List InstanceReport × List ℕ) → items_at report_item_at reports ≡ Some x → b1b_at tx bytes ≡ Some (b1b_kind x.0, x.1)
  unfolding b1b_at
  b1b_read x e = rw (sym eb, sym ea, e) refl

  b1b_none : items_at report_item_at reports ≡ None → b1b_at tx bytes ≡ None
  unfolding b1b_at
  b1b_none e = rw (sym eb, sym ea, e) refl

  -- a bundle of phase 1b whose items were passed over is decoded
  pub b1b_accepted : IsTx tx → IsLeaderBallot ballot → acceptor < most_acceptors
      → are_items report_item_at (is_reported tx ballot) (λ item. item.instance) reports ≡ true
      → Ok (b1b_kind (reports_spelled reports)) ≡ decoded (b1b_at tx bytes)
  b1b_accepted valid leader fits =
      bundle_accepted report_item_at (λ item. item.instance) (λ item. is_report ballot item.report) tx b1b_kind reports
      (reports_spelled reports) (b1b_at tx bytes) reports_read b1b_read b1b_none valid (λ xs read instances lows. (
        instances,
        leader,
        fits,
        each_of (λ item. is_report ballot item.report ≡ true) (λ item. IsReportBelow ballot item.report)
            (λ item h. (report_decides ballot item.report).0 h) xs lows,
      ))

  -- and is refused where they were not
  pub b1b_refused : are_items report_item_at (is_reported tx ballot) (λ item. item.instance) reports ≡ false
      → Err BadMessage ≡ decoded (b1b_at tx bytes)
  b1b_refused =
      bundle_refused report_item_at (λ item. item.instance) (λ item. is_report ballot item.report) tx b1b_kind reports
      (reports_spelled reports) (b1b_at tx bytes) reports_read b1b_read b1b_none (λ xs is. (
        is.0,
        each_of (λ item. IsReportBelow ballot item.report) (λ item. is_report ballot item.report ≡ true)
            (λ item low. (report_decides ballot item.report).1 low) xs is.3,
      ))

-- ---- phase 2b

-- the ballots of items that were read are ballots, since each stands in four bytes
pub number_fits : (bytes : List ℕ) (x : ℕ × List ℕ) → IsBytes bytes → number_at bytes ≡ Some x → IsBallot x.0
number_fits [] x is e = absurd (cc (e))
number_fits (a ∷ []) x is e = absurd (cc (e))
number_fits (a ∷ b ∷ []) x is e = absurd (cc (e))
number_fits (a ∷ b ∷ c ∷ []) x is e = absurd (cc (e))
number_fits (a ∷ b ∷ c ∷ d ∷ rest) x is e =
    let t = unless (ltb (length (a ∷ b ∷ c ∷ d ∷ rest)) 4) _ x e in
    let fits : big_number 4 (a ∷ b ∷ c ∷ d ∷ rest) < 2 ^ 32 = omega (arith, is 0, is 1, is 2, is 3) in
    subst (λ (x : ℕ × List ℕ). IsBallot x.0) (some_same (big_number 4 (a ∷ b ∷ c ∷ d ∷ rest), rest) x t.1) fits

instance_fits : (bytes : List ℕ) (x : ℕ × ℕ × List ℕ) → IsBytes bytes → instance_at version_2 bytes ≡ Some x → IsBallot x.1
unfolding instance_at
instance_fits bytes x is e =
    step (rm_at version_2 bytes) _ e (λ rm er e. step (number_at rm.1) _ e (λ ballot eb e.
    subst (λ (x : ℕ × ℕ × List ℕ). IsBallot x.1) (some_same (rm.0, ballot.0, ballot.1) x e)
    (number_fits rm.1 ballot (rm_spelled Second bytes rm is er).after eb)))

item_fits : (bytes : List ℕ) (x : InstanceAccept × List ℕ) → IsBytes bytes → accept_item_at bytes ≡ Some x → IsBallot x.0.ballot
unfolding accept_item_at
item_fits bytes x is e =
    step (instance_at version_2 bytes) _ e (λ i ei e. step (vote_at i.2) _ e (λ vote ev e.
    subst (λ (x : InstanceAccept × List ℕ). IsBallot x.0.ballot)
    (some_same (record { instance = i.0; ballot = i.1; vote = vote.0 }, vote.1) x e)
    (instance_fits bytes i is ei)))

list_fits : (n : ℕ) (bytes : List ℕ) (x : List InstanceAccept × List ℕ) → IsBytes bytes → list_at accept_item_at n bytes ≡ Some x
    → AllByRecursion (λ item. IsBallot item.ballot) x.0
unfolding list_at
list_fits zero bytes x is e =
    subst (λ (x : List InstanceAccept × List ℕ). AllByRecursion (λ item. IsBallot item.ballot) x.0) (some_same ([], bytes) x e) tt
list_fits (suc n) bytes x is e =
    step (accept_item_at bytes) _ e (λ first ef e. step (list_at accept_item_at n first.1) _ e (λ others eo e.
    let later = list_fits n first.1 others (accept_item_spelled bytes first is ef).after eo in
    subst (λ (x : List InstanceAccept × List ℕ). AllByRecursion (λ item. IsBallot item.ballot) x.0)
    (some_same (first.0 ∷ others.0, others.1) x e) (item_fits bytes first is ef, later)))

all_ballots : (bytes : List ℕ) (items : List InstanceAccept) → IsBytes bytes → items_at accept_item_at bytes ≡ Some (items, [])
    → AllByRecursion (λ item. IsBallot item.ballot) items
unfolding items_at
all_ballots bytes items is e =
    step (byte_at bytes) _ e (λ count ec e.
    let some = unless (count.0 == 0) _ (items, []) e in
    let few = unless (ltb most_branches count.0) _ (items, []) some.1 in
    list_fits count.0 count.1 (items, []) (byte_spelled bytes count is ec).after few.1)

module _ (tx : TxParts) (bytes accepts : List ℕ) (acceptor : ℕ) (ea : Some (acceptor, accepts) ≡ byte_at bytes) where
  abbrev b2b_kind : List InstanceAccept → Kind
  b2b_kind items = B2b tx acceptor items

  accepts_read : (items : List InstanceAccept) → items_at accept_item_at accepts ≡ Some (items, []) → accepts_spelled accepts ≡ items
  unfolding accepts_spelled
  accepts_read items e = rw e refl

  b2b_read : (x : List InstanceAccept × List ℕ) → items_at accept_item_at accepts ≡ Some x → b2b_at tx bytes ≡ Some (b2b_kind x.0, x.1)
  unfolding b2b_at
  b2b_read x e = rw (sym ea, e) refl

  b2b_none : items_at accept_item_at accepts ≡ None → b2b_at tx bytes ≡ None
  unfolding b2b_at
  b2b_none e = rw (sym ea, e) refl

  -- so it is for a bundle of phase 2b
  pub b2b_accepted : IsBytes bytes → IsTx tx → acceptor < most_acceptors
      → are_items accept_item_at (is_accepted tx) (λ item. item.instance) accepts ≡ true
      → Ok (b2b_kind (accepts_spelled accepts)) ≡ decoded (b2b_at tx bytes)
  b2b_accepted each valid fits =
      let front = byte_spelled bytes (acceptor, accepts) each (sym ea) in
      bundle_accepted accept_item_at (λ item. item.instance) (λ item. true) tx b2b_kind accepts (accepts_spelled accepts) (b2b_at tx bytes)
      accepts_read b2b_read b2b_none valid (λ xs read instances lows. (instances, fits, all_ballots accepts xs front.after read))

  -- and where its items were not passed over
  pub b2b_refused : are_items accept_item_at (is_accepted tx) (λ item. item.instance) accepts ≡ false
      → Err BadMessage ≡ decoded (b2b_at tx bytes)
  b2b_refused =
      bundle_refused accept_item_at (λ item. item.instance) (λ item. true) tx b2b_kind accepts (accepts_spelled accepts) (b2b_at tx bytes)
      accepts_read b2b_read b2b_none
      (λ xs is. (is.0, each_of (λ item. IsBallot item.ballot) (λ item. true ≡ true) (λ item h. refl) xs is.2))
