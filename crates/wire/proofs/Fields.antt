-- What is spelled is taken again: each field from the front of bytes, whatever follows it.
-- Needed by `view_of`; 8 files here; crates stable_record, transactions, floored, net_script, run_traces and serving.
use Rattle.std.proofs.Common.{◌≡◌, ℕ, suc, ◌^◌, ◌<◌, ◌≤◌, false, ltb, List, [], ◌∷◌, ◌++◌, length, Option, Some, None, map, refl, sym}
use Rattle.std.proofs.Common.{ap, ◌∙◌, append_assoc, arith}
use Rattle.std.specs.List.{flat_map, All, AllByRecursion}
use Rattle.std.proofs.Math.Dec.{eqb-suc-zero}
use Rattle.std.proofs.lemmas.Bool.{le-ltb}
use Rattle.std.proofs.lemmas.List.{append-nil, take_at, drop_at, length-append, length-map}
use Rattle.std.proofs.lemmas.List.Elements.{recursion_from_All}
use Rattle.std.proofs.lemmas.List.Concat.{flat_map-cons}
use Rattle.byteorder.specs.Endian.{big_number, big_bytes}
use Rattle.byteorder.specs.Numbers.{big_number-reads_back, length-bytes_high_first}
use Rattle.xid.specs.Limits.{most_managers, most_component, most_branches}
use Rattle.xid.specs.Transactions.{TxParts, BranchParts, IsTx, IsBranch}
use Rattle.xid.specs.declared.transaction.Vote.{Vote}
use Rattle.xid.specs.declared.transaction.Vote.TheVariants.{Prepared, Aborted}
use Rattle.wire.specs.declared.items.InstanceReport.{InstanceReport}
use Rattle.wire.specs.declared.items.InstanceAccept.{InstanceAccept}
use Rattle.wire.specs.declared.message.Kind.{Kind}
use Rattle.wire.specs.declared.message.Kind.TheVariants.{Prepare, P1a, P1b, P2a, P2b, Commit, Abort, Ask, B1a, B1b, B2b}
use Rattle.wire.specs.Messages.{IsMessage, IsBallot, IsReportBelow, AreInstances, reported_instances, accepted_instances, message_tx}
use Rattle.wire.specs.Versions.{Version, version_2, IsWide, IsTxIn}
use Rattle.wire.specs.Grammar.{number_spelling, rm_spelling, component_spelling, branch_spelling, branches_spelling, tx_spelling, vote_byte}
use Rattle.wire.specs.Grammar.{report_spelling, report_item_spelling, accept_item_spelling, kind_byte, rest_spelling}
use Rattle.wire.specs.Reading.{big_at, number_at, rm_at, component_at, branch_at, branches_at, tx_at, vote_at}
use Rattle.wire.specs.Reading.{report_at, instance_at, report_item_at, accept_item_at, list_at, items_at, p1a_at, p1b_at, p2a_at, p2b_at}
use Rattle.wire.specs.Reading.{ask_at, b1a_at, b1b_at, b2b_at, kind_at}
use Rattle.wire.proofs.Instances.{instance_below, instances_below, few_instances}

-- version 2 has room for each number of a resource manager
pub wide_2 : IsWide version_2
wide_2 = omega arith

-- each transaction is one of version 2
pub in_version_2 : {tx : TxParts} → IsTx tx → IsTxIn version_2 tx
in_version_2 is = record { valid = is; few = is.branches.few; managers = λ k d lt. (is.branches.each k d lt).rm }

-- a number of some bytes
pub big_again : (width n : ℕ) (rest : List ℕ) → n < 256 ^ width → big_at width (big_bytes width n ++ rest) ≡ Some (n, rest)
big_again width n rest lt =
    let len : length (big_bytes width n) ≡ width = length-bytes_high_first width n in
    let long : ltb (length (big_bytes width n ++ rest)) width ≡ false =
    le-ltb _ _ (omega (arith, len, length-append (big_bytes width n) rest)) in
    let back : big_number width (big_bytes width n ++ rest) ≡ n = big_number-reads_back width n rest lt in
    rw (long, back, drop_at (big_bytes width n) rest width len) refl

-- a number
pub number_again : (n : ℕ) (rest : List ℕ) → n < 2 ^ 32 → number_at (number_spelling n ++ rest) ≡ Some (n, rest)
number_again n rest lt = big_again 4 n rest lt

rm_again : (v : Version) (rm : ℕ) (rest : List ℕ) → IsWide v → rm < v.most_managers → rm_at v (rm_spelling v rm ++ rest) ≡ Some (rm, rest)
rm_again v rm rest wide lt = big_again v.rm_width rm rest (omega (arith, wide, lt))

-- a part of a name
pub component_again : (xs rest : List ℕ) → length xs ≤ most_component → component_at (component_spelling xs ++ rest) ≡ Some (xs, rest)
unfolding component_at
component_again xs rest few =
    let fits : ltb most_component (length xs) ≡ false = le-ltb _ _ few in
    let long : ltb (length (xs ++ rest)) (length xs) ≡ false = le-ltb _ _ (omega (arith, length-append xs rest)) in
    rw (fits, long, take_at xs rest (length xs) refl, drop_at xs rest (length xs) refl) refl

-- a branch
pub branch_again : (v : Version) (b : BranchParts) (rest : List ℕ) → IsWide v → b.rm < v.most_managers → IsBranch b
    → branch_at v (branch_spelling v b ++ rest) ≡ Some (b, rest)
unfolding branch_at
branch_again v b rest wide lt is =
    let regrouped : branch_spelling v b ++ rest ≡ rm_spelling v b.rm ++ (component_spelling b.bqual ++ rest) =
    append_assoc (rm_spelling v b.rm) (component_spelling b.bqual) rest in
    ap (branch_at v) regrouped
    ∙ rw (rm_again v b.rm (component_spelling b.bqual ++ rest) wide lt, component_again b.bqual rest is.bqual.few) refl

-- values one after the other
pub list_again : {X : Type 0} (one : List ℕ → Option (X × List ℕ)) (spell : X → List ℕ) (P : X → Type 0)
    → ((x : X) (rest : List ℕ) → P x → one (spell x ++ rest) ≡ Some (x, rest)) → (xs : List X) (rest : List ℕ) → AllByRecursion P xs
    → list_at one (length xs) (flat_map spell xs ++ rest) ≡ Some (xs, rest)
unfolding list_at
list_again one spell P again [] rest each = refl
list_again one spell P again (x ∷ xs) rest each =
    let after : List ℕ = flat_map spell xs ++ rest in
    let regrouped : flat_map spell (x ∷ xs) ++ rest ≡ spell x ++ after =
    ap (λ (ys : List ℕ). ys ++ rest) (flat_map-cons spell x xs) ∙ append_assoc (spell x) (flat_map spell xs) rest in
    let others = list_again one spell P again xs rest each.1 in
    ap (list_at one (suc (length xs))) regrouped ∙ rw (again x after each.0, others) refl

branches_again : (v : Version) (bs : List BranchParts) (rest : List ℕ) → IsWide v → All (λ b. b.rm < v.most_managers) bs → All IsBranch bs
    → branches_at v (length bs) (flat_map (branch_spelling v) bs ++ rest) ≡ Some (bs, rest)
branches_again v bs rest wide below each =
    list_again (branch_at v) (branch_spelling v) (λ b. (b.rm < v.most_managers) × IsBranch b)
    (λ b rest is. branch_again v b rest wide is.0 is.1) bs rest
    (recursion_from_All (λ b. (b.rm < v.most_managers) × IsBranch b) bs (λ k d lt. (below k d lt, each k d lt)))

-- a transaction
pub tx_again : (v : Version) (tx : TxParts) (rest : List ℕ) → IsWide v → IsTxIn v tx → tx_at v (tx_spelling v tx ++ rest) ≡ Some (tx, rest)
unfolding tx_at
tx_again v tx rest wide is =
    let after : List ℕ = branches_spelling v tx.branches ++ rest in
    let regrouped : tx_spelling v tx ++ rest ≡ number_spelling tx.format ++ (component_spelling tx.gtrid ++ after) =
    ap (λ (x : List ℕ). number_spelling tx.format ++ (length tx.gtrid ∷ x))
    (append_assoc tx.gtrid (branches_spelling v tx.branches) rest) in
    let few : ltb v.most_branches (length tx.branches) ≡ false = le-ltb _ _ is.few in
    let format = number_again tx.format (component_spelling tx.gtrid ++ after) (omega (arith, is.valid.format)) in
    let gtrid = component_again tx.gtrid after is.valid.gtrid.few in
    let branches = branches_again v tx.branches rest wide is.managers is.valid.branches.each in
    ap (tx_at v) regrouped ∙ rw (format, gtrid, few, branches) refl

-- bytes that begin with a transaction's spelling
pub tx_taken : (bytes : List ℕ) (tx : TxParts) (rest : List ℕ) → IsTx tx → bytes ≡ tx_spelling version_2 tx ++ rest
    → tx_at version_2 bytes ≡ Some (tx, rest)
tx_taken bytes tx rest is e = ap (tx_at version_2) e ∙ tx_again version_2 tx rest wide_2 (in_version_2 is)

-- a vote
pub vote_again : (v : Vote) (rest : List ℕ) → vote_at (vote_byte v ∷ rest) ≡ Some (v, rest)
unfolding vote_at
vote_again Prepared rest = refl
vote_again Aborted rest = refl

report_again : (ballot : ℕ) (report : Option (ℕ × Vote)) (rest : List ℕ) → ballot < 2 ^ 32 → IsReportBelow ballot report
    → report_at (report_spelling report ++ rest) ≡ Some (report, rest)
unfolding report_at
report_again ballot None rest lt is = rw (number_again 0 (0 ∷ rest) (omega arith)) refl
report_again ballot (Some (b, Prepared)) rest lt is = rw (number_again b (1 ∷ rest) (omega arith), vote_again Prepared rest) refl
report_again ballot (Some (b, Aborted)) rest lt is = rw (number_again b (2 ∷ rest) (omega arith), vote_again Aborted rest) refl

instance_again : (v : Version) (rm ballot : ℕ) (rest : List ℕ) → IsWide v → rm < v.most_managers → ballot < 2 ^ 32
    → instance_at v (rm_spelling v rm ++ (number_spelling ballot ++ rest)) ≡ Some (rm, ballot, rest)
unfolding instance_at
instance_again v rm ballot rest wide below lt =
    rw (rm_again v rm (number_spelling ballot ++ rest) wide below, number_again ballot rest lt) refl

report_item_again : (ballot : ℕ) (item : InstanceReport) (rest : List ℕ) → ballot < 2 ^ 32
    → (item.instance < most_managers) × IsReportBelow ballot item.report
    → report_item_at (report_item_spelling version_2 item ++ rest) ≡ Some (item, rest)
unfolding report_item_at
report_item_again ballot item rest lt is =
    ap report_item_at (append_assoc (rm_spelling version_2 item.instance) (report_spelling item.report) rest)
    ∙ rw (
      rm_again version_2 item.instance (report_spelling item.report ++ rest) wide_2 is.0,
      report_again ballot item.report rest lt
          is.1,
    ) refl

accept_item_again : (item : InstanceAccept) (rest : List ℕ) → (item.instance < most_managers) × IsBallot item.ballot
    → accept_item_at (accept_item_spelling version_2 item ++ rest) ≡ Some (item, rest)
unfolding accept_item_at
accept_item_again item rest is =
    rw (instance_again version_2 item.instance item.ballot (vote_byte item.vote ∷ rest) wide_2 is.0 is.1, vote_again item.vote rest) refl

items_again : {X : Type 0} (one : List ℕ → Option (X × List ℕ)) (spell : X → List ℕ) (P : X → Type 0)
    → ((x : X) (rest : List ℕ) → P x → one (spell x ++ rest) ≡ Some (x, rest)) → (xs : List X) (rest : List ℕ)
    → 1 ≤ length xs → length xs ≤ most_branches → AllByRecursion P xs
    → items_at one (length xs ∷ (flat_map spell xs ++ rest)) ≡ Some (xs, rest)
unfolding items_at
items_again one spell P again [] rest some few each = absurd (omega arith)
items_again one spell P again (x ∷ xs) rest some few each =
    let fits : ltb most_branches (suc (length xs)) ≡ false = le-ltb _ _ few in
    rw (eqb-suc-zero (length xs), fits) (list_again one spell P again (x ∷ xs) rest each)

-- two facts of each item, where one is of its number
both_of : {X : Type 0} (f : X → ℕ) (P : ℕ → Type 0) (Q : X → Type 0) (xs : List X) → AllByRecursion P (map f xs) → AllByRecursion Q xs
    → AllByRecursion (λ x. P (f x) × Q x) xs
both_of f P Q [] ps qs = tt
both_of f P Q (x ∷ xs) ps qs = ((ps.0, qs.0), both_of f P Q xs ps.1 qs.1)

p1a_again : (tx : TxParts) (rm ballot : ℕ) (rest : List ℕ) → rm < most_managers → ballot < 2 ^ 32
    → p1a_at tx (rest_spelling version_2 (P1a tx rm ballot) ++ rest) ≡ Some (P1a tx rm ballot, rest)
unfolding p1a_at
p1a_again tx rm ballot rest below lt = rw (instance_again version_2 rm ballot rest wide_2 below lt) refl

p1b_again : (tx : TxParts) (rm ballot : ℕ) (report : Option (ℕ × Vote)) (acceptor : ℕ) (rest : List ℕ)
    → rm < most_managers → ballot < 2 ^ 32 → IsReportBelow ballot report
    → p1b_at tx (rest_spelling version_2 (P1b tx rm ballot report acceptor) ++ rest) ≡ Some (P1b tx rm ballot report acceptor, rest)
unfolding p1b_at
p1b_again tx rm ballot report acceptor rest below lt is =
    let regrouped : (report_spelling report ++ acceptor ∷ []) ++ rest ≡ report_spelling report ++ acceptor ∷ rest =
    append_assoc (report_spelling report) (acceptor ∷ []) rest in
    let first = instance_again version_2 rm ballot (report_spelling report ++ acceptor ∷ rest) wide_2 below lt in
    ap (λ (xs : List ℕ). p1b_at tx (rm_spelling version_2 rm ++ (number_spelling ballot ++ xs))) regrouped
    ∙ rw (first, report_again ballot report (acceptor ∷ rest) lt is) refl

p2a_again : (tx : TxParts) (rm ballot : ℕ) (vote : Vote) (rest : List ℕ) → rm < most_managers → ballot < 2 ^ 32
    → p2a_at tx (rest_spelling version_2 (P2a tx rm ballot vote) ++ rest) ≡ Some (P2a tx rm ballot vote, rest)
unfolding p2a_at
p2a_again tx rm ballot vote rest below lt =
    rw (instance_again version_2 rm ballot (vote_byte vote ∷ rest) wide_2 below lt, vote_again vote rest) refl

p2b_again : (tx : TxParts) (rm ballot : ℕ) (vote : Vote) (acceptor : ℕ) (rest : List ℕ) → rm < most_managers → ballot < 2 ^ 32
    → p2b_at tx (rest_spelling version_2 (P2b tx rm ballot vote acceptor) ++ rest) ≡ Some (P2b tx rm ballot vote acceptor, rest)
unfolding p2b_at
p2b_again tx rm ballot vote acceptor rest below lt =
    let first = instance_again version_2 rm ballot (vote_byte vote ∷ acceptor ∷ rest) wide_2 below lt in
    rw (first, vote_again vote (acceptor ∷ rest)) refl

ask_again : (tx : TxParts) (rm : ℕ) (rest : List ℕ) → rm < most_managers
    → ask_at tx (rest_spelling version_2 (Ask tx rm) ++ rest) ≡ Some (Ask tx rm, rest)
unfolding ask_at
ask_again tx rm rest below = rw (rm_again version_2 rm rest wide_2 below) refl

b1a_again : (tx : TxParts) (ballot : ℕ) (rest : List ℕ) → ballot < 2 ^ 32
    → b1a_at tx (rest_spelling version_2 (B1a tx ballot) ++ rest) ≡ Some (B1a tx ballot, rest)
unfolding b1a_at
b1a_again tx ballot rest lt = rw (number_again ballot rest lt) refl

b1b_again : (tx : TxParts) (ballot acceptor : ℕ) (reports : List InstanceReport) (rest : List ℕ) → ballot < 2 ^ 32
    → AreInstances tx (reported_instances reports) → AllByRecursion (λ item. IsReportBelow ballot item.report) reports
    → b1b_at tx (rest_spelling version_2 (B1b tx ballot acceptor reports) ++ rest) ≡ Some (B1b tx ballot acceptor reports, rest)
unfolding b1b_at
b1b_again tx ballot acceptor reports rest lt are below =
    let len : length (reported_instances reports) ≡ length reports = simp length-map in
    let each = both_of (λ (item : InstanceReport). item.instance) (λ n. n < most_managers) (λ item. IsReportBelow ballot item.report)
    reports
    (instances_below are) below in
    let items = items_again report_item_at (report_item_spelling version_2)
    (λ item. (item.instance < most_managers) × IsReportBelow ballot item.report)
    (λ item rest is. report_item_again ballot item rest lt is) reports rest (omega (arith, are.some)) (omega (arith, few_instances are))
    each in
    let after : List ℕ = flat_map (report_item_spelling version_2) reports ++ rest in
    rw (number_again ballot (acceptor ∷ length reports ∷ after) lt, items) refl

b2b_again : (tx : TxParts) (acceptor : ℕ) (accepts : List InstanceAccept) (rest : List ℕ)
    → AreInstances tx (accepted_instances accepts) → AllByRecursion (λ item. IsBallot item.ballot) accepts
    → b2b_at tx (rest_spelling version_2 (B2b tx acceptor accepts) ++ rest) ≡ Some (B2b tx acceptor accepts, rest)
unfolding b2b_at
b2b_again tx acceptor accepts rest are ballots =
    let len : length (accepted_instances accepts) ≡ length accepts = simp length-map in
    let each = both_of (λ (item : InstanceAccept). item.instance) (λ n. n < most_managers) (λ item. IsBallot item.ballot) accepts
    (instances_below are) ballots in
    let items = items_again accept_item_at (accept_item_spelling version_2) (λ item. (item.instance < most_managers) × IsBallot item.ballot)
    accept_item_again accepts rest (omega (arith, are.some)) (omega (arith, few_instances are)) each in
    rw items refl

-- what follows a message's transaction
pub kind_again : (k : Kind) (rest : List ℕ) → IsMessage k
    → kind_at (kind_byte k) (message_tx k) (rest_spelling version_2 k ++ rest) ≡ Some (k, rest)
unfolding kind_at
kind_again (Prepare tx) rest is = refl
kind_again (P1a tx rm ballot) rest is = p1a_again tx rm ballot rest (instance_below is.0) is.1.fits
kind_again (P1b tx rm ballot report acceptor) rest is =
    p1b_again tx rm ballot report acceptor rest (instance_below is.0) is.1.fits is.2
kind_again (P2a tx rm ballot vote) rest is = p2a_again tx rm ballot vote rest (instance_below is.0) is.1
kind_again (P2b tx rm ballot vote acceptor) rest is = p2b_again tx rm ballot vote acceptor rest (instance_below is.0) is.1
kind_again (Commit tx) rest is = refl
kind_again (Abort tx) rest is = refl
kind_again (Ask tx rm) rest is = ask_again tx rm rest (instance_below is)
kind_again (B1a tx ballot) rest is = b1a_again tx ballot rest is.1.fits
kind_again (B1b tx ballot acceptor reports) rest is = b1b_again tx ballot acceptor reports rest is.1.fits is.0 is.3
kind_again (B2b tx acceptor accepts) rest is = b2b_again tx acceptor accepts rest is.0 is.2

-- so it is with nothing behind it
pub kind_whole : (k : Kind) → IsMessage k → kind_at (kind_byte k) (message_tx k) (rest_spelling version_2 k) ≡ Some (k, [])
kind_whole k is = ap (kind_at (kind_byte k) (message_tx k)) (sym (append-nil (rest_spelling version_2 k))) ∙ kind_again k [] is

-- the transaction of a message is one
pub tx_valid : (k : Kind) → IsMessage k → IsTx (message_tx k)
tx_valid (Prepare tx) is = is
tx_valid (P1a tx rm ballot) is = is.0.valid
tx_valid (P1b tx rm ballot report acceptor) is = is.0.valid
tx_valid (P2a tx rm ballot vote) is = is.0.valid
tx_valid (P2b tx rm ballot vote acceptor) is = is.0.valid
tx_valid (Commit tx) is = is
tx_valid (Abort tx) is = is
tx_valid (Ask tx rm) is = is.valid
tx_valid (B1a tx ballot) is = is.0
tx_valid (B1b tx ballot acceptor reports) is = is.0.valid
tx_valid (B2b tx acceptor accepts) is = is.0.valid

-- what two that are there hold is the same, where they are
pub some_same : (x y : TxParts × List ℕ) → Some x ≡ Some y → x ≡ y
some_same x y e = cc

-- what was taken from such bytes
pub same_taken : (bytes : List ℕ) (x : TxParts) (after : List ℕ) (tx : TxParts) (rest : List ℕ) → IsTx tx
    → bytes ≡ tx_spelling version_2 tx ++ rest → tx_at version_2 bytes ≡ Some (x, after) → (x ≡ tx) × (after ≡ rest)
same_taken bytes x after tx rest is e got =
    let same = some_same (x, after) (tx, rest) (sym got ∙ tx_taken bytes tx rest is e) in
    (ap (λ (p : TxParts × List ℕ). p.0) same, ap (λ (p : TxParts × List ℕ). p.1) same)
