-- The entries that a resource manager writes, one by one.
-- Needed by `ResourceManager::frames`, `ResourceManager::prepared` and `write_one`; Alike, Floors and Shortened.
use Rattle.std.proofs.Common.{◌≡◌, ◌∙◌, ℕ, zero, suc, ◌<◌, true, ◌&&◌, nat_lt, nat_le, List, [], ◌∷◌, ◌++◌, Option, Some, None, refl, sym}
use Rattle.std.proofs.Common.{ap, ◌+◌, length, get_or, take, append_assoc, arith}
use Rattle.std.specs.Prelude.{filter_map, slice_get}
use Rattle.std.specs.List.{cons_option}
use Rattle.std.proofs.lemmas.Bool.{and_parts, leb-true, ltb-true}
use Rattle.std.proofs.lemmas.List.Elements.{filter_map-append}
use Rattle.xid.specs.Transactions.{TxParts}
use Rattle.xid.specs.Limits.{most_key, most_value}
use Rattle.xid.specs.Names.{IsBytes}
use Rattle.stable_record.specs.Facts.{IsKey, IsValue}
use Rattle.protocol.specs.declared.rows.Row.{Row}
use Rattle.branch_table.specs.TableStates.{is_row}
use Rattle.resource_manager.specs.Managers.{ManagerParts}

-- a row within the limits can be an entry
pub row_valid : (row : Row) → is_row row ≡ true → IsBytes row.key → IsBytes row.value → IsKey row.key × IsValue row.value
row_valid row is key value =
    let most = and_parts (nat_lt 0 (length row.key) && nat_le (length row.key) most_key) (nat_le (length row.value) most_value) is in
    let lengths = and_parts (nat_lt 0 (length row.key)) (nat_le (length row.key) most_key) most.0 in (
      record {
        some = ltb-true 0 (length row.key) lengths.0;
        few = leb-true (length row.key) most_key lengths.1;
        bytes = key;
      },
      record { few = leb-true (length row.value) most_value most.1; bytes = value },
    )

-- what gives the same one by one does together
pub given_same : {X Y : Type 0} (f g : X → Option Y) → ((x : X) → f x ≡ g x) → (xs : List X) → filter_map f xs ≡ filter_map g xs
given_same f g each [] = refl
given_same f g each (x ∷ xs) = λ i. cons_option (each x i) (given_same f g each xs i)

-- what the first of some give, with one more
pub given_more : {X Y : Type 0} (h : X → Option Y) (xs : List X) (i : ℕ) (x : X) → i < length xs → x ≡ get_or xs i x
    → filter_map h (take (suc i) xs) ≡ filter_map h (take i xs) ++ cons_option (h x) []
given_more h [] i x lt read = absurd (omega (arith, lt))
given_more h (y ∷ xs) zero x lt read = ap (λ z. cons_option (h z) []) (sym read)
given_more {Y = Y} h (y ∷ xs) (suc i) x lt read = by (h y) (given_more h xs i x (omega (arith, lt)) read)
  where
    by : (o : Option Y) → filter_map h (take (suc i) xs) ≡ filter_map h (take i xs) ++ cons_option (h x) []
        → cons_option o (filter_map h (take (suc i) xs)) ≡ cons_option o (filter_map h (take i xs)) ++ cons_option (h x) []
    by None e = e
    by (Some z) e = ap (λ zs. z ∷ zs) e

-- what is given of a transaction that is there
abbrev pub written_of : {Y : Type 0} → (TxParts → Option Y) → Option TxParts → List Y
written_of h None = []
written_of h (Some tx) = cons_option (h tx) []

-- what is written of the first of some transactions, with one more
pub written_more : {Y : Type 0} (h : TxParts → Option Y) (ts : List TxParts) (numbers : List ℕ) (i n : ℕ) (o : Option TxParts)
    → (base old new : List Y)
    → i < length numbers → n ≡ get_or numbers i n → slice_get ts n ≡ o
    → old ≡ base ++ filter_map h (filter_map (slice_get ts) (take i numbers)) → new ≡ old ++ written_of h o
    → new ≡ base ++ filter_map h (filter_map (slice_get ts) (take (i + 1) numbers))
written_more h ts numbers i n o base old new lt read found before pushed =
    let next : suc i ≡ i + 1 = omega arith in
    let so_far = filter_map (slice_get ts) (take i numbers) in
    pushed ∙ ap (λ es. es ++ written_of h o) before ∙ append_assoc base (filter_map h so_far) (written_of h o)
    ∙ ap (λ es. base ++ (filter_map h so_far ++ es)) (sym (one o))
    ∙ ap (λ es. base ++ es) (sym (filter_map-append h so_far (cons_option o [])))
    ∙ ap (λ p. base ++ filter_map h (so_far ++ cons_option p [])) (sym found)
    ∙ ap (λ txs. base ++ filter_map h txs) (sym (given_more (slice_get ts) numbers i n lt read))
    ∙ ap (λ k. base ++ filter_map h (filter_map (slice_get ts) (take k numbers))) next
  where
    one : (p : Option TxParts) → filter_map h (cons_option p []) ≡ written_of h p
    one None = refl
    one (Some tx) = refl

-- a number that is read at its place
pub read_at : (numbers : List ℕ) (i d : ℕ) → i < length numbers → get_or numbers i d ≡ get_or numbers i (get_or numbers i d)
read_at [] i d lt = absurd (omega (arith, lt))
read_at (n ∷ numbers) zero d lt = refl
read_at (n ∷ numbers) (suc i) d lt = read_at numbers i d (omega (arith, lt))

-- a resource manager has given of one transaction more
pub written_step : {Y : Type 0} (h : ManagerParts → TxParts → Option Y) (m inside : ManagerParts) → inside ≡ m → (numbers : List ℕ)
    → (i d : ℕ) (o : Option TxParts) (base old new : List Y) → i < length numbers
    → o ≡ slice_get inside.courses.transactions (get_or numbers i d)
    → old ≡ base ++ filter_map (h m) (filter_map (slice_get m.courses.transactions) (take i numbers))
    → new ≡ old ++ written_of (h m) o
    → new ≡ base ++ filter_map (h m) (filter_map (slice_get m.courses.transactions) (take (i + 1) numbers))
written_step h m inside same numbers i d o base old new lt found before pushed =
    written_more (h m) m.courses.transactions numbers i (get_or numbers i d) o base old new lt (read_at numbers i d lt)
    (ap (λ n. slice_get n.courses.transactions (get_or numbers i d)) (sym same) ∙ sym found) before pushed
