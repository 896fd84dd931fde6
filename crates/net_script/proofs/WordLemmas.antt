-- Pieces, lines and words of a text, a text up to its first mark, and rows: for readers of words.
use Rattle.std.proofs.Common.{eq-eqb, ◌≡◌, ℕ, ◌<◌, ◌^◌, Bool, true, false, cond, not, ◌⊎◌, inl, inr, eqb, List, [], ◌∷◌, ◌+◌, ◌-◌, ◌≤◌}
use Rattle.std.proofs.Common.{take, get_or, ◌++◌, length, Ok, Option, None, Some, refl, sym, ap, ◌∙◌, arith, decimal, zero, suc, drop}
use Rattle.std.proofs.Common.{eqb-true, map}
use Rattle.std.proofs.lemmas.List.{length-append, take_all, take_rest}
use Rattle.std.specs.List.{onto_first, All}
use Rattle.std.proofs.lemmas.Bool.{not-true}
use Rattle.std.proofs.lemmas.Fmt.{decimal_injective}
use Rattle.xid.specs.Text.{lacks}
use Rattle.xid.proofs.Texts.{first_true, second_true, both_true, cut_same}
use Rattle.xid.proofs.TransactionTexts.{hex_same}
use Rattle.net_script.specs.Lines.{pieces, IsFirstPiece, Reads, IsSome, bytes_text, row_text}
pub use Rattle.net_script.specs.Laws.{differ, hex_some, hex_decodes, bytes_are_hex, bytes_injective, hex_long}
use Rattle.memchr.specs.Find.{IsFirstByte, is_byte}
use Rattle.net_script.specs.Basics.{IsBytes, hex_text, Place, Row, Table}
use Rattle.net_script.specs.Events.{IsFloor}
use Rattle.net_script.specs.Laws.{hex_lacks_equals, a_row}
use Rattle.net_script.specs.Items.{IsRow, IsContents, contents_words}
use Rattle.net_script.specs.Spelling.{one_list}

pub second_holds : {A B : Type 0} → A ⊎ B → (A → ⊥) → B
second_holds (inl a) other = absurd (other a)
second_holds (inr b) other = b

-- where nothing was read
pub reads_none : {X W : Type 0} (IsIn : X → Type 0) (text : X → W) (given : W) (o : Option X) → o ≡ None → Reads IsIn text given (Ok o)
    → (y : X) → IsIn y → given ≡ text y → ⊥
reads_none IsIn text given None e h = h
reads_none IsIn text given (Some x) e h = absurd (cc)

-- ---- pieces

pub pieces-cut : (mark : ℕ) (a b : List ℕ) → lacks mark a ≡ true → pieces mark (a ++ mark ∷ b) ≡ a ∷ pieces mark b
pieces-cut mark [] b h = rw (eq-eqb mark mark refl) refl
pieces-cut mark (x ∷ a) b h =
    let other : eqb x mark ≡ false = not-true (eqb x mark) (first_true (not (eqb x mark)) (lacks mark a) h) in
    let rest : pieces mark (a ++ mark ∷ b) ≡ a ∷ pieces mark b = pieces-cut mark a b (second_true (not (eqb x mark)) (lacks mark a) h) in
    rw (other, rest) refl

pub pieces-whole : (mark x : ℕ) (a : List ℕ) → lacks mark (x ∷ a) ≡ true → pieces mark (x ∷ a) ≡ (x ∷ a) ∷ []
pieces-whole mark x [] h =
    let other : eqb x mark ≡ false = not-true (eqb x mark) (first_true (not (eqb x mark)) true h) in
    rw other refl
pieces-whole mark x (y ∷ a) h =
    let other : eqb x mark ≡ false = not-true (eqb x mark) (first_true (not (eqb x mark)) (lacks mark (y ∷ a)) h) in
    let rest : pieces mark (y ∷ a) ≡ (y ∷ a) ∷ [] = pieces-whole mark y a (second_true (not (eqb x mark)) (lacks mark (y ∷ a)) h) in
    ap (λ b. cond b ([] ∷ pieces mark (y ∷ a)) (onto_first x (pieces mark (y ∷ a)))) other ∙ ap (onto_first x) rest

pub last_piece : (mark : ℕ) (text : List ℕ) → 0 < length text → lacks mark text ≡ true → IsFirstPiece mark text text []
last_piece mark [] some h = absurd (omega arith)
last_piece mark (x ∷ a) some h = record { cut = pieces-whole mark x a h; shorter = omega arith }

pub marked_piece : (mark : ℕ) (text a b : List ℕ) → (text ≡ a ++ mark ∷ b) × (lacks mark a ≡ true) → IsFirstPiece mark text a b
marked_piece mark text a b h = record {
  cut = ap (pieces mark) h.0 ∙ pieces-cut mark a b h.1;
  shorter = omega (arith, ap length h.0, length-append a (mark ∷ b));
}

-- ---- resource managers

pub large_number : (m n : ℕ) → m < 2 ^ 32 → 255 < m → n < 256 → decimal m ≡ decimal n → ⊥
large_number m n small large lt e =
    let same : m ≡ n = decimal_injective m n (omega arith) (omega arith) e in
    omega arith

lacks_until : (mark : ℕ) (text : List ℕ) (n : ℕ) → n ≤ length text
    → ((k : ℕ) → k < n → eqb (get_or text k 0) mark ≡ true → ⊥) → lacks mark (take n text) ≡ true
lacks_until mark text zero le none = refl
lacks_until mark [] (suc n) le none = refl
lacks_until mark (x ∷ xs) (suc n) le none =
    both_true (not (eqb x mark)) (lacks mark (take n xs)) (off (eqb x mark) (none 0 (omega arith)))
    (lacks_until mark xs n (omega arith) (λ k lt e. none (suc k) (omega arith) e))
  where
    off : (b : Bool) → (b ≡ true → ⊥) → not b ≡ true
    off true none = absurd (none refl)
    off false _ = refl

cut_here : (text : List ℕ) (n : ℕ) → n < length text → text ≡ take n text ++ get_or text n 0 ∷ drop (suc n) text
cut_here [] n lt = absurd (omega arith)
cut_here (x ∷ xs) zero lt = refl
cut_here (x ∷ xs) (suc n) lt = ap (λ (l : List ℕ). x ∷ l) (cut_here xs n (omega arith))

pub marked_at : (mark : ℕ) (text : List ℕ) (n : ℕ) → IsFirstByte (is_byte mark) text (Some n)
    → (text ≡ take n text ++ mark ∷ take (length text - (n + 1)) (drop (n + 1) text)) × (lacks mark (take n text) ≡ true)
marked_at mark text n first =
    let here : get_or text n 0 ≡ mark = eqb-true (get_or text n 0) mark first.1 in
    let high = first.0.high in
    let next : suc n ≡ n + 1 = omega arith in (
      cut_here text n high ∙ (simp (here, next, take_rest)),
      lacks_until mark text n (omega (arith, high)) (λ k lt e. first.0.before k (omega arith) lt e),
    )

pub unmarked : (mark : ℕ) (text : List ℕ) → IsFirstByte (is_byte mark) text None → lacks mark text ≡ true
unmarked mark text none =
    ap (lacks mark) (sym (take_all (length text) text (omega arith)))
    ∙ lacks_until mark text (length text) (omega arith) (λ k lt e. none k (omega arith) lt e)

-- ---- floors

pub large_format : (m n : ℕ) → m < 2 ^ 32 → 2 ^ 31 ≤ m → n < 2 ^ 31 → decimal m ≡ decimal n → ⊥
large_format m n small large lt e =
    let same : m ≡ n = decimal_injective m n (omega arith) (omega arith) e in
    omega arith

pub long_gtrid : (floor : Place) (back bytes : List ℕ) → IsFloor floor → back ≡ bytes_text floor.gtrid
    → IsBytes bytes × (back ≡ bytes_text bytes)
    → 64 < length bytes → ⊥
long_gtrid floor back bytes is e read long =
    let same : bytes ≡ floor.gtrid = bytes_injective bytes floor.gtrid read.0 is.bytes (sym read.1 ∙ e) in
    let few = is.few in
    omega (arith, ap length same)

-- ---- rows

-- a row's text is cut at its first `=` in one way
pub cut_row : (row : Row) (text front back : List ℕ) → IsRow row → text ≡ row_text row
    → (text ≡ front ++ 61 ∷ back) × (lacks 61 front ≡ true)
    → (front ≡ hex_text row.key) × (back ≡ bytes_text row.value)
cut_row row text front back is e cut =
    cut_same 61 front back (hex_text row.key) (bytes_text row.value) cut.1 (hex_lacks_equals row.key is.key.bytes) (sym cut.0 ∙ e)

pub long_key : (row : Row) (front bytes : List ℕ) → IsRow row → front ≡ hex_text row.key → IsSome bytes × (front ≡ hex_text bytes)
    → 64 < length bytes → ⊥
long_key row front bytes is e read long =
    let same : bytes ≡ row.key = hex_same bytes row.key read.0.1 is.key.bytes (sym read.1 ∙ e) in
    let few = is.key.few in
    omega (arith, ap length same)

pub long_value : (row : Row) (back bytes : List ℕ) → IsRow row → back ≡ bytes_text row.value → IsBytes bytes × (back ≡ bytes_text bytes)
    → 256 < length bytes → ⊥
long_value row back bytes is e read long =
    let same : bytes ≡ row.value = bytes_injective bytes row.value read.0 is.value.bytes (sym read.1 ∙ e) in
    let few = is.value.few in
    omega (arith, ap length same)

pub table_rows : (rows : List Row) (t : Table) {rm : List ℕ} → All IsRow rows → IsContents t → rm ∷ map row_text rows ≡ contents_words t
    → rows ≡ t.rows
table_rows rows t each is e = one_list a_row rows t.rows each is.rows.each (cc)
