-- Texts of transactions that are read and written: one branch's, and branches with commas between.
use Rattle.std.proofs.Common.{◌≡◌, ℕ, ◌+◌, ◌<◌, ◌≤◌, ◌^◌, true, not, eqb, List, [], ◌∷◌, ◌++◌, length, get_or}
use Rattle.std.proofs.Common.{drop, take, Result, Ok, refl, sym, ap, subst, ◌∙◌, append_assoc, add-one, length-drop, arith, decimal}
use Rattle.std.specs.List.{flat_map}
use Rattle.std.proofs.lemmas.List.{append-nil, take_more, take_all}
use Rattle.std.proofs.lemmas.List.Concat.{flat_map-cons, flat_map-append}
use Rattle.std.proofs.Math.Seq.{drop-cons}
use Rattle.std.proofs.lemmas.Bool.Decides.{nat_tests}
use Rattle.std.proofs.lemmas.Fmt.{decimal_injective}
use Rattle.hex.proofs.HexLemmas.{decode_sized-encode_lower}
use Rattle.hex.specs.Hex.{decode_sized}
use Rattle.hex.specs.declared.error.FromHexError.{FromHexError}
use Rattle.xid.specs.Names.{IsBytes}
use Rattle.xid.specs.Text.{hex_text, lacks}
use Rattle.xid.specs.BranchArray.{blank}
use Rattle.xid.specs.Transactions.{BranchParts, TxParts, IsBranch, AreBranches, IsTx, branch_text, branches_text, tx_text}
use Rattle.xid.proofs.Texts.{both_true, list_all_join, list_all-hex_text, list_all-decimal, cut_same, lacks_not, length-hex_text}

-- ---- marks that a text lacks

decimal_lacks : (mark : ℕ) (n : ℕ) → ((c : ℕ) → 48 ≤ c → c ≤ 57 → not (eqb c mark) ≡ true) → n < 2 ^ 32 → lacks mark (decimal n) ≡ true
decimal_lacks mark n other lt = list_all-decimal (λ byte. not (eqb byte mark)) n other lt

no_colon : (c : ℕ) → 48 ≤ c → c ≤ 57 → not (eqb c 58) ≡ true
no_colon c low high = grind (arith, nat_tests)

no_equals : (c : ℕ) → 48 ≤ c → c ≤ 57 → not (eqb c 61) ≡ true
no_equals c low high = grind (arith, nat_tests)

no_comma : (c : ℕ) → 48 ≤ c → c ≤ 57 → not (eqb c 44) ≡ true
no_comma c low high = grind (arith, nat_tests)

hex_lacks_slash : (xs : List ℕ) → IsBytes xs → lacks 47 (hex_text xs) ≡ true
hex_lacks_slash xs bytes = list_all-hex_text (λ byte. not (eqb byte 47)) xs refl bytes

hex_lacks_comma : (xs : List ℕ) → IsBytes xs → lacks 44 (hex_text xs) ≡ true
hex_lacks_comma xs bytes = list_all-hex_text (λ byte. not (eqb byte 44)) xs refl bytes

branch_lacks_comma : (b : BranchParts) → IsBranch b → lacks 44 (branch_text b) ≡ true
branch_lacks_comma b is =
    list_all_join (λ byte. not (eqb byte 44)) (decimal b.rm) (61 ∷ hex_text b.bqual) (decimal_lacks 44 b.rm no_comma (omega (arith, is.rm)))
    (both_true true (lacks 44 (hex_text b.bqual)) refl (hex_lacks_comma b.bqual is.bqual.bytes))

-- ---- one branch

-- a branch's text is cut at its first equals sign in one way
pub cut_branch : (b : BranchParts) (text front rest : List ℕ) → IsBranch b → text ≡ branch_text b
    → (text ≡ front ++ 61 ∷ rest) × (lacks 61 front ≡ true)
    → (front ≡ decimal b.rm) × (rest ≡ hex_text b.bqual)
cut_branch b text front rest is e cut =
    cut_same 61 front rest (decimal b.rm) (hex_text b.bqual) cut.1 (decimal_lacks 61 b.rm no_equals (omega (arith, is.rm))) (sym cut.0 ∙ e)

abbrev ok_bytes : List ℕ → Result (List ℕ) FromHexError
ok_bytes xs = Ok xs

ok_same : (xs ys : List ℕ) → ok_bytes xs ≡ ok_bytes ys → xs ≡ ys
ok_same xs ys e = cc

-- bytes by their hex text
pub hex_same : (xs ys : List ℕ) → IsBytes xs → IsBytes ys → hex_text xs ≡ hex_text ys → xs ≡ ys
hex_same xs ys bx by' e =
    let len : length xs ≡ length ys = omega (arith, ap length e, length-hex_text xs, length-hex_text ys) in
    let dx = decode_sized-encode_lower xs (length ys) len bx in
    let dy = decode_sized-encode_lower ys (length ys) refl by' in
    ok_same xs ys (sym dx ∙ ap (λ (t : List ℕ). decode_sized t (length ys)) e ∙ dy)

pub branch_same : (rm : ℕ) (bqual : List ℕ) (b : BranchParts) (rm_text bqual_text : List ℕ) → rm < 2 ^ 32 → IsBytes bqual → IsBranch b
    → (rm_text ≡ decimal b.rm) × (bqual_text ≡ hex_text b.bqual)
    → rm_text ≡ decimal rm → bqual_text ≡ hex_text bqual → record { rm = rm; bqual = bqual } ≡ b
branch_same rm bqual b rm_text bqual_text lt bytes is cut r q =
    let rms : rm ≡ b.rm = decimal_injective rm b.rm (omega arith) (omega (arith, is.rm)) (sym r ∙ cut.0) in
    let bquals : bqual ≡ b.bqual = hex_same bqual b.bqual bytes is.bqual.bytes (sym q ∙ cut.1) in
    λ i. record { rm = rms i; bqual = bquals i }

-- ---- branches with commas between

joined_one : (b : BranchParts) → branches_text (b ∷ []) ≡ branch_text b
joined_one b = append-nil (branch_text b)

joined_more : (b x : BranchParts) (xs : List BranchParts) → branches_text (b ∷ x ∷ xs) ≡ branch_text b ++ 44 ∷ branches_text (x ∷ xs)
joined_more b x xs = ap (λ (t : List ℕ). branch_text b ++ t) (flat_map-cons (λ y. (44 ∷ []) ++ branch_text y) x xs)

-- the first of branches is followed by a comma where there are more
comma_in : (b : BranchParts) (ds : List BranchParts) (first after : List ℕ) → IsBranch b → branches_text (b ∷ ds) ≡ first ++ 44 ∷ after
    → lacks 44 first ≡ true
    → (first ≡ branch_text b) × (0 < length ds) × (after ≡ branches_text ds)
comma_in b [] first after is e h =
    absurd (lacks_not 44 first after (subst (λ (t : List ℕ). lacks 44 t ≡ true) (sym (joined_one b) ∙ e) (branch_lacks_comma b is)))
comma_in b (x ∷ xs) first after is e h =
    let cut = cut_same 44 first after (branch_text b) (branches_text (x ∷ xs)) h (branch_lacks_comma b is) (sym e ∙ joined_more b x xs) in
    (cut.0, omega arith, cut.1)

last_in : (b : BranchParts) (ds : List BranchParts) → lacks 44 (branches_text (b ∷ ds)) ≡ true
    → (branches_text (b ∷ ds) ≡ branch_text b) × (length ds ≡ 0)
last_in b [] h = (joined_one b, refl)
last_in b (x ∷ xs) h = absurd (lacks_not 44 (branch_text b) (branches_text (x ∷ xs))
    (subst (λ (t : List ℕ). lacks 44 t ≡ true) (joined_more b x xs) h))

from_place : (bs : List BranchParts) (n : ℕ) → n < length bs → drop n bs ≡ get_or bs n blank ∷ drop (n + 1) bs
from_place bs n lt = rw (add-one, drop-cons bs n blank) refl

-- what is before a place of branches, and the rest of their text from there
pub record Continues (bs : List BranchParts) (n : ℕ) (front : List BranchParts) (rest : List ℕ) : Type 0 where
  pub more : n < length bs
  pub front_is : front ≡ take n bs
  pub rest_is : rest ≡ branches_text (drop n bs)

pub at_comma : (bs : List BranchParts) (n : ℕ) (front : List BranchParts) (rest first after : List ℕ) → AreBranches bs
    → Continues bs n front rest → (rest ≡ first ++ 44 ∷ after) × (lacks 44 first ≡ true)
    → (first ≡ branch_text (get_or bs n blank)) × Continues bs (n + 1) (front ++ get_or bs n blank ∷ []) after
at_comma bs n front rest first after are on cut =
    let place = from_place bs n on.more in
    let here : branches_text (get_or bs n blank ∷ drop (n + 1) bs) ≡ first ++ 44 ∷ after = ap branches_text (sym place)
    ∙ sym on.rest_is ∙ cut.0 in
    let x = comma_in (get_or bs n blank) (drop (n + 1) bs) first after (are.each n blank on.more) here cut.1 in (
      x.0,
      record {
        more = omega (arith, x.1, length-drop (n + 1) bs);
        front_is = ap (λ (f : List BranchParts). f ++ get_or bs n blank ∷ []) on.front_is ∙ sym (take_more bs n blank on.more);
        rest_is = x.2;
      },
    )

pub at_end : (bs : List BranchParts) (n : ℕ) (front : List BranchParts) (rest : List ℕ) → Continues bs n front rest → lacks 44 rest ≡ true
    → (rest ≡ branch_text (get_or bs n blank)) × (front ++ get_or bs n blank ∷ [] ≡ bs)
at_end bs n front rest on h =
    let same : rest ≡ branches_text (get_or bs n blank ∷ drop (n + 1) bs) = on.rest_is ∙ ap branches_text (from_place bs n on.more) in
    let last = last_in (get_or bs n blank) (drop (n + 1) bs) (subst (λ (t : List ℕ). lacks 44 t ≡ true) same h) in
    let whole : length bs ≤ n + 1 = omega (arith, last.1, length-drop (n + 1) bs) in (
      same ∙ last.0,
      ap (λ (f : List BranchParts). f ++ get_or bs n blank ∷ []) on.front_is
          ∙ sym (take_more bs n blank on.more) ∙ take_all (n + 1) bs whole,
    )

-- each branch with a comma after it
abbrev pub with_commas : List BranchParts → List ℕ
with_commas bs = flat_map (λ b. branch_text b ++ 44 ∷ []) bs

pub with_commas-push : (bs : List BranchParts) (b : BranchParts) (text rest first after : List ℕ) → text ≡ with_commas bs ++ rest
    → rest ≡ first ++ 44 ∷ after → first ≡ branch_text b
    → text ≡ with_commas (bs ++ b ∷ []) ++ after
with_commas-push bs b text rest first after e cut is =
    let pushed : with_commas (bs ++ b ∷ []) ≡ with_commas bs ++ (branch_text b ++ 44 ∷ []) =
    flat_map-append (λ (c : BranchParts). branch_text c ++ 44 ∷ []) bs (b ∷ [])
    ∙ ap (λ (t : List ℕ). with_commas bs ++ t) (append-nil (branch_text b ++ 44 ∷ [])) in
    e ∙ ap (λ (t : List ℕ). with_commas bs ++ t) (cut ∙ ap (λ (t : List ℕ). t ++ 44 ∷ after) is)
    ∙ sym (ap (λ (t : List ℕ). t ++ after) pushed ∙ append_assoc (with_commas bs) (branch_text b ++ 44 ∷ []) after
    ∙ ap (λ (t : List ℕ). with_commas bs ++ t) (append_assoc (branch_text b) (44 ∷ []) after))

some_first : (a : BranchParts) (bs : List BranchParts) (b : BranchParts)
    → branches_text (a ∷ (bs ++ b ∷ [])) ≡ branch_text a ++ 44 ∷ branches_text (bs ++ b ∷ [])
some_first a [] b = joined_more a b []
some_first a (x ∷ xs) b = joined_more a x (xs ++ b ∷ [])

commas_joined : (bs : List BranchParts) (b : BranchParts) → with_commas bs ++ branch_text b ≡ branches_text (bs ++ b ∷ [])
commas_joined [] b = sym (joined_one b)
commas_joined (a ∷ bs) b =
    ap (λ (t : List ℕ). t ++ branch_text b) (flat_map-cons (λ (c : BranchParts). branch_text c ++ 44 ∷ []) a bs)
    ∙ append_assoc (branch_text a ++ 44 ∷ []) (with_commas bs) (branch_text b)
    ∙ append_assoc (branch_text a) (44 ∷ []) (with_commas bs ++ branch_text b)
    ∙ ap (λ (t : List ℕ). branch_text a ++ 44 ∷ t) (commas_joined bs b)
    ∙ sym (some_first a bs b)

pub last_joined : (bs : List BranchParts) (b : BranchParts) (text rest : List ℕ) → text ≡ with_commas bs ++ rest → rest ≡ branch_text b
    → text ≡ branches_text (bs ++ b ∷ [])
last_joined bs b text rest e is = e ∙ ap (λ (t : List ℕ). with_commas bs ++ t) is ∙ commas_joined bs b

-- ---- a transaction

pub cut_tx : (tx : TxParts) (text front rest : List ℕ) → IsTx tx → text ≡ tx_text tx → (text ≡ front ++ 58 ∷ rest) × (lacks 58 front ≡ true)
    → (front ≡ decimal tx.format) × (rest ≡ hex_text tx.gtrid ++ 47 ∷ branches_text tx.branches)
cut_tx tx text front rest is e cut =
    cut_same 58 front rest (decimal tx.format) (hex_text tx.gtrid ++ 47 ∷ branches_text tx.branches) cut.1
    (decimal_lacks 58 tx.format no_colon (omega (arith, is.format))) (sym cut.0 ∙ e)

pub has_slash : (tx : TxParts) (text : List ℕ) → text ≡ hex_text tx.gtrid ++ 47 ∷ branches_text tx.branches → lacks 47 text ≡ true → ⊥
has_slash tx text e h = lacks_not 47 (hex_text tx.gtrid) (branches_text tx.branches) (subst (λ (t : List ℕ). lacks 47 t ≡ true) e h)

pub cut_gtrid : (tx : TxParts) (text front rest : List ℕ) → IsTx tx → text ≡ hex_text tx.gtrid ++ 47 ∷ branches_text tx.branches
    → (text ≡ front ++ 47 ∷ rest) × (lacks 47 front ≡ true)
    → (front ≡ hex_text tx.gtrid) × (rest ≡ branches_text tx.branches)
cut_gtrid tx text front rest is e cut =
    cut_same 47 front rest (hex_text tx.gtrid) (branches_text tx.branches) cut.1 (hex_lacks_slash tx.gtrid is.gtrid.bytes) (sym cut.0 ∙ e)
