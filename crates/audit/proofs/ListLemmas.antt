-- Tests of the elements of a list, one by one.
use Rattle.std.proofs.Common.{◌≡◌, ◌∙◌, ℕ, zero, suc, ◌+◌, ◌<◌, Bool, true, false, ◌==◌, ◌&&◌, cond, ltb, replicate, List, [], ◌∷◌, ◌++◌}
use Rattle.std.proofs.Common.{length, map, get_or, take, refl, sym, ap, arith}
use Rattle.std.specs.List.{fold, list_all}
use Rattle.std.proofs.lemmas.Bool.{ltb-true, ltb-false}
use Rattle.std.proofs.Math.ListN.{get_or-eq_default}
use Rattle.std.proofs.lemmas.List.{get_or-map, get_or-replicate, length-map, length-replicate, map-append}
use Rattle.std.proofs.lemmas.List.Folds.{list_all_more}
use Rattle.std.proofs.lemmas.List.Sums.{fold_more}
use Rattle.std.proofs.Math.Seq.{take-suc}
use Rattle.xid.specs.Transactions.{BranchParts, TxParts, participants, nth_branch}
use Rattle.safety.specs.Vocabulary.{Row, View}
use Rattle.protocol.specs.Tables.{put_row}
use Rattle.net_script.specs.declared.values.Table.{Table}
use Rattle.audit.specs.ToldTables.{first_rows_of, first_tables}

pub all_next : {X : Type 0} (p : X → Bool) (xs : List X) (i : ℕ) (d : X) → i < length xs → list_all p (take i xs) ≡ true
    → p (get_or xs i d) ≡ true → list_all p (take (i + 1) xs) ≡ true
all_next p xs i d lt before here = list_all_more p xs i d lt ∙ (λ j. before j && here j)

pub all_fails : {X : Type 0} (p : X → Bool) (xs : List X) (i : ℕ) (d : X) → i < length xs → p (get_or xs i d) ≡ false
    → list_all p xs ≡ false
all_fails p [] i d lt wrong = absurd (omega (arith, lt))
all_fails p (x ∷ xs) zero d lt wrong = ap (λ b. b && list_all p xs) wrong
all_fails p (x ∷ xs) (suc i) d lt wrong = ap (λ b. p x && b) (all_fails p xs i d (omega (arith, lt)) wrong) ∙ and_false (p x)
  where
    and_false : (b : Bool) → (b && false) ≡ false
    and_false true = refl
    and_false false = refl

-- the number of a participant by its place
pub participant_at : (tx : TxParts) (i : ℕ) → i < length tx.branches → get_or (participants tx) i 0 ≡ (nth_branch tx i).rm
participant_at tx i lt = get_or-map (λ (b : BranchParts). b.rm) tx.branches i (record { rm = 0; bqual = [] }) 0 lt

pub participants_many : (tx : TxParts) → length (participants tx) ≡ length tx.branches
participants_many tx = length-map tx.branches (λ (b : BranchParts). b.rm)

-- one participant more that is working
pub working_more : (ps : List ℕ) (i : ℕ) → i < length ps
    → map (λ _. View.Working) (take i ps) ++ View.Working ∷ [] ≡ map (λ _. View.Working) (take (i + 1) ps)
working_more ps i lt =
    let next : suc i ≡ i + 1 = omega arith in
    sym (map-append (λ _. View.Working) (take i ps) (get_or ps i 0 ∷ [])) ∙ ap (map (λ _. View.Working)) (sym (take-suc ps i 0 lt))
    ∙ ap (λ n. map (λ _. View.Working) (take n ps)) next

abbrev chosen : ℕ → List Row → Table → List Row
chosen rm rows table = cond (table.rm == rm) table.rows rows

-- the first contents by one line more
pub first_more : (tables : List Table) (i : ℕ) (t : Table) → i < length tables → t ≡ get_or tables i t → (rm : ℕ)
    → first_tables (take (i + 1) tables) rm ≡ cond (t.rm == rm) (fold put_row [] t.rows) (first_tables (take i tables) rm)
first_more tables i t lt is rm =
    ap (fold put_row []) (fold_more (chosen rm) [] tables i t lt ∙ ap (chosen rm (fold (chosen rm) [] (take i tables))) (sym is))
    ∙ by (t.rm == rm)
  where
    by : (b : Bool) → fold put_row [] (cond b t.rows (first_rows_of (take i tables) rm))
        ≡ cond b (fold put_row [] t.rows) (first_tables (take i tables) rm)
    by true = refl
    by false = refl

abbrev no_rows : List Row
no_rows = []

-- tables with no rows, and none beyond them
pub none_among : (n i : ℕ) → get_or (replicate n no_rows) i [] ≡ []
none_among n i = by (ltb i n) refl
  where
    by : (b : Bool) → ltb i n ≡ b → get_or (replicate n no_rows) i [] ≡ []
    by true e = get_or-replicate n i no_rows [] (ltb-true i n e)
    by false e =
        let long = length-replicate n no_rows in
        let past = ltb-false i n e in
        get_or-eq_default (replicate n no_rows) [] (omega (arith, long, past))
