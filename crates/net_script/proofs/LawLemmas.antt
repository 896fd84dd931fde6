-- One reading of a text, and one first fault.
use Rattle.std.proofs.Common.{◌≡◌, ℕ, ◌+◌, ◌<◌, ◌≤◌, not, List, [], ◌++◌, length, take, drop, map, append_assoc, sym, ap, subst}
use Rattle.std.proofs.Common.{◌∙◌, arith, ◌⊎◌, inl, inr}
use Rattle.std.proofs.lemmas.Bool.{cases_lt}
use Rattle.std.proofs.lemmas.List.{append-nil, nil_from_length, length-append, take-append-drop, take-take}
use Rattle.std.proofs.lemmas.List.Elements.{filter-append}
use Rattle.net_script.specs.Basics.{Script}
use Rattle.net_script.specs.Lines.{words}
use Rattle.net_script.specs.Items.{item_words}
use Rattle.net_script.specs.Scripts.{is_note, lines_kept, script_items, SpelledBy, CanBegin, FailsAt}
use Rattle.net_script.proofs.ScriptLemmas.{items_have_one_text, items_valid, scripts_same}
use Rattle.net_script.proofs.Arms.{texts_injective}

-- ---- one reading

pub one_script : (ls : List (List ℕ)) (s t : Script) → SpelledBy ls s → SpelledBy ls t → s ≡ t
one_script ls s t p q = scripts_same s t p.valid q.valid
    (texts_injective items_have_one_text (script_items s) (script_items t) (items_valid s p.valid) (items_valid t q.valid)
    (sym p.says ∙ q.says))

-- ---- the first fault

begins_take : (n : ℕ) (ls : List (List ℕ)) → CanBegin ls → CanBegin (take n ls)
begins_take n ls (inl none) =
    let front = take n ls in
    let back = drop n ls in
    let parts = filter-append (λ line. not (is_note (words line))) front back in
    let all = ap length (sym parts ∙ ap lines_kept (take-append-drop n ls) ∙ none) in
    inl (nil_from_length (lines_kept front) (omega (arith, all, length-append (lines_kept front) (lines_kept back))))
begins_take n ls (inr (more, s, spelled)) =
    inr (drop n ls ++ more, s, subst (λ (l : List (List ℕ)). SpelledBy l s) (simp (← append_assoc, take-append-drop)) spelled)

pub spelled_has_no_fault : (ls : List (List ℕ)) (s : Script) (n : ℕ) → SpelledBy ls s
    → FailsAt CanBegin ls n ⊎ ((lines_kept ls ≡ []) × (n ≡ length ls + 1)) → ⊥
spelled_has_no_fault ls s n spelled (inl fault) = fault.fails (begins_take n ls (inr ([], s, rw append-nil spelled)))
spelled_has_no_fault ls s n spelled (inr silent) =
    let none : [] ≡ map item_words (script_items s) = ap (map words) (sym silent.0) ∙ spelled.says in absurd (cc)

-- where what can stand at the beginning keeps its own beginnings, the first line at fault is one
pub fault_once : {Can : List (List ℕ) → Type 0} → ((m : ℕ) (ls : List (List ℕ)) → Can ls → Can (take m ls)) → (ls : List (List ℕ)) (m n : ℕ)
    → FailsAt Can ls m → FailsAt Can ls n → m < n → ⊥
fault_once {Can = Can} begins ls m n p q lt =
    let short : m ≤ q.before = let c = q.counted in omega arith in
    p.fails (subst Can (take-take m q.before ls short) (begins m (take q.before ls) q.can))

pub one_line : {Can : List (List ℕ) → Type 0} → ((m : ℕ) (ls : List (List ℕ)) → Can ls → Can (take m ls)) → (ls : List (List ℕ)) (m n : ℕ)
    → FailsAt Can ls m → FailsAt Can ls n → m ≡ n
one_line begins ls m n p q =
    elim (cases_lt m n) [
      | inl lt ↦ absurd (fault_once begins ls m n p q lt)
      | inr ge ↦ elim (cases_lt n m) [ inl lt ↦ absurd (fault_once begins ls n m q p lt) | inr le ↦ omega arith ]
    ]

pub one_fault : (ls : List (List ℕ)) (m n : ℕ) → FailsAt CanBegin ls m ⊎ ((lines_kept ls ≡ []) × (m ≡ length ls + 1))
    → FailsAt CanBegin ls n ⊎ ((lines_kept ls ≡ []) × (n ≡ length ls + 1)) → m ≡ n
one_fault ls m n (inl p) (inl q) = one_line begins_take ls m n p q
one_fault ls m n (inl p) (inr q) = absurd (p.fails (begins_take m ls (inl q.0)))
one_fault ls m n (inr p) (inl q) = absurd (q.fails (begins_take n ls (inl p.0)))
one_fault ls m n (inr p) (inr q) = p.1 ∙ sym q.1
