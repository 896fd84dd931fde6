-- Values that have one text each, which is a word, and values that have one list of words each: what readers of words rest on.
use Rattle.std.specs.Prelude.{◌≡◌, ◌≢◌, ℕ, ◌<◌, ◌≤◌, List, [], ◌∷◌, length, Bool, true, not, ◌&&◌, ◌==◌, map, refl, Result, Ok, Err, Option}
use Rattle.std.proofs.Common.{sym, ap, ◌∙◌}
use Rattle.std.specs.Prelude.{Some, None}
use Rattle.std.specs.List.{All, AllByRecursion, list_all}
use Rattle.std.proofs.lemmas.List.Elements.{All-head, All-tail}
use Rattle.xid.specs.Limits.{most_branches}
use Rattle.net_script.specs.Basics.{Stop, Wrong, Memory, Refusal, NoMemory, BadScript}
use Rattle.net_script.specs.Lines.{is_word}

-- neither a line's end nor a space
abbrev pub is_clean : ℕ → Bool
is_clean byte = not (byte == 10) && not (byte == 32)

-- nor an arrow's head
abbrev pub is_common : ℕ → Bool
is_common byte = not (byte == 62) && is_clean byte

-- a word of a line: it has a byte, and each is clean
pub record IsClean (word : List ℕ) : Type 0 where
  pub some : is_word word ≡ true
  pub bytes : list_all is_clean word ≡ true

-- a word that is no arrow: it has a byte, and each is common
pub record IsCommon (word : List ℕ) : Type 0 where
  pub some : is_word word ≡ true
  pub bytes : list_all is_common word ≡ true

-- no two values that fit have the same text, and it is a word
pub record IsSpelling {X : Type 0} (fits : X → Type 0) (text : X → List ℕ) : Type 0 where
  pub one : (x y : X) → fits x → fits y → text x ≡ text y → x ≡ y
  pub common : (x : X) → fits x → IsCommon (text x)

-- nor the same words
pub record AreSpellings {X : Type 0} (fit : X → Type 0) (texts : X → List (List ℕ)) : Type 0 where
  pub one : (x y : X) → fit x → fit y → texts x ≡ texts y → x ≡ y
  pub common : (x : X) → fit x → AllByRecursion IsCommon (texts x)

-- Reading is exact: what was read fits, and its text is the one given; where the text is wrong, no value that fits has it; and memory
-- runs out only where reading takes some.
abbrev pub Finds : {X W : Type 0} → Bool → (X → Type 0) → (X → W) → W → Result X Stop → Type 0
Finds allocates fits text given (Ok x) = fits x × (given ≡ text x)
Finds allocates fits text given (Err Wrong) = (x : _) → fits x → given ≢ text x
Finds allocates fits text given (Err Memory) = allocates ≡ true

-- what was found, or none where no value has the text
abbrev pub or_none : {X : Type 0} → Result X Stop → Result (Option X) Refusal
or_none (Ok x) = Ok (Some x)
or_none (Err Wrong) = Ok None
or_none (Err Memory) = Err NoMemory

-- what was found in the line of this number, or why the text is refused
abbrev pub at_line : {X : Type 0} → ℕ → Result X Stop → Result X Refusal
at_line line (Ok x) = Ok x
at_line line (Err Wrong) = Err (BadScript line)
at_line line (Err Memory) = Err NoMemory

-- ---- no words, a word before others, and words of one kind

-- no words: the words of the one value of no parts
pub no_words : AreSpellings {X = Unit {0}} (λ _. Unit {0}) (λ _. [])
no_words = record { one = λ x y p q e. refl; common = λ x p. tt }

infixr 20 ◌&◌
-- a word before others: the words of a pair
pub ◌&◌ : {X Y : Type 0} {fits : X → Type 0} {text : X → List ℕ} {fit : Y → Type 0} {texts : Y → List (List ℕ)} → IsSpelling fits text
    → AreSpellings fit texts
    → AreSpellings {X = X × Y} (λ said. fits said.0 × fit said.1) (λ said. text said.0 ∷ texts said.1)
first & others = record {
  one = λ x y p q e.
      let one : x.0 ≡ y.0 = first.one x.0 y.0 p.0 q.0 (cc) in
      let rest : x.1 ≡ y.1 = others.one x.1 y.1 p.1 q.1 (cc) in
      let same : (x.0, x.1) ≡ (y.0, y.1) = cc in
      same;
  common = λ x p. (first.common x.0 p.0, others.common x.1 p.1);
}

-- one word for all values, before others
pub named : {X : Type 0} {fit : X → Type 0} {texts : X → List (List ℕ)} {name : List ℕ} → IsCommon name → AreSpellings fit texts
    → AreSpellings fit (λ x. name ∷ texts x)
named is others = record { one = λ x y p q e. others.one x y p q (cc); common = λ x p. (is, others.common x p) }

-- values of which another value says all
pub shaped : {X Y : Type 0} {fit : X → Type 0} {texts : X → List (List ℕ)} {fits : Y → Type 0} (shape : Y → X) (back : X → Y)
    → ((y : Y) → back (shape y) ≡ y) → ((y : Y) → fits y → fit (shape y)) → AreSpellings fit texts
    → AreSpellings fits (λ y. texts (shape y))
shaped shape back same fit law = record {
  one = λ x y p q e. sym (same x) ∙ ap back (law.one (shape x) (shape y) (fit x p) (fit y q) e) ∙ same y;
  common = λ x p. law.common (shape x) (fit x p);
}

-- a list of values is the only one with its texts
pub same_lists : {X W : Type 0} {fits : X → Type 0} {text : X → W} → ((x y : X) → fits x → fits y → text x ≡ text y → x ≡ y)
    → (xs ys : List X) → All fits xs → All fits ys → map text xs ≡ map text ys
    → xs ≡ ys
same_lists same [] [] p q e = refl
same_lists {fits = fits} same (x ∷ xs) (y ∷ ys) p q e =
    let head : x ≡ y = same x y (All-head fits x xs p) (All-head fits y ys q) (cc) in
    let tail : xs ≡ ys = same_lists same xs ys (All-tail fits x xs p) (All-tail fits y ys q) (cc) in
    cc
same_lists same xs ys p q e = absurd (cc)

-- or with its words
pub one_list : {X : Type 0} {fits : X → Type 0} {text : X → List ℕ} → IsSpelling fits text → (xs ys : List X) → All fits xs → All fits ys
    → map text xs ≡ map text ys
    → xs ≡ ys
one_list each = same_lists each.one

-- and each of its words is one
pub common_list : {X : Type 0} {fits : X → Type 0} {text : X → List ℕ} → IsSpelling fits text → (xs : List X) → All fits xs
    → AllByRecursion IsCommon (map text xs)
common_list each [] p = tt
common_list {fits = fits} each (x ∷ xs) p = (each.common x (All-head fits x xs p), common_list each xs (All-tail fits x xs p))

-- as many items as a bundle has
pub record AreItems {X : Type 0} (fits : X → Type 0) (items : List X) : Type 0 where
  pub some : 0 < length items
  pub few : length items ≤ most_branches
  pub each : All fits items

-- a bundle's items, one word each
pub items_of_words : {X : Type 0} {fits : X → Type 0} {text : X → List ℕ} → IsSpelling fits text
    → AreSpellings {X = List X} (AreItems fits) (map text)
items_of_words each = record { one = λ x y p q e. one_list each x y p.each q.each e; common = λ x p. common_list each x p.each }

-- any number of values, one word each
pub list_of_words : {X : Type 0} {fits : X → Type 0} {text : X → List ℕ} → IsSpelling fits text
    → AreSpellings {X = List X} (All fits) (map text)
list_of_words each = record { one = one_list each; common = common_list each }
