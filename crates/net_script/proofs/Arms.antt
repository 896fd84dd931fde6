-- Values that have one text each, one after another, and lines of several kinds, each begun by a word of its own: for the readers of
-- words and lines, and their laws.
use Rattle.std.proofs.Common.{◌≡◌, List, [], ◌∷◌, ◌++◌, ◌<◌, length, map, refl, sym, ap, ◌∙◌, arith, ◌↔◌, IsTrue, ℕ, Bool, true, false}
use Rattle.std.proofs.Common.{Result, Ok, Err, Option, subst}
use Rattle.std.specs.List.{All, AllByRecursion}
use Rattle.std.proofs.lemmas.List.{append_assoc, map_push, length-append, length-map}
use Rattle.std.proofs.lemmas.List.Elements.{All-head, All-tail}
use Rattle.net_script.specs.Spelling.{same_lists, Finds, or_none, at_line, IsCommon, AreSpellings}
use Rattle.std.specs.Result.{IsErrAnd}
use Rattle.std.proofs.lemmas.Result.{err_from_is_err_and}
use Rattle.std.specs.Str.{bytes_eq}
use Rattle.net_script.specs.Basics.{Stop, Wrong, Memory, Refusal, NoMemory, BadScript}
use Rattle.net_script.specs.Lines.{Reads}
use Rattle.net_script.proofs.WordLemmas.{differ}

-- no two values in range have the same text
pub record HasOneText {X W : Type 0} (IsIn : X → Type 0) (text : X → W) : Type 0 where
  pub same : (x y : X) → IsIn x → IsIn y → text x ≡ text y → x ≡ y

pub texts_injective : {X W : Type 0} {IsIn : X → Type 0} {text : X → W} → HasOneText IsIn text → (xs ys : List X) → All IsIn xs
    → All IsIn ys
    → map text xs ≡ map text ys → xs ≡ ys
texts_injective one = same_lists one.same

-- values go on after some first ones: the next has this text, and the later ones have those
pub record GoesOn {X W : Type 0} (IsIn : X → Type 0) (text : X → W) (xs ys : List X) (word : W) (rest : List W) : Type 0 where
  pub next : X
  pub later : List X
  pub valid : IsIn next
  pub parts : ys ≡ xs ++ next ∷ later
  pub says : word ≡ text next
  pub says_later : rest ≡ map text later

pub texts_go_on : {X W : Type 0} {IsIn : X → Type 0} {text : X → W} → HasOneText IsIn text → (xs ys : List X) (word : W) (rest : List W)
    → All IsIn xs × All IsIn ys → map text xs ++ word ∷ rest ≡ map text ys → GoesOn IsIn text xs ys word rest
texts_go_on {IsIn = IsIn} one [] (y ∷ ys) word rest are e =
    record { next = y; later = ys; valid = All-head IsIn y ys are.1; parts = refl; says = cc; says_later = cc }
texts_go_on {IsIn = IsIn} one (x ∷ xs) (y ∷ ys) word rest are e =
    let head : x ≡ y = one.same x y (All-head IsIn x xs are.0) (All-head IsIn y ys are.1) (cc) in
    let more = texts_go_on one xs ys word rest (All-tail IsIn x xs are.0, All-tail IsIn y ys are.1) (cc) in
    let parts : ys ≡ xs ++ more.next ∷ more.later = more.parts in
    record {
      next = more.next;
      later = more.later;
      valid = more.valid;
      parts = cc;
      says = more.says;
      says_later = more.says_later;
    }
texts_go_on one xs ys word rest are e = absurd (cc)

-- ---- words that are read one by one, each the text of a value

pub word_read : {X W : Type 0} (text : X → W) (xs : List X) (x : X) (given rest after : List W) (word : W) → given ≡ map text xs ++ rest
    → rest ≡ word ∷ after → word ≡ text x
    → given ≡ map text (xs ++ x ∷ []) ++ after
word_read text xs x given rest after word so cut says = so ∙ simp (cut, says, map_push, append_assoc)

-- a word that is no value's text ends it
pub word_unread : {X W : Type 0} {IsIn : X → Type 0} {text : X → W} → HasOneText IsIn text → (xs ys : List X) (given rest after : List W)
    (word : W)
    → All IsIn xs × All IsIn ys → given ≡ map text xs ++ rest → rest ≡ word ∷ after → ((x : X) → IsIn x → word ≡ text x → ⊥)
    → given ≡ map text ys → ⊥
word_unread {W = W} {text = text} one xs ys given rest after word are so cut none e =
    let on = texts_go_on one xs ys word after are (ap (λ (ws : List W). map text xs ++ ws) (sym cut) ∙ (sym so ∙ e)) in
    none on.next on.valid on.says

-- where a word is left, more values follow
pub more_follow : {X W : Type 0} (text : X → W) (xs ys : List X) (given rest after : List W) (word : W) → given ≡ map text xs ++ rest
    → rest ≡ word ∷ after → given ≡ map text ys
    → length xs < length ys
more_follow text xs ys given rest after word so cut e =
    omega
    (arith, ap length so, ap length cut, ap length e, length-append (map text xs) rest, length-map xs text, length-map ys text)

-- a line that is made of a value, whose words these are
pub record IsMadeOf {X Y : Type 0} (fit : X → Type 0) (texts : X → List (List ℕ)) (make : X → Y) (args : List (List ℕ)) (line : Y)
    : Type 0 where
  pub value : X
  pub fits : fit value
  pub says : args ≡ texts value
  pub made : make value ≡ line

pub made_of : {X Y : Type 0} {fit : X → Type 0} {texts : X → List (List ℕ)} {make : X → Y} {args : List (List ℕ)} {line : Y} (value : X)
    → fit value → args ≡ texts value → make value ≡ line
    → IsMadeOf fit texts make args line
made_of value fits says made = record { value = value; fits = fits; says = says; made = made }

-- the lines that begin with this word are made of values whose words come after it
abbrev pub IsArm : {X Y : Type 0} → (X → Type 0) → (X → List (List ℕ)) → (Y → Type 0) → (Y → List (List ℕ)) → List ℕ → (X → Y) → Type 0
IsArm {Y = Y} fit texts IsIn words name make =
    (line : Y) → IsIn line → (args : List (List ℕ)) → name ∷ args ≡ words line → IsMadeOf fit texts make args line

abbrev pub Arm : {X Y : Type 0} {fit : X → Type 0} {texts : X → List (List ℕ)} → AreSpellings fit texts → (Y → Type 0)
    → (Y → List (List ℕ)) → List ℕ → (X → Y)
    → Type 0
Arm {fit = fit} {texts = texts} law IsIn words name make = IsArm fit texts IsIn words name make

-- a line that no other has the words of, which are words
pub record IsSaid {Y : Type 0} (IsIn : Y → Type 0) (words : Y → List (List ℕ)) (line : Y) : Type 0 where
  pub one : (other : Y) → IsIn other → words line ≡ words other → line ≡ other
  pub common : AllByRecursion IsCommon (words line)

pub arm_said : {X Y : Type 0} {fit : X → Type 0} {texts : X → List (List ℕ)} {IsIn : Y → Type 0} {words : Y → List (List ℕ)} {name : List ℕ}
    {make : X → Y} (law : AreSpellings fit texts) → IsArm fit texts IsIn words name make → IsCommon name → (line : Y) → IsIn line
    → (args : List (List ℕ)) → name ∷ args ≡ words line
    → IsSaid IsIn words line
arm_said {name = name} {make = make} law arm is line p args says =
    let own = arm line p args says in
    record {
      one = λ other q e.
          let found = arm other q args (says ∙ e) in
          let same : own.value ≡ found.value = law.one own.value found.value own.fits found.fits (sym own.says ∙ found.says) in
          sym own.made ∙ ap make same ∙ found.made;
      common =
          let first : AllByRecursion IsCommon (name ∷ args) = (is, rw own.says (law.common own.value own.fits)) in
          rw (sym says) first;
    }

-- the first of some words
abbrev pub first_word : List (List ℕ) → List ℕ
first_word [] = []
first_word (word ∷ rest) = word

-- two lines whose first words differ
pub apart : (v w : List (List ℕ)) → v ≡ w → bytes_eq (first_word v) (first_word w) ≡ false → ⊥
apart v w e off = differ (first_word v) (first_word w) (ap first_word e) off

-- ---- where nothing was read of a part, nothing is read of the whole

unread : {X Y V W : Type 0} {a b : Bool} {fit : X → Type 0} {text : X → V} {IsIn : Y → Type 0} {words : Y → W} {args : V} {given : W}
    → (a ≡ true → b ≡ true) → (((x : X) → fit x → args ≡ text x → ⊥) → (y : Y) → IsIn y → given ≡ words y → ⊥) → (d : Stop)
    → Finds a fit text args (Err d)
    → Finds b IsIn words given (Err d)
unread more fails Wrong none = fails none
unread more fails Memory none = more none

pub passes : {X Y V W : Type 0} {a b : Bool} {fit : X → Type 0} {text : X → V} {IsIn : Y → Type 0} {words : Y → W} {args : V} {given : W}
    → (a ≡ true → b ≡ true) → (((x : X) → fit x → args ≡ text x → ⊥) → (y : Y) → IsIn y → given ≡ words y → ⊥) → (d : Stop)
    (r : Result Y Stop)
    → IsErrAnd r (λ e. e ≡ d) → Finds a fit text args (Err d)
    → Finds b IsIn words given r
passes more fails d r from none = let p = err_from_is_err_and r from in rw (p.1, p.2) (unread more fails d none)

-- the same of what says more than that nothing was read
pub passes_on : {X Y V : Type 0} {a : Bool} {fit : X → Type 0} {text : X → V} {args : V}
    (P : Result Y Stop → Type 0) → (a ≡ true → P (Err Memory))
    → (((x : X) → fit x → args ≡ text x → ⊥) → P (Err Wrong)) → (d : Stop) (r : Result Y Stop)
    → IsErrAnd r (λ e. e ≡ d) → Finds a fit text args (Err d)
    → P r
passes_on P memory wrong Wrong r from none = let p = err_from_is_err_and r from in subst P (sym (p.1 ∙ ap Err p.2)) (wrong none)
passes_on P memory wrong Memory r from none = let p = err_from_is_err_and r from in subst P (sym (p.1 ∙ ap Err p.2)) (memory none)

-- the words after a first one
pub arm_fails : {X Y : Type 0} {a b : Bool} {fit : X → Type 0} {texts : X → List (List ℕ)} {IsIn : Y → Type 0} {words : Y → List (List ℕ)}
    {name : List ℕ} {make : X → Y}
    → (a ≡ true → b ≡ true) → IsArm fit texts IsIn words name make → (verb : List ℕ) (args : List (List ℕ)) (d : Stop) (r : Result Y Stop)
    → verb ≡ name → IsErrAnd r (λ e. e ≡ d) → Finds a fit texts args (Err d)
    → Finds b IsIn words (verb ∷ args) r
arm_fails more arm verb args d r same from none =
    passes more
    (λ fails y q e.
    let found = arm y q args (ap (λ (word : List ℕ). word ∷ args) (sym same) ∙ e) in fails found.value found.fits found.says)
    d r from none

-- the same where the first word was compared
pub stops : {X Y : Type 0} {fit : X → Type 0} {texts : X → List (List ℕ)} {IsIn : Y → Type 0} {words : Y → List (List ℕ)}
    {name verb : List ℕ} {make : X → Y} {P : Type 0}
    → IsArm fit texts IsIn words name make → (a : Bool) (args : List (List ℕ)) (d : Stop) (r : Result Y Stop)
    → IsTrue true ↔ (verb ≡ name) → P × IsErrAnd r (λ e. e ≡ d) → Finds a fit texts args (Err d)
    → Finds true IsIn words (verb ∷ args) r
stops arm a args d r is from none = arm_fails (λ e. refl) arm _ args d r (is.0 refl) from.1 none

-- what was found, or none
pub found : {X W : Type 0} (a : Bool) (fits : X → Type 0) (text : X → W) (given : W) (r : Result X Stop) {o : Result (Option X) Refusal}
    → o ≡ or_none r → Finds a fits text given r
    → Reads fits text given o
found a fits text given (Ok x) same h = rw same h
found a fits text given (Err Wrong) same h = rw same h
found a fits text given (Err Memory) same h = rw same

-- ---- what was found in a line, and the refusal of that line

pub at_line_ok : {X : Type 0} (line : ℕ) (r : Result X Stop) (x : X) → at_line line r ≡ Ok x → r ≡ Ok x
at_line_ok line (Ok y) x e =
    let same : y ≡ x = cc in
    ap Ok same
at_line_ok line (Err Wrong) x e = absurd (cc)
at_line_ok line (Err Memory) x e = absurd (cc)

-- where nothing was found, the line is refused, or memory ran out
pub refused_at : {X : Type 0} (line : ℕ) (r : Result X Stop) (e : Refusal) (P : Refusal → Type 0) → at_line line r ≡ Err e → P NoMemory
    → (r ≡ Err Wrong → P (BadScript line)) → P e
refused_at line (Ok x) e P was memory wrong = absurd (cc)
refused_at line (Err Wrong) e P was memory wrong = let same : BadScript line ≡ e = cc in subst P same (wrong refl)
refused_at line (Err Memory) e P was memory wrong = let same : NoMemory ≡ e = cc in subst P same memory
