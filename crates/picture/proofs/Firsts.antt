-- The first row of a datagram's number tells what all rows before a line do: their lines ascend.
use Rattle.std.proofs.Common.{◌≡◌, ℕ, ◌+◌, ◌≤◌, ◌<◌, List, [], ◌∷◌, ◌++◌, length, take, get_or, find, Option, Some, None}
use Rattle.std.proofs.Common.{Bool, true, false, ◌&&◌, ◌||◌, cond, nat_lt, refl, sym, ap, ap₂, ◌∙◌, arith}
use Rattle.std.specs.Prelude.{◌==◌}
use Rattle.std.specs.Borrow.{Bor}
use Rattle.std.specs.List.{list_any}
use Rattle.std.specs.Option.{is_some, option_copied, option_or}
use Rattle.std.proofs.lemmas.Bool.Decides.{nat_tests}
use Rattle.std.proofs.lemmas.List.{take_more}
use Rattle.std.proofs.lemmas.List.Folds.{find-append}
use mathlib.Core.Path.{fun_ext}
use Rattle.picture.specs.declared.datagrams.Role.{Role}
use Rattle.picture.specs.declared.rows.Row.{Row}
use Rattle.picture.specs.declared.rows.What.{What}
use Rattle.picture.specs.declared.rows.What.TheVariants.{Delivers, Sends}
use Rattle.picture.specs.Drawing.{is_sent, takes, settles}
use Rattle.picture.specs.Order.{Ascend}
use Rattle.picture.specs.Datagrams.{earlier, has_number}

-- a test that passes only before a line, past that line
none_later : (p : Row → Bool) (line from : ℕ) (rows : List Row) → line ≤ from → Ascend from rows
    → find (λ (row : Row). p row && nat_lt row.line line) rows ≡ None
none_later p line from [] past up = refl
none_later p line from (row ∷ rows) past up =
    let late : nat_lt row.line line ≡ false = grind (arith, nat_tests, up.0) in
    let rest = none_later p line row.line rows (omega (arith, up.0)) up.1 in
    by_test (p row) late rest
  where
    by_test : (b : Bool) → nat_lt row.line line ≡ false → find (λ (r : Row). p r && nat_lt r.line line) rows ≡ None
        → cond (b && nat_lt row.line line) (Some row) (find (λ (r : Row). p r && nat_lt r.line line) rows) ≡ None
    by_test true late rest = rw late rest
    by_test false late rest = rest

-- the first that passes before a line
find_earlier : (p : Row → Bool) (line from : ℕ) (rows : List Row) → Ascend from rows
    → find (λ (row : Row). p row && nat_lt row.line line) rows ≡ earlier line (find p rows)
find_earlier p line from [] up = refl
find_earlier p line from (row ∷ rows) up = by_tests (p row) (nat_lt row.line line) refl (find_earlier p line row.line rows up.1)
  where
    rest : Option Row
    rest = find (λ (r : Row). p r && nat_lt r.line line) rows

    by_tests : (b c : Bool) → nat_lt row.line line ≡ c → rest ≡ earlier line (find p rows)
        → cond (b && c) (Some row) rest ≡ earlier line (cond b (Some row) (find p rows))
    by_tests false c is more = more
    by_tests true true is more = rw is refl
    by_tests true false is more =
        let past : line ≤ row.line = grind (arith, nat_tests) in
        rw is (none_later p line row.line rows past up.1)

-- one row more, at a step of the loop that keeps the first rows
pub first_step : (p : Row → Bool) (rows : List Row) (i : ℕ) (row : Row) (old new : Option Row) → i < length rows → row ≡ get_or rows i row
    → old ≡ find p (take i rows) → new ≡ option_or old (find p (row ∷ [])) → new ≡ find p (take (i + 1) rows)
first_step p rows i row old new lt is was now =
    let more : take (i + 1) rows ≡ take i rows ++ row ∷ [] = take_more rows i row lt ∙ ap (λ (r : Row). take i rows ++ r ∷ []) (sym is) in
    now ∙ ap (λ (o : Option Row). option_or o (find p (row ∷ []))) was
    ∙ sym (ap (find p) more ∙ find-append p (take i rows) (row ∷ []))

-- ---- what rows do with datagrams, by their numbers

sends_is : (number line : ℕ) (row : Row) (what : What)
    → (let r : Row = record row { what = what } in is_sent number line r ≡ (has_number Role.Sent number r && nat_lt row.line line))
sends_is number line row (Sends other sender receiver) = refl
sends_is number line row what = refl

takes_is : (number line : ℕ) (row : Row) (what : What)
    → (let r : Row = record row { what = what } in takes number line r ≡ (has_number Role.Taken number r && nat_lt row.line line))
takes_is number line row (Delivers other true mark) = refl
takes_is number line row (Delivers other false mark) = refl
takes_is number line row what = refl

settles_is : (number : ℕ) (row : Row) (what : What)
    → (let r : Row = record row { what = what } in settles number r ≡ (has_number Role.Taken number r || has_number Role.Lost number r))
settles_is number row (Delivers other true mark) = with_none (other == number)
  where
    with_none : (b : Bool) → b ≡ (b || false)
    with_none true = refl
    with_none false = refl
settles_is number row what = refl

any_found : (p : Row → Bool) (rows : List Row) → list_any p rows ≡ is_some (find p rows)
any_found p [] = refl
any_found p (row ∷ rows) = by_test (p row) (any_found p rows)
  where
    by_test : (b : Bool) → list_any p rows ≡ is_some (find p rows) → (b || list_any p rows) ≡ is_some (cond b (Some row) (find p rows))
    by_test true more = refl
    by_test false more = more

any_of_two : (p q : Row → Bool) (rows : List Row) → list_any (λ (row : Row). p row || q row) rows ≡ (list_any p rows || list_any q rows)
any_of_two p q [] = refl
any_of_two p q (row ∷ rows) =
    ap (λ (b : Bool). (p row || q row) || b) (any_of_two p q rows) ∙ by_tests (p row) (q row) (list_any p rows) (list_any q rows)
  where
    by_tests : (a b c d : Bool) → ((a || b) || (c || d)) ≡ ((a || c) || (b || d))
    by_tests true b c d = refl
    by_tests false true true d = refl
    by_tests false true false d = refl
    by_tests false false c d = refl

pub some_copied : (o : Option (Bor Row)) → is_some (option_copied o) ≡ is_some o
some_copied None = refl
some_copied (Some row) = refl

any_as_found : (p : Row → Bool) (rows : List Row) (first : Option (Bor Row)) → option_copied first ≡ find p rows
    → list_any p rows ≡ is_some first
any_as_found p rows first is = any_found p rows ∙ ap is_some (sym is) ∙ some_copied first

-- the row of a datagram, sent before a line, by the first that sends it
pub find_sent : (number line : ℕ) (rows : List Row) (first : Option Row) → Ascend 0 rows → first ≡ find (has_number Role.Sent number) rows
    → find (is_sent number line) rows ≡ earlier line first
find_sent number line rows first up is =
    ap (λ (p : Row → Bool). find p rows) (fun_ext (λ row. sends_is number line row row.what))
    ∙ find_earlier (has_number Role.Sent number) line 0 rows up ∙ ap (earlier line) (sym is)

-- whether a datagram was taken before a line, by the first row that takes it
pub any_takes : (number line : ℕ) (rows : List Row) (first : Option Row) → Ascend 0 rows → first ≡ find (has_number Role.Taken number) rows
    → list_any (takes number line) rows ≡ is_some (earlier line first)
any_takes number line rows first up is =
    any_found (takes number line) rows
    ∙ ap (λ (p : Row → Bool). is_some (find p rows)) (fun_ext (λ row. takes_is number line row row.what))
    ∙ ap is_some (find_earlier (has_number Role.Taken number) line 0 rows up ∙ ap (earlier line) (sym is))

-- whether a datagram is taken or lost, by the first rows that do it
pub any_settles : (number : ℕ) (rows : List Row) (taken lost : Option (Bor Row)) (is_taken : Bool)
    → option_copied taken ≡ find (has_number Role.Taken number) rows → option_copied lost ≡ find (has_number Role.Lost number) rows
    → is_some taken ≡ is_taken → list_any (settles number) rows ≡ (is_taken || is_some lost)
any_settles number rows taken lost is_taken taken_is lost_is is =
    ap (λ (p : Row → Bool). list_any p rows) (fun_ext (λ row. settles_is number row row.what))
    ∙ any_of_two (has_number Role.Taken number) (has_number Role.Lost number) rows
    ∙ ap₂ (λ (a b : Bool). a || b) (any_as_found (has_number Role.Taken number) rows taken taken_is ∙ is)
    (any_as_found (has_number Role.Lost number) rows lost lost_is)
