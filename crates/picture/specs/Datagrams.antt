-- The first rows in which datagrams are sent, taken and lost.
use Rattle.std.specs.Prelude.{◌≡◌, ℕ, Bool, true, false, ◌==◌, nat_lt, if◌then◌else◌, List, find, Option, Some, None}
use Rattle.std.specs.BTreeMap.{BTreeMap, get}
use Rattle.std.specs.Borrow.{Bor}
use Rattle.std.specs.Option.{option_copied, option_map_or}
use Rattle.std.specs.Ordering.{nat_cmp}
use Rattle.picture.specs.declared.datagrams.Role.{Role}
use Rattle.picture.specs.declared.rows.Row.{Row}
use Rattle.picture.specs.declared.rows.What.{What}
use Rattle.picture.specs.declared.rows.What.TheVariants.{Delivers, Loses, Sends}
use Rattle.picture.specs.Order.{Ascend}

-- the number of the datagram that a row sends, takes or loses
abbrev pub number_in : Role → Row → Option ℕ
number_in role row = told role row.what where
  told : Role → What → Option ℕ
  told Role.Sent (Sends number sender receiver) = Some number
  told Role.Taken (Delivers number true mark) = Some number
  told Role.Lost (Loses number) = Some number
  told role what = None

-- whether a row sends, takes or loses the datagram of this number
abbrev pub has_number : Role → ℕ → Row → Bool
has_number role number row = option_map_or (λ other. other == number) (number_in role row) false

-- a row, if there is one and it is before a line
abbrev pub earlier : ℕ → Option Row → Option Row
earlier line None = None
earlier line (Some row) = if nat_lt row.line line then Some row else None

-- a map has the first row of each datagram that does this with it
abbrev pub AreFirst : Role → List Row → BTreeMap ℕ (Bor Row) → Type 0
AreFirst role rows firsts = (number : ℕ) → option_copied (get nat_cmp firsts number) ≡ find (has_number role number) rows

-- rows in the order of their lines, and the first that send, take and lose each datagram
pub record AreIndexed (rows : List Row) (sent taken lost : BTreeMap ℕ (Bor Row)) : Type 0 where
  pub ascend : Ascend 0 rows
  pub sent_are : AreFirst Role.Sent rows sent
  pub taken_are : AreFirst Role.Taken rows taken
  pub lost_are : AreFirst Role.Lost rows lost
