-- Majorities of acceptors.
-- Gray and Lamport, "Consensus on Transaction Commit", ACM TODS 31(1), 2006, section 4.1.
use Rattle.std.specs.Prelude.{ℕ, zero, suc, ◌+◌, ◌*◌, ◌<◌, nat_lt, Bool, IsTrue, false, if◌then◌else◌, List}
use Rattle.std.specs.List.{slice_index_or}

-- whether a quorum, seen as a yes or no for each acceptor, has one; past the list it has none
abbrev pub has : List Bool → ℕ → Bool
has members a = slice_index_or members a false

-- how many numbers below n pass
abbrev pub count : ℕ → (ℕ → Bool) → ℕ
count zero q = 0
count (suc n) q = (if q n then 1 else 0) + count n q

-- more than half of the acceptors below n pass
abbrev pub IsMajority : ℕ → (ℕ → Bool) → Type 0
IsMajority n q = n < 2 * count n q

-- whether more than half of the acceptors below n pass
abbrev pub is_majority : ℕ → (ℕ → Bool) → Bool
is_majority n q = nat_lt n (2 * count n q)

-- one of the acceptors below n passes both tests
pub record IsShared (n : ℕ) (p q : ℕ → Bool) : Type 0 where
  pub member : ℕ
  pub below : member < n
  pub of_first : IsTrue (p member)
  pub of_second : IsTrue (q member)
