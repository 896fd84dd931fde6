-- Ballots above 0 belong to leaders, ballot 0 of an instance to its resource manager.
-- Gray and Lamport, "Consensus on Transaction Commit", ACM TODS 31(1), 2006, section 4.1.
use Rattle.std.specs.Prelude.{◌≡◌, ℕ, ◌+◌, ◌-◌, ◌%◌, ◌<◌, ◌≤◌}

-- the leader that owns a ballot above 0: they take turns, and leader 0 owns ballot 1
abbrev pub owner_of : (leaders ballot : ℕ) → ℕ
owner_of leaders ballot = (ballot - 1) % leaders

-- a ballot is above 0 and the leader's own
abbrev pub IsOwned : (leaders leader ballot : ℕ) → Type 0
IsOwned leaders leader ballot = (0 < ballot) × (owner_of leaders ballot ≡ leader)

-- a ballot is the least of the leader's that is greater than the last
pub record IsNextOwned (leaders leader last ballot : ℕ) : Type 0 where
  pub owned : IsOwned leaders leader ballot
  pub greater : last < ballot
  pub least : (b : ℕ) → IsOwned leaders leader b → last < b → ballot ≤ b

-- the least of the leader's ballots that is greater than the last, as a number
abbrev pub next_of : (leaders leader last : ℕ) → ℕ
next_of leaders leader last = last + ((leader + leaders - last % leaders) % leaders + 1)
