-- When a record is made shorter.
use Rattle.std.specs.Prelude.{◌≡◌, ℕ, ◌*◌, ◌<◌, ◌≤◌}
use Rattle.serving.specs.declared.shortening.TheConstants.{LEAST_RECORD}

-- a record of so many bytes is to be made shorter, if it had so many when it last was
abbrev pub IsDue : (mark len : ℕ) → Type 0
IsDue mark len = (LEAST_RECORD ≤ len) × (2 * mark ≤ len)

-- it was made shorter, from so many bytes to so many: those count from now on, or where that gained less than a fifth those before
abbrev pub IsMarked : (before after mark : ℕ) → Type 0
IsMarked before after mark = (4 * before < 5 * after → mark ≡ before) × (5 * after ≤ 4 * before → mark ≡ after)
