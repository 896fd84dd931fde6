use Rattle.std.proofs.Common.{ℕ, List, subst, Option}
use Rattle.std.specs.Prelude.{MatchOption}
use Rattle.std.specs.Borrow.{Bor}
use Rattle.stable_record.specs.Grammar.{IsTail}
use Rattle.stable_record.specs.Views.{HasBody}
use Rattle.stable_record.proofs.frames.take_frame.Goals as goal

-- what was taken of bytes
abbrev found : List ℕ → Option (Bor (List ℕ) × Bor (List ℕ)) → Type 0
found bytes x = MatchOption x (IsTail bytes) (λ y. HasBody bytes y.0.now y.1.now)

pub new-requires : goal.new-requires
new-requires c =
    let has = subst (found c.args.bytes.now) c.in-Ok-Some.field-0-is c.in-Ok-Some.ensures.ok in
    (has.framed c.in-Ok.kind c.in-Ok.ensures).valid.valid
