use Rattle.std.proofs.Common.{◌≡◌, ℕ, take}
use Rattle.std.specs.Prelude.{fold}
use Rattle.audit.specs.Floors.{or_newer}
use Rattle.audit.specs.FloorBooks.{notice_at}
use Rattle.audit.proofs.floors.Floors.take_notices.Given as goal

abbrev pub invariant-loop-told : goal.invariant-loop-told
invariant-loop-told l = record {
  notices : (number : ℕ) → notice_at l.self number ≡ fold (or_newer number) (notice_at l.fn.self number) (take l.told-index l.all);
  managers : l.self.managers ≡ l.fn.self.managers;
  floors : l.self.floors ≡ l.fn.self.floors;
  told : l.self.told ≡ l.fn.self.told;
  before : l.self.before ≡ l.fn.self.before;
}
