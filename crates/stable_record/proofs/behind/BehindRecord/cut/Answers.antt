use Rattle.std.proofs.Common.{◌≡◌, ℕ, ◌+◌, length, take, subst, arith}
use Rattle.stable_record.specs.Held.{HasPut}
use Rattle.stable_record.specs.Floors.{front_of}
use Rattle.stable_record.specs.Behind.{BehindParts, behind, floor_now}
use Rattle.stable_record.proofs.Known.{cut_fronted, cut_known}
use Rattle.stable_record.proofs.behind.BehindRecord.cut.Goals as goal

pub invariant_of-self : goal.invariant_of-self
invariant_of-self g c =
    let inside = c.self.inside in
    let old = g.R.Record.held inside.device in
    let new = g.R.Record.held c.cut.new.self in
    let len : c.in-Some.len ≡ c.args.len + length (front_of inside.floor) = omega (arith, c.in-Some.ensures, c.front_len.ensures.value) in
    cut_fronted inside.floor old new c.cut.result inside.is_known c.args.len c.if-not-self.false c.self.invariant
    (subst (λ (n : ℕ). HasPut (take n old.bytes) old new c.cut.result) len c.cut.ensures.step)

pub returns-in-Some : goal.returns-in-Some
returns-in-Some g c =
    let inside = c.self.inside in
    let old = g.R.Record.held inside.device in
    let new = g.R.Record.held c.cut.new.self in
    let len : c.in-Some.len ≡ c.args.len + length (front_of inside.floor) = omega (arith, c.in-Some.ensures, c.front_len.ensures.value) in
    let left = behind (front_of (floor_now inside.is_known inside.floor new.bytes)) new in
    record {
      step = subst (λ (b : BehindParts). HasPut (take c.args.len b.held.bytes) b.held left c.cut.result) c.self.view_is
          (cut_known inside.floor old new c.cut.result inside.is_known c.args.len c.if-not-self.false c.self.invariant
          (subst (λ (n : ℕ). HasPut (take n old.bytes) old new c.cut.result) len c.cut.ensures.step));
    }
