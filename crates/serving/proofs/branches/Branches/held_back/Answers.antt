use Rattle.std.proofs.Common.{◌≡◌, false, Some, sym, subst, arith}
use Rattle.std.proofs.lemmas.Grind.{common_steps}
use Rattle.xid.specs.Names.{XidParts}
use Rattle.xid.specs.Places.{Place, is_lower, is_xid_below}
use Rattle.serving.proofs.FloorLemmas.{entry_place, lowest_branch, lowest_floor, lowest_known, lowest_of}
use Rattle.serving.proofs.branches.Branches.held_back.Goals as goal

pub returns : goal.returns
returns c =
    let entries = c.args.self.now.named.entries in
    let is : c.loop-xid.lowest ≡ lowest_of entry_place c.args.floor entries =
    grind (arith, common_steps, c.loop-xid.invariant, c.in-None.ensures.steps) in
    record {
      wanted = subst (λ (low : Place). is_lower (Some c.args.floor) (Some low) ≡ false) (sym is)
          (lowest_floor entry_place c.args.floor entries);
      begun = λ (x : XidParts) known. subst (λ (low : Place). is_xid_below (Some low) x ≡ false) (sym is)
          (lowest_known c.args.floor entries x known);
      is_one = lowest_branch c.args.self.now c.args.floor c.loop-xid.lowest is;
    }
