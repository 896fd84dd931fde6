use Rattle.std.proofs.Common.{◌∙◌, List, ℕ, ◌++◌, ap, append_assoc}
use Rattle.stable_record.specs.Floors.{floor_frame}
use Rattle.stable_record.proofs.Floors.{all_fit}
use Rattle.stable_record.proofs.behind.put_framed.Goals as goal

pub returns-clause-put : goal.returns-clause-put
returns-clause-put c =
    c.in_ok-extend_from_slice.ensures.items ∙ ap (λ (xs : List ℕ). xs ++ c.args.bytes.now) c.in_ok-put_floor.ensures.put
    ∙ append_assoc c.args.out.now.items (floor_frame c.args.floor.now) c.args.bytes.now

pub returns-clause-are_bytes : goal.returns-clause-are_bytes
returns-clause-are_bytes c = all_fit c.extend_from_slice.new.self.items c.type_inv.out
