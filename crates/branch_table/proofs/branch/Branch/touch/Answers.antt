use Rattle.std.proofs.Common.{◌≡◌, ◌||◌, true, List, sym, ap, subst}
use Rattle.std.specs.Prelude.{length, nat_lt}
use Rattle.xid.specs.Limits.{most_touched}
use Rattle.stable_record.specs.declared.fact.Touched.{Touched}
use Rattle.protocol.specs.Managers.{has_key}
use Rattle.branch_table.proofs.Uses.{are_keys_after}
use Rattle.branch_table.proofs.branch.Branch.touch.Goals as goal

pub invariant_of-self : goal.invariant_of-self
invariant_of-self c =
    let key = c.args.key.now in
    let room = subst (λ (keys : List Touched). (has_key key keys || nat_lt (length keys) most_touched) ≡ true)
    (ap (λ branch. branch.keys) (sym c.self.view_is)) c.requires.room in
    are_keys_after c.touch_key.result c.self.inside.keys.items c.touch_key.new.keys.items key c.args.act c.requires.key c.requires.act room
    c.self.invariant c.touch_key.ensures.ok c.touch_key.ensures.err
