use Rattle.std.proofs.Common.{◌∙◌, Some, None, refl, sym, ap, subst, rules}
use Rattle.std.specs.Option.{unwrap_or}
use Rattle.protocol.specs.Tables.{rows_after}
use Rattle.branch_table.specs.Parts.{CanLeave, SetsPlace, TakesHolders, no_place, place_at, place_left, table_of}
use Rattle.branch_table.specs.TableStates.{are_rows}
use Rattle.branch_table.proofs.PlaceTable.{known, left_none, place_is, rows_set, set_by, sets, sets_same, sets_twice, takes}
use Rattle.branch_table.proofs.RowLimits.{after_fit}
use Rattle.branch_table.proofs.places.Places.leave.Goals as goal

pub returns-in_default : goal.returns-in_default
returns-in_default c =
    let old = c.self.inside.known.entries in
    let key = c.args.key.now in
    let act = c.args.act in
    let fewer = c.args.fewer in
    let places = c.args.self.now in
    let view = ap (λ m. known (λ k. k.items) m.entries) c.get_mut.follows.holds-at-none ∙ c.self.view_is in
    let none = ap (λ ps. place_at ps key) (sym c.self.view_is) ∙ place_is (λ k. k.items) key old
    ∙ ap (λ o. unwrap_or o no_place) (sym c.in_default.ensures.value) in
    let left = place_left (place_at places key) act fewer in
    let set = sets_same places key left (left_none places key act fewer c.requires none) in
    record {
      holds = subst (λ ps. TakesHolders places ps key fewer) (sym view) (takes places places key act fewer set);
      rows = ap table_of view ∙ rows_set places places key act left set refl;
    }

pub invariant_of-self-then-not-is_empty : goal.invariant_of-self-then-not-is_empty
invariant_of-self-then-not-is_empty c =
    let old = c.self.inside.known.entries in
    let key = c.args.key.now in
    let act = c.args.act in
    let fewer = c.args.fewer in
    let w = c.leave.new.self in
    let mid = (c.get_mut.follows.lender w).entries in
    let updates = (c.get_mut.follows.holds w).3 (search rules) in
    let set = set_by (λ k. k.items) old mid key (Some c.in-Some.place.now) (Some w) (λ p. place_left p act fewer) updates.3 updates.1
    c.in-Some.ensures.value c.leave.ensures in
    ap are_rows (rows_set (known (λ k. k.items) old) (known (λ k. k.items) mid) key act
    (place_left (place_at (known (λ k. k.items) old) key) act fewer) set refl)
    ∙ after_fit (table_of (known (λ k. k.items) old)) key act
    (λ value e. (subst (CanLeave c.args.self.now key) e c.requires).0) c.self.invariant

pub returns-then-not-is_empty : goal.returns-then-not-is_empty
returns-then-not-is_empty c =
    let old = c.self.inside.known.entries in
    let key = c.args.key.now in
    let act = c.args.act in
    let fewer = c.args.fewer in
    let w = c.leave.new.self in
    let mid = (c.get_mut.follows.lender w).entries in
    let updates = (c.get_mut.follows.holds w).3 (search rules) in
    let set = set_by (λ k. k.items) old mid key (Some c.in-Some.place.now) (Some w) (λ p. place_left p act fewer) updates.3 updates.1
    c.in-Some.ensures.value c.leave.ensures in
    record {
      holds = subst (λ ps. TakesHolders ps (known (λ k. k.items) mid) key fewer) c.self.view_is
          (takes (known (λ k. k.items) old) (known (λ k. k.items) mid) key act fewer set);
      rows = rows_set (known (λ k. k.items) old) (known (λ k. k.items) mid) key act
          (place_left (place_at (known (λ k. k.items) old) key) act fewer) set refl
          ∙ ap (λ ps. rows_after (table_of ps) key act) c.self.view_is;
    }

pub invariant_of-self-2 : goal.invariant_of-self-2
invariant_of-self-2 c =
    let old = c.self.inside.known.entries in
    let key = c.args.key.now in
    let act = c.args.act in
    let fewer = c.args.fewer in
    let w = c.leave.new.self in
    let mid = (c.get_mut.follows.lender w).entries in
    let updates = (c.get_mut.follows.holds w).3 (search rules) in
    let set = set_by (λ k. k.items) old mid key (Some c.in-Some.place.now) (Some w) (λ p. place_left p act fewer) updates.3 updates.1
    c.in-Some.ensures.value c.leave.ensures in
    let new = c.swap_remove.new.self.entries in
    let removed = c.swap_remove.ensures.updates in
    let was = ap (λ o. unwrap_or o no_place) c.in-Some.ensures.value ∙ sym (place_is (λ k. k.items) key old) in
    let left = sym (c.is_empty.ensures c.if-not-is_empty.false) ∙ c.leave.ensures ∙ ap (λ p. place_left p act fewer) was in
    let gone = subst (SetsPlace (known (λ k. k.items) old) (known (λ k. k.items) new) key) left
    (sets_twice (known (λ k. k.items) old) (known (λ k. k.items) mid) (known (λ k. k.items) new) key
    (place_left (place_at (known (λ k. k.items) old) key) act fewer) no_place set
    (sets (λ k. k.items) mid new key None removed.3 removed.1)) in
    ap are_rows (rows_set (known (λ k. k.items) old) (known (λ k. k.items) new) key act
    (place_left (place_at (known (λ k. k.items) old) key) act fewer) gone refl)
    ∙ after_fit (table_of (known (λ k. k.items) old)) key act
    (λ value e. (subst (CanLeave c.args.self.now key) e c.requires).0) c.self.invariant

pub returns : goal.returns
returns c =
    let old = c.self.inside.known.entries in
    let key = c.args.key.now in
    let act = c.args.act in
    let fewer = c.args.fewer in
    let w = c.leave.new.self in
    let mid = (c.get_mut.follows.lender w).entries in
    let updates = (c.get_mut.follows.holds w).3 (search rules) in
    let set = set_by (λ k. k.items) old mid key (Some c.in-Some.place.now) (Some w) (λ p. place_left p act fewer) updates.3 updates.1
    c.in-Some.ensures.value c.leave.ensures in
    let new = c.swap_remove.new.self.entries in
    let removed = c.swap_remove.ensures.updates in
    let was = ap (λ o. unwrap_or o no_place) c.in-Some.ensures.value ∙ sym (place_is (λ k. k.items) key old) in
    let left = sym (c.is_empty.ensures c.if-not-is_empty.false) ∙ c.leave.ensures ∙ ap (λ p. place_left p act fewer) was in
    let gone = subst (SetsPlace (known (λ k. k.items) old) (known (λ k. k.items) new) key) left
    (sets_twice (known (λ k. k.items) old) (known (λ k. k.items) mid) (known (λ k. k.items) new) key
    (place_left (place_at (known (λ k. k.items) old) key) act fewer) no_place set
    (sets (λ k. k.items) mid new key None removed.3 removed.1)) in
    record {
      holds = subst (λ ps. TakesHolders ps (known (λ k. k.items) new) key fewer) c.self.view_is
          (takes (known (λ k. k.items) old) (known (λ k. k.items) new) key act fewer gone);
      rows = rows_set (known (λ k. k.items) old) (known (λ k. k.items) new) key act
          (place_left (place_at (known (λ k. k.items) old) key) act fewer) gone refl
          ∙ ap (λ ps. rows_after (table_of ps) key act) c.self.view_is;
    }
