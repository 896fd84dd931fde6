use Rattle.std.proofs.Common.{◌≡◌, ◌∙◌, ◌+◌, ◌<◌, ◌^◌, ℕ, List, true, false, Some, None, refl, sym, ap, subst, rules}
use Rattle.std.specs.Map.{lookup}
use Rattle.std.specs.Option.{unwrap_or}
use Rattle.std.specs.Str.{bytes_eq}
use Rattle.stable_record.specs.declared.fact.Act.{Act}
use Rattle.branch_table.specs.Parts.{AddsHolders, hold_at, no_place, place_and, place_at, table_of}
use Rattle.branch_table.specs.TableStates.{are_rows}
use Rattle.branch_table.specs.declared.places.Place.{Place}
use Rattle.branch_table.proofs.PlaceTable.{adds, first_and, held_first, known, place_is, rows_set, set_by, with_hold}
use Rattle.branch_table.proofs.places.Places.add.Goals as goal

pub and-place-requires-clause-touched : goal.and-place-requires-clause-touched
and-place-requires-clause-touched c =
    let key = c.args.key.now in
    let same = ap (λ o. (unwrap_or o no_place).hold) c.in-Some.ensures.value
    ∙ sym (ap (λ p. p.hold) (place_is (λ k. k.items) key c.self.inside.known.entries)) ∙ ap (λ ps. hold_at ps key) c.self.view_is in
    subst (λ h. h.touched_by + c.args.more.touched_by < 2 ^ 64) (sym same) (c.requires.fits true)

pub and-place-requires-clause-written : goal.and-place-requires-clause-written
and-place-requires-clause-written c =
    let key = c.args.key.now in
    let same = ap (λ o. (unwrap_or o no_place).hold) c.in-Some.ensures.value
    ∙ sym (ap (λ p. p.hold) (place_is (λ k. k.items) key c.self.inside.known.entries)) ∙ ap (λ ps. hold_at ps key) c.self.view_is in
    subst (λ h. h.written_by + c.args.more.written_by < 2 ^ 64) (sym same) (c.requires.fits false)

pub returns-in-Some-clause-holds : goal.returns-in-Some-clause-holds
returns-in-Some-clause-holds c =
    let old = c.self.inside.known.entries in
    let key = c.args.key.now in
    let w : Place = record { value = c.in-Some.place.now.value; hold = c.and-place.result } in
    let new = (c.get_mut.follows.lender w).entries in
    let updates = (c.get_mut.follows.holds w).3 (search rules) in
    let set = set_by (λ k. k.items) old new key (Some c.in-Some.place.now) (Some w) (λ p. place_and p c.args.more) updates.3 updates.1
    c.in-Some.ensures.value (with_hold c.in-Some.place.now c.and-place.result c.args.more c.and-place.ensures) in
    subst (λ ps. AddsHolders ps (known (λ k. k.items) new) key c.args.more) c.self.view_is
    (adds (known (λ k. k.items) old) (known (λ k. k.items) new) key c.args.more set)

pub returns-in-Some-clause-rows : goal.returns-in-Some-clause-rows
returns-in-Some-clause-rows c =
    let old = c.self.inside.known.entries in
    let key = c.args.key.now in
    let w : Place = record { value = c.in-Some.place.now.value; hold = c.and-place.result } in
    let new = (c.get_mut.follows.lender w).entries in
    let updates = (c.get_mut.follows.holds w).3 (search rules) in
    let set = set_by (λ k. k.items) old new key (Some c.in-Some.place.now) (Some w) (λ p. place_and p c.args.more) updates.3 updates.1
    c.in-Some.ensures.value (with_hold c.in-Some.place.now c.and-place.result c.args.more c.and-place.ensures) in
    rows_set (known (λ k. k.items) old) (known (λ k. k.items) new) key Act.Read
    (place_and (place_at (known (λ k. k.items) old) key) c.args.more) set refl ∙ ap table_of c.self.view_is

pub invariant_of-self : goal.invariant_of-self
invariant_of-self c =
    let old = c.self.inside.known.entries in
    let key = c.args.key.now in
    let w : Place = record { value = c.in-Some.place.now.value; hold = c.and-place.result } in
    let new = (c.get_mut.follows.lender w).entries in
    let updates = (c.get_mut.follows.holds w).3 (search rules) in
    let set = set_by (λ k. k.items) old new key (Some c.in-Some.place.now) (Some w) (λ p. place_and p c.args.more) updates.3 updates.1
    c.in-Some.ensures.value (with_hold c.in-Some.place.now c.and-place.result c.args.more c.and-place.ensures) in
    ap are_rows (rows_set (known (λ k. k.items) old) (known (λ k. k.items) new) key Act.Read
    (place_and (place_at (known (λ k. k.items) old) key) c.args.more) set refl) ∙ c.self.invariant

pub returns-clause-holds : goal.returns-clause-holds
returns-clause-holds c =
    let same = c.get_mut.follows.holds-at-none in
    let old = c.get_mut.follows.lender-at-none.entries in
    let key = c.in_ok-key.key.items in
    let new = c.insert.new.self.entries in
    let updates = c.in_ok-insert.ensures.updates in
    let view = ap (λ m. known (λ k. k.items) m.entries) same in
    let none = subst (λ m. None ≡ lookup (λ k. bytes_eq key k.items) m.entries) (sym same)
    (subst (λ (q : List ℕ). None ≡ lookup (λ k. bytes_eq q k.items) c.self.inside.known.entries) (sym c.in_ok-key.ensures.items)
    c.in_default.ensures.value) in
    let set = set_by (λ k. k.items) old new key None (Some (held_first c.args.more)) (λ p. place_and p c.args.more)
    updates.3 updates.1 none (first_and c.args.more) in
    subst (λ ps. AddsHolders ps (known (λ k. k.items) new) c.args.key.now c.args.more) (view ∙ c.self.view_is)
    (subst (λ (q : List ℕ). AddsHolders (known (λ k. k.items) old) (known (λ k. k.items) new) q c.args.more) c.in_ok-key.ensures.items
    (adds (known (λ k. k.items) old) (known (λ k. k.items) new) key c.args.more set))

pub returns-clause-rows : goal.returns-clause-rows
returns-clause-rows c =
    let same = c.get_mut.follows.holds-at-none in
    let old = c.get_mut.follows.lender-at-none.entries in
    let key = c.in_ok-key.key.items in
    let new = c.insert.new.self.entries in
    let updates = c.in_ok-insert.ensures.updates in
    let view = ap (λ m. known (λ k. k.items) m.entries) same in
    let none = subst (λ m. None ≡ lookup (λ k. bytes_eq key k.items) m.entries) (sym same)
    (subst (λ (q : List ℕ). None ≡ lookup (λ k. bytes_eq q k.items) c.self.inside.known.entries) (sym c.in_ok-key.ensures.items)
    c.in_default.ensures.value) in
    let set = set_by (λ k. k.items) old new key None (Some (held_first c.args.more)) (λ p. place_and p c.args.more)
    updates.3 updates.1 none (first_and c.args.more) in
    rows_set (known (λ k. k.items) old) (known (λ k. k.items) new) key Act.Read
    (place_and (place_at (known (λ k. k.items) old) key) c.args.more) set refl ∙ ap table_of (view ∙ c.self.view_is)

pub invariant_of-self-2 : goal.invariant_of-self-2
invariant_of-self-2 c =
    let same = c.get_mut.follows.holds-at-none in
    let old = c.get_mut.follows.lender-at-none.entries in
    let key = c.in_ok-key.key.items in
    let new = c.insert.new.self.entries in
    let updates = c.in_ok-insert.ensures.updates in
    let view = ap (λ m. known (λ k. k.items) m.entries) same in
    let none = subst (λ m. None ≡ lookup (λ k. bytes_eq key k.items) m.entries) (sym same)
    (subst (λ (q : List ℕ). None ≡ lookup (λ k. bytes_eq q k.items) c.self.inside.known.entries) (sym c.in_ok-key.ensures.items)
    c.in_default.ensures.value) in
    let set = set_by (λ k. k.items) old new key None (Some (held_first c.args.more)) (λ p. place_and p c.args.more)
    updates.3 updates.1 none (first_and c.args.more) in
    ap are_rows (rows_set (known (λ k. k.items) old) (known (λ k. k.items) new) key Act.Read
    (place_and (place_at (known (λ k. k.items) old) key) c.args.more) set refl)
    ∙ ap (λ ps. are_rows (table_of ps)) view ∙ c.self.invariant
