use Rattle.std.specs.Prelude.{OnOk}
use Rattle.std.specs.List.{insert, position}
use Rattle.std.proofs.Common.{◌≡◌, ◌∙◌, None, ℕ, List, length, set, sym, ap, subst}
use Rattle.std.proofs.lemmas.List.{get_or_default}
use Rattle.stable_record.specs.declared.fact.Touched.{Touched}
use Rattle.branch_table.proofs.Positions.{none_passes}
use Rattle.branch_table.proofs.KeyPlaces.{is_up_to, key_placed, set_at_key, insert_before, insert_last}
use Rattle.branch_table.proofs.keys.touch_key.Goals as goal

pub returns-in_default-clause-ok : goal.returns-in_default-clause-ok
returns-in_default-clause-ok c =
    let keys = c.args.keys.now.items in
    let key = c.args.key.now in
    let search = ap (position (is_up_to key)) (sym c.deref.ensures.value) in
    let none : position (is_up_to key) keys ≡ None = search ∙ sym c.in_default.ensures in
    let end : c.len-end.result ≡ length keys = c.len-end.ensures ∙ (sym c.deref.ensures.len ∙ ap length c.deref.ensures.value) in
    subst (λ (after : List Touched). OnOk c.insert_at.result (c.insert_at.new.keys.items ≡ after))
    (ap (λ (n : ℕ). insert keys n (record { key = key; act = c.args.act })) end
    ∙ insert_last keys key c.args.act (λ k t less. none_passes (is_up_to key) keys none k t less)) c.insert_at.ensures.ok

pub returns-then-not-is_of_key-clause-ok : goal.returns-then-not-is_of_key-clause-ok
returns-then-not-is_of_key-clause-ok c =
    let keys = c.args.keys.now.items in
    let key = c.args.key.now in
    let t = c.index.result.now in
    let search = ap (position (is_up_to key)) (sym c.deref.ensures.value) in
    let place = key_placed keys key c.in-Some.at t (search ∙ sym c.in-Some.ensures) c.index.ensures in
    subst (λ (after : List Touched).
    OnOk c.insert_at-then-not-is_of_key.result (c.insert_at-then-not-is_of_key.new.keys.items ≡ after))
    (insert_before keys key c.args.act c.in-Some.at t place (sym c.if-not-is_of_key.ensures)) c.insert_at-then-not-is_of_key.ensures.ok

pub returns-clause-ok : goal.returns-clause-ok
returns-clause-ok c =
    let keys = c.args.keys.now.items in
    let key = c.args.key.now in
    let t = c.index_mut-touched.result.now in
    let search = ap (position (is_up_to key)) (sym c.deref.ensures.value) in
    let place = key_placed keys key c.in-Some.at t (search ∙ sym c.in-Some.ensures) c.index_mut-touched.ensures.value in
    let same : c.index.result.now ≡ t =
    c.index.ensures ∙ (get_or_default keys c.in-Some.at c.index.result.now t place.within ∙ sym c.index_mut-touched.ensures.value) in
    ap (set keys c.in-Some.at) c.note.ensures
    ∙ set_at_key keys key c.args.act c.in-Some.at t place (rw (← same) (sym c.if-not-is_of_key.ensures))
