use Rattle.std.proofs.Common.{◌∙◌, [], ◌∷◌, ◌++◌, sym, ap, subst}
use Rattle.std.specs.BTreeMap.{insert_entry}
use Rattle.std.specs.Cmp.Lexicographic.{slice_cmp}
use Rattle.std.specs.Ordering.{nat_cmp}
use Rattle.protocol.specs.Basics.{Touched}
use Rattle.audit.specs.Books.{ArePlaces}
use Rattle.audit.proofs.PlaceLemmas.{places_after}
use Rattle.audit.proofs.stretch.Stretch.write.Goals as goal

pub invariant_of-self-2 : goal.invariant_of-self-2
invariant_of-self-2 c =
    let old = c.self.inside in
    let t : Touched = record { key = c.in_ok-key.key; act = c.args.act } in
    let same = c.in_ok-copy.ensures.items ∙ sym c.in_ok-key.ensures.ok in
    subst (λ ws. ArePlaces (λ key. key.items) c.insert.new.self.entries ws)
    (sym (c.push_reserved.ensures.items ∙ ap (λ ws. ws ++ t ∷ []) c.reserve.ensures.items))
    (subst (λ es. ArePlaces (λ key. key.items) es (old.writes.items ++ t ∷ []))
    (sym (c.in_ok-insert.ensures.entries
    ∙ ap (insert_entry (λ x y. slice_cmp nat_cmp x.items y.items) old.places.entries c.in_ok-copy.copy)
    (c.len.ensures ∙ c.reserve.ensures.len ∙ c.self.inside.writes.ok.0)))
    (places_after (λ key. key.items) old.places.entries old.writes.items c.in_ok-copy.copy t same c.self.invariant))
