use Rattle.std.proofs.Common.{◌≡◌, ◌++◌, ◌∙◌, List, ℕ, ap}
use Rattle.picture.specs.Elements.{size_text, title_text, view_box}
use Rattle.picture.specs.declared.style.TheConstants.{FURNITURE}
use Rattle.picture.proofs.Joins.{four}
use Rattle.picture.proofs.writing.put_head.Goals as goal

pub returns-clause-ok : goal.returns-clause-ok
returns-clause-ok c =
    let rest : c.extend_from_slice.new.self.items ≡ c.put_title.new.out.items ++ FURNITURE.now =
    c.in_ok-extend_from_slice.ensures.items ∙ ap (λ (l : List ℕ). c.put_title.new.out.items ++ l) c.as_bytes.ensures.value in
    four c.args.out.now.items (size_text c.args.width c.args.height) (view_box c.args.width c.args.height) (title_text c.args.address.now)
    FURNITURE.now c.put_size.new.out.items c.put_view_box.new.out.items c.put_title.new.out.items c.extend_from_slice.new.self.items
    c.in_ok-put_size.ensures.ok c.in_ok-put_view_box.ensures.ok c.in_ok-put_title.ensures.ok rest
