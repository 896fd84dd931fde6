use Rattle.std.proofs.Common.{◌≡◌, take}
use Rattle.std.specs.List.{flat_map}
use Rattle.picture.specs.Elements.{element_text}
use Rattle.picture.proofs.writing.text_of.Given as goal

abbrev pub invariant-loop-element : goal.invariant-loop-element
invariant-loop-element l = l.out.items ≡ flat_map (element_text l.address) (take l.element-index l.elements)
