-- A text is that of the picture that its parts are of: for the last step of what draws a whole picture.
use Rattle.std.proofs.Common.{◌≡◌, ◌∙◌, List, ℕ, ap₂}
use Rattle.std.specs.List.{flat_map}
use Rattle.net_script.specs.declared.values.Trace.{Trace}
use Rattle.net_script.specs.TraceReading.{SpellsTrace}
use Rattle.picture.specs.declared.elements.Element.{Element}
use Rattle.picture.specs.Elements.{element_text}
use Rattle.picture.specs.Pictures.{IsPictureOf, elements_of}
use Rattle.picture.specs.Places.{address_of}

pub made : (path bytes text address : List ℕ) (t : Trace) (elements : List Element) → SpellsTrace bytes t
    → text ≡ flat_map (element_text address) elements → address ≡ address_of path → elements ≡ elements_of bytes t
    → IsPictureOf path bytes text
made path bytes text address t elements spelled written address_is elements_are = record {
  trace = t;
  spelled = spelled;
  text_is = written ∙ ap₂ (λ (a : List ℕ) (es : List Element). flat_map (element_text a) es) address_is elements_are;
}
