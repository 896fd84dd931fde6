-- A run has a picture.
use Rattle.std.proofs.Common.{ℕ, List, refl}
use Rattle.std.specs.List.{flat_map}
use Rattle.cluster_run.specs.Runs.{IsRun}
use Rattle.picture.specs.Elements.{element_text}
use Rattle.picture.specs.Pictures.{IsPictureOf, elements_of}
use Rattle.picture.specs.Places.{address_of}
use Rattle.run_traces.specs.Numbers.{HasNumbers}
use Rattle.run_traces.proofs.Reading.{reads}

pub drawn : (bytes output : List ℕ) (run : IsRun bytes output) → HasNumbers run → (path : List ℕ)
    → (text : List ℕ) × IsPictureOf path output text
drawn bytes output run numbers path = (
  flat_map (element_text (address_of path)) (elements_of output run.is.trace),
  record { trace = run.is.trace; spelled = reads bytes output run numbers; text_is = refl },
)
