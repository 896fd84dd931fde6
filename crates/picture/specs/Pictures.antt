-- Whole pictures.
use Rattle.std.specs.Prelude.{◌≡◌, ℕ, ◌+◌, ◌-◌, ◌^◌, Bool, true, false, ◌==◌, min, if◌then◌else◌, List, [], ◌∷◌, ◌++◌, length, count_by}
use Rattle.std.specs.List.{flat_map, list_any}
use Rattle.net_script.specs.declared.values.Trace.{Trace}
use Rattle.net_script.specs.declared.values.Entry.{Entry}
use Rattle.net_script.specs.Lines.{lines}
use Rattle.net_script.specs.TraceReading.{SpellsTrace}
use Rattle.picture.specs.declared.elements.Lettering.{Lettering}
use Rattle.picture.specs.declared.elements.Element.{Element}
use Rattle.picture.specs.declared.elements.Element.TheVariants.{Head, Words, End}
use Rattle.picture.specs.declared.pictures.TheConstants.{SERVED}
use Rattle.picture.specs.declared.rows.Row.{Row}
use Rattle.picture.specs.Elements.{element_text}
use Rattle.picture.specs.Places.{address_of, picture_width, row_y}
use Rattle.picture.specs.Rows.{are_several, line_at, rows_of}
use Rattle.picture.specs.Drawing.{point, change_elements, lines_elements, linked_elements, pages_elements, stroke_elements}

-- whether a node took something from a socket
abbrev pub is_served : Entry → Bool
is_served (Entry.Step step) = false
is_served (Entry.Serve node answer now sent) = true

-- whether a trace is of a run over sockets in which something was taken
abbrev pub tells_of_sockets : List Entry → Bool
tells_of_sockets entries = list_any is_served entries

-- what the picture of a run over sockets says
abbrev pub served_note : List Entry → List Element
served_note entries =
    if tells_of_sockets entries then
    Words Lettering.Note (point 42 106)
    SERVED.now ∷ []
    else []

-- how many lines a text has, but at most 2^32-1
abbrev pub line_count : List ℕ → ℕ
line_count bytes = min (count_by (λ byte. byte == 10) bytes) (2 ^ 32 - 1)

-- the rows of a trace: the first is after the line of the cluster and those of the tables
abbrev pub trace_rows : Trace → List Row
trace_rows t = rows_of (line_at 2 (length t.tables)) t.entries

-- what stands behind the events, in a picture of so many lines
abbrev pub backdrop_elements : ℕ → Trace → List Element
backdrop_elements count t =
    served_note t.entries ++ pages_elements t.sizes count (trace_rows t) ++ flat_map (change_elements count) (trace_rows t)

-- the lines of the trace, whose text this is, and the events
abbrev pub front_elements : List ℕ → Trace → List Element
front_elements bytes t =
    lines_elements 1 (lines bytes) ++ flat_map (stroke_elements t.sizes (trace_rows t)) (trace_rows t)
    ++ flat_map (linked_elements t.sizes (trace_rows t)) (trace_rows t)

-- the parts of the picture of a trace, whose text this is
abbrev pub elements_of : List ℕ → Trace → List Element
elements_of bytes t =
    Head (picture_width t.sizes (are_several t.entries)) (row_y (line_count bytes) + 30) ∷ backdrop_elements (line_count bytes) t ++
    front_elements bytes t
    ++ End ∷ []

-- a text is that of the picture of the trace that some bytes spell, with links to the file of a path
pub record IsPictureOf (path bytes text : List ℕ) : Type 0 where
  pub trace : Trace
  pub spelled : SpellsTrace bytes trace
  pub text_is : text ≡ flat_map (element_text (address_of path)) (elements_of bytes trace)
