-- What a picture is made of.
use Rattle.std.specs.Prelude.{ℕ, ◌+◌, ◌-◌, ◌*◌, ◌/◌, ◌^◌, Bool, true, false, ◌==◌, ◌&&◌, not, nat_lt, nat_le, min, List, [], ◌∷◌}
use Rattle.std.specs.Prelude.{◌++◌, if◌then◌else◌}
use Rattle.std.specs.Prelude.{length, take, codes, decimal, fold, find, Option, Some, None}
use Rattle.std.specs.List.{flat_map, list_any, range_with_len}
use Rattle.net_script.specs.declared.values.Sizes.{Sizes}
use Rattle.protocol.specs.declared.nodes.NodeId.{NodeId}
use Rattle.protocol.specs.declared.nodes.NodeId.TheVariants.{R}
use Rattle.protocol.specs.declared.states.View.{View}
use Rattle.picture.specs.declared.elements.Point.{Point}
use Rattle.picture.specs.declared.elements.Lettering.{Lettering}
use Rattle.picture.specs.declared.elements.Pen.{Pen}
use Rattle.picture.specs.declared.elements.Mark.{Mark}
use Rattle.picture.specs.declared.elements.Element.{Element}
use Rattle.picture.specs.declared.elements.Element.TheVariants.{Link, Words, Stroke, Band, Stamp, EndLink}
use Rattle.picture.specs.declared.happenings.Ends.{Ends}
use Rattle.picture.specs.declared.rows.Row.{Row}
use Rattle.picture.specs.declared.rows.What.{What}
use Rattle.picture.specs.declared.rows.What.TheVariants.{At, Delivers, Loses, Misses, Changes, Sends}
use Rattle.picture.specs.Places.{beside, lane_x, node_x, page_end, page_of, page_top, row_y}

-- a point
abbrev pub point : ℕ → ℕ → Point
point x y = record { x = x; y = y }

-- the ends of a stroke
abbrev pub ends : Point → Point → Ends
ends from to = record { from = from; to = to }

-- a place so much further; there is none beyond 2^64-1
abbrev pub further : ℕ → ℕ → ℕ
further place by = min (place + by) (2 ^ 64 - 1)

-- ---- the lines of the trace

-- the number of the line after one; beyond 2^32-1 all have that number
abbrev pub next_line : ℕ → ℕ
next_line number = min (number + 1) (2 ^ 32 - 1)

-- a line of at most 47 bytes; of a longer one the beginning and three dots
abbrev pub shortened : List ℕ → List ℕ
shortened line = if nat_le (length line) 47 then line else take 44 line ++ codes "..."

-- a line beside its number, as a link
abbrev pub line_elements : ℕ → List ℕ → List Element
line_elements number line =
    Link number ∷ Words Lettering.Number (point 34 (row_y number + 3)) (decimal number)
    ∷ Words Lettering.Line (point 42 (row_y number + 3)) (shortened line) ∷ EndLink ∷ []

-- lines, of which the first has this number
abbrev pub lines_elements : ℕ → List (List ℕ) → List Element
lines_elements number [] = []
lines_elements number (line ∷ rest) = line_elements number line ++ lines_elements (next_line number) rest

-- ---- lanes

-- the lane of a node, down to where it ends, and its name at the head
abbrev pub lane_elements : ℕ → ℕ → Point → ℕ → List Element
lane_elements letter number head end =
    Stroke Pen.Lane (point head.x (further head.y 6)) (point head.x end) ∷ Words Lettering.Name head (letter ∷ decimal number) ∷ []

-- the lane of a node on a page, behind the lanes of two kinds
abbrev pub lane_on : ℕ → ℕ → ℕ → ℕ → ℕ → ℕ → List Element
lane_on page lines letter first second number =
    lane_elements letter number (point (lane_x first second number) (page_top page + 16)) (page_end page lines)

-- the lanes of the nodes of a kind on a page, behind those of two kinds
abbrev pub lanes_elements : ℕ → ℕ → ℕ → ℕ → ℕ → ℕ → List Element
lanes_elements page lines letter first second count = flat_map (lane_on page lines letter first second) (range_with_len 0 count)

-- the view of a resource manager after a row, where the row is before a line
abbrev pub view_after : ℕ → ℕ → View → Row → View
view_after rm line view row = changed row.what where
  changed : What → View
  changed (Changes other new) = if other == rm && nat_lt row.line line then new else view
  changed what = view

-- the view of a resource manager before a line
abbrev pub view_before : List Row → ℕ → ℕ → View
view_before rows rm line = fold (view_after rm line) View.Working rows

-- the band of a view from here to the end of the page; none where the resource manager is working
abbrev pub band_elements : ℕ → ℕ → ℕ → ℕ → View → List Element
band_elements lines page rm y View.Working = []
band_elements lines page rm y view = Band view (point (lane_x 0 0 rm - 5) y) (page_end page lines - y) ∷ []

-- the view of a resource manager with which a page begins
abbrev pub carried_view : ℕ → List Row → ℕ → ℕ → List Element
carried_view lines rows page rm =
    band_elements lines page rm (page_top page + 22) (view_before rows rm (next_line (min (page * 90) (2 ^ 32 - 1))))

-- the views with which a page begins
abbrev pub carried_elements : ℕ → List Row → ℕ → ℕ → List Element
carried_elements lines rows page rms = flat_map (carried_view lines rows page) (range_with_len 0 rms)

-- which page this is, where there are several
abbrev pub page_note : ℕ → ℕ → List Element
page_note lines page =
    if page_of lines == 0 then []
    else Words Lettering.Note (point 42 (page_top page + 16))
    (codes "page " ++ decimal (next_line page) ++ codes " of " ++ decimal (next_line (page_of lines))) ∷ []

-- what stands behind the events of a page, but for the views that change on it
abbrev pub page_elements : Sizes → ℕ → List Row → ℕ → List Element
page_elements sizes lines rows page =
    page_note lines page ++ lanes_elements page lines 114 0 0 sizes.rms ++ lanes_elements page lines 108 sizes.rms 0 sizes.leaders
    ++ lanes_elements page lines 97 sizes.rms sizes.leaders sizes.acceptors ++ carried_elements lines rows page sizes.rms

-- what stands behind the events of all pages, but for the views that change on them
abbrev pub pages_elements : Sizes → ℕ → List Row → List Element
pages_elements sizes lines rows = flat_map (page_elements sizes lines rows) (range_with_len 0 (page_of lines + 1))

-- the view that a row changes
abbrev pub change_elements : ℕ → Row → List Element
change_elements lines row = changed row.what where
  changed : What → List Element
  changed (Changes rm view) = band_elements lines (page_of row.line) rm (row_y row.line) view
  changed what = []

-- ---- datagrams

-- whether a row is that of a datagram of this number, sent before a line
abbrev pub is_sent : ℕ → ℕ → Row → Bool
is_sent number line row = sends row.what where
  sends : What → Bool
  sends (Sends other sender receiver) = other == number && nat_lt row.line line
  sends what = false

-- whether a row is that of a datagram of this number, taken before a line
abbrev pub takes : ℕ → ℕ → Row → Bool
takes number line row = taken row.what where
  taken : What → Bool
  taken (Delivers other true mark) = other == number && nat_lt row.line line
  taken what = false

-- whether a row is that of a datagram of this number, taken or lost
abbrev pub settles : ℕ → Row → Bool
settles number row = settled row.what where
  settled : What → Bool
  settled (Delivers other true mark) = other == number
  settled (Loses other) = other == number
  settled what = false

-- where a datagram that was sent on a line comes from, in the row of a later one: on another page it is the head of the lane
abbrev pub coming_from : Sizes → NodeId → ℕ → ℕ → Point
coming_from sizes sender sent line =
    point (node_x sizes sender) (if page_of sent == page_of line then row_y sent else page_top (page_of line) + 22)

-- the ends of the stroke of a datagram, by the row where it is sent and the line where it is delivered: from the lane of its sender to
-- that of its receiver
abbrev pub whole_way : Sizes → Row → ℕ → Ends
whole_way sizes row line = way row.what where
  way : What → Ends
  way (Sends number sender receiver) = ends (coming_from sizes sender row.line line) (point (node_x sizes receiver) (row_y line))
  way what = ends (point beside (row_y line)) (point beside (row_y line))

-- the ends of the stroke of a datagram that is lost half way
abbrev pub half_way : Sizes → Row → ℕ → Ends
half_way sizes row line =
    let way = whole_way sizes row line in ends way.from (point ((way.from.x + way.to.x) / 2) way.to.y)

-- how a datagram is drawn that is delivered: thick, where it is taken, and wasn't before
abbrev pub arrow_pen : List Row → ℕ → ℕ → Bool → Pen
arrow_pen rows line number is_taken = if is_taken && not (list_any (takes number line) rows) then Pen.Arrow else Pen.Again

-- the stroke of a datagram that was sent by this row, if it was
abbrev pub arrow_from : Sizes → ℕ → Pen → Option Row → List Element
arrow_from sizes line pen None = []
arrow_from sizes line pen (Some row) = Stroke pen (whole_way sizes row line).from (whole_way sizes row line).to ∷ []

-- the arrow of a datagram that is delivered
abbrev pub arrow_elements : Sizes → List Row → ℕ → ℕ → Bool → List Element
arrow_elements sizes rows line number is_taken =
    arrow_from sizes line (arrow_pen rows line number is_taken) (find (is_sent number line) rows)

-- the stroke of a datagram that was sent by this row, if it was, and is lost
abbrev pub loss_from : Sizes → ℕ → Option Row → List Element
loss_from sizes line None = []
loss_from sizes line (Some row) = Stroke Pen.Lost (half_way sizes row line).from (half_way sizes row line).to ∷ []

-- the stroke of a datagram that is lost
abbrev pub loss_elements : Sizes → List Row → ℕ → ℕ → List Element
loss_elements sizes rows line number = loss_from sizes line (find (is_sent number line) rows)

-- what an event does, down to this row
abbrev pub work_element : Point → Element
work_element at = Stroke Pen.Work (point at.x (at.y - 15)) at

-- where the stroke of a datagram ends that was sent to a node over there and is neither taken nor lost
abbrev pub short_way : Point → ℕ → Point
short_way at receiver = point (if nat_le at.x receiver then further at.x 26 else at.x - 26) (further at.y 4)

-- a datagram that is sent, and its beginning where it is neither taken nor lost
abbrev pub sent_elements : List Row → ℕ → Point → ℕ → List Element
sent_elements rows number at receiver =
    work_element at ∷ (if list_any (settles number) rows then [] else Stroke Pen.Waiting at (short_way at receiver) ∷ [])

-- the strokes of a row
abbrev pub stroke_elements : Sizes → List Row → Row → List Element
stroke_elements sizes rows row = strokes row.what where
  strokes : What → List Element
  strokes (At node mark) = []
  strokes Misses = []
  strokes (Delivers number is_taken mark) = arrow_elements sizes rows row.line number is_taken
  strokes (Loses number) = loss_elements sizes rows row.line number
  strokes (Changes rm view) = work_element (point (node_x sizes (R rm)) (row_y row.line)) ∷ []
  strokes (Sends number sender receiver) =
      sent_elements rows number (point (node_x sizes sender) (row_y row.line)) (node_x sizes receiver)

-- ---- marks and words

-- words beside a point, on the side that is away from where a datagram comes from
abbrev pub label_element : Point → Point → List ℕ → Element
label_element from to words =
    if nat_le from.x to.x then Words Lettering.Right (point (further to.x 11) (further to.y 3)) words
    else Words Lettering.Left (point (to.x - 11) (further to.y 3)) words

-- a mark at the end of a stroke, and words beside it
abbrev pub mark_elements : Mark → Ends → List ℕ → List Element
mark_elements mark way words = Stamp mark way.to ∷ label_element way.from way.to words ∷ []

-- the mark of what is no datagram
abbrev pub alone_elements : Mark → ℕ → ℕ → List ℕ → List Element
alone_elements mark x line words = mark_elements mark (ends (point x (row_y line)) (point x (row_y line))) words

-- the mark where a datagram is delivered that was sent by this row, with what it says; beside the lanes, where none was sent
abbrev pub delivered_from : Sizes → Row → Mark → Option Row → List Element
delivered_from sizes row mark None = alone_elements mark beside row.line row.label
delivered_from sizes row mark (Some sent) = mark_elements mark (whole_way sizes sent row.line) sent.label

-- the mark where a datagram is delivered, with what it says
abbrev pub delivered_elements : Sizes → List Row → Row → ℕ → Mark → List Element
delivered_elements sizes rows row number mark = delivered_from sizes row mark (find (is_sent number row.line) rows)

-- the mark where a datagram is lost that was sent by this row, with what it says; beside the lanes, where none was sent
abbrev pub lost_from : Sizes → Row → Option Row → List Element
lost_from sizes row None = alone_elements Mark.Refusal beside row.line row.label
lost_from sizes row (Some sent) = mark_elements Mark.Cross (half_way sizes sent row.line) sent.label

-- the mark where a datagram is lost, with what it says
abbrev pub lost_elements : Sizes → List Row → Row → ℕ → List Element
lost_elements sizes rows row number = lost_from sizes row (find (is_sent number row.line) rows)

-- the word of a view that is changed
abbrev pub view_element : ℕ → ℕ → List ℕ → Element
view_element x line words = Words Lettering.View (point (x - 11) (row_y line + 3)) words

-- the mark and the words of a row
abbrev pub sign_elements : Sizes → List Row → Row → List Element
sign_elements sizes rows row = signs row.what where
  signs : What → List Element
  signs (At node mark) = alone_elements mark (node_x sizes node) row.line row.label
  signs (Delivers number is_taken mark) = delivered_elements sizes rows row number mark
  signs (Loses number) = lost_elements sizes rows row number
  signs Misses = alone_elements Mark.Refusal beside row.line row.label
  signs (Changes rm view) = view_element (node_x sizes (R rm)) row.line row.label ∷ []
  signs (Sends number sender receiver) = []

-- the same, as a link to its line; a datagram that is sent has none
abbrev pub linked_elements : Sizes → List Row → Row → List Element
linked_elements sizes rows row = linked row.what where
  linked : What → List Element
  linked (Sends number sender receiver) = []
  linked what = Link row.line ∷ sign_elements sizes rows row ++ EndLink ∷ []
