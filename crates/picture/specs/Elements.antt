-- The text of a picture's parts.
use Rattle.std.specs.Prelude.{ℕ, Bool, true, false, not, ◌==◌, ◌&&◌, ◌||◌, nat_le, if◌then◌else◌, List, [], ◌∷◌, ◌++◌, codes, decimal}
use Rattle.std.specs.List.{flat_map, list_any}
use Rattle.protocol.specs.declared.states.View.{View}
use Rattle.picture.specs.declared.elements.Point.{Point}
use Rattle.picture.specs.declared.elements.Lettering.{Lettering}
use Rattle.picture.specs.declared.elements.Pen.{Pen}
use Rattle.picture.specs.declared.elements.Mark.{Mark}
use Rattle.picture.specs.declared.elements.Element.{Element}
use Rattle.picture.specs.declared.elements.Element.TheVariants.{Head, Link, Words, Stroke, Band, Stamp, EndLink, End}
use Rattle.picture.specs.declared.style.TheConstants.{FURNITURE, OPENING, ROLE, TITLE, VIEW_BOX}

-- ---- names in the style

-- what the style calls a lettering
abbrev pub lettering_name : Lettering → List ℕ
lettering_name Lettering.Name = codes "name"
lettering_name Lettering.Number = codes "number"
lettering_name Lettering.Line = codes "line"
lettering_name Lettering.Right = codes "right"
lettering_name Lettering.Left = codes "left"
lettering_name Lettering.View = codes "view"
lettering_name Lettering.Note = codes "note"

-- what the style calls a pen
abbrev pub pen_name : Pen → List ℕ
pen_name Pen.Lane = codes "lane"
pen_name Pen.Work = codes "work"
pen_name Pen.Arrow = codes "arrow"
pen_name Pen.Again = codes "again"
pen_name Pen.Lost = codes "lost"
pen_name Pen.Waiting = codes "waiting"

-- what the style calls a mark
abbrev pub mark_name : Mark → List ℕ
mark_name Mark.Done = codes "done"
mark_name Mark.Tear = codes "tear"
mark_name Mark.Restart = codes "restart"
mark_name Mark.Compaction = codes "compaction"
mark_name Mark.Refusal = codes "refusal"
mark_name Mark.Cross = codes "cross"

-- what the style calls a view
abbrev pub view_name : View → List ℕ
view_name View.Working = codes "working"
view_name View.Prepared = codes "prepared"
view_name View.Committed = codes "committed"
view_name View.Aborted = codes "aborted"

-- ---- words

-- a byte of words: what begins or ends markup as a reference to it, and what is no printed ASCII as a question mark
abbrev pub escaped_byte : ℕ → List ℕ
escaped_byte byte =
    if byte == 38 then codes "&amp;"
    else (if byte == 60 then codes "&lt;"
    else (if byte == 62 then codes "&gt;"
    else (if byte == 39 then codes "&#39;"
    else (if nat_le 32 byte && nat_le byte 126 then byte ∷ [] else codes "?"))))

-- words in a picture
abbrev pub escaped : List ℕ → List ℕ
escaped words = flat_map escaped_byte words

-- whether a byte is printed ASCII, and neither begins nor ends a tag, nor ends the value of an attribute
abbrev pub is_harmless : ℕ → Bool
is_harmless byte = nat_le 32 byte && nat_le byte 126 && not (byte == 60) && not (byte == 62) && not (byte == 39)

-- whether a byte stands in words as it is
abbrev pub is_plain : ℕ → Bool
is_plain byte = is_harmless byte && not (byte == 38)

-- what follows an ampersand in a reference to a character
abbrev pub references : List (List ℕ)
references = codes "amp;" ∷ codes "lt;" ∷ codes "gt;" ∷ codes "#39;" ∷ []

-- whether a text begins with another
abbrev pub begins_with : (front text : List ℕ) → Bool
begins_with [] text = true
begins_with (byte ∷ front) [] = false
begins_with (byte ∷ front) (first ∷ rest) = (byte == first) && begins_with front rest

-- whether each ampersand of a text begins such a reference
abbrev pub refers : List ℕ → Bool
refers [] = true
refers (byte ∷ rest) = (not (byte == 38) || list_any (λ front. begins_with front rest) references) && refers rest

-- ---- parts of tags

-- an attribute that is a number
abbrev pub attribute : List ℕ → ℕ → List ℕ
attribute name number = 32 ∷ name ++ codes "='" ++ decimal number ++ codes "'"

-- the beginning of a tag, up to its class
abbrev pub opened : List ℕ → List ℕ → List ℕ
opened tag class = 60 ∷ tag ++ codes "='" ++ class ++ codes "'"

-- the two attributes of a point
abbrev pub place : List ℕ → List ℕ → Point → List ℕ
place across down at = attribute across at.x ++ attribute down at.y

-- ---- elements

-- two numbers, a space between them
abbrev pub two_numbers : ℕ → ℕ → List ℕ
two_numbers first second = decimal first ++ codes " " ++ decimal second

-- the size of a picture
abbrev pub size_text : ℕ → ℕ → List ℕ
size_text width height = OPENING.now ++ attribute (codes "width") width ++ attribute (codes "height") height

-- how much of the plane a picture of this size shows: all of it
abbrev pub view_box : ℕ → ℕ → List ℕ
view_box width height = VIEW_BOX.now ++ two_numbers width height ++ ROLE.now

-- the title of a picture
abbrev pub title_text : List ℕ → List ℕ
title_text address = TITLE.now ++ escaped address ++ codes "</title>\n"

-- the beginning of a picture: its size, its title, and what is the same in all pictures
abbrev pub head_text : List ℕ → ℕ → ℕ → List ℕ
head_text address width height = size_text width height ++ view_box width height ++ title_text address ++ FURNITURE.now

-- the beginning of a link to a line, whose title is the line's number
abbrev pub link_text : List ℕ → ℕ → List ℕ
link_text address line =
    codes "<a href='" ++ escaped address ++ codes "#L" ++ decimal line ++ codes "'><title>line " ++ decimal line ++ codes "</title>\n"

-- words at a point
abbrev pub words_text : Lettering → Point → List ℕ → List ℕ
words_text lettering at words =
    opened (codes "text class") (lettering_name lettering) ++ place (codes "x") (codes "y") at ++ codes ">" ++ escaped words ++ codes
    "</text>\n"

-- a stroke
abbrev pub stroke_text : Pen → Point → Point → List ℕ
stroke_text pen from to =
    opened (codes "line class") (pen_name pen) ++ place (codes "x1") (codes "y1") from ++ place (codes "x2") (codes "y2") to
    ++ codes "/>\n"

-- a band, which is ten pixels broad
abbrev pub band_text : View → Point → ℕ → List ℕ
band_text view at height =
    opened (codes "rect class") (view_name view) ++ place (codes "x") (codes "y") at ++ place (codes "width") (codes "height")
    (record { x = 10; y = height }) ++ codes "/>\n"

-- a mark
abbrev pub stamp_text : Mark → Point → List ℕ
stamp_text mark at = codes "<use href='#" ++ mark_name mark ++ codes "'" ++ place (codes "x") (codes "y") at ++ codes "/>\n"

-- a part of the picture of the trace at this address
abbrev pub element_text : List ℕ → Element → List ℕ
element_text address (Head width height) = head_text address width height
element_text address (Link line) = link_text address line
element_text address (Words lettering at words) = words_text lettering at words
element_text address (Stroke pen from to) = stroke_text pen from to
element_text address (Band view at height) = band_text view at height
element_text address (Stamp mark at) = stamp_text mark at
element_text address EndLink = codes "</a>\n"
element_text address End = codes "</svg>\n"
