-- Every stroke of a datagram is true, in each part of a picture: for the law of arrows.
use Rattle.std.proofs.Common.{◌≡◌, ℕ, ◌+◌, ◌-◌, ◌*◌, ◌^◌, ◌<◌, min, List, [], ◌∷◌, ◌++◌, Bool, true, false, not, ◌&&◌, Option, Some, None}
use Rattle.std.proofs.Common.{refl, sym, ap, ◌∙◌, find, codes, decimal, unwrap_or, if◌then◌else◌, eqb, leb, ltb, get_or, arith}
use Rattle.std.specs.List.{All, AllByRecursion, Contains, flat_map, range_with_len, list_any}
use Rattle.std.proofs.lemmas.List.Elements.{All-from_recursion, All-nil, All-cons, All-append, All-head, All-tail, Contains-get_or}
use Rattle.std.proofs.lemmas.List.Elements.{Contains-append_right}
use Rattle.std.proofs.lemmas.Bool.Decides.{nat_tests}
use Rattle.xid.proofs.Texts.{first_true, second_true}
use Rattle.net_script.specs.declared.values.Sizes.{Sizes}
use Rattle.net_script.specs.declared.values.Trace.{Trace}
use Rattle.net_script.specs.declared.values.Entry.{Entry}
use Rattle.net_script.specs.Lines.{lines}
use Rattle.protocol.specs.declared.nodes.NodeId.TheVariants.{R}
use Rattle.protocol.specs.declared.states.View.{View}
use Rattle.picture.specs.declared.elements.Point.{Point}
use Rattle.picture.specs.declared.elements.Lettering.{Lettering}
use Rattle.picture.specs.declared.elements.Pen.{Pen}
use Rattle.picture.specs.declared.elements.Mark.{Mark}
use Rattle.picture.specs.declared.elements.Element.{Element}
use Rattle.picture.specs.declared.elements.Element.TheVariants.{End, EndLink, Head, Link, Stroke, Words}
use Rattle.picture.specs.declared.happenings.Ends.{Ends}
use Rattle.picture.specs.declared.rows.Row.{Row}
use Rattle.picture.specs.declared.rows.What.{What}
use Rattle.picture.specs.declared.rows.What.TheVariants.{At, Delivers, Loses, Misses, Changes, Sends}
use Rattle.picture.specs.Places.{beside, node_x, page_of, page_top, picture_width, row_y}
use Rattle.picture.specs.Rows.{are_several}
use Rattle.picture.specs.Drawing.{arrow_from, arrow_pen, band_elements, carried_elements, carried_view, change_elements, half_way, is_sent}
use Rattle.picture.specs.Drawing.{label_element, lane_on, lanes_elements, line_elements, lines_elements, linked_elements, loss_from}
use Rattle.picture.specs.Drawing.{mark_elements}
use Rattle.picture.specs.Drawing.{next_line, page_elements, page_note, pages_elements, point, settles, short_way, sign_elements}
use Rattle.picture.specs.Drawing.{stroke_elements, delivered_from, takes, lost_from, whole_way, work_element}
use Rattle.picture.specs.Pictures.{backdrop_elements, elements_of, front_elements, line_count, served_note, tells_of_sockets, trace_rows}
use Rattle.picture.specs.declared.pictures.TheConstants.{SERVED}
use Rattle.picture.specs.Drawing.{alone_elements, ends, further, view_before, view_element}
use Rattle.picture.specs.Ways.{IsDelivered, IsSentFrom, IsTrueOf}

-- ---- lists

-- in a list put together from lists
all_flat : {X Y : Type 0} (P : Y → Type 0) (f : X → List Y) (xs : List X) → All (λ x. All P (f x)) xs → All P (flat_map f xs)
all_flat P f [] h = All-nil P
all_flat {X} P f (x ∷ xs) h =
    let Q : X → Type 0 = λ x. All P (f x) in
    All-append P (f x) (flat_map f xs) (All-head Q x xs h) (all_flat P f xs (All-tail Q x xs h))

-- whatever it is put together from
all_of_each : {X Y : Type 0} (P : Y → Type 0) (f : X → List Y) → ((x : X) → All P (f x)) → (xs : List X) → All P (flat_map f xs)
all_of_each P f each [] = All-nil P
all_of_each P f each (x ∷ xs) = All-append P (f x) (flat_map f xs) (each x) (all_of_each P f each xs)

-- of each element of a list, by what is so of its elements
all_of_own : {X Y : Type 0} (P : Y → Type 0) (f : X → List Y) (xs : List X) → ((x : X) → Contains xs x → All P (f x))
    → All P (flat_map f xs)
all_of_own {X} P f xs own = all_flat P f xs (λ k d lt. own (get_or xs k d) (Contains-get_or xs k d lt))

-- a choice
all_chosen : {Y : Type 0} (P : Y → Type 0) (b : Bool) (xs ys : List Y) → All P xs → All P ys → All P (if b then xs else ys)
all_chosen P true xs ys p q = p
all_chosen P false xs ys p q = q

-- what is found is there, and passes
found_first : {X : Type 0} (p : X → Bool) (y : X) (ys : List X) (x : X) (b : Bool) → p y ≡ b
    → (find p ys ≡ Some x → Contains ys x × (p x ≡ true)) → (if b then Some y else find p ys) ≡ Some x → Contains (y ∷ ys) x × (p x ≡ true)
found_first {X} p y ys x true is later e =
    let same : y ≡ x = ap (λ (o : Option X). unwrap_or o y) e in
    ((0, omega arith, same), ap p (sym same) ∙ is)
found_first p y ys x false is later e = (Contains-append_right (y ∷ []) ys x (later e).0, (later e).1)

found : {X : Type 0} (p : X → Bool) (xs : List X) (x : X) → find p xs ≡ Some x → Contains xs x × (p x ≡ true)
found p [] x h = absurd (cc (h))
found p (y ∷ ys) x h = found_first p y ys x (p y) refl (found p ys x) h

-- tests on numbers
eqb_same : (m n : ℕ) → eqb m n ≡ true → m ≡ n
eqb_same m n h = grind (arith, nat_tests)

ltb_less : (m n : ℕ) → ltb m n ≡ true → m < n
ltb_less m n h = grind (arith, nat_tests)

-- ---- parts with no datagrams

-- by recursion, which computes
each : (sizes : Sizes) (rows : List Row) (es : List Element) → AllByRecursion (IsTrueOf sizes rows) es → All (IsTrueOf sizes rows) es
each sizes rows es is = All-from_recursion (IsTrueOf sizes rows) es is

line_true : (sizes : Sizes) (rows : List Row) (number : ℕ) (line : List ℕ) → All (IsTrueOf sizes rows) (line_elements number line)
line_true sizes rows number line = each sizes rows (line_elements number line) (tt, (tt, (tt, (tt, tt))))

lines_true : (sizes : Sizes) (rows : List Row) (number : ℕ) (ls : List (List ℕ)) → All (IsTrueOf sizes rows) (lines_elements number ls)
lines_true sizes rows number [] = each sizes rows [] tt
lines_true sizes rows number (line ∷ ls) =
    All-append (IsTrueOf sizes rows) (line_elements number line) (lines_elements (next_line number) ls) (line_true sizes rows number line)
    (lines_true sizes rows (next_line number) ls)

band_true : (sizes : Sizes) (rows : List Row) (count page rm y : ℕ) (view : View)
    → All (IsTrueOf sizes rows) (band_elements count page rm y view)
band_true sizes rows count page rm y View.Working = each sizes rows (band_elements count page rm y View.Working) tt
band_true sizes rows count page rm y View.Prepared = each sizes rows (band_elements count page rm y View.Prepared) (tt, tt)
band_true sizes rows count page rm y View.Committed = each sizes rows (band_elements count page rm y View.Committed) (tt, tt)
band_true sizes rows count page rm y View.Aborted = each sizes rows (band_elements count page rm y View.Aborted) (tt, tt)

lanes_true : (sizes : Sizes) (rows : List Row) (page count letter first second number : ℕ)
    → All (IsTrueOf sizes rows) (lanes_elements page count letter first second number)
lanes_true sizes rows page count letter first second number =
    all_of_each (IsTrueOf sizes rows) (lane_on page count letter first second)
    (λ n. each sizes rows (lane_on page count letter first second n) (tt, (tt, tt))) (range_with_len 0 number)

note_true : (sizes : Sizes) (rows : List Row) (count page : ℕ) → All (IsTrueOf sizes rows) (page_note count page)
note_true sizes rows count page =
    let said : List Element =
    Words Lettering.Note (point 42 (page_top page + 16))
    (codes "page " ++ decimal (next_line page) ++ codes " of " ++ decimal (next_line (page_of count))) ∷ [] in
    all_chosen (IsTrueOf sizes rows) (eqb (page_of count) 0) [] said (each sizes rows [] tt) (each sizes rows said (tt, tt))

carried_true : (sizes : Sizes) (rows : List Row) (count page rms : ℕ) → All (IsTrueOf sizes rows) (carried_elements count rows page rms)
carried_true sizes rows count page rms =
    all_of_each (IsTrueOf sizes rows) (carried_view count rows page)
    (λ rm. band_true sizes rows count page rm (page_top page + 22) (view_before rows rm (next_line (min (page * 90) (2 ^ 32 - 1)))))
    (range_with_len 0 rms)

page_true : (sizes : Sizes) (rows : List Row) (count page : ℕ) → All (IsTrueOf sizes rows) (page_elements sizes count rows page)
page_true sizes rows count page =
    let P : Element → Type 0 = IsTrueOf sizes rows in
    let note : List Element = page_note count page in
    let managers : List Element = lanes_elements page count 114 0 0 sizes.rms in
    let leaders : List Element = lanes_elements page count 108 sizes.rms 0 sizes.leaders in
    let acceptors : List Element = lanes_elements page count 97 sizes.rms sizes.leaders sizes.acceptors in
    All-append P (note ++ managers ++ leaders ++ acceptors) (carried_elements count rows page sizes.rms)
    (All-append P (note ++ managers ++ leaders) acceptors
    (All-append P (note ++ managers) leaders
    (All-append P note managers (note_true sizes rows count page) (lanes_true sizes rows page count 114 0 0 sizes.rms))
    (lanes_true sizes rows page count 108 sizes.rms 0 sizes.leaders))
    (lanes_true sizes rows page count 97 sizes.rms sizes.leaders sizes.acceptors))
    (carried_true sizes rows count page sizes.rms)

change_true : (sizes : Sizes) (rows : List Row) (count line : ℕ) (label : List ℕ) (what : What)
    → All (IsTrueOf sizes rows) (change_elements count (record { line = line; label = label; what = what }))
change_true sizes rows count line label (Changes rm view) = band_true sizes rows count (page_of line) rm (row_y line) view
change_true sizes rows count line label (At node mark) = each sizes rows [] tt
change_true sizes rows count line label (Delivers number is_taken mark) = each sizes rows [] tt
change_true sizes rows count line label (Loses number) = each sizes rows [] tt
change_true sizes rows count line label Misses = each sizes rows [] tt
change_true sizes rows count line label (Sends number sender receiver) = each sizes rows [] tt

-- ---- marks

label_true : (sizes : Sizes) (rows : List Row) (from to : Point) (words : List ℕ) → IsTrueOf sizes rows (label_element from to words)
label_true sizes rows from to words = by_test (leb from.x to.x) where
  by_test : (b : Bool)
      → IsTrueOf sizes rows (if b then Words Lettering.Right (point (further to.x 11) (further to.y 3)) words
      else Words Lettering.Left (point (to.x - 11) (further to.y 3)) words)
  by_test true = tt
  by_test false = tt

mark_true : (sizes : Sizes) (rows : List Row) (mark : Mark) (way : Ends) (words : List ℕ)
    → All (IsTrueOf sizes rows) (mark_elements mark way words)
mark_true sizes rows mark way words = each sizes rows (mark_elements mark way words) (tt, (label_true sizes rows way.from way.to words, tt))

alone_true : (sizes : Sizes) (rows : List Row) (mark : Mark) (x line : ℕ) (words : List ℕ)
    → All (IsTrueOf sizes rows) (alone_elements mark x line words)
alone_true sizes rows mark x line words = mark_true sizes rows mark (ends (point x (row_y line)) (point x (row_y line))) words

delivered_true : (sizes : Sizes) (rows : List Row) (row : Row) (mark : Mark) (o : Option Row)
    → All (IsTrueOf sizes rows) (delivered_from sizes row mark o)
delivered_true sizes rows row mark None = alone_true sizes rows mark beside row.line row.label
delivered_true sizes rows row mark (Some sent) = mark_true sizes rows mark (whole_way sizes sent row.line) sent.label

lost_true : (sizes : Sizes) (rows : List Row) (row : Row) (o : Option Row) → All (IsTrueOf sizes rows) (lost_from sizes row o)
lost_true sizes rows row None = alone_true sizes rows Mark.Refusal beside row.line row.label
lost_true sizes rows row (Some sent) = mark_true sizes rows Mark.Cross (half_way sizes sent row.line) sent.label

sign_true : (sizes : Sizes) (rows : List Row) (line : ℕ) (label : List ℕ) (what : What)
    → All (IsTrueOf sizes rows) (sign_elements sizes rows (record { line = line; label = label; what = what }))
sign_true sizes rows line label (At node mark) = alone_true sizes rows mark (node_x sizes node) line label
sign_true sizes rows line label (Delivers number is_taken mark) =
    delivered_true sizes rows (record { line = line; label = label; what = Delivers number is_taken mark }) mark
    (find (is_sent number line) rows)
sign_true sizes rows line label (Loses number) =
    lost_true sizes rows (record { line = line; label = label; what = Loses number }) (find (is_sent number line) rows)
sign_true sizes rows line label Misses = alone_true sizes rows Mark.Refusal beside line label
sign_true sizes rows line label (Changes rm view) = each sizes rows (view_element (node_x sizes (R rm)) line label ∷ []) (tt, tt)
sign_true sizes rows line label (Sends number sender receiver) = each sizes rows [] tt

link_true : (sizes : Sizes) (rows : List Row) (line : ℕ) (label : List ℕ) (what : What)
    → (let row : Row = record { line = line; label = label; what = what } in
    All (IsTrueOf sizes rows) (Link line ∷ sign_elements sizes rows row ++ EndLink ∷ []))
link_true sizes rows line label what =
    let P : Element → Type 0 = IsTrueOf sizes rows in
    let signs : List Element = sign_elements sizes rows (record { line = line; label = label; what = what }) in
    All-append P (Link line ∷ signs) (EndLink ∷ [])
    (All-cons P (Link line) signs tt (sign_true sizes rows line label what)) (each sizes rows (EndLink ∷ []) (tt, tt))

linked_true : (sizes : Sizes) (rows : List Row) (line : ℕ) (label : List ℕ) (what : What)
    → All (IsTrueOf sizes rows) (linked_elements sizes rows (record { line = line; label = label; what = what }))
linked_true sizes rows line label (Sends number sender receiver) = each sizes rows [] tt
linked_true sizes rows line label (At node mark) = link_true sizes rows line label (At node mark)
linked_true sizes rows line label (Delivers number is_taken mark) = link_true sizes rows line label (Delivers number is_taken mark)
linked_true sizes rows line label (Loses number) = link_true sizes rows line label (Loses number)
linked_true sizes rows line label Misses = link_true sizes rows line label Misses
linked_true sizes rows line label (Changes rm view) = link_true sizes rows line label (Changes rm view)

-- ---- strokes

-- a row that is that of a datagram sent before a line says from where
sent_from : (sizes : Sizes) (rows : List Row) (number line sent_line : ℕ) (label : List ℕ) (what : What)
    → (let row : Row = record { line = sent_line; label = label; what = what } in
    Contains rows row → is_sent number line row ≡ true
    → IsSentFrom sizes rows number line (whole_way sizes row line).from (whole_way sizes row line).to.x
    × ((whole_way sizes row line).to.y ≡ row_y line))
sent_from sizes rows number line sent_line label (Sends other sender receiver) there h =
    let number_is : other ≡ number = eqb_same other number (first_true (eqb other number) (ltb sent_line line) h) in (
      record {
        row = record { line = sent_line; label = label; what = Sends other sender receiver };
        there = there;
        sender = sender;
        receiver = receiver;
        sends = ap (λ (n : ℕ). Sends n sender receiver) number_is;
        before = ltb_less sent_line line (second_true (eqb other number) (ltb sent_line line) h);
        begins = refl;
        lane_is = refl;
      },
      refl,
    )
sent_from sizes rows number line sent_line label (At node mark) there h = absurd (cc (h))
sent_from sizes rows number line sent_line label (Delivers other is_taken mark) there h = absurd (cc (h))
sent_from sizes rows number line sent_line label (Loses other) there h = absurd (cc (h))
sent_from sizes rows number line sent_line label Misses there h = absurd (cc (h))
sent_from sizes rows number line sent_line label (Changes rm view) there h = absurd (cc (h))

-- an arrow, thick or thin
pen_true : (sizes : Sizes) (rows : List Row) (line : ℕ) (label : List ℕ) (number : ℕ) (is_taken : Bool) (mark : Mark) (from to : Point)
    → Contains rows (record { line = line; label = label; what = Delivers number is_taken mark })
    → IsSentFrom sizes rows number line from to.x → to.y ≡ row_y line → (before : Bool) → list_any (takes number line) rows ≡ before
    → IsTrueOf sizes rows (Stroke (if is_taken && not before then Pen.Arrow else Pen.Again) from to)
pen_true sizes rows line label number is_taken mark from to there sent at = by_tests is_taken there where
  again : (b : Bool) → Contains rows (record { line = line; label = label; what = Delivers number b mark })
      → IsDelivered sizes rows from to
  again b there = record {
    row = record { line = line; label = label; what = Delivers number b mark };
    there = there;
    number = number;
    is_taken = b;
    mark = mark;
    delivers = refl;
    sent = sent;
    ends = at;
  }

  by_tests : (b : Bool) → Contains rows (record { line = line; label = label; what = Delivers number b mark })
      → (before : Bool) → list_any (takes number line) rows ≡ before
      → IsTrueOf sizes rows (Stroke (if b && not before then Pen.Arrow else Pen.Again) from to)
  by_tests false there before is = again false there
  by_tests true there true is = again true there
  by_tests true there false is = record {
    row = record { line = line; label = label; what = Delivers number true mark };
    there = there;
    number = number;
    mark = mark;
    taken = refl;
    first = is;
    sent = sent;
    ends = at;
  }

arrow_true : (sizes : Sizes) (rows : List Row) (line : ℕ) (label : List ℕ) (number : ℕ) (is_taken : Bool) (mark : Mark)
    → Contains rows (record { line = line; label = label; what = Delivers number is_taken mark })
    → (o : Option Row) → find (is_sent number line) rows ≡ o
    → All (IsTrueOf sizes rows) (arrow_from sizes line (arrow_pen rows line number is_taken) o)
arrow_true sizes rows line label number is_taken mark there None is = each sizes rows [] tt
arrow_true sizes rows line label number is_taken mark there (Some sent) is =
    let (sent_there, passes) = found (is_sent number line) rows sent is in
    let (from, at) = sent_from sizes rows number line sent.line sent.label sent.what sent_there passes in
    let way : Ends = whole_way sizes sent line in
    each sizes rows (arrow_from sizes line (arrow_pen rows line number is_taken) (Some sent))
    (pen_true sizes rows line label number is_taken mark way.from way.to there from at (list_any (takes number line) rows) refl, tt)

loss_true : (sizes : Sizes) (rows : List Row) (line : ℕ) (label : List ℕ) (number : ℕ)
    → Contains rows (record { line = line; label = label; what = Loses number })
    → (o : Option Row) → find (is_sent number line) rows ≡ o → All (IsTrueOf sizes rows) (loss_from sizes line o)
loss_true sizes rows line label number there None is = each sizes rows [] tt
loss_true sizes rows line label number there (Some sent) is =
    let (sent_there, passes) = found (is_sent number line) rows sent is in
    let (from, at) = sent_from sizes rows number line sent.line sent.label sent.what sent_there passes in
    each sizes rows (loss_from sizes line (Some sent)) (
      record {
        row = record { line = line; label = label; what = Loses number };
        there = there;
        number = number;
        loses = refl;
        lane = (whole_way sizes sent line).to.x;
        sent = from;
        half = refl;
        ends = at;
      },
      tt,
    )

stroke_true : (sizes : Sizes) (rows : List Row) (line : ℕ) (label : List ℕ) (what : What)
    → Contains rows (record { line = line; label = label; what = what })
    → All (IsTrueOf sizes rows) (stroke_elements sizes rows (record { line = line; label = label; what = what }))
stroke_true sizes rows line label (At node mark) there = each sizes rows [] tt
stroke_true sizes rows line label (Delivers number is_taken mark) there =
    arrow_true sizes rows line label number is_taken mark there (find (is_sent number line) rows) refl
stroke_true sizes rows line label (Loses number) there =
    loss_true sizes rows line label number there (find (is_sent number line) rows) refl
stroke_true sizes rows line label Misses there = each sizes rows [] tt
stroke_true sizes rows line label (Changes rm view) there =
    each sizes rows (work_element (point (node_x sizes (R rm)) (row_y line)) ∷ []) (tt, tt)
stroke_true sizes rows line label (Sends number sender receiver) there =
    let at : Point = point (node_x sizes sender) (row_y line) in
    let work : Element = work_element at in
    let waiting : List Element = Stroke Pen.Waiting at (short_way at (node_x sizes receiver)) ∷ [] in
    let settled : Bool = list_any (settles number) rows in
    All-cons (IsTrueOf sizes rows) work (if settled then [] else waiting) tt
    (all_chosen (IsTrueOf sizes rows) settled [] waiting (each sizes rows [] tt) (each sizes rows waiting (tt, tt)))

-- ---- pictures

served_true : (sizes : Sizes) (rows : List Row) (entries : List Entry) → All (IsTrueOf sizes rows) (served_note entries)
served_true sizes rows entries =
    let said : List Element = Words Lettering.Note (point 42 106) SERVED.now ∷ [] in
    all_chosen (IsTrueOf sizes rows) (tells_of_sockets entries) said [] (each sizes rows said (tt, tt)) (each sizes rows [] tt)

pub all_true : (bytes : List ℕ) (t : Trace) → All (IsTrueOf t.sizes (trace_rows t)) (elements_of bytes t)
all_true bytes t =
    let rows : List Row = trace_rows t in
    let P : Element → Type 0 = IsTrueOf t.sizes rows in
    let count : ℕ = line_count bytes in
    let head : Element = Head (picture_width t.sizes (are_several t.entries)) (row_y count + 30) in
    let note : List Element = served_note t.entries in
    let pages : List Element = pages_elements t.sizes count rows in
    let changes : List Element = flat_map (change_elements count) rows in
    let backdrop : List Element = backdrop_elements count t in
    let told : List Element = lines_elements 1 (lines bytes) in
    let strokes : List Element = flat_map (stroke_elements t.sizes rows) rows in
    let signs : List Element = flat_map (linked_elements t.sizes rows) rows in
    let front : List Element = front_elements bytes t in
    let pages_true : All P pages =
    all_of_each P (page_elements t.sizes count rows) (λ page. page_true t.sizes rows count page) (range_with_len 0 (page_of count + 1)) in
    let changes_true : All P changes =
    all_of_each P (change_elements count) (λ row. change_true t.sizes rows count row.line row.label row.what) rows in
    let strokes_true : All P strokes =
    all_of_own P (stroke_elements t.sizes rows) rows (λ row there. stroke_true t.sizes rows row.line row.label row.what there) in
    let signs_true : All P signs =
    all_of_each P (linked_elements t.sizes rows) (λ row. linked_true t.sizes rows row.line row.label row.what) rows in
    let backdrop_true : All P backdrop =
    All-append P (note ++ pages) changes (All-append P note pages (served_true t.sizes rows t.entries) pages_true) changes_true in
    let front_true : All P front =
    All-append P (told ++ strokes) signs (All-append P told strokes (lines_true t.sizes rows 1 (lines bytes)) strokes_true) signs_true in
    All-append P (head ∷ backdrop ++ front) (End ∷ [])
    (All-append P (head ∷ backdrop) front (All-cons P head backdrop tt backdrop_true) front_true)
    (each t.sizes rows (End ∷ []) (tt, tt))
