-- The words of numbers, nodes, bytes, XIDs, transactions, rows, messages and of the lines that they stand in: one text each, which is a
-- word.
use Rattle.std.proofs.Common.{◌≡◌, ℕ, ◌*◌, ◌<◌, Bool, true, false, eqb, List, [], ◌∷◌, length, Ok, Err, refl, sym, ap, ◌∙◌, arith, ◌^◌}
use Rattle.std.proofs.Common.{not, ◌++◌, drop, subst, decimal, Option, None, Some, codes}
use Rattle.std.specs.Str.{bytes_eq}
use Rattle.std.proofs.lemmas.Slice.Eq.{bytes_eq-Decides}
use Rattle.std.proofs.lemmas.Bool.Decides.{nat_tests}
use Rattle.hex.proofs.HexLemmas.{decode_of-encode_lower}
use Rattle.hex.specs.Hex.{decode_of}
use Rattle.hex.specs.declared.error.FromHexError.{FromHexError}
use Rattle.xid.proofs.Texts.{length-hex_text, both_true, list_all_join, list_all-hex_text, list_all-decimal, cut_same, lacks_not}
use Rattle.xid.proofs.Texts.{hex_lacks_colon, decimal_lacks_colon}
use Rattle.xid.proofs.TransactionTexts.{hex_same, cut_tx, cut_gtrid, cut_branch, branch_same}
use Rattle.net_script.specs.Basics.{IsBytes, hex_text, XidParts, IsXid, TxParts, IsTx, xid_text, tx_text, NodeId, A, L, R, Action, End}
use Rattle.net_script.specs.Basics.{EndFail, Place, Row, Sizes, Table, Vote, InstanceReport, InstanceAccept}
use Rattle.net_script.specs.Lines.{IsSome, bytes_text, node_text, floor_text, is_word, row_text}
use Rattle.std.specs.List.{All, AllByRecursion, list_all, flat_map}
use Rattle.std.proofs.lemmas.List.{append-nil}
use Rattle.std.proofs.lemmas.List.Concat.{flat_map-cons}
use Rattle.std.proofs.lemmas.List.Elements.{All-head, All-tail}
use Rattle.std.proofs.lemmas.List.Folds.{list_all-append}
use Rattle.std.proofs.lemmas.Fmt.{decimal_injective, decimal_nonempty}
use Rattle.xid.specs.Text.{lacks}
use Rattle.xid.specs.Transactions.{BranchParts, IsBranch, branch_text, branches_text}
use Rattle.net_script.specs.Events.{IsNode, IsFloor, IsParty, IsEnding, action_words}
use Rattle.net_script.specs.declared.nodes.Manager.{Manager}
use Rattle.net_script.specs.declared.nodes.Acceptor.{Acceptor}
use Rattle.net_script.specs.declared.nodes.Leader.{Leader}
use Rattle.net_script.specs.declared.nodes.Party.{Party}
use Rattle.net_script.specs.declared.byte_words.Hex.{Hex}
use Rattle.net_script.specs.Spelling.{is_common, IsCommon, IsSpelling, AreSpellings, named, shaped, ◌&◌, list_of_words}
use Rattle.net_script.specs.declared.said.FinalRows.{FinalRows}
use Rattle.net_script.specs.Items.{IsSizes, IsRow, IsContents, bundled_words, sizes_words, rows_words, contents_words}
use Rattle.net_script.specs.TraceLines.{AreFinalRows}
use Rattle.net_script.specs.declared.message_words.Reported.{Reported}
use Rattle.net_script.specs.Messages.{vote_text, report_words, accepted_text, report_text, report_item_text, accept_item_text, FitsReport}
use Rattle.net_script.specs.Messages.{FitsReportItem, FitsAcceptItem, FitsReported, reported_words}

-- two literals that differ
pub differ : (a b : List ℕ) → a ≡ b → bytes_eq a b ≡ false → ⊥
differ a b e h = let same : bytes_eq a b ≡ true = (bytes_eq-Decides a b).1 e in absurd (cc)

-- hex of some bytes is not empty
pub hex_some : (y text : List ℕ) → IsSome y → length text ≡ 0 → text ≡ hex_text y → ⊥
hex_some y text is none e = let some = is.0 in omega (arith, ap length e, length-hex_text y)

-- hex is decoded
pub hex_decodes : (y text : List ℕ) (e : FromHexError) → IsSome y → text ≡ hex_text y → decode_of text ≡ Err e → ⊥
hex_decodes y text e is same h =
    let d : decode_of text ≡ Ok y = ap decode_of same ∙ decode_of-encode_lower y is.1 in absurd (cc)

-- hex is no dash
hex_not_dash : (y : List ℕ) → hex_text y ≡ 45 ∷ [] → ⊥
hex_not_dash y e = omega (arith, ap length e, length-hex_text y)

-- bytes that aren't `-` are hex
pub bytes_are_hex : (y text : List ℕ) → IsBytes y → (text ≡ 45 ∷ [] → ⊥) → text ≡ bytes_text y → IsSome y × (text ≡ hex_text y)
bytes_are_hex [] text bytes other e = absurd (other e)
bytes_are_hex (x ∷ y) text bytes other e = ((omega arith, bytes), e)

-- bytes are the only ones of their text
pub bytes_injective : (a b : List ℕ) → IsBytes a → IsBytes b → bytes_text a ≡ bytes_text b → a ≡ b
bytes_injective [] [] p q e = refl
bytes_injective [] (y ∷ b) p q e = absurd (hex_not_dash (y ∷ b) (sym e))
bytes_injective (x ∷ a) [] p q e = absurd (hex_not_dash (x ∷ a) e)
bytes_injective (x ∷ a) (y ∷ b) p q e = hex_same (x ∷ a) (y ∷ b) p q e

-- what is decoded of a text that is not empty is not empty
pub hex_long : (text bytes : List ℕ) (r : Bool) → r ≡ eqb (length text) 0 → r ≡ false → length text ≡ 2 * length bytes → 0 < length bytes
hex_long text bytes r is no' len = grind (arith, nat_tests)

-- a number is the only one of its text
pub number_one : (m n : ℕ) → m < 2 ^ 32 → n < 2 ^ 32 → decimal m ≡ decimal n → m ≡ n
number_one m n p q e = decimal_injective m n (omega arith) (omega arith) e

-- a node is the only one of its text
pub node_injective : (m n : NodeId) → IsNode m → IsNode n → node_text m ≡ node_text n → m ≡ n
node_injective (A m) (A n) p q e = ap A (number_one m n (omega arith) (omega arith) (ap (drop 1) e))
node_injective (L m) (L n) p q e = ap L (number_one m n (omega arith) (omega arith) (ap (drop 1) e))
node_injective (R m) (R n) p q e = ap R (number_one m n (omega arith) (omega arith) (ap (drop 1) e))
node_injective m n p q e = absurd (differ _ _ e refl)

-- a number behind a letter is the only one of its text
lettered_one : (letter m n : ℕ) → m < 256 → n < 256 → letter ∷ decimal m ≡ letter ∷ decimal n → m ≡ n
lettered_one letter m n p q e = number_one m n (omega arith) (omega arith) (ap (drop 1) e)

-- an XID is the only one of its text
pub xid_injective : (x y : XidParts) → IsXid x → IsXid y → xid_text x ≡ xid_text y → x ≡ y
xid_injective x y p q e =
    let front =
    cut_same 58 (decimal x.format) (hex_text x.gtrid ++ 58 ∷ hex_text x.bqual) (decimal y.format)
    (hex_text y.gtrid ++ 58 ∷ hex_text y.bqual)
    (decimal_lacks_colon x.format (omega (arith, p.format))) (decimal_lacks_colon y.format (omega (arith, q.format))) e in
    let back =
    cut_same 58 (hex_text x.gtrid) (hex_text x.bqual) (hex_text y.gtrid) (hex_text y.bqual) (hex_lacks_colon x.gtrid p.gtrid.bytes)
    (hex_lacks_colon y.gtrid q.gtrid.bytes) front.1 in
    let format : x.format ≡ y.format = decimal_injective x.format y.format (omega (arith, p.format)) (omega (arith, q.format)) front.0 in
    let gtrid : x.gtrid ≡ y.gtrid = hex_same x.gtrid y.gtrid p.gtrid.bytes q.gtrid.bytes back.0 in
    let bqual : x.bqual ≡ y.bqual = hex_same x.bqual y.bqual p.bqual.bytes q.bqual.bytes back.1 in
    grind arith

-- ---- transactions

branch_lacks_comma : (b : BranchParts) → IsBranch b → lacks 44 (branch_text b) ≡ true
branch_lacks_comma b is =
    list_all_join (λ byte. not (eqb byte 44)) (decimal b.rm) (61 ∷ hex_text b.bqual)
    (list_all-decimal (λ byte. not (eqb byte 44)) b.rm (λ c low high. grind (arith, nat_tests)) (omega (arith, is.rm)))
    (both_true true (lacks 44 (hex_text b.bqual)) refl (list_all-hex_text (λ byte. not (eqb byte 44)) b.bqual refl is.bqual.bytes))

branch_injective : (b c : BranchParts) → IsBranch b → IsBranch c → branch_text b ≡ branch_text c → b ≡ c
branch_injective b c p q e =
    let lack =
    list_all-decimal (λ byte. not (eqb byte 61)) b.rm (λ c low high. grind (arith, nat_tests)) (omega (arith, p.rm)) in
    let cut = cut_branch c (branch_text b) (decimal b.rm) (hex_text b.bqual) q e (refl, lack) in
    branch_same b.rm b.bqual c (decimal b.rm) (hex_text b.bqual) (omega (arith, p.rm)) p.bqual.bytes q cut refl refl

joined_one : (b : BranchParts) → branches_text (b ∷ []) ≡ branch_text b
joined_one b = append-nil (branch_text b)

joined_more : (b x : BranchParts) (xs : List BranchParts) → branches_text (b ∷ x ∷ xs) ≡ branch_text b ++ 44 ∷ branches_text (x ∷ xs)
joined_more b x xs = ap (λ (t : List ℕ). branch_text b ++ t) (flat_map-cons (λ y. (44 ∷ []) ++ branch_text y) x xs)

one_or_more : (b c x : BranchParts) (xs : List BranchParts) → IsBranch b → branches_text (b ∷ []) ≡ branches_text (c ∷ x ∷ xs) → ⊥
one_or_more b c x xs is e =
    let text : branch_text b ≡ branch_text c ++ 44 ∷ branches_text (x ∷ xs) = sym (joined_one b) ∙ e ∙ joined_more c x xs in
    lacks_not 44 (branch_text c) (branches_text (x ∷ xs)) (subst (λ (t : List ℕ). lacks 44 t ≡ true) text (branch_lacks_comma b is))

branches_injective : (b c : BranchParts) (bs cs : List BranchParts) → All IsBranch (b ∷ bs) → All IsBranch (c ∷ cs)
    → branches_text (b ∷ bs) ≡ branches_text (c ∷ cs) → b ∷ bs ≡ c ∷ cs
branches_injective b c [] [] p q e =
    ap (λ (x : BranchParts). x ∷ [])
    (branch_injective b c (All-head IsBranch b [] p) (All-head IsBranch c [] q) (sym (joined_one b) ∙ e ∙ joined_one c))
branches_injective b c [] (d ∷ cs) p q e = absurd (one_or_more b c d cs (All-head IsBranch b [] p) e)
branches_injective b c (d ∷ bs) [] p q e = absurd (one_or_more c b d bs (All-head IsBranch c [] q) (sym e))
branches_injective b c (d ∷ bs) (f ∷ cs) p q e =
    let is-b = All-head IsBranch b (d ∷ bs) p in
    let is-c = All-head IsBranch c (f ∷ cs) q in
    let cut =
    cut_same 44 (branch_text b) (branches_text (d ∷ bs)) (branch_text c) (branches_text (f ∷ cs)) (branch_lacks_comma b is-b)
    (branch_lacks_comma c is-c) (sym (joined_more b d bs) ∙ e ∙ joined_more c f cs) in
    let head : b ≡ c = branch_injective b c is-b is-c cut.0 in
    let tail : d ∷ bs ≡ f ∷ cs =
    branches_injective d f bs cs (All-tail IsBranch b (d ∷ bs) p) (All-tail IsBranch c (f ∷ cs) q) cut.1 in
    cc

some_branches : (bs cs : List BranchParts) → 0 < length bs → 0 < length cs → All IsBranch bs → All IsBranch cs
    → branches_text bs ≡ branches_text cs → bs ≡ cs
some_branches (b ∷ bs) (c ∷ cs) m n p q e = branches_injective b c bs cs p q e
some_branches [] cs m n p q e = absurd (omega arith)
some_branches bs [] m n p q e = absurd (omega arith)

-- a transaction is the only one of its text
pub tx_injective : (x y : TxParts) → IsTx x → IsTx y → tx_text x ≡ tx_text y → x ≡ y
tx_injective x y p q e =
    let front =
    cut_tx y (tx_text x) (decimal x.format) (hex_text x.gtrid ++ 47 ∷ branches_text x.branches) q e
    (refl, decimal_lacks_colon x.format (omega (arith, p.format))) in
    let back =
    cut_gtrid y (hex_text x.gtrid ++ 47 ∷ branches_text x.branches) (hex_text x.gtrid) (branches_text x.branches) q front.1
    (refl, list_all-hex_text (λ byte. not (eqb byte 47)) x.gtrid refl p.gtrid.bytes) in
    let format : x.format ≡ y.format = decimal_injective x.format y.format (omega (arith, p.format)) (omega (arith, q.format)) front.0 in
    let gtrid : x.gtrid ≡ y.gtrid = hex_same x.gtrid y.gtrid p.gtrid.bytes q.gtrid.bytes back.0 in
    let branches : x.branches ≡ y.branches =
    some_branches x.branches y.branches p.branches.some q.branches.some p.branches.each q.branches.each back.1 in
    grind arith

-- ---- words

-- a text that is written out is a word, by computing
pub literal : {w : List ℕ} → is_word w ≡ true → list_all is_common w ≡ true → IsCommon w
literal some bytes = record { some = some; bytes = bytes }

-- what holds of the words of two lists holds of those of both
pub all_join : (P : List ℕ → Type 0) (vs ws : List (List ℕ)) → AllByRecursion P vs → AllByRecursion P ws → AllByRecursion P (vs ++ ws)
all_join P [] ws p q = q
all_join P (v ∷ vs) ws p q = (p.0, all_join P vs ws p.1 q)

some_word : (w : List ℕ) → 0 < length w → is_word w ≡ true
some_word [] some = absurd (omega arith)
some_word (x ∷ w) some = refl

-- a number's digits are common
pub number_bytes : (n : ℕ) → n < 2 ^ 32 → list_all is_common (decimal n) ≡ true
number_bytes n lt = list_all-decimal is_common n (λ c low high. grind (arith, nat_tests)) lt

hex_bytes : (xs : List ℕ) → IsBytes xs → list_all is_common (hex_text xs) ≡ true
hex_bytes xs bytes = list_all-hex_text is_common xs refl bytes

-- a common word with more of its kind behind it
pub joined : (v w : List ℕ) → IsCommon v → list_all is_common w ≡ true → IsCommon (v ++ w)
joined [] w is more = absurd (cc (is.some))
joined (x ∷ v) w is more = record { some = refl; bytes = list_all_join is_common (x ∷ v) w is.bytes more }

-- a number's text is a word
pub number_common : (n : ℕ) → n < 2 ^ 32 → IsCommon (decimal n)
number_common n lt = record { some = some_word (decimal n) (decimal_nonempty n (omega arith)); bytes = number_bytes n lt }

-- hex of some bytes is a word
pub hex_common : (xs : List ℕ) → IsSome xs → IsCommon (hex_text xs)
hex_common xs is = record {
  some = let some = is.0 in some_word (hex_text xs) (omega (arith, length-hex_text xs));
  bytes = hex_bytes xs is.1;
}

bytes_common : (xs : List ℕ) → IsBytes xs → IsCommon (bytes_text xs)
bytes_common [] bytes = record { some = refl; bytes = refl }
bytes_common (x ∷ xs) bytes = hex_common (x ∷ xs) (omega arith, bytes)

-- a node's text is a word
pub node_common : (n : NodeId) → IsNode n → IsCommon (node_text n)
node_common (A n) lt = record { some = refl; bytes = number_bytes n (omega arith) }
node_common (L n) lt = record { some = refl; bytes = number_bytes n (omega arith) }
node_common (R n) lt = record { some = refl; bytes = number_bytes n (omega arith) }

xid_common : (x : XidParts) → IsXid x → IsCommon (xid_text x)
xid_common x is =
    joined (decimal x.format) (58 ∷ (hex_text x.gtrid ++ 58 ∷ hex_text x.bqual)) (number_common x.format (omega (arith, is.format)))
    (list_all_join is_common (hex_text x.gtrid) (58 ∷ hex_text x.bqual) (hex_bytes x.gtrid is.gtrid.bytes)
    (hex_bytes x.bqual is.bqual.bytes))

branch_bytes : (b : BranchParts) → IsBranch b → list_all is_common (branch_text b) ≡ true
branch_bytes b is = simp (list_all-append, number_bytes b.rm (omega (arith, is.rm)), hex_bytes b.bqual is.bqual.bytes)

later_branches : (bs : List BranchParts) → All IsBranch bs → list_all is_common (flat_map (λ b. (44 ∷ []) ++ branch_text b) bs) ≡ true
later_branches [] are = refl
later_branches (b ∷ bs) are =
    simp (list_all-append, branch_bytes b (All-head IsBranch b bs are), later_branches bs (All-tail IsBranch b bs are))

branches_bytes : (bs : List BranchParts) → All IsBranch bs → list_all is_common (branches_text bs) ≡ true
branches_bytes [] are = refl
branches_bytes (b ∷ bs) are =
    list_all_join is_common (branch_text b) (flat_map (λ y. (44 ∷ []) ++ branch_text y) bs) (branch_bytes b (All-head IsBranch b bs are))
    (later_branches bs (All-tail IsBranch b bs are))

tx_common : (tx : TxParts) → IsTx tx → IsCommon (tx_text tx)
tx_common tx is =
    joined (decimal tx.format) (58 ∷ (hex_text tx.gtrid ++ 47 ∷ branches_text tx.branches))
    (number_common tx.format (omega (arith, is.format)))
    (list_all_join is_common (hex_text tx.gtrid) (47 ∷ branches_text tx.branches) (hex_bytes tx.gtrid is.gtrid.bytes)
    (branches_bytes tx.branches is.branches.each))

-- ---- one text each

-- a number of 32 bits
pub a_number : IsSpelling (λ (n : ℕ). n < 2 ^ 32) decimal
a_number = record { one = number_one; common = number_common }

-- a node
pub a_node : IsSpelling IsNode node_text
a_node = record { one = node_injective; common = node_common }

-- bytes, which may be none
pub some_bytes : IsSpelling IsBytes bytes_text
some_bytes = record { one = bytes_injective; common = bytes_common }

-- an XID
pub an_xid : IsSpelling IsXid xid_text
an_xid = record { one = xid_injective; common = xid_common }

-- a transaction
pub a_tx : IsSpelling IsTx tx_text
a_tx = record { one = tx_injective; common = tx_common }

-- a resource manager by its number
abbrev pub manager_of : ℕ → Manager
manager_of number = record { 0 = number }

-- an acceptor by its number
abbrev pub acceptor_of : ℕ → Acceptor
acceptor_of number = record { 0 = number }

-- a leader by its number
abbrev pub leader_of : ℕ → Leader
leader_of number = record { 0 = number }

-- a node that has timeouts
abbrev pub party_of : NodeId → Party
party_of node = record { 0 = node }

-- bytes of which there is one at least
abbrev pub hex_of : List ℕ → Hex
hex_of bytes = record { 0 = bytes }

is_node : (n : NodeId) → IsParty n → IsNode n
is_node (A n) p = absurd p
is_node (L n) p = p
is_node (R n) p = p

-- a resource manager
pub a_manager : IsSpelling (λ (m : Manager). m.0 < 256) (λ m. node_text (R m.0))
a_manager = record { one = λ x y p q e. ap manager_of (lettered_one _ x.0 y.0 p q e); common = λ x p. node_common (R x.0) p }

-- an acceptor
pub an_acceptor : IsSpelling (λ (m : Acceptor). m.0 < 256) (λ m. node_text (A m.0))
an_acceptor = record { one = λ x y p q e. ap acceptor_of (lettered_one _ x.0 y.0 p q e); common = λ x p. node_common (A x.0) p }

-- a leader
pub a_leader : IsSpelling (λ (m : Leader). m.0 < 256) (λ m. node_text (L m.0))
a_leader = record { one = λ x y p q e. ap leader_of (lettered_one _ x.0 y.0 p q e); common = λ x p. node_common (L x.0) p }

-- a node that has timeouts
pub a_party : IsSpelling (λ (p : Party). IsParty p.0) (λ p. node_text p.0)
a_party = record {
  one = λ x y p q e. ap party_of (node_injective x.0 y.0 (is_node x.0 p) (is_node y.0 q) e);
  common = λ x p. node_common x.0 (is_node x.0 p);
}

-- bytes of which there is one at least
pub a_hex : IsSpelling (λ (h : Hex). IsSome h.0) (λ h. hex_text h.0)
a_hex = record { one = λ x y p q e. ap hex_of (hex_same x.0 y.0 p.1 q.1 e); common = λ x p. hex_common x.0 p }

ending_one : (a b : Action) → IsEnding a → IsEnding b → action_words a ≡ action_words b → a ≡ b
ending_one End End p q e = refl
ending_one EndFail EndFail p q e = refl
ending_one End EndFail p q e = absurd (cc)
ending_one EndFail End p q e = absurd (cc)
ending_one End b p q e = absurd q
ending_one EndFail b p q e = absurd q
ending_one a b p q e = absurd p

ending_common : (a : Action) → IsEnding a → AllByRecursion IsCommon (action_words a)
ending_common End p = tt
ending_common EndFail p = (literal refl refl, tt)
ending_common a p = absurd p

-- how an end ends
pub an_ending : AreSpellings IsEnding action_words
an_ending = record { one = ending_one; common = ending_common }

-- hex has no `=`
pub hex_lacks_equals : (xs : List ℕ) → IsBytes xs → lacks 61 (hex_text xs) ≡ true
hex_lacks_equals xs bytes = list_all-hex_text (λ byte. not (eqb byte 61)) xs refl bytes

row_injective : (a b : Row) → IsRow a → IsRow b → row_text a ≡ row_text b → a ≡ b
row_injective a b is-a is-b e =
    let cut =
    cut_same 61 (hex_text a.key) (bytes_text a.value) (hex_text b.key) (bytes_text b.value) (hex_lacks_equals a.key is-a.key.bytes)
    (hex_lacks_equals b.key is-b.key.bytes) e in
    let key : a.key ≡ b.key = hex_same a.key b.key is-a.key.bytes is-b.key.bytes cut.0 in
    let value : a.value ≡ b.value = bytes_injective a.value b.value is-a.value.bytes is-b.value.bytes cut.1 in
    grind arith

row_common : (row : Row) → IsRow row → IsCommon (row_text row)
row_common row is =
    let value = some_bytes.common row.value is.value.bytes in
    joined (hex_text row.key) (61 ∷ bytes_text row.value) (hex_common row.key (is.key.some, is.key.bytes)) value.bytes

-- a row
pub a_row : IsSpelling IsRow row_text
a_row = record { one = row_injective; common = row_common }

-- the text of a floor is cut at its first colon in one way
pub cut_floor : (floor : Place) (text front back : List ℕ) → IsFloor floor → text ≡ floor_text floor
    → (text ≡ front ++ 58 ∷ back) × (lacks 58 front ≡ true)
    → (front ≡ decimal floor.format) × (back ≡ bytes_text floor.gtrid)
cut_floor floor text front back is e cut =
    cut_same 58 front back (decimal floor.format) (bytes_text floor.gtrid) cut.1
    (decimal_lacks_colon floor.format (omega (arith, is.format))) (sym cut.0 ∙ e)

floor_injective : (a b : Place) → IsFloor a → IsFloor b → floor_text a ≡ floor_text b → a ≡ b
floor_injective a b p q e =
    let cut =
    cut_floor b (floor_text a) (decimal a.format) (bytes_text a.gtrid) q e
    (refl, decimal_lacks_colon a.format (omega (arith, p.format))) in
    let format : a.format ≡ b.format = number_one a.format b.format (omega (arith, p.format)) (omega (arith, q.format)) cut.0 in
    let gtrid : a.gtrid ≡ b.gtrid = bytes_injective a.gtrid b.gtrid p.bytes q.bytes cut.1 in
    grind arith

floor_common : (floor : Place) → IsFloor floor → IsCommon (floor_text floor)
floor_common floor is =
    let gtrid = bytes_common floor.gtrid is.bytes in
    joined (decimal floor.format) (58 ∷ bytes_text floor.gtrid) (number_common floor.format (omega (arith, is.format))) gtrid.bytes

-- a floor
pub a_floor : IsSpelling IsFloor floor_text
a_floor = record { one = floor_injective; common = floor_common }

-- ---- words of lines

-- the first rows of a resource manager
pub a_table : AreSpellings IsContents contents_words
a_table =
    shaped (λ (t : Table). (manager_of t.rm, t.rows)) (λ said. record { rm = said.0.0; rows = said.1 }) (λ t. refl)
    (λ t p. (p.rm, p.rows.each)) (a_manager & list_of_words a_row)

-- last rows
pub final_rows : AreSpellings (λ (rows : FinalRows). AreFinalRows rows.0) (λ rows. rows_words rows.0)
final_rows =
    shaped (λ (rows : FinalRows). rows.0) (λ rows. record { 0 = rows }) (λ rows. refl) (λ rows p. p.each) (list_of_words a_row)

bundled_one : (a b : Bool) → bundled_words a ≡ bundled_words b → a ≡ b
bundled_one true true e = refl
bundled_one false false e = refl
bundled_one a b e = absurd (cc)

bundled_common : (b : Bool) → AllByRecursion IsCommon (bundled_words b)
bundled_common true = (literal refl refl, tt)
bundled_common false = tt

a_bundled : AreSpellings (λ (b : Bool). Unit {0}) bundled_words
a_bundled = record { one = λ a b p q e. bundled_one a b e; common = λ b p. bundled_common b }

-- the cluster
pub a_sizes : AreSpellings IsSizes sizes_words
a_sizes =
    shaped (λ (s : Sizes). (s.acceptors, (s.leaders, (s.rms, s.bundled))))
    (λ said. record { acceptors = said.0; leaders = said.1.0; rms = said.1.1.0; bundled = said.1.1.1 }) (λ s. refl)
    (λ s p. (p.acceptors, (p.leaders, (p.rms, tt))))
    (named (literal refl refl) (a_number & named (literal refl refl) (a_number & named (literal refl refl) (a_number & a_bundled))))

-- ---- votes, reports and items

vote_injective : (v w : Vote) → vote_text v ≡ vote_text w → v ≡ w
vote_injective Vote.Prepared Vote.Prepared e = refl
vote_injective Vote.Aborted Vote.Aborted e = refl
vote_injective v w e = absurd (differ _ _ e refl)

manager_lacks_colon : (n : ℕ) → n < 256 → lacks 58 (node_text (R n)) ≡ true
manager_lacks_colon n lt = both_true (not (eqb 114 58)) (lacks 58 (decimal n)) refl (decimal_lacks_colon n (omega arith))

-- a text with a ballot and a vote is cut at its colon in one way
pub cut_accepted : (n : ℕ) (v : Vote) (text front back : List ℕ) → n < 2 ^ 32 → text ≡ accepted_text n v
    → (text ≡ front ++ 58 ∷ back) × (lacks 58 front ≡ true)
    → (front ≡ decimal n) × (back ≡ vote_text v)
cut_accepted n v text front back lt e cut =
    cut_same 58 front back (decimal n) (vote_text v) cut.1 (decimal_lacks_colon n lt) (sym cut.0 ∙ e)

-- a word of an item is cut at its first colon in one way
pub cut_item : (n : ℕ) (item text front back : List ℕ) → n < 256 → text ≡ node_text (R n) ++ 58 ∷ item
    → (text ≡ front ++ 58 ∷ back) × (lacks 58 front ≡ true)
    → (front ≡ node_text (R n)) × (back ≡ item)
cut_item n item text front back lt e cut = cut_same 58 front back (node_text (R n)) item cut.1 (manager_lacks_colon n lt) (sym cut.0 ∙ e)

-- and so it is where it was cut
pub same_item : (n m : ℕ) (item text word : List ℕ) → n < 256 → m < 256 → word ≡ node_text (R n) ++ 58 ∷ item
    → word ≡ node_text (R m) ++ 58 ∷ text
    → text ≡ item
same_item n m item text word p q e cut = (cut_item n item word (node_text (R m)) text p e (cut, manager_lacks_colon m q)).1

accepted_injective : (m n : ℕ) (v w : Vote) → m < 2 ^ 32 → n < 2 ^ 32 → accepted_text m v ≡ accepted_text n w → (m ≡ n) × (v ≡ w)
accepted_injective m n v w p q e =
    let cut = cut_accepted n w (accepted_text m v) (decimal m) (vote_text v) q e (refl, decimal_lacks_colon m p) in
    (number_one m n p q cut.0, vote_injective v w cut.1)

none_lacks_colon : (n : ℕ) (v : Vote) → codes "none" ≡ accepted_text n v → ⊥
none_lacks_colon n v e = lacks_not 58 (decimal n) (vote_text v) (subst (λ (t : List ℕ). lacks 58 t ≡ true) e refl)

same_report : (a b : ℕ × Vote) → a.0 ≡ b.0 → a.1 ≡ b.1 → Some a ≡ Some b
same_report (m, v) (n, w) p q = ap (λ (k : ℕ). Some (k, v)) p ∙ ap (λ (u : Vote). Some (n, u)) q

report_text_injective : (r s : Option (ℕ × Vote)) → FitsReport r → FitsReport s → report_text r ≡ report_text s → r ≡ s
report_text_injective None None p q e = refl
report_text_injective None (Some b) p q e = absurd (none_lacks_colon b.0 b.1 e)
report_text_injective (Some a) None p q e = absurd (none_lacks_colon a.0 a.1 (sym e))
report_text_injective (Some a) (Some b) p q e =
    let same = accepted_injective a.0 b.0 a.1 b.1 p q e in
    same_report a b same.0 same.1

report_item_injective : (a b : InstanceReport) → FitsReportItem a → FitsReportItem b → report_item_text a ≡ report_item_text b → a ≡ b
report_item_injective a b p q e =
    let cut = cut_item b.instance (report_text b.report) (report_item_text a) (node_text (R a.instance)) (report_text a.report) q.instance e
    (refl, manager_lacks_colon a.instance p.instance) in
    let instance : a.instance ≡ b.instance = lettered_one _ a.instance b.instance p.instance q.instance cut.0 in
    let report : a.report ≡ b.report = report_text_injective a.report b.report p.report q.report cut.1 in
    grind arith

accept_item_injective : (a b : InstanceAccept) → FitsAcceptItem a → FitsAcceptItem b → accept_item_text a ≡ accept_item_text b → a ≡ b
accept_item_injective a b p q e =
    let cut = cut_item b.instance (accepted_text b.ballot b.vote) (accept_item_text a) (node_text (R a.instance))
    (accepted_text a.ballot a.vote) q.instance e (refl, manager_lacks_colon a.instance p.instance) in
    let instance : a.instance ≡ b.instance = lettered_one _ a.instance b.instance p.instance q.instance cut.0 in
    let accepted = accepted_injective a.ballot b.ballot a.vote b.vote p.ballot q.ballot cut.1 in
    let ballot : a.ballot ≡ b.ballot = accepted.0 in
    let vote : a.vote ≡ b.vote = accepted.1 in
    grind arith

vote_common : (v : Vote) → IsCommon (vote_text v)
vote_common Vote.Prepared = record { some = refl; bytes = refl }
vote_common Vote.Aborted = record { some = refl; bytes = refl }

report_common : (r : Option (ℕ × Vote)) → FitsReport r → AllByRecursion IsCommon (report_words r)
report_common None is = (record { some = refl; bytes = refl }, tt)
report_common (Some a) is = (number_common a.0 is, (vote_common a.1, tt))

accepted_bytes : (n : ℕ) (v : Vote) → n < 2 ^ 32 → list_all is_common (accepted_text n v) ≡ true
accepted_bytes n v lt =
    let vote = vote_common v in
    list_all_join is_common (decimal n) (58 ∷ vote_text v) (number_bytes n lt) vote.bytes

report_bytes : (r : Option (ℕ × Vote)) → FitsReport r → list_all is_common (report_text r) ≡ true
report_bytes None is = refl
report_bytes (Some a) is = accepted_bytes a.0 a.1 is

report_item_common : (i : InstanceReport) → FitsReportItem i → IsCommon (report_item_text i)
report_item_common i is =
    joined (node_text (R i.instance)) (58 ∷ report_text i.report) (node_common (R i.instance) is.instance) (report_bytes i.report is.report)

accept_item_common : (i : InstanceAccept) → FitsAcceptItem i → IsCommon (accept_item_text i)
accept_item_common i is =
    joined (node_text (R i.instance)) (58 ∷ accepted_text i.ballot i.vote) (node_common (R i.instance) is.instance)
    (accepted_bytes i.ballot i.vote is.ballot)

-- a vote
pub a_vote : IsSpelling (λ (v : Vote). Unit {0}) vote_text
a_vote = record { one = λ v w p q e. vote_injective v w e; common = λ v p. vote_common v }

-- an item of phase 1b
pub a_report_item : IsSpelling FitsReportItem report_item_text
a_report_item = record { one = report_item_injective; common = report_item_common }

-- an item of phase 2b
pub an_accept_item : IsSpelling FitsAcceptItem accept_item_text
an_accept_item = record { one = accept_item_injective; common = accept_item_common }

-- ---- a report and its acceptor

-- a number's text isn't the word for none
decimal_not_none : (n : ℕ) → n < 2 ^ 32 → codes "none" ≡ decimal n → ⊥
decimal_not_none n lt e =
    let digits : lacks 110 (decimal n) ≡ true =
    list_all-decimal (λ byte. not (eqb byte 110)) n (λ c low high. grind (arith, nat_tests)) lt in
    let none : lacks 110 (codes "none") ≡ true = subst (λ (t : List ℕ). lacks 110 t ≡ true) (sym e) digits in
    absurd (cc)

-- words begin with a report in one way
pub report_front : (r s : Option (ℕ × Vote)) (vs ws : List (List ℕ)) → FitsReport r → FitsReport s
    → report_words r ++ vs ≡ report_words s ++ ws
    → (r ≡ s) × (vs ≡ ws)
report_front None None vs ws p q e =
    let rest : vs ≡ ws = cc in
    (refl, rest)
report_front None (Some y) vs ws p q e = absurd (decimal_not_none y.0 q (cc))
report_front (Some x) None vs ws p q e = absurd (decimal_not_none x.0 p (cc))
report_front (Some x) (Some y) vs ws p q e =
    let ballot : x.0 ≡ y.0 = number_one x.0 y.0 p q (cc) in
    let vote : x.1 ≡ y.1 = vote_injective x.1 y.1 (cc) in
    let rest : vs ≡ ws = cc in
    (same_report x y ballot vote, rest)

-- of these parts
abbrev pub reported : (report : Option (ℕ × Vote)) (acceptor : ℕ) → Reported
reported report acceptor = record { report = report; acceptor = acceptor }

reported_one : (a b : Reported) → FitsReported a → FitsReported b → reported_words a ≡ reported_words b → a ≡ b
reported_one a b p q e =
    let cut = report_front a.report b.report (node_text (A a.acceptor) ∷ []) (node_text (A b.acceptor) ∷ []) p.0 q.0 e in
    let report : a.report ≡ b.report = cut.0 in
    let last : node_text (A a.acceptor) ∷ [] ≡ node_text (A b.acceptor) ∷ [] = cut.1 in
    let node : A a.acceptor ≡ A b.acceptor = node_injective (A a.acceptor) (A b.acceptor) p.1 q.1 (cc) in
    let acceptor : a.acceptor ≡ b.acceptor = cc in
    grind arith

reported_common : (a : Reported) → FitsReported a → AllByRecursion IsCommon (reported_words a)
reported_common a p =
    all_join IsCommon (report_words a.report) (node_text (A a.acceptor) ∷ []) (report_common a.report p.0)
    (node_common (A a.acceptor) p.1, tt)

-- a report and its acceptor
pub a_report : AreSpellings FitsReported reported_words
a_report = record { one = reported_one; common = reported_common }
