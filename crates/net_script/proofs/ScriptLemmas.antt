-- Items of a script, their order, and the lines of a text as far as they were read: for `read_script` and `line_of`.
use Rattle.std.proofs.Common.{◌≡◌, ℕ, ◌<◌, Bool, true, false, List, [], ◌∷◌, ◌++◌, length, drop, map, refl, sym, ap, ◌∙◌, arith, codes}
use Rattle.std.proofs.Common.{Result, Ok, Err, suc, ◌+◌, ◌≤◌, not, take, inl, inr, Option, Some, None, ltb, cond, eqb, eqb-true}
use Rattle.std.specs.List.{All, list_all, AllPairs}
use Rattle.std.specs.Str.{bytes_eq}
use Rattle.std.proofs.lemmas.List.{length-append, nil_from_length, append-nil, map_push, map-append, take_at, append_assoc, length_push}
use Rattle.std.proofs.lemmas.List.Elements.{All-cons, All-append, All-map, All-push, filter-append, All-nil, All-head, All-tail}
use Rattle.std.proofs.lemmas.List.Quantifiers.{all_pairs_push}
use Rattle.net_script.specs.Basics.{Stop, Wrong, Memory, Sizes, Table, Command, Do, Flow, Script, Item}
use Rattle.net_script.specs.declared.items.Item.TheVariants.{Cluster, Contents, Then}
use Rattle.net_script.specs.Items.{IsContents, IsCommand, IsItem, command_words, item_words}
use Rattle.net_script.specs.Spelling.{no_words, ◌&◌}
use Rattle.net_script.specs.Laws.{literal, a_number, a_table, a_sizes}
use Rattle.net_script.specs.Scripts.{script_items, Says, ReadsLine, IsScript, is_note, lines_kept, SpelledBy, CanBegin}
use Rattle.net_script.specs.Scripts.{IsScriptFault, items_so_far, IsLineOf, takes_table, script_with, AddsItem}
use Rattle.std.specs.Option.{ForSome}
use Rattle.std.proofs.lemmas.Bool.{lt-ltb, and_parts}
use Rattle.std.proofs.lemmas.Bool.Decides.{nat_tests}
use Rattle.std.proofs.lemmas.Option.{cond_some, none-some, same_Some}
use Rattle.net_script.proofs.WordLemmas.{differ}
use Rattle.net_script.proofs.Arms.{Arm, made_of, arm_said, apart, HasOneText, texts_go_on}
use Rattle.net_script.proofs.EventLemmas.{is_other, event_apart, event_injective, flow_arm}
use Rattle.net_script.proofs.DraftLemmas.{run, run_append, Apart, managers_before, others_all, all_others, is_other as is_free}
use Rattle.xid.proofs.Texts.{first_true, second_true, both_true}
use Rattle.std.proofs.lemmas.List.Folds.{list_all-append}
use Rattle.net_script.specs.Lines.{lines, words, is_plain, IsFirstPiece}

-- ---- one value for one list of words

command_injective : (a b : Command) → IsCommand a → IsCommand b → command_words a ≡ command_words b → a ≡ b
command_injective (Do a) (Do b) p q e = ap Do (event_injective a b p q e)
command_injective (Do a) (Flow n) p q e =
    sym ((arm_said (a_number & no_words) flow_arm (literal refl refl) (Flow n) q _ refl).one (Do a) p (sym e))
command_injective (Flow m) b p q e = (arm_said (a_number & no_words) flow_arm (literal refl refl) (Flow m) p _ refl).one b q e

command_apart : (word : List ℕ) (rest : List (List ℕ)) (y : Command) → is_other word ≡ true → bytes_eq word (codes "flow") ≡ false
    → word ∷ rest ≡ command_words y → ⊥
command_apart word rest (Do y) other off e = event_apart word y other (cc)
command_apart word rest (Flow n) other off e = differ word (codes "flow") (cc) off

pub cluster_arm : Arm a_sizes IsItem item_words (codes "cluster") Cluster
cluster_arm (Cluster s) p args e = made_of s p (cc) refl
cluster_arm (Then y) p args e = absurd (command_apart _ _ y refl refl e)
cluster_arm item p args e = absurd (apart _ _ e refl)

pub table_arm : Arm a_table IsItem item_words (codes "table") Contents
table_arm (Contents t) p args e = made_of t p (cc) refl
table_arm (Then y) p args e = absurd (command_apart _ _ y refl refl e)
table_arm item p args e = absurd (apart _ _ e refl)

item_injective : (a b : Item) → IsItem a → IsItem b → item_words a ≡ item_words b → a ≡ b
item_injective (Then a) (Then b) p q e = ap Then (command_injective a b p q e)
item_injective (Then a) (Cluster t) p q e =
    sym ((arm_said a_sizes cluster_arm (literal refl refl) (Cluster t) q _ refl).one (Then a) p (sym e))
item_injective (Then a) (Contents t) p q e =
    sym ((arm_said a_table table_arm (literal refl refl) (Contents t) q _ refl).one (Then a) p (sym e))
item_injective (Cluster s) b p q e = (arm_said a_sizes cluster_arm (literal refl refl) (Cluster s) p _ refl).one b q e
item_injective (Contents s) b p q e = (arm_said a_table table_arm (literal refl refl) (Contents s) p _ refl).one b q e

pub items_have_one_text : HasOneText IsItem item_words
items_have_one_text = record { same = item_injective }

pub items_valid : (s : Script) → IsScript s → All IsItem (script_items s)
items_valid s is = search (All-cons, All-append, All-map)

-- ---- the order of items

-- a script of these parts
abbrev script_of : Sizes → List Table → List Command → Script
script_of sizes tables commands = record { sizes = sizes; tables = tables; commands = commands }

-- items of a script
abbrev on : Script → Item → Option Script
on s item = script_with (Some s) item

abbrev later_items : Script → List Item
later_items s = map Contents s.tables ++ map Then s.commands

run_tables : (s : Sizes) (done ts : List Table) → All (λ table. table.rm < s.rms) ts → AllPairs Apart (done ++ ts)
    → run on (Some (script_of s done [])) (map Contents ts) ≡ Some (script_of s (done ++ ts) [])
run_tables s done [] below once = simp append-nil
run_tables s done (x ∷ ts) below once =
    let takes : takes_table (script_of s done []) x ≡ true =
    both_true (ltb x.rm s.rms) (list_all (is_free x.rm) done) (lt-ltb x.rm s.rms (All-head (λ table. table.rm < s.rms) x ts below))
    (others_all x.rm done (managers_before done ts x once)) in
    let rest = run_tables s (done ++ x ∷ []) ts (All-tail (λ table. table.rm < s.rms) x ts below) (rw append_assoc once) in
    ap (λ (b : Bool). run on (cond b (Some (script_of s (done ++ x ∷ []) [])) None) (map Contents ts)) takes ∙ simp (rest, append_assoc)

run_commands : (s : Sizes) (ts : List Table) (done cs : List Command)
    → run on (Some (script_of s ts done)) (map Then cs) ≡ Some (script_of s ts (done ++ cs))
run_commands s ts done [] = simp append-nil
run_commands s ts done (c ∷ cs) = simp (run_commands s ts (done ++ c ∷ []) cs, append_assoc)

run_items : (s : Script) → IsScript s → run on (Some (script_of s.sizes [] [])) (later_items s) ≡ Some s
run_items s is = simp (run_append, run_tables s.sizes [] s.tables is.managers is.once, run_commands s.sizes s.tables [] s.commands)

pub scripts_same : (s t : Script) → IsScript s → IsScript t → script_items s ≡ script_items t → s ≡ t
scripts_same s t p q e =
    let sizes : s.sizes ≡ t.sizes = cc in
    let later : later_items s ≡ later_items t = ap (drop 1) e in
    same_Some s t (sym (run_items s p) ∙ rw (sizes, later) (run_items t q))

-- no script has an item that can't follow
nothing_follows : (o : Option Script) (i : Item) (later : List Item) (t : Script) → ForSome o IsScript → IsScript t
    → script_with o i ≡ None → script_items t ≡ items_so_far o ++ i ∷ later → ⊥
nothing_follows None (Cluster z) later t is valid none e = absurd (cc)
nothing_follows None i later t is valid none e = absurd (cc)
nothing_follows (Some s) i later t is valid none e =
    let sizes : t.sizes ≡ s.sizes = cc in
    let parts : later_items t ≡ later_items s ++ i ∷ later = ap (drop 1) e in
    let front = run_append on (Some (script_of s.sizes [] [])) (later_items s) (i ∷ later) in
    let gone : run on (Some (script_of t.sizes [] [])) (later_items t) ≡ None =
    rw (sizes, parts, front, run_items s (is s refl)) (ap (λ (r : Option Script). run on r later) none) in
    none-some t (sym gone ∙ run_items t valid)

table_added : (s : Script) (t : Table) → IsScript s → IsContents t → takes_table s t ≡ true
    → IsScript (record s { tables = s.tables ++ t ∷ [] })
    × (script_items (record s { tables = s.tables ++ t ∷ [] }) ≡ script_items s ++ Contents t ∷ [])
table_added s t is range takes =
    let parts = and_parts _ _ takes in
    let front = and_parts (eqb (length s.commands) 0) (ltb t.rm s.sizes.rms) parts.0 in
    let none = nil_from_length s.commands (eqb-true (length s.commands) 0 front.0) in
    let less : t.rm < s.sizes.rms = let lt = front.1 in grind (arith, nat_tests) in (
      record {
        sizes = is.sizes;
        tables = All-push IsContents s.tables t is.tables range;
        managers = All-push (λ (u : Table). u.rm < s.sizes.rms) s.tables t is.managers less;
        once = all_pairs_push Apart s.tables t is.once (all_others t.rm s.tables parts.1);
        commands = is.commands;
      },
      simp (none, map_push, append-nil),
    )

-- the script with one more item is one, of the items so far and that one
item_added : (o : Option Script) (i : Item) (s : Script) → ForSome o IsScript → IsItem i → script_with o i ≡ Some s
    → IsScript s × (script_items s ≡ items_so_far o ++ i ∷ [])
item_added None (Cluster z) s is range e =
    rw (← (same_Some (script_of z [] []) s e)) (
      record {
        sizes = range;
        tables = All-nil IsContents;
        managers = All-nil (λ (u : Table). u.rm < z.rms);
        once = λ i j d less within. absurd (omega arith);
        commands = All-nil IsCommand;
      },
      refl,
    )
item_added None i s is range e = absurd (cc)
item_added (Some r) (Cluster z) s is range e = absurd (cc)
item_added (Some r) (Contents t) s is range e =
    let got = cond_some (takes_table r t) (record r { tables = r.tables ++ t ∷ [] }) s e in
    rw (← got.1) (table_added r t (is r refl) range got.0)
item_added (Some r) (Then c) s is range e =
    let before = is r refl in
    rw (← (same_Some (record r { commands = r.commands ++ c ∷ [] }) s e)) (
      record {
        sizes = before.sizes;
        tables = before.tables;
        managers = before.managers;
        once = before.once;
        commands = All-push IsCommand r.commands c before.commands range;
      },
      simp (map_push, append_assoc),
    )

-- what a line makes of the items before it is what its item does
pub reads_item : (o : Option Script) (line : List ℕ) (item : Item) → ForSome o IsScript → IsItem item → Says line item
    → (r : Result Script Stop) → AddsItem o item r → ReadsLine (items_so_far o) line r
reads_item o line item valid is says (Ok s) adds =
    let added = item_added o item s valid is adds in
    (item, is, says, added.0, added.1)
reads_item o line item valid is says (Err Wrong) adds = λ other q own later s whole e.
    nothing_follows o item later s valid whole adds
    (e ∙ ap (λ (i : Item). items_so_far o ++ i ∷ later) (item_injective other item q is (sym own.1 ∙ says.1)))
reads_item o line item valid is says (Err Memory) adds = tt

-- what lines say so far
abbrev pub SoFar : List (List ℕ) → Option Script → Type 0
SoFar seen None = lines_kept seen ≡ []
SoFar seen (Some s) = SpelledBy seen s

-- so many lines are read, and these bytes are left
pub record Reached (bytes rest : List ℕ) (number : ℕ) : Type 0 where
  pub left : lines bytes ≡ take number (lines bytes) ++ lines rest
  pub counted : length (take number (lines bytes)) ≡ number
  pub short : number + length rest ≤ length bytes

pub record Progress (bytes rest : List ℕ) (number : ℕ) (script : Option Script) : Type 0 where
  pub reached : Reached bytes rest number
  pub said : SoFar (take number (lines bytes)) script

abbrev is_kept : List ℕ → Bool
is_kept line = not (is_note (words line))

-- ---- one line more

kept_same : (seen more : List (List ℕ)) (script : Option Script) → lines_kept more ≡ lines_kept seen → SoFar seen script → SoFar more script
kept_same seen more None e said = e ∙ said
kept_same seen more (Some s) e said = record {
  plain = ap (list_all (list_all is_plain)) e ∙ said.plain;
  says = ap (map words) e ∙ said.says;
  valid = said.valid;
}

-- lines of printed ASCII that say these items
record Say (seen : List (List ℕ)) (items : List Item) : Type 0 where
  plain : list_all (list_all is_plain) (lines_kept seen) ≡ true
  says : map words (lines_kept seen) ≡ map item_words items
  valid : All IsItem items

so_far_say : (seen : List (List ℕ)) (script : Option Script) → SoFar seen script → Say seen (items_so_far script)
so_far_say seen None said =
    record { plain = ap (list_all (list_all is_plain)) said; says = ap (map words) said; valid = All-nil IsItem }
so_far_say seen (Some s) said = record { plain = said.plain; says = said.says; valid = items_valid s said.valid }

so_far_begins : (seen : List (List ℕ)) (script : Option Script) → SoFar seen script → CanBegin seen
so_far_begins seen None said = inl said
so_far_begins seen (Some s) said = inr ([], s, rw append-nil said)

said_more : (seen more : List (List ℕ)) (line : List ℕ) (script : Option Script) (s : Script)
    → lines_kept more ≡ lines_kept seen ++ line ∷ [] → SoFar seen script → ReadsLine (items_so_far script) line (Ok s)
    → SpelledBy more s
said_more seen more line script s kept said (item, is, own, valid, parts) =
    let before = so_far_say seen script said in
    record {
      plain = simp (kept, list_all-append, before.plain, own.0);
      says = ap (map words) kept ∙ map-append words (lines_kept seen) (line ∷ [])
          ∙ (rw (before.says, own.1) (sym (ap (map item_words) parts ∙ map-append item_words (items_so_far script) (item ∷ []))));
      valid = valid;
    }

nil_not_push : {X : Type 0} (xs : List X) (x : X) → xs ++ x ∷ [] ≡ [] → ⊥
nil_not_push [] x e = absurd (cc)
nil_not_push (y ∷ xs) x e = absurd (cc)

fails_more : (seen more : List (List ℕ)) (line : List ℕ) (script : Option Script) → lines_kept more ≡ lines_kept seen ++ line ∷ []
    → SoFar seen script → ReadsLine (items_so_far script) line (Err Wrong)
    → CanBegin more → ⊥
fails_more seen more line script kept said read (inl none) = nil_not_push (lines_kept seen) line (sym kept ∙ none)
fails_more seen more line script kept said read (inr (rest, s, spelled)) =
    let before = so_far_say seen script said in
    let all : lines_kept (more ++ rest) ≡ lines_kept seen ++ line ∷ lines_kept rest =
    filter-append is_kept more rest ∙ ap (λ (l : List (List ℕ)). l ++ lines_kept rest) kept
    ∙ append_assoc (lines_kept seen) (line ∷ []) (lines_kept rest) in
    let says : map item_words (items_so_far script) ++ words line ∷ map words (lines_kept rest) ≡ map item_words (script_items s) =
    rw (← before.says)
    (sym (map-append words (lines_kept seen) (line ∷ lines_kept rest)) ∙ sym (ap (map words) all) ∙ spelled.says) in
    let on = texts_go_on items_have_one_text (items_so_far script) (script_items s) (words line) (map words (lines_kept rest))
    (before.valid, items_valid s spelled.valid) says in
    let plain = ap (list_all (list_all is_plain)) (sym all) ∙ spelled.plain in
    let own : list_all is_plain line ≡ true = first_true (list_all is_plain line) (list_all (list_all is_plain) (lines_kept rest))
    (second_true (list_all (list_all is_plain) (lines_kept seen)) (list_all (list_all is_plain) (line ∷ lines_kept rest))
    (sym (list_all-append (list_all is_plain) (lines_kept seen) (line ∷ lines_kept rest)) ∙ plain)) in
    read on.next on.valid (own, on.says) on.later s spelled.valid on.parts

-- ---- the loop

-- the lines that were read
abbrev front : List ℕ → ℕ → List (List ℕ)
front bytes number = take number (lines bytes)

-- the lines up to the next one, which is passed over or says something
pub record UpToNext (bytes line after : List ℕ) (number : ℕ) : Type 0 where
  pub reached : Reached bytes after (number + 1)
  pub within : number < length (lines bytes)
  pub passed : is_note (words line) ≡ true → lines_kept (take (number + 1) (lines bytes)) ≡ lines_kept (take number (lines bytes))
  pub kept : is_note (words line) ≡ false
      → lines_kept (take (number + 1) (lines bytes)) ≡ lines_kept (take number (lines bytes)) ++ line ∷ []

next_line : {bytes rest line after : List ℕ} {number : ℕ}
    → Reached bytes rest number → IsFirstPiece 10 rest line after → UpToNext bytes line after number
next_line {bytes = bytes} {line = line} {after = after} {number = number} so first =
    let seen : List (List ℕ) = take number (lines bytes) in
    let all : lines bytes ≡ (seen ++ line ∷ []) ++ lines after = so.left ∙ simp (first.cut, append_assoc) in
    let len : length (seen ++ line ∷ []) ≡ number + 1 = length_push seen line ∙ ap (λ (n : ℕ). n + 1) so.counted in
    let more = ap (take (number + 1)) all ∙ take_at (seen ++ line ∷ []) (lines after) (number + 1) len in
    record {
      reached = record {
        left = all ∙ ap (λ (l : List (List ℕ)). l ++ lines after) (sym more);
        counted = ap length more ∙ len;
        short = let a = so.short in let b = first.shorter in omega arith;
      };
      within = omega (arith, ap length all, len, length-append (seen ++ line ∷ []) (lines after));
      passed = λ note. ap lines_kept more ∙ (filter-append is_kept seen (line ∷ []) ∙ simp (note, append-nil));
      kept = λ note. ap lines_kept more ∙ (filter-append is_kept seen (line ∷ []) ∙ simp note);
    }

pub step_passed : {bytes rest line after : List ℕ} {number : ℕ} {script : Option Script}
    → Progress bytes rest number script → IsFirstPiece 10 rest line after → is_note (words line) ≡ true
    → Progress bytes after (number + 1) script
step_passed {bytes = bytes} {number = number} {script = script} so first note =
    let next = next_line so.reached first in
    record { reached = next.reached; said = kept_same (front bytes number) (front bytes (number + 1)) script (next.passed note) so.said }

pub step_said : {bytes rest line after : List ℕ} {number : ℕ} {script : Option Script} (s : Script)
    → Progress bytes rest number script → IsFirstPiece 10 rest line after → is_note (words line) ≡ false
    → ReadsLine (items_so_far script) line (Ok s) → Progress bytes after (number + 1) (Some s)
step_said {bytes = bytes} {line = line} {number = number} {script = script} s so first note read =
    let next = next_line so.reached first in
    let said = said_more (front bytes number) (front bytes (number + 1)) line script s (next.kept note) so.said read in
    record { reached = next.reached; said = said }

pub step_fails : {bytes rest line after : List ℕ} {number : ℕ} {script : Option Script}
    → Progress bytes rest number script → IsFirstPiece 10 rest line after → is_note (words line) ≡ false
    → ReadsLine (items_so_far script) line (Err Wrong) → IsScriptFault bytes (number + 1)
step_fails {bytes = bytes} {line = line} {number = number} {script = script} so first note read =
    let next = next_line so.reached first in
    inl (record {
      before = number;
      counted = omega arith;
      within = next.within;
      can = so_far_begins (front bytes number) script so.said;
      fails = fails_more (front bytes number) (front bytes (number + 1)) line script (next.kept note) so.said read;
    })

-- ---- which line says an item

-- so many lines of those read say something, no more than the place that is looked for
pub record Counted (bytes rest : List ℕ) (number passed place : ℕ) : Type 0 where
  pub reached : Reached bytes rest number
  pub kept : length (lines_kept (take number (lines bytes))) ≡ passed
  pub few : passed ≤ place

pub count_passed : {bytes rest line after : List ℕ} {number passed place : ℕ} → Counted bytes rest number passed place
    → IsFirstPiece 10 rest line after → is_note (words line) ≡ true → Counted bytes after (number + 1) passed place
count_passed so first note =
    let next = next_line so.reached first in
    record { reached = next.reached; kept = ap length (next.passed note) ∙ so.kept; few = so.few }

kept_more : {bytes rest line after : List ℕ} {number passed place : ℕ} → Counted bytes rest number passed place
    → IsFirstPiece 10 rest line after → is_note (words line) ≡ false
    → length (lines_kept (take (number + 1) (lines bytes))) ≡ passed + 1
kept_more {bytes = bytes} {line = line} {number = number} so first note =
    let next = next_line so.reached first in
    ap length (next.kept note) ∙ length_push (lines_kept (front bytes number)) line ∙ ap (λ (n : ℕ). n + 1) so.kept

pub count_said : {bytes rest line after : List ℕ} {number passed place : ℕ} → Counted bytes rest number passed place
    → IsFirstPiece 10 rest line after → is_note (words line) ≡ false → passed < place → Counted bytes after (number + 1) (passed + 1) place
count_said so first note less =
    let next = next_line so.reached first in
    record { reached = next.reached; kept = kept_more so first note; few = omega arith }

pub count_found : {bytes rest line after : List ℕ} {number passed place : ℕ} → Counted bytes rest number passed place
    → IsFirstPiece 10 rest line after → is_note (words line) ≡ false → passed ≡ place → IsLineOf bytes place (number + 1)
count_found {number = number} {passed = passed} {place = place} so first note same =
    let next = next_line so.reached first in
    let one : passed + 1 ≡ suc place = omega arith in
    record {
      before = number;
      counted = omega arith;
      within = next.within;
      earlier = so.kept ∙ same;
      says = kept_more so first note ∙ one;
    }
