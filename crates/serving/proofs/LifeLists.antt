-- Lists of lines and their answers: what holds of each, how they are joined, and the lines that a group takes. Needed where a group is
-- handled (LifeGroups), and where a client is told the end that it waits for (LifeLemmas).
use Rattle.std.proofs.Common.{◌≡◌, ◌≤◌, ◌++◌, ◌∷◌, [], List, ℕ, None, Bool, true, false, not, if◌then◌else◌, length, map}
use Rattle.std.proofs.Common.{refl, sym, ap, ◌∙◌, subst, append_assoc, arith, inl, inr}
use Rattle.std.specs.Prelude.{filter}
use Rattle.std.specs.List.{filter_map, flat_map, list_all, AllByRecursion, AllZip}
use Rattle.std.specs.declared.time.Instant.{Instant}
use Rattle.std.proofs.lemmas.Bool.{and_from, and_parts, cases_Bool, cond_both}
use Rattle.std.proofs.lemmas.List.{map-append}
use Rattle.std.proofs.lemmas.List.Concat.{flat_map-append}
use Rattle.std.proofs.lemmas.List.Folds.{list_all-append}
use Rattle.protocol.specs.declared.nodes.NodeId.{NodeId}
use Rattle.xid.specs.Transactions.{TxParts}
use Rattle.serving.specs.declared.group.Item.{Item}
use Rattle.serving.specs.declared.group.Origin.TheVariants.{Client}
use Rattle.serving.specs.declared.group.Work.{Work}
use Rattle.serving.specs.declared.group.Work.TheVariants.{Say}
use Rattle.serving.specs.declared.stage.Stage.{Stage}
use Rattle.serving.specs.declared.stage.Stage.TheVariants.{Awaiting, Open, Proving}
use Rattle.serving.specs.declared.terms.Terms.{Terms}
use Rattle.serving.specs.declared.words.Wish.TheVariants.{Await}
use Rattle.serving.specs.Clients.{is_awaiting}
use Rattle.serving.specs.Happenings.{after_work, is_await, question, IsSilent}
use Rattle.serving.specs.Lives.{answered_text, has_answer, is_done, is_ended, Answered, AreAmong, AreDone, IsTaken}
use Rattle.serving.specs.Served.{told_text, Served}
use Rattle.serving.specs.Taking.{are_free, holds_up, with_ends, HoldsUpLast, IsItemOf}

-- ---- what holds of each

-- and of each of the first, and of each of the second
pub all_parts : {X : Type 0} (P : X → Type 0) (xs ys : List X) → AllByRecursion P (xs ++ ys) → AllByRecursion P xs × AllByRecursion P ys
all_parts P [] ys all = (tt, all)
all_parts P (x ∷ xs) ys all = let rest = all_parts P xs ys all.1 in ((all.0, rest.0), rest.1)

-- and of each that passes a test
pub all_filter : {X : Type 0} (P : X → Type 0) (p : X → Bool) (xs : List X) → AllByRecursion P xs → AllByRecursion P (filter p xs)
all_filter P p [] all = tt
all_filter P p (x ∷ xs) all =
    cond_both (p x) (x ∷ filter p xs) (filter p xs) (AllByRecursion P) (λ passes. (all.0, all_filter P p xs all.1))
    (λ fails. all_filter P p xs all.1)

-- ---- lines one after another

-- the lines of two lists
pub lines_two : (a b : List Answered)
    → with_ends (map (λ one. one.line) (a ++ b)) ≡ with_ends (map (λ one. one.line) a) ++ with_ends (map (λ one. one.line) b)
lines_two a b =
    ap with_ends (map-append (λ (one : Answered). one.line) a b)
    ∙ flat_map-append (λ (line : List ℕ). line ++ 10 ∷ []) (map (λ one. one.line) a) (map (λ one. one.line) b)

-- the lines that a group took of a client, with what each became; none has ended yet
abbrev pub answered_from : Terms → (until : Instant) → List (List ℕ) → List Served → List Answered
answered_from terms until [] ones = []
answered_from terms until (line ∷ lines) [] = []
answered_from terms until (line ∷ lines) (one ∷ ones) =
    record { terms = terms; line = line; served = one; until = until; end = None } ∷ answered_from terms until lines ones

-- ---- some of a list, in their order

-- none is
pub among_none : {X : Type 0} (all : List X) → AreAmong [] all
among_none [] = refl
among_none (x ∷ all) = inl (among_none all)

-- they are so of more
pub among_more : {X : Type 0} (few all more : List X) → AreAmong few all → AreAmong few (all ++ more)
among_more {X} few [] more none = subst (λ (list : List X). AreAmong list more) (sym none) (among_none more)
among_more few (x ∷ all) more (inl others) = inl (among_more few all more others)
among_more few (x ∷ all) more (inr (rest, is, others)) = inr (rest, is, among_more rest all more others)

-- and one more is, behind
pub among_last : {X : Type 0} (few all : List X) (last : X) → AreAmong few all → AreAmong (few ++ last ∷ []) (all ++ last ∷ [])
among_last {X} few [] last none = inr ([], ap (λ (list : List X). list ++ last ∷ []) none, refl)
among_last few (x ∷ all) last (inl others) = inl (among_last few all last others)
among_last {X} few (x ∷ all) last (inr (rest, is, others)) =
    inr (rest ++ last ∷ [], ap (λ (list : List X). list ++ last ∷ []) is, among_last rest all last others)

-- ---- how they stand

-- a client that doesn't wait: all of its lines were answered
pub done_all : (who : NodeId) (stage : Stage) (answered : List Answered) → is_awaiting stage ≡ false → AreDone who answered stage
    → list_all is_done answered ≡ true
done_all who (Awaiting request until is_asked) answered idle done = absurd (cc)
done_all who Open answered idle done = done
done_all who (Proving challenge) answered idle done = done

-- and the other way round
pub done_open : (who : NodeId) (stage : Stage) (answered : List Answered) → is_awaiting stage ≡ false → list_all is_done answered ≡ true
    → AreDone who answered stage
done_open who (Awaiting request until is_asked) answered idle done = absurd (cc)
done_open who Open answered idle done = done
done_open who (Proving challenge) answered idle done = done

-- lines behind those that were answered
pub done_behind : (who : NodeId) (stage : Stage) (a b : List Answered) → list_all is_done a ≡ true → AreDone who b stage
    → AreDone who (a ++ b) stage
done_behind who (Awaiting request until is_asked) a b all done = (
  a ++ done.0,
  done.1,
  ap (λ (rest : List Answered). a ++ rest) done.2 ∙ sym (append_assoc a done.0 (done.1 ∷ [])),
  list_all-append is_done a done.0 ∙ and_from (list_all is_done a) (list_all is_done done.0) all done.3,
  done.4,
)
done_behind who Open a b all done = list_all-append is_done a b ∙ and_from (list_all is_done a) (list_all is_done b) all done
done_behind who (Proving challenge) a b all done =
    list_all-append is_done a b ∙ and_from (list_all is_done a) (list_all is_done b) all done

-- ---- only the last of what is taken may be an await

-- behind an await there is nothing
abbrev pub OnlyLast : List Item → Type 0
OnlyLast [] = Unit {0}
OnlyLast (item ∷ items) = (is_await item.work ≡ true → items ≡ []) × OnlyLast items

free_no_await : (work : Work) → not (holds_up work) ≡ true → is_await work ≡ true → ⊥
free_no_await (Say (Await tx)) free waits = cc (free)
free_no_await work free waits = cc (waits)

last_of : (front last : List Item) → are_free front ≡ true → length last ≤ 1 → OnlyLast (front ++ last)
last_of [] [] free one = tt
last_of [] (item ∷ []) free one = (λ _. refl, tt)
last_of [] (item ∷ next ∷ rest) free one = absurd (omega (arith, one))
last_of (item ∷ front) last free one =
    let both = and_parts (not (holds_up item.work)) (are_free front) free in
    (λ waits. absurd (free_no_await item.work both.0 waits), last_of front last both.1 one)

-- so it is where only the last holds up what is behind it
pub only_last : (items : List Item) → HoldsUpLast items → OnlyLast items
only_last items last = subst OnlyLast (sym last.whole) (last_of last.front last.last last.free last.one)

-- ---- what the next lines are

-- after these items, all of which are a client's own
abbrev pub own_stage : NodeId → (until : Instant) → List Item → Stage → Stage
own_stage who until [] stage = stage
own_stage who until (item ∷ items) stage = own_stage who until items (after_work who until item.work stage)

-- no await changes nothing
pub no_await : (who : NodeId) (until : Instant) (work : Work) (stage : Stage) → is_await work ≡ false
    → after_work who until work stage ≡ stage
no_await who until (Say (Await tx)) stage none = absurd (cc)
no_await who until work stage none = refl

await_begun : (who : NodeId) (until : Instant) (work : Work) (stage : Stage) → is_await work ≡ true
    → (tx : TxParts) × (work ≡ Say (Await tx)) × (after_work who until work stage ≡ Awaiting (question who tx) until false)
await_begun who until (Say (Await tx)) stage waits = (tx, refl, refl)
await_begun who until work stage waits = absurd (cc)

-- ---- the lines that a group took of a client

text_now : (waits : Bool) (text : List ℕ) → (waits ≡ true → text ≡ []) → (if waits then [] else text) ≡ text
text_now true text silent = sym (silent refl)
text_now false text silent = refl

-- a client's item has what it is answered
abbrev pub IsReady : Served → Type 0
IsReady one = has_answer one.item.work one.reply one.said ≡ true

-- none of the lines that a group took has ended
pub from_ends : (terms : Terms) (until : Instant) (lines : List (List ℕ)) (ones : List Served)
    → filter_map (λ one. one.end) (answered_from terms until lines ones) ≡ []
from_ends terms until [] ones = refl
from_ends terms until (line ∷ lines) [] = refl
from_ends terms until (line ∷ lines) (one ∷ ones) = from_ends terms until lines ones

module _ (terms : Terms) (who : NodeId) (key number : ℕ) (until : Instant) where
  -- each line became one of the items
  abbrev pub Zipped : List (List ℕ) → List Served → Type 0
  Zipped lines ones = AllZip (λ line one. IsItemOf terms (Client key number) line one.item) lines ones

  -- their items are these
  pub from_served : (lines : List (List ℕ)) (ones : List Served) → Zipped lines ones
      → map (λ one. one.served) (answered_from terms until lines ones) ≡ ones
  from_served [] [] each = refl
  from_served [] (one ∷ ones) each = absurd each
  from_served (line ∷ lines) [] each = absurd each
  from_served (line ∷ lines) (one ∷ ones) each = ap (λ (rest : List Served). one ∷ rest) (from_served lines ones each.1)

  -- their lines are these
  pub from_lines : (lines : List (List ℕ)) (ones : List Served) → Zipped lines ones
      → map (λ one. one.line) (answered_from terms until lines ones) ≡ lines
  from_lines [] [] each = refl
  from_lines [] (one ∷ ones) each = absurd each
  from_lines (line ∷ lines) [] each = absurd each
  from_lines (line ∷ lines) (one ∷ ones) each = ap (λ (rest : List (List ℕ)). line ∷ rest) (from_lines lines ones each.1)

  -- they are answered in the group what their items are answered there
  pub from_text : (lines : List (List ℕ)) (ones : List Served) → Zipped lines ones → AllByRecursion IsSilent ones
      → flat_map answered_text (answered_from terms until lines ones) ≡ flat_map told_text ones
  from_text [] [] each silent = refl
  from_text [] (one ∷ ones) each silent = absurd each
  from_text (line ∷ lines) [] each silent = absurd each
  from_text (line ∷ lines) (one ∷ ones) each silent =
      ap (λ (rest : List ℕ). (if is_await one.item.work then [] else told_text one) ++ rest) (from_text lines ones each.1 silent.1)
      ∙ ap (λ (text : List ℕ). text ++ flat_map told_text ones) (text_now (is_await one.item.work) (told_text one) silent.0)

  -- each was taken
  pub from_each : (lines : List (List ℕ)) (ones : List Served) → Zipped lines ones → terms.who ≡ who
      → AllByRecursion (IsTaken who key number) (answered_from terms until lines ones)
  from_each [] [] each at = tt
  from_each [] (one ∷ ones) each at = absurd each
  from_each (line ∷ lines) [] each at = absurd each
  from_each (line ∷ lines) (one ∷ ones) each at = (record { at = at; its = each.0 }, from_each lines ones each.1 at)

  last_waits : (line : List ℕ) (lines : List (List ℕ)) (one : Served) (ones : List Served) (stage : Stage) → Zipped lines ones
      → map (λ one. one.item) ones ≡ [] → is_await one.item.work ≡ true
      → AreDone who (answered_from terms until (line ∷ lines) (one ∷ ones)) (own_stage who until (map (λ one. one.item) (one ∷ ones)) stage)
  last_waits line [] one [] stage each none waits =
      let begun = await_begun who until one.item.work stage waits in
      let last : Answered = record { terms = terms; line = line; served = one; until = until; end = None } in
      subst (AreDone who (last ∷ [])) (sym begun.2)
      ([], last, refl, refl, record { tx = begun.0; work = begun.1; asks = refl; same = refl; waits = refl })
  last_waits line [] one (next ∷ ones) stage each none waits = absurd each
  last_waits line (more ∷ lines) one [] stage each none waits = absurd each
  last_waits line (more ∷ lines) one (next ∷ ones) stage each none waits = absurd (cc (none))

  -- each but an await at the end is answered, and for the end of that its client waits
  pub from_done : (lines : List (List ℕ)) (ones : List Served) (stage : Stage) → Zipped lines ones → AllByRecursion IsReady ones
      → OnlyLast (map (λ one. one.item) ones) → is_awaiting stage ≡ false
      → AreDone who (answered_from terms until lines ones) (own_stage who until (map (λ one. one.item) ones) stage)
  from_done [] [] stage each ready only idle = done_open who stage [] idle refl
  from_done [] (one ∷ ones) stage each ready only idle = absurd each
  from_done (line ∷ lines) [] stage each ready only idle = absurd each
  from_done (line ∷ lines) (one ∷ ones) stage each ready only idle =
      let now : Answered = record { terms = terms; line = line; served = one; until = until; end = None } in
      let rest : List Answered = answered_from terms until lines ones in
      let items : List Item = map (λ one. one.item) ones in
      elim (cases_Bool (is_await one.item.work)) [
        | inl waits ↦ last_waits line lines one ones stage each.1 (only.0 waits) waits
        | inr none ↦
            let ended : is_ended (is_await one.item.work) until None ≡ true = ap (λ (b : Bool). is_ended b until None) none in
            let is_done_now : is_done now ≡ true =
            and_from (has_answer one.item.work one.reply one.said) (is_ended (is_await one.item.work) until None) ready.0 ended in
            subst (λ (after : Stage). AreDone who (now ∷ rest) (own_stage who until items after))
            (sym (no_await who until one.item.work stage none))
            (done_behind who (own_stage who until items stage) (now ∷ []) rest (and_from (is_done now) true is_done_now refl)
            (from_done lines ones stage each.1 ready.1 only.1 idle))
      ]
