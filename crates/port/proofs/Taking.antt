-- How what a member is handed is set aside, grouped, and taken.
-- Needed by 9 functions of this crate; crate floored_groups.
use Rattle.std.proofs.Common.{◌≡◌, ◌∙◌, ℕ, ◌+◌, ◌<◌, ◌≤◌, Bool, true, false, ◌&&◌, not, List, [], ◌∷◌, ◌++◌, length, map, take, drop}
use Rattle.std.proofs.Common.{zero, suc, get_or, set, inl, Option, Some, None, refl, sym, ap, subst, arith}
use Rattle.std.specs.Prelude.{◌||◌, if◌then◌else◌, is_some, MatchBool, Result, Ok, Err}
use Rattle.std.specs.List.{list_any}
use Rattle.std.specs.Option.{option_map_or}
use Rattle.std.proofs.lemmas.Bool.{or_parts, or_right}
use Rattle.std.proofs.lemmas.List.{take_all, take_more, take_more_set, drop_more, drop-set-lt, get_or-drop, get_or-map}
use Rattle.std.proofs.lemmas.List.{length-map, length-set, map_push}
use Rattle.std.proofs.lemmas.List.Folds.{list_any-append}
use Rattle.xid.specs.Places.{Place}
use Rattle.wire.specs.declared.notice.Notice.{Notice}
use Rattle.stable_record.specs.declared.record.RecordError.{RecordError}
use Rattle.protocol.specs.declared.nodes.NodeId.{NodeId}
use Rattle.protocol.specs.Effects.{Config}
use Rattle.protocol.specs.Nodes.{Input, NodeState, ReceivedNoise}
use Rattle.node_core.specs.declared.output.Input.{Input as Handed}
use Rattle.node_core.specs.declared.output.Output.{Output}
use Rattle.node_core.specs.Groups.{GroupsAs}
use Rattle.node_core.specs.Nodes.{NodeStands, input_of}
use Rattle.floors.specs.Nodes.{is_input_below}
use Rattle.floored.specs.Nodes.{FlooredGroupsAs, FlooredParts, FlooredStands, are_above}
use Rattle.port.specs.Members.{Acts, Hears, Item, MemberParts, TakesAll, TakesApart, TakesGroup, TakesIf, TakesThose, grouped, is_aside}
use Rattle.port.specs.Members.{item_of, member_of, notice_in}

-- ---- set aside

module _ (floor : Option Place) (who : NodeId) (input : Handed) where
  -- a notice is set aside
  pub aside_notice : (notice : Notice) → Some notice ≡ notice_in who input → is_aside floor (item_of who input) ≡ true
  aside_notice notice e = ap (λ (o : Option Notice). is_aside floor (option_map_or Hears o (Acts (input_of input)))) (sym e)

  -- any other input is where it is below the floor
  pub aside_input : None ≡ notice_in who input → is_aside floor (item_of who input) ≡ is_input_below floor (input_of input)
  aside_input e = ap (λ (o : Option Notice). is_aside floor (option_map_or Hears o (Acts (input_of input)))) (sym e)

  kept_by : (o : Option Notice) → is_aside floor (option_map_or Hears o (Acts (input_of input))) ≡ false
      → grouped floor (option_map_or Hears o (Acts (input_of input))) ≡ input_of input
  kept_by None kept = ap (λ (b : Bool). if b then ReceivedNoise else input_of input) kept
  kept_by (Some notice) kept = absurd (cc (kept))

  -- what isn't stands in a group itself
  pub kept_grouped : is_aside floor (item_of who input) ≡ false → grouped floor (item_of who input) ≡ input_of input
  kept_grouped kept = kept_by (notice_in who input) kept

-- for what is there stands noise
pub aside_grouped : (floor : Option Place) (item : Item) → is_aside floor item ≡ true → grouped floor item ≡ ReceivedNoise
aside_grouped floor (Acts input) aside = ap (λ (b : Bool). if b then ReceivedNoise else input) aside
aside_grouped floor (Hears notice) aside = refl

-- nothing in a group is below the floor
grouped_high : (floor : Option Place) (item : Item) → is_input_below floor (grouped floor item) ≡ false
grouped_high floor (Hears notice) = refl
grouped_high floor (Acts input) = by (is_input_below floor input) refl
  where
    by : (below : Bool) → is_input_below floor input ≡ below
        → is_input_below floor (if below then ReceivedNoise else input) ≡ false
    by true e = refl
    by false e = e

-- no input that stands in a group is below the floor
pub all_high : (floor : Option Place) (items : List Item) → are_above floor (map (grouped floor) items) ≡ true
all_high floor [] = refl
all_high floor (item ∷ items) = λ k. not (grouped_high floor item k) && all_high floor items k

-- where nothing is set aside, a group is what it is made of
pub whole_grouped : (floor : Option Place) (who : NodeId) (inputs : List Handed)
    → list_any (is_aside floor) (map (item_of who) inputs) ≡ false
    → map (grouped floor) (map (item_of who) inputs) ≡ map input_of inputs
whole_grouped floor who [] none = refl
whole_grouped floor who (input ∷ inputs) none =
    let parts = or_parts (is_aside floor (item_of who input)) (list_any (is_aside floor) (map (item_of who) inputs)) none in
    λ k. kept_grouped floor who input parts.0 k ∷ whole_grouped floor who inputs parts.1 k

-- ---- a group

module _ (old new : FlooredParts) (told : List (Option Place)) (now : MemberParts) (is : member_of old told ≡ now) (inputs : List Input)
    (outs : List Output) (result : Result (Unit {0}) RecordError) where
  -- what a group of the node beneath comes to at a member
  pub group_seen : ((config : Config) (m : NodeState) → FlooredStands config old m → FlooredGroupsAs config m inputs old new outs result)
      → ((config : Config) (m : NodeState) → NodeStands config old.node m → GroupsAs config m inputs old.node new.node outs result)
      → (items : List Item) → inputs ≡ map (grouped now.floored.floor) items → TakesGroup items now (member_of new told) outs result
  group_seen machine node items inputs_are =
      subst (λ (x : MemberParts). inputs ≡ map (grouped x.floored.floor) items → TakesGroup items x (member_of new told) outs result) is
      (λ are. record {
        machine = subst (λ (xs : List Input). (config : Config) (m : NodeState) → FlooredStands config old m
            → FlooredGroupsAs config m xs old new outs result) are machine;
        node = subst (λ (xs : List Input). (config : Config) (m : NodeState) → NodeStands config old.node m
            → GroupsAs config m xs old.node new.node outs result) are node;
        told_is = refl;
      }) inputs_are

-- none of them was taken beside it
none_taken : (test : Item → Bool) (items : List Item) (outs : List Output) (now : MemberParts) → list_any test items ≡ false
    → length outs ≡ length items → TakesThose (map test items) items now now outs outs
none_taken test [] [] now none long = refl
none_taken test [] (out ∷ outs) now none long = absurd (cc (long))
none_taken test (item ∷ items) [] now none long = absurd (cc (long))
none_taken test (item ∷ items) (out ∷ outs) now none long =
    let parts = or_parts (test item) (list_any test items) none in (
      now,
      subst (λ (b : Bool). TakesIf b item now now out out) (sym parts.0) (refl, refl),
      none_taken test items outs now parts.1 (omega (arith, long)),
    )

module _ (items : List Item) (old new : MemberParts) (before outs : List Output) (up : is_some old.floored.node.role ≡ true) where
  -- a group of all
  pub taken_whole : list_any (is_aside old.floored.floor) items ≡ false → length outs ≡ length items
      → (result : Result (Unit {0}) RecordError) → TakesGroup items old new outs result → TakesAll items old new before outs result
  taken_whole none long (Ok done) group =
      subst (λ (b : Bool). MatchBool b (TakesApart items old new outs)
      (TakesThose (map (λ item. true) items) items old new before outs)) (sym up)
      (record { between = new; middle = outs; group = group; asides = none_taken (is_aside old.floored.floor) items outs new none long })
  taken_whole none long (Err error) group = inl group

  -- a group, and then what was set aside
  pub taken_apart : (between : MemberParts) (middle : List Output) → TakesGroup items old between middle (Ok tt)
      → TakesThose (map (is_aside old.floored.floor) items) items between new middle outs → TakesAll items old new before outs (Ok tt)
  taken_apart between middle group asides =
      subst (λ (b : Bool). MatchBool b (TakesApart items old new outs)
      (TakesThose (map (λ item. true) items) items old new before outs)) (sym up)
      (record { between = between; middle = middle; group = group; asides = asides })

-- ---- one after another

takes_then : (m n : List Bool) (xs ys : List Item) (a b c : MemberParts) (p r q s : List Output) → TakesThose m xs a b p q
    → TakesThose n ys b c r s → TakesThose (m ++ n) (xs ++ ys) a c (p ++ r) (q ++ s)
takes_then [] n [] ys a b c [] r [] s none rest = subst (λ (x : MemberParts). TakesThose n ys x c r s) none rest
takes_then (t ∷ m) n (x ∷ xs) ys a b c (w ∷ p) r (o ∷ q) s h rest =
    (h.0, h.1, takes_then m n xs ys h.0 b c p r q s h.2 rest)
takes_then [] n (x ∷ xs) ys a b c p r q s h rest = absurd h
takes_then [] n [] ys a b c (w ∷ p) r q s h rest = absurd h
takes_then [] n [] ys a b c [] r (o ∷ q) s h rest = absurd h
takes_then (t ∷ m) n [] ys a b c p r q s h rest = absurd h
takes_then (t ∷ m) n (x ∷ xs) ys a b c [] r q s h rest = absurd h
takes_then (t ∷ m) n (x ∷ xs) ys a b c (w ∷ p) r [] s h rest = absurd h

takes_as : (m n : List Bool) (xs ys : List Item) (a b : MemberParts) (p q r s : List Output) → m ≡ n → xs ≡ ys → p ≡ q → r ≡ s
    → TakesThose m xs a b p r → TakesThose n ys a b q s
takes_as m n xs ys a b p q r s marks items before after h =
    subst (λ (n : List Bool). TakesThose n ys a b q s) marks
    (subst (λ (ys : List Item). TakesThose m ys a b q s) items
    (subst (λ (q : List Output). TakesThose m xs a b q s) before
    (subst (λ (s : List Output). TakesThose m xs a b p s) after h)))

-- the first so many of them were taken
pub record HaveTaken (k : ℕ) (marks : List Bool) (items : List Item) (start now : MemberParts) (before after : List Output) : Type 0 where
  pub so_far : TakesThose (take k marks) (take k items) start now (take k before) (take k after)
  pub rest : drop k after ≡ drop k before
  pub long : length after ≡ length before
  pub who_is : now.floored.node.who ≡ start.floored.node.who

-- nothing was taken of what is set aside
pub none_yet : (marks : List Bool) (items : List Item) (start : MemberParts) (outs : List Output)
    → HaveTaken 0 marks items start start outs outs
none_yet marks items start outs = record { so_far = refl; rest = refl; long = refl; who_is = refl }

at_front : (n : ℕ) (xs : List Output) (d : Output) → get_or (drop n xs) 0 d ≡ get_or xs n d
at_front n xs d = let e : n + 0 ≡ n = omega arith in get_or-drop n xs 0 d ∙ ap (λ (k : ℕ). get_or xs k d) e

one_more : {X : Type 0} (xs : List X) (k : ℕ) (x : X) → k < length xs → x ≡ get_or xs k x → take k xs ++ x ∷ [] ≡ take (k + 1) xs
one_more {X} xs k x lt read = sym (take_more xs k x lt ∙ ap (λ (y : X). take k xs ++ y ∷ []) (sym read))

module _ (k : ℕ) (marks : List Bool) (items : List Item) (start now new : MemberParts) (before after : List Output) (mark : Bool)
    (item : Item) (was out : Output) (so : HaveTaken k marks items start now before after) where
  -- one thing more of it was
  pub one_taken : k < length marks → k < length items → k < length before → mark ≡ get_or marks k mark → item ≡ get_or items k item
      → was ≡ get_or after k was → TakesIf mark item now new was out → new.floored.node.who ≡ now.floored.node.who
      → HaveTaken (k + 1) marks items start new before (set after k out)
  one_taken few_marks few_items few mark_is item_is was_is takes who_is =
      let within : k < length after = let long : length after ≡ length before = so.long in omega (arith, few, long) in
      let here : was ≡ get_or before k was =
      was_is ∙ sym (at_front k after was) ∙ ap (λ (xs : List Output). get_or xs 0 was) so.rest ∙ at_front k before was in
      record {
        so_far =
            takes_as (take k marks ++ mark ∷ []) (take (k + 1) marks) (take k items ++ item ∷ []) (take (k + 1) items) start new
            (take k before ++ was ∷ []) (take (k + 1) before) (take k after ++ out ∷ []) (take (k + 1) (set after k out))
            (one_more marks k mark few_marks mark_is) (one_more items k item few_items item_is) (one_more before k was few here)
            (sym (take_more_set after k out within))
            (takes_then (take k marks) (mark ∷ []) (take k items) (item ∷ []) start now new (take k before) (was ∷ []) (take k after)
            (out ∷ []) so.so_far (new, takes, refl));
        rest =
            drop-set-lt (k + 1) after k out (omega arith)
            ∙ ap (drop 1) (sym (drop_more after k was within)) ∙ ap (drop 1) so.rest ∙ ap (drop 1) (drop_more before k was few);
        long = length-set after k out ∙ so.long;
        who_is = who_is ∙ so.who_is;
      }

-- all of it was
pub all_taken : (k : ℕ) (marks : List Bool) (items : List Item) (start now : MemberParts) (before after : List Output)
    → HaveTaken k marks items start now before after → length marks ≤ k → length items ≤ k → length before ≤ k
    → TakesThose marks items start now before after
all_taken k marks items start now before after so few_marks few_items few =
    let long : length after ≡ length before = so.long in
    takes_as (take k marks) marks (take k items) items start now (take k before) before (take k after) after (take_all k marks few_marks)
    (take_all k items few_items) (take_all k before few) (take_all k after (omega (arith, few, long))) so.so_far

-- ---- what stands in a place

pub more_items : (who : NodeId) (inputs : List Handed) (k : ℕ) (input : Handed) → k < length inputs → input ≡ get_or inputs k input
    → map (item_of who) (take k inputs) ++ item_of who input ∷ [] ≡ map (item_of who) (take (k + 1) inputs)
more_items who inputs k input lt read =
    sym (map_push (item_of who) (take k inputs) input) ∙ ap (map (item_of who)) (one_more inputs k input lt read)

-- none of the first so many is set aside, nor is the next
pub none_more : (floor : Option Place) (who : NodeId) (inputs : List Handed) (k : ℕ) (input : Handed) → k < length inputs
    → input ≡ get_or inputs k input → list_any (is_aside floor) (map (item_of who) (take k inputs)) ≡ false
    → is_aside floor (item_of who input) ≡ false → list_any (is_aside floor) (map (item_of who) (take (k + 1) inputs)) ≡ false
none_more floor who inputs k input lt read none kept =
    ap (list_any (is_aside floor)) (sym (more_items who inputs k input lt read))
    ∙ list_any-append (is_aside floor) (map (item_of who) (take k inputs)) (item_of who input ∷ []) ∙ λ i. none i || (kept i || false)

-- one of them is
pub any_at : (floor : Option Place) (who : NodeId) (inputs : List Handed) (k : ℕ) (input : Handed) → k < length inputs
    → input ≡ get_or inputs k input → is_aside floor (item_of who input) ≡ true
    → list_any (is_aside floor) (map (item_of who) inputs) ≡ true
any_at floor who [] k input lt read aside = absurd (omega (arith, lt))
any_at floor who (first ∷ inputs) zero input lt read aside =
    ap (λ (x : Handed). is_aside floor (item_of who x) || list_any (is_aside floor) (map (item_of who) inputs)) (sym read)
    ∙ ap (λ (b : Bool). b || list_any (is_aside floor) (map (item_of who) inputs)) aside
any_at floor who (first ∷ inputs) (suc k) input lt read aside =
    or_right (is_aside floor (item_of who first)) (list_any (is_aside floor) (map (item_of who) inputs))
    (any_at floor who inputs k input (omega (arith, lt)) read aside)

-- the groups of the first so many, and which of these are set aside
pub record AreSorted (floor : Option Place) (items : List Item) (group : List Handed) (asides : List Bool) : Type 0 where
  pub group_is : map input_of group ≡ map (grouped floor) items
  pub asides_are : asides ≡ map (is_aside floor) items

-- the group and the marks after one input more
pub sorted_more : (floor : Option Place) (who : NodeId) (inputs : List Handed) (k : ℕ) (input stands : Handed) (aside : Bool)
    (group more : List Handed) (asides others : List Bool) → k < length inputs → input ≡ get_or inputs k input
    → input_of stands ≡ grouped floor (item_of who input) → aside ≡ is_aside floor (item_of who input) → more ≡ group ++ stands ∷ []
    → others ≡ asides ++ aside ∷ [] → AreSorted floor (map (item_of who) (take k inputs)) group asides
    → AreSorted floor (map (item_of who) (take (k + 1) inputs)) more others
sorted_more floor who inputs k input stands aside group more asides others lt read group_is aside_is pushed noted so =
    let items = map (item_of who) (take k inputs) in
    let next = more_items who inputs k input lt read in
    record {
      group_is =
          ap (map input_of) pushed ∙ map_push input_of group stands ∙ (λ i. so.group_is i ++ group_is i ∷ [])
          ∙ sym (map_push (grouped floor) items (item_of who input)) ∙ ap (map (grouped floor)) next;
      asides_are =
          noted ∙ (λ i. so.asides_are i ++ aside_is i ∷ []) ∙ sym (map_push (is_aside floor) items (item_of who input))
          ∙ ap (map (is_aside floor)) next;
    }

-- all inputs are handed as things
pub all_items : (who : NodeId) (inputs : List Handed) (k : ℕ) → length inputs ≤ k
    → map (item_of who) (take k inputs) ≡ map (item_of who) inputs
all_items who inputs k few = ap (map (item_of who)) (take_all k inputs few)

-- an item that was read
pub item_there : (who : NodeId) (inputs : List Handed) (k : ℕ) (input : Handed) → k < length inputs → input ≡ get_or inputs k input
    → item_of who input ≡ get_or (map (item_of who) inputs) k (item_of who input)
item_there who inputs k input lt read =
    ap (item_of who) read ∙ sym (get_or-map (item_of who) inputs k input (item_of who input) lt)

-- where all is marked, each place is
pub mark_there : (items : List Item) (k : ℕ) → k < length items → true ≡ get_or (map (λ item. true) items) k true
mark_there [] k lt = absurd (omega (arith, lt))
mark_there (item ∷ items) zero lt = refl
mark_there (item ∷ items) (suc k) lt = mark_there items k (omega (arith, lt))

-- how many there are
pub group_length : (floor : Option Place) (items : List Item) (group : List Handed) → map input_of group ≡ map (grouped floor) items
    → length group ≡ length items
group_length floor items group is =
    sym (length-map group input_of) ∙ ap length is ∙ length-map items (grouped floor)
