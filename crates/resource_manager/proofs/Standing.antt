-- A resource manager stands for the facts with one more.
-- Needed by 9 files here; crate forgetting.
use Rattle.std.proofs.Common.{◌≡◌, ◌≢◌, ◌∙◌, inl, inr, ℕ, Bool, true, false, not, ◌||◌, List, [], ◌∷◌, ◌++◌, Option, Some, None}
use Rattle.std.proofs.Common.{refl, sym, ap, subst, unwrap_or}
use Rattle.std.specs.Prelude.{filter_map, option_map}
use Rattle.std.specs.List.{cons_option}
use Rattle.std.specs.Option.{option_map_or}
use Rattle.std.proofs.lemmas.Bool.{cond_both, both_ways, false_from_ne_true, not_from_false}
use Rattle.xid.specs.Names.{XidParts, xid_eq}
use Rattle.xid.specs.Transactions.{TxParts, tx_eq, xid_at}
use Rattle.xid.proofs.Deciding.{xid_decides, tx_decides, tx_self}
use Rattle.ballot.specs.Greatest.{IsIn}
use Rattle.stable_record.specs.declared.fact.FactKind.{FactKind as Fact}
use Rattle.stable_record.specs.declared.fact.Touched.{Touched}
use Rattle.stable_record.specs.Facts.{fact_tx}
use Rattle.protocol.specs.declared.nodes.NodeId.TheVariants.{R}
use Rattle.protocol.specs.Effects.{Config}
use Rattle.protocol.specs.Facts.{Bound, bound_branches, branch_bound_by, is_prepared_view, view}
use Rattle.protocol.specs.Holds.{AreApart, AreDistinct, AreNamedOnce}
use Rattle.protocol.specs.Managers.{Branch, stored_votes, plays_at_manager, branches_without}
use Rattle.protocol.specs.Nodes.{all_play, first_rows}
use Rattle.protocol.specs.Tables.{keys_voted, table}
use Rattle.protocol.proofs.Lists.{IsIn-before, IsIn-after, IsIn-push, found_any, filter_keeps, filter_map_gives, filter_map_given, any_find}
use Rattle.protocol.proofs.Lists.{found_among}
use Rattle.protocol.proofs.Manager.Apart.{named_so, bound_is, bound_stored, stored_bound, without_some, name_of}
use Rattle.protocol.proofs.Manager.Played.{all_play_then}
use Rattle.protocol.proofs.Manager.Prepared.{prepared_or_not, names_held_once, votes_named}
use Rattle.branch_table.specs.TableStates.{ChangesOnly, branch_named}
use Rattle.resource_manager.specs.declared.course.Course.{Course}
use Rattle.resource_manager.specs.Courses.{stored_in, stored_by, view_among, course_in, begun_with, Sets}
use Rattle.resource_manager.specs.SpentNames.{is_spent_in}
use Rattle.resource_manager.specs.Managers.{ManagerParts, StandsFor, branches_in, unspent_branches}
use Rattle.resource_manager.specs.Playing.{MeansSame}
use Rattle.resource_manager.proofs.Named.{named_none, same_named}
use Rattle.resource_manager.proofs.More.{stored_other, spent_more, unspent_more}
use Rattle.resource_manager.proofs.Begun.{begun_then}

-- ---- names

-- of one name there is one
module _ {X : Type 0} (f : X → Option XidParts) (x : XidParts) where
  name_again : (o : Option XidParts) (ys : List XidParts) → AreDistinct (cons_option o ys) → o ≡ Some x → IsIn ys x → ⊥
  name_again None ys d e h = absurd (cc (e))
  name_again (Some y) ys d e h = d.0 (subst (IsIn ys) (ap (λ (o : Option XidParts). unwrap_or o x) (sym e)) h)

  rest_distinct : (o : Option XidParts) (ys : List XidParts) → AreDistinct (cons_option o ys) → AreDistinct ys
  rest_distinct None ys d = d
  rest_distinct (Some y) ys d = d.1

  pub one_of_name : (xs : List X) (a b : X) → AreDistinct (filter_map f xs) → IsIn xs a → IsIn xs b → f a ≡ Some x → f b ≡ Some x → a ≡ b
  one_of_name [] a b d h k e g = absurd h
  one_of_name (c ∷ xs) a b d (inl i) (inl j) e g = sym i ∙ j
  one_of_name (c ∷ xs) a b d (inl i) (inr k) e g =
      absurd (name_again (f c) (filter_map f xs) d (ap f i ∙ e) (filter_map_gives f xs b x k g))
  one_of_name (c ∷ xs) a b d (inr h) (inl j) e g =
      absurd (name_again (f c) (filter_map f xs) d (ap f j ∙ g) (filter_map_gives f xs a x h e))
  one_of_name (c ∷ xs) a b d (inr h) (inr k) e g = one_of_name xs a b (rest_distinct (f c) (filter_map f xs) d) h k e g

abbrev bound_of : TxParts → List Touched → Bound
bound_of tx keys = record { tx = tx; keys = keys }

-- where facts played, one prepared vote is stored of a name
pub one_vote : (config : Config) (rm : ℕ) (facts : List Fact) (x : XidParts) → all_play config (R rm) [] facts ≡ true
    → (tx other : TxParts) (keys others : List Touched) → IsIn facts (Fact.VotePrepared tx keys)
    → IsIn facts (Fact.VotePrepared other others) → xid_at tx rm ≡ Some x → xid_at other rm ≡ Some x
    → bound_of tx keys ≡ bound_of other others
one_vote config rm facts x play tx other keys others h k e f =
    one_of_name (λ (b : Bound). xid_at b.tx rm) x (filter_map branch_bound_by facts) (bound_of tx keys) (bound_of other others)
    (votes_named config rm facts play)
    (filter_map_gives branch_bound_by facts (Fact.VotePrepared tx keys) (bound_of tx keys) h refl)
    (filter_map_gives branch_bound_by facts (Fact.VotePrepared other others) (bound_of other others) k refl) e f

-- the keys that are looked up are those of the vote
pub keys_of_vote : (config : Config) (rm : ℕ) (facts : List Fact) (x : XidParts) → all_play config (R rm) [] facts ≡ true
    → (tx : TxParts) (keys : List Touched) → IsIn facts (Fact.VotePrepared tx keys) → xid_at tx rm ≡ Some x → keys_voted facts tx ≡ keys
keys_of_vote config rm facts x play tx keys h name =
    let p = λ (b : Bound). tx_eq tx b.tx in
    let votes = filter_map branch_bound_by facts in
    let there = filter_map_gives branch_bound_by facts (Fact.VotePrepared tx keys) (bound_of tx keys) h refl in
    let found = any_find p votes (found_any p votes (bound_of tx keys) there (tx_self tx)) in
    let among = found_among p votes found.0 found.1 in
    let source = filter_map_given branch_bound_by facts found.0 among.0 in
    let own = (tx_decides tx (found.0).tx).0 among.1 in
    let stands = subst (IsIn facts) (bound_is source.source found.0 source.gives) source.among in
    ap (λ (o : Option Bound). option_map_or (λ (b : Bound). b.keys) o []) found.1
    ∙ ap (λ (b : Bound). b.keys)
    (one_vote config rm facts x play (found.0).tx tx (found.0).keys keys stands h (ap (λ (t : TxParts). xid_at t rm) (sym own) ∙ name) name)

-- ---- branches of other names

-- a prepared branch is among all
pub bound_in : (rm : ℕ) (facts : List Fact) (branches : List Branch) (bound : Bound) (x : XidParts)
    → IsIn (bound_branches facts) bound → xid_at bound.tx rm ≡ Some x → IsIn (branches_in rm facts branches) (named_so bound.keys x)
bound_in rm facts branches bound x h e =
    IsIn-before (filter_map _ (bound_branches facts)) branches (named_so bound.keys x)
    (filter_map_gives _ (bound_branches facts) bound (named_so bound.keys x) h
    (ap (λ (o : Option XidParts). option_map (named_so bound.keys) o) e))

-- a branch of another name stays
pub other_in : (rm : ℕ) (facts : List Fact) (branches : List Branch) (b : Branch) → IsIn branches b → IsIn (branches_in rm facts branches) b
other_in rm facts branches b h = IsIn-after (filter_map _ (bound_branches facts)) branches b h

module _ (rm : ℕ) (facts : List Fact) (fact : Fact) (old new : List Branch) (y : XidParts) where
  abbrev later : List Fact
  later = facts ++ fact ∷ []

  -- a transaction of another fact has the same view
  view_stays : (tx : TxParts) → tx ≢ fact_tx fact → is_prepared_view (view later tx) ≡ is_prepared_view (view facts tx)
  view_stays tx apart =
      ap (λ s. is_prepared_view (view_among s))
      (stored_other facts fact tx (false_from_ne_true (tx_eq tx (fact_tx fact)) (λ e. apart ((tx_decides tx (fact_tx fact)).0 e))))

  -- a name keeps its branch where no prepared one of it is of the fact's transaction, and the others of it are the same
  pub keeps_branch : AreNamedOnce (branches_in rm later new)
      → ((tx : TxParts) (keys : List Touched) → IsIn later (Fact.VotePrepared tx keys) → xid_at tx rm ≡ Some y → tx ≢ fact_tx fact)
      → ((b : Branch) → b.xid ≡ y → IsIn old b → IsIn new b) → ((b : Branch) → b.xid ≡ y → IsIn new b → IsIn old b)
      → branch_named (branches_in rm facts old) y ≡ branch_named (branches_in rm later new) y
  keeps_branch once others to from = same_named (branches_in rm facts old) (branches_in rm later new) y once
      (λ b e h. elim (prepared_or_not rm facts old b h) [
        | inl one ↦
            let is = bound_stored facts one.bound one.among in
            let voted = IsIn-before facts (fact ∷ []) (Fact.VotePrepared one.bound.tx one.bound.keys) is.voted in
            let apart = others one.bound.tx one.bound.keys voted (one.name ∙ ap Some e) in
            let among = stored_bound later one.bound
            (record { voted = voted; prepared = view_stays one.bound.tx apart ∙ is.prepared }) in
            subst (IsIn (branches_in rm later new)) (λ i. record { xid = b.xid; state = sym one.state i; keys = sym one.keys i })
            (bound_in rm later new one.bound b.xid among one.name)
        | inr own ↦ other_in rm later new b (to b e own)
      ])
      (λ b e h. elim (prepared_or_not rm later new b h) [
        | inl one ↦
            let is = bound_stored later one.bound one.among in
            let apart = others one.bound.tx one.bound.keys is.voted (one.name ∙ ap Some e) in
            elim (IsIn-push facts fact (Fact.VotePrepared one.bound.tx one.bound.keys) is.voted) [
              | inl voted ↦
                  let among = stored_bound facts one.bound
                  (record { voted = voted; prepared = sym (view_stays one.bound.tx apart) ∙ is.prepared }) in
                  subst (IsIn (branches_in rm facts old)) (λ i. record { xid = b.xid; state = sym one.state i; keys = sym one.keys i })
                  (bound_in rm facts old one.bound b.xid among one.name)
              | inr same ↦ absurd (apart (ap fact_tx (sym same)))
            ]
        | inr own ↦ other_in rm facts old b (from b e own)
      ])

  -- a name has no branch where it has none that is prepared, and none of the others
  pub loses_branch : ((bound : Bound) → IsIn (bound_branches later) bound → xid_at bound.tx rm ≡ Some y → ⊥)
      → ((b : Branch) → IsIn new b → b.xid ≢ y) → branch_named (branches_in rm later new) y ≡ None
  loses_branch unbound none = named_none (branches_in rm later new) y (λ b h e. elim (prepared_or_not rm later new b h) [
    | inl one ↦ unbound one.bound one.among (one.name ∙ ap Some e)
    | inr own ↦ none b own e
  ])

-- ---- the whole

-- what is the same stands for the same
pub same_stands : (old new : ManagerParts) → MeansSame old new → (config : Config) (number : ℕ) (facts : List Fact) (branches : List Branch)
    → StandsFor config number old facts branches → StandsFor config number new facts branches
same_stands old new same config number facts branches stands = record {
  number_is = same.number ∙ stands.number_is;
  managers_are = same.managers ∙ stands.managers_are;
  played = stands.played;
  apart = stands.apart;
  unprepared = stands.unprepared;
  stored_are = λ tx. stands.stored_are tx ∙ ap stored_by (sym (same.courses tx));
  begun_are = same.begun ∙ stands.begun_are;
  spent_are = λ x. stands.spent_are x ∙ sym (same.spent x);
  rows_are = same.rows ∙ stands.rows_are;
  branches_are = λ x. same.branches x ∙ stands.branches_are x;
}

-- a resource manager before and after a fact that plays, of a transaction that has the name x here
module _ (config : Config) (number : ℕ) (m new : ManagerParts) (facts : List Fact) (branches : List Branch) (fact : Fact) (x : XidParts)
    (stands : StandsFor config number m facts (unspent_branches number facts branches))
    (plays : plays_at_manager number (stored_votes number facts) fact ≡ true) (name : xid_at (fact_tx fact) number ≡ Some x)
    (apart : AreApart number (facts ++ fact ∷ []) (branches_without (unspent_branches number facts branches) x)) where
  abbrev then_facts : List Fact
  then_facts = facts ++ fact ∷ []

  abbrev was : List Branch
  was = unspent_branches number facts branches

  abbrev left : List Branch
  left = branches_without was x

  pub then_played : all_play config (R number) [] then_facts ≡ true
  then_played = all_play_then config (R number) [] facts fact stands.played plays

  -- no name has two branches afterwards
  pub then_once : AreNamedOnce (branches_in number then_facts left)
  then_once = names_held_once config number then_facts left then_played apart

  others_keep : (y : XidParts) → y ≢ x → branch_named (branches_in number facts was) y ≡ branch_named (branches_in number then_facts left) y
  others_keep y other = keeps_branch number facts fact was left y then_once
      (λ tx keys h e same.
      other (name_of (xid_at (fact_tx fact) number) y x (ap (λ (t : TxParts). xid_at t number) (sym same) ∙ e) name))
      (λ b e h. filter_keeps (λ (c : Branch). not (xid_eq c.xid x)) was b h
      (not_from_false (xid_eq b.xid x) (false_from_ne_true (xid_eq b.xid x) (λ f. other (sym e ∙ (xid_decides b.xid x).0 f)))))
      (λ b e h. without_some was x b h)

  -- what changed at one transaction as its fact says stands for the facts with it
  pub stands_then : (course : Course) (now : Option Branch) → new.number ≡ m.number → new.managers ≡ m.managers
      → Sets m.courses new.courses (fact_tx fact) course → new.courses.begun ≡ begun_with m.courses (fact_tx fact)
      → stored_in then_facts (fact_tx fact) ≡ stored_by course
      → ((y : XidParts) → is_spent_in new.spent y ≡ (xid_eq y x || is_spent_in m.spent y))
      → new.table.rows ≡ table (first_rows config number) then_facts
      → ChangesOnly m.table.branches new.table.branches x now → branch_named (branches_in number then_facts left) x ≡ now
      → StandsFor config number new then_facts (unspent_branches number then_facts branches)
  stands_then course now numbers managers sets begun stored spent rows changes own =
      subst (StandsFor config number new then_facts) (sym (unspent_more number facts fact x name branches))
      (record {
        number_is = numbers ∙ stands.number_is;
        managers_are = managers ∙ stands.managers_are;
        played = then_played;
        apart = apart;
        unprepared = λ b h. stands.unprepared b (without_some was x b h);
        stored_are = each_stored;
        begun_are = begun ∙ begun_then config number m facts was stands fact;
        spent_are = λ y. spent_more number facts fact x name y ∙ ap (λ (b : Bool). xid_eq y x || b) (stands.spent_are y) ∙ sym (spent y);
        rows_are = rows;
        branches_are = each_branch;
      })
    where
      each_stored : (tx : TxParts) → stored_in then_facts tx ≡ stored_by (course_in new.courses tx)
      each_stored tx =
          cond_both (tx_eq tx (fact_tx fact)) course (course_in m.courses tx) (λ c. stored_in then_facts tx ≡ stored_by c)
          (λ same. ap (stored_in then_facts) ((tx_decides tx (fact_tx fact)).0 same) ∙ stored)
          (λ other. stored_other facts fact tx other ∙ stands.stored_are tx)
          ∙ ap stored_by (sym (sets tx))

      each_branch : (y : XidParts) → branch_named new.table.branches y ≡ branch_named (branches_in number then_facts left) y
      each_branch y = by (xid_eq y x) refl
        where
          by : (t : Bool) → xid_eq y x ≡ t → branch_named new.table.branches y ≡ branch_named (branches_in number then_facts left) y
          by true e =
              let same = (xid_decides y x).0 e in
              ap (branch_named new.table.branches) same ∙ changes.own ∙ sym own
              ∙ ap (branch_named (branches_in number then_facts left)) (sym same)
          by false e =
              let other : y ≢ x = λ f. both_ways (xid_eq y x) e ((xid_decides y x).1 f) in
              changes.others y other ∙ stands.branches_are y ∙ others_keep y other
