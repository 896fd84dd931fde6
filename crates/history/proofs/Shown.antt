-- The branches of a manager that is up are those looked back at, and so is what a call is answered.
-- Needed by Answered, HeldOnce and Laws.
use Rattle.std.proofs.Common.{◌≡◌, ◌≢◌, inl, inr, ◌∙◌, ℕ, Bool, true, false, ◌&&◌, List, []}
use Rattle.std.proofs.Common.{◌∷◌, ◌++◌, map, Option, Some, None, refl, sym, ap, subst}
use Rattle.std.specs.Prelude.{filter_map, find, option_map}
use Rattle.std.specs.Option.{option_map_or}
use Rattle.std.proofs.lemmas.Bool.{cond_both, and_from, and_parts}
use Rattle.xid.specs.Names.{XidParts, xid_eq}
use Rattle.xid.specs.Transactions.{TxParts, tx_eq, xid_at}
use Rattle.xid.proofs.Deciding.{xid_decides, xid_self, tx_decides}
use Rattle.protocol.specs.declared.states.BranchState.TheVariants.{Prepared}
use Rattle.protocol.specs.declared.states.View.TheVariants as views
use Rattle.safety.specs.Vocabulary.{Change, Step}
use Rattle.protocol.specs.Branches.{BranchView}
use Rattle.protocol.specs.Effects.{Config}
use Rattle.protocol.specs.Facts.{Bound, is_prepared_view, bound_branches}
use Rattle.protocol.specs.Managers.{Branch, all_branches, view_named}
use Rattle.protocol.specs.Nodes.{NodeState}
use Rattle.branch_table.specs.OneCall.{view_in_state}
use Rattle.branch_table.proofs.Views.{view_of}
use Rattle.protocol.specs.Holds.{AreNamedOnce, IsIn}
use Rattle.protocol.proofs.Lists.{IsIn-map, IsIn-before, found_any, found_among, any_find, filter_map_gives}
use Rattle.protocol.proofs.Manager.Apart.{bound_stored, stored_bound}
use Rattle.protocol.proofs.Manager.Prepared.{prepared_or_not, names_held_once}
use Rattle.protocol.proofs.Manager.Views.{prepared_shows}
use Rattle.history.specs.Lines.{changes_at, view_back}
use Rattle.history.specs.LookingBack.{branch_by, is_name_at, actions_since, before_vote, prepared_in, branch_back}
use Rattle.history.proofs.Moves.{branches_of}
use Rattle.history.proofs.CallsLeave.{branch_view}
use Rattle.history.proofs.Told.{IsSound, IsTold, own_shows}

-- ---- names

named_at : (rm : ℕ) (x : XidParts) (o : Option XidParts) → option_map_or (xid_eq x) o false ≡ true → o ≡ Some x
named_at rm x None e = absurd (cc (e))
named_at rm x (Some y) e = ap Some (sym ((xid_decides x y).0 e))

-- a transaction in which a manager is prepared is one that a change is of
mentioned : (rm : ℕ) (before : List Step) (tx : TxParts) → is_prepared_view (view_back rm before tx) ≡ true
    → IsIn (map (λ change. change.tx) (changes_at rm before)) tx
mentioned rm before tx e = by_found (find (λ change. tx_eq tx change.tx) (changes_at rm before)) refl e
  where
    by_found : (o : Option Change) → find (λ change. tx_eq tx change.tx) (changes_at rm before) ≡ o
        → is_prepared_view (option_map_or (λ change. change.view) o views.Working) ≡ true
        → IsIn (map (λ change. change.tx) (changes_at rm before)) tx
    by_found None is prepared = absurd (cc (prepared))
    by_found (Some change) is prepared =
        let found = found_among (λ (c : Change). tx_eq tx c.tx) (changes_at rm before) change is in
        subst (IsIn (map (λ (c : Change). c.tx) (changes_at rm before))) (sym ((tx_decides tx change.tx).0 found.1))
        (IsIn-map (λ (c : Change). c.tx) (changes_at rm before) change found.0)

-- branches of other names in front
passed : (ps bs : List Branch) (x : XidParts) → ((b : Branch) → IsIn ps b → b.xid ≢ x) → view_named (ps ++ bs) x ≡ view_named bs x
passed [] bs x others = refl
passed (p ∷ ps) bs x others =
    cond_both (xid_eq p.xid x) (view_of p) (view_named (ps ++ bs) x) (λ (v : BranchView). v ≡ view_named bs x)
    (λ own. absurd (others p (inl refl) ((xid_decides p.xid x).0 own))) (λ other. passed ps bs x (λ b h. others b (inr h)))

-- ---- the branches

module _ (config : Config) (rm : ℕ) (node : NodeState) (before : List Step) (sound : IsSound config rm node)
    (told : IsTold rm node before) (up : node.up ≡ true) where
  abbrev all : List Branch
  all = all_branches rm (bound_branches node.facts) (branches_of node)

  abbrev prepared : List Branch
  prepared = all_branches rm (bound_branches node.facts) []

  once : AreNamedOnce all
  once = names_held_once config rm node.facts (branches_of node) sound.played sound.apart

  abbrev is_bound : XidParts → TxParts → Bool
  is_bound x tx = is_name_at rm x tx && is_prepared_view (view_back rm before tx)

  abbrev changed : List TxParts
  changed = map (λ (change : Change). change.tx) (changes_at rm before)

  shown_by : (x : XidParts) (o : Option TxParts) → prepared_in rm before x ≡ o → branch_view rm node.facts (branches_of node) x
      ≡ option_map_or (λ tx. view_in_state (branch_by (actions_since rm x (before_vote rm tx before))) Prepared) o
      (branch_by (actions_since rm x before))
  shown_by x (Some tx) e =
      let found = found_among (is_bound x) changed tx e in
      let parts = and_parts (is_name_at rm x tx) (is_prepared_view (view_back rm before tx)) found.1 in
      let name = named_at rm x (xid_at tx rm) parts.0 in
      let is = ap is_prepared_view (told.views tx) ∙ parts.1 in
      let vote = (prepared_shows node.facts tx is).0 in
      let bound : Bound = record { tx = tx; keys = vote.0 } in
      let so : XidParts → Branch = λ y. record { xid = y; state = Prepared; keys = vote.0 } in
      let f : Bound → Option Branch = λ one. option_map (λ y. record { xid = y; state = Prepared; keys = one.keys }) (xid_at one.tx rm) in
      let there = IsIn-before (filter_map f (bound_branches node.facts)) (branches_of node) (so x)
      (filter_map_gives f (bound_branches node.facts) bound (so x)
      (stored_bound node.facts bound (record { voted = vote.1; prepared = is })) (ap (option_map so) name)) in
      own_shows all (so x) once there ∙ told.voted tx vote.0 x vote.1 name
  shown_by x None e =
      passed (filter_map _ (bound_branches node.facts)) (branches_of node) x (λ b h same.
      elim (prepared_or_not rm node.facts [] b (IsIn-before (filter_map _ (bound_branches node.facts)) [] b h)) [
        | inl one ↦
            let is = ap is_prepared_view (sym (told.views one.bound.tx)) ∙ (bound_stored node.facts one.bound one.among).prepared in
            let name : is_name_at rm x one.bound.tx ≡ true =
            ap (λ (o : Option XidParts). option_map_or (xid_eq x) o false) (one.name ∙ ap Some same) ∙ xid_self x in
            let some = any_find (is_bound x) changed (found_any (is_bound x) changed one.bound.tx (mentioned rm before one.bound.tx is)
            (and_from (is_name_at rm x one.bound.tx) (is_prepared_view (view_back rm before one.bound.tx)) name is)) in
            absurd (cc (some.1, e))
        | inr none ↦ absurd none
      ])
      ∙ told.branches up x

  pub shown_back : (x : XidParts) → branch_view rm node.facts (branches_of node) x ≡ branch_back rm before x
  shown_back x = shown_by x (prepared_in rm before x) refl
