-- Looking back gives the same answers over two lists of steps that are alike.
use Rattle.std.proofs.Common.{◌≡◌, ◌∙◌, ℕ, Bool, true, not, ◌&&◌, if◌then◌else◌, List, [], Option, Some, None, refl, sym, ap}
use Rattle.std.specs.Prelude.{filter_map, filter, fold, reverse}
use Rattle.std.specs.List.{list_any}
use Rattle.std.specs.Option.{option_map_or}
use Rattle.std.proofs.lemmas.Bool.{and_from, and_parts}
use Rattle.xid.specs.Names.{XidParts, xid_eq}
use Rattle.xid.specs.Transactions.{TxParts, is_participant, xid_at}
use Rattle.xid.specs.declared.refusals.Refusal.TheVariants.{BadTx}
use Rattle.protocol.specs.declared.events.Change.{Change}
use Rattle.protocol.specs.declared.states.BranchState.{BranchState}
use Rattle.safety.specs.Vocabulary.{Action, Refused, Request, Stands, Step, View, Xids}
use Rattle.protocol.specs.Branches.{hinders}
use Rattle.protocol.specs.Effects.{Config, is_inside, view_standing}
use Rattle.protocol.specs.Facts.{is_prepared_view}
use Rattle.protocol.specs.Managers.{insert_xid, named_answer}
use Rattle.protocol.specs.Nodes.{first_rows}
use Rattle.protocol.specs.declared.requests.Request.TheVariants as requests
use Rattle.protocol.proofs.Lists.{any_found, found_any}
use Rattle.branch_table.specs.OneCall.{view_in_state}
use Rattle.protocol.specs.declared.requests.Request.TheVariants.{Call, Recover, Timeout}
use Rattle.history.specs.Answers.{answer_to}
use Rattle.history.specs.Lines.{changes_at, is_spent_back, view_back}
use Rattle.history.specs.LookingBack.{actions_since, before_vote, branch_back, branch_by, is_hindered_back, prepared_in}
use Rattle.history.specs.Writes.{changed_to, names_prepared}
use Rattle.history.proofs.Answered.{hinderer_called, names_called, same_tests}
use Rattle.cluster_run.proofs.Alike.{Alike, prepared_same, same_changes, same_since, same_view, table_same, voted_actions, views_same}

module _ (rm : ℕ) (shown machine : List Step) (alike : Alike shown machine) where
  spent_same : (x : XidParts) → is_spent_back rm machine x ≡ is_spent_back rm shown x
  spent_same x =
      ap (λ (changes : List Change). list_any (xid_eq x) (filter_map (λ change. xid_at change.tx rm) changes))
      (sym (same_changes rm shown machine alike))

  branch_same : (x : XidParts) → branch_back rm machine x ≡ branch_back rm shown x
  branch_same x =
      ap (λ (o : Option TxParts). option_map_or (λ tx.
      view_in_state (branch_by (actions_since rm x (before_vote rm tx machine))) BranchState.Prepared) o
      (branch_by (actions_since rm x machine))) (sym (prepared_same rm shown machine alike x))
      ∙ by_bound (prepared_in rm shown x)
    where
      by_bound : (o : Option TxParts)
          → option_map_or (λ tx. view_in_state (branch_by (actions_since rm x (before_vote rm tx machine))) BranchState.Prepared) o
          (branch_by (actions_since rm x machine))
          ≡ option_map_or (λ tx. view_in_state (branch_by (actions_since rm x (before_vote rm tx shown))) BranchState.Prepared) o
          (branch_by (actions_since rm x shown))
      by_bound None = ap branch_by (sym (same_since rm x shown machine alike))
      by_bound (Some tx) =
          ap (λ (actions : List Action). view_in_state (branch_by actions) BranchState.Prepared)
          (sym (voted_actions rm shown machine alike x tx))

  module _ (x : XidParts) (action : Action) where
    -- another branch that hinders, by these steps
    abbrev hinders_by : List Step → XidParts → Bool
    hinders_by steps other = not (xid_eq other x) && hinders action (branch_back rm steps other)

    -- each was called in both, as something was done in it
    hindered_in : (one other : List Step) → ((y : XidParts) → branch_back rm one y ≡ branch_back rm other y)
        → is_hindered_back rm one x action ≡ true → is_hindered_back rm other x action ≡ true
    hindered_in one other same e =
        let found = any_found (hinders_by one) (names_called rm one) e in
        let y = found.element in
        let parts = and_parts (not (xid_eq y x)) (hinders action (branch_back rm one y)) found.passes in
        let there : hinders action (branch_back rm other y) ≡ true = ap (hinders action) (sym (same y)) ∙ parts.1 in
        found_any (hinders_by other) (names_called rm other) y (hinderer_called action rm y other there)
        (and_from (not (xid_eq y x)) (hinders action (branch_back rm other y)) parts.0 there)

    hindered_same : is_hindered_back rm machine x action ≡ is_hindered_back rm shown x action
    hindered_same =
        same_tests _ _ (hindered_in machine shown branch_same) (hindered_in shown machine (λ y. sym (branch_same y)))

  names_same : names_prepared rm machine ≡ names_prepared rm shown
  names_same =
      ap (λ (views : TxParts → View). fold (λ xs x. insert_xid x xs) [] (filter_map (λ tx. xid_at tx rm)
      (filter (λ tx. is_prepared_view (views tx))
      (filter_map (changed_to is_prepared_view) (reverse (changes_at rm machine)))))) (sym (views_same rm shown machine alike))
      ∙ ap (λ (changes : List Change). fold (λ xs x. insert_xid x xs) [] (filter_map (λ tx. xid_at tx rm)
      (filter (λ tx. is_prepared_view (view_back rm shown tx)) (filter_map (changed_to is_prepared_view) (reverse changes)))))
      (sym (same_changes rm shown machine alike))

  -- what is answered to a request
  pub answers_same : (config : Config) (request : Request) → answer_to config rm machine request ≡ answer_to config rm shown request
  answers_same config (requests.Call x action) = λ i.
      named_answer (spent_same x i) (sym (table_same rm shown machine alike (first_rows config rm)) i) (branch_same x i)
      (hindered_same x action i) action
  answers_same config requests.Recover = ap Xids names_same
  answers_same config (requests.View tx) =
      ap (λ (v : View). if is_inside config tx && is_participant tx rm then Stands (view_standing v) else Refused BadTx)
      (sym (same_view rm shown machine alike tx))
  answers_same config (requests.Timeout tx) = refl
  answers_same config (requests.Commit tx) = refl
  answers_same config (requests.Status tx) = refl
