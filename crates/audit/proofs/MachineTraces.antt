-- An auditor finds each trace of the machine consistent.
use Rattle.std.proofs.Common.{◌≡◌, ◌≢◌, inl, inr, ◌∙◌, ℕ, ◌+◌, ◌<◌, Bool, true, false, ◌&&◌, ◌==◌, if◌then◌else◌, MatchBool, List, []}
use Rattle.std.proofs.Common.{◌∷◌, ◌++◌, map, Option, Some, None, refl, sym, ap, subst, eq-eqb, nat_lt, arith}
use Rattle.std.proofs.Math.Path.{fun_ext}
use Rattle.std.specs.Prelude.{IsTrue, filter, fold}
use Rattle.std.specs.Cmp.{unsigned_Decides}
use Rattle.std.specs.List.{range_with_len}
use Rattle.std.specs.Option.{option_map_or, option_and_then}
use Rattle.std.proofs.lemmas.Bool.{and_from, both_ways, lt-ltb}
use Rattle.std.proofs.lemmas.List.FromFn.{get_or-map-range_with_len, length-map-range_with_len}
use Rattle.xid.specs.Names.{XidParts}
use Rattle.xid.specs.Transactions.{TxParts, is_participant}
use Rattle.xid.specs.declared.codes.XaCode.TheVariants as codes
use Rattle.xid.specs.declared.refusals.Refusal.{Refusal}
use Rattle.xid.specs.declared.transaction.Vote.TheVariants as votes
use Rattle.stable_record.specs.Facts.{fact_tx}
use Rattle.stable_record.specs.declared.fact.FactKind.TheVariants as stored
use Rattle.protocol.specs.Basics.{Act, Fact, Touched}
use Rattle.protocol.specs.declared.states.BranchState.TheVariants.{Active, Prepared}
use Rattle.safety.specs.Vocabulary.{Answer, Call, Code, Event, Ask, Get, NoValue, R, Refused, Row, Step, Change, Value, View}
use Rattle.protocol.specs.Branches.{BranchView, get_answer, is_done, key_fits, read_of, row_at, value_after}
use Rattle.protocol.specs.Effects.{Config}
use Rattle.protocol.specs.Facts.{view}
use Rattle.protocol.specs.Managers.{named_answer}
use Rattle.protocol.specs.Nodes.{Fault, Input, NodeState, accepts_request, first_rows}
use Rattle.protocol.specs.Tables.{put_row}
use Rattle.protocol.specs.TCommit.{IsCommitMove, IsOneMove}
use Rattle.protocol.specs.Worlds.{World, node_at, step_of, table_at, view_number, world_step}
use Rattle.protocol.proofs.DoneCalls.{ready}
use Rattle.protocol.proofs.Manager.Effects.{IsManagerFact, name_names}
use Rattle.protocol.proofs.Manager.Played.{voted_named}
use Rattle.protocol.proofs.Manager.Views.{prepared_shows}
use Rattle.safety.specs.Runs.{views_in}
use Rattle.safety.proofs.World.Reachable.{steps}
use Rattle.history.specs.Answers.{IsAnswered, IsAnswerOf}
use Rattle.history.specs.Lines.{change_here, change_stored, view_back, view_stored, is_spent_back}
use Rattle.history.specs.LookingBack.{actions_since, branch_back, branch_by, is_hindered_back, last_act_on, prepared_in, writes_in}
use Rattle.history.specs.SerialOrder.{first_commits, committed_at}
use Rattle.history.specs.Writes.{actions_since_start, table_back}
use Rattle.history.proofs.Answering.{answered_ever, inside_stands}
use Rattle.history.proofs.Changes.{changes_view}
use Rattle.history.proofs.Kept.{kept_ever, started}
use Rattle.history.proofs.Laws as laws
use Rattle.history.proofs.Moves.{manager_in, branches_of, IsMove, Quiet, Restarted, Called, Stored, event_moved}
use Rattle.history.proofs.Runs.{IsRun, AtFirst, Then, facts_in, reached}
use Rattle.history.proofs.SerialTables.{serial_is}
use Rattle.history.proofs.Told.{sound}
use Rattle.history.proofs.SerialReads.{done_inside, fitting}
use Rattle.audit.specs.Consistent.{committed_back, is_history_consistent, serial_table}
use Rattle.audit.specs.Stretches as stretches
use Rattle.audit.specs.Stretches.{own_act, stretch_back, stretches_back}
use Rattle.audit.specs.ToldTables.{are_tables, is_event_right, shows, shows_rightly, table_told}
use Rattle.audit.specs.Told.{each_step, is_move, moves_rightly}
use Rattle.audit.proofs.CommitLemmas.{one_is_a_move}
use Rattle.audit.proofs.MachineGets.{first, found_so, gets_serial, serial_same, shows_so}
use Rattle.audit.proofs.MachineStretches.{own_same}
use Rattle.audit.proofs.MachineTables.{are_so, told_back}

-- ---- what a get was answered

get_is : (spent : Bool) (rows : List Row) (v : BranchView) (busy : Bool) (key : List ℕ)
    → is_done (Get key) (named_answer spent rows v busy (Get key)) ≡ true
    → (named_answer spent rows v busy (Get key) ≡ get_answer (read_of rows v key)) × (v.state ≡ Some Active)
get_is true rows v busy key e =
    (fitting key (key_fits key) _ _ (done_inside key v.state busy _ (get_answer (read_of rows v key))) e, ready rows v busy (Get key) e)
get_is false rows v busy key e =
    (fitting key (key_fits key) _ _ (done_inside key v.state busy _ (get_answer (read_of rows v key))) e, ready rows v busy (Get key) e)

got_done : (key : List ℕ) (found : Option (List ℕ)) → is_done (Get key) (get_answer found) ≡ true
got_done key None = refl
got_done key (Some bytes) = refl

not_refused : (found : Option (List ℕ)) (e : Refusal) → get_answer found ≡ Refused e → ⊥
not_refused None e is = absurd (cc (is))
not_refused (Some bytes) e is = absurd (cc (is))

not_down : (found : Option (List ℕ)) → get_answer found ≡ Code codes.RmFail → ⊥
not_down None is = absurd (cc (is))
not_down (Some bytes) is = absurd (cc (is))

-- a branch that is active isn't prepared
unprepared : (f : TxParts → BranchView) (v : BranchView) (o : Option TxParts) → ((tx : TxParts) → (f tx).state ≡ Some Prepared)
    → (option_map_or f o v).state ≡ Some Active → option_map_or f o v ≡ v
unprepared f v None each active = refl
unprepared f v (Some tx) each active = absurd (cc (sym (each tx) ∙ active))

module _ (config : Config) (world : World) (before : List Step) (run : IsRun config world before) (rm : ℕ) (x : XidParts) (key : List ℕ)
    (found : Option (List ℕ)) where
  abbrev rows : List Row
  rows = table_back (first_rows config rm) rm before

  act_since : (branch_back rm before x).state ≡ Some Active
      → (branch_back rm before x).act key ≡ last_act_on (writes_in (actions_since_start rm x before)) key
  act_since active =
      let own : branch_back rm before x ≡ branch_by (actions_since rm x before) =
      unprepared _ (branch_by (actions_since rm x before)) (prepared_in rm before x) (λ tx. refl) active in
      ap (λ (v : BranchView). v.act key) own
      ∙ ap (λ (ts : List Touched). last_act_on ts key)
      (started (actions_since rm x before) (actions_since_start rm x before) ((kept_ever config world before rm run).begun x)
      (λ none. absurd (cc (sym active ∙ ap (λ (v : BranchView). v.state) own ∙ none))))

  by_rules : get_answer found
      ≡ named_answer (is_spent_back rm before x) rows (branch_back rm before x) (is_hindered_back rm before x (Get key)) (Get key)
      → found ≡ value_after (last_act_on (writes_in (actions_since_start rm x before)) key) (row_at rows key)
  by_rules is =
      let spent = is_spent_back rm before x in
      let busy = is_hindered_back rm before x (Get key) in
      let v = branch_back rm before x in
      let done = get_is spent rows v busy key (ap (is_done (Get key)) (sym is) ∙ got_done key found) in
      found_so found (read_of rows v key) (is ∙ done.0)
      ∙ ap (λ (act : Act). value_after act (row_at rows key)) (act_since done.1)

  get_shown : IsAnswered config before (Ask (R rm) (Call x (Get key))) (get_answer found)
      → found ≡ value_after (last_act_on (writes_in (actions_since_start rm x before)) key) (row_at rows key)
  get_shown answered = elim answered [
    | inl none ↦ absurd (not_refused found _ none)
    | inr is ↦ by (nat_lt rm config.managers && accepts_request (R rm) (Call x (Get key))) is
  ]
    where
      by : (b : Bool) → MatchBool b (IsAnswerOf config rm before (Call x (Get key)) (get_answer found))
          (get_answer found ≡ Refused Refusal.NoSuch)
          → found ≡ value_after (last_act_on (writes_in (actions_since_start rm x before)) key) (row_at rows key)
      by true is = elim is [
        | inl down ↦ absurd (not_down found down.1)
        | inr up ↦ by_rules up.1
      ]
      by false none = absurd (not_refused found _ none)

  right_get : IsAnswered config before (Ask (R rm) (Call x (Get key))) (get_answer found)
      → shows (table_told (first config world before run) rm before) key (own_act (stretches.writes_in (stretch_back rm x before)) key)
      found ≡ true
  right_get answered =
      shows_so (table_told (first config world before run) rm before) key (own_act (stretches.writes_in (stretch_back rm x before)) key)
      (last_act_on (writes_in (actions_since_start rm x before)) key) found
      (own_same config world before run rm x key)
      (get_shown answered
      ∙ ap (λ (rs : List Row). value_after (last_act_on (writes_in (actions_since_start rm x before)) key) (row_at rs key))
      (sym (told_back config world before run rm)))

module _ (config : Config) (world : World) (before : List Step) (run : IsRun config world before) where
  right_event : (event : Event) (answer : Answer) → IsAnswered config before event answer
      → is_event_right (λ rm. table_told (first config world before run) rm before) (stretches_back before) event answer ≡ true
  right_event (Ask (R rm) (Call x (Get key))) (Value bytes) is = right_get config world before run rm x key (Some bytes) is
  right_event (Ask (R rm) (Call x (Get key))) NoValue is = right_get config world before run rm x key None is
  right_event event answer is = refl

-- ---- what moved

module _ (config : Config) (world : World) (before : List Step) (run : IsRun config world before) (event : Event) (fault : Fault)
    (change : Change) (says : (world_step config world event fault).now ≡ Some change) where
  abbrev rm : ℕ
  rm = change.rm

  abbrev tx : TxParts
  tx = change.tx

  abbrev old : NodeState
  old = manager_in config world rm

  abbrev after : World
  after = (world_step config world event fault).world

  abbrev new : NodeState
  new = manager_in config after rm

  here : option_and_then (change_here rm) (world_step config world event fault).now ≡ Some change
  here = ap (option_and_then (change_here rm)) says ∙ ap (λ (b : Bool). if b then Some change else None) (eq-eqb rm rm refl)

  record IsMoved : Type 0 where
    named : IsTrue (is_participant tx rm)
    differs : view old.facts tx ≢ change.view
    now : view new.facts tx ≡ change.view

  named_by : (input : Input) (fact : Fact) → IsManagerFact rm old.facts (branches_of old) input fact
      → is_participant (fact_tx fact) rm ≡ true
  named_by input (stored.VotePrepared t keys) rule = name_names t rm rule.0 rule.1.first.name
  named_by input (stored.VoteAborted t) rule = name_names t rm rule.0 rule.1.name
  named_by input (stored.Aborted t) rule = name_names t rm rule.0 rule.1.name
  named_by input (stored.Committed t) rule =
      voted_named config rm old.facts (sound config world before rm run).played t votes.Prepared
      (prepared_shows old.facts t rule.prepared).0
  named_by input fact rule = absurd rule

  moved_by : (e : Option Change) → e ≡ (world_step config world event fault).now
      → IsMove config rm old new event (world_step config world event fault).answer e → IsMoved
  moved_by e same (Quiet is) = absurd (cc (sym is.silent.change ∙ ap (option_and_then (change_here rm)) same ∙ here))
  moved_by e same (Restarted is) = absurd (cc (sym is.change ∙ ap (option_and_then (change_here rm)) same ∙ here))
  moved_by e same (Called is) = absurd (cc (sym is.change ∙ ap (option_and_then (change_here rm)) same ∙ here))
  moved_by e same (Stored is) =
      let said : change_stored rm is.fact ≡ change = cc (sym is.change ∙ ap (option_and_then (change_here rm)) same ∙ here) in
      let own : fact_tx is.fact ≡ tx = ap (λ (c : Change). c.tx) said in
      let seen : view_stored is.fact ≡ change.view = ap (λ (c : Change). c.view) said in
      let changed = changes_view rm old.facts (branches_of old) is.input is.fact is.rule in
      record {
        named = subst (λ (t : TxParts). is_participant t rm ≡ true) own (named_by is.input is.fact is.rule);
        differs = λ equal. both_ways _ changed.differs (eq-eqb _ _ (ap (λ (v : View). view_number v)
            (ap (view old.facts) own ∙ equal ∙ sym seen)));
        now = ap (λ (fs : List Fact). view fs tx) is.facts ∙ sym (ap (view (old.facts ++ is.fact ∷ [])) own) ∙ changed.after ∙ seen;
      }

  moved : IsMoved
  moved = moved_by (world_step config world event fault).now refl (event_moved config world rm event fault)

  view_was : (r : ℕ) → views_in config world tx r ≡ view_back r before tx
  view_was r = laws.views_back config world before r run tx

  view_is_now : views_in config after tx rm ≡ change.view
  view_is_now = ap (λ (fs : List Fact). view fs tx) (facts_in config after rm) ∙ moved.now

  view_old : views_in config world tx rm ≡ view old.facts tx
  view_old = ap (λ (fs : List Fact). view fs tx) (facts_in config world rm)

  stays_not : views_in config after tx rm ≡ views_in config world tx rm → ⊥
  stays_not same = moved.differs (sym view_old ∙ sym same ∙ view_is_now)

  move_in : IsCommitMove (is_participant tx) (views_in config world tx) (views_in config world tx rm) (views_in config after tx rm)
  move_in = elim (steps config world (reached config world before run) event fault tx) [
    | inl same ↦ absurd (stays_not (same rm moved.named))
    | inr one ↦ by one (one.mover == rm) refl
  ]
    where
      by : (one : IsOneMove (is_participant tx) (views_in config world tx) (views_in config after tx)) (b : Bool) → (one.mover == rm) ≡ b
          → IsCommitMove (is_participant tx) (views_in config world tx) (views_in config world tx rm) (views_in config after tx rm)
      by one true e =
          subst (λ (r : ℕ). IsCommitMove (is_participant tx) (views_in config world tx) (views_in config world tx r)
          (views_in config after tx r)) ((unsigned_Decides one.mover rm).0 e) one.moves
      by one false e =
          absurd (stays_not (one.others rm moved.named (λ same. both_ways (one.mover == rm) e
          ((unsigned_Decides one.mover rm).1 (sym same)))))

  right_move : is_move before change ≡ true
  right_move =
      one_is_a_move before change moved.named
      (subst (λ (v : View). IsCommitMove (is_participant tx) (λ r. view_back r before tx) (view_back rm before tx) v) view_is_now
      (subst (λ (s : ℕ → View). IsCommitMove (is_participant tx) s (s rm) (views_in config after tx rm)) (fun_ext view_was) move_in))

right_moves : (config : Config) (world : World) (before : List Step) (run : IsRun config world before) (event : Event) (fault : Fault)
    → moves_rightly before (step_of world event (world_step config world event fault)) ≡ true
right_moves config world before run event fault = by (world_step config world event fault).now refl
  where
    by : (o : Option Change) → (world_step config world event fault).now ≡ o → option_map_or (is_move before) o true ≡ true
    by None says = refl
    by (Some change) says = right_move config world before run event fault change says

-- ---- whole traces

steps_right : (config : Config) (world : World) (history : List Step) → IsRun config world history
    → each_step (λ before step. shows_rightly (λ rm. fold put_row [] (first_rows config rm)) before step && moves_rightly before step)
    history
    ≡ true
steps_right config _ _ AtFirst = refl
steps_right config _ _ (Then world before event fault run) =
    and_from _ _ (steps_right config world before run)
    (and_from _ _ (right_event config world before run event (world_step config world event fault).answer
    (answered_ever config (world_step config world event fault).world
    (step_of world event (world_step config world event fault) ∷ before) (Then world before event fault run)).0)
    (right_moves config world before run event fault))

module _ (config : Config) (world : World) (history : List Step) (run : IsRun config world history) where
  abbrev finals : List (List Row)
  finals = map (table_at config world) (range_with_len 0 config.managers)

  standing : (rm : ℕ) → rm < config.managers → (node : NodeState) × (node_at config world (R rm) ≡ Some node)
  standing rm lt = by (node_at config world (R rm)) refl
    where
      by : (o : Option NodeState) → node_at config world (R rm) ≡ o → (node : NodeState) × (node_at config world (R rm) ≡ Some node)
      by None e =
          absurd (both_ways (nat_lt rm config.managers) (inside_stands config world history rm run e) (lt-ltb rm config.managers lt))
      by (Some node) e = (node, e)

  finals_are : (made : ℕ → List Row) → ((rm : ℕ) → table_back (first_rows config rm) rm history ≡ made rm) → are_tables made 0 finals ≡ true
  finals_are made same = are_so made 0 finals (λ rm lt.
      let less : rm < config.managers =
      subst (λ (n : ℕ). rm < n) (length-map-range_with_len (table_at config world) 0 config.managers) lt in
      let node = standing rm less in
      let zero_more : 0 + rm ≡ rm = omega arith in
      get_or-map-range_with_len (table_at config world) 0 config.managers rm rm [] less (omega arith)
      ∙ laws.table_looked_back config world history rm run node.0 node.1 ∙ same rm ∙ sym (ap made zero_more))

  tables_right : are_tables (λ rm. table_told (first config world history run) rm history) 0 finals ≡ true
  tables_right =
      finals_are (λ rm. table_told (first config world history run) rm history) (λ rm. sym (told_back config world history run rm))

  tables_serial : are_tables (λ rm. serial_table (first config world history run) (stretches_back history) rm
      (filter (committed_back history rm) (first_commits history))) 0 finals ≡ true
  tables_serial = finals_are (λ rm. serial_table (first config world history run) (stretches_back history) rm
      (filter (committed_back history rm) (first_commits history))) (λ rm.
      sym (laws.looked_table config world history rm run (first_rows config rm))
      ∙ serial_is config world history rm run (first_rows config rm)
      ∙ sym (serial_same config world history run rm (committed_at rm history)))

  pub consistent : is_history_consistent (λ rm. fold put_row [] (first_rows config rm)) history finals ≡ true
  consistent =
      (λ j. steps_right config world history run j && tables_right j && (gets_serial config world history run j && tables_serial j))
