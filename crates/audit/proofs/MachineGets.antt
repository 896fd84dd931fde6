-- What is kept of the gets of a branch is what its history has of them, and in a run of the machine the serial order explains it.
use Rattle.std.proofs.Common.{◌≡◌, ◌⊎◌, inl, inr, ◌∙◌, ℕ, Bool, true, false, ◌&&◌, ◌||◌, List, [], ◌∷◌, ◌++◌, Option, Some, None, refl, sym}
use Rattle.std.proofs.Common.{ap, subst}
use Rattle.std.specs.Prelude.{filter_map, fold}
use Rattle.std.specs.List.{cons_option, list_any, list_all}
use Rattle.std.specs.Option.{option_eq, option_and_then}
use Rattle.std.specs.Str.{bytes_eq}
use Rattle.std.proofs.lemmas.Slice.Eq.{bytes_eq-Decides}
use Rattle.xid.specs.declared.codes.XaCode.TheVariants as code
use Rattle.xid.specs.Names.{XidParts}
use Rattle.xid.specs.Transactions.{TxParts, xid_at, participants}
use Rattle.protocol.specs.Basics.{Act}
use Rattle.safety.specs.Vocabulary.{Action, Start, Put, Del, Get, End, EndFail, Rollback, Answer, Code, Value, NoValue, Row, Step}
use Rattle.protocol.specs.Branches.{is_done, get_answer, row_at, value_after}
use Rattle.protocol.specs.Effects.{Config}
use Rattle.protocol.specs.Holds.{IsIn}
use Rattle.protocol.specs.Nodes.{first_rows}
use Rattle.protocol.specs.Tables.{put_row, with_writes}
use Rattle.protocol.specs.Worlds.{World}
use Rattle.protocol.proofs.Lists.{IsIn-push}
use Rattle.history.specs.Calls.{call_done}
use Rattle.history.specs.LookingBack.{is_start, done_at, writes_in, last_act_on}
use Rattle.history.specs.SerialOrder.{first_commits, those_before, serial_read}
use Rattle.history.specs.SerialOrder as serial
use Rattle.history.specs.Writes.{actions_since_start, writes_of}
use Rattle.history.proofs.Runs.{IsRun, AtFirst, Then}
use Rattle.history.proofs.SerialReads.{reads_serial, rest_of}
use Rattle.audit.specs.declared.stretch.Shown.{Shown}
use Rattle.audit.specs.Consistent.{serial_table, are_shown, reads_are_serial}
use Rattle.audit.specs.Stretches as stretches
use Rattle.audit.specs.Stretches.{StretchParts, own_act, stretch_after, stretch_back, stretches_back, gets_in, writes_at}
use Rattle.audit.specs.ToldTables.{shows}
use Rattle.audit.proofs.MachineStretches.{not_called, called, writes_same, own_same}

-- ---- where a get stands

-- a get that is kept of a branch, and the step that it was
record IsGotten (rm : ℕ) (x : XidParts) (history : List Step) (get : Shown) : Type 0 where
  later : List Step
  before : List Step
  step : Step
  is : history ≡ later ++ step ∷ before
  does : call_done rm x step.event step.answer ≡ Some (Get get.key)
  none : list_any is_start (filter_map (done_at rm x) later) ≡ false
  answered : step.answer ≡ get_answer get.found
  own : get.own ≡ own_act (stretches.writes_in (stretch_back rm x before)) get.key

abbrev IsNoStart : Option Action → Type 0
IsNoStart None = Unit {0}
IsNoStart (Some action) = is_start action ≡ false

none_more : (o : Option Action) (actions : List Action) → IsNoStart o → list_any is_start actions ≡ false
    → list_any is_start (cons_option o actions) ≡ false
none_more None actions o none = none
none_more (Some action) actions o none = ap (λ (b : Bool). b || list_any is_start actions) o ∙ none

-- one step more, which starts nothing there
one_later : (rm : ℕ) (x : XidParts) (history : List Step) (get : Shown) (step : Step) → IsNoStart (done_at rm x step)
    → IsGotten rm x history get → IsGotten rm x (step ∷ history) get
one_later rm x history get step starts gotten = record {
  later = step ∷ gotten.later;
  before = gotten.before;
  step = gotten.step;
  is = ap (λ (steps : List Step). step ∷ steps) gotten.is;
  does = gotten.does;
  none = none_more (done_at rm x step) (filter_map (done_at rm x) gotten.later) starts gotten.none;
  answered = gotten.answered;
  own = gotten.own;
}

-- a get after a call: it was there, or it is this call
abbrev IsGetOf : Action → Answer → Option StretchParts → Shown → Type 0
IsGetOf action answer s get =
    ((is_start action ≡ false) × IsIn (gets_in s) get)
    ⊎ ((action ≡ Get get.key) × (answer ≡ get_answer get.found) × (get.own ≡ own_act (stretches.writes_in s) get.key))

one_shown : (key : List ℕ) (found : Option (List ℕ)) (s : StretchParts) (get : Shown)
    → IsIn (s.gets ++ (record { key = key; own = own_act s.writes key; found = found }) ∷ []) get
    → IsGetOf (Get key) (get_answer found) (Some s) get
one_shown key found s get h = elim (IsIn-push s.gets (record { key = key; own = own_act s.writes key; found = found }) get h) [
  | inl old ↦ inl (refl, old)
  | inr same ↦ inr (
    ap (λ (g : Shown). Get g.key) same,
    ap (λ (g : Shown). get_answer g.found) same,
    sym (ap (λ (g : Shown). g.own) same) ∙ ap (λ (g : Shown). own_act s.writes g.key) same,
  )
]

of_call : (action : Action) (answer : Answer) (s : Option StretchParts) (get : Shown) → is_done action answer ≡ true
    → IsIn (gets_in (stretch_after action answer s)) get → IsGetOf action answer s get
of_call Start (Code code.Ok) s get d h = absurd h
of_call Start answer s get d h = absurd (cc (d))
of_call (Put key value) (Code code.Ok) None get d h = absurd h
of_call (Put key value) (Code code.Ok) (Some s) get d h = inl (refl, h)
of_call (Put key value) answer s get d h = absurd (cc (d))
of_call (Del key) (Code code.Ok) None get d h = absurd h
of_call (Del key) (Code code.Ok) (Some s) get d h = inl (refl, h)
of_call (Del key) answer s get d h = absurd (cc (d))
of_call (Get key) (Value bytes) None get d h = absurd h
of_call (Get key) (Value bytes) (Some s) get d h = one_shown key (Some bytes) s get h
of_call (Get key) NoValue None get d h = absurd h
of_call (Get key) NoValue (Some s) get d h = one_shown key None s get h
of_call (Get key) answer s get d h = absurd (cc (d))
of_call End answer s get d h = inl (refl, h)
of_call EndFail answer s get d h = inl (refl, h)
of_call Rollback answer s get d h = inl (refl, h)

gotten : (rm : ℕ) (x : XidParts) (history : List Step) (get : Shown) → IsIn (gets_in (stretch_back rm x history)) get
    → IsGotten rm x history get
gotten rm x [] get h = absurd h
gotten rm x (step ∷ before) get h = by (gotten rm x before get) (done_at rm x step) refl
  where
    s : Option StretchParts
    s = stretch_back rm x before

    by : (IsIn (gets_in s) get → IsGotten rm x before get) → (o : Option Action) → done_at rm x step ≡ o
        → IsGotten rm x (step ∷ before) get
    by rest None none =
        one_later rm x before get step (subst IsNoStart (sym none) tt)
        (rest
        (subst (λ (t : Option StretchParts). IsIn (gets_in t) get) (not_called rm x step.event step.answer s none) h))
    by rest (Some action) does =
        let here = called rm x step.event step.answer s action does in
        elim (of_call action step.answer s get here.1 (subst (λ (t : Option StretchParts). IsIn (gets_in t) get) here.0 h)) [
          | inl old ↦ one_later rm x before get step (subst IsNoStart (sym does) old.0) (rest old.1)
          | inr new ↦ record {
            later = [];
            before = before;
            step = step;
            is = refl;
            does = does ∙ ap Some new.0;
            none = refl;
            answered = new.1;
            own = new.2;
          }
        ]

-- ---- in a run of the machine

-- the run up to an earlier step
pub earlier : (config : Config) (world : World) (history later before : List Step) → IsRun config world history
    → history ≡ later ++ before → (past : World) × IsRun config past before
earlier config world history [] before run is = (world, subst (IsRun config world) is run)
earlier config _ _ (step ∷ later) before AtFirst is = absurd (cc (is))
earlier config _ _ (step ∷ later) before (Then world prior event fault run) is =
    earlier config world prior later before run (ap rest_of is)

pub found_so : (found other : Option (List ℕ)) → get_answer found ≡ get_answer other → found ≡ other
found_so None None e = refl
found_so None (Some bytes) e = absurd (cc (e))
found_so (Some bytes) None e = absurd (cc (e))
found_so (Some bytes) (Some more) e = let same : bytes ≡ more = cc (e) in ap Some same

same_value : (value : Option (List ℕ)) → option_eq bytes_eq value value ≡ true
same_value None = refl
same_value (Some bytes) = (bytes_eq-Decides bytes bytes).1 refl

pub shows_so : (rows : List Row) (key : List ℕ) (own act : Act) (found : Option (List ℕ)) → own ≡ act
    → found ≡ value_after act (row_at rows key) → shows rows key own found ≡ true
shows_so rows key own act found same is =
    (λ i. option_eq bytes_eq (is i) (value_after (same i) (row_at rows key))) ∙ same_value (value_after act (row_at rows key))

pub all_passed : {X : Type 0} (p : X → Bool) (xs : List X) → ((x : X) → IsIn xs x → p x ≡ true) → list_all p xs ≡ true
all_passed p [] each = refl
all_passed p (x ∷ xs) each = (λ i. each x (inl refl) i && all_passed p xs (λ y h. each y (inr h)) i)

module _ (config : Config) (world : World) (history : List Step) (run : IsRun config world history) where
  -- the first contents of a resource manager
  abbrev pub first : ℕ → List Row
  first rm = fold put_row [] (first_rows config rm)

  pub serial_same : (rm : ℕ) (txs : List TxParts)
      → serial_table first (stretches_back history) rm txs ≡ serial.serial_table (first_rows config rm) rm history txs
  serial_same rm txs = by txs (first rm)
    where
      by : (ts : List TxParts) (rows : List Row)
          → fold (λ before tx. with_writes before (writes_at (stretches_back history) rm tx)) rows ts
          ≡ fold (λ before tx. with_writes before (writes_of rm history tx)) rows ts
      by [] rows = refl
      by (tx ∷ ts) rows =
          by ts (with_writes rows (writes_at (stretches_back history) rm tx))
          ∙ ap (λ ws. fold (λ before t. with_writes before (writes_of rm history t)) (with_writes rows ws) ts)
          (writes_same config world history run rm tx)

  get_serial : (rm : ℕ) (tx : TxParts) (x : XidParts) → xid_at tx rm ≡ Some x → IsIn (first_commits history) tx → (get : Shown)
      → IsIn (gets_in (stretch_back rm x history)) get
      → shows (serial_table first (stretches_back history) rm (those_before tx (first_commits history))) get.key get.own get.found ≡ true
  get_serial rm tx x name among get h =
      let at = gotten rm x history get h in
      let prior = earlier config world history (at.later ++ at.step ∷ []) at.before run (at.is ∙ sym (pushed at.later at.step at.before)) in
      let read = reads_serial config world history at.later at.before at.step rm x tx get.key run at.is at.does at.none name among in
      subst (λ (rows : List Row). shows rows get.key get.own get.found ≡ true)
      (sym (serial_same rm (those_before tx (first_commits history))))
      (shows_so (serial.serial_table (first_rows config rm) rm history (those_before tx (first_commits history))) get.key get.own
      (last_act_on (writes_in (actions_since_start rm x at.before)) get.key) get.found
      (at.own ∙ own_same config prior.0 at.before prior.1 rm x get.key)
      (found_so get.found (serial_read (first_rows config rm) rm history at.before tx x get.key) (sym at.answered ∙ read)))
    where
      pushed : (later : List Step) (step : Step) (before : List Step) → (later ++ step ∷ []) ++ before ≡ later ++ step ∷ before
      pushed [] step before = refl
      pushed (one ∷ later) step before = ap (λ (steps : List Step). one ∷ steps) (pushed later step before)

  -- the gets of each committed transaction are explained
  pub gets_serial : reads_are_serial first (stretches_back history) (first_commits history) ≡ true
  gets_serial =
      all_passed _ (first_commits history) (λ tx among. all_passed _ (participants tx) (λ rm h. by tx among rm (xid_at tx rm) refl))
    where
      by : (tx : TxParts) → IsIn (first_commits history) tx → (rm : ℕ) (o : Option XidParts) → xid_at tx rm ≡ o
          → are_shown (serial_table first (stretches_back history) rm (those_before tx (first_commits history)))
          (gets_in (option_and_then (stretches_back history rm) o)) ≡ true
      by tx among rm None name = refl
      by tx among rm (Some x) name =
          all_passed _ (gets_in (stretch_back rm x history)) (λ get h. get_serial rm tx x name among get h)
