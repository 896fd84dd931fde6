-- What a ledger holds after one entry more.
use Rattle.std.proofs.Common.{◌≡◌, ◌∙◌, ℕ, ◌+◌, ◌<◌, Bool, true, false, ◌==◌, ◌&&◌, cond, List, [], ◌∷◌, ◌++◌, length, map, get_or, take}
use Rattle.std.proofs.Common.{drop, reverse, set, Option, Some, None, Result, Ok, Err, refl, sym, ap, subst, suc, arith}
use Rattle.std.specs.Prelude.{IfOk}
use Rattle.std.specs.Option.{option_map_or, option_and_then}
use Rattle.std.proofs.Math.Seq.{take-suc}
use Rattle.std.proofs.lemmas.Bool.{and_parts}
use Rattle.std.proofs.lemmas.List.{reverse-append, map-append, take-append-drop}
use Rattle.xid.specs.Names.{XidParts}
use Rattle.xid.specs.Transactions.{TxParts, tx_eq}
use Rattle.safety.specs.Vocabulary.{Answer, Event, Deliver, Change, Step, Row}
use Rattle.protocol.specs.Tables.{with_writes}
use Rattle.protocol.specs.declared.events.Sent.{Sent}
use Rattle.protocol.specs.declared.events.Told.{Told}
use Rattle.protocol.specs.declared.nodes.NodeId.{NodeId}
use Rattle.xid.specs.declared.refusals.Refusal.{Refusal}
use Rattle.transactions.specs.Seen.{seen_with}
use Rattle.history.specs.SerialOrder.{first_commits, with_commit}
use Rattle.history.specs.Writes.{is_committed_view, changed_to}
use Rattle.net_script.specs.declared.values.Entry.{Entry}
use Rattle.audit.specs.Told.{step_of, history_of, each_step, is_move, moves_rightly, views_back}
use Rattle.audit.specs.Stretches.{stretch_by, stretches_back, stretch_back, writes_at}
use Rattle.audit.specs.ToldTables.{is_event_right, table_told}
use Rattle.audit.specs.Books.{rows_of, stretch_of, views_in, is_move_from, place_at, firsts_changed}
use Rattle.audit.specs.Following.{IsHappened, IsChanged, IsChangedBy, Follows, Takes}
use Rattle.audit.specs.declared.ledger.Ledger.{Ledger}
use Rattle.audit.proofs.MoveLemmas.{with_change, views_more, move_same}

-- a step that changed no view
abbrev pub bare : Event → Answer → List Sent → List Told → Step
bare event answer sent told = record { event = event; answer = answer; now = None; sent = sent; told = told }

pub follows_event : (first : ℕ → List Row) (before : List Step) (old mid : Ledger) → Follows first before old
    → (event : Event) (answer : Answer) (sent : List Sent) (told : List Told) → IsHappened old mid event answer
    → Follows first (bare event answer sent told ∷ before) mid
follows_event first before old mid follows event answer sent told happened = record {
  tables = λ rm. ap (λ ts. rows_of ts rm) happened.tables ∙ follows.tables rm;
  branches = λ rm x. happened.branches rm x ∙ ap (stretch_by rm x event answer) (follows.branches rm x);
  views = λ tx. ap (λ v. views_in v tx) happened.views ∙ follows.views tx;
  firsts = happened.firsts ∙ follows.firsts;
}

module _ (first : ℕ → List Row) (before : List Step) (mid : Ledger) (event : Event) (answer : Answer) (sent : List Sent)
    (told : List Told) (at : Follows first (bare event answer sent told ∷ before) mid) where
  branches_after : (rm : ℕ) (x : XidParts) → stretch_of mid.branches rm x ≡ stretch_by rm x event answer (stretch_back rm x before)
  branches_after = at.branches

  tables_before : (rm : ℕ) → rows_of mid.tables rm ≡ table_told first rm before
  tables_before = at.tables

  views_before : (tx : TxParts) → views_in mid.views tx ≡ views_back before tx
  views_before = at.views

  firsts_before : mid.firsts ≡ first_commits before
  firsts_before = at.firsts

  module _ (new : Ledger) (change : Change) (changed : IsChanged mid new change) where
    abbrev after : Step
    after = with_change before event answer sent told change

    -- a table changes where its resource manager has committed
    table_by : (rm : ℕ) (here : Bool)
        → cond (is_committed_view change.view && here)
        (with_writes (table_told first rm before) (writes_at (stretches_back (after ∷ before)) rm change.tx)) (table_told first rm before)
        ≡ option_map_or (λ tx. with_writes (table_told first rm before) (writes_at (stretches_back (after ∷ before)) rm tx))
        (option_and_then (changed_to is_committed_view) (cond here (Some change) None)) (table_told first rm before)
    table_by rm true = by (is_committed_view change.view)
      where
        by : (b : Bool)
            → cond (b && true)
            (with_writes (table_told first rm before) (writes_at (stretches_back (after ∷ before)) rm change.tx))
            (table_told first rm before)
            ≡ option_map_or (λ tx. with_writes (table_told first rm before) (writes_at (stretches_back (after ∷ before)) rm tx))
            (cond b (Some change.tx) None) (table_told first rm before)
        by true = refl
        by false = refl
    table_by rm false = by (is_committed_view change.view)
      where
        by : (b : Bool)
            → cond (b && false)
            (with_writes (table_told first rm before) (writes_at (stretches_back (after ∷ before)) rm change.tx))
            (table_told first rm before)
            ≡ table_told first rm before
        by true = refl
        by false = refl

    firsts_by : (txs : List TxParts) (b : Bool) → cond b (seen_with txs change.tx) txs
        ≡ option_map_or (with_commit txs) (cond b (Some change.tx) None) txs
    firsts_by txs true = refl
    firsts_by txs false = refl

    pub follows_change : Follows first (after ∷ before) new
    follows_change = record {
      tables = λ rm.
          changed.tables rm
          ∙ (λ i. cond (is_committed_view change.view && (change.rm == rm))
          (with_writes (tables_before rm i) (writes_at (λ r x. branches_after r x i) rm change.tx)) (tables_before rm i))
          ∙ table_by rm (change.rm == rm);
      branches = λ rm x. ap (λ bs. stretch_of bs rm x) changed.branches ∙ branches_after rm x;
      views = λ tx.
          changed.views tx
          ∙ ap (λ vs. cond (tx_eq tx change.tx) (set vs (place_at change.rm tx) change.view) vs) (views_before tx)
          ∙ sym (views_more before event answer sent told change changed.valid tx);
      firsts =
          changed.firsts ∙ ap (λ txs. firsts_changed txs change) firsts_before
          ∙ firsts_by (first_commits before) (is_committed_view change.view);
    }

  follows_now : (new : Ledger) (now : Option Change) → IsChangedBy mid new now
      → Follows first (record { event = event; answer = answer; now = now; sent = sent; told = told } ∷ before) new
  follows_now new None same = subst (Follows first (bare event answer sent told ∷ before)) (sym same) at
  follows_now new (Some change) changed = follows_change new change changed

  pub moves_so : (now : Option Change) → option_map_or (is_move_from mid.views) now true
      ≡ option_map_or (is_move before) now true
  moves_so None = refl
  moves_so (Some change) = move_same mid.views before change views_before

-- an event is right by a ledger, where it is by the history
pub right_so : (first : ℕ → List Row) (before : List Step) (old : Ledger) (event : Event) (answer : Answer) → Follows first before old
    → is_event_right (rows_of old.tables) (stretch_of old.branches) event answer
    ≡ is_event_right (λ rm. table_told first rm before) (stretches_back before) event answer
right_so first before old event answer follows =
    λ i. is_event_right (λ rm. follows.tables rm i) (λ rm x. follows.branches rm x i) event answer

-- an entry is refused whose event isn't right
pub refused : (first : ℕ → List Row) (before : List Step) (step : Step) (old new : Ledger) → Follows first before old
    → false ≡ is_event_right (rows_of old.tables) (stretch_of old.branches) step.event step.answer → Takes first before step false new
refused first before step old new follows wrong = record {
  right = ap (λ b. b && moves_rightly before step) (wrong ∙ right_so first before old step.event step.answer follows);
  follows = λ e. absurd (cc (e));
}

-- an entry is taken, or refused, whose event is right
pub taken : (first : ℕ → List Row) (before : List Step) (step : Step) (old mid new : Ledger) (ok : Bool) → Follows first before old
    → true ≡ is_event_right (rows_of old.tables) (stretch_of old.branches) step.event step.answer
    → IsHappened old mid step.event step.answer → ok ≡ option_map_or (is_move_from mid.views) step.now true
    → (ok ≡ true → IsChangedBy mid new step.now) → Takes first before step ok new
taken first before step old mid new ok follows right happened moves changed = record {
  right =
      moves ∙ moves_so first before mid step.event step.answer step.sent step.told
      (follows_event first before old mid follows step.event step.answer step.sent step.told happened) step.now
      ∙ ap (λ b. b && moves_rightly before step) (right ∙ right_so first before old step.event step.answer follows);
  follows = λ e.
      follows_now first before mid step.event step.answer step.sent step.told
      (follows_event first before old mid follows step.event step.answer step.sent step.told happened) new step.now (changed e);
}

-- a datagram from a socket changes no branch
pub nothing_happened : (old : Ledger) (answer : Answer) → IsHappened old old (Deliver 0) answer
nothing_happened old answer = record { branches = λ rm x. refl; tables = refl; views = refl; firsts = refl }

-- an entry of a step is taken, or refused, whose event is right
pub step_taken : (r : Result Bool Refusal) (entry : Entry) (step : Step) (old mid new : Ledger) (b : Bool) → entry ≡ Entry.Step step
    → b ≡ true
    → (b ≡ is_event_right (rows_of old.tables) (stretch_of old.branches) step.event step.answer)
    × (b ≡ true → IsHappened old mid step.event step.answer)
    → IfOk r (λ yes. (yes ≡ option_map_or (is_move_from mid.views) step.now true) × (yes ≡ true → IsChangedBy mid new step.now))
    → IfOk r (λ yes. (first : ℕ → List Row) (before : List Step) → Follows first before old → Takes first before (step_of entry) yes new)
step_taken (Ok ok) entry step old mid new b is right event change = λ first before follows.
    subst (λ e. Takes first before (step_of e) ok new) (sym is)
    (taken first before step old mid new ok follows (sym right ∙ event.0) (event.1 right) change.0 change.1)
step_taken (Err e) entry step old mid new b is right event change = tt

-- an entry of a serve is taken, or refused
pub serve_taken : (r : Result Bool Refusal) (entry : Entry) (node : NodeId) (answer : Answer) (now : Option Change) (sent : List Sent)
    (old new : Ledger)
    → entry ≡ Entry.Serve node answer now sent
    → IfOk r (λ yes. (yes ≡ option_map_or (is_move_from old.views) now true) × (yes ≡ true → IsChangedBy old new now))
    → IfOk r (λ yes. (first : ℕ → List Row) (before : List Step) → Follows first before old → Takes first before (step_of entry) yes new)
serve_taken (Ok ok) entry node answer now sent old new is change = λ first before follows.
    subst (λ e. Takes first before (step_of e) ok new) (sym is)
    (taken first before (step_of (Entry.Serve node answer now sent)) old old new ok follows refl (nothing_happened old answer) change.0
    change.1)
serve_taken (Err e) entry node answer now sent old new is change = tt

-- ---- histories of the first entries

pub history_push : (es : List Entry) (e : Entry) → history_of (es ++ e ∷ []) ≡ step_of e ∷ history_of es
history_push es e = ap reverse (map-append step_of es (e ∷ [])) ∙ reverse-append (map step_of es) (step_of e ∷ [])

pub history_more : (entries : List Entry) (i : ℕ) (d : Entry) → i < length entries
    → history_of (take (i + 1) entries) ≡ step_of (get_or entries i d) ∷ history_of (take i entries)
history_more entries i d lt =
    let next : i + 1 ≡ suc i = omega arith in
    ap (λ n. history_of (take n entries)) next ∙ ap history_of (take-suc entries i d lt)
    ∙ history_push (take i entries) (get_or entries i d)

history_parts : (n : ℕ) (entries : List Entry) → history_of entries ≡ history_of (drop n entries) ++ history_of (take n entries)
history_parts n entries =
    ap history_of (sym (take-append-drop n entries)) ∙ ap reverse (map-append step_of (take n entries) (drop n entries))
    ∙ reverse-append (map step_of (take n entries)) (map step_of (drop n entries))

later_steps : (test : List Step → Step → Bool) (later before : List Step) → each_step test (later ++ before) ≡ true
    → each_step test before ≡ true
later_steps test [] before e = e
later_steps test (step ∷ later) before e =
    later_steps test later before (and_parts (each_step test (later ++ before)) (test (later ++ before) step) e).0

-- a step that fails its test fails the whole history
pub fails_at : (test : List Step → Step → Bool) (entries : List Entry) (i : ℕ) (d : Entry) → i < length entries
    → test (history_of (take i entries)) (step_of (get_or entries i d)) ≡ false → each_step test (history_of entries) ≡ false
fails_at test entries i d lt wrong = by (each_step test (history_of entries)) refl
  where
    by : (b : Bool) → each_step test (history_of entries) ≡ b → b ≡ false
    by false e = refl
    by true e =
        let parts = ap (each_step test) (sym (history_parts (i + 1) entries)) ∙ e in
        let at = ap (each_step test) (sym (history_more entries i d lt))
        ∙ later_steps test (history_of (drop (i + 1) entries)) (history_of (take (i + 1) entries)) parts in
        sym (and_parts (each_step test (history_of (take i entries))) (test (history_of (take i entries)) (step_of (get_or entries i d)))
        at).1 ∙ wrong
