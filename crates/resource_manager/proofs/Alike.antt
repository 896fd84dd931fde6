-- Facts that say the same have the same shorter record, also once more facts are played after both.
-- Needed by Shortened.
use Rattle.std.proofs.Common.{◌≡◌, ◌∙◌, ℕ, Bool, true, false, ◌||◌, List, [], ◌∷◌, ◌++◌, Option, Some, None, refl, sym, ap, subst}
use Rattle.std.proofs.Common.{filter_map, map}
use Rattle.std.specs.Prelude.{is_some}
use Rattle.std.specs.List.{list_any}
use Rattle.std.proofs.lemmas.Bool.{true≢false}
use Rattle.std.proofs.lemmas.List.Folds.{list_any-append}
use Rattle.ballot.specs.Greatest.{IsIn}
use Rattle.xid.specs.Transactions.{TxParts}
use Rattle.xid.specs.declared.transaction.Vote.{Vote}
use Rattle.stable_record.specs.declared.entry.EntryKind.TheVariants as entries
use Rattle.stable_record.specs.declared.fact.FactKind.{FactKind as Fact}
use Rattle.stable_record.specs.declared.fact.Touched.{Touched}
use Rattle.protocol.specs.declared.rows.Row.{Row}
use Rattle.protocol.specs.Effects.{Config}
use Rattle.protocol.specs.Managers.{all_branches}
use Rattle.protocol.specs.Facts.{Bound, is_commit_of, is_abort_of, is_prepared_view, view}
use Rattle.protocol.specs.Nodes.{first_rows}
use Rattle.protocol.specs.Tables.{keys_voted, table}
use Rattle.protocol.proofs.Manager.Apart.{bound_stored, stored_bound}
use Rattle.protocol.proofs.Manager.Keys.{names_name}
use Rattle.protocol.proofs.Manager.Played.{voted_named}
use Rattle.protocol.proofs.Manager.Views.{prepared_shows}
use Rattle.branch_table.specs.TableStates.{branch_named}
use Rattle.resource_manager.specs.declared.course.Course.{Course}
use Rattle.resource_manager.specs.Courses.{Stored, stored_in, stored_by, view_among, begun_in}
use Rattle.resource_manager.specs.Compacted.{SaysSame, beginning_with, entry_of, row_entry, shorter_entries}
use Rattle.resource_manager.proofs.Entries.{given_same}
use Rattle.resource_manager.proofs.Lengths.{first_of, found, found_more, found_voted, keys_of, kept_of}
use Rattle.resource_manager.proofs.Same.{PlayedSame, all_play_append, apart_same, leads_more, plays_same, same_on, spent_same}
use Rattle.resource_manager.proofs.Standing.{keys_of_vote}

-- a transaction that hasn't ended was voted with the same keys
abbrev pub AreKeysSame : (kept facts : List Fact) → Type 0
AreKeysSame kept facts =
    (tx : TxParts) → (stored_in facts tx).committed ≡ false → (stored_in facts tx).aborted ≡ false
    → keys_voted kept tx ≡ keys_voted facts tx

-- ---- at first

no_keys : (o : Option Bound) → is_some o ≡ false → keys_of o ≡ []
no_keys None e = refl
no_keys (Some bound) e = absurd (true≢false e)

-- with no vote prepared there are none
unvoted_keys : (facts : List Fact) (tx : TxParts) → (stored_in facts tx).voted_prepared ≡ false → keys_voted facts tx ≡ []
unvoted_keys facts tx e = no_keys (found tx facts) (sym (found_voted tx facts) ∙ e)

module _ (over config : Config) (number : ℕ) (kept facts : List Fact) (same : PlayedSame over config number kept facts) where
  prepared_keys : (tx : TxParts) → is_prepared_view (view kept tx) ≡ true → keys_voted kept tx ≡ keys_voted facts tx
  prepared_keys tx prepared =
      let vote = (prepared_shows kept tx prepared).0 in
      let bound : Bound = record { tx = tx; keys = vote.0 } in
      let among = stored_bound kept bound (record { voted = vote.1; prepared = prepared }) in
      let also = bound_stored facts bound (subst (λ (bs : List Bound). IsIn bs bound) same.leads.bound_are among) in
      let name = names_name tx number (voted_named over number kept same.kept_play tx Vote.Prepared vote) in
      keys_of_vote over number kept name.0 same.kept_play tx vote.0 vote.1 name.1
      ∙ sym (keys_of_vote config number facts name.0 same.play tx vote.0 also.voted name.1)

  -- the keys that were voted for are the same where nothing has ended
  pub keys_at_first : (course : TxParts → Course) → ((tx : TxParts) → stored_in facts tx ≡ stored_by (course tx)) → AreKeysSame kept facts
  keys_at_first course are tx uncommitted unaborted = by (course tx) (are tx)
    where
      neither : (c : Course) → (stored_by c).voted_prepared ≡ false → stored_in facts tx ≡ stored_by c
          → keys_voted kept tx ≡ keys_voted facts tx
      neither c none is =
          let unvoted = ap (λ (s : Stored). s.voted_prepared) is ∙ none in
          unvoted_keys kept tx (ap (λ (s : Stored). s.voted_prepared) (same.leads.stored_are tx) ∙ unvoted)
          ∙ sym (unvoted_keys facts tx unvoted)

      by : (c : Course) → stored_in facts tx ≡ stored_by c → keys_voted kept tx ≡ keys_voted facts tx
      by Course.Working is = neither Course.Working refl is
      by Course.VotedAborted is = neither Course.VotedAborted refl is
      by Course.AbortedUnvoted is = neither Course.AbortedUnvoted refl is
      by Course.Prepared is = prepared_keys tx (ap (λ s. is_prepared_view (view_among s)) (same.leads.stored_are tx ∙ is))
      by Course.Committed is = absurd (true≢false (sym (ap (λ (s : Stored). s.committed) is) ∙ uncommitted))
      by Course.RolledBack is = absurd (true≢false (sym (ap (λ (s : Stored). s.aborted) is) ∙ unaborted))

-- ---- with more facts

first_keys : (a b c : Option Bound) → is_some a ≡ is_some b → keys_of a ≡ keys_of b → keys_of (first_of a c) ≡ keys_of (first_of b c)
first_keys None None c some same = refl
first_keys (Some x) (Some y) c some same = same
first_keys None (Some y) c some same = absurd (true≢false (sym some))
first_keys (Some x) None c some same = absurd (true≢false some)

neither_one : (a b : Bool) → (a || b) ≡ false → a ≡ false
neither_one false b e = refl
neither_one true b e = absurd (true≢false e)

pub keys_more : (kept facts more : List Fact) → ((tx : TxParts) → stored_in kept tx ≡ stored_in facts tx) → AreKeysSame kept facts
    → AreKeysSame (kept ++ more) (facts ++ more)
keys_more kept facts more stored same tx uncommitted unaborted =
    let before = same tx (earlier (is_commit_of tx) uncommitted) (earlier (is_abort_of tx) unaborted) in
    ap keys_of (found_more tx kept more)
    ∙ first_keys (found tx kept) (found tx facts) (found tx more)
    (sym (found_voted tx kept) ∙ ap (λ (s : Stored). s.voted_prepared) (stored tx) ∙ found_voted tx facts) before
    ∙ sym (ap keys_of (found_more tx facts more))
  where
    earlier : (p : Fact → Bool) → list_any p (facts ++ more) ≡ false → list_any p facts ≡ false
    earlier p e = neither_one (list_any p facts) (list_any p more) (sym (list_any-append p facts more) ∙ e)

-- ---- what is written

-- only of one that is prepared and hasn't ended the keys are written
entry_by : (tx : TxParts) (p v c a : Bool) (ks ls : List Touched) → (c ≡ false → a ≡ false → ks ≡ ls)
    → entry_of tx (record { voted_prepared = p; voted_aborted = v; committed = c; aborted = a }) ks
    ≡ entry_of tx (record { voted_prepared = p; voted_aborted = v; committed = c; aborted = a }) ls
entry_by tx p v true a ks ls same = refl
entry_by tx true v false true ks ls same = refl
entry_by tx true v false false ks ls same = ap (λ keys. Some (entries.Fact (Fact.VotePrepared tx keys))) (same refl refl)
entry_by tx false v false a ks ls same = refl

-- the shorter record is the same
pub shorter_same : (over config : Config) (number : ℕ) (kept facts : List Fact) → PlayedSame over config number kept facts
    → AreKeysSame kept facts
    → shorter_entries (table (first_rows over number) kept) kept ≡ shorter_entries (table (first_rows config number) facts) facts
shorter_same over config number kept facts same keys =
    λ k. entries.Snapshot ∷ (map row_entry (same.rows_are k) ++ written k)
  where
    each : (tx : TxParts) → kept_of kept tx ≡ kept_of facts tx
    each tx =
        let s = stored_in facts tx in
        ap (λ t. entry_of tx t (keys_voted kept tx)) (same.leads.stored_are tx)
        ∙ entry_by tx s.voted_prepared s.voted_aborted s.committed s.aborted (keys_voted kept tx) (keys_voted facts tx) (keys tx)

    written : filter_map (kept_of kept) (begun_in kept) ≡ filter_map (kept_of facts) (begun_in facts)
    written = given_same (kept_of kept) (kept_of facts) each (begun_in kept) ∙ ap (filter_map (kept_of facts)) same.leads.begun_are

-- facts over rows that played say the same as those that have led to the rows
pub says_same : (config : Config) (number : ℕ) (rows : List Row) (kept facts : List Fact)
    → PlayedSame (beginning_with config number rows) config number kept facts → AreKeysSame kept facts
    → SaysSame config number rows kept facts
says_same config number rows kept facts same keys = record {
  stands = λ more m branches stands.
      let over = beginning_with config number rows in
      let then = same_on over config number kept facts more same (all_play_append over number [] kept more stands.played) in
      record {
        number_is = stands.number_is;
        managers_are = stands.managers_are;
        played = then.play;
        apart = apart_same number (kept ++ more) (facts ++ more) then.leads branches stands.apart;
        unprepared = stands.unprepared;
        stored_are = λ tx. sym (then.leads.stored_are tx) ∙ stands.stored_are tx;
        begun_are = stands.begun_are ∙ then.leads.begun_are;
        spent_are = λ x. sym (spent_same number (kept ++ more) (facts ++ more) then.leads x) ∙ stands.spent_are x;
        rows_are = stands.rows_are ∙ then.rows_are;
        branches_are = λ x.
            stands.branches_are x
            ∙ ap (λ bound. branch_named (all_branches number bound branches) x) then.leads.bound_are;
      };
  fits = λ more fact. plays_same number (kept ++ more) (facts ++ more) (leads_more number kept facts same.leads more) fact;
  shorter = λ more play.
      let over = beginning_with config number rows in
      shorter_same over config number (kept ++ more) (facts ++ more)
      (same_on over config number kept facts more same (all_play_append over number [] kept more play))
      (keys_more kept facts more same.leads.stored_are keys);
}
