-- What a resource manager writes in place of its record says what the record says.
-- Needed by Frames; crates node_core and floored_groups.
use Rattle.std.proofs.Common.{◌≡◌, ◌∙◌, ℕ, ◌≤◌, suc, zero, true, ◌&&◌, List, [], ◌∷◌, ◌++◌, Option, Some, None, refl, sym, ap, subst, map}
use Rattle.std.specs.Prelude.{filter_map, replicate, slice_get, unwrap_or}
use Rattle.std.specs.List.{cons_option, list_all}
use Rattle.std.specs.Option.{option_map_or}
use Rattle.xid.specs.Names.{XidParts}
use Rattle.xid.specs.Transactions.{TxParts, xid_at}
use Rattle.xid.specs.declared.transaction.Vote.{Vote}
use Rattle.stable_record.specs.declared.entry.EntryKind.{EntryKind as Entry}
use Rattle.stable_record.specs.declared.entry.EntryKind.TheVariants as entries
use Rattle.stable_record.specs.declared.fact.FactKind.{FactKind as Fact}
use Rattle.stable_record.specs.declared.fact.Touched.{Touched}
use Rattle.protocol.specs.declared.nodes.NodeId.TheVariants.{R}
use Rattle.protocol.specs.declared.rows.Row.{Row}
use Rattle.protocol.specs.Effects.{Config}
use Rattle.protocol.specs.Facts.{Bound, is_prepared_view}
use Rattle.protocol.specs.Managers.{Branch, plays_at_manager, stored_votes}
use Rattle.ballot.specs.Greatest.{IsIn}
use Rattle.protocol.specs.Nodes.{all_play, first_rows}
use Rattle.protocol.specs.Tables.{keys_voted, table}
use Rattle.protocol.proofs.Manager.Apart.{stored_bound}
use Rattle.protocol.proofs.Manager.Keys.{names_name}
use Rattle.protocol.proofs.Manager.Played.{voted_named}
use Rattle.protocol.proofs.Manager.Prepared.{names_held_once}
use Rattle.branch_table.specs.Outcomes.{keys_named, prepared_branch}
use Rattle.resource_manager.specs.declared.course.Course.{Course}
use Rattle.resource_manager.specs.Courses.{stored_in, stored_by, course_in, begun_in}
use Rattle.resource_manager.specs.Managers.{ManagerParts, StandsFor, branches_in}
use Rattle.resource_manager.specs.Compacted.{IsShortened, beginning_with, entries_at, entry_at, entry_of, is_about_tx}
use Rattle.resource_manager.specs.Compacted.{about_length, keys_here, row_entry, shorter_entries}
use Rattle.resource_manager.proofs.Alike.{keys_at_first, says_same}
use Rattle.resource_manager.proofs.Ascending.{ascending, put_again, table_ascends}
use Rattle.resource_manager.proofs.Entries.{given_same}
use Rattle.resource_manager.proofs.Kept.{all_kept, kept, kept_branches, kept_order, kept_stored}
use Rattle.resource_manager.proofs.Lengths.{no_longer}
use Rattle.resource_manager.proofs.Named.{named_at}
use Rattle.resource_manager.proofs.Pieces.{parts_are}
use Rattle.resource_manager.proofs.Same.{PlayedSame}
use Rattle.resource_manager.proofs.Standing.{bound_in, keys_of_vote}
use Rattle.resource_manager.proofs.Votes.{prepared_vote, view_is}

-- what is written is about transactions
about_entry : (tx : TxParts) (c : Course) (keys : List Touched) (rest : List Entry) → list_all is_about_tx rest ≡ true
    → list_all is_about_tx (cons_option (entry_of tx (stored_by c) keys) rest) ≡ true
about_entry tx Course.Working keys rest all = all
about_entry tx Course.Prepared keys rest all = all
about_entry tx Course.VotedAborted keys rest all = all
about_entry tx Course.Committed keys rest all = all
about_entry tx Course.RolledBack keys rest all = all
about_entry tx Course.AbortedUnvoted keys rest all = all

about_entries : (course : TxParts → Course) (keys : TxParts → List Touched) (txs : List TxParts)
    → list_all is_about_tx (filter_map (λ tx. entry_of tx (stored_by (course tx)) (keys tx)) txs) ≡ true
about_entries course keys [] = refl
about_entries course keys (tx ∷ txs) = about_entry tx (course tx) (keys tx) _ (about_entries course keys txs)

-- only of one that is prepared the keys are written
same_entry : (tx : TxParts) (c : Course) (keys others : List Touched) → (c ≡ Course.Prepared → keys ≡ others)
    → entry_of tx (stored_by c) keys ≡ entry_of tx (stored_by c) others
same_entry tx Course.Working keys others same = refl
same_entry tx Course.Prepared keys others same = ap (λ ks. Some (entries.Fact (Fact.VotePrepared tx ks))) (same refl)
same_entry tx Course.VotedAborted keys others same = refl
same_entry tx Course.Committed keys others same = refl
same_entry tx Course.RolledBack keys others same = refl
same_entry tx Course.AbortedUnvoted keys others same = refl

-- the first rows of a manager in a cluster that begins with them
pub begins_with : (config : Config) (number : ℕ) (rows : List Row) → first_rows (beginning_with config number rows) number ≡ rows
begins_with config number rows = ap (λ (o : Option (List Row)). unwrap_or o []) (last_of number)
  where
    last_of : (n : ℕ) → slice_get (replicate (suc n) rows) n ≡ Some rows
    last_of zero = refl
    last_of (suc n) = last_of n

-- what plays doesn't ask for the first rows
pub plays_over : (config over : Config) (number : ℕ) (before facts : List Fact)
    → all_play config (R number) before facts ≡ all_play over (R number) before facts
plays_over config over number before [] = refl
plays_over config over number before (fact ∷ facts) =
    ap (λ t. plays_at_manager number (stored_votes number before) fact && t) (plays_over config over number (before ++ fact ∷ []) facts)

module _ (config : Config) (number : ℕ) (m : ManagerParts) (facts : List Fact) (branches : List Branch)
    (stands : StandsFor config number m facts branches) where
  abbrev course : TxParts → Course
  course tx = course_in m.courses tx

  abbrev rows : List Row
  rows = table (first_rows config number) facts

  -- the branch of a prepared transaction has just the keys of its vote
  prepared_keys : (tx : TxParts) → course tx ≡ Course.Prepared → keys_here m tx ≡ keys_voted facts tx
  prepared_keys tx prepared = by (xid_at tx m.number) refl
    where
      voted : (keys : List Touched) × IsIn facts (Fact.VotePrepared tx keys)
      voted = prepared_vote config number m facts branches stands tx prepared

      by : (o : Option XidParts) → xid_at tx m.number ≡ o → option_map_or (keys_named m.table.branches) o [] ≡ keys_voted facts tx
      by None e =
          let name = names_name tx number (voted_named config number facts stands.played tx Vote.Prepared voted) in
          absurd (cc (sym e ∙ ap (xid_at tx) stands.number_is ∙ name.1))
      by (Some x) e =
          let name : xid_at tx number ≡ Some x = ap (xid_at tx) (sym stands.number_is) ∙ e in
          let bound : Bound = record { tx = tx; keys = voted.0 } in
          let among = stored_bound facts bound
          (record {
            voted = voted.1;
            prepared = ap is_prepared_view (view_is config number m facts branches stands tx Course.Prepared prepared);
          }) in
          ap (λ (o : Option Branch). option_map_or (λ (b : Branch). b.keys) o [])
          (stands.branches_are x
          ∙ named_at (branches_in number facts branches) (prepared_branch x voted.0) x
          (names_held_once config number facts branches stands.played stands.apart) (bound_in number facts branches bound x among name)
          refl)
          ∙ sym (keys_of_vote config number facts x stands.played tx voted.0 voted.1 name)

  -- each transaction's entry is the one that the facts have
  written : filter_map (entry_at m) m.courses.begun
      ≡ filter_map (λ tx. entry_of tx (stored_by (course tx)) (keys_voted facts tx)) (begun_in facts)
  written =
      ap (filter_map (entry_at m)) stands.begun_are
      ∙ given_same (entry_at m) (λ tx. entry_of tx (stored_by (course tx)) (keys_voted facts tx))
      (λ tx. same_entry tx (course tx) (keys_here m tx) (keys_voted facts tx) (prepared_keys tx)) (begun_in facts)

  stored_so : filter_map (λ tx. entry_of tx (stored_by (course tx)) (keys_voted facts tx)) (begun_in facts)
      ≡ filter_map (λ tx. entry_of tx (stored_in facts tx) (keys_voted facts tx)) (begun_in facts)
  stored_so =
      given_same (λ tx. entry_of tx (stored_by (course tx)) (keys_voted facts tx))
      (λ tx. entry_of tx (stored_in facts tx) (keys_voted facts tx))
      (λ tx. ap (λ s. entry_of tx s (keys_voted facts tx)) (sym (stands.stored_are tx))) (begun_in facts)

  -- the entries of a resource manager are a shorter record of its facts
  pub shortened : IsShortened config number facts (entries_at m)
  shortened =
      let again = put_again rows (table_ascends (first_rows config number) facts) in
      let over = beginning_with config number rows in
      let begins = begins_with config number rows in
      let all = all_kept config number facts stands.played course stands.stored_are rows again in
      let told = kept config number facts stands.played course stands.stored_are facts in
      let played : PlayedSame over config number told facts =
      record {
        kept_play = plays_over over config number [] told ∙ all.still.plays;
        play = stands.played;
        leads = record {
          stored_are = kept_stored config number facts stands.played course stands.stored_are rows again;
          begun_are = kept_order config number facts stands.played course stands.stored_are rows again;
          bound_are = kept_branches config number facts stands.played course stands.stored_are rows again;
        };
        rows_are = ap (λ first. table first told) begins ∙ all.still.rows_are;
      } in
      record {
        all_is = λ i. entries.Snapshot ∷ (map row_entry (stands.rows_are i) ++ (written ∙ stored_so) i);
        rows = rows;
        kept = told;
        compacted = record {
          later = filter_map (λ tx. entry_of tx (stored_by (course tx)) (keys_voted facts tx)) (begun_in facts);
          all_is = λ i. entries.Snapshot ∷ (map row_entry (stands.rows_are i) ++ written i);
          ascending = ascending rows (table_ascends (first_rows config number) facts);
          about = about_entries course (keys_voted facts) (begun_in facts);
          facts_are = sym (parts_are course (keys_voted facts) (begun_in facts));
        };
        fits = all.still.plays;
        no_longer = λ before e. subst (λ (es : List Entry). about_length es ≤ about_length before)
            (sym ((λ i. entries.Snapshot ∷ (map row_entry (stands.rows_are i) ++ (written ∙ stored_so) i))
            ∙ ap (shorter_entries rows) (sym e))) (no_longer rows before);
        same = says_same config number rows told facts played (keys_at_first over config number told facts played course stands.stored_are);
      }
