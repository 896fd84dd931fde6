-- What the bytes of a record say, with a snapshot in front or without one.
-- Needed by `read_role`; Lengths, Loading, Restarting and Shortening; crates groups and floored_groups.
use Rattle.std.proofs.Common.{◌≡◌, ◌∙◌, ℕ, ◌+◌, ◌-◌, ◌≤◌, true, false, List, [], ◌∷◌, ◌++◌, length, drop, refl, sym, ap}
use Rattle.std.proofs.Common.{subst, length-append, arith}
use Rattle.std.specs.Prelude.{map, unwrap_or, Option, Some, None, Result, Ok, Err}
use Rattle.std.specs.List.{list_all, flat_map}
use Rattle.std.proofs.lemmas.List.{drop_at, drop-drop}
use Rattle.xid.specs.declared.refusals.Refusal.{Refusal}
use Rattle.stable_record.specs.declared.entry.EntryKind.{EntryKind as Entry}
use Rattle.stable_record.specs.declared.entry.EntryKind.TheVariants as entries
use Rattle.stable_record.specs.declared.fact.FactKind.{FactKind as Fact}
use Rattle.stable_record.specs.Grammar.{IsStored}
use Rattle.protocol.specs.declared.nodes.NodeId.{NodeId}
use Rattle.protocol.specs.declared.nodes.NodeId.TheVariants.{A, L, R}
use Rattle.protocol.specs.declared.rows.Row.{Row}
use Rattle.protocol.specs.Effects.{Config}
use Rattle.protocol.specs.Nodes.{all_play}
use Rattle.resource_manager.specs.Compacted.{beginning_with, row_entry, facts_of}
use Rattle.resource_manager.proofs.Shortened.{begins_with, plays_over}
use Rattle.node_core.specs.declared.config.Sizes.{Sizes}
use Rattle.node_core.specs.declared.role.Role.{Role}
use Rattle.node_core.specs.Nodes.{Kept, MeansFrom, Holds, begun, AreSizes, HasRows}
use Rattle.node_core.specs.Opening.{is_fact, Goes, HasPlayed, IsUnplayable, IsPlayedFrom, IsSnapshot, IsManager}
use Rattle.node_core.specs.Opening.{IsPlain, IsBad, IsRecordRead, Reads}

-- ---- the cluster in which a table begins with the rows of a record

-- a record begins with the rows of its snapshot, or with the node's own
pub begun_rows : (config : Config) (who : NodeId) (own : List Row) (rows : Option (List Row))
    → HasRows (begun config who own rows) who (unwrap_or rows own)
begun_rows config (A a) own rows = tt
begun_rows config (L l) own rows = tt
begun_rows config (R rm) own rows = sym (begins_with config rm (unwrap_or rows own))

-- its configuration has the same sizes
pub begun_sizes : (config : Config) (who : NodeId) (own : List Row) (rows : Option (List Row)) (sizes : Sizes) → AreSizes config sizes
    → AreSizes (begun config who own rows) sizes
begun_sizes config (A a) own rows sizes are = are
begun_sizes config (L l) own rows sizes are = are
begun_sizes config (R rm) own rows sizes are = record {
  acceptors_are = are.acceptors_are;
  leaders_are = are.leaders_are;
  managers_are = are.managers_are;
  bundled_is = are.bundled_is;
}

-- first contents don't matter to what plays
pub begun_plays : (config : Config) (who : NodeId) (own : List Row) (rows : Option (List Row)) (before facts : List Fact)
    → all_play (begun config who own rows) who before facts ≡ all_play config who before facts
begun_plays config (A a) own rows before facts = refl
begun_plays config (L l) own rows before facts = refl
begun_plays config (R rm) own rows before facts = plays_over (begun config (R rm) own rows) config rm before facts

-- ---- entries that are facts

-- the entries of facts
abbrev pub of_facts : List Fact → List Entry
of_facts facts = map entries.Fact facts

-- they mean these facts
pub meant_facts : (facts : List Fact) → flat_map facts_of (of_facts facts) ≡ facts
meant_facts [] = refl
meant_facts (fact ∷ facts) = ap (λ fs. fact ∷ fs) (meant_facts facts)

all_facts : (facts : List Fact) → list_all is_fact (of_facts facts) ≡ true
all_facts [] = refl
all_facts (fact ∷ facts) = all_facts facts

from_facts : (all : List Entry) → list_all is_fact all ≡ true → all ≡ of_facts (flat_map facts_of all)
from_facts [] h = refl
from_facts (entries.Fact fact ∷ all) h = ap (λ es. entries.Fact fact ∷ es) (from_facts all h)
from_facts (entries.Snapshot ∷ all) h = absurd (cc (h))
from_facts (entries.Row key value ∷ all) h = absurd (cc (h))
from_facts (entries.PastCommitted tx ∷ all) h = absurd (cc (h))
from_facts (entries.PastAborted tx ∷ all) h = absurd (cc (h))

no_snapshot_first : (facts : List Fact) (left : List Entry) → of_facts facts ≡ entries.Snapshot ∷ left → ⊥
no_snapshot_first [] left is = absurd (cc (is))
no_snapshot_first (fact ∷ facts) left is = absurd (cc (is))

-- ---- with a snapshot

drop_past : (bytes before rest : List ℕ) (len : ℕ) → bytes ≡ before ++ rest → drop (length bytes - length rest + len) bytes ≡ drop len rest
drop_past bytes before rest len is =
    let all : length bytes ≡ length (before ++ rest) = ap length is in
    let n : length before ≡ length bytes - length rest = omega (arith, all, length-append before rest) in
    let front : drop (length bytes - length rest) bytes ≡ rest = ap (drop (length bytes - length rest)) is ∙ drop_at before rest _ n in
    sym (drop-drop len (length bytes - length rest) bytes) ∙ ap (drop len) front

module _ (config : Config) (rm : ℕ) (own : List Row) (bytes rest : List ℕ) (rows : List Row) (s : IsSnapshot bytes rest rows) where
  abbrev from : Config
  from = beginning_with config rm rows

  pub compacted_read : (role : Role) (len : ℕ) → HasPlayed from (R rm) true rest role len
      → IsRecordRead config (R rm) own bytes role (length bytes - length rest + len)
  compacted_read role len h =
      let all : length bytes ≡ length (s.up_to.place.0 ++ rest) = ap length s.up_to.place.1 in
      let left = drop_past bytes s.up_to.place.0 rest len s.up_to.place.1 in
      let facts = flat_map facts_of h.all in
      let kept : Kept = record { rows = Some rows; facts = facts } in
      let holds : Holds config (R rm) bytes kept (drop (length bytes - length rest + len) bytes) = record {
        all = entries.Snapshot ∷ (map row_entry rows ++ h.all);
        stored = subst (IsStored bytes (entries.Snapshot ∷ (map row_entry rows ++ h.all))) (sym left)
            (s.up_to.goes h.all (drop len rest) h.goes.stored);
        means = record { later = h.all; all_is = refl; ascending = s.ascending; about = h.goes.may; facts_are = refl };
        fits = plays_over config from rm [] facts ∙ h.goes.fits;
      } in
      record {
        kept = kept;
        within = omega (arith, all, length-append s.up_to.place.0 rest, h.within);
        holds = holds;
        stands = h.stands;
      }

  compacted_goes : (tail : List ℕ) (all : List Entry) → IsStored bytes all tail → (others : Option (List Row)) (facts : List Fact)
      → MeansFrom (R rm) all others facts → all_play config (R rm) [] facts ≡ true
      → (later : List Entry) × Goes from (R rm) true rest later tail
  compacted_goes tail all stored None facts means fits =
      let came = s.up_to.came all tail stored in
      absurd (no_snapshot_first facts (map row_entry rows ++ came.0) (sym means ∙ came.1))
  compacted_goes tail all stored (Some others) facts means fits =
      let only = s.only all tail others facts stored means in (
        means.later,
        record {
          stored = only.1;
          may = means.about;
          fits =
              plays_over from config rm [] (flat_map facts_of means.later) ∙ ap (all_play config (R rm) []) (sym means.facts_are) ∙ fits;
        },
      )

  compacted_bad : IsUnplayable from (R rm) true rest → IsBad config (R rm) bytes
  compacted_bad bad kept tail h =
      let g = compacted_goes tail h.all h.stored kept.rows kept.facts h.means h.fits in
      bad g.0 tail g.1

  pub compacted_unread : (e : Refusal) → IsPlayedFrom from (R rm) true rest (Err e) → Reads config (R rm) own bytes (Err e)
  compacted_unread Refusal.Damaged h = compacted_bad h
  compacted_unread Refusal.NoMemory h = tt
  compacted_unread other h = absurd h

-- ---- without one

module _ (config : Config) (who : NodeId) (own : List Row) (bytes : List ℕ) where
  abbrev plain_from : Config
  plain_from = begun config who own None

  pub plain_read : (role : Role) (len : ℕ) → HasPlayed plain_from who false bytes role len → IsRecordRead config who own bytes role len
  plain_read role len h =
      let facts = flat_map facts_of h.all in
      record {
        kept = record { rows = None; facts = facts };
        within = h.within;
        holds = record {
          all = h.all;
          stored = h.goes.stored;
          means = from_facts h.all h.goes.may;
          fits = sym (begun_plays config who own None [] facts) ∙ h.goes.fits;
        };
        stands = h.stands;
      }

  plain_goes : (who_is : NodeId) → IsPlain who_is bytes → (tail : List ℕ) (all : List Entry) → IsStored bytes all tail
      → (others : Option (List Row)) (facts : List Fact) → MeansFrom who_is all others facts → all ≡ of_facts facts
  plain_goes who_is plain tail all stored None facts means = means
  plain_goes (R rm) plain tail all stored (Some others) facts means = absurd (plain all tail others facts stored means)
  plain_goes (A a) plain tail all stored (Some others) facts means = absurd means
  plain_goes (L l) plain tail all stored (Some others) facts means = absurd means

  plain_bad : IsPlain who bytes → IsUnplayable plain_from who false bytes → IsBad config who bytes
  plain_bad plain bad kept tail h =
      let is = plain_goes who plain tail h.all h.stored kept.rows kept.facts h.means in
      let facts : flat_map facts_of h.all ≡ kept.facts = ap (flat_map facts_of) is ∙ meant_facts kept.facts in
      bad h.all tail (record {
        stored = h.stored;
        may = ap (list_all is_fact) is ∙ all_facts kept.facts;
        fits = begun_plays config who own None [] (flat_map facts_of h.all) ∙ ap (all_play config who []) facts ∙ h.fits;
      })

  pub plain_unread : (e : Refusal) → IsPlain who bytes → IsPlayedFrom plain_from who false bytes (Err e)
      → Reads config who own bytes (Err e)
  plain_unread Refusal.Damaged plain h = plain_bad plain h
  plain_unread Refusal.NoMemory plain h = tt
  plain_unread other plain h = absurd h

  -- a record without a snapshot, played whole, is read
  pub plain_reads : (r : Result (Role × ℕ) Refusal) → IsPlain who bytes → IsPlayedFrom plain_from who false bytes r
      → Reads config who own bytes r
  plain_reads (Ok read) plain h = plain_read read.0 read.1 h
  plain_reads (Err e) plain h = plain_unread e plain h

-- with one, at whatever node
module _ (config : Config) (own : List Row) (bytes rest : List ℕ) (rows : List Row) (s : IsSnapshot bytes rest rows) where
  -- a snapshot and what stands behind it, played whole, are read
  pub snapshot_read : (who : NodeId) → IsManager who → (role : Role) (len : ℕ) → len ≤ length rest
      → IsPlayedFrom (begun config who own (Some rows)) who true rest (Ok (role, len))
      → Reads config who own bytes (Ok (role, length bytes - (length rest - len)))
  snapshot_read (R rm) is role len within h =
      let same : length bytes - length rest + len ≡ length bytes - (length rest - len) = omega (arith, s.few, within) in
      subst (IsRecordRead config (R rm) own bytes role) same (compacted_read config rm own bytes rest rows s role len h)
  snapshot_read (A a) is role len within h = absurd is
  snapshot_read (L l) is role len within h = absurd is

  -- where what stands behind it is refused, the record is
  pub snapshot_unread : (who : NodeId) → IsManager who → (e : Refusal)
      → IsPlayedFrom (begun config who own (Some rows)) who true rest (Err e) → Reads config who own bytes (Err e)
  snapshot_unread (R rm) is e h = compacted_unread config rm own bytes rest rows s e h
  snapshot_unread (A a) is e h = absurd is
  snapshot_unread (L l) is e h = absurd is
