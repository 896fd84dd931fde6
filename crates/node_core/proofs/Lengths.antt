-- What a shorter record says of transactions is no longer than the record that it stands in the place of.
-- Needed by Shortening.
use Rattle.std.proofs.Common.{◌≡◌, ◌∙◌, ℕ, ◌+◌, ◌≤◌, true, List, [], ◌∷◌, ◌++◌, length, map, sum, Option, Some, None, refl, sym, ap, subst}
use Rattle.std.proofs.Common.{append-nil, arith}
use Rattle.std.specs.Prelude.{filter}
use Rattle.std.specs.List.{AllByRecursion, flat_map}
use Rattle.std.proofs.lemmas.List.Sums.{sum_by-cons}
use Rattle.xid.specs.Transactions.{IsTx}
use Rattle.wire.specs.Versions.{version_2}
use Rattle.stable_record.specs.declared.entry.EntryKind.{EntryKind as Entry}
use Rattle.stable_record.specs.declared.entry.EntryKind.TheVariants as entries
use Rattle.stable_record.specs.declared.fact.FactKind.{FactKind as Fact}
use Rattle.stable_record.specs.Facts.{IsFact, fact_tx}
use Rattle.stable_record.specs.Frames.{frame_length}
use Rattle.stable_record.specs.Grammar.{IsStored, frame}
use Rattle.stable_record.proofs.Framed.{stored_same}
use Rattle.stable_record.proofs.Lengths.{fact_frame_has}
use Rattle.protocol.specs.declared.nodes.NodeId.{NodeId}
use Rattle.protocol.specs.declared.nodes.NodeId.TheVariants.{A, L, R}
use Rattle.protocol.specs.declared.rows.Row.{Row}
use Rattle.protocol.specs.Effects.{Config}
use Rattle.protocol.specs.Nodes.{all_play, first_rows}
use Rattle.protocol.specs.Tables.{table}
use Rattle.acceptor.specs.Compaction as of_acceptor
use Rattle.acceptor.proofs.Lengths as acceptor_lengths
use Rattle.leader.specs.Compaction as of_leader
use Rattle.leader.proofs.Compacting as leader_lengths
use Rattle.resource_manager.specs.Compacted.{IsCompacted, about_length, facts_of, is_about_tx, row_entry}
use Rattle.resource_manager.proofs.Lengths as manager_lengths
use Rattle.node_core.specs.Nodes.{MeansFrom, Keeps, begun}
use Rattle.node_core.specs.Compacting.{IsNoLonger, IsShorter}
use Rattle.node_core.specs.Shorter.{shorter_record}
use Rattle.node_core.proofs.Starting.{begun_plays, meant_facts, of_facts}

-- ---- facts alone

-- all is said of transactions
all_about : (facts : List Fact) → filter is_about_tx (of_facts facts) ≡ of_facts facts
all_about [] = refl
all_about (fact ∷ facts) = ap (λ (es : List Entry). entries.Fact fact ∷ es) (all_about facts)

frames_sum : (facts : List Fact) → sum (map (λ entry. length (frame version_2 entry)) (of_facts facts)) ≡ sum (map frame_length facts)
frames_sum [] = refl
frames_sum (fact ∷ facts) =
    let entry_length = λ (entry : Entry). length (frame version_2 entry) in
    let here : sum (map entry_length (of_facts (fact ∷ facts)))
    ≡ entry_length (entries.Fact fact) + sum (map entry_length (of_facts facts)) =
    sum_by-cons (λ (n : ℕ). n) (entry_length (entries.Fact fact)) (map entry_length (of_facts facts)) in
    let there : sum (map frame_length (fact ∷ facts)) ≡ frame_length fact + sum (map frame_length facts) =
    sum_by-cons (λ (n : ℕ). n) (frame_length fact) (map frame_length facts) in
    here ∙ (λ k. fact_frame_has version_2 fact k + frames_sum facts k) ∙ sym there

facts_length : (facts : List Fact) → about_length (of_facts facts) ≡ sum (map frame_length facts)
facts_length facts =
    ap (λ (es : List Entry). sum (map (λ entry. length (frame version_2 entry)) es)) (all_about facts) ∙ frames_sum facts

-- facts that bytes hold are of valid transactions
fact_valid : (fact : Fact) → IsFact fact → IsTx (fact_tx fact)
fact_valid (Fact.Promise tx i b) is = is.0
fact_valid (Fact.Accept tx i b v) is = is.0
fact_valid (Fact.PromiseAll tx b) is = is.0
fact_valid (Fact.Ballot tx b) is = is.0
fact_valid (Fact.VotePrepared tx keys) is = is.0
fact_valid (Fact.VoteAborted tx) is = is
fact_valid (Fact.Committed tx) is = is
fact_valid (Fact.Aborted tx) is = is

each_valid : (facts : List Fact) (bytes tail : List ℕ) → IsStored bytes (of_facts facts) tail
    → AllByRecursion (λ fact. IsTx (fact_tx fact)) facts
each_valid [] bytes tail stored = tt
each_valid (fact ∷ facts) bytes tail stored =
    (fact_valid fact stored.1.valid.valid, each_valid facts stored.0 tail stored.2)

-- ---- what entries mean

after_rows : (rows : List Row) (later : List Entry) → flat_map facts_of (map row_entry rows ++ later) ≡ flat_map facts_of later
after_rows [] later = refl
after_rows (row ∷ rows) later = after_rows rows later

meant : (all : List Entry) (rows : List Row) (facts : List Fact) → IsCompacted all rows facts → flat_map facts_of all ≡ facts
meant all rows facts c = ap (flat_map facts_of) c.all_is ∙ after_rows rows c.later ∙ sym c.facts_are

-- the shorter record of the facts that entries mean says no more than they
says_no_more : (from : Config) (who : NodeId) (rows : Option (List Row)) (all : List Entry) (facts : List Fact) (bytes tail : List ℕ)
    → MeansFrom who all rows facts → IsStored bytes all tail → all_play from who [] facts ≡ true
    → about_length (shorter_record from who facts) ≤ about_length all
says_no_more from (A a) None all facts bytes tail means stored play =
    let valid = each_valid facts bytes tail (subst (λ (es : List Entry). IsStored bytes es tail) means stored) in
    omega (
      arith,
      acceptor_lengths.no_longer from a facts play valid,
      facts_length (of_acceptor.shorter_facts facts),
      facts_length facts,
      ap about_length means,
    )
says_no_more from (L l) None all facts bytes tail means stored play =
    omega (
      arith,
      leader_lengths.no_longer from l facts play,
      facts_length (of_leader.shorter_facts facts),
      facts_length facts,
      ap about_length means,
    )
says_no_more from (R rm) None all facts bytes tail means stored play =
    subst (λ (fs : List Fact). about_length (shorter_record from (R rm) fs) ≤ about_length all)
    (ap (flat_map facts_of) means ∙ meant_facts facts)
    (manager_lengths.no_longer (table (first_rows from rm) (flat_map facts_of all)) all)
says_no_more from (R rm) (Some rows) all facts bytes tail means stored play =
    subst (λ (fs : List Fact). about_length (shorter_record from (R rm) fs) ≤ about_length all) (meant all rows facts means)
    (manager_lengths.no_longer (table (first_rows from rm) (flat_map facts_of all)) all)
says_no_more from (A a) (Some rows) all facts bytes tail means stored play = absurd means
says_no_more from (L l) (Some rows) all facts bytes tail means stored play = absurd means

-- ---- a record that keeps facts, and the shorter one of these

-- a record is no longer once it was made shorter
pub no_longer : (config : Config) (who : NodeId) (own : List Row) (old next : List ℕ) (facts : List Fact) (rest : List ℕ)
    → Keeps config who own old facts rest → IsShorter config who facts next → IsNoLonger old next
no_longer config who own old next facts rest keeps h before after tail end held now =
    let k = keeps.kept in
    let from = begun config who own k.rows in
    let play : all_play from who [] (k.facts ++ []) ≡ true =
    begun_plays config who own k.rows [] (k.facts ++ [])
    ∙ ap (all_play config who []) (append-nil k.facts) ∙ keeps.holds.fits in
    let told : shorter_record from who k.facts ≡ shorter_record config who facts =
    ap (shorter_record from who) (sym (append-nil k.facts)) ∙ keeps.same.shorter [] play
    ∙ ap (shorter_record config who) (append-nil facts) in
    let was = (stored_same before keeps.holds.all old tail rest held keeps.holds.stored).0 in
    let is = (stored_same after h.all next end [] now h.stored).0 ∙ h.shortened ∙ sym told in
    let law = says_no_more from who k.rows keeps.holds.all k.facts old rest keeps.holds.means keeps.holds.stored
    (begun_plays config who own k.rows [] k.facts ∙ keeps.holds.fits) in
    omega (arith, law, ap about_length was, ap about_length is)
