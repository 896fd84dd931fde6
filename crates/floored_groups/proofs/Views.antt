-- What processes answer of where they stand is what a world of the machine says; and so no two of them contradict each other.
-- Needed by `processes_are_asked` and `views_agree`; Telling; crate process_history.
use Rattle.std.proofs.Common.{◌≡◌, ◌∙◌, inl, inr, ℕ, Bool, true, false, ◌&&◌, if◌then◌else◌, List, [], Option, refl, sym, ap, subst}
use Rattle.std.specs.Prelude.{IsTrue, Ok, Err}
use Rattle.std.specs.Option.{option_map_or}
use Rattle.xid.specs.Places.{Place, is_below}
use Rattle.xid.specs.Transactions.{TxParts, is_participant}
use Rattle.xid.specs.declared.refusals.Refusal.TheVariants as refusals
use Rattle.stable_record.specs.declared.fact.FactKind.{FactKind as Fact}
use Rattle.protocol.specs.declared.answers.Answer.TheVariants.{Refused, Stands}
use Rattle.protocol.specs.declared.nodes.NodeId.{NodeId}
use Rattle.protocol.specs.declared.nodes.NodeId.TheVariants.{R}
use Rattle.protocol.specs.declared.rows.Row.{Row}
use Rattle.protocol.specs.declared.states.View.{View}
use Rattle.protocol.specs.declared.states.View.TheVariants as views
use Rattle.protocol.specs.Effects.{Config, is_inside, view_standing}
use Rattle.protocol.specs.Facts.{view}
use Rattle.protocol.specs.Nodes.{NodeState, first_rows}
use Rattle.protocol.specs.Tables.{table}
use Rattle.protocol.specs.Worlds.{table_at}
use Rattle.safety.specs.Runs.{views_in}
use Rattle.safety.specs.Standing.{facts_of}
use Rattle.node_core.specs.Configs.{is_among}
use Rattle.floors.specs.Worlds.{FlooredWorld}
use Rattle.node_core.specs.Viewing.{SaysTable}
use Rattle.floored.specs.Nodes.{SaysFlooredView}
use Rattle.port.specs.Members.{MemberParts}
use Rattle.floored_groups.specs.Processes.{AnswersTable, AnswersView, StandsIn}
use Rattle.floored_groups.specs.Clusters.{AllProcesses, IsRun}
use Rattle.floored_groups.proofs.Clusters.{stand_for}
use Rattle.floored_groups.proofs.Reached.{consistent}

-- an outcome is told by how it is answered
pub committed_is : (v : View) → Stands (view_standing views.Committed) ≡ Stands (view_standing v) → v ≡ views.Committed
committed_is views.Working e = absurd (cc (e))
committed_is views.Prepared e = absurd (cc (e))
committed_is views.Committed e = refl
committed_is views.Aborted e = absurd (cc (e))

-- and the other by its own
pub aborted_is : (v : View) → Stands (view_standing views.Aborted) ≡ Stands (view_standing v) → v ≡ views.Aborted
aborted_is views.Working e = absurd (cc (e))
aborted_is views.Prepared e = absurd (cc (e))
aborted_is views.Committed e = absurd (cc (e))
aborted_is views.Aborted e = refl

module _ (config : Config) (rm : ℕ) (floor : Option Place) (facts : List Fact) (tx : TxParts) (v : View) where
  known_says : (known : Bool)
      → Stands (view_standing v) ≡ (if known then Stands (view_standing (view facts tx)) else Refused refusals.BadTx)
      → Stands (view_standing v) ≡ Stands (view_standing (view facts tx))
  known_says true e = e
  known_says false e = absurd (cc (e))

  below_says : (t : Bool) → is_below floor tx ≡ t → SaysFlooredView config (R rm) floor facts tx (Ok v)
      → Stands (view_standing v) ≡ Stands (view_standing (view facts tx))
  below_says true e says = let refused : Ok v ≡ Err refusals.Forgotten = says.0 e in absurd (cc (refused))
  below_says false e says = known_says (is_inside config tx && is_participant tx rm) (says.1 e)

  -- it stands there as it says
  says_standing : SaysFlooredView config (R rm) floor facts tx (Ok v) → Stands (view_standing v) ≡ Stands (view_standing (view facts tx))
  says_standing says = below_says (is_below floor tx) refl says

module _ (config : Config) (world : FlooredWorld) (rm : ℕ) (old new : MemberParts) (s : StandsIn config world (R rm) old) (tx : TxParts)
    (v : View) (answers : AnswersView tx old new (Ok v)) where
  -- what a process answers is where its node stands
  pub answered_view : Stands (view_standing v) ≡ Stands (view_standing (views_in config world.machine tx rm))
  answered_view =
      elim (answers.machine config s.state s.is).says [
        | inl said ↦
            says_standing config rm (world.floor (R rm)) s.state.facts tx v
            (subst (λ (w : NodeId). SaysFlooredView config w (world.floor (R rm)) s.state.facts tx (Ok v)) s.who_is
            (subst (λ (f : Option Place). SaysFlooredView config old.floored.node.who f s.state.facts tx (Ok v)) s.floor_is said.1))
            ∙ ap (λ (o : Option NodeState). Stands (view_standing (view (facts_of o) tx))) (sym s.there)
        | inr unread ↦ elim unread.1 [
          | inl failed ↦ let e : Ok v ≡ Err refusals.RecordFault = failed.0 in absurd (cc (e))
          | inr short ↦ let e : Ok v ≡ Err refusals.NoMemory = short.0 in absurd (cc (e))
        ]
      ]

-- no process answers committed while another answers aborted
pub views_agree : (config : Config) (all : AllProcesses) → IsRun config all → (tx : TxParts) (r q : ℕ) → IsTrue (is_participant tx r)
    → IsTrue (is_participant tx q) → is_among config (R r) ≡ true → is_among config (R q) ≡ true → (mine other : MemberParts)
    → AnswersView tx (all.members (R r)) mine (Ok views.Committed) → AnswersView tx (all.members (R q)) other (Ok views.Aborted) → ⊥
views_agree config all run tx r q named also among there mine other committed aborted =
    let f = stand_for config all run in
    consistent config f.world f.reached tx r q named also
    (committed_is (views_in config f.world.machine tx r)
    (answered_view config f.world r (all.members (R r)) mine (f.stand (R r) among) tx views.Committed committed))
    (aborted_is (views_in config f.world.machine tx q)
    (answered_view config f.world q (all.members (R q)) other (f.stand (R q) there) tx views.Aborted aborted))

-- ---- tables

module _ (config : Config) (world : FlooredWorld) (rm : ℕ) (old new : MemberParts) (s : StandsIn config world (R rm) old) where
  -- a view that a process answers is the world's
  pub view_is : (tx : TxParts) (v : View) → AnswersView tx old new (Ok v) → v ≡ views_in config world.machine tx rm
  view_is tx v answers = same_view v (views_in config world.machine tx rm) (answered_view config world rm old new s tx v answers)
    where
      same_view : (v w : View) → Stands (view_standing v) ≡ Stands (view_standing w) → v ≡ w
      same_view views.Working views.Working e = refl
      same_view views.Prepared views.Prepared e = refl
      same_view views.Committed w e = sym (committed_is w e)
      same_view views.Aborted w e = sym (aborted_is w e)
      same_view v w e = absurd (cc (e))

  -- and so is a table
  pub table_is : (rows : List Row) → AnswersTable old new (Ok rows) → rows ≡ table_at config world.machine rm
  table_is rows answers =
      elim (answers.machine config s.state s.is).says [
        | inl said ↦
            subst (λ (w : NodeId). SaysTable config w s.state.facts (Ok rows)) s.who_is said.1
            ∙ ap (λ (o : Option NodeState). option_map_or (λ (node : NodeState). table (first_rows config rm) node.facts) o [])
            (sym s.there)
        | inr unread ↦ elim unread.1 [
          | inl failed ↦ let e : Ok rows ≡ Err refusals.RecordFault = failed.0 in absurd (cc (e))
          | inr short ↦ let e : Ok rows ≡ Err refusals.NoMemory = short.0 in absurd (cc (e))
        ]
      ]
