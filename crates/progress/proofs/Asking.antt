-- Phase 1a is handed to each acceptor of the quorum, for each instance: all of them report.
use Rattle.std.proofs.Common.{◌≡◌, inl, inr, ◌∙◌, ℕ, ◌<◌, Bool, true, false, not, ◌&&◌, List, ◌++◌, if◌then◌else◌, refl, sym, ap, subst}
use Rattle.std.proofs.lemmas.Bool.{and_from, cases_eq, lt-ltb}
use Rattle.xid.specs.Transactions.{TxParts, participants}
use Rattle.wire.specs.declared.message.Kind.TheVariants as kinds
use Rattle.ballot.specs.Ballots.{owner_of}
use Rattle.ballot.specs.Greatest.{IsIn}
use Rattle.protocol.specs.Basics.{Fact}
use Rattle.safety.specs.Vocabulary.{A, L}
use Rattle.protocol.specs.Acceptors.{on_acceptor_message}
use Rattle.protocol.specs.Effects.{Config, Effect, is_inside}
use Rattle.protocol.specs.Facts.{slot, with_fact}
use Rattle.protocol.specs.LeaderMemory.{is_proposed}
use Rattle.protocol.specs.Leaders.{is_current}
use Rattle.protocol.specs.Nodes.{Memory, is_message_inside}
use Rattle.protocol.specs.Worlds.{World}
use Rattle.progress.specs.Runs.{leader_and_quorum}
use Rattle.progress.proofs.Mail.{Letter, mail, letters}
use Rattle.progress.proofs.Steps.{IsQuiet, IsMoved, quiet_node, quiet_message, mail_stays}
use Rattle.progress.proofs.Leading.{Comes, IsDoneFor, comes_step, comes_now, comes_each}
use Rattle.progress.proofs.Promising.{ask_of, HasReport, report_stays, MayReport, MayReportAll, may_stay, IsReporting, asked_reports}
use Rattle.progress.proofs.Members.{pairs, IsPair, pair_of, IsFinal, acceptor_apart, not_acceptor}

-- an acceptor that was asked, or is to be
pub record IsQuestioned (config : Config) (tx : TxParts) (l b : ℕ) (world : World) (a : ℕ) : Type 0 where
  pub facts : List Fact
  pub memory : Memory
  pub at : IsQuiet config world (A a) facts memory
  pub may : MayReportAll config tx l b a facts (mail world.net)

-- the leader has begun the ballot, and phase 1a is in the mail
pub record IsAsking (config : Config) (tx : TxParts) (l : ℕ) (q : ℕ → Bool) (b : ℕ) (world : World) : Type 0 where
  pub facts : List Fact
  pub memory : Memory
  pub leader : IsQuiet config world (L l) facts memory
  pub current : is_current memory.leader tx b ≡ true
  pub none : (i : ℕ) → is_proposed memory.leader.proposed tx i b ≡ false
  pub asked : (a i : ℕ) → a < config.acceptors → IsIn (participants tx) i
      → IsIn (mail world.net) (record { receiver = A a; message = ask_of config tx b i })
  pub each : (a : ℕ) → a < config.acceptors → q a ≡ true → IsQuestioned config tx l b world a

pub ask_inside : (config : Config) (tx : TxParts) (b i : ℕ) → is_inside config tx ≡ true
    → is_message_inside config (ask_of config tx b i) ≡ true
ask_inside config tx b i inside = by_form config.bundled refl
  where
    by_form : (bundled : Bool) → config.bundled ≡ bundled
        → is_message_inside config (if bundled then kinds.B1a tx b else kinds.P1a tx i b) ≡ true
    by_form true is = and_from (is_inside config tx && true) config.bundled (and_from (is_inside config tx) true inside refl) is
    by_form false is =
        and_from (is_inside config tx && true) (not config.bundled) (and_from (is_inside config tx) true inside refl) (ap not is)

module _ (config : Config) (tx : TxParts) (l : ℕ) (q : ℕ → Bool) (b : ℕ) (inside : is_inside config tx ≡ true)
    (owned : owner_of config.leaders b ≡ l) where
  abbrev Reported : ℕ × ℕ → World → Type 0
  Reported x world = HasReport config tx l b (mail world.net) x.0 x.1

  -- one acceptor is handed phase 1a of an instance
  module _ (x : ℕ × ℕ) (pair : IsPair config q tx x) (before : World) (state : IsAsking config tx l q b before) where
    abbrev here : IsQuestioned config tx l b before x.0
    here = state.each x.0 pair.below pair.passes

    abbrev e : Effect (Unit {0})
    e = on_acceptor_message config x.0 (slot here.facts) (ask_of config tx b x.1)

    reports : IsReporting config tx l b x.0 here.facts (mail before.net) x.1 e
    reports = asked_reports config tx l b x.0 inside owned (lt-ltb x.0 config.acceptors pair.below) here.facts (mail before.net)
        here.may x.1 pair.named

    module _ (after : World)
        (moved : IsMoved config before after (A x.0) (quiet_node (with_fact here.facts e.fact) here.memory) e.sends) where
      grown : (P : List Letter → Type 0) → P (mail before.net ++ letters config e.sends) → P (mail after.net)
      grown P h = subst P (sym moved.posted) h

      each_after : (a : ℕ) → a < config.acceptors → q a ≡ true → IsQuestioned config tx l b after a
      each_after a lt is = elim (cases_eq a x.0) [
        | inl same ↦ subst (IsQuestioned config tx l b after) (sym same) (record {
          facts = with_fact here.facts e.fact;
          memory = here.memory;
          at = moved.here;
          may = grown (λ (post : List Letter). MayReportAll config tx l b x.0 (with_fact here.facts e.fact) post) reports.0;
        })
        | inr apart ↦
            let other = state.each a lt is in
            record {
              facts = other.facts;
              memory = other.memory;
              at = moved.others (A a) (acceptor_apart a x.0 apart) ∙ other.at;
              may = λ i h. grown (λ (post : List Letter). MayReport config tx l b a other.facts post i)
                  (may_stay config tx l b a other.facts (mail before.net) (letters config e.sends) i (other.may i h));
            }
      ]

      asking_after : IsAsking config tx l q b after
      asking_after = record {
        facts = state.facts;
        memory = state.memory;
        leader = moved.others (L l) (not_acceptor l x.0) ∙ state.leader;
        current = state.current;
        none = state.none;
        asked = λ a i lt named. mail_stays config before after (A x.0) (quiet_node (with_fact here.facts e.fact) here.memory) e.sends moved
            (record { receiver = A a; message = ask_of config tx b i }) (state.asked a i lt named);
        each = each_after;
      }

      done_after : (y : ℕ × ℕ) → Reported y before → Reported y after
      done_after y h = grown (λ (post : List Letter). HasReport config tx l b post y.0 y.1)
          (report_stays config tx l b (mail before.net) (letters config e.sends) y.0 y.1 h)

    ask_one : Comes config (leader_and_quorum l q) tx (IsFinal config l tx)
        (IsDoneFor config (leader_and_quorum l q) tx (IsFinal config l tx) (IsAsking config tx l q b) Reported x before) before
    ask_one =
        comes_step config (leader_and_quorum l q) tx (IsFinal config l tx)
        (IsDoneFor config (leader_and_quorum l q) tx (IsFinal config l tx) (IsAsking config tx l q b) Reported x before) before
        (A x.0) (quiet_node (with_fact here.facts e.fact) here.memory) e.sends pair.passes
        (quiet_message config before tx (A x.0) here.facts here.memory here.at (ask_of config tx b x.1) (ask_inside config tx b x.1 inside)
        (state.asked x.0 x.1 pair.below pair.named))
        (λ after moved. comes_now config (leader_and_quorum l q) tx (IsFinal config l tx)
        (IsDoneFor config (leader_and_quorum l q) tx (IsFinal config l tx) (IsAsking config tx l q b) Reported x before) after (
          asking_after after moved,
          grown after moved (λ (post : List Letter). HasReport config tx l b post x.0 x.1) reports.1,
          done_after after moved,
        ))

  -- each of them has reported
  pub ask_all : (world : World) → IsAsking config tx l q b world
      → Comes config (leader_and_quorum l q) tx (IsFinal config l tx)
      (λ after. IsAsking config tx l q b after × ((x : ℕ × ℕ) → IsIn (pairs config q tx) x → Reported x after)) world
  ask_all = comes_each config (leader_and_quorum l q) tx (IsFinal config l tx) (IsAsking config tx l q b) Reported (pairs config q tx)
      (λ x h before state. ask_one x (pair_of config q tx x h) before state)
