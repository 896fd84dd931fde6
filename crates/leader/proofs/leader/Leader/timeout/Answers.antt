use Rattle.std.proofs.Common.{◌≡◌, ◌∙◌, ℕ, Option, Some, None, true, sym, ap, subst}
use Rattle.std.specs.Option.{IfNone, IfSome}
use Rattle.stable_record.specs.declared.fact.FactKind.{FactKind as Fact}
use Rattle.protocol.specs.declared.decisions.Address.TheVariants.{Managers}
use Rattle.protocol.specs.Effects.{Config}
use Rattle.protocol.specs.LeaderMemory.{LeaderMemory, StoredBallots}
use Rattle.protocol.specs.Leaders as rules
use Rattle.protocol.specs.Leaders.{outcome_messages, is_final}
use Rattle.leader.specs.contracts.leader.Leader.{the_view}
use Rattle.leader.specs.Courses.{after_meeting, status_in}
use Rattle.leader.specs.Leaders.{course_of, StandsForBallots, taken_over}
use Rattle.leader.proofs.Leading.{sending, follows, final_agrees, timeout_outside, takes_over_here, with_courses, TakesOver}
use Rattle.leader.proofs.leader.Leader.timeout.Goals as goal

pub returns-then-is_final-clause-decides : goal.returns-then-is_final-clause-decides
returns-then-is_final-clause-decides c =
    let status : c.status_at-status.result ≡ status_in (course_of (the_view c.self.inside) c.args.tx.now) =
    c.status_at-status.ensures in
    let final : is_final (status_in (course_of (the_view c.self.inside) c.args.tx.now)) ≡ true =
    sym (ap is_final status) ∙ sym c.is_final.ensures ∙ c.if-is_final.true in
    λ config number stored memory stands. (follows config number
    (the_view c.self.inside) c.args.self.now c.mark_known.new.self c.args.tx.now
    (after_meeting (course_of (the_view c.self.inside) c.args.tx.now))
    (sending (outcome_messages (status_in (course_of (the_view c.self.inside) c.args.tx.now)) c.args.tx.now Managers)) c.tell.new.self
    (λ stored memory. rules.on_leader_timeout config number stored memory c.args.tx.now) c.self.view_is
    (c.tell.ensures ∙ (λ k. sending (outcome_messages (status k) c.args.tx.now Managers)))
    (c.mark_known.ensures final)
    (final_agrees config number (the_view c.self.inside) c.args.tx.now
    (sym c.is_inside.ensures ∙ c.if-not-is_inside.false) final)).decides stored memory stands

pub returns-then-is_final-clause-stands : goal.returns-then-is_final-clause-stands
returns-then-is_final-clause-stands c =
    let status : c.status_at-status.result ≡ status_in (course_of (the_view c.self.inside) c.args.tx.now) =
    c.status_at-status.ensures in
    let final : is_final (status_in (course_of (the_view c.self.inside) c.args.tx.now)) ≡ true =
    sym (ap is_final status) ∙ sym c.is_final.ensures ∙ c.if-is_final.true in
    let P : Option Fact → Type 0 = λ o. IfNone o ((config : Config) (number : ℕ) (stored : StoredBallots) (memory : LeaderMemory)
    → StandsForBallots config number c.args.self.now stored memory
    → StandsForBallots config number (with_courses (the_view c.self.inside) c.mark_known.new.self) stored
    (rules.on_leader_timeout config number stored memory c.args.tx.now).memory) in
    subst P (sym (ap (λ d. d.fact) c.tell.ensures)) (λ config number stored memory stands. (follows config number
    (the_view c.self.inside) c.args.self.now c.mark_known.new.self c.args.tx.now
    (after_meeting (course_of (the_view c.self.inside) c.args.tx.now))
    (sending (outcome_messages (status_in (course_of (the_view c.self.inside) c.args.tx.now)) c.args.tx.now Managers)) c.tell.new.self
    (λ stored memory. rules.on_leader_timeout config number stored memory c.args.tx.now) c.self.view_is
    (c.tell.ensures ∙ (λ k. sending (outcome_messages (status k) c.args.tx.now Managers)))
    (c.mark_known.ensures final)
    (final_agrees config number (the_view c.self.inside) c.args.tx.now
    (sym c.is_inside.ensures ∙ c.if-not-is_inside.false) final)).stands stored memory stands)

pub returns-then-not-is_inside-clause-stands : goal.returns-then-not-is_inside-clause-stands
returns-then-not-is_inside-clause-stands c =
    let P : Option Fact → Type 0 = λ o. IfNone o ((config : Config) (number : ℕ) (stored : StoredBallots) (memory : LeaderMemory)
    → StandsForBallots config number c.args.self.now stored memory
    → StandsForBallots config number c.args.self.now stored (rules.on_leader_timeout config number stored memory c.args.tx.now).memory) in
    subst P (sym (ap (λ d. d.fact) c.refuse.ensures)) (λ config number stored memory stands.
    timeout_outside config number (the_view c.self.inside) c.args.self.now c.args.tx.now stored memory c.self.view_is
    (sym c.is_inside.ensures ∙ c.if-not-is_inside.true) stands)

pub returns-clause-decides : goal.returns-clause-decides
returns-clause-decides c =
    let status : c.status_at-status.result ≡ status_in (course_of (the_view c.self.inside) c.args.tx.now) =
    c.status_at-status.ensures in
    let last : c.greatest_at-last.result ≡ (course_of (the_view c.self.inside) c.args.tx.now).greatest =
    c.greatest_at-last.ensures in
    let P : ℕ → Type 0 = λ n. IfSome c.take_over.new.decision.fact
    (λ fact. rules.plays_at_leader c.self.inside.leaders c.self.inside.number (λ x. n) fact ≡ true) in
    let taken : (config : Config) (number : ℕ) (stored : StoredBallots) (memory : LeaderMemory)
    → StandsForBallots config number c.args.self.now stored memory
    → TakesOver config number c.args.self.now c.args.tx.now c.take_over.new.decision stored memory =
    λ config number stored memory stands.
    takes_over_here config number (the_view c.self.inside) c.args.self.now c.args.tx.now c.take_over.new.decision stored memory
    c.self.view_is
    (sym c.is_inside.ensures ∙ c.if-not-is_inside.false)
    (sym (ap is_final status) ∙ sym c.is_final.ensures ∙ c.if-is_final.false)
    (c.take_over.ensures.decides ∙ ap (taken_over c.self.inside.number c.self.inside.leaders c.self.inside.bundled c.args.tx.now) last)
    (subst P last c.take_over.ensures.plays) stands in
    λ config number stored memory stands. (taken config number stored memory stands).decides

pub returns-clause-stands : goal.returns-clause-stands
returns-clause-stands c =
    let status : c.status_at-status.result ≡ status_in (course_of (the_view c.self.inside) c.args.tx.now) =
    c.status_at-status.ensures in
    let last : c.greatest_at-last.result ≡ (course_of (the_view c.self.inside) c.args.tx.now).greatest =
    c.greatest_at-last.ensures in
    let P : ℕ → Type 0 = λ n. IfSome c.take_over.new.decision.fact
    (λ fact. rules.plays_at_leader c.self.inside.leaders c.self.inside.number (λ x. n) fact ≡ true) in
    let taken : (config : Config) (number : ℕ) (stored : StoredBallots) (memory : LeaderMemory)
    → StandsForBallots config number c.args.self.now stored memory
    → TakesOver config number c.args.self.now c.args.tx.now c.take_over.new.decision stored memory =
    λ config number stored memory stands.
    takes_over_here config number (the_view c.self.inside) c.args.self.now c.args.tx.now c.take_over.new.decision stored memory
    c.self.view_is
    (sym c.is_inside.ensures ∙ c.if-not-is_inside.false)
    (sym (ap is_final status) ∙ sym c.is_final.ensures ∙ c.if-is_final.false)
    (c.take_over.ensures.decides ∙ ap (taken_over c.self.inside.number c.self.inside.leaders c.self.inside.bundled c.args.tx.now) last)
    (subst P last c.take_over.ensures.plays) stands in
    by_fact c.take_over.new.decision.fact (λ config number stored memory stands. (taken config number stored memory stands).stands)
  where
    by_fact : (o : Option Fact) → ((config : Config) (number : ℕ) (stored : StoredBallots) (memory : LeaderMemory)
        → StandsForBallots config number c.args.self.now stored memory
        → IfNone o (StandsForBallots config number c.args.self.now stored
        (rules.on_leader_timeout config number stored memory c.args.tx.now).memory))
        → IfNone o ((config : Config) (number : ℕ) (stored : StoredBallots) (memory : LeaderMemory)
        → StandsForBallots config number c.args.self.now stored memory
        → StandsForBallots config number c.args.self.now stored (rules.on_leader_timeout config number stored memory c.args.tx.now).memory)
    by_fact None h = h
    by_fact (Some fact) h = tt
