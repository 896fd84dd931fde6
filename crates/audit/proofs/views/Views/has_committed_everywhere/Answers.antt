use Rattle.std.proofs.Common.{◌≡◌, ◌∙◌, ◌<◌, true, length, get_or, sym, ap, arith}
use Rattle.xid.specs.Transactions.{participants}
use Rattle.safety.specs.Vocabulary.{View}
use Rattle.history.specs.Writes.{is_committed_view}
use Rattle.audit.specs.Books.{IsNumberOf, has_committed, view_in, views_in}
use Rattle.audit.proofs.ListLemmas.{all_next, participant_at, participants_many}
use Rattle.audit.proofs.ReplayLemmas.{own_place}
use Rattle.audit.proofs.ViewLemmas.{course_is, views_of}
use Rattle.audit.proofs.views.Views.has_committed_everywhere.Goals as goal

pub loop-place-preserved : goal.loop-place-preserved
loop-place-preserved c =
    let i = c.loop-place.place in
    let tx = c.args.tx.now in
    let views = c.args.self.now in
    let ts = c.self.inside.transactions in
    let rows = c.self.inside.courses.items in
    let n = c.in-Some.number in
    let seen = c.in-Some.ensures.place in
    let whole = c.self.invariant in
    let number : IsNumberOf (views_of ts rows) tx n =
    record { place = seen.0; seen = seen.1; kept = omega (arith, seen.1, whole) } in
    let course = course_is ts rows tx n number c.index.result.now c.index.ensures ∙ ap (λ v. views_in v tx) c.self.view_is in
    let committed : is_committed_view (view_in views tx i) ≡ true =
    sym (c.if-not-is_committed.ensures ∙ ap is_committed_view (c.at.ensures ∙ ap (λ vs. get_or vs i View.Working) course)) in
    let lt : i < length tx.branches = omega (arith, c.loop-place-test.true, c.count-place-end.ensures.value) in
    let many = participants_many tx in
    all_next (λ rm. has_committed views rm tx) (participants tx) i 0 (omega (arith, many, lt)) c.loop-place.invariant
    (ap (λ rm. has_committed views rm tx) (participant_at tx i lt)
    ∙ ap (λ k. is_committed_view (view_in views tx k)) (own_place tx c.count-place-end.ensures.valid i lt) ∙ committed)
