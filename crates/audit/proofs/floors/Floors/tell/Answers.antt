use Rattle.std.proofs.Common.{◌∙◌, ℕ, ◌==◌, cond, Some, None, ap}
use Rattle.audit.specs.Floors.{higher, least_told}
use Rattle.audit.specs.FloorBooks.{entry_of, place_of, told_in}
use Rattle.audit.proofs.FloorLemmas.{told_after, told_kept}
use Rattle.audit.proofs.floors.Floors.tell.Goals as goal

pub returns-clause-least : goal.returns-clause-least
returns-clause-least c =
    let old = c.args.self.now.told.entries in
    let notice = c.args.notice.now in
    let before = c.take_told-told.result in
    let was = λ (rm : ℕ). c.take_told-told.ensures.value rm ∙ ap (λ p. told_in (entry_of old p) rm) c.place_of-place.ensures in
    let then = λ (rm : ℕ).
    c.in_ok-hear.ensures.ok rm
    ∙ ap (λ m. cond (m == rm) (higher (entry_of before rm) (Some notice.floor)) (entry_of before rm)) c.from.ensures in
    c.least-least.ensures
    ∙ (λ i. least_told (c.take_told-told.ensures.rest.0 i) (λ rm.
    told_after old (place_of notice.receiver) before c.hear.new.self notice was then rm i))

pub returns-clause-kept : goal.returns-clause-kept
returns-clause-kept c =
    let old = c.args.self.now.told.entries in
    let mid = c.take_told-told.new.self.told.entries in
    let notice = c.args.notice.now in
    let before = c.take_told-told.result in
    let after = c.hear.new.self in
    let was = λ (rm : ℕ). c.take_told-told.ensures.value rm ∙ ap (λ p. told_in (entry_of old p) rm) c.place_of-place.ensures in
    let then = λ (rm : ℕ).
    c.in_ok-hear.ensures.ok rm
    ∙ ap (λ m. cond (m == rm) (higher (entry_of before rm) (Some notice.floor)) (entry_of before rm)) c.from.ensures in
    told_kept old (place_of notice.receiver) before after notice was then mid c.insert.new.self.entries
    (λ p. c.take_told-told.ensures.taken p ∙ ap (λ q. cond (q == p) None (entry_of old p)) c.place_of-place.ensures)
    (λ p. c.in_ok-insert.ensures.updates.0 p ∙ ap (λ q. cond (q == p) (Some after) (entry_of mid p)) c.place_of-place.ensures)
