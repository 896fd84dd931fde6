use Rattle.std.proofs.Common.{◌≡◌, ◌∙◌, [], ◌∷◌, ◌++◌, ap, length, subst}
use Rattle.transactions.specs.Seen.{place_in, seen_with}
use Rattle.audit.specs.Books.{views_in}
use Rattle.audit.proofs.ViewLemmas.{noted_whole, noted_number, noted_same}
use Rattle.audit.proofs.views.Views.see.Goals as goal

pub invariant_of-self-2 : goal.invariant_of-self-2
invariant_of-self-2 c =
    let seen = c.self.inside.transactions in
    let is = c.of-spelled.ensures in
    let absent = subst (λ tx. place_in seen tx ≡ length seen) is c.in_default.ensures in
    let added = subst (λ tx. c.insert_view.new.self ≡ seen_with seen tx) is c.in_ok-number.ensures.ok.1 in
    noted_whole seen c.insert_view.new.self c.args.tx.now absent added
    c.self.inside.courses.items c.push_reserved.new.self.items
    (c.push_reserved.ensures.items ∙ (λ j. c.reserve.ensures.items j ++ c.in_ok-course.ensures.ok j ∷ [])) c.self.invariant

pub returns-clause-ok : goal.returns-clause-ok
returns-clause-ok c =
    let seen = c.self.inside.transactions in
    let is = c.of-spelled.ensures in
    let absent = subst (λ tx. place_in seen tx ≡ length seen) is c.in_default.ensures in
    let added = subst (λ tx. c.insert_view.new.self ≡ seen_with seen tx) is c.in_ok-number.ensures.ok.1 in
    noted_number seen c.insert_view.new.self c.args.tx.now absent added
    c.self.inside.courses.items c.push_reserved.new.self.items
    (c.push_reserved.ensures.items ∙ (λ j. c.reserve.ensures.items j ++ c.in_ok-course.ensures.ok j ∷ [])) c.self.invariant
    c.in_ok-number.number (subst (λ tx. c.in_ok-number.number ≡ place_in seen tx) is c.in_ok-number.ensures.ok.0)

pub returns-clause-same : goal.returns-clause-same
returns-clause-same c = λ other.
    let seen = c.self.inside.transactions in
    let is = c.of-spelled.ensures in
    let absent = subst (λ tx. place_in seen tx ≡ length seen) is c.in_default.ensures in
    let added = subst (λ tx. c.insert_view.new.self ≡ seen_with seen tx) is c.in_ok-number.ensures.ok.1 in
    noted_same seen c.insert_view.new.self c.args.tx.now absent added
    c.self.inside.courses.items c.push_reserved.new.self.items
    (c.push_reserved.ensures.items ∙ (λ j. c.reserve.ensures.items j ++ c.in_ok-course.ensures.ok j ∷ [])) c.self.invariant other
    ∙ ap (λ v. views_in v other) c.self.view_is
