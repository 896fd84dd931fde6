use Rattle.std.proofs.Common.{◌∙◌, cond, [], ◌∷◌, ◌++◌, sym, ap, subst}
use Rattle.std.specs.Prelude.{filter_map, slice_get}
use Rattle.std.specs.List.{slice_index_or}
use Rattle.xid.specs.Transactions.{tx_eq}
use Rattle.transactions.specs.Seen.{place_in}
use Rattle.resource_manager.specs.declared.course.Course.{Course}
use Rattle.resource_manager.specs.Courses.{IsSeen, course_in, is_new_course}
use Rattle.resource_manager.proofs.Numbers.{begun_push, set_course}
use Rattle.resource_manager.proofs.courses.Courses.set.Goals as goal

pub returns-then-not-is_working-clause-courses : goal.returns-then-not-is_working-clause-courses
returns-then-not-is_working-clause-courses c other =
    set_course c.self.inside.transactions c.self.inside.courses.items c.args.number c.args.tx.now c.args.course
    (c.requires.number ∙ ap (λ parts. place_in parts.transactions c.args.tx.now) (sym c.self.view_is))
    (subst (λ parts. IsSeen parts c.args.tx.now) (sym c.self.view_is) c.requires.seen) c.self.invariant.0 other
    ∙ ap (λ parts. cond (tx_eq other c.args.tx.now) c.args.course (course_in parts other)) c.self.view_is

pub returns-clause-courses : goal.returns-clause-courses
returns-clause-courses c other =
    set_course c.self.inside.transactions c.self.inside.courses.items c.args.number c.args.tx.now c.args.course
    (c.requires.number ∙ ap (λ parts. place_in parts.transactions c.args.tx.now) (sym c.self.view_is))
    (subst (λ parts. IsSeen parts c.args.tx.now) (sym c.self.view_is) c.requires.seen) c.self.invariant.0 other
    ∙ ap (λ parts. cond (tx_eq other c.args.tx.now) c.args.course (course_in parts other)) c.self.view_is

pub returns-clause-begun : goal.returns-clause-begun
returns-clause-begun c =
    let ts = c.self.inside.transactions in
    let tx = c.args.tx.now in
    let number = c.requires.number ∙ ap (λ parts. place_in parts.transactions tx) (sym c.self.view_is) in
    let seen = subst (λ parts. IsSeen parts tx) (sym c.self.view_is) c.requires.seen in
    let working = c.if-not-is_working.ensures
    ∙ ap is_new_course (c.at.ensures ∙ ap (λ n. slice_index_or c.args.self.now.courses n Course.Working) c.requires.number) in
    ap (filter_map (slice_get ts)) c.push_reserved.ensures.items ∙ begun_push ts c.self.inside.begun.items c.args.number tx number seen
    ∙ ap (λ parts. parts.begun ++ tx ∷ []) c.self.view_is
    ∙ ap (λ t. cond t (c.args.self.now.begun ++ tx ∷ []) c.args.self.now.begun) working
