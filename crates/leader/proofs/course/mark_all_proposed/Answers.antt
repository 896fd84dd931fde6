use Rattle.std.proofs.Common.{rules, ◌≡◌, ◌∙◌, List, [], length, map, sym, ap, arith}
use Rattle.std.proofs.lemmas.Bool.{eqb-true}
use Rattle.std.proofs.lemmas.List.{get_or_default, map-id, nil_from_length}
use Rattle.std.proofs.lemmas.List.Edits.{map_over_more}
use Rattle.leader.specs.Courses.{with_proposals}
use Rattle.leader.specs.declared.proposals.Proposal.{Proposal}
use Rattle.leader.proofs.course.mark_all_proposed.Goals as goal

pub loop-row-preserved : goal.loop-row-preserved
loop-row-preserved c = search (rules, arith, map_over_more (with_proposals c.args.proposals.now), get_or_default, c.mark_proposed.ensures)

pub returns-then-is_empty : goal.returns-then-is_empty
returns-then-is_empty c =
    let none : c.args.proposals.now ≡ [] = nil_from_length c.args.proposals.now
    (eqb-true (length c.args.proposals.now) 0 (sym c.is_empty.ensures ∙ c.if-is_empty.true)) in
    sym (ap (λ (proposals : List Proposal). map (with_proposals proposals) c.args.rows.now) none ∙ map-id c.args.rows.now)
