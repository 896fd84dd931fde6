use Rattle.std.proofs.Common.{◌∙◌, ◌-◌, ap, length, refl, set}
use Rattle.net_script.specs.TraceReaders.{with_told, at_last}
use Rattle.net_script.proofs.DraftLemmas.{last_place, last_set, last_missing}
use Rattle.net_script.proofs.trace_drafts.tell_last.Goals as goal
use Rattle.net_script.proofs.trace_drafts.tell_last.Goals.{in-Some+in_ok-tell, in_default}

pub returns : goal.returns
returns c =
    let all = c.into_vec-all.result in
    let make = with_told c.args.said.now in
    let before = ap (at_last make) (c.into_vec-all.ensures ∙ c.replace.ensures.value) in
    c.new-3.ensures
    ∙ elim c.match-last_mut.branch [
      | in-Some+in_ok-tell w ↦
          let place = last_place all.len (length all.items) all.ok.0 (w.in-Some.ensures.variant.0 refl) in
          ap (λ v. v.items) w.all-is ∙ ap (set all.items (all.len - 1)) w.in_ok-tell.ensures
          ∙ last_set make all.items (all.len - 1) w.in-Some.last.now w.in-Some.last.now place w.in-Some.ensures.value
      | in_default w ↦ ap (λ v. v.items) w.all-is ∙ last_missing make all.items all.len all.ok.0 w.in_default.ensures.variant.1
    ]
    ∙ before
