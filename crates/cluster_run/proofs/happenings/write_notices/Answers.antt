use Rattle.std.proofs.Common.{◌≡◌, ◌∙◌, ◌≤◌, ◌<◌, ◌++◌, ℕ, suc, List, length, sym, ap, arith}
use Rattle.std.specs.List.{flat_map}
use Rattle.std.proofs.lemmas.List.{append-nil}
use Rattle.protocol.specs.declared.events.Told.{Told}
use Rattle.cluster.specs.Clusters.{NoticesParts}
use Rattle.cluster.specs.Notices.{notice_in}
use Rattle.cluster.proofs.Noticed.{told_all, told_more, told_none, told_up_to}
use Rattle.net_script.specs.Traces.{notice_line}
use Rattle.cluster_run.proofs.Lines.{notices_more}
use Rattle.cluster_run.proofs.happenings.write_notices.Goals as goal

pub loop-place-init : goal.loop-place-init
loop-place-init c =
    let same : c.args.before ≤ c.args.before = omega arith in
    sym
    (ap (λ (told : List Told). c.args.piece.now.items ++ flat_map notice_line told)
    (told_none c.args.cluster.now.notices c.args.before c.args.before same)
    ∙ append-nil c.args.piece.now.items)

pub loop-place-preserved : goal.loop-place-preserved
loop-place-preserved c =
    let notices : NoticesParts = c.args.cluster.now.notices in
    let place : ℕ = c.loop-place.place in
    let told : Told = c.notice.result in
    let number : told.number ≡ suc place = omega (arith, c.notice.ensures.number) in
    let lt : place < length notices.all = omega (arith, c.loop-place-test.true, c.notice_count-place-end.ensures) in
    c.in_ok-write_notice.ensures.ok
    ∙ ap (λ (l : List ℕ). l ++ notice_line told) c.loop-place.invariant
    ∙ notices_more c.args.piece.now.items (told_up_to c.args.before place notices) told
    ∙ ap (λ (ts : List Told). c.args.piece.now.items ++ flat_map notice_line ts)
    (sym (told_more notices c.args.before place c.loop-place.auto.place lt (notice_in told) c.notice.ensures.notice told.number number))

pub returns : goal.returns
returns c =
    let all : length c.args.cluster.now.notices.all ≤ c.loop-place.place =
    omega (arith, c.loop-place-test.false, c.notice_count-place-end.ensures) in
    c.loop-place.invariant
    ∙ ap (λ (told : List Told). c.args.piece.now.items ++ flat_map notice_line told)
    (told_all c.args.cluster.now.notices c.args.before c.loop-place.place all)
