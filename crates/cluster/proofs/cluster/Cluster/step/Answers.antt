use Rattle.std.proofs.Common.{◌≡◌, ◌∙◌, ℕ, length, sym, ap, subst, arith}
use Rattle.protocol.specs.declared.events.Step.{Step}
use Rattle.cluster.specs.Clusters.{ClusterParts, ClusterStands, IsSound, OccursAs, sent_after, step_by, told_after}
use Rattle.cluster.proofs.Occurring.{step_made}
use Rattle.cluster.proofs.Safe.{moves_safely}
use Rattle.cluster.proofs.Noticed.{noticed_count, sent_count}
use Rattle.cluster.proofs.cluster.Cluster.step.Goals as goal

pub returns-in-Err-clause-safe : goal.returns-in-Err-clause-safe
returns-in-Err-clause-safe g c =
    moves_safely c.args.event c.args.self.now c.args.self.now c.unmade.result (subst IsSound c.self.view_is c.self.invariant)
    (c.unmade.ensures c.args.self.now)

pub list_sent-requires-clause-room : goal.list_sent-requires-clause-room
list_sent-requires-clause-room g c =
    let sound = c.self.invariant in
    let stood : ClusterStands sound.config c.args.self.now sound.world =
    subst (λ (cluster : ClusterParts). ClusterStands sound.config cluster sound.world) c.self.view_is sound.is in
    let o = c.step_into.ensures.occurs sound.config sound.world stood in
    omega (
      arith,
      ap (λ (cluster : ClusterParts). length cluster.network.datagrams) c.self-2.view_is,
      sent_count sound.config sound.world c.args.event o.fault c.args.self.now.network c.step_into.new.self.network stood.net_is
          o.stands.net_is,
      ap (λ (cluster : ClusterParts). length cluster.network.datagrams) c.self.view_is,
      c.len-before.ensures.count,
      c.most_sent.ensures c.self.inside.nodes.items c.self.inside.notices sound.config sound.world sound.is o.fault,
      c.in-Ok.ensures.ok,
    )

pub returns-in-Err-reserve-clause-safe : goal.returns-in-Err-reserve-clause-safe
returns-in-Err-reserve-clause-safe g c =
    moves_safely c.args.event c.args.self.now c.args.self.now c.unmade-in-Err-reserve.result (subst IsSound c.self.view_is c.self.invariant)
    (c.unmade-in-Err-reserve.ensures c.args.self.now)

pub list_told-requires-clause-room : goal.list_told-requires-clause-room
list_told-requires-clause-room g c =
    let sound = c.self.invariant in
    let stood : ClusterStands sound.config c.args.self.now sound.world =
    subst (λ (cluster : ClusterParts). ClusterStands sound.config cluster sound.world) c.self.view_is sound.is in
    let o = c.step_into.ensures.occurs sound.config sound.world stood in
    omega (
      arith,
      ap (λ (cluster : ClusterParts). length cluster.notices.all) c.self-2.view_is,
      noticed_count sound.config sound.world c.args.event o.fault c.args.self.now.notices c.step_into.new.self.notices stood.notices_are
          o.stands.notices_are,
      ap (λ (cluster : ClusterParts). length cluster.notices.all) c.self.view_is,
      c.len-told_before.ensures,
      c.most_told.ensures sound.config sound.is.sizes_are sound.world o.fault,
      c.in-Ok-reserve.ensures.ok,
    )

pub returns-clause-occurs : goal.returns-clause-occurs
returns-clause-occurs g c = λ config world stands.
    let old : ClusterParts = c.args.self.now in
    let new : ClusterParts = c.step_into.new.self in
    let answered = c.step_into.new.answered in
    let sent_is : c.new.result ≡ sent_after (length old.network.datagrams) new.network =
    c.new.ensures ∙ c.fitted.ensures ∙ c.list_sent.ensures
    ∙ ap (λ (n : ℕ). sent_after n c.self-2.inside.network)
    (c.len-before.ensures.count ∙ ap (λ (cluster : ClusterParts). length cluster.network.datagrams) c.self.view_is)
    ∙ ap (λ (cluster : ClusterParts). sent_after (length old.network.datagrams) cluster.network) c.self-2.view_is in
    let told_is : c.new-2.result ≡ told_after (length old.notices.all) new.notices =
    c.new-2.ensures ∙ c.fitted-2.ensures ∙ c.list_told.ensures
    ∙ ap (λ (n : ℕ). told_after n c.self-2.inside.notices)
    (c.len-told_before.ensures ∙ ap (λ (cluster : ClusterParts). length cluster.notices.all) c.self.view_is)
    ∙ ap (λ (cluster : ClusterParts). told_after (length old.notices.all) cluster.notices) c.self-2.view_is in
    let same : step_made c.args.event answered.answer answered.now c.new.result c.new-2.result ≡ step_by c.args.event answered old new =
    (λ i. step_made c.args.event answered.answer answered.now (sent_is i) (told_is i)) in
    subst (λ (step : Step). OccursAs config world c.args.event old new step) (sym same) (c.step_into.ensures.occurs config world stands)
