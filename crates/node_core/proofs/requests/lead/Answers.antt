use Rattle.std.proofs.Common.{◌∙◌, ap, refl, sym}
use Rattle.protocol.specs.declared.requests.Request.TheVariants as requests
use Rattle.node_core.proofs.Deciding.{asked_so, commit_asked, commit_refused, status_decides, timeout_decides}
use Rattle.node_core.proofs.requests.lead.Goals as goal

pub returns-in-Commit-clause-ok : goal.returns-in-Commit-clause-ok
returns-in-Commit-clause-ok c =
    commit_asked c.args.leader.now c.commit.new.self c.commit.new.decision c.get.result c.commit.result c.args.request.now
    (c.in-Commit.is ∙ ap requests.Commit (sym c.get.ensures)) c.commit.ensures

pub returns-in-Commit-clause-err : goal.returns-in-Commit-clause-err
returns-in-Commit-clause-err c =
    commit_refused c.args.leader.now c.commit.new.self c.commit.new.decision c.get.result c.commit.result c.commit.ensures

pub returns-in-Status-clause-ok : goal.returns-in-Status-clause-ok
returns-in-Status-clause-ok c =
    asked_so _ _ _ _ _ _ refl (c.in-Status.is ∙ ap requests.Status (sym c.get-in-Status.ensures))
    (status_decides c.args.leader.now c.status.new.decision c.get-in-Status.result c.status.ensures)

pub returns-in-Timeout-clause-ok : goal.returns-in-Timeout-clause-ok
returns-in-Timeout-clause-ok c =
    asked_so _ _ _ _ _ _ refl (c.in-Timeout.is ∙ ap requests.Timeout (sym c.get-in-Timeout.ensures))
    (timeout_decides c.args.leader.now c.timeout.new.self c.timeout.new.decision c.get-in-Timeout.result c.timeout.ensures.decides
    c.timeout.ensures.plays c.timeout.ensures.waits c.timeout.ensures.begun c.timeout.ensures.stands)
