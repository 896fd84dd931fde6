use Rattle.std.proofs.Common.{◌∙◌, sym}
use Rattle.cluster.specs.Notices.{shown_notice}
use Rattle.cluster.proofs.Raised.{heard_down, heard_made, heard_manager, heard_none, heard_nowhere}
use Rattle.cluster.proofs.handing.hear.Goals as goal

pub returns-in_default : goal.returns-in_default
returns-in_default g c = λ network config world s.
    heard_none config world c.args.sizes c.args.nodes.now.items network c.args.notices.now s c.answers.new.self c.answers.ensures.now
    c.args.number c.in_default.ensures c.answers.ensures.answer

pub returns-then-is_manager : goal.returns-then-is_manager
returns-then-is_manager g c = λ network config world s.
    heard_manager config world c.args.sizes c.args.nodes.now.items network c.args.notices.now s c.answers-then-is_manager.new.self
    c.answers-then-is_manager.ensures.now c.args.number (shown_notice c.in-Some.notice) c.in-Some.ensures
    (sym c.is_manager.ensures ∙ c.if-is_manager.true) c.answers-then-is_manager.ensures.answer

pub returns-in_default-place_of : goal.returns-in_default-place_of
returns-in_default-place_of g c = λ network config world s.
    heard_nowhere config world c.args.sizes c.args.nodes.now.items network c.args.notices.now s c.answers-in_default-place_of.new.self
    c.answers-in_default-place_of.ensures.now c.args.number (shown_notice c.in-Some.notice) c.in-Some.ensures
    (sym c.is_manager.ensures ∙ c.if-is_manager.false) c.in_default-place_of.ensures c.answers-in_default-place_of.ensures.answer

pub returns-then-is_down : goal.returns-then-is_down
returns-then-is_down g c = λ network config world s.
    heard_down config world c.args.sizes c.args.nodes.now.items network c.args.notices.now s c.answers-then-is_down.new.self
    c.answers-then-is_down.ensures.now c.args.number (shown_notice c.in-Some.notice) c.in-Some.ensures
    (sym c.is_manager.ensures ∙ c.if-is_manager.false) c.in-Some-place_of.at c.in-Some-place_of.ensures c.index.result.now c.index.ensures
    (sym c.is_down.ensures ∙ c.if-is_down.true) c.answers-then-is_down.ensures.answer

pub returns : goal.returns
returns g c = λ network config world s.
    heard_made config world c.args.sizes c.args.nodes.now.items network c.args.notices.now s c.in-Some.notice.receiver
    c.in-Some-place_of.at c.in-Some-place_of.ensures c.index_mut-node.result.now c.raise_least-raised.new.node
    c.index_mut-node.ensures.value c.in-Some.notice.manager c.in-Some.notice.floor
    (sym c.is_manager.ensures ∙ c.if-is_manager.false) c.args.number c.in-Some.ensures
    c.index.result.now c.index.ensures (sym c.is_down.ensures ∙ c.if-is_down.false) c.hear-least.new.self c.hear-least.result
    c.hear-least.ensures c.raise_least-raised.result c.raise_least-raised.ensures c.answers-2.new.self
    (c.answers-2.ensures.answer ∙ c.answer_of.ensures) c.answers-2.ensures.now
