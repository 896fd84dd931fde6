use Rattle.net_script.proofs.Arms.{stops}
use Rattle.net_script.proofs.EventLemmas.{deliver_arm, lose_arm, cut_arm, noise_arm, tear_arm}
use Rattle.net_script.proofs.EventLemmas.{restart_arm, compact_arm, floor_arm, hear_arm, replace_arm, start_arm, put_arm, del_arm}
use Rattle.net_script.proofs.EventLemmas.{get_arm, end_arm, rollback_arm, recover_arm, view_arm, commit_arm, status_arm, timeout_arm}
use Rattle.net_script.proofs.events.event_by.Goals as goal

pub returns-in_err-number : goal.returns-in_err-number
returns-in_err-number c = stops deliver_arm _ _ _ _ c.if-is_word.ensures c.from_residual.ensures c.in_err-number.ensures

pub returns-in_err-rm : goal.returns-in_err-rm
returns-in_err-rm c = stops start_arm _ _ _ _ c.if-is_word-2.ensures c.from_residual-in_err-rm.ensures c.in_err-rm.ensures

pub returns-in_err-rm-2 : goal.returns-in_err-rm-2
returns-in_err-rm-2 c = stops put_arm _ _ _ _ c.if-is_word-3.ensures c.from_residual-in_err-rm-2.ensures c.in_err-rm-2.ensures

pub returns-in_err-rm-3 : goal.returns-in_err-rm-3
returns-in_err-rm-3 c = stops del_arm _ _ _ _ c.if-is_word-4.ensures c.from_residual-in_err-rm-3.ensures c.in_err-rm-3.ensures

pub returns-in_err-rm-4 : goal.returns-in_err-rm-4
returns-in_err-rm-4 c = stops get_arm _ _ _ _ c.if-is_word-5.ensures c.from_residual-in_err-rm-4.ensures c.in_err-rm-4.ensures

pub returns-in_err-rm-5 : goal.returns-in_err-rm-5
returns-in_err-rm-5 c = stops end_arm _ _ _ _ c.if-is_word-6.ensures c.from_residual-in_err-rm-5.ensures c.in_err-rm-5.ensures

pub returns-in_err-rm-6 : goal.returns-in_err-rm-6
returns-in_err-rm-6 c = stops rollback_arm _ _ _ _ c.if-is_word-7.ensures c.from_residual-in_err-rm-6.ensures c.in_err-rm-6.ensures

pub returns-in_err-rm-7 : goal.returns-in_err-rm-7
returns-in_err-rm-7 c = stops recover_arm _ _ _ _ c.if-is_word-8.ensures c.from_residual-in_err-rm-7.ensures c.in_err-rm-7.ensures

pub returns-in_err-rm-8 : goal.returns-in_err-rm-8
returns-in_err-rm-8 c = stops view_arm _ _ _ _ c.if-is_word-9.ensures c.from_residual-in_err-rm-8.ensures c.in_err-rm-8.ensures

pub returns-in_err-leader : goal.returns-in_err-leader
returns-in_err-leader c = stops commit_arm _ _ _ _ c.if-is_word-10.ensures c.from_residual-in_err-leader.ensures c.in_err-leader.ensures

pub returns-in_err-leader-2 : goal.returns-in_err-leader-2
returns-in_err-leader-2 c =
    stops status_arm _ _ _ _ c.if-is_word-11.ensures c.from_residual-in_err-leader-2.ensures c.in_err-leader-2.ensures

pub returns-in_err-node : goal.returns-in_err-node
returns-in_err-node c = stops timeout_arm _ _ _ _ c.if-is_word-12.ensures c.from_residual-in_err-node.ensures c.in_err-node.ensures

pub returns-in_err-number-2 : goal.returns-in_err-number-2
returns-in_err-number-2 c = stops lose_arm _ _ _ _ c.if-is_word-13.ensures c.from_residual-in_err-number-2.ensures c.in_err-number-2.ensures

pub returns-in_err-number-3 : goal.returns-in_err-number-3
returns-in_err-number-3 c = stops cut_arm _ _ _ _ c.if-is_word-14.ensures c.from_residual-in_err-number-3.ensures c.in_err-number-3.ensures

pub returns-in_err-node-2 : goal.returns-in_err-node-2
returns-in_err-node-2 c = stops noise_arm _ _ _ _ c.if-is_word-15.ensures c.from_residual-in_err-node-2.ensures c.in_err-node-2.ensures

pub returns-in_err-node-3 : goal.returns-in_err-node-3
returns-in_err-node-3 c = stops tear_arm _ _ _ _ c.if-is_word-16.ensures c.from_residual-in_err-node-3.ensures c.in_err-node-3.ensures

pub returns-in_err-node-4 : goal.returns-in_err-node-4
returns-in_err-node-4 c = stops restart_arm _ _ _ _ c.if-is_word-17.ensures c.from_residual-in_err-node-4.ensures c.in_err-node-4.ensures

pub returns-in_err-node-5 : goal.returns-in_err-node-5
returns-in_err-node-5 c = stops compact_arm _ _ _ _ c.if-is_word-18.ensures c.from_residual-in_err-node-5.ensures c.in_err-node-5.ensures

pub returns-in_err-rm-9 : goal.returns-in_err-rm-9
returns-in_err-rm-9 c = stops floor_arm _ _ _ _ c.if-is_word-19.ensures c.from_residual-in_err-rm-9.ensures c.in_err-rm-9.ensures

pub returns-in_err-number-4 : goal.returns-in_err-number-4
returns-in_err-number-4 c = stops hear_arm _ _ _ _ c.if-is_word-20.ensures c.from_residual-in_err-number-4.ensures c.in_err-number-4.ensures

pub returns-in_err-node-6 : goal.returns-in_err-node-6
returns-in_err-node-6 c = stops replace_arm _ _ _ _ c.if-is_word-21.ensures c.from_residual-in_err-node-6.ensures c.in_err-node-6.ensures
