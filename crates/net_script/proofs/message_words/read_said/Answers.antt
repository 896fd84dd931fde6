use Rattle.net_script.proofs.Arms.{stops}
use Rattle.net_script.proofs.MessageLemmas.{prepare_arm, p1a_arm, p1b_arm, p2a_arm, p2b_arm}
use Rattle.net_script.proofs.MessageLemmas.{commit_arm, abort_arm, ask_arm, b1a_arm, b1b_arm, b2b_arm}
use Rattle.net_script.proofs.message_words.read_said.Goals as goal

pub returns-in_err-read : goal.returns-in_err-read
returns-in_err-read c = stops prepare_arm _ _ _ _ c.if-is_word.ensures c.from_residual.ensures c.in_err-read.ensures

pub returns-in_err-rm : goal.returns-in_err-rm
returns-in_err-rm c = stops p1a_arm _ _ _ _ c.if-is_word-2.ensures c.from_residual-in_err-rm.ensures c.in_err-rm.ensures

pub returns-in_err-rm-2 : goal.returns-in_err-rm-2
returns-in_err-rm-2 c = stops p1b_arm _ _ _ _ c.if-is_word-3.ensures c.from_residual-in_err-rm-2.ensures c.in_err-rm-2.ensures

pub returns-in_err-rm-3 : goal.returns-in_err-rm-3
returns-in_err-rm-3 c = stops p2a_arm _ _ _ _ c.if-is_word-4.ensures c.from_residual-in_err-rm-3.ensures c.in_err-rm-3.ensures

pub returns-in_err-rm-4 : goal.returns-in_err-rm-4
returns-in_err-rm-4 c = stops p2b_arm _ _ _ _ c.if-is_word-5.ensures c.from_residual-in_err-rm-4.ensures c.in_err-rm-4.ensures

pub returns-in_err-read-2 : goal.returns-in_err-read-2
returns-in_err-read-2 c = stops commit_arm _ _ _ _ c.if-is_word-6.ensures c.from_residual-in_err-read-2.ensures c.in_err-read-2.ensures

pub returns-in_err-read-3 : goal.returns-in_err-read-3
returns-in_err-read-3 c = stops abort_arm _ _ _ _ c.if-is_word-7.ensures c.from_residual-in_err-read-3.ensures c.in_err-read-3.ensures

pub returns-in_err-rm-5 : goal.returns-in_err-rm-5
returns-in_err-rm-5 c = stops ask_arm _ _ _ _ c.if-is_word-8.ensures c.from_residual-in_err-rm-5.ensures c.in_err-rm-5.ensures

pub returns-in_err-ballot : goal.returns-in_err-ballot
returns-in_err-ballot c = stops b1a_arm _ _ _ _ c.if-is_word-9.ensures c.from_residual-in_err-ballot.ensures c.in_err-ballot.ensures

pub returns-in_err-ballot-2 : goal.returns-in_err-ballot-2
returns-in_err-ballot-2 c = stops b1b_arm _ _ _ _ c.if-is_word-10.ensures c.from_residual-in_err-ballot-2.ensures c.in_err-ballot-2.ensures

pub returns-in_err-acceptor : goal.returns-in_err-acceptor
returns-in_err-acceptor c = stops b2b_arm _ _ _ _ c.if-is_word-11.ensures c.from_residual-in_err-acceptor.ensures c.in_err-acceptor.ensures
