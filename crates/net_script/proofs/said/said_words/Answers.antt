use Rattle.std.proofs.lemmas.Bool.{iff_false}
use Rattle.net_script.proofs.Arms.{stops}
use Rattle.net_script.proofs.TraceLineLemmas.{said_outcomes, cluster_arm, table_arm, now_arm, told_arm, final_arm}
use Rattle.net_script.proofs.said.said_words.Goals as goal

pub returns-in_err-change : goal.returns-in_err-change
returns-in_err-change c = stops now_arm _ _ _ _ c.if-is_word.ensures c.from_residual.ensures c.in_err-change.ensures

pub returns-in_err-rm : goal.returns-in_err-rm
returns-in_err-rm c = stops final_arm _ _ _ _ c.if-is_word-2.ensures c.from_residual-in_err-rm.ensures c.in_err-rm.ensures

pub returns-in_err-number : goal.returns-in_err-number
returns-in_err-number c = stops told_arm _ _ _ _ c.if-is_word-3.ensures c.from_residual-in_err-number.ensures c.in_err-number.ensures

pub returns-in_err-table : goal.returns-in_err-table
returns-in_err-table c = stops table_arm _ _ _ _ c.if-is_word-4.ensures c.from_residual-in_err-table.ensures c.in_err-table.ensures

pub returns-in_err-sizes : goal.returns-in_err-sizes
returns-in_err-sizes c = stops cluster_arm _ _ _ _ c.if-is_word-5.ensures c.from_residual-in_err-sizes.ensures c.in_err-sizes.ensures

pub returns : goal.returns
returns c =
    said_outcomes c.requires.words
    (record {
      now = iff_false c.is_word.ensures c.if-is_word.false;
      final = iff_false c.is_word-2.ensures c.if-is_word-2.false;
      told = iff_false c.is_word-3.ensures c.if-is_word-3.false;
      table = iff_false c.is_word-4.ensures c.if-is_word-4.false;
      cluster = iff_false c.is_word-5.ensures c.if-is_word-5.false;
      sent = c.requires.other;
    })
    _ c.said_outcome.ensures
