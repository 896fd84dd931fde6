use Rattle.std.proofs.Common.{◌≡◌, codes, ◌∙◌, sym}
use Rattle.std.specs.Cmp.Lexicographic.{other_text, same_text}
use Rattle.serving.specs.Wishes.{BeginsAsRequest, IsWish}
use Rattle.serving.proofs.WishLemmas.{named_word, names_open, names_table, ok_with, wordless}
use Rattle.serving.proofs.words.read_wish.Goals as goal

pub returns-in_default : goal.returns-in_default
returns-in_default c = wordless c.args.line.now c.in_default.ensures

pub returns-then-eq : goal.returns-then-eq
returns-then-eq c =
    let word : c.in-Some.word.now ≡ codes "table" = same_text c.in-Some.word.now c.as_slice.result.now c.if-eq.ensures
    ∙ c.as_slice.ensures in
    c.of_node.ensures c.args.line.now
    (names_table c.args.line.now c.in-Some.rest.now c.last_node.result
    (named_word c.args.line.now c.in-Some.word.now (codes "table") c.in-Some.rest.now c.in-Some.ensures.cut word) c.last_node.ensures)

pub returns-then-eq-2 : goal.returns-then-eq-2
returns-then-eq-2 c =
    let word : c.in-Some.word.now ≡ codes "open" =
    same_text c.in-Some.word.now c.as_slice-2.result.now c.if-eq-2.ensures ∙ c.as_slice-2.ensures in
    c.of_node-then-eq-2.ensures c.args.line.now
    (names_open c.args.line.now c.in-Some.rest.now c.last_node-then-eq-2.result
    (named_word c.args.line.now c.in-Some.word.now
    (codes "open") c.in-Some.rest.now c.in-Some.ensures.cut word) c.last_node-then-eq-2.ensures)

pub returns-then-eq-5 : goal.returns-then-eq-5
returns-then-eq-5 c =
    let word : c.in-Some.word.now ≡ codes "info" =
    same_text c.in-Some.word.now c.as_slice-5.result.now c.if-eq-5.ensures ∙ c.as_slice-5.ensures in
    c.read_info.ensures c.args.me c.args.line.now
    (named_word c.args.line.now c.in-Some.word.now (codes "info") c.in-Some.rest.now c.in-Some.ensures.cut word)

pub returns : goal.returns
returns c =
    let begins : BeginsAsRequest c.args.line.now = record {
      word = c.in-Some.word.now;
      rest = _;
      cut = c.in-Some.ensures.cut;
      no_table = λ e. other_text c.in-Some.word.now c.as_slice.result.now c.if-eq.ensures (e ∙ sym c.as_slice.ensures);
      no_open = λ e. other_text c.in-Some.word.now c.as_slice-2.result.now c.if-eq-2.ensures (e ∙ sym c.as_slice-2.ensures);
      no_await = λ e. other_text c.in-Some.word.now c.as_slice-3.result.now c.if-eq-3.ensures (e ∙ sym c.as_slice-3.ensures);
      no_floor = λ e. other_text c.in-Some.word.now c.as_slice-4.result.now c.if-eq-4.ensures (e ∙ sym c.as_slice-4.ensures);
      no_info = λ e. other_text c.in-Some.word.now c.as_slice-5.result.now c.if-eq-5.ensures (e ∙ sym c.as_slice-5.ensures);
    } in
    ok_with (IsWish c.args.me c.args.line.now) c.read_request.result c.read_request.ensures begins
