use Rattle.std.proofs.Common.{rules, ◌≡◌, decimal, append_assoc}
use Rattle.std.proofs.KnownBytes.{Appends-trans}
use Rattle.net_script.proofs.WritingLemmas.{writes_after, writes_no_more, writes_whole}
use Rattle.net_script.proofs.writing.write_number.Goals as goal

pub returns-in_err-write_text : goal.returns-in_err-write_text
returns-in_err-write_text g c =
    let head : c.as_bytes.result.now ≡ c.args.head.now = search rules in
    rw append_assoc
    (writes_no_more _ _ _ _ _ _ _ c.in_err-write_text.was (search rules) (rw head at c.write_text.ensures))

pub returns-in_err-write_text-2 : goal.returns-in_err-write_text-2
returns-in_err-write_text-2 g c =
    let head : c.as_bytes.result.now ≡ c.args.head.now = search rules in
    let digits : c.as_bytes-2.result.now ≡ decimal c.args.number = search rules in
    let before = writes_whole _ _ _ _ _ c.in_ok-write_text.was (rw head at c.write_text.ensures) in
    writes_no_more _ _ _ _ _ _ _ c.in_err-write_text-2.was (search rules)
    (writes_after _ _ _ _ _ _ before (rw digits at c.write_text-2.ensures))

pub returns : goal.returns
returns g c =
    let head : c.as_bytes.result.now ≡ c.args.head.now = search rules in
    let digits : c.as_bytes-2.result.now ≡ decimal c.args.number = search rules in
    let before = writes_whole _ _ _ _ _ c.in_ok-write_text.was (rw head at c.write_text.ensures) in
    let middle = writes_whole _ _ _ _ _ c.in_ok-write_text-2.was (rw digits at c.write_text-2.ensures) in
    writes_after _ _ _ _ _ _ (Appends-trans _ _ _ _ _ before middle) c.write_text-3.ensures
