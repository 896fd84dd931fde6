use Rattle.std.proofs.Common.{◌∙◌, Some, false, List, ℕ, refl, sym, ap}
use Rattle.serving.specs.declared.watched.Watch.{Watch}
use Rattle.serving.specs.Watching.{key_of, Keys}
use Rattle.serving.proofs.NameLemmas.{keys_after, named_begun, named_unkeyed, others_begun}
use Rattle.serving.proofs.WatchLemmas.{kept_at, spelled_at, spelled_new}
use Rattle.serving.proofs.watches.Watches.begin.Goals as goal

pub invariant_of-self-2 : goal.invariant_of-self-2
invariant_of-self-2 c =
    let old = c.args.self.now in
    let key = c.in_ok-key.key in
    let new = c.insert.new.self in
    let name = c.in_ok-name.name in
    let bytes = c.in_ok-from_slice.field-0 in
    let watch : Watch = record { spelled = bytes; since = c.args.now; turn = 0; due = c.args.now; waits = false } in
    let updates = c.in_ok-key.ensures.updates in
    let items = c.in_ok-from_slice.ensures.items in
    let mid = named_unkeyed old.watched new old.keys.entries key watch old.named c.in_ok-key.ensures.was_vacant updates refl in
    record {
      turns = old.turns;
      kept = kept_at old.watched new old.queues.items key (Some watch) updates refl old.kept;
      spelled = spelled_at old.watched new key (Some watch) updates
          (spelled_new watch c.args.spelled.now items c.requires.whole) old.spelled;
      named = named_begun new old.keys c.insert-2.new.self name key watch c.insert-2.result mid updates.changed
          (items ∙ sym c.in_ok-name.ensures.items) (ap (key_of old.keys.entries) c.in_ok-name.ensures.items ∙ c.requires.absent)
          c.insert-2.ensures.updates c.insert-2.ensures.err;
    }

pub returns-in_err-insert-clause-others : goal.returns-in_err-insert-clause-others
returns-in_err-insert-clause-others c = λ (other : List ℕ) apart.
    let old = c.args.self.now in
    let watch : Watch = record { spelled = c.in_ok-from_slice.field-0; since = c.args.now; turn = 0; due = c.args.now; waits = false } in
    others_begun old.watched c.insert.new.self old.keys.entries c.insert-2.new.self.entries c.args.spelled.now c.in_ok-key.key (Some watch)
    old.named c.in_ok-key.ensures.was_vacant c.in_ok-key.ensures.updates
    (λ (name : List ℕ) unlike. ap (λ (es : Keys). key_of es name) c.in_err-insert.ensures.err) other apart

pub returns-clause-others : goal.returns-clause-others
returns-clause-others c = λ (other : List ℕ) apart.
    let old = c.args.self.now in
    let name = c.in_ok-name.name in
    let watch : Watch = record { spelled = c.in_ok-from_slice.field-0; since = c.args.now; turn = 0; due = c.args.now; waits = false } in
    others_begun old.watched c.insert.new.self old.keys.entries c.insert-2.new.self.entries name.items c.in_ok-key.key (Some watch)
    old.named c.in_ok-key.ensures.was_vacant c.in_ok-key.ensures.updates
    (keys_after old.keys.entries c.insert-2.new.self.entries name.items (Some c.in_ok-key.key) c.in_ok-insert.ensures.updates.3)
    other (λ is. apart (is ∙ c.in_ok-name.ensures.items))
