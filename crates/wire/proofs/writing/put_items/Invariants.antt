use Rattle.std.proofs.Common.{◌≡◌, ℕ, ◌+◌, ◌*◌, ◌≤◌, ◌++◌, take, drop}
use Rattle.std.specs.List.{flat_map}
use Rattle.wire.specs.declared.grammar.TheConstants.{ITEM_BYTES}
use Rattle.wire.proofs.writing.put_items.Given as goal

abbrev pub invariant-loop-item : goal.invariant-loop-item
invariant-loop-item g l = record {
  end : l.at ≡ l.initial.at + ITEM_BYTES * l.item-index;
  shown : take l.at l.out ≡ take l.initial.at l.initial.out ++ flat_map g.T.Item.spell (take l.item-index l.items);
  rest : (n : ℕ) → l.at ≤ n → drop n l.out ≡ drop n l.initial.out;
}
