use Rattle.std.proofs.Common.{◌≡◌, ◌∙◌, ℕ, ◌-◌, ◌∷◌, List, get_or, length, take, sym, ap, subst, arith}
use Rattle.std.specs.Vec.{vec_len}
use Rattle.transactions.specs.Cuts.{cuts, AreEnds}
use Rattle.transactions.proofs.Cutting.{cuts_popped, ends_popped, last_start}
use Rattle.transactions.proofs.spellings.Spellings.pop.Goals as goal

pub invariant_of-self : goal.invariant_of-self
invariant_of-self c =
    let bytes = c.self.inside.bytes.items in
    let ends_now = c.pop.new.self.items in
    let count : length ends_now ≡ vec_len c.pop.new.self = omega (arith, c.pop.new.self.ok.0) in
    let end : c.start_of-end.result ≡ last_start ends_now =
    c.start_of-end.ensures ∙ (λ k. get_or (0 ∷ c.deref.ensures.value k) ((c.len.ensures ∙ sym count) k) 0) in
    subst (λ (kept : List ℕ). AreEnds 0 ends_now (length kept)) (sym (c.truncate.ensures.items ∙ ap (λ (n : ℕ). take n bytes) end))
    (ends_popped bytes c.self.inside.ends.items c.self.invariant (vec_len c.self.inside.ends) (vec_len c.pop.new.self) ends_now
    c.pop.result c.pop.ensures.items count c.pop.ensures.cases)

pub returns : goal.returns
returns c =
    let bytes = c.self.inside.bytes.items in
    let ends_now = c.pop.new.self.items in
    let count : length ends_now ≡ vec_len c.pop.new.self = omega (arith, c.pop.new.self.ok.0) in
    let end : c.start_of-end.result ≡ last_start ends_now =
    c.start_of-end.ensures ∙ (λ k. get_or (0 ∷ c.deref.ensures.value k) ((c.len.ensures ∙ sym count) k) 0) in
    ap (λ (kept : List ℕ). cuts kept 0 ends_now) (c.truncate.ensures.items ∙ ap (λ (n : ℕ). take n bytes) end)
    ∙ cuts_popped bytes c.self.inside.ends.items c.self.invariant (vec_len c.self.inside.ends) (vec_len c.pop.new.self) ends_now
    c.pop.result c.pop.ensures.items count c.pop.ensures.cases
    ∙ (λ k. take (length (c.self.view_is k) - 1) (c.self.view_is k))
