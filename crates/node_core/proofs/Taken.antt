-- What is handed to a node, taken one by one.
-- Needed by `gather` and `store_one_by_one`.
use Rattle.std.proofs.Common.{◌≡◌, ◌∙◌, ◌++◌, ◌∷◌, [], ◌+◌, ◌<◌, ◌≤◌, ℕ, suc, set, get_or, List, map, take, drop, length, sym, ap, subst}
use Rattle.std.proofs.Common.{arith}
use Rattle.std.proofs.lemmas.List.{take_more, take_more_set, take_all, map-append}
use Rattle.std.proofs.Math.Seq.{split_at}
use Rattle.protocol.specs.Nodes.{Input}
use Rattle.node_core.specs.declared.output.Input.{Input as Handed}
use Rattle.node_core.specs.declared.output.Output.{Output}
use Rattle.node_core.specs.Nodes.{input_of}

module _ (P : List Input → List Output → Type 0) (inputs : List Handed) (outs : List Output) (i : ℕ)
    (len : length outs ≡ length inputs) where
  -- one more, with what came of it in its place
  pub one_more : (input : Handed) (out : Output) → i < length inputs → input ≡ get_or inputs i input
      → P (map input_of (take i inputs) ++ input_of input ∷ []) (take i outs ++ out ∷ [])
      → P (map input_of (take (i + 1) inputs)) (take (i + 1) (set outs i out))
  one_more input out lt is more =
      let taken : take (i + 1) inputs ≡ take i inputs ++ input ∷ [] =
      take_more inputs i input lt ∙ ap (λ (x : Handed). take i inputs ++ x ∷ []) (sym is) in
      let ins : map input_of (take (i + 1) inputs) ≡ map input_of (take i inputs) ++ input_of input ∷ [] =
      ap (map input_of) taken ∙ map-append input_of (take i inputs) (input ∷ []) in
      let given : take (i + 1) (set outs i out) ≡ take i outs ++ out ∷ [] = take_more_set outs i out (omega (arith, lt, len)) in
      subst (λ is. P is (take (i + 1) (set outs i out))) (sym ins)
      (subst (P (map input_of (take i inputs) ++ input_of input ∷ [])) (sym given) more)

  -- all
  pub none_left : length inputs ≤ i → P (map input_of (take i inputs)) (take i outs) → P (map input_of inputs) outs
  none_left le all =
      let ins : take i inputs ≡ inputs = take_all i inputs le in
      let given : take i outs ≡ outs = take_all i outs (omega (arith, len, le)) in
      subst (λ is. P (map input_of is) outs) ins (subst (P (map input_of (take i inputs))) given all)

-- those before one, it, and those behind it
pub one_among : (P : List Input → Type 0) (inputs : List Handed) (i : ℕ) (input : Handed) → i < length inputs
    → input ≡ get_or inputs i input
    → P (map input_of (take i inputs) ++ input_of input ∷ map input_of (drop (suc i) inputs)) → P (map input_of inputs)
one_among P inputs i input lt is h =
    let all : inputs ≡ take i inputs ++ input ∷ drop (suc i) inputs =
    split_at inputs i input lt ∙ ap (λ (x : Handed). take i inputs ++ x ∷ drop (suc i) inputs) (sym is) in
    let ins : map input_of inputs ≡ map input_of (take i inputs) ++ input_of input ∷ map input_of (drop (suc i) inputs) =
    ap (map input_of) all ∙ map-append input_of (take i inputs) (input ∷ drop (suc i) inputs) in
    subst P (sym ins) h
