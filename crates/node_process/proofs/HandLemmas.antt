-- What a node is handed of a group is what the group's items give it.
use Rattle.std.proofs.Common.{◌≡◌, ◌≤◌, ◌++◌, ◌∷◌, [], List, ℕ, length, map, take, refl, sym, ap, ◌∙◌, subst, arith}
use Rattle.std.proofs.Math.Seq.{take-append_seam}
use Rattle.std.proofs.lemmas.List.{length-append, length-map, take-append-le, take-take}
use Rattle.protocol.specs.declared.nodes.NodeId.{NodeId}
use Rattle.node_core.specs.declared.output.Input.{Input}
use Rattle.node_core.specs.declared.output.Input.TheVariants as inputs
use Rattle.port.specs.Members.{item_of}
use Rattle.port.specs.Members.{Item as MemberItem}
use Rattle.serving.specs.declared.group.Item.{Item}
use Rattle.node_process.specs.Handing.{given_of, handed_of, handed_to, item_given}

one_item : (who : NodeId) (input : Input) → item_of who input ≡ item_given who (given_of input)
one_item who (inputs.Asked request) = refl
one_item who (inputs.Received bytes) = refl

given_items : (who : NodeId) (given : List Input) → map (item_of who) given ≡ map (item_given who) (map given_of given)
given_items who [] = refl
given_items who (input ∷ rest) =
    ap (λ (item : MemberItem). item ∷ map (item_of who) rest) (one_item who input)
    ∙ ap (λ (items : List MemberItem). item_given who (given_of input) ∷ items) (given_items who rest)

-- inputs that are what the items give are what the node takes of these
pub handed_inputs : (who : NodeId) (given : List Input) (items : List Item) → map given_of given ≡ handed_of items
    → map (item_of who) given ≡ handed_to who items
handed_inputs who given items same = given_items who given ∙ ap (map (item_given who)) same

-- there are as many
pub handed_count : (given : List Input) (items : List Item) → map given_of given ≡ handed_of items → length given ≡ length (handed_of items)
handed_count given items same = sym (length-map given given_of) ∙ ap length same

-- the first of a list that is cut behind them, so many as there are of another that stands in front of all, are these
pub front_all : {X : Type 0} (front rest behind : List X) (count len : ℕ) → length front ≡ count → count ≤ len
    → take count (take len ((front ++ rest) ++ behind)) ≡ front
front_all {X} front rest behind count len same within =
    take-take count len ((front ++ rest) ++ behind) within
    ∙ take-append-le count (front ++ rest) behind (omega (arith, length-append front rest))
    ∙ subst (λ (n : ℕ). take n (front ++ rest) ≡ front) same (take-append_seam front rest)
