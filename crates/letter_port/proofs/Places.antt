-- Each node of a cluster stands in one place, and each place has one node. So what is put into the letter in a place is for its node alone.
-- Needed by Transfers.
use Rattle.std.proofs.Common.{◌≡◌, ◌≢◌, ◌∙◌, ℕ, ◌+◌, Bool, true, false, ltb, if◌then◌else◌, [], Option, Some, None, refl, sym, ap}
use Rattle.protocol.specs.declared.nodes.NodeId.{NodeId}
use Rattle.protocol.specs.declared.nodes.NodeId.TheVariants.{A, L, R}
use Rattle.protocol.specs.Worlds.{place}
use Rattle.floors.proofs.Places.{self_node, node_is}
use Rattle.node_core.specs.Configs.{config_by, is_among}
use Rattle.node_core.specs.declared.config.Sizes.{Sizes}
use Rattle.floors.specs.Worlds.{is_node}
use Rattle.node_core.specs.Places.{node_in}
use Rattle.node_core.proofs.Placed.{name_there}

if_none : (test : Bool) (x : ℕ) → ◌≡◌ {A = Option ℕ} (if test then Some x else None) None → test ≡ false
if_none true x e = absurd (cc)
if_none false x e = refl

-- one that has no place isn't of the cluster
pub isnt_there : (sizes : Sizes) (who : NodeId) → place (config_by sizes []) who ≡ None → is_among (config_by sizes []) who ≡ false
isnt_there sizes (A a) e = if_none (ltb a sizes.acceptors) a e
isnt_there sizes (L l) e = if_none (ltb l sizes.leaders) (sizes.acceptors + l) e
isnt_there sizes (R rm) e = if_none (ltb rm sizes.managers) (sizes.acceptors + sizes.leaders + rm) e

-- two nodes don't stand in one place
pub places_differ : (sizes : Sizes) (a b : NodeId) (x y : ℕ) → place (config_by sizes []) a ≡ Some x → place (config_by sizes []) b ≡ Some y
    → is_node a b ≡ false → y ≢ x
places_differ sizes a b x y at_a at_b other =
    λ same.
    let one : a ≡ b = sym (name_there (config_by sizes []) a x at_a) ∙ ap (node_in (config_by sizes [])) (sym same)
    ∙ name_there (config_by sizes []) b y at_b in
    let both : is_node a b ≡ true = ap (is_node a) (sym one) ∙ self_node a in
    let no : false ≡ true = sym other ∙ both in
    absurd (cc)

-- and one node in one place
pub places_agree : (sizes : Sizes) (a b : NodeId) (x y : ℕ) → place (config_by sizes []) a ≡ Some x → place (config_by sizes []) b ≡ Some y
    → is_node a b ≡ true → y ≡ x
places_agree sizes a b x y at_a at_b same =
    let both : ◌≡◌ {A = Option ℕ} (Some y) (Some x) = sym at_b ∙ ap (place (config_by sizes [])) (sym (node_is a b same)) ∙ at_a in
    cc (both)
