-- The nodes of places, opened one after another, and those that aren't.
use Rattle.std.proofs.Common.{◌≡◌, ◌∙◌, ◌⊎◌, inl, inr, ℕ, ◌+◌, ◌<◌, Bool, true, false, List, [], ◌∷◌, ◌++◌, length, get_or, Some, None}
use Rattle.std.proofs.Common.{refl, sym, ap, subst, nat_lt, arith}
use Rattle.std.specs.Prelude.{if◌then◌else◌}
use Rattle.std.proofs.lemmas.Bool.{cases_lt}
use Rattle.std.proofs.lemmas.List.{get_or_append_left, get_or_push, length_push}
use Rattle.xid.specs.declared.refusals.Refusal.{Refusal}
use Rattle.xid.specs.declared.refusals.Refusal.TheVariants.{Damaged, FileFault, NoMemory, NoSuch, PortFault, RecordFault}
use Rattle.stable_record.specs.Held.{Held}
use Rattle.stable_record.specs.Records.{just_opened}
use Rattle.protocol.specs.declared.nodes.NodeId.{NodeId}
use Rattle.protocol.specs.declared.nodes.NodeId.TheVariants.{A, L, R}
use Rattle.protocol.specs.Effects.{Config}
use Rattle.node_core.specs.declared.config.Sizes.{Sizes}
use Rattle.node_core.specs.Configs.{is_among}
use Rattle.node_core.specs.Nodes.{AreSizes}
use Rattle.node_core.specs.Opening.{IsUnopened, HasFaulted}
use Rattle.node_core.specs.Places.{node_count}
use Rattle.floored.specs.Nodes.{IsFlooredUnopened}
use Rattle.port.specs.Members.{MemberParts}
use Rattle.udp_run.specs.Sites.{place_in}
use Rattle.udp_run.specs.Runs.{IsOpenedOver, IsOpenedAt, AreOpened, IsRefusedOver, IsTakenUp, RefusesNode, RefusesNext, RefusesSite}
use Rattle.udp_run.specs.Runs.{behind_floor}

-- ---- names

-- a node that has a place is one of the cluster
placed_among : (number bound other at : ℕ) (t : Bool) → nat_lt number bound ≡ t → (if t then Some at else None) ≡ Some other
    → nat_lt number bound ≡ true
placed_among number bound other at true e h = e
placed_among number bound other at false e h = absurd (cc (h))

-- a node with a place is one of the cluster
pub place_among : (config : Config) (sizes : Sizes) → AreSizes config sizes → (who : NodeId) (at : ℕ) → place_in sizes who ≡ Some at
    → is_among config who ≡ true
place_among config sizes are (A a) at h =
    ap (λ (n : ℕ). nat_lt a n) (sym are.acceptors_are) ∙ placed_among a sizes.acceptors at a (nat_lt a sizes.acceptors) refl h
place_among config sizes are (L l) at h =
    ap (λ (n : ℕ). nat_lt l n) (sym are.leaders_are)
    ∙ placed_among l sizes.leaders at (sizes.acceptors + l) (nat_lt l sizes.leaders) refl h
place_among config sizes are (R rm) at h =
    ap (λ (n : ℕ). nat_lt rm n) (sym are.managers_are)
    ∙ placed_among rm sizes.managers at (sizes.acceptors + sizes.leaders + rm) (nat_lt rm sizes.managers) refl h

-- ---- one after another

-- one node more was opened
pub one_opened : (config : Config) (sizes : Sizes) (made : ℕ) (old new : List MemberParts) (node : MemberParts) (who : NodeId)
    → AreOpened config sizes made old → new ≡ old ++ node ∷ [] → place_in sizes who ≡ Some made → IsOpenedOver config who node
    → AreOpened config sizes (made + 1) new
one_opened config sizes made old new node who so pushed place_is over = record {
  number = ap length pushed ∙ length_push old node ∙ ap (λ (n : ℕ). n + 1) so.number;
  each = λ at d lt. subst (λ (ns : List MemberParts). IsOpenedAt config sizes at (get_or ns at d)) (sym pushed)
      (elim (cases_lt at made) [
        | inl less ↦
            subst (IsOpenedAt config sizes at)
            (sym (get_or_append_left old (node ∷ []) d at (subst (λ (n : ℕ). at < n) (sym so.number) less))) (so.each at d less)
        | inr past ↦
            let same : made ≡ at = omega (arith, past, lt) in
            subst (IsOpenedAt config sizes at) (sym (get_or_push old node d at (so.number ∙ same)))
            (record { who = who; place_is = place_is ∙ ap Some same; over = over })
      ]);
}

-- ---- refused

module _ (config : Config) (who : NodeId) (held : Held) (opened : held ≡ just_opened held.bytes) where
  -- a node that was taken up was opened over its record
  pub taken_over : (node : MemberParts) → IsTakenUp config who held node → IsOpenedOver config who node
  taken_over node is = record { bytes = held.bytes; taken = subst (λ (h : Held). IsTakenUp config who h node) opened is }

  why_unopened : is_among config who ≡ true → (left : Held) (e : Refusal)
      → IsUnopened config who (behind_floor held held.bytes) (behind_floor left held.bytes) e → (e ≡ NoMemory) ⊎ RefusesNode config who e
  why_unopened among left NoSuch why = let both : true ≡ false = sym among ∙ why.1 in absurd (cc (both))
  why_unopened among left Damaged why = inr (record { bytes = held.bytes; bad = why.2 })
  why_unopened among left RecordFault why =
      inr (record {
        bytes = held.bytes;
        left = left;
        faulted = subst (λ (h : Held). HasFaulted (behind_floor h held.bytes) (behind_floor left held.bytes)) opened why.1;
      })
  why_unopened among left NoMemory why = inl refl
  why_unopened among left other why = absurd why

  -- one that was not was refused for it, or for want of memory
  pub not_taken_over : is_among config who ≡ true → (e : Refusal) → IsRefusedOver config who held e
      → (e ≡ NoMemory) ⊎ RefusesNode config who e
  not_taken_over among e why = let un : IsFlooredUnopened config who held why.0 e = why.1 in why_unopened among why.0 e un.unopened

-- its file isn't opened
pub file_refused : (config : Config) (who : NodeId) (e : Refusal) → (e ≡ NoMemory) ⊎ (e ≡ FileFault)
    → (e ≡ NoMemory) ⊎ RefusesNode config who e
file_refused config who e (inl memory) = inl memory
file_refused config who e (inr fault) = inr (subst (RefusesNode config who) (sym fault) tt)

module _ (config : Config) (sizes : Sizes) (nodes : List MemberParts) where
  -- the node of the next place
  pub next_refused : (at : ℕ) (who : NodeId) → AreOpened config sizes at nodes → place_in sizes who ≡ Some at → (e : Refusal)
      → (e ≡ NoMemory) ⊎ RefusesNode config who e → (e ≡ NoMemory) ⊎ RefusesNext config sizes e
  next_refused at who so placed e (inl memory) = inl memory
  next_refused at who so placed e (inr refuses) =
      inr (record { at = at; before = nodes; opened = so; who = who; place_is = placed; refuses = refuses })

  -- a port
  pub ports_refused : AreSizes config sizes → AreOpened config sizes (node_count sizes) nodes → (e : Refusal)
      → (e ≡ NoMemory) ⊎ (e ≡ PortFault) → (e ≡ NoMemory) ⊎ RefusesSite config e
  ports_refused are so e (inl memory) = inl memory
  ports_refused are so e (inr fault) =
      inr (record { sizes = sizes; are = are; refuses = inr (record { nodes = nodes; opened = so; refusal_is = fault }) })

-- a node
pub nodes_refused : (config : Config) (sizes : Sizes) → AreSizes config sizes → (e : Refusal)
    → (e ≡ NoMemory) ⊎ RefusesNext config sizes e → (e ≡ NoMemory) ⊎ RefusesSite config e
nodes_refused config sizes are e (inl memory) = inl memory
nodes_refused config sizes are e (inr refuses) = inr (record { sizes = sizes; are = are; refuses = inl refuses })
