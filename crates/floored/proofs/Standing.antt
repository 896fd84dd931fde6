-- The floor that a node's record stands behind, and what stands behind it.
-- Needed by 7 files here.
use Rattle.std.proofs.Common.{◌≡◌, ◌∙◌, ℕ, true, List, [], ◌∷◌, Option, Some, None, is_some, inl, refl, sym, ap, subst, append-nil, arith}
use Rattle.std.specs.Option.{option_map}
use Rattle.xid.specs.Places.{Place}
use Rattle.stable_record.specs.Behind.{IsFloor, IsFronting}
use Rattle.stable_record.specs.Floors.{floor_frame, floor_of, front_of}
use Rattle.stable_record.specs.Held.{Held, Nature}
use Rattle.stable_record.proofs.Floors.{floor_again, floor_stays}
use Rattle.protocol.specs.declared.nodes.NodeId.{NodeId}
use Rattle.protocol.specs.declared.rows.Row.{Row}
use Rattle.protocol.specs.Effects.{Config}
use Rattle.protocol.specs.Nodes.{NodeState}
use Rattle.node_core.specs.declared.role.Role.{Role}
use Rattle.node_core.specs.Nodes.{AreSizes, IsSameNode, NodeParts, NodeStands, RoleIs, Stands}
use Rattle.forgetting.specs.Above.{StandsAbove}
use Rattle.floored.specs.Nodes.{FlooredStands, IsFlooredSound, first_front, floor_before, with_floor}

-- ---- the floor in front

-- a floor is found in its own front
front_found : (floor : Option Place) → IsFloor floor → floor_of (front_of floor) ≡ floor
front_found None valid = floor_stays None [] [] [] tt (λ i. omega arith) (refl, inl (omega arith))
front_found (Some place) valid =
    ap floor_of (sym (append-nil (floor_frame place))) ∙ ap (option_map (λ x. x.0)) (floor_again place [] valid)

pub floor_found : (floor : Option Place) (held : Held) → IsFronting floor held → floor_before held ≡ floor
floor_found floor held is =
    ap (λ (fronts : List (List ℕ)). floor_of (first_front fronts)) is.fronts_are ∙ front_found floor is.valid

pub floor_same : (old new : Held) → new.nature ≡ old.nature → floor_before new ≡ floor_before old
floor_same old new same = ap (λ (n : Nature). floor_of (first_front n.fronts)) same

pub fronting_found : (floor : Option Place) (held : Held) → IsFronting floor held → IsFronting (floor_before held) held
fronting_found floor held is = subst (λ (f : Option Place). IsFronting f held) (sym (floor_found floor held is)) is

pub fronting_same : (old new : Held) → new.nature ≡ old.nature → IsFronting (floor_before old) old → IsFronting (floor_before new) new
fronting_same old new same is = record {
  valid = subst IsFloor (sym (floor_same old new same)) is.valid;
  beneath = is.beneath;
  fronts_are =
      ap (λ (n : Nature). n.fronts) same ∙ is.fronts_are
      ∙ ap (λ (f : Option Place). front_of f ∷ is.beneath) (sym (floor_same old new same));
}

-- ---- whether it is up

pub up_is : (config : Config) (who : NodeId) (m : NodeState) (tail : List ℕ) (role : Option Role) → RoleIs config who m tail role
    → is_some role ≡ m.up
up_is config who m tail None is = sym is
up_is config who m tail (Some role) is = sym is.0

pub stands_up : (config : Config) (who : NodeId) (own : List Row) (held : Held) (role : Option Role) (m : NodeState)
    → Stands config who own held role m → is_some role ≡ m.up
stands_up config who own held role m s = up_is config who m s.tail role s.role_is

-- ---- the same node still

-- a node that is the same, whatever its record and its role are now
pub stands_still : (config : Config) (old new : NodeParts) (m now : NodeState) → NodeStands config old m → IsSameNode old new
    → Stands config old.who old.rows new.held new.role now → NodeStands config new now
stands_still config old new m now stands same is = record {
  sizes_are = subst (AreSizes config) (sym same.sizes_are) stands.sizes_are;
  stands = subst (λ (who : NodeId). Stands config who new.rows new.held new.role now) (sym same.who_is)
      (subst (λ (rows : List Row). Stands config old.who rows new.held new.role now) (sym same.rows_are) is);
}

pub stands_on : (config : Config) (old new : NodeParts) (m : NodeState) (s : FlooredStands config (with_floor old) m)
    → IsSameNode old new → (little whole : NodeState) → Stands s.from old.who old.rows new.held new.role little
    → StandsAbove s.from config old.who (floor_before old.held) little whole → FlooredStands config (with_floor new) whole
stands_on config old new m s same little whole stands above = record {
  from = s.from;
  few = little;
  is = stands_still s.from old new s.few little s.is same stands;
  above = subst (λ (who : NodeId). StandsAbove s.from config who (floor_before new.held) little whole) (sym same.who_is)
      (subst (λ (f : Option Place). StandsAbove s.from config old.who f little whole)
      (sym (floor_same old.held new.held same.nature_is)) above);
}

-- it knows its floor still where it didn't come up, whichever node of the machine it stands for now
pub sound_on : (known : Option Place) (old new : NodeParts) → IsFlooredSound known old → IsSameNode old new
    → (is_some new.role ≡ true → is_some old.role ≡ true) → (config : Config) (m : NodeState) → FlooredStands config (with_floor new) m
    → IsFlooredSound known new
sound_on known old new sound same stayed config m is = record {
  front = fronting_same old.held new.held same.nature_is sound.front;
  known_is = λ up. sound.known_is (stayed up) ∙ sym (floor_same old.held new.held same.nature_is);
  config = config;
  state = m;
  is = is;
}
