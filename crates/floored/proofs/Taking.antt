-- How a node with a floor is opened, and what is left of it.
-- Needed by `Floored::arm` and `Floored::open`; crate port.
use Rattle.std.proofs.Common.{◌≡◌, ◌∙◌, ℕ, true, List, [], ◌∷◌, ◌++◌, Option, Some, is_some, inr, refl, sym, ap, subst}
use Rattle.xid.specs.Places.{Place}
use Rattle.xid.specs.declared.refusals.Refusal.{Refusal}
use Rattle.stable_record.specs.Behind.{BehindParts, IsFronting, IsTakenUp, behind}
use Rattle.stable_record.specs.Floors.{floor_of, front_of}
use Rattle.stable_record.specs.Held.{Held, Nature}
use Rattle.protocol.specs.declared.nodes.NodeId.{NodeId}
use Rattle.protocol.specs.Effects.{Config}
use Rattle.protocol.specs.Kept.{kept_memory}
use Rattle.protocol.specs.Nodes.{Memory, NodeState, all_play, empty_memory}
use Rattle.node_core.specs.Nodes.{IsSameNode, NodeParts, NodeStands}
use Rattle.node_core.specs.Opening.{IsOpened, IsUnopened}
use Rattle.forgetting.specs.Above.{StandsAbove}
use Rattle.forgetting.proofs.Coming.{torn}
use Rattle.forgetting.proofs.Left.{alike_itself, says_itself}
use Rattle.floored.specs.Nodes.{FlooredParts, FlooredStands, IsFlooredOpened, IsFlooredSound, IsFlooredUnopened, floor_before, with_floor}
use Rattle.floored.proofs.Standing.{floor_found, floor_same, fronting_found, sound_on}

-- ---- a node with nothing in memory stands above its floor for itself

pub stands_itself : (config : Config) (who : NodeId) (floor : Option Place) (node : NodeState) → all_play config who [] node.facts ≡ true
    → node.memory ≡ empty_memory → StandsAbove config config who floor node node
stands_itself config who floor node play empty = record {
  alike = alike_itself who config;
  says = says_itself who floor node.facts;
  rows_are = refl;
  few_play = play;
  all_play_too = play;
  node_is = ap (λ (memory : Memory). record node { memory = memory }) (empty ∙ sym (ap (kept_memory floor) empty));
}

-- ---- opened

-- the first of two lists that are the same
first_same : (x y : List ℕ) (xs ys : List (List ℕ)) → x ∷ xs ≡ y ∷ ys → x ≡ y
first_same x y xs ys e = cc

module _ (config : Config) (who : NodeId) (old : Held) (b : BehindParts) (taken : IsTakenUp old b) (node : NodeParts)
    (is : IsOpened config who b.held node) where
  fronting : IsFronting b.floor node.held
  fronting = record {
    valid = taken.fronting.valid;
    beneath = taken.fronting.beneath;
    fronts_are = ap (λ (n : Nature). n.fronts) is.nature ∙ taken.fronting.fronts_are;
  }

  floor_is : floor_before node.held ≡ b.floor
  floor_is = floor_found b.floor node.held fronting

  pub sound_opened : IsFlooredSound b.floor node
  sound_opened = record {
    front = fronting_found b.floor node.held fronting;
    known_is = λ up. sym floor_is;
    config = _;
    state = _;
    is = record {
      from = _;
      few = _;
      is = is.stands;
      above = stands_itself _ node.who (floor_before node.held) _ is.stands.stands.played refl;
    };
  }

  pub opened_as : IsFlooredOpened config who old (with_floor node)
  opened_as = record {
    floor_is = floor_is ∙ taken.floor_is;
    opened = subst (λ (h : Held). IsOpened config who h node)
        (taken.held_is ∙ ap (λ (f : Option Place). behind (front_of f) old) (sym floor_is)) is;
  }

-- whatever a node isn't opened for, its record is by nature what it was
kept_nature : (config : Config) (who : NodeId) (old new : Held) (refusal : Refusal) → IsUnopened config who old new refusal
    → new.nature ≡ old.nature
kept_nature config who old new Refusal.NoSuch u = ap (λ (h : Held). h.nature) u.0
kept_nature config who old new Refusal.Damaged u = ap (λ (h : Held). h.nature) u.1
kept_nature config who old new Refusal.RecordFault u = u.1.nature
kept_nature config who old new Refusal.NoMemory u = u.1.nature
kept_nature config who old new other u = absurd u

-- a record behind a front that is another's too
pub same_front : (front : List ℕ) (new : Held) (left : BehindParts) (beneath : List (List ℕ)) → behind (front_of left.floor) new ≡ left.held
    → left.held.nature.fronts ≡ front ∷ beneath → front_of left.floor ≡ front
same_front front new left beneath held fronts =
    first_same (front_of left.floor) front new.nature.fronts beneath (ap (λ (h : Held). h.nature.fronts) held ∙ fronts)

pub unopened_as : (config : Config) (who : NodeId) (old : Held) (b left : BehindParts) (new : Held) (refusal : Refusal) → IsTakenUp old b
    → IsUnopened config who b.held left.held refusal → behind (front_of left.floor) new ≡ left.held
    → new.bytes ≡ front_of left.floor ++ left.held.bytes → IsFlooredUnopened config who old new refusal
unopened_as config who old b left new refusal taken u held bytes =
    let nature = kept_nature config who b.held left.held refusal u in
    let fronts : left.held.nature.fronts ≡ front_of b.floor ∷ old.nature.fronts =
    ap (λ (n : Nature). n.fronts) nature ∙ ap (λ (h : Held). h.nature.fronts) taken.held_is in
    let front : front_of left.floor ≡ front_of (floor_of old.bytes) =
    same_front (front_of b.floor) new left old.nature.fronts held fronts ∙ ap front_of taken.floor_is in
    let was : b.held ≡ behind (front_of (floor_of old.bytes)) old =
    taken.held_is ∙ ap (λ (f : Option Place). behind (front_of f) old) taken.floor_is in
    let is : left.held ≡ behind (front_of (floor_of old.bytes)) new = sym held ∙ ap (λ (xs : List ℕ). behind xs new) front in
    record {
      unopened = subst (λ (h : Held). IsUnopened config who (behind (front_of (floor_of old.bytes)) old) h refusal) is
          (subst (λ (h : Held). IsUnopened config who h left.held refusal) was u);
      begins = inr (record { rest = left.held.bytes; same = bytes ∙ ap (λ (xs : List ℕ). xs ++ left.held.bytes) front });
    }

-- ---- a tear

module _ (old new : NodeParts) (n : ℕ) (same : IsSameNode old new)
    (armed : (config : Config) (m : NodeState) → NodeStands config old m → NodeStands config new (record m { tear = Some n })) where
  pub armed_on : (config : Config) (m : NodeState) → FlooredStands config (with_floor old) m
      → FlooredStands config (with_floor new) (record m { tear = Some n })
  armed_on config m s = record {
    from = s.from;
    few = record s.few { tear = Some n };
    is = armed s.from s.few s.is;
    above =
        subst (λ (who : NodeId).
        StandsAbove s.from config who (floor_before new.held) (record s.few { tear = Some n }) (record m { tear = Some n }))
        (sym same.who_is)
        (subst (λ (f : Option Place). StandsAbove s.from config old.who f (record s.few { tear = Some n }) (record m { tear = Some n }))
        (sym (floor_same old.held new.held same.nature_is))
        (torn s.from config old.who (floor_before old.held) s.few m s.above (Some n)));
  }

  pub sound_armed : (known : Option Place) → new.role ≡ old.role → IsFlooredSound known old → IsFlooredSound known new
  sound_armed known role sound =
      sound_on known old new sound same (λ up. sym (ap is_some role) ∙ up) sound.config (record sound.state { tear = Some n })
      (armed_on sound.config sound.state sound.is)

pub armed_seen : (old new : NodeParts) (now : FlooredParts) (n : ℕ) → with_floor old ≡ now → IsSameNode old new
    → ((config : Config) (m : NodeState) → NodeStands config old m → NodeStands config new (record m { tear = Some n }))
    → (config : Config) (m : NodeState) → FlooredStands config now m → FlooredStands config (with_floor new) (record m { tear = Some n })
armed_seen old new now n is same armed =
    subst (λ (f : FlooredParts). (config : Config) (m : NodeState) → FlooredStands config f m
    → FlooredStands config (with_floor new) (record m { tear = Some n })) is (armed_on old new n same armed)
