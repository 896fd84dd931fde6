-- What is left of a node where its floor rises stands above that place for the node.
use Rattle.std.proofs.Common.{◌≡◌, ◌∙◌, ℕ, true, false, not, ◌&&◌, List, [], Option, Some, None, refl, sym, ap, subst}
use Rattle.std.specs.List.{list_all}
use Rattle.std.proofs.lemmas.Bool.{not-true, not_from_false}
use Rattle.xid.specs.Transactions.{TxParts}
use Rattle.wire.specs.Messages.{message_tx}
use Rattle.protocol.specs.Basics.{Fact}
use Rattle.protocol.specs.declared.states.View.TheVariants as views
use Rattle.safety.specs.Vocabulary.{NodeId, A, L, R}
use Rattle.protocol.specs.Effects.{Config}
use Rattle.protocol.specs.Facts.{view}
use Rattle.protocol.specs.Nodes.{NodeState, Memory, all_play}
use Rattle.xid.specs.Places.{Place, tx_place, is_lower, is_below, is_xid_below, xid_place}
use Rattle.protocol.specs.Kept.{kept_facts, kept_memory}
use Rattle.floors.specs.Nodes.{is_free_below}
use Rattle.xid.proofs.Places.{not_lower}
use Rattle.protocol.proofs.Kept.Playing.{all_play_kept}
use Rattle.protocol.proofs.Kept.Facts.{free_prepared, last_ballot_kept, slot_kept, spent_kept}
use Rattle.resource_manager.specs.Left.{HasFirstRows, left_facts, left_node, manager_left, rows_of, AreAlike}
use Rattle.forgetting.specs.Above.{ManagerSays, Says, StandsAbove}
use Rattle.resource_manager.proofs.Above.{bound_same, rows_same, stored_kept}
use Rattle.resource_manager.proofs.Leaving.{all_play_left, spent_left, stored_left}
use Rattle.forgetting.proofs.Lists.{filter_all, filter_under}

-- ---- without a floor

pub says_itself : (who : NodeId) (floor : Option Place) (facts : List Fact) → Says who floor facts facts
says_itself (A a) floor facts = λ tx above. refl
says_itself (L l) floor facts = λ tx above. refl
says_itself (R rm) floor facts = record { stored_are = λ tx above. refl; spent_are = λ x above. refl; bound_are = refl }

pub alike_itself : (who : NodeId) (config : Config) → AreAlike who config config
alike_itself (A a) config = refl
alike_itself (L l) config = refl
alike_itself (R rm) config = refl

kept_whole : (memory : Memory) → kept_memory None memory ≡ memory
kept_whole memory = λ k. record memory {
  leader = record {
    heard = filter_all (λ message. not (is_below None (message_tx message))) memory.leader.heard (λ message. refl) k;
    begun = filter_all (λ begun. not (is_below None begun.tx)) memory.leader.begun (λ begun. refl) k;
    proposed = filter_all (λ message. not (is_below None (message_tx message))) memory.leader.proposed (λ message. refl) k;
    met = filter_all (λ tx. not (is_below None tx)) memory.leader.met (λ tx. refl) k;
  };
}

pub stands_whole : (config : Config) (who : NodeId) (node : NodeState) → all_play config who [] node.facts ≡ true
    → StandsAbove config config who None node node
stands_whole config who node play = record {
  alike = alike_itself who config;
  says = says_itself who None node.facts;
  rows_are = refl;
  few_play = play;
  all_play_too = play;
  node_is = ap (λ (memory : Memory). record node { memory = memory }) (sym (kept_whole node.memory));
}

-- ---- a floor that rises

module _ (floor : Option Place) (place : Place) (up : is_lower (Some place) floor ≡ false) where
  -- what isn't below the place isn't below the floor
  pub higher_still : (x : Place) → is_lower (Some x) (Some place) ≡ false → is_lower (Some x) floor ≡ false
  higher_still x high = not_lower floor (Some place) (Some x) up high

  kept_still : (x : Place) → not (is_lower (Some x) (Some place)) ≡ true → not (is_lower (Some x) floor) ≡ true
  kept_still x kept = not_from_false (is_lower (Some x) floor) (higher_still x (not-true (is_lower (Some x) (Some place)) kept))

  -- what is kept of a memory above the place is kept of what is kept above the floor
  kept_twice : (memory : Memory) → kept_memory (Some place) (kept_memory floor memory) ≡ kept_memory (Some place) memory
  kept_twice memory = λ k. record memory {
    leader = record {
      heard =
          (sym (filter_under (λ message. not (is_below floor (message_tx message)))
          (λ message. not (is_below (Some place) (message_tx message)))
          memory.leader.heard (λ message h kept. kept_still (tx_place (message_tx message)) kept))) k;
      begun = (sym (filter_under (λ begun. not (is_below floor begun.tx)) (λ begun. not (is_below (Some place) begun.tx))
          memory.leader.begun (λ begun h kept. kept_still (tx_place begun.tx) kept))) k;
      proposed =
          (sym (filter_under (λ message. not (is_below floor (message_tx message)))
          (λ message. not (is_below (Some place) (message_tx message)))
          memory.leader.proposed (λ message h kept. kept_still (tx_place (message_tx message)) kept))) k;
      met = (sym (filter_under (λ tx. not (is_below floor tx)) (λ tx. not (is_below (Some place) tx))
          memory.leader.met (λ tx h kept. kept_still (tx_place tx) kept))) k;
    };
  }

  -- ---- a resource manager

  module _ (rm : ℕ) (few : List Fact) (free : (tx : TxParts) → view few tx ≡ views.Prepared → is_below (Some place) tx ≡ false) where
    left_says : (all : List Fact) → ManagerSays rm floor few all → ManagerSays rm (Some place) (manager_left (Some place) few) all
    left_says all says = record {
      stored_are = λ tx high.
          stored_left few (kept_facts (Some place) few) tx ∙ stored_kept place few tx high
          ∙ says.stored_are tx (higher_still (tx_place tx) high);
      spent_are = λ x high.
          spent_left few rm (kept_facts (Some place) few) x ∙ spent_kept (Some place) rm x high few
          ∙ says.spent_are x (higher_still (xid_place x) high);
      bound_are = bound_same place few free ∙ says.bound_are;
    }

module _ (from config next : Config) (floor : Option Place) (place : Place) (few all : NodeState)
    (up : is_lower (Some place) floor ≡ false) where
  left_all : (who : NodeId) → StandsAbove from config who floor few all → ((rm : ℕ) → who ≡ R rm → is_free_below place few ≡ true)
      → Says who (Some place) (left_facts who (Some place) few.facts) all.facts
  left_all (A a) stands free = λ tx high.
      slot_kept (Some place) tx high few.facts ∙ stands.says tx (higher_still floor place up (tx_place tx) high)
  left_all (L l) stands free = λ tx high.
      last_ballot_kept (Some place) tx high few.facts ∙ stands.says tx (higher_still floor place up (tx_place tx) high)
  left_all (R rm) stands free =
      left_says floor place up rm few.facts (free_prepared place few.facts few.memory.branches (free rm refl)) all.facts stands.says

  rows_all : (who : NodeId) → StandsAbove from config who floor few all → ((rm : ℕ) → who ≡ R rm → is_free_below place few ≡ true)
      → HasFirstRows next who (rows_of from who few.facts)
      → rows_of next who (left_facts who (Some place) few.facts) ≡ rows_of config who all.facts
  rows_all (A a) stands free begins = refl
  rows_all (L l) stands free begins = refl
  rows_all (R rm) stands free begins =
      rows_same place few.facts from next rm begins ∙ stands.rows_are

  play_all : (who : NodeId) → StandsAbove from config who floor few all → AreAlike who next config
      → all_play next who [] (left_facts who (Some place) few.facts) ≡ true
  play_all (A a) stands alike =
      subst (λ (c : Config). all_play c (A a) [] (kept_facts (Some place) few.facts) ≡ true) (stands.alike ∙ sym alike)
      (all_play_kept (Some place) from (A a) [] few.facts stands.few_play)
  play_all (L l) stands alike =
      subst (λ (c : Config). all_play c (L l) [] (kept_facts (Some place) few.facts) ≡ true) (stands.alike ∙ sym alike)
      (all_play_kept (Some place) from (L l) [] few.facts stands.few_play)
  play_all (R rm) stands alike =
      all_play_left few.facts rm from next [] (kept_facts (Some place) few.facts)
      (all_play_kept (Some place) from (R rm) [] few.facts stands.few_play)

  pub left_stands : (who : NodeId) → StandsAbove from config who floor few all
      → ((rm : ℕ) → who ≡ R rm → is_free_below place few ≡ true) → AreAlike who next config
      → HasFirstRows next who (rows_of from who few.facts) → StandsAbove next config who (Some place) (left_node who (Some place) few) all
  left_stands who stands free alike begins = record {
    alike = alike;
    says = left_all who stands free;
    rows_are = rows_all who stands free begins;
    few_play = play_all who stands alike;
    all_play_too = stands.all_play_too;
    node_is =
        ap (λ (node : NodeState).
        record node { facts = left_facts who (Some place) few.facts; memory = kept_memory (Some place) node.memory }) stands.node_is
        ∙ ap (λ (memory : Memory). record all { facts = left_facts who (Some place) few.facts; memory = memory })
        (kept_twice floor place up all.memory);
  }

-- it is free below a place by few facts where it is by all
pub same_free : (from config : Config) (rm : ℕ) (floor : Option Place) (place : Place) (few all : NodeState)
    → StandsAbove from config (R rm) floor few all → is_free_below place few ≡ is_free_below place all
same_free from config rm floor place few all stands = λ k.
    list_all (λ bound. not (is_below (Some place) bound.tx)) (stands.says.bound_are k)
    && list_all (λ branch. not (is_xid_below (Some place) branch.xid)) (stands.node_is k).memory.branches
