-- A node with a floor is asked what its record says: it stays what it is, and says what the machine's node says that forgot nothing.
-- Needed by `Floored::own_floor`, `Floored::table` and `Floored::view_above`; Replacing.
use Rattle.std.proofs.Common.{◌≡◌, ◌∙◌, ◌⊎◌, inl, inr, true, false, List, Option, Some, None, is_none, is_some, refl, sym, ap, subst, ℕ}
use Rattle.std.specs.Prelude.{Result, Ok, Err}
use Rattle.xid.specs.Places.{Place, is_below}
use Rattle.xid.specs.Transactions.{TxParts}
use Rattle.xid.specs.declared.refusals.Refusal.{Refusal}
use Rattle.stable_record.specs.Held.{Held}
use Rattle.protocol.specs.declared.nodes.NodeId.{NodeId}
use Rattle.protocol.specs.declared.nodes.NodeId.TheVariants.{A, L, R}
use Rattle.protocol.specs.declared.requests.Request.TheVariants as requests
use Rattle.protocol.specs.declared.rows.Row.{Row}
use Rattle.protocol.specs.declared.states.View.{View}
use Rattle.protocol.specs.Effects.{Config, Effect}
use Rattle.protocol.specs.Nodes.{Asked, Memory, NodeState, empty_memory}
use Rattle.node_core.specs.declared.role.Role.{Role}
use Rattle.node_core.specs.Nodes.{IsSameNode, NodeParts, NodeStands, Stands}
use Rattle.node_core.specs.Viewing.{IsUnread, SaysTable, SaysView, TablesAs, ViewsAs}
use Rattle.forgetting.specs.Above.{StandsAbove}
use Rattle.forgetting.proofs.Effects.{manager_same}
use Rattle.node_core.specs.Raising.{LearnsFloor}
use Rattle.floored.specs.Nodes.{FlooredParts, FlooredStands, FlooredTables, FlooredViews, IsFlooredSound, LearnsOwn, SaysFlooredView}
use Rattle.floored.specs.Nodes.{floor_before, with_floor}
use Rattle.floored.proofs.Restarting.{read_nature, stopped_node, unread_sound}
use Rattle.floored.proofs.Standing.{floor_found, floor_same, sound_on, stands_on}

-- a node whose parts are all as they were
pub node_same : (old new : NodeParts) → IsSameNode old new → new.held ≡ old.held → new.role ≡ old.role → new ≡ old
node_same old new same held role = λ i. record {
  who = same.who_is i;
  sizes = same.sizes_are i;
  rows = same.rows_are i;
  held = held i;
  role = role i;
}

pub same_self : (node : NodeParts) → IsSameNode node node
same_self node = record { who_is = refl; sizes_are = refl; rows_are = refl; nature_is = refl }

-- ---- its floor is learned, where it is down

down_held : (old : NodeParts) (held : Held) → old.role ≡ None → stopped_node old held ≡ record old { held = held }
down_held old held down = ap (λ (r : Option Role). record old { held = held; role = r }) (sym down)

no_role : (role : Option Role) → is_none role ≡ true → role ≡ None
no_role None none = refl
no_role (Some role) none = absurd (cc (none))

pub learned_sound : (known : Option Place) (old new : NodeParts) (result : Result (Option Place) Refusal) → IsFlooredSound known old
    → is_none old.role ≡ true → LearnsFloor old new result → IsFlooredSound known new
learned_sound known old new (Ok floor) sound down (same, fronting) = subst (IsFlooredSound known) (sym same) sound
learned_sound known old new (Err refusal) sound down (error, is, h, same) =
    subst (IsFlooredSound known) (down_held old new.held (no_role old.role down) ∙ sym same)
    (unread_sound known old new.held error refusal is h sound)

pub learned_own : (old new : NodeParts) (now : FlooredParts) → with_floor old ≡ now → (result : Result (Option Place) Refusal)
    → is_none now.node.role ≡ true → LearnsFloor old new result → LearnsOwn now (with_floor new) result
learned_own old new now is result down learned =
    subst (λ (f : FlooredParts). LearnsOwn f (with_floor new) result) is
    (by result (no_role old.role (ap (λ (f : FlooredParts). is_none f.node.role) is ∙ down)) learned)
  where
    by : (r : Result (Option Place) Refusal) → old.role ≡ None → LearnsFloor old new r → LearnsOwn (with_floor old) (with_floor new) r
    by (Ok floor) none (same, fronting) = (sym (floor_found floor old.held fronting), ap with_floor same)
    by (Err refusal) none (error, is, h, same) =
        (none, floor_same old.held new.held (read_nature old.held new.held error h), same, (error, is, h))

-- ---- what is said by few facts is said by all

module _ (from config : Config) (floor : Option Place) (few m : NodeState) where
  view_alike : (who : NodeId) → StandsAbove from config who floor few m → (tx : TxParts) (result : Result View Refusal)
      → (is_below floor tx ≡ false) → SaysView from who few.facts tx result → SaysView config who m.facts tx result
  view_alike (A a) above tx result high says = says
  view_alike (L l) above tx result high says = says
  view_alike (R rm) above tx result high says =
      says
      ∙ ap (λ (e : Effect Memory). e.answer)
      (manager_same floor few.facts m.facts from config rm above.alike above.says above.rows_are empty_memory (Asked (requests.View tx))
      high)

  table_alike : (who : NodeId) → StandsAbove from config who floor few m → (result : Result (List Row) Refusal)
      → SaysTable from who few.facts result → SaysTable config who m.facts result
  table_alike (A a) above result says = says
  table_alike (L l) above result says = says
  table_alike (R rm) above (Ok rows) says = says ∙ above.rows_are
  table_alike (R rm) above (Err refusal) says = says

-- ---- asked for a view

module _ (old : NodeParts) (tx : TxParts) where
  pub viewed : (new : NodeParts) (result : Result View Refusal)
      → ((config : Config) (m : NodeState) → NodeStands config old m → ViewsAs config m old new tx result)
      → (rm : _) → old.who ≡ R rm → is_below (floor_before old.held) tx ≡ false → (config : Config) (m : NodeState)
      → FlooredStands config (with_floor old) m → FlooredViews config m (with_floor old) (with_floor new) tx result
  viewed new result views rm is high config m s =
      let v = views s.from s.few s.is in
      record {
        floor_is = floor_same old.held new.held v.same.nature_is;
        same = v.same;
        role_is = v.role_is;
        stands = stands_on config old new m s v.same s.few m
            (subst (λ (r : Option Role). Stands s.from old.who old.rows new.held r s.few) (sym v.role_is) v.views.stands) s.above;
        says = by v.same v.role_is v.views.says;
      }
    where
      by : IsSameNode old new → new.role ≡ old.role
          → ((new.held ≡ old.held) × SaysView s.from old.who s.few.facts tx result) ⊎ IsUnread old.held new.held old.role result
          → ((with_floor new ≡ with_floor old) × SaysFlooredView config old.who (floor_before old.held) m.facts tx result)
          ⊎ IsUnread old.held new.held old.role result
      by same role (inl kept) = inl (
        ap with_floor (node_same old new same kept.0 role),
        subst (λ (w : NodeId). SaysFlooredView config w (floor_before old.held) m.facts tx result) (sym is) (
          λ low. absurd (cc (low, high)),
          λ above. subst (λ (w : NodeId). SaysView config w m.facts tx result) is
              (view_alike s.from config (floor_before old.held) s.few m old.who s.above tx result high kept.1),
        ),
      )
      by same role (inr unread) = inr unread

-- the same of a node as its callers see it
pub viewed_seen : (old : NodeParts) (now : FlooredParts) → with_floor old ≡ now → (tx : TxParts) (new : NodeParts)
    (result : Result View Refusal)
    → ((config : Config) (m : NodeState) → NodeStands config old m → ViewsAs config m old new tx result)
    → is_below now.floor tx ≡ false → (rm : ℕ) → now.node.who ≡ R rm → (config : Config) (m : NodeState) → FlooredStands config now m
    → FlooredViews config m now (with_floor new) tx result
viewed_seen old now is tx new result views =
    subst (λ (f : FlooredParts). is_below f.floor tx ≡ false → (rm : ℕ) → f.node.who ≡ R rm → (config : Config) (m : NodeState)
    → FlooredStands config f m → FlooredViews config m f (with_floor new) tx result) is
    (λ high rm who. viewed old tx new result views rm who high)

pub viewed_sound : (known : Option Place) (old new : NodeParts) (tx : TxParts) (result : Result View Refusal) → IsFlooredSound known old
    → ((config : Config) (m : NodeState) → NodeStands config old m → ViewsAs config m old new tx result) → IsFlooredSound known new
viewed_sound known old new tx result sound views =
    let s = sound.is in
    let v = views s.from s.few s.is in
    sound_on known old new sound v.same (subst (λ (r : Option Role). is_some r ≡ true) v.role_is) sound.config sound.state
    (stands_on sound.config old new sound.state s v.same s.few sound.state
    (subst (λ (r : Option Role). Stands s.from old.who old.rows new.held r s.few) (sym v.role_is) v.views.stands) s.above)

-- ---- asked for its table

pub tabled_sound : (known : Option Place) (old new : NodeParts) (result : Result (List Row) Refusal) → IsFlooredSound known old
    → ((config : Config) (m : NodeState) → NodeStands config old m → TablesAs config m old new result) → IsFlooredSound known new
tabled_sound known old new result sound tables =
    let s = sound.is in
    let t = tables s.from s.few s.is in
    sound_on known old new sound t.same (subst (λ (r : Option Role). is_some r ≡ true) t.role_is) sound.config sound.state
    (stands_on sound.config old new sound.state s t.same s.few sound.state
    (subst (λ (r : Option Role). Stands s.from old.who old.rows new.held r s.few) (sym t.role_is) t.tables.stands) s.above)

pub tabled : (old new : NodeParts) (result : Result (List Row) Refusal)
    → ((config : Config) (m : NodeState) → NodeStands config old m → TablesAs config m old new result)
    → (config : Config) (m : NodeState) → FlooredStands config (with_floor old) m
    → FlooredTables config m (with_floor old) (with_floor new) result
tabled old new result tables config m s =
    let t = tables s.from s.few s.is in
    record {
      floor_is = floor_same old.held new.held t.same.nature_is;
      same = t.same;
      role_is = t.role_is;
      stands = stands_on config old new m s t.same s.few m
          (subst (λ (r : Option Role). Stands s.from old.who old.rows new.held r s.few) (sym t.role_is) t.tables.stands) s.above;
      says = by t.same t.role_is t.tables.says;
    }
  where
    by : IsSameNode old new → new.role ≡ old.role
        → ((new.held ≡ old.held) × SaysTable s.from old.who s.few.facts result) ⊎ IsUnread old.held new.held old.role result
        → ((with_floor new ≡ with_floor old) × SaysTable config old.who m.facts result) ⊎ IsUnread old.held new.held old.role result
    by same role (inl kept) = inl (
      ap with_floor (node_same old new same kept.0 role),
      table_alike s.from config (floor_before old.held) s.few m old.who s.above result kept.1,
    )
    by same role (inr unread) = inr unread

-- the same of a node as its callers see it
pub tabled_seen : (old : NodeParts) (now : FlooredParts) → with_floor old ≡ now → (new : NodeParts) (result : Result (List Row) Refusal)
    → ((config : Config) (m : NodeState) → NodeStands config old m → TablesAs config m old new result)
    → (config : Config) (m : NodeState) → FlooredStands config now m → FlooredTables config m now (with_floor new) result
tabled_seen old now is new result tables =
    subst (λ (f : FlooredParts). (config : Config) (m : NodeState) → FlooredStands config f m
    → FlooredTables config m f (with_floor new) result) is (tabled old new result tables)
