-- What is read of a record that is left as it is.
-- Needed by 10 functions of this crate.
use Rattle.std.proofs.Common.{◌≡◌, ◌∙◌, ℕ, Bool, List, Option, Some, None, inl, inr, refl, sym, ap, subst}
use Rattle.std.specs.Prelude.{◌⊎◌, Result, Ok, Err, drop}
use Rattle.std.specs.List.{list_all}
use Rattle.xid.specs.Places.{Place, is_below}
use Rattle.xid.specs.Transactions.{TxParts}
use Rattle.xid.specs.declared.refusals.Refusal.{Refusal}
use Rattle.stable_record.specs.declared.fact.FactKind.{FactKind as Fact}
use Rattle.stable_record.specs.Facts.{fact_tx}
use Rattle.stable_record.specs.Held.{Held, armed_with}
use Rattle.protocol.specs.declared.nodes.NodeId.{NodeId}
use Rattle.protocol.specs.declared.nodes.NodeId.TheVariants.{A, L, R}
use Rattle.protocol.specs.declared.rows.Row.{Row}
use Rattle.protocol.specs.declared.states.View.{View}
use Rattle.protocol.specs.Effects.{Config}
use Rattle.protocol.specs.LeaderMemory.{LeaderMemory}
use Rattle.protocol.specs.Managers.{Branch, on_view_call, stored_votes}
use Rattle.protocol.specs.Nodes.{NodeState, Memory, empty_memory}
use Rattle.leader.specs.Leaders as of_leader
use Rattle.leader.specs.Leaders.{LeaderParts}
use Rattle.resource_manager.specs.Managers as of_manager
use Rattle.resource_manager.specs.Managers.{ManagerParts, view_answer}
use Rattle.node_core.specs.declared.config.Sizes.{Sizes}
use Rattle.node_core.specs.declared.role.Role.{Role}
use Rattle.node_core.specs.Roles.{RoleStands}
use Rattle.node_core.specs.Nodes.{AreSizes, Keeps, Stands, NodeParts, NodeStands, IsSameNode, IsSound}
use Rattle.node_core.specs.Opening.{IsBad, IsRecordRead, Reads}
use Rattle.node_core.specs.Viewing.{Peeks, SaysView, SaysTable, IsUnread, Views, Tables, ViewsAs, TablesAs}
use Rattle.node_core.specs.Viewing.{AsksUnused, AsksUnusedAs, TellsUnused}
use Rattle.node_core.proofs.Loading.{either_same}
use Rattle.node_core.proofs.Restarting.{same_role}

-- ---- what a role says

abbrev pub SaysAll : Role → TxParts → Result View Refusal → Type 0
SaysAll role tx result =
    (config : Config) (who : NodeId) (facts : List Fact) (memory : Memory) → RoleStands config who role facts memory
    → SaysView config who facts tx result

abbrev pub TablesAll : Role → Result (List Row) Refusal → Type 0
TablesAll role result =
    (config : Config) (who : NodeId) (facts : List Fact) (memory : Memory) → RoleStands config who role facts memory
    → SaysTable config who facts result

-- a resource manager that says where it stands in a transaction, or in one that is the same, says so as a role
pub manager_says : (p : ManagerParts) (tx same : TxParts) (result : Result View Refusal) → same ≡ tx
    → ((config : Config) (number : ℕ) (facts : List Fact) (branches : List Branch) → of_manager.StandsFor config number p facts branches
    → view_answer result ≡ (on_view_call config number (stored_votes number facts) branches same).answer)
    → SaysAll (Role.Manager p) tx result
manager_says p tx same result is h config (A a) facts memory s = absurd s
manager_says p tx same result is h config (L l) facts memory s = absurd s
manager_says p tx same result is h config (R rm) facts memory s =
    subst (λ (t : TxParts). SaysView config (R rm) facts t result) is (h config rm facts memory.branches s)

-- a leader that says of its facts whether none is about a name at or above a place says so as a role
pub leader_tells : (place : Place) (p : LeaderParts) (unused : Bool)
    → ((config : Config) (number : ℕ) (facts : List Fact) (memory : LeaderMemory) → of_leader.StandsFor config number p facts memory
    → unused ≡ list_all (λ fact. is_below (Some place) (fact_tx fact)) facts) → TellsUnused place (Role.Leader p) unused
leader_tells place p unused says config (A a) facts memory stands = absurd stands
leader_tells place p unused says config (L l) facts memory stands = says config l facts memory.leader stands
leader_tells place p unused says config (R rm) facts memory stands = absurd stands

-- ---- what is read of a record

-- a look that left the record as it was and read a role
pub peeked : (config : Config) (who : NodeId) (own : List Row) (old new : Held) (role : Role) (len : ℕ) (bytes : List ℕ)
    → bytes ≡ old.bytes → new ≡ old → Reads config who own bytes (Ok (role, len)) → Peeks config who own old new (Ok role)
peeked config who own old new role len bytes bytes_are same h =
    let p : IsRecordRead config who own old.bytes role len = subst (λ bs. IsRecordRead config who own bs role len) bytes_are h in
    record { kept = p.kept; tail = drop len old.bytes; held = p.holds; same = same; stands = p.stands }

-- a look that left it as it was and was refused
pub unpeeked : (config : Config) (who : NodeId) (own : List Row) (old new : Held) (bytes : List ℕ) (e : Refusal) → bytes ≡ old.bytes
    → new ≡ old → Reads config who own bytes (Err e) → Peeks config who own old new (Err e)
unpeeked config who own old new bytes Refusal.Damaged is same h = (same, subst (IsBad config who) is h)
unpeeked config who own old new bytes Refusal.NoMemory is same h = same
unpeeked config who own old new bytes other is same h = absurd h

module _ (config : Config) (who : NodeId) (own : List Row) (m : NodeState) (old new : Held) (role : Option Role)
    (s : Stands config who own old role m) where
  -- what a role says that stands for the machine's facts
  abbrev pub Standing : Role → Type 0
  Standing r = (memory : Memory) × RoleStands config who r m.facts memory

  -- the role of a node that is up stands for its memory
  pub up_stands : (up : Role) → role ≡ Some up → Standing up
  up_stands up is =
      let t : Stands config who own old (Some up) m = subst (λ r. Stands config who own old r m) is s in
      (m.memory, t.role_is.2)

  -- so does the role that was read of a node that is down
  pub down_stands : (read : Role) → Peeks config who own old new (Ok read) → Standing read
  down_stands read p = (empty_memory, same_role config who own m old role s read p.kept p.tail p.held p.stands)

  stays : new ≡ old → Stands config who own new role m
  stays is = subst (λ (h : Held). Stands config who own h role m) (sym is) s

  -- what such a role says of a transaction is the node's view of it
  pub says_view : (r : Role) (tx : TxParts) (result : Result View Refusal) → new ≡ old → Standing r → SaysAll r tx result
      → Views config who own m old new role tx result
  says_view r tx result is t h = record { stands = stays is; says = inl (is, h config who m.facts t.0 t.1) }

  -- its rows are the node's table
  pub says_table : (r : Role) (result : Result (List Row) Refusal) → new ≡ old → Standing r → TablesAll r result
      → Tables config who own m old new role result
  says_table r result is t h = record { stands = stays is; says = inl (is, h config who m.facts t.0 t.1) }

  -- what it tells of a place is what the node is asked
  pub says_unused : (r : Role) (place : Place) (unused : Bool) → new ≡ old → Standing r → TellsUnused place r unused
      → AsksUnused config who own m old new role place (Ok unused)
  says_unused r place unused is t h = record { stands = stays is; says = inl (is, ap Ok (h config who m.facts t.0 t.1)) }

  -- where it isn't read
  pub record Unread (X : Type 0) (e : Refusal) : Type 0 where
    pub stands : Stands config who own new role m
    pub is : IsUnread {X = X} old new role (Err e)

  pub unread : (X : Type 0) → role ≡ None → (e : Refusal) → Peeks config who own old new (Err e) → Unread X e
  unread X none Refusal.Damaged p = absurd (p.1 s.keeps.kept s.tail s.keeps.holds)
  unread X none Refusal.RecordFault p =
      let t : Stands config who own old None m = subst (λ r. Stands config who own old r m) none s in
      let same : old.bytes ≡ new.bytes = sym (either_same new.bytes old.bytes p.bytes) in
      record {
        stands = subst (λ r. Stands config who own new r m) (sym none) (record {
          tail = s.tail;
          keeps = subst (λ (bytes : List ℕ). Keeps config who own bytes m.facts s.tail) same s.keeps;
          played = s.played;
          role_is = t.role_is;
          tear_is = s.tear_is ∙ sym p.armed;
        });
        is = (none, inl (refl, p));
      }
  unread X none Refusal.NoMemory p = record { stands = stays p; is = (none, inr (refl, p)) }
  unread X none other p = absurd p

  -- a view that could not be read is refused
  pub unread_view : (tx : TxParts) → role ≡ None → (e : Refusal) → Peeks config who own old new (Err e)
      → Views config who own m old new role tx (Err e)
  unread_view tx none e p = let u = unread View none e p in record { stands = u.stands; says = inr u.is }

  -- so is a table
  pub unread_table : role ≡ None → (e : Refusal) → Peeks config who own old new (Err e) → Tables config who own m old new role (Err e)
  unread_table none e p = let u = unread (List Row) none e p in record { stands = u.stands; says = inr u.is }

  -- and what is asked of a place
  pub unread_unused : (place : Place) → role ≡ None → (e : Refusal) → Peeks config who own old new (Err e)
      → AsksUnused config who own m old new role place (Err e)
  unread_unused place none e p = let u = unread Bool none e p in record { stands = u.stands; says = inr u.is }

-- ---- the whole node

module _ (node : NodeParts) (held : Held) where
  abbrev with_held : NodeParts
  with_held = record { who = node.who; sizes = node.sizes; rows = node.rows; held = held; role = node.role }

  -- a node that stands for the same node of the machine
  pub sound_still : IsSound node
      → ((config : Config) (m : NodeState) → AreSizes config node.sizes → Stands config node.who node.rows node.held node.role m
      → Stands config node.who node.rows held node.role m) → IsSound with_held
  sound_still sound still = record {
    sized = sound.sized;
    among = sound.among;
    short = sound.short;
    config = sound.config;
    state = sound.state;
    is = record {
      sizes_are = sound.is.sizes_are;
      stands = still sound.config sound.state sound.is.sizes_are sound.is.stands;
    };
  }

  same_with : held.nature ≡ node.held.nature → IsSameNode node with_held
  same_with is = record { who_is = refl; sizes_are = refl; rows_are = refl; nature_is = is }

  -- whether the record may fail of itself stays
  said_nature : (X P : Type 0) (result : Result X Refusal) → ((held ≡ node.held) × P) ⊎ IsUnread node.held held node.role result
      → held.nature ≡ node.held.nature
  said_nature X P result (inl is) = ap (λ (r : Held). r.nature) is.0
  said_nature X P result (inr (none, inl is)) = is.1.nature
  said_nature X P result (inr (none, inr is)) = ap (λ (r : Held). r.nature) is.1

  -- a view of the parts is a view of the node
  pub views_as : (config : Config) (m : NodeState) (tx : TxParts) (result : Result View Refusal)
      → Views config node.who node.rows m node.held held node.role tx result → ViewsAs config m node with_held tx result
  views_as config m tx result v = record { same = same_with (said_nature View _ result v.says); role_is = refl; views = v }

  -- so is a table
  pub tables_as : (config : Config) (m : NodeState) (result : Result (List Row) Refusal)
      → Tables config node.who node.rows m node.held held node.role result → TablesAs config m node with_held result
  tables_as config m result v = record { same = same_with (said_nature (List Row) _ result v.says); role_is = refl; tables = v }

  -- and what is asked of a place
  pub unused_as : (config : Config) (m : NodeState) (place : Place) (result : Result Bool Refusal)
      → AsksUnused config node.who node.rows m node.held held node.role place result → AsksUnusedAs config m node with_held place result
  unused_as config m place result a = record { same = same_with (said_nature Bool _ result a.says); role_is = refl; asks = a }

-- a tear that is armed
pub armed_stands : (config : Config) (who : NodeId) (own : List Row) (m : NodeState) (old new : Held) (role : Option Role) (n : ℕ)
    → new ≡ armed_with (Some n) old → Stands config who own old role m → Stands config who own new role (record m { tear = Some n })
armed_stands config who own m old new role n is s =
    subst (λ h. Stands config who own h role (record m { tear = Some n })) (sym is) (armed role s)
  where
    armed : (r : Option Role) → Stands config who own old r m
        → Stands config who own (armed_with (Some n) old) r (record m { tear = Some n })
    armed None t = record { tail = t.tail; keeps = t.keeps; played = t.played; role_is = t.role_is; tear_is = refl }
    armed (Some up) t = record { tail = t.tail; keeps = t.keeps; played = t.played; role_is = t.role_is; tear_is = refl }

-- a sound node is sound once a fault was armed
pub sound_armed : (node : NodeParts) (held : Held) (n : ℕ) → held ≡ armed_with (Some n) node.held → IsSound node
    → IsSound (with_held node held)
sound_armed node held n is sound = record {
  sized = sound.sized;
  among = sound.among;
  short = sound.short;
  config = sound.config;
  state = record sound.state { tear = Some n };
  is = record {
    sizes_are = sound.is.sizes_are;
    stands = armed_stands sound.config node.who node.rows sound.state node.held held node.role n is sound.is.stands;
  };
}

-- the same of the node as it is seen
pub views_from : (inside old new : NodeParts) (tx : TxParts) (result : Result View Refusal) → inside ≡ old
    → ((config : Config) (m : NodeState) → NodeStands config inside m → ViewsAs config m inside new tx result)
    → (config : Config) (m : NodeState) → NodeStands config old m → ViewsAs config m old new tx result
views_from inside old new tx result is h config m s =
    subst (λ o. ViewsAs config m o new tx result) is (h config m (subst (λ o. NodeStands config o m) (sym is) s))

-- a table of a node is one of an equal node
pub tables_from : (inside old new : NodeParts) (result : Result (List Row) Refusal) → inside ≡ old
    → ((config : Config) (m : NodeState) → NodeStands config inside m → TablesAs config m inside new result)
    → (config : Config) (m : NodeState) → NodeStands config old m → TablesAs config m old new result
tables_from inside old new result is h config m s =
    subst (λ o. TablesAs config m o new result) is (h config m (subst (λ o. NodeStands config o m) (sym is) s))

-- so is what is asked of a place
pub unused_from : (inside old new : NodeParts) (place : Place) (result : Result Bool Refusal) → inside ≡ old
    → ((config : Config) (m : NodeState) → NodeStands config inside m → AsksUnusedAs config m inside new place result)
    → (config : Config) (m : NodeState) → NodeStands config old m → AsksUnusedAs config m old new place result
unused_from inside old new place result is h config m s =
    subst (λ o. AsksUnusedAs config m o new place result) is (h config m (subst (λ o. NodeStands config o m) (sym is) s))

-- the same of rows under another name
pub views_over : (sizes : Sizes) (who : NodeId) (own rows : List Row) (old new : Held) (role : Option Role) (tx : TxParts)
    (result : Result View Refusal) → own ≡ rows
    → ((config : Config) (m : NodeState) → AreSizes config sizes → Stands config who own old role m
    → Views config who own m old new role tx result)
    → (config : Config) (m : NodeState) → AreSizes config sizes → Stands config who rows old role m
    → Views config who rows m old new role tx result
views_over sizes who own rows old new role tx result is h =
    subst (λ r. (config : Config) (m : NodeState) → AreSizes config sizes → Stands config who r old role m
    → Views config who r m old new role tx result) is h

-- a table over some rows is one over equal rows
pub tables_over : (sizes : Sizes) (who : NodeId) (own rows : List Row) (old new : Held) (role : Option Role)
    (result : Result (List Row) Refusal) → own ≡ rows
    → ((config : Config) (m : NodeState) → AreSizes config sizes → Stands config who own old role m
    → Tables config who own m old new role result)
    → (config : Config) (m : NodeState) → AreSizes config sizes → Stands config who rows old role m
    → Tables config who rows m old new role result
tables_over sizes who own rows old new role result is h =
    subst (λ r. (config : Config) (m : NodeState) → AreSizes config sizes → Stands config who r old role m
    → Tables config who r m old new role result) is h

-- so is what is asked of a place
pub unused_over : (sizes : Sizes) (who : NodeId) (own rows : List Row) (old new : Held) (role : Option Role) (place : Place)
    (result : Result Bool Refusal) → own ≡ rows
    → ((config : Config) (m : NodeState) → AreSizes config sizes → Stands config who own old role m
    → AsksUnused config who own m old new role place result)
    → (config : Config) (m : NodeState) → AreSizes config sizes → Stands config who rows old role m
    → AsksUnused config who rows m old new role place result
unused_over sizes who own rows old new role place result is h =
    subst (λ r. (config : Config) (m : NodeState) → AreSizes config sizes → Stands config who r old role m
    → AsksUnused config who r m old new role place result) is h
