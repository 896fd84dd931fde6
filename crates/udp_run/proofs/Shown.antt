-- Tables of nodes, one after another.
use Rattle.std.proofs.Common.{◌≡◌, ◌∙◌, ◌⊎◌, inl, inr, ℕ, ◌+◌, ◌<◌, ◌≤◌, Bool, true, false, List, [], ◌∷◌, ◌++◌, length, get_or, set, take}
use Rattle.std.proofs.Common.{drop, refl, sym, ap, subst, Result, Err, arith}
use Rattle.std.specs.Prelude.{cond}
use Rattle.std.specs.List.{AllZip, filter}
use Rattle.std.proofs.lemmas.List.{append-nil, take_more, take_all, drop_more, get_or-drop, drop-set-lt, length-set}
use Rattle.std.proofs.lemmas.List.Elements.{filter-append}
use Rattle.xid.specs.declared.refusals.Refusal.{Refusal}
use Rattle.xid.specs.declared.refusals.Refusal.TheVariants as refusals
use Rattle.stable_record.specs.Held.{Held}
use Rattle.protocol.specs.declared.nodes.NodeId.{NodeId}
use Rattle.protocol.specs.declared.nodes.NodeId.TheVariants as nodes
use Rattle.protocol.specs.declared.rows.Row.{Row}
use Rattle.protocol.specs.Effects.{Config}
use Rattle.protocol.specs.Nodes.{NodeState}
use Rattle.stable_record.specs.declared.fact.FactKind.{FactKind as Fact}
use Rattle.node_core.specs.declared.config.Sizes.{Sizes}
use Rattle.node_core.specs.Viewing.{SaysTable, IsUnread}
use Rattle.floors.specs.Worlds.{is_manager}
use Rattle.floored.specs.Nodes.{FlooredParts, FlooredStands, FlooredTables}
use Rattle.port.specs.Members.{IsMember, MemberParts}
use Rattle.udp_run.specs.NodeTables.{IsTableOf, ShowsTable, AreTablesOf, IsUnshown, StopsAtTable}

-- ---- one node

-- what a call of a node's table says
abbrev pub Tabled : (old new : MemberParts) → Result (List Row) Refusal → Type 0
Tabled old new result =
    (config : Config) (m : NodeState) → FlooredStands config old.floored m → FlooredTables config m old.floored new.floored result

-- why a node's table isn't told
abbrev pub IsUntold : MemberParts → Refusal → Type 0
IsUntold node e = (e ≡ refusals.NoMemory) ⊎ ((e ≡ refusals.RecordFault) × IsUnshown node)

unread_refusal : (node : MemberParts) (new : Held) (e : Refusal) → is_manager node.floored.node.who ≡ true
    → IsUnread {X = List Row} node.floored.node.held new node.floored.node.role (Err e) → IsUntold node e
unread_refusal node new e manages (down, inl (is, fault)) =
    let same : e ≡ refusals.RecordFault = cc (is) in
    inr (
      same,
      record {
        manages = manages;
        left = new;
        unread = subst (λ (x : Refusal). IsUnread {X = List Row} node.floored.node.held new node.floored.node.role (Err x)) same
            (down, inl (is, fault));
      },
    )
unread_refusal node new e manages (down, inr (is, same)) = inl (cc (is))

-- what a call of a node's table can say
abbrev Said : (config : Config) → NodeId → List Fact → (old new : FlooredParts) → Result (List Row) Refusal → Type 0
Said config who facts old new result =
    ((new ≡ old) × SaysTable config who facts result) ⊎ IsUnread old.node.held new.node.held old.node.role result

told : (config : Config) (rm : ℕ) (facts : List Fact) (old new : MemberParts) (e : Refusal) → is_manager old.floored.node.who ≡ true
    → Said config (nodes.R rm) facts old.floored new.floored (Err e) → IsUntold old e
told config rm facts old new e manages (inl (same, says)) = inl says
told config rm facts old new e manages (inr unread) = unread_refusal old new.floored.node.held e manages unread

-- a resource manager's table is refused for want of memory or a record that fails
pub table_untold : (rm : ℕ) (sizes : Sizes) (old new : MemberParts) (e : Refusal) → old.floored.node.who ≡ nodes.R rm
    → IsMember sizes old.floored old.told → Tabled old new (Err e) → IsUntold old e
table_untold rm sizes old new e is sound tabled =
    told sound.config rm sound.state.facts old new e (ap is_manager is)
    (subst (λ (who : NodeId). Said sound.config who sound.state.facts old.floored new.floored (Err e)) is
    (tabled sound.config sound.state sound.is).says)

-- ---- one after another

zip_last : {X Y : Type 0} (R : X → Y → Type 0) (xs : List X) (ys : List Y) (x : X) (y : Y) → AllZip R xs ys → R x y
    → AllZip R (xs ++ x ∷ []) (ys ++ y ∷ [])
zip_last R [] [] x y all is = (is, tt)
zip_last R [] (b ∷ ys) x y all is = absurd all
zip_last R (a ∷ xs) [] x y all is = absurd all
zip_last R (a ∷ xs) (b ∷ ys) x y all is = (all.0, zip_last R xs ys x y all.1 is)

filter_one : {X : Type 0} (p : X → Bool) (x : X) (t : Bool) → p x ≡ t → filter p (x ∷ []) ≡ cond t (x ∷ []) []
filter_one p x t e = ap (λ (b : Bool). cond b (x ∷ []) []) e

-- tables of the nodes so far, and nodes that are as they were from there on
pub record HaveShownTables (at : ℕ) (start now : List MemberParts) (tables : List (List Row)) : Type 0 where
  pub shown : AreTablesOf (take at start) tables
  pub rest : drop at now ≡ drop at start
  pub long : length now ≡ length start

-- no table was shown
pub none_shown : (nodes : List MemberParts) → HaveShownTables 0 nodes nodes []
none_shown nodes = record { shown = tt; rest = refl; long = refl }

abbrev managing : MemberParts → Bool
managing node = is_manager node.floored.node.who

at_front : (n : ℕ) (xs : List MemberParts) (d : MemberParts) → get_or (drop n xs) 0 d ≡ get_or xs n d
at_front n xs d = let e : n + 0 ≡ n = omega arith in get_or-drop n xs 0 d ∙ ap (λ (k : ℕ). get_or xs k d) e

module _ (at : ℕ) (start now : List MemberParts) (tables : List (List Row)) (was new : MemberParts) (lt : at < length now)
    (read : was ≡ get_or now at was) (so : HaveShownTables at start now tables) where
  within : at < length start
  within = let long : length now ≡ length start = so.long in omega (arith, lt, long)

  here : was ≡ get_or start at was
  here =
      read ∙ sym (at_front at now was) ∙ ap (λ (xs : List MemberParts). get_or xs 0 was) so.rest ∙ at_front at start was

  longer : take (at + 1) start ≡ take at start ++ was ∷ []
  longer = take_more start at was within ∙ ap (λ (n : MemberParts). take at start ++ n ∷ []) (sym here)

  picked : (t : Bool) → managing was ≡ t → filter managing (take (at + 1) start) ≡ filter managing (take at start) ++ cond t (was ∷ []) []
  picked t e =
      ap (filter managing) longer ∙ filter-append managing (take at start) (was ∷ [])
      ∙ ap (λ (ns : List MemberParts). filter managing (take at start) ++ ns) (filter_one managing was t e)

  behind : drop (at + 1) now ≡ drop (at + 1) start
  behind = ap (drop 1) (sym (drop_more now at was lt) ∙ so.rest ∙ drop_more start at was within)

  left : drop (at + 1) (set now at new) ≡ drop (at + 1) start
  left = drop-set-lt (at + 1) now at new (omega arith) ∙ behind

  -- the node is no resource manager
  shown_without : is_manager was.floored.node.who ≡ false → HaveShownTables (at + 1) start (set now at new) tables
  shown_without e = record {
    shown =
        subst (λ (ns : List MemberParts). AllZip IsTableOf ns tables)
        (sym (picked false e ∙ append-nil (filter managing (take at start)))) so.shown;
    rest = left;
    long = length-set now at new ∙ so.long;
  }

  -- it is one, with a table
  shown_with : (rows : List Row) → is_manager was.floored.node.who ≡ true → IsTableOf was rows
      → HaveShownTables (at + 1) start (set now at new) (tables ++ rows ∷ [])
  shown_with rows e is = record {
    shown =
        subst (λ (ns : List MemberParts). AllZip IsTableOf ns (tables ++ rows ∷ [])) (sym (picked true e))
        (zip_last IsTableOf (filter managing (take at start)) tables was rows so.shown is);
    rest = left;
    long = length-set now at new ∙ so.long;
  }

  -- one or the other
  pub shown_next : (more : List (List Row)) → ShowsTable was tables more → HaveShownTables (at + 1) start (set now at new) more
  shown_next more (inl (e, same)) =
      subst (λ (ts : List (List Row)). HaveShownTables (at + 1) start (set now at new) ts) (sym same) (shown_without e)
  shown_next more (inr puts) =
      subst (λ (ts : List (List Row)). HaveShownTables (at + 1) start (set now at new) ts) (sym puts.put)
      (shown_with puts.rows puts.manages puts.is)

  -- neither
  pub shown_no_more : (e : Refusal) → IsUntold was e → (e ≡ refusals.NoMemory) ⊎ ((e ≡ refusals.RecordFault) × StopsAtTable start)
  shown_no_more e (inl memory) = inl memory
  shown_no_more e (inr (fault, unshown)) = inr (
    fault,
    record {
      at = at;
      node = was;
      within = within;
      node_is = here;
      shown = tables;
      before = so.shown;
      unshown = unshown;
    },
  )

-- all were shown
pub all_shown : (at : ℕ) (start now : List MemberParts) (tables : List (List Row)) → length now ≤ at → HaveShownTables at start now tables
    → AreTablesOf start tables
all_shown at start now tables end so =
    let long : length now ≡ length start = so.long in
    subst (λ (ns : List MemberParts). AreTablesOf ns tables) (take_all at start (omega (arith, end, long))) so.shown
