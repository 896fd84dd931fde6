-- Branches by name.
-- Needed by 7 files here.
use Rattle.std.proofs.Common.{◌≡◌, ◌≢◌, ◌∙◌, inl, inr, Bool, true, false, ◌&&◌, cond, List, [], ◌∷◌, Option, Some, None}
use Rattle.std.proofs.Common.{refl, sym, ap, subst, unwrap_or}
use Rattle.std.specs.Prelude.{find, option_map}
use Rattle.std.proofs.lemmas.Bool.{cond_both, cond-true, false_from_ne_true}
use Rattle.xid.specs.Names.{XidParts, xid_eq}
use Rattle.xid.proofs.Deciding.{xid_self, xid_decides}
use Rattle.ballot.specs.Greatest.{IsIn}
use Rattle.stable_record.specs.declared.fact.Touched.{Touched}
use Rattle.protocol.specs.declared.states.BranchState.{BranchState}
use Rattle.protocol.specs.Holds.{AreNamedOnce, names_of}
use Rattle.protocol.specs.Managers.{Branch, idle_keys}
use Rattle.protocol.proofs.Lists.{IsIn-map, found_among, found_any, any_find}
use Rattle.branch_table.specs.TableStates.{branch_named}
use Rattle.branch_table.specs.Outcomes.{idle_branch}

-- a branch shows at its name, as no other has it
pub named_own : (bs : List Branch) (b : Branch) → AreNamedOnce bs → IsIn bs b → branch_named bs b.xid ≡ Some b
named_own [] b once there = absurd there
named_own (c ∷ bs) b once (inl e) =
    ap (λ (d : Branch). branch_named (c ∷ bs) d.xid) (sym e)
    ∙ cond-true (xid_eq c.xid c.xid) (Some c) (branch_named bs c.xid) (xid_self c.xid) ∙ ap Some e
named_own (c ∷ bs) b once (inr there) =
    cond_both (xid_eq c.xid b.xid) (Some c) (branch_named bs b.xid) (λ (o : Option Branch). o ≡ Some b)
    (λ same. absurd (once.0 (subst (IsIn (names_of bs)) (sym ((xid_decides c.xid b.xid).0 same)) (IsIn-map (λ
    (d : Branch). d.xid) bs b there))))
    (λ other. named_own bs b once.1 there)

-- a branch of the list is found by its name
pub named_at : (bs : List Branch) (b : Branch) (x : XidParts) → AreNamedOnce bs → IsIn bs b → b.xid ≡ x → branch_named bs x ≡ Some b
named_at bs b x once there e = ap (branch_named bs) (sym e) ∙ named_own bs b once there

-- a branch that is found is there, and has the name
pub named_in : (bs : List Branch) (x : XidParts) (b : Branch) → branch_named bs x ≡ Some b → IsIn bs b × (b.xid ≡ x)
named_in bs x b e =
    let found = found_among (λ (c : Branch). xid_eq c.xid x) bs b e in (found.0, (xid_decides b.xid x).0 found.1)

-- a name that no branch has finds none
pub named_none : (bs : List Branch) (x : XidParts) → ((b : Branch) → IsIn bs b → b.xid ≢ x) → branch_named bs x ≡ None
named_none [] x none = refl
named_none (b ∷ bs) x none =
    cond_both (xid_eq b.xid x) (Some b) (branch_named bs x) (λ (o : Option Branch). o ≡ None)
    (λ same. absurd (none b (inl refl) ((xid_decides b.xid x).0 same)))
    (λ other. named_none bs x (λ c h. none c (inr h)))

pub none_named : (bs : List Branch) (x : XidParts) → branch_named bs x ≡ None → (b : Branch) → IsIn bs b → b.xid ≢ x
none_named bs x none b h e =
    let p = λ (c : Branch). xid_eq c.xid x in
    let found = any_find p bs (found_any p bs b h ((xid_decides b.xid x).1 e)) in
    let bad : None ≡ Some found.0 = sym none ∙ found.1 in
    absurd (cc (bad))

-- where the same branches have a name, the same one is found
pub same_named : (bs cs : List Branch) (x : XidParts) → AreNamedOnce cs → ((b : Branch) → b.xid ≡ x → IsIn bs b → IsIn cs b)
    → ((b : Branch) → b.xid ≡ x → IsIn cs b → IsIn bs b) → branch_named bs x ≡ branch_named cs x
same_named bs cs x once to from = by (branch_named bs x) refl
  where
    by : (o : Option Branch) → branch_named bs x ≡ o → branch_named bs x ≡ branch_named cs x
    by None e = e ∙ sym (named_none cs x (λ b h same. none_named bs x e b (from b same h) same))
    by (Some b) e = let is = named_in bs x b e in e ∙ sym (named_at cs b x once (to b is.1 is.0) is.1)

-- ---- idle branches

abbrev keep : (Branch → Bool) → Option Branch → Option Branch
keep q None = None
keep q (Some b) = cond (q b) (Some b) None

module _ (q : Branch → Bool) (x : XidParts) where
  abbrev both : Branch → Bool
  both b = xid_eq b.xid x && q b

  none_kept : (bs : List Branch) → ((b : Branch) → IsIn bs b → b.xid ≢ x) → find both bs ≡ None
  none_kept [] none = refl
  none_kept (b ∷ bs) none =
      let apart = false_from_ne_true (xid_eq b.xid x) (λ e. none b (inl refl) ((xid_decides b.xid x).0 e)) in
      ap (λ (t : Bool). cond (t && q b) (Some b) (find both bs)) apart ∙ none_kept bs (λ c h. none c (inr h))

  kept_by : (b : Branch) (o rest : Option Branch) (t : Bool) → (t ≡ true → o ≡ None) → (t ≡ false → o ≡ keep q rest)
      → cond (t && q b) (Some b) o ≡ keep q (cond t (Some b) rest)
  kept_by b o rest true none later = ap (cond (q b) (Some b)) (none refl)
  kept_by b o rest false none later = later refl

  pub found_kept : (bs : List Branch) → AreNamedOnce bs → find both bs ≡ keep q (branch_named bs x)
  found_kept [] once = refl
  found_kept (b ∷ bs) once =
      kept_by b (find both bs) (branch_named bs x) (xid_eq b.xid x)
      (λ own. none_kept bs (λ c h e. once.0 (subst (IsIn (names_of bs)) (e ∙ sym ((xid_decides b.xid x).0 own))
      (IsIn-map (λ (d : Branch). d.xid) bs c h))))
      (λ other. found_kept bs once.1)

-- of two lists that have the same branch of a name
pub same_idle : (bs cs : List Branch) (x : XidParts) → AreNamedOnce bs → AreNamedOnce cs → branch_named bs x ≡ branch_named cs x
    → idle_keys bs x ≡ idle_keys cs x
same_idle bs cs x once also e =
    ap (option_map (λ (b : Branch). b.keys)) (found_kept _ x bs once ∙ ap (keep _) e ∙ sym (found_kept _ x cs also))

named_one : (b : Branch) (x : XidParts) → b.xid ≡ x → branch_named (b ∷ []) x ≡ Some b
named_one b x e = cond-true (xid_eq b.xid x) (Some b) None ((xid_decides b.xid x).1 e)

-- a branch alone, by its state
abbrev alone : XidParts → BranchState → List Touched → List Branch
alone x s ks = record { xid = x; state = s; keys = ks } ∷ []

idle_alone : (x : XidParts) (ks : List Touched) → idle_keys (alone x BranchState.Idle ks) x ≡ Some ks
idle_alone x ks = ap
    (λ (t : Bool). option_map (λ (b : Branch). b.keys)
    (cond (t && true) (Some (record { xid = x; state = BranchState.Idle; keys = ks })) None)) (xid_self x)

none_idle : (s : BranchState) (x : XidParts) (ks keys : List Touched) → idle_keys (alone x s ks) x ≡ None
    → idle_keys (alone x s ks) x ≡ Some keys → (s ≡ BranchState.Idle) × (ks ≡ keys)
none_idle s x ks keys none e = absurd (cc (none, e))

not_idle : (x : XidParts) (b : Branch)
    → option_map (λ (c : Branch). c.keys) (cond (xid_eq x x && false) (Some b) None) ≡ None
not_idle x b = ap (λ (t : Bool). option_map (λ (c : Branch). c.keys) (cond (t && false) (Some b) None)) (xid_self x)

idle_one : (s : BranchState) (x : XidParts) (ks keys : List Touched) → idle_keys (alone x s ks) x ≡ Some keys
    → (s ≡ BranchState.Idle) × (ks ≡ keys)
idle_one BranchState.Idle x ks keys e =
    (refl, ap (λ (o : Option (List Touched)). unwrap_or o ks) (sym (idle_alone x ks) ∙ e))
idle_one BranchState.Active x ks keys e = none_idle BranchState.Active x ks keys (not_idle x
    (record { xid = x; state = BranchState.Active; keys = ks })) e
idle_one BranchState.RollbackOnly x ks keys e =
    none_idle BranchState.RollbackOnly x ks keys (not_idle x (record { xid = x; state = BranchState.RollbackOnly; keys = ks })) e
idle_one BranchState.Prepared x ks keys e =
    none_idle BranchState.Prepared x ks keys (not_idle x (record { xid = x; state = BranchState.Prepared; keys = ks })) e

-- the keys of an idle branch are those of the branch that is found
pub idle_named : (bs : List Branch) (x : XidParts) (keys : List Touched) → AreNamedOnce bs → idle_keys bs x ≡ Some keys
    → branch_named bs x ≡ Some (idle_branch x keys)
idle_named bs x keys once e = by (branch_named bs x) refl
  where
    by : (o : Option Branch) → branch_named bs x ≡ o → branch_named bs x ≡ Some (idle_branch x keys)
    by None f =
        let none : None ≡ Some keys = sym (same_idle bs [] x once tt f) ∙ e in absurd (cc (none))
    by (Some b) f =
        let name = (named_in bs x b f).1 in
        let one = sym (same_idle bs (b ∷ []) x once (λ h. h, tt) (f ∙ sym (named_one b x name))) ∙ e in
        let is = idle_one b.state x b.keys keys
        (subst (λ (y : XidParts). idle_keys (record { xid = y; state = b.state; keys = b.keys } ∷ []) x ≡ Some keys) name one) in
        f ∙ (λ i. Some (record { xid = name i; state = is.0 i; keys = is.1 i }))

-- and the other way round
pub named_idle : (bs : List Branch) (x : XidParts) (keys : List Touched) → AreNamedOnce bs
    → branch_named bs x ≡ Some (idle_branch x keys) → idle_keys bs x ≡ Some keys
named_idle bs x keys once e =
    same_idle bs (idle_branch x keys ∷ []) x once (λ h. h, tt) (e ∙ sym (named_one (idle_branch x keys) x refl)) ∙ idle_alone x keys
