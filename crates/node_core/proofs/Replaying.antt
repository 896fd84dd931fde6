-- The entries of bytes are played, one after the other.
-- Needed by `replay`.
use Rattle.std.proofs.Common.{◌≡◌, ◌∙◌, ℕ, ◌-◌, Bool, true, false, ◌&&◌, List, [], ◌∷◌, ◌++◌, length, refl, sym, ap, subst}
use Rattle.std.proofs.Common.{append_assoc, append-nil, inl, inr}
use Rattle.std.specs.Prelude.{◌⊎◌, Ok, Err}
use Rattle.std.specs.List.{list_all, flat_map}
use Rattle.std.proofs.lemmas.Bool.{and_parts, and_from, both_ways}
use Rattle.std.proofs.lemmas.Grind.{flat_map-append}
use Rattle.std.proofs.lemmas.List.Folds.{list_all-append}
use Rattle.xid.specs.declared.refusals.Refusal.{Refusal}
use Rattle.xid.specs.declared.refusals.Refusal.TheVariants.{Damaged, NoMemory}
use Rattle.stable_record.specs.declared.entry.EntryKind.{EntryKind as Entry}
use Rattle.stable_record.specs.declared.fact.FactKind.{FactKind as Fact}
use Rattle.stable_record.specs.Grammar.{IsFramed, IsTail, HasNoFrame}
use Rattle.stable_record.proofs.Framed.{all_read, nothing_stored}
use Rattle.protocol.specs.declared.nodes.NodeId.{NodeId}
use Rattle.protocol.specs.Effects.{Config}
use Rattle.protocol.specs.Nodes.{empty_memory, plays, all_play}
use Rattle.resource_manager.specs.Compacted.{facts_of}
use Rattle.node_core.specs.declared.role.Role.{Role}
use Rattle.node_core.specs.Roles.{RoleStands}
use Rattle.node_core.specs.Opening.{may_stand, IsEntryPlayed, IsPlayedAs, HasPlayed, IsUnplayable}
use Rattle.node_core.specs.Opening.{IsPlayedWhole, HasPlayedTo, IsFirstPlayed, PlaysFirst}
use Rattle.node_core.proofs.Reading.{read_more, then_came}

-- ---- facts that play one after the other

-- some, and then more
pub all_play_both : (config : Config) (who : NodeId) (before xs ys : List Fact)
    → all_play config who before (xs ++ ys) ≡ (all_play config who before xs && all_play config who (before ++ xs) ys)
all_play_both config who before [] ys = ap (λ fs. all_play config who fs ys) (sym (append-nil before))
all_play_both config who before (x ∷ xs) ys =
    let p = plays config who before x in
    let A = all_play config who (before ++ x ∷ []) xs in
    let B = all_play config who ((before ++ x ∷ []) ++ xs) ys in
    ap (λ b. p && b) (all_play_both config who (before ++ x ∷ []) xs ys) ∙ and_three p A B
    ∙ ap (λ fs. (p && A) && all_play config who fs ys) (append_assoc before (x ∷ []) xs)
  where
    and_three : (a b c : Bool) → (a && (b && c)) ≡ ((a && b) && c)
    and_three true b c = refl
    and_three false b c = refl

-- one
-- ---- all of them

module _ (config : Config) (who : NodeId) (compacted : Bool) (bytes : List ℕ) where
  abbrev meant : List Entry → List Fact
  meant all = flat_map facts_of all

  module _ (rest after : List ℕ) (role : Role) (h : HasPlayedTo config who compacted bytes rest role) (entry : Entry)
      (framed : IsFramed entry rest after) where
    meant_on : meant (h.read ++ entry ∷ []) ≡ meant h.read ++ facts_of entry
    meant_on = flat_map-append facts_of h.read (entry ∷ []) ∙ ap (λ fs. meant h.read ++ fs) (append-nil (facts_of entry))

    pub played_on : (new : Role) → IsEntryPlayed config who compacted (meant h.read) new entry
        → HasPlayedTo config who compacted bytes after new
    played_on new p = record {
      read = h.read ++ entry ∷ [];
      up_to = read_more bytes rest after h.read entry h.up_to framed;
      may = list_all-append (may_stand compacted) h.read (entry ∷ [])
          ∙ and_from (list_all (may_stand compacted) h.read) (may_stand compacted entry && true) h.may
          (and_from (may_stand compacted entry) true p.may refl);
      fits = ap (all_play config who []) meant_on ∙ all_play_both config who [] (meant h.read) (facts_of entry)
          ∙ and_from (all_play config who [] (meant h.read)) (all_play config who (meant h.read) (facts_of entry)) h.fits p.fits;
      stands = subst (λ fs. RoleStands config who new fs empty_memory) (sym meant_on) p.stands;
    }

    -- where the entry may not stand there, or doesn't play
    pub played_bad : (may_stand compacted entry ≡ true → all_play config who (meant h.read) (facts_of entry) ≡ false)
        → IsUnplayable config who compacted bytes
    played_bad bad all tail g =
        let c = then_came bytes rest after h.read entry h.up_to framed all tail g.stored in
        let test = may_stand compacted in
        let may = and_parts (list_all test h.read) (list_all test (entry ∷ c.0))
        (sym (list_all-append test h.read (entry ∷ c.0)) ∙ ap (list_all test) (sym c.1) ∙ g.may) in
        let this = (and_parts (test entry) (list_all test c.0) may.1).0 in
        let facts : meant all ≡ meant h.read ++ (facts_of entry ++ meant c.0) =
        ap meant c.1 ∙ flat_map-append facts_of h.read (entry ∷ c.0) in
        let fits = and_parts (all_play config who [] (meant h.read)) (all_play config who (meant h.read) (facts_of entry ++ meant c.0))
        (sym (all_play_both config who [] (meant h.read) (facts_of entry ++ meant c.0)) ∙ ap (all_play config who []) (sym facts)
        ∙ g.fits) in
        let here = and_parts (all_play config who (meant h.read) (facts_of entry))
        (all_play config who (meant h.read ++ facts_of entry) (meant c.0))
        (sym (all_play_both config who (meant h.read) (facts_of entry) (meant c.0)) ∙ fits.1) in
        both_ways (all_play config who (meant h.read) (facts_of entry)) (bad this) here.0

  -- where no frame stands
  played_none : (rest : List ℕ) (role : Role) → HasPlayedTo config who compacted bytes rest role → HasNoFrame rest
      → IsUnplayable config who compacted bytes
  played_none rest role h none all tail g =
      let b = h.up_to.came all tail g.stored in
      nothing_stored rest none b.0 tail b.2

  -- where all is read
  pub played_all : (rest : List ℕ) (role : Role) → HasPlayedTo config who compacted bytes rest role → IsTail rest
      → HasPlayed config who compacted bytes role (length bytes - length rest)
  played_all rest role h tail =
      let all = all_read bytes rest h.read h.up_to.place tail h.up_to.goes in
      record {
        all = h.read;
        within = all.0;
        goes = record { stored = all.1; may = h.may; fits = h.fits };
        stands = h.stands;
      }

  refused_frame : (rest : List ℕ) (role new : Role) (e : Refusal) → HasPlayedTo config who compacted bytes rest role
      → ((e ≡ Damaged) × HasNoFrame rest) ⊎ (e ≡ NoMemory) → IsPlayedWhole config who compacted bytes new (Err e)
  refused_frame rest role new e h (inl is) =
      subst (λ x. IsPlayedWhole config who compacted bytes new (Err x)) (sym is.0) (played_none rest role h is.1)
  refused_frame rest role new e h (inr is) = subst (λ x. IsPlayedWhole config who compacted bytes new (Err x)) (sym is) tt

  refused_entry : (rest after : List ℕ) (role new : Role) (h : HasPlayedTo config who compacted bytes rest role) (entry : Entry)
      → IsFramed entry rest after → (e : Refusal) → IsPlayedAs config who compacted (meant h.read) new entry (Err e)
      → IsPlayedWhole config who compacted bytes new (Err e)
  refused_entry rest after role new h entry framed Damaged p = played_bad rest after role h entry framed p
  refused_entry rest after role new h entry framed NoMemory p = tt
  refused_entry rest after role new h entry framed other p = absurd p

  -- the first entry of what is left was played, or why not
  module _ (rest : List ℕ) (role new : Role) (h : HasPlayedTo config who compacted bytes rest role) where
    -- all was played to where the first entry that was played leads
    pub first_on : (after : List ℕ) → IsFirstPlayed compacted rest after role new (Ok tt) → HasPlayedTo config who compacted bytes after new
    first_on after p = played_on rest after role h p.entry p.framed new (p.plays config who (meant h.read) h.stands)

    -- where the first entry is refused, the whole is
    pub refused_first : (e : Refusal) → PlaysFirst compacted rest role new (Err e) → IsPlayedWhole config who compacted bytes new (Err e)
    refused_first e (inl p) = refused_entry rest p.0 role new h p.1.entry p.1.framed e (p.1.plays config who (meant h.read) h.stands)
    refused_first e (inr is) = refused_frame rest role new e h is
