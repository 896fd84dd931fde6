-- Keys are held once, looked back at: also while a manager is down, whose branches then are those that it had.
-- Needed by `keys_held_once`; KeyCourses; crate floored_history.
use Rattle.std.proofs.Common.{◌≡◌, ◌≢◌, ◌⊎◌, inl, inr, ◌∙◌, ℕ, Bool, true, false, if◌then◌else◌, List, [], ◌∷◌, refl, sym, ap, subst}
use Rattle.std.proofs.lemmas.Bool.{false_from_ne_true}
use Rattle.xid.specs.Names.{XidParts, xid_eq}
use Rattle.xid.proofs.Deciding.{xid_decides}
use Rattle.protocol.specs.Basics.{Fact}
use Rattle.safety.specs.Vocabulary.{R, Step}
use Rattle.protocol.specs.Branches.{BranchView, no_branch, is_write}
use Rattle.protocol.specs.Effects.{Config}
use Rattle.protocol.specs.Facts.{bound_branches}
use Rattle.protocol.specs.Managers.{Branch, all_branches, view_named}
use Rattle.protocol.specs.Nodes.{NodeState, all_play}
use Rattle.protocol.specs.Worlds.{World, step_of, world_step}
use Rattle.branch_table.proofs.Views.{view_of}
use Rattle.protocol.specs.Holds.{IsIn, AreApart}
use Rattle.protocol.proofs.Manager.Apart.{none_apart}
use Rattle.protocol.proofs.Manager.Prepared as holds
use Rattle.history.specs.LookingBack.{branch_back}
use Rattle.history.proofs.Moves.{manager_in, branches_of, left_by, IsMove, Quiet, Restarted, Called, Stored, event_moved}
use Rattle.history.proofs.Runs.{IsRun, AtFirst, Then, new_manager}
use Rattle.history.proofs.Told.{IsSound, IsTold, sound, told_ever, told_quiet, told_restarted, told_called, told_stored}
use Rattle.history.proofs.Shown.{shown_back}

-- the manager as it would be, were it up and had these branches
abbrev up_with : NodeState → List Branch → NodeState
up_with node branches = record node { up = true; memory = record node.memory { branches = branches } }

-- the branches that a manager has, or had when it went down
record HasBranches (config : Config) (rm : ℕ) (node : NodeState) (before : List Step) : Type 0 where
  branches : List Branch
  same : node.up ≡ true → branches ≡ branches_of node
  told : IsTold rm (up_with node branches) before
  is_sound : IsSound config rm (up_with node branches)

with_facts : (config : Config) (rm : ℕ) (old new : NodeState) (branches : List Branch) → new.facts ≡ old.facts
    → IsSound config rm (up_with old branches) → AreApart rm new.facts branches → IsSound config rm (up_with new branches)
with_facts config rm old new branches facts is apart = record {
  played = subst (λ (fs : List Fact). all_play config (R rm) [] fs ≡ true) (sym facts) is.played;
  apart = apart;
}

has_moved : (config : Config) (rm : ℕ) (old new : NodeState) (step : Step) (before : List Step) → IsSound config rm old
    → IsSound config rm new → IsTold rm old before → HasBranches config rm old before
    → IsMove config rm old new step.event step.answer step.now → HasBranches config rm new (step ∷ before)
has_moved config rm old new step before sound_old sound_new told had (Quiet is) = record {
  branches = had.branches;
  same = λ up. let kept = is.kept up in had.same kept.0 ∙ sym kept.1;
  told = told_quiet rm (up_with old had.branches) (up_with new had.branches) step before had.told
      (record { silent = is.silent; facts = is.facts; kept = λ up. (refl, refl) });
  is_sound = with_facts config rm old new had.branches is.facts had.is_sound
      (subst (λ (fs : List Fact). AreApart rm fs had.branches) (sym is.facts) had.is_sound.apart);
}
has_moved config rm old new step before sound_old sound_new told had (Restarted is) = record {
  branches = [];
  same = λ up. sym is.left;
  told = told_restarted rm old (up_with new []) step before told
      (record { change = is.change; calls = is.calls; restart = is.restart; facts = is.facts; left = refl });
  is_sound = record { played = sound_new.played; apart = none_apart rm new.facts };
}
has_moved config rm old new step before sound_old sound_new told had (Called is) = record {
  branches = branches_of new;
  same = λ up. refl;
  told = told_called config rm old (up_with new (branches_of new)) step before told sound_old (record {
    xid = is.xid;
    action = is.action;
    change = is.change;
    is = is.is;
    up = is.up;
    facts = is.facts;
    answered = is.answered;
    left = is.left;
  });
  is_sound = record { played = sound_new.played; apart = sound_new.apart };
}
has_moved config rm old new step before sound_old sound_new told had (Stored is) = record {
  branches = left_by rm (branches_of old) is.fact;
  same = λ up. sym (is.left up);
  told = told_stored config rm old (up_with new (left_by rm (branches_of old) is.fact)) step before told sound_old (record {
    fact = is.fact;
    input = is.input;
    rule = is.rule;
    change = is.change;
    calls = is.calls;
    restart = is.restart;
    up = is.up;
    facts = is.facts;
    left = λ up. refl;
    apart = is.apart;
  });
  is_sound = record { played = sound_new.played; apart = is.apart sound_old.played sound_old.apart };
}

has_ever : (config : Config) (world : World) (before : List Step) (rm : ℕ) → IsRun config world before
    → HasBranches config rm (manager_in config world rm) before
has_ever config _ _ rm AtFirst = subst (λ (node : NodeState). HasBranches config rm node []) (new_manager config rm) (record {
  branches = [];
  same = λ up. refl;
  told = record { views = λ tx. refl; spent = λ x. refl; branches = λ up x. refl; voted = λ tx keys x h. absurd h };
  is_sound = record { played = refl; apart = none_apart rm [] };
})
has_ever config _ _ rm (Then world before event fault run) =
    let result = world_step config world event fault in
    has_moved config rm (manager_in config world rm) (manager_in config result.world rm) (step_of world event result) before
    (sound config world before rm run)
    (sound config result.world (step_of world event result ∷ before) rm (Then world before event fault run))
    (told_ever config world before rm run) (has_ever config world before rm run) (event_moved config world rm event fault)

-- ---- keys

-- a branch that shows is listed
pub record IsListed (branches : List Branch) (x : XidParts) : Type 0 where
  pub branch : Branch
  pub among : IsIn branches branch
  pub own : branch.xid ≡ x
  pub shows : view_named branches x ≡ view_of branch

pub listed_or_none : (branches : List Branch) (x : XidParts) → (view_named branches x ≡ no_branch) ⊎ IsListed branches x
listed_or_none [] x = inl refl
listed_or_none (b ∷ branches) x = by_name (xid_eq b.xid x) refl (listed_or_none branches x)
  where
    by_name : (own : Bool) → xid_eq b.xid x ≡ own → (view_named branches x ≡ no_branch) ⊎ IsListed branches x
        → (view_named (b ∷ branches) x ≡ no_branch) ⊎ IsListed (b ∷ branches) x
    by_name true e rest = inr (record {
      branch = b;
      among = inl refl;
      own = (xid_decides b.xid x).0 e;
      shows = ap (λ (t : Bool). if t then view_of b else view_named branches x) e;
    })
    by_name false e (inl none) = inl (ap (λ (t : Bool). if t then view_of b else view_named branches x) e ∙ none)
    by_name false e (inr listed) = inr (record {
      branch = listed.branch;
      among = inr listed.among;
      own = listed.own;
      shows = ap (λ (t : Bool). if t then view_of b else view_named branches x) e ∙ listed.shows;
    })

-- a key that one branch has put or deleted, looked back at, no other has touched
pub held_back : (config : Config) (world : World) (before : List Step) (rm : ℕ) → IsRun config world before → (x y : XidParts) → x ≢ y
    → (key : List ℕ) → is_write ((branch_back rm before x).act key) ≡ true → (branch_back rm before y).touched key ≡ false
held_back config world before rm run x y apart key written = false_from_ne_true _ (λ touched.
    elim (listed_or_none all x) [
      | inl none ↦ absurd (cc (ap (λ (v : BranchView). is_write (v.act key)) (sym none ∙ shows x), written))
      | inr one ↦ elim (listed_or_none all y) [
        | inl none ↦ absurd (cc (ap (λ (v : BranchView). v.touched key) (sym none ∙ shows y), touched))
        | inr two ↦ holds.keys_held_once config rm node.facts has.branches has.is_sound.played has.is_sound.apart one.branch two.branch
            one.among two.among (λ e. apart (sym one.own ∙ e ∙ two.own)) key
            (ap (λ (v : BranchView). is_write (v.act key)) (sym one.shows ∙ shows x) ∙ written)
            (ap (λ (v : BranchView). v.touched key) (sym two.shows ∙ shows y) ∙ touched)
      ]
    ])
  where
    node : NodeState
    node = manager_in config world rm

    has : HasBranches config rm node before
    has = has_ever config world before rm run

    all : List Branch
    all = all_branches rm (bound_branches node.facts) has.branches

    shows : (z : XidParts) → view_named all z ≡ branch_back rm before z
    shows z = shown_back config rm (up_with node has.branches) before has.is_sound has.told refl z
