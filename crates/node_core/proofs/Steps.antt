-- What came of an input is a step of the machine.
-- Needed by Gathered and Handled.
use Rattle.std.proofs.Common.{◌≡◌, ◌∙◌, ℕ, ◌<◌, ◌≤◌, min, Bool, true, false, not, ◌&&◌, ◌==◌, List, [], ◌∷◌, ◌++◌, length, take, Option}
use Rattle.std.proofs.Common.{Some, None, inl, inr, refl, sym, ap, subst, append_assoc, append-nil, arith}
use Rattle.std.specs.Prelude.{if◌then◌else◌, nat_le, map, Result, Ok, Err}
use Rattle.std.proofs.lemmas.Bool.Decides.{eqb_tells, leb_tells, nat_tests}
use Rattle.std.proofs.lemmas.Bool.{and_from}
use Rattle.std.proofs.lemmas.List.{map-append}
use Rattle.std.proofs.lemmas.Grind.{flat_map-append}
use Rattle.std.proofs.lemmas.List.Folds.{list_all-append}
use Rattle.std.specs.List.{list_all}
use Rattle.wire.specs.Versions.{version_2}
use Rattle.wire.specs.declared.grammar.VersionNumber.TheVariants.{Second}
use Rattle.xid.specs.declared.refusals.Refusal.{Refusal}
use Rattle.xid.specs.declared.refusals.Refusal.TheVariants.{RecordFault}
use Rattle.stable_record.specs.declared.entry.EntryKind.{EntryKind as Entry}
use Rattle.stable_record.specs.declared.entry.EntryKind.TheVariants as entries
use Rattle.stable_record.specs.declared.fact.FactKind.{FactKind as Fact}
use Rattle.stable_record.specs.Facts.{IsFact}
use Rattle.stable_record.specs.Frames.{frame_length}
use Rattle.stable_record.specs.Grammar.{IsStored}
use Rattle.stable_record.specs.Held.{Held, IsStoppedAt}
use Rattle.stable_record.proofs.Framed.{stored_joined, one_stored, torn_stored, whole_stored}
use Rattle.stable_record.proofs.Lengths.{entry_in_version_2, fact_frame_has}
use Rattle.protocol.specs.declared.answers.Answer.{Answer}
use Rattle.protocol.specs.declared.answers.Answer.TheVariants.{Refused}
use Rattle.protocol.specs.declared.nodes.NodeId.{NodeId}
use Rattle.protocol.specs.declared.nodes.NodeId.TheVariants.{A, L, R}
use Rattle.protocol.specs.declared.rows.Row.{Row}
use Rattle.resource_manager.specs.Compacted.{row_entry, is_about_tx, facts_of}
use Rattle.protocol.specs.Effects.{Config, Effect}
use Rattle.protocol.specs.Nodes.{NodeState, Memory, Input, Fault, NoFault, NoMemoryAt, RecordFails, plays, accepts_input, effect_of}
use Rattle.protocol.specs.Nodes.{all_play, node_step, effect_outcome, answer_outcome, down_answer, stopped_append}
use Rattle.protocol.proofs.Manager.Played.{all_play_then}
use Rattle.node_core.specs.declared.output.Output.{Output}
use Rattle.node_core.specs.declared.role.Role.{Role}
use Rattle.node_core.specs.Roles.{RoleStands}
use Rattle.node_core.specs.Shorter.{shorter_record}
use Rattle.node_core.specs.Storing.{fact_frame, output_of, change_made, IsTorn, IsKept, IsDone, RanOut, WasStopped, Carries, carried}
use Rattle.node_core.specs.Nodes.{role_left, role_settled, out_of}
use Rattle.node_core.specs.Nodes.{MeansFrom, begun, SameState, Keeps, Stands, Befalls, HasMet, Shows, Steps, StepsFreely, fact_to_store}
use Rattle.node_core.proofs.Changes.{unchanged, changes_made}
use Rattle.node_core.proofs.Loading.{holds_again}

-- ---- one fact more

-- one entry more, of a fact, behind what a record means
more_meant : (who : NodeId) (all : List Entry) (rows : Option (List Row)) (facts : List Fact) (fact : Fact) → MeansFrom who all rows facts
    → MeansFrom who (all ++ entries.Fact fact ∷ []) rows (facts ++ fact ∷ [])
more_meant who all None facts fact is =
    ap (λ es. es ++ entries.Fact fact ∷ []) is ∙ sym (map-append entries.Fact facts (fact ∷ []))
more_meant (R rm) all (Some rows) facts fact c = record {
  later = c.later ++ entries.Fact fact ∷ [];
  all_is = ap (λ es. es ++ entries.Fact fact ∷ []) c.all_is
      ∙ ap (λ es. entries.Snapshot ∷ es) (append_assoc (map row_entry rows) c.later (entries.Fact fact ∷ []));
  ascending = c.ascending;
  about = list_all-append is_about_tx c.later (entries.Fact fact ∷ []) ∙ and_from (list_all is_about_tx c.later) true c.about refl;
  facts_are = ap (λ fs. fs ++ fact ∷ []) c.facts_are ∙ sym (flat_map-append facts_of c.later (entries.Fact fact ∷ []));
}
more_meant (A a) all (Some rows) facts fact is = absurd is
more_meant (L l) all (Some rows) facts fact is = absurd is

module _ (config : Config) (who : NodeId) (own : List Row) (facts : List Fact) (fact : Fact) where
  abbrev with_it : List Fact → List Fact
  with_it fs = fs ++ fact ∷ []

  same_more : (from : Config) (kept : List Fact) → SameState from config who kept facts
      → SameState from config who (with_it kept) (with_it facts)
  same_more from kept same = record {
    stands = λ more role memory s.
        subst (λ (fs : List Fact). RoleStands config who role fs memory) (sym (append_assoc facts (fact ∷ []) more))
        (same.stands (fact ∷ more) role memory
        (subst (λ (fs : List Fact). RoleStands from who role fs memory) (append_assoc kept (fact ∷ []) more) s));
    fits = λ more f. ap (λ (fs : List Fact). plays config who fs f) (append_assoc kept (fact ∷ []) more)
        ∙ same.fits (fact ∷ more) f ∙ ap (λ (fs : List Fact). plays config who fs f) (sym (append_assoc facts (fact ∷ []) more));
    shorter = λ more play.
        ap (shorter_record from who) (append_assoc kept (fact ∷ []) more)
        ∙ same.shorter (fact ∷ more) (subst (λ (fs : List Fact). all_play from who [] fs ≡ true) (append_assoc kept (fact ∷ []) more) play)
        ∙ ap (shorter_record config who) (sym (append_assoc facts (fact ∷ []) more));
  }

  fits_kept : (from : Config) (kept : List Fact) → SameState from config who kept facts → plays config who facts fact ≡ true
      → plays config who kept fact ≡ true
  fits_kept from kept same fits =
      ap (λ (fs : List Fact). plays config who fs fact) (sym (append-nil kept)) ∙ same.fits [] fact
      ∙ ap (λ (fs : List Fact). plays config who fs fact) (append-nil facts) ∙ fits

  -- where the frame was kept whole
  more_kept : (bytes now : List ℕ) (keeps : Keeps config who own bytes facts []) → plays config who facts fact ≡ true
      → IsStored now (keeps.holds.all ++ entries.Fact fact ∷ []) [] → Keeps config who own now (with_it facts) []
  more_kept bytes now keeps fits stored =
      let k = keeps.kept in
      let from = begun config who own k.rows in
      record {
        kept = record { rows = k.rows; facts = with_it k.facts };
        holds = record {
          all = keeps.holds.all ++ entries.Fact fact ∷ [];
          stored = stored;
          means = more_meant who keeps.holds.all k.rows k.facts fact keeps.holds.means;
          fits = all_play_then config who [] k.facts fact keeps.holds.fits (fits_kept from k.facts keeps.same fits);
        };
        same = same_more from k.facts keeps.same;
      }

  pub added_kept : (bytes : List ℕ) → Keeps config who own bytes facts [] → IsFact fact → plays config who facts fact ≡ true
      → Keeps config who own (bytes ++ fact_frame fact) (with_it facts) []
  added_kept bytes keeps valid fits = more_kept bytes (bytes ++ fact_frame fact) keeps fits
      (stored_joined keeps.holds.all (entries.Fact fact ∷ []) bytes (fact_frame fact) [] keeps.holds.stored
      (one_stored Second (entries.Fact fact) (entry_in_version_2 (entries.Fact fact) valid)))

  kept_few : (armed : Option ℕ) (may_fail : Bool) (len kept : ℕ) → IsStoppedAt armed may_fail len kept → kept ≤ len
  kept_few (Some n) may_fail len kept at = omega arith
  kept_few None may_fail len kept at = at.1

  -- what a stopped append leaves
  pub torn_kept : (old new : Held) (whole : Bool) → Keeps config who own old.bytes facts [] → IsFact fact
      → plays config who facts fact ≡ true → IsTorn fact old new whole
      → (tail : List ℕ) × Keeps config who own new.bytes (if whole then with_it facts else facts) tail
  torn_kept old new true keeps valid fits torn =
      let entry = entry_in_version_2 (entries.Fact fact) valid in
      let le : length (fact_frame fact) ≤ new.kept = grind (arith, nat_tests, torn.whole_is) in (
        [],
        subst (λ bytes. Keeps config who own bytes (with_it facts) []) (sym torn.stopped.bytes)
            (more_kept old.bytes _ keeps fits
            (whole_stored Second old.bytes keeps.holds.all (entries.Fact fact) new.kept keeps.holds.stored entry le)),
      )
  torn_kept old new false keeps valid fits torn =
      let entry = entry_in_version_2 (entries.Fact fact) valid in
      let few = kept_few old.armed old.nature.may_fail (length (fact_frame fact)) new.kept torn.stopped.at in
      let lt : new.kept < length (fact_frame fact) = grind (arith, nat_tests, torn.whole_is, few) in
      let tail = take new.kept (fact_frame fact) in
      let now = torn_stored Second old.bytes keeps.holds.all (entries.Fact fact) new.kept keeps.holds.stored entry lt in (
        tail,
        subst (λ bytes. Keeps config who own bytes facts tail) (sym torn.stopped.bytes) (record {
          kept = keeps.kept;
          holds = holds_again config who old.bytes _ keeps.kept [] tail keeps.holds now;
          same = keeps.same;
        }),
      )

-- whether a tear leaves a frame whole
min_whole : (n len : ℕ) → (min n len == len) ≡ nat_le len n
min_whole n len = elim (eqb_tells (min n len) len) [
  | inl p ↦ elim (leb_tells len n) [ inl q ↦ p.0 ∙ sym q.0 | inr q ↦ absurd (omega (arith, p.1, q.1)) ]
  | inr p ↦ elim (leb_tells len n) [ inl q ↦ absurd (p.1 (omega (arith, q.1))) | inr q ↦ p.0 ∙ sym q.0 ]
]

-- ---- a node that is up

module _ (config : Config) (who : NodeId) (own : List Row) (m : NodeState) (e : Effect Memory) (old new : Held) (role : Role)
    (s : Stands config who own old (Some role) m) where
  -- its record has no tail
  keeps_all : Keeps config who own old.bytes m.facts []
  keeps_all = subst (Keeps config who own old.bytes m.facts) s.role_is.1 s.keeps

  -- what came of an effect with this fact
  record Comes (after : Option Role) (out : Output) (f : Option Fact) : Type 0 where
    pub fault : Fault
    pub befalls : Befalls f old new fault
    pub shows : Shows config who own m.facts new after out (effect_outcome m e f m.tear fault)

  done_comes : (now : Role) (out : Output) → out.reply ≡ e.answer → out.sends ≡ e.sends → (f : Option Fact)
      → IsKept config who m.facts e old new now out.now f → Comes (Some now) out f
  done_comes now out reply sends None is = record {
    fault = NoFault;
    befalls = is.same;
    shows = record {
      reply_is = reply;
      now_is = is.now_is ∙ sym (unchanged who m.facts);
      sends_are = sends;
      stands = record {
        tail = [];
        keeps = subst (λ (h : Held). Keeps config who own h.bytes m.facts []) (sym is.same) keeps_all;
        played = s.played;
        role_is = (refl, refl, is.stands);
        tear_is = s.tear_is ∙ ap (λ (h : Held). h.armed) (sym is.same);
      };
    };
  }
  done_comes now out reply sends (Some fact) is =
      let untorn = s.tear_is ∙ is.added.unarmed in
      record {
        fault = NoFault;
        befalls = subst (λ armed. HasMet armed fact old new) (sym is.added.unarmed) is.added;
        shows = subst (λ tear. Shows config who own m.facts new (Some now) out (effect_outcome m e (Some fact) tear NoFault)) (sym untorn)
            (record {
              reply_is = reply;
              now_is = is.now_is ∙ sym (changes_made config who role m.facts m.memory fact s.role_is.2 is.fits);
              sends_are = sends;
              stands = record {
                tail = [];
                keeps = subst (λ bytes. Keeps config who own bytes (m.facts ++ fact ∷ []) []) (sym is.added.bytes)
                    (added_kept config who own m.facts fact old.bytes keeps_all is.valid is.fits);
                played = all_play_then config who [] m.facts fact s.played is.fits;
                role_is = (refl, refl, is.stands);
                tear_is = untorn ∙ sym is.added.armed;
              };
            });
      }

  ran_out_comes : (out : Output) → RanOut old new out → (f : Option Fact) → Comes None out f
  ran_out_comes out is f = record {
    fault = NoMemoryAt;
    befalls = is.same;
    shows = record {
      reply_is = ap (λ (o : Output). o.reply) is.out_is;
      now_is = ap (λ (o : Output). o.now) is.out_is ∙ sym (unchanged who m.facts);
      sends_are = ap (λ (o : Output). o.sends) is.out_is;
      stands = record {
        tail = [];
        keeps = subst (λ (h : Held). Keeps config who own h.bytes m.facts []) (sym is.same) keeps_all;
        played = s.played;
        role_is = refl;
        tear_is = s.tear_is ∙ ap (λ (h : Held). h.armed) (sym is.same);
      };
    };
  }

  stopped_shows : (out : Output) (fact : Fact) (whole : Bool) → IsFact fact → plays config who m.facts fact ≡ true
      → IsTorn fact old new whole → out ≡ output_of (Refused RecordFault) (if whole then change_made who fact else None)
      → Shows config who own m.facts new None out (stopped_append m fact whole)
  stopped_shows out fact true valid fits torn is =
      let kept = torn_kept config who own m.facts fact old new true keeps_all valid fits torn in
      record {
        reply_is = ap (λ (o : Output). o.reply) is;
        now_is = ap (λ (o : Output). o.now) is ∙ sym (changes_made config who role m.facts m.memory fact s.role_is.2 fits);
        sends_are = ap (λ (o : Output). o.sends) is;
        stands = record {
          tail = kept.0;
          keeps = kept.1;
          played = all_play_then config who [] m.facts fact s.played fits;
          role_is = refl;
          tear_is = sym torn.stopped.armed;
        };
      }
  stopped_shows out fact false valid fits torn is =
      let kept = torn_kept config who own m.facts fact old new false keeps_all valid fits torn in
      record {
        reply_is = ap (λ (o : Output). o.reply) is;
        now_is = ap (λ (o : Output). o.now) is ∙ sym (unchanged who m.facts);
        sends_are = ap (λ (o : Output). o.sends) is;
        stands = record {
          tail = kept.0;
          keeps = kept.1;
          played = s.played;
          role_is = refl;
          tear_is = sym torn.stopped.armed;
        };
      }

  stopped_by : (out : Output) (w : WasStopped config who m.facts e old new out) (armed : Option ℕ) → old.armed ≡ armed
      → Comes None out (Some w.fact)
  stopped_by out w None is = record {
    fault = RecordFails w.whole;
    befalls = (is, w.torn);
    shows = subst (λ tear. Shows config who own m.facts new None out (effect_outcome m e (Some w.fact) tear (RecordFails w.whole)))
        (sym (s.tear_is ∙ is)) (stopped_shows out w.fact w.whole w.valid w.fits w.torn w.out_is);
  }
  stopped_by out w (Some n) is =
      let at = subst (λ armed. IsStoppedAt armed old.nature.may_fail (length (fact_frame w.fact)) new.kept) is w.torn.stopped.at in
      let len = fact_frame_has version_2 w.fact in
      let whole : w.whole ≡ nat_le (frame_length w.fact) n =
      w.torn.whole_is ∙ ap (λ k. k == length (fact_frame w.fact)) at ∙ min_whole n (length (fact_frame w.fact))
      ∙ ap (λ k. nat_le k n) len in
      record {
        fault = NoFault;
        befalls = subst (λ armed. HasMet armed w.fact old new) (sym is) w.torn.stopped;
        shows = subst (λ tear. Shows config who own m.facts new None out (effect_outcome m e (Some w.fact) tear NoFault))
            (sym (s.tear_is ∙ is))
            (subst (λ b. Shows config who own m.facts new None out (stopped_append m w.fact b)) whole
            (stopped_shows out w.fact w.whole w.valid w.fits w.torn w.out_is));
      }

  comes_of : (now : Role) (result : Result Output Output) → Carries config who m.facts m.memory e old new now result
      → Comes (role_left now result) (out_of result) e.fact
  comes_of now (Ok out) is = done_comes now out is.reply_is is.sends_are e.fact is.kept
  comes_of now (Err out) (inl is) = ran_out_comes out is e.fact
  comes_of now (Err out) (inr is) = subst (Comes None out) (sym is.fact_is) (stopped_by out is old.armed refl)

-- ---- the machine's step

module _ (config : Config) (who : NodeId) (own : List Row) (m : NodeState) (input : Input) where
  abbrev whole_effect : Effect Memory
  whole_effect = effect_of config who m.facts m.memory input

  -- of a node that is up, on an input that its kind takes
  pub steps_up : (old new : Held) (role now : Role) (result : Result Output Output) → Stands config who own old (Some role) m
      → accepts_input who input ≡ true → Carries config who m.facts m.memory whole_effect old new now result
      → Steps config who own m input old new (role_left now result) (out_of result)
  steps_up old new role now result s accepted is =
      let c = comes_of config who own m whole_effect old new role s now result is in
      let up = s.role_is.0 in
      let same : node_step config who m input c.fault ≡ effect_outcome m whole_effect whole_effect.fact m.tear c.fault = λ i.
      if not (accepted i) then answer_outcome m (Refused Refusal.NoSuch)
      else if not (up i) then answer_outcome m (down_answer input)
      else effect_outcome m whole_effect whole_effect.fact m.tear c.fault in
      let fact : fact_to_store config who m input ≡ whole_effect.fact = λ i.
      if accepted i && up i then whole_effect.fact else None in
      record {
        fault = c.fault;
        befalls = subst (λ f. Befalls f old new c.fault) (sym fact) c.befalls;
        shows = subst (Shows config who own m.facts new (role_left now result) (out_of result)) (sym same) c.shows;
      }

  answered : (held : Held) (role : Option Role) (answer : Answer) (out : Output) → Stands config who own held role m
      → out ≡ output_of answer None → node_step config who m input NoFault ≡ answer_outcome m answer
      → fact_to_store config who m input ≡ None → Steps config who own m input held held role out
  answered held role answer out s is same none = record {
    fault = NoFault;
    befalls = subst (λ f. Befalls f held held NoFault) (sym none) refl;
    shows = subst (Shows config who own m.facts held role out) (sym same) (record {
      reply_is = ap (λ (o : Output). o.reply) is;
      now_is = ap (λ (o : Output). o.now) is ∙ sym (unchanged who m.facts);
      sends_are = ap (λ (o : Output). o.sends) is;
      stands = s;
    });
  }

  -- an input that its kind doesn't take
  pub steps_refused : (held : Held) (role : Option Role) (out : Output) → Stands config who own held role m
      → accepts_input who input ≡ false → out ≡ output_of (Refused Refusal.NoSuch) None → Steps config who own m input held held role out
  steps_refused held role out s refused is = answered held role (Refused Refusal.NoSuch) out s is
      (λ i. if not (refused i) then answer_outcome m (Refused Refusal.NoSuch)
      else if not m.up then answer_outcome m (down_answer input)
      else effect_outcome m whole_effect whole_effect.fact m.tear NoFault)
      (λ i. if refused i && m.up then whole_effect.fact else None)

  -- a node that is down
  pub steps_down : (held : Held) (out : Output) → Stands config who own held None m → accepts_input who input ≡ true
      → out ≡ output_of (down_answer input) None → Steps config who own m input held held None out
  steps_down held out s accepted is = answered held None (down_answer input) out s is
      (λ i. if not (accepted i) then answer_outcome m (Refused Refusal.NoSuch)
      else if not (s.role_is i) then answer_outcome m (down_answer input)
      else effect_outcome m whole_effect whole_effect.fact m.tear NoFault)
      (λ i. if accepted i && s.role_is i then whole_effect.fact else None)

  settled_left : (now : Role) (up : Bool) (out : Output) → role_settled (Some now) up ≡ role_left now (carried up out)
  settled_left now true out = refl
  settled_left now false out = refl

  put_out : (up : Bool) (out : Output) → out ≡ out_of (carried up out)
  put_out true out = refl
  put_out false out = refl

  -- of a node that was up, once it is settled
  pub steps_settled : (old new : Held) (was role : Option Role) (before now : Role) (up : Bool) (out : Output)
      → was ≡ Some before → accepts_input who input ≡ true → role ≡ role_settled (Some now) up
      → (RoleStands config who before m.facts m.memory
      → Carries config who m.facts m.memory whole_effect old new now (carried up out))
      → Stands config who own old was m → Steps config who own m input old new role out
  steps_settled old new was role before now up out is accepted role_is carries s =
      let stands : Stands config who own old (Some before) m = subst (λ r. Stands config who own old r m) is s in
      let P : Option Role → Output → Type 0 = λ r o. Steps config who own m input old new r o in
      subst (λ r. P r out) (sym (role_is ∙ settled_left now up out))
      (subst (λ o. P (role_left now (carried up out)) o) (sym (put_out up out))
      (steps_up old new before now (carried up out) stands accepted (carries stands.role_is.2)))

  -- ---- what wants no memory and stores nothing

  -- an input that the node doesn't accept is refused without an append
  pub freely_refused : (held : Held) (role : Option Role) (out : Output) → Stands config who own held role m
      → accepts_input who input ≡ false → out ≡ output_of (Refused Refusal.NoSuch) None
      → StepsFreely config who own m input held held role out
  unfolding steps_refused answered
  freely_refused held role out s refused is = record { same = refl; shows = (steps_refused held role out s refused is).shows }

  -- so is an input at a node that is down
  pub freely_down : (held : Held) (out : Output) → Stands config who own held None m → accepts_input who input ≡ true
      → out ≡ output_of (down_answer input) None → StepsFreely config who own m input held held None out
  unfolding steps_down answered
  freely_down held out s accepted is = record { same = refl; shows = (steps_down held out s accepted is).shows }

  freely_done : (old new : Held) (before now : Role) (out : Output) → Stands config who own old (Some before) m
      → accepts_input who input ≡ true → whole_effect.fact ≡ None
      → IsDone config who m.facts whole_effect old new now out → StepsFreely config who own m input old new (Some now) out
  unfolding done_comes
  freely_done old new before now out s accepted none done =
      let kept : IsKept config who m.facts whole_effect old new now out.now None =
      subst (IsKept config who m.facts whole_effect old new now out.now) none done.kept in
      let c = done_comes config who own m whole_effect old new before s now out done.reply_is done.sends_are None kept in
      let up = s.role_is.0 in
      let same : node_step config who m input NoFault ≡ effect_outcome m whole_effect None m.tear NoFault = λ i.
      if not (accepted i) then answer_outcome m (Refused Refusal.NoSuch)
      else if not (up i) then answer_outcome m (down_answer input)
      else effect_outcome m whole_effect (none i) m.tear NoFault in
      record { same = kept.same; shows = subst (Shows config who own m.facts new (Some now) out) (sym same) c.shows }

  -- what a role carries out without a fact is a step without an append
  pub freely_settled : (old new : Held) (was role : Option Role) (before now : Role) (up : Bool) (out : Output)
      → was ≡ Some before → accepts_input who input ≡ true → role ≡ role_settled (Some now) up
      → (RoleStands config who before m.facts m.memory
      → Carries config who m.facts m.memory whole_effect old new now (carried up out))
      → (RoleStands config who before m.facts m.memory → whole_effect.fact ≡ None → up ≡ true)
      → fact_to_store config who m input ≡ None → Stands config who own old was m → StepsFreely config who own m input old new role out
  freely_settled old new was role before now up out is accepted role_is carries free none s =
      let stands : Stands config who own old (Some before) m = subst (λ r. Stands config who own old r m) is s in
      let there = stands.role_is.0 in
      let fact : fact_to_store config who m input ≡ whole_effect.fact = λ i.
      if accepted i && there i then whole_effect.fact else None in
      let nothing : whole_effect.fact ≡ None = sym fact ∙ none in
      let yes = free stands.role_is.2 nothing in
      let done : IsDone config who m.facts whole_effect old new now out =
      subst (λ b. Carries config who m.facts m.memory whole_effect old new now (carried b out)) yes (carries stands.role_is.2) in
      subst (λ r. StepsFreely config who own m input old new r out) (sym (role_is ∙ ap (role_settled (Some now)) yes))
      (freely_done old new before now out stands accepted nothing done)
