-- Inputs that are handled as one group: what is gathered, and what comes of the append of all.
-- Needed by `gather` and `store_at_once`.
use Rattle.std.proofs.Common.{◌≡◌, ◌∙◌, ℕ, ◌+◌, ◌-◌, ◌<◌, ◌≤◌, zero, suc, Bool, true, false, ◌==◌, List, [], ◌∷◌, ◌++◌, length, take}
use Rattle.std.proofs.Common.{Option, Some, None, inl, inr, ltb, IsTrue, refl, sym, ap, subst, append_assoc, append-nil, arith}
use Rattle.std.specs.Prelude.{is_some, ◌⊎◌, if◌then◌else◌, Result, Ok, Err}
use Rattle.std.proofs.lemmas.Bool.Decides.{nat_tests}
use Rattle.std.proofs.lemmas.List.{length-append}
use Rattle.xid.specs.declared.refusals.Refusal.{Refusal}
use Rattle.xid.specs.declared.refusals.Refusal.TheVariants.{RecordFault, NoMemory}
use Rattle.stable_record.specs.declared.fact.FactKind.{FactKind as Fact}
use Rattle.stable_record.specs.Facts.{IsFact}
use Rattle.stable_record.specs.Held.{Held, Nature, IsAdded, IsStopped, IsStoppedAt, IsCounted}
use Rattle.stable_record.specs.declared.record.RecordError.{RecordError}
use Rattle.stable_record.specs.declared.record.RecordError.TheVariants as errors
use Rattle.protocol.specs.declared.answers.Answer.TheVariants.{Refused}
use Rattle.protocol.specs.declared.nodes.NodeId.{NodeId}
use Rattle.protocol.specs.declared.rows.Row.{Row}
use Rattle.protocol.specs.Effects.{Config, Effect}
use Rattle.protocol.specs.Nodes.{NodeState, Memory, Input, plays, accepts_input, effect_of, node_step}
use Rattle.node_core.specs.declared.output.Output.{Output}
use Rattle.node_core.specs.declared.role.Role.{Role}
use Rattle.node_core.specs.Storing.{fact_frame, output_of, change_made, IsKept, Carries, carried, WasStopped}
use Rattle.node_core.specs.Nodes.{Stands, Steps, StepsFreely, AreSizes, fact_to_store}
use Rattle.node_core.specs.Sparing.{is_free}
use Rattle.node_core.specs.Groups.{Place, Does, Runs, IsSameButKept, StopsIn, Tears, Leaves, Acts, Gathers, ActsOn, GathersOn}
use Rattle.node_core.specs.Groups.{IsStoredAll, Comes, AppendsOnce}
use Rattle.node_core.proofs.Steps.{steps_up, steps_settled, steps_refused, steps_down, freely_refused, freely_down, freely_settled}
use Rattle.node_core.specs.Handling.{IsCarriedOut, Handles}
use Rattle.node_core.specs.declared.config.Sizes.{Sizes}

-- no tear is armed where none is found
pub unarmed_of : (held : Held) → is_some held.armed ≡ false → held.armed ≡ None
unarmed_of held is = by held.armed is
  where
    by : (armed : Option ℕ) → is_some armed ≡ false → armed ≡ None
    by None is = refl
    by (Some n) is = absurd (cc is)

-- ---- runs

module _ (config : Config) (who : NodeId) (own : List Row) where
  -- one input more
  pub gathers_then : (from to next : Place) (inputs : List Input) (outs : List Output) (input : Input) (out : Output) (text more : List ℕ)
      → Gathers config who own from inputs outs text to → Acts config who own to input out more next
      → Gathers config who own from (inputs ++ input ∷ []) (outs ++ out ∷ []) (text ++ more) next
  gathers_then from to next [] [] input out text more g acts = (
    next,
    more,
    [],
    subst (λ (p : Place). Acts config who own p input out more next) g.0 acts,
    ap (λ (xs : List ℕ). xs ++ more) g.1 ∙ sym (append-nil more),
    (refl, refl),
  )
  gathers_then from to next (i ∷ inputs) (o ∷ outs) input out text more g acts = (
    g.0,
    g.1,
    g.2 ++ more,
    g.3,
    ap (λ (xs : List ℕ). xs ++ more) g.4 ∙ append_assoc g.1 g.2 more,
    gathers_then g.0 to next inputs outs input out g.2 more g.5 acts,
  )
  gathers_then from to next [] (o ∷ outs) input out text more g acts = absurd g
  gathers_then from to next (i ∷ inputs) [] input out text more g acts = absurd g

  pub gathers_runs : (from to : Place) (inputs : List Input) (outs : List Output) (text : List ℕ)
      → Gathers config who own from inputs outs text to → Runs config who own from inputs outs to
  gathers_runs from to [] [] text g = g.0
  gathers_runs from to (i ∷ inputs) (o ∷ outs) text g = (g.0, g.3.does, gathers_runs g.0 to inputs outs g.2 g.5)
  gathers_runs from to [] (o ∷ outs) text g = absurd g
  gathers_runs from to (i ∷ inputs) [] text g = absurd g

-- ---- what the append of all comes to

-- a text came behind a record
pub record Behind (old new : Held) (text : List ℕ) : Type 0 where
  pub bytes : new.bytes ≡ old.bytes ++ text
  pub faults : new.faults ≡ old.faults
  pub armed : new.armed ≡ None
  pub nature : new.nature ≡ old.nature

module _ (config : Config) (who : NodeId) (own : List Row) where
  one_behind : (m : NodeState) (input : Input) (old new : Held) (text : List ℕ) → old.armed ≡ None
      → Leaves config who own m input old new text → Behind old new text
  one_behind m input old new text unarmed (inl is) = record {
    bytes = ap (λ (h : Held). h.bytes) is.0 ∙ sym (append-nil old.bytes) ∙ ap (λ (xs : List ℕ). old.bytes ++ xs) (sym is.1);
    faults = ap (λ (h : Held). h.faults) is.0;
    armed = ap (λ (h : Held). h.armed) is.0 ∙ unarmed;
    nature = ap (λ (h : Held). h.nature) is.0;
  }
  one_behind m input old new text unarmed (inr is) = record {
    bytes = is.0.bytes;
    faults = is.0.faults;
    armed = is.0.armed;
    nature = is.0.nature;
  }

  pub all_behind : (from to : Place) (inputs : List Input) (outs : List Output) (text : List ℕ) → from.held.armed ≡ None
      → Gathers config who own from inputs outs text to → Behind from.held to.held text
  all_behind from to [] [] text unarmed g = record {
    bytes = ap (λ (p : Place). p.held.bytes) g.0 ∙ sym (append-nil from.held.bytes) ∙ ap (λ (xs : List ℕ). from.held.bytes ++ xs) (sym g.1);
    faults = ap (λ (p : Place). p.held.faults) g.0;
    armed = ap (λ (p : Place). p.held.armed) g.0 ∙ unarmed;
    nature = ap (λ (p : Place). p.held.nature) g.0;
  }
  all_behind from to (i ∷ inputs) (o ∷ outs) text unarmed g =
      let one = one_behind from.state i from.held g.0.held g.1 unarmed g.3.leaves in
      let rest = all_behind g.0 to inputs outs g.2 one.armed g.5 in
      record {
        bytes = rest.bytes ∙ ap (λ (xs : List ℕ). xs ++ g.2) one.bytes ∙ append_assoc from.held.bytes g.1 g.2
            ∙ ap (λ (xs : List ℕ). from.held.bytes ++ xs) (sym g.4);
        faults = rest.faults ∙ one.faults;
        armed = rest.armed;
        nature = rest.nature ∙ one.nature;
      }
  all_behind from to [] (o ∷ outs) text unarmed g = absurd g
  all_behind from to (i ∷ inputs) [] text unarmed g = absurd g

  -- an input more in front
  in_front : (from next : Place) (input : Input) (out : Output) (inputs : List Input) (new : Held) (why : Refusal)
      → Does config who own from input out next → StopsIn config who own next inputs new why
      → StopsIn config who own from (input ∷ inputs) new why
  in_front from next input out inputs new why does s = record {
    before = input ∷ s.before;
    at = s.at;
    behind = s.behind;
    inputs_are = ap (λ (is : List Input). input ∷ is) s.inputs_are;
    outs = out ∷ s.outs;
    place = s.place;
    runs = (next, does, s.runs);
    left = s.left;
    left_is = s.left_is;
    out = s.out;
    stopped = s.stopped;
    reply_is = s.reply_is;
  }

  same_but_kept : (held : Held) → IsSameButKept held held
  same_but_kept held = record { bytes = refl; faults = refl; armed = refl; nature = refl }

  stops_here : (from : Place) (input : Input) (inputs : List Input) (left new : Held) (why : Refusal) → IsSameButKept left new
      → (out : Output) × Steps config who own from.state input from.held left None out × (out.reply ≡ Refused why)
      → StopsIn config who own from (input ∷ inputs) new why
  stops_here from input inputs left new why same stopped = record {
    before = [];
    at = input;
    behind = inputs;
    inputs_are = refl;
    outs = [];
    place = from;
    runs = refl;
    left = left;
    left_is = same;
    out = stopped.0;
    stopped = stopped.1;
    reply_is = stopped.2;
  }

  take_within : (n : ℕ) (xs ys : List ℕ) → n ≤ length xs → take n (xs ++ ys) ≡ take n xs
  take_within zero xs ys le = refl
  take_within (suc n) [] ys le = absurd (omega arith)
  take_within (suc n) (x ∷ xs) ys le = ap (λ (zs : List ℕ). x ∷ zs) (take_within n xs ys (omega arith))

  take_beyond : (n : ℕ) (xs ys : List ℕ) → length xs ≤ n → take n (xs ++ ys) ≡ xs ++ take (n - length xs) ys
  take_beyond n [] ys le = let e : n ≡ n - 0 = omega arith in ap (λ (k : ℕ). take k ys) e
  take_beyond zero (x ∷ xs) ys le = absurd (omega arith)
  take_beyond (suc n) (x ∷ xs) ys le =
      let e : n - length xs ≡ suc n - length (x ∷ xs) = omega arith in
      ap (λ (zs : List ℕ). x ∷ zs) (take_beyond n xs ys (omega arith) ∙ ap (λ (k : ℕ). xs ++ take k ys) e)

  stopped_within : (first rest : List ℕ) (old new : Held) → old.armed ≡ None → IsStopped (first ++ rest) old new
      → new.kept ≤ length first → IsStopped first old new
  stopped_within first rest old new unarmed is le =
      let at = subst (λ armed. IsStoppedAt armed old.nature.may_fail (length (first ++ rest)) new.kept) unarmed is.at in
      record {
        at = subst (λ armed. IsStoppedAt armed old.nature.may_fail (length first) new.kept) (sym unarmed) (at.0, le);
        bytes = is.bytes ∙ ap (λ (xs : List ℕ). old.bytes ++ xs) (take_within new.kept first rest le);
        counted = is.counted;
        armed = is.armed;
        nature = is.nature;
      }

  -- the record, with what is kept counted from the end of a text on
  abbrev counted_from : List ℕ → Held → Held
  counted_from first new = record {
    bytes = new.bytes;
    kept = new.kept - length first;
    faults = new.faults;
    armed = new.armed;
    nature = new.nature;
  }

  stopped_beyond : (first rest : List ℕ) (old next new : Held) → old.armed ≡ None → Behind old next first
      → IsStopped (first ++ rest) old new
      → length first ≤ new.kept → IsStopped rest next (counted_from first new)
  stopped_beyond first rest old next new unarmed b is le =
      let at = subst (λ armed. IsStoppedAt armed old.nature.may_fail (length (first ++ rest)) new.kept) unarmed is.at in
      let few : new.kept - length first ≤ length rest = omega (arith, at.1, le, length-append first rest) in
      record {
        at = subst (λ armed. IsStoppedAt armed next.nature.may_fail (length rest) (new.kept - length first)) (sym b.armed)
            (subst (λ b. IsTrue b) (sym (ap (λ (n : Nature). n.may_fail) b.nature)) at.0, few);
        bytes = is.bytes ∙ ap (λ (xs : List ℕ). old.bytes ++ xs) (take_beyond new.kept first rest le)
            ∙ sym (append_assoc old.bytes first (take (new.kept - length first) rest))
            ∙ ap (λ (xs : List ℕ). xs ++ take (new.kept - length first) rest) (sym b.bytes);
        counted = subst (λ n. IsCounted n new.faults) (sym b.faults) is.counted;
        armed = is.armed;
        nature = is.nature ∙ sym b.nature;
      }

  again_counted : (first : List ℕ) (from : Place) (inputs : List Input) (new : Held) (why : Refusal)
      → StopsIn config who own from inputs (counted_from first new) why → StopsIn config who own from inputs new why
  again_counted first from inputs new why s = record {
    before = s.before;
    at = s.at;
    behind = s.behind;
    inputs_are = s.inputs_are;
    outs = s.outs;
    place = s.place;
    runs = s.runs;
    left = s.left;
    left_is = record { bytes = s.left_is.bytes; faults = s.left_is.faults; armed = s.left_is.armed; nature = s.left_is.nature };
    out = s.out;
    stopped = s.stopped;
    reply_is = s.reply_is;
  }

  -- where the one append is stopped: at the input in front, or among those behind it
  stops_by : (from next : Place) (input : Input) (out : Output) (inputs : List Input) (first rest : List ℕ) (new : Held)
      → from.held.armed ≡ None → Does config who own from input out next → 0 < length first + length rest
      → IsStopped (first ++ rest) from.held new
      → ((left : Held) → next.held.armed ≡ None → 0 < length rest → IsStopped rest next.held left
      → StopsIn config who own next inputs left RecordFault)
      → Leaves config who own from.state input from.held next.held first → (t : Bool) → ltb (length first) new.kept ≡ t
      → StopsIn config who own from (input ∷ inputs) new RecordFault
  stops_by from next input out inputs first rest new unarmed does some all later (inl same) t e =
      let none : length first ≡ 0 = ap length same.1 in
      let there : IsStopped rest next.held new = subst (λ (h : Held). IsStopped rest h new) (sym same.0)
      (subst (λ (xs : List ℕ). IsStopped (xs ++ rest) from.held new) same.1 all) in
      in_front from next input out inputs new RecordFault does
      (later new (ap (λ (h : Held). h.armed) same.0 ∙ unarmed) (omega (arith, some, none)) there)
  stops_by from next input out inputs first rest new unarmed does some all later (inr added) true e =
      let lt : length first < new.kept = grind (arith, nat_tests, e) in
      let b = one_behind from.state input from.held next.held first unarmed (inr added) in
      let there = stopped_beyond first rest from.held next.held new unarmed b all (omega (arith, lt)) in
      let at = subst (λ armed. IsStoppedAt armed from.held.nature.may_fail (length (first ++ rest)) new.kept) unarmed all.at in
      in_front from next input out inputs new RecordFault does
      (again_counted first next inputs new RecordFault
      (later (counted_from first new) b.armed (omega (arith, at.1, lt, length-append first rest)) there))
  stops_by from next input out inputs first rest new unarmed does some all later (inr added) false e =
      let le : new.kept ≤ length first = grind (arith, nat_tests, e) in
      stops_here from input inputs new new RecordFault (same_but_kept new)
      (added.1.stops new (stopped_within first rest from.held new unarmed all le))

  -- where the one append is stopped, there is an input whose own append is stopped
  pub stops_in : (from to : Place) (inputs : List Input) (outs : List Output) (text : List ℕ) (new : Held) → from.held.armed ≡ None
      → Gathers config who own from inputs outs text to → 0 < length text → IsStopped text from.held new
      → StopsIn config who own from inputs new RecordFault
  stops_in from to [] [] text new unarmed g some is = let none : length text ≡ 0 = ap length g.1 in absurd (omega (arith, none, some))
  stops_in from to (i ∷ inputs) (o ∷ outs) text new unarmed g some is =
      let len : length text ≡ length g.1 + length g.2 = ap length g.4 ∙ length-append g.1 g.2 in
      stops_by from g.0 i o inputs g.1 g.2 new unarmed g.3.does (omega (arith, len, some))
      (subst (λ (xs : List ℕ). IsStopped xs from.held new) g.4 is)
      (λ left untorn more there. stops_in g.0 to inputs outs g.2 left untorn g.5 more there) g.3.leaves (ltb (length g.1) new.kept) refl
  stops_in from to [] (o ∷ outs) text new unarmed g some is = absurd g
  stops_in from to (i ∷ inputs) [] text new unarmed g some is = absurd g

  runs_out_by : (from next : Place) (input : Input) (out : Output) (inputs : List Input) (first rest : List ℕ) (new : Held)
      → Does config who own from input out next → 0 < length first + length rest → new ≡ from.held
      → (0 < length rest → new ≡ next.held → StopsIn config who own next inputs new NoMemory)
      → Leaves config who own from.state input from.held next.held first
      → StopsIn config who own from (input ∷ inputs) new NoMemory
  runs_out_by from next input out inputs first rest new does some is later (inl same) =
      let none : length first ≡ 0 = ap length same.1 in
      in_front from next input out inputs new NoMemory does (later (omega (arith, some, none)) (is ∙ sym same.0))
  runs_out_by from next input out inputs first rest new does some is later (inr added) =
      stops_here from input inputs from.held new NoMemory
      (subst (λ (h : Held). IsSameButKept from.held h) (sym is) (same_but_kept from.held)) added.1.runs_out

  -- where it finds no memory, there is one whose own append finds none
  pub runs_out_in : (from to : Place) (inputs : List Input) (outs : List Output) (text : List ℕ) (new : Held)
      → Gathers config who own from inputs outs text to → 0 < length text → new ≡ from.held
      → StopsIn config who own from inputs new NoMemory
  runs_out_in from to [] [] text new g some is = let none : length text ≡ 0 = ap length g.1 in absurd (omega (arith, none, some))
  runs_out_in from to (i ∷ inputs) (o ∷ outs) text new g some is =
      let len : length text ≡ length g.1 + length g.2 = ap length g.4 ∙ length-append g.1 g.2 in
      runs_out_by from g.0 i o inputs g.1 g.2 new g.3.does (omega (arith, len, some)) is
      (λ more same. runs_out_in g.0 to inputs outs g.2 new g.5 more same) g.3.leaves
  runs_out_in from to [] (o ∷ outs) text new g some is = absurd g
  runs_out_in from to (i ∷ inputs) [] text new g some is = absurd g

-- ---- one input

module _ (config : Config) (who : NodeId) (own : List Row) (m : NodeState) (input : Input) (held : Held) (unarmed : held.armed ≡ None) where
  abbrev the_effect : Effect Memory
  the_effect = effect_of config who m.facts m.memory input

  abbrev place : Option Role → Place
  place role = record { state = m; held = held; role = role }

  -- an input that leaves the record as it is
  acts_nothing : (was role : Option Role) (out : Output) (old new : Held) → old.armed ≡ None → new ≡ old
      → Steps config who own m input held held role out
      → (is_free who input ≡ true → fact_to_store config who m input ≡ None → StepsFreely config who own m input held held role out)
      → ActsOn config who own (place was) input out role old new
  acts_nothing was role out old new untorn same s free = record {
    text = [];
    to = record { state = (node_step config who m input s.fault).node; held = held; role = role };
    acts = record { does = record { steps = s; state_is = refl; free = free }; leaves = inl (refl, refl) };
    role_is = refl;
    bytes_are = ap (λ (h : Held). h.bytes) same ∙ sym (append-nil old.bytes);
    armed_is = ap (λ (h : Held). h.armed) same ∙ untorn;
  }

  module _ (role : Role) (s : Stands config who own held (Some role) m) (accepted : accepts_input who input ≡ true) where
    tears : (fact : Fact) → the_effect.fact ≡ Some fact → IsFact fact → plays config who m.facts fact ≡ true
        → Tears config who own m input held (fact_frame fact)
    tears fact is valid fits = record {
      stops = λ new stopped.
          let whole : Bool = new.kept == length (fact_frame fact) in
          let out : Output = output_of (Refused RecordFault) (if whole then change_made who fact else None) in
          let was : WasStopped config who m.facts the_effect held new out = record {
            fact = fact;
            fact_is = is;
            valid = valid;
            fits = fits;
            whole = whole;
            torn = record { stopped = stopped; whole_is = refl };
            out_is = refl;
          } in
          (out, steps_up config who own m input held new role role (Err out) s accepted (inr was), refl);
      runs_out =
          let out : Output = output_of (Refused NoMemory) None in (
            out,
            steps_up config who own m input held held role role (Err out) s accepted (inl (record { same = refl; out_is = refl })),
            refl,
          );
    }

    -- a record that stands for the frames and can't fail was handled so, and so would be the record itself
    record Again (old new : Held) (now : Role) (result : Result Output Output) : Type 0 where
      pub text : List ℕ
      pub after : Held
      pub bytes_are : new.bytes ≡ old.bytes ++ text
      pub armed_is : new.armed ≡ None
      pub carries : Carries config who m.facts m.memory the_effect held after now result
      pub leaves : Leaves config who own m input held after text

    done_again : (old new : Held) (now : Role) (out : Output) → old.armed ≡ None → out.reply ≡ the_effect.answer
        → out.sends ≡ the_effect.sends → (f : Option Fact) → the_effect.fact ≡ f
        → IsKept config who m.facts the_effect old new now out.now f → Again old new now (Ok out)
    done_again old new now out untorn reply sends None is k = record {
      text = [];
      after = held;
      bytes_are = ap (λ (h : Held). h.bytes) k.same ∙ sym (append-nil old.bytes);
      armed_is = ap (λ (h : Held). h.armed) k.same ∙ untorn;
      carries = record {
        reply_is = reply;
        sends_are = sends;
        kept = subst (IsKept config who m.facts the_effect held held now out.now) (sym is)
            (record { same = refl; now_is = k.now_is; stands = k.stands });
      };
      leaves = inl (refl, refl);
    }
    done_again old new now out untorn reply sends (Some fact) is k =
        let text : List ℕ = fact_frame fact in
        let after : Held =
        record { bytes = held.bytes ++ text; kept = length text; faults = held.faults; armed = None; nature = held.nature } in
        let added : IsAdded text held after =
        record { bytes = refl; kept = refl; faults = refl; unarmed = unarmed; armed = refl; nature = refl } in
        record {
          text = text;
          after = after;
          bytes_are = k.added.bytes;
          armed_is = k.added.armed;
          carries = record {
            reply_is = reply;
            sends_are = sends;
            kept = subst (IsKept config who m.facts the_effect held after now out.now) (sym is)
                (record { valid = k.valid; fits = k.fits; added = added; now_is = k.now_is; stands = k.stands });
          };
          leaves = inr (added, tears fact is k.valid k.fits);
        }

    never_stopped : (old new : Held) (len : ℕ) → old.armed ≡ None → old.nature.may_fail ≡ false
        → IsStoppedAt old.armed old.nature.may_fail len new.kept → ⊥
    never_stopped old new len untorn never at =
        let wrong : false ≡ true =
        subst (λ b. IsTrue b) never (subst (λ armed. IsStoppedAt armed old.nature.may_fail len new.kept) untorn at).0 in
        absurd (cc wrong)

    carried_again : (old new : Held) (now : Role) (result : Result Output Output) → old.armed ≡ None → old.nature.may_fail ≡ false
        → Carries config who m.facts m.memory the_effect old new now result → Again old new now result
    carried_again old new now (Ok out) untorn never is =
        done_again old new now out untorn is.reply_is is.sends_are the_effect.fact refl is.kept
    carried_again old new now (Err out) untorn never (inl is) = record {
      text = [];
      after = held;
      bytes_are = ap (λ (h : Held). h.bytes) is.same ∙ sym (append-nil old.bytes);
      armed_is = ap (λ (h : Held). h.armed) is.same ∙ untorn;
      carries = inl (record { same = refl; out_is = is.out_is });
      leaves = inl (refl, refl);
    }
    carried_again old new now (Err out) untorn never (inr is) =
        absurd (never_stopped old new _ untorn never is.torn.stopped.at)

  -- of a node that was up
  acts_carried : (sizes : Sizes) (old new : Held) (was role : Option Role) (out : Output) → old.armed ≡ None → old.nature.may_fail ≡ false
      → AreSizes config sizes → IsCarriedOut who sizes input old new was role out → Stands config who own held was m
      → ActsOn config who own (place was) input out role old new
  acts_carried sizes old new was role out untorn never are h s =
      let stands : Stands config who own held (Some h.before) m = subst (λ r. Stands config who own held r m) h.was_is s in
      let again = carried_again h.before stands h.accepted old new h.after (carried h.up out) untorn never
      (h.carries config m.facts m.memory are stands.role_is.2) in
      let steps = steps_settled config who own m input held again.after was role h.before h.after h.up out h.was_is h.accepted h.role_is
      (λ r. again.carries) s in
      let free : is_free who input ≡ true → fact_to_store config who m input ≡ None
      → StepsFreely config who own m input held again.after role out =
      λ is none. freely_settled config who own m input held again.after was role h.before h.after h.up out h.was_is h.accepted h.role_is
      (λ r. again.carries) (λ r without. h.free is config m.facts m.memory are r without) none s in
      record {
        text = again.text;
        to = record { state = (node_step config who m input steps.fault).node; held = again.after; role = role };
        acts = record { does = record { steps = steps; state_is = refl; free = free }; leaves = again.leaves };
        role_is = refl;
        bytes_are = again.bytes_are;
        armed_is = again.armed_is;
      }

  -- where nothing is armed, what comes of an input is what its act leaves
  pub acts_of : (sizes : Sizes) (old new : Held) (was role : Option Role) (out : Output) → old.armed ≡ None → old.nature.may_fail ≡ false
      → AreSizes config sizes → Handles who sizes input old new was role out → Stands config who own held was m
      → ActsOn config who own (place was) input out role old new
  acts_of sizes old new was role out untorn never are (inl h) s =
      subst (λ r. ActsOn config who own (place was) input out r old new) (sym h.role_is)
      (acts_nothing was was out old new untorn h.held_is (steps_refused config who own m input held was out s h.refused h.out_is)
      (λ is none. freely_refused config who own m input held was out s h.refused h.out_is))
  acts_of sizes old new was role out untorn never are (inr (inl h)) s =
      subst (λ r. ActsOn config who own (place was) input out r old new) (sym h.role_is)
      (acts_nothing was None out old new untorn h.held_is
      (steps_down config who own m input held out (subst (λ r. Stands config who own held r m) h.was_is s) h.accepted h.out_is)
      (λ is none. freely_down config who own m input held out (subst (λ r. Stands config who own held r m) h.was_is s) h.accepted h.out_is))
  acts_of sizes old new was role out untorn never are (inr (inr h)) s =
      acts_carried sizes old new was role out untorn never are h s

-- ---- all inputs

module _ (config : Config) (who : NodeId) (own : List Row) where
  gathers_stands : (from to : Place) (inputs : List Input) (outs : List Output) (text : List ℕ)
      → Stands config who own from.held from.role from.state → Gathers config who own from inputs outs text to
      → Stands config who own to.held to.role to.state
  gathers_stands from to [] [] text s g = subst (λ (p : Place). Stands config who own p.held p.role p.state) (sym g.0) s
  gathers_stands from to (i ∷ inputs) (o ∷ outs) text s g =
      gathers_stands g.0 to inputs outs g.2
      (subst (λ m. Stands config who own g.0.held g.0.role m) (sym g.3.does.state_is) g.3.does.steps.shows.stands) g.5
  gathers_stands from to [] (o ∷ outs) text s g = absurd g
  gathers_stands from to (i ∷ inputs) [] text s g = absurd g

  -- the inputs that were gathered, and one more
  pub gathers_more : (from : Place) (inputs : List Input) (outs : List Output) (role after : Option Role) (old mid new : Held)
      → (input : Input) (out : Output) → from.held.armed ≡ None → Stands config who own from.held from.role from.state
      → GathersOn config who own from inputs outs role old mid
      → ((m : NodeState) (held : Held) → held.armed ≡ None → mid.armed ≡ None → Stands config who own held role m
      → ActsOn config who own (record { state = m; held = held; role = role }) input out after mid new)
      → GathersOn config who own from (inputs ++ input ∷ []) (outs ++ out ∷ []) after old new
  gathers_more from inputs outs role after old mid new input out unarmed s g acts =
      let to = g.to in
      let behind = all_behind config who own from to inputs outs g.text unarmed g.gathers in
      let stands = gathers_stands from to inputs outs g.text s g.gathers in
      let one = acts to.state to.held behind.armed g.armed_is
      (subst (λ r. Stands config who own to.held r to.state) g.role_is stands) in
      let there : Acts config who own to input out one.text one.to =
      subst (λ r. Acts config who own (record { state = to.state; held = to.held; role = r }) input out one.text one.to) (sym g.role_is)
      one.acts in
      record {
        text = g.text ++ one.text;
        to = one.to;
        gathers = gathers_then config who own from to one.to inputs outs input out g.text one.text g.gathers there;
        role_is = one.role_is;
        bytes_are = one.bytes_are ∙ ap (λ (xs : List ℕ). xs ++ one.text) g.bytes_are ∙ append_assoc old.bytes g.text one.text;
        armed_is = one.armed_is;
      }

  -- ---- the append of all

  stored_held : (base to new : Held) (text : List ℕ) → base.armed ≡ None → Behind base to text
      → ((text ≡ []) × (new ≡ base)) ⊎ ((0 < length text) × IsAdded text base new) → IsSameButKept to new
  stored_held base to new text unarmed b (inl is) = record {
    bytes = ap (λ (h : Held). h.bytes) is.1 ∙ sym (append-nil base.bytes) ∙ ap (λ (xs : List ℕ). base.bytes ++ xs) (sym is.0) ∙ sym b.bytes;
    faults = ap (λ (h : Held). h.faults) is.1 ∙ sym b.faults;
    armed = ap (λ (h : Held). h.armed) is.1 ∙ unarmed ∙ sym b.armed;
    nature = ap (λ (h : Held). h.nature) is.1 ∙ sym b.nature;
  }
  stored_held base to new text unarmed b (inr (some, is)) = record {
    bytes = is.bytes ∙ sym b.bytes;
    faults = is.faults ∙ sym b.faults;
    armed = is.armed ∙ sym b.armed;
    nature = is.nature ∙ sym b.nature;
  }

  -- what comes of a group once all that it gathered was appended, or was not
  pub comes : (from : Place) (inputs : List Input) (outs : List Output) (role : Option Role) (frames all : Held) (text : List ℕ)
      (new : Held)
      → from.held.armed ≡ None → frames.bytes ≡ [] → GathersOn config who own from inputs outs role frames all → text ≡ all.bytes
      → (result : Result (Unit {0}) RecordError) → IsStoredAll text from.held new result
      → Comes config who own from inputs outs role new result
  comes from inputs outs role frames all text new unarmed none g text_is result stored =
      by result (subst (λ xs. IsStoredAll xs from.held new result) same stored)
    where
      same : text ≡ g.text
      same = text_is ∙ g.bytes_are ∙ ap (λ (xs : List ℕ). xs ++ g.text) none

      by : (result : Result (Unit {0}) RecordError) → IsStoredAll g.text from.held new result
          → Comes config who own from inputs outs role new result
      by (Ok done) is = record {
        to = g.to;
        runs = gathers_runs config who own from g.to inputs outs g.text g.gathers;
        role_is = sym g.role_is;
        held_is = stored_held from.held g.to.held new g.text unarmed
            (all_behind config who own from g.to inputs outs g.text unarmed g.gathers) is;
      }
      by (Err errors.Fault) is = stops_in config who own from g.to inputs outs g.text new unarmed g.gathers is.0 is.1
      by (Err errors.Memory) is = runs_out_in config who own from g.to inputs outs g.text new g.gathers is.0 is.1

-- one append, or none
pub stored_once : (text : List ℕ) (old new : Held) (result : Result (Unit {0}) RecordError) → IsStoredAll text old new result
    → AppendsOnce old new result
stored_once text old new (Ok done) (inl is) = inl is.1
stored_once text old new (Ok done) (inr is) = inr (text, is.0, is.1)
stored_once text old new (Err error) is = (text, is.0, is.1)
