-- A client whose lines were all answered, in their order, is such a client still after a group in which lines of it were taken. Needed
-- where all that happens to it is put together (LifeRuns).
use Rattle.std.proofs.Common.{◌≡◌, inl, inr, ◌≤◌, ◌<◌, ◌++◌, ◌∷◌, ◌&&◌, [], List, ℕ, Option, Some, None, Vec, Bool, true, false, not, cond}
use Rattle.std.proofs.Common.{if◌then◌else◌, length, slice_get, map, refl, sym, ap, ◌∙◌, subst, append_assoc, arith, IsSomeAnd}
use Rattle.std.specs.Prelude.{filter, nat_lt}
use Rattle.std.specs.Borrow.{Bor}
use Rattle.std.specs.List.{filter_map, flat_map, AllByRecursion, AllZip}
use Rattle.std.specs.Option.{option_map}
use Rattle.std.specs.declared.alloc.Global.{Global}
use Rattle.std.specs.declared.time.Instant.{Instant}
use Rattle.std.proofs.lemmas.Bool.{and_parts, cases_Bool, not-true}
use Rattle.std.proofs.lemmas.List.{append-nil, map-append}
use Rattle.std.proofs.lemmas.List.Concat.{flat_map-append}
use Rattle.std.proofs.lemmas.List.Elements.{filter_map-append}
use Rattle.slab.specs.Slab.{Slab, get}
use Rattle.protocol.specs.declared.answers.Answer.{Answer}
use Rattle.protocol.specs.declared.nodes.NodeId.{NodeId}
use Rattle.protocol.proofs.Lists.{all_joined}
use Rattle.serving.specs.declared.group.Item.{Item}
use Rattle.serving.specs.declared.group.Origin.TheVariants.{Client}
use Rattle.serving.specs.declared.group.Work.{Work}
use Rattle.serving.specs.declared.group.Work.TheVariants.{Ask, Say}
use Rattle.serving.specs.declared.lines.TheConstants.{MOST_OUTPUT}
use Rattle.serving.specs.declared.proving.Lock.{Lock}
use Rattle.serving.specs.declared.stage.Stage.{Stage}
use Rattle.serving.specs.declared.stage.Stage.TheVariants.{Awaiting, Open, Proving}
use Rattle.serving.specs.declared.terms.Terms.{Terms}
use Rattle.serving.specs.declared.words.Wish.TheVariants.{Await}
use Rattle.serving.specs.Clients.{is_awaiting, is_proving, may_ask, ClientParts}
use Rattle.serving.specs.Groups.{after_one, answers_to, is_handed, is_said, texts_for, with_answers, Told}
use Rattle.serving.specs.Happenings.{Heard, Past, after_items, after_work, with_awaits, IsSilent, WorksOn}
use Rattle.serving.specs.Lives.{AreAmong, answered_text, has_answer, Answered, AreDone, IsAnswered, IsTaken, StandsBefore}
use Rattle.serving.specs.Proving.{IsProof}
use Rattle.serving.specs.Served.{served_at, served_of, told_text, Served}
use Rattle.serving.specs.Taking.{after_proof, is_at, items_at, with_ends, GivesProof, HearsAt, HearsClient, IsItemOf, TakesLines}
use Rattle.serving.specs.Taking.{HoldsUpLast, TakesProof}
use Rattle.serving.proofs.LifeLemmas.{before_more, life_breaks}
use Rattle.serving.proofs.LifeLists.{among_none, from_ends}
use Rattle.serving.proofs.LifeLists.{all_filter, answered_from, done_all, done_behind, done_open, from_done, from_each}
use Rattle.serving.proofs.LifeLists.{from_lines}
use Rattle.serving.proofs.LifeLists.{from_served, from_text, lines_two, only_last, own_stage, IsReady, OnlyLast, Zipped}
use Rattle.serving.proofs.ServedLemmas.{first_at, items_taken, more_at, none_at, not_for, texts_at}

-- ---- a client's items among those of a group

items_served : (key : ℕ) (items : List Item) (replies : List (Bor Answer)) (said : List (Vec ℕ Global))
    → map (λ one. one.item) (served_at key (served_of items replies said)) ≡ items_at key items
items_served key [] replies said = refl
items_served key (item ∷ items) replies said =
    let one : Served = record { item = item; reply = slice_get replies 0; said = slice_get said 0 } in
    let more_replies : List (Bor Answer) = after_one (is_handed item.work) replies in
    let more_said : List (Vec ℕ Global) = after_one (is_said item.work) said in
    let rest : List Served = served_at key (served_of items more_replies more_said) in
    elim (cases_Bool (is_at key item)) [
      | inl here ↦
          ap (λ (b : Bool). map (λ one. one.item) (cond b (one ∷ rest) rest)) here
          ∙ ap (λ (list : List Item). item ∷ list) (items_served key items more_replies more_said) ∙ sym (first_at key item items here)
      | inr away ↦
          ap (λ (b : Bool). map (λ one. one.item) (cond b (one ∷ rest) rest)) away ∙ items_served key items more_replies more_said
          ∙ sym (none_at key item items away)
    ]

-- only a client's own items count for what its next lines are
after_own : (terms : Terms) (who : NodeId) (until : Instant) (key number : ℕ) (items : List Item) (lines : List (List ℕ)) (stage : Stage)
    → AllZip (IsItemOf terms (Client key number)) lines (items_at key items)
    → after_items who until key number items stage ≡ own_stage who until (items_at key items) stage
after_own terms who until key number [] lines stage each = refl
after_own terms who until key number (item ∷ items) lines stage each =
    let after : Stage = after_work who until item.work stage in
    elim (cases_Bool (is_at key item)) [
      | inl here ↦
          let (lines_more, each_more) = more_at terms key number lines item (items_at key items)
          (subst (AllZip (IsItemOf terms (Client key number)) lines) (first_at key item items here) each) in
          ap (λ (b : Bool). after_items who until key number items (if b then after else stage)) each_more.0
          ∙ after_own terms who until key number items lines_more after each_more.1
          ∙ sym (ap (λ (list : List Item). own_stage who until list stage) (first_at key item items here))
      | inr away ↦
          ap (λ (b : Bool). after_items who until key number items (if b then after else stage)) (not_for key number item.origin away)
          ∙ after_own terms who until key number items lines stage
          (subst (AllZip (IsItemOf terms (Client key number)) lines) (none_at key item items away) each)
          ∙ sym (ap (λ (list : List Item). own_stage who until list stage) (none_at key item items away))
    ]

-- ---- what each is answered is there

ready_now : (work : Work) (replies : List (Bor Answer)) (said : List (Vec ℕ Global)) → (is_handed work ≡ true → 0 < length replies)
    → (is_said work ≡ true → 0 < length said) → has_answer work (slice_get replies 0) (slice_get said 0) ≡ true
ready_now (Ask request) [] said handed spoken = let none : 0 < 0 = handed refl in absurd (omega (arith, none))
ready_now (Ask request) (reply ∷ replies) said handed spoken = refl
ready_now (Say (Await tx)) replies said handed spoken = refl
ready_now (Say wish) replies [] handed spoken = let none : 0 < 0 = spoken refl in absurd (omega (arith, none))
ready_now (Say wish) replies (text ∷ said) handed spoken = refl
ready_now work replies said handed spoken = refl

first_there : {X : Type 0} (b : Bool) (item : Item) (kept : List Item) (list : List X) → length (cond b (item ∷ kept) kept) ≤ length list
    → b ≡ true → 0 < length list
first_there true item kept list enough is = omega (arith, enough)
first_there false item kept list enough is = absurd (cc)

left_enough : {X : Type 0} (b : Bool) (item : Item) (kept : List Item) (list : List X) → length (cond b (item ∷ kept) kept) ≤ length list
    → length kept ≤ length (after_one b list)
left_enough true item kept [] enough = absurd (omega (arith, enough))
left_enough true item kept (x ∷ list) enough = omega (arith, enough)
left_enough false item kept list enough = enough

ready_all : (items : List Item) (replies : List (Bor Answer)) (said : List (Vec ℕ Global))
    → length (filter (λ item. is_handed item.work) items) ≤ length replies → length (filter (λ item. is_said item.work) items) ≤ length said
    → AllByRecursion IsReady (served_of items replies said)
ready_all [] replies said replied spoken = tt
ready_all (item ∷ items) replies said replied spoken =
    let handed : List Item = filter (λ item. is_handed item.work) items in
    let wishes : List Item = filter (λ item. is_said item.work) items in (
      ready_now item.work replies said (first_there (is_handed item.work) item handed replies replied)
          (first_there (is_said item.work) item wishes said spoken),
      ready_all items (after_one (is_handed item.work) replies) (after_one (is_said item.work) said)
          (left_enough (is_handed item.work) item handed replies replied) (left_enough (is_said item.work) item wishes said spoken),
    )

-- ---- small things

zip_map : {A B C : Type 0} (R : A → C → Type 0) (f : B → C) (xs : List A) (ys : List B) → AllZip R xs (map f ys)
    → AllZip (λ x y. R x (f y)) xs ys
zip_map R f [] [] each = tt
zip_map R f [] (y ∷ ys) each = absurd each
zip_map R f (x ∷ xs) [] each = absurd each
zip_map R f (x ∷ xs) (y ∷ ys) each = (each.0, zip_map R f xs ys each.1)

none_served : (ones : List Served) → map (λ one. one.item) ones ≡ [] → ones ≡ []
none_served [] none = refl
none_served (one ∷ ones) none = absurd (cc (none))

after_open : (who : NodeId) (until : Instant) (work : Work) (stage : Stage) → is_proving stage ≡ false
    → is_proving (after_work who until work stage) ≡ false
after_open who until (Say (Await tx)) stage free = refl
after_open who until work stage free = free

own_open : (who : NodeId) (until : Instant) (items : List Item) (stage : Stage) → is_proving stage ≡ false
    → is_proving (own_stage who until items stage) ≡ false
own_open who until [] stage free = free
own_open who until (item ∷ items) stage free =
    own_open who until items (after_work who until item.work stage) (after_open who until item.work stage free)

-- lines more, from the front of what wasn't taken
bytes_more : (wrote proof ends more all input rest : List ℕ) → wrote ≡ proof ++ (ends ++ input) → input ≡ more ++ rest
    → all ≡ ends ++ more → wrote ≡ proof ++ (all ++ rest)
bytes_more wrote proof ends more all input rest were front both =
    were ∙ ap (λ (bytes : List ℕ). proof ++ (ends ++ bytes)) front
    ∙ ap (λ (bytes : List ℕ). proof ++ bytes) (sym (append_assoc ends more rest))
    ∙ ap (λ (bytes : List ℕ). proof ++ (bytes ++ rest)) (sym both)

-- text more, behind what it was told
text_more : (greeting text more all sent output : List ℕ) → greeting ++ text ≡ sent ++ output → all ≡ text ++ more
    → greeting ++ all ≡ sent ++ (output ++ more)
text_more greeting text more all sent output was both =
    ap (λ (bytes : List ℕ). greeting ++ bytes) both ∙ sym (append_assoc greeting text more) ∙ ap (λ (bytes : List ℕ). bytes ++ more) was
    ∙ append_assoc sent output more

-- lines more, none of which has ended
ends_more : (answered more : List Answered) (heard : List Heard) → filter_map (λ one. one.end) more ≡ []
    → AreAmong (filter_map (λ one. one.end) answered) heard → AreAmong (filter_map (λ one. one.end) (answered ++ more)) heard
ends_more answered more heard none among =
    let before : List Heard = filter_map (λ one. one.end) answered in
    subst (λ (list : List Heard). AreAmong list heard) (sym (filter_map-append (λ (one : Answered). one.end) answered more
    ∙ ap (λ (list : List Heard). before ++ list) none ∙ append-nil before)) among

-- who may ask isn't broken, and doesn't wait
asks : (client : ClientParts) → may_ask client ≡ true → (client.is_broken ≡ false) × (is_awaiting client.stage ≡ false)
asks client may =
    let both = and_parts (not client.is_broken && nat_lt (length client.output) MOST_OUTPUT) (not (is_awaiting client.stage)) may in
    let first = and_parts (not client.is_broken) (nat_lt (length client.output) MOST_OUTPUT) both.0 in
    (not-true client.is_broken first.0, not-true (is_awaiting client.stage) both.1)

-- ---- its proof

-- who is to prove that it has the key, and isn't broken, has come so, and no line of it was taken
proof_due : (lock : Option Lock) (came : Stage) (proof : List ℕ) (answered : List Answered) (stage : Stage) (is_broken : Bool)
    (challenge : List ℕ) → StandsBefore lock came proof answered stage is_broken → stage ≡ Proving challenge → is_broken ≡ false
    → (came ≡ Proving challenge) × (proof ≡ []) × (answered ≡ [])
proof_due lock (Proving due) proof answered stage is_broken challenge (inl before) was whole =
    (sym before.due ∙ was, before.nothing, before.none)
proof_due lock (Proving due) proof answered stage is_broken challenge (inr (inl before)) was whole =
    let wrong : false ≡ true = sym before.over ∙ ap is_proving was in absurd (cc (wrong))
proof_due lock (Proving due) proof answered stage is_broken challenge (inr (inr before)) was whole =
    let wrong : true ≡ false = sym before.broken ∙ whole in absurd (cc (wrong))
proof_due lock Open proof answered stage is_broken challenge before was whole =
    let wrong : false ≡ true = sym before.1 ∙ ap is_proving was in absurd (cc (wrong))
proof_due lock (Awaiting request until is_asked) proof answered stage is_broken challenge before was whole =
    let wrong : false ≡ true = sym before.1 ∙ ap is_proving was in absurd (cc (wrong))

given_idle : (client : ClientParts) (rest : List ℕ) (is_proved : Bool) → is_awaiting client.stage ≡ false
    → is_awaiting (after_proof is_proved (record client { input = rest })).stage ≡ false
given_idle client rest true idle = refl
given_idle client rest false idle = idle

proof_idle : (terms : Terms) (client mid : ClientParts) → is_awaiting client.stage ≡ false → TakesProof terms client mid
    → is_awaiting mid.stage ≡ false
proof_idle terms client mid idle (inl same) = ap (λ (c : ClientParts). is_awaiting c.stage) same ∙ idle
proof_idle terms client mid idle (inr (inl long)) = ap (λ (c : ClientParts). is_awaiting c.stage) long.after ∙ idle
proof_idle terms client mid idle (inr (inr gives)) =
    ap (λ (c : ClientParts). is_awaiting c.stage) gives.after ∙ given_idle client gives.rest gives.is_proved idle

module _ (who : NodeId) (lock : Option Lock) (key number : ℕ) (came : Stage) (greeting : List ℕ) (past : Past) where
  abbrev Life : List Served → ClientParts → Type 0
  Life served client = IsAnswered who lock key number came greeting (record past { served = served }) client

  given_before : (terms : Terms) (client mid : ClientParts) (gives : GivesProof terms client mid) (is_proved : Bool) → terms.lock ≡ lock
      → gives.is_proved ≡ is_proved → came ≡ Proving gives.challenge
      → StandsBefore lock came (gives.line ++ 10 ∷ []) [] (after_proof is_proved (record client { input = gives.rest })).stage
      (after_proof is_proved (record client { input = gives.rest })).is_broken
  given_before terms client mid gives true lock_is is came_is =
      let right : IsProof lock gives.challenge gives.line =
      subst (λ (l : Option Lock). IsProof l gives.challenge gives.line) lock_is (gives.proved.0 is) in
      subst (λ (c : Stage). StandsBefore lock c (gives.line ++ 10 ∷ []) [] Open client.is_broken) (sym came_is)
      (inr (inl (record { line = gives.line; first = refl; right = right; over = refl })))
  given_before terms client mid gives false lock_is is came_is =
      let no_way : IsProof lock gives.challenge gives.line → false ≡ true = λ proof.
      sym is ∙ gives.proved.1 (subst (λ (l : Option Lock). IsProof l gives.challenge gives.line) (sym lock_is) proof) in
      subst (λ (c : Stage). StandsBefore lock c (gives.line ++ 10 ∷ []) [] client.stage true) (sym came_is)
      (inr (inr (record {
        line = gives.line;
        first = refl;
        whole = gives.cut.first;
        wrong = λ proof. let wrong : false ≡ true = no_way proof in cc (wrong);
        none = refl;
        due = gives.was;
        broken = refl;
      })))

  given_same : (client : ClientParts) (rest : List ℕ) (is_proved : Bool)
      → ((after_proof is_proved (record client { input = rest })).number ≡ client.number)
      × ((after_proof is_proved (record client { input = rest })).input ≡ rest)
      × ((after_proof is_proved (record client { input = rest })).output ≡ client.output)
  given_same client rest true = (refl, refl, refl)
  given_same client rest false = (refl, refl, refl)

  proof_given : (terms : Terms) (client mid : ClientParts) (served : List Served) → terms.lock ≡ lock → client.is_broken ≡ false
      → GivesProof terms client mid → Life served client → Life served mid
  proof_given terms client mid served lock_is whole gives life =
      let due = proof_due lock came life.proof life.answered client.stage client.is_broken gives.challenge life.before gives.was whole in
      let after : ClientParts = after_proof gives.is_proved (record client { input = gives.rest }) in
      let same = given_same client gives.rest gives.is_proved in
      subst (Life served) (sym gives.after) (record {
        number_is = same.0 ∙ life.number_is;
        answered = [];
        these = ap (λ (list : List Answered). map (λ one. one.served) list) (sym due.2) ∙ life.these;
        proof = gives.line ++ 10 ∷ [];
        before = given_before terms client mid gives gives.is_proved lock_is refl due.0;
        input = life.input ∙ ap (λ (proof : List ℕ). proof ++ (with_ends (map (λ one. one.line) life.answered) ++ client.input)) due.1
            ∙ ap (λ (list : List Answered). with_ends (map (λ one. one.line) list) ++ client.input) due.2 ∙ gives.cut.whole
            ∙ sym (append_assoc gives.line (10 ∷ []) gives.rest)
            ∙ ap (λ (rest : List ℕ). (gives.line ++ 10 ∷ []) ++ rest) (sym same.1);
        output = ap (λ (list : List Answered). greeting ++ flat_map answered_text list) (sym due.2) ∙ life.output
            ∙ ap (λ (text : List ℕ). past.sent ++ text) (sym same.2);
        each = tt;
        ends = among_none past.heard;
        done = done_open who after.stage [] (given_idle client gives.rest gives.is_proved (ap is_awaiting gives.was)) refl;
      })

  proof_taken : (terms : Terms) (client mid : ClientParts) (served : List Served) → terms.lock ≡ lock → client.is_broken ≡ false
      → TakesProof terms client mid → Life served client → Life served mid
  proof_taken terms client mid served lock_is whole (inl same) life = subst (Life served) (sym same) life
  proof_taken terms client mid served lock_is whole (inr (inl long)) life =
      subst (Life served) (sym long.after) (life_breaks who lock key number came greeting (record past { served = served }) client life)
  proof_taken terms client mid served lock_is whole (inr (inr gives)) life = proof_given terms client mid served lock_is whole gives life

  -- ---- its lines

  -- what is left of a client whose items were these, after they were answered and an await began
  abbrev left_of : (until : Instant) → List Item → List Served → ClientParts → ClientParts
  left_of until own ones heard =
      record heard { stage = own_stage who until own heard.stage; output = heard.output ++ flat_map told_text ones }

  no_lines : (until : Instant) (client heard : ClientParts) (served ones : List Served) (own : List Item) → heard ≡ client → own ≡ []
      → map (λ one. one.item) ones ≡ own → Life served client → Life (served ++ ones) (left_of until own ones heard)
  no_lines until client heard served ones own same none are life =
      let no_ones : ones ≡ [] = none_served ones (are ∙ none) in
      let told : Life served (record client { output = client.output ++ [] }) =
      subst (λ (text : List ℕ). Life served (record client { output = text })) (sym (append-nil client.output)) life in
      let more : Life (served ++ []) (left_of until [] [] client) =
      subst (λ (list : List Served). Life list (left_of until [] [] client)) (sym (append-nil served)) told in
      let as_own : Life (served ++ []) (left_of until own [] client) =
      subst (λ (items : List Item). Life (served ++ []) (left_of until items [] client)) (sym none) more in
      let as_ones : Life (served ++ ones) (left_of until own ones client) =
      subst (λ (list : List Served). Life (served ++ list) (left_of until own list client)) (sym no_ones) as_own in
      subst (λ (c : ClientParts). Life (served ++ ones) (left_of until own ones c)) (sym same) as_ones

  zipped_own : (terms : Terms) (until : Instant) (its_number : ℕ) (lines : List (List ℕ)) (ones : List Served) (own : List Item)
      → its_number ≡ number → map (λ one. one.item) ones ≡ own → AllZip (IsItemOf terms (Client key its_number)) lines own
      → Zipped terms who key number until lines ones
  zipped_own terms until its_number lines ones own same are each =
      zip_map (IsItemOf terms (Client key number)) (λ one. one.item) lines ones
      (subst (λ (n : ℕ). AllZip (IsItemOf terms (Client key n)) lines (map (λ one. one.item) ones)) same
      (subst (AllZip (IsItemOf terms (Client key its_number)) lines) (sym are) each))

  done_own : (terms : Terms) (until : Instant) (lines : List (List ℕ)) (ones : List Served) (own : List Item) (was now : Stage)
      → now ≡ was → map (λ one. one.item) ones ≡ own → Zipped terms who key number until lines ones → AllByRecursion IsReady ones
      → HoldsUpLast own → is_awaiting was ≡ false
      → AreDone who (answered_from terms until lines ones) (own_stage who until own now)
  done_own terms until lines ones own was now same are zipped ready last idle =
      let more : List Answered = answered_from terms until lines ones in
      subst (λ (items : List Item). AreDone who more (own_stage who until items now)) are
      (subst (λ (stage : Stage). AreDone who more (own_stage who until (map (λ one. one.item) ones) stage)) (sym same)
      (from_done terms who key number until lines ones was zipped ready (subst OnlyLast (sym are) (only_last own last)) idle))

  lines_taken : (terms : Terms) (until : Instant) (mid heard : ClientParts) (served ones : List Served) (own : List Item) → terms.who ≡ who
      → TakesLines terms key mid heard own → map (λ one. one.item) ones ≡ own → AllByRecursion IsReady ones → AllByRecursion IsSilent ones
      → is_awaiting mid.stage ≡ false → is_proving mid.stage ≡ false → Life served mid
      → Life (served ++ ones) (left_of until own ones heard)
  lines_taken terms until mid heard served ones own at takes are ready silent idle free life =
      let front = takes.front in
      let lines = front.lines in
      let more = answered_from terms until lines ones in
      let number_is : heard.number ≡ mid.number = ap (λ (c : ClientParts). c.number) takes.same in
      let stage_is : heard.stage ≡ mid.stage = ap (λ (c : ClientParts). c.stage) takes.same in
      let output_is : heard.output ≡ mid.output = ap (λ (c : ClientParts). c.output) takes.same in
      let zipped : Zipped terms who key number until lines ones =
      zipped_own terms until mid.number lines ones own life.number_is are front.each in
      let ends : List ℕ = with_ends (map (λ one. one.line) life.answered) in
      let ends_all : with_ends (map (λ one. one.line) (life.answered ++ more)) ≡ ends ++ with_ends lines =
      lines_two life.answered more
      ∙ ap (λ (list : List (List ℕ)). ends ++ with_ends list) (from_lines terms who key number until lines ones zipped) in
      record {
        number_is = number_is ∙ life.number_is;
        answered = life.answered ++ more;
        these = map-append (λ (one : Answered). one.served) life.answered more
            ∙ ap (λ (list : List Served). list ++ map (λ one. one.served) more) life.these
            ∙ ap (λ (list : List Served). served ++ list) (from_served terms who key number until lines ones zipped);
        proof = life.proof;
        before = before_more lock came life.proof life.answered (life.answered ++ more) mid.stage (own_stage who until own heard.stage)
            mid.is_broken heard.is_broken free (own_open who until own heard.stage (ap is_proving stage_is ∙ free)) life.before;
        input = bytes_more past.wrote life.proof ends (with_ends lines) (with_ends (map (λ one. one.line) (life.answered ++ more)))
            mid.input heard.input life.input front.bytes_are ends_all;
        output = text_more greeting (flat_map answered_text life.answered) (flat_map told_text ones)
            (flat_map answered_text (life.answered ++ more)) past.sent heard.output
            (life.output ∙ ap (λ (bytes : List ℕ). past.sent ++ bytes) (sym output_is))
            (flat_map-append answered_text life.answered more
            ∙ ap (λ (bytes : List ℕ). flat_map answered_text life.answered ++ bytes)
            (from_text terms who key number until lines ones zipped silent));
        each = all_joined (IsTaken who key number) life.answered more life.each (from_each terms who key number until lines ones zipped at);
        ends = ends_more life.answered more past.heard (from_ends terms until lines ones) life.ends;
        done = done_behind who (own_stage who until own heard.stage) life.answered more
            (done_all who mid.stage life.answered idle life.done)
            (done_own terms until lines ones own mid.stage heard.stage stage_is are zipped ready front.last idle);
      }

  -- what it wrote was looked at, and it was told the answers
  client_works : (terms : Terms) (until : Instant) (client heard : ClientParts) (served ones : List Served) (own : List Item)
      → terms.who ≡ who → terms.lock ≡ lock → HearsClient terms key client heard own → map (λ one. one.item) ones ≡ own
      → AllByRecursion IsReady ones → AllByRecursion IsSilent ones → Life served client
      → Life (served ++ ones) (left_of until own ones heard)
  client_works terms until client heard served ones own at lock_is hears are ready silent life =
      elim (cases_Bool (may_ask client)) [
        | inl may ↦
            let both = asks client may in
            let mid_life : Life served hears.mid = proof_taken terms client hears.mid served lock_is both.0 hears.proof life in
            elim (cases_Bool (is_proving hears.mid.stage)) [
              | inl proving ↦
                  let none = hears.unproved proving in no_lines until hears.mid heard served ones own none.0 none.1 are mid_life
              | inr free ↦
                  lines_taken terms until hears.mid heard served ones own at hears.lines are ready silent
                  (proof_idle terms client hears.mid both.1 hears.proof) free mid_life
            ]
        | inr may_not ↦ let none = hears.idle may_not in no_lines until client heard served ones own none.0 none.1 are life
      ]

  -- ---- a group

  abbrev LifeAt : List Served → Option ClientParts → Type 0
  LifeAt served seat = IsSomeAnd seat (Life served)

  seat_works : (terms : Terms) (until : Instant) (items : List Item) (replies : List (Bor Answer)) (said : List (Vec ℕ Global))
      (served : List Served) (seat heard told new : Option ClientParts) → terms.who ≡ who → terms.lock ≡ lock
      → AllByRecursion IsReady (served_at key (served_of items replies said))
      → AllByRecursion IsSilent (served_at key (served_of items replies said)) → HearsAt terms key seat heard (items_at key items)
      → told ≡ option_map (with_answers key (answers_to items replies said)) heard
      → new ≡ option_map (with_awaits who until key items) told → LifeAt served seat
      → LifeAt (served ++ served_at key (served_of items replies said)) new
  seat_works terms until items replies said served None heard told new at lock_is ready silent hears tells begins life = absurd life
  seat_works terms until items replies said served (Some client) None told new at lock_is ready silent hears tells begins life =
      absurd hears
  seat_works terms until items replies said served (Some client) (Some heard) told new at lock_is ready silent hears tells begins life =
      let ones : List Served = served_at key (served_of items replies said) in
      let own : List Item = items_at key items in
      let answers : List Told = answers_to items replies said in
      let front = hears.lines.front in
      let number_is : heard.number ≡ hears.mid.number = ap (λ (c : ClientParts). c.number) hears.lines.same in
      let text_is : texts_for key heard.number answers ≡ flat_map told_text ones =
      ap (λ (n : ℕ). texts_for key n answers) number_is
      ∙ texts_at terms key hears.mid.number items replies said front.lines front.each in
      let stage_is : after_items who until key heard.number items heard.stage ≡ own_stage who until own heard.stage =
      ap (λ (n : ℕ). after_items who until key n items heard.stage) number_is
      ∙ after_own terms who until key hears.mid.number items front.lines heard.stage front.each in
      let lived : Life (served ++ ones) (left_of until own ones heard) =
      client_works terms until client heard served ones own at lock_is hears (items_served key items replies said) ready silent life in
      let told_life : Life (served ++ ones)
      (record heard { stage = own_stage who until own heard.stage; output = heard.output ++ texts_for key heard.number answers }) =
      subst (λ (text : List ℕ). Life (served ++ ones)
      (record heard { stage = own_stage who until own heard.stage; output = heard.output ++ text }))
      (sym text_is) lived in
      let begun : Life (served ++ ones) (with_awaits who until key items (with_answers key answers heard)) =
      subst (λ (stage : Stage). Life (served ++ ones)
      (record heard { stage = stage; output = heard.output ++ texts_for key heard.number answers })) (sym stage_is) told_life in
      subst (LifeAt (served ++ ones)) (sym (begins ∙ ap (option_map (with_awaits who until key items)) tells)) begun

  -- after a group
  pub life_works : (terms : Terms) (ahead items : List Item) (replies : List (Bor Answer)) (said : List (Vec ℕ Global)) (until : Instant)
      (old new : Slab ClientParts) → WorksOn who lock terms ahead items replies said until old new
      → IsSomeAnd (get old key) (IsAnswered who lock key number came greeting past)
      → IsSomeAnd (get new key) (IsAnswered who lock key number came greeting
      (record past { served = past.served ++ served_at key (served_of items replies said) }))
  life_works terms ahead items replies said until old new works life =
      let all : List Served = served_of items replies said in
      let hears : HearsAt terms key (get old key) (get works.heard key) (items_at key items) =
      subst (HearsAt terms key (get old key) (get works.heard key))
      (sym (items_taken key ahead items works.hears.taken works.nobodys works.hears.after_is)) (works.hears.each key) in
      seat_works terms until items replies said past.served (get old key) (get works.heard key) (get works.told key) (get new key)
      works.who_is works.lock_is
      (all_filter IsReady (λ one. is_at key one.item) all (ready_all items replies said works.replied works.spoken))
      (all_filter IsSilent (λ one. is_at key one.item) all works.silent) hears (works.tells key) (works.begins key) life
