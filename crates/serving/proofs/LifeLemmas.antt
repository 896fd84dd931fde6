-- A client whose lines were all answered, in their order, is such a client still after what happens to it alone. Needed where all that
-- happens is put together (LifeRuns); what a group does is in LifeGroups.
use Rattle.std.proofs.Common.{◌≡◌, inl, inr, ◌++◌, ◌∷◌, ◌||◌, [], List, ℕ, Option, Some, Bool, true, false, if◌then◌else◌, map}
use Rattle.std.proofs.Common.{refl, sym, ap, ◌∙◌, subst, append_assoc}
use Rattle.std.specs.Prelude.{nat_le}
use Rattle.std.specs.List.{cons_option, filter_map, flat_map, list_all, AllByRecursion}
use Rattle.std.specs.Time.{instant_nanos}
use Rattle.std.specs.declared.time.Instant.{Instant}
use Rattle.std.proofs.lemmas.Bool.{and_from, cond_both}
use Rattle.std.proofs.lemmas.List.{append-nil, map-append}
use Rattle.std.proofs.lemmas.List.Concat.{flat_map-append}
use Rattle.std.proofs.lemmas.List.Elements.{filter_map-append}
use Rattle.std.proofs.lemmas.List.Folds.{list_all-append}
use Rattle.protocol.specs.declared.answers.Answer.{Answer}
use Rattle.protocol.specs.declared.nodes.NodeId.{NodeId}
use Rattle.protocol.specs.declared.requests.Request.{Request}
use Rattle.protocol.proofs.Lists.{all_joined}
use Rattle.serving.specs.declared.group.Work.{Work}
use Rattle.serving.specs.declared.proving.Lock.{Lock}
use Rattle.serving.specs.declared.stage.Stage.{Stage}
use Rattle.serving.specs.declared.stage.Stage.TheVariants.{Awaiting, Open, Proving}
use Rattle.serving.specs.Clients.{after_standing, fresh_client, is_awaiting, is_last_word, is_proving, is_told, once_asked, with_told}
use Rattle.serving.specs.Clients.{ClientParts}
use Rattle.serving.specs.Groups.{reply_line}
use Rattle.serving.specs.Happenings.{is_await, Heard, Past}
use Rattle.serving.specs.Lives.{answered_text, end_text, has_answer, is_done, is_ended, Answered, AreAmong, AreDone, IsAnswered, IsAwaited}
use Rattle.serving.specs.Lives.{IsTaken, StandsBefore}
use Rattle.serving.specs.Served.{told_text}
use Rattle.serving.specs.Taking.{with_ends}
use Rattle.serving.proofs.LifeLists.{all_parts, among_last, among_more, done_open}

-- ---- what stands before its lines

first_before : (lock : Option Lock) (came : Stage) → is_awaiting came ≡ false → StandsBefore lock came [] [] came false
first_before lock (Proving challenge) asks = inl (record { nothing = refl; none = refl; due = refl })
first_before lock Open asks = (refl, refl)
first_before lock (Awaiting request until is_asked) asks = (refl, refl)

-- is the same where the client is to be let go
pub before_broken : (lock : Option Lock) (came : Stage) (proof : List ℕ) (answered : List Answered) (stage : Stage) (is_broken : Bool)
    → StandsBefore lock came proof answered stage is_broken → StandsBefore lock came proof answered stage true
before_broken lock (Proving challenge) proof answered stage is_broken (inl due) = inl due
before_broken lock (Proving challenge) proof answered stage is_broken (inr (inl right)) = inr (inl right)
before_broken lock (Proving challenge) proof answered stage is_broken (inr (inr wrong)) = inr (inr (record {
  line = wrong.line;
  first = wrong.first;
  whole = wrong.whole;
  wrong = wrong.wrong;
  none = wrong.none;
  due = wrong.due;
  broken = refl;
}))
before_broken lock Open proof answered stage is_broken before = before
before_broken lock (Awaiting request until is_asked) proof answered stage is_broken before = before

-- and is the same behind a proof, whatever lines are taken
pub before_more : (lock : Option Lock) (came : Stage) (proof : List ℕ) (a b : List Answered) (was now : Stage) (was_broken is_broken : Bool)
    → is_proving was ≡ false → is_proving now ≡ false → StandsBefore lock came proof a was was_broken
    → StandsBefore lock came proof b now is_broken
before_more lock (Proving challenge) proof a b was now was_broken is_broken past free (inl due) =
    let wrong : false ≡ true = sym past ∙ ap is_proving due.due in absurd (cc (wrong))
before_more lock (Proving challenge) proof a b was now was_broken is_broken past free (inr (inl right)) =
    inr (inl (record { line = right.line; first = right.first; right = right.right; over = free }))
before_more lock (Proving challenge) proof a b was now was_broken is_broken past free (inr (inr wrong)) =
    let no_way : false ≡ true = sym past ∙ ap is_proving wrong.due in absurd (cc (no_way))
before_more lock Open proof a b was now was_broken is_broken past free before = (before.0, free)
before_more lock (Awaiting request until is_asked) proof a b was now was_broken is_broken past free before = (before.0, free)

-- ---- a client for itself

module _ (who : NodeId) (lock : Option Lock) (key number : ℕ) (came : Stage) (greeting : List ℕ) where
  abbrev Life : Past → ClientParts → Type 0
  Life past client = IsAnswered who lock key number came greeting past client

  -- when it comes
  pub life_comes : (now : Instant) → is_awaiting came ≡ false
      → Life (record { wrote = []; sent = []; served = []; heard = [] }) (with_told greeting (fresh_client number came now))
  life_comes now asks = record {
    number_is = refl;
    answered = [];
    these = refl;
    proof = [];
    before = first_before lock came asks;
    input = refl;
    output = append-nil greeting;
    each = tt;
    ends = refl;
    done = done_open who came [] asks refl;
  }

  -- when bytes of it come
  pub life_writes : (past : Past) (bytes : List ℕ) (client : ClientParts) → Life past client
      → Life (record past { wrote = past.wrote ++ bytes }) (record client { input = client.input ++ bytes })
  life_writes past bytes client life =
      let lines : List ℕ = with_ends (map (λ one. one.line) life.answered) in
      record {
        number_is = life.number_is;
        answered = life.answered;
        these = life.these;
        proof = life.proof;
        before = life.before;
        input = ap (λ (all : List ℕ). all ++ bytes) life.input ∙ append_assoc life.proof (lines ++ client.input) bytes
            ∙ ap (λ (all : List ℕ). life.proof ++ all) (append_assoc lines client.input bytes);
        output = life.output;
        each = life.each;
        ends = life.ends;
        done = life.done;
      }

  -- when no more come
  pub life_ends : (past : Past) (client : ClientParts) → Life past client
      → Life past (record client { has_ended = true })
  life_ends past client life = record {
    number_is = life.number_is;
    answered = life.answered;
    these = life.these;
    proof = life.proof;
    before = life.before;
    input = life.input;
    output = life.output;
    each = life.each;
    ends = life.ends;
    done = life.done;
  }

  -- when it is to be let go
  pub life_breaks : (past : Past) (client : ClientParts) → Life past client
      → Life past (record client { is_broken = true })
  life_breaks past client life = record {
    number_is = life.number_is;
    answered = life.answered;
    these = life.these;
    proof = life.proof;
    before = before_broken lock came life.proof life.answered client.stage client.is_broken life.before;
    input = life.input;
    output = life.output;
    each = life.each;
    ends = life.ends;
    done = life.done;
  }

  -- when bytes were sent to it
  pub life_gets : (past : Past) (bytes rest : List ℕ) (client : ClientParts) → client.output ≡ bytes ++ rest
      → Life past client → Life (record past { sent = past.sent ++ bytes }) (record client { output = rest })
  life_gets past bytes rest client front life = record {
    number_is = life.number_is;
    answered = life.answered;
    these = life.these;
    proof = life.proof;
    before = life.before;
    input = life.input;
    output = life.output ∙ ap (λ (all : List ℕ). past.sent ++ all) front ∙ sym (append_assoc past.sent bytes rest);
    each = life.each;
    ends = life.ends;
    done = life.done;
  }

  -- ---- the end of a transaction that it waits for

  -- it heard more
  heard_more : (past : Past) (more : List Heard) (client : ClientParts)
      → Life past client → Life (record past { heard = past.heard ++ more }) client
  heard_more past more client life = record {
    number_is = life.number_is;
    answered = life.answered;
    these = life.these;
    proof = life.proof;
    before = life.before;
    input = life.input;
    output = life.output;
    each = life.each;
    ends = among_more (filter_map (λ one. one.end) life.answered) past.heard more life.ends;
    done = life.done;
  }

  asked_on : (past : Past) (client : ClientParts) (request : Request) (until : Instant) (is_asked : Bool)
      → client.stage ≡ Awaiting request until is_asked → Life past client
      → Life past (record client { stage = Awaiting request until true })
  asked_on past client request until is_asked was life =
      let done : AreDone who life.answered (Awaiting request until is_asked) = subst (AreDone who life.answered) was life.done in
      record {
        number_is = life.number_is;
        answered = life.answered;
        these = life.these;
        proof = life.proof;
        before = before_more lock came life.proof life.answered life.answered client.stage (Awaiting request until true) client.is_broken
            client.is_broken (ap is_proving was) refl life.before;
        input = life.input;
        output = life.output;
        each = life.each;
        ends = life.ends;
        done = done;
      }

  -- the last of its lines, after an answer
  abbrev ended_now : Answer → Instant → Answered → Answered
  ended_now answer now last = record last { end = Some (answer, now) }

  ended_text : (answer : Answer) (now : Instant) (front : List Answered) (last : Answered) (request : Request) (until : Instant)
      → IsAwaited who request until last
      → flat_map answered_text (front ++ ended_now answer now last ∷ [])
      ≡ flat_map answered_text (front ++ last ∷ []) ++ reply_line answer
  ended_text answer now front last request until awaited =
      let line : List ℕ = reply_line answer in
      let told : List ℕ = told_text last.served in
      let before : List ℕ = flat_map answered_text front in
      let waits : is_await last.served.item.work ≡ true = ap is_await awaited.work in
      let old : answered_text last ≡ [] =
      ap (λ (b : Bool). if b then end_text last.end else told) waits ∙ ap end_text awaited.waits in
      let new : answered_text (ended_now answer now last) ≡ line = ap (λ (b : Bool). if b then line else told) waits in
      flat_map-append answered_text front (ended_now answer now last ∷ [])
      ∙ ap (λ (text : List ℕ). before ++ (text ++ [])) new
      ∙ ap (λ (text : List ℕ). before ++ text) (append-nil line)
      ∙ ap (λ (text : List ℕ). text ++ line) (sym (append-nil before))
      ∙ ap (λ (text : List ℕ). (before ++ (text ++ [])) ++ line) (sym old)
      ∙ ap (λ (text : List ℕ). text ++ line) (sym (flat_map-append answered_text front (last ∷ [])))

  ended_done : (answer : Answer) (now : Instant) (front : List Answered) (last : Answered) (request : Request) (until : Instant)
      → IsAwaited who request until last → list_all is_done front ≡ true
      → (is_last_word answer || nat_le (instant_nanos until) (instant_nanos now)) ≡ true
      → list_all is_done (front ++ ended_now answer now last ∷ []) ≡ true
  ended_done answer now front last request until awaited all told =
      let one = ended_now answer now last in
      let work : Work = last.served.item.work in
      let ready : has_answer work last.served.reply last.served.said ≡ true =
      ap (λ (w : Work). has_answer w last.served.reply last.served.said) awaited.work in
      let over : is_ended (is_await work) last.until (Some (answer, now)) ≡ true =
      ap (λ (w : Work). is_ended (is_await w) last.until (Some (answer, now))) awaited.work
      ∙ ap (λ (at : Instant). is_last_word answer || nat_le (instant_nanos at) (instant_nanos now)) awaited.same ∙ told in
      let done : is_done one ≡ true =
      and_from (has_answer work last.served.reply last.served.said) (is_ended (is_await work) last.until (Some (answer, now))) ready over in
      list_all-append is_done front (one ∷ [])
      ∙ and_from (list_all is_done front) (list_all is_done (one ∷ [])) all (and_from (is_done one) true done refl)

  ended_last : (answer : Answer) (now : Instant) (front : List Answered) (last : Answered) (request : Request) (until : Instant)
      → IsAwaited who request until last
      → filter_map (λ one. one.end) (front ++ ended_now answer now last ∷ [])
      ≡ filter_map (λ one. one.end) (front ++ last ∷ []) ++ (answer, now) ∷ []
  ended_last answer now front last request until awaited =
      let end : Answered → Option Heard = λ one. one.end in
      let before : List Heard = filter_map end front in
      filter_map-append end front (ended_now answer now last ∷ [])
      ∙ ap (λ (list : List Heard). list ++ (answer, now) ∷ []) (sym (append-nil before)
      ∙ ap (λ (o : Option Heard). before ++ cons_option o []) (sym awaited.waits) ∙ sym (filter_map-append end front (last ∷ [])))

  told_end : (past : Past) (client : ClientParts) (answer : Answer) (now : Instant) (request : Request)
      (until : Instant) (is_asked : Bool) → client.stage ≡ Awaiting request until is_asked
      → (is_last_word answer || nat_le (instant_nanos until) (instant_nanos now)) ≡ true → Life past client
      → Life (record past { heard = past.heard ++ (answer, now) ∷ [] })
      (record client { stage = Open; output = client.output ++ reply_line answer })
  told_end past client answer now request until is_asked was told life =
      let waits : AreDone who life.answered (Awaiting request until is_asked) = subst (AreDone who life.answered) was life.done in
      let front : List Answered = waits.0 in
      let last : Answered = waits.1 in
      let all : List Answered = front ++ ended_now answer now last ∷ [] in
      let each = all_parts (IsTaken who key number) front (last ∷ [])
      (subst (AllByRecursion (IsTaken who key number)) waits.2 life.each) in
      let lines : with_ends (map (λ one. one.line) all) ≡ with_ends (map (λ one. one.line) life.answered) =
      ap with_ends (map-append (λ (one : Answered). one.line) front (ended_now answer now last ∷ [])
      ∙ sym (map-append (λ (one : Answered). one.line) front (last ∷ []))
      ∙ ap (λ (list : List Answered). map (λ one. one.line) list) (sym waits.2)) in
      record {
        number_is = life.number_is;
        answered = all;
        these = map-append (λ (one : Answered). one.served) front (ended_now answer now last ∷ [])
            ∙ sym (map-append (λ (one : Answered). one.served) front (last ∷ []))
            ∙ ap (λ (list : List Answered). map (λ one. one.served) list) (sym waits.2) ∙ life.these;
        proof = life.proof;
        before = before_more lock came life.proof life.answered all client.stage Open client.is_broken client.is_broken
            (ap is_proving was) refl life.before;
        input = life.input ∙ ap (λ (bytes : List ℕ). life.proof ++ (bytes ++ client.input)) (sym lines);
        output = ap (λ (text : List ℕ). greeting ++ text) (ended_text answer now front last request until waits.4)
            ∙ sym (append_assoc greeting (flat_map answered_text (front ++ last ∷ [])) (reply_line answer))
            ∙ ap (λ (list : List Answered). (greeting ++ flat_map answered_text list) ++ reply_line answer) (sym waits.2)
            ∙ ap (λ (text : List ℕ). text ++ reply_line answer) life.output ∙ append_assoc past.sent client.output (reply_line answer);
        each = all_joined (IsTaken who key number) front (ended_now answer now last ∷ []) each.0
            (record { at = each.1.0.at; its = each.1.0.its }, tt);
        ends = subst (λ (list : List Heard). AreAmong list (past.heard ++ (answer, now) ∷ []))
            (sym (ended_last answer now front last request until waits.4
            ∙ ap (λ (list : List Answered). filter_map (λ one. one.end) list ++ (answer, now) ∷ []) (sym waits.2)))
            (among_last (filter_map (λ one. one.end) life.answered) past.heard (answer, now) life.ends);
        done = ended_done answer now front last request until waits.4 waits.3 told;
      }

  same_stage : (past : Past) (client : ClientParts) (stage : Stage) → client.stage ≡ stage
      → Life past client → Life past (record client { stage = stage })
  same_stage past client stage was life =
      subst (λ (s : Stage). Life past (record client { stage = s })) was life

  by_stage : (past : Past) (client : ClientParts) (answer : Answer) (now : Instant)
      (stage : Stage) → client.stage ≡ stage → Life past client
      → Life (record past { heard = past.heard ++ (answer, now) ∷ [] }) client
      → Life (record past { heard = past.heard ++ (answer, now) ∷ [] })
      (if is_told answer now stage then record client { stage = Open; output = client.output ++ reply_line answer }
      else record client { stage = once_asked stage })
  by_stage past client answer now (Awaiting request until is_asked) was life more =
      let all : Past = record past { heard = past.heard ++ (answer, now) ∷ [] } in
      cond_both (is_last_word answer || nat_le (instant_nanos until) (instant_nanos now))
      (record client { stage = Open; output = client.output ++ reply_line answer }) (record client { stage = Awaiting request until true })
      (Life all) (λ told. told_end past client answer now request until is_asked was told life)
      (λ waits. asked_on all client request until is_asked was more)
  by_stage past client answer now Open was life more =
      same_stage (record past { heard = past.heard ++ (answer, now) ∷ [] }) client Open was more
  by_stage past client answer now (Proving challenge) was life more =
      same_stage (record past { heard = past.heard ++ (answer, now) ∷ [] }) client (Proving challenge) was more

  -- when it hears how its transaction stands
  pub life_hears : (past : Past) (client : ClientParts) (answer : Answer) (now : Instant)
      → Life past client
      → Life (record past { heard = past.heard ++ (answer, now) ∷ [] }) (after_standing answer now client)
  life_hears past client answer now life =
      by_stage past client answer now client.stage refl life
      (heard_more past ((answer, now) ∷ []) client life)
