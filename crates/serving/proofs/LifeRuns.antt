-- In each run a client that comes in and is not let go is sent the answers to its lines, and nothing else. The law of that needs it
-- (laws::each_is_answered).
use Rattle.std.proofs.Common.{◌≡◌, inl, inr, ◌++◌, ◌∷◌, ◌==◌, [], List, ℕ, Option, Some, None, Bool, true, false, not, if◌then◌else◌}
use Rattle.std.proofs.Common.{refl, sym, ap, ◌∙◌, subst, append_assoc, IsSomeAnd}
use Rattle.std.specs.Option.{option_map}
use Rattle.std.specs.declared.time.Instant.{Instant}
use Rattle.protocol.specs.declared.answers.Answer.{Answer}
use Rattle.std.proofs.lemmas.Bool.{and_parts, cases_Bool, eq-eqb, not-true}
use Rattle.std.proofs.lemmas.Bool.Decides.{Decides-eqb}
use Rattle.std.proofs.lemmas.List.{append-nil}
use Rattle.slab.specs.Slab.{Slab, get, Updates}
use Rattle.protocol.specs.declared.nodes.NodeId.{NodeId}
use Rattle.serving.specs.declared.proving.Lock.{Lock}
use Rattle.serving.specs.declared.stage.Stage.{Stage}
use Rattle.serving.specs.Clients.{after_standing, fresh_client, with_told, ClientParts}
use Rattle.serving.specs.Happenings.{heard_in, lets_go, sent_in, served_in, stays, wrote_in, Changes, Happening, Happens, Heard}
use Rattle.serving.specs.Happenings.{past_at, Past, Runs}
use Rattle.serving.specs.Happenings.{Breaks, Comes, Ends, Gets, Goes, Hears, Works, Writes}
use Rattle.serving.specs.Lives.{EachIsAnswered, IsAnswered}
use Rattle.serving.specs.Served.{Served}
use Rattle.serving.proofs.LifeGroups.{life_works}
use Rattle.serving.proofs.LifeLemmas.{life_breaks, life_comes, life_ends, life_gets, life_hears, life_writes}

-- ---- at one key

-- what happens at a key, to the client there or to another
by_key : (key at : ℕ) (P : Bool → Type 0) → (at ≡ key → P true) → ((at == key) ≡ false → P false) → P (at == key)
by_key key at P own other =
    elim (cases_Bool (at == key)) [
      | inl here ↦ subst P (sym here) (own ((Decides-eqb at key).0 here))
      | inr away ↦ subst P (sym away) (other away)
    ]

-- a change at another key
elsewhere : (key at : ℕ) (old new : Slab ClientParts) (slot : Option ClientParts) → (at == key) ≡ false → Updates old new at slot
    → get new key ≡ get old key
elsewhere key at old new slot away updates = updates.others key apart
  where
    apart : key ≡ at → ⊥
    apart same = let wrong : false ≡ true = sym away ∙ eq-eqb at key (sym same) in absurd (cc (wrong))

module _ (Q R : ClientParts → Type 0) where
  mapped : (seat : Option ClientParts) (change : ClientParts → ClientParts) → IsSomeAnd seat Q
      → ((client : ClientParts) → Q client → R (change client)) → IsSomeAnd (option_map change seat) R
  mapped None change some keeps = absurd some
  mapped (Some client) change some keeps = keeps client some

  -- a change at the key
  changed : (key at : ℕ) (change : ClientParts → ClientParts) (old new : Slab ClientParts) → at ≡ key → Changes at change old new
      → ((client : ClientParts) → Q client → R (change client)) → IsSomeAnd (get old key) Q → IsSomeAnd (get new key) R
  changed key at change old new same changes keeps some =
      let is : get new key ≡ option_map change (get old key) =
      ap (get new) (sym same) ∙ changes.changed ∙ ap (λ (k : ℕ). option_map change (get old k)) same in
      subst (λ (seat : Option ClientParts). IsSomeAnd seat R) (sym is) (mapped (get old key) change some keeps)

-- these, and then those
abbrev and_then : Past → Past → Past
and_then a b = record {
  wrote = a.wrote ++ b.wrote;
  sent = a.sent ++ b.sent;
  served = a.served ++ b.served;
  heard = a.heard ++ b.heard;
}

abbrev nothing : Past
nothing = record { wrote = []; sent = []; served = []; heard = [] }

and_nothing : (past : Past) → and_then past nothing ≡ past
and_nothing past =
    ap (λ (all : List ℕ). record { wrote = all; sent = past.sent ++ []; served = past.served ++ []; heard = past.heard ++ [] })
    (append-nil past.wrote)
    ∙ ap (λ (all : List ℕ). record past { sent = all; served = past.served ++ []; heard = past.heard ++ [] }) (append-nil past.sent)
    ∙ ap (λ (all : List Served). record past { served = all; heard = past.heard ++ [] }) (append-nil past.served)
    ∙ ap (λ (all : List Heard). record past { heard = all }) (append-nil past.heard)

three : (a b c : Past) → and_then (and_then a b) c ≡ and_then a (and_then b c)
three a b c =
    ap (λ (all : List ℕ). record (and_then (and_then a b) c) { wrote = all }) (append_assoc a.wrote b.wrote c.wrote)
    ∙ ap (λ (all : List ℕ). record (and_then (and_then a b) c) { wrote = a.wrote ++ (b.wrote ++ c.wrote); sent = all })
    (append_assoc a.sent b.sent c.sent)
    ∙ ap (λ (all : List Served). record (and_then a (and_then b c)) { served = all; heard = (a.heard ++ b.heard) ++ c.heard })
    (append_assoc a.served b.served c.served)
    ∙ ap (λ (all : List Heard). record (and_then a (and_then b c)) { heard = all }) (append_assoc a.heard b.heard c.heard)

-- what of one thing that happens is of the client at a key
abbrev now_at : (key : ℕ) → Happening → Past
now_at key happening = record {
  wrote = wrote_in key happening;
  sent = sent_in key happening;
  served = served_in key happening;
  heard = heard_in key happening;
}

module _ (who : NodeId) (lock : Option Lock) (key number : ℕ) (came : Stage) (greeting : List ℕ) where
  abbrev Life : Past → ClientParts → Type 0
  Life past client = IsAnswered who lock key number came greeting past client

  abbrev LifeIn : Slab ClientParts → Past → Type 0
  LifeIn slab past = IsSomeAnd (get slab key) (Life past)

  -- nothing more of it came, was sent, was served or was heard
  still : (past : Past) (slab : Slab ClientParts) → LifeIn slab past → LifeIn slab (and_then past nothing)
  still past slab life = subst (LifeIn slab) (sym (and_nothing past)) life

  -- it is as it was
  kept : (past : Past) (old new : Slab ClientParts) → get new key ≡ get old key → LifeIn old past → LifeIn new (and_then past nothing)
  kept past old new same life =
      still past new (subst (λ (seat : Option ClientParts). IsSomeAnd seat (Life past)) (sym same) life)

  -- where it changes, and then is such a client still, with what is new; another changes with nothing new for it
  either : (past : Past) (at : ℕ) (change : ClientParts → ClientParts) (more : Bool → Past) (old new : Slab ClientParts)
      → Changes at change old new → more false ≡ nothing
      → ((client : ClientParts) → Life past client → Life (and_then past (more true)) (change client)) → LifeIn old past
      → LifeIn new (and_then past (more (at == key)))
  either past at change more old new changes none keeps life =
      by_key key at (λ here. LifeIn new (and_then past (more here)))
      (λ same. changed (Life past) (Life (and_then past (more true))) key at change old new same changes keeps life)
      (λ away. subst (λ (rest : Past). LifeIn new (and_then past rest)) (sym none)
      (kept past old new (elsewhere key at old new (option_map change (get old at)) away changes) life))

  -- the same, where nothing is new
  alike : (past : Past) (at : ℕ) (change : ClientParts → ClientParts) (old new : Slab ClientParts) → Changes at change old new
      → ((client : ClientParts) → Life past client → Life past (change client)) → LifeIn old past → LifeIn new (and_then past nothing)
  alike past at change old new changes keeps life =
      either past at change (λ here. nothing) old new changes refl
      (λ client lives. subst (λ (all : Past). Life all (change client)) (sym (and_nothing past)) (keeps client lives)) life

  -- ---- one thing

  one_writes : (past : Past) (at : ℕ) (bytes : List ℕ) (old new : Slab ClientParts) → Happens who lock (Writes at bytes) old new
      → LifeIn old past → LifeIn new (and_then past (now_at key (Writes at bytes)))
  one_writes past at bytes old new changes life =
      either past at (λ client. record client { input = client.input ++ bytes })
      (λ here. record nothing { wrote = if here then bytes else [] }) old new changes refl
      (λ client lives. subst (λ (all : Past). Life all (record client { input = client.input ++ bytes }))
      (ap (λ (all : Past). record all { wrote = past.wrote ++ bytes }) (sym (and_nothing past)))
      (life_writes who lock key number came greeting past bytes client lives)) life

  one_hears : (past : Past) (at : ℕ) (answer : Answer) (now : Instant) (old new : Slab ClientParts)
      → Happens who lock (Hears at answer now) old new → LifeIn old past → LifeIn new (and_then past (now_at key (Hears at answer now)))
  one_hears past at answer now old new changes life =
      either past at (after_standing answer now) (λ here. record nothing { heard = if here then (answer, now) ∷ [] else [] })
      old new changes refl
      (λ client lives. subst (λ (all : Past). Life all (after_standing answer now client))
      (ap (λ (all : Past). record all { heard = past.heard ++ (answer, now) ∷ [] }) (sym (and_nothing past)))
      (life_hears who lock key number came greeting past client answer now lives)) life

  one_gets : (past : Past) (at : ℕ) (bytes : List ℕ) (old new : Slab ClientParts) → Happens who lock (Gets at bytes) old new
      → LifeIn old past → LifeIn new (and_then past (now_at key (Gets at bytes)))
  one_gets past at bytes old new is life =
      let now : ClientParts = record (is.client) { output = is.rest } in
      by_key key at (λ here. LifeIn new (and_then past (record nothing { sent = if here then bytes else [] })))
      (λ same. subst (LifeIn new) (ap (λ (all : Past). record all { sent = past.sent ++ bytes }) (sym (and_nothing past)))
      (subst (λ (seat : Option ClientParts). IsSomeAnd seat (Life (record past { sent = past.sent ++ bytes })))
      (sym (ap (get new) (sym same) ∙ is.only.changed))
      (life_gets who lock key number came greeting past bytes is.rest is.client is.front
      (subst (λ (seat : Option ClientParts). IsSomeAnd seat (Life past)) (ap (get old) (sym same) ∙ is.was) life))))
      (λ away. kept past old new (elsewhere key at old new (Some now) away is.only) life)

  one_comes : (past : Past) (at : ℕ) (old new : Slab ClientParts) (slot : Option ClientParts) → get old at ≡ None
      → Updates old new at slot → LifeIn old past → LifeIn new (and_then past nothing)
  one_comes past at old new slot free only life =
      by_key key at (λ here. LifeIn new (and_then past nothing))
      (λ same. absurd (subst (λ (seat : Option ClientParts). IsSomeAnd seat (Life past)) (ap (get old) (sym same) ∙ free) life))
      (λ away. kept past old new (elsewhere key at old new slot away only) life)

  -- what happens, whatever it is
  step : (past : Past) (happening : Happening) (old new : Slab ClientParts) → Happens who lock happening old new
      → lets_go key happening ≡ false → LifeIn old past → LifeIn new (and_then past (now_at key happening))
  step past (Comes at its_number stage its_greeting now) old new happens stay life =
      one_comes past at old new (Some (with_told its_greeting (fresh_client its_number stage now))) happens.free happens.only life
  step past (Writes at bytes) old new happens stay life = one_writes past at bytes old new happens life
  step past (Ends at) old new happens stay life =
      alike past at (λ client. record client { has_ended = true }) old new happens
      (λ client. life_ends who lock key number came greeting past client) life
  step past (Breaks at) old new happens stay life =
      alike past at (λ client. record client { is_broken = true }) old new happens
      (λ client. life_breaks who lock key number came greeting past client) life
  step past (Goes at) old new happens stay life = kept past old new (elsewhere key at old new None stay happens) life
  step past (Works terms ahead items replies said until) old new happens stay life =
      let more : List Served = past.served ++ served_in key (Works terms ahead items replies said until) in
      subst (LifeIn new) (ap (λ (all : Past). record all { served = more }) (sym (and_nothing past)))
      (life_works who lock key number came greeting past terms ahead items replies said until old new
      happens life)
  step past (Hears at answer now) old new happens stay life = one_hears past at answer now old new happens life
  step past (Gets at bytes) old new happens stay life = one_gets past at bytes old new happens life

  -- all that happens
  run : (happenings : List Happening) (past : Past) (old new : Slab ClientParts) → Runs who lock happenings old new
      → stays key happenings ≡ true → LifeIn old past → LifeIn new (and_then past (past_at key happenings))
  run [] past old new same stay life = kept past old new (ap (λ (slab : Slab ClientParts). get slab key) same) life
  run (happening ∷ happenings) past old new runs stay life =
      let both = and_parts (not (lets_go key happening)) (stays key happenings) stay in
      let now : LifeIn runs.0 (and_then past (now_at key happening)) =
      step past happening old runs.0 runs.1 (not-true (lets_go key happening) both.0) life in
      subst (LifeIn new) (three past (now_at key happening) (past_at key happenings))
      (run happenings (and_then past (now_at key happening)) runs.0 new runs.2 both.1 now)

-- in each run a client is sent the answers to its lines, and nothing else
pub each_is_answered : EachIsAnswered
each_is_answered who lock key number came greeting now happenings before first last comes runs stay =
    run who lock key number came greeting happenings nothing first last runs stay
    (subst (λ (seat : Option ClientParts). IsSomeAnd seat (IsAnswered who lock key number came greeting nothing)) (sym comes.only.changed)
    (life_comes who lock key number came greeting now comes.asks))
