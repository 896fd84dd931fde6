-- What each client of a process is sent, from when it comes: the answers to its lines, in their order, one for each, and nothing else.
use Rattle.std.specs.Prelude.{◌≡◌, ◌⊎◌, ℕ, ◌++◌, ◌∷◌, ◌&&◌, ◌||◌, not, nat_le, Bool, true, false, if◌then◌else◌, List, [], map}
use Rattle.std.specs.Prelude.{Option, Some, None, is_some, IsSomeAnd, Vec}
use Rattle.std.specs.Borrow.{Bor}
use Rattle.std.specs.List.{filter_map, flat_map, list_all, AllByRecursion}
use Rattle.std.specs.Time.{instant_nanos}
use Rattle.std.specs.declared.alloc.Global.{Global}
use Rattle.std.specs.declared.time.Instant.{Instant}
use Rattle.slab.specs.Slab.{Slab, get}
use Rattle.xid.specs.Text.{lacks}
use Rattle.xid.specs.Transactions.{TxParts}
use Rattle.protocol.specs.declared.answers.Answer.{Answer}
use Rattle.protocol.specs.declared.nodes.NodeId.{NodeId}
use Rattle.protocol.specs.declared.requests.Request.{Request}
use Rattle.serving.specs.declared.group.Origin.TheVariants.{Client}
use Rattle.serving.specs.declared.group.Work.{Work}
use Rattle.serving.specs.declared.group.Work.TheVariants.{Ask, Say}
use Rattle.serving.specs.declared.proving.Lock.{Lock}
use Rattle.serving.specs.declared.stage.Stage.{Stage}
use Rattle.serving.specs.declared.stage.Stage.TheVariants.{Awaiting, Proving}
use Rattle.serving.specs.declared.terms.Terms.{Terms}
use Rattle.serving.specs.declared.words.Wish.TheVariants.{Await}
use Rattle.serving.specs.Clients.{is_last_word, is_proving, ClientParts}
use Rattle.serving.specs.Groups.{reply_line}
use Rattle.serving.specs.Happenings.{is_await, past_at, question, stays, ComesIn, Happening, Heard, Past, Runs}
use Rattle.serving.specs.Proving.{IsProof}
use Rattle.serving.specs.Served.{told_text, Served}
use Rattle.serving.specs.Taking.{with_ends, IsItemOf}

-- ---- a line and its answer

-- a line of a client, and what became of it
pub record Answered : Type 0 where
  -- on what terms it was taken
  pub terms : Terms
  pub line : List ℕ
  -- the item of a group that it became, with what the node replied to it or what was said to it
  pub served : Served
  -- until when it waits, if it is an await
  pub until : Instant
  -- the answer that ended it, if it is an await, and when that came
  pub end : Option Heard

-- the line of the answer that ended an await, if one did
abbrev pub end_text : Option Heard → List ℕ
end_text None = []
end_text (Some end) = reply_line end.0

-- what a line of a client is answered: in its group, or an await at its end
abbrev pub answered_text : Answered → List ℕ
answered_text one = if is_await one.served.item.work then end_text one.end else told_text one.served

-- a line became an item of a group, for the client of this number at this key: what is to be done for the line, at this node
pub record IsTaken (who : NodeId) (key number : ℕ) (one : Answered) : Type 0 where
  pub at : one.terms.who ≡ who
  pub its : IsItemOf one.terms (Client key number) one.line one.served.item

-- whether what a piece of work is answered in its group is there: a reply to a request, and a text for a wish that is no await
abbrev pub has_answer : Work → Option (Bor Answer) → Option (Vec ℕ Global) → Bool
has_answer (Ask request) reply said = is_some reply
has_answer (Say (Await tx)) reply said = true
has_answer (Say wish) reply said = is_some said
has_answer work reply said = true

-- whether an await has ended, as it may: by the last word, or when its time was up. Nothing else ends so
abbrev pub is_ended : (is_await : Bool) → (until : Instant) → Option Heard → Bool
is_ended false until end = not (is_some end)
is_ended true until None = false
is_ended true until (Some end) = is_last_word end.0 || nat_le (instant_nanos until) (instant_nanos end.1)

-- whether a line was answered
abbrev pub is_done : Answered → Bool
is_done one =
    has_answer one.served.item.work one.served.reply one.served.said && is_ended (is_await one.served.item.work) one.until one.end

-- a line is an await that has not ended, and for whose end its client waits
pub record IsAwaited (who : NodeId) (request : Request) (until : Instant) (one : Answered) : Type 0 where
  pub tx : TxParts
  pub work : one.served.item.work ≡ Say (Await tx)
  pub asks : request ≡ question who tx
  pub same : one.until ≡ until
  pub waits : one.end ≡ None

-- all lines that were taken of a client were answered; while it waits, all but the last, for whose end it waits
abbrev pub AreDone : NodeId → List Answered → Stage → Type 0
AreDone who answered (Awaiting request until is_asked) =
    (front : List Answered) × (last : Answered) × (answered ≡ front ++ last ∷ []) × (list_all is_done front ≡ true)
    × IsAwaited who request until last
AreDone who answered stage = list_all is_done answered ≡ true

-- ---- what stands before its lines

-- a client's proof is due: none of its lines was taken
pub record IsUnproved (challenge proof : List ℕ) (answered : List Answered) (stage : Stage) : Type 0 where
  pub nothing : proof ≡ []
  pub none : answered ≡ []
  pub due : stage ≡ Proving challenge

-- its first line is the right proof
pub record IsProved (lock : Option Lock) (challenge proof : List ℕ) (stage : Stage) : Type 0 where
  pub line : List ℕ
  pub first : proof ≡ line ++ 10 ∷ []
  pub right : IsProof lock challenge line
  pub over : is_proving stage ≡ false

-- its first line is another: none of its lines is taken, and it is to be let go
pub record IsRefused (lock : Option Lock) (challenge proof : List ℕ) (answered : List Answered) (stage : Stage)
    (is_broken : Bool) : Type 0 where
  pub line : List ℕ
  pub first : proof ≡ line ++ 10 ∷ []
  pub whole : lacks 10 line ≡ true
  pub wrong : IsProof lock challenge line → ⊥
  pub none : answered ≡ []
  pub due : stage ≡ Proving challenge
  pub broken : is_broken ≡ true

-- what of a client's bytes stands before its lines: its proof, where it came to give one, and else nothing
abbrev pub StandsBefore : Option Lock → (came : Stage) → (proof : List ℕ) → List Answered → (stage : Stage) → (is_broken : Bool) → Type 0
StandsBefore lock (Proving challenge) proof answered stage is_broken =
    IsUnproved challenge proof answered stage
    ⊎ (IsProved lock challenge proof stage ⊎ IsRefused lock challenge proof answered stage is_broken)
StandsBefore lock came proof answered stage is_broken = (proof ≡ []) × (is_proving stage ≡ false)

-- ---- its life

-- these are some of those, in the same order
abbrev pub AreAmong : {X : Type 0} → (few all : List X) → Type 0
AreAmong few [] = few ≡ []
AreAmong {X} few (x ∷ all) = AreAmong few all ⊎ ((rest : List X) × (few ≡ x ∷ rest) × AreAmong rest all)

-- a client that came in so, under this number at this key, with this past since, stands so: what it wrote are its proof, if it had to give
-- one, the lines that were taken of it, and what wasn't taken yet; these lines are the items that were for it; and its greeting and their
-- answers, in their order, are what it was sent and what it is still to be sent
pub record IsAnswered (who : NodeId) (lock : Option Lock) (key number : ℕ) (came : Stage) (greeting : List ℕ) (past : Past)
    (client : ClientParts) : Type 0 where
  pub number_is : client.number ≡ number
  -- its lines that were taken, each with its answer
  pub answered : List Answered
  pub these : map (λ one. one.served) answered ≡ past.served
  pub each : AllByRecursion (IsTaken who key number) answered
  -- what stands before them
  pub proof : List ℕ
  pub before : StandsBefore lock came proof answered client.stage client.is_broken
  pub input : past.wrote ≡ proof ++ (with_ends (map (λ one. one.line) answered) ++ client.input)
  pub output : greeting ++ flat_map answered_text answered ≡ past.sent ++ client.output
  -- what ended its awaits it heard, in this order
  pub ends : AreAmong (filter_map (λ one. one.end) answered) past.heard
  -- all are answered, but for the await for whose end it waits
  pub done : AreDone who answered client.stage

-- in each run: a client that comes in and isn't let go is sent its greeting, and behind it the answers to its lines, in their order, one
-- for each; it is sent nothing else, and no line of it is looked at before its proof, if it has to give one
abbrev pub EachIsAnswered : Type 0
EachIsAnswered =
    (who : NodeId) (lock : Option Lock) (key number : ℕ) (came : Stage) (greeting : List ℕ) (now : Instant) (happenings : List Happening)
    (before first last : Slab ClientParts)
    → ComesIn key number came greeting now before first → Runs who lock happenings first last → stays key happenings ≡ true
    → IsSomeAnd (get last key) (IsAnswered who lock key number came greeting (past_at key happenings))
