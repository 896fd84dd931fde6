-- A client of a node: the bytes of it that came and weren't taken, those that it is to be sent, and what its next lines are.
use Rattle.std.specs.Prelude.{◌≡◌, ◌⊎◌, ◌≤◌, ◌*◌, ℕ, ◌-◌, ◌++◌, ◌&&◌, ◌||◌, ◌==◌, not, nat_le, nat_lt, Bool, true, false, List, [], length}
use Rattle.std.specs.Prelude.{Option, Some, None, if◌then◌else◌}
use Rattle.std.specs.Option.{option_map, unwrap_or}
use Rattle.std.specs.Time.{instant_nanos}
use Rattle.slab.specs.Slab.{Slab, get}
use Rattle.xid.specs.Text.{lacks}
use Rattle.std.specs.declared.time.Instant.{Instant}
use Rattle.serving.specs.declared.lines.TheConstants.{MAX_LINE, MOST_BEGUN, MOST_OUTPUT}
use Rattle.net_script.specs.Answers.{answer_words}
use Rattle.net_script.specs.Traces.{line_text}
use Rattle.protocol.specs.declared.answers.Answer.{Answer}
use Rattle.protocol.specs.declared.answers.Answer.TheVariants.{Stands}
use Rattle.protocol.specs.declared.states.Standing.TheVariants as standings
use Rattle.serving.specs.Fronts.{IsCut, IsNoLine}
use Rattle.serving.specs.declared.stage.Stage.{Stage}
use Rattle.serving.specs.declared.stage.Stage.TheVariants.{Proving, Open, Awaiting}

-- a client
pub record ClientParts : Type 0 where
  -- its number, which no other client ever has
  pub number : ℕ
  -- what its next lines are
  pub stage : Stage
  -- whether it is to be let go
  pub is_broken : Bool
  -- the bytes that came of it and weren't taken
  pub input : List ℕ
  -- the bytes that it is to be sent
  pub output : List ℕ
  -- since when its line is begun, or its proof due
  pub begun : Option Instant
  -- whether no more bytes come of it
  pub has_ended : Bool

-- whether a client's next line is to be its proof
abbrev pub is_proving : Stage → Bool
is_proving (Proving challenge) = true
is_proving stage = false

-- whether a client waits for the end of a transaction
abbrev pub is_awaiting : Stage → Bool
is_awaiting (Awaiting request until is_asked) = true
is_awaiting stage = false

-- a client that has said nothing
abbrev pub fresh_client : (number : ℕ) → Stage → Instant → ClientParts
fresh_client number stage now = record {
  number = number;
  stage = stage;
  is_broken = false;
  input = [];
  output = [];
  begun = if is_proving stage then Some now else None;
  has_ended = false;
}

-- whether a line of a client would be looked at
abbrev pub may_ask : ClientParts → Bool
may_ask client = not client.is_broken && nat_lt (length client.output) MOST_OUTPUT && not (is_awaiting client.stage)

-- whether a line is begun by these bytes, and not ended
abbrev pub is_begun : List ℕ → Bool
is_begun bytes = not (length bytes == 0) && (lacks 10 bytes && nat_le (length bytes) MAX_LINE)

-- since when the line is begun that these bytes begin, if they do: since now, where lines before it were taken
abbrev pub begun_by : (has_taken : Bool) → (bytes : List ℕ) → Instant → Option Instant → Option Instant
begun_by has_taken bytes now begun = if is_begun bytes then (if has_taken then Some now else Some (unwrap_or begun now)) else None

-- a client that was told a text
abbrev pub with_told : List ℕ → ClientParts → ClientParts
with_told text client = record client { output = client.output ++ text }

-- which client it is, and what it is to be sent
abbrev pub told_so_far : ClientParts → ℕ × List ℕ
told_so_far client = (client.number, client.output)

-- nobody was told anything
abbrev pub AreUntold : Slab ClientParts → Slab ClientParts → Type 0
AreUntold old new = (key : ℕ) → option_map told_so_far (get new key) ≡ option_map told_so_far (get old key)

-- ---- what may be done with it

-- a line of a client is waiting to be looked at, and would be
pub record IsWaiting (client : ClientParts) : Type 0 where
  pub may : may_ask client ≡ true
  pub line : List ℕ
  pub rest : List ℕ
  pub cut : IsCut client.input line rest
  pub short : length line ≤ MAX_LINE

-- no line of a client is to be looked at: it may not ask, or no line stands there whole
abbrev pub WaitsForNone : ClientParts → Type 0
WaitsForNone client = (may_ask client ≡ false) ⊎ IsNoLine client.input

-- a line of a client is begun for too long, or its proof is due for too long
pub record IsSlow (now : Instant) (client : ClientParts) : Type 0 where
  pub begun : Instant
  pub since : client.begun ≡ Some begun
  pub long : MOST_BEGUN * 1000000000 ≤ instant_nanos now - instant_nanos begun
  pub due : (is_proving client.stage || is_begun client.input) ≡ true

-- a client is to be let go, or it has gone, was sent all that it was told, and no line of it is to be looked at
abbrev pub IsOver : ClientParts → Type 0
IsOver client = (client.is_broken ≡ true) ⊎ ((client.has_ended ≡ true) × (client.output ≡ []) × WaitsForNone client)

-- ---- the end of a transaction that it waits for

-- whether an answer is the last word of where a transaction stands: it is final, or the question is refused
abbrev pub is_last_word : Answer → Bool
is_last_word (Stands standings.Unknown) = false
is_last_word (Stands standings.Undecided) = false
is_last_word (Stands standings.Working) = false
is_last_word (Stands standings.Prepared) = false
is_last_word answer = true

-- what a client waits for was asked
abbrev pub once_asked : Stage → Stage
once_asked (Awaiting request until is_asked) = Awaiting request until true
once_asked stage = stage

-- whether a client that waits is told where the transaction stands: that is the last word, or it has waited long enough
abbrev pub is_told : Answer → Instant → Stage → Bool
is_told answer now (Awaiting request until is_asked) = is_last_word answer || nat_le (instant_nanos until) (instant_nanos now)
is_told answer now stage = false

-- a client that waits, after what it waits for was asked
abbrev pub after_standing : Answer → Instant → ClientParts → ClientParts
after_standing answer now client =
    if is_told answer now client.stage then record client { stage = Open; output = client.output ++ line_text (answer_words answer) }
    else record client { stage = once_asked client.stage }
