-- Which lines may follow others in a trace, what a reader of lines keeps of them, and what it gives.
use Rattle.std.specs.Prelude.{◌≡◌, ℕ, ◌+◌, ◌<◌, Bool, true, false, not, ◌==◌, ◌&&◌, nat_lt, if◌then◌else◌, List, [], ◌∷◌, ◌++◌, length, map}
use Rattle.std.specs.Prelude.{Option, Some, None, Result, Ok, Err}
use Rattle.std.specs.List.{list_all, flat_map}
use Rattle.std.specs.Option.{ForSome, option_map}
use Rattle.net_script.specs.Basics.{Refusal, Stop, Wrong, Memory, TxParts, Event, Answer, Change}
use Rattle.net_script.specs.Basics.{Sent, Told, Sizes, Entry, Table, Trace, LastEntry, SoFar, TraceLine}
use Rattle.net_script.specs.declared.trace_lines.TraceLine.TheVariants.{Cluster, Contents, Happened, Served, Changed, Datagram}
use Rattle.net_script.specs.declared.trace_lines.TraceLine.TheVariants.{Notice, Final}
use Rattle.net_script.specs.TraceLines.{whole_line, lines_of}
use Rattle.net_script.specs.TraceReading.{IsBegun, SpellsTrace, RefusesTrace}
use Rattle.net_script.specs.declared.said.Heard.{Heard}
use Rattle.net_script.specs.Messages.{no_tx}
use Rattle.net_script.specs.Telling.{sent_of, IsHeard}

-- ---- which lines may follow

-- how much is told with a changed view or a datagram more
abbrev pub filled : LastEntry → LastEntry
filled LastEntry.Bare = LastEntry.Full
filled LastEntry.BareServe = LastEntry.FullServe
filled last = last

-- how much is told with a notice more: a serve tells none
abbrev pub noticed : LastEntry → LastEntry
noticed LastEntry.Bare = LastEntry.Noticed
noticed LastEntry.Full = LastEntry.Noticed
noticed last = last

-- how much is told with a changed view, if there is one, and with datagrams
abbrev pub filled_by : Option Change → List Sent → LastEntry → LastEntry
filled_by None [] last = last
filled_by None (datagram ∷ sent) last = filled last
filled_by (Some change) sent last = filled last

-- how much is told with notices
abbrev pub noticed_by : List Told → LastEntry → LastEntry
noticed_by [] last = last
noticed_by (notice ∷ told) last = noticed last

-- how much an entry tells
abbrev pub told_by : Entry → LastEntry
told_by (Entry.Step step) = noticed_by step.told (filled_by step.now step.sent LastEntry.Bare)
told_by (Entry.Serve node answer now sent) = filled_by now sent LastEntry.BareServe

-- how much the last of some entries tells
abbrev pub last_of : List Entry → LastEntry
last_of [] = LastEntry.Missing
last_of (entry ∷ []) = told_by entry
last_of (entry ∷ next ∷ rest) = last_of (next ∷ rest)

-- what of a trace so far says which lines may follow
abbrev pub so_far_of : Trace → SoFar
so_far_of t = record {
  sizes = t.sizes;
  managers = map (λ (table : Table). table.rm) t.tables;
  last = last_of t.entries;
  finals = length t.finals;
}

-- whether nothing happened yet
abbrev pub is_missing : LastEntry → Bool
is_missing LastEntry.Missing = true
is_missing other = false

-- whether the last that happened has its answer alone
abbrev pub is_alone : LastEntry → Bool
is_alone LastEntry.Bare = true
is_alone LastEntry.BareServe = true
is_alone other = false

-- whether a datagram may follow the last that happened: none follows a notice
abbrev pub takes_sent : LastEntry → Bool
takes_sent LastEntry.Missing = false
takes_sent LastEntry.Noticed = false
takes_sent other = true

-- whether a notice may follow it
abbrev pub takes_notice : LastEntry → Bool
takes_notice LastEntry.Bare = true
takes_notice LastEntry.Full = true
takes_notice LastEntry.Noticed = true
takes_notice other = false

-- whether a first table of this resource manager may follow
abbrev pub takes_table : SoFar → ℕ → Bool
takes_table s rm = is_missing s.last && (s.finals == 0) && nat_lt rm s.sizes.rms && list_all (λ other. not (other == rm)) s.managers

-- whether a line may follow
abbrev pub may_follow : SoFar → TraceLine → Bool
may_follow s (Cluster sizes) = false
may_follow s (Contents table) = takes_table s table.rm
may_follow s (Happened event answer) = s.finals == 0
may_follow s (Served node answer) = s.finals == 0
may_follow s (Changed change) = (s.finals == 0) && is_alone s.last
may_follow s (Datagram sent) = (s.finals == 0) && takes_sent s.last
may_follow s (Notice told) = (s.finals == 0) && takes_notice s.last
may_follow s (Final rm rows) = (rm == s.finals) && nat_lt s.finals s.sizes.rms

-- the same after a line that may follow
abbrev pub after_line : SoFar → TraceLine → SoFar
after_line s (Cluster sizes) = s
after_line s (Contents table) = record s { managers = s.managers ++ table.rm ∷ [] }
after_line s (Happened event answer) = record s { last = LastEntry.Bare }
after_line s (Served node answer) = record s { last = LastEntry.BareServe }
after_line s (Changed change) = record s { last = filled s.last }
after_line s (Datagram sent) = record s { last = filled s.last }
after_line s (Notice told) = record s { last = noticed s.last }
after_line s (Final rm rows) = record s { finals = rm + 1 }

-- the same after one more line, the first or another; none, where it can't follow
abbrev pub follow : Option SoFar → TraceLine → Option SoFar
follow None (Cluster sizes) = Some (record { sizes = sizes; managers = []; last = LastEntry.Missing; finals = 0 })
follow None said = None
follow (Some s) said = if may_follow s said then Some (after_line s said) else None

-- a line for what is heard of one: a datagram's transaction doesn't matter to what may follow
abbrev pub as_line : Heard → TraceLine
as_line (Heard.Line said) = said
as_line (Heard.Datagram told) = Datagram (sent_of no_tx told)

-- what comes of one more line
abbrev pub Follows : Option SoFar → Option SoFar → TraceLine → Result Unit Stop → Type 0
Follows old new said (Ok x) = (s : SoFar) × (new ≡ Some s) × (follow old said ≡ Some s)
Follows old new said (Err Wrong) = follow old said ≡ None
Follows old new said (Err Memory) = Unit {0}

-- ---- a trace so far, and one line more

-- what an event and its answer are alone
abbrev pub bare_step : Event → Answer → Entry
bare_step event answer = Entry.Step (record { event = event; answer = answer; now = None; sent = []; told = [] })

-- an entry that changed this view
abbrev pub with_now : Change → Entry → Entry
with_now change (Entry.Step step) = Entry.Step (record step { now = Some change })
with_now change (Entry.Serve node answer now sent) = Entry.Serve node answer (Some change) sent

-- an entry with one more datagram
abbrev pub with_sent : Sent → Entry → Entry
with_sent datagram (Entry.Step step) = Entry.Step (record step { sent = step.sent ++ datagram ∷ [] })
with_sent datagram (Entry.Serve node answer now sent) = Entry.Serve node answer now (sent ++ datagram ∷ [])

-- an entry with one more notice: a serve tells none
abbrev pub with_notice : Told → Entry → Entry
with_notice notice (Entry.Step step) = Entry.Step (record step { told = step.told ++ notice ∷ [] })
with_notice notice entry = entry

-- an entry of which one more line tells
abbrev pub with_told : TraceLine → Entry → Entry
with_told (Changed change) entry = with_now change entry
with_told (Datagram sent) entry = with_sent sent entry
with_told (Notice told) entry = with_notice told entry
with_told said entry = entry

-- entries of which the last is made anew
abbrev pub at_last : (Entry → Entry) → List Entry → List Entry
at_last make [] = []
at_last make (entry ∷ []) = make entry ∷ []
at_last make (entry ∷ next ∷ rest) = entry ∷ at_last make (next ∷ rest)

-- the trace so far after one more line that may follow
abbrev pub grown : Trace → TraceLine → Trace
grown t (Cluster sizes) = t
grown t (Contents table) = record t { tables = t.tables ++ table ∷ [] }
grown t (Happened event answer) = record t { entries = t.entries ++ bare_step event answer ∷ [] }
grown t (Served node answer) = record t { entries = t.entries ++ Entry.Serve node answer None [] ∷ [] }
grown t (Changed change) = record t { entries = at_last (with_now change) t.entries }
grown t (Datagram sent) = record t { entries = at_last (with_sent sent) t.entries }
grown t (Notice told) = record t { entries = at_last (with_notice told) t.entries }
grown t (Final rm rows) = record t { finals = t.finals ++ rows ∷ [] }

-- a trace of which only the cluster was told
abbrev pub opened : Sizes → Trace
opened sizes = record { sizes = sizes; tables = []; entries = []; finals = [] }

-- the trace so far after one more line, the first or another; none, where it can't follow
abbrev pub begun_with : Option Trace → TraceLine → Option Trace
begun_with None (Cluster sizes) = Some (opened sizes)
begun_with None said = None
begun_with (Some t) said = if may_follow (so_far_of t) said then Some (grown t said) else None

-- the lines so far
abbrev pub lines_so_far : Option Trace → List TraceLine
lines_so_far None = []
lines_so_far (Some t) = lines_of t

-- ---- readers

-- a reader: all bytes, those that are left, how many lines it has read, the transaction that it read last, and what it keeps of the lines
pub record ReaderParts : Type 0 where
  pub bytes : List ℕ
  pub rest : List ℕ
  pub number : ℕ
  pub known : Option TxParts
  pub so_far : Option SoFar

-- a reader has read the lines of this trace so far; none, where it has read no line
pub record HasRead (reader : ReaderParts) (trace : Option Trace) : Type 0 where
  pub text : reader.bytes ≡ flat_map whole_line (lines_so_far trace) ++ reader.rest
  pub counted : length (lines_so_far trace) ≡ reader.number
  pub valid : ForSome trace IsBegun
  pub kept : reader.so_far ≡ option_map so_far_of trace

-- a reader with one line more, with which the trace so far goes on
pub record ReadsOn (old new : ReaderParts) (trace : Option Trace) (said : TraceLine) : Type 0 where
  pub bytes : new.bytes ≡ old.bytes
  pub shorter : length new.rest < length old.rest
  pub longer : Trace
  pub grown : Some longer ≡ begun_with trace said
  pub read : HasRead new (Some longer)

-- the bytes are the text of the trace so far
pub record IsRead (bytes : List ℕ) (trace : Option Trace) : Type 0 where
  pub whole : Trace
  pub is : trace ≡ Some whole
  pub spelled : SpellsTrace bytes whole

-- what a reader hears next, where it has read this
abbrev pub GivesHeard : (old new : ReaderParts) → Option Trace → Result (Option Heard) Refusal → Type 0
GivesHeard old new trace (Ok (Some heard)) = (said : TraceLine) × IsHeard new.known heard said × ReadsOn old new trace said
GivesHeard old new trace (Ok None) = IsRead old.bytes trace
GivesHeard old new trace (Err e) = RefusesTrace old.bytes e
