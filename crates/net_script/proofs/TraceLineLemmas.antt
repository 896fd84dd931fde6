-- Each line of a trace says one thing, by words that are words, and is cut at its arrow in one way: for the readers of lines.
use Rattle.std.proofs.Common.{◌≡◌, ℕ, ◌<◌, Bool, true, false, Option, None, Some, List, [], ◌∷◌, ◌++◌, length, refl, sym, ap, subst, ◌∙◌}
use Rattle.std.proofs.Common.{arith, codes, Result, Ok, Err, ◌-◌, not, ◌&&◌, eqb, take, drop}
use Rattle.std.specs.List.{AllByRecursion}
use Rattle.net_script.specs.Basics.{TxParts, IsTx, tx_text, View, NodeId, Answer, Change, Sent, Event, TraceLine, Stop, Wrong, Memory}
use Rattle.net_script.specs.declared.trace_lines.TraceLine.TheVariants.{Cluster, Contents, Happened, Served, Changed, Datagram}
use Rattle.net_script.specs.declared.trace_lines.TraceLine.TheVariants.{Notice, Final}
use Rattle.net_script.specs.Lines.{words}
use Rattle.net_script.specs.Events.{IsNode, IsEvent, event_words}
use Rattle.net_script.specs.Answers.{IsAnswer, view_text, answer_words}
use Rattle.net_script.specs.Spelling.{IsClean, IsCommon, IsSpelling, AreSpellings, no_words, ◌&◌, shaped, Finds}
use Rattle.net_script.specs.Laws.{literal, all_join, a_number, a_node, manager_of, a_manager, a_tx, a_floor, a_table, final_rows, a_sizes}
use Rattle.net_script.specs.Laws.{node_injective}
use Rattle.net_script.specs.Traces.{joined_words, serve_words, change_words, sent_words, spaced_words}
use Rattle.net_script.specs.TraceLines.{IsChange, IsSent, IsTraceLine, trace_line_words, trace_line_text, whole_line, is_tidy, Knows}
use Rattle.net_script.specs.TraceLines.{IsOutcome}
use Rattle.net_script.proofs.WordLemmas.{differ}
use Rattle.net_script.proofs.Arms.{HasOneText, Arm, made_of, IsSaid, arm_said, apart}
use Rattle.net_script.proofs.EventLemmas.{event_apart, event_said, answer_said}
use Rattle.net_script.proofs.MessageLemmas.{a_message}
use Rattle.net_script.proofs.TidyText.{all_clean, words_joined, tidy_joined, tidy_is_joined, lacks_head, tidy_parts, joined_arrow}
use Rattle.net_script.specs.declared.told.ToldSent.{ToldSent}
use Rattle.net_script.specs.declared.said.Heard.{Heard}
use Rattle.net_script.specs.Telling.{sent_of, TellsSent, HearsText, IsWhole}
use Rattle.std.specs.Str.{bytes_eq}
use Rattle.std.proofs.lemmas.Slice.Eq.{bytes_eq-Decides}
use Rattle.std.proofs.lemmas.List.{append_assoc, length-append, take_at, take-append-drop}
use Rattle.std.proofs.lemmas.List.Folds.{list_all-append}
use Rattle.std.proofs.Math.Seq.{drop-append_seam}
use Rattle.xid.specs.Text.{lacks}
use Rattle.xid.proofs.Texts.{first_true, both_true, list_all_join, cut_same}
use Rattle.net_script.specs.declared.trace_lines.TraceLine.{TraceLine}

-- ---- words of lines

view_injective : (v w : View) → view_text v ≡ view_text w → v ≡ w
view_injective View.Working View.Working e = refl
view_injective View.Prepared View.Prepared e = refl
view_injective View.Committed View.Committed e = refl
view_injective View.Aborted View.Aborted e = refl
view_injective v w e = absurd (differ _ _ e refl)

view_common : (v : View) → IsCommon (view_text v)
view_common View.Working = literal refl refl
view_common v = literal refl refl

a_view : IsSpelling (λ (v : View). Unit {0}) view_text
a_view = record { one = λ v w p q e. view_injective v w e; common = λ v p. view_common v }

-- a changed view
pub a_change : AreSpellings IsChange change_words
a_change =
    shaped (λ (c : Change). (manager_of c.rm, (c.tx, (c.view, tt)))) (λ said. record { rm = said.0.0; tx = said.1.0; view = said.1.1.0 })
    (λ c. refl) (λ c p. (p.rm, (p.tx, (tt, tt)))) (a_manager & a_tx & a_view & no_words)

-- a datagram
pub a_sent : AreSpellings IsSent sent_words
a_sent =
    shaped (λ (s : Sent). (s.number, (s.sender, (s.receiver, s.message))))
    (λ said. record { number = said.0; sender = said.1.0; receiver = said.1.1.0; message = said.1.1.1 }) (λ s. refl)
    (λ s p. (p.number, (p.sender, (p.receiver, p.message)))) (a_number & a_node & a_node & a_message)

-- ---- what comes after each first word

pub cluster_arm : Arm a_sizes IsTraceLine trace_line_words (codes "cluster") Cluster
cluster_arm (Cluster s) p args e = made_of s p (cc) refl
cluster_arm (Happened d a) p args e = absurd (event_apart (codes "cluster") d refl (cc))
cluster_arm line p args e = absurd (apart _ _ e refl)

pub table_arm : Arm a_table IsTraceLine trace_line_words (codes "table") Contents
table_arm (Contents t) p args e = made_of t p (cc) refl
table_arm (Happened d a) p args e = absurd (event_apart (codes "table") d refl (cc))
table_arm line p args e = absurd (apart _ _ e refl)

pub now_arm : Arm a_change IsTraceLine trace_line_words (codes "now") Changed
now_arm (Changed c) p args e = made_of c p (cc) refl
now_arm (Happened d a) p args e = absurd (event_apart (codes "now") d refl (cc))
now_arm line p args e = absurd (apart _ _ e refl)

pub sent_arm : Arm a_sent IsTraceLine trace_line_words (codes "sent") Datagram
sent_arm (Datagram s) p args e = made_of s p (cc) refl
sent_arm (Happened d a) p args e = absurd (event_apart (codes "sent") d refl (cc))
sent_arm line p args e = absurd (apart _ _ e refl)

pub told_arm : Arm (a_number & a_manager & a_node & a_floor & no_words) IsTraceLine trace_line_words (codes "told") (λ said.
    Notice (record { number = said.0; manager = said.1.0.0; receiver = said.1.1.0; floor = said.1.1.1.0 }))
told_arm (Notice n) p args e =
    made_of (n.number, (manager_of n.manager, (n.receiver, (n.floor, tt)))) (p.number, (p.manager, (p.receiver, (p.floor, tt)))) (cc) refl
told_arm (Happened d a) p args e = absurd (event_apart (codes "told") d refl (cc))
told_arm line p args e = absurd (apart _ _ e refl)

pub final_arm : Arm (a_manager & final_rows) IsTraceLine trace_line_words (codes "final") (λ said. Final said.0.0 said.1.0)
final_arm (Final rm rows) p args e = made_of (manager_of rm, record { 0 = rows }) (p.0, p.1) (cc) refl
final_arm (Happened d a) p args e = absurd (event_apart (codes "final") d refl (cc))
final_arm line p args e = absurd (apart _ _ e refl)

-- ---- what happened, and its answer

pub serve_common : (n : NodeId) → IsNode n → AllByRecursion IsCommon (serve_words n)
serve_common n is = (literal refl refl, (a_node.common n is, tt))

arrow_is_none : IsCommon (codes "->") → ⊥
arrow_is_none is = absurd (cc (is.bytes))

-- words before an arrow, and words behind it
cut_arrow : (vs ws xs ys : List (List ℕ)) → AllByRecursion IsCommon vs → AllByRecursion IsCommon ws
    → vs ++ codes "->" ∷ xs ≡ ws ++ codes "->" ∷ ys
    → (vs ≡ ws) × (xs ≡ ys)
cut_arrow [] [] xs ys p q e =
    let rest : xs ≡ ys = cc in
    (refl, rest)
cut_arrow [] (w ∷ ws) xs ys p q e =
    let same : w ≡ codes "->" = cc in
    absurd (arrow_is_none (subst IsCommon same q.0))
cut_arrow (v ∷ vs) [] xs ys p q e =
    let same : v ≡ codes "->" = cc in
    absurd (arrow_is_none (subst IsCommon same p.0))
cut_arrow (v ∷ vs) (w ∷ ws) xs ys p q e =
    let head : v ≡ w = cc in
    let tail = cut_arrow vs ws xs ys p.1 q.1 (cc) in
    let front : vs ≡ ws = tail.0 in
    (cc, tail.1)

happened_injective : (d e : Event) (a b : Answer) → IsEvent d × IsAnswer a → IsEvent e × IsAnswer b
    → event_words d ++ codes "->" ∷ answer_words a ≡ event_words e ++ codes "->" ∷ answer_words b → Happened d a ≡ Happened e b
happened_injective d e a b p q x =
    let first = event_said d p.0 in
    let cut = cut_arrow _ _ (answer_words a) (answer_words b) first.common (event_said e q.0).common x in
    let event : d ≡ e = first.one e q.0 cut.0 in
    let answer : a ≡ b = (answer_said a p.1).one b q.1 cut.1 in
    cc

served_injective : (m n : NodeId) (a b : Answer) → IsNode m × IsAnswer a → IsNode n × IsAnswer b
    → serve_words m ++ codes "->" ∷ answer_words a ≡ serve_words n ++ codes "->" ∷ answer_words b → Served m a ≡ Served n b
served_injective m n a b p q x =
    let node : m ≡ n = node_injective m n p.0 q.0 (cc) in
    let answer : a ≡ b = (answer_said a p.1).one b q.1 (cc) in
    cc

outcome_clean : (ws : List (List ℕ)) (a : Answer) → AllByRecursion IsCommon ws → IsAnswer a
    → AllByRecursion IsClean (ws ++ codes "->" ∷ answer_words a)
outcome_clean ws a are is =
    let arrow : IsClean (codes "->") = record { some = refl; bytes = refl } in
    all_join IsClean ws (codes "->" ∷ answer_words a) (all_clean ws are) (arrow, all_clean (answer_words a) (answer_said a is).common)

-- ---- lines

-- whether a line tells of an event or of a serve
abbrev is_outcome : TraceLine → Bool
is_outcome (Happened e a) = true
is_outcome (Served n a) = true
is_outcome said = false

other_said : (said : TraceLine) → is_outcome said ≡ false → IsTraceLine said → IsSaid IsTraceLine trace_line_words said
other_said (Cluster s) other p = arm_said a_sizes cluster_arm (literal refl refl) _ p _ refl
other_said (Contents t) other p = arm_said a_table table_arm (literal refl refl) _ p _ refl
other_said (Happened e a) other p = absurd (cc)
other_said (Served n a) other p = absurd (cc)
other_said (Changed c) other p = arm_said a_change now_arm (literal refl refl) _ p _ refl
other_said (Datagram s) other p = arm_said a_sent sent_arm (literal refl refl) _ p _ refl
other_said (Notice n) other p =
    arm_said (a_number & a_manager & a_node & a_floor & no_words) told_arm (literal refl refl) _ p _ refl
other_said (Final rm rows) other p = arm_said (a_manager & final_rows) final_arm (literal refl refl) _ p _ refl

pub line_injective : (a b : TraceLine) → IsTraceLine a → IsTraceLine b → trace_line_words a ≡ trace_line_words b → a ≡ b
line_injective (Happened d a) (Happened f b) p q e = happened_injective d f a b p q e
line_injective (Served m a) (Served n b) p q e = served_injective m n a b p q e
line_injective (Happened d a) (Served n b) p q e = absurd (event_apart (codes "serve") d refl (cc))
line_injective (Served m a) (Happened f b) p q e = absurd (event_apart (codes "serve") f refl (cc))
line_injective (Happened d a) b p q e = sym ((other_said b refl q).one (Happened d a) p (sym e))
line_injective (Served m a) b p q e = sym ((other_said b refl q).one (Served m a) p (sym e))
line_injective a b p q e = (other_said a refl p).one b q e

pub line_clean : (said : TraceLine) → IsTraceLine said → AllByRecursion IsClean (trace_line_words said)
line_clean (Happened e a) is = outcome_clean (event_words e) a (event_said e is.0).common is.1
line_clean (Served n a) is = outcome_clean (serve_words n) a (serve_common n is.0) is.1
line_clean said is = all_clean (trace_line_words said) (other_said said refl is).common

-- ---- the text of a line

pub some_words : (said : TraceLine) → 0 < length (trace_line_words said)
some_words (Cluster s) = omega arith
some_words said = omega arith

pub words_of_joined : (ws : List (List ℕ)) → AllByRecursion IsClean ws → words (joined_words ws) ≡ ws
words_of_joined [] are = refl
words_of_joined (w ∷ ws) are = words_joined w ws are.0 are.1

tidy_of_joined : (ws : List (List ℕ)) → 0 < length ws → AllByRecursion IsClean ws → is_tidy (joined_words ws) ≡ true
tidy_of_joined [] some are = absurd (omega arith)
tidy_of_joined (w ∷ ws) some are = tidy_joined true w ws are.0 are.1

pub line_text_words : (said : TraceLine) (line : List ℕ) → IsTraceLine said → line ≡ trace_line_text said
    → words line ≡ trace_line_words said
line_text_words said line is e = ap words e ∙ words_of_joined (trace_line_words said) (line_clean said is)

pub line_text_tidy : (said : TraceLine) (line : List ℕ) → IsTraceLine said → line ≡ trace_line_text said → is_tidy line ≡ true
line_text_tidy said line is e = ap is_tidy e ∙ tidy_of_joined (trace_line_words said) (some_words said) (line_clean said is)

pub line_text_of : (said : TraceLine) (line : List ℕ) → is_tidy line ≡ true → words line ≡ trace_line_words said
    → line ≡ trace_line_text said
line_text_of said line tidy e = sym (tidy_is_joined line tidy) ∙ ap joined_words e

pub same_front : (xs ys s : List ℕ) → xs ++ s ≡ ys ++ s → xs ≡ ys
same_front xs ys s e =
    sym (take_at xs s (length xs) refl) ∙ ap (take (length xs)) e
    ∙ take_at ys s (length xs) (omega (arith, ap length e, length-append xs s, length-append ys s))

pub lines_have_one_text : HasOneText IsTraceLine whole_line
lines_have_one_text = record {
  same = λ a b p q e.
      let same : trace_line_text a ≡ trace_line_text b = same_front (trace_line_text a) (trace_line_text b) (10 ∷ []) e in
      line_injective a b p q (sym (line_text_words a (trace_line_text a) p refl) ∙ line_text_words b (trace_line_text a) q same);
}

-- the transaction that is known where a word is one
pub known_is : (is_one : Bool) (known : Option TxParts) (word : List ℕ) (last tx : TxParts) → Knows is_one known word → is_one ≡ true
    → known ≡ Some last → tx ≡ last
    → IsTx tx × (word ≡ tx_text tx)
known_is false known word last tx is one now same = absurd (cc (one))
known_is true None word last tx is one now same = absurd (cc (now))
known_is true (Some t) word last tx is one now same =
    let these : t ≡ tx = cc in
    subst (λ (u : TxParts). IsTx u × (word ≡ tx_text u)) these is

-- what tells of an event or of a serve is a line
outcome_line : (said : TraceLine) → IsOutcome said → IsTraceLine said
outcome_line (Happened e a) is = is
outcome_line (Served n a) is = is
outcome_line said is = absurd is

-- no other line has a first word but these
pub record IsOther (word : List ℕ) : Type 0 where
  pub now : word ≡ codes "now" → ⊥
  pub final : word ≡ codes "final" → ⊥
  pub table : word ≡ codes "table" → ⊥
  pub cluster : word ≡ codes "cluster" → ⊥
  pub sent : word ≡ codes "sent" → ⊥
  pub told : word ≡ codes "told" → ⊥

outcome_of : (said : TraceLine) (rest : List (List ℕ)) (word : List ℕ) → IsOther word → IsTraceLine said
    → word ∷ rest ≡ trace_line_words said → IsOutcome said
outcome_of (Cluster s) rest word other is e = absurd (other.cluster (cc))
outcome_of (Contents t) rest word other is e = absurd (other.table (cc))
outcome_of (Happened d a) rest word other is e = is
outcome_of (Served n a) rest word other is e = is
outcome_of (Changed c) rest word other is e = absurd (other.now (cc))
outcome_of (Datagram s) rest word other is e = absurd (other.sent (cc))
outcome_of (Notice n) rest word other is e = absurd (other.told (cc))
outcome_of (Final rm rows) rest word other is e = absurd (other.final (cc))

-- so a line with another first word tells of an event or of a serve
pub said_outcomes : {given rest : List (List ℕ)} {word : List ℕ} → given ≡ word ∷ rest → IsOther word → (r : Result TraceLine Stop)
    → Finds true IsOutcome trace_line_words given r
    → Finds true IsTraceLine trace_line_words (word ∷ rest) r
said_outcomes cut other (Ok said) h = (outcome_line said h.0, sym cut ∙ h.1)
said_outcomes cut other (Err Wrong) h = λ said is e. h said (outcome_of said _ _ other is e) (cut ∙ e)
said_outcomes cut other (Err Memory) h = refl

-- ---- the words of a datagram

-- where one was, a tidy line says it
pub told_line : (known : Option TxParts) (line : List ℕ) (args : List (List ℕ)) (told : ToldSent)
    → TellsSent known args (Ok told) → is_tidy line ≡ true → words line ≡ codes "sent" ∷ args
    → HearsText known line (Ok (Heard.Datagram told))
told_line None line args told h tidy says = absurd h
told_line (Some tx) line args told h tidy says =
    let sent = Datagram (sent_of tx told) in
    (sent, refl, h.0, line_text_of sent line tidy (says ∙ ap (λ (ws : List (List ℕ)). codes "sent" ∷ ws) h.1))

-- ---- for the reader

-- a datagram that was heard is one
pub heard_whole : (known : Option TxParts) (line : List ℕ) (heard : Heard) → HearsText known line (Ok heard) → IsWhole known heard
heard_whole None line (Heard.Line said) h = tt
heard_whole (Some tx) line (Heard.Line said) h = tt
heard_whole None line (Heard.Datagram told) h = absurd h.1
heard_whole (Some tx) line (Heard.Datagram told) h = subst IsTraceLine h.1 h.2

-- ---- a text cut at an arrow's head

lacks_join : (xs ys : List ℕ) → lacks 62 xs ≡ true → lacks 62 ys ≡ true → lacks 62 (xs ++ ys) ≡ true
lacks_join xs ys p q = list_all_join (λ byte. not (eqb byte 62)) xs ys p q

-- the head is cut in one way
head_cut : (line front back f b : List ℕ) → (line ≡ front ++ 62 ∷ back) × (lacks 62 front ≡ true) → lacks 62 f ≡ true
    → line ≡ f ++ (32 ∷ 45 ∷ 62 ∷ 32 ∷ b)
    → (front ≡ f ++ 32 ∷ 45 ∷ []) × (back ≡ 32 ∷ b)
head_cut line front back f b cut none e =
    cut_same 62 front back (f ++ 32 ∷ 45 ∷ []) (32 ∷ b) cut.1 (lacks_join f (32 ∷ 45 ∷ []) none refl)
    (sym cut.0 ∙ e ∙ sym (append_assoc f (32 ∷ 45 ∷ []) (62 ∷ 32 ∷ b)))

pub suffix_fails : (line front back suffix f b : List ℕ) → (line ≡ front ++ 62 ∷ back) × (lacks 62 front ≡ true) → lacks 62 f ≡ true
    → line ≡ f ++ (32 ∷ 45 ∷ 62 ∷ 32 ∷ b)
    → suffix ≡ 32 ∷ 45 ∷ []
    → bytes_eq (drop (length front - length suffix) front) suffix ≡ false → ⊥
suffix_fails line front back suffix f b cut none e is fails =
    let same = (head_cut line front back f b cut none e).0 in
    let len : length (f ++ 32 ∷ 45 ∷ []) - 2 ≡ length f = omega (arith, length-append f (32 ∷ 45 ∷ [])) in
    absurd (cc (simp (same, is, len, drop-append_seam) at fails))

pub prefix_fails : (line front back prefix f b : List ℕ) → (line ≡ front ++ 62 ∷ back) × (lacks 62 front ≡ true) → lacks 62 f ≡ true
    → line ≡ f ++ (32 ∷ 45 ∷ 62 ∷ 32 ∷ b)
    → prefix ≡ 32 ∷ []
    → bytes_eq (take (length prefix) back) prefix ≡ false → ⊥
prefix_fails line front back prefix f b cut none e is fails =
    let same = (head_cut line front back f b cut none e).1 in
    absurd (cc (simp (same, is) at fails))

pub arrow_found : (line front back suffix prefix f b : List ℕ) → (line ≡ front ++ 62 ∷ back) × (lacks 62 front ≡ true)
    → suffix ≡ 32 ∷ 45 ∷ [] → prefix ≡ 32 ∷ []
    → (bytes_eq (drop (length front - length suffix) front) suffix ≡ true) × (f ≡ take (length front - length suffix) front)
    → (bytes_eq (take (length prefix) back) prefix ≡ true) × (b ≡ drop (length prefix) back)
    → (line ≡ f ++ (32 ∷ 45 ∷ 62 ∷ 32 ∷ b)) × (lacks 62 f ≡ true)
arrow_found line front back suffix prefix f b cut is-suffix is-prefix at-end at-front =
    let n : ℕ = length front - length suffix in
    let rest : drop n front ≡ suffix = (bytes_eq-Decides (drop n front) suffix).0 at-end.0 in
    let first : take (length prefix) back ≡ prefix = (bytes_eq-Decides (take (length prefix) back) prefix).0 at-front.0 in
    let front-is : front ≡ f ++ 32 ∷ 45 ∷ [] =
    sym (take-append-drop n front) ∙ ap (λ (l : List ℕ). take n front ++ l) (rest ∙ is-suffix)
    ∙ ap (λ (l : List ℕ). l ++ 32 ∷ 45 ∷ []) (sym at-end.1) in
    let back-is : back ≡ 32 ∷ b =
    sym (take-append-drop (length prefix) back) ∙ ap (λ (l : List ℕ). l ++ drop (length prefix) back) (first ∙ is-prefix)
    ∙ ap (λ (l : List ℕ). 32 ∷ l) (sym at-front.1) in
    let both : (lacks 62 f && lacks 62 (32 ∷ 45 ∷ [])) ≡ true =
    sym (list_all-append (λ byte. not (eqb byte 62)) f (32 ∷ 45 ∷ [])) ∙ ap (lacks 62) (sym front-is) ∙ cut.1 in
    (cut.0 ∙ (simp (front-is, back-is, append_assoc)), first_true (lacks 62 f) (lacks 62 (32 ∷ 45 ∷ [])) both)

-- ---- words on both sides of an arrow

-- words that lack a byte make a text that lacks it
spaced_lacks : {C : List ℕ → Type 0} (mark : ℕ) → not (eqb 32 mark) ≡ true → ((w : List ℕ) → C w → lacks mark w ≡ true)
    → (ws : List (List ℕ)) → AllByRecursion C ws → lacks mark (spaced_words ws) ≡ true
spaced_lacks mark other each [] are = refl
spaced_lacks mark other each (w ∷ ws) are =
    both_true (not (eqb 32 mark)) (lacks mark (w ++ spaced_words ws)) other
    (list_all_join (λ byte. not (eqb byte mark)) w (spaced_words ws) (each w are.0) (spaced_lacks mark other each ws are.1))

pub joined_lacks : {C : List ℕ → Type 0} (mark : ℕ) → not (eqb 32 mark) ≡ true → ((w : List ℕ) → C w → lacks mark w ≡ true)
    → (ws : List (List ℕ)) → AllByRecursion C ws → lacks mark (joined_words ws) ≡ true
joined_lacks mark other each [] are = refl
joined_lacks mark other each (w ∷ ws) are =
    list_all_join (λ byte. not (eqb byte mark)) w (spaced_words ws) (each w are.0) (spaced_lacks mark other each ws are.1)

-- an arrow's head is in no word but an arrow
head_lacks : (ws : List (List ℕ)) → AllByRecursion IsCommon ws → lacks 62 (joined_words ws) ≡ true
head_lacks ws are = joined_lacks 62 refl (λ w is. lacks_head w is.bytes) ws are

-- words of which there is at least one
pub record AreSome (ws : List (List ℕ)) : Type 0 where
  pub some : 0 < length ws
  pub each : AllByRecursion IsCommon ws

arrow_text : (ws vs : List (List ℕ)) → AreSome ws → AreSome vs
    → joined_words (ws ++ codes "->" ∷ vs) ≡ joined_words ws ++ (32 ∷ 45 ∷ 62 ∷ 32 ∷ joined_words vs)
arrow_text [] vs p q = let some = p.some in absurd (omega arith)
arrow_text (w ∷ ws) [] p q = let some = q.some in absurd (omega arith)
arrow_text (w ∷ ws) (v ∷ vs) p q = joined_arrow w v ws vs

arrow_clean : IsClean (codes "->")
arrow_clean = record { some = refl; bytes = refl }

-- the line is the one text of the words, and it is cut at its arrow so
line_cut : (ws vs : List (List ℕ)) (line : List ℕ) → AreSome ws → AreSome vs → is_tidy line ≡ true → words line ≡ ws ++ codes "->" ∷ vs
    → line ≡ joined_words ws ++ (32 ∷ 45 ∷ 62 ∷ 32 ∷ joined_words vs)
line_cut ws vs line p q tidy e = sym (tidy_is_joined line tidy) ∙ ap joined_words e ∙ arrow_text ws vs p q

parts_are : (ws vs : List (List ℕ)) (line front back : List ℕ) → AreSome ws × AreSome vs → is_tidy line ≡ true
    → words line ≡ ws ++ codes "->" ∷ vs
    → (line ≡ front ++ (32 ∷ 45 ∷ 62 ∷ 32 ∷ back)) × (lacks 62 front ≡ true)
    → (words front ≡ ws) × (words back ≡ vs)
parts_are ws vs line front back are tidy e cut =
    let whole = line_cut ws vs line are.0 are.1 tidy e in
    let same =
    head_cut line (front ++ 32 ∷ 45 ∷ []) (32 ∷ back) (joined_words ws) (joined_words vs)
    (cut.0 ∙ sym (append_assoc front (32 ∷ 45 ∷ []) (62 ∷ 32 ∷ back)), lacks_join front (32 ∷ 45 ∷ []) cut.1 refl)
    (head_lacks ws are.0.each) whole in
    let front-is : front ≡ joined_words ws = same_front front (joined_words ws) (32 ∷ 45 ∷ []) same.0 in
    let back-is : back ≡ joined_words vs = ap (drop 1) same.1 in
    (ap words front-is ∙ words_of_joined ws (all_clean ws are.0.each), ap words back-is ∙ words_of_joined vs (all_clean vs are.1.each))

parts_make : (ws vs : List (List ℕ)) (line front back : List ℕ) → AreSome ws × AreSome vs → is_tidy line ≡ true
    → line ≡ front ++ (32 ∷ 45 ∷ 62 ∷ 32 ∷ back) → words front ≡ ws → words back ≡ vs
    → words line ≡ ws ++ codes "->" ∷ vs
parts_make ws vs line front back are tidy cut p q =
    let tidy-parts = tidy_parts line front back tidy cut in
    let front-is : front ≡ joined_words ws = sym tidy-parts.0 ∙ ap joined_words p in
    let back-is : back ≡ joined_words vs = sym tidy-parts.1 ∙ ap joined_words q in
    let whole : line ≡ joined_words (ws ++ codes "->" ∷ vs) =
    cut ∙ (simp (front-is, back-is, arrow_text ws vs are.0 are.1)) in
    ap words whole
    ∙ words_of_joined (ws ++ codes "->" ∷ vs)
    (all_join IsClean ws (codes "->" ∷ vs) (all_clean ws are.0.each) (arrow_clean, all_clean vs are.1.each))

-- ---- what happened, and its answer

-- what tells of an event or of a serve: words, an arrow, and the words of an answer
pub record Doing (said : TraceLine) : Type 0 where
  pub happened : List (List ℕ)
  pub answer : Answer
  pub are : AreSome happened × AreSome (answer_words answer)
  pub is : IsAnswer answer
  pub parts : trace_line_words said ≡ happened ++ codes "->" ∷ answer_words answer

abbrev pub doing : (said : TraceLine) → IsOutcome said → Doing said
doing (Happened e a) p = record {
  happened = event_words e;
  answer = a;
  are = (record { some = omega arith; each = (event_said e p.0).common }, record { some = omega arith; each = (answer_said a p.1).common });
  is = p.1;
  parts = refl;
}
doing (Served n a) p = record {
  happened = serve_words n;
  answer = a;
  are = (record { some = omega arith; each = serve_common n p.0 }, record { some = omega arith; each = (answer_said a p.1).common });
  is = p.1;
  parts = refl;
}
doing said p = absurd p

-- a line with no arrow
pub arrow_fails : (line : List ℕ) → is_tidy line ≡ true
    → ((front back : List ℕ) → lacks 62 front ≡ true → line ≡ front ++ (32 ∷ 45 ∷ 62 ∷ 32 ∷ back) → ⊥)
    → (said : TraceLine) → IsOutcome said → words line ≡ trace_line_words said → ⊥
arrow_fails line tidy none said p x =
    let does = doing said p in
    none (joined_words does.happened) (joined_words (answer_words does.answer)) (head_lacks does.happened does.are.0.each)
    (line_cut does.happened (answer_words does.answer) line does.are.0 does.are.1 tidy (x ∙ does.parts))

-- the words on both sides of a line's arrow
pub outcome_parts : (line front back : List ℕ) → is_tidy line ≡ true
    → (line ≡ front ++ (32 ∷ 45 ∷ 62 ∷ 32 ∷ back)) × (lacks 62 front ≡ true)
    → (said : TraceLine) → (p : IsOutcome said) → words line ≡ trace_line_words said
    → (words front ≡ (doing said p).happened) × (words back ≡ answer_words (doing said p).answer)
outcome_parts line front back tidy cut said p x =
    let does = doing said p in
    parts_are does.happened (answer_words does.answer) line front back does.are tidy (x ∙ does.parts) cut

-- a line whose answer is none
pub answer_fails : (line front back : List ℕ) → is_tidy line ≡ true
    → (line ≡ front ++ (32 ∷ 45 ∷ 62 ∷ 32 ∷ back)) × (lacks 62 front ≡ true)
    → ((a : Answer) → IsAnswer a → words back ≡ answer_words a → ⊥)
    → (said : TraceLine) → IsOutcome said → words line ≡ trace_line_words said → ⊥
answer_fails line front back tidy cut none said p x =
    none (doing said p).answer (doing said p).is (outcome_parts line front back tidy cut said p x).1

-- a line that tells neither of a serve nor of an event
pub event_fails : (line front back : List ℕ) → is_tidy line ≡ true
    → (line ≡ front ++ (32 ∷ 45 ∷ 62 ∷ 32 ∷ back)) × (lacks 62 front ≡ true)
    → ((n : NodeId) → IsNode n → words front ≡ serve_words n → ⊥)
    → ((e : Event) → IsEvent e → words front ≡ event_words e → ⊥)
    → (said : TraceLine) → IsOutcome said → words line ≡ trace_line_words said → ⊥
event_fails line front back tidy cut no-node no-event (Happened e a) p x =
    no-event e p.0 (outcome_parts line front back tidy cut (Happened e a) p x).0
event_fails line front back tidy cut no-node no-event (Served n a) p x =
    no-node n p.0 (outcome_parts line front back tidy cut (Served n a) p x).0
event_fails line front back tidy cut no-node no-event said p x = absurd p

-- a line whose parts say so
pub outcome_told : (line front back : List ℕ) (said : TraceLine) → is_tidy line ≡ true → line ≡ front ++ (32 ∷ 45 ∷ 62 ∷ 32 ∷ back)
    → (p : IsOutcome said) → words front ≡ (doing said p).happened → words back ≡ answer_words (doing said p).answer
    → IsOutcome said × (words line ≡ trace_line_words said)
outcome_told line front back said tidy cut p happened answer =
    let does = doing said p in (
      p,
      parts_make does.happened (answer_words does.answer) line front back does.are tidy cut happened answer ∙ sym does.parts,
    )
